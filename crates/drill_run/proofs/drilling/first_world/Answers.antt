use Rattle.std.proofs.Common.{sym, subst}
use Rattle.script_spec.specs.Script.{Header, IsHeader}
use Rattle.world_spec.specs.Nodes.{first_nodes}
use Rattle.link_replay.specs.Seen.{WorldStands}
use Rattle.drill_run.proofs.Lines.{header_fits}
use Rattle.drill_run.proofs.drilling.first_world.Goals as goal

pub new-requires : goal.new-requires
new-requires c = record { ranges = subst IsHeader (sym c.in_ok-header.ensures.value) header_fits }
