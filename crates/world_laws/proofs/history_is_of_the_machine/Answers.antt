use Rattle.world_laws.proofs.Seen.{trace_is_seen, history_is_seen}
use Rattle.world_laws.proofs.HandingOn.{script_hands_on}
use Rattle.world_laws.proofs.history_is_of_the_machine.Goals as goal

pub returns-clause-seen : goal.returns-clause-seen
returns-clause-seen c = trace_is_seen

pub returns-clause-entries : goal.returns-clause-entries
returns-clause-entries c = history_is_seen

pub returns-clause-took : goal.returns-clause-took
returns-clause-took c = script_hands_on
