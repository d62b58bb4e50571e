use Rattle.std.proofs.Common.{refl, sym, ◌∙◌}
use Rattle.link_replay.proofs.Deliveries.{none_there}
use Rattle.link_replay.proofs.Powers.{starts_there, off_seen}
use Rattle.link_replay.proofs.machine.Machine.start_unit.Goals as goal

pub returns : goal.returns
returns c = record {
  follows = starts_there c.args.self.now c.args.self.now c.wake.new.self c.args.out.now c.wake.new.out refl (off_seen _ c.args.self.now c.self.view_is (none_there c.self.inside.agent (sym c.is_some.ensures ∙ c.if-is_some.false))) c.in_ok-wake.ensures.follows;
}
