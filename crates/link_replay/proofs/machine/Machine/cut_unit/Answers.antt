use Rattle.std.proofs.Common.{refl, sym}
use Rattle.link_replay.proofs.Deliveries.{on_here}
use Rattle.link_replay.proofs.Powers.{cut_there, on_seen}
use Rattle.link_replay.proofs.machine.Machine.cut_unit.Goals as goal

pub returns : goal.returns
returns c = record {
  follows = cut_there c.args.self.now c.args.self.now c.stop_unit.new.self c.args.out.now refl (on_seen _ c.args.self.now c.self.view_is (on_here c.self.inside.agent c.is_none.result (sym c.is_none.ensures) c.if-is_none.false)) c.stop_unit.ensures.off c.stop_unit.ensures.held;
}
