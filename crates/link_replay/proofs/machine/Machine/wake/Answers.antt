use Rattle.std.proofs.Common.{refl}
use Rattle.link_replay.proofs.Powers.{woken_there, emptied}
use Rattle.link_replay.proofs.machine.Machine.wake.Goals as goal

pub returns : goal.returns
returns c = record {
  follows = λ e s off. woken_there c.args.boot c.args.self.now c.args.self.now c.start_agent.new.self _ c.args.out.now c.start_line.new.out e s refl off c.in_ok-start_agent.ensures.woken (emptied _ c.start_agent.new.self c.empty.new.self c.self.view_is c.empty.ensures.lanes) c.in_ok-start_line.ensures.line;
}
