use Rattle.link_replay.proofs.Seconds.{both_ticked}
use Rattle.link_replay.proofs.machine.Machine.second.Goals as goal

pub returns : goal.returns
returns c = record {
  follows = both_ticked c.args.self.now c.tick_manager.new.self c.tick_unit.new.self c.args.out.now c.tick_manager.new.out c.tick_unit.new.out c.in_ok-tick_manager.ensures.follows c.in_ok-tick_unit.ensures.follows;
}
