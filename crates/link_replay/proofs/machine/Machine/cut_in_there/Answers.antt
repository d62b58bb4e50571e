use Rattle.link_replay.proofs.Flows.{cut_on_link}
use Rattle.link_replay.proofs.machine.Machine.cut_in_there.Goals as goal

pub returns : goal.returns
returns c = record {
  follows = cut_on_link c.args.call c.args.pick c.args.number c.args.self.now c.cut_in.new.self c.args.out.now c.cut_in.new.out c.in_ok-cut_in.ensures.follows;
}
