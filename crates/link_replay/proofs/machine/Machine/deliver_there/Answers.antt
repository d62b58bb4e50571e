use Rattle.link_replay.proofs.Flows.{delivered_on_link}
use Rattle.link_replay.proofs.machine.Machine.deliver_there.Goals as goal

pub returns : goal.returns
returns c =
    record { follows = delivered_on_link c.args.number c.args.self.now c.deliver.new.self c.args.out.now c.deliver.new.out c.in_ok-deliver.ensures.follows }
