use Rattle.link_replay.proofs.Powers.{got_there}
use Rattle.link_replay.proofs.machine.Machine.to_unit.Goals as goal

pub returns : goal.returns
returns c = record {
  follows = got_there _ c.args.self.now c.tell_did.new.self c.in-Some.agent c.packet.new.self c.in_ok-did.did c.packet.new.out c.args.bytes.now c.args.out.now c.tell_did.new.out
      c.self.view_is c.in-Some.is c.in_ok-did.ensures.sound c.in_ok-did.ensures.received c.in_ok-tell_did.ensures.machine c.in_ok-tell_did.ensures.lines;
}
