use Rattle.unit_spec.specs.Noticing.{onu_sensed}
use Rattle.link_replay.proofs.Units.{sensed_apart}
use Rattle.link_replay.proofs.Powers.{noticed_there}
use Rattle.link_replay.proofs.machine.Machine.sense.Goals as goal

pub returns : goal.returns
returns c = record {
  follows = noticed_there (onu_sensed c.args.entity c.args.number c.args.value.now) _ c.args.self.now c.tell_noticed.new.self c.in-Some.agent c.sense.new.self c.in_ok-noticed.noticed c.sense.new.out c.args.out.now c.tell_noticed.new.out
      c.self.view_is c.in-Some.is c.in_ok-noticed.ensures.sound c.sense.ensures.images (sensed_apart c.args.entity c.args.number c.args.value.now) c.in_ok-noticed.ensures.sensed c.in_ok-tell_noticed.ensures.machine c.in_ok-tell_noticed.ensures.lines;
}
