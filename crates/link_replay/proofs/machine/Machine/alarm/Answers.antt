use Rattle.unit_spec.specs.Noticing.{onu_alarmed}
use Rattle.link_replay.proofs.Units.{alarmed_apart}
use Rattle.link_replay.proofs.Powers.{noticed_there}
use Rattle.link_replay.proofs.machine.Machine.alarm.Goals as goal

pub returns : goal.returns
returns c = record {
  follows = noticed_there (onu_alarmed c.args.entity c.args.bitmap) _ c.args.self.now c.tell_noticed.new.self c.in-Some.agent c.alarm.new.self c.in_ok-noticed.noticed c.alarm.new.out c.args.out.now c.tell_noticed.new.out
      c.self.view_is c.in-Some.is c.in_ok-noticed.ensures.sound c.alarm.ensures.images (alarmed_apart c.args.entity c.args.bitmap) c.in_ok-noticed.ensures.alarmed c.in_ok-tell_noticed.ensures.machine c.in_ok-tell_noticed.ensures.lines;
}
