use Rattle.std.proofs.Common.{sym, ◌∙◌}
use Rattle.link_replay.proofs.Powers.{cut_amid_there, placed, put_back}
use Rattle.link_replay.proofs.machine.Machine.cut_amid.Goals as goal

pub returns-clause-stands : goal.returns-clause-stands
returns-clause-stands c =
    cut_amid_there c.args.call c.args.pick _ c.args.self.now _ c.in-Some.agent c.rig.new.self c.packet.new.self c.in_ok-packet.field-0 c.packet.new.out c.args.bytes.now c.stop-disk.result
    c.self.view_is (sym c.take.ensures.value ∙ c.in-Some.is) c.rig.ensures.stands c.rig.ensures.trap c.in_ok-packet.ensures.received c.stop-disk.ensures.disk
    (placed c.self.inside.event c.self.inside.lives c.self.inside.length _ c.self.inside.link c.take.new.self c.disarm.new.self _ c.take.ensures.after (put_back c.stop-disk.result c.restore.new.self c.disarm.new.self c.restore.ensures.state c.disarm.ensures.state))
