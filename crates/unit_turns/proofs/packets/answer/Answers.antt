use Rattle.std.proofs.Common.{refl}
use Rattle.turn_spec.specs.UnitTurns.{reply_of}
use Rattle.unit_turns.proofs.Answering.{packet_taken}
use Rattle.unit_turns.proofs.Counting.{packet_counts}
use Rattle.unit_turns.proofs.packets.answer.Goals as goal

pub returns-in-Err-clause-answers : goal.returns-in-Err-clause-answers
returns-in-Err-clause-answers g c = λ u s. (c.in-Err.ensures.images, refl)

pub returns-in-Err-send_reply-clause-answers : goal.returns-in-Err-send_reply-clause-answers
returns-in-Err-send_reply-clause-answers g c = λ u s. (
  reply_of c.in-Ok.did c.packet.new.out,
  packet_taken g.D.Disk.seen g.D.Disk.may_leave g.D.Disk.clock g.D.Disk.left_since g.D.Disk.rig
      g.D.Disk.faults c.args.agent.now c.packet.new.self c.in-Ok.did c.packet.new.out
      c.args.bytes.now u c.in-Ok.ensures.sound (c.in-Ok.ensures.received u s),
  c.in-Err-send_reply.ensures.sent,
)

pub returns-in-Ok-send_reply-clause-answers : goal.returns-in-Ok-send_reply-clause-answers
returns-in-Ok-send_reply-clause-answers g c = λ u s. (
  reply_of c.in-Ok.did c.packet.new.out,
  packet_taken g.D.Disk.seen g.D.Disk.may_leave g.D.Disk.clock g.D.Disk.left_since g.D.Disk.rig
      g.D.Disk.faults c.args.agent.now c.packet.new.self c.in-Ok.did c.packet.new.out
      c.args.bytes.now u c.in-Ok.ensures.sound (c.in-Ok.ensures.received u s),
  c.in-Ok-send_reply.ensures.sent,
)

pub returns-in-Err-clause-count : goal.returns-in-Err-clause-count
returns-in-Err-clause-count g c =
    packet_counts g.D.Disk.faults c.args.agent.now.unit.images c.packet.new.self.unit.images
    c.packet.ensures.count

pub returns-in-Err-send_reply-clause-count : goal.returns-in-Err-send_reply-clause-count
returns-in-Err-send_reply-clause-count g c =
    packet_counts g.D.Disk.faults c.args.agent.now.unit.images c.packet.new.self.unit.images
    c.packet.ensures.count

pub returns-in-Ok-send_reply-clause-count : goal.returns-in-Ok-send_reply-clause-count
returns-in-Ok-send_reply-clause-count g c =
    packet_counts g.D.Disk.faults c.args.agent.now.unit.images c.packet.new.self.unit.images
    c.packet.ensures.count
