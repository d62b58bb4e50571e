use Rattle.std.proofs.Common.{refl, sym, ◌∙◌}
use Rattle.onu_agent.proofs.Asked.{read_window}
use Rattle.onu_agent.proofs.Coming.{no_frame, read_as}
use Rattle.onu_agent.proofs.unit.Unit.packet.Goals as goal

pub message-requires : goal.message-requires
message-requires g c = record { window = read_window c.in-Some.frame c.read_message.result c.in-Some.ensures.exact.0 c.read_message.ensures.value }

pub returns-in-None-clause-received : goal.returns-in-None-clause-received
returns-in-None-clause-received g c = λ u s. no_frame g.D.Disk.seen g.D.Disk.may_leave g.D.Disk.clock g.D.Disk.left_since g.D.Disk.rig g.D.Disk.faults g.met.D.Disk.rig_reads g.met.D.Disk.cut_counts g.met.D.Disk.only_now _ _ _ _ c.args.bytes.now u s (sym c.packet_frame.ensures.value ∙ c.in-None.is) refl c.drop_packet.ensures.dropped c.drop_packet.ensures.empty

pub returns-in-Some-clause-received : goal.returns-in-Some-clause-received
returns-in-Some-clause-received g c = λ u s. read_as g.D.Disk.seen g.D.Disk.may_leave g.D.Disk.clock g.D.Disk.left_since g.D.Disk.rig g.D.Disk.faults _ _ c.message.result _ c.args.bytes.now c.in-Some.frame c.read_message.result u (sym c.packet_frame.ensures.value ∙ c.in-Some.is) c.read_message.ensures.value (c.message.ensures.came u s)
