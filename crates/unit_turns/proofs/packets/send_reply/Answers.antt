use Rattle.std.proofs.Common.{ap}
use Rattle.unit_spec.specs.declared.Did.{Did}
use Rattle.turn_spec.specs.UnitTurns.{reply_of}
use Rattle.unit_turns.proofs.Answering.{sends_nothing, sends_reply}
use Rattle.unit_turns.proofs.packets.send_reply.Goals as goal

pub returns-in-Dropped-clause-sent : goal.returns-in-Dropped-clause-sent
returns-in-Dropped-clause-sent g c =
    sends_nothing c.args.did c.args.reply.now (g.L.Link.sent c.args.link.now)
    (ap (λ (d : Did). reply_of d c.args.reply.now) c.in-Dropped.is)

pub returns-in-Held-clause-sent : goal.returns-in-Held-clause-sent
returns-in-Held-clause-sent g c =
    sends_nothing c.args.did c.args.reply.now (g.L.Link.sent c.args.link.now)
    (ap (λ (d : Did). reply_of d c.args.reply.now) c.in-Held.is)

pub returns-in-Kept-clause-sent : goal.returns-in-Kept-clause-sent
returns-in-Kept-clause-sent g c =
    sends_reply c.send.result c.args.did c.args.reply.now c.bytes.result.now
    (g.L.Link.sent c.args.link.now) (g.L.Link.sent c.send.new.self)
    (ap (λ (d : Did). reply_of d c.args.reply.now) c.in-Kept.is) c.bytes.ensures.value
    c.send.ensures.sent

pub returns-in-Carried-clause-sent : goal.returns-in-Carried-clause-sent
returns-in-Carried-clause-sent g c =
    sends_reply c.send-in-Carried.result c.args.did c.args.reply.now c.bytes-in-Carried.result.now
    (g.L.Link.sent c.args.link.now) (g.L.Link.sent c.send-in-Carried.new.self)
    (ap (λ (d : Did). reply_of d c.args.reply.now) c.in-Carried.is) c.bytes-in-Carried.ensures.value
    c.send-in-Carried.ensures.sent
