use Rattle.std.proofs.Common.{◌≡◌, length, refl, ◌∙◌, arith}
use Rattle.std.proofs.lemmas.Result.{err_from_is_err_and}
use Rattle.olt_seat.proofs.Sending.{sent_begins, sent_one, sent_part, sent_all}
use Rattle.olt_seat.proofs.seat.Seat.send_all.Goals as goal

pub loop-place-init : goal.loop-place-init
loop-place-init g c = (
  sent_begins c.args.self.now c.args.packets.now c.args.lines.now (g.L.Link.sent c.args.link.now),
  refl,
  refl,
)

pub loop-place-preserved : goal.loop-place-preserved
loop-place-preserved g c = (
  sent_one c.args.self.now c.loop-place.self c.send.new.self c.args.packets.now c.loop-place.place c.get.result.now c.args.lines.now c.loop-place.lines c.send.new.lines
      (g.L.Link.sent c.args.link.now) (g.L.Link.sent c.loop-place.link) (g.L.Link.sent c.send.new.link)
      c.loop-place.invariant.0 c.get.ensures.value c.in_ok-send.ensures.seat c.in_ok-send.ensures.lines c.in_ok-send.ensures.sent,
  c.send.ensures.left ∙ c.loop-place.invariant.1,
  c.in_ok-send.ensures.kept ∙ c.loop-place.invariant.2,
)

pub returns-in_err-send-clause-part : goal.returns-in_err-send-clause-part
returns-in_err-send-clause-part g c =
    let p = err_from_is_err_and c.from_residual.result c.from_residual.ensures.1 in
    rw p.1
    (sent_part c.args.self.now c.loop-place.self c.args.packets.now c.loop-place.place c.get.result.now c.args.lines.now c.loop-place.lines
    (g.L.Link.sent c.args.link.now) (g.L.Link.sent c.loop-place.link) (g.L.Link.sent c.send.new.link)
    c.loop-place.invariant.0 c.get.ensures.value c.in_err-send.ensures.part)

pub returns-clause-seat : goal.returns-clause-seat
returns-clause-seat g c =
    let end : c.loop-place.place ≡ length c.args.packets.now = omega (arith, c.len-place-end.ensures.value, c.loop-place-test.false, c.loop-place.auto.place-end) in
    (sent_all c.args.self.now c.loop-place.self c.args.packets.now c.loop-place.place c.args.lines.now c.loop-place.lines
    (g.L.Link.sent c.args.link.now) (g.L.Link.sent c.loop-place.link) c.loop-place.invariant.0 end).seat

pub returns-clause-lines : goal.returns-clause-lines
returns-clause-lines g c =
    let end : c.loop-place.place ≡ length c.args.packets.now = omega (arith, c.len-place-end.ensures.value, c.loop-place-test.false, c.loop-place.auto.place-end) in
    (sent_all c.args.self.now c.loop-place.self c.args.packets.now c.loop-place.place c.args.lines.now c.loop-place.lines
    (g.L.Link.sent c.args.link.now) (g.L.Link.sent c.loop-place.link) c.loop-place.invariant.0 end).lines

pub returns-clause-sent : goal.returns-clause-sent
returns-clause-sent g c =
    let end : c.loop-place.place ≡ length c.args.packets.now = omega (arith, c.len-place-end.ensures.value, c.loop-place-test.false, c.loop-place.auto.place-end) in
    (sent_all c.args.self.now c.loop-place.self c.args.packets.now c.loop-place.place c.args.lines.now c.loop-place.lines
    (g.L.Link.sent c.args.link.now) (g.L.Link.sent c.loop-place.link) c.loop-place.invariant.0 end).sent
