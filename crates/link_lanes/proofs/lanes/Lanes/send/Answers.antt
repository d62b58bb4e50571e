use Rattle.std.proofs.Common.{◌≡◌, ap, sym, ◌∙◌}
use Rattle.link_spec.specs.declared.Direction.TheVariants.{Down, Up}
use Rattle.link_spec.specs.Link.{Sent, direction_if}
use Rattle.link_spec.specs.Held.{Held, held_sent}
use Rattle.link_lanes.proofs.Steps.{send_within, send_skips, send_view, held_of-count}
use Rattle.link_lanes.proofs.lanes.Lanes.send.Goals as goal

pub refreshed-self-inside-requires-clause-within : goal.refreshed-self-inside-requires-clause-within
refreshed-self-inside-requires-clause-within c =
    let s : Sent = record { direction = c.direction_if.result; bytes = c.bytes.result.now } in
    send_within Down s c.self.inside.latest c.push.new.self c.self.inside.ways c.self.inside.fresh_down c.sent-number.result c.self.invariant.down c.self.invariant.sent
    c.sent-number.ensures.value c.push.ensures.value

pub refreshed-self-inside-requires-clause-skips : goal.refreshed-self-inside-requires-clause-skips
refreshed-self-inside-requires-clause-skips c =
    let s : Sent = record { direction = c.direction_if.result; bytes = c.bytes.result.now } in
    send_skips Down s c.self.inside.latest c.push.new.self c.self.inside.ways c.self.inside.fresh_down c.sent-number.result c.self.invariant.down c.self.invariant.sent
    c.sent-number.ensures.value c.push.ensures.value

pub refreshed-self-inside-requires-2-clause-within : goal.refreshed-self-inside-requires-2-clause-within
refreshed-self-inside-requires-2-clause-within c =
    let s : Sent = record { direction = c.direction_if.result; bytes = c.bytes.result.now } in
    send_within Up s c.self.inside.latest c.push.new.self c.self.inside.ways c.self.inside.fresh_up c.sent-number.result c.self.invariant.up c.self.invariant.sent
    c.sent-number.ensures.value c.push.ensures.value

pub refreshed-self-inside-requires-2-clause-skips : goal.refreshed-self-inside-requires-2-clause-skips
refreshed-self-inside-requires-2-clause-skips c =
    let s : Sent = record { direction = c.direction_if.result; bytes = c.bytes.result.now } in
    send_skips Up s c.self.inside.latest c.push.new.self c.self.inside.ways c.self.inside.fresh_up c.sent-number.result c.self.invariant.up c.self.invariant.sent
    c.sent-number.ensures.value c.push.ensures.value

pub returns-clause-lanes : goal.returns-clause-lanes
returns-clause-lanes c =
    let s : Sent = record { direction = c.direction_if.result; bytes = c.bytes.result.now } in
    let t : Sent = record { direction = direction_if c.args.down; bytes = c.args.packet.now } in
    let same : s ≡ t = (λ i. record { direction = c.direction_if.ensures.value i; bytes = c.bytes.ensures.value i }) in
    let lanes = send_view s c.self.inside.latest c.push.new.self c.self.inside.ways c.args.self.now c.self.view_is c.push.ensures.value
    ∙ ap (λ (p : Sent). held_sent p c.args.self.now) same in
    lanes

pub returns-clause-stands : goal.returns-clause-stands
returns-clause-stands c = λ l e.
    let s : Sent = record { direction = c.direction_if.result; bytes = c.bytes.result.now } in
    let t : Sent = record { direction = direction_if c.args.down; bytes = c.args.packet.now } in
    let same : s ≡ t = (λ i. record { direction = c.direction_if.ensures.value i; bytes = c.bytes.ensures.value i }) in
    let lanes = send_view s c.self.inside.latest c.push.new.self c.self.inside.ways c.args.self.now c.self.view_is c.push.ensures.value
    ∙ ap (λ (p : Sent). held_sent p c.args.self.now) same in (
      c.sent-number.ensures.value ∙ ap (λ (h : Held). h.count) (c.self.view_is ∙ e) ∙ held_of-count l,
      lanes ∙ ap (λ (h : Held). held_sent t h) e ∙ sym (c.held_follows_the_link.ensures.sent t l),
    )
