use Rattle.link_spec.specs.declared.Direction.TheVariants.{Down, Up}
use Rattle.link_lanes.proofs.Steps.{known_within, pass_skips}
use Rattle.link_lanes.proofs.lanes.Lanes.pass.Goals as goal

pub refreshed-self-inside-requires-clause-within : goal.refreshed-self-inside-requires-clause-within
refreshed-self-inside-requires-clause-within c =
    known_within Down c.self.inside.latest c.self.inside.ways c.self.inside.fresh_down c.sent-sent.result c.self.invariant.down c.self.invariant.sent c.sent-sent.ensures.value

pub refreshed-self-inside-requires-clause-skips : goal.refreshed-self-inside-requires-clause-skips
refreshed-self-inside-requires-clause-skips c =
    pass_skips Down c.args.number c.in-Some.tag c.self.inside.latest c.self.inside.ways c.pass.new.self c.args.self.now c.self.inside.fresh_down c.sent-sent.result
    c.self.view_is c.self.invariant.down c.self.invariant.sent c.sent-sent.ensures.value c.in-Some.ensures.past c.pass.ensures.value

pub refreshed-self-inside-requires-in-Some-clause-within : goal.refreshed-self-inside-requires-in-Some-clause-within
refreshed-self-inside-requires-in-Some-clause-within c =
    known_within Up c.self.inside.latest c.self.inside.ways c.self.inside.fresh_up c.sent-sent.result c.self.invariant.up c.self.invariant.sent c.sent-sent.ensures.value

pub refreshed-self-inside-requires-in-Some-clause-skips : goal.refreshed-self-inside-requires-in-Some-clause-skips
refreshed-self-inside-requires-in-Some-clause-skips c =
    pass_skips Up c.args.number c.in-Some.tag c.self.inside.latest c.self.inside.ways c.pass.new.self c.args.self.now c.self.inside.fresh_up c.sent-sent.result
    c.self.view_is c.self.invariant.up c.self.invariant.sent c.sent-sent.ensures.value c.in-Some.ensures.past c.pass.ensures.value
