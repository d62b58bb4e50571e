use Rattle.std.proofs.Common.{◌≡◌, ap, ◌∙◌}
use Rattle.link_spec.specs.Held.{Held, held_fresh}
use Rattle.link_lanes.specs.Fresh.{sooner, if_on}
use Rattle.link_lanes.proofs.Steps.{fresh_both}
use Rattle.link_lanes.proofs.lanes.Lanes.fresh.Goals as goal

value : (c : goal.After-sooner) → c.sooner.result ≡ held_fresh c.args.unit_on c.args.olt_on c.args.self.now
value c =
    let down = c.if_on.ensures.value ∙ ap (if_on c.args.unit_on) c.self.invariant.down in
    let up = c.if_on-2.ensures.value ∙ ap (if_on c.args.olt_on) c.self.invariant.up in
    c.sooner.ensures.value ∙ (λ i. sooner (down i) (up i))
    ∙ fresh_both c.args.unit_on c.args.olt_on c.self.inside.latest c.self.inside.ways c.args.self.now c.self.view_is

pub returns-clause-value : goal.returns-clause-value
returns-clause-value c = value c

pub returns-clause-stands : goal.returns-clause-stands
returns-clause-stands c = λ l e.
    value c ∙ ap (λ (h : Held). held_fresh c.args.unit_on c.args.olt_on h) e
    ∙ c.held_answers_for_the_link.ensures.fresh c.args.unit_on c.args.olt_on l
