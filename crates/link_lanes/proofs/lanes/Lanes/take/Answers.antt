use Rattle.std.proofs.Common.{◌-◌, option_map, ap, sym, ◌∙◌, arith}
use Rattle.std.proofs.lemmas.Option.{slice_get_within}
use Rattle.link_spec.specs.Link.{Sent}
use Rattle.link_lanes.proofs.Steps.{comes, first_same, there_is}
use Rattle.link_lanes.proofs.lanes.Lanes.take.Goals as goal

pub overflow_sub-place : goal.overflow_sub-place
overflow_sub-place c =
    let m = comes c.args.number c.args.self.now (sym c.pass.ensures.allowed ∙ c.if-not-pass.false) in
    let first = first_same c.args.number c.self.inside.latest c.self.inside.ways c.args.self.now c.pass.new.self c.self.view_is c.pass.ensures.lanes in
    omega (arith, m.first, c.first.ensures.value)

pub copy-requires : goal.copy-requires
copy-requires c =
    let m = comes c.args.number c.args.self.now (sym c.pass.ensures.allowed ∙ c.if-not-pass.false) in
    slice_get_within c.self.inside.latest.last (c.args.number - c.first.result) m.packet
    (there_is c.args.number c.first.result c.self.inside.latest c.self.inside.ways c.args.self.now c.pass.new.self c.self.view_is c.pass.ensures.lanes c.first.ensures.value m)

pub returns-clause-packet : goal.returns-clause-packet
returns-clause-packet c = λ _.
    let m = comes c.args.number c.args.self.now (sym c.pass.ensures.allowed ∙ c.if-not-pass.false) in
    let there = there_is c.args.number c.first.result c.self.inside.latest c.self.inside.ways c.args.self.now c.pass.new.self c.self.view_is c.pass.ensures.lanes c.first.ensures.value m in
    sym c.copy.ensures.value ∙ ap (option_map (λ (s : Sent). s.bytes)) (there ∙ sym m.allowed)
