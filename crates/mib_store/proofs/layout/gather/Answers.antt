use Rattle.std.proofs.Common.{◌≤◌, ◌+◌, List, ℕ, length, drop, subst, ◌∙◌, arith}
use Rattle.class_spec.specs.Masks.{width_where}
use Rattle.entity_classes.specs.Rule.{whole_width}
use Rattle.mib_store.specs.Layout.{picks}
use Rattle.mib_store.proofs.Bytes.{Puts, whole_goes, gathered_step, gathered_width, gathered_rest, gathered_end}
use Rattle.mib_store.proofs.layout.gather.Goals as goal

pub loop-place-preserved : goal.loop-place-preserved
loop-place-preserved c =
    let room : c.loop-place.from + whole_width (drop c.loop-place.place c.args.class.now.attributes) ≤ length c.args.values.now = omega (arith, c.loop-place.invariant.read, c.count-place-end.ensures.rule.whole, c.told-values) in
    let small : c.loop-place.to + width_where (picks c.args.chosen) (drop c.loop-place.place c.args.class.now.attributes) ≤ 25 = omega (arith, c.loop-place.invariant.width, c.requires) in
    let e = c.put_if-to.ensures in
    let puts : Puts c.step_at-step.result.picked c.part.result.now c.loop-place.into c.put_if-to.new.into c.loop-place.to c.put_if-to.result = record { count = e.count; off = e.off; front = e.front; back = e.back } in
    let puts' = subst (λ (b : List ℕ). Puts c.step_at-step.result.picked b c.loop-place.into c.put_if-to.new.into c.loop-place.to c.put_if-to.result) c.part.ensures puts in
    record {
      bytes = gathered_step (picks c.args.chosen) c.args.class.now.attributes c.loop-place.place c.step_at-step.result c.step_at-step.ensures c.args.values.now c.loop-place.into c.put_if-to.new.into c.loop-place.to c.loop-place.from c.put_if-to.result room puts' ∙ c.loop-place.invariant.bytes;
      wide = omega (arith, c.loop-place.invariant.wide, c.put_if-to.auto.into);
      rest = gathered_rest (picks c.args.chosen) c.args.class.now.attributes c.loop-place.place c.step_at-step.result c.step_at-step.ensures c.args.values.now c.loop-place.into c.put_if-to.new.into c.loop-place.to c.loop-place.from c.put_if-to.result room puts' small c.loop-place.invariant.rest;
      width = omega (arith, c.loop-place.invariant.width, gathered_width (picks c.args.chosen) c.args.class.now.attributes c.loop-place.place c.step_at-step.result c.step_at-step.ensures c.args.values.now c.loop-place.into c.put_if-to.new.into c.loop-place.to c.loop-place.from c.put_if-to.result room puts');
      read = omega (arith, c.loop-place.invariant.read, whole_goes (picks c.args.chosen) c.args.class.now.attributes c.loop-place.place c.step_at-step.result c.step_at-step.ensures);
    }

pub returns : goal.returns
returns c =
    let all : length c.args.class.now.attributes ≤ c.loop-place.place = omega arith in
    let total : c.loop-place.to + width_where (picks c.args.chosen) (drop c.loop-place.place c.args.class.now.attributes) ≤ 25 = omega (arith, c.loop-place.invariant.width, c.requires) in
    let small : c.loop-place.to ≤ 25 = omega (arith, total) in
    gathered_end (picks c.args.chosen) c.args.class.now.attributes c.loop-place.place c.loop-place.to c.loop-place.into _ _ all c.loop-place.invariant.wide small c.loop-place.invariant.bytes c.loop-place.invariant.rest
