use Rattle.std.proofs.Common.{◌≤◌, ◌+◌, List, ℕ, length, drop, subst, ◌∙◌, arith}
use Rattle.class_spec.specs.Masks.{width_where}
use Rattle.mib_store.specs.Layout.{picks}
use Rattle.mib_store.proofs.Bytes.{Puts, whole_goes, written_step, put_goes, written_end}
use Rattle.mib_store.proofs.layout.with_chosen.Goals as goal

pub loop-place-preserved : goal.loop-place-preserved
loop-place-preserved c =
    let room : c.loop-place.from + width_where (picks c.args.chosen) (drop c.loop-place.place c.args.class.now.attributes) ≤ length c.args.given.now = omega (arith, c.loop-place.invariant.given, c.requires) in
    let e = c.put_if-from.ensures in
    let puts : Puts c.step_at-step.result.picked c.part.result.now c.loop-place.after c.put_if-from.new.into c.loop-place.at c.put_if-from.result = record { count = e.count; off = e.off; front = e.front; back = e.back } in
    let puts' = subst (λ (b : List ℕ). Puts c.step_at-step.result.picked b c.loop-place.after c.put_if-from.new.into c.loop-place.at c.put_if-from.result) c.part.ensures puts in
    record {
      bytes = written_step (picks c.args.chosen) c.args.class.now.attributes c.loop-place.place c.step_at-step.result c.step_at-step.ensures c.args.given.now c.loop-place.after c.put_if-from.new.into c.loop-place.at c.loop-place.from c.put_if-from.result room puts' ∙ c.loop-place.invariant.bytes;
      width = omega (arith, c.loop-place.invariant.width, whole_goes (picks c.args.chosen) c.args.class.now.attributes c.loop-place.place c.step_at-step.result c.step_at-step.ensures);
      given = omega (arith, c.loop-place.invariant.given, put_goes (picks c.args.chosen) c.args.class.now.attributes c.loop-place.place c.step_at-step.result c.step_at-step.ensures c.args.given.now c.loop-place.after c.put_if-from.new.into c.loop-place.at c.loop-place.from c.put_if-from.result room puts');
    }

pub returns : goal.returns
returns c =
    let all : length c.args.class.now.attributes ≤ c.loop-place.place = omega arith in
    written_end (picks c.args.chosen) c.args.class.now.attributes c.loop-place.place c.loop-place.at c.loop-place.after _ _ all c.loop-place.invariant.bytes
