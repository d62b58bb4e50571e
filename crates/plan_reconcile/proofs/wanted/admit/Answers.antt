use Rattle.std.proofs.Common.{◌≤◌, ◌∙◌, sym, ℕ, ◌-◌, arith, length, replicate, refl}
use Rattle.std.proofs.lemmas.Bool.Decides.{nat_tests}
use Rattle.std.proofs.lemmas.List.{length-append, length-replicate}
use Rattle.class_spec.specs.Masks.{width_of}
use Rattle.plan_spec.specs.declared.WantedFault.TheVariants as wanted
use Rattle.plan_reconcile.specs.Items.{wanted_of, IsWantable}
use Rattle.plan_reconcile.proofs.Wanting.{class_fault, mask_fault, width_fault, repeated_fault, no_fault, writable, not_writable_le, width_le, of_row}
use Rattle.plan_reconcile.proofs.wanted.admit.Goals as goal

pub returns-in_default-clause-fault : goal.returns-in_default-clause-fault
returns-in_default-clause-fault c = record { first = wanted.ClassUnknown; is = class_fault c.args.entity c.args.mask.0 c.args.values.now (wanted_of c.args.items.now) c.in_default.ensures; same = refl }

pub sum-not_writable-requires : goal.sum-not_writable-requires
sum-not_writable-requires c =
    let r : IsWantable c.args.entity.class c.in-Some.class = c.in-Some.ensures in
    omega (arith, not_writable_le c.in-Some.class c.args.mask.0 r.rule, c.select-selection.ensures.unknown, c.select-selection.ensures.fixed)

pub returns-then-not_writable-ne0-clause-fault : goal.returns-then-not_writable-ne0-clause-fault
returns-then-not_writable-ne0-clause-fault c =
    let r : IsWantable c.args.entity.class c.in-Some.class = c.in-Some.ensures in
    let n : ℕ = c.sum-not_writable.result in
    record { first = wanted.NotWritable n; is = mask_fault c.args.entity c.args.mask.0 c.args.values.now (wanted_of c.args.items.now) c.in-Some.class r.is r.wantable n (omega (arith, c.sum-not_writable.ensures, c.select-selection.ensures.unknown, c.select-selection.ensures.fixed)) (omega (arith, c.if-not_writable-ne0.true)); same = refl }

pub returns-then-values-selection-clause-fault : goal.returns-then-values-selection-clause-fault
returns-then-values-selection-clause-fault c =
    let r : IsWantable c.args.entity.class c.in-Some.class = c.in-Some.ensures in
    let good = writable c.args.entity c.args.mask.0 c.args.values.now (wanted_of c.args.items.now) c.in-Some.class r.is r.wantable c.sum-not_writable.result (omega (arith, c.sum-not_writable.ensures, c.select-selection.ensures.unknown, c.select-selection.ensures.fixed)) c.if-not_writable-ne0.false in
    let differ = c.if-values-selection.true in
    record {
      first = wanted.Width c.select-selection.result.width (length c.args.values.now);
      is = width_fault c.args.entity c.args.mask.0 c.args.values.now (wanted_of c.args.items.now) c.in-Some.class r.is r.wantable good c.select-selection.result.width c.select-selection.ensures.width (grind (arith, nat_tests, differ));
      same = refl;
    }

pub returns-in-Ok-clause-fault : goal.returns-in-Ok-clause-fault
returns-in-Ok-clause-fault c =
    let r : IsWantable c.args.entity.class c.in-Some.class = c.in-Some.ensures in
    let good = writable c.args.entity c.args.mask.0 c.args.values.now (wanted_of c.args.items.now) c.in-Some.class r.is r.wantable c.sum-not_writable.result (omega (arith, c.sum-not_writable.ensures, c.select-selection.ensures.unknown, c.select-selection.ensures.fixed)) c.if-not_writable-ne0.false in
    let wide = c.if-values-selection.false ∙ c.select-selection.ensures.width ∙ sym (of_row width_of c.args.entity.class c.args.mask.0 c.in-Some.class r.is) in
    record {
      first = wanted.Repeated;
      is = repeated_fault c.args.entity c.args.mask.0 c.args.values.now (wanted_of c.args.items.now) c.in-Some.class r.is r.wantable good wide _ c.in-Ok.ensures.found.is_wanted;
      same = refl;
    }

pub returns-in-Err-clause-admitted : goal.returns-in-Err-clause-admitted
returns-in-Err-clause-admitted c =
    let r : IsWantable c.args.entity.class c.in-Some.class = c.in-Some.ensures in
    let good = writable c.args.entity c.args.mask.0 c.args.values.now (wanted_of c.args.items.now) c.in-Some.class r.is r.wantable c.sum-not_writable.result (omega (arith, c.sum-not_writable.ensures, c.select-selection.ensures.unknown, c.select-selection.ensures.fixed)) c.if-not_writable-ne0.false in
    let wide = c.if-values-selection.false ∙ c.select-selection.ensures.width ∙ sym (of_row width_of c.args.entity.class c.args.mask.0 c.in-Some.class r.is) in
    let short : length c.args.values.now ≤ 45 = omega (arith, c.if-values-selection.false, c.select-selection.ensures.width, width_le c.in-Some.class c.args.mask.0 r.rule) in
    record {
      good = no_fault c.args.entity c.args.mask.0 c.args.values.now (wanted_of c.args.items.now) c.in-Some.class r.is r.wantable good wide c.in-Err.ensures.absent.not_wanted;
      gap = c.in-Err.ensures.absent;
      item = record { wantable = r.wantable; writable = good; whole = omega (arith, length-append c.args.values.now (replicate (45 - length c.args.values.now) 0), length-replicate {A = ℕ} (45 - length c.args.values.now) 0, short) };
      short = short;
      same = wide;
    }
