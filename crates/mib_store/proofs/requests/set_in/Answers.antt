use Rattle.std.proofs.Common.{◌≤◌, ◌<◌, length, refl, sym, ap, ◌∙◌, arith}
use Rattle.std.specs.Prelude.{◌==◌, ◌&&◌}
use Rattle.class_spec.specs.Masks.{unknown_mask, width_of}
use Rattle.mib_spec.specs.Database.{with_values}
use Rattle.mib_store.specs.Entries.{database_of, values_in}
use Rattle.mib_store.proofs.Places.{values_at}
use Rattle.mib_store.proofs.Codes.{set_attributes, set_wide, set_stores}
use Rattle.mib_store.proofs.Effects.{set_code_is, set_no_unsupported, set_no_failed, set_unsupported, set_failed, set_kept, set_changed, set_settled, stored_in}
use Rattle.mib_store.proofs.requests.set_in.Goals as goal

pub returns-in-Err-clause-code : goal.returns-in-Err-clause-code
returns-in-Err-clause-code c = set_code_is c.args.entity c.args.mask.0 c.args.values.now (database_of c.args.table.now) c.in-Err.code.0 (c.in-Err.ensures.refused.set c.args.mask.0 c.args.values.now)

pub returns-in-Err-clause-unsupported : goal.returns-in-Err-clause-unsupported
returns-in-Err-clause-unsupported c = set_no_unsupported c.args.entity c.args.mask.0 c.args.values.now (database_of c.args.table.now) c.in-Err.code.0 (c.in-Err.ensures.refused.set c.args.mask.0 c.args.values.now) c.in-Err.ensures.refused.no_mask

pub returns-in-Err-clause-failed : goal.returns-in-Err-clause-failed
returns-in-Err-clause-failed c = set_no_failed c.args.entity c.args.mask.0 c.args.values.now (database_of c.args.table.now) c.in-Err.code.0 (c.in-Err.ensures.refused.set c.args.mask.0 c.args.values.now) c.in-Err.ensures.refused.no_mask

pub returns-in-Err-clause-database : goal.returns-in-Err-clause-database
returns-in-Err-clause-database c = set_kept c.args.entity c.args.mask.0 c.args.values.now (database_of c.args.table.now) c.in-Err.code.0 (c.in-Err.ensures.refused.set c.args.mask.0 c.args.values.now) c.in-Err.ensures.refused.fails

pub returns-then-not-is_storable-clause-code : goal.returns-then-not-is_storable-clause-code
returns-then-not-is_storable-clause-code c =
    let storable = sym c.is_storable.ensures ∙ c.if-not-is_storable.true in
    let tests = sym (ap (λ n. n == 0 && c.select-selection.result.fixed.0 == 0) c.select-selection.ensures.unknown ∙ ap (λ n. unknown_mask c.in-Ok.admitted.class c.args.mask.0 == 0 && n == 0) c.select-selection.ensures.fixed) ∙ storable in
    let code = set_attributes c.args.entity (database_of c.args.table.now) c.in-Ok.admitted.class c.in-Ok.ensures.ok.row _ c.in-Ok.ensures.ok.there.is_held c.args.mask.0 c.args.values.now tests in
    set_code_is c.args.entity c.args.mask.0 c.args.values.now (database_of c.args.table.now) 9 code

pub returns-then-not-is_storable-clause-unsupported : goal.returns-then-not-is_storable-clause-unsupported
returns-then-not-is_storable-clause-unsupported c =
    let storable = sym c.is_storable.ensures ∙ c.if-not-is_storable.true in
    let tests = sym (ap (λ n. n == 0 && c.select-selection.result.fixed.0 == 0) c.select-selection.ensures.unknown ∙ ap (λ n. unknown_mask c.in-Ok.admitted.class c.args.mask.0 == 0 && n == 0) c.select-selection.ensures.fixed) ∙ storable in
    let code = set_attributes c.args.entity (database_of c.args.table.now) c.in-Ok.admitted.class c.in-Ok.ensures.ok.row _ c.in-Ok.ensures.ok.there.is_held c.args.mask.0 c.args.values.now tests in
    c.select-selection.ensures.unknown ∙ set_unsupported c.args.entity c.args.mask.0 c.args.values.now (database_of c.args.table.now) code c.in-Ok.admitted.class c.in-Ok.ensures.ok.row

pub returns-then-not-is_storable-clause-failed : goal.returns-then-not-is_storable-clause-failed
returns-then-not-is_storable-clause-failed c =
    let storable = sym c.is_storable.ensures ∙ c.if-not-is_storable.true in
    let tests = sym (ap (λ n. n == 0 && c.select-selection.result.fixed.0 == 0) c.select-selection.ensures.unknown ∙ ap (λ n. unknown_mask c.in-Ok.admitted.class c.args.mask.0 == 0 && n == 0) c.select-selection.ensures.fixed) ∙ storable in
    let code = set_attributes c.args.entity (database_of c.args.table.now) c.in-Ok.admitted.class c.in-Ok.ensures.ok.row _ c.in-Ok.ensures.ok.there.is_held c.args.mask.0 c.args.values.now tests in
    c.select-selection.ensures.fixed ∙ set_failed c.args.entity c.args.mask.0 c.args.values.now (database_of c.args.table.now) code c.in-Ok.admitted.class c.in-Ok.ensures.ok.row

pub returns-then-not-is_storable-clause-database : goal.returns-then-not-is_storable-clause-database
returns-then-not-is_storable-clause-database c =
    let storable = sym c.is_storable.ensures ∙ c.if-not-is_storable.true in
    let tests = sym (ap (λ n. n == 0 && c.select-selection.result.fixed.0 == 0) c.select-selection.ensures.unknown ∙ ap (λ n. unknown_mask c.in-Ok.admitted.class c.args.mask.0 == 0 && n == 0) c.select-selection.ensures.fixed) ∙ storable in
    let code = set_attributes c.args.entity (database_of c.args.table.now) c.in-Ok.admitted.class c.in-Ok.ensures.ok.row _ c.in-Ok.ensures.ok.there.is_held c.args.mask.0 c.args.values.now tests in
    set_kept c.args.entity c.args.mask.0 c.args.values.now (database_of c.args.table.now) 9 code refl

pub returns-then-selection-gt-SET_ROOM-clause-code : goal.returns-then-selection-gt-SET_ROOM-clause-code
returns-then-selection-gt-SET_ROOM-clause-code c =
    let storable = sym c.is_storable.ensures ∙ c.if-not-is_storable.false in
    let tests = sym (ap (λ n. n == 0 && c.select-selection.result.fixed.0 == 0) c.select-selection.ensures.unknown ∙ ap (λ n. unknown_mask c.in-Ok.admitted.class c.args.mask.0 == 0 && n == 0) c.select-selection.ensures.fixed) ∙ storable in
    let more = c.if-selection-gt-SET_ROOM.true in
    let wide : length c.args.values.now < width_of c.in-Ok.admitted.class c.args.mask.0 = omega (arith, more, c.select-selection.ensures.width, c.told-values) in
    let code = set_wide c.args.entity (database_of c.args.table.now) c.in-Ok.admitted.class c.in-Ok.ensures.ok.row _ c.in-Ok.ensures.ok.there.is_held c.args.mask.0 c.args.values.now tests wide in
    set_code_is c.args.entity c.args.mask.0 c.args.values.now (database_of c.args.table.now) 3 code

pub returns-then-selection-gt-SET_ROOM-clause-unsupported : goal.returns-then-selection-gt-SET_ROOM-clause-unsupported
returns-then-selection-gt-SET_ROOM-clause-unsupported c =
    let storable = sym c.is_storable.ensures ∙ c.if-not-is_storable.false in
    let tests = sym (ap (λ n. n == 0 && c.select-selection.result.fixed.0 == 0) c.select-selection.ensures.unknown ∙ ap (λ n. unknown_mask c.in-Ok.admitted.class c.args.mask.0 == 0 && n == 0) c.select-selection.ensures.fixed) ∙ storable in
    let more = c.if-selection-gt-SET_ROOM.true in
    let wide : length c.args.values.now < width_of c.in-Ok.admitted.class c.args.mask.0 = omega (arith, more, c.select-selection.ensures.width, c.told-values) in
    let code = set_wide c.args.entity (database_of c.args.table.now) c.in-Ok.admitted.class c.in-Ok.ensures.ok.row _ c.in-Ok.ensures.ok.there.is_held c.args.mask.0 c.args.values.now tests wide in
    set_no_unsupported c.args.entity c.args.mask.0 c.args.values.now (database_of c.args.table.now) 3 code refl

pub returns-then-selection-gt-SET_ROOM-clause-failed : goal.returns-then-selection-gt-SET_ROOM-clause-failed
returns-then-selection-gt-SET_ROOM-clause-failed c =
    let storable = sym c.is_storable.ensures ∙ c.if-not-is_storable.false in
    let tests = sym (ap (λ n. n == 0 && c.select-selection.result.fixed.0 == 0) c.select-selection.ensures.unknown ∙ ap (λ n. unknown_mask c.in-Ok.admitted.class c.args.mask.0 == 0 && n == 0) c.select-selection.ensures.fixed) ∙ storable in
    let more = c.if-selection-gt-SET_ROOM.true in
    let wide : length c.args.values.now < width_of c.in-Ok.admitted.class c.args.mask.0 = omega (arith, more, c.select-selection.ensures.width, c.told-values) in
    let code = set_wide c.args.entity (database_of c.args.table.now) c.in-Ok.admitted.class c.in-Ok.ensures.ok.row _ c.in-Ok.ensures.ok.there.is_held c.args.mask.0 c.args.values.now tests wide in
    set_no_failed c.args.entity c.args.mask.0 c.args.values.now (database_of c.args.table.now) 3 code refl

pub returns-then-selection-gt-SET_ROOM-clause-database : goal.returns-then-selection-gt-SET_ROOM-clause-database
returns-then-selection-gt-SET_ROOM-clause-database c =
    let storable = sym c.is_storable.ensures ∙ c.if-not-is_storable.false in
    let tests = sym (ap (λ n. n == 0 && c.select-selection.result.fixed.0 == 0) c.select-selection.ensures.unknown ∙ ap (λ n. unknown_mask c.in-Ok.admitted.class c.args.mask.0 == 0 && n == 0) c.select-selection.ensures.fixed) ∙ storable in
    let more = c.if-selection-gt-SET_ROOM.true in
    let wide : length c.args.values.now < width_of c.in-Ok.admitted.class c.args.mask.0 = omega (arith, more, c.select-selection.ensures.width, c.told-values) in
    let code = set_wide c.args.entity (database_of c.args.table.now) c.in-Ok.admitted.class c.in-Ok.ensures.ok.row _ c.in-Ok.ensures.ok.there.is_held c.args.mask.0 c.args.values.now tests wide in
    set_kept c.args.entity c.args.mask.0 c.args.values.now (database_of c.args.table.now) 3 code refl

pub with_chosen-after-requires : goal.with_chosen-after-requires
unfolding width_of
with_chosen-after-requires c =
    let fits = c.if-selection-gt-SET_ROOM.false in
    omega (arith, fits, c.select-selection.ensures.width, c.told-values)

pub returns-clause-code : goal.returns-clause-code
returns-clause-code c =
    let storable = sym c.is_storable.ensures ∙ c.if-not-is_storable.false in
    let tests = sym (ap (λ n. n == 0 && c.select-selection.result.fixed.0 == 0) c.select-selection.ensures.unknown ∙ ap (λ n. unknown_mask c.in-Ok.admitted.class c.args.mask.0 == 0 && n == 0) c.select-selection.ensures.fixed) ∙ storable in
    let less = c.if-selection-gt-SET_ROOM.false in
    let fits : width_of c.in-Ok.admitted.class c.args.mask.0 ≤ length c.args.values.now = omega (arith, less, c.select-selection.ensures.width, c.told-values) in
    let code = set_stores c.args.entity (database_of c.args.table.now) c.in-Ok.admitted.class c.in-Ok.ensures.ok.row _ c.in-Ok.ensures.ok.there.is_held c.args.mask.0 c.args.values.now tests fits in
    set_code_is c.args.entity c.args.mask.0 c.args.values.now (database_of c.args.table.now) 0 code

pub returns-clause-unsupported : goal.returns-clause-unsupported
returns-clause-unsupported c =
    let storable = sym c.is_storable.ensures ∙ c.if-not-is_storable.false in
    let tests = sym (ap (λ n. n == 0 && c.select-selection.result.fixed.0 == 0) c.select-selection.ensures.unknown ∙ ap (λ n. unknown_mask c.in-Ok.admitted.class c.args.mask.0 == 0 && n == 0) c.select-selection.ensures.fixed) ∙ storable in
    let less = c.if-selection-gt-SET_ROOM.false in
    let fits : width_of c.in-Ok.admitted.class c.args.mask.0 ≤ length c.args.values.now = omega (arith, less, c.select-selection.ensures.width, c.told-values) in
    let code = set_stores c.args.entity (database_of c.args.table.now) c.in-Ok.admitted.class c.in-Ok.ensures.ok.row _ c.in-Ok.ensures.ok.there.is_held c.args.mask.0 c.args.values.now tests fits in
    set_no_unsupported c.args.entity c.args.mask.0 c.args.values.now (database_of c.args.table.now) 0 code refl

pub returns-clause-failed : goal.returns-clause-failed
returns-clause-failed c =
    let storable = sym c.is_storable.ensures ∙ c.if-not-is_storable.false in
    let tests = sym (ap (λ n. n == 0 && c.select-selection.result.fixed.0 == 0) c.select-selection.ensures.unknown ∙ ap (λ n. unknown_mask c.in-Ok.admitted.class c.args.mask.0 == 0 && n == 0) c.select-selection.ensures.fixed) ∙ storable in
    let less = c.if-selection-gt-SET_ROOM.false in
    let fits : width_of c.in-Ok.admitted.class c.args.mask.0 ≤ length c.args.values.now = omega (arith, less, c.select-selection.ensures.width, c.told-values) in
    let code = set_stores c.args.entity (database_of c.args.table.now) c.in-Ok.admitted.class c.in-Ok.ensures.ok.row _ c.in-Ok.ensures.ok.there.is_held c.args.mask.0 c.args.values.now tests fits in
    set_no_failed c.args.entity c.args.mask.0 c.args.values.now (database_of c.args.table.now) 0 code refl

pub returns-clause-database : goal.returns-clause-database
unfolding width_of
returns-clause-database c =
    let storable = sym c.is_storable.ensures ∙ c.if-not-is_storable.false in
    let tests = sym (ap (λ n. n == 0 && c.select-selection.result.fixed.0 == 0) c.select-selection.ensures.unknown ∙ ap (λ n. unknown_mask c.in-Ok.admitted.class c.args.mask.0 == 0 && n == 0) c.select-selection.ensures.fixed) ∙ storable in
    let less = c.if-selection-gt-SET_ROOM.false in
    let fits : width_of c.in-Ok.admitted.class c.args.mask.0 ≤ length c.args.values.now = omega (arith, less, c.select-selection.ensures.width, c.told-values) in
    let code = set_stores c.args.entity (database_of c.args.table.now) c.in-Ok.admitted.class c.in-Ok.ensures.ok.row _ c.in-Ok.ensures.ok.there.is_held c.args.mask.0 c.args.values.now tests fits in
    let before = ap (values_in c.args.entity.class) c.values-before.ensures ∙ values_at c.args.table.now c.in-Ok.admitted.at c.args.entity c.in-Ok.ensures.ok.there in
    let whole : 45 ≤ length c.values-before.result = omega arith in
    let stores = stored_in c.args.entity c.args.mask c.in-Ok.admitted.class c.args.values.now c.values-before.result c.with_chosen-after.result (database_of c.args.table.now) c.in-Ok.ensures.ok.row c.in-Ok.ensures.ok.rule whole fits before c.with_chosen-after.ensures in
    set_settled c.args.entity c.args.mask.0 c.args.values.now (database_of c.args.table.now) _ _ _ c.is_counter_set.ensures (c.write.ensures.written ∙ ap (λ v. with_values c.args.entity v (database_of c.args.table.now)) stores) c.settle.ensures.settled ∙ set_changed c.args.entity c.args.mask.0 c.args.values.now (database_of c.args.table.now) code
