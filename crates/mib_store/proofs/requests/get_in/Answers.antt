use Rattle.std.proofs.Common.{◌≡◌, ◌≤◌, ◌<◌, refl, ap, ◌∙◌, true, false, arith}
use Rattle.std.specs.Prelude.{◌==◌}
use Rattle.std.proofs.lemmas.Bool.Decides.{nat_tests}
use Rattle.class_spec.specs.Masks.{unknown_mask, width_of}
use Rattle.mib_store.specs.Entries.{database_of, values_in}
use Rattle.mib_store.proofs.Places.{values_at}
use Rattle.mib_store.proofs.Codes.{get_wide, get_answers}
use Rattle.mib_store.proofs.Effects.{got_code, got_no_mask, got_no_values, got_no_unsupported, got_unsupported, got_mask, got_values, named_in}
use Rattle.mib_store.proofs.requests.get_in.Goals as goal

pub returns-in-Err-clause-code : goal.returns-in-Err-clause-code
returns-in-Err-clause-code c = got_code c.args.entity c.args.mask.0 (database_of c.args.table.now) c.in-Err.code.0 (c.in-Err.ensures.refused.get 25 c.args.mask.0)

pub returns-in-Err-clause-mask : goal.returns-in-Err-clause-mask
returns-in-Err-clause-mask c = got_no_mask c.args.entity c.args.mask.0 (database_of c.args.table.now) c.in-Err.code.0 (c.in-Err.ensures.refused.get 25 c.args.mask.0) c.in-Err.ensures.refused.fails c.in-Err.ensures.refused.no_mask

pub returns-in-Err-clause-values : goal.returns-in-Err-clause-values
returns-in-Err-clause-values c = got_no_values c.args.entity c.args.mask.0 (database_of c.args.table.now) c.in-Err.code.0 (c.in-Err.ensures.refused.get 25 c.args.mask.0) c.in-Err.ensures.refused.fails c.in-Err.ensures.refused.no_mask

pub returns-in-Err-clause-unsupported : goal.returns-in-Err-clause-unsupported
returns-in-Err-clause-unsupported c = got_no_unsupported c.args.entity c.args.mask.0 (database_of c.args.table.now) c.in-Err.code.0 (c.in-Err.ensures.refused.get 25 c.args.mask.0) c.in-Err.ensures.refused.no_mask

pub returns-then-selection-gt-GET_ROOM-clause-code : goal.returns-then-selection-gt-GET_ROOM-clause-code
returns-then-selection-gt-GET_ROOM-clause-code c =
    let more = c.if-selection-gt-GET_ROOM.true in
    let wide : 25 < width_of c.in-Ok.admitted.class c.args.mask.0 = omega (arith, more, c.select-selection.ensures.width) in
    let code = get_wide c.args.entity (database_of c.args.table.now) c.in-Ok.admitted.class c.in-Ok.ensures.ok.row _ c.in-Ok.ensures.ok.there.is_held c.args.mask.0 25 wide in
    got_code c.args.entity c.args.mask.0 (database_of c.args.table.now) 3 code

pub returns-then-selection-gt-GET_ROOM-clause-mask : goal.returns-then-selection-gt-GET_ROOM-clause-mask
returns-then-selection-gt-GET_ROOM-clause-mask c =
    let more = c.if-selection-gt-GET_ROOM.true in
    let wide : 25 < width_of c.in-Ok.admitted.class c.args.mask.0 = omega (arith, more, c.select-selection.ensures.width) in
    let code = get_wide c.args.entity (database_of c.args.table.now) c.in-Ok.admitted.class c.in-Ok.ensures.ok.row _ c.in-Ok.ensures.ok.there.is_held c.args.mask.0 25 wide in
    got_no_mask c.args.entity c.args.mask.0 (database_of c.args.table.now) 3 code refl refl

pub returns-then-selection-gt-GET_ROOM-clause-values : goal.returns-then-selection-gt-GET_ROOM-clause-values
returns-then-selection-gt-GET_ROOM-clause-values c =
    let more = c.if-selection-gt-GET_ROOM.true in
    let wide : 25 < width_of c.in-Ok.admitted.class c.args.mask.0 = omega (arith, more, c.select-selection.ensures.width) in
    let code = get_wide c.args.entity (database_of c.args.table.now) c.in-Ok.admitted.class c.in-Ok.ensures.ok.row _ c.in-Ok.ensures.ok.there.is_held c.args.mask.0 25 wide in
    got_no_values c.args.entity c.args.mask.0 (database_of c.args.table.now) 3 code refl refl

pub returns-then-selection-gt-GET_ROOM-clause-unsupported : goal.returns-then-selection-gt-GET_ROOM-clause-unsupported
returns-then-selection-gt-GET_ROOM-clause-unsupported c =
    let more = c.if-selection-gt-GET_ROOM.true in
    let wide : 25 < width_of c.in-Ok.admitted.class c.args.mask.0 = omega (arith, more, c.select-selection.ensures.width) in
    let code = get_wide c.args.entity (database_of c.args.table.now) c.in-Ok.admitted.class c.in-Ok.ensures.ok.row _ c.in-Ok.ensures.ok.there.is_held c.args.mask.0 25 wide in
    got_no_unsupported c.args.entity c.args.mask.0 (database_of c.args.table.now) 3 code refl

pub gather-values-requires : goal.gather-values-requires
unfolding width_of
gather-values-requires c =
    let fits = c.if-selection-gt-GET_ROOM.false in
    omega (arith, fits, c.select-selection.ensures.width)

pub returns-then-selection-eq0-clause-code : goal.returns-then-selection-eq0-clause-code
returns-then-selection-eq0-clause-code c =
    let less = c.if-selection-gt-GET_ROOM.false in
    let fits : width_of c.in-Ok.admitted.class c.args.mask.0 ≤ 25 = omega (arith, less, c.select-selection.ensures.width) in
    let test = c.if-selection-eq0.true in
    let none : (unknown_mask c.in-Ok.admitted.class c.args.mask.0 == 0) ≡ true = grind (arith, nat_tests, c.select-selection.ensures.unknown) in
    let code = get_answers c.args.entity (database_of c.args.table.now) c.in-Ok.admitted.class c.in-Ok.ensures.ok.row _ c.in-Ok.ensures.ok.there.is_held c.args.mask.0 25 fits true none in
    got_code c.args.entity c.args.mask.0 (database_of c.args.table.now) 0 code

pub returns-then-selection-eq0-clause-mask : goal.returns-then-selection-eq0-clause-mask
returns-then-selection-eq0-clause-mask c =
    let less = c.if-selection-gt-GET_ROOM.false in
    let fits : width_of c.in-Ok.admitted.class c.args.mask.0 ≤ 25 = omega (arith, less, c.select-selection.ensures.width) in
    let test = c.if-selection-eq0.true in
    let none : (unknown_mask c.in-Ok.admitted.class c.args.mask.0 == 0) ≡ true = grind (arith, nat_tests, c.select-selection.ensures.unknown) in
    let code = get_answers c.args.entity (database_of c.args.table.now) c.in-Ok.admitted.class c.in-Ok.ensures.ok.row _ c.in-Ok.ensures.ok.there.is_held c.args.mask.0 25 fits true none in
    c.select-selection.ensures.known ∙ got_mask c.args.entity c.args.mask.0 (database_of c.args.table.now) 0 code refl c.in-Ok.admitted.class c.in-Ok.ensures.ok.row

pub returns-then-selection-eq0-clause-values : goal.returns-then-selection-eq0-clause-values
returns-then-selection-eq0-clause-values c =
    let less = c.if-selection-gt-GET_ROOM.false in
    let fits : width_of c.in-Ok.admitted.class c.args.mask.0 ≤ 25 = omega (arith, less, c.select-selection.ensures.width) in
    let test = c.if-selection-eq0.true in
    let none : (unknown_mask c.in-Ok.admitted.class c.args.mask.0 == 0) ≡ true = grind (arith, nat_tests, c.select-selection.ensures.unknown) in
    let code = get_answers c.args.entity (database_of c.args.table.now) c.in-Ok.admitted.class c.in-Ok.ensures.ok.row _ c.in-Ok.ensures.ok.there.is_held c.args.mask.0 25 fits true none in
    let before = ap (values_in c.args.entity.class) c.values-before.ensures ∙ values_at c.args.table.now c.in-Ok.admitted.at c.args.entity c.in-Ok.ensures.ok.there in
    named_in c.args.entity c.args.mask c.in-Ok.admitted.class c.values-before.result c.gather-values.result (database_of c.args.table.now) c.in-Ok.ensures.ok.row before c.gather-values.ensures
    ∙ got_values c.args.entity c.args.mask.0 (database_of c.args.table.now) 0 code refl

pub returns-then-selection-eq0-clause-unsupported : goal.returns-then-selection-eq0-clause-unsupported
returns-then-selection-eq0-clause-unsupported c =
    let less = c.if-selection-gt-GET_ROOM.false in
    let fits : width_of c.in-Ok.admitted.class c.args.mask.0 ≤ 25 = omega (arith, less, c.select-selection.ensures.width) in
    let test = c.if-selection-eq0.true in
    let none : (unknown_mask c.in-Ok.admitted.class c.args.mask.0 == 0) ≡ true = grind (arith, nat_tests, c.select-selection.ensures.unknown) in
    let code = get_answers c.args.entity (database_of c.args.table.now) c.in-Ok.admitted.class c.in-Ok.ensures.ok.row _ c.in-Ok.ensures.ok.there.is_held c.args.mask.0 25 fits true none in
    got_no_unsupported c.args.entity c.args.mask.0 (database_of c.args.table.now) 0 code refl

pub returns-clause-code : goal.returns-clause-code
returns-clause-code c =
    let less = c.if-selection-gt-GET_ROOM.false in
    let fits : width_of c.in-Ok.admitted.class c.args.mask.0 ≤ 25 = omega (arith, less, c.select-selection.ensures.width) in
    let test = c.if-selection-eq0.false in
    let none : (unknown_mask c.in-Ok.admitted.class c.args.mask.0 == 0) ≡ false = grind (arith, nat_tests, c.select-selection.ensures.unknown) in
    let code = get_answers c.args.entity (database_of c.args.table.now) c.in-Ok.admitted.class c.in-Ok.ensures.ok.row _ c.in-Ok.ensures.ok.there.is_held c.args.mask.0 25 fits false none in
    got_code c.args.entity c.args.mask.0 (database_of c.args.table.now) 9 code

pub returns-clause-mask : goal.returns-clause-mask
returns-clause-mask c =
    let less = c.if-selection-gt-GET_ROOM.false in
    let fits : width_of c.in-Ok.admitted.class c.args.mask.0 ≤ 25 = omega (arith, less, c.select-selection.ensures.width) in
    let test = c.if-selection-eq0.false in
    let none : (unknown_mask c.in-Ok.admitted.class c.args.mask.0 == 0) ≡ false = grind (arith, nat_tests, c.select-selection.ensures.unknown) in
    let code = get_answers c.args.entity (database_of c.args.table.now) c.in-Ok.admitted.class c.in-Ok.ensures.ok.row _ c.in-Ok.ensures.ok.there.is_held c.args.mask.0 25 fits false none in
    c.select-selection.ensures.known ∙ got_mask c.args.entity c.args.mask.0 (database_of c.args.table.now) 9 code refl c.in-Ok.admitted.class c.in-Ok.ensures.ok.row

pub returns-clause-values : goal.returns-clause-values
returns-clause-values c =
    let less = c.if-selection-gt-GET_ROOM.false in
    let fits : width_of c.in-Ok.admitted.class c.args.mask.0 ≤ 25 = omega (arith, less, c.select-selection.ensures.width) in
    let test = c.if-selection-eq0.false in
    let none : (unknown_mask c.in-Ok.admitted.class c.args.mask.0 == 0) ≡ false = grind (arith, nat_tests, c.select-selection.ensures.unknown) in
    let code = get_answers c.args.entity (database_of c.args.table.now) c.in-Ok.admitted.class c.in-Ok.ensures.ok.row _ c.in-Ok.ensures.ok.there.is_held c.args.mask.0 25 fits false none in
    let before = ap (values_in c.args.entity.class) c.values-before.ensures ∙ values_at c.args.table.now c.in-Ok.admitted.at c.args.entity c.in-Ok.ensures.ok.there in
    named_in c.args.entity c.args.mask c.in-Ok.admitted.class c.values-before.result c.gather-values.result (database_of c.args.table.now) c.in-Ok.ensures.ok.row before c.gather-values.ensures
    ∙ got_values c.args.entity c.args.mask.0 (database_of c.args.table.now) 9 code refl

pub returns-clause-unsupported : goal.returns-clause-unsupported
returns-clause-unsupported c =
    let less = c.if-selection-gt-GET_ROOM.false in
    let fits : width_of c.in-Ok.admitted.class c.args.mask.0 ≤ 25 = omega (arith, less, c.select-selection.ensures.width) in
    let test = c.if-selection-eq0.false in
    let none : (unknown_mask c.in-Ok.admitted.class c.args.mask.0 == 0) ≡ false = grind (arith, nat_tests, c.select-selection.ensures.unknown) in
    let code = get_answers c.args.entity (database_of c.args.table.now) c.in-Ok.admitted.class c.in-Ok.ensures.ok.row _ c.in-Ok.ensures.ok.there.is_held c.args.mask.0 25 fits false none in
    c.select-selection.ensures.unknown ∙ got_unsupported c.args.entity c.args.mask.0 (database_of c.args.table.now) code c.in-Ok.admitted.class c.in-Ok.ensures.ok.row
