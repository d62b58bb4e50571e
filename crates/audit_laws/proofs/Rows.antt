-- A row of a snapshot, gathered after those before it.
use Rattle.std.proofs.Common.{◌≡◌, ℕ, suc, ◌+◌, List, [], length, take, replicate, Option, Some, None, option_map, refl, sym, ap, subst, ◌∙◌, arith}
use Rattle.std.proofs.lemmas.Option.{same_Some}
use Rattle.std.specs.Prelude.{slice_get, IfSome, unwrap_or}
use Rattle.alarm_spec.specs.declared.BadRow.TheVariants as bad
use Rattle.alarm_spec.specs.Alarms.{Alarm, Alarms, row_of, row_at, IsRaised, IsWhole}
use Rattle.alarm_spec.specs.Table.{Table, gathered, row_fault, after_row}
use Rattle.alarm_laws.proofs.Rows.{Next, next_row, good_row, after_good}

-- it is the next one, and is no bad one
pub record Fits (alarms : Alarms) (next : ℕ) (row : List ℕ) (t : Table) : Type 0 where
  pub good : row_fault row (gathered t) ≡ None
  pub more : after_row row t ≡ record t { gathering = Some (take (next + 1) alarms) }

fits_by : (o : Option Alarm) (alarms : Alarms) (next : ℕ) (row : List ℕ) (t : Table)
    → IfSome o (Next alarms next) → option_map row_of o ≡ Some row
    → t.gathering ≡ Some (take next alarms) → Fits alarms next row t
fits_by None alarms next row t n e g = absurd (cc)
fits_by (Some one) alarms next row t n e g =
    let is : row_of one ≡ row = same_Some (row_of one) row e in
    let has : gathered t ≡ take next alarms = ap (λ (o : Option Alarms). unwrap_or o []) g in
    let step : suc next ≡ next + 1 = omega arith in
    subst (λ r. Fits alarms next r t) is (record {
      good = ap (row_fault (row_of one)) has ∙ good_row (take next alarms) one n.raised n.under;
      more =
          after_good (take next alarms) one t n.raised n.under has
          ∙ ap (λ (l : Alarms). let x : Table = record t { gathering = Some l } in x)
          (sym n.more ∙ ap (λ k. take k alarms) step);
    })

pub row_fits : (alarms : Alarms) (next : ℕ) (row : List ℕ) (t : Table) → IsWhole alarms
    → row_at next alarms ≡ Some row → t.gathering ≡ Some (take next alarms)
    → Fits alarms next row t
unfolding row_at
row_fits alarms next row t whole e g =
    fits_by (slice_get alarms next) alarms next row t
    (next_row alarms next whole.ascending whole.raised) e g

-- it has 32 bytes
row_wide : (one : Alarm) → IsRaised one → length (row_of one) ≡ 32
unfolding row_of
row_wide one h = let bytes = h.bytes in omega (arith, bytes)

long_by : (o : Option Alarm) (alarms : Alarms) (next : ℕ) (row : List ℕ)
    → IfSome o (Next alarms next) → option_map row_of o ≡ Some row → length row ≡ 32
long_by None alarms next row n e = absurd (cc)
long_by (Some one) alarms next row n e =
    subst (λ (r : List ℕ). length r ≡ 32) (same_Some (row_of one) row e) (row_wide one n.raised)

pub row_long : (alarms : Alarms) (next : ℕ) (row : List ℕ) → IsWhole alarms
    → row_at next alarms ≡ Some row → length row ≡ 32
unfolding row_at
row_long alarms next row whole e =
    long_by (slice_get alarms next) alarms next row
    (next_row alarms next whole.ascending whole.raised) e

-- zeros are no row
pub zeros_empty : (rows : Alarms) → row_fault (replicate 32 0) rows ≡ Some bad.Empty
unfolding row_fault
zeros_empty rows = refl
