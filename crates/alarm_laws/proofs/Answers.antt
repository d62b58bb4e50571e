-- When each answer to a notice comes.
use Rattle.std.proofs.Common.{◌≡◌, ◌≢◌, ℕ, ◌<◌, ◌≤◌, Bool, true, false, [], ◌∷◌, refl, sym, ap, ◌∙◌, arith}
use Rattle.std.specs.Prelude.{◌==◌, ◌&&◌, not, nat_le, ◌↔◌}
use Rattle.std.proofs.lemmas.Bool.Decides.{nat_tests}
use Rattle.alarm_spec.specs.declared.TheConstants.{MOST_WAITING}
use Rattle.alarm_spec.specs.declared.TakenAlarm.{TakenAlarm}
use Rattle.alarm_spec.specs.declared.TakenAlarm.TheVariants.{Unaudited, Repeat, Gap, Overflow, Taken}
use Rattle.alarm_spec.specs.Log.{alarm_number_after}
use Rattle.alarm_spec.specs.Table.{Table, first_answer, is_full, is_repeat, wanted, take_answer}

-- what the four tests say of an answer
pub record Tested (known repeated right full : Bool) (want have : ℕ) (answer : TakenAlarm) : Type 0 where
  pub unaudited : (answer ≡ Unaudited) ↔ (known ≡ false)
  pub repeat : (answer ≡ Repeat) ↔ ((known ≡ true) × (repeated ≡ true))
  pub gap : (w h : ℕ) → (answer ≡ Gap w h) ↔ ((known ≡ true) × (repeated ≡ false) × (right ≡ false) × (w ≡ want) × (h ≡ have))
  pub overflow : (answer ≡ Overflow) ↔ ((known ≡ true) × (repeated ≡ false) × (right ≡ true) × (full ≡ true))
  pub taken : (answer ≡ Taken) ↔ ((known ≡ true) × (repeated ≡ false) × (right ≡ true) × (full ≡ false))

pub tested : (known repeated right full : Bool) (want have : ℕ) → Tested known repeated right full want have (first_answer ((not known, Unaudited) ∷ (repeated, Repeat) ∷ (not right, Gap want have) ∷ (full, Overflow) ∷ []))
tested false repeated right full want have = record {
  unaudited = (λ e. refl, λ e. refl);
  repeat = (λ e. grind (arith, e), λ e. grind (arith, e));
  gap = λ w h. (λ e. grind (arith, e), λ e. grind (arith, e));
  overflow = (λ e. grind (arith, e), λ e. grind (arith, e));
  taken = (λ e. grind (arith, e), λ e. grind (arith, e));
}
tested true true right full want have = record {
  unaudited = (λ e. grind (arith, e), λ e. grind (arith, e));
  repeat = (λ e. (refl, refl), λ e. refl);
  gap = λ w h. (λ e. grind (arith, e), λ e. grind (arith, e));
  overflow = (λ e. grind (arith, e), λ e. grind (arith, e));
  taken = (λ e. grind (arith, e), λ e. grind (arith, e));
}
tested true false false full want have = record {
  unaudited = (λ e. grind (arith, e), λ e. grind (arith, e));
  repeat = (λ e. grind (arith, e), λ e. grind (arith, e));
  gap = λ w h. (λ e. grind (arith, e), λ e. grind (arith, e));
  overflow = (λ e. grind (arith, e), λ e. grind (arith, e));
  taken = (λ e. grind (arith, e), λ e. grind (arith, e));
}
tested true false true true want have = record {
  unaudited = (λ e. grind (arith, e), λ e. grind (arith, e));
  repeat = (λ e. grind (arith, e), λ e. grind (arith, e));
  gap = λ w h. (λ e. grind (arith, e), λ e. grind (arith, e));
  overflow = (λ e. (refl, refl, refl, refl), λ e. refl);
  taken = (λ e. grind (arith, e), λ e. grind (arith, e));
}
tested true false true false want have = record {
  unaudited = (λ e. grind (arith, e), λ e. grind (arith, e));
  repeat = (λ e. grind (arith, e), λ e. grind (arith, e));
  gap = λ w h. (λ e. grind (arith, e), λ e. grind (arith, e));
  overflow = (λ e. grind (arith, e), λ e. grind (arith, e));
  taken = (λ e. (refl, refl, refl, refl), λ e. refl);
}

pub answer_tested : (number : ℕ) (t : Table) → Tested t.audited (is_repeat number t) (number == wanted t) (is_full t) (wanted t) number (take_answer number t)
unfolding take_answer
answer_tested number t = tested t.audited (is_repeat number t) (number == wanted t) (is_full t) (wanted t) number

-- the tests in numbers
pub repeat_says : (n l : ℕ) → (n == l && not (l == 0)) ≡ true → (n ≡ l) × (l ≢ 0)
repeat_says n l e = (grind (arith, nat_tests, e), λ z. grind (arith, nat_tests, e, z))

pub repeat_is : (n l : ℕ) → n ≡ l → l ≢ 0 → (n == l && not (l == 0)) ≡ true
repeat_is n l same some = grind (arith, nat_tests, same, some)

pub no_repeat_says : (n l : ℕ) → (n == l && not (l == 0)) ≡ false → n ≡ l → l ≡ 0
no_repeat_says n l e same = grind (arith, nat_tests, e, same)

pub no_repeat_is : (n l : ℕ) → (n ≡ l → l ≡ 0) → (n == l && not (l == 0)) ≡ false
no_repeat_is n l h = grind (arith, nat_tests, h)

pub right_says : (n w : ℕ) → (n == w) ≡ true → n ≡ w
right_says n w e = grind (arith, nat_tests, e)

pub right_is : (n w : ℕ) → n ≡ w → (n == w) ≡ true
right_is n w e = grind (arith, nat_tests, e)

pub wrong_says : (n w : ℕ) → (n == w) ≡ false → n ≢ w
wrong_says n w e = λ same. grind (arith, nat_tests, e, same)

pub wrong_is : (n w : ℕ) → n ≢ w → (n == w) ≡ false
wrong_is n w e = grind (arith, nat_tests, e)

pub full_says : (g : Bool) (k : ℕ) → (g && nat_le MOST_WAITING k) ≡ true → (g ≡ true) × (MOST_WAITING ≤ k)
full_says true k e = (refl, grind (arith, nat_tests, e))
full_says false k e = (e, grind (arith, e))

pub full_is : (g : Bool) (k : ℕ) → g ≡ true → MOST_WAITING ≤ k → (g && nat_le MOST_WAITING k) ≡ true
full_is g k is le = ap (λ b. b && nat_le MOST_WAITING k) is ∙ grind (arith, nat_tests, le)

pub room_says : (g : Bool) (k : ℕ) → (g && nat_le MOST_WAITING k) ≡ false → g ≡ true → k < MOST_WAITING
room_says g k e is = grind (arith, nat_tests, sym (ap (λ b. b && nat_le MOST_WAITING k) is) ∙ e)

pub room_is : (g : Bool) (k : ℕ) → (g ≡ true → k < MOST_WAITING) → (g && nat_le MOST_WAITING k) ≡ false
room_is true k h = let lt : k < MOST_WAITING = h refl in grind (arith, nat_tests, lt)
room_is false k h = refl

-- the number that is wanted is no repeat
pub next_is_no_repeat : (number last : ℕ) → number ≡ alarm_number_after last → (number == last && not (last == 0)) ≡ false
next_is_no_repeat number last is = grind (arith, nat_tests, is)
