-- When a section fits, and what becomes of it.
use Rattle.std.proofs.Common.{◌≡◌, ◌≢◌, ℕ, Bool, true, false, cond, refl, ap, arith}
use Rattle.std.specs.Prelude.{◌==◌, ◌||◌, ◌↔◌}
use Rattle.std.specs.Bool.{Decides}
use Rattle.std.proofs.lemmas.Bool.Decides.{Decides-eqb, Decides-and, Decides-or, not_from_Decides}
use Rattle.window_spec.specs.declared.Fit.{Fit}
use Rattle.window_spec.specs.declared.Fit.TheVariants.{Begins, Extends, Apart}
use Rattle.window_spec.specs.declared.Arrived.{Arrived}
use Rattle.window_spec.specs.declared.Arrived.TheVariants.{Held, Ignored, Whole, Broken}
use Rattle.window_spec.specs.Incoming.{Section, Window, no_window, is_next_tci, is_next, fit, with_section, window_by, after_section, answer_by, answer}
use Rattle.window_laws.specs.Gathering.{Fits}

-- the test of Fits
pub fits : Section → Window → Bool
fits s w = (s.number == 0) || is_next s w

pub fits_decides : (s : Section) (w : Window) → Decides (fits s w) (Fits s w)
unfolding fits
fits_decides s w =
    Decides-or (s.number == 0) (is_next s w) (Decides-eqb s.number 0) (Decides-and (s.number == w.sections) (is_next_tci w.tci s.tci) (Decides-eqb s.number w.sections) (λ e. e, λ e. e))

-- what an answer says of a section that fits or not, with so many sections held after it
pub record Exact (fits last : Bool) (held : ℕ) (a : Arrived) : Type 0 where
  pub whole : (n : ℕ) → (a ≡ Whole n) ↔ ((last ≡ true) × (fits ≡ true) × (held ≡ n))
  pub held_so_far : (a ≡ Held) ↔ ((last ≡ false) × (fits ≡ true))
  pub broken : (a ≡ Broken) ↔ ((last ≡ true) × (fits ≡ false))
  pub ignored : (a ≡ Ignored) ↔ ((last ≡ false) × (fits ≡ false))

exact_fit : (last : Bool) (held : ℕ) → Exact true last held (answer_by Begins last held)
exact_fit true held = record {
  whole = λ n. (λ e. grind (arith, e), λ h. ap (λ m. Whole m) h.2);
  held_so_far = (λ e. grind (arith, e), λ e. grind (arith, e));
  broken = (λ e. grind (arith, e), λ e. grind (arith, e));
  ignored = (λ e. grind (arith, e), λ e. grind (arith, e));
}
exact_fit false held = record {
  whole = λ n. (λ e. grind (arith, e), λ e. grind (arith, e));
  held_so_far = (λ e. (refl, refl), λ e. refl);
  broken = (λ e. grind (arith, e), λ e. grind (arith, e));
  ignored = (λ e. grind (arith, e), λ e. grind (arith, e));
}

exact_next : (last : Bool) (held : ℕ) → Exact true last held (answer_by Extends last held)
exact_next true held = exact_fit true held
exact_next false held = exact_fit false held

exact_apart : (last : Bool) (held : ℕ) → Exact false last held (answer_by Apart last held)
exact_apart true held = record {
  whole = λ n. (λ e. grind (arith, e), λ e. grind (arith, e));
  held_so_far = (λ e. grind (arith, e), λ e. grind (arith, e));
  broken = (λ e. (refl, refl), λ e. refl);
  ignored = (λ e. grind (arith, e), λ e. grind (arith, e));
}
exact_apart false held = record {
  whole = λ n. (λ e. grind (arith, e), λ e. grind (arith, e));
  held_so_far = (λ e. grind (arith, e), λ e. grind (arith, e));
  broken = (λ e. grind (arith, e), λ e. grind (arith, e));
  ignored = (λ e. (refl, refl), λ e. refl);
}

exact_by : (begins next last : Bool) (held : ℕ) → Exact (begins || next) last held (answer_by (cond begins Begins (cond next Extends Apart)) last held)
exact_by true next last held = exact_fit last held
exact_by false true last held = exact_next last held
exact_by false false last held = exact_apart last held

pub exact : (s : Section) (last : Bool) (w : Window) → Exact (fits s w) last (after_section s w).sections (answer s last w)
unfolding fits fit answer
exact s last w = exact_by (s.number == 0) (is_next s w) last (after_section s w).sections

-- each way to fit, from its tests
begins_by : (begins next : Bool) → begins ≡ true → cond begins Begins (cond next Extends Apart) ≡ Begins
begins_by true next e = refl
begins_by false next e = grind (arith, e)

extends_by : (begins next : Bool) → begins ≡ false → next ≡ true → cond begins Begins (cond next Extends Apart) ≡ Extends
extends_by true next e f = grind (arith, e)
extends_by false true e f = refl
extends_by false false e f = grind (arith, f)

apart_by : (begins next : Bool) → (begins || next) ≡ false → cond begins Begins (cond next Extends Apart) ≡ Apart
apart_by true next e = grind (arith, e)
apart_by false true e = grind (arith, e)
apart_by false false e = refl

pub fit_begins : (s : Section) (w : Window) → s.number ≡ 0 → fit s w ≡ Begins
unfolding fit
fit_begins s w e = begins_by (s.number == 0) (is_next s w) ((Decides-eqb s.number 0).1 e)

pub fit_apart : (s : Section) (w : Window) → fits s w ≡ false → fit s w ≡ Apart
unfolding fits fit
fit_apart s w e = apart_by (s.number == 0) (is_next s w) e

pub after_begins : (s : Section) (w : Window) → s.number ≡ 0 → after_section s w ≡ with_section s no_window
unfolding after_section
after_begins s w e = ap (λ f. window_by f s w) (fit_begins s w e)

pub after_apart : (s : Section) (w : Window) → fits s w ≡ false → after_section s w ≡ w
unfolding after_section
after_apart s w e = ap (λ f. window_by f s w) (fit_apart s w e)

pub fit_extends : (s : Section) (w : Window) → s.number ≢ 0 → s.number ≡ w.sections → is_next_tci w.tci s.tci ≡ true → fit s w ≡ Extends
unfolding fit
fit_extends s w some number tci =
    extends_by (s.number == 0) (is_next s w) (test_of_number s.number some) ((Decides-and (s.number == w.sections) (is_next_tci w.tci s.tci) (Decides-eqb s.number w.sections) (λ e. e, λ e. e)).1 (number, tci))
  where
    test_of_number : (n : ℕ) → n ≢ 0 → (n == 0) ≡ false
    test_of_number n some = by (n == 0) (λ e. some ((Decides-eqb n 0).0 e))
      where
        by : (b : Bool) → (b ≡ true → ⊥) → b ≡ false
        by true wrong = absurd (wrong refl)
        by false wrong = refl

-- what each way to fit says of the tests
begins_says : (begins next : Bool) → cond begins Begins (cond next Extends Apart) ≡ Begins → begins ≡ true
begins_says true next e = refl
begins_says false true e = grind (arith, e)
begins_says false false e = grind (arith, e)

extends_says : (begins next : Bool) → cond begins Begins (cond next Extends Apart) ≡ Extends → (begins ≡ false) × (next ≡ true)
extends_says true next e = grind (arith, e)
extends_says false true e = (refl, refl)
extends_says false false e = grind (arith, e)

pub begin_tells : (s : Section) (w : Window) → fit s w ≡ Begins → s.number ≡ 0
unfolding fit
begin_tells s w e = (Decides-eqb s.number 0).0 (begins_says (s.number == 0) (is_next s w) e)

pub extend_tells : (s : Section) (w : Window) → fit s w ≡ Extends → (s.number ≢ 0) × ((s.number ≡ w.sections) × (is_next_tci w.tci s.tci ≡ true))
unfolding fit
extend_tells s w e =
    let tests = extends_says (s.number == 0) (is_next s w) e in
    (not_from_Decides (s.number == 0) (Decides-eqb s.number 0) tests.0, (Decides-and (s.number == w.sections) (is_next_tci w.tci s.tci) (Decides-eqb s.number w.sections) (λ e. e, λ e. e)).0 tests.1)

-- an answer by the way in which the section fits
pub answer_of : (f : Fit) (s : Section) (last : Bool) (w : Window) → fit s w ≡ f → answer s last w ≡ answer_by f last (window_by f s w).sections
unfolding answer after_section
answer_of f s last w e = ap (λ x. answer_by x last (window_by x s w).sections) e

pub after_of : (f : Fit) (s : Section) (w : Window) → fit s w ≡ f → after_section s w ≡ window_by f s w
unfolding after_section
after_of f s w e = ap (λ x. window_by x s w) e
