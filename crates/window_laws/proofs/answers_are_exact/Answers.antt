use Rattle.std.proofs.Common.{◌≡◌, Bool, true, false, refl}
use Rattle.std.proofs.lemmas.Bool.Decides.{not_from_Decides}
use Rattle.window_spec.specs.Incoming.{Section, Window}
use Rattle.window_laws.specs.Gathering.{Fits}
use Rattle.window_laws.proofs.Fitting.{fits, fits_decides, exact, after_begins, after_apart}
use Rattle.window_laws.proofs.answers_are_exact.Goals as goal

-- the test of Fits says no where it doesn't hold
no_fit : (s : Section) (w : Window) → (Fits s w → ⊥) → fits s w ≡ false
no_fit s w wrong = by (fits s w) (λ e. wrong ((fits_decides s w).0 e))
  where
    by : (b : Bool) → (b ≡ true → ⊥) → b ≡ false
    by true wrong = absurd (wrong refl)
    by false wrong = refl

pub returns-clause-whole : goal.returns-clause-whole
returns-clause-whole c s last w n =
    let test = (exact s last w).whole n in (
      λ e. (let p = test.0 e in (p.0, (fits_decides s w).0 p.1, p.2)),
      λ h. test.1 (h.0, (fits_decides s w).1 h.1, h.2),
    )

pub returns-clause-held : goal.returns-clause-held
returns-clause-held c s last w =
    let test = (exact s last w).held_so_far in (
      λ e. (let p = test.0 e in (p.0, (fits_decides s w).0 p.1)),
      λ h. test.1 (h.0, (fits_decides s w).1 h.1),
    )

pub returns-clause-broken : goal.returns-clause-broken
returns-clause-broken c s last w =
    let test = (exact s last w).broken in (
      λ e. (let p = test.0 e in (p.0, not_from_Decides (fits s w) (fits_decides s w) p.1)),
      λ h. test.1 (h.0, no_fit s w h.1),
    )

pub returns-clause-ignored : goal.returns-clause-ignored
returns-clause-ignored c s last w =
    let test = (exact s last w).ignored in (
      λ e. (let p = test.0 e in (p.0, not_from_Decides (fits s w) (fits_decides s w) p.1)),
      λ h. test.1 (h.0, no_fit s w h.1),
    )

pub returns-clause-begins : goal.returns-clause-begins
returns-clause-begins c s w e = after_begins s w e

pub returns-clause-apart : goal.returns-clause-apart
returns-clause-apart c s w wrong = after_apart s w (no_fit s w wrong)
