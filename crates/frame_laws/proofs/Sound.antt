-- What it means that bytes have no fault.
use Rattle.std.proofs.Common.{◌≡◌, ℕ, ◌≤◌, Bool, true, false, cond, not, ◌&&◌, List, length, get_or, Option, Some, None, refl, ◌∙◌, arith}
use Rattle.std.proofs.lemmas.Bool.{ltb-false, le-ltb, le-leb, eqb-true, eq-eqb, not-false, not_from_true, cond-false, and_right}
use Rattle.std.proofs.lemmas.Slice.Eq.{bytes_eq-Decides}
use Rattle.frame_spec.specs.declared.TheConstants.{BASELINE_TRAILER}
use Rattle.frame_spec.specs.Baseline.{fault_of, trailer_at, given_check, computed_check}

pub record IsSound (bytes : List ℕ) : Type 0 where
  pub whole : 48 ≤ length bytes
  pub device : get_or bytes 3 0 ≡ 10
  pub trailer : trailer_at bytes ≡ BASELINE_TRAILER
  pub check : given_check bytes ≡ computed_check bytes

-- A test that would have given a fault has not held.
passed : {F : Type 0} (test : Bool) (fault : F) (rest : Option F) → cond test (Some fault) rest ≡ None → (test ≡ false) × (rest ≡ None)
passed true fault rest none = cc
passed false fault rest none = (refl, none)

pub device_of : (a b : Bool) → a ≡ true → (a && not b) ≡ false → b ≡ true
device_of true b here known = not-false b known
device_of false b here known = cc

pub IsSound-from_none : (bytes : List ℕ) → fault_of bytes ≡ None → IsSound bytes
unfolding fault_of
IsSound-from_none bytes none =
    let device = passed _ _ _ none in
    let short = passed _ _ _ device.1 in
    let trailer = passed _ _ _ short.1 in
    let check = passed _ _ _ trailer.1 in
    let whole : 48 ≤ length bytes = ltb-false (length bytes) 48 short.0 in
    record {
      whole = whole;
      device = eqb-true (get_or bytes 3 0) 10 (device_of _ _ (le-leb 4 (length bytes) (omega arith)) device.0);
      trailer = (bytes_eq-Decides (trailer_at bytes) BASELINE_TRAILER).0 (not-false _ trailer.0);
      check = eqb-true _ _ (not-false _ check.0);
    }

pub fault_of-sound : (bytes : List ℕ) → IsSound bytes → fault_of bytes ≡ None
unfolding fault_of
fault_of-sound bytes sound =
    cond-false _ _ _ (and_right _ _ (not_from_true _ (eq-eqb (get_or bytes 3 0) 10 sound.device)))
    ∙ cond-false _ _ _ (le-ltb (length bytes) 48 sound.whole)
    ∙ cond-false _ _ _ (not_from_true _ ((bytes_eq-Decides (trailer_at bytes) BASELINE_TRAILER).1 sound.trailer))
    ∙ cond-false _ _ _ (not_from_true _ (eq-eqb _ _ sound.check))
