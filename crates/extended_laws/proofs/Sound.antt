-- What it means that bytes have no fault as a frame of either set.
use Rattle.std.proofs.Common.{◌≡◌, ℕ, ◌+◌, ◌≤◌, Bool, true, false, cond, not, List, length, Option, Some, None, nat_eq, nat_lt, refl, sym, ap, ◌∙◌}
use Rattle.std.proofs.lemmas.Bool.{ltb-false, le-ltb, eqb-true, eq-eqb, not-false, not_from_true, cond-false}
use Rattle.frame_spec.specs.declared.FrameFault.{FrameFault}
use Rattle.frame_spec.specs.declared.FrameFault.TheVariants as baseline
use Rattle.frame_spec.specs.Baseline.{fault_of}
use Rattle.frame_laws.proofs.Sound.{IsSound, IsSound-from_none}
use Rattle.extended_spec.specs.declared.AnyFault.TheVariants.{Short, Check, Length, NoMemory}
use Rattle.extended_spec.specs.Frames.{length_at, long_given, long_computed, long_fault_of, as_any, fault_in, is_extended, any_fault_of}

pub record IsLongSound (bytes : List ℕ) : Type 0 where
  pub header : 10 ≤ length bytes
  pub few : length_at bytes ≤ 1966
  pub whole : 10 + length_at bytes + 4 ≤ length bytes
  pub check : long_given bytes ≡ long_computed bytes

-- A test that would have given a fault has not held.
passed : {F : Type 0} (test : Bool) (fault : F) (rest : Option F) → cond test (Some fault) rest ≡ None → (test ≡ false) × (rest ≡ None)
passed true fault rest none = cc
passed false fault rest none = (refl, none)

pub IsLongSound-from_none : (bytes : List ℕ) → long_fault_of bytes ≡ None → IsLongSound bytes
unfolding long_fault_of
IsLongSound-from_none bytes none =
    let header = passed _ _ _ none in
    let few = passed _ _ _ header.1 in
    let whole = passed _ _ _ few.1 in
    let check = passed _ _ _ whole.1 in
    record {
      header = ltb-false (length bytes) 10 header.0;
      few = ltb-false 1966 (length_at bytes) few.0;
      whole = ltb-false (length bytes) (10 + length_at bytes + 4) whole.0;
      check = eqb-true _ _ (not-false _ check.0);
    }

pub long_fault_of-sound : (bytes : List ℕ) → IsLongSound bytes → long_fault_of bytes ≡ None
unfolding long_fault_of
long_fault_of-sound bytes sound =
    cond-false _ _ _ (le-ltb (length bytes) 10 sound.header)
    ∙ cond-false _ _ _ (le-ltb 1966 (length_at bytes) sound.few)
    ∙ cond-false _ _ _ (le-ltb (length bytes) (10 + length_at bytes + 4) sound.whole)
    ∙ cond-false _ _ _ (not_from_true _ (eq-eqb (long_given bytes) (long_computed bytes) sound.check))

pub none-from_any : (fault : Option FrameFault) → as_any fault ≡ None → fault ≡ None
none-from_any None none = refl
none-from_any (Some (baseline.Device byte)) none = cc
none-from_any (Some (baseline.Short have)) none = cc
none-from_any (Some (baseline.Trailer trailer)) none = cc
none-from_any (Some (baseline.Check given computed)) none = cc

pub extended_sound : (bytes : List ℕ) → any_fault_of bytes ≡ None → is_extended bytes ≡ true → IsLongSound bytes
unfolding any_fault_of
extended_sound bytes none extended = IsLongSound-from_none bytes (sym (ap (λ (b : Bool). fault_in b bytes) extended) ∙ none)

pub baseline_sound : (bytes : List ℕ) → any_fault_of bytes ≡ None → is_extended bytes ≡ false → IsSound bytes
unfolding any_fault_of
baseline_sound bytes none other = IsSound-from_none bytes (none-from_any (fault_of bytes) (sym (ap (λ (b : Bool). fault_in b bytes) other) ∙ none))

-- ---- want of memory is no fault of bytes

no_memory_in : (a b c d : Bool) (have given have_too : ℕ) (check computed : ℕ) →
    cond a (Some (Short have)) (cond b (Some (Length given)) (cond c (Some (Short have_too)) (cond d (Some (Check check computed)) None))) ≡ Some NoMemory → ⊥
no_memory_in true b c d have given have_too check computed is = cc
no_memory_in false true c d have given have_too check computed is = cc
no_memory_in false false true d have given have_too check computed is = cc
no_memory_in false false false true have given have_too check computed is = cc
no_memory_in false false false false have given have_too check computed is = cc

pub long_no_memory : (bytes : List ℕ) → long_fault_of bytes ≡ Some NoMemory → ⊥
unfolding long_fault_of
long_no_memory bytes is =
    no_memory_in (nat_lt (length bytes) 10) (nat_lt 1966 (length_at bytes)) (nat_lt (length bytes) (10 + length_at bytes + 4)) (not (nat_eq (long_given bytes) (long_computed bytes)))
    (length bytes) (length_at bytes) (length bytes) (long_given bytes) (long_computed bytes) is

baseline_no_memory : (fault : Option FrameFault) → as_any fault ≡ Some NoMemory → ⊥
baseline_no_memory None is = cc
baseline_no_memory (Some (baseline.Device byte)) is = cc
baseline_no_memory (Some (baseline.Short have)) is = cc
baseline_no_memory (Some (baseline.Trailer trailer)) is = cc
baseline_no_memory (Some (baseline.Check given computed)) is = cc

either_no_memory : (extended : Bool) (bytes : List ℕ) → fault_in extended bytes ≡ Some NoMemory → ⊥
either_no_memory true bytes is = long_no_memory bytes is
either_no_memory false bytes is = baseline_no_memory (fault_of bytes) is

pub never_memory : (bytes : List ℕ) → any_fault_of bytes ≡ Some NoMemory → ⊥
unfolding any_fault_of
never_memory bytes is = either_no_memory (is_extended bytes) bytes is
