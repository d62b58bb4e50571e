-- The count of faults of a disk over the calls of its store.
use Rattle.std.proofs.Common.{◌≡◌, ◌⊎◌, inl, inr, ℕ, Bool, true, false, Option, Some, None}
use Rattle.std.proofs.Common.{◌&&◌, not, refl, sym, ◌∙◌, subst, arith}
use Rattle.omci_core.specs.Causes.{Rose}
use Rattle.image_store.specs.declared.state.State.{State}
use Rattle.image_store.specs.declared.state.State.TheVariants as form
use Rattle.image_store.specs.Stands.{Kept, state_disk}
use Rattle.image_store.specs.Carries.{Caused}
use Rattle.image_store.specs.Counts.{Counted, StateCounts, StoreCounts, held_faults, held_broken}

-- what is said by a fault is said of the count
pub caused : (fails : Bool) (before now : ℕ) → (fails ≡ true → Rose before now)
    → (fails ≡ false → now ≡ before) → Caused fails before now
caused true before now rose kept = rose refl
caused false before now rose kept = kept refl

-- no call
pub counted_same : (before : ℕ) → Counted before before
counted_same before = inl refl

-- a call
pub caused_counts : (fails : Bool) (before now : ℕ) → Caused fails before now → Counted before now
caused_counts true before now rose = inr rose
caused_counts false before now same = inl same

-- one call after another
pub counted_then : (a b c : ℕ) → Counted a b → Counted b c → Counted a c
counted_then a b c (inl is) (inl next) = inl (next ∙ is)
counted_then a b c (inl is) (inr rose) = inr (subst (λ (n : ℕ). Rose n c) is rose)
counted_then a b c (inr rose) (inl next) = inr (subst (λ (n : ℕ). Rose a n) (sym next) rose)
counted_then a b c (inr rose) (inr more) = inr (omega (arith, rose, more))

-- a count that rose in the later of two calls rose over both
pub rose_after : (a b c : ℕ) → Counted a b → Rose b c → Rose a c
rose_after a b c (inl is) rose = subst (λ (n : ℕ). Rose n c) is rose
rose_after a b c (inr more) rose = omega (arith, rose, more)

-- and so does one that rose in the earlier
pub rose_then : (a b c : ℕ) → Rose a b → Counted b c → Rose a c
rose_then a b c rose (inl is) = subst (λ (n : ℕ). Rose a n) (sym is) rose
rose_then a b c rose (inr more) = omega (arith, rose, more)

module _ {D : Type 0} (faults : D → ℕ) where
  -- a state that stays
  pub state_still : (state : State D) → StateCounts faults state state
  state_still (form.Whole slots) = refl
  state_still (form.Filling download) = refl
  state_still (form.Broken broken software) = refl

  -- a store that has another state
  pub held_counts : (old new : State D) (before after : Option (State D)) → before ≡ Some old
      → after ≡ Some new → StateCounts faults old new
      → Caused (not (held_broken before) && held_broken after) (held_faults faults before)
      (held_faults faults after)
  held_counts old new before after was is counts = rw (was, is) counts

  -- a store that stays
  held_still : (o : Option (State D)) → Caused (not (held_broken o) && held_broken o)
      (held_faults faults o) (held_faults faults o)
  held_still None = refl
  held_still (Some state) = state_still state

  pub store_same : (old new : Kept D) → new ≡ old → StoreCounts faults old new
  store_same old new is = subst (λ (s : Kept D). StoreCounts faults old s) (sym is)
      (held_still old.state)

  -- the disk of a state that a store has
  pub held_is : (o : Option (State D)) (state : State D) → o ≡ Some state
      → held_faults faults o ≡ faults (state_disk state)
  held_is o state is = rw is refl
