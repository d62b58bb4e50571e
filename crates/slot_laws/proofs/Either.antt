-- A cut leaves the slots before the request or those after it.
use Rattle.std.proofs.Common.{◌≡◌, ◌≢◌, ◌⊎◌, inl, inr, ℕ, ◌%◌, ◌==◌, ◌<◌, Bool, true, false, if◌then◌else◌, refl, ap, arith}
use Rattle.std.proofs.lemmas.Bool.{cases_eq}
use Rattle.slot_spec.specs.declared.Pick.{Pick}
use Rattle.slot_spec.specs.declared.Pick.TheVariants.{Old, New, Byte}
use Rattle.slot_spec.specs.declared.Trap.{Trap}
use Rattle.slot_spec.specs.Slots.{SlotPair, Change, Keep, Clear as ClearSlot, Seal, Commit, after_change, with_committed}
use Rattle.slot_spec.specs.Layout.{open_gate}
use Rattle.slot_spec.specs.Outcome.{Reach, Before, Pending, After, reach, deciding_call, slots_pending, slots_left, outcome}

abbrev Either : Change → SlotPair → SlotPair → Type 0
Either change s t = (t ≡ s) ⊎ (t ≡ after_change change s)

-- by a test, one of two
one_of : (change : Change) (s a b : SlotPair) (test : Bool) → Either change s a → Either change s b → Either change s (if test then a else b)
one_of change s a b true left right = left
one_of change s a b false left right = right

with_committed-same : (s : SlotPair) (k : ℕ) → k ≡ s.committed → with_committed k s ≡ s
with_committed-same s k is = λ i. record { first = s.first; second = s.second; committed = is i }

pending_either : (change : Change) (s : SlotPair) (pick : Pick) → s.committed < 2 → ((slot : ℕ) → change ≡ Commit slot → (slot < 2) × (slot ≢ s.committed)) → Either change s (slots_pending change s pick)
pending_either change s Old low slots = inl refl
pending_either change s New low slots = inr refl
pending_either Keep s (Byte b) low slots = inl refl
pending_either (ClearSlot target) s (Byte b) low slots = one_of (ClearSlot target) s s (after_change (ClearSlot target) s) (b == open_gate) (inl refl) (inr refl)
pending_either (Seal target image) s (Byte b) low slots = one_of (Seal target image) s (after_change (Seal target image) s) s (b == open_gate) (inr refl) (inl refl)
pending_either (Commit slot) s (Byte b) low slots = elim (cases_eq (b % 2) s.committed) [
  | inl same ↦ inl (with_committed-same s (b % 2) same)
  | inr differs ↦ let at = slots slot refl in inr (ap (λ (k : ℕ). with_committed k s) (omega (arith, low, at.0, at.1, differs)))
]

left_either : (far : Reach) (change : Change) (s : SlotPair) (pick : Pick) → s.committed < 2 → ((slot : ℕ) → change ≡ Commit slot → (slot < 2) × (slot ≢ s.committed)) → Either change s (slots_left far change s pick)
left_either Before change s pick low slots = inl refl
left_either Pending change s pick low slots = pending_either change s pick low slots
left_either After change s pick low slots = inr refl

pub outcome_either : (change : Change) (s : SlotPair) (trap : Trap) (pick : Pick) → s.committed < 2 → ((slot : ℕ) → change ≡ Commit slot → (slot < 2) × (slot ≢ s.committed)) → Either change s (outcome change s trap pick)
outcome_either change s trap pick low slots = left_either (reach (deciding_call change) trap) change s pick low slots
