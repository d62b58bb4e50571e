-- Open gates have an image in their slot: what a write leaves of that.
use Rattle.std.proofs.Common.{◌≡◌, ℕ, zero, suc, ◌<◌, List, Option, IsSome, sym, ◌∙◌, arith}
use Rattle.slot_spec.specs.Crash.{field}
use Rattle.slot_spec.specs.Slots.{SlotPair, with_image}
use Rattle.slot_spec.specs.Layout.{gate_place, IsOpen, GatesHold}
use Rattle.slot_laws.proofs.Kept.{other_slot}
use Rattle.slot_laws.proofs.Fill.{Behind}

-- both gates are as they were, and so are the images
pub gates_same : (old new : List ℕ) (s t : SlotPair) → field (gate_place 0) 1 new ≡ field (gate_place 0) 1 old → field (gate_place 1) 1 new ≡ field (gate_place 1) 1 old → (IsSome s.first → IsSome t.first) → (IsSome s.second → IsSome t.second) → GatesHold old s → GatesHold new t
gates_same old new s t first second one two gates = record {
  first_gate = λ opened. one (gates.first_gate (sym first ∙ opened));
  second_gate = λ opened. two (gates.second_gate (sym second ∙ opened));
}

-- all but one slot is as it was
pub gates_with : (slot : ℕ) (image : Option (List ℕ)) (s : SlotPair) (old new : List ℕ) → slot < 2 → field (gate_place (other_slot slot)) 1 new ≡ field (gate_place (other_slot slot)) 1 old → (IsOpen slot new → IsSome image) → GatesHold old s → GatesHold new (with_image slot image s)
gates_with zero image s old new below other some gates = record { first_gate = some; second_gate = λ opened. gates.second_gate (sym other ∙ opened) }
gates_with (suc zero) image s old new below other some gates = record { first_gate = λ opened. gates.first_gate (sym other ∙ opened); second_gate = some }
gates_with (suc (suc _)) image s old new below other some gates = absurd (omega arith)

-- a write behind a closed gate
pub gates_behind : (room slot : ℕ) (s : SlotPair) (old new : List ℕ) → slot < 2 → Behind room slot old new → GatesHold old s → GatesHold new s
gates_behind room zero s old new below behind gates = gates_same old new s s behind.gate behind.other.gate (λ i. i) (λ i. i) gates
gates_behind room (suc zero) s old new below behind gates = gates_same old new s s behind.other.gate behind.gate (λ i. i) (λ i. i) gates
gates_behind room (suc (suc _)) s old new below behind gates = absurd (omega arith)

-- a gate that is open before and after
pub gates_open : (slot : ℕ) (s : SlotPair) (old new : List ℕ) → slot < 2 → field (gate_place (other_slot slot)) 1 new ≡ field (gate_place (other_slot slot)) 1 old → IsOpen slot old → IsOpen slot new → GatesHold old s → GatesHold new s
gates_open zero s old new below other before after gates = gates_same old new s s (after ∙ sym before) other (λ i. i) (λ i. i) gates
gates_open (suc zero) s old new below other before after gates = gates_same old new s s other (after ∙ sym before) (λ i. i) (λ i. i) gates
gates_open (suc (suc _)) s old new below other before after gates = absurd (omega arith)
