-- The tests of a begin and of a seal, where they fail.
use Rattle.std.proofs.Common.{◌≡◌, ◌≢◌, ◌⊎◌, inl, inr, ℕ, ◌<◌, ◌&&◌, ◌==◌, not, Bool, true, false, nat_le, refl, arith}
use Rattle.std.proofs.lemmas.Bool.{eq-eqb, ne_eqb, lt-leb}
use Rattle.slot_spec.specs.declared.DiskHeader.{DiskHeader}
use Rattle.image_slots.specs.Answers.{begin_tests, seal_tests}

pub and_false : (a : Bool) → (a && false) ≡ false
and_false true = refl
and_false false = refl

pub begin_used : (slot size : ℕ) (header : DiskHeader) → slot ≡ header.committed → begin_tests slot size header ≡ false
begin_used slot size header same = rw (eq-eqb slot header.committed same) refl

pub begin_size : (slot size : ℕ) (header : DiskHeader) → (size ≡ 0) ⊎ (header.room < size) → begin_tests slot size header ≡ false
begin_size slot size header (inl none) = rw (lt-leb 1 size (omega (arith, none))) (and_false (not (slot == header.committed)))
begin_size slot size header (inr past) = rw (lt-leb size header.room past, and_false (nat_le 1 size)) (and_false (not (slot == header.committed)))

pub seal_size : (check given have size computed : ℕ) → (have ≢ size) ⊎ (given ≢ have) → seal_tests check given have size computed ≡ false
seal_size check given have size computed (inl differs) = rw (ne_eqb have size differs) refl
seal_size check given have size computed (inr differs) = rw (ne_eqb given have differs, and_false (have == size)) refl

pub seal_check : (check given have size computed : ℕ) → computed ≢ check → seal_tests check given have size computed ≡ false
seal_check check given have size computed differs = rw (ne_eqb computed check differs) (and_false (have == size && given == have))

pub format_size : (size room : ℕ) → (size ≡ 0) ⊎ (room < size) → (nat_le 1 size && nat_le size room) ≡ false
format_size size room (inl none) = rw (lt-leb 1 size (omega (arith, none))) refl
format_size size room (inr past) = rw (lt-leb size room past) (and_false (nat_le 1 size))
