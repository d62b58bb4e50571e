-- A disk whose calls can be made to fail: what it holds, what a cut of the power would leave, and
-- what each call makes of that.
use Rattle.std.specs.Prelude.{◌≡◌, ◌≤◌, ℕ, ◌+◌, ◌-◌, ◌==◌, ◌||◌, ◌&&◌, not, Bool, true, false, if◌then◌else◌, nat_le, List, [], ◌∷◌, ◌++◌, length, take, drop, replicate, Option, Some}
use Rattle.slot_spec.specs.declared.Pick.{Pick}
use Rattle.slot_spec.specs.declared.Pick.TheVariants.{Old, New, Byte}
use Rattle.slot_spec.specs.declared.Trap.{Trap}
use Rattle.slot_spec.specs.declared.Trap.TheVariants.{Fuse, Fail, Clear}

-- what a read gives; what a cut now would leave, by its pick; and the trap, with the number of
-- calls that are left until it
pub record Rigged : Type 0 where
  pub bytes : List ℕ
  pub cut : Pick → List ℕ
  pub trap : Trap

-- a call of a disk: a read of so many bytes at a place, a write of these bytes at a place, a sync
pub data Call : Type 0 where
  Read : ℕ → ℕ → Call
  Write : ℕ → List ℕ → Call
  Sync : Call

-- a trap that can be set: calls are counted from 1
abbrev pub IsTrap : Trap → Type 0
IsTrap (Fuse call pick) = 1 ≤ call
IsTrap (Fail call) = 1 ≤ call
IsTrap Clear = Unit {0}

-- whether the next call meets the trap
abbrev pub trap_is_met : Trap → Bool
trap_is_met (Fuse call pick) = nat_le call 1
trap_is_met (Fail call) = nat_le call 1
trap_is_met Clear = false

-- whether the next call is the one at which a fuse stops the power
abbrev pub fuse_is_met : Trap → Bool
fuse_is_met (Fuse call pick) = call == 1
fuse_is_met (Fail call) = false
fuse_is_met Clear = false

-- whether a fuse was reached: the power is off
abbrev pub fuse_is_spent : Trap → Bool
fuse_is_spent (Fuse call pick) = call == 0
fuse_is_spent (Fail call) = false
fuse_is_spent Clear = false

-- the trap after one more call
abbrev pub trap_after : Trap → Trap
trap_after (Fuse call pick) = Fuse (call - 1) pick
trap_after (Fail call) = if nat_le call 1 then Clear else Fail (call - 1)
trap_after Clear = Clear

-- these bytes in the place of those that stood there
abbrev pub with_bytes : ℕ → List ℕ → List ℕ → List ℕ
with_bytes at new bytes = take at bytes ++ (new ++ drop (at + length new) bytes)

-- what a cut would leave once a write was begun
abbrev pub cut_with_bytes : ℕ → List ℕ → (Pick → List ℕ) → Pick → List ℕ
cut_with_bytes at new cut Old = cut Old
cut_with_bytes at new cut New = with_bytes at new (cut New)
cut_with_bytes at new cut (Byte b) = with_bytes at (replicate (length new) b) (cut (Byte b))

-- whether a range lies in the disk
abbrev pub in_disk : ℕ → ℕ → Rigged → Bool
in_disk at count r = nat_le (at + count) (length r.bytes)

-- whether a call fails: the trap is met, or its range ends past the disk
abbrev pub call_fails : Call → Rigged → Bool
call_fails (Read at count) r = trap_is_met r.trap || not (in_disk at count r)
call_fails (Write at new) r = trap_is_met r.trap || not (in_disk at (length new) r)
call_fails Sync r = trap_is_met r.trap

-- after a write: whether it is done, and whether it counts for a cut
abbrev pub after_write : ℕ → List ℕ → Bool → Bool → Rigged → Rigged
after_write at new done counts r =
    record {
      bytes = if done then with_bytes at new r.bytes else r.bytes;
      cut = if counts then cut_with_bytes at new r.cut else r.cut;
      trap = trap_after r.trap;
    }

-- the disk after one call: a write at a fuse's call counts for a cut, and a read doesn't give it
abbrev pub after_call : Call → Rigged → Rigged
after_call (Read at count) r = record { bytes = r.bytes; cut = r.cut; trap = trap_after r.trap }
after_call (Write at new) r =
    after_write at new (not (trap_is_met r.trap) && in_disk at (length new) r)
    ((not (trap_is_met r.trap) || fuse_is_met r.trap) && in_disk at (length new) r) r
after_call Sync r = record {
  bytes = r.bytes;
  cut = if trap_is_met r.trap then r.cut else (λ pick. r.bytes);
  trap = trap_after r.trap;
}

-- the disk after these calls, of which the first that fails is the last one made
unfoldable pub after_calls : List Call → Rigged → Rigged
after_calls [] r = r
after_calls (call ∷ calls) r = if call_fails call r then after_call call r
    else after_calls calls (after_call call r)

-- whether one of these calls fails
unfoldable pub calls_fail : List Call → Rigged → Bool
calls_fail [] r = false
calls_fail (call ∷ calls) r = if call_fails call r then true
    else calls_fail calls (after_call call r)

-- where the disk tells it: these calls were made up to the first that failed and no other, and the
-- answer is a fault exactly where one failed
abbrev pub Makes : List Call → Option Rigged → Option Rigged → Bool → Type 0
Makes calls old new failed = (r : Rigged) → old ≡ Some r → (new ≡ Some (after_calls calls r))
    × (failed ≡ calls_fail calls r)

-- what a disk reads as and what a cut with each pick would leave have P with the slots
pub record RigHolds {S : Type 0} (P : List ℕ → S → Type 0) (s : S) (r : Rigged) : Type 0 where
  pub reads : P r.bytes s
  pub cuts : (pick : Pick) → P (r.cut pick) s

-- the pick of a fuse; without one a cut leaves the new bytes
abbrev pub pick_of : Trap → Pick
pick_of (Fuse call pick) = pick
pick_of (Fail call) = New
pick_of Clear = New

-- a fuse that was reached is spent once the power is back; any other trap stays
abbrev pub trap_after_restore : Trap → Trap
trap_after_restore (Fuse call pick) = if call == 0 then Clear else Fuse call pick
trap_after_restore (Fail call) = Fail call
trap_after_restore Clear = Clear

-- the power comes back: what a cut with the fuse's pick leaves is what a read gives, and a cut with
-- each pick leaves it so
abbrev pub power_restored : Rigged → Rigged
power_restored r = record {
  bytes = r.cut (pick_of r.trap);
  cut = λ pick. r.cut (pick_of r.trap);
  trap = trap_after_restore r.trap;
}
