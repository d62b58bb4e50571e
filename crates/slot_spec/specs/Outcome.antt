-- The deciding write of a request, and the slots that a cut or a failure at a device call leaves,
-- by the call's number.
use Rattle.std.specs.Prelude.{◌≡◌, ℕ, ◌+◌, ◌%◌, ◌==◌, if◌then◌else◌, nat_lt, nat_le, false, List, Option, Some}
use Rattle.slot_spec.specs.declared.Pick.{Pick}
use Rattle.slot_spec.specs.declared.Pick.TheVariants.{Old, New, Byte}
use Rattle.slot_spec.specs.declared.Trap.{Trap}
use Rattle.slot_spec.specs.declared.Trap.TheVariants.{Fuse, Fail, Clear}
use Rattle.slot_spec.specs.Slots.{SlotPair, Change, after_change, Keep, with_committed}
use Rattle.slot_spec.specs.Slots as change
use Rattle.slot_spec.specs.Layout.{open_gate}
use Rattle.slot_spec.specs.Rig.{Rigged, fuse_is_spent}

-- the number of the deciding write among the request's device calls; a request that keeps the slots
-- has none
abbrev pub deciding_call : Change → ℕ
deciding_call Keep = 0
deciding_call (change.Clear target) = 1
deciding_call (change.Seal target image) = 3
deciding_call (change.Commit slot) = 1

-- how far a request came, against its deciding write: before it, while it is pending, or after it
pub data Reach : Type 0 where
  Before : Reach
  Pending : Reach
  After : Reach

-- the write is pending from its own call to the sync after it
abbrev pub reach : ℕ → Trap → Reach
reach w Clear = After
reach w (Fuse call pick) = if nat_lt call w then Before
    else (if nat_le call (w + 1) then Pending else After)
reach w (Fail call) = if nat_le call w then Before
    else (if nat_le call (w + 1) then Pending else After)

-- what a cut leaves while the deciding write is pending, by what the cut gives to its byte
abbrev pub slots_pending : Change → SlotPair → Pick → SlotPair
slots_pending change s Old = s
slots_pending change s New = after_change change s
slots_pending Keep s (Byte b) = s
slots_pending (change.Clear target) s (Byte b) = if b == open_gate then s
    else after_change (change.Clear target) s
slots_pending (change.Seal target image) s (Byte b) =
    if b == open_gate then after_change (change.Seal target image) s else s
slots_pending (change.Commit slot) s (Byte b) = with_committed (b % 2) s

-- what a cut leaves of a request that came so far
abbrev pub slots_left : Reach → Change → SlotPair → Pick → SlotPair
slots_left Before change s pick = s
slots_left Pending change s pick = slots_pending change s pick
slots_left After change s pick = after_change change s

-- what the disk then reads as
abbrev pub slots_read : Reach → Change → SlotPair → SlotPair
slots_read Before change s = s
slots_read Pending change s = after_change change s
slots_read After change s = after_change change s

-- what a cut with this pick leaves after a request over this trap
abbrev pub outcome : Change → SlotPair → Trap → Pick → SlotPair
outcome change s trap pick = slots_left (reach (deciding_call change) trap) change s pick

-- After a request that came so far: what a cut with each pick would leave has P with the slots that
-- it leaves. So has what the disk reads as, unless a fuse was reached; then nothing is said of what
-- it reads as.
pub record LeftAs (P : List ℕ → SlotPair → Type 0) (far : Reach) (change : Change) (s : SlotPair)
    (after : Rigged) : Type 0 where
  pub cuts : (pick : Pick) → P (after.cut pick) (slots_left far change s pick)
  pub reads : fuse_is_spent after.trap ≡ false → P after.bytes (slots_read far change s)

-- the same of a disk that tells it, after a request over this trap
abbrev pub Leaves : (List ℕ → SlotPair → Type 0) → Change → SlotPair → Trap → Option Rigged → Type 0
Leaves P change s trap now = (after : Rigged) × (now ≡ Some after)
    × LeftAs P (reach (deciding_call change) trap) change s after
