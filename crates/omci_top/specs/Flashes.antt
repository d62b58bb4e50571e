-- What each answer of a flash says of the source and of the disk.
use Rattle.std.specs.Prelude.{ℕ, ◌≡◌, ◌⊎◌, ◌<◌, true, false, List, ◌∷◌, length, Option, Some, IsSome}
use Rattle.omci_core.specs.Causes.{Rose}
use Rattle.slot_spec.specs.Layout.{IsLength, StandsAt}
use Rattle.slot_spec.specs.Rig.{Rigged, Call, Read, Makes}
use Rattle.image_slots.specs.Formats.{formatted_slots, format_calls}
use Rattle.omci_top.specs.Streams.{ReadsWhole, ReadsPast}
use Rattle.omci_top.specs.declared.flash.TheConstants.{FLASH_ROOM}
use Rattle.omci_top.specs.declared.status.Status.{Status}
use Rattle.omci_top.specs.declared.status.Status.TheVariants.{Done, Usage, Input, ReadFault, WriteFault, DiskFault, LinkFault, NoUnit, TooLong, NoMemory, TooLarge}
use Rattle.omci_top.specs.declared.streams.TheConstants.{LARGEST_INPUT}

-- The disk reads as bytes that stand for the image in slot 0, which is committed, and none in slot
-- 1, with a room of 1,048,576 bytes each; and so does what each crash leaves.
pub record HoldsFlash {D : Type 0} (seen : D → Option (List ℕ)) (may_leave : D → List ℕ → Type 0)
    (image : List ℕ) (disk : D) : Type 0 where
  pub bytes : List ℕ
  pub reads : seen disk ≡ Some bytes
  pub stands : StandsAt FLASH_ROOM bytes (formatted_slots image)
  pub crash : (left : List ℕ) → may_leave disk left
      → StandsAt FLASH_ROOM left (formatted_slots image)

-- an image that a slot has no room for
abbrev pub IsTooLarge : List ℕ → Type 0
IsTooLarge image = (length image ≡ 0) ⊎ (FLASH_ROOM < length image)

-- the device calls of a flash: the attach, which counts as a read of nothing, and the format's
abbrev pub flash_calls : List ℕ → List Call
flash_calls image = Read 0 0 ∷ format_calls FLASH_ROOM image

-- of a disk by what it tells: what a read gives, what a crash may leave, its rig, and its count of
-- faults
module _ {D : Type 0} (seen : D → Option (List ℕ)) (may_leave : D → List ℕ → Type 0)
    (rig : D → Option Rigged) (faults : D → ℕ) where
  -- What the flash of an image comes to at the disk, by its answer. No other answer comes.
  abbrev pub FlashesImage : Status → List ℕ → (before now : D) → Type 0
  FlashesImage Done image before now =
      IsLength FLASH_ROOM (length image)
      × (IsSome (seen before) → HoldsFlash seen may_leave image now)
      × Makes (flash_calls image) (rig before) (rig now) false × (faults now ≡ faults before)
  FlashesImage DiskFault image before now =
      IsLength FLASH_ROOM (length image)
      × Makes (flash_calls image) (rig before) (rig now) true × Rose (faults before) (faults now)
  FlashesImage TooLarge image before now = IsTooLarge image × (now ≡ before)
  FlashesImage _ image before now = ⊥

  -- the source was read to its end, and the image that it gave was flashed with this answer
  pub record FlashesWhole (status : Status) (before now : D)
      (left_before left_now : Option (List ℕ)) : Type 0 where
    pub image : List ℕ
    pub read : ReadsWhole LARGEST_INPUT left_before left_now image
    pub flashed : FlashesImage status image before now

  -- What a flash comes to, by its answer. A command line that is a flash's isn't answered by Usage.
  abbrev pub AnswersFlash : Status → (before now : D) (left_before left_now : Option (List ℕ))
      (read_before read_now : ℕ) → Type 0
  AnswersFlash Done before now left_before left_now read_before read_now =
      FlashesWhole Done before now left_before left_now × (read_now ≡ read_before)
  AnswersFlash Usage before now left_before left_now read_before read_now = ⊥
  AnswersFlash (Input place reason) before now left_before left_now read_before read_now = ⊥
  AnswersFlash ReadFault before now left_before left_now read_before read_now =
      Rose read_before read_now × (now ≡ before)
  AnswersFlash WriteFault before now left_before left_now read_before read_now = ⊥
  AnswersFlash DiskFault before now left_before left_now read_before read_now =
      FlashesWhole DiskFault before now left_before left_now × (read_now ≡ read_before)
  AnswersFlash LinkFault before now left_before left_now read_before read_now = ⊥
  AnswersFlash NoUnit before now left_before left_now read_before read_now = ⊥
  AnswersFlash TooLong before now left_before left_now read_before read_now =
      ReadsPast LARGEST_INPUT left_before left_now × (read_now ≡ read_before) × (now ≡ before)
  AnswersFlash NoMemory before now left_before left_now read_before read_now =
      (read_now ≡ read_before) × (now ≡ before)
  AnswersFlash TooLarge before now left_before left_now read_before read_now =
      FlashesWhole TooLarge before now left_before left_now × (read_now ≡ read_before)
