-- What a flash comes to, from what attach and format came to, and what the top call says of it.
use Rattle.std.proofs.Common.{◌≡◌, ℕ, Bool, true, false, List, [], ◌∷◌, length, Option, IsSome, sym, ◌∙◌, subst}
use Rattle.omci_core.specs.Causes.{Rose}
use Rattle.slot_spec.specs.declared.DiskHeader.{DiskHeader}
use Rattle.slot_spec.specs.Layout.{IsLength, StandsAt}
use Rattle.slot_spec.specs.Owner.{Settled}
use Rattle.slot_spec.specs.Rig.{Rigged, Read, Makes}
use Rattle.slot_laws.proofs.Calls.{makes-then, makes-stopped}
use Rattle.image_slots.specs.Formats.{formatted_slots, format_calls}
use Rattle.omci_top.specs.Streams.{ReadsWhole}
use Rattle.omci_top.specs.Flashes.{HoldsFlash, FlashesImage, AnswersFlash, flash_calls}
use Rattle.omci_top.specs.declared.flash.TheConstants.{FLASH_ROOM}
use Rattle.omci_top.specs.declared.status.Status.{Status}
use Rattle.omci_top.specs.declared.status.Status.TheVariants.{Done, Usage, Input, ReadFault, WriteFault, DiskFault, LinkFault, NoUnit, TooLong, NoMemory, TooLarge}

-- slots that were laid out with this room hold the flash
pub holds_flash : {D : Type 0} (seen : D → Option (List ℕ)) (may_leave : D → List ℕ → Type 0) (disk : D) (header : DiskHeader) (image : List ℕ) → header.room ≡ FLASH_ROOM → Settled seen may_leave disk header (formatted_slots image) → HoldsFlash seen may_leave image disk
holds_flash seen may_leave disk header image room settled =
    record {
      bytes = settled.bytes;
      reads = settled.reads;
      stands = subst (λ r. StandsAt r settled.bytes (formatted_slots image)) room settled.shows.stands;
      crash = λ left l. subst (λ r. StandsAt r left (formatted_slots image)) room (settled.crash left l).stands;
    }

-- the attach, and then the format's calls
attached_then : (image : List ℕ) (old middle new : Option Rigged) (failed : Bool) → Makes (Read 0 0 ∷ []) old middle false → Makes (format_calls FLASH_ROOM image) middle new failed → Makes (flash_calls image) old new failed
attached_then image old middle new failed first second = makes-then (Read 0 0 ∷ []) (format_calls FLASH_ROOM image) old middle new failed first second

-- a disk that was attached and then laid out is flashed
pub flashed_done : {D : Type 0} (seen : D → Option (List ℕ)) (may_leave : D → List ℕ → Type 0) (rig : D → Option Rigged) (faults : D → ℕ) (before attached laid_out now : D) (header : DiskHeader) (image : List ℕ) (status : Status) → status ≡ Done → now ≡ laid_out → IsLength FLASH_ROOM (length image) → header.room ≡ FLASH_ROOM → seen attached ≡ seen before → (IsSome (seen attached) → Settled seen may_leave laid_out header (formatted_slots image)) → Makes (Read 0 0 ∷ []) (rig before) (rig attached) false → Makes (format_calls FLASH_ROOM image) (rig attached) (rig laid_out) false → faults attached ≡ faults before → faults laid_out ≡ faults attached → FlashesImage seen may_leave rig faults status image before now
flashed_done seen may_leave rig faults before attached laid_out now header image status done same fits room tells settled first second kept_first kept =
    let told : IsSome (seen before) → HoldsFlash seen may_leave image laid_out =
    λ some. holds_flash seen may_leave laid_out header image room (settled (subst (λ (o : Option (List ℕ)). IsSome o) (sym tells) some)) in
    let made = attached_then image (rig before) (rig attached) (rig laid_out) false first second in
    subst (λ s. FlashesImage seen may_leave rig faults s image before now) (sym done)
    (subst (λ d. FlashesImage seen may_leave rig faults Done image before d) (sym same) (fits, told, made, kept ∙ kept_first))

-- a disk whose attach failed
pub flashed_nothing : {D : Type 0} (seen : D → Option (List ℕ)) (may_leave : D → List ℕ → Type 0) (rig : D → Option Rigged) (faults : D → ℕ) (before attached now : D) (image : List ℕ) (status : Status) → status ≡ DiskFault → now ≡ attached → IsLength FLASH_ROOM (length image) → Makes (Read 0 0 ∷ []) (rig before) (rig attached) true → Rose (faults before) (faults attached) → FlashesImage seen may_leave rig faults status image before now
flashed_nothing seen may_leave rig faults before attached now image status failed same fits first rose =
    subst (λ s. FlashesImage seen may_leave rig faults s image before now) (sym failed)
    (subst (λ d. FlashesImage seen may_leave rig faults DiskFault image before d) (sym same)
    (fits, makes-stopped (Read 0 0 ∷ []) (format_calls FLASH_ROOM image) (rig before) (rig attached) first, rose))

-- a disk whose format failed
pub flashed_in_part : {D : Type 0} (seen : D → Option (List ℕ)) (may_leave : D → List ℕ → Type 0) (rig : D → Option Rigged) (faults : D → ℕ) (before attached laid_out now : D) (image : List ℕ) (status : Status) → status ≡ DiskFault → now ≡ laid_out → IsLength FLASH_ROOM (length image) → Makes (Read 0 0 ∷ []) (rig before) (rig attached) false → Makes (format_calls FLASH_ROOM image) (rig attached) (rig laid_out) true → faults attached ≡ faults before → Rose (faults attached) (faults laid_out) → FlashesImage seen may_leave rig faults status image before now
flashed_in_part seen may_leave rig faults before attached laid_out now image status failed same fits first second kept rose =
    subst (λ s. FlashesImage seen may_leave rig faults s image before now) (sym failed)
    (subst (λ d. FlashesImage seen may_leave rig faults DiskFault image before d) (sym same)
    (fits, attached_then image (rig before) (rig attached) (rig laid_out) true first second, subst (λ n. Rose n (faults laid_out)) kept rose))

module _ {D : Type 0} (seen : D → Option (List ℕ)) (may_leave : D → List ℕ → Type 0) (rig : D → Option Rigged) (faults : D → ℕ) (before now : D) (lb ln : Option (List ℕ)) (rb rn : ℕ) where
  -- what the flash of the image that was read came to is the answer
  pub AnswersFlash-image : (s : Status) (image : List ℕ) → ReadsWhole 16777216 lb ln image → rn ≡ rb → FlashesImage seen may_leave rig faults s image before now → AnswersFlash seen may_leave rig faults s before now lb ln rb rn
  AnswersFlash-image Done image read same flashed = (record { image = image; read = read; flashed = flashed }, same)
  AnswersFlash-image Usage image read same flashed = elim flashed [ ]
  AnswersFlash-image (Input place reason) image read same flashed = elim flashed [ ]
  AnswersFlash-image ReadFault image read same flashed = elim flashed [ ]
  AnswersFlash-image WriteFault image read same flashed = elim flashed [ ]
  AnswersFlash-image DiskFault image read same flashed = (record { image = image; read = read; flashed = flashed }, same)
  AnswersFlash-image LinkFault image read same flashed = elim flashed [ ]
  AnswersFlash-image NoUnit image read same flashed = elim flashed [ ]
  AnswersFlash-image TooLong image read same flashed = elim flashed [ ]
  AnswersFlash-image NoMemory image read same flashed = elim flashed [ ]
  AnswersFlash-image TooLarge image read same flashed = (record { image = image; read = read; flashed = flashed }, same)
