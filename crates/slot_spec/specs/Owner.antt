-- What the owner of a disk of slots may rely on.
use Rattle.std.specs.Prelude.{◌≡◌, ◌≢◌, ◌↔◌, ◌≤◌, ℕ, true, false, List, length, Option, Some}
use Rattle.std.specs.Option.{option_map}
use Rattle.slot_spec.specs.declared.SlotHeader.{SlotHeader}
use Rattle.slot_spec.specs.declared.DiskHeader.{DiskHeader}
use Rattle.slot_spec.specs.Crash.{field, Written}
use Rattle.slot_spec.specs.Slots.{SlotPair}
use Rattle.slot_spec.specs.Layout.{IsOpen, image_place, StandsAt}
use Rattle.slot_spec.specs.Header.{view_of, slot_header}

-- a slot's header is right for its image and for the disk's bytes
pub record ShowsSlot (slot : ℕ) (header : SlotHeader) (image : Option (List ℕ)) (bytes : List ℕ)
    : Type 0 where
  pub view_is : header.view ≡ option_map view_of image
  pub open_is : (header.opened ≡ true) ↔ IsOpen slot bytes

-- the bytes stand for the slots, and the header is right for both
pub record Shows (header : DiskHeader) (s : SlotPair) (bytes : List ℕ) : Type 0 where
  pub stands : StandsAt header.room bytes s
  pub committed_is : header.committed ≡ s.committed
  pub first : ShowsSlot 0 header.first s.first bytes
  pub second : ShowsSlot 1 header.second s.second bytes

-- The disk reads as bytes that stand for the slots, each crash leaves such bytes, and the header is
-- right for all of them.
pub record Settled {D : Type 0} (seen : D → Option (List ℕ)) (may_leave : D → List ℕ → Type 0)
    (disk : D) (header : DiskHeader) (s : SlotPair) : Type 0 where
  pub bytes : List ℕ
  pub reads : seen disk ≡ Some bytes
  pub shows : Shows header s bytes
  pub crash : (image : List ℕ) → may_leave disk image → Shows header s image

-- The same while an image is put into a slot that isn't committed: so much of it stands there,
-- behind a closed gate.
pub record Filling {D : Type 0} (seen : D → Option (List ℕ)) (may_leave : D → List ℕ → Type 0)
    (disk : D) (header : DiskHeader) (target : ℕ) (s : SlotPair) (put : List ℕ) : Type 0 where
  pub settled : Settled seen may_leave disk header s
  pub shut : (slot_header target header).opened ≡ false
  pub other : target ≢ header.committed
  pub fits : length put ≤ header.room
  pub stands_there : field (image_place header.room target) (length put) settled.bytes ≡ put

-- After a write and its sync: a read gives the bytes in their range, and a crash leaves nothing but
-- what a read gives.
pub record Stored {D : Type 0} (seen : D → Option (List ℕ)) (may_leave : D → List ℕ → Type 0)
    (at : ℕ) (bytes was : List ℕ) (disk : D) : Type 0 where
  pub now : List ℕ
  pub reads : seen disk ≡ Some now
  pub written : Written at bytes was now
  pub only : (image : List ℕ) → may_leave disk image → image ≡ now
