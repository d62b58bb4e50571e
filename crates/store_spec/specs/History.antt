-- The history of a store, newest first; what it says of each slot; and the slots that it lets a
-- unit start with.
use Rattle.std.specs.Prelude.{◌≡◌, ℕ, zero, suc, Bool, true, false, List, [], ◌∷◌, ◌++◌, Option}
use Rattle.std.specs.Prelude.{Some, None}
use Rattle.frame_spec.specs.Checksum.{crc}
use Rattle.slot_spec.specs.Slots.{SlotPair, image_at}
use Rattle.slot_spec.specs.Layout.{StandsAt}

pub data StoreEntry : Type 0 where
  -- an end has passed its last test, before its first device call: this image is for the slot, and
  -- this check value came with it
  Checked : (slot : ℕ) (image : List ℕ) (check : ℕ) → StoreEntry
  -- a commit of the slot, which isn't the committed one, has passed its tests, before its first
  -- device call
  CommitBegun : (slot : ℕ) → StoreEntry
  -- a commit of the slot was carried out
  Committed : (slot : ℕ) → StoreEntry

-- What a history says of a slot: the image of its last check, or that of the beginning; the check
-- value that came with it; whether a commit of it was begun since that check, or since the
-- beginning, where the committed slot counts as such; and whether it is the one that was committed
-- last, or a commit of it was begun since that.
pub record Papers : Type 0 where
  pub image : Option (List ℕ)
  pub check : Option ℕ
  pub begun : Bool
  pub named : Bool

-- the papers of both slots
pub record Ledger : Type 0 where
  pub first : Papers
  pub second : Papers

abbrev pub papers_at : ℕ → Ledger → Papers
papers_at zero l = l.first
papers_at (suc _) l = l.second

abbrev pub with_papers : ℕ → Papers → Ledger → Ledger
with_papers zero p l = record { first = p; second = l.second }
with_papers (suc _) p l = record { first = l.first; second = p }

abbrev pub is_first : ℕ → Bool
is_first zero = true
is_first (suc _) = false

abbrev pub is_second : ℕ → Bool
is_second zero = false
is_second (suc _) = true

-- the papers after an entry
abbrev pub with_entry : StoreEntry → Ledger → Ledger
with_entry (Checked slot image check) l =
    with_papers slot (record {
      image = Some image;
      check = Some check;
      begun = false;
      named =
          (papers_at slot l).named;
    }) l
with_entry (CommitBegun slot) l =
    with_papers slot (record {
      image = (papers_at slot l).image;
      check =
          (papers_at slot l).check;
      begun = true;
      named = true;
    }) l
with_entry (Committed slot) l =
    record {
      first = record l.first { named = is_first slot };
      second =
          record l.second { named = is_second slot };
    }

abbrev pub with_entries : List StoreEntry → Ledger → Ledger
with_entries [] l = l
with_entries (entry ∷ older) l = with_entry entry (with_entries older l)

-- the papers at the beginning
abbrev pub first_ledger : SlotPair → Ledger
first_ledger s =
    record {
      first = record {
        image = s.first;
        check = None;
        begun = is_first s.committed;
        named =
            is_first s.committed;
      };
      second = record {
        image = s.second;
        check = None;
        begun = is_second s.committed;
        named =
            is_second s.committed;
      };
    }

-- the papers after a history that began with these slots
abbrev pub ledger : SlotPair → List StoreEntry → Ledger
ledger s0 h = with_entries h (first_ledger s0)

-- a check value, where one came, is that of the image
abbrev pub IsCheck : Option ℕ → List ℕ → Type 0
IsCheck None image = Unit {0}
IsCheck (Some check) image = check ≡ crc image

-- Papers let a unit start with these slots: the committed slot was committed last, or a commit of
-- it was begun since. It holds an image, which is that of its papers, with the check value of it,
-- and a commit was begun since that check.
pub record BootableBy (l : Ledger) (s : SlotPair) : Type 0 where
  pub image : List ℕ
  pub there : image_at s.committed s ≡ Some image
  pub named : (papers_at s.committed l).named ≡ true
  pub begun : (papers_at s.committed l).begun ≡ true
  pub same : (papers_at s.committed l).image ≡ Some image
  pub checked : IsCheck (papers_at s.committed l).check image

-- a history that began with the slots `s0` lets a unit start with the slots `s`
abbrev pub Bootable : List StoreEntry → SlotPair → SlotPair → Type 0
Bootable h s0 s = BootableBy (ledger s0 h) s

-- bytes stand for slots that a history lets a unit start with
abbrev pub Boots : ℕ → SlotPair → List StoreEntry → List ℕ → Type 0
Boots room s0 h bytes = (s : SlotPair) × StandsAt room bytes s × Bootable h s0 s

-- the same of some older part of the history
pub record BootsEver (room : ℕ) (s0 : SlotPair) (h : List StoreEntry)
    (bytes : List ℕ) : Type 0 where
  pub newer : List StoreEntry
  pub older : List StoreEntry
  pub whole : h ≡ newer ++ older
  pub boots : Boots room s0 older bytes
