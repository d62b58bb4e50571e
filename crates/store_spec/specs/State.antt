-- What a store holds.
use Rattle.std.specs.Prelude.{ℕ, ◌-◌, ◌&&◌, Bool, false, if◌then◌else◌, nat_lt, List}
use Rattle.std.specs.Prelude.{length, Option, None}
use Rattle.std.specs.Option.{is_some, option_map}
use Rattle.omci_types.specs.declared.Boot.{Boot}
use Rattle.omci_types.specs.declared.Boot.TheVariants.{PowerUp, Activated}
use Rattle.omci_types.specs.declared.Software.{Software}
use Rattle.slot_spec.specs.Slots.{SlotPair, Change, Keep, image_at}
use Rattle.slot_spec.specs.Header.{view_of}
use Rattle.window_spec.specs.Incoming.{Section, Window, after_section, cut_window}
use Rattle.store_spec.specs.declared.TheConstants.{IMAGES}

-- a download that runs: the slot that the image is put into, the image's size, the most sections
-- of a window, the bytes that were put so far, and what is held of the window that comes, its bytes
-- cut where the image ends
pub record Loading : Type 0 where
  pub target : ℕ
  pub size : ℕ
  pub granted : ℕ
  pub put : List ℕ
  pub window : Window

-- the same, by what is held before it is cut
abbrev pub loading_of : (target size granted : ℕ) → List ℕ → Window → Loading
loading_of target size granted put window =
    record {
      target = target;
      size = size;
      granted = granted;
      put = put;
      window = cut_window (size - length put) window;
    }

-- A store. The active slot is the one that the unit runs. A store is broken once a device call
-- failed in it: the slots are then those before that request, and the change is what the request
-- may have made of them. A store that is whole has no change in doubt.
pub record StoreState : Type 0 where
  pub slots : SlotPair
  pub active : ℕ
  pub doubt : Change
  pub broken : Bool
  pub download : Option Loading

-- whether a slot has an image
abbrev pub has_image : ℕ → SlotPair → Bool
has_image slot s = is_some (image_at slot s)

-- the slot that a unit runs: the activated one where it has an image, else the committed one
abbrev pub slot_to_run : Boot → SlotPair → ℕ
slot_to_run PowerUp s = s.committed
slot_to_run (Activated slot) s = if nat_lt slot IMAGES && has_image slot s then slot else
    s.committed

-- the store of a unit that starts
abbrev pub store_started : Boot → SlotPair → StoreState
store_started boot s = record {
  slots = s;
  active = slot_to_run boot s;
  doubt = Keep;
  broken = false;
  download = None;
}

-- the software images as they are shown in the unit's database, where this slot is active
abbrev pub software_in : ℕ → SlotPair → Software
software_in active s = record {
  first = option_map view_of s.first;
  second =
      option_map view_of s.second;
  committed = s.committed;
  active = active;
}

abbrev pub software_of : StoreState → Software
software_of m = software_in m.active m.slots

-- so many bytes of the image are still to come
abbrev pub bytes_left : Loading → ℕ
bytes_left l = l.size - length l.put

-- what is held once a section has come
abbrev pub window_after : Section → Loading → Window
window_after s l = cut_window (bytes_left l) (after_section s l.window)
