-- What a request comes to: the tests of its row in their order, and then one deed.
use Rattle.std.specs.Prelude.{ℕ, ◌-◌, ◌*◌, ◌+◌, ◌==◌, ◌&&◌, ◌||◌, not, Bool, true, false}
use Rattle.std.specs.Prelude.{if◌then◌else◌, min, nat_le, nat_lt, List, [], ◌∷◌, ◌++◌, length}
use Rattle.std.specs.Prelude.{Option, Some, None}
use Rattle.omci_types.specs.declared.EntityId.{EntityId}
use Rattle.omci_types.specs.declared.TheConstants.Code.{SUCCESS, PROCESSING_ERROR, NOT_SUPPORTED}
use Rattle.omci_types.specs.declared.TheConstants.Code.{PARAMETER_ERROR, UNKNOWN_CLASS}
use Rattle.omci_types.specs.declared.TheConstants.Code.{UNKNOWN_INSTANCE}
use Rattle.message_spec.specs.declared.Request.{Request}
use Rattle.message_spec.specs.declared.Request.TheVariants as request
use Rattle.mib_spec.specs.Requests.{first_code, is_class}
use Rattle.frame_spec.specs.Checksum.{crc}
use Rattle.slot_spec.specs.Slots.{SlotPair}
use Rattle.window_spec.specs.declared.TheConstants.{SECTION_BYTES}
use Rattle.window_spec.specs.declared.Arrived.{Arrived}
use Rattle.window_spec.specs.declared.Arrived.TheVariants as arrived
use Rattle.window_spec.specs.Incoming.{Section, section, Window, answer}
use Rattle.window_spec.specs.declared.TheConstants.{IMAGE_CLASS}
use Rattle.store_spec.specs.declared.TheConstants.{IMAGES, MOST_GRANTED, MOST_TARGETS}
use Rattle.store_spec.specs.State.{Loading, StoreState, has_image, window_after}

pub data Deed : Type 0 where
  -- nothing: the request asks nothing of the store
  Ignore : Deed
  -- the request is refused by this code, and nothing changes
  Refuse : (code : ℕ) → Deed
  -- a window is refused by this code: what is held of it is let go
  RefuseWindow : (code : ℕ) → Deed
  -- the download ends, by this code, with nothing in its slot
  GiveUp : (code : ℕ) → Deed
  -- an earlier download is abandoned, and one begins
  Begin : (slot size granted : ℕ) → Deed
  -- a section is held, with the window as it then is
  Hold : (window : Window) → Deed
  -- the window's bytes join the download, which then has these bytes
  Put : (bytes : List ℕ) → Deed
  -- the download is whole, and its slot holds the image
  Seal : (slot : ℕ) (image : List ℕ) → Deed
  -- a slot is activated; the unit leaves unless it runs that slot already
  Activate : (leaves : Bool) → Deed
  -- the other slot is committed
  Commit : (slot : ℕ) → Deed
  -- the committed slot is committed again
  Recommit : (slot : ℕ) → Deed

-- a deed, unless a test before it gave another code than 0
abbrev pub unless_refused : (ℕ → Deed) → ℕ → Deed → Deed
unless_refused refuse code deed = if code == SUCCESS.0 then deed else refuse code

-- a request that asks for no reply is dropped, whatever code its tests give
abbrev pub ignore : ℕ → Deed
ignore code = Ignore

-- the tests that each request begins with: its entity is a software image, and the store is whole
unfoldable pub image_code : EntityId → Bool → ℕ
image_code one broken = first_code (
    (not (is_class one.class), UNKNOWN_CLASS.0) ∷
    (not (one.class == IMAGE_CLASS), NOT_SUPPORTED.0) ∷
    (nat_le IMAGES one.instance, UNKNOWN_INSTANCE.0) ∷
    (broken, PROCESSING_ERROR.0) ∷
    [])

-- the tests of a start: how many circuit packs the image is for, whether the slot is in use, and
-- the image's size against the room
unfoldable pub start_code : Bool → (room targets size : ℕ) → ℕ
start_code in_use room targets size = first_code (
    (nat_lt MOST_TARGETS targets, NOT_SUPPORTED.0) ∷
    (in_use, PARAMETER_ERROR.0) ∷
    (size == 0 || nat_lt room size, PARAMETER_ERROR.0) ∷
    [])

-- whether a slot is in use: it is active or committed
abbrev pub is_in_use : (slot active committed : ℕ) → Bool
is_in_use slot active committed = (slot == active) || (slot == committed)

-- whether the last of so many sections begins at or past the image's size
abbrev pub is_past : (size have sections : ℕ) → Bool
is_past size have sections = nat_le size (have + SECTION_BYTES * (sections - 1))

-- the tests of a window whose last section has come: none of its sections is missing, it has no
-- more than were granted, and the last one begins within the image
unfoldable pub window_code : (granted size have : ℕ) → Arrived → ℕ
window_code granted size have (arrived.Whole sections) = first_code (
    (nat_lt granted sections, PARAMETER_ERROR.0) ∷
    (is_past size have sections, PARAMETER_ERROR.0) ∷
    [])
window_code granted size have arrived.Broken = PARAMETER_ERROR.0
window_code granted size have arrived.Held = PARAMETER_ERROR.0
window_code granted size have arrived.Ignored = PARAMETER_ERROR.0

-- the tests of the end of a download: the image is there whole, of the size that was begun and the
-- one that is given, with the check value that is given
unfoldable pub seal_code : (check given size : ℕ) → List ℕ → ℕ
seal_code check given size put = first_code (
    (not (length put == size && given == length put), PARAMETER_ERROR.0) ∷
    (not (crc put == check), PROCESSING_ERROR.0) ∷
    [])

-- the test that a slot has an image
abbrev pub valid_code : Bool → ℕ
valid_code valid = if valid then SUCCESS.0 else PARAMETER_ERROR.0

-- a deed of the download that runs, where it is one into this slot
abbrev pub on_download : (ℕ → Deed) → ℕ → Option Loading → (Loading → Deed) → Deed
on_download refuse slot None deed = refuse PROCESSING_ERROR.0
on_download refuse slot (Some l) deed =
    if slot == l.target then deed l else refuse PARAMETER_ERROR.0

-- start
abbrev pub start_deed : (room slot window size targets : ℕ) → StoreState → Deed
start_deed room slot window size targets m =
    unless_refused Refuse (start_code (is_in_use slot m.active m.slots.committed) room targets size)
    (Begin slot size (min window MOST_GRANTED))

-- a section that ends its window
abbrev pub put_deed : Section → Loading → Deed
put_deed s l =
    unless_refused RefuseWindow (window_code l.granted l.size (length l.put)
    (answer s true l.window)) (Put (l.put ++ (window_after s l).bytes))

-- a section that isn't its window's last
abbrev pub hold_by : Arrived → Section → Loading → Deed
hold_by arrived.Held s l = Hold (window_after s l)
hold_by arrived.Ignored s l = Ignore
hold_by arrived.Broken s l = Ignore
hold_by (arrived.Whole sections) s l = Ignore

abbrev pub hold_deed : Section → Loading → Deed
hold_deed s l = hold_by (answer s false l.window) s l

-- end
abbrev pub seal_deed : (check given : ℕ) → Loading → Deed
seal_deed check given l = unless_refused GiveUp (seal_code check given l.size l.put)
    (Seal l.target l.put)

-- activate
abbrev pub activate_deed : ℕ → StoreState → Deed
activate_deed slot m = unless_refused Refuse (valid_code (has_image slot m.slots))
    (Activate (not (slot == m.active)))

-- commit
abbrev pub commit_deed : ℕ → SlotPair → Deed
commit_deed slot s = unless_refused Refuse (valid_code (has_image slot s))
    (if slot == s.committed then Recommit slot else Commit slot)

-- A request of this TCI for a slot, at a store with so much room in each. One that isn't for an
-- image asks nothing of the store.
abbrev pub slot_deed : (room tci slot : ℕ) → Request → StoreState → Deed
slot_deed room tci slot (request.Start window size targets target) m =
    start_deed room slot window size targets m
slot_deed room tci slot (request.Section number bytes true) m =
    on_download RefuseWindow slot m.download (λ l. put_deed (section tci number bytes) l)
slot_deed room tci slot (request.Section number bytes false) m =
    on_download ignore slot m.download (λ l. hold_deed (section tci number bytes) l)
slot_deed room tci slot (request.End check size targets target) m =
    on_download Refuse slot m.download (λ l. seal_deed check size l)
slot_deed room tci slot (request.Activate flags) m = activate_deed slot m
slot_deed room tci slot request.Commit m = commit_deed slot m.slots
slot_deed room tci slot (request.Create values) m = Ignore
slot_deed room tci slot request.Delete m = Ignore
slot_deed room tci slot (request.Set mask values) m = Ignore
slot_deed room tci slot (request.Get mask) m = Ignore
slot_deed room tci slot (request.Alarms mode) m = Ignore
slot_deed room tci slot (request.AlarmsNext number) m = Ignore
slot_deed room tci slot request.Upload m = Ignore
slot_deed room tci slot (request.UploadNext number) m = Ignore
slot_deed room tci slot request.Reset m = Ignore
slot_deed room tci slot (request.Reboot flags) m = Ignore

-- how a request is refused
abbrev pub refuse : Request → ℕ → Deed
refuse (request.Start window size targets target) code = Refuse code
refuse (request.Section number bytes true) code = RefuseWindow code
refuse (request.Section number bytes false) code = Ignore
refuse (request.End check size targets target) code = Refuse code
refuse (request.Activate flags) code = Refuse code
refuse request.Commit code = Refuse code
refuse (request.Create values) code = Ignore
refuse request.Delete code = Ignore
refuse (request.Set mask values) code = Ignore
refuse (request.Get mask) code = Ignore
refuse (request.Alarms mode) code = Ignore
refuse (request.AlarmsNext number) code = Ignore
refuse request.Upload code = Ignore
refuse (request.UploadNext number) code = Ignore
refuse request.Reset code = Ignore
refuse (request.Reboot flags) code = Ignore

-- whether a request is a section that ends its window
abbrev pub is_window : Request → Bool
is_window (request.Section number bytes true) = true
is_window _ = false

-- a request of this TCI for this entity, whose instance is the slot
unfoldable pub deed : (room tci : ℕ) → EntityId → Request → StoreState → Deed
deed room tci one r m = unless_refused (refuse r) (image_code one m.broken)
    (slot_deed room tci one.instance r m)
