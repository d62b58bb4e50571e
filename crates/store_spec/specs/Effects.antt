-- What a deed makes of the store, what is answered, and its entries in the history.
use Rattle.std.specs.Prelude.{ℕ, Bool, true, false, List, [], ◌∷◌, ◌++◌, Option, Some, None}
use Rattle.omci_types.specs.declared.TheConstants.Code.{SUCCESS, PROCESSING_ERROR}
use Rattle.frame_spec.specs.Checksum.{crc}
use Rattle.slot_spec.specs.Slots.{Change, Keep, after_change}
use Rattle.slot_spec.specs.Slots as change
use Rattle.window_spec.specs.Incoming.{Window, no_window}
use Rattle.store_spec.specs.declared.Handled.{Handled}
use Rattle.store_spec.specs.declared.Handled.TheVariants.{Dropped, Held, Answered}
use Rattle.store_spec.specs.History.{StoreEntry, Checked, CommitBegun, Committed}
use Rattle.store_spec.specs.State.{Loading, StoreState}
use Rattle.store_spec.specs.Deeds.{Deed, Ignore, Refuse, RefuseWindow, GiveUp, Begin, Hold, Put}
use Rattle.store_spec.specs.Deeds.{Seal, Activate, Commit, Recommit}

-- ---- the store

-- what a deed makes of the slots
abbrev pub change_of : Deed → Change
change_of Ignore = Keep
change_of (Refuse code) = Keep
change_of (RefuseWindow code) = Keep
change_of (GiveUp code) = Keep
change_of (Begin slot size granted) = change.Clear slot
change_of (Hold window) = Keep
change_of (Put bytes) = Keep
change_of (Seal slot image) = change.Seal slot image
change_of (Activate leaves) = Keep
change_of (Commit slot) = change.Commit slot
change_of (Recommit slot) = Keep

abbrev pub with_window : Window → Option Loading → Option Loading
with_window window None = None
with_window window (Some l) = Some (record l { window = window })

-- the window's bytes have joined those that were put
abbrev pub with_bytes_put : List ℕ → Option Loading → Option Loading
with_bytes_put bytes None = None
with_bytes_put bytes (Some l) = Some (record l { put = bytes; window = no_window })

-- what it makes of the download
abbrev pub download_after : Deed → Option Loading → Option Loading
download_after Ignore d = d
download_after (Refuse code) d = d
download_after (RefuseWindow code) d = with_window no_window d
download_after (GiveUp code) d = None
download_after (Begin slot size granted) d =
    Some (record { target = slot; size = size; granted = granted; put = []; window = no_window })
download_after (Hold window) d = with_window window d
download_after (Put bytes) d = with_bytes_put bytes d
download_after (Seal slot image) d = None
download_after (Activate leaves) d = d
download_after (Commit slot) d = d
download_after (Recommit slot) d = d

-- the store after it, where no device call failed
abbrev pub store_done : Deed → StoreState → StoreState
store_done d m = record m {
  slots = after_change (change_of d) m.slots;
  download =
      download_after d m.download;
}

-- and where one did: the store is broken, and what the deed makes of the slots is in doubt
abbrev pub store_failed : Deed → StoreState → StoreState
store_failed d m = record m { doubt = change_of d; broken = true; download = None }

abbrev pub store_after : Bool → Deed → StoreState → StoreState
store_after true d m = store_failed d m
store_after false d m = store_done d m

-- ---- the answer

abbrev pub answered : ℕ → (grows leaves : Bool) → Handled
answered code grows leaves = Answered (record { 0 = code }) grows leaves

-- what is answered where no device call failed
abbrev pub handled_done : Deed → Handled
handled_done Ignore = Dropped
handled_done (Refuse code) = answered code false false
handled_done (RefuseWindow code) = answered code false false
handled_done (GiveUp code) = answered code false false
handled_done (Begin slot size granted) = answered SUCCESS.0 true false
handled_done (Hold window) = Held
handled_done (Put bytes) = answered SUCCESS.0 false false
handled_done (Seal slot image) = answered SUCCESS.0 true false
handled_done (Activate leaves) = answered SUCCESS.0 true leaves
handled_done (Commit slot) = answered SUCCESS.0 true false
handled_done (Recommit slot) = answered SUCCESS.0 true false

-- a request in which a device call failed is answered by a processing error
abbrev pub handled_by : Bool → Deed → Handled
handled_by true d = answered PROCESSING_ERROR.0 false false
handled_by false d = handled_done d

-- whether a deed makes device calls
abbrev pub calls_device : Deed → Bool
calls_device Ignore = false
calls_device (Refuse code) = false
calls_device (RefuseWindow code) = false
calls_device (GiveUp code) = false
calls_device (Begin slot size granted) = true
calls_device (Hold window) = false
calls_device (Put bytes) = true
calls_device (Seal slot image) = true
calls_device (Activate leaves) = false
calls_device (Commit slot) = true
calls_device (Recommit slot) = false

-- ---- the history

-- the entries before a deed's first device call, newest first
abbrev pub entries_before : Deed → List StoreEntry
entries_before Ignore = []
entries_before (Refuse code) = []
entries_before (RefuseWindow code) = []
entries_before (GiveUp code) = []
entries_before (Begin slot size granted) = []
entries_before (Hold window) = []
entries_before (Put bytes) = []
entries_before (Seal slot image) = Checked slot image (crc image) ∷ []
entries_before (Activate leaves) = []
entries_before (Commit slot) = CommitBegun slot ∷ []
entries_before (Recommit slot) = []

-- and those after its last one
abbrev pub entries_behind : Deed → List StoreEntry
entries_behind Ignore = []
entries_behind (Refuse code) = []
entries_behind (RefuseWindow code) = []
entries_behind (GiveUp code) = []
entries_behind (Begin slot size granted) = []
entries_behind (Hold window) = []
entries_behind (Put bytes) = []
entries_behind (Seal slot image) = []
entries_behind (Activate leaves) = []
entries_behind (Commit slot) = Committed slot ∷ []
entries_behind (Recommit slot) = Committed slot ∷ []

-- the entries of a deed, newest first
abbrev pub entries_by : Bool → Deed → List StoreEntry
entries_by true d = entries_before d
entries_by false d = entries_behind d ++ entries_before d
