-- What the first bytes of a disk say of its slots.
use Rattle.std.specs.Prelude.{ℕ, zero, suc, ◌==◌, ◌&&◌, ◌+◌, ◌*◌, ◌%◌, nat_le, get_or, if◌then◌else◌, Bool, false, List, length, Option, Some, None}
use Rattle.std.specs.Int.{from_be_bytes, w32}
use Rattle.std.specs.Str.{bytes_eq}
use Rattle.omci_types.specs.declared.SlotView.{SlotView}
use Rattle.frame_spec.specs.Checksum.{crc}
use Rattle.slot_spec.specs.declared.SlotHeader.{SlotHeader}
use Rattle.slot_spec.specs.declared.DiskHeader.{DiskHeader}
use Rattle.slot_spec.specs.declared.TheConstants.{ROOM_PLACE, HEADER_BYTES, VERSION_BYTES, MAX_ROOM}
use Rattle.slot_spec.specs.Crash.{field}
use Rattle.slot_spec.specs.Layout.{magic, version, open_gate, gate_place, entry_place, commit_place}

-- what is shown of an image
abbrev pub view_of : List ℕ → SlotView
view_of image = record { length = length image; crc = crc image; version = version image }

-- the number of 4 bytes at a place
unfoldable pub number_at : ℕ → List ℕ → ℕ
number_at place bytes = from_be_bytes w32 (field place 4 bytes)

-- whether a slot is valid: its gate is open, and its length is in range
unfoldable pub is_valid : ℕ → ℕ → ℕ → Bool
is_valid room gate given = (gate == open_gate) && (nat_le 1 given && nat_le given room)

-- what the entry at a place says
unfoldable pub entry_view : ℕ → List ℕ → SlotView
entry_view place bytes = record {
  length = number_at place bytes;
  crc = number_at (place + 4) bytes;
  version = field (place + 8) VERSION_BYTES bytes;
}

-- what the first bytes say of a slot
unfoldable pub slot_header_in : ℕ → ℕ → List ℕ → SlotHeader
slot_header_in room slot bytes =
    record {
      opened = get_or bytes (gate_place slot) 0 == open_gate;
      view = if is_valid room (get_or bytes (gate_place slot) 0)
          (number_at (entry_place slot) bytes) then Some (entry_view (entry_place slot) bytes)
          else None;
    }

-- what they say of both
unfoldable pub disk_header_in : List ℕ → DiskHeader
disk_header_in bytes =
    let room = number_at ROOM_PLACE bytes in
    record {
      room = room;
      committed = get_or bytes commit_place 0 % 2;
      first = slot_header_in room 0 bytes;
      second = slot_header_in room 1 bytes;
    }

-- whether a disk of this length is one of slots: the magic, a room in range, and the length for it
unfoldable pub has_unit : ℕ → List ℕ → Bool
has_unit size bytes = bytes_eq (field 0 8 bytes) magic
    && (nat_le 1 (number_at ROOM_PLACE bytes) && (nat_le (number_at ROOM_PLACE bytes) MAX_ROOM
    && nat_le (HEADER_BYTES + 2 * number_at ROOM_PLACE bytes) size))

-- a slot whose gate was closed
abbrev pub shut_header : SlotHeader
shut_header = record { opened = false; view = None }

-- the header of one of the slots
abbrev pub slot_header : ℕ → DiskHeader → SlotHeader
slot_header zero header = header.first
slot_header (suc _) header = header.second

abbrev pub with_slot_header : ℕ → SlotHeader → DiskHeader → DiskHeader
with_slot_header zero new header = record header { first = new }
with_slot_header (suc _) new header = record header { second = new }

-- what is shown of a slot's image, where the slot is valid
abbrev pub view_at : ℕ → DiskHeader → Option SlotView
view_at slot header = (slot_header slot header).view
