-- How an extended frame is read as a message, and the frame of a message. A message is taken as its
-- TCI, kind and entity and the values of its fields in their order.
use Rattle.std.specs.Prelude.{◌≡◌, ℕ, ◌<◌, ◌≤◌, ◌^◌, List, length, Option, Some, None, Result, Ok, Err}
use Rattle.std.specs.Option.{option_map}
use Rattle.std.specs.Result.{result_err}
use Rattle.omci_types.specs.declared.EntityId.{EntityId}
use Rattle.message_spec.specs.declared.Kind.{Kind}
use Rattle.message_spec.specs.declared.ContentsFault.{ContentsFault}
use Rattle.message_spec.specs.declared.ContentsFault.TheVariants as contents
use Rattle.message_spec.specs.Types.{kind_of, type_byte}
use Rattle.message_spec.specs.Reading.{message_of}
use Rattle.extended_spec.specs.declared.TheConstants.{MAX_LONG_CONTENTS}
use Rattle.extended_spec.specs.declared.LongFault.{LongFault}
use Rattle.extended_spec.specs.declared.LongFault.TheVariants.{UnknownType, Bits, ContentsShort}
use Rattle.extended_spec.specs.Frames.{Long, Any, Baseline, Extended}
use Rattle.extended_spec.specs.Layouts.{LongValue, long_layout, need_of, long_values, long_contents, AllLongFit}

-- what a message says
pub record Parts : Type 0 where
  pub tci : ℕ
  pub kind : Kind
  pub entity : EntityId
  pub values : List LongValue

-- a message's numbers are in their ranges, and its contents have room in a frame
pub record IsParts (m : Parts) : Type 0 where
  pub tci : m.tci < 2 ^ 16
  pub class : m.entity.class < 2 ^ 16
  pub instance : m.entity.instance < 2 ^ 16
  pub values : AllLongFit (long_layout m.kind) m.values
  pub few : length (long_contents (long_layout m.kind) m.values) ≤ MAX_LONG_CONTENTS

-- the frame of a message
unfoldable pub long_plain : Parts → Long
long_plain m = record {
  tci = m.tci;
  kind = type_byte m.kind;
  entity = m.entity;
  contents = long_contents (long_layout m.kind) m.values;
}

abbrev pub parts_unless : Option ℕ → Kind → Long → Result Parts LongFault
parts_unless (Some need) kind f = Err (ContentsShort (length f.contents) need)
parts_unless None kind f = Ok (record {
  tci = f.tci;
  kind = kind;
  entity = f.entity;
  values = long_values (long_layout kind) f.contents;
})

abbrev pub parts_typed : Result Kind ContentsFault → Long → Result Parts LongFault
parts_typed (Ok kind) f = parts_unless (need_of (long_layout kind) f.contents) kind f
parts_typed (Err (contents.UnknownType number)) f = Err (UnknownType number)
parts_typed (Err (contents.Bits byte)) f = Err (Bits byte)

-- the message that an extended frame says, or why it is none
unfoldable pub parts_of : Long → Result Parts LongFault
parts_of f = parts_typed (kind_of f.kind) f

-- a fault of a baseline frame's message as one of an extended frame's
abbrev pub as_long_fault : ContentsFault → LongFault
as_long_fault (contents.UnknownType number) = UnknownType number
as_long_fault (contents.Bits byte) = Bits byte

-- why a frame of either set is no message, if it is none
abbrev pub any_message_fault : Any → Option LongFault
any_message_fault (Baseline frame) = option_map as_long_fault (result_err (message_of frame))
any_message_fault (Extended frame) = result_err (parts_of frame)
