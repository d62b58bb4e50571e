-- The message types: one table of their numbers, names and contents, and the type byte.
use Rattle.std.specs.Prelude.{ℕ, ◌+◌, ◌==◌, Bool, true, false, ◌&&◌, if◌then◌else◌, List, [], ◌∷◌, codes, bit_and, Option, Some, None, Result, Ok, Err}
use Rattle.message_spec.specs.declared.Action.{Action}
use Rattle.message_spec.specs.declared.Action.TheVariants.{Create, Delete, Set, Get, Alarms, AlarmsNext, Upload, UploadNext, Reset, Start, Section, End, Activate, Commit, Reboot}
use Rattle.message_spec.specs.declared.MessageType.{MessageType}
use Rattle.message_spec.specs.declared.MessageType.TheVariants as types
use Rattle.message_spec.specs.declared.Kind.{Kind}
use Rattle.message_spec.specs.declared.Kind.TheVariants as kinds
use Rattle.message_spec.specs.declared.ContentsFault.{ContentsFault}
use Rattle.message_spec.specs.declared.ContentsFault.TheVariants.{UnknownType, Bits}
use Rattle.message_spec.specs.declared.TheConstants.{TYPE_BITS, FLAG_BITS, AR, AK}
use Rattle.message_spec.specs.Fields.{OneByte, TwoBytes, FourBytes, WindowByte, ByteRow, Field, field}

-- A command's row: its number, its name, and the fields of its request and of its response.
pub record Row : Type 0 where
  pub number : ℕ
  pub name : List ℕ
  pub request : List Field
  pub response : List Field

-- a response that says a code alone
abbrev pub code_alone : List Field
code_alone = field 9 OneByte ∷ []

-- The table of the commands. The number of a field is that of its first byte in the message; what
-- lies between the fields and past them is padding.
abbrev pub row : Action → Row
row Create = record {
  number = 4;
  name = codes "create";
  -- values
  request = field 9 (ByteRow 32) ∷ [];
  -- code, mask
  response = field 9 OneByte ∷ field 10 TwoBytes ∷ [];
}
row Delete = record { number = 6; name = codes "delete"; request = []; response = code_alone }
row Set = record {
  number = 8;
  name = codes "set";
  -- mask, values
  request = field 9 TwoBytes ∷ field 11 (ByteRow 30) ∷ [];
  -- code, unsupported, failed
  response = field 9 OneByte ∷ field 10 TwoBytes ∷ field 12 TwoBytes ∷ [];
}
row Get = record {
  number = 9;
  name = codes "get";
  -- mask
  request = field 9 TwoBytes ∷ [];
  -- code, mask, values, unsupported, failed
  response = field 9 OneByte ∷ field 10 TwoBytes ∷ field 12 (ByteRow 25) ∷ field 37 TwoBytes
      ∷ field 39 TwoBytes ∷ [];
}
row Alarms = record {
  number = 11;
  name = codes "alarms";
  -- mode
  request = field 9 OneByte ∷ [];
  -- count
  response = field 9 TwoBytes ∷ [];
}
row AlarmsNext = record {
  number = 12;
  name = codes "alarms-next";
  -- number
  request = field 9 TwoBytes ∷ [];
  -- row
  response = field 9 (ByteRow 32) ∷ [];
}
row Upload = record {
  number = 13;
  name = codes "upload";
  request = [];
  -- count
  response = field 9 TwoBytes ∷ [];
}
row UploadNext = record {
  number = 14;
  name = codes "upload-next";
  -- number
  request = field 9 TwoBytes ∷ [];
  -- piece
  response = field 9 (ByteRow 32) ∷ [];
}
row Reset = record { number = 15; name = codes "reset"; request = []; response = code_alone }
row Start = record {
  number = 19;
  name = codes "start";
  -- window, size, targets, target
  request = field 9 WindowByte ∷ field 10 FourBytes ∷ field 14 OneByte ∷ field 15 TwoBytes ∷ [];
  -- code, window
  response = field 9 OneByte ∷ field 10 WindowByte ∷ [];
}
row Section = record {
  number = 20;
  name = codes "section";
  -- number, bytes
  request = field 9 OneByte ∷ field 10 (ByteRow 31) ∷ [];
  -- code, number
  response = field 9 OneByte ∷ field 10 OneByte ∷ [];
}
row End = record {
  number = 21;
  name = codes "end";
  -- crc, size, targets, target
  request = field 9 FourBytes ∷ field 13 FourBytes ∷ field 17 OneByte ∷ field 18 TwoBytes ∷ [];
  response = code_alone;
}
row Activate = record {
  number = 22;
  name = codes "activate";
  -- flags
  request = field 9 OneByte ∷ [];
  response = code_alone;
}
row Commit = record { number = 23; name = codes "commit"; request = []; response = code_alone }
row Reboot = record {
  number = 25;
  name = codes "reboot";
  -- flags
  request = field 9 OneByte ∷ [];
  response = code_alone;
}

-- a notice's row: its number, its name and its fields
pub record NoticeRow : Type 0 where
  pub number : ℕ
  pub name : List ℕ
  pub fields : List Field

-- bitmap, number
abbrev pub alarm : NoticeRow
alarm = record {
  number = 16;
  name = codes "alarm";
  fields = field 9 (ByteRow 28) ∷ field 40 OneByte ∷ [];
}

-- mask, values
abbrev pub change : NoticeRow
change = record {
  number = 17;
  name = codes "change";
  fields = field 9 TwoBytes ∷ field 11 (ByteRow 30) ∷ [];
}

abbrev pub type_number : MessageType → ℕ
type_number (types.Command a) = (row a).number
type_number types.Alarm = alarm.number
type_number types.Change = change.number

-- all the message types
abbrev pub all_types : List MessageType
all_types =
    types.Command Create ∷ types.Command Delete ∷ types.Command Set ∷ types.Command Get
    ∷ types.Command Alarms ∷ types.Command AlarmsNext ∷ types.Command Upload
    ∷ types.Command UploadNext
    ∷ types.Command Reset ∷ types.Alarm ∷ types.Change ∷ types.Command Start ∷ types.Command Section
    ∷ types.Command End ∷ types.Command Activate ∷ types.Command Commit ∷ types.Command Reboot ∷ []

-- the first of some types that has this number
abbrev pub first_numbered : List MessageType → ℕ → Option MessageType
first_numbered [] number = None
first_numbered (t ∷ others) number = if number == type_number t then Some t
    else first_numbered others number

-- the type of a number
unfoldable pub type_numbered : ℕ → Option MessageType
type_numbered number = first_numbered all_types number

-- the low five bits of a type byte
abbrev pub type_bits : ℕ → ℕ
type_bits byte = bit_and byte TYPE_BITS

-- the high three bits of a type byte: a bit that is 0, AR and AK
abbrev pub flag_bits : ℕ → ℕ
flag_bits byte = bit_and byte FLAG_BITS

abbrev pub is_section : Action → Bool
is_section Section = true
is_section _ = false

-- a command's kind under these flags: AR alone for its request, AK alone for its response, and
-- neither for a section that asks for no response
abbrev pub command_kind : Action → ℕ → Option Kind
command_kind a flags =
    if flags == AR then Some (kinds.Request a)
    else if flags == AK then Some (kinds.Response a)
    else if flags == 0 && is_section a then Some kinds.UnansweredSection
    else None

-- a type's kind under these flags. A notice has neither AR nor AK.
abbrev pub kind_flagged : MessageType → ℕ → Option Kind
kind_flagged (types.Command a) flags = command_kind a flags
kind_flagged types.Alarm flags = if flags == 0 then Some kinds.Alarm else None
kind_flagged types.Change flags = if flags == 0 then Some kinds.Change else None

abbrev pub or_bits : ℕ → Option Kind → Result Kind ContentsFault
or_bits byte (Some kind) = Ok kind
or_bits byte None = Err (Bits byte)

abbrev pub kind_typed : ℕ → Option MessageType → Result Kind ContentsFault
kind_typed byte (Some t) = or_bits byte (kind_flagged t (flag_bits byte))
kind_typed byte None = Err (UnknownType (type_bits byte))

-- what a type byte stands for. A number that is no type's is found first, then wrong flags.
unfoldable pub kind_of : ℕ → Result Kind ContentsFault
kind_of byte = kind_typed byte (type_numbered (type_bits byte))

-- the type byte of a kind
abbrev pub type_byte : Kind → ℕ
type_byte (kinds.Request a) = AR + (row a).number
type_byte kinds.UnansweredSection = (row Section).number
type_byte (kinds.Response a) = AK + (row a).number
type_byte kinds.Alarm = alarm.number
type_byte kinds.Change = change.number

-- the fields of a kind's contents
abbrev pub layout : Kind → List Field
layout (kinds.Request a) = (row a).request
layout kinds.UnansweredSection = (row Section).request
layout (kinds.Response a) = (row a).response
layout kinds.Alarm = alarm.fields
layout kinds.Change = change.fields
