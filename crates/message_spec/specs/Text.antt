-- The text of a message: `TCI DEVICE KIND CLASS INSTANCE CONTENTS`, with one space between.
use Rattle.std.specs.Prelude.{ℕ, zero, List, [], ◌∷◌, ◌++◌, codes, decimal, Result, Ok, Err}
use Rattle.std.specs.Int.{w16, to_be_bytes}
use Rattle.hex.specs.Hex.{encode_lower}
use Rattle.omci_types.specs.declared.Frame.{Frame}
use Rattle.message_spec.specs.declared.Action.{Action}
use Rattle.message_spec.specs.declared.Action.TheVariants.{Section}
use Rattle.message_spec.specs.declared.Kind.{Kind}
use Rattle.message_spec.specs.declared.Kind.TheVariants as kinds
use Rattle.message_spec.specs.declared.ContentsFault.{ContentsFault}
use Rattle.message_spec.specs.Types.{row, alarm, change, kind_of}

-- the name of a request with AR
abbrev pub request_name : Action → List ℕ
request_name Section = codes "section-ar"
request_name a = (row a).name

abbrev pub kind_name : Kind → List ℕ
kind_name (kinds.Request a) = request_name a
kind_name kinds.UnansweredSection = (row Section).name
kind_name (kinds.Response a) = (row a).name ++ codes "-r"
kind_name kinds.Alarm = alarm.name
kind_name kinds.Change = change.name

abbrev pub name_or_number : ℕ → Result Kind ContentsFault → List ℕ
name_or_number byte (Ok kind) = kind_name kind
name_or_number byte (Err fault) = codes "type-" ++ encode_lower (byte ∷ [])

-- the text of a type byte: the name of its kind, or its hex digits
unfoldable pub kind_text : ℕ → List ℕ
kind_text byte = name_or_number byte (kind_of byte)

-- a byte before some bytes that don't end with a zero
abbrev pub before_cut : ℕ → List ℕ → List ℕ
before_cut zero [] = []
before_cut byte rest = byte ∷ rest

-- some bytes without the zeros at their end
unfoldable pub cut : List ℕ → List ℕ
cut [] = []
cut (byte ∷ rest) = before_cut byte (cut rest)

abbrev pub hex_or_dash : List ℕ → List ℕ
hex_or_dash [] = codes "-"
hex_or_dash (byte ∷ rest) = encode_lower (byte ∷ rest)

-- some bytes in hex without the zero bytes at their end; a dash where nothing is left
unfoldable pub contents_text : List ℕ → List ℕ
contents_text bytes = hex_or_dash (cut bytes)

-- the text of a frame
unfoldable pub message_text : Frame → List ℕ
message_text f =
    encode_lower (to_be_bytes w16 f.tci) ++ codes " 0a "
    ++ kind_text f.kind ++ codes " "
    ++ decimal f.entity.class ++ codes " "
    ++ decimal f.entity.instance ++ codes " "
    ++ contents_text f.contents
