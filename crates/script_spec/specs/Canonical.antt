-- The canonical text of a script: no line that is passed over, numbers without zeros in front, hex
-- in lower case, `-` for no byte, and a line feed after each line.
use Rattle.std.specs.Prelude.{ℕ, List, [], ◌∷◌, ◌++◌, codes, Option, Some, None}
use Rattle.std.specs.List.{flat_map, join_with_byte}
use Rattle.std.specs.Int.{to_be_bytes, w16, w32}
use Rattle.std.specs.Fmt.{decimal}
use Rattle.hex.specs.Hex.{encode_lower}
use Rattle.slot_spec.specs.declared.Pick.{Pick}
use Rattle.slot_spec.specs.declared.Pick.TheVariants.{Old, New, Byte}
use Rattle.script_spec.specs.Fields.{Value, lane_in, number_in, bytes_in, check_in, pick_in, Form}
use Rattle.script_spec.specs.Fields.{LaneName, Decimal, MaskDigits, CheckDigits, PickName, HexBytes}
use Rattle.script_spec.specs.Fields.{NoiseBytes}
use Rattle.script_spec.specs.Script.{Action, Row, row, said, first_value, later_values, Header}
use Rattle.script_spec.specs.Script.{header_row, header_values, Script}
use Rattle.script_spec.specs.Text.{lane_text, old_text, new_text}

abbrev pub hex_text : List ℕ → List ℕ
hex_text [] = codes "-"
hex_text (b ∷ bytes) = encode_lower (b ∷ bytes)

abbrev pub check_text : Option ℕ → List ℕ
check_text None = codes "-"
check_text (Some check) = encode_lower (to_be_bytes w32 check)

abbrev pub pick_text : Pick → List ℕ
pick_text Old = old_text
pick_text New = new_text
pick_text (Byte b) = encode_lower (b ∷ [])

-- the word of a value in a field of this form
abbrev pub word_text : Form → Value → List ℕ
word_text LaneName value = lane_text (lane_in value)
word_text (Decimal low high) value = decimal (number_in value)
word_text MaskDigits value = encode_lower (to_be_bytes w16 (number_in value))
word_text CheckDigits value = check_text (check_in value)
word_text PickName value = pick_text (pick_in value)
word_text (HexBytes fewest most) value = hex_text (bytes_in value)
word_text (NoiseBytes most) value = hex_text (bytes_in value)

-- each word with a space before it, and then the line feed
abbrev pub words_text : List Form → List Value → List ℕ
words_text [] values = 10 ∷ []
words_text (form ∷ forms) values =
    32 ∷ word_text form (first_value values) ++ words_text forms (later_values values)

-- the line of some values
unfoldable pub line_text : Row → List Value → List ℕ
line_text line values = join_with_byte 32 line.name ++ words_text line.fields values

abbrev pub action_text : Action → List ℕ
action_text action = line_text (row (said action).line) (said action).values

abbrev pub header_text : Header → List ℕ
header_text header = line_text (header_row header.room) (header_values header)

unfoldable pub canonical : Script → List ℕ
canonical script = header_text script.header ++ flat_map action_text script.actions
