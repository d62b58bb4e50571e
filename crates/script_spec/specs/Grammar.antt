-- The grammar of scripts and of orders: which bytes write which of them.
use Rattle.std.specs.Prelude.{◌≡◌, ◌≢◌, ℕ, ◌+◌, ◌*◌, ◌≤◌, List, [], ◌∷◌, ◌++◌, length, codes, Ok}
use Rattle.std.specs.Prelude.{◌⊎◌, Option, Some, None}
use Rattle.std.specs.Int.{w32, to_be_bytes}
use Rattle.std.specs.List.{All, AllPass, join_with_byte}
use Rattle.std.specs.Char.{is_ascii_digit}
use Rattle.hex.specs.Hex.{decode_of}
use Rattle.slot_spec.specs.declared.Pick.{Pick}
use Rattle.slot_spec.specs.declared.Pick.TheVariants.{Old, New, Byte}
use Rattle.script_spec.specs.declared.Document.{Document}
use Rattle.script_spec.specs.declared.Document.TheVariants as documents
use Rattle.script_spec.specs.declared.TheConstants.{MAX_DIGITS}
use Rattle.script_spec.specs.Fields.{Value, Lane, Number, Bytes, Check, PickOf, Form, LaneName}
use Rattle.script_spec.specs.Fields.{Decimal, MaskDigits, CheckDigits, PickName, HexBytes}
use Rattle.script_spec.specs.Fields.{NoiseBytes, Fits}
use Rattle.script_spec.specs.Script.{Action, Row, row, said, HasAction, Header, header_row}
use Rattle.script_spec.specs.Script.{header_values, Script, OrdersHeader, orders_row, orders_values}
use Rattle.script_spec.specs.Script.{Orders}
use Rattle.script_spec.specs.Text.{decimal_value, lane_text, old_text, new_text}

-- ---- words

-- 1 to `MAX_DIGITS` decimal digits of a number, zeros in front among them
pub record SpellsNumber (n : ℕ) (word : List ℕ) : Type 0 where
  pub digits : AllPass is_ascii_digit word
  pub some : 1 ≤ length word
  pub few : length word ≤ MAX_DIGITS
  pub value : decimal_value word ≡ n

-- four hex digits in either case of two bytes, the high one first
abbrev pub SpellsMask : ℕ → List ℕ → Type 0
SpellsMask mask word =
    (first second : ℕ) × (decode_of word ≡ Ok (first ∷ second ∷ [])) × (mask ≡ first * 256 + second)

-- eight hex digits in either case of the check value's four bytes, the first one highest; `-` where
-- none is given
abbrev pub SpellsCheck : Option ℕ → List ℕ → Type 0
SpellsCheck None word = word ≡ codes "-"
SpellsCheck (Some check) word = decode_of word ≡ Ok (to_be_bytes w32 check)

-- `old`, `new`, or two hex digits in either case of a byte
abbrev pub SpellsPick : Pick → List ℕ → Type 0
SpellsPick Old word = word ≡ old_text
SpellsPick New word = word ≡ new_text
SpellsPick (Byte b) word = decode_of word ≡ Ok (b ∷ [])

-- hex digits in either case, two for each byte; `-` where there is no byte
abbrev pub SpellsBytes : List ℕ → List ℕ → Type 0
SpellsBytes [] word = word ≡ codes "-"
SpellsBytes (b ∷ bytes) word = decode_of word ≡ Ok (b ∷ bytes)

-- the word is a text of the value
abbrev pub IsTextOf : Form → Value → List ℕ → Type 0
IsTextOf LaneName (Lane lane) word = word ≡ lane_text lane
IsTextOf (Decimal lowest highest) (Number n) word = SpellsNumber n word
IsTextOf MaskDigits (Number n) word = SpellsMask n word
IsTextOf CheckDigits (Check check) word = SpellsCheck check word
IsTextOf PickName (PickOf pick) word = SpellsPick pick word
IsTextOf (HexBytes fewest most) (Bytes bytes) word = SpellsBytes bytes word
IsTextOf (NoiseBytes most) (Bytes bytes) word = SpellsBytes bytes word
IsTextOf _ _ word = ⊥

-- a value of the form, and a text of it
pub record Spells (form : Form) (value : Value) (word : List ℕ) : Type 0 where
  pub fits : Fits form value
  pub text : IsTextOf form value word

-- each word stands for its value, in order
abbrev pub SpellEach : List Form → List Value → List (List ℕ) → Type 0
SpellEach [] [] [] = Unit {0}
SpellEach (form ∷ forms) (value ∷ values) (word ∷ words) =
    Spells form value word × SpellEach forms values words
SpellEach _ _ _ = ⊥

-- ---- lines

-- a text of words that are parted by single spaces: the row's own, and then those of the values
abbrev pub SpellsLine : Row → List Value → List ℕ → Type 0
SpellsLine line values text =
    (words : List (List ℕ)) × (text ≡ join_with_byte 32 (line.name ++ words))
    × SpellEach line.fields values words

-- the line asks for the action
abbrev pub SpellsAction : Action → List ℕ → Type 0
SpellsAction action text = SpellsLine (row (said action).line) (said action).values text

-- the line is that of a header
abbrev pub SpellsHeader : Header → List ℕ → Type 0
SpellsHeader header text = SpellsLine (header_row header.room) (header_values header) text

-- the line is that of a header of orders
abbrev pub SpellsOrdersHeader : OrdersHeader → List ℕ → Type 0
SpellsOrdersHeader header text = SpellsLine orders_row (orders_values header) text

-- an empty line, or one that begins with `#`
abbrev pub IsPassedOver : List ℕ → Type 0
IsPassedOver text = (text ≡ []) ⊎ ((rest : List ℕ) × (text ≡ 35 ∷ rest))

-- ---- the ends of lines

-- what stands after a line's text
pub data LineEnd : Type 0 where
  feed : LineEnd
  return_and_feed : LineEnd
  end_of_input : LineEnd

-- The bytes are a text, the end of its line, and a rest. A carriage return directly before the line
-- feed belongs to the end; the last line may lack its end.
abbrev pub Ends : LineEnd → List ℕ → List ℕ → List ℕ → Type 0
Ends feed bytes text rest =
    (bytes ≡ text ++ (10 ∷ rest)) × ((front : List ℕ) → text ≢ front ++ (13 ∷ []))
Ends return_and_feed bytes text rest = bytes ≡ text ++ (13 ∷ 10 ∷ rest)
Ends end_of_input bytes text rest = (bytes ≡ text) × (rest ≡ []) × (text ≢ [])

-- the bytes begin with a line of this text, and a rest follows
pub record BeginsWithLine (bytes text rest : List ℕ) : Type 0 where
  pub one_line : All (λ b. b ≢ 10) text
  pub end : LineEnd
  pub whole : Ends end bytes text rest

-- ---- scripts and orders

-- lines that are passed over, and one line for each action, of kinds that the document has
pub data WritesActions : Document → List Action → List ℕ → Type 0 where
  no_line : (document : Document) → WritesActions document [] []
  passed_line : (document : Document) (text bytes rest : List ℕ) (actions : List Action)
      → BeginsWithLine bytes text rest → IsPassedOver text → WritesActions document actions rest
      → WritesActions document actions bytes
  action_line : (document : Document) (text bytes rest : List ℕ) (action : Action)
      (actions : List Action) → BeginsWithLine bytes text rest → SpellsAction action text
      → HasAction document action → WritesActions document actions rest
      → WritesActions document (action ∷ actions) bytes

-- the bytes are lines that are passed over, a line of this text, and a rest
pub data Opens : List ℕ → List ℕ → List ℕ → Type 0 where
  first_line : (bytes text rest : List ℕ) → BeginsWithLine bytes text rest → Opens bytes text rest
  later_line : (passed bytes left text rest : List ℕ) → BeginsWithLine bytes passed left
      → IsPassedOver passed → Opens left text rest → Opens bytes text rest

-- the bytes are a text of this script: its header's line, and the lines of its actions
pub record Writes (script : Script) (bytes : List ℕ) : Type 0 where
  pub text : List ℕ
  pub rest : List ℕ
  pub opens : Opens bytes text rest
  pub header : SpellsHeader script.header text
  pub actions : WritesActions documents.Script script.actions rest

-- the same of orders
pub record WritesOrders (orders : Orders) (bytes : List ℕ) : Type 0 where
  pub text : List ℕ
  pub rest : List ℕ
  pub opens : Opens bytes text rest
  pub header : SpellsOrdersHeader orders.header text
  pub actions : WritesActions documents.Orders orders.actions rest
