-- Which words are which command line.
use Rattle.std.specs.Prelude.{ℕ, Bool, not, ◌&&◌, if◌then◌else◌, nat_le, List, [], ◌∷◌, length, codes, Option, Some, None}
use Rattle.std.specs.List.{list_all}
use Rattle.std.specs.Char.{is_ascii_digit}
use Rattle.std.specs.Option.{option_map}
use Rattle.std.specs.Str.{bytes_eq}
use Rattle.script_spec.specs.Text.{decimal_value}
use Rattle.command_lines.specs.declared.numbers.TheConstants.{MOST_DIGITS}
use Rattle.command_lines.specs.declared.TheConstants.{LARGEST_SEED, MOST_TURNS}
use Rattle.command_lines.specs.declared.Filter.TheVariants.{Meter, Capture}
use Rattle.command_lines.specs.declared.Command.{Command}
use Rattle.command_lines.specs.declared.Command.TheVariants.{Replay, Show, Check, Filter, Flash, Drill, Olt, Unit}

-- an address or a file's name has a byte at least
abbrev pub is_name : List ℕ → Bool
is_name word = not (bytes_eq word [])

-- 1 to 10 decimal digits, zeros in front among them
abbrev pub is_numeral : List ℕ → Bool
is_numeral word = nat_le 1 (length word) && nat_le (length word) MOST_DIGITS
    && list_all is_ascii_digit word

-- their number, where it lies in this range
abbrev pub number_of : (low high : ℕ) → List ℕ → Option ℕ
number_of low high word =
    if is_numeral word && nat_le low (decimal_value word)
    && nat_le (decimal_value word) high then Some (decimal_value word)
    else None

-- the filter of this name
abbrev pub filter_of : List ℕ → Option Command
filter_of word =
    if bytes_eq word (codes "meter") then Some (Filter Meter)
    else if bytes_eq word (codes "capture") then Some (Filter Capture)
    else None

-- the command that is a word alone
abbrev pub alone : List ℕ → Option Command
alone word =
    if bytes_eq word (codes "replay") then Some Replay
    else if bytes_eq word (codes "show") then Some Show
    else if bytes_eq word (codes "check") then Some Check
    else filter_of word

-- the drill of a number
abbrev pub drill_of : List ℕ → Option Command
drill_of number = option_map Drill (number_of 0 LARGEST_SEED number)

-- `flash` with a file, or `drill` with a number
abbrev pub with_one : List ℕ → List ℕ → Option Command
with_one word argument =
    if bytes_eq word (codes "flash") && is_name argument then Some Flash
    else if bytes_eq word (codes "drill") then drill_of argument
    else None

-- so many turns of the manager
abbrev pub olt_of : List ℕ → Option Command
olt_of turns = option_map Olt (number_of 1 MOST_TURNS turns)

-- `olt` with an address and a number of turns
abbrev pub with_two : List ℕ → List ℕ → List ℕ → Option Command
with_two word address turns =
    if bytes_eq word (codes "olt") && is_name address then olt_of turns else None

-- so many turns of the unit
abbrev pub unit_of : List ℕ → Option Command
unit_of turns = option_map Unit (number_of 1 MOST_TURNS turns)

-- `unit` with an address, a file and a number of turns
abbrev pub with_three : List ℕ → List ℕ → List ℕ → List ℕ → Option Command
with_three word address file turns =
    if bytes_eq word (codes "unit") && is_name address && is_name file then unit_of turns else None

-- the command of these words, if they are a command line
abbrev pub command_of : List (List ℕ) → Option Command
command_of [] = None
command_of (word ∷ []) = alone word
command_of (word ∷ argument ∷ []) = with_one word argument
command_of (word ∷ address ∷ turns ∷ []) = with_two word address turns
command_of (word ∷ address ∷ file ∷ turns ∷ []) = with_three word address file turns
command_of (word ∷ address ∷ file ∷ turns ∷ another ∷ rest) = None
