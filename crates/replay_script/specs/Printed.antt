-- The text of the words of a line.
use Rattle.std.specs.Prelude.{ℕ, List, [], ◌∷◌, ◌++◌}
use Rattle.std.specs.List.{flat_map}
use Rattle.std.specs.Int.{to_be_bytes, w16}
use Rattle.std.specs.Fmt.{decimal}
use Rattle.hex.specs.Hex.{encode_lower}
use Rattle.script_spec.specs.Text.{lane_text}
use Rattle.script_spec.specs.Canonical.{hex_text, check_text, pick_text}
use Rattle.replay_script.specs.declared.printing.Word.{Word}
use Rattle.replay_script.specs.declared.printing.Word.TheVariants as word

-- a space, and the word
abbrev pub word_text : Word → List ℕ
word_text (word.Lane lane) = 32 ∷ lane_text lane
word_text (word.Number number) = 32 ∷ decimal number
word_text (word.Mask mask) = 32 ∷ encode_lower (to_be_bytes w16 mask)
word_text (word.Check check) = 32 ∷ check_text check
word_text (word.Pick pick) = 32 ∷ pick_text pick
word_text (word.Bytes bytes) = 32 ∷ hex_text bytes.now

-- each word after a space, and then the line feed
abbrev pub words_text : List Word → List ℕ
words_text words = flat_map word_text words ++ 10 ∷ []
