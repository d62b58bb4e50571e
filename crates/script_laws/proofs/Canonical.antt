-- The canonical text of a script is one of its texts.
use Rattle.std.proofs.Common.{◌≡◌, ◌≢◌, ℕ, zero, suc, ◌/◌, ◌%◌, ◌^◌, ◌<◌, ◌≤◌, ◌==◌, ◌&&◌}
use Rattle.std.proofs.Common.{not, nat_le, Bool, true, false, List, [], ◌∷◌, ◌++◌}
use Rattle.std.proofs.Common.{Option, Some, None, Ok, refl, sym, ap, ◌∙◌, subst, arith}
use Rattle.std.proofs.Common.{append_assoc}
use Rattle.std.specs.Prelude.{codes, slice_index}
use Rattle.std.specs.List.{All, AllPass, list_all, flat_map, join_with_byte}
use Rattle.std.specs.Char.{is_ascii_digit}
use Rattle.std.specs.Int.{to_be_bytes, w16, w32, bytes_high_first, byte_at as number_byte}
use Rattle.std.specs.Fmt.{decimal}
use Rattle.std.proofs.lemmas.Bool.{and_parts, and_from, leb-true, le-leb, false≢true, eq-eqb}
use Rattle.std.proofs.lemmas.List.Elements.{All-nil, All-cons, All-head, All-tail, All-append}
use Rattle.std.proofs.lemmas.List.Elements.{All-weaker}
use Rattle.std.proofs.lemmas.Fmt.{digits_decimal, digits_value-decimal, length-decimal-le}
use Rattle.std.proofs.lemmas.Fmt.{decimal_nonempty}
use Rattle.std.proofs.lemmas.Nat.{be_bytes_2}
use Rattle.std.proofs.lemmas.Str.Parse.{IsDigitsTest, IsNumeralModel, numerals_by_fold}
use Rattle.hex.specs.Hex.{encode_lower, decode_of, is_hex_digit}
use Rattle.hex.proofs.HexLemmas.{decode_of-encode_lower, decode_of-ok}
use Rattle.omci_types.specs.declared.Priority.{Priority}
use Rattle.omci_types.specs.declared.Priority.TheVariants.{Low, High}
use Rattle.slot_spec.specs.declared.Pick.{Pick}
use Rattle.slot_spec.specs.declared.Pick.TheVariants.{Old, New, Byte}
use Rattle.script_spec.specs.declared.Document.TheVariants as documents
use Rattle.script_spec.specs.declared.Line.{Line}
use Rattle.script_spec.specs.declared.Line.TheVariants.{Probe as probe}
use Rattle.script_spec.specs.declared.TheConstants.{LAST_PACKET, MAX_MASK}
use Rattle.script_spec.specs.Fields.{Value, Lane, Number, Bytes, Check, PickOf, Form, LaneName}
use Rattle.script_spec.specs.Fields.{Decimal, MaskDigits, CheckDigits, PickName, HexBytes}
use Rattle.script_spec.specs.Fields.{NoiseBytes, Fits, FitsPick, AllFit, IsBytes}
use Rattle.script_spec.specs.Script.{Action, Row, row, said, first_value, later_values, Header}
use Rattle.script_spec.specs.Script.{header_row, header_values, Script, IsAction, IsHeader}
use Rattle.script_spec.specs.Script.{IsScript}
use Rattle.script_spec.specs.Text.{lane_text, old_text, new_text, value_from, decimal_value}
use Rattle.script_spec.specs.Grammar.{SpellsNumber, SpellsMask, SpellsCheck, SpellsPick}
use Rattle.script_spec.specs.Grammar.{SpellsBytes, IsTextOf, SpellEach, BeginsWithLine, feed}
use Rattle.script_spec.specs.Grammar.{WritesActions, no_line, action_line, first_line, Writes}
use Rattle.script_spec.specs.Canonical.{hex_text, check_text, pick_text, word_text, words_text}
use Rattle.script_spec.specs.Canonical.{line_text, action_text, canonical}
use Rattle.script_laws.proofs.Lines.{NoReturn}
use Rattle.script_laws.proofs.Table.{is_name, row_named}

-- ---- numbers

digits_test : IsDigitsTest (AllPass is_ascii_digit)
digits_test = record {
  empty = All-nil (λ b. is_ascii_digit b ≡ true);
  parts = λ c cs h. let p =
      and_parts (nat_le 48 c) (nat_le c 57) (All-head (λ b. is_ascii_digit b ≡ true) c cs h) in
      ((leb-true 48 c p.0, leb-true c 57 p.1), All-tail (λ b. is_ascii_digit b ≡ true) c cs h);
  more =
      λ c cs r h.
      All-cons (λ b. is_ascii_digit b ≡ true) c cs
      (and_from _ _ (le-leb 48 c r.0) (le-leb c 57 r.1)) h;
}

own_numerals : IsNumeralModel (AllPass is_ascii_digit) (value_from 0)
own_numerals =
    numerals_by_fold (AllPass is_ascii_digit) digits_test value_from
    (record { empty = λ n. refl; more = λ n c cs r. refl })

number_text : (n : ℕ) → n ≤ LAST_PACKET → SpellsNumber n (decimal n)
unfolding decimal_value
number_text n most =
    let small : n < 2 ^ 64 = omega arith in
    record {
      digits = digits_decimal own_numerals n small;
      some = decimal_nonempty n small;
      few = length-decimal-le 18 n (omega arith) (omega arith) small;
      value = digits_value-decimal own_numerals n small;
    }

-- ---- bytes

byte_at : (bytes : List ℕ) → IsBytes bytes → (i : ℕ) → slice_index bytes i < 256
byte_at [] h i = omega arith
byte_at (b ∷ bytes) h zero = All-head (λ x. x < 256) b bytes h
byte_at (b ∷ bytes) h (suc i) = byte_at bytes (All-tail (λ x. x < 256) b bytes h) i

bytes_text : (bytes : List ℕ) → IsBytes bytes → SpellsBytes bytes (hex_text bytes)
bytes_text [] h = refl
bytes_text (b ∷ bytes) h = decode_of-encode_lower (b ∷ bytes) (byte_at (b ∷ bytes) h)

mask_text : (n : ℕ) → n ≤ MAX_MASK → SpellsMask n (encode_lower (to_be_bytes w16 n))
mask_text n most =
    let high : n / 256 < 256 = omega arith in
    let low : n % 256 < 256 = omega arith in
    let fits =
    byte_at (n / 256 ∷ n % 256 ∷ [])
    (All-cons (λ x. x < 256) (n / 256) (n % 256 ∷ []) high
    (All-cons (λ x. x < 256) (n % 256) [] low (All-nil (λ x. x < 256)))) in
    let bytes : to_be_bytes w16 n ≡ n / 256 ∷ n % 256 ∷ [] =
    be_bytes_2 (n / 256 ∷ n % 256 ∷ []) n refl fits (omega arith) in (
      n / 256,
      n % 256,
      ap (λ bs. decode_of (encode_lower bs)) bytes
          ∙ decode_of-encode_lower (n / 256 ∷ n % 256 ∷ []) fits,
      omega arith,
    )

byte_fits : (place n : ℕ) → number_byte place n < 256
byte_fits zero n = omega arith
byte_fits (suc place) n = omega arith

number_bytes : (count n : ℕ) → IsBytes (bytes_high_first count n)
number_bytes zero n = All-nil (λ b. b < 256)
number_bytes (suc count) n =
    All-cons (λ b. b < 256) (number_byte count n) (bytes_high_first count n) (byte_fits count n)
    (number_bytes count n)

check_spelled : (check : Option ℕ) → SpellsCheck check (check_text check)
check_spelled None = refl
check_spelled (Some check) =
    let bytes = to_be_bytes w32 check in
    decode_of-encode_lower bytes (byte_at bytes (number_bytes 4 check))

pick_spelled : (pick : Pick) → FitsPick pick → SpellsPick pick (pick_text pick)
pick_spelled Old fits = refl
pick_spelled New fits = refl
pick_spelled (Byte b) fits =
    decode_of-encode_lower (b ∷ [])
    (byte_at (b ∷ []) (All-cons (λ x. x < 256) b [] fits (All-nil (λ x. x < 256))))

-- ---- words

-- a number of the form has at most so many digits as a word may have
abbrev pub is_short : Form → Bool
is_short (Decimal low high) = nat_le high LAST_PACKET
is_short _ = true

text_of : (form : Form) (value : Value) → is_short form ≡ true → Fits form value
    → IsTextOf form value (word_text form value)
text_of LaneName (Lane lane) short fits = refl
text_of (Decimal low high) (Number n) short fits =
    let most : high ≤ LAST_PACKET = leb-true high LAST_PACKET short in
    number_text n (omega (arith, fits.1))
text_of MaskDigits (Number n) short fits = mask_text n fits
text_of CheckDigits (Check check) short fits = check_spelled check
text_of PickName (PickOf pick) short fits = pick_spelled pick fits
text_of (HexBytes fewest most) (Bytes bytes) short fits = bytes_text bytes fits.1.bytes
text_of (NoiseBytes most) (Bytes bytes) short fits = bytes_text bytes fits.1.bytes
text_of form value short fits = absurd fits

abbrev word_texts : List Form → List Value → List (List ℕ)
word_texts [] values = []
word_texts (form ∷ forms) values =
    word_text form (first_value values) ∷ word_texts forms (later_values values)

each_text : (forms : List Form) (values : List Value) → list_all is_short forms ≡ true
    → AllFit forms values → SpellEach forms values (word_texts forms values)
each_text [] [] short fits = tt
each_text (form ∷ forms) (value ∷ values) short fits =
    let parts = and_parts (is_short form) (list_all is_short forms) short in (
      record { fits = fits.0; text = text_of form value parts.0 fits.0 },
      each_text forms values parts.1 fits.1,
    )
each_text forms values short fits = absurd fits

-- ---- one line

abbrev Lacks : ℕ → List ℕ → Type 0
Lacks x text = All (λ b. b ≢ x) text

abbrev lacks : ℕ → List ℕ → Bool
lacks x text = list_all (λ b. not (b == x)) text

lacks_by_test : (x : ℕ) (text : List ℕ) → lacks x text ≡ true → Lacks x text
lacks_by_test x [] h = All-nil (λ b. b ≢ x)
lacks_by_test x (b ∷ text) h =
    let parts = and_parts (not (b == x)) (lacks x text) h in
    All-cons (λ c. c ≢ x) b text (λ e. false≢true (sym (ap not (eq-eqb b x e)) ∙ parts.0))
    (lacks_by_test x text parts.1)

-- the byte stands in no word of a value, and parts no words
record IsOutside (x : ℕ) : Type 0 where
  pub digit : is_ascii_digit x ≡ false
  pub hex : is_hex_digit x ≡ false
  pub dash : lacks x (codes "-") ≡ true
  pub low : lacks x (codes "low") ≡ true
  pub high : lacks x (codes "high") ≡ true
  pub old : lacks x old_text ≡ true
  pub new : lacks x new_text ≡ true
  pub space : lacks x (codes " ") ≡ true

feed_outside : IsOutside 10
feed_outside =
    record {
      digit = refl;
      hex = refl;
      dash = refl;
      low = refl;
      high = refl;
      old = refl;
      new = refl;
      space = refl;
    }

return_outside : IsOutside 13
return_outside =
    record {
      digit = refl;
      hex = refl;
      dash = refl;
      low = refl;
      high = refl;
      old = refl;
      new = refl;
      space = refl;
    }

module _ (x : ℕ) (out : IsOutside x) where
  lane_lacks : (lane : Priority) → Lacks x (lane_text lane)
  lane_lacks Low = lacks_by_test x (codes "low") out.low
  lane_lacks High = lacks_by_test x (codes "high") out.high

  digits_lack : (word : List ℕ) → AllPass is_ascii_digit word → Lacks x word
  digits_lack word digits =
      All-weaker (λ b. is_ascii_digit b ≡ true) (λ b. b ≢ x)
      (λ b d e. false≢true (sym out.digit ∙ sym (ap is_ascii_digit e) ∙ d)) word digits

  hex_lacks : (word bytes : List ℕ) → decode_of word ≡ Ok bytes → Lacks x word
  hex_lacks word bytes h =
      All-weaker (λ b. is_hex_digit b ≡ true) (λ b. b ≢ x)
      (λ b d e. false≢true (sym out.hex ∙ sym (ap is_hex_digit e) ∙ d)) word
      (decode_of-ok word bytes h).1

  bytes_lack : (bytes word : List ℕ) → SpellsBytes bytes word → Lacks x word
  bytes_lack [] word s = subst (λ w. Lacks x w) (sym s) (lacks_by_test x (codes "-") out.dash)
  bytes_lack (b ∷ bytes) word s = hex_lacks word (b ∷ bytes) s

  check_lacks : (check : Option ℕ) (word : List ℕ) → SpellsCheck check word → Lacks x word
  check_lacks None word s = subst (λ w. Lacks x w) (sym s) (lacks_by_test x (codes "-") out.dash)
  check_lacks (Some check) word s = hex_lacks word (to_be_bytes w32 check) s

  pick_lacks : (pick : Pick) (word : List ℕ) → SpellsPick pick word → Lacks x word
  pick_lacks Old word s = subst (λ w. Lacks x w) (sym s) (lacks_by_test x old_text out.old)
  pick_lacks New word s = subst (λ w. Lacks x w) (sym s) (lacks_by_test x new_text out.new)
  pick_lacks (Byte b) word s = hex_lacks word (b ∷ []) s

  word_lacks : (form : Form) (value : Value) (word : List ℕ) → IsTextOf form value word
      → Lacks x word
  word_lacks LaneName (Lane lane) word s = subst (λ w. Lacks x w) (sym s) (lane_lacks lane)
  word_lacks (Decimal low high) (Number n) word s = digits_lack word s.digits
  word_lacks MaskDigits (Number mask) word s = hex_lacks word (s.0 ∷ s.1 ∷ []) s.2
  word_lacks CheckDigits (Check check) word s = check_lacks check word s
  word_lacks PickName (PickOf pick) word s = pick_lacks pick word s
  word_lacks (HexBytes fewest most) (Bytes bytes) word s = bytes_lack bytes word s
  word_lacks (NoiseBytes most) (Bytes bytes) word s = bytes_lack bytes word s
  word_lacks form value word s = absurd s

  each_lacks : (forms : List Form) (values : List Value) (words : List (List ℕ))
      → SpellEach forms values words → All (λ w. Lacks x w) words
  each_lacks [] [] [] s = All-nil (λ w. Lacks x w)
  each_lacks (form ∷ forms) (value ∷ values) (word ∷ words) s =
      All-cons (λ w. Lacks x w) word words (word_lacks form value word s.0.text)
      (each_lacks forms values words s.1)
  each_lacks forms values words s = absurd s

  names_lack : (names words : List (List ℕ)) → list_all (λ w. lacks x w) names ≡ true
      → All (λ w. Lacks x w) words → All (λ w. Lacks x w) (names ++ words)
  names_lack [] words h each = each
  names_lack (name ∷ names) words h each =
      let parts = and_parts (lacks x name) (list_all (λ w. lacks x w) names) h in
      All-cons (λ w. Lacks x w) name (names ++ words) (lacks_by_test x name parts.0)
      (names_lack names words parts.1 each)

  joined_lacks : (words : List (List ℕ)) → All (λ w. Lacks x w) words
      → Lacks x (join_with_byte 32 words)
  joined_lacks [] each = All-nil (λ b. b ≢ x)
  joined_lacks (word ∷ []) each = All-head (λ w. Lacks x w) word [] each
  joined_lacks (word ∷ next ∷ words) each =
      let space = All-head (λ b. b ≢ x) 32 [] (lacks_by_test x (codes " ") out.space) in
      All-append (λ b. b ≢ x) word (32 ∷ join_with_byte 32 (next ∷ words))
      (All-head (λ w. Lacks x w) word (next ∷ words) each)
      (All-cons (λ b. b ≢ x) 32 (join_with_byte 32 (next ∷ words)) space
      (joined_lacks (next ∷ words) (All-tail (λ w. Lacks x w) word (next ∷ words) each)))

no_return : (text : List ℕ) → Lacks 13 text → NoReturn text
no_return text h [] e = All-head (λ b. b ≢ 13) 13 [] (subst (λ t. Lacks 13 t) e h) refl
no_return [] h (c ∷ front) e = cc
no_return (b ∷ text) h (c ∷ front) e = no_return text (All-tail (λ b. b ≢ 13) b text h) front cc

-- ---- lines

-- what a row has to have: short numbers, and a name of one line
abbrev is_printed : Row → Bool
is_printed line =
    list_all is_short line.fields && list_all (λ w. lacks 10 w) line.name
    && list_all (λ w. lacks 13 w) line.name

row_printed : (line : Line) → is_printed (row line) ≡ true
row_printed probe = refl
row_printed _ = refl

-- the words of a line, parted by spaces, and its line feed
joined_line : (name : List ℕ) (names : List (List ℕ)) (forms : List Form) (values : List Value)
    → join_with_byte 32 (name ∷ (names ++ word_texts forms values)) ++ 10 ∷ []
    ≡ join_with_byte 32 (name ∷ names) ++ words_text forms values
joined_line name [] [] values = refl
joined_line name [] (form ∷ forms) values =
    let word = word_text form (first_value values) in
    append_assoc name (32 ∷ join_with_byte 32 (word ∷ word_texts forms (later_values values)))
    (10 ∷ [])
    ∙ ap (λ text. name ++ (32 ∷ text)) (joined_line word [] forms (later_values values))
joined_line name (next ∷ names) forms values =
    append_assoc name (32 ∷ join_with_byte 32 (next ∷ (names ++ word_texts forms values))) (10 ∷ [])
    ∙ ap (λ text. name ++ (32 ∷ text)) (joined_line next names forms values)
    ∙ sym (append_assoc name (32 ∷ join_with_byte 32 (next ∷ names)) (words_text forms values))

joined_row : (line : Row) (values : List Value) → is_name line.name ≡ true
    → join_with_byte 32 (line.name ++ word_texts line.fields values) ++ 10 ∷ []
    ≡ line_text line values
unfolding line_text
joined_row line values named = by_name line.name named
  where
    by_name : (name : List (List ℕ)) → is_name name ≡ true
        → join_with_byte 32 (name ++ word_texts line.fields values) ++ 10 ∷ []
        ≡ join_with_byte 32 name ++ words_text line.fields values
    by_name [] h = cc
    by_name (name ∷ names) h = joined_line name names line.fields values

abbrev text_before : Row → List Value → List ℕ
text_before line values = join_with_byte 32 (line.name ++ word_texts line.fields values)

module _ (line : Row) (named : is_name line.name ≡ true) (printed : is_printed line ≡ true)
    (values : List Value) (fits : AllFit line.fields values) where
  spelled : SpellEach line.fields values (word_texts line.fields values)
  spelled =
      let first =
      and_parts (list_all is_short line.fields && list_all (λ w. lacks 10 w) line.name)
      (list_all (λ w. lacks 13 w) line.name) printed in
      each_text line.fields values
      (and_parts (list_all is_short line.fields) (list_all (λ w. lacks 10 w) line.name)
      first.0).0 fits

  line_lacks : (x : ℕ) → IsOutside x → list_all (λ w. lacks x w) line.name ≡ true
      → Lacks x (text_before line values)
  line_lacks x out h =
      joined_lacks x out (line.name ++ word_texts line.fields values)
      (names_lack x out line.name (word_texts line.fields values) h
      (each_lacks x out line.fields values (word_texts line.fields values) spelled))

  begins : (rest : List ℕ)
      → BeginsWithLine (line_text line values ++ rest) (text_before line values) rest
  begins rest =
      let first =
      and_parts (list_all is_short line.fields && list_all (λ w. lacks 10 w) line.name)
      (list_all (λ w. lacks 13 w) line.name) printed in
      let second =
      and_parts (list_all is_short line.fields) (list_all (λ w. lacks 10 w) line.name)
      first.0 in
      record {
        one_line = line_lacks 10 feed_outside second.1;
        end = feed;
        whole = (
          ap (λ text. text ++ rest) (sym (joined_row line values named))
              ∙ append_assoc (text_before line values) (10 ∷ []) rest,
          no_return (text_before line values) (line_lacks 13 return_outside first.1),
        );
      }

-- ---- scripts

actions_written : (actions : List Action) → All IsAction actions
    → WritesActions documents.Script actions (flat_map action_text actions)
actions_written [] h = no_line documents.Script
actions_written (action ∷ actions) h =
    let line = row (said action).line in
    let values = (said action).values in
    let printed = row_printed (said action).line in
    let fits = All-head IsAction action actions h in
    let rest = flat_map action_text actions in
    action_line documents.Script (text_before line values) (line_text line values ++ rest) rest
    action actions (begins line (row_named (said action).line) printed values fits rest) (
      word_texts line.fields values,
      refl,
      spelled line (row_named (said action).line) printed values fits,
    ) refl
    (actions_written actions (All-tail IsAction action actions h))

header_fits : (header : Header) → IsHeader header
    → AllFit (header_row header.room).fields (header_values header)
header_fits header h = (
  (h.room_some, h.room_most),
  (
    (h.low_some, h.low_most),
    ((h.high_some, h.high_most), ((h.factory_some, h.factory_fits), tt)),
  ),
)

-- the canonical text is a text of the script
pub canonical_written : (script : Script) → IsScript script → Writes script (canonical script)
unfolding canonical
canonical_written script h =
    let line = header_row script.header.room in
    let values = header_values script.header in
    let fits = header_fits script.header h.header in
    let rest = flat_map action_text script.actions in
    record {
      text = text_before line values;
      rest = rest;
      opens =
          first_line (line_text line values ++ rest) (text_before line values) rest
          (begins line refl refl values fits rest);
      header = (word_texts line.fields values, refl, spelled line refl refl values fits);
      actions = actions_written script.actions h.actions;
    }
