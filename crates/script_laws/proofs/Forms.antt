-- What a word says in a field of each form, what the grammar says of the word, and which words have
-- a fault there.
use Rattle.std.proofs.Common.{◌≡◌, ◌≢◌, ℕ, ◌*◌, ◌/◌, ◌%◌, ◌<◌, ◌≤◌, ◌==◌, ◌&&◌, ◌||◌, not}
use Rattle.std.proofs.Common.{nat_le, Bool, true, false, cond, List, [], ◌∷◌, length, Option, Some}
use Rattle.std.proofs.Common.{None, Result, Ok, Err, refl, sym, ap, ◌∙◌, subst, arith}
use Rattle.std.specs.Prelude.{codes, is_some, unwrap_or}
use Rattle.std.specs.List.{AllPass, list_all}
use Rattle.std.specs.Char.{is_ascii_digit}
use Rattle.std.specs.Int.{to_be_bytes, w32}
use Rattle.std.specs.Str.{bytes_eq}
use Rattle.std.specs.Result.{result_err}
use Rattle.std.proofs.lemmas.Bool.{and_parts, and_from, leb-true, le-leb, eqb-true, eq-eqb}
use Rattle.std.proofs.lemmas.Bool.{eqb-false, ne_eqb, false_from_ne_true, false≢true}
use Rattle.std.proofs.lemmas.Slice.Eq.{bytes_eq-Decides}
use Rattle.std.proofs.lemmas.List.Elements.{All-nil, All-cons, All-weaker, All-from_get_or}
use Rattle.hex.specs.Hex.{decode_of, is_hex_digit}
use Rattle.hex.specs.declared.error.FromHexError.{FromHexError}
use Rattle.hex.proofs.HexLemmas.{decode_of-ok, decode_of-digits}
use Rattle.omci_types.specs.declared.Priority.{Priority}
use Rattle.omci_types.specs.declared.Priority.TheVariants.{Low, High}
use Rattle.slot_spec.specs.declared.Pick.{Pick}
use Rattle.slot_spec.specs.declared.Pick.TheVariants.{Old, New, Byte}
use Rattle.extended_spec.specs.declared.AnyFault.{AnyFault}
use Rattle.extended_spec.specs.Frames.{any_fault_of}
use Rattle.script_spec.specs.declared.TheConstants.{MAX_DIGITS, WORD_FAULT, NUMBER_FAULT}
use Rattle.script_spec.specs.declared.TheConstants.{HEX_FAULT, NOISE_FAULT}
use Rattle.script_spec.specs.Fields.{Value, Lane, Number, Bytes, Check, PickOf, lane_in, number_in}
use Rattle.script_spec.specs.Fields.{bytes_in, check_in, pick_in, Form, LaneName, Decimal}
use Rattle.script_spec.specs.Fields.{MaskDigits, CheckDigits, PickName, HexBytes, NoiseBytes, Fits}
use Rattle.script_spec.specs.Fields.{AreBytes, IsNoise}
use Rattle.script_spec.specs.Text.{lane_text, old_text, new_text, is_numeral, is_number}
use Rattle.script_spec.specs.Text.{decimal_value, decoded, hex_bytes, mask_of}
use Rattle.script_spec.specs.Grammar.{SpellsNumber, SpellsCheck, SpellsPick, SpellsBytes, IsTextOf}
use Rattle.script_spec.specs.Grammar.{Spells}
use Rattle.script_spec.specs.Fault.{is_hex, is_mask, is_check, is_pick, is_noise, unless, first_of}
use Rattle.script_spec.specs.Fault.{word_fault}
use Rattle.script_spec.specs.Reading.{◌>>=◌, or_reason, lane_of, number_of, check_word, pick_word}
use Rattle.script_spec.specs.Reading.{within, bytes_of, noise_with, noise_of, word_value}
use Rattle.script_laws.proofs.Steps.{bind_ok, ok_same, or_reason_ok, chosen_some}
use Rattle.script_laws.proofs.Steps.{list_all-AllPass, AllPass-list_all}
use Rattle.script_laws.proofs.Digits.{no_dash, mask_spells, mask_spelled, mask_range, mask_there}
use Rattle.script_laws.proofs.Digits.{mask_back, check_spells, check_spelled, check_there}
use Rattle.script_laws.proofs.Digits.{check_back, pick_spells, pick_spelled, pick_there, pick_back}
use Rattle.script_laws.proofs.Words.{NotSpace, IsOneWord}

-- ---- lanes

lane_spells : (word : List ℕ) (lane : Priority) → lane_of word ≡ Some lane → word ≡ lane_text lane
lane_spells word lane h = by_low (bytes_eq word (lane_text Low)) refl h
  where
    by_low : (b : Bool) → bytes_eq word (lane_text Low) ≡ b
        → cond b (Some Low) (cond (bytes_eq word (lane_text High)) (Some High) None) ≡ Some lane
        → word ≡ lane_text lane
    by_low true e h =
        let same : Low ≡ lane = cc in
        (bytes_eq-Decides word (lane_text Low)).0 e ∙ ap lane_text same
    by_low false e h =
        let found = chosen_some (bytes_eq word (lane_text High)) High lane h in
        (bytes_eq-Decides word (lane_text High)).0 found.0 ∙ ap lane_text found.1

lane_spelled : (word : List ℕ) (lane : Priority) → word ≡ lane_text lane → lane_of word ≡ Some lane
lane_spelled word Low h = ap lane_of h
lane_spelled word High h = ap lane_of h

-- ---- numbers

pub number_spells : (low high : ℕ) (word : List ℕ) (n : ℕ) → number_of low high word ≡ Some n
    → ((low ≤ n) × (n ≤ high)) × SpellsNumber n word
number_spells low high word n h =
    let found = chosen_some (is_number low high word) (decimal_value word) n h in
    let front =
    and_parts (is_numeral word && nat_le low (decimal_value word))
    (nat_le (decimal_value word) high) found.0 in
    let lower = and_parts (is_numeral word) (nat_le low (decimal_value word)) front.0 in
    let digits =
    and_parts (nat_le 1 (length word) && nat_le (length word) MAX_DIGITS)
    (list_all is_ascii_digit word) lower.0 in
    let sizes = and_parts (nat_le 1 (length word)) (nat_le (length word) MAX_DIGITS) digits.0 in (
      (
        subst (λ m. low ≤ m) found.1 (leb-true low (decimal_value word) lower.1),
        subst (λ m. m ≤ high) found.1 (leb-true (decimal_value word) high front.1),
      ),
      record {
        digits = list_all-AllPass is_ascii_digit word digits.1;
        some = leb-true 1 (length word) sizes.0;
        few = leb-true (length word) MAX_DIGITS sizes.1;
        value = found.1;
      },
    )

pub number_spelled : (low high : ℕ) (word : List ℕ) (n : ℕ)
    → ((low ≤ n) × (n ≤ high)) × SpellsNumber n word → number_of low high word ≡ Some n
number_spelled low high word n s =
    let numeral : is_numeral word ≡ true =
    and_from _ _
    (and_from _ _ (le-leb 1 (length word) s.1.some) (le-leb (length word) MAX_DIGITS s.1.few))
    (AllPass-list_all is_ascii_digit word s.1.digits) in
    let number : is_number low high word ≡ true =
    and_from _ _
    (and_from _ _ numeral
    (le-leb low (decimal_value word) (subst (λ m. low ≤ m) (sym s.1.value) s.0.0)))
    (le-leb (decimal_value word) high (subst (λ m. m ≤ high) (sym s.1.value) s.0.1)) in
    ap (λ b. cond b (Some (decimal_value word)) None) number ∙ ap Some s.1.value

-- ---- bytes

none_or : {A : Type 0} (b : Bool) (rest : Option A) (x : A) → cond b None rest ≡ Some x
    → (b ≡ false) × (rest ≡ Some x)
none_or true rest x h = cc
none_or false rest x h = (refl, h)

decoded_some : (r : Result (List ℕ) FromHexError) (bytes : List ℕ) → decoded r ≡ Some bytes
    → r ≡ Ok bytes
decoded_some (Ok found) bytes h = ap Ok cc
decoded_some (Err error) bytes h = cc

-- digits that stand for bytes; none would be an empty word
digits_spell : (word bytes : List ℕ) → (length word == 0) ≡ false → decode_of word ≡ Ok bytes
    → SpellsBytes bytes word
digits_spell word [] some h =
    absurd (eqb-false (length word) 0 some (omega (arith, (decode_of-ok word [] h).2)))
digits_spell word (b ∷ bytes) some h = h

hex_cases : (word bytes : List ℕ) (dash : Bool) → bytes_eq word (codes "-") ≡ dash
    → (length word == 0) ≡ false → cond dash (Some []) (decoded (decode_of word)) ≡ Some bytes
    → SpellsBytes bytes word
hex_cases word bytes true e some h =
    let none : [] ≡ bytes = cc in
    subst (λ bs. SpellsBytes bs word) none ((bytes_eq-Decides word (codes "-")).0 e)
hex_cases word bytes false e some h =
    digits_spell word bytes some (decoded_some (decode_of word) bytes h)

pub hex_spells : (word bytes : List ℕ) → hex_bytes word ≡ Some bytes → SpellsBytes bytes word
unfolding hex_bytes
hex_spells word bytes h =
    let some = none_or (length word == 0) _ bytes h in
    hex_cases word bytes (bytes_eq word (codes "-")) refl some.0 some.1

pub hex_spelled : (word bytes : List ℕ) → SpellsBytes bytes word → hex_bytes word ≡ Some bytes
unfolding hex_bytes
hex_spelled word [] s = ap hex_bytes s
hex_spelled word (b ∷ bytes) s =
    let some : (length word == 0) ≡ false =
    ne_eqb (length word) 0
    (λ none. absurd (omega (arith, (decode_of-ok word (b ∷ bytes) s).2))) in
    rw (some, no_dash word (b ∷ bytes) s, s) refl

-- hex of these bytes, of which there are neither too few nor too many
abbrev pub IsHexOf : ℕ → ℕ → List ℕ → List ℕ → Type 0
IsHexOf fewest most bytes word =
    SpellsBytes bytes word × (fewest ≤ length bytes) × (length bytes ≤ most)

within_some : (fewest most : ℕ) (o : Option (List ℕ)) (bytes : List ℕ)
    → within fewest most o ≡ Some bytes
    → (o ≡ Some bytes) × (fewest ≤ length bytes) × (length bytes ≤ most)
within_some fewest most (Some found) bytes h =
    let is =
    chosen_some (nat_le fewest (length found) && nat_le (length found) most) found bytes h in
    let sizes = and_parts (nat_le fewest (length found)) (nat_le (length found) most) is.0 in (
      ap Some is.1,
      subst (λ bs. fewest ≤ length bs) is.1 (leb-true fewest (length found) sizes.0),
      subst (λ bs. length bs ≤ most) is.1 (leb-true (length found) most sizes.1),
    )
within_some fewest most None bytes h = cc

pub bytes_spell : (fewest most : ℕ) (word bytes : List ℕ) → bytes_of fewest most word ≡ Some bytes
    → IsHexOf fewest most bytes word
bytes_spell fewest most word bytes h =
    let found = within_some fewest most (hex_bytes word) bytes h in
    (hex_spells word bytes found.0, found.1, found.2)

pub bytes_spelled : (fewest most : ℕ) (word bytes : List ℕ) → IsHexOf fewest most bytes word
    → bytes_of fewest most word ≡ Some bytes
bytes_spelled fewest most word bytes s =
    let sizes : (nat_le fewest (length bytes) && nat_le (length bytes) most) ≡ true =
    and_from _ _ (le-leb fewest (length bytes) s.1) (le-leb (length bytes) most s.2) in
    ap (within fewest most) (hex_spelled word bytes s.0) ∙ ap (λ b. cond b (Some bytes) None) sizes

pub bytes_range : (most : ℕ) (bytes word : List ℕ) → SpellsBytes bytes word → length bytes ≤ most
    → AreBytes most bytes
bytes_range most [] word s few = record { few = few; bytes = All-nil (λ b. b < 256) }
bytes_range most (b ∷ bytes) word s few = record {
  few = few;
  bytes =
      All-from_get_or (λ b. b < 256) (b ∷ bytes) 0 (λ i lt. (decode_of-ok word (b ∷ bytes) s).3 i);
}

-- ---- noise

-- bytes that are noise, in hex
abbrev pub IsNoiseHexOf : ℕ → List ℕ → List ℕ → Type 0
IsNoiseHexOf most bytes word = IsHexOf 0 most bytes word × IsNoise bytes

noise_with_ok : (found : Option AnyFault) (bytes noise : List ℕ)
    → noise_with found bytes ≡ Ok noise → (bytes ≡ noise) × (found ≢ None)
noise_with_ok (Some fault) bytes noise h = (ok_same h, λ e. cc)
noise_with_ok None bytes noise h = cc

noise_with_fault : (found : Option AnyFault) (bytes : List ℕ) → found ≢ None
    → noise_with found bytes ≡ Ok bytes
noise_with_fault (Some fault) bytes h = refl
noise_with_fault None bytes h = absurd (h refl)

noise_spells : (most : ℕ) (word bytes : List ℕ) → noise_of most word ≡ Ok bytes
    → IsNoiseHexOf most bytes word
noise_spells most word bytes h =
    let found = bind_ok (or_reason HEX_FAULT (bytes_of 0 most word)) _ bytes h in
    let noise = noise_with_ok (any_fault_of found.0) found.0 bytes found.2 in
    let read = or_reason_ok HEX_FAULT (bytes_of 0 most word) found.0 found.1 in
    (bytes_spell 0 most word bytes (read ∙ ap Some noise.0), subst IsNoise noise.0 noise.1)

noise_spelled : (most : ℕ) (word bytes : List ℕ) → IsNoiseHexOf most bytes word
    → noise_of most word ≡ Ok bytes
noise_spelled most word bytes s =
    ap (λ o. or_reason HEX_FAULT o >>= λ found. noise_with (any_fault_of found) found)
    (bytes_spelled 0 most word bytes s.0)
    ∙ noise_with_fault (any_fault_of bytes) bytes s.1

-- ---- words of each form

-- what a word says is what the grammar says of it
pub word_spells : (form : Form) (word : List ℕ) (value : Value) → word_value form word ≡ Ok value
    → Spells form value word
word_spells LaneName word value h =
    let lane = bind_ok (or_reason WORD_FAULT (lane_of word)) _ value h in
    let text = lane_spells word lane.0 (or_reason_ok WORD_FAULT (lane_of word) lane.0 lane.1) in
    subst (λ v. Spells LaneName v word) (ok_same lane.2) (record { fits = tt; text = text })
word_spells (Decimal low high) word value h =
    let n = bind_ok (or_reason NUMBER_FAULT (number_of low high word)) _ value h in
    let s =
    number_spells low high word n.0
    (or_reason_ok NUMBER_FAULT (number_of low high word) n.0 n.1) in
    subst (λ v. Spells (Decimal low high) v word) (ok_same n.2) (record { fits = s.0; text = s.1 })
word_spells MaskDigits word value h =
    let mask = bind_ok (or_reason HEX_FAULT (mask_of word)) _ value h in
    let s = mask_spells word mask.0 (or_reason_ok HEX_FAULT (mask_of word) mask.0 mask.1) in
    subst (λ v. Spells MaskDigits v word) (ok_same mask.2)
    (record { fits = mask_range mask.0 word s; text = s })
word_spells CheckDigits word value h =
    let check = bind_ok (or_reason HEX_FAULT (check_word word)) _ value h in
    let is =
    check_spells word check.0 (or_reason_ok HEX_FAULT (check_word word) check.0 check.1) in
    subst (λ v. Spells CheckDigits v word) (ok_same check.2)
    (record { fits = is.fits; text = is.text })
word_spells PickName word value h =
    let pick = bind_ok (or_reason HEX_FAULT (pick_word word)) _ value h in
    let is = pick_spells word pick.0 (or_reason_ok HEX_FAULT (pick_word word) pick.0 pick.1) in
    subst (λ v. Spells PickName v word) (ok_same pick.2)
    (record { fits = is.fits; text = is.text })
word_spells (HexBytes fewest most) word value h =
    let bytes = bind_ok (or_reason HEX_FAULT (bytes_of fewest most word)) _ value h in
    let s =
    bytes_spell fewest most word bytes.0
    (or_reason_ok HEX_FAULT (bytes_of fewest most word) bytes.0 bytes.1) in
    subst (λ v. Spells (HexBytes fewest most) v word) (ok_same bytes.2)
    (record { fits = (s.1, bytes_range most bytes.0 word s.0 s.2); text = s.0 })
word_spells (NoiseBytes most) word value h =
    let bytes = bind_ok (noise_of most word) _ value h in
    let s = noise_spells most word bytes.0 bytes.1 in
    subst (λ v. Spells (NoiseBytes most) v word) (ok_same bytes.2)
    (record { fits = (s.1, bytes_range most bytes.0 word s.0.0 s.0.2); text = s.0.0 })

-- what the grammar says of a word is what it says
pub word_spelled : (form : Form) (value : Value) (word : List ℕ) → Spells form value word
    → word_value form word ≡ Ok value
word_spelled LaneName (Lane lane) word s =
    ap (λ o. or_reason WORD_FAULT o >>= λ l. Ok (Lane l)) (lane_spelled word lane s.text)
word_spelled (Decimal low high) (Number n) word s =
    ap (λ o. or_reason NUMBER_FAULT o >>= λ m. Ok (Number m))
    (number_spelled low high word n (s.fits, s.text))
word_spelled MaskDigits (Number mask) word s =
    ap (λ o. or_reason HEX_FAULT o >>= λ m. Ok (Number m)) (mask_spelled word mask s.text)
word_spelled CheckDigits (Check check) word s =
    ap (λ o. or_reason HEX_FAULT o >>= λ c. Ok (Check c))
    (check_spelled word check (record { fits = s.fits; text = s.text }))
word_spelled PickName (PickOf pick) word s =
    ap (λ o. or_reason HEX_FAULT o >>= λ p. Ok (PickOf p))
    (pick_spelled word pick (record { fits = s.fits; text = s.text }))
word_spelled (HexBytes fewest most) (Bytes bytes) word s =
    ap (λ o. or_reason HEX_FAULT o >>= λ b. Ok (Bytes b))
    (bytes_spelled fewest most word bytes (s.text, s.fits.0, s.fits.1.few))
word_spelled (NoiseBytes most) (Bytes bytes) word s =
    ap (λ r. r >>= λ b. Ok (Bytes b))
    (noise_spelled most word bytes ((s.text, omega arith, s.fits.1.few), s.fits.0))
word_spelled form value word s = absurd s.text

-- a value of a form by what is in it
abbrev pub formed : Form → Value → Value
formed LaneName value = Lane (lane_in value)
formed (Decimal low high) value = Number (number_in value)
formed MaskDigits value = Number (number_in value)
formed CheckDigits value = Check (check_in value)
formed PickName value = PickOf (pick_in value)
formed (HexBytes fewest most) value = Bytes (bytes_in value)
formed (NoiseBytes most) value = Bytes (bytes_in value)

pub formed_same : (form : Form) (value : Value) → Fits form value → formed form value ≡ value
formed_same LaneName (Lane lane) h = refl
formed_same (Decimal low high) (Number n) h = refl
formed_same MaskDigits (Number n) h = refl
formed_same CheckDigits (Check check) h = refl
formed_same PickName (PickOf pick) h = refl
formed_same (HexBytes fewest most) (Bytes bytes) h = refl
formed_same (NoiseBytes most) (Bytes bytes) h = refl
formed_same form value h = absurd h

-- ---- words without spaces

pub plain_by_test : (word : List ℕ) → list_all (λ b. not (b == 32)) word ≡ true → IsOneWord word
plain_by_test [] h = All-nil NotSpace
plain_by_test (b ∷ word) h =
    let parts = and_parts (not (b == 32)) (list_all (λ c. not (c == 32)) word) h in
    All-cons NotSpace b word (λ e. false≢true (sym (ap (λ c. not (c == 32)) e) ∙ parts.0))
    (plain_by_test word parts.1)

plain_digits : (word : List ℕ) → AllPass is_ascii_digit word → IsOneWord word
plain_digits word digits =
    All-weaker (λ b. is_ascii_digit b ≡ true) NotSpace
    (λ b d e. false≢true (sym (ap is_ascii_digit e) ∙ d)) word digits

plain_hex : (word bytes : List ℕ) → decode_of word ≡ Ok bytes → IsOneWord word
plain_hex word bytes h =
    All-weaker (λ b. is_hex_digit b ≡ true) NotSpace
    (λ b d e. false≢true (sym (ap is_hex_digit e) ∙ d)) word (decode_of-ok word bytes h).1

plain_bytes : (bytes word : List ℕ) → SpellsBytes bytes word → IsOneWord word
plain_bytes [] word s = subst IsOneWord (sym s) (plain_by_test (codes "-") refl)
plain_bytes (b ∷ bytes) word s = plain_hex word (b ∷ bytes) s

plain_lane : (lane : Priority) → IsOneWord (lane_text lane)
plain_lane Low = plain_by_test (codes "low") refl
plain_lane High = plain_by_test (codes "high") refl

plain_check : (check : Option ℕ) (word : List ℕ) → SpellsCheck check word → IsOneWord word
plain_check None word s = subst IsOneWord (sym s) (plain_by_test (codes "-") refl)
plain_check (Some check) word s = plain_hex word (to_be_bytes w32 check) s

plain_pick : (pick : Pick) (word : List ℕ) → SpellsPick pick word → IsOneWord word
plain_pick Old word s = subst IsOneWord (sym s) (plain_by_test old_text refl)
plain_pick New word s = subst IsOneWord (sym s) (plain_by_test new_text refl)
plain_pick (Byte b) word s = plain_hex word (b ∷ []) s

-- no word of a value has a space
pub word_plain : (form : Form) (value : Value) (word : List ℕ) → IsTextOf form value word
    → IsOneWord word
word_plain LaneName (Lane lane) word s = subst IsOneWord (sym s) (plain_lane lane)
word_plain (Decimal low high) (Number n) word s = plain_digits word s.digits
word_plain MaskDigits (Number mask) word s = plain_hex word (s.0 ∷ s.1 ∷ []) s.2
word_plain CheckDigits (Check check) word s = plain_check check word s
word_plain PickName (PickOf pick) word s = plain_pick pick word s
word_plain (HexBytes fewest most) (Bytes bytes) word s = plain_bytes bytes word s
word_plain (NoiseBytes most) (Bytes bytes) word s = plain_bytes bytes word s
word_plain form value word s = absurd s

-- ---- faults

-- a test that holds exactly where there is a value
agree : {A : Type 0} (reason : ℕ) (b : Bool) (o : Option A) → (b ≡ true → (x : A) × (o ≡ Some x))
    → ((x : A) → o ≡ Some x → b ≡ true) → unless b reason ≡ result_err (or_reason reason o)
agree reason true (Some x) there back = refl
agree reason true None there back = absurd (missing (there refl).1)
  where
    missing : {A : Type 0} {x : A} → None ≡ Some x → ⊥
    missing e = cc
agree reason false (Some x) there back = absurd (wrong (back x refl))
  where
    wrong : false ≡ true → ⊥
    wrong e = cc
agree reason false None there back = refl

chosen_agree : {A : Type 0} (reason : ℕ) (b : Bool) (x : A)
    → unless b reason ≡ result_err (or_reason reason (cond b (Some x) None))
chosen_agree reason true x = refl
chosen_agree reason false x = refl

-- hex digits of a number of bytes within the bounds are bytes
hex_digits_there : (fewest most : ℕ) (word : List ℕ)
    → (nat_le 1 (length word) && (length word % 2 == 0) && list_all is_hex_digit word
    && nat_le fewest (length word / 2) && nat_le (length word / 2) most) ≡ true
    → (bytes : List ℕ) × (bytes_of fewest most word ≡ Some bytes)
hex_digits_there fewest most word h =
    let p =
    and_parts
    (nat_le 1 (length word) && (length word % 2 == 0) && list_all is_hex_digit word
    && nat_le fewest (length word / 2)) (nat_le (length word / 2) most) h in
    let q =
    and_parts (nat_le 1 (length word) && (length word % 2 == 0) && list_all is_hex_digit word)
    (nat_le fewest (length word / 2)) p.0 in
    let r =
    and_parts (nat_le 1 (length word) && (length word % 2 == 0))
    (list_all is_hex_digit word) q.0 in
    let t = and_parts (nat_le 1 (length word)) (length word % 2 == 0) r.0 in
    let some = leb-true 1 (length word) t.0 in
    let even = eqb-true (length word % 2) 0 t.1 in
    let read = decode_of-digits word even (list_all-AllPass is_hex_digit word r.1) in
    let size = (decode_of-ok word read.0 read.1).2 in
    let low = leb-true fewest (length word / 2) q.1 in
    let high = leb-true (length word / 2) most p.1 in
    let bytes = spelt word read.0 read.1 some size in (
      read.0,
      bytes_spelled fewest most word read.0
          (bytes, omega (arith, size, low), omega (arith, size, high)),
    )
  where
    spelt : (word bytes : List ℕ) → decode_of word ≡ Ok bytes → 1 ≤ length word
        → length word ≡ 2 * length bytes → SpellsBytes bytes word
    spelt word [] h some size = absurd (omega arith)
    spelt word (b ∷ bytes) h some size = h

hex_there : (fewest most : ℕ) (word : List ℕ) → is_hex fewest most word ≡ true
    → (bytes : List ℕ) × (bytes_of fewest most word ≡ Some bytes)
hex_there fewest most word h = by_test (bytes_eq word (codes "-")) refl h
  where
    by_test : (b : Bool) → bytes_eq word (codes "-") ≡ b
        → cond b (fewest == 0)
        (nat_le 1 (length word) && (length word % 2 == 0) && list_all is_hex_digit word
        && nat_le fewest (length word / 2) && nat_le (length word / 2) most) ≡ true
        → (bytes : List ℕ) × (bytes_of fewest most word ≡ Some bytes)
    by_test true e h = (
      [],
      bytes_spelled fewest most word [] (
        (bytes_eq-Decides word (codes "-")).0 e,
        omega (arith, eqb-true fewest 0 h),
        omega arith,
      ),
    )
    by_test false e h = hex_digits_there fewest most word h

hex_back : (fewest most : ℕ) (word bytes : List ℕ) → bytes_of fewest most word ≡ Some bytes
    → is_hex fewest most word ≡ true
hex_back fewest most word bytes h = by_bytes bytes (bytes_spell fewest most word bytes h)
  where
    by_bytes : (bytes : List ℕ) → IsHexOf fewest most bytes word → is_hex fewest most word ≡ true
    by_bytes [] s =
        let dash : bytes_eq word (codes "-") ≡ true = (bytes_eq-Decides word (codes "-")).1 s.0 in
        rw dash (eq-eqb fewest 0 (omega (arith, s.1)))
    by_bytes (b ∷ bytes) s =
        let ok = decode_of-ok word (b ∷ bytes) s.0 in
        let size = ok.2 in
        let no_dash : bytes_eq word (codes "-") ≡ false =
        false_from_ne_true _
        (λ e. absurd
        (omega (arith, size, ap length ((bytes_eq-Decides word (codes "-")).0 e)))) in
        rw no_dash
        (and_from _ _
        (and_from _ _
        (and_from _ _
        (and_from _ _ (le-leb 1 (length word) (omega (arith, size)))
        (eq-eqb (length word % 2) 0 ok.0)) (AllPass-list_all is_hex_digit word ok.1))
        (le-leb fewest (length word / 2) (omega (arith, size, s.1))))
        (le-leb (length word / 2) most (omega (arith, size, s.2))))

-- one test after another
or_agree : {A : Type 0} (reason : ℕ) (a b : Bool) (x y : A)
    → unless (a || b) reason
    ≡ result_err (or_reason reason (cond a (Some x) (cond b (Some y) None)))
or_agree reason true b x y = refl
or_agree reason false true x y = refl
or_agree reason false false x y = refl

-- hex of a number of bytes that is allowed, or else its fault, and then whether the bytes are noise
noise_agree : (word : List ℕ) (most : ℕ) (o : Option (List ℕ))
    → ((bytes : List ℕ) → o ≡ Some bytes → hex_bytes word ≡ Some bytes)
    → first_of (result_err (or_reason HEX_FAULT o)) (unless (is_noise word) NOISE_FAULT)
    ≡ result_err (or_reason HEX_FAULT o >>= λ found. noise_with (any_fault_of found) found)
noise_agree word most None same = refl
noise_agree word most (Some bytes) same =
    ap (λ h. unless (is_some (any_fault_of (unwrap_or h []))) NOISE_FAULT) (same bytes refl)
    ∙ by_fault (any_fault_of bytes) bytes
  where
    by_fault : (found : Option AnyFault) (bytes : List ℕ)
        → unless (is_some found) NOISE_FAULT ≡ result_err (noise_with found bytes)
    by_fault (Some fault) bytes = refl
    by_fault None bytes = refl

made_err : {A : Type 0} (r : Result A ℕ) (made : A → Value)
    → result_err r ≡ result_err (r >>= λ a. Ok (made a))
made_err (Ok a) made = refl
made_err (Err e) made = refl

-- a word has a fault exactly where it says nothing
pub word_fault-value : (form : Form) (word : List ℕ)
    → word_fault form word ≡ result_err (word_value form word)
word_fault-value LaneName word =
    or_agree WORD_FAULT (bytes_eq word (lane_text Low)) (bytes_eq word (lane_text High)) Low High
    ∙ made_err (or_reason WORD_FAULT (lane_of word)) Lane
word_fault-value (Decimal low high) word =
    chosen_agree NUMBER_FAULT (is_number low high word) (decimal_value word)
    ∙ made_err (or_reason NUMBER_FAULT (number_of low high word)) Number
word_fault-value MaskDigits word =
    agree HEX_FAULT (is_mask word) (mask_of word) (mask_there word) (mask_back word)
    ∙ made_err (or_reason HEX_FAULT (mask_of word)) Number
word_fault-value CheckDigits word =
    agree HEX_FAULT (is_check word) (check_word word) (check_there word) (check_back word)
    ∙ made_err (or_reason HEX_FAULT (check_word word)) Check
word_fault-value PickName word =
    agree HEX_FAULT (is_pick word) (pick_word word) (pick_there word) (pick_back word)
    ∙ made_err (or_reason HEX_FAULT (pick_word word)) PickOf
word_fault-value (HexBytes fewest most) word =
    agree HEX_FAULT (is_hex fewest most word) (bytes_of fewest most word)
    (hex_there fewest most word) (hex_back fewest most word)
    ∙ made_err (or_reason HEX_FAULT (bytes_of fewest most word)) Bytes
word_fault-value (NoiseBytes most) word =
    ap (λ o. first_of o (unless (is_noise word) NOISE_FAULT))
    (agree HEX_FAULT (is_hex 0 most word) (bytes_of 0 most word) (hex_there 0 most word)
    (hex_back 0 most word))
    ∙ noise_agree word most (bytes_of 0 most word)
    (λ bytes h. (within_some 0 most (hex_bytes word) bytes h).0)
    ∙ made_err (noise_of most word) Bytes
