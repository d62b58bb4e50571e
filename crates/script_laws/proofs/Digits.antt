-- Words of a set number of hex digits: masks, check values and picks. What the grammar says of such
-- a word is what reading finds in it.
use Rattle.std.proofs.Common.{◌≡◌, ℕ, ◌+◌, ◌*◌, ◌%◌, ◌^◌, ◌<◌, ◌≤◌, ◌==◌, ◌||◌, Bool, true, false}
use Rattle.std.proofs.Common.{cond, List, [], ◌∷◌, length, Option, Some, None, Result, Ok, Err}
use Rattle.std.proofs.Common.{refl, sym, ap, ◌∙◌, subst, arith}
use Rattle.std.specs.Prelude.{codes, slice_index, get_or}
use Rattle.std.specs.Option.{option_map}
use Rattle.std.specs.List.{list_all}
use Rattle.std.specs.Int.{to_be_bytes, from_be_bytes, w32}
use Rattle.std.specs.Str.{bytes_eq}
use Rattle.std.proofs.lemmas.Bool.{and_parts, and_from, eqb-true, eq-eqb, false_from_ne_true}
use Rattle.std.proofs.lemmas.Nat.{be_bytes_4, from_be_bytes-to_be_bytes_4}
use Rattle.std.proofs.lemmas.Slice.Eq.{bytes_eq-Decides}
use Rattle.hex.specs.Hex.{decode_of, decode_sized, is_hex_digit}
use Rattle.hex.specs.declared.error.FromHexError.{FromHexError}
use Rattle.hex.proofs.HexLemmas.{decode_of-ok, decode_of-digits, decode_sized-ok}
use Rattle.hex.proofs.HexLemmas.{decode_sized-twice}
use Rattle.slot_spec.specs.declared.Pick.{Pick}
use Rattle.slot_spec.specs.declared.Pick.TheVariants.{Old, New, Byte}
use Rattle.script_spec.specs.declared.TheConstants.{MAX_MASK}
use Rattle.script_spec.specs.Fields.{FitsCheck, FitsPick}
use Rattle.script_spec.specs.Text.{decoded, mask_value, mask_of, check_value, check_of, first_byte}
use Rattle.script_spec.specs.Text.{byte_of, old_text, new_text}
use Rattle.script_spec.specs.Grammar.{SpellsMask, SpellsCheck, SpellsPick}
use Rattle.script_spec.specs.Fault.{are_digits, is_mask, is_check, is_pick}
use Rattle.script_spec.specs.Reading.{some_check, check_word, pick_word}
use Rattle.script_laws.proofs.Steps.{list_all-AllPass, AllPass-list_all}

-- the word has two hex digits for each of so many bytes
pub record AreDigitsOf (count : ℕ) (bytes word : List ℕ) : Type 0 where
  pub read : decode_of word ≡ Ok bytes
  pub size : length bytes ≡ count

sized_ok : (count : ℕ) (word bytes : List ℕ) → decode_sized word count ≡ Ok bytes
    → AreDigitsOf count bytes word
sized_ok count word bytes h =
    let digits = decode_sized-ok word count bytes h in
    let read : decode_of word ≡ Ok bytes = sym (decode_sized-twice word count digits) ∙ h in
    record { read = read; size = omega (arith, digits, (decode_of-ok word bytes read).2) }

sized_again : (count : ℕ) (word bytes : List ℕ) → AreDigitsOf count bytes word
    → decode_sized word count ≡ Ok bytes
sized_again count word bytes d =
    decode_sized-twice word count (omega (arith, (decode_of-ok word bytes d.read).2, d.size))
    ∙ d.read

-- so many digits stand for bytes
digits_there : (count : ℕ) (word : List ℕ) → are_digits (2 * count) word ≡ true
    → (bytes : List ℕ) × AreDigitsOf count bytes word
digits_there count word h =
    let parts = and_parts (length word == 2 * count) (list_all is_hex_digit word) h in
    let digits = eqb-true (length word) (2 * count) parts.0 in
    let even : length word % 2 ≡ 0 = omega (arith, digits) in
    let read = decode_of-digits word even (list_all-AllPass is_hex_digit word parts.1) in (
      read.0,
      record {
        read = read.1;
        size = omega (arith, digits, (decode_of-ok word read.0 read.1).2);
      },
    )

digits_back : (count : ℕ) (word bytes : List ℕ) → AreDigitsOf count bytes word
    → are_digits (2 * count) word ≡ true
digits_back count word bytes d =
    let ok = decode_of-ok word bytes d.read in
    and_from (length word == 2 * count) (list_all is_hex_digit word)
    (eq-eqb (length word) (2 * count) (omega (arith, ok.2, d.size)))
    (AllPass-list_all is_hex_digit word ok.1)

-- a text of an odd length is none of hex digits
no_text : (word bytes text : List ℕ) → decode_of word ≡ Ok bytes → length text % 2 ≡ 1
    → bytes_eq word text ≡ false
no_text word bytes text h odd = false_from_ne_true _ (λ e.
    let same = (bytes_eq-Decides word text).0 e in
    absurd (omega (arith, odd, (decode_of-ok word bytes h).2, ap length same)))

-- a dash is no hex digit
pub no_dash : (word bytes : List ℕ) → decode_of word ≡ Ok bytes → bytes_eq word (codes "-") ≡ false
no_dash word bytes h = no_text word bytes (codes "-") h refl

or_right : (a b : Bool) → b ≡ true → (a || b) ≡ true
or_right true b h = refl
or_right false b h = h

-- ---- masks

-- two bytes, by the list of them
two_bytes : (word bytes : List ℕ) (mask : ℕ) → AreDigitsOf 2 bytes word
    → slice_index bytes 0 * 256 + slice_index bytes 1 ≡ mask → SpellsMask mask word
two_bytes word [] mask d e = absurd (omega (arith, d.size))
two_bytes word (a ∷ []) mask d e = absurd (omega (arith, d.size))
two_bytes word (a ∷ b ∷ []) mask d e = (a, b, d.read, sym e)
two_bytes word (a ∷ b ∷ c ∷ bytes) mask d e = absurd (omega (arith, d.size))

mask_from : (word : List ℕ) (mask : ℕ) (r : Result (List ℕ) FromHexError) → decode_sized word 2 ≡ r
    → mask_value (decoded r) ≡ Some mask → SpellsMask mask word
mask_from word mask (Ok bytes) e h = two_bytes word bytes mask (sized_ok 2 word bytes e) cc
mask_from word mask (Err error) e h = cc

pub mask_spells : (word : List ℕ) (mask : ℕ) → mask_of word ≡ Some mask → SpellsMask mask word
unfolding mask_of
mask_spells word mask h = mask_from word mask (decode_sized word 2) refl h

pub mask_spelled : (word : List ℕ) (mask : ℕ) → SpellsMask mask word → mask_of word ≡ Some mask
unfolding mask_of
mask_spelled word mask s =
    ap (λ r. mask_value (decoded r))
    (sized_again 2 word (s.0 ∷ s.1 ∷ []) (record { read = s.2; size = refl }))
    ∙ ap Some (sym s.3)

pub mask_range : (mask : ℕ) (word : List ℕ) → SpellsMask mask word → mask ≤ MAX_MASK
mask_range mask word s =
    let fits = (decode_of-ok word (s.0 ∷ s.1 ∷ []) s.2).3 in
    omega (arith, fits 0, fits 1, s.3)

-- four hex digits are a mask
pub mask_there : (word : List ℕ) → is_mask word ≡ true → (mask : ℕ) × (mask_of word ≡ Some mask)
mask_there word h =
    let d = digits_there 2 word h in
    let mask = slice_index d.0 0 * 256 + slice_index d.0 1 in
    (mask, mask_spelled word mask (two_bytes word d.0 mask d.1 refl))

pub mask_back : (word : List ℕ) (mask : ℕ) → mask_of word ≡ Some mask → is_mask word ≡ true
mask_back word mask h =
    let s = mask_spells word mask h in
    digits_back 2 word (s.0 ∷ s.1 ∷ []) (record { read = s.2; size = refl })

-- ---- check values

-- a check value that fits, and a text of it
pub record IsCheck (check : Option ℕ) (word : List ℕ) : Type 0 where
  pub fits : FitsCheck check
  pub text : SpellsCheck check word

four_fit : (bytes : List ℕ) → length bytes ≡ 4 → ((i : ℕ) → get_or bytes i 0 < 256)
    → from_be_bytes w32 bytes < 2 ^ 32
four_fit [] size fits = absurd (omega arith)
four_fit (a ∷ []) size fits = absurd (omega arith)
four_fit (a ∷ b ∷ []) size fits = absurd (omega arith)
four_fit (a ∷ b ∷ c ∷ []) size fits = absurd (omega arith)
four_fit (a ∷ b ∷ c ∷ d ∷ []) size fits = omega (arith, fits 0, fits 1, fits 2, fits 3)
four_fit (a ∷ b ∷ c ∷ d ∷ e ∷ bytes) size fits = absurd (omega arith)

-- four bytes are those of their number
four_bytes : (word bytes : List ℕ) (check : ℕ) → AreDigitsOf 4 bytes word
    → from_be_bytes w32 bytes ≡ check → IsCheck (Some check) word
four_bytes word bytes check d e =
    let fits = (decode_of-ok word bytes d.read).3 in
    record {
      fits = subst (λ n. n < 2 ^ 32) e (four_fit bytes d.size fits);
      text = d.read ∙ ap Ok (sym (be_bytes_4 bytes check d.size fits (sym e)));
    }

four_from : (word : List ℕ) (check : ℕ) (r : Result (List ℕ) FromHexError) → decode_sized word 4 ≡ r
    → check_value (decoded r) ≡ Some check → IsCheck (Some check) word
four_from word check (Ok bytes) e h = four_bytes word bytes check (sized_ok 4 word bytes e) cc
four_from word check (Err error) e h = cc

digits_check : (word : List ℕ) (check : ℕ) → check_of word ≡ Some check → IsCheck (Some check) word
unfolding check_of
digits_check word check h = four_from word check (decode_sized word 4) refl h

check_digits : (word : List ℕ) (check : ℕ) → IsCheck (Some check) word → check_of word ≡ Some check
unfolding check_of
check_digits word check is =
    ap (λ r. check_value (decoded r))
    (sized_again 4 word (to_be_bytes w32 check) (record { read = is.text; size = refl }))
    ∙ ap Some (from_be_bytes-to_be_bytes_4 check is.fits)

pub check_spells : (word : List ℕ) (check : Option ℕ) → check_word word ≡ Some check
    → IsCheck check word
check_spells word check h = by_dash (bytes_eq word (codes "-")) refl h
  where
    by_digits : (o : Option ℕ) → check_of word ≡ o → some_check o ≡ Some check → IsCheck check word
    by_digits (Some found) e h =
        let same : Some found ≡ check = cc in
        subst (λ c. IsCheck c word) same (digits_check word found e)
    by_digits None e h = cc

    by_dash : (b : Bool) → bytes_eq word (codes "-") ≡ b
        → cond {A = Option (Option ℕ)} b (Some None) (some_check (check_of word)) ≡ Some check
        → IsCheck check word
    by_dash true e h =
        let same : None ≡ check = cc in
        subst (λ c. IsCheck c word) same
        (record { fits = tt; text = (bytes_eq-Decides word (codes "-")).0 e })
    by_dash false e h = by_digits (check_of word) refl h

pub check_spelled : (word : List ℕ) (check : Option ℕ) → IsCheck check word
    → check_word word ≡ Some check
check_spelled word None is = ap check_word is.text
check_spelled word (Some check) is =
    ap (λ b. cond {A = Option (Option ℕ)} b (Some None) (some_check (check_of word)))
    (no_dash word (to_be_bytes w32 check) is.text) ∙ ap some_check (check_digits word check is)

-- eight hex digits, or a dash, are a check value
pub check_there : (word : List ℕ) → is_check word ≡ true
    → (check : Option ℕ) × (check_word word ≡ Some check)
check_there word h = by_dash (bytes_eq word (codes "-")) refl h
  where
    by_dash : (b : Bool) → bytes_eq word (codes "-") ≡ b → (b || are_digits 8 word) ≡ true
        → (check : Option ℕ) × (check_word word ≡ Some check)
    by_dash true e h = (
      None,
      check_spelled word None
          (record { fits = tt; text = (bytes_eq-Decides word (codes "-")).0 e }),
    )
    by_dash false e h =
        let d = digits_there 4 word h in
        let check = from_be_bytes w32 d.0 in
        (Some check, check_spelled word (Some check) (four_bytes word d.0 check d.1 refl))

pub check_back : (word : List ℕ) (check : Option ℕ) → check_word word ≡ Some check
    → is_check word ≡ true
check_back word check h = by_check check (check_spells word check h)
  where
    by_check : (check : Option ℕ) → IsCheck check word → is_check word ≡ true
    by_check None is = ap is_check is.text
    by_check (Some check) is =
        or_right (bytes_eq word (codes "-")) (are_digits 8 word)
        (digits_back 4 word (to_be_bytes w32 check) (record { read = is.text; size = refl }))

-- ---- picks

-- a pick that fits, and a text of it
pub record IsPick (pick : Pick) (word : List ℕ) : Type 0 where
  pub fits : FitsPick pick
  pub text : SpellsPick pick word

one_byte : (word bytes : List ℕ) (b : ℕ) → AreDigitsOf 1 bytes word → slice_index bytes 0 ≡ b
    → IsPick (Byte b) word
one_byte word [] b d e = absurd (omega (arith, d.size))
one_byte word (a ∷ []) b d e =
    subst (λ c. IsPick (Byte c) word) e
    (record { fits = (decode_of-ok word (a ∷ []) d.read).3 0; text = d.read })
one_byte word (a ∷ c ∷ bytes) b d e = absurd (omega (arith, d.size))

one_from : (word : List ℕ) (b : ℕ) (r : Result (List ℕ) FromHexError) → decode_sized word 1 ≡ r
    → first_byte (decoded r) ≡ Some b → IsPick (Byte b) word
one_from word b (Ok bytes) e h = one_byte word bytes b (sized_ok 1 word bytes e) cc
one_from word b (Err error) e h = cc

digits_byte : (word : List ℕ) (b : ℕ) → byte_of word ≡ Some b → IsPick (Byte b) word
unfolding byte_of
digits_byte word b h = one_from word b (decode_sized word 1) refl h

byte_digits : (word : List ℕ) (b : ℕ) → IsPick (Byte b) word → byte_of word ≡ Some b
unfolding byte_of
byte_digits word b is =
    ap (λ r. first_byte (decoded r))
    (sized_again 1 word (b ∷ []) (record { read = is.text; size = refl }))

pub pick_spells : (word : List ℕ) (pick : Pick) → pick_word word ≡ Some pick → IsPick pick word
pick_spells word pick h = by_old (bytes_eq word old_text) refl h
  where
    by_digits : (o : Option ℕ) → byte_of word ≡ o → option_map Byte o ≡ Some pick → IsPick pick word
    by_digits (Some b) e h =
        let same : Byte b ≡ pick = cc in
        subst (λ p. IsPick p word) same (digits_byte word b e)
    by_digits None e h = cc

    by_new : (b : Bool) → bytes_eq word new_text ≡ b
        → cond b (Some New) (option_map Byte (byte_of word)) ≡ Some pick → IsPick pick word
    by_new true e h =
        let same : New ≡ pick = cc in
        subst (λ p. IsPick p word) same
        (record { fits = tt; text = (bytes_eq-Decides word new_text).0 e })
    by_new false e h = by_digits (byte_of word) refl h

    by_old : (b : Bool) → bytes_eq word old_text ≡ b
        → cond b (Some Old)
        (cond (bytes_eq word new_text) (Some New) (option_map Byte (byte_of word))) ≡ Some pick
        → IsPick pick word
    by_old true e h =
        let same : Old ≡ pick = cc in
        subst (λ p. IsPick p word) same
        (record { fits = tt; text = (bytes_eq-Decides word old_text).0 e })
    by_old false e h = by_new (bytes_eq word new_text) refl h

pub pick_spelled : (word : List ℕ) (pick : Pick) → IsPick pick word → pick_word word ≡ Some pick
pick_spelled word Old is = ap pick_word is.text
pick_spelled word New is = ap pick_word is.text
pick_spelled word (Byte b) is =
    ap (λ c. cond c (Some Old)
    (cond (bytes_eq word new_text) (Some New) (option_map Byte (byte_of word))))
    (no_text word (b ∷ []) old_text is.text refl)
    ∙ ap (λ c. cond c (Some New) (option_map Byte (byte_of word)))
    (no_text word (b ∷ []) new_text is.text refl)
    ∙ ap (option_map Byte) (byte_digits word b is)

-- a name, or two hex digits, are a pick
pub pick_there : (word : List ℕ) → is_pick word ≡ true
    → (pick : Pick) × (pick_word word ≡ Some pick)
pick_there word h = by_old (bytes_eq word old_text) refl h
  where
    by_new : (b : Bool) → bytes_eq word new_text ≡ b → (b || are_digits 2 word) ≡ true
        → (pick : Pick) × (pick_word word ≡ Some pick)
    by_new true e h = (
      New,
      pick_spelled word New (record { fits = tt; text = (bytes_eq-Decides word new_text).0 e }),
    )
    by_new false e h =
        let d = digits_there 1 word h in
        let b = slice_index d.0 0 in
        (Byte b, pick_spelled word (Byte b) (one_byte word d.0 b d.1 refl))

    by_old : (b : Bool) → bytes_eq word old_text ≡ b
        → (b || bytes_eq word new_text || are_digits 2 word) ≡ true
        → (pick : Pick) × (pick_word word ≡ Some pick)
    by_old true e h = (
      Old,
      pick_spelled word Old (record { fits = tt; text = (bytes_eq-Decides word old_text).0 e }),
    )
    by_old false e h = by_new (bytes_eq word new_text) refl h

pub pick_back : (word : List ℕ) (pick : Pick) → pick_word word ≡ Some pick → is_pick word ≡ true
pick_back word pick h = by_pick pick (pick_spells word pick h)
  where
    by_pick : (pick : Pick) → IsPick pick word → is_pick word ≡ true
    by_pick Old is = ap is_pick is.text
    by_pick New is = ap is_pick is.text
    by_pick (Byte b) is =
        or_right (bytes_eq word old_text || bytes_eq word new_text) (are_digits 2 word)
        (digits_back 1 word (b ∷ []) (record { read = is.text; size = refl }))
