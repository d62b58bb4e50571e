-- Bytes in hex that are read into a row: their number is known before they are read.
use Rattle.std.proofs.Common.{◌≡◌, ℕ, zero, suc, ◌*◌, ◌/◌, ◌%◌, ◌==◌, ◌<◌, ◌≤◌, ◌⊎◌, inl, inr, true}
use Rattle.std.proofs.Common.{false, List, [], ◌∷◌, ◌++◌, length, take, Option, Some, None, Result, Ok}
use Rattle.std.proofs.Common.{Err, codes, bytes_eq, MatchResult}
use Rattle.std.proofs.Common.{refl, sym, ap, ◌∙◌, arith}
use Rattle.std.proofs.lemmas.Bool.{cases_eq}
use Rattle.std.proofs.lemmas.Bool.Decides.{leb_tells}
use Rattle.std.proofs.lemmas.Slice.Eq.{bytes_eq-Decides}
use Rattle.hex.specs.Hex.{decode_of, decode_sized}
use Rattle.hex.specs.declared.error.FromHexError.{FromHexError}
use Rattle.hex.proofs.HexLemmas.{decode_of-odd, decode_of-ok, decode_sized-odd, decode_sized-ok}
use Rattle.hex.proofs.HexLemmas.{decode_sized-twice}
use Rattle.script_spec.specs.Text.{hex_bytes, decoded}
use Rattle.script_spec.specs.Reading.{bytes_of, or_reason, within}
use Rattle.script_spec.specs.declared.TheConstants.{HEX_FAULT}

same_size : (word : List ℕ) → decode_sized word (length word / 2) ≡ decode_of word
same_size word =
    elim (cases_eq (length word % 2) 1) [
      | inl odd ↦ decode_sized-odd word (length word / 2) odd ∙ sym (decode_of-odd word odd)
      | inr even ↦ decode_sized-twice word (length word / 2) (omega arith)
    ]

-- a word that is neither empty nor a dash
hex_is : (word : List ℕ) → (length word == 0) ≡ false → bytes_eq word (codes "-") ≡ false
    → hex_bytes word ≡ decoded (decode_sized word (length word / 2))
unfolding hex_bytes
hex_is word some other = rw (some, other) (ap decoded (sym (same_size word)))

size_is : (word bytes : List ℕ) → decode_sized word (length word / 2) ≡ Ok bytes
    → length bytes ≡ length word / 2
size_is word bytes h =
    let digits = (decode_of-ok word bytes (sym (same_size word) ∙ h)).2 in
    omega (arith, digits)

-- ---- numbers of bytes

fits : (fewest most : ℕ) (bytes : List ℕ) → fewest ≤ length bytes → length bytes ≤ most
    → within fewest most (Some bytes) ≡ Some bytes
fits fewest most bytes low high =
    elim (leb_tells fewest (length bytes)) [
      | inr past ↦ absurd (omega (arith, low, past.1))
      | inl within_it ↦
          elim (leb_tells (length bytes) most) [
            | inr past ↦ absurd (omega (arith, high, past.1))
            | inl also ↦ rw (within_it.0, also.0) refl
          ]
    ]

too_few : (fewest most : ℕ) (bytes : List ℕ) → length bytes < fewest
    → within fewest most (Some bytes) ≡ None
too_few fewest most bytes few =
    elim (leb_tells fewest (length bytes)) [
      | inl within_it ↦ absurd (omega (arith, few, within_it.1))
      | inr past ↦ rw past.0 refl
    ]

too_many : (fewest most : ℕ) (bytes : List ℕ) → most < length bytes
    → within fewest most (Some bytes) ≡ None
too_many fewest most bytes many =
    elim (leb_tells (length bytes) most) [
      | inl within_it ↦ absurd (omega (arith, many, within_it.1))
      | inr past ↦
          elim (leb_tells fewest (length bytes)) [
            | inl low ↦ rw (low.0, past.0) refl
            | inr low ↦ rw low.0 refl
          ]
    ]

outside : (fewest most size : ℕ) (read : Result (List ℕ) FromHexError)
    → ((bytes : List ℕ) → read ≡ Ok bytes → length bytes ≡ size)
    → (size < fewest) ⊎ (most < size) → within fewest most (decoded read) ≡ None
outside fewest most size (Err error) is apart = refl
outside fewest most size (Ok bytes) is (inl few) =
    too_few fewest most bytes (omega (arith, is bytes refl, few))
outside fewest most size (Ok bytes) is (inr many) =
    too_many fewest most bytes (omega (arith, is bytes refl, many))

-- ---- what is read of a word

refused_for : (fewest most : ℕ) (word : List ℕ) → bytes_of fewest most word ≡ None
    → or_reason HEX_FAULT (bytes_of fewest most word) ≡ Err HEX_FAULT
refused_for fewest most word none = ap (or_reason HEX_FAULT) none

pub none_empty : (fewest most : ℕ) (word : List ℕ) → (length word == 0) ≡ true
    → or_reason HEX_FAULT (bytes_of fewest most word) ≡ Err HEX_FAULT
unfolding hex_bytes
none_empty fewest most word empty = refused_for fewest most word (rw empty refl)

dash_there : (fewest most : ℕ) (word : List ℕ) → bytes_eq word (codes "-") ≡ true
    → bytes_of fewest most word ≡ within fewest most (Some [])
unfolding hex_bytes
dash_there fewest most word dash =
    ap (bytes_of fewest most) ((bytes_eq-Decides word (codes "-")).0 dash)

pub dash_read : (fewest most : ℕ) (word : List ℕ) → bytes_eq word (codes "-") ≡ true → fewest ≤ 0
    → or_reason HEX_FAULT (bytes_of fewest most word) ≡ Ok []
dash_read fewest most word dash low =
    ap (or_reason HEX_FAULT)
    (dash_there fewest most word dash ∙ fits fewest most [] low (omega arith))

pub dash_few : (fewest most : ℕ) (word : List ℕ) → bytes_eq word (codes "-") ≡ true → 0 < fewest
    → or_reason HEX_FAULT (bytes_of fewest most word) ≡ Err HEX_FAULT
dash_few fewest most word dash few =
    refused_for fewest most word
    (dash_there fewest most word dash ∙ too_few fewest most [] few)

pub size_apart : (fewest most : ℕ) (word : List ℕ) → (length word == 0) ≡ false
    → bytes_eq word (codes "-") ≡ false
    → (length word / 2 < fewest) ⊎ (most < length word / 2)
    → or_reason HEX_FAULT (bytes_of fewest most word) ≡ Err HEX_FAULT
size_apart fewest most word some other apart =
    refused_for fewest most word
    (ap (within fewest most) (hex_is word some other)
    ∙ outside fewest most (length word / 2) (decode_sized word (length word / 2)) (size_is word)
    apart)

front_of : (xs ys : List ℕ) (n : ℕ) → length xs ≡ n → take n (xs ++ ys) ≡ xs
front_of [] ys zero h = refl
front_of [] ys (suc n) h = absurd (omega (arith, h))
front_of (x ∷ xs) ys zero h = absurd (omega (arith, h))
front_of (x ∷ xs) ys (suc n) h = ap (λ (l : List ℕ). x ∷ l) (front_of xs ys n (omega (arith, h)))

read_is : (read : Result (List ℕ) FromHexError) (answer : Result Unit FromHexError)
    (out : List ℕ) (t : Unit)
    → MatchResult read (λ bytes. (answer ≡ Ok tt) × (out ≡ bytes)) (λ e. answer ≡ Err e)
    → answer ≡ Ok t → read ≡ Ok out
read_is (Ok bytes) answer out t m is = ap (λ (l : List ℕ). Ok l) (sym m.1)
read_is (Err e) answer out t m is = cc

refused_is : (read : Result (List ℕ) FromHexError) (answer : Result Unit FromHexError)
    (out : List ℕ) (error : FromHexError)
    → MatchResult read (λ bytes. (answer ≡ Ok tt) × (out ≡ bytes)) (λ e. answer ≡ Err e)
    → answer ≡ Err error → read ≡ Err error
refused_is (Ok bytes) answer out error m is = cc
refused_is (Err e) answer out error m is = cc

pub word_read : (fewest most size : ℕ) (word out rest : List ℕ) (answer : Result Unit FromHexError)
    (t : Unit) → (length word == 0) ≡ false → bytes_eq word (codes "-") ≡ false
    → MatchResult (decode_sized word size) (λ bytes. (answer ≡ Ok tt) × (out ≡ bytes))
    (λ e. answer ≡ Err e) → answer ≡ Ok t → size ≡ length word / 2 → fewest ≤ length word / 2
    → length word / 2 ≤ most
    → or_reason HEX_FAULT (bytes_of fewest most word) ≡ Ok (take (length word / 2) (out ++ rest))
word_read fewest most size word out rest answer t some other m is same low high =
    let read = ap (decode_sized word) (sym same) ∙ read_is (decode_sized word size) answer out t m is in
    let long = size_is word out read in
    ap (λ (o : Option (List ℕ)). or_reason HEX_FAULT (within fewest most o))
    (hex_is word some other ∙ ap decoded read)
    ∙ ap (or_reason HEX_FAULT)
    (fits fewest most out (omega (arith, long, low)) (omega (arith, long, high)))
    ∙ ap (λ (l : List ℕ). Ok l) (sym (front_of out rest (length word / 2) long))

pub word_refused : (fewest most size : ℕ) (word out : List ℕ) (answer : Result Unit FromHexError)
    (error : FromHexError) → (length word == 0) ≡ false → bytes_eq word (codes "-") ≡ false
    → MatchResult (decode_sized word size) (λ bytes. (answer ≡ Ok tt) × (out ≡ bytes))
    (λ e. answer ≡ Err e) → answer ≡ Err error → size ≡ length word / 2
    → or_reason HEX_FAULT (bytes_of fewest most word) ≡ Err HEX_FAULT
word_refused fewest most size word out answer error some other m is same =
    let read = ap (decode_sized word) (sym same) ∙ refused_is (decode_sized word size) answer out error m is in
    refused_for fewest most word
    (ap (within fewest most) (hex_is word some other ∙ ap decoded read))
