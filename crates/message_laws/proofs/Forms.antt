-- Each form of a field: what is written is read again, and what is read fits.
use Rattle.std.proofs.Common.{◌≡◌, ℕ, zero, suc, ◌+◌, ◌-◌, ◌<◌, ◌≤◌, Bool, true, false, cond, leb, List, [], ◌∷◌, length, take, drop, get_or, replicate, refl, sym, ap, subst, ◌∙◌, arith, length-drop}
use Rattle.std.specs.Int.{w16, w32, from_be_bytes, to_be_bytes}
use Rattle.std.proofs.lemmas.Bool.{leb-true}
use Rattle.std.proofs.lemmas.List.{length-take, take-take, take_all, get_or-take, get_or-drop}
use Rattle.std.proofs.lemmas.Nat.{from_be_bytes-to_be_bytes_2, from_be_bytes-to_be_bytes_4}
use Rattle.message_spec.specs.Fields.{Value, Number, Bytes, Form, OneByte, TwoBytes, FourBytes, WindowByte, ByteRow, Field, width, place, value_at, values_at, value_bytes, put, put_values, padding, AreBytes, Fits, AllFit}
use Rattle.message_laws.proofs.Places.{length-put, kept_before, stands_there, AreBytes-take, AreBytes-drop, AreBytes-put}

first_taken : (at : ℕ) (contents : List ℕ) → get_or contents at 0 ≡ get_or (take 1 (drop at contents)) 0 0
first_taken at contents =
    let here : at + 0 ≡ at = omega arith in
    sym (get_or-take 1 (drop at contents) 0 0 (omega arith) ∙ get_or-drop at contents 0 0 ∙ ap (λ (n : ℕ). get_or contents n 0) here)

-- a value depends on the bytes of its field alone
value_from : (form : Form) (at : ℕ) (contents : List ℕ) → value_at form at contents ≡ value_at form 0 (take (width form) (drop at contents))
value_from OneByte at contents = ap (λ (n : ℕ). Number n) (first_taken at contents)
value_from TwoBytes at contents = ap (λ (x : List ℕ). Number (from_be_bytes w16 x)) (sym (take-take 2 2 (drop at contents) (omega arith)))
value_from FourBytes at contents = ap (λ (x : List ℕ). Number (from_be_bytes w32 x)) (sym (take-take 4 4 (drop at contents) (omega arith)))
value_from WindowByte at contents = ap (λ (n : ℕ). Number (n + 1)) (first_taken at contents)
value_from (ByteRow n) at contents = ap (λ (x : List ℕ). Bytes x) (sym (take-take n n (drop at contents) (omega arith)))

-- a value that fits has as many bytes as its form
pub length-spelled : (form : Form) (v : Value) → Fits form v → length (value_bytes form v) ≡ width form
length-spelled OneByte v fits = refl
length-spelled TwoBytes v fits = refl
length-spelled FourBytes v fits = refl
length-spelled WindowByte v fits = refl
length-spelled (ByteRow n) (Bytes bytes) fits = fits.0
length-spelled (ByteRow n) (Number k) fits = absurd fits

-- and they say that value, width by width
spelled_is_read : (form : Form) (v : Value) → Fits form v → value_at form 0 (value_bytes form v) ≡ v
spelled_is_read OneByte (Number n) fits = refl
spelled_is_read TwoBytes (Number n) fits = ap (λ (k : ℕ). Number k) (from_be_bytes-to_be_bytes_2 n fits)
spelled_is_read FourBytes (Number n) fits = ap (λ (k : ℕ). Number k) (from_be_bytes-to_be_bytes_4 n fits)
spelled_is_read WindowByte (Number n) fits = let same : n - 1 + 1 ≡ n = omega (arith, fits.0) in ap (λ (k : ℕ). Number k) same
spelled_is_read (ByteRow n) (Bytes bytes) fits = ap (λ (x : List ℕ). Bytes x) (take_all n bytes (omega (arith, fits.0)))
spelled_is_read OneByte (Bytes bytes) fits = absurd fits
spelled_is_read TwoBytes (Bytes bytes) fits = absurd fits
spelled_is_read FourBytes (Bytes bytes) fits = absurd fits
spelled_is_read WindowByte (Bytes bytes) fits = absurd fits
spelled_is_read (ByteRow n) (Number k) fits = absurd fits

-- a field that was put is read
put_is_read : (form : Form) (v : Value) (at : ℕ) (contents : List ℕ) → Fits form v → at ≤ length contents → value_at form at (put at (value_bytes form v) contents) ≡ v
put_is_read form v at contents fits within =
    value_from form at (put at (value_bytes form v) contents)
    ∙ ap (value_at form 0) (subst (λ (n : ℕ). take n (drop at (put at (value_bytes form v) contents)) ≡ value_bytes form v) (length-spelled form v fits) (stands_there at (value_bytes form v) contents within))
    ∙ spelled_is_read form v fits

-- ---- all fields of a layout

-- the fields stand one after the other, from a place on, within the 32 bytes
pub record Follows (at : ℕ) (f : Field) : Type 0 where
  pub after : at ≤ place f
  pub within : place f + width f.form ≤ 32

abbrev pub Ordered : ℕ → List Field → Type 0
Ordered at [] = Unit {0}
Ordered at (f ∷ fields) = Follows at f × Ordered (place f + width f.form) fields

-- the same as a test
abbrev pub ordered : ℕ → List Field → Bool
ordered at [] = true
ordered at (f ∷ fields) = cond (leb at (place f)) (cond (leb (place f + width f.form) 32) (ordered (place f + width f.form) fields) false) false

both : (b : Bool) (rest : Bool) → cond b rest false ≡ true → (b ≡ true) × (rest ≡ true)
both true rest h = (refl, h)
both false rest h = absurd cc

pub ordered_is : (at : ℕ) (fields : List Field) → ordered at fields ≡ true → Ordered at fields
ordered_is at [] h = tt
ordered_is at (f ∷ fields) h =
    let first = both (leb at (place f)) (cond (leb (place f + width f.form) 32) (ordered (place f + width f.form) fields) false) h in
    let second = both (leb (place f + width f.form) 32) (ordered (place f + width f.form) fields) first.1 in
    (record { after = leb-true at (place f) first.0; within = leb-true (place f + width f.form) 32 second.0 }, ordered_is (place f + width f.form) fields second.1)

pub put_length : (f : Field) (v : Value) (contents : List ℕ) → place f + width f.form ≤ 32 → Fits f.form v → length contents ≡ 32 → length (put (place f) (value_bytes f.form v) contents) ≡ 32
put_length f v contents within fits len =
    length-put (place f) (value_bytes f.form v) contents (omega (arith, length-spelled f.form v fits)) ∙ len

-- a place before all fields stays
filled_keeps : (start many : ℕ) (fields : List Field) (values : List Value) (at : ℕ) (contents : List ℕ) → start + many ≤ at → Ordered at fields → AllFit fields values → length contents ≡ 32 → take many (drop start (put_values fields values contents)) ≡ take many (drop start contents)
filled_keeps start many [] [] at contents before order fit len = refl
filled_keeps start many [] (v ∷ values) at contents before order fit len = absurd fit
filled_keeps start many (f ∷ fields) [] at contents before order fit len = absurd fit
filled_keeps start many (f ∷ fields) (v ∷ values) at contents before order fit len =
    let after : start + many ≤ place f = omega (arith, order.0.after) in
    let further : start + many ≤ place f + width f.form = omega arith in
    let room : place f ≤ length contents = omega (arith, order.0.within) in
    filled_keeps start many fields values (place f + width f.form) (put (place f) (value_bytes f.form v) contents) further order.1 fit.1 (put_length f v contents order.0.within fit.0 len)
    ∙ kept_before start many (place f) (value_bytes f.form v) contents after room

-- what was written into the fields is read from them
pub filled_is_read : (fields : List Field) (values : List Value) (at : ℕ) (contents : List ℕ) → Ordered at fields → AllFit fields values → length contents ≡ 32 → values_at fields (put_values fields values contents) ≡ values
filled_is_read [] [] at contents order fit len = refl
filled_is_read [] (v ∷ values) at contents order fit len = absurd fit
filled_is_read (f ∷ fields) [] at contents order fit len = absurd fit
filled_is_read (f ∷ fields) (v ∷ values) at contents order fit len =
    let next : List ℕ = put (place f) (value_bytes f.form v) contents in
    let next_len : length (put (place f) (value_bytes f.form v) contents) ≡ 32 = put_length f v contents order.0.within fit.0 len in
    let room : place f ≤ length contents = omega (arith, order.0.within) in
    let kept = filled_keeps (place f) (width f.form) fields values (place f + width f.form) (put (place f) (value_bytes f.form v) contents) (omega arith) order.1 fit.1 next_len in
    let first : value_at f.form (place f) (put_values fields values (put (place f) (value_bytes f.form v) contents)) ≡ v =
    value_from f.form (place f) (put_values fields values (put (place f) (value_bytes f.form v) contents))
    ∙ ap (value_at f.form 0) kept
    ∙ sym (value_from f.form (place f) (put (place f) (value_bytes f.form v) contents))
    ∙ put_is_read f.form v (place f) contents fit.0 room
    in
    let others = filled_is_read fields values (place f + width f.form) (put (place f) (value_bytes f.form v) contents) order.1 fit.1 next_len in
    ap (λ (x : Value). x ∷ values_at fields (put_values fields values (put (place f) (value_bytes f.form v) contents))) first
    ∙ ap (λ (x : List Value). v ∷ x) others

pub filled_length : (fields : List Field) (values : List Value) (at : ℕ) (contents : List ℕ) → Ordered at fields → AllFit fields values → length contents ≡ 32 → length (put_values fields values contents) ≡ 32
filled_length [] [] at contents order fit len = len
filled_length [] (v ∷ values) at contents order fit len = absurd fit
filled_length (f ∷ fields) [] at contents order fit len = absurd fit
filled_length (f ∷ fields) (v ∷ values) at contents order fit len =
    filled_length fields values (place f + width f.form) (put (place f) (value_bytes f.form v) contents) order.1 fit.1 (put_length f v contents order.0.within fit.0 len)

-- ---- bytes

one_byte : (n : ℕ) → n < 256 → AreBytes (n ∷ [])
one_byte n lt zero = lt
one_byte n lt (suc i) = omega arith

two_bytes : (n : ℕ) → AreBytes (to_be_bytes w16 n)
two_bytes n zero = omega arith
two_bytes n (suc zero) = omega arith
two_bytes n (suc (suc i)) = omega arith

four_bytes : (n : ℕ) → AreBytes (to_be_bytes w32 n)
four_bytes n zero = omega arith
four_bytes n (suc zero) = omega arith
four_bytes n (suc (suc zero)) = omega arith
four_bytes n (suc (suc (suc zero))) = omega arith
four_bytes n (suc (suc (suc (suc i)))) = omega arith

spelled_bytes : (form : Form) (v : Value) → Fits form v → AreBytes (value_bytes form v)
spelled_bytes OneByte (Number n) fits = one_byte n fits
spelled_bytes TwoBytes (Number n) fits = two_bytes n
spelled_bytes FourBytes (Number n) fits = four_bytes n
spelled_bytes WindowByte (Number n) fits = one_byte (n - 1) (omega (arith, fits.1))
spelled_bytes (ByteRow n) (Bytes bytes) fits = fits.1
spelled_bytes OneByte (Bytes bytes) fits = absurd fits
spelled_bytes TwoBytes (Bytes bytes) fits = absurd fits
spelled_bytes FourBytes (Bytes bytes) fits = absurd fits
spelled_bytes WindowByte (Bytes bytes) fits = absurd fits
spelled_bytes (ByteRow n) (Number k) fits = absurd fits

pub filled_bytes : (fields : List Field) (values : List Value) (contents : List ℕ) → AllFit fields values → AreBytes contents → AreBytes (put_values fields values contents)
filled_bytes [] [] contents fit bytes = bytes
filled_bytes [] (v ∷ values) contents fit bytes = bytes
filled_bytes (f ∷ fields) [] contents fit bytes = bytes
filled_bytes (f ∷ fields) (v ∷ values) contents fit bytes =
    filled_bytes fields values (put (place f) (value_bytes f.form v) contents) fit.1
    (AreBytes-put (place f) (value_bytes f.form v) contents (spelled_bytes f.form v fit.0) bytes)

zeros_are_bytes : (n : ℕ) → AreBytes (replicate n 0)
zeros_are_bytes zero i = omega arith
zeros_are_bytes (suc n) zero = omega arith
zeros_are_bytes (suc n) (suc i) = zeros_are_bytes n i

pub padding_bytes : AreBytes padding
unfolding padding
padding_bytes = zeros_are_bytes 32

pub padding_length : length padding ≡ 32
unfolding padding
padding_length = refl

-- what is read of bytes fits
value_fits : (form : Form) (at : ℕ) (contents : List ℕ) → at + width form ≤ length contents → AreBytes contents → Fits form (value_at form at contents)
value_fits OneByte at contents within bytes = bytes at
value_fits TwoBytes at contents within bytes =
    let read = AreBytes-take 2 (drop at contents) (AreBytes-drop at contents bytes) in
    omega (arith, read 0, read 1)
value_fits FourBytes at contents within bytes =
    let read = AreBytes-take 4 (drop at contents) (AreBytes-drop at contents bytes) in
    omega (arith, read 0, read 1, read 2, read 3)
value_fits WindowByte at contents within bytes = let here = bytes at in (omega arith, omega (arith, here))
value_fits (ByteRow n) at contents within bytes =
    (simp (length-take, length-drop) (omega arith), AreBytes-take n (drop at contents) (AreBytes-drop at contents bytes))

pub values_fit : (fields : List Field) (at : ℕ) (contents : List ℕ) → Ordered at fields → length contents ≡ 32 → AreBytes contents → AllFit fields (values_at fields contents)
values_fit [] at contents order len bytes = tt
values_fit (f ∷ fields) at contents order len bytes =
    (value_fits f.form (place f) contents (omega (arith, order.0.within)) bytes, values_fit fields (place f + width f.form) contents order.1 len bytes)
