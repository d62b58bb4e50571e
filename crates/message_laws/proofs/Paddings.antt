-- A frame with zero padding is the plain one of its message.
use Rattle.std.proofs.Common.{◌≡◌, ℕ, zero, suc, ◌+◌, ◌-◌, ◌<◌, ◌≤◌, List, [], ◌∷◌, ◌++◌, ◌⊎◌, length, take, drop, get_or, replicate, refl, sym, ap, ◌∙◌, arith, inl, inr, length-append, length-drop}
use Rattle.std.proofs.lemmas.Bool.{cases_lt}
use Rattle.std.proofs.lemmas.Nat.{be_bytes_2, be_bytes_4}
use Rattle.std.proofs.lemmas.List.{length-take, length-take-le, get_or-take, get_or-drop, get_or_append_left, get_or-append_right, drop_more, ext_get_or}
use Rattle.message_spec.specs.Fields.{Value, Form, OneByte, TwoBytes, FourBytes, WindowByte, ByteRow, Field, width, place, value_at, values_at, value_bytes, put, put_values, padding, AreBytes, AllFit}
use Rattle.message_laws.specs.Padding.{IsOutside, HasZeroPadding}
use Rattle.message_laws.proofs.Places.{AreBytes-take, AreBytes-drop}
use Rattle.message_laws.proofs.Forms.{Ordered, length-spelled, put_length}

-- ---- what is put leaves the bytes before and after it

put_before : (at : ℕ) (bytes contents : List ℕ) (i : ℕ) → i < at → at ≤ length contents → get_or (put at bytes contents) i 0 ≡ get_or contents i 0
unfolding put
put_before at bytes contents i before within =
    let whole : length (take at contents) ≡ at = length-take-le at contents within in
    get_or_append_left (take at contents ++ bytes) (drop (at + length bytes) contents) 0 i (omega (arith, length-append (take at contents) bytes))
    ∙ get_or_append_left (take at contents) bytes 0 i (omega arith)
    ∙ get_or-take at contents i 0 before

put_after : (at : ℕ) (bytes contents : List ℕ) (i : ℕ) → at + length bytes ≤ i → at ≤ length contents → get_or (put at bytes contents) i 0 ≡ get_or contents i 0
unfolding put
put_after at bytes contents i after within =
    let whole : length (take at contents) ≡ at = length-take-le at contents within in
    let front : length (take at contents ++ bytes) ≡ at + length bytes = omega (arith, length-append (take at contents) bytes) in
    let there : at + length bytes + (i - (at + length bytes)) ≡ i = omega arith in
    get_or-append_right (take at contents ++ bytes) (drop (at + length bytes) contents) (at + length bytes) i 0 front after
    ∙ get_or-drop (at + length bytes) contents (i - (at + length bytes)) 0
    ∙ ap (λ (n : ℕ). get_or contents n 0) there

-- a byte of no field stays
filled_outside : (fields : List Field) (values : List Value) (from : ℕ) (contents : List ℕ) (i : ℕ) → Ordered from fields → AllFit fields values → length contents ≡ 32 → IsOutside fields i → get_or (put_values fields values contents) i 0 ≡ get_or contents i 0
filled_outside [] [] from contents i order fit len out = refl
filled_outside [] (v ∷ values) from contents i order fit len out = absurd fit
filled_outside (f ∷ fields) [] from contents i order fit len out = absurd fit
filled_outside (f ∷ fields) (v ∷ values) from contents i order fit len out =
    let within : place f ≤ length contents = omega (arith, order.0.within) in
    let long : length (value_bytes f.form v) ≡ width f.form = length-spelled f.form v fit.0 in
    let stays : get_or (put (place f) (value_bytes f.form v) contents) i 0 ≡ get_or contents i 0 =
    elim out.0 as (λ _. get_or (put (place f) (value_bytes f.form v) contents) i 0 ≡ get_or contents i 0) [
      | inl before ↦ put_before (place f) (value_bytes f.form v) contents i before within
      | inr after ↦ put_after (place f) (value_bytes f.form v) contents i (omega arith) within
    ]
    in
    filled_outside fields values (place f + width f.form) (put (place f) (value_bytes f.form v) contents) i order.1 fit.1 (put_length f v contents order.0.within fit.0 len) out.1
    ∙ stays

zero_there : (n i : ℕ) → ◌≡◌ {A = ℕ} (get_or (replicate n 0) i 0) 0
zero_there zero zero = refl
zero_there zero (suc i) = refl
zero_there (suc n) zero = refl
zero_there (suc n) (suc i) = zero_there n i

padding_zero : (i : ℕ) → get_or padding i 0 ≡ 0
unfolding padding
padding_zero i = zero_there 32 i

pub filled_padding : (fields : List Field) (values : List Value) (from : ℕ) → Ordered from fields → AllFit fields values → length padding ≡ 32 → HasZeroPadding fields (put_values fields values padding)
filled_padding fields values from order fit len at out = filled_outside fields values from padding at order fit len out ∙ padding_zero at

-- ---- equal values have equal bytes

one_there : (at : ℕ) (contents : List ℕ) → at + 1 ≤ length contents → get_or contents at 0 ∷ [] ≡ take 1 (drop at contents)
one_there at contents within = ap (take 1) (sym (drop_more contents at 0 (omega arith)))

taken_length : (n at : ℕ) (contents : List ℕ) → at + n ≤ length contents → length (take n (drop at contents)) ≡ n
taken_length n at contents within = simp (length-take, length-drop) (omega arith)

-- the bytes of a value that was read are those that stand there
read_is_spelled : (form : Form) (at : ℕ) (contents : List ℕ) → at + width form ≤ length contents → AreBytes contents → value_bytes form (value_at form at contents) ≡ take (width form) (drop at contents)
read_is_spelled OneByte at contents within bytes = one_there at contents within
read_is_spelled TwoBytes at contents within bytes =
    be_bytes_2 (take 2 (drop at contents)) _ (taken_length 2 at contents within) (AreBytes-take 2 (drop at contents) (AreBytes-drop at contents bytes)) refl
read_is_spelled FourBytes at contents within bytes =
    be_bytes_4 (take 4 (drop at contents)) _ (taken_length 4 at contents within) (AreBytes-take 4 (drop at contents) (AreBytes-drop at contents bytes)) refl
read_is_spelled WindowByte at contents within bytes =
    let same : get_or contents at 0 + 1 - 1 ≡ get_or contents at 0 = omega arith in
    ap (λ (n : ℕ). n ∷ []) same ∙ one_there at contents within
read_is_spelled (ByteRow n) at contents within bytes = refl

byte_within : (at n : ℕ) (contents : List ℕ) (i : ℕ) → at ≤ i → i < at + n → get_or (take n (drop at contents)) (i - at) 0 ≡ get_or contents i 0
byte_within at n contents i from to =
    let there : at + (i - at) ≡ i = omega arith in
    get_or-take n (drop at contents) (i - at) 0 (omega arith)
    ∙ get_or-drop at contents (i - at) 0
    ∙ ap (λ (k : ℕ). get_or contents k 0) there

-- a byte of the field agrees, and another one is for the other fields to say
within_or_not : (f : Field) (fields : List Field) (left right : List ℕ) (i : ℕ) → take (width f.form) (drop (place f) left) ≡ take (width f.form) (drop (place f) right) → IsOutside fields i ⊎ (get_or left i 0 ≡ get_or right i 0) → (i < place f) ⊎ (place f ≤ i) → (i < place f + width f.form) ⊎ (place f + width f.form ≤ i) → IsOutside (f ∷ fields) i ⊎ (get_or left i 0 ≡ get_or right i 0)
within_or_not f fields left right i taken (inr same) low high = inr same
within_or_not f fields left right i taken (inl out) (inl before) high = inl (inl before, out)
within_or_not f fields left right i taken (inl out) (inr from) (inr after) = inl (inr after, out)
within_or_not f fields left right i taken (inl out) (inr from) (inl to) =
    inr (sym (byte_within (place f) (width f.form) left i from to) ∙ ap (λ (x : List ℕ). get_or x (i - place f) 0) taken ∙ byte_within (place f) (width f.form) right i from to)

-- contents with the same values agree at each byte of a field
same_fields : (fields : List Field) (from : ℕ) (left right : List ℕ) → Ordered from fields → length left ≡ 32 → length right ≡ 32 → AreBytes left → AreBytes right → values_at fields left ≡ values_at fields right → (i : ℕ) → IsOutside fields i ⊎ (get_or left i 0 ≡ get_or right i 0)
same_fields [] from left right order len_left len_right bytes_left bytes_right same i = inl tt
same_fields (f ∷ fields) from left right order len_left len_right bytes_left bytes_right same i =
    let first : value_at f.form (place f) left ≡ value_at f.form (place f) right = cc in
    let rest : values_at fields left ≡ values_at fields right = cc in
    let taken : take (width f.form) (drop (place f) left) ≡ take (width f.form) (drop (place f) right) =
    sym (read_is_spelled f.form (place f) left (omega (arith, order.0.within)) bytes_left)
    ∙ ap (value_bytes f.form) first
    ∙ read_is_spelled f.form (place f) right (omega (arith, order.0.within)) bytes_right
    in
    let others = same_fields fields (place f + width f.form) left right order.1 len_left len_right bytes_left bytes_right rest i in
    within_or_not f fields left right i taken others (cases_lt i (place f)) (cases_lt i (place f + width f.form))

both_zero : (fields : List Field) (left right : List ℕ) (i : ℕ) → HasZeroPadding fields left → HasZeroPadding fields right → IsOutside fields i ⊎ (get_or left i 0 ≡ get_or right i 0) → get_or left i 0 ≡ get_or right i 0
both_zero fields left right i zero_left zero_right (inl out) = zero_left i out ∙ sym (zero_right i out)
both_zero fields left right i zero_left zero_right (inr same) = same

-- contents with the same values and zero padding are the same
pub same_contents : (fields : List Field) (from : ℕ) (left right : List ℕ) → Ordered from fields → length left ≡ 32 → length right ≡ 32 → AreBytes left → AreBytes right → values_at fields left ≡ values_at fields right → HasZeroPadding fields left → HasZeroPadding fields right → left ≡ right
same_contents fields from left right order len_left len_right bytes_left bytes_right same zero_left zero_right =
    ext_get_or 0 left right (len_left ∙ sym len_right)
    (λ i lt. both_zero fields left right i zero_left zero_right (same_fields fields from left right order len_left len_right bytes_left bytes_right same i))
