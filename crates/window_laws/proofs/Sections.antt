-- An image and its sections.
use Rattle.std.proofs.Common.{◌≡◌, ℕ, zero, suc, ◌+◌, ◌-◌, ◌*◌, ◌<◌, ◌≤◌, List, [], ◌∷◌, ◌++◌, length, take, drop, replicate, Some, ◌⊎◌, inl, inr, ⊎_elim, refl, sym, ap, ◌∙◌, arith, append_assoc, append-nil, length-append, length-drop, take-add}
use Rattle.std.specs.Prelude.{slice_get}
use Rattle.std.proofs.lemmas.Bool.Decides.{leb_tells}
use Rattle.std.specs.List.{concat}
use Rattle.std.proofs.lemmas.List.{take-append-le, take_all, take_at, drop_at, drop_all, drop-drop, length-take, length-take-le, length-replicate, take-append-drop}
use Rattle.frame_spec.specs.Widths.{front_filled}
use Rattle.window_spec.specs.declared.TheConstants.{SECTION_BYTES}
use Rattle.window_spec.specs.Outgoing.{section_count, section_at, sections_from, sections_of}
use Rattle.window_laws.specs.Sending.{padding}

either_length : (m n : ℕ) → (m ≤ n) ⊎ (n < m)
either_length m n = ⊎_elim (λ h. inl h.1) (λ h. inr h.1) (leb_tells m n)

-- a row of a width, where there are as many bytes, and where there are fewer
filled_long : (width : ℕ) (bytes : List ℕ) → width ≤ length bytes → front_filled width bytes ≡ take width bytes
filled_long width bytes long = take-append-le width bytes (replicate (width - length bytes) 0) long

filled_short : (width : ℕ) (bytes : List ℕ) → length bytes ≤ width → front_filled width bytes ≡ bytes ++ replicate (width - length bytes) 0
filled_short width bytes short =
    take_all width (bytes ++ replicate (width - length bytes) 0) (omega (arith, length-append bytes (replicate (width - length bytes) 0), length-replicate {A = ℕ} (width - length bytes) 0, short))

filled_length : (width : ℕ) (bytes : List ℕ) → length (front_filled width bytes) ≡ width
filled_length width bytes =
    omega (arith, length-take width (bytes ++ replicate (width - length bytes) 0), length-append bytes (replicate (width - length bytes) 0), length-replicate {A = ℕ} (width - length bytes) 0)

pub section_length : (place : ℕ) (image : List ℕ) → length (section_at place image) ≡ SECTION_BYTES
unfolding section_at
section_length place image = filled_length SECTION_BYTES (drop (SECTION_BYTES * place) image)

pub count_length : (count place : ℕ) (image : List ℕ) → length (sections_from count place image) ≡ count
count_length zero place image = refl
count_length (suc count) place image = omega (arith, count_length count (place + 1) image)

pub section_got : (count place number : ℕ) (image : List ℕ) → number < count → slice_get (sections_from count place image) number ≡ Some (section_at (place + number) image)
section_got zero place number image lt = absurd (omega (arith, lt))
section_got (suc count) place zero image lt =
    let e : place ≡ place + 0 = omega arith in
    ap (λ p. Some (section_at p image)) e
section_got (suc count) place (suc number) image lt =
    let e : place + 1 + number ≡ place + suc number = omega arith in
    section_got count (place + 1) number image (omega (arith, lt)) ∙ ap (λ p. Some (section_at p image)) e

-- sections in two parts
pub sections_join : (m n place : ℕ) (image : List ℕ) → sections_from (m + n) place image ≡ sections_from m place image ++ sections_from n (place + m) image
sections_join zero n place image =
    let e : zero + n ≡ n = omega arith in
    let f : place ≡ place + zero = omega arith in
    ap (λ k. sections_from k place image) e ∙ ap (λ p. sections_from n p image) f
sections_join (suc m) n place image =
    let e : suc m + n ≡ suc (m + n) = omega arith in
    let f : place + 1 + m ≡ place + suc m = omega arith in
    ap (λ k. sections_from k place image) e
    ∙ ap (λ ss. section_at place image ∷ ss) (sections_join m n (place + 1) image ∙ ap (λ p. sections_from m (place + 1) image ++ sections_from n p image) f)

-- the bytes from the next section on
next_bytes : (place : ℕ) (image : List ℕ) → drop SECTION_BYTES (drop (SECTION_BYTES * place) image) ≡ drop (SECTION_BYTES * (place + 1)) image
next_bytes place image =
    let e : SECTION_BYTES * place + SECTION_BYTES ≡ SECTION_BYTES * (place + 1) = omega arith in
    drop-drop SECTION_BYTES (SECTION_BYTES * place) image ∙ ap (λ n. drop n image) e

-- so many bytes of a row and of what follows
take_over : (n width : ℕ) (bytes rest : List ℕ) → width ≤ length bytes → width ≤ n → take n (take width bytes ++ rest) ≡ take width bytes ++ take (n - width) rest
take_over n width bytes rest long more =
    let e : n ≡ width + (n - width) = omega (arith, more) in
    let l : length (take width bytes) ≡ width = length-take-le width bytes long in
    ap (λ k. take k (take width bytes ++ rest)) e
    ∙ take-add width (n - width) (take width bytes ++ rest)
    ∙ ap (λ xs. xs ++ take (n - width) (drop width (take width bytes ++ rest))) (take_at (take width bytes) rest width l)
    ∙ ap (λ xs. take width bytes ++ take (n - width) xs) (drop_at (take width bytes) rest width l)

-- the bytes of some sections, as far as the image has them
cut_sections : (width count : ℕ) (bytes first rest : List ℕ) (next : List ℕ) → first ≡ front_filled width bytes → next ≡ drop width bytes → take (length bytes - width) rest ≡ take (width * count) next → take (length bytes) (first ++ rest) ≡ take (width + width * count) bytes
cut_sections width count bytes first rest next is on so = by (either_length width (length bytes))
  where
    by : (width ≤ length bytes) ⊎ (length bytes < width) → take (length bytes) (first ++ rest) ≡ take (width + width * count) bytes
    by (inl long) =
        ap (λ xs. take (length bytes) (xs ++ rest)) (is ∙ filled_long width bytes long)
        ∙ take_over (length bytes) width bytes rest long long
        ∙ ap (λ xs. take width bytes ++ xs) (so ∙ ap (λ xs. take (width * count) xs) on)
        ∙ sym (take-add width (width * count) bytes)
    by (inr short) =
        ap (λ xs. take (length bytes) (xs ++ rest)) (is ∙ filled_short width bytes (omega (arith, short)))
        ∙ ap (λ xs. take (length bytes) xs) (append_assoc bytes (replicate (width - length bytes) 0) rest)
        ∙ take_at bytes (replicate (width - length bytes) 0 ++ rest) (length bytes) refl
        ∙ sym (take_all (width + width * count) bytes (omega (arith, short)))

pub cut_bytes : (count place : ℕ) (image : List ℕ) → take (length image - SECTION_BYTES * place) (concat (sections_from count place image)) ≡ take (SECTION_BYTES * count) (drop (SECTION_BYTES * place) image)
unfolding section_at
cut_bytes zero place image =
    take_all (length image - SECTION_BYTES * place) [] (omega arith) ∙ refl
cut_bytes (suc count) place image =
    let bytes : List ℕ = drop (SECTION_BYTES * place) image in
    let l : length bytes ≡ length image - SECTION_BYTES * place = length-drop (SECTION_BYTES * place) image in
    let less : length image - SECTION_BYTES * (place + 1) ≡ length bytes - SECTION_BYTES = omega (arith, l) in
    let more : SECTION_BYTES + SECTION_BYTES * count ≡ SECTION_BYTES * suc count = omega arith in
    ap (λ n. take n (concat (sections_from (suc count) place image))) (sym l)
    ∙ cut_sections
    SECTION_BYTES
    count
    bytes
    (section_at place image)
    (concat (sections_from count (place + 1) image))
    (drop (SECTION_BYTES * (place + 1)) image)
    refl
    (sym (next_bytes place image))
    (ap (λ n. take n (concat (sections_from count (place + 1) image))) (sym less) ∙ cut_bytes count (place + 1) image)
    ∙ ap (λ n. take n bytes) more

-- the bytes of some sections that reach to the image's end, and no further than its last section
whole_sections : (width count : ℕ) (bytes first rest : List ℕ) → first ≡ front_filled width bytes → length bytes ≤ width + width * count → width + width * count < length bytes + width → (width ≤ length bytes → rest ≡ drop width bytes ++ replicate (width * count - (length bytes - width)) 0) → (length bytes < width → (rest ≡ []) × (width * count ≡ 0)) → first ++ rest ≡ bytes ++ replicate (width + width * count - length bytes) 0
whole_sections width count bytes first rest is least most on none = by (either_length width (length bytes))
  where
    by : (width ≤ length bytes) ⊎ (length bytes < width) → first ++ rest ≡ bytes ++ replicate (width + width * count - length bytes) 0
    by (inl long) =
        let zeros : width * count - (length bytes - width) ≡ width + width * count - length bytes = omega (arith, long, least) in
        ap (λ xs. xs ++ rest) (is ∙ filled_long width bytes long)
        ∙ ap (λ xs. take width bytes ++ xs) (on long ∙ ap (λ n. drop width bytes ++ replicate n 0) zeros)
        ∙ sym (append_assoc (take width bytes) (drop width bytes) (replicate (width + width * count - length bytes) 0))
        ∙ ap (λ xs. xs ++ replicate (width + width * count - length bytes) 0) (take-append-drop width bytes)
    by (inr short) =
        let zeros : width - length bytes ≡ width + width * count - length bytes = omega (arith, (none short).1) in
        ap (λ xs. xs ++ rest) (is ∙ filled_short width bytes (omega (arith, short)))
        ∙ ap (λ xs. bytes ++ replicate (width - length bytes) 0 ++ xs) (none short).0
        ∙ append-nil (bytes ++ replicate (width - length bytes) 0)
        ∙ ap (λ n. bytes ++ replicate n 0) zeros

whole_bytes : (count place : ℕ) (image : List ℕ) → length image - SECTION_BYTES * place ≤ SECTION_BYTES * count → SECTION_BYTES * count < length image - SECTION_BYTES * place + SECTION_BYTES → concat (sections_from count place image) ≡ drop (SECTION_BYTES * place) image ++ replicate (SECTION_BYTES * count - (length image - SECTION_BYTES * place)) 0
unfolding section_at
whole_bytes zero place image least most =
    let zeros : SECTION_BYTES * 0 - (length image - SECTION_BYTES * place) ≡ 0 = omega arith in
    sym (ap (λ n. drop (SECTION_BYTES * place) image ++ replicate n 0) zeros ∙ append-nil (drop (SECTION_BYTES * place) image) ∙ drop_all (SECTION_BYTES * place) image (omega (arith, least)))
whole_bytes (suc count) place image least most =
    let bytes : List ℕ = drop (SECTION_BYTES * place) image in
    let l : length bytes ≡ length image - SECTION_BYTES * place = length-drop (SECTION_BYTES * place) image in
    let more : SECTION_BYTES + SECTION_BYTES * count - length bytes ≡ SECTION_BYTES * suc count - (length image - SECTION_BYTES * place) = omega (arith, l) in
    let less : SECTION_BYTES * count - (length image - SECTION_BYTES * (place + 1)) ≡ SECTION_BYTES * count - (length bytes - SECTION_BYTES) = omega (arith, l) in
    whole_sections
    SECTION_BYTES
    count
    bytes
    (section_at place image)
    (concat (sections_from count (place + 1) image))
    refl
    (omega (arith, l, least))
    (omega (arith, l, most))
    (λ (long : SECTION_BYTES ≤ length bytes). whole_bytes count (place + 1) image (omega (arith, l, least, long)) (omega (arith, l, most, long)) ∙ ap (λ xs. xs ++ replicate (SECTION_BYTES * count - (length image - SECTION_BYTES * (place + 1))) 0) (sym (next_bytes place image)) ∙ ap (λ n. drop SECTION_BYTES bytes ++ replicate n 0) less)
    (λ (short : length bytes < SECTION_BYTES). (none count (omega (arith, l, most, short)), omega (arith, l, most, short)))
    ∙ ap (λ n. bytes ++ replicate n 0) more
  where
    none : (n : ℕ) → n ≡ 0 → concat (sections_from n (place + 1) image) ≡ []
    none zero e = refl
    none (suc n) e = absurd (omega (arith, e))

-- how many sections there are
pub count_reaches : (image : List ℕ) → length image ≤ SECTION_BYTES * section_count image
unfolding section_count
count_reaches image = omega arith

pub count_is_least : (image : List ℕ) → SECTION_BYTES * section_count image < length image + SECTION_BYTES
unfolding section_count
count_is_least image = omega arith

pub joined : (image : List ℕ) → concat (sections_of image) ≡ image ++ replicate (padding image) 0
joined image =
    let e : SECTION_BYTES * section_count image - (length image - SECTION_BYTES * 0) ≡ padding image = omega arith in
    whole_bytes (section_count image) 0 image (omega (arith, count_reaches image)) (omega (arith, count_is_least image))
    ∙ ap (λ n. image ++ replicate n 0) e

pub padding_is_less : (image : List ℕ) → padding image < SECTION_BYTES
padding_is_less image = omega (arith, count_is_least image, count_reaches image)
