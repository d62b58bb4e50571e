-- A line's word as the line grows by a byte: where the line ends, and the word's first bytes.
use Rattle.std.proofs.Common.{◌≡◌, ◌<◌, ◌==◌, ◌&&◌, ℕ, zero, suc, Bool, true, false, if◌then◌else◌, List, [], ◌∷◌, ◌++◌, length, take, nat_lt, refl, sym, ◌∙◌, ap, arith}
use Rattle.std.proofs.lemmas.Bool.Decides.{nat_tests}
use Rattle.std.specs.Str.{bytes_eq}
use Rattle.drill_spec.specs.Summary.{after_space, until_space, word_of}
use Rattle.drill_run.specs.declared.place.Place.{Place}
use Rattle.drill_run.specs.declared.place.Place.TheVariants as place
use Rattle.drill_run.specs.Tallied.{place_after_space, word_with, word_in}

-- where what was read after the first space ends
abbrev pub word_place : List ℕ → Place
word_place [] = place.Word
word_place (byte ∷ rest) = if byte == 32 then place.After else word_place rest

-- where a front of a line ends
abbrev pub front_place : List ℕ → Place
front_place [] = place.Number
front_place (byte ∷ rest) = if byte == 32 then word_place rest else front_place rest

-- both ways of a test
chosen : {A B : Type 0} (f : A → B) (t : Bool) {x y : B} {x' y' : A} → x ≡ f x' → y ≡ f y' → (if t then x else y) ≡ f (if t then x' else y')
chosen f true e g = e
chosen f false e g = g

same_kept : {A B : Type 0} (f : A → B) (t : Bool) {x y x' y' : A} → f x ≡ f x' → f y ≡ f y' → f (if t then x else y) ≡ f (if t then x' else y')
same_kept f true e g = e
same_kept f false e g = g

-- ---- a space

word_place_space : (b : ℕ) → (b == 32) ≡ true → (q : List ℕ) → word_place (q ++ (b ∷ [])) ≡ place_after_space (word_place q)
word_place_space b h [] = ap (λ (t : Bool). if t then place.After else place.Word) h
word_place_space b h (c ∷ rest) = chosen place_after_space (c == 32) refl (word_place_space b h rest)

pub place_space : (b : ℕ) → (b == 32) ≡ true → (p : List ℕ) → front_place (p ++ (b ∷ [])) ≡ place_after_space (front_place p)
place_space b h [] = ap (λ (t : Bool). if t then place.Word else place.Number) h
place_space b h (c ∷ rest) = chosen place_after_space (c == 32) (word_place_space b h rest) (place_space b h rest)

until_same : (b : ℕ) → (b == 32) ≡ true → (q : List ℕ) → until_space (q ++ (b ∷ [])) ≡ until_space q
until_same b h [] = ap (λ (t : Bool). if t then [] else b ∷ []) h
until_same b h (c ∷ rest) = chosen (λ (z : List ℕ). z) (c == 32) refl (ap (λ (z : List ℕ). c ∷ z) (until_same b h rest))

pub word_space : (b : ℕ) → (b == 32) ≡ true → (p : List ℕ) → word_of (p ++ (b ∷ [])) ≡ word_of p
word_space b h [] = ap (λ (t : Bool). until_space (if t then [] else [])) h
word_space b h (c ∷ rest) = same_kept until_space (c == 32) (until_same b h rest) (word_space b h rest)

-- ---- another byte

word_place_other : (b : ℕ) → (b == 32) ≡ false → (q : List ℕ) → word_place (q ++ (b ∷ [])) ≡ word_place q
word_place_other b h [] = ap (λ (t : Bool). if t then place.After else place.Word) h
word_place_other b h (c ∷ rest) = chosen (λ (z : Place). z) (c == 32) refl (word_place_other b h rest)

pub place_other : (b : ℕ) → (b == 32) ≡ false → (p : List ℕ) → front_place (p ++ (b ∷ [])) ≡ front_place p
place_other b h [] = ap (λ (t : Bool). if t then place.Word else place.Number) h
place_other b h (c ∷ rest) = chosen (λ (z : Place). z) (c == 32) (word_place_other b h rest) (place_other b h rest)

-- the whole word after a byte more
abbrev grown : Place → ℕ → List ℕ → List ℕ
grown place.Number b w = w
grown place.Word b w = w ++ (b ∷ [])
grown place.After b w = w

grown_later : (p : Place) (b c : ℕ) (w : List ℕ) → c ∷ grown p b w ≡ grown p b (c ∷ w)
grown_later place.Number b c w = refl
grown_later place.Word b c w = refl
grown_later place.After b c w = refl

-- the same of a test's outcome
grown_by : (t : Bool) (b : ℕ) (f : List ℕ → List ℕ) (x y x' y' : List ℕ) (p q : Place) → f x ≡ grown p b (f x') → f y ≡ grown q b (f y') → f (if t then x else y) ≡ grown (if t then p else q) b (f (if t then x' else y'))
grown_by true b f x y x' y' p q e g = e
grown_by false b f x y x' y' p q e g = g

until_other : (b : ℕ) → (b == 32) ≡ false → (q : List ℕ) → until_space (q ++ (b ∷ [])) ≡ grown (word_place q) b (until_space q)
until_other b h [] = ap (λ (t : Bool). if t then [] else b ∷ []) h
until_other b h (c ∷ rest) =
    grown_by (c == 32) b (λ (z : List ℕ). z) [] (c ∷ until_space (rest ++ (b ∷ []))) [] (c ∷ until_space rest) place.After (word_place rest) refl
    (ap (λ (z : List ℕ). c ∷ z) (until_other b h rest) ∙ grown_later (word_place rest) b c (until_space rest))

word_other : (b : ℕ) → (b == 32) ≡ false → (p : List ℕ) → word_of (p ++ (b ∷ [])) ≡ grown (front_place p) b (word_of p)
word_other b h [] = ap (λ (t : Bool). until_space (if t then [] else [])) h
word_other b h (c ∷ rest) =
    grown_by (c == 32) b until_space (rest ++ (b ∷ [])) (after_space (rest ++ (b ∷ []))) rest (after_space rest) (word_place rest) (front_place rest)
    (until_other b h rest) (word_other b h rest)

-- ---- its first bytes

-- a test of two numbers is that of the numbers after them
less_after : (t : Bool) (a b : ℕ) → nat_lt a b ≡ t → nat_lt (suc a) (suc b) ≡ t
less_after true a b h = grind (arith, nat_tests, h)
less_after false a b h = grind (arith, nat_tests, h)

none_less : (n : ℕ) → nat_lt 0 (suc n) ≡ true
none_less n = grind (arith, nat_tests)

take_none : (n : ℕ) → take {A = ℕ} n [] ≡ []
take_none zero = refl
take_none (suc n) = refl

pushed : (t : Bool) (b c : ℕ) (w : List ℕ) → c ∷ (if t then w ++ (b ∷ []) else w) ≡ (if t then (c ∷ w) ++ (b ∷ []) else c ∷ w)
pushed true b c w = refl
pushed false b c w = refl

first_bytes : (n : ℕ) (b : ℕ) (w : List ℕ) → take n (w ++ (b ∷ [])) ≡ (if nat_lt (length (take n w)) n then take n w ++ (b ∷ []) else take n w)
first_bytes zero b [] = refl
first_bytes zero b (c ∷ w) = refl
first_bytes (suc n) b [] =
    ap (λ (z : List ℕ). b ∷ z) (take_none n) ∙ ap (λ (t : Bool). if t then b ∷ [] else []) (sym (none_less n))
first_bytes (suc n) b (c ∷ w) =
    let front : List ℕ = take n w in
    ap (λ (z : List ℕ). c ∷ z) (first_bytes n b w) ∙ pushed (nat_lt (length front) n) b c front
    ∙ ap (λ (t : Bool). if t then (c ∷ front) ++ (b ∷ []) else c ∷ front) (sym (less_after (nat_lt (length front) n) (length front) n refl))

first_grown : (p : Place) (b : ℕ) (w : List ℕ) → take 8 (grown p b w) ≡ word_in p b (take 8 w)
unfolding word_with
first_grown place.Number b w = refl
first_grown place.Word b w = first_bytes 8 b w
first_grown place.After b w = refl

-- the first bytes of a line's word after a byte that is neither a space nor a line feed
pub word_first : (b : ℕ) → (b == 32) ≡ false → (p : List ℕ) → take 8 (word_of (p ++ (b ∷ []))) ≡ word_in (front_place p) b (take 8 (word_of p))
word_first b h p = ap (take 8) (word_other b h p) ∙ first_grown (front_place p) b (word_of p)

-- a word of fewer bytes is known by its first ones
pub same_word : (n : ℕ) (w k : List ℕ) → length k < n → bytes_eq (take n w) k ≡ bytes_eq w k
same_word zero w k lt = absurd (omega (arith, lt))
same_word (suc n) [] k lt = refl
same_word (suc n) (c ∷ w) [] lt = refl
same_word (suc n) (c ∷ w) (d ∷ k) lt =
    let longer : suc (length k) < suc n = lt in
    ap (λ (t : Bool). (c == d) && t) (same_word n w k (omega (arith, longer)))
