-- Lists at the end of contents, member by member.
use Rattle.std.proofs.Common.{◌≡◌, ℕ, zero, suc, ◌+◌, ◌-◌, ◌<◌, ◌≤◌, ◌/◌, ◌%◌, Bool, true, false, cond, List, [], ◌∷◌, ◌++◌, length, take, drop, nat_lt, Option, Some, None, refl, sym, ap, subst, ◌∙◌, append_assoc, arith, length-drop, length-append}
use Rattle.std.specs.List.{flat_map, slice_get}
use Rattle.std.specs.Int.{w16, to_be_bytes}
use Rattle.std.proofs.lemmas.Bool.{le-ltb, ltb-false, cond-false}
use Rattle.std.proofs.lemmas.List.{drop-drop, drop_all, append-nil}
use Rattle.frame_spec.specs.Baseline.{number_at}
use Rattle.message_spec.specs.declared.Action.{Action}
use Rattle.message_spec.specs.declared.Action.TheVariants.{Create, Delete, Set, Get, Alarms, AlarmsNext, Upload, UploadNext, Reset, Start, Section, End, Activate, Commit, Reboot}
use Rattle.message_spec.specs.declared.Kind.TheVariants as kinds
use Rattle.extended_spec.specs.Layouts.{LongForm, long_layout, fixed_width, list_need, need_of, each_after, need_after, piece_size, row_size}
use Rattle.extended_laws.proofs.Lists.{each_more, whole, whole_first, whole_more, cut_first}

-- a request has no list
pub no_list : (a : Action) (contents : List ℕ) → list_need (long_layout (kinds.Request a)) 0 contents ≡ None
no_list Create contents = refl
no_list Delete contents = refl
no_list Set contents = refl
no_list Get contents = refl
no_list Alarms contents = refl
no_list AlarmsNext contents = refl
no_list Upload contents = refl
no_list UploadNext contents = refl
no_list Reset contents = refl
no_list Start contents = refl
no_list Section contents = refl
no_list End contents = refl
no_list Activate contents = refl
no_list Commit contents = refl
no_list Reboot contents = refl

-- ---- sizes

size_by : (short : Bool) (width : ℕ) → 8 ≤ cond short 8 (8 + width)
size_by true width = omega arith
size_by false width = omega arith

pub piece_size-some : (bytes : List ℕ) → 8 ≤ piece_size bytes
unfolding piece_size
piece_size-some bytes = size_by (nat_lt (length bytes) 2) (number_at 0 bytes)

pub piece_size-is : (bytes : List ℕ) → 2 ≤ length bytes → piece_size bytes ≡ 8 + number_at 0 bytes
unfolding piece_size
piece_size-is bytes there = cond-false _ _ _ (le-ltb (length bytes) 2 there)

-- ---- from one member to the next

pub next_need : (size : List ℕ → ℕ) (contents : List ℕ) (place count : ℕ) → count ≡ size (drop place contents) → 0 < count → place + count ≤ length contents →
    need_after size (place + count) 0 (drop (place + count) contents) ≡ need_after size place 0 (drop place contents)
next_need size contents place count is some fits =
    let there : 0 < size (drop place contents) = omega (arith, is) in
    let within : size (drop place contents) ≤ length (drop place contents) = omega (arith, is, length-drop place contents) in
    ap (λ (n : ℕ). need_after size (place + n) 0 (drop (place + n) contents)) is
    ∙ ap (need_after size (place + size (drop place contents)) 0) (sym (drop-drop (size (drop place contents)) place contents))
    ∙ sym (whole_more size place (drop place contents) there within)

pub next_member : {A : Type 0} (size : List ℕ → ℕ) (one : List ℕ → A) (contents : List ℕ) (place count : ℕ) (before after : List A) →
    count ≡ size (drop place contents) → 0 < count → place + count ≤ length contents → after ≡ before ++ one (drop place contents) ∷ [] →
    after ++ each_after size one 0 (drop (place + count) contents) ≡ before ++ each_after size one 0 (drop place contents)
next_member {A} size one contents place count before after is some fits added =
    let there : 0 < length (drop place contents) = omega (arith, length-drop place contents) in
    let first : 0 < size (drop place contents) = omega (arith, is) in
    let rest : List A = each_after size one 0 (drop (place + count) contents) in
    let same : each_after size one 0 (drop (size (drop place contents)) (drop place contents)) ≡ each_after size one 0 (drop (place + count) contents) =
    ap (each_after size one 0) (drop-drop (size (drop place contents)) place contents)
    ∙ ap (λ (n : ℕ). each_after size one 0 (drop (place + n) contents)) (sym is) in
    ap (λ (xs : List A). xs ++ rest) added
    ∙ append_assoc before (one (drop place contents) ∷ []) rest
    ∙ ap (λ (xs : List A). before ++ one (drop place contents) ∷ xs) (sym same)
    ∙ ap (λ (xs : List A). before ++ xs) (sym (each_more size one (drop place contents) there first))

-- the last one is cut
pub cut_need : (size : List ℕ → ℕ) (contents : List ℕ) (place count : ℕ) → count ≡ size (drop place contents) → place < length contents → length contents < place + count →
    Some (place + count) ≡ need_after size place 0 (drop place contents)
cut_need size contents place count is within cut =
    let there : 0 < length (drop place contents) = omega (arith, length-drop place contents) in
    let short : length (drop place contents) < size (drop place contents) = omega (arith, is, length-drop place contents) in
    ap (λ (n : ℕ). Some (place + n)) is ∙ sym (cut_first size place (drop place contents) there short)

-- at the end there are no more

pub no_need : (size : List ℕ → ℕ) (before : ℕ) (contents : List ℕ) (place : ℕ) → length contents ≤ place → need_after size before 0 (drop place contents) ≡ None
unfolding need_after
no_need size before contents place past = ap (need_after size before 0) (drop_all place contents past)

each_none : {A : Type 0} (size : List ℕ → ℕ) (one : List ℕ → A) → each_after size one 0 [] ≡ []
unfolding each_after
each_none size one = refl

pub no_member : {A : Type 0} (size : List ℕ → ℕ) (one : List ℕ → A) (contents : List ℕ) (place : ℕ) (xs all : List A) → length contents ≤ place →
    xs ++ each_after size one 0 (drop place contents) ≡ all → xs ≡ all
no_member {A} size one contents place xs all past is =
    sym (append-nil xs)
    ∙ ap (λ (ys : List A). xs ++ ys) (sym (ap (each_after size one 0) (drop_all place contents past) ∙ each_none size one))
    ∙ is

-- ---- written one after the other

taken : {A : Type 0} (spell : A → List ℕ) (xs : List A) (n : ℕ) (x : A) → slice_get xs n ≡ Some x → flat_map spell (take (n + 1) xs) ≡ flat_map spell (take n xs) ++ spell x
taken spell [] n x is = absurd cc
taken {A} spell (y ∷ ys) zero x is = let same : y ≡ x = cc in append-nil (spell y) ∙ ap spell same
taken {A} spell (y ∷ ys) (suc n) x is =
    let step : suc n + 1 ≡ suc (n + 1) = omega arith in
    ap (λ (k : ℕ). flat_map spell (take k (y ∷ ys))) step
    ∙ ap (λ (z : List ℕ). spell y ++ z) (taken spell ys n x is)
    ∙ sym (append_assoc (spell y) (flat_map spell (take n ys)) (spell x))

pub next_put : {A : Type 0} (spell : A → List ℕ) (xs : List A) (place : ℕ) (x : A) (before out after : List ℕ) → slice_get xs place ≡ Some x →
    out ≡ before ++ flat_map spell (take place xs) → after ≡ out ++ spell x → after ≡ before ++ flat_map spell (take (place + 1) xs)
next_put spell xs place x before out after is so_far added =
    added
    ∙ ap (λ (z : List ℕ). z ++ spell x) so_far
    ∙ append_assoc before (flat_map spell (take place xs)) (spell x)
    ∙ ap (λ (z : List ℕ). before ++ z) (sym (taken spell xs place x is))

-- what two appends have appended
pub then : (a b c p q : List ℕ) → b ≡ a ++ p → c ≡ b ++ q → c ≡ a ++ (p ++ q)
then a b c p q first second = second ∙ ap (λ (x : List ℕ). x ++ q) first ∙ append_assoc a p q

-- a number of two bytes is written by its low 16 bits
pub low_two : (n : ℕ) → to_be_bytes w16 (n % 65536) ≡ to_be_bytes w16 n
low_two n =
    let high : n % 65536 / 256 % 256 ≡ n / 256 % 256 = omega arith in
    let low : n % 65536 % 256 ≡ n % 256 = omega arith in
    ap (λ (h : ℕ). h ∷ n % 65536 % 256 ∷ []) high ∙ ap (λ (l : ℕ). n / 256 % 256 ∷ l ∷ []) low

-- one more adds its length
pub taken_length : {A : Type 0} (spell : A → List ℕ) (xs : List A) (n : ℕ) (x : A) → slice_get xs n ≡ Some x →
    length (flat_map spell (take (n + 1) xs)) ≡ length (flat_map spell (take n xs)) + length (spell x)
taken_length spell xs n x is = ap length (taken spell xs n x is) ∙ length-append (flat_map spell (take n xs)) (spell x)

-- the first ones are no longer than all
pub front_length : {A : Type 0} (spell : A → List ℕ) (xs : List A) (n : ℕ) → length (flat_map spell (take n xs)) ≤ length (flat_map spell xs)
front_length spell xs zero = omega arith
front_length spell [] (suc n) = omega arith
front_length spell (x ∷ xs) (suc n) =
    omega (arith, length-append (spell x) (flat_map spell (take n xs)), length-append (spell x) (flat_map spell xs), front_length spell xs n)

-- ---- room for more

pub no_room : {A : Type 0} (spell : A → List ℕ) (xs : List A) (place : ℕ) (x : A) (size room : ℕ) → slice_get xs place ≡ Some x → length (spell x) ≡ size → room < size →
    room + length (flat_map spell (take place xs)) ≡ 1966 → length (flat_map spell xs) ≤ 1966 → ⊥
no_room spell xs place x size room is long less so_far fits = omega (arith, taken_length spell xs place x is, front_length spell xs (place + 1))

pub less_room : {A : Type 0} (spell : A → List ℕ) (xs : List A) (place : ℕ) (x : A) (size room : ℕ) → slice_get xs place ≡ Some x → length (spell x) ≡ size → size ≤ room →
    room + length (flat_map spell (take place xs)) ≡ 1966 → room - size + length (flat_map spell (take (place + 1) xs)) ≡ 1966
less_room spell xs place x size room is long fits so_far = omega (arith, taken_length spell xs place x is)

-- ---- what nothing is cut from

not_some : (o : Option ℕ) → ((n : ℕ) → o ≡ Some n → ⊥) → o ≡ None
not_some None never = refl
not_some (Some n) never = absurd (never n refl)

pub record IsThere (forms : List LongForm) (bytes : List ℕ) : Type 0 where
  pub width : fixed_width forms ≤ length bytes
  pub list : list_need forms 0 bytes ≡ None

pub there_if : (forms : List LongForm) (bytes : List ℕ) → ((n : ℕ) → need_of forms bytes ≡ Some n → ⊥) → IsThere forms bytes
unfolding need_of
there_if forms bytes never =
    let both = whole (nat_lt (length bytes) (fixed_width forms)) (fixed_width forms) (list_need forms 0 bytes) (not_some _ never) in
    record { width = ltb-false (length bytes) (fixed_width forms) both.0; list = both.1 }

-- a whole piece stands at a place
pub record IsPieceAt (contents : List ℕ) (place : ℕ) (bytes : List ℕ) : Type 0 where
  pub header : 8 ≤ length bytes
  pub whole : 8 + number_at 0 bytes ≤ length bytes
  pub size : 8 + number_at 0 bytes ≡ piece_size (drop place contents)
  pub fits : place + (8 + number_at 0 bytes) ≤ length contents

piece_here : (contents : List ℕ) (place : ℕ) → place < length contents → need_after piece_size place 0 (drop place contents) ≡ None → IsPieceAt contents place (drop place contents)
piece_here contents place within none =
    let bytes : List ℕ = drop place contents in
    let eight = piece_size-some (drop place contents) in
    let there : 0 < length (drop place contents) = omega (arith, length-drop place contents) in
    let fits = (whole_first piece_size place (drop place contents) there (omega (arith, eight)) none).fits in
    let header : 8 ≤ length (drop place contents) = omega (arith, eight, fits) in
    let size = piece_size-is (drop place contents) (omega (arith, header)) in
    record {
      header = header;
      whole = omega (arith, size, fits);
      size = sym size;
      fits = omega (arith, size, fits, length-drop place contents);
    }

pub piece_at : (contents : List ℕ) (place : ℕ) (bytes : List ℕ) → bytes ≡ drop place contents → place < length contents → need_after piece_size place 0 (drop place contents) ≡ None → IsPieceAt contents place bytes
piece_at contents place bytes is within none = subst (λ (b : List ℕ). IsPieceAt contents place b) (sym is) (piece_here contents place within none)

-- a whole row stands at a place
pub row_at : (contents : List ℕ) (place : ℕ) → place < length contents → need_after row_size place 0 (drop place contents) ≡ None → place + 32 ≤ length contents
row_at contents place within none =
    let there : 0 < length (drop place contents) = omega (arith, length-drop place contents) in
    omega (arith, (whole_first row_size place (drop place contents) there (omega arith) none).fits, length-drop place contents)
