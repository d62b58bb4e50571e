-- Contents of extended messages: what is written is read again, field by field.
use Rattle.std.proofs.Common.{◌≡◌, ℕ, ◌+◌, ◌-◌, ◌<◌, ◌≤◌, Bool, true, false, List, [], ◌∷◌, ◌++◌, length, drop, None, refl, sym, ap, ◌∙◌, arith, length-append}
use Rattle.std.specs.Prelude.{All}
use Rattle.std.specs.List.{flat_map}
use Rattle.std.specs.Int.{w16, to_be_bytes, from_be_bytes}
use Rattle.std.proofs.lemmas.Bool.{le-ltb, cond-false}
use Rattle.std.proofs.lemmas.List.{take_at, drop_at, append-nil}
use Rattle.std.proofs.lemmas.List.Elements.{All-head, All-tail}
use Rattle.std.proofs.lemmas.Nat.{from_be_bytes-to_be_bytes_2, from_be_bytes-to_be_bytes_4}
use Rattle.frame_spec.specs.Baseline.{number_at}
use Rattle.message_spec.specs.Fields.{Value, Number, Bytes, Form, OneByte, TwoBytes, FourBytes, WindowByte, ByteRow, width, value_at, value_bytes, Fits}
use Rattle.message_laws.proofs.Forms.{length-spelled}
use Rattle.extended_spec.specs.Layouts.{Piece, AlarmRow, LongValue, Plain, PieceList, RowList, LongForm, Fixed, Rest, Pieces, Rows, piece_bytes, row_bytes, piece_size, piece_of, row_size, row_of, each_after, need_after, cut_or, fixed_width, list_need, need_of, long_values, long_contents, IsPiece, IsRow, AllLongFit}
use Rattle.extended_laws.proofs.Lists.{each_more, whole_more}

-- ---- a field of fixed width, whatever follows it

value_first : (form : Form) (v : Value) (rest : List ℕ) → Fits form v → value_at form 0 (value_bytes form v ++ rest) ≡ v
value_first OneByte (Number n) rest fits = refl
value_first TwoBytes (Number n) rest fits = ap (λ (k : ℕ). Number k) (from_be_bytes-to_be_bytes_2 n fits)
value_first FourBytes (Number n) rest fits = ap (λ (k : ℕ). Number k) (from_be_bytes-to_be_bytes_4 n fits)
value_first WindowByte (Number n) rest fits = let same : n - 1 + 1 ≡ n = omega (arith, fits.0) in ap (λ (k : ℕ). Number k) same
value_first (ByteRow k) (Bytes bytes) rest fits = ap (λ (x : List ℕ). Bytes x) (take_at bytes rest k fits.0)
value_first OneByte (Bytes bytes) rest fits = absurd fits
value_first TwoBytes (Bytes bytes) rest fits = absurd fits
value_first FourBytes (Bytes bytes) rest fits = absurd fits
value_first WindowByte (Bytes bytes) rest fits = absurd fits
value_first (ByteRow k) (Number n) rest fits = absurd fits

value_passed : (form : Form) (v : Value) (rest : List ℕ) → Fits form v → drop (width form) (value_bytes form v ++ rest) ≡ rest
value_passed form v rest fits = drop_at (value_bytes form v) rest (width form) (length-spelled form v fits)

-- ---- lists

-- what is written of a member says its size, and is read as the member
pub record IsList {A : Type 0} (size : List ℕ → ℕ) (one : List ℕ → A) (spell : A → List ℕ) (Is : A → Type 0) : Type 0 where
  pub sized : (a : A) (rest : List ℕ) → Is a → size (spell a ++ rest) ≡ length (spell a)
  pub read : (a : A) (rest : List ℕ) → Is a → one (spell a ++ rest) ≡ a
  pub some : (a : A) → Is a → 0 < length (spell a)

each_none : {A : Type 0} (size : List ℕ → ℕ) (one : List ℕ → A) → each_after size one 0 [] ≡ []
unfolding each_after
each_none size one = refl

need_none : (size : List ℕ → ℕ) (before : ℕ) → need_after size before 0 [] ≡ None
unfolding need_after
need_none size before = refl

each_back : {A : Type 0} (size : List ℕ → ℕ) (one : List ℕ → A) (spell : A → List ℕ) (Is : A → Type 0) → IsList size one spell Is → (xs : List A) → All Is xs → each_after size one 0 (flat_map spell xs) ≡ xs
each_back size one spell Is list [] all = each_none size one
each_back {A} size one spell Is list (x ∷ xs) all =
    let is : Is x = All-head Is x xs all in
    let rest : List ℕ = flat_map spell xs in
    let sized = list.sized x (flat_map spell xs) is in
    let there : 0 < length (spell x ++ flat_map spell xs) = omega (arith, length-append (spell x) (flat_map spell xs), list.some x is) in
    let some : 0 < size (spell x ++ flat_map spell xs) = omega (arith, sized, list.some x is) in
    each_more size one (spell x ++ flat_map spell xs) there some
    ∙ ap (λ (a : A). a ∷ each_after size one 0 (drop (size (spell x ++ rest)) (spell x ++ rest))) (list.read x (flat_map spell xs) is)
    ∙ ap (λ (z : List ℕ). x ∷ each_after size one 0 z) (drop_at (spell x) (flat_map spell xs) (size (spell x ++ flat_map spell xs)) (sym sized))
    ∙ ap (λ (ys : List A). x ∷ ys) (each_back size one spell Is list xs (All-tail Is x xs all))

need_back : {A : Type 0} (size : List ℕ → ℕ) (one : List ℕ → A) (spell : A → List ℕ) (Is : A → Type 0) → IsList size one spell Is → (xs : List A) (before : ℕ) → All Is xs → need_after size before 0 (flat_map spell xs) ≡ None
need_back size one spell Is list [] before all = need_none size before
need_back size one spell Is list (x ∷ xs) before all =
    let is : Is x = All-head Is x xs all in
    let sized = list.sized x (flat_map spell xs) is in
    let some : 0 < size (spell x ++ flat_map spell xs) = omega (arith, sized, list.some x is) in
    let fits : size (spell x ++ flat_map spell xs) ≤ length (spell x ++ flat_map spell xs) = omega (arith, sized, length-append (spell x) (flat_map spell xs)) in
    whole_more size before (spell x ++ flat_map spell xs) some fits
    ∙ ap (need_after size (before + size (spell x ++ flat_map spell xs)) 0) (drop_at (spell x) (flat_map spell xs) (size (spell x ++ flat_map spell xs)) (sym sized))
    ∙ need_back size one spell Is list xs (before + size (spell x ++ flat_map spell xs)) (All-tail Is x xs all)

pub length-piece_bytes : (p : Piece) → length (piece_bytes p) ≡ 8 + length p.values
unfolding piece_bytes
length-piece_bytes p = omega arith

pub length-row_bytes : (r : AlarmRow) → length (row_bytes r) ≡ 4 + length r.bitmap
unfolding row_bytes
length-row_bytes r = omega arith

size_of_width : (bytes : List ℕ) (n : ℕ) → 2 ≤ length bytes → number_at 0 bytes ≡ n → piece_size bytes ≡ 8 + n
unfolding piece_size
size_of_width bytes n there is = cond-false _ _ _ (le-ltb (length bytes) 2 there) ∙ ap (λ (k : ℕ). 8 + k) is

width_of_piece : (p : Piece) (rest : List ℕ) → IsPiece p → number_at 0 (piece_bytes p ++ rest) ≡ length p.values
unfolding piece_bytes number_at
width_of_piece p rest is = from_be_bytes-to_be_bytes_2 (length p.values) is.width

same_piece : (class instance mask : ℕ) (values : List ℕ) (p : Piece) → class ≡ p.entity.class → instance ≡ p.entity.instance → mask ≡ p.mask → values ≡ p.values →
    record { entity = record { class = class; instance = instance }; mask = mask; values = values } ≡ p
same_piece class instance mask values p e1 e2 e3 e4 =
    let piece : ℕ → ℕ → ℕ → List ℕ → Piece = λ c i m v. record { entity = record { class = c; instance = i }; mask = m; values = v } in
    ap (λ (c : ℕ). piece c instance mask values) e1 ∙ ap (λ (i : ℕ). piece p.entity.class i mask values) e2
    ∙ ap (λ (m : ℕ). piece p.entity.class p.entity.instance m values) e3 ∙ ap (λ (v : List ℕ). piece p.entity.class p.entity.instance p.mask v) e4

piece_read : (p : Piece) (rest : List ℕ) → IsPiece p → piece_of (piece_bytes p ++ rest) ≡ p
unfolding piece_bytes piece_of number_at
piece_read p rest is =
    same_piece _ _ _ _ p (from_be_bytes-to_be_bytes_2 p.entity.class is.class) (from_be_bytes-to_be_bytes_2 p.entity.instance is.instance) (from_be_bytes-to_be_bytes_2 p.mask is.mask)
    (take_at p.values rest (from_be_bytes w16 (to_be_bytes w16 (length p.values))) (sym (from_be_bytes-to_be_bytes_2 (length p.values) is.width)))

pub pieces_are_list : IsList piece_size piece_of piece_bytes IsPiece
pieces_are_list = record {
  sized = λ p rest is.
      size_of_width (piece_bytes p ++ rest) (length p.values) (omega (arith, length-append (piece_bytes p) rest, length-piece_bytes p)) (width_of_piece p rest is)
      ∙ sym (length-piece_bytes p);
  read = piece_read;
  some = λ p is. omega (arith, length-piece_bytes p);
}

same_row : (class instance : ℕ) (bitmap : List ℕ) (r : AlarmRow) → class ≡ r.entity.class → instance ≡ r.entity.instance → bitmap ≡ r.bitmap →
    record { entity = record { class = class; instance = instance }; bitmap = bitmap } ≡ r
same_row class instance bitmap r e1 e2 e3 =
    let alarms : ℕ → ℕ → List ℕ → AlarmRow = λ c i b. record { entity = record { class = c; instance = i }; bitmap = b } in
    ap (λ (c : ℕ). alarms c instance bitmap) e1 ∙ ap (λ (i : ℕ). alarms r.entity.class i bitmap) e2 ∙ ap (λ (b : List ℕ). alarms r.entity.class r.entity.instance b) e3

row_read : (r : AlarmRow) (rest : List ℕ) → IsRow r → row_of (row_bytes r ++ rest) ≡ r
unfolding row_bytes row_of number_at
row_read r rest is =
    same_row _ _ _ r (from_be_bytes-to_be_bytes_2 r.entity.class is.class) (from_be_bytes-to_be_bytes_2 r.entity.instance is.instance) (take_at r.bitmap rest 28 is.len)

pub rows_are_list : IsList row_size row_of row_bytes IsRow
rows_are_list = record {
  sized = λ r rest is. omega (arith, length-row_bytes r, is.len);
  read = row_read;
  some = λ r is. omega (arith, length-row_bytes r);
}

-- ---- all fields

-- what takes the rest, and a list, stand last
abbrev pub ends_well : List LongForm → Bool
ends_well [] = true
ends_well (Fixed form ∷ forms) = ends_well forms
ends_well (Rest ∷ []) = true
ends_well (Rest ∷ form ∷ forms) = false
ends_well (Pieces ∷ []) = true
ends_well (Pieces ∷ form ∷ forms) = false
ends_well (Rows ∷ []) = true
ends_well (Rows ∷ form ∷ forms) = false

-- what is written into the fields is read from them
pub values_back : (forms : List LongForm) (values : List LongValue) → ends_well forms ≡ true → AllLongFit forms values → long_values forms (long_contents forms values) ≡ values
values_back [] [] well fit = refl
values_back [] (v ∷ values) well fit = absurd fit
values_back (form ∷ forms) [] well fit = absurd fit
values_back (Fixed form ∷ forms) (Plain v ∷ values) well fit =
    ap (λ (x : Value). Plain x ∷ long_values forms (drop (width form) (value_bytes form v ++ long_contents forms values))) (value_first form v (long_contents forms values) fit.0)
    ∙ ap (λ (z : List ℕ). Plain v ∷ long_values forms z) (value_passed form v (long_contents forms values) fit.0)
    ∙ ap (λ (xs : List LongValue). Plain v ∷ xs) (values_back forms values well fit.1)
values_back (Fixed form ∷ forms) (PieceList pieces ∷ values) well fit = absurd fit.0
values_back (Fixed form ∷ forms) (RowList rows ∷ values) well fit = absurd fit.0
values_back (Rest ∷ []) (Plain (Bytes bytes) ∷ []) well fit = ap (λ (x : List ℕ). Plain (Bytes x) ∷ []) (append-nil bytes)
values_back (Rest ∷ []) (Plain (Bytes bytes) ∷ v ∷ values) well fit = absurd fit.1
values_back (Rest ∷ []) (Plain (Number n) ∷ values) well fit = absurd fit.0
values_back (Rest ∷ []) (PieceList pieces ∷ values) well fit = absurd fit.0
values_back (Rest ∷ []) (RowList rows ∷ values) well fit = absurd fit.0
values_back (Rest ∷ form ∷ forms) (v ∷ values) well fit = absurd cc
values_back (Pieces ∷ []) (PieceList pieces ∷ []) well fit =
    ap (λ (x : List ℕ). PieceList (each_after piece_size piece_of 0 x) ∷ []) (append-nil (flat_map piece_bytes pieces))
    ∙ ap (λ (xs : List Piece). PieceList xs ∷ []) (each_back piece_size piece_of piece_bytes IsPiece pieces_are_list pieces fit.0)
values_back (Pieces ∷ []) (PieceList pieces ∷ v ∷ values) well fit = absurd fit.1
values_back (Pieces ∷ []) (Plain v ∷ values) well fit = absurd fit.0
values_back (Pieces ∷ []) (RowList rows ∷ values) well fit = absurd fit.0
values_back (Pieces ∷ form ∷ forms) (v ∷ values) well fit = absurd cc
values_back (Rows ∷ []) (RowList rows ∷ []) well fit =
    ap (λ (x : List ℕ). RowList (each_after row_size row_of 0 x) ∷ []) (append-nil (flat_map row_bytes rows))
    ∙ ap (λ (xs : List AlarmRow). RowList xs ∷ []) (each_back row_size row_of row_bytes IsRow rows_are_list rows fit.0)
values_back (Rows ∷ []) (RowList rows ∷ v ∷ values) well fit = absurd fit.1
values_back (Rows ∷ []) (Plain v ∷ values) well fit = absurd fit.0
values_back (Rows ∷ []) (PieceList pieces ∷ values) well fit = absurd fit.0
values_back (Rows ∷ form ∷ forms) (v ∷ values) well fit = absurd cc

-- the fields of fixed width are there
fixed_there : (forms : List LongForm) (values : List LongValue) → ends_well forms ≡ true → AllLongFit forms values → fixed_width forms ≤ length (long_contents forms values)
fixed_there [] values well fit = omega arith
fixed_there (form ∷ forms) [] well fit = absurd fit
fixed_there (Fixed form ∷ forms) (Plain v ∷ values) well fit =
    omega (arith, length-append (value_bytes form v) (long_contents forms values), length-spelled form v fit.0, fixed_there forms values well fit.1)
fixed_there (Fixed form ∷ forms) (PieceList pieces ∷ values) well fit = absurd fit.0
fixed_there (Fixed form ∷ forms) (RowList rows ∷ values) well fit = absurd fit.0
fixed_there (Rest ∷ []) (v ∷ values) well fit = omega arith
fixed_there (Rest ∷ form ∷ forms) (v ∷ values) well fit = absurd cc
fixed_there (Pieces ∷ []) (v ∷ values) well fit = omega arith
fixed_there (Pieces ∷ form ∷ forms) (v ∷ values) well fit = absurd cc
fixed_there (Rows ∷ []) (v ∷ values) well fit = omega arith
fixed_there (Rows ∷ form ∷ forms) (v ∷ values) well fit = absurd cc

-- no list is cut
list_there : (forms : List LongForm) (values : List LongValue) (before : ℕ) → ends_well forms ≡ true → AllLongFit forms values → list_need forms before (long_contents forms values) ≡ None
list_there [] values before well fit = refl
list_there (form ∷ forms) [] before well fit = absurd fit
list_there (Fixed form ∷ forms) (Plain v ∷ values) before well fit =
    ap (list_need forms (before + width form)) (value_passed form v (long_contents forms values) fit.0)
    ∙ list_there forms values (before + width form) well fit.1
list_there (Fixed form ∷ forms) (PieceList pieces ∷ values) before well fit = absurd fit.0
list_there (Fixed form ∷ forms) (RowList rows ∷ values) before well fit = absurd fit.0
list_there (Rest ∷ forms) (v ∷ values) before well fit = refl
list_there (Pieces ∷ []) (PieceList pieces ∷ []) before well fit =
    ap (need_after piece_size before 0) (append-nil (flat_map piece_bytes pieces))
    ∙ need_back piece_size piece_of piece_bytes IsPiece pieces_are_list pieces before fit.0
list_there (Pieces ∷ []) (PieceList pieces ∷ v ∷ values) before well fit = absurd fit.1
list_there (Pieces ∷ []) (Plain v ∷ values) before well fit = absurd fit.0
list_there (Pieces ∷ []) (RowList rows ∷ values) before well fit = absurd fit.0
list_there (Pieces ∷ form ∷ forms) (v ∷ values) before well fit = absurd cc
list_there (Rows ∷ []) (RowList rows ∷ []) before well fit =
    ap (need_after row_size before 0) (append-nil (flat_map row_bytes rows))
    ∙ need_back row_size row_of row_bytes IsRow rows_are_list rows before fit.0
list_there (Rows ∷ []) (RowList rows ∷ v ∷ values) before well fit = absurd fit.1
list_there (Rows ∷ []) (Plain v ∷ values) before well fit = absurd fit.0
list_there (Rows ∷ []) (PieceList pieces ∷ values) before well fit = absurd fit.0
list_there (Rows ∷ form ∷ forms) (v ∷ values) before well fit = absurd cc

pub need_there : (forms : List LongForm) (values : List LongValue) → ends_well forms ≡ true → AllLongFit forms values → need_of forms (long_contents forms values) ≡ None
unfolding need_of
need_there forms values well fit =
    ap (λ (b : Bool). cut_or b (fixed_width forms) (list_need forms 0 (long_contents forms values))) (le-ltb (length (long_contents forms values)) (fixed_width forms) (fixed_there forms values well fit))
    ∙ list_there forms values 0 well fit
