-- What the class table says of each class: its attributes are numbered from 1 on and few, and what a
-- create sets of them fits a create.
use Rattle.std.proofs.Common.{◌≡◌, ℕ, ◌+◌, ◌<◌, ◌≤◌, ◌^◌, Bool, true, false, cond, List, [], ◌∷◌, length, Some, refl, sym, ap, subst, ◌∙◌, arith, nat_le, nat_lt, ◌&&◌, ◌==◌}
use Rattle.std.proofs.lemmas.Bool.{eqb-true, and_parts}
use Rattle.std.proofs.lemmas.Bool.Decides.{nat_tests}
use Rattle.std.proofs.lemmas.Option.{same_Some}
use Rattle.std.specs.List.{list_all}
use Rattle.class_spec.specs.Classes.{Attribute, Row, row_in, class_row, class_table}
use Rattle.class_spec.specs.Masks.{width_where}
use Rattle.upload_spec.specs.declared.TheConstants.{PIECE_ROOM}
use Rattle.upload_laws.specs.Shaped.{IsNumberedFrom}

numbered_from : ℕ → List Attribute → Bool
numbered_from number [] = true
numbered_from number (one ∷ rest) = (one.number == number) && numbered_from (number + 1) rest

narrow : List Attribute → Bool
narrow [] = true
narrow (one ∷ rest) = nat_le one.width PIECE_ROOM && narrow rest

is_fit : Row → Bool
is_fit row =
    nat_lt row.number 65536
    && (nat_le (length row.attributes) 13
    && (nat_le (width_where (λ one. one.created) row.attributes) 32
    && (narrow row.attributes
    && numbered_from 1 row.attributes)))

all_fit : list_all is_fit class_table ≡ true
unfolding class_table is_fit narrow numbered_from
all_fit = refl

is_numbered : (number : ℕ) (attributes : List Attribute) → numbered_from number attributes ≡ true
    → IsNumberedFrom number attributes
unfolding numbered_from
is_numbered number [] h = tt
is_numbered number (one ∷ rest) h =
    let p = and_parts (one.number == number) (numbered_from (number + 1) rest) h in
    (eqb-true one.number number p.0, is_numbered (number + 1) rest p.1)

-- each value goes into a piece
abbrev pub AreNarrow : List Attribute → Type 0
AreNarrow [] = Unit {0}
AreNarrow (one ∷ rest) = (one.width ≤ PIECE_ROOM) × AreNarrow rest

are_narrow : (attributes : List Attribute) → narrow attributes ≡ true → AreNarrow attributes
unfolding narrow
are_narrow [] h = tt
are_narrow (one ∷ rest) h =
    let p = and_parts (nat_le one.width PIECE_ROOM) (narrow rest) h in
    ((let t = p.0 in grind (arith, nat_tests)), are_narrow rest p.1)

-- a class of the table
pub record IsClassRow (class : ℕ) (row : Row) : Type 0 where
  pub number : row.number ≡ class
  pub small : class < 2 ^ 16
  pub few : length row.attributes ≤ 13
  pub created : width_where (λ one. one.created) row.attributes ≤ 32
  pub narrow : AreNarrow row.attributes
  pub numbered : IsNumberedFrom 1 row.attributes

fit_is : (row : Row) → is_fit row ≡ true → IsClassRow row.number row
unfolding is_fit
fit_is row h =
    let few = nat_le (length row.attributes) 13 in
    let created = nat_le (width_where (λ one. one.created) row.attributes) 32 in
    let wide = narrow row.attributes in
    let numbered = numbered_from 1 row.attributes in
    let a = and_parts (nat_lt row.number 65536) (few && (created && (wide && numbered))) h in
    let b = and_parts few (created && (wide && numbered)) a.1 in
    let c = and_parts created (wide && numbered) b.1 in
    let d = and_parts wide numbered c.1 in
    record {
      number = refl;
      small = (let t = a.0 in grind (arith, nat_tests));
      few = (let t = b.0 in grind (arith, nat_tests));
      created = (let t = c.0 in grind (arith, nat_tests));
      narrow = are_narrow row.attributes d.0;
      numbered = is_numbered 1 row.attributes d.1;
    }

row_found : (rows : List Row) (class : ℕ) (row : Row) → list_all is_fit rows ≡ true
    → row_in rows class ≡ Some row → IsClassRow class row
row_found [] class row h e = absurd (cc)
row_found (one ∷ rows) class row h e =
    let p = and_parts (is_fit one) (list_all is_fit rows) h in
    go p.0 (λ f. row_found rows class row p.1 f) (one.number == class) refl e
  where
    go : is_fit one ≡ true → (row_in rows class ≡ Some row → IsClassRow class row) → (b : Bool)
        → (one.number == class) ≡ b → cond b (Some one) (row_in rows class) ≡ Some row
        → IsClassRow class row
    go fit later true is f =
        subst (λ n. IsClassRow n row)
        (ap (λ (r : Row). r.number) (sym (same_Some one row f)) ∙ eqb-true one.number class is)
        (subst (λ r. IsClassRow r.number r) (same_Some one row f) (fit_is one fit))
    go fit later false is f = later f

pub class_is : (class : ℕ) (row : Row) → class_row class ≡ Some row → IsClassRow class row
unfolding class_row
class_is class row e = row_found class_table class row all_fit e
