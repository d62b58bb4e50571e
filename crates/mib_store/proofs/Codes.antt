-- The codes of the requests, condition by condition.
use Rattle.std.proofs.Common.{◌≡◌, ℕ, ◌<◌, ◌≤◌, Bool, true, false, cond, List, [], ◌∷◌, length, Some, None, Option, is_some, option_map, ◌≢◌, refl, ap, ◌∙◌, arith}
use Rattle.std.specs.Prelude.{not, nat_le, nat_lt, ◌==◌, ◌&&◌}
use Rattle.std.specs.Option.{option_map_or}
use Rattle.std.proofs.lemmas.Bool.Decides.{nat_tests}
use Rattle.omci_types.specs.declared.EntityId.{EntityId}
use Rattle.class_spec.specs.Classes.{Row, Attribute, class_row, attribute_in}
use Rattle.class_spec.specs.Masks.{unknown_mask, fixed_mask, width_of}
use Rattle.entity_classes.specs.declared.classes.Attribute.{Attribute as Read}
use Rattle.entity_classes.specs.Rule.{attribute_of}
use Rattle.mib_spec.specs.Database.{is_by_unit, Database, Managed, managed_of}
use Rattle.mib_spec.specs.Requests.{first_code, is_unit_made, create_code, delete_code, set_code, get_code, may_sense}

module _ (one : EntityId) (database : Database) where
  create_by : Option Row → Option Managed → Bool → ℕ
  create_by row managed full = first_code ((not (is_some row), 4) ∷ (option_map_or (λ r. is_by_unit r.maker) row false, 2) ∷ (is_some managed, 7) ∷ (full, 1) ∷ [])

  create_tests : (unit : Bool) → Option Managed → Bool → ℕ
  create_tests unit managed full = cond unit 2 (cond (is_some managed) 7 (cond full 1 0))

  pub create_unknown : class_row one.class ≡ None → create_code one database ≡ 4
  unfolding create_code create_by
  create_unknown row = ap (λ o. create_by o (managed_of one database) (nat_le 4096 (length database))) row

  delete_by : Option Row → Option Managed → ℕ
  delete_by row managed = first_code ((not (is_some row), 4) ∷ (option_map_or (λ r. is_by_unit r.maker) row false, 2) ∷ (not (is_some managed), 5) ∷ [])

  delete_tests : (unit : Bool) → Option Managed → ℕ
  delete_tests unit managed = cond unit 2 (cond (not (is_some managed)) 5 0)

  pub delete_unknown : class_row one.class ≡ None → delete_code one database ≡ 4
  unfolding delete_code delete_by
  delete_unknown row = ap (λ o. delete_by o (managed_of one database)) row

  module _ (r : Row) (row : class_row one.class ≡ Some r) where
    create_of : create_code one database ≡ create_tests (is_by_unit r.maker) (managed_of one database) (nat_le 4096 (length database))
    unfolding create_code create_by create_tests
    create_of = ap (λ o. create_by o (managed_of one database) (nat_le 4096 (length database))) row

    pub create_unit : is_by_unit r.maker ≡ true → create_code one database ≡ 2
    unfolding create_tests
    create_unit unit = create_of ∙ ap (λ b. create_tests b (managed_of one database) (nat_le 4096 (length database))) unit

    pub create_there : is_by_unit r.maker ≡ false → (m : Managed) → managed_of one database ≡ Some m → create_code one database ≡ 7
    unfolding create_tests
    create_there unit m there =
        create_of ∙ ap (λ b. create_tests b (managed_of one database) (nat_le 4096 (length database))) unit ∙ ap (λ o. create_tests false o (nat_le 4096 (length database))) there

    pub create_full : is_by_unit r.maker ≡ false → managed_of one database ≡ None → 4096 ≤ length database → create_code one database ≡ 1
    unfolding create_tests
    create_full unit none full =
        let b : nat_le 4096 (length database) ≡ true = grind (arith, nat_tests) in
        create_of ∙ ap (λ b. create_tests b (managed_of one database) (nat_le 4096 (length database))) unit ∙ ap (λ o. create_tests false o (nat_le 4096 (length database))) none
        ∙ ap (create_tests false None) b

    pub create_done : is_by_unit r.maker ≡ false → managed_of one database ≡ None → length database < 4096 → create_code one database ≡ 0
    unfolding create_tests
    create_done unit none few =
        let b : nat_le 4096 (length database) ≡ false = grind (arith, nat_tests) in
        create_of ∙ ap (λ b. create_tests b (managed_of one database) (nat_le 4096 (length database))) unit ∙ ap (λ o. create_tests false o (nat_le 4096 (length database))) none
        ∙ ap (create_tests false None) b

    pub unit_made_by : is_unit_made one.class ≡ is_by_unit r.maker
    unit_made_by = ap (λ o. option_map_or (λ (x : Row). is_by_unit x.maker) o false) row

    delete_of : delete_code one database ≡ delete_tests (is_by_unit r.maker) (managed_of one database)
    unfolding delete_code delete_by delete_tests
    delete_of = ap (λ o. delete_by o (managed_of one database)) row

    pub delete_unit : is_by_unit r.maker ≡ true → delete_code one database ≡ 2
    unfolding delete_tests
    delete_unit unit = delete_of ∙ ap (λ b. delete_tests b (managed_of one database)) unit

    pub delete_absent : is_by_unit r.maker ≡ false → managed_of one database ≡ None → delete_code one database ≡ 5
    unfolding delete_tests
    delete_absent unit none = delete_of ∙ ap (λ b. delete_tests b (managed_of one database)) unit ∙ ap (delete_tests false) none

    pub delete_done : is_by_unit r.maker ≡ false → (m : Managed) → managed_of one database ≡ Some m → delete_code one database ≡ 0
    unfolding delete_tests
    delete_done unit m there = delete_of ∙ ap (λ b. delete_tests b (managed_of one database)) unit ∙ ap (delete_tests false) there

  -- of a class, what the row says
  pub of_row : (f : Row → ℕ → ℕ) (mask : ℕ) (r : Row) → class_row one.class ≡ Some r → option_map_or (λ x. f x mask) (class_row one.class) 0 ≡ f r mask
  of_row f mask r row = ap (λ o. option_map_or (λ (x : Row). f x mask) o 0) row

  set_by : Option Row → Option Managed → ℕ → List ℕ → ℕ
  set_by row managed mask given = first_code (
      (not (is_some row), 4) ∷ (not (is_some managed), 5)
      ∷ (not (option_map_or (λ r. unknown_mask r mask) row 0 == 0 && option_map_or (λ r. fixed_mask r mask) row 0 == 0), 9)
      ∷ (nat_lt (length given) (option_map_or (λ r. width_of r mask) row 0), 3) ∷ [])

  get_by : Option Row → Option Managed → ℕ → ℕ → ℕ
  get_by row managed room mask = first_code (
      (not (is_some row), 4) ∷ (not (is_some managed), 5)
      ∷ (nat_lt room (option_map_or (λ r. width_of r mask) row 0), 3)
      ∷ (not (option_map_or (λ r. unknown_mask r mask) row 0 == 0), 9) ∷ [])

  pub set_unknown : class_row one.class ≡ None → (mask : ℕ) (given : List ℕ) → set_code one mask given database ≡ 4
  unfolding set_code set_by
  set_unknown row mask given = ap (λ o. set_by o (managed_of one database) mask given) row

  pub get_unknown : class_row one.class ≡ None → (room mask : ℕ) → get_code room one mask database ≡ 4
  unfolding get_code get_by
  get_unknown row room mask = ap (λ o. get_by o (managed_of one database) room mask) row

  module _ (r : Row) (row : class_row one.class ≡ Some r) where
    pub set_absent : managed_of one database ≡ None → (mask : ℕ) (given : List ℕ) → set_code one mask given database ≡ 5
    unfolding set_code set_by
    set_absent none mask given = ap (λ o. set_by o (managed_of one database) mask given) row ∙ ap (λ o. set_by (Some r) o mask given) none

    pub get_absent : managed_of one database ≡ None → (room mask : ℕ) → get_code room one mask database ≡ 5
    unfolding get_code get_by
    get_absent none room mask = ap (λ o. get_by o (managed_of one database) room mask) row ∙ ap (λ o. get_by (Some r) o room mask) none

    module _ (m : Managed) (there : managed_of one database ≡ Some m) (mask : ℕ) where
      set_tests : Bool → Bool → Bool → ℕ
      set_tests no_unknown no_fixed wide = cond (not (no_unknown && no_fixed)) 9 (cond wide 3 0)

      set_of : (given : List ℕ) → set_code one mask given database ≡ set_tests (unknown_mask r mask == 0) (fixed_mask r mask == 0) (nat_lt (length given) (width_of r mask))
      unfolding set_code set_by set_tests
      set_of given = ap (λ o. set_by o (managed_of one database) mask given) row ∙ ap (λ o. set_by (Some r) o mask given) there

      pub set_attributes : (given : List ℕ) → (unknown_mask r mask == 0 && fixed_mask r mask == 0) ≡ false → set_code one mask given database ≡ 9
      unfolding set_tests
      set_attributes given some = set_of given ∙ ap (λ b. cond (not b) 9 (cond (nat_lt (length given) (width_of r mask)) 3 0)) some

      pub set_wide : (given : List ℕ) → (unknown_mask r mask == 0 && fixed_mask r mask == 0) ≡ true → length given < width_of r mask → set_code one mask given database ≡ 3
      unfolding set_tests
      set_wide given none wide =
          let b : nat_lt (length given) (width_of r mask) ≡ true = grind (arith, nat_tests) in
          set_of given ∙ ap (λ b. cond (not b) 9 (cond (nat_lt (length given) (width_of r mask)) 3 0)) none ∙ ap (λ b. cond b 3 0) b

      pub set_stores : (given : List ℕ) → (unknown_mask r mask == 0 && fixed_mask r mask == 0) ≡ true → width_of r mask ≤ length given → set_code one mask given database ≡ 0
      unfolding set_tests
      set_stores given none fits =
          let b : nat_lt (length given) (width_of r mask) ≡ false = grind (arith, nat_tests) in
          set_of given ∙ ap (λ b. cond (not b) 9 (cond (nat_lt (length given) (width_of r mask)) 3 0)) none ∙ ap (λ b. cond b 3 0) b

      get_of : (room : ℕ) → get_code room one mask database ≡ cond (nat_lt room (width_of r mask)) 3 (cond (not (unknown_mask r mask == 0)) 9 0)
      unfolding get_code get_by
      get_of room = ap (λ o. get_by o (managed_of one database) room mask) row ∙ ap (λ o. get_by (Some r) o room mask) there

      pub get_wide : (room : ℕ) → room < width_of r mask → get_code room one mask database ≡ 3
      get_wide room wide =
          let b : nat_lt room (width_of r mask) ≡ true = grind (arith, nat_tests) in
          get_of room ∙ ap (λ b. cond b 3 (cond (not (unknown_mask r mask == 0)) 9 0)) b

      pub get_answers : (room : ℕ) → width_of r mask ≤ room → (none : Bool) → (unknown_mask r mask == 0) ≡ none → get_code room one mask database ≡ cond none 0 9
      get_answers room fits none is =
          let b : nat_lt room (width_of r mask) ≡ false = grind (arith, nat_tests) in
          get_of room ∙ ap (λ b. cond b 3 (cond (not (unknown_mask r mask == 0)) 9 0)) b ∙ ap (λ b. cond (not b) 9 0) is ∙ turned none
        where
          turned : (b : Bool) → ◌≡◌ {A = ℕ} (cond (not b) 9 0) (cond b 0 9)
          turned true = refl
          turned false = refl

-- a measured value
attribute_none : (o : Option Attribute) → None ≡ option_map attribute_of o → o ≡ None
attribute_none None e = refl
attribute_none (Some one) e = absurd cc

pub record Found (o : Option Attribute) (read : Read) : Type 0 where
  pub one : Attribute
  pub is : read ≡ attribute_of one
  pub found : o ≡ Some one

pub attribute_found : (o : Option Attribute) (read : Read) → Some read ≡ option_map attribute_of o → Found o read
attribute_found None read e = absurd cc
attribute_found (Some one) read e = record { one = one; is = cc; found = refl }

all_of : Bool → Bool → Bool → Bool → Bool
all_of managed_of two seven fits = managed_of && not two && not seven && fits

off_two : (h s f : Bool) → all_of h true s f ≡ false
unfolding all_of
off_two true s f = refl
off_two false s f = refl

off_seven : (h t f : Bool) → all_of h t true f ≡ false
unfolding all_of
off_seven true true f = refl
off_seven true false f = refl
off_seven false t f = refl

off_fits : (h t s : Bool) → all_of h t s false ≡ false
unfolding all_of
off_fits true true s = refl
off_fits true false true = refl
off_fits true false false = refl
off_fits false t s = refl

module _ (one : EntityId) (number : ℕ) (value : List ℕ) (database : Database) where
  fits_in : Option Attribute → Bool
  fits_in o = option_map_or (λ attribute. not attribute.written && attribute.width == length value) o false

  fits_by : Option Row → Bool
  fits_by o = option_map_or (λ row. option_map_or (λ attribute. not attribute.written && attribute.width == length value) (attribute_in row.attributes number) false) o false

  pub sense_two : one.class ≡ 2 → may_sense one number value database ≡ false
  unfolding may_sense fits_by all_of
  sense_two two =
      let b : (one.class == 2) ≡ true = grind (arith, nat_tests) in
      ap (λ t. all_of (is_some (managed_of one database)) t (one.class == 7) (fits_by (class_row one.class))) b ∙ off_two (is_some (managed_of one database)) (one.class == 7) (fits_by (class_row one.class))

  pub sense_seven : one.class ≡ 7 → may_sense one number value database ≡ false
  unfolding may_sense fits_by all_of
  sense_seven seven =
      let b : (one.class == 7) ≡ true = grind (arith, nat_tests) in
      ap (λ t. all_of (is_some (managed_of one database)) (one.class == 2) t (fits_by (class_row one.class))) b ∙ off_seven (is_some (managed_of one database)) (one.class == 2) (fits_by (class_row one.class))

  unfit : fits_by (class_row one.class) ≡ false → may_sense one number value database ≡ false
  unfolding may_sense fits_by all_of
  unfit b = ap (all_of (is_some (managed_of one database)) (one.class == 2) (one.class == 7)) b ∙ off_fits (is_some (managed_of one database)) (one.class == 2) (one.class == 7)

  pub sense_unknown : class_row one.class ≡ None → may_sense one number value database ≡ false
  unfolding fits_by
  sense_unknown none = unfit (ap fits_by none)

  pub sense_absent : managed_of one database ≡ None → may_sense one number value database ≡ false
  unfolding may_sense
  sense_absent none = ap (λ (o : Option Managed). is_some o && not (one.class == 2) && not (one.class == 7) && option_map_or (λ row. option_map_or (λ attribute. not attribute.written && attribute.width == length value) (attribute_in row.attributes number) false) (class_row one.class) false) none

  module _ (r : Row) (row : class_row one.class ≡ Some r) where
    fits_row : fits_by (class_row one.class) ≡ fits_in (attribute_in r.attributes number)
    unfolding fits_by fits_in
    fits_row = ap fits_by row

    pub sense_none : None ≡ option_map attribute_of (attribute_in r.attributes number) → may_sense one number value database ≡ false
    unfolding fits_in
    sense_none none = unfit (fits_row ∙ ap fits_in (attribute_none _ none))

    module _ (read : Read) (found : Found (attribute_in r.attributes number) read) where
      pub sense_written : found.one.written ≡ true → may_sense one number value database ≡ false
      unfolding fits_in
      sense_written written = unfit (fits_row ∙ ap fits_in found.found ∙ ap (λ b. not b && found.one.width == length value) written)

      pub sense_wide : found.one.written ≡ false → read.width ≢ length value → may_sense one number value database ≡ false
      unfolding fits_in
      sense_wide fixed differs =
          let width : read.width ≡ found.one.width = ap (λ (a : Read). a.width) found.is in
          let b : (found.one.width == length value) ≡ false = grind (arith, nat_tests, width) in
          unfit (fits_row ∙ ap fits_in found.found ∙ ap (λ b. not b && found.one.width == length value) fixed ∙ b)

      pub sense_allowed : (m : Managed) → managed_of one database ≡ Some m → one.class ≢ 2 → one.class ≢ 7 → found.one.written ≡ false → read.width ≡ length value → may_sense one number value database ≡ true
      unfolding may_sense all_of fits_by fits_in
      sense_allowed m there two seven fixed same =
          let b2 : (one.class == 2) ≡ false = grind (arith, nat_tests) in
          let b7 : (one.class == 7) ≡ false = grind (arith, nat_tests) in
          let width : read.width ≡ found.one.width = ap (λ (a : Read). a.width) found.is in
          let bw : (found.one.width == length value) ≡ true = grind (arith, nat_tests, width) in
          ap (λ (o : Option Managed). all_of (is_some o) (one.class == 2) (one.class == 7) (fits_by (class_row one.class))) there
          ∙ ap (λ b. all_of true b (one.class == 7) (fits_by (class_row one.class))) b2 ∙ ap (λ b. all_of true false b (fits_by (class_row one.class))) b7
          ∙ ap (all_of true false false) (fits_row ∙ ap fits_in found.found ∙ ap (λ b. not b && found.one.width == length value) fixed ∙ bw)
