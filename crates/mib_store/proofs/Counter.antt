-- The counter in the bytes of ONU data, and the values of zeros.
use Rattle.std.proofs.Common.{◌≡◌, ℕ, zero, suc, ◌-◌, ◌<◌, ◌≤◌, Bool, true, false, cond, List, [], ◌∷◌, length, take, drop, replicate, get_or, set, Some, refl, ap, ◌∙◌, arith}
use Rattle.std.specs.Option.{option_map_or}
use Rattle.std.specs.Prelude.{◌&&◌, ◌==◌, nat_le}
use Rattle.std.specs.List.{list_all}
use Rattle.std.proofs.lemmas.Bool.{false≢true}
use Rattle.std.proofs.lemmas.Bool.Decides.{nat_tests}
use Rattle.class_spec.specs.declared.TheConstants.{ONU_DATA}
use Rattle.class_spec.specs.Classes.{Row, Attribute, class_row, class_table, row_in}
use Rattle.entity_classes.specs.Rule.{whole_width}
use Rattle.mib_spec.specs.Database.{Database, Values, zeros, zeros_of, values_of, with_values, with_value, value_at, byte_of, counter, with_counter, with_counter_grown, bump}
use Rattle.mib_store.specs.Layout.{cut}
use Rattle.mib_store.specs.Entries.{values_in}

-- bytes of zeros
abbrev pub blank : ℕ → List ℕ
blank k = replicate k 0

-- the values in bytes of zeros are zeros
both : (a b : Bool) → (a && b) ≡ true → (a ≡ true) × (b ≡ true)
both true b h = (refl, h)
both false b h = absurd (false≢true h)

pub take_zeros : (k n : ℕ) → n ≤ k → take {A = ℕ} n (replicate k 0) ≡ replicate n 0
take_zeros k zero le = refl
take_zeros zero (suc n) le = absurd (omega arith)
take_zeros (suc k) (suc n) le = ap (λ xs. 0 ∷ xs) (take_zeros k n (omega arith))

pub drop_zeros : (k n : ℕ) → n ≤ k → drop {A = ℕ} n (replicate k 0) ≡ replicate (k - n) 0
drop_zeros k zero le = ap (λ m. replicate m 0) (omega arith)
drop_zeros zero (suc n) le = absurd (omega arith)
drop_zeros (suc k) (suc n) le = drop_zeros k n (omega arith) ∙ ap (λ m. replicate m 0) (omega arith)

pub cut-zeros : (attributes : List Attribute) (k : ℕ) → whole_width attributes ≤ k → cut attributes (blank k) ≡ zeros attributes
cut-zeros [] k le = refl
cut-zeros (one ∷ rest) k le =
    let head : take one.width (blank k) ≡ blank one.width = take_zeros k one.width (omega arith) in
    let tail : cut rest (drop one.width (blank k)) ≡ zeros rest =
    ap (cut rest) (drop_zeros k one.width (omega arith)) ∙ cut-zeros rest (k - one.width) (omega arith) in
    ap (λ (v : List ℕ). (one.number, v) ∷ cut rest (drop one.width (blank k))) head ∙ ap (λ (vs : Values). (one.number, blank one.width) ∷ vs) tail

abbrev fits : Row → Bool
fits row = nat_le (whole_width row.attributes) 45

table_fits : list_all fits class_table ≡ true
unfolding class_table
table_fits = refl

zeros_found : (rows : List Row) (number : ℕ) → list_all fits rows ≡ true → option_map_or (λ row. cut row.attributes (replicate 45 0)) (row_in rows number) [] ≡ option_map_or (λ row. zeros row.attributes) (row_in rows number) []
zeros_found [] number h = refl
zeros_found (one ∷ rows) number h =
    let p = both (fits one) (list_all fits rows) h in
    let le : whole_width one.attributes ≤ 45 = grind (arith, nat_tests, p.0) in
    elim (one.number == number) as (λ b. option_map_or (λ row. cut row.attributes (replicate 45 0)) (cond b (Some one) (row_in rows number)) [] ≡ option_map_or (λ row. zeros row.attributes) (cond b (Some one) (row_in rows number)) []) [
      | true ↦ cut-zeros one.attributes 45 le
      | false ↦ zeros_found rows number p.1
    ]

-- a class's values in bytes of zeros
pub zeros_in : (class : ℕ) → values_in class (replicate 45 0) ≡ zeros_of class
unfolding values_in zeros_of class_row
zeros_in class = zeros_found class_table class table_fits

-- the first byte of ONU data is the counter
pub first_byte : (bytes : List ℕ) (database : Database) → values_in 2 bytes ≡ values_of ONU_DATA database → get_or bytes 0 0 ≡ counter database
unfolding values_in class_row class_table counter
first_byte [] database h = ap (λ (vs : Values). byte_of (value_at 1 vs)) h
first_byte (x ∷ xs) database h = ap (λ (vs : Values). byte_of (value_at 1 vs)) h

-- another first byte is another counter
counted : (bytes : List ℕ) (database : Database) (count : ℕ) → 0 < length bytes → values_in 2 bytes ≡ values_of ONU_DATA database → values_in 2 (set bytes 0 count) ≡ with_value 1 (count ∷ []) (values_of ONU_DATA database)
unfolding values_in class_row class_table
counted [] database count lt h = absurd (omega arith)
counted (x ∷ xs) database count lt h = ap (λ (vs : Values). with_value 1 (count ∷ []) vs) h

pub grown_by : (bytes : List ℕ) (before after : Database) → 0 < length bytes → values_in 2 bytes ≡ values_of ONU_DATA before → after ≡ with_values ONU_DATA (values_in 2 (set bytes 0 (bump (get_or bytes 0 0)))) before → after ≡ with_counter_grown before
unfolding with_counter_grown with_counter
grown_by bytes before after lt h is =
    is ∙ ap (λ (vs : Values). with_values ONU_DATA vs before) (counted bytes before (bump (get_or bytes 0 0)) lt h)
    ∙ ap (λ n. with_values ONU_DATA (with_value 1 (bump n ∷ []) (values_of ONU_DATA before)) before) (first_byte bytes before h)
