-- The first database in bytes.
use Rattle.std.proofs.Common.{◌≡◌, ℕ, ◌+◌, ◌≤◌, Bool, true, false, cond, List, [], ◌∷◌, ◌++◌, length, take, drop, replicate, Some, None, Option, refl, sym, ap, subst, ◌∙◌, append_assoc, arith}
use Rattle.std.specs.Prelude.{◌==◌, ◌&&◌, is_some}
use Rattle.std.specs.declared.cmp.Ordering.{Ordering}
use Rattle.std.specs.declared.cmp.Ordering.TheVariants.{Less, Equal, Greater}
use Rattle.std.specs.Ordering.{is_lt}
use Rattle.std.specs.Option.{option_map_or}
use Rattle.std.proofs.lemmas.Bool.{false≢true}
use Rattle.std.proofs.lemmas.List.{take-append-drop, take_at, drop_at}
use Rattle.omci_types.specs.declared.EntityId.{EntityId}
use Rattle.omci_types.specs.declared.SlotView.{SlotView}
use Rattle.omci_types.specs.declared.Software.{Software}
use Rattle.class_spec.specs.Classes.{class_row, class_table}
use Rattle.mib_spec.specs.Database.{Database, Values, entity, entity_cmp, flag, slot, unit_entity, image_values, first_with, ethernet, onu_g, onu2_g, t_cont, zeros_of}
use Rattle.mib_spec.specs.Requests.{is_unit_made}
use Rattle.mib_store.specs.declared.entry.Entry.{Entry}
use Rattle.mib_store.specs.Entries.{values_in, maker_of, database_of, unit_made, IsBefore, IsAscending, IsTable, image_by}
use Rattle.mib_store.proofs.Counter.{blank, zeros_in}

abbrev entry : ℕ → ℕ → List ℕ → Entry
entry class instance values = record { entity = entity class instance; values = values }

-- the entities that the unit makes
abbrev pub first_keys : List EntityId
first_keys =
    entity 2 0 ∷ entity 7 0 ∷ entity 7 1 ∷ entity 11 257 ∷ entity 11 258 ∷ entity 11 259 ∷ entity 11 260 ∷ entity 256 0 ∷ entity 257 0 ∷ entity 262 32769 ∷ entity 262 32770 ∷ []

-- the order as a test
abbrev is_before : EntityId → List EntityId → Bool
is_before one [] = true
is_before one (key ∷ keys) = is_lt (entity_cmp one key) && is_before one keys

abbrev is_ascending : List EntityId → Bool
is_ascending [] = true
is_ascending (key ∷ keys) = is_before key keys && is_ascending keys

both : (a b : Bool) → (a && b) ≡ true → (a ≡ true) × (b ≡ true)
both true b h = (refl, h)
both false b h = absurd (false≢true h)

less_from_test : (r : Ordering) → is_lt r ≡ true → r ≡ Less
less_from_test Less h = refl
less_from_test Equal h = absurd (false≢true h)
less_from_test Greater h = absurd (false≢true h)

before_from_test : (one : EntityId) (keys : List EntityId) → is_before one keys ≡ true → IsBefore one keys
before_from_test one [] h = tt
before_from_test one (key ∷ keys) h =
    let p = both (is_lt (entity_cmp one key)) (is_before one keys) h in
    (less_from_test _ p.0, before_from_test one keys p.1)

ascending_from_test : (keys : List EntityId) → is_ascending keys ≡ true → IsAscending keys
ascending_from_test [] h = tt
ascending_from_test (key ∷ keys) h =
    let p = both (is_before key keys) (is_ascending keys) h in
    (before_from_test key keys p.0, ascending_from_test keys p.1)

all_made : unit_made first_keys ≡ 11
unfolding class_row class_table
all_made = refl

pub first_table : IsTable first_keys
first_table = record { ascending = ascending_from_test first_keys refl; made = all_made; few = omega arith }

-- a table has no fewer entries than the unit makes
pub unit_made_le : (keys : List EntityId) → unit_made keys ≤ length keys
unit_made_le [] = omega arith
unit_made_le (key ∷ keys) = elim (is_unit_made key.class) as (λ b. cond b 1 0 + unit_made keys ≤ length (key ∷ keys)) [ true ↦ omega (arith, unit_made_le keys) | false ↦ omega (arith, unit_made_le keys) ]

-- the eleven entries as a database
pub first_seen : (a b eth onu onu2 cont : List ℕ) → values_in 11 eth ≡ ethernet → values_in 256 onu ≡ onu_g → values_in 257 onu2 ≡ onu2_g → values_in 262 cont ≡ t_cont
    → ◌≡◌ {A = Database} (database_of (entry 2 0 (blank 45) ∷ entry 7 0 a ∷ entry 7 1 b ∷ entry 11 257 eth ∷ entry 11 258 eth ∷ entry 11 259 eth ∷ entry 11 260 eth ∷ entry 256 0 onu ∷ entry 257 0 onu2 ∷ entry 262 32769 cont ∷ entry 262 32770 cont ∷ []))
    (first_with (values_in 7 a) (values_in 7 b))
unfolding maker_of class_row class_table first_with
first_seen a b eth onu onu2 cont e o p t =
    let F : Values → Values → Values → Values → Values → Database = λ v2 ve vo vp vt.
    unit_entity 2 0 v2 ∷ unit_entity 7 0 (values_in 7 a) ∷ unit_entity 7 1 (values_in 7 b) ∷ unit_entity 11 257 ve ∷ unit_entity 11 258 ve ∷ unit_entity 11 259 ve ∷ unit_entity 11 260 ve ∷ unit_entity 256 0 vo ∷ unit_entity 257 0 vp ∷ unit_entity 262 32769 vt ∷ unit_entity 262 32770 vt ∷ [] in
    ap (λ v. F v (values_in 11 eth) (values_in 256 onu) (values_in 257 onu2) (values_in 262 cont)) (zeros_in 2)
    ∙ ap (λ v. F (zeros_of 2) v (values_in 256 onu) (values_in 257 onu2) (values_in 262 cont)) e
    ∙ ap (λ v. F (zeros_of 2) ethernet v (values_in 257 onu2) (values_in 262 cont)) o
    ∙ ap (λ v. F (zeros_of 2) ethernet onu_g v (values_in 262 cont)) p
    ∙ ap (λ v. F (zeros_of 2) ethernet onu_g onu2_g v) t

-- the values of an image from its bytes
image_cut : (version rest : List ℕ) (x y z : ℕ) → length version ≡ 14 → values_in 7 (version ++ x ∷ y ∷ z ∷ rest) ≡ (1, version) ∷ (2, x ∷ []) ∷ (3, y ∷ []) ∷ (4, z ∷ []) ∷ []
unfolding values_in class_row class_table
image_cut version rest x y z len =
    let G : List ℕ → List ℕ → Values = λ v d. (1, v) ∷ (2, take 1 d) ∷ (3, take 1 (drop 1 d)) ∷ (4, take 1 (drop 1 (drop 1 d))) ∷ [] in
    ap (λ v. G v (drop 14 (version ++ x ∷ y ∷ z ∷ rest))) (take_at version (x ∷ y ∷ z ∷ rest) 14 len) ∙ ap (G version) (drop_at version (x ∷ y ∷ z ∷ rest) 14 len)

pub image_is : (version before middle after : List ℕ) (x y z : ℕ) (committed active valid : Bool) → length version ≡ 14
    → take (0 + length version) middle ≡ take 0 before ++ version → take (14 + 3) after ≡ take 14 middle ++ x ∷ y ∷ z ∷ []
    → x ≡ cond committed 1 0 → y ≡ cond active 1 0 → z ≡ cond valid 1 0 → values_in 7 after ≡ image_by version committed active valid
image_is version before middle after x y z committed active valid len first second ex ey ez =
    let all : 0 + length version ≡ 14 = omega (arith, len) in
    let front : take 14 middle ≡ version = subst (λ n. take n middle ≡ version) all first in
    let whole : after ≡ version ++ x ∷ y ∷ z ∷ drop 17 after =
    sym (take-append-drop 17 after) ∙ ap (λ v. v ++ drop 17 after) (second ∙ ap (λ v. v ++ x ∷ y ∷ z ∷ []) front) ∙ append_assoc version (x ∷ y ∷ z ∷ []) (drop 17 after) in
    ap (values_in 7) whole ∙ image_cut version (drop 17 after) x y z len
    ∙ ap (λ n. let v : Values = (1, version) ∷ (2, n ∷ []) ∷ (3, y ∷ []) ∷ (4, z ∷ []) ∷ [] in v) ex
    ∙ ap (λ n. let v : Values = (1, version) ∷ (2, flag committed) ∷ (3, n ∷ []) ∷ (4, z ∷ []) ∷ [] in v) ey
    ∙ ap (λ n. let v : Values = (1, version) ∷ (2, flag committed) ∷ (3, flag active) ∷ (4, n ∷ []) ∷ [] in v) ez

-- an image by the slot's view
image_from : ℕ → Software → Option SlotView → Values
image_from number software view = image_by (option_map_or (λ v. v.version) view (replicate 14 0)) (software.committed == number) (software.active == number) (is_some view)

pub image_valid : (number : ℕ) (software : Software) (view : SlotView) → Some view ≡ slot number software → image_by view.version (software.committed == number) (software.active == number) true ≡ image_values number software
unfolding image_values image_from
image_valid number software view is = ap (image_from number software) is

pub image_absent : (number : ℕ) (software : Software) → None ≡ slot number software → image_by (replicate 14 0) (software.committed == number) (software.active == number) false ≡ image_values number software
unfolding image_values image_from
image_absent number software is = ap (image_from number software) is
