-- Alarms are of seven entities.
use Rattle.std.proofs.Common.{◌≡◌, ℕ, ◌≤◌, Bool, true, false, cond, List, [], ◌∷◌, length, Ordering, refl, sym, ap, subst, ◌∙◌, arith}
use Rattle.std.specs.Prelude.{◌==◌, ◌||◌, ◌&&◌}
use Rattle.std.proofs.lemmas.Bool.Decides.{nat_tests}
use Rattle.std.specs.List.{filter}
use Rattle.std.specs.declared.cmp.Ordering.TheVariants.{Less, Equal, Greater}
use Rattle.std.specs.Ordering.{is_eq, match_ordering}
use Rattle.std.specs.Map.{remove_entry}
use Rattle.std.specs.BTreeMap.{insert_entry, is_at}
use Rattle.std.proofs.lemmas.Bool.{false≢true}
use Rattle.omci_types.specs.declared.EntityId.{EntityId}
use Rattle.class_spec.specs.Classes.{class_row, class_table}
use Rattle.mib_spec.specs.Database.{Database, entity_cmp, is_held, unit_entities}
use Rattle.mib_spec.specs.Requests.{is_unit_made}
use Rattle.mib_laws.specs.Made.{is_made, HoldsOnlyMade}
use Rattle.mib_laws.proofs.Others.{entity_total, entity_exact}
use Rattle.alarm_spec.specs.Alarms.{Alarms, is_clear, with_alarm, without_alarm, unless_clear, with_bitmap, ComesBefore, IsAscending}
use Rattle.alarm_spec.specs.Log.{Log, unless_same, is_same, change}
use Rattle.alarm_laws.proofs.Maps.{turned, ascending_with_bitmap}
use Rattle.unit_spec.specs.Noticing.{has_alarms, may_alarm}
use Rattle.unit_laws.specs.Own.{alarm_entities, is_among, may_have, AreAmong, AreOwn}

equal_says : (a b : ℕ) → (a == b) ≡ true → a ≡ b
equal_says a b h = grind (arith, nat_tests, h)

both : (a b : Bool) → (a && b) ≡ true → (a ≡ true) × (b ≡ true)
both true b h = (refl, h)
both false b h = absurd (false≢true h)

-- ---- who may have alarms

-- an entity with alarms that is among some is among those of them with alarms
with_alarms : (one : EntityId) (es : List EntityId) → has_alarms one.class ≡ true → is_among es one ≡ true → is_among (filter (λ (e : EntityId). has_alarms e.class) es) one ≡ true
with_alarms one [] has among = among
with_alarms one (e ∷ es) has among = go (entity_cmp one e) refl among (with_alarms one es has)
  where
    rest : List EntityId
    rest = filter (λ (x : EntityId). has_alarms x.class) es

    past : (r : Ordering) → is_eq r ≡ false → entity_cmp one e ≡ r → is_among rest one ≡ true → is_among (cond (has_alarms e.class) (e ∷ rest) rest) one ≡ true
    past r differ is there = elim (has_alarms e.class) as (λ b. is_among (cond b (e ∷ rest) rest) one ≡ true) [ true ↦ ap (λ b. b || is_among rest one) (ap is_eq is ∙ differ) ∙ there | false ↦ there ]

    go : (r : Ordering) → entity_cmp one e ≡ r → (is_eq (entity_cmp one e) || is_among es one) ≡ true → (is_among es one ≡ true → is_among rest one ≡ true) → is_among (cond (has_alarms e.class) (e ∷ rest) rest) one ≡ true
    go Equal is h later =
        ap (λ b. is_among (cond b (e ∷ rest) rest) one) (ap (λ (x : EntityId). has_alarms x.class) (sym (entity_exact one e is)) ∙ has)
        ∙ ap (λ r. is_eq r || is_among rest one) is
    go Less is h later = past Less refl is (later (sym (ap (λ r. is_eq r || is_among es one) is) ∙ h))
    go Greater is h later = past Greater refl is (later (sym (ap (λ r. is_eq r || is_among es one) is) ∙ h))

-- the unit makes the classes that have alarms
unit_made : (a b c : Bool) (class : ℕ) → (class == 11) ≡ a → (class == 256) ≡ b → (class == 262) ≡ c → (a || b || c) ≡ true → is_unit_made class ≡ true
unfolding class_row class_table
unit_made true b c class is _ _ h = subst (λ n. is_unit_made n ≡ true) (sym (equal_says class 11 is)) refl
unit_made false true c class _ is _ h = subst (λ n. is_unit_made n ≡ true) (sym (equal_says class 256 is)) refl
unit_made false false true class _ _ is h = subst (λ n. is_unit_made n ≡ true) (sym (equal_says class 262 is)) refl
unit_made false false false class _ _ _ h = absurd (false≢true h)

pub may_have_it : (one : EntityId) (database : Database) → HoldsOnlyMade database → may_alarm one database ≡ true → may_have one ≡ true
unfolding may_alarm may_have is_made
may_have_it one database h may =
    let parts = both (has_alarms one.class) (is_held one database) may in
    with_alarms one unit_entities parts.0 (h.only one parts.1 (unit_made (one.class == 11) (one.class == 256) (one.class == 262) one.class refl refl refl parts.0))

-- ---- a change keeps it

among_with : (es : List EntityId) (one : EntityId) (bitmap : List ℕ) (ds : Alarms) → is_among es one ≡ true → AreAmong es ds → AreAmong es (insert_entry entity_cmp ds one bitmap)
among_with es one bitmap [] new h = (new, tt)
among_with es one bitmap (a ∷ ds) new h = go (entity_cmp one a.0) (among_with es one bitmap ds new h.1)
  where
    go : (r : Ordering) → AreAmong es (insert_entry entity_cmp ds one bitmap) → AreAmong es (match_ordering r ((one, bitmap) ∷ a ∷ ds) ((a.0, bitmap) ∷ ds) (a ∷ insert_entry entity_cmp ds one bitmap))
    go Less later = (new, h)
    go Equal later = h
    go Greater later = (h.0, later)

among_without : (es : List EntityId) (one : EntityId) (ds : Alarms) → AreAmong es ds → AreAmong es (remove_entry (is_at (entity_cmp one)) ds)
among_without es one [] h = tt
among_without es one (a ∷ ds) h =
    let later : AreAmong es (remove_entry (is_at (entity_cmp one)) ds) = among_without es one ds h.1 in
    elim (is_eq (entity_cmp one a.0)) as (λ b. AreAmong es (cond b ds (a ∷ remove_entry (is_at (entity_cmp one)) ds))) [ true ↦ h.1 | false ↦ (h.0, later) ]

among_unless : (b : Bool) (es : List EntityId) (one : EntityId) (bitmap : List ℕ) (ds : Alarms) → is_among es one ≡ true → AreAmong es ds → AreAmong es (unless_clear b one bitmap ds)
unfolding with_alarm without_alarm
among_unless true es one bitmap ds new h = among_without es one ds h
among_unless false es one bitmap ds new h = among_with es one bitmap ds new h

own_by : (b : Bool) (one : EntityId) (bitmap : List ℕ) (log : Log) → may_have one ≡ true → AreOwn log.alarms → AreOwn (unless_same b one bitmap log).log.alarms
unfolding may_have with_bitmap
own_by true one bitmap log new own = own
own_by false one bitmap log new own = record {
  ascending = ascending_with_bitmap one bitmap log.alarms own.ascending;
  among = among_unless (is_clear bitmap) alarm_entities one bitmap log.alarms new own.among;
}

pub own_after : (one : EntityId) (bitmap : List ℕ) (log : Log) → may_have one ≡ true → AreOwn log.alarms → AreOwn (change one bitmap log).log.alarms
unfolding change
own_after one bitmap log new own = own_by (is_same one bitmap log) one bitmap log new own

-- ---- there are no more alarms than entities that may have some

Below : EntityId → List EntityId → Type 0
Below one [] = Unit {0}
Below one (e ∷ es) = (entity_cmp one e ≡ Less) × Below one es

Ascends : List EntityId → Type 0
Ascends [] = Unit {0}
Ascends (e ∷ es) = Below e es × Ascends es

seven_ascend : Ascends alarm_entities
unfolding Ascends Below
seven_ascend = ((refl, (refl, (refl, (refl, (refl, (refl, tt)))))), ((refl, (refl, (refl, (refl, (refl, tt))))), ((refl, (refl, (refl, (refl, tt)))), ((refl, (refl, (refl, tt))), ((refl, (refl, tt)), ((refl, tt), (tt, tt)))))))

before_all : (a b : EntityId) (ds : Alarms) → entity_cmp a b ≡ Less → ComesBefore b ds → ComesBefore a ds
before_all a b [] less h = tt
before_all a b (e ∷ ds) less h = (entity_total.trans a b e.0 less h.0, before_all a b ds less h.1)

-- who is among those after an entity comes after it
after_it : (e one : EntityId) (es : List EntityId) → Below e es → is_among es one ≡ true → entity_cmp e one ≡ Less
unfolding Below
after_it e one [] below h = absurd (false≢true h)
after_it e one (other ∷ es) below h = go (entity_cmp one other) refl (after_it e one es below.1)
  where
    go : (r : Ordering) → entity_cmp one other ≡ r → (is_among es one ≡ true → entity_cmp e one ≡ Less) → entity_cmp e one ≡ Less
    go Equal is later = ap (entity_cmp e) (entity_exact one other is) ∙ below.0
    go Less is later = later (sym (ap (λ r. is_eq r || is_among es one) is) ∙ h)
    go Greater is later = later (sym (ap (λ r. is_eq r || is_among es one) is) ∙ h)

-- alarms that come after an entity are among the others
narrow : (e : EntityId) (es : List EntityId) (ds : Alarms) → ComesBefore e ds → AreAmong (e ∷ es) ds → AreAmong es ds
narrow e es [] before h = tt
narrow e es (a ∷ ds) before h = (sym (ap (λ r. is_eq r || is_among es a.0) (turned e a.0 before.0)) ∙ h.0, narrow e es ds before.1 h.1)

fits : (es : List EntityId) → Ascends es → (ds : Alarms) → IsAscending ds → AreAmong es ds → length ds ≤ length es
unfolding Ascends
fits es up [] order h = omega arith
fits [] up (a ∷ ds) order h = absurd (false≢true h.0)
fits (e ∷ es) up (a ∷ ds) order h = go (entity_cmp a.0 e) refl (fits es up.1 ds order.1) (fits es up.1 (a ∷ ds) order)
  where
    past : (r : Ordering) → is_eq r ≡ false → entity_cmp a.0 e ≡ r → (AreAmong es (a ∷ ds) → length (a ∷ ds) ≤ length es) → length (a ∷ ds) ≤ length (e ∷ es)
    past r differ is later =
        let among : is_among es a.0 ≡ true = sym (ap (λ b. b || is_among es a.0) (ap is_eq is ∙ differ)) ∙ h.0 in
        let less = after_it e a.0 es up.0 among in
        omega (arith, later (among, narrow e es ds (before_all e a.0 ds less order.0) h.1))

    go : (r : Ordering) → entity_cmp a.0 e ≡ r → (AreAmong es ds → length ds ≤ length es) → (AreAmong es (a ∷ ds) → length (a ∷ ds) ≤ length es) → length (a ∷ ds) ≤ length (e ∷ es)
    go Equal is rest whole = omega (arith, rest (narrow e es ds (subst (λ x. ComesBefore x ds) (entity_exact a.0 e is) order.0) h.1))
    go Less is rest whole = past Less refl is whole
    go Greater is rest whole = past Greater refl is whole

pub seven_at_most : (alarms : Alarms) → AreOwn alarms → length alarms ≤ 7
seven_at_most alarms own = fits alarm_entities seven_ascend alarms own.ascending own.among
