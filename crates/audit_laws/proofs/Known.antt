-- The entities of a unit that may have alarms are few, whatever is asked of it: so the number of
-- rows goes into two bytes.
use Rattle.std.proofs.Common.{◌≡◌, ◌≢◌, ℕ, suc, ◌<◌, ◌≤◌, ◌^◌, Bool, true, false, cond, ◌||◌, ◌==◌, List, [], ◌∷◌, length, Option, Some, None, is_some, ◌⊎◌, inl, inr, not, Ordering, refl, sym, ap, subst, ◌∙◌, arith, nat_le}
use Rattle.std.proofs.lemmas.Bool.{false≢true, eqb-true, and_parts}
use Rattle.std.specs.declared.cmp.Ordering.TheVariants.{Less, Equal, Greater}
use Rattle.std.specs.Ordering.{is_eq, match_ordering}
use Rattle.std.specs.Cmp.{tied_itself}
use Rattle.std.specs.Option.{option_map_or}
use Rattle.std.specs.Map.{lookup, set_value, remove_entry}
use Rattle.std.specs.BTreeMap.{insert_entry, is_at}
use Rattle.omci_types.specs.declared.EntityId.{EntityId}
use Rattle.omci_types.specs.declared.Frame.{Frame}
use Rattle.omci_types.specs.declared.Software.{Software}
use Rattle.message_spec.specs.declared.Notice.{Notice}
use Rattle.message_spec.specs.declared.Request.{Request}
use Rattle.message_spec.specs.declared.Request.TheVariants as request
use Rattle.class_spec.specs.declared.TheConstants.{ONU_DATA}
use Rattle.class_spec.specs.Classes.{class_row, class_table}
use Rattle.mib_spec.specs.declared.TheConstants.{MOST_ENTITIES}
use Rattle.mib_spec.specs.declared.Sensed.{Sensed}
use Rattle.mib_spec.specs.declared.Sensed.TheVariants as sensed
use Rattle.mib_spec.specs.Database.{Database, Managed, Values, entity, entity_cmp, managed_of, is_held, with_entity, without_entity, with_values, values_of, with_value, counter, with_counter, bump, with_counter_grown, image_entity, image_values, with_software, first_with, first}
use Rattle.mib_spec.specs.Requests.{first_code, unless_refused, is_class, is_unit_made, new_entity, create_code, create_outcome, delete_code, delete_outcome, set_values, set_code, is_counter_set, set_effect, set_outcome, reset_code, reset, may_sense, is_sensed, sense_outcome}
use Rattle.mib_laws.proofs.Others.{entity_total, entity_exact}
use Rattle.alarm_spec.specs.declared.TheConstants.{BITMAP_BYTES}
use Rattle.alarm_spec.specs.Alarms.{Alarms, is_clear, with_alarm, without_alarm, unless_clear, with_bitmap, ComesBefore, IsAscending, IsWhole}
use Rattle.alarm_spec.specs.Log.{Log, unless_same, is_same, change}
use Rattle.alarm_laws.proofs.Kept.{whole_after}
use Rattle.omci_types.specs.declared.Boot.{Boot}
use Rattle.slot_spec.specs.Slots.{SlotPair}
use Rattle.store_spec.specs.declared.Handled.{Handled}
use Rattle.store_spec.specs.declared.Handled.TheVariants as handled
use Rattle.store_spec.specs.State.{store_started, software_of}
use Rattle.store_spec.specs.Deeds.{Deed}
use Rattle.store_spec.specs.Effects.{store_after, handled_by}
use Rattle.unit_spec.specs.Images.{counted_if, database_handled}
use Rattle.unit_spec.specs.Onu.{Onu, image_deed, image_handled, answer, onu_started, onu_ticked}
use Rattle.unit_spec.specs.Noticing.{Noticing, notice_unless_leaving, sensed_as, onu_sensed, has_alarms, may_alarm, told_by, alarm_if, onu_alarmed}

-- ---- entities of a list

abbrev pub In : EntityId → List EntityId → Type 0
In one [] = ⊥
In one (other ∷ rest) = (one ≡ other) ⊎ In one rest

abbrev without : (one : EntityId) (all : List EntityId) → In one all → List EntityId
without one [] h = absurd h
without one (other ∷ rest) (inl e) = rest
without one (other ∷ rest) (inr k) = other ∷ without one rest k

without_length : (one : EntityId) (all : List EntityId) (h : In one all)
    → suc (length (without one all h)) ≡ length all
without_length one [] h = absurd h
without_length one (other ∷ rest) (inl e) = refl
without_length one (other ∷ rest) (inr k) = ap suc (without_length one rest k)

still_in : (one other : EntityId) (all : List EntityId) (h : In one all) → In other all
    → other ≢ one → In other (without one all h)
still_in one other [] h k d = absurd h
still_in one other (x ∷ rest) (inl e) (inl f) d = absurd (d (f ∙ sym e))
still_in one other (x ∷ rest) (inl e) (inr k) d = k
still_in one other (x ∷ rest) (inr h) (inl f) d = inl f
still_in one other (x ∷ rest) (inr h) (inr k) d = inr (still_in one other rest h k d)

-- the entities of these alarms
abbrev pub AreIn : List EntityId → Alarms → Type 0
AreIn all [] = Unit {0}
AreIn all (one ∷ rest) = In one.0 all × AreIn all rest

differs : (one other : EntityId) → entity_cmp one other ≡ Less → other ≢ one
differs one other less = λ e.
    let same : entity_cmp one one ≡ Less = subst (λ x. entity_cmp one x ≡ Less) e less in
    let equal : is_eq (entity_cmp one one) ≡ true = ap is_eq (tied_itself entity_total one) in
    false≢true (sym (ap is_eq same) ∙ equal)

still_known : (one : EntityId) (all : List EntityId) (h : In one all) (rest : Alarms)
    → ComesBefore one rest → AreIn all rest → AreIn (without one all h) rest
still_known one all h [] b k = tt
still_known one all h (x ∷ rest) b k = (
  still_in one x.0 all h k.0 (differs one x.0 b.0),
  still_known one all h rest b.1 k.1,
)

-- there are no more of them
pub few_in : (all : List EntityId) (alarms : Alarms) → IsAscending alarms → AreIn all alarms
    → length alarms ≤ length all
few_in all [] up k = omega arith
few_in all (one ∷ rest) up k =
    let less = few_in (without one.0 all k.0) rest up.1
    (still_known one.0 all k.0 rest up.0 k.1) in
    let n = without_length one.0 all k.0 in omega (arith, less, n)

in_with : (all : List EntityId) (one : EntityId) (bitmap : List ℕ) (es : Alarms) → In one all
    → AreIn all es → AreIn all (insert_entry entity_cmp es one bitmap)
in_with all one bitmap [] new h = (new, tt)
in_with all one bitmap (e ∷ es) new h = go (entity_cmp one e.0) (in_with all one bitmap es new h.1)
  where
    go : (r : Ordering) → AreIn all (insert_entry entity_cmp es one bitmap)
        → AreIn all (match_ordering r ((one, bitmap) ∷ e ∷ es) ((e.0, bitmap) ∷ es)
        (e ∷ insert_entry entity_cmp es one bitmap))
    go Less later = (new, h)
    go Equal later = (h.0, h.1)
    go Greater later = (h.0, later)

in_without : (all : List EntityId) (one : EntityId) (es : Alarms) → AreIn all es
    → AreIn all (remove_entry (is_at (entity_cmp one)) es)
in_without all one [] h = tt
in_without all one (e ∷ es) h =
    let later : AreIn all (remove_entry (is_at (entity_cmp one)) es) = in_without all one es h.1 in
    elim (is_eq (entity_cmp one e.0)) as
    (λ b. AreIn all (cond b es (e ∷ remove_entry (is_at (entity_cmp one)) es))) [
      | true ↦ h.1
      | false ↦ (h.0, later)
    ]

in_unless : (b : Bool) (all : List EntityId) (one : EntityId) (bitmap : List ℕ) (es : Alarms)
    → In one all → AreIn all es → AreIn all (unless_clear b one bitmap es)
unfolding with_alarm without_alarm
in_unless true all one bitmap es new h = in_without all one es h
in_unless false all one bitmap es new h = in_with all one bitmap es new h

in_changed : (b : Bool) (all : List EntityId) (one : EntityId) (bitmap : List ℕ) (log : Log)
    → In one all → AreIn all log.alarms → AreIn all (unless_same b one bitmap log).log.alarms
unfolding with_bitmap
in_changed true all one bitmap log new h = h
in_changed false all one bitmap log new h =
    in_unless (is_clear bitmap) all one bitmap log.alarms new h

-- ---- those that may have alarms

-- PPTP Ethernet UNIs, the ONU-G and T-CONTs, as the unit makes them
abbrev pub known : List EntityId
known =
    entity 11 257 ∷ entity 11 258 ∷ entity 11 259 ∷ entity 11 260 ∷ entity 256 0
    ∷ entity 262 32769 ∷ entity 262 32770 ∷ []

-- no other entity of their classes is there
abbrev pub AreFixed : Database → Type 0
AreFixed [] = Unit {0}
AreFixed (e ∷ es) = (has_alarms e.0.class ≡ true → In e.0 known) × AreFixed es

held_known : (one : EntityId) (es : Database) → AreFixed es
    → is_some (lookup (is_at (entity_cmp one)) es) ≡ true → has_alarms one.class ≡ true
    → In one known
held_known one [] f h a = absurd (false≢true h)
held_known one (e ∷ es) f h a = go (entity_cmp one e.0) refl h (λ k. held_known one es f.1 k a)
  where
    go : (r : Ordering) → entity_cmp one e.0 ≡ r
        → is_some (cond (is_eq r) (Some e.1) (lookup (is_at (entity_cmp one)) es)) ≡ true
        → (is_some (lookup (is_at (entity_cmp one)) es) ≡ true → In one known) → In one known
    go Less is k later = later k
    go Equal is k later =
        let same : one ≡ e.0 = entity_exact one e.0 is in
        subst (λ x. In x known) (sym same)
        (f.0 (ap (λ (x : EntityId). has_alarms x.class) (sym same) ∙ a))
    go Greater is k later = later k

pub may_alarm_known : (one : EntityId) (db : Database) → AreFixed db → may_alarm one db ≡ true
    → In one known
unfolding may_alarm managed_of
may_alarm_known one db f h =
    let p = and_parts (has_alarms one.class) (is_held one db) h in held_known one db f p.1 p.0

-- ---- requests

fixed_insert : (one : EntityId) (managed : Managed) (es : Database)
    → (has_alarms one.class ≡ true → In one known) → AreFixed es
    → AreFixed (insert_entry entity_cmp es one managed)
fixed_insert one managed [] new f = (new, tt)
fixed_insert one managed (e ∷ es) new f =
    go (entity_cmp one e.0) (fixed_insert one managed es new f.1)
  where
    go : (r : Ordering) → AreFixed (insert_entry entity_cmp es one managed)
        → AreFixed (match_ordering r ((one, managed) ∷ e ∷ es) ((e.0, managed) ∷ es)
        (e ∷ insert_entry entity_cmp es one managed))
    go Less later = (new, f)
    go Equal later = (f.0, f.1)
    go Greater later = (f.0, later)

fixed_remove : (test : EntityId → Bool) (es : Database) → AreFixed es
    → AreFixed (remove_entry test es)
fixed_remove test [] f = tt
fixed_remove test (e ∷ es) f =
    let later : AreFixed (remove_entry test es) = fixed_remove test es f.1 in
    elim (test e.0) as (λ b. AreFixed (cond b es (e ∷ remove_entry test es))) [
      | true ↦ f.1
      | false ↦ (f.0, later)
    ]

fixed_set : (test : EntityId → Bool) (managed : Managed) (es : Database) → AreFixed es
    → AreFixed (set_value test es managed)
fixed_set test managed [] f = tt
fixed_set test managed (e ∷ es) f =
    let later : AreFixed (set_value test es managed) = fixed_set test managed es f.1 in
    elim (test e.0) as
    (λ b. AreFixed (cond b ((e.0, managed) ∷ es) (e ∷ set_value test es managed))) [
      | true ↦ (f.0, f.1)
      | false ↦ (f.0, later)
    ]

fixed_values : (one : EntityId) (values : Values) (db : Database) → AreFixed db
    → AreFixed (with_values one values db)
unfolding with_values
fixed_values one values db f = go (managed_of one db)
  where
    go : (o : Option Managed)
        → AreFixed (option_map_or (λ (managed : Managed). set_value (is_at (entity_cmp one)) db
        (record managed { values = values })) o db)
    go None = f
    go (Some managed) = fixed_set (is_at (entity_cmp one)) (record managed { values = values }) db f

fixed_grown : (db : Database) → AreFixed db → AreFixed (with_counter_grown db)
unfolding with_counter_grown with_counter
fixed_grown db f =
    fixed_values ONU_DATA (with_value 1 (bump (counter db) ∷ []) (values_of ONU_DATA db)) db f

fixed_unless : (code : ℕ) (after before : Database) → (code ≡ 0 → AreFixed after)
    → AreFixed before → AreFixed (unless_refused code after before)
fixed_unless code after before done f = go (code == 0) refl
  where
    go : (b : Bool) → (code == 0) ≡ b → AreFixed (cond b after before)
    go true is = done (eqb-true code 0 is)
    go false is = f

-- a manager makes none of them
made_if : (unknown unit there full : Bool)
    → first_code ((unknown, 4) ∷ (unit, 2) ∷ (there, 7) ∷ (full, 1) ∷ []) ≡ 0 → unit ≡ false
made_if true unit there full h = absurd (omega (arith, h))
made_if false true there full h = absurd (omega (arith, h))
made_if false false true full h = absurd (omega (arith, h))
made_if false false false true h = absurd (omega (arith, h))
made_if false false false false h = refl

made_by_unit : (class : ℕ) → has_alarms class ≡ true → is_unit_made class ≡ true
unfolding class_row class_table
made_by_unit class h = go (class == 11) (class == 256) (class == 262) refl refl refl h
  where
    go : (a b c : Bool) → (class == 11) ≡ a → (class == 256) ≡ b → (class == 262) ≡ c
        → ((a || b) || c) ≡ true → is_unit_made class ≡ true
    go true b c e f g k = subst (λ x. is_unit_made x ≡ true) (sym (eqb-true class 11 e)) refl
    go false true c e f g k = subst (λ x. is_unit_made x ≡ true) (sym (eqb-true class 256 f)) refl
    go false false true e f g k =
        subst (λ x. is_unit_made x ≡ true) (sym (eqb-true class 262 g)) refl
    go false false false e f g k = absurd (false≢true k)

fixed_create : (one : EntityId) (given : List ℕ) (db : Database) → AreFixed db
    → AreFixed (create_outcome one given db).1
unfolding create_outcome create_code with_entity
fixed_create one given db f = fixed_unless (create_code one db) _ db done f
  where
    done : create_code one db ≡ 0
        → AreFixed (with_counter_grown (with_entity one (new_entity one.class given) db))
    done e =
        let unit = made_if (not (is_class one.class)) (is_unit_made one.class) (is_held one db)
        (nat_le MOST_ENTITIES (length db)) e in
        fixed_grown (with_entity one (new_entity one.class given) db)
        (fixed_insert one (new_entity one.class given) db
        (λ a. absurd (false≢true (sym unit ∙ made_by_unit one.class a))) f)

fixed_delete : (one : EntityId) (db : Database) → AreFixed db → AreFixed (delete_outcome one db).1
unfolding delete_outcome without_entity
fixed_delete one db f =
    fixed_unless (delete_code one db) _ db
    (λ e. fixed_grown (without_entity one db) (fixed_remove (is_at (entity_cmp one)) db f)) f

fixed_set_outcome : (one : EntityId) (mask : ℕ) (given : List ℕ) (db : Database) → AreFixed db
    → AreFixed (set_outcome one mask given db).database
unfolding set_outcome set_effect
fixed_set_outcome one mask given db f =
    fixed_unless (set_code one mask given db) _ db (λ e. done (is_counter_set one mask)) f
  where
    after : Database
    after = with_values one (set_values mask given (values_of one db)) db

    done : (b : Bool) → AreFixed (cond b after (with_counter_grown after))
    done true = fixed_values one (set_values mask given (values_of one db)) db f
    done false = fixed_grown after (fixed_values one (set_values mask given (values_of one db)) db f)

fixed_first : (image image' : Values) → AreFixed (first_with image image')
unfolding first_with
fixed_first image image' = (
  λ e. absurd (false≢true e),
  (
    λ e. absurd (false≢true e),
    (
      λ e. absurd (false≢true e),
      (
        λ e. inl refl,
        (
          λ e. inr (inl refl),
          (
            λ e. inr (inr (inl refl)),
            (
              λ e. inr (inr (inr (inl refl))),
              (
                λ e. inr (inr (inr (inr (inl refl)))),
                (
                  λ e. absurd (false≢true e),
                  (
                    λ e. inr (inr (inr (inr (inr (inl refl))))),
                    (
                      λ e. inr (inr (inr (inr (inr (inr (inl refl)))))),
                      tt,
                    ),
                  ),
                ),
              ),
            ),
          ),
        ),
      ),
    ),
  ),
)

fixed_reset : (code : ℕ) (db : Database) → AreFixed db
    → AreFixed (unless_refused code (reset db) db)
unfolding reset
fixed_reset code db f = fixed_unless code (reset db) db (λ e. fixed_first _ _) f

fixed_sense : (one : EntityId) (number : ℕ) (value : List ℕ) (db : Database) → AreFixed db
    → AreFixed (sense_outcome one number value db).1
unfolding sense_outcome
fixed_sense one number value db f =
    go (may_sense one number value db) (is_sensed one number value db)
  where
    after : Database
    after = with_values one (with_value number value (values_of one db)) db

    go : (may same : Bool)
        → AreFixed (cond {A = Sensed × Database} (not may) (sensed.NotAllowed, db)
        (cond same (sensed.Same, db) (sensed.Changed, after))).1
    go false same = f
    go true true = f
    go true false = fixed_values one (with_value number value (values_of one db)) db f

-- ---- a unit

pub record UnitOk (u : Onu) : Type 0 where
  pub whole : IsWhole u.log.alarms
  pub known_alarms : AreIn known u.log.alarms
  pub fixed : AreFixed u.database

pub few_alarms : (u : Onu) → UnitOk u → length u.log.alarms < 2 ^ 16
few_alarms u h =
    let few = few_in known u.log.alarms h.whole.ascending h.known_alarms in omega (arith, few)

ok_with : (db : Database) (u : Onu) → UnitOk u → AreFixed db → UnitOk (record u { database = db })
ok_with db u h f = record { whole = h.whole; known_alarms = h.known_alarms; fixed = f }

fixed_software : (m : Software) (db : Database) → AreFixed db → AreFixed (with_software m db)
unfolding with_software
fixed_software m db f =
    fixed_values (image_entity 1) (image_values 1 m)
    (with_values (image_entity 0) (image_values 0 m) db)
    (fixed_values (image_entity 0) (image_values 0 m) db f)

fixed_counted : (grows : Bool) (m : Software) (db : Database) → AreFixed db
    → AreFixed (counted_if grows m db)
fixed_counted true m db f = fixed_grown (with_software m db) (fixed_software m db f)
fixed_counted false m db f = f

fixed_handled : (h : Handled) (m : Software) (db : Database) → AreFixed db
    → AreFixed (database_handled h m db)
fixed_handled (handled.Answered code grows leaves) m db f = fixed_counted grows m db f
fixed_handled handled.Held m db f = f
fixed_handled handled.Dropped m db f = f

-- a deed of the store leaves the alarms alone
pub deed_ok : (fails : Bool) (d : Deed) (slot : ℕ) (u : Onu) → UnitOk u
    → UnitOk (image_handled fails d slot u)
deed_ok fails d slot u h = record {
  whole = h.whole;
  known_alarms = h.known_alarms;
  fixed = fixed_handled (handled_by fails d) (software_of (store_after fails d u.store)) u.database
      h.fixed;
}

pub answer_ok : (f : Frame) (r : Request) (u : Onu) → UnitOk u → UnitOk (answer false f r u).unit
unfolding answer
answer_ok f (request.Create values) u h =
    ok_with _ u h (fixed_create f.entity values u.database h.fixed)
answer_ok f request.Delete u h = ok_with _ u h (fixed_delete f.entity u.database h.fixed)
answer_ok f (request.Set mask values) u h =
    ok_with _ u h (fixed_set_outcome f.entity mask values u.database h.fixed)
answer_ok f (request.Get mask) u h = h
answer_ok f request.Reset u h =
    ok_with _ u h (fixed_reset (reset_code f.entity) u.database h.fixed)
answer_ok f (request.Alarms mode) u h =
    record { whole = h.whole; known_alarms = h.known_alarms; fixed = h.fixed }
answer_ok f (request.AlarmsNext number) u h =
    record { whole = h.whole; known_alarms = h.known_alarms; fixed = h.fixed }
answer_ok f request.Upload u h =
    record { whole = h.whole; known_alarms = h.known_alarms; fixed = h.fixed }
answer_ok f (request.UploadNext number) u h =
    record { whole = h.whole; known_alarms = h.known_alarms; fixed = h.fixed }
answer_ok f (request.Start window size targets target) u h =
    deed_ok false (image_deed f (request.Start window size targets target) u) f.entity.instance u h
answer_ok f (request.Section number bytes last) u h =
    deed_ok false (image_deed f (request.Section number bytes last) u) f.entity.instance u h
answer_ok f (request.End crc size targets target) u h =
    deed_ok false (image_deed f (request.End crc size targets target) u) f.entity.instance u h
answer_ok f (request.Activate flags) u h =
    deed_ok false (image_deed f (request.Activate flags) u) f.entity.instance u h
answer_ok f request.Commit u h =
    deed_ok false (image_deed f request.Commit u) f.entity.instance u h
answer_ok f (request.Reboot flags) u h =
    record { whole = h.whole; known_alarms = h.known_alarms; fixed = h.fixed }

pub started_ok : (boot : Boot) (room : ℕ) (slots : SlotPair) → UnitOk (onu_started boot room slots)
unfolding onu_started first
started_ok boot room slots =
    let m = software_of (store_started boot slots) in
    record {
      whole = record { ascending = tt; raised = tt };
      known_alarms = tt;
      fixed = fixed_first (image_values 0 m) (image_values 1 m);
    }

pub ticked_ok : (u : Onu) → UnitOk u → UnitOk (onu_ticked u)
unfolding onu_ticked
ticked_ok u h = record { whole = h.whole; known_alarms = h.known_alarms; fixed = h.fixed }

-- a unit that leaves notices nothing
unless_ok : (leaving : Option Boot) (n : Noticing) (u : Onu) → UnitOk n.unit → UnitOk u
    → UnitOk (notice_unless_leaving leaving n u).unit
unless_ok None n u h k = h
unless_ok (Some boot) n u h k = k

sensed_by : (o : Sensed) (one : EntityId) (number : ℕ) (value : List ℕ) (db : Database) (u : Onu)
    → AreFixed db → UnitOk u → UnitOk (sensed_as o one number value db u).unit
sensed_by sensed.NotAllowed one number value db u f h = h
sensed_by sensed.Same one number value db u f h = h
sensed_by sensed.Changed one number value db u f h = ok_with db u h f

pub sensed_ok : (one : EntityId) (number : ℕ) (value : List ℕ) (u : Onu) → UnitOk u
    → UnitOk (onu_sensed one number value u).unit
unfolding onu_sensed
sensed_ok one number value u h =
    let o = sense_outcome one number value u.database in
    unless_ok u.leaving _ u
    (sensed_by o.0 one number value o.1 u (fixed_sense one number value u.database h.fixed) h) h

told_ok : (o : Option Notice) (one : EntityId) (u : Onu) → UnitOk u → UnitOk (told_by o one u).unit
told_ok None one u h = h
told_ok (Some notice) one u h = h

-- the entity's numbers are of two bytes, and its bitmap has all of its bytes
pub record IsAlarmed (one : EntityId) (bitmap : List ℕ) : Type 0 where
  pub class : one.class < 2 ^ 16
  pub instance : one.instance < 2 ^ 16
  pub bytes : length bitmap ≡ BITMAP_BYTES

alarmed_by : (b : Bool) (one : EntityId) (bitmap : List ℕ) (u : Onu)
    → may_alarm one u.database ≡ b → IsAlarmed one bitmap → UnitOk u
    → UnitOk (alarm_if b one bitmap u).unit
unfolding change
alarmed_by false one bitmap u e a h = h
alarmed_by true one bitmap u e a h =
    told_ok (change one bitmap u.log).notice one (record u { log = (change one bitmap u.log).log })
    (record {
      whole = whole_after one bitmap u.log a.class a.instance a.bytes h.whole;
      known_alarms = in_changed (is_same one bitmap u.log) known one bitmap u.log
          (may_alarm_known one u.database h.fixed e) h.known_alarms;
      fixed = h.fixed;
    })

pub alarmed_ok : (one : EntityId) (bitmap : List ℕ) (u : Onu) → IsAlarmed one bitmap → UnitOk u
    → UnitOk (onu_alarmed one bitmap u).unit
unfolding onu_alarmed
alarmed_ok one bitmap u a h =
    unless_ok u.leaving _ u (alarmed_by (may_alarm one u.database) one bitmap u refl a h) h
