-- Rows that are gathered in ascending order.
use Rattle.std.proofs.Common.{◌≡◌, ℕ, zero, suc, Bool, true, false, cond, List, [], ◌∷◌, ◌++◌, take, replicate, Option, Some, None, is_some, option_map, refl, sym, ap, subst, ◌∙◌, append_assoc}
use Rattle.std.specs.Prelude.{slice_get, bytes_eq, IfSome, drop}
use Rattle.std.specs.Int.{from_be_bytes, to_be_bytes, w16}
use Rattle.std.specs.Ordering.{is_eq, match_ordering}
use Rattle.std.specs.declared.cmp.Ordering.TheVariants.{Less, Greater}
use Rattle.std.specs.Map.{lookup}
use Rattle.std.specs.BTreeMap.{insert_entry, is_at}
use Rattle.std.proofs.lemmas.Bool.{false_from_ne_true, false≢true}
use Rattle.std.proofs.lemmas.Slice.Eq.{bytes_eq-Decides}
use Rattle.std.proofs.lemmas.Nat.{from_be_bytes-to_be_bytes_2}
use Rattle.std.proofs.lemmas.List.{append-nil}
use Rattle.omci_types.specs.declared.EntityId.{EntityId}
use Rattle.mib_spec.specs.Database.{entity, entity_cmp}
use Rattle.alarm_spec.specs.declared.TheConstants.{ROW_BYTES}
use Rattle.alarm_spec.specs.declared.BadRow.{BadRow}
use Rattle.alarm_spec.specs.declared.BadRow.TheVariants.{Empty, Repeated}
use Rattle.alarm_spec.specs.Alarms.{Alarm, Alarms, clear_bitmap, bitmap_found, with_alarm, row_of, rows_of, row_at, entity_in, bitmap_in, ComesBefore, IsAscending, IsRaised, AreRaised, IsWhole}
use Rattle.alarm_spec.specs.Table.{Table, begun, gathered, first_bad, row_fault, with_row, unless_bad, after_row}
use Rattle.alarm_laws.specs.Steps.{after_rows, AreGood}
use Rattle.alarm_laws.proofs.Maps.{turned}

-- each of these comes before the entity
abbrev pub Under : Alarms → EntityId → Type 0
Under [] one = Unit {0}
Under (other ∷ rest) one = (entity_cmp one other.0 ≡ Greater) × Under rest one

abbrev pub AllUnder : Alarms → Alarms → Type 0
AllUnder front [] = Unit {0}
AllUnder front (one ∷ rest) = Under front one.0 × AllUnder front rest

insert_end : (front : Alarms) (one : EntityId) (bitmap : List ℕ) → Under front one → insert_entry entity_cmp front one bitmap ≡ front ++ (one, bitmap) ∷ []
insert_end [] one bitmap h = refl
insert_end (other ∷ rest) one bitmap h =
    ap (λ r. match_ordering r ((one, bitmap) ∷ other ∷ rest) ((other.0, bitmap) ∷ rest) (other ∷ insert_entry entity_cmp rest one bitmap)) h.0
    ∙ ap (λ (es : Alarms). other ∷ es) (insert_end rest one bitmap h.1)

find_none : (front : Alarms) (one : EntityId) → Under front one → lookup (is_at (entity_cmp one)) front ≡ None
find_none [] one h = refl
find_none (other ∷ rest) one h = ap (λ r. cond (is_eq r) (Some other.1) (lookup (is_at (entity_cmp one)) rest)) h.0 ∙ find_none rest one h.1

-- what a row says
same_entity : (a : EntityId) (class instance : ℕ) → class ≡ a.class → instance ≡ a.instance → entity class instance ≡ a
same_entity a class instance c i = ap (λ n. entity n instance) c ∙ ap (λ n. entity a.class n) i

pub row_entity : (one : Alarm) → IsRaised one → entity_in (row_of one) ≡ one.0
unfolding row_of
row_entity one is = same_entity one.0 (from_be_bytes w16 (to_be_bytes w16 one.0.class)) (from_be_bytes w16 (to_be_bytes w16 one.0.instance)) (from_be_bytes-to_be_bytes_2 one.0.class is.class) (from_be_bytes-to_be_bytes_2 one.0.instance is.instance)

pub row_bitmap : (one : Alarm) → bitmap_in (row_of one) ≡ one.1
unfolding row_of
row_bitmap one = refl

-- a row with an alarm isn't empty
not_empty : (one : Alarm) → IsRaised one → bytes_eq (row_of one) (replicate ROW_BYTES 0) ≡ false
not_empty one is = false_from_ne_true _ (λ e.
    false≢true (sym is.raised ∙ (bytes_eq-Decides one.1 clear_bitmap).1 (sym (row_bitmap one) ∙ ap (drop 4) ((bytes_eq-Decides (row_of one) (replicate ROW_BYTES 0)).0 e))))

first_none : (empty twice : Bool) (e : EntityId) → empty ≡ false → twice ≡ false → first_bad ((empty, Empty) ∷ (twice, Repeated e) ∷ []) ≡ None
first_none empty twice e no_empty no_twice =
    ap (λ b. cond b (Some Empty) (cond twice (Some (Repeated e)) None)) no_empty ∙ ap (λ b. cond b (Some (Repeated e)) None) no_twice

pub good_row : (front : Alarms) (one : Alarm) → IsRaised one → Under front one.0 → row_fault (row_of one) front ≡ None
unfolding row_fault bitmap_found
good_row front one is under =
    first_none (bytes_eq (row_of one) (replicate ROW_BYTES 0)) (is_some (lookup (is_at (entity_cmp (entity_in (row_of one)))) front)) (entity_in (row_of one)) (not_empty one is)
    (ap (λ (e : EntityId). is_some (lookup (is_at (entity_cmp e)) front)) (row_entity one is) ∙ ap is_some (find_none front one.0 under))

pub row_added : (front : Alarms) (one : Alarm) → IsRaised one → Under front one.0 → with_row (row_of one) front ≡ front ++ one ∷ []
unfolding with_row with_alarm
row_added front one is under =
    ap (λ (e : EntityId). insert_entry entity_cmp front e (bitmap_in (row_of one))) (row_entity one is)
    ∙ ap (λ (b : List ℕ). insert_entry entity_cmp front one.0 b) (row_bitmap one)
    ∙ insert_end front one.0 one.1 under

pub after_good : (front : Alarms) (one : Alarm) (t : Table) → IsRaised one → Under front one.0 → gathered t ≡ front → after_row (row_of one) t ≡ record t { gathering = Some (front ++ one ∷ []) }
unfolding after_row
after_good front one t is under has =
    ap (λ (g : Alarms). unless_bad (row_fault (row_of one) g) (with_row (row_of one) g) t) has
    ∙ ap (λ (o : Option BadRow). unless_bad o (with_row (row_of one) front) t) (good_row front one is under)
    ∙ ap (λ (g : Alarms). unless_bad None g t) (row_added front one is under)

under_more : (front : Alarms) (one : Alarm) (other : EntityId) → Under front other → entity_cmp one.0 other ≡ Less → Under (front ++ one ∷ []) other
under_more [] one other h less = (turned one.0 other less, tt)
under_more (e ∷ es) one other h less = (h.0, under_more es one other h.1 less)

all_under_more : (front : Alarms) (one : Alarm) (rest : Alarms) → AllUnder front rest → ComesBefore one.0 rest → AllUnder (front ++ one ∷ []) rest
all_under_more front one [] h b = tt
all_under_more front one (r ∷ rs) h b = (under_more front one r.0 h.0 b.0, all_under_more front one rs h.1 b.1)

all_under_none : (rest : Alarms) → AllUnder [] rest
all_under_none [] = tt
all_under_none (one ∷ rest) = (tt, all_under_none rest)

abbrev with_gathered : Alarms → Table → Table
with_gathered rows t = record t { gathering = Some rows }

rest_good : (rest front : Alarms) (t : Table) → IsAscending rest → AreRaised rest → AllUnder front rest → AreGood (rows_of rest) (with_gathered front t)
rest_good [] front t up raised under = tt
rest_good (one ∷ rest) front t up raised under =
    let step : after_row (row_of one) (with_gathered front t) ≡ with_gathered (front ++ one ∷ []) t = after_good front one (with_gathered front t) raised.0 under.0 refl in
    (good_row front one raised.0 under.0, subst (λ (u : Table). AreGood (rows_of rest) u) (sym step) (rest_good rest (front ++ one ∷ []) t up.1 raised.1 (all_under_more front one rest under.1 up.0)))

rest_gathered : (rest front : Alarms) (t : Table) → IsAscending rest → AreRaised rest → AllUnder front rest → after_rows (rows_of rest) (with_gathered front t) ≡ with_gathered (front ++ rest) t
rest_gathered [] front t up raised under = ap (λ (g : Alarms). with_gathered g t) (sym (append-nil front))
rest_gathered (one ∷ rest) front t up raised under =
    ap (after_rows (rows_of rest)) (after_good front one (with_gathered front t) raised.0 under.0 refl)
    ∙ rest_gathered rest (front ++ one ∷ []) t up.1 raised.1 (all_under_more front one rest under.1 up.0)
    ∙ ap (λ (g : Alarms). with_gathered g t) (append_assoc front (one ∷ []) rest)

pub all_good : (alarms : Alarms) (t : Table) → IsWhole alarms → AreGood (rows_of alarms) (begun t)
unfolding begun
all_good alarms t whole = rest_good alarms [] (record t { audited = true; last = 0; gathering = Some []; waiting = [] }) whole.ascending whole.raised (all_under_none alarms)

pub all_gathered : (alarms : Alarms) (t : Table) → IsWhole alarms → after_rows (rows_of alarms) (begun t) ≡ record (begun t) { gathering = Some alarms }
unfolding begun
all_gathered alarms t whole = rest_gathered alarms [] (record t { audited = true; last = 0; gathering = Some []; waiting = [] }) whole.ascending whole.raised (all_under_none alarms)

row_numbered : (alarms : Alarms) (number : ℕ) → option_map row_of (slice_get alarms number) ≡ slice_get (rows_of alarms) number
row_numbered [] number = refl
row_numbered (one ∷ rest) zero = refl
row_numbered (one ∷ rest) (suc number) = row_numbered rest number

pub row_at_is : (alarms : Alarms) (number : ℕ) → row_at number alarms ≡ slice_get (rows_of alarms) number
unfolding row_at
row_at_is alarms number = row_numbered alarms number

-- the row of this number is good after those before it
pub record Next (snapshot : Alarms) (read : ℕ) (one : Alarm) : Type 0 where
  pub raised : IsRaised one
  pub under : Under (take read snapshot) one.0
  pub more : take (suc read) snapshot ≡ take read snapshot ++ one ∷ []

under_cons : (e one : Alarm) (es : Alarms) → entity_cmp e.0 one.0 ≡ Less → Under es one.0 → Under (e ∷ es) one.0
under_cons e one es less h = (turned e.0 one.0 less, h)

before_at : (one : EntityId) (es : Alarms) (k : ℕ) → ComesBefore one es → IfSome (slice_get es k) (λ e. entity_cmp one e.0 ≡ Less)
before_at one [] k h = tt
before_at one (e ∷ es) zero h = h.0
before_at one (e ∷ es) (suc k) h = before_at one es k h.1

next_cons : (e : Alarm) (es : Alarms) (k : ℕ) (o : Option Alarm) → IfSome o (λ x. entity_cmp e.0 x.0 ≡ Less) → IfSome o (Next es k) → IfSome o (Next (e ∷ es) (suc k))
next_cons e es k None less later = tt
next_cons e es k (Some one) less later = record { raised = later.raised; under = under_cons e one (take k es) less later.under; more = ap (λ (l : Alarms). e ∷ l) later.more }

pub next_row : (es : Alarms) (k : ℕ) → IsAscending es → AreRaised es → IfSome (slice_get es k) (Next es k)
next_row [] k up raised = tt
next_row (e ∷ es) zero up raised = record { raised = raised.0; under = tt; more = refl }
next_row (e ∷ es) (suc k) up raised = next_cons e es k (slice_get es k) (before_at e.0 es k up.0) (next_row es k up.1 raised.1)
