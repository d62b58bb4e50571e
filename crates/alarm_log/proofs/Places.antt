-- Where an entity stands, and what an edit there does to the map.
use Rattle.std.proofs.Common.{◌≡◌, ℕ, zero, suc, ◌<◌, ◌≤◌, Bool, true, false, cond, List, [], ◌∷◌, length, set, Option, Some, None, Ordering, Result, Ok, Err, IfOk, IfErr, refl, sym, ap, subst, ◌∙◌, inl, inr, arith}
use Rattle.std.specs.Prelude.{unwrap_or}
use Rattle.std.specs.List.{insert, remove}
use Rattle.std.specs.List.Sorted.{IsNonDecreasingBy, IsSearchInRange, IsBinarySearchResult}
use Rattle.std.specs.declared.cmp.Ordering.TheVariants.{Less, Equal, Greater}
use Rattle.std.specs.Ordering.{is_eq, match_ordering, ordering_index}
use Rattle.std.specs.Cmp.{tied_itself}
use Rattle.std.specs.Map.{lookup, remove_entry}
use Rattle.std.specs.BTreeMap.{insert_entry, is_at}
use Rattle.std.proofs.lemmas.List.Sorted.{IsNonDecreasingBy-from_default}
use Rattle.std.proofs.lemmas.Bool.{cases_lt}
use Rattle.omci_types.specs.declared.EntityId.{EntityId}
use Rattle.mib_spec.specs.Database.{entity_cmp}
use Rattle.mib_laws.proofs.Others.{entity_total, entity_exact}
use Rattle.alarm_spec.specs.Alarms.{Alarm, Alarms, clear_bitmap, bitmap_found, bitmap_of, with_alarm, without_alarm, ComesBefore, IsAscending}
use Rattle.alarm_laws.proofs.Maps.{turned, turned_back}
use Rattle.alarm_log.specs.Places.{no_alarm, alarm_at, IsAt, IsGap}

-- an entity before all is before the one in each place
before_at : (one : EntityId) (es : Alarms) (j : ℕ) → ComesBefore one es → j < length es → entity_cmp one (alarm_at es j).0 ≡ Less
before_at one [] j h lt = absurd (omega arith)
before_at one (e ∷ es) zero h lt = h.0
before_at one (e ∷ es) (suc j) h lt = before_at one es j h.1 (omega arith)

ascending_at : (es : Alarms) (i j : ℕ) → IsAscending es → i < j → j < length es → entity_cmp (alarm_at es i).0 (alarm_at es j).0 ≡ Less
ascending_at [] i j h lt in_range = absurd (omega arith)
ascending_at (e ∷ es) i zero h lt in_range = absurd (omega arith)
ascending_at (e ∷ es) zero (suc j) h lt in_range = before_at e.0 es j h.0 (omega arith)
ascending_at (e ∷ es) (suc i) (suc j) h lt in_range = ascending_at es i j h.1 (omega arith) (omega arith)

index_le : (r : Ordering) → ordering_index r ≤ 2
index_le Less = omega arith
index_le Equal = omega arith
index_le Greater = omega arith

rises_step : (a b q : EntityId) → entity_cmp a b ≡ Less → (r : Ordering) → entity_cmp b q ≡ r → ordering_index (entity_cmp a q) ≤ ordering_index r
rises_step a b q h Less is = omega (arith, ap ordering_index (entity_total.trans a b q h is))
rises_step a b q h Equal is =
    let same : entity_cmp q a ≡ Greater = sym (entity_total.congr b q a is) ∙ turned a b h in
    omega (arith, ap ordering_index (turned_back q a same))
rises_step a b q h Greater is = index_le (entity_cmp a q)

-- the comparisons with an entity rise, as a binary search asks
rises : (es : Alarms) (q : EntityId) → IsAscending es → IsNonDecreasingBy (λ (e : Alarm). ordering_index (entity_cmp e.0 q)) es
rises es q h = IsNonDecreasingBy-from_default (λ (e : Alarm). ordering_index (entity_cmp e.0 q)) es no_alarm (λ i j le in_range.
    elim (cases_lt i j) as (λ _. ordering_index (entity_cmp (alarm_at es i).0 q) ≤ ordering_index (entity_cmp (alarm_at es j).0 q)) [
      | inl lt ↦ rises_step (alarm_at es i).0 (alarm_at es j).0 q (ascending_at es i j h lt in_range) _ refl
      | inr ge ↦ let same : i ≡ j = omega arith in subst (λ k. ordering_index (entity_cmp (alarm_at es i).0 q) ≤ ordering_index (entity_cmp (alarm_at es k).0 q)) same (omega arith)
    ])

-- those before a place are less, those from it on greater
abbrev pub Below : Alarms → EntityId → ℕ → Type 0
Below es q at = (k : ℕ) → k < at → entity_cmp (alarm_at es k).0 q ≡ Less

abbrev pub Above : Alarms → EntityId → ℕ → Type 0
Above es q at = (k : ℕ) → at ≤ k → k < length es → entity_cmp (alarm_at es k).0 q ≡ Greater

below_tail : (e : Alarm) (es : Alarms) (q : EntityId) (at : ℕ) → Below (e ∷ es) q (suc at) → Below es q at
below_tail e es q at h k lt = h (suc k) (omega arith)

above_tail : (e : Alarm) (es : Alarms) (q : EntityId) (at : ℕ) → Above (e ∷ es) q (suc at) → Above es q at
above_tail e es q at h k le lt = h (suc k) (omega arith) (omega arith)

-- the first entity is less
passed : (e : Alarm) (es : Alarms) (q : EntityId) (at : ℕ) → Below (e ∷ es) q (suc at) → entity_cmp q e.0 ≡ Greater
passed e es q at h = turned e.0 q (h 0 (omega arith))

tied : (e : Alarm) (q : EntityId) → e.0 ≡ q → entity_cmp q e.0 ≡ Equal
tied e q h = ap (entity_cmp q) h ∙ tied_itself entity_total q

lookup_at : (es : Alarms) (at : ℕ) (q : EntityId) → at < length es → Below es q at → (alarm_at es at).0 ≡ q → lookup (is_at (entity_cmp q)) es ≡ Some (alarm_at es at).1
lookup_at [] at q lt below here = absurd (omega arith)
lookup_at (e ∷ es) zero q lt below here = ap (λ r. cond (is_eq r) (Some e.1) (lookup (is_at (entity_cmp q)) es)) (tied e q here)
lookup_at (e ∷ es) (suc at) q lt below here =
    ap (λ r. cond (is_eq r) (Some e.1) (lookup (is_at (entity_cmp q)) es)) (passed e es q at below)
    ∙ lookup_at es at q (omega arith) (below_tail e es q at below) here

lookup_none : (es : Alarms) (q : EntityId) → ((k : ℕ) → k < length es → is_eq (entity_cmp q (alarm_at es k).0) ≡ false) → lookup (is_at (entity_cmp q)) es ≡ None
lookup_none [] q h = refl
lookup_none (e ∷ es) q h = ap (λ b. cond b (Some e.1) (lookup (is_at (entity_cmp q)) es)) (h 0 (omega arith)) ∙ lookup_none es q (λ k lt. h (suc k) (omega arith))

none_in_gap : (es : Alarms) (at : ℕ) (q : EntityId) → Below es q at → Above es q at → lookup (is_at (entity_cmp q)) es ≡ None
none_in_gap es at q below above = lookup_none es q (λ k lt. elim (cases_lt k at) as (λ _. is_eq (entity_cmp q (alarm_at es k).0) ≡ false) [
  | inl less ↦ ap is_eq (turned (alarm_at es k).0 q (below k less))
  | inr more ↦ ap is_eq (turned_back (alarm_at es k).0 q (above k more lt))
])

set_at : (es : Alarms) (at : ℕ) (q : EntityId) (bitmap : List ℕ) → at < length es → Below es q at → (alarm_at es at).0 ≡ q → insert_entry entity_cmp es q bitmap ≡ set es at (q, bitmap)
set_at [] at q bitmap lt below here = absurd (omega arith)
set_at (e ∷ es) zero q bitmap lt below here =
    ap (λ r. match_ordering r ((q, bitmap) ∷ e ∷ es) ((e.0, bitmap) ∷ es) (e ∷ insert_entry entity_cmp es q bitmap)) (tied e q here)
    ∙ ap (λ (k : EntityId). (k, bitmap) ∷ es) here
set_at (e ∷ es) (suc at) q bitmap lt below here =
    ap (λ r. match_ordering r ((q, bitmap) ∷ e ∷ es) ((e.0, bitmap) ∷ es) (e ∷ insert_entry entity_cmp es q bitmap)) (passed e es q at below)
    ∙ ap (λ (xs : Alarms). e ∷ xs) (set_at es at q bitmap (omega arith) (below_tail e es q at below) here)

insert_at : (es : Alarms) (at : ℕ) (q : EntityId) (bitmap : List ℕ) → at ≤ length es → Below es q at → Above es q at → insert_entry entity_cmp es q bitmap ≡ insert es at (q, bitmap)
insert_at [] zero q bitmap le below above = refl
insert_at [] (suc at) q bitmap le below above = absurd (omega arith)
insert_at (e ∷ es) zero q bitmap le below above =
    ap (λ r. match_ordering r ((q, bitmap) ∷ e ∷ es) ((e.0, bitmap) ∷ es) (e ∷ insert_entry entity_cmp es q bitmap)) (turned_back e.0 q (above 0 (omega arith) (omega arith)))
insert_at (e ∷ es) (suc at) q bitmap le below above =
    ap (λ r. match_ordering r ((q, bitmap) ∷ e ∷ es) ((e.0, bitmap) ∷ es) (e ∷ insert_entry entity_cmp es q bitmap)) (passed e es q at below)
    ∙ ap (λ (xs : Alarms). e ∷ xs) (insert_at es at q bitmap (omega arith) (below_tail e es q at below) (above_tail e es q at above))

remove_at : (es : Alarms) (at : ℕ) (q : EntityId) → at < length es → Below es q at → (alarm_at es at).0 ≡ q → remove_entry (is_at (entity_cmp q)) es ≡ remove es at
remove_at [] at q lt below here = absurd (omega arith)
remove_at (e ∷ es) zero q lt below here = ap (λ r. cond (is_eq r) es (e ∷ remove_entry (is_at (entity_cmp q)) es)) (tied e q here)
remove_at (e ∷ es) (suc at) q lt below here =
    ap (λ r. cond (is_eq r) es (e ∷ remove_entry (is_at (entity_cmp q)) es)) (passed e es q at below)
    ∙ ap (λ (xs : Alarms). e ∷ xs) (remove_at es at q (omega arith) (below_tail e es q at below) here)

differ : (x : List ℕ) → ◌≡◌ {A = Option (List ℕ)} (Some x) None → ⊥
differ x e = cc

remove_none : (es : Alarms) (q : EntityId) → lookup (is_at (entity_cmp q)) es ≡ None → remove_entry (is_at (entity_cmp q)) es ≡ es
remove_none [] q h = refl
remove_none (e ∷ es) q h = go (is_eq (entity_cmp q e.0)) refl h (remove_none es q)
  where
    go : (b : Bool) → is_eq (entity_cmp q e.0) ≡ b → cond (is_eq (entity_cmp q e.0)) (Some e.1) (lookup (is_at (entity_cmp q)) es) ≡ None
        → (lookup (is_at (entity_cmp q)) es ≡ None → remove_entry (is_at (entity_cmp q)) es ≡ es)
        → cond b es (e ∷ remove_entry (is_at (entity_cmp q)) es) ≡ e ∷ es
    go true is h later = absurd (differ e.1 (sym (ap (λ b. cond b (Some e.1) (lookup (is_at (entity_cmp q)) es)) is) ∙ h))
    go false is h later = ap (λ (xs : Alarms). e ∷ xs) (later (sym (ap (λ b. cond b (Some e.1) (lookup (is_at (entity_cmp q)) es)) is) ∙ h))

-- what a binary search ends at
pub record Searched (es : Alarms) (q : EntityId) (r : Result ℕ ℕ) : Type 0 where
  pub found : IfOk r (IsAt es q)
  pub absent : IfErr r (IsGap es q)

pub searched : (es : Alarms) (q : EntityId) → IsAscending es → (r : Result ℕ ℕ) → IsSearchInRange r (length es) → IsBinarySearchResult (λ (e : Alarm). entity_cmp e.0 q) es r → Searched es q r
unfolding bitmap_found
searched es q h (Ok at) in_range equal =
    let here : (alarm_at es at).0 ≡ q = entity_exact _ _ (equal no_alarm) in
    let below : Below es q at = λ k lt. subst (λ (x : EntityId). entity_cmp (alarm_at es k).0 x ≡ Less) here (ascending_at es k at h lt in_range) in
    record {
      found = record { in_range = in_range; here = here; before = below; found = lookup_at es at q in_range below here };
      absent = tt;
    }
searched es q h (Err at) in_range parted =
    let below : Below es q at = λ k lt. (parted (rises es q h)).0 k no_alarm (omega arith) lt in
    let above : Above es q at = λ k le lt. (parted (rises es q h)).1 k no_alarm le lt in
    record {
      found = tt;
      absent = record { in_range = in_range; before = below; after = above; not_found = none_in_gap es at q below above };
    }

-- reads and edits at the place
pub bitmap_here : (es : Alarms) (at : ℕ) (q : EntityId) → IsAt es q at → (alarm_at es at).1 ≡ bitmap_of q es
bitmap_here es at q is = ap (λ o. unwrap_or o clear_bitmap) (sym is.found)

pub bitmap_absent : (es : Alarms) (at : ℕ) (q : EntityId) → IsGap es q at → clear_bitmap ≡ bitmap_of q es
bitmap_absent es at q is = ap (λ o. unwrap_or o clear_bitmap) (sym is.not_found)

pub put_here : (es : Alarms) (at : ℕ) (q : EntityId) (bitmap : List ℕ) → IsAt es q at → set es at (q, bitmap) ≡ with_alarm q bitmap es
unfolding with_alarm
put_here es at q bitmap is = sym (set_at es at q bitmap is.in_range is.before is.here)

pub put_absent : (es : Alarms) (at : ℕ) (q : EntityId) (bitmap : List ℕ) → IsGap es q at → insert es at (q, bitmap) ≡ with_alarm q bitmap es
unfolding with_alarm
put_absent es at q bitmap is = sym (insert_at es at q bitmap is.in_range is.before is.after)

pub removed_here : (es : Alarms) (at : ℕ) (q : EntityId) → IsAt es q at → remove es at ≡ without_alarm q es
unfolding without_alarm
removed_here es at q is = sym (remove_at es at q is.in_range is.before is.here)

pub removed_absent : (es : Alarms) (at : ℕ) (q : EntityId) → IsGap es q at → es ≡ without_alarm q es
unfolding without_alarm bitmap_found
removed_absent es at q is = sym (remove_none es q is.not_found)
