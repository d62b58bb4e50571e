-- The map from entity to bitmap: its order, its size, and what a change leaves as it is.
use Rattle.std.proofs.Common.{◌≡◌, ◌≢◌, ℕ, ◌+◌, ◌≤◌, Bool, true, false, cond, List, [], ◌∷◌, length, Option, Some, None, Ordering, refl, sym, ap, subst, ◌∙◌, arith}
use Rattle.std.specs.Prelude.{unwrap_or}
use Rattle.std.specs.declared.cmp.Ordering.TheVariants.{Less, Equal, Greater}
use Rattle.std.specs.Ordering.{is_eq, match_ordering, ordering_reverse}
use Rattle.std.specs.Cmp.{tied_itself}
use Rattle.std.specs.Map.{lookup, remove_entry}
use Rattle.std.specs.BTreeMap.{insert_entry, is_at}
use Rattle.std.proofs.lemmas.Slice.Eq.{bytes_eq-Decides}
use Rattle.omci_types.specs.declared.EntityId.{EntityId}
use Rattle.mib_spec.specs.Database.{entity_cmp}
use Rattle.mib_laws.proofs.Others.{entity_total, entity_exact}
use Rattle.alarm_spec.specs.Alarms.{Alarms, clear_bitmap, is_clear, bitmap_found, bitmap_of, with_alarm, without_alarm, unless_clear, with_bitmap, ComesBefore, IsAscending, IsRaised, AreRaised}

pub turned : (a b : EntityId) → entity_cmp a b ≡ Less → entity_cmp b a ≡ Greater
turned a b h = entity_total.antisymm b a ∙ ap ordering_reverse h

pub turned_back : (a b : EntityId) → entity_cmp a b ≡ Greater → entity_cmp b a ≡ Less
turned_back a b h = entity_total.antisymm b a ∙ ap ordering_reverse h

-- order
before_all : (a b : EntityId) (es : Alarms) → entity_cmp a b ≡ Less → ComesBefore b es → ComesBefore a es
before_all a b [] less h = tt
before_all a b (e ∷ es) less h = (entity_total.trans a b e.0 less h.0, before_all a b es less h.1)

before_with : (a one : EntityId) (bitmap : List ℕ) (es : Alarms) → ComesBefore a es → entity_cmp a one ≡ Less → ComesBefore a (insert_entry entity_cmp es one bitmap)
before_with a one bitmap [] h less = (less, tt)
before_with a one bitmap (e ∷ es) h less = go (entity_cmp one e.0) (before_with a one bitmap es h.1 less)
  where
    go : (r : Ordering) → ComesBefore a (insert_entry entity_cmp es one bitmap) → ComesBefore a (match_ordering r ((one, bitmap) ∷ e ∷ es) ((e.0, bitmap) ∷ es) (e ∷ insert_entry entity_cmp es one bitmap))
    go Less later = (less, h)
    go Equal later = h
    go Greater later = (h.0, later)

ascends_with : (one : EntityId) (bitmap : List ℕ) (es : Alarms) → IsAscending es → IsAscending (insert_entry entity_cmp es one bitmap)
ascends_with one bitmap [] h = (tt, tt)
ascends_with one bitmap (e ∷ es) h = go (entity_cmp one e.0) refl (ascends_with one bitmap es h.1)
  where
    go : (r : Ordering) → entity_cmp one e.0 ≡ r → IsAscending (insert_entry entity_cmp es one bitmap) → IsAscending (match_ordering r ((one, bitmap) ∷ e ∷ es) ((e.0, bitmap) ∷ es) (e ∷ insert_entry entity_cmp es one bitmap))
    go Less is later = ((is, before_all one e.0 es is h.0), h)
    go Equal is later = h
    go Greater is later = (before_with e.0 one bitmap es h.0 (turned_back one e.0 is), later)

before_without : (a one : EntityId) (es : Alarms) → ComesBefore a es → ComesBefore a (remove_entry (is_at (entity_cmp one)) es)
before_without a one [] h = tt
before_without a one (e ∷ es) h =
    let later : ComesBefore a (remove_entry (is_at (entity_cmp one)) es) = before_without a one es h.1 in
    elim (is_eq (entity_cmp one e.0)) as (λ b. ComesBefore a (cond b es (e ∷ remove_entry (is_at (entity_cmp one)) es))) [ true ↦ h.1 | false ↦ (h.0, later) ]

ascends_without : (one : EntityId) (es : Alarms) → IsAscending es → IsAscending (remove_entry (is_at (entity_cmp one)) es)
ascends_without one [] h = tt
ascends_without one (e ∷ es) h =
    let later : IsAscending (remove_entry (is_at (entity_cmp one)) es) = ascends_without one es h.1 in
    elim (is_eq (entity_cmp one e.0)) as (λ b. IsAscending (cond b es (e ∷ remove_entry (is_at (entity_cmp one)) es))) [ true ↦ h.1 | false ↦ (before_without e.0 one es h.0, later) ]

pub ascending_with_alarm : (one : EntityId) (bitmap : List ℕ) (es : Alarms) → IsAscending es → IsAscending (with_alarm one bitmap es)
unfolding with_alarm
ascending_with_alarm one bitmap es h = ascends_with one bitmap es h

pub ascending_without_alarm : (one : EntityId) (es : Alarms) → IsAscending es → IsAscending (without_alarm one es)
unfolding without_alarm
ascending_without_alarm one es h = ascends_without one es h

ascending_unless : (b : Bool) (one : EntityId) (bitmap : List ℕ) (es : Alarms) → IsAscending es → IsAscending (unless_clear b one bitmap es)
ascending_unless true one bitmap es h = ascending_without_alarm one es h
ascending_unless false one bitmap es h = ascending_with_alarm one bitmap es h

pub ascending_with_bitmap : (one : EntityId) (bitmap : List ℕ) (es : Alarms) → IsAscending es → IsAscending (with_bitmap one bitmap es)
unfolding with_bitmap
ascending_with_bitmap one bitmap es h = ascending_unless (is_clear bitmap) one bitmap es h

-- alarms alone
raised_with : (one : EntityId) (bitmap : List ℕ) (es : Alarms) → IsRaised (one, bitmap) → AreRaised es → AreRaised (insert_entry entity_cmp es one bitmap)
raised_with one bitmap [] new h = (new, tt)
raised_with one bitmap (e ∷ es) new h = go (entity_cmp one e.0) (raised_with one bitmap es new h.1)
  where
    go : (r : Ordering) → AreRaised (insert_entry entity_cmp es one bitmap) → AreRaised (match_ordering r ((one, bitmap) ∷ e ∷ es) ((e.0, bitmap) ∷ es) (e ∷ insert_entry entity_cmp es one bitmap))
    go Less later = (new, h)
    go Equal later = (record { class = h.0.class; instance = h.0.instance; bytes = new.bytes; raised = new.raised }, h.1)
    go Greater later = (h.0, later)

raised_without : (one : EntityId) (es : Alarms) → AreRaised es → AreRaised (remove_entry (is_at (entity_cmp one)) es)
raised_without one [] h = tt
raised_without one (e ∷ es) h =
    let later : AreRaised (remove_entry (is_at (entity_cmp one)) es) = raised_without one es h.1 in
    elim (is_eq (entity_cmp one e.0)) as (λ b. AreRaised (cond b es (e ∷ remove_entry (is_at (entity_cmp one)) es))) [ true ↦ h.1 | false ↦ (h.0, later) ]

raised_unless : (b : Bool) (one : EntityId) (bitmap : List ℕ) (es : Alarms) → (b ≡ false → IsRaised (one, bitmap)) → AreRaised es → AreRaised (unless_clear b one bitmap es)
unfolding with_alarm without_alarm
raised_unless true one bitmap es new h = raised_without one es h
raised_unless false one bitmap es new h = raised_with one bitmap es (new refl) h

pub raised_with_bitmap : (one : EntityId) (bitmap : List ℕ) (es : Alarms) → (is_clear bitmap ≡ false → IsRaised (one, bitmap)) → AreRaised es → AreRaised (with_bitmap one bitmap es)
unfolding with_bitmap
raised_with_bitmap one bitmap es new h = raised_unless (is_clear bitmap) one bitmap es new h

-- size
length_with : (one : EntityId) (bitmap : List ℕ) (es : Alarms) → length (insert_entry entity_cmp es one bitmap) ≤ length es + 1
length_with one bitmap [] = omega arith
length_with one bitmap (e ∷ es) = go (entity_cmp one e.0) (length_with one bitmap es)
  where
    go : (r : Ordering) → length (insert_entry entity_cmp es one bitmap) ≤ length es + 1 → length (match_ordering r ((one, bitmap) ∷ e ∷ es) ((e.0, bitmap) ∷ es) (e ∷ insert_entry entity_cmp es one bitmap)) ≤ length (e ∷ es) + 1
    go Less later = omega arith
    go Equal later = omega arith
    go Greater later = omega (arith, later)

length_without : (one : EntityId) (es : Alarms) → length (remove_entry (is_at (entity_cmp one)) es) ≤ length es
length_without one [] = omega arith
length_without one (e ∷ es) = go (is_eq (entity_cmp one e.0)) (length_without one es)
  where
    go : (b : Bool) → length (remove_entry (is_at (entity_cmp one)) es) ≤ length es → length (cond b es (e ∷ remove_entry (is_at (entity_cmp one)) es)) ≤ length (e ∷ es)
    go true later = omega arith
    go false later = omega (arith, later)

length_unless : (b : Bool) (one : EntityId) (bitmap : List ℕ) (es : Alarms) → length (unless_clear b one bitmap es) ≤ length es + 1
unfolding with_alarm without_alarm
length_unless true one bitmap es = omega (arith, length_without one es)
length_unless false one bitmap es = length_with one bitmap es

pub length_with_bitmap : (one : EntityId) (bitmap : List ℕ) (es : Alarms) → length (with_bitmap one bitmap es) ≤ length es + 1
unfolding with_bitmap
length_with_bitmap one bitmap es = length_unless (is_clear bitmap) one bitmap es

-- what a comparison with another entity says
apart : (a b : EntityId) → a ≢ b → is_eq (entity_cmp a b) ≡ false
apart a b h = go (entity_cmp a b) refl
  where
    go : (r : Ordering) → entity_cmp a b ≡ r → is_eq r ≡ false
    go Less is = refl
    go Equal is = absurd (h (entity_exact a b is))
    go Greater is = refl

module _ (one other : EntityId) (differ : one ≢ other) where
  find : Alarms → Option (List ℕ)
  find = λ es. lookup (is_at (entity_cmp other)) es

  -- the other entity isn't where this one is
  elsewhere : (key : EntityId) → entity_cmp one key ≡ Equal → is_eq (entity_cmp other key) ≡ false
  elsewhere key is = apart other key (λ e. differ (entity_exact one key is ∙ sym e))

  found_with : (bitmap : List ℕ) (es : Alarms) → find (insert_entry entity_cmp es one bitmap) ≡ find es
  unfolding find
  found_with bitmap [] = ap (λ b. cond b (Some bitmap) None) (apart other one (λ e. differ (sym e)))
  found_with bitmap (e ∷ es) = go (entity_cmp one e.0) refl (found_with bitmap es)
    where
      go : (r : Ordering) → entity_cmp one e.0 ≡ r → lookup (is_at (entity_cmp other)) (insert_entry entity_cmp es one bitmap) ≡ lookup (is_at (entity_cmp other)) es
          → lookup (is_at (entity_cmp other)) (match_ordering r ((one, bitmap) ∷ e ∷ es) ((e.0, bitmap) ∷ es) (e ∷ insert_entry entity_cmp es one bitmap)) ≡ lookup (is_at (entity_cmp other)) (e ∷ es)
      go Less is later = ap (λ b. cond b (Some bitmap) (lookup (is_at (entity_cmp other)) (e ∷ es))) (apart other one (λ x. differ (sym x)))
      go Equal is later = ap (λ b. cond b (Some bitmap) (lookup (is_at (entity_cmp other)) es)) (elsewhere e.0 is) ∙ sym (ap (λ b. cond b (Some e.1) (lookup (is_at (entity_cmp other)) es)) (elsewhere e.0 is))
      go Greater is later = ap (λ o. cond (is_eq (entity_cmp other e.0)) (Some e.1) o) later

  found_without : (es : Alarms) → find (remove_entry (is_at (entity_cmp one)) es) ≡ find es
  unfolding find
  found_without [] = refl
  found_without (e ∷ es) = go (entity_cmp one e.0) refl (found_without es)
    where
      go : (r : Ordering) → entity_cmp one e.0 ≡ r → lookup (is_at (entity_cmp other)) (remove_entry (is_at (entity_cmp one)) es) ≡ lookup (is_at (entity_cmp other)) es
          → lookup (is_at (entity_cmp other)) (cond (is_eq r) es (e ∷ remove_entry (is_at (entity_cmp one)) es)) ≡ lookup (is_at (entity_cmp other)) (e ∷ es)
      go Less is later = ap (λ o. cond (is_eq (entity_cmp other e.0)) (Some e.1) o) later
      go Equal is later = sym (ap (λ b. cond b (Some e.1) (lookup (is_at (entity_cmp other)) es)) (elsewhere e.0 is))
      go Greater is later = ap (λ o. cond (is_eq (entity_cmp other e.0)) (Some e.1) o) later

  found_unless : (b : Bool) (bitmap : List ℕ) (es : Alarms) → find (unless_clear b one bitmap es) ≡ find es
  unfolding with_alarm without_alarm
  found_unless true bitmap es = found_without es
  found_unless false bitmap es = found_with bitmap es

  pub other_with_bitmap : (bitmap : List ℕ) (es : Alarms) → bitmap_of other (with_bitmap one bitmap es) ≡ bitmap_of other es
  unfolding bitmap_found with_bitmap find
  other_with_bitmap bitmap es = ap (λ o. unwrap_or o clear_bitmap) (found_unless (is_clear bitmap) bitmap es)

-- the entity itself
module _ (one : EntityId) where
  found_here : (bitmap : List ℕ) (es : Alarms) → lookup (is_at (entity_cmp one)) (insert_entry entity_cmp es one bitmap) ≡ Some bitmap
  found_here bitmap [] = ap (λ b. cond b (Some bitmap) None) (ap is_eq (tied_itself entity_total one))
  found_here bitmap (e ∷ es) = go (entity_cmp one e.0) refl (found_here bitmap es)
    where
      find : Alarms → Option (List ℕ)
      find = λ d. lookup (is_at (entity_cmp one)) d

      go : (r : Ordering) → entity_cmp one e.0 ≡ r → find (insert_entry entity_cmp es one bitmap) ≡ Some bitmap → find (match_ordering r ((one, bitmap) ∷ e ∷ es) ((e.0, bitmap) ∷ es) (e ∷ insert_entry entity_cmp es one bitmap)) ≡ Some bitmap
      go Less is later = ap (λ b. cond b (Some bitmap) (find (e ∷ es))) (ap is_eq (tied_itself entity_total one))
      go Equal is later = ap (λ r. cond (is_eq r) (Some bitmap) (find es)) is
      go Greater is later = ap (λ r. cond (is_eq r) (Some e.1) (find (insert_entry entity_cmp es one bitmap))) is ∙ later

  none_after : (es : Alarms) → ComesBefore one es → lookup (is_at (entity_cmp one)) es ≡ None
  none_after [] h = refl
  none_after (e ∷ es) h = ap (λ r. cond (is_eq r) (Some e.1) (lookup (is_at (entity_cmp one)) es)) h.0 ∙ none_after es h.1

  none_here : (es : Alarms) → IsAscending es → lookup (is_at (entity_cmp one)) (remove_entry (is_at (entity_cmp one)) es) ≡ None
  none_here [] h = refl
  none_here (e ∷ es) h = go (entity_cmp one e.0) refl (none_here es h.1)
    where
      find : Alarms → Option (List ℕ)
      find = λ d. lookup (is_at (entity_cmp one)) d

      go : (r : Ordering) → entity_cmp one e.0 ≡ r → find (remove_entry (is_at (entity_cmp one)) es) ≡ None → find (cond (is_eq r) es (e ∷ remove_entry (is_at (entity_cmp one)) es)) ≡ None
      go Less is later = ap (λ r. cond (is_eq r) (Some e.1) (find (remove_entry (is_at (entity_cmp one)) es))) is ∙ later
      go Equal is later = none_after es (subst (λ (k : EntityId). ComesBefore k es) (sym (entity_exact one e.0 is)) h.0)
      go Greater is later = ap (λ r. cond (is_eq r) (Some e.1) (find (remove_entry (is_at (entity_cmp one)) es))) is ∙ later

  here_unless : (b : Bool) (bitmap : List ℕ) (es : Alarms) → is_clear bitmap ≡ b → IsAscending es → unwrap_or (lookup (is_at (entity_cmp one)) (unless_clear b one bitmap es)) clear_bitmap ≡ bitmap
  unfolding with_alarm without_alarm
  here_unless true bitmap es is h = ap (λ o. unwrap_or o clear_bitmap) (none_here es h) ∙ sym ((bytes_eq-Decides bitmap clear_bitmap).0 is)
  here_unless false bitmap es is h = ap (λ o. unwrap_or o clear_bitmap) (found_here bitmap es)

  pub here_with_bitmap : (bitmap : List ℕ) (es : Alarms) → IsAscending es → bitmap_of one (with_bitmap one bitmap es) ≡ bitmap
  unfolding bitmap_found with_bitmap
  here_with_bitmap bitmap es h = here_unless (is_clear bitmap) bitmap es refl h
