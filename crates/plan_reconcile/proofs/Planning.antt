-- The loops over a copy and over what is wanted.
use Rattle.std.proofs.Common.{◌≡◌, ℕ, zero, suc, ◌+◌, ◌-◌, ◌<◌, ◌≤◌, Bool, true, false, cond, List, [], ◌∷◌, ◌++◌, length, drop, set, map, get_or, replicate, Option, Some, None, option_map, is_some, refl, sym, ap, subst, ◌∙◌, append_assoc, arith}
use Rattle.std.specs.Prelude.{not, ◌&&◌, ◌==◌, nat_lt, Ok, Err}
use Rattle.std.proofs.lemmas.Bool.Decides.{nat_tests}
use Rattle.std.specs.List.{flat_map}
use Rattle.std.proofs.Math.Seq.{drop-cons}
use Rattle.std.proofs.lemmas.Bool.{false≢true}
use Rattle.std.proofs.lemmas.List.{get_or-map, length-replicate, length-set}
use Rattle.omci_attributes.proofs.Sums.{none_left}
use Rattle.omci_types.specs.declared.EntityId.{EntityId}
use Rattle.class_spec.specs.Classes.{Attribute}
use Rattle.mib_spec.specs.Database.{Values, bytes_of}
use Rattle.mib_spec.specs.Requests.{is_unit_made, is_class}
use Rattle.upload_spec.specs.Pieces.{Copy, mask_of, values_named}
use Rattle.upload_spec.specs.Copies.{copied, attributes_of}
use Rattle.plan_spec.specs.declared.PlanFault.TheVariants as fault
use Rattle.plan_spec.specs.Steps.{Step, Delete, entities_where, stays, goes, is_new, is_not_made, entity_steps, told, told_of, create_of, sets, steps, standing, planned, unless_many, unless_not_made}
use Rattle.plan_reconcile.specs.declared.reconcile.PlanRefusal.TheVariants as refused
use Rattle.plan_reconcile.specs.Answers.{Refuses, counted}
use Rattle.plan_reconcile.specs.declared.items.Item.{Item}
use Rattle.plan_reconcile.specs.Items.{item_as, wanted_of, item_at, no_item, AreItems, IsItem}
use Rattle.plan_reconcile.specs.Matched.{place_from, places_from, places_of, staying, AreNew, IsFirstNotMade}
use Rattle.plan_reconcile.proofs.Matching.{none_found, found_is_copied, found_stands, StandsAt}
use Rattle.plan_reconcile.proofs.Places.{each_at}

-- the item in a place, and those after it
pub item_next : (items : List Item) (at : ℕ) → at < length items → drop at items ≡ item_at items at ∷ drop (at + 1) items
item_next items at lt =
    let next : suc at ≡ at + 1 = omega arith in
    drop-cons items at no_item lt ∙ ap (λ k. item_at items at ∷ drop k items) next

pub entry_next : (have : Copy) (place : ℕ) (other : EntityId × Values) → place < length have → drop place have ≡ get_or have place other ∷ drop (place + 1) have
entry_next have place other lt =
    let next : suc place ≡ place + 1 = omega arith in
    drop-cons have place other lt ∙ ap (λ k. get_or have place other ∷ drop k have) next

no_entry : EntityId × Values
no_entry = (record { class = 0; instance = 0 }, [])

pub where_length : (p : EntityId → Bool) (copy : Copy) → length (entities_where p copy) ≤ length copy
where_length p [] = omega arith
where_length p (e ∷ es) = elim (p e.0) as (λ b. length (cond b (e.0 ∷ entities_where p es) (entities_where p es)) ≤ suc (length es)) [
  | true ↦ omega (arith, where_length p es)
  | false ↦ omega (arith, where_length p es)
]

where_step : (p : EntityId → Bool) (e : EntityId × Values) (es : Copy) (b : Bool) → p e.0 ≡ b → entities_where p (e ∷ es) ≡ cond b (e.0 ∷ entities_where p es) (entities_where p es)
where_step p e es b is = ap (λ x. cond x (e.0 ∷ entities_where p es) (entities_where p es)) is

count_step : (p : EntityId → Bool) (e : EntityId × Values) (es : Copy) (b : Bool) → p e.0 ≡ b → length (entities_where p (e ∷ es)) ≡ cond b 1 0 + length (entities_where p es)
count_step p e es true is = omega (arith, ap length (where_step p e es true is))
count_step p e es false is = omega (arith, ap length (where_step p e es false is))

-- ---- looking for the copy's entities

pub record MatchedSoFar (have : Copy) (want : List Item) (place count : ℕ) (places : List (Option ℕ)) (flags : List Bool) : Type 0 where
  pub places_are : places ≡ places_from want place (drop place have)
  pub flags_are : drop place flags ≡ staying want (drop place have)
  pub flags_len : length flags ≡ length have
  pub count_is : count ≡ length (entities_where (stays (wanted_of want)) (drop place have))
  pub few : count + place ≤ length have
  pub in_range : place ≤ length have

pub matched_start : (have : Copy) (want : List Item) (place size : ℕ) → place ≡ length have → size ≡ length want → MatchedSoFar have want place 0 (replicate size None) (replicate place false)
matched_start have want place size is size_is =
    let none : drop place have ≡ [] = none_left have place (omega (arith, is)) in
    let flags : length (replicate place false) ≡ place = length-replicate place false in
    record {
      places_are = ap (λ n. replicate n None) size_is ∙ none_found want place ∙ sym (ap (places_from want place) none);
      flags_are = none_left (replicate place false) place (omega (arith, flags)) ∙ sym (ap (staying want) none);
      flags_len = flags ∙ is;
      count_is = sym (ap (λ (l : Copy). length (entities_where (stays (wanted_of want)) l)) none);
      few = omega (arith, is);
      in_range = omega (arith, is);
    }

drop_set : {A : Type 0} (xs : List A) (n : ℕ) (y : A) → n < length xs → drop n (set xs n y) ≡ y ∷ drop (suc n) xs
drop_set [] n y lt = absurd (omega arith)
drop_set (x ∷ xs) zero y lt = refl
drop_set (x ∷ xs) (suc n) y lt = drop_set xs n y (omega arith)

pub matched_next : (have : Copy) (want : List Item) (place count : ℕ) (places : List (Option ℕ)) (flags : List Bool) → MatchedSoFar have want place count places flags → 0 < place
    → (one : EntityId) (stay : Bool) (places' : List (Option ℕ)) → ((other : EntityId × Values) → one ≡ (get_or have (place - 1) other).0) → stay ≡ stays (wanted_of want) one
    → ((have : Copy) (values : Values) → places ≡ places_from want (place - 1 + 1) have → places' ≡ places_from want (place - 1) ((one, values) ∷ have))
    → MatchedSoFar have want (place - 1) (count + cond stay 1 0) places' (set flags (place - 1) stay)
matched_next have want place count places flags s some one stay places' one_is stay_is noted =
    let before : ℕ = place - 1 in
    let back : before + 1 ≡ place = omega (arith, some) in
    let lt : before < length have = omega (arith, back, s.in_range) in
    let e : EntityId × Values = get_or have before no_entry in
    let e_is : e.0 ≡ one = sym (one_is no_entry) in
    let rest : drop before have ≡ e ∷ drop place have = entry_next have before no_entry lt ∙ ap (λ k. e ∷ drop k have) back in
    let stays_is : stays (wanted_of want) e.0 ≡ stay = ap (stays (wanted_of want)) e_is ∙ sym stay_is in
    let count_is : length (entities_where (stays (wanted_of want)) (drop before have)) ≡ cond stay 1 0 + length (entities_where (stays (wanted_of want)) (drop place have)) =
    ap (λ (l : Copy). length (entities_where (stays (wanted_of want)) l)) rest ∙ count_step (stays (wanted_of want)) e (drop place have) stay stays_is in
    record {
      places_are = noted (drop place have) e.1 (s.places_are ∙ ap (λ k. places_from want k (drop place have)) (sym back))
          ∙ ap (λ (x : EntityId). places_from want before ((x, e.1) ∷ drop place have)) (sym e_is) ∙ sym (ap (places_from want before) rest);
      flags_are = drop_set flags before stay (omega (arith, s.flags_len, lt)) ∙ ap (λ k. stay ∷ drop k flags) {x = suc before} {y = place} (omega (arith, back))
          ∙ ap (λ (l : List Bool). stay ∷ l) s.flags_are ∙ ap (λ b. b ∷ staying want (drop place have)) (sym stays_is) ∙ sym (ap (staying want) rest);
      flags_len = length-set flags before stay ∙ s.flags_len;
      count_is = omega (arith, count_is, s.count_is);
      few = omega (arith, s.few, back, one_or_none stay);
      in_range = omega (arith, lt);
    }
  where
    one_or_none : (b : Bool) → cond b 1 0 ≤ 1
    one_or_none true = omega arith
    one_or_none false = omega arith

-- ---- the new entities

pub record NewSoFar (want : List Item) (places : List (Option ℕ)) (at count : ℕ) : Type 0 where
  pub made : (have : Copy) → places ≡ places_of have want → entities_where (is_not_made have) (wanted_of (drop at want)) ≡ entities_where (is_not_made have) (wanted_of want)
  pub new_are : (have : Copy) → places ≡ places_of have want → count + length (entities_where (is_new have) (wanted_of (drop at want))) ≡ length (entities_where (is_new have) (wanted_of want))
  pub few : count ≤ at

pub new_start : (want : List Item) (places : List (Option ℕ)) → NewSoFar want places 0 0
new_start want places = record { made = λ have is. refl; new_are = λ have is. omega arith; few = omega arith }

module _ (want : List Item) (places : List (Option ℕ)) (at : ℕ) (lt : at < length want) (item : Item) (item_is : item ≡ item_at want at) (new : Bool) (new_is : new ≡ not (is_some (get_or places at None))) where
  is_new_here : (have : Copy) → places ≡ places_of have want → is_new have item.entity ≡ new
  is_new_here have is =
      let there : get_or places at None ≡ place_from item.entity 0 have =
      ap (λ (l : List (Option ℕ)). get_or l at None) is ∙ get_or-map (λ (i : Item). place_from i.entity 0 have) want at no_item None lt ∙ ap (λ (i : Item). place_from i.entity 0 have) (sym item_is) in
      sym (new_is ∙ ap (λ (o : Option ℕ). not (is_some o)) there ∙ ap not (found_is_copied item.entity 0 have))

  rest : wanted_of (drop at want) ≡ item_as item ∷ wanted_of (drop (at + 1) want)
  rest = ap wanted_of (item_next want at lt) ∙ ap (λ (i : Item). item_as i ∷ wanted_of (drop (at + 1) want)) (sym item_is)

  pub new_next : (count : ℕ) → NewSoFar want places at count → (is_unit_made item.entity.class && new) ≡ false → NewSoFar want places (at + 1) (count + cond new 1 0)
  new_next count s not_made = record {
    made = λ have is. sym (ap (entities_where (is_not_made have)) rest ∙ where_step (is_not_made have) (item_as item) (wanted_of (drop (at + 1) want)) false (ap (λ b. is_unit_made item.entity.class && b) (is_new_here have is) ∙ not_made)) ∙ s.made have is;
    new_are = λ have is. omega (arith, s.new_are have is, ap (λ (l : Copy). length (entities_where (is_new have) l)) rest, count_step (is_new have) (item_as item) (wanted_of (drop (at + 1) want)) new (is_new_here have is));
    few = omega (arith, s.few, one_or_none new);
  }
    where
      one_or_none : (b : Bool) → cond b 1 0 ≤ 1
      one_or_none true = omega arith
      one_or_none false = omega arith

  pub first_not_made : (count : ℕ) → NewSoFar want places at count → (is_unit_made item.entity.class && new) ≡ true → (have : Copy) → places ≡ places_of have want → IsFirstNotMade have (wanted_of want) item.entity
  first_not_made count s not_made have is = record {
    rest = entities_where (is_not_made have) (wanted_of (drop (at + 1) want));
    first = sym (s.made have is) ∙ ap (entities_where (is_not_made have)) rest ∙ where_step (is_not_made have) (item_as item) (wanted_of (drop (at + 1) want)) true (ap (λ b. is_unit_made item.entity.class && b) (is_new_here have is) ∙ not_made);
  }

pub new_end : (want : List Item) (places : List (Option ℕ)) (at count : ℕ) → NewSoFar want places at count → length want ≤ at → (have : Copy) → places ≡ places_of have want → AreNew have (wanted_of want) count
new_end want places at count s le have is =
    let none : wanted_of (drop at want) ≡ [] = ap wanted_of (none_left want at le) in
    record {
      made = sym (s.made have is) ∙ ap (entities_where (is_not_made have)) none;
      new_are = omega (arith, s.new_are have is, ap (λ (l : Copy). length (entities_where (is_new have) l)) none);
    }

-- ---- deletes

pub deletes_next : (W have : Copy) (place : ℕ) (steps steps' whole : List Step) (one : EntityId) (stay : Bool) → place < length have → ((other : EntityId × Values) → one ≡ (get_or have place other).0) → stay ≡ stays W one
    → steps' ≡ steps ++ cond stay [] (Delete one ∷ []) → steps ++ map Delete (entities_where (goes W) (drop place have)) ≡ whole → steps' ++ map Delete (entities_where (goes W) (drop (place + 1) have)) ≡ whole
deletes_next W have place steps steps' whole one stay lt one_is stay_is steps_is so_far =
    let e : EntityId × Values = get_or have place no_entry in
    let e_is : e.0 ≡ one = sym (one_is no_entry) in
    let D : List Step = map Delete (entities_where (goes W) (drop (place + 1) have)) in
    let goes_is : goes W e.0 ≡ not stay = ap (λ (x : EntityId). goes W x) e_is ∙ ap not (sym stay_is) in
    let opened : map Delete (entities_where (goes W) (drop place have)) ≡ cond stay [] (Delete one ∷ []) ++ D =
    ap (λ (l : Copy). map Delete (entities_where (goes W) l)) (entry_next have place no_entry lt)
    ∙ ap (map Delete) (where_step (goes W) e (drop (place + 1) have) (not stay) goes_is) ∙ split stay e.0 ∙ ap (λ (x : EntityId). cond stay [] (Delete x ∷ []) ++ D) e_is in
    ap (λ (l : List Step). l ++ D) steps_is ∙ append_assoc steps (cond stay [] (Delete one ∷ [])) D ∙ ap (λ (l : List Step). steps ++ l) (sym opened) ∙ so_far
  where
    split : (b : Bool) (x : EntityId) → map Delete (cond (not b) (x ∷ entities_where (goes W) (drop (place + 1) have)) (entities_where (goes W) (drop (place + 1) have))) ≡ cond b [] (Delete x ∷ []) ++ map Delete (entities_where (goes W) (drop (place + 1) have))
    split true x = refl
    split false x = refl

pub stay_here : (want : List Item) (have : Copy) (flags : List Bool) (place : ℕ) (one : EntityId) → flags ≡ staying want have → place < length have → ((other : EntityId × Values) → one ≡ (get_or have place other).0) → get_or flags place false ≡ stays (wanted_of want) one
stay_here want have flags place one is lt one_is =
    ap (λ (l : List Bool). get_or l place false) is ∙ get_or-map (λ (e : EntityId × Values). stays (wanted_of want) e.0) have place no_entry false lt ∙ ap (stays (wanted_of want)) (sym (one_is no_entry))

-- ---- the wanted entities

pub stands_at : (one : EntityId) (place : ℕ) (have : Copy) → place_from one 0 have ≡ Some place → StandsAt one have place
stands_at one place have h =
    let found = found_stands one 0 place have h in
    subst (StandsAt one have) {x = found.0} {y = place} (omega (arith, found.1)) found.2

-- what the copy tells of an entity that is there
pub told_there : (one : EntityId) (place mask : ℕ) (bytes : List ℕ) (attributes : List Attribute) (have : Copy) → StandsAt one have place → attributes_of one.class ≡ attributes → ((other : EntityId × Values) → mask ≡ mask_of (get_or have place other).1) → ((other : EntityId × Values) → bytes ≡ bytes_of (get_or have place other).1)
    → Some (values_named attributes mask bytes) ≡ told_of one have
unfolding told_of
told_there one place mask bytes attributes have s attributes_is mask_is bytes_is =
    let v : Values = (get_or have place no_entry).1 in
    ap (λ (l : List Attribute). Some (values_named l mask bytes)) (sym attributes_is)
    ∙ ap (λ m. Some (values_named (attributes_of one.class) m bytes)) (mask_is no_entry) ∙ ap (λ (b : List ℕ). Some (values_named (attributes_of one.class) (mask_of v) b)) (bytes_is no_entry)
    ∙ sym (ap (λ (o : Option Values). option_map (told one.class) o) (s.is_copied no_entry))

no_some : (o : Option Values) → is_some o ≡ false → o ≡ None
no_some None h = refl
no_some (Some x) h = absurd (false≢true (sym h))

pub told_absent : (one : EntityId) (have : Copy) → place_from one 0 have ≡ None → told_of one have ≡ None
unfolding told_of
told_absent one have h = ap (λ (o : Option Values). option_map (told one.class) o) (no_some (copied one have) (sym (found_is_copied one 0 have) ∙ ap (λ (o : Option ℕ). is_some o) h))

pub steps_there : (before after : List Step) (one : EntityId × Values) (held told : Option Values) (v : Values) → held ≡ Some v → held ≡ told → after ≡ before ++ sets one.0 held one.1 → after ≡ before ++ entity_steps told one
unfolding entity_steps
steps_there before after one held told v some is after_is =
    after_is ∙ ap (λ (o : Option Values). before ++ sets one.0 o one.1) some ∙ sym (ap (λ (o : Option Values). before ++ entity_steps o one) (sym is ∙ some))

pub steps_new : (before between after : List Step) (one : EntityId × Values) (told : Option Values) → told ≡ None → between ≡ before ++ create_of one.0 one.1 ∷ [] → after ≡ between ++ sets one.0 None one.1 → after ≡ before ++ entity_steps told one
unfolding entity_steps
steps_new before between after one told none between_is after_is =
    after_is ∙ ap (λ (l : List Step). l ++ sets one.0 None one.1) between_is ∙ append_assoc before (create_of one.0 one.1 ∷ []) (sets one.0 None one.1) ∙ sym (ap (λ (o : Option Values). before ++ entity_steps o one) none)

abbrev pub later_steps : Copy → Copy → List Step
later_steps have want = flat_map (λ one. entity_steps (told_of one.0 have) one) want

pub later_next : (have : Copy) (want : List Item) (at : ℕ) (item : Item) (steps steps' whole : List Step) → at < length want → item ≡ item_at want at → steps' ≡ steps ++ entity_steps (told_of item.entity have) (item_as item)
    → steps ++ later_steps have (wanted_of (drop at want)) ≡ whole → steps' ++ later_steps have (wanted_of (drop (at + 1) want)) ≡ whole
later_next have want at item steps steps' whole lt item_is steps_is so_far =
    let E : List Step = entity_steps (told_of item.entity have) (item_as item) in
    let L : List Step = later_steps have (wanted_of (drop (at + 1) want)) in
    let opened : later_steps have (wanted_of (drop at want)) ≡ E ++ L =
    ap (λ (l : List Item). later_steps have (wanted_of l)) (item_next want at lt) ∙ ap (λ (i : Item). entity_steps (told_of i.entity have) (item_as i) ++ L) (sym item_is) in
    ap (λ (l : List Step). l ++ L) steps_is ∙ append_assoc steps E L ∙ ap (λ (l : List Step). steps ++ l) (sym opened) ∙ so_far

pub place_here : (have : Copy) (want : List Item) (places : List (Option ℕ)) (at : ℕ) (item : Item) → places ≡ places_of have want → at < length want → item ≡ item_at want at → get_or places at None ≡ place_from item.entity 0 have
place_here have want places at item is lt item_is =
    ap (λ (l : List (Option ℕ)). get_or l at None) is ∙ get_or-map (λ (i : Item). place_from i.entity 0 have) want at no_item None lt ∙ ap (λ (i : Item). place_from i.entity 0 have) (sym item_is)

both : (a b : Bool) → (a && b) ≡ true → a ≡ true
both true b h = refl
both false b h = absurd (false≢true h)

pub class_here : (want : List Item) (at : ℕ) (item : Item) → AreItems want → at < length want → item ≡ item_at want at → is_class item.entity.class ≡ true
class_here want at item each lt item_is =
    let i : IsItem (item_at want at) = each_at want at lt each in
    ap (λ (x : Item). is_class x.entity.class) item_is ∙ both (is_class (item_at want at).entity.class) (not ((item_at want at).entity.class == 2)) i.wantable

-- ---- the whole plan

module _ (have want : Copy) (count new : ℕ) (kept : count ≡ length (entities_where (stays want) have)) (are : AreNew have want new) where
  standing_is : standing have want ≡ count + new
  unfolding standing
  standing_is = omega (arith, kept, are.new_are)

  open_planned : planned have want ≡ unless_many (count + new) (steps have want)
  unfolding planned
  open_planned = ap (λ (l : List EntityId). unless_not_made l (standing have want) (steps have want)) are.made ∙ ap (λ n. unless_many n (steps have want)) standing_is

  pub planned_many : (n : ℕ) → n ≡ counted (count + new) → 4096 < n → Refuses (planned have want) (refused.TooMany n)
  planned_many n is over =
      let many : nat_lt 4096 (count + new) ≡ true = grind (arith, nat_tests, is, over) in
      (count + new, open_planned ∙ ap (λ b. cond b (Err (fault.TooMany (count + new))) (Ok (steps have want))) many, is)

  pub planned_steps : (n : ℕ) (made : List Step) → n ≡ counted (count + new) → n ≤ 4096 → made ≡ steps have want → planned have want ≡ Ok made
  planned_steps n made is few made_is =
      let some : nat_lt 4096 (count + new) ≡ false = grind (arith, nat_tests, is, few) in
      open_planned ∙ ap (λ b. cond b (Err (fault.TooMany (count + new))) (Ok (steps have want))) some ∙ ap (λ (l : List Step). Ok l) (sym made_is)

pub planned_not_made : (have want : Copy) (one : EntityId) → IsFirstNotMade have want one → planned have want ≡ Err (fault.NotMade one)
unfolding planned
planned_not_made have want one f = ap (λ (l : List EntityId). unless_not_made l (standing have want) (steps have want)) f.first
