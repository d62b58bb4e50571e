-- The pieces of a copy, joined one after the other.
use Rattle.std.proofs.Common.{◌≡◌, ℕ, zero, suc, ◌+◌, ◌<◌, ◌≤◌, ◌^◌, true, false, cond, List, [], ◌∷◌, ◌++◌, length, take, drop, map, replicate, Some, None, is_some, refl, sym, ap, subst, ◌∙◌, append_assoc, arith}
use Rattle.std.specs.Prelude.{◌-◌}
use Rattle.std.specs.Int.{from_be_bytes, to_be_bytes, w16}
use Rattle.std.specs.List.{flat_map}
use Rattle.std.specs.Map.{lookup}
use Rattle.std.specs.BTreeMap.{insert_entry, is_at}
use Rattle.std.specs.Option.{option_map_or}
use Rattle.std.specs.Ordering.{is_eq, match_ordering, ordering_reverse}
use Rattle.std.specs.Cmp.{tied_itself}
use Rattle.std.specs.declared.cmp.Ordering.TheVariants.{Less, Equal, Greater}
use Rattle.std.proofs.lemmas.Bool.Decides.{nat_tests}
use Rattle.std.proofs.lemmas.Nat.{from_be_bytes-to_be_bytes_2}
use Rattle.std.proofs.lemmas.List.{append-nil, take-append-drop, length-append, length-take-le}
use Rattle.omci_types.specs.declared.EntityId.{EntityId}
use Rattle.class_spec.specs.Classes.{Attribute, Row}
use Rattle.class_spec.specs.Masks.{has}
use Rattle.mib_spec.specs.Database.{Values, entity, entity_cmp, bytes_of}
use Rattle.mib_spec.specs.Requests.{is_class}
use Rattle.upload_spec.specs.declared.TheConstants.{PIECE_ROOM}
use Rattle.upload_spec.specs.Pieces.{Copy, fits, current, ended, groups_from, mask_of, piece_of, pieces_of, pieces, entity_in, mask_in, bytes_in, values_named}
use Rattle.upload_spec.specs.Copies.{copied, copied_values, with_copied, overlay, attributes_of, piece_values, with_overlay, with_piece, joined_to, join}
use Rattle.mib_laws.proofs.Others.{entity_total}
use Rattle.upload_laws.specs.Shaped.{IsShaped, IsWholeEntry, ComesBefore, IsWhole}
use Rattle.upload_laws.proofs.Masks.{IsRun, run_mask, mask_run, has_run, run_small, in_run}
use Rattle.upload_laws.proofs.Runs.{later_shaped, later_numbered, front_numbered, shaped_length, shaped_run, run_front, run_back, named_skip, named_run, overlay_after}

-- every entity of the copy comes before this one
abbrev Under : Copy → EntityId → Type 0
Under [] one = Unit {0}
Under (other ∷ rest) one = (entity_cmp one other.0 ≡ Greater) × Under rest one

abbrev AllUnder : Copy → Copy → Type 0
AllUnder copy [] = Unit {0}
AllUnder copy (one ∷ rest) = Under copy one.0 × AllUnder copy rest

turned : (a b : EntityId) → entity_cmp a b ≡ Less → entity_cmp b a ≡ Greater
turned a b h = entity_total.antisymm b a ∙ ap ordering_reverse h

itself : (one : EntityId) → entity_cmp one one ≡ Equal
itself one = tied_itself entity_total one

insert_end : (copy : Copy) (one : EntityId) (values : Values) → Under copy one → insert_entry entity_cmp copy one values ≡ copy ++ (one, values) ∷ []
insert_end [] one values h = refl
insert_end (other ∷ rest) one values h =
    ap (λ r. match_ordering r ((one, values) ∷ other ∷ rest) ((other.0, values) ∷ rest) (other ∷ insert_entry entity_cmp rest one values)) h.0
    ∙ ap (λ (c : Copy). other ∷ c) (insert_end rest one values h.1)

insert_again : (copy : Copy) (one : EntityId) (before values : Values) → Under copy one → insert_entry entity_cmp (copy ++ (one, before) ∷ []) one values ≡ copy ++ (one, values) ∷ []
insert_again [] one before values h = ap (λ r. match_ordering r ((one, values) ∷ (one, before) ∷ []) ((one, values) ∷ []) ((one, before) ∷ insert_entry entity_cmp [] one values)) (itself one)
insert_again (other ∷ rest) one before values h =
    ap (λ r. match_ordering r ((one, values) ∷ other ∷ (rest ++ (one, before) ∷ [])) ((other.0, values) ∷ (rest ++ (one, before) ∷ [])) (other ∷ insert_entry entity_cmp (rest ++ (one, before) ∷ []) one values)) h.0
    ∙ ap (λ (c : Copy). other ∷ c) (insert_again rest one before values h.1)

find_none : (copy : Copy) (one : EntityId) → Under copy one → lookup (is_at (entity_cmp one)) copy ≡ None
find_none [] one h = refl
find_none (other ∷ rest) one h = ap (λ r. cond (is_eq r) (Some other.1) (lookup (is_at (entity_cmp one)) rest)) h.0 ∙ find_none rest one h.1

find_end : (copy : Copy) (one : EntityId) (values : Values) → Under copy one → lookup (is_at (entity_cmp one)) (copy ++ (one, values) ∷ []) ≡ Some values
find_end [] one values h = ap (λ r. cond (is_eq r) (Some values) None) (itself one)
find_end (other ∷ rest) one values h = ap (λ r. cond (is_eq r) (Some other.1) (lookup (is_at (entity_cmp one)) (rest ++ (one, values) ∷ []))) h.0 ∙ find_end rest one values h.1

-- a copy in which the entity has these values so far, at the end of the others
record Has (front : Copy) (one : EntityId) (values : Values) (copy : Copy) : Type 0 where
  now : copied_values one copy ≡ values
  next : (v : Values) → with_copied one v copy ≡ front ++ (one, v) ∷ []

has_none : (front : Copy) (one : EntityId) → Under front one → Has front one [] front
unfolding copied_values copied with_copied
has_none front one h = record { now = ap (λ o. option_map_or (λ values. values) o []) (find_none front one h); next = λ v. insert_end front one v h }

has_some : (front : Copy) (one : EntityId) (values : Values) → Under front one → Has front one values (front ++ (one, values) ∷ [])
unfolding copied_values copied with_copied
has_some front one values h = record { now = ap (λ o. option_map_or (λ values. values) o []) (find_end front one values h); next = λ v. insert_again front one values v h }

-- what a piece says
same_entity : (a : EntityId) (class instance : ℕ) → class ≡ a.class → instance ≡ a.instance → entity class instance ≡ a
same_entity a class instance c i = ap (λ n. entity n instance) c ∙ ap (λ n. entity a.class n) i

module _ (one : EntityId) (values : Values) (whole : IsWholeEntry one values) where
  abbrev attributes : List Attribute
  attributes = whole.row.attributes

  piece_entity : (group : Values) → entity_in (piece_of one group) ≡ one
  unfolding piece_of
  piece_entity group = same_entity one (from_be_bytes w16 (to_be_bytes w16 one.class)) (from_be_bytes w16 (to_be_bytes w16 one.instance)) (from_be_bytes-to_be_bytes_2 one.class whole.class) (from_be_bytes-to_be_bytes_2 one.instance whole.instance)

  piece_mask : (group : Values) → mask_of group < 2 ^ 16 → mask_in (piece_of one group) ≡ mask_of group
  unfolding piece_of
  piece_mask group lt = from_be_bytes-to_be_bytes_2 (mask_of group) lt

  piece_bytes : (group : Values) → bytes_in (piece_of one group) ≡ bytes_of group ++ replicate (PIECE_ROOM - length (bytes_of group)) 0
  unfolding piece_of
  piece_bytes group = refl

  class_attributes : attributes_of one.class ≡ attributes
  class_attributes = ap (λ o. option_map_or (λ (row : Row). row.attributes) o []) whole.is

  class_known : is_class one.class ≡ true
  class_known = ap is_some whole.is

  module _ (front group rest : Values) (s : IsShaped attributes (front ++ (group ++ rest))) where
    k : ℕ
    k = length front

    all : IsRun 1 (front ++ (group ++ rest))
    all = shaped_run attributes 1 (front ++ (group ++ rest)) whole.numbered s

    group_run : IsRun (1 + k) group
    unfolding k
    group_run = run_front (1 + k) group rest (run_back 1 front (group ++ rest) all)

    count : k + (length group + length rest) ≡ length attributes
    unfolding k
    count = omega (arith, shaped_length attributes (front ++ (group ++ rest)) s, length-append front (group ++ rest), length-append group rest)

    mask_is : mask_of group ≡ run_mask (k + 1) (length group)
    mask_is = ap (λ n. mask_of group) (refl {a = k}) ∙ mask_run (k + 1) group (subst (λ n. IsRun n group) (omega arith) group_run)

    few : k + 1 + length group ≤ 17
    few = omega (arith, count, whole.few)

    names : (n : ℕ) → 1 ≤ n → n ≤ 16 → has (mask_of group) n ≡ in_run (k + 1) (length group) n
    names zero low high = absurd (omega arith)
    names (suc n) low high = ap (λ m. has m (suc n)) mask_is ∙ subst (λ i. has (run_mask (k + 1) (length group)) i ≡ in_run (k + 1) (length group) i) {x = n + 1} {y = suc n} (omega arith) (has_run k (length group) n few (omega arith))

    values_of_piece : piece_values (piece_of one group) ≡ group
    unfolding k
    values_of_piece =
        let zeros : List ℕ = replicate (PIECE_ROOM - length (bytes_of group)) 0 in
        let mask : ℕ = mask_of group in
        let small : mask < 2 ^ 16 = omega (arith, mask_is, run_small k (length group) few) in
        let reads : piece_values (piece_of one group) ≡ values_named attributes mask (bytes_of group ++ zeros) =
        ap (λ (e : EntityId). values_named (attributes_of e.class) (mask_in (piece_of one group)) (bytes_in (piece_of one group))) (piece_entity group)
        ∙ ap (λ (l : List Attribute). values_named l (mask_in (piece_of one group)) (bytes_in (piece_of one group))) class_attributes
        ∙ ap (λ m. values_named attributes m (bytes_in (piece_of one group))) (piece_mask group small)
        ∙ ap (values_named attributes mask) (piece_bytes group) in
        let within : k ≤ length attributes = omega (arith, count) in
        let size : length (take k attributes) ≡ k = length-take-le k attributes within in
        let sizes : k + length (drop k attributes) ≡ length attributes = omega (arith, size, ap length (take-append-drop k attributes), length-append (take k attributes) (drop k attributes)) in
        let below : (n : ℕ) → 1 ≤ n → n < 1 + length (take k attributes) → has mask n ≡ false =
        λ n low high. names n low (omega (arith, high, size, count, whole.few)) ∙ grind (arith, nat_tests, high, size) in
        let inside : (n : ℕ) → 1 + k ≤ n → n < 1 + k + length group → has mask n ≡ true =
        λ n low high. names n (omega (arith, low)) (omega (arith, high, few)) ∙ grind (arith, nat_tests, low, high) in
        let above : (n : ℕ) → 1 + k + length group ≤ n → n < 1 + k + length (drop k attributes) → has mask n ≡ false =
        λ n low high. names n (omega (arith, low)) (omega (arith, high, sizes, whole.few)) ∙ grind (arith, nat_tests, low) in
        reads
        ∙ ap (λ (l : List Attribute). values_named l mask (bytes_of group ++ zeros)) (sym (take-append-drop k attributes))
        ∙ named_skip (take k attributes) (drop k attributes) 1 mask (bytes_of group ++ zeros) (front_numbered attributes 1 k whole.numbered) below
        ∙ named_run (drop k attributes) (1 + k) mask group rest zeros (later_numbered attributes 1 k whole.numbered) (later_shaped attributes front (group ++ rest) s) inside above

    -- the piece of a group puts its values after those before it
    step : (before copy : Copy) → Has before one front copy → with_piece (piece_of one group) copy ≡ before ++ (one, front ++ group) ∷ []
    unfolding with_piece k
    step before copy has_it =
        ap (λ (e : EntityId). cond (is_class e.class) (with_overlay e (piece_values (piece_of one group)) copy) copy) (piece_entity group)
        ∙ ap (λ b. cond b (with_overlay one (piece_values (piece_of one group)) copy) copy) class_known
        ∙ ap (λ (v : Values). with_overlay one v copy) values_of_piece
        ∙ ap (λ (l : List Attribute). with_copied one (overlay l (copied_values one copy) group) copy) class_attributes
        ∙ ap (λ (v : Values). with_copied one (overlay attributes v group) copy) has_it.now
        ∙ ap (λ (v : Values). with_copied one v copy) (overlay_after attributes 1 front group rest whole.numbered s group_run)
        ∙ has_it.next (front ++ group)

  -- the pieces of the values that are left, the current group first
  run : (rest group front : Values) (before copy : Copy) → Under before one → Has before one front copy → IsShaped attributes (front ++ (group ++ rest)) → joined_to copy (map (piece_of one) (groups_from group rest)) ≡ before ++ (one, front ++ (group ++ rest)) ∷ []
  run [] group front before copy under has_it s =
      step front group [] s before copy has_it ∙ ap (λ (g : Values). before ++ (one, front ++ g) ∷ []) (sym (append-nil group))
  run (v ∷ rest) group front before copy under has_it s =
      elim (fits group v) as (λ b. joined_to copy (map (piece_of one) (ended b group ++ groups_from (current b group v) rest)) ≡ before ++ (one, front ++ (group ++ v ∷ rest)) ∷ []) [
        | true ↦
            let joins : (group ++ v ∷ []) ++ rest ≡ group ++ v ∷ rest = append_assoc group (v ∷ []) rest in
            run rest (group ++ v ∷ []) front before copy under has_it (subst (λ l. IsShaped attributes (front ++ l)) (sym joins) s)
            ∙ ap (λ (l : Values). before ++ (one, front ++ l) ∷ []) joins
        | false ↦
            let joins : (front ++ group) ++ (v ∷ rest) ≡ front ++ (group ++ v ∷ rest) = append_assoc front group (v ∷ rest) in
            ap (λ (c : Copy). joined_to c (map (piece_of one) (groups_from (v ∷ []) rest))) (step front group (v ∷ rest) s before copy has_it)
            ∙ run rest (v ∷ []) (front ++ group) before (before ++ (one, front ++ group) ∷ []) under (has_some before one (front ++ group) under) (subst (λ l. IsShaped attributes l) (sym joins) s)
            ∙ ap (λ (l : Values). before ++ (one, l) ∷ []) joins
      ]

  entity_joined : (before : Copy) → Under before one → joined_to before (pieces_of one values) ≡ before ++ (one, values) ∷ []
  entity_joined before under = run values [] [] before before under (has_none before one under) whole.shaped

joined_append : (copy : Copy) (front back : List (List ℕ)) → joined_to copy (front ++ back) ≡ joined_to (joined_to copy front) back
joined_append copy [] back = refl
joined_append copy (piece ∷ rest) back = joined_append (with_piece piece copy) rest back

under_more : (copy : Copy) (one other : EntityId) (values : Values) → Under copy other → entity_cmp one other ≡ Less → Under (copy ++ (one, values) ∷ []) other
under_more [] one other values h less = (turned one other less, tt)
under_more (c ∷ cs) one other values h less = (h.0, under_more cs one other values h.1 less)

all_under_more : (copy : Copy) (one : EntityId) (values : Values) (rest : Copy) → AllUnder copy rest → ComesBefore one rest → AllUnder (copy ++ (one, values) ∷ []) rest
all_under_more copy one values [] h b = tt
all_under_more copy one values (r ∷ rs) h b = (under_more copy one r.0 values h.0 b.0, all_under_more copy one values rs h.1 b.1)

all_joined : (rest before : Copy) → IsWhole rest → AllUnder before rest → joined_to before (flat_map (λ (one : EntityId × Values). pieces_of one.0 one.1) rest) ≡ before ++ rest
all_joined [] before w u = sym (append-nil before)
all_joined (one ∷ rest) before w u =
    joined_append before (pieces_of one.0 one.1) (flat_map (λ (one : EntityId × Values). pieces_of one.0 one.1) rest)
    ∙ ap (λ (c : Copy). joined_to c (flat_map (λ (one : EntityId × Values). pieces_of one.0 one.1) rest)) (entity_joined one.0 one.1 w.0 before u.0)
    ∙ all_joined rest (before ++ one ∷ []) w.2 (all_under_more before one.0 one.1 rest u.1 w.1)
    ∙ append_assoc before (one ∷ []) rest

all_under_none : (rest : Copy) → AllUnder [] rest
all_under_none [] = tt
all_under_none (one ∷ rest) = (tt, all_under_none rest)

pub pieces_joined : (copy : Copy) → IsWhole copy → join (pieces copy) ≡ copy
unfolding join pieces
pieces_joined copy w = all_joined copy [] w (all_under_none copy)
