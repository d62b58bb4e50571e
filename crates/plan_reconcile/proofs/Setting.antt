-- The loop that puts the values that still differ into sets.
use Rattle.std.proofs.Common.{◌≡◌, ℕ, zero, suc, ◌+◌, ◌-◌, ◌^◌, ◌*◌, ◌<◌, ◌≤◌, Bool, true, false, cond, List, [], ◌∷◌, ◌++◌, length, take, drop, map, replicate, Some, None, refl, sym, ap, subst, ◌∙◌, append_assoc, pow-suc, arith}
use Rattle.std.specs.Prelude.{◌==◌, ◌&&◌, ◌||◌, not, bytes_eq, nat_le}
use Rattle.std.proofs.lemmas.Bool.Decides.{nat_tests}
use Rattle.std.proofs.lemmas.List.{append-nil, length-append, map-append}
use Rattle.omci_types.specs.declared.EntityId.{EntityId}
use Rattle.frame_spec.specs.Widths.{filled}
use Rattle.class_spec.specs.Classes.{Attribute}
use Rattle.class_spec.specs.Masks.{bit_of, has, mask_where, width_where}
use Rattle.entity_classes.specs.Rule.{IsNumbered, whole_width}
use Rattle.mib_spec.specs.Database.{Values, bytes_of}
use Rattle.upload_spec.specs.Pieces.{mask_of, values_named}
use Rattle.omci_attributes.proofs.Sums.{none_left, width-le, width-step, mask-step, mask-lt}
use Rattle.plan_spec.specs.Steps.{Step, Set, set_of, ended, closed, current, has_room, groups_from, differing}
use Rattle.plan_reconcile.specs.declared.attributes.Part.{Part}
use Rattle.plan_reconcile.specs.declared.sets.Group.{Group}
use Rattle.plan_reconcile.specs.declared.sets.Standing.{Standing}
use Rattle.plan_reconcile.specs.declared.steps.PlanStep.{PlanStep}
use Rattle.plan_reconcile.specs.Made.{steps_of}
use Rattle.plan_reconcile.specs.Turns.{IsPart, IsGroup, Adds, AddsTo, held_from, has_already, flushed, no_group}
use Rattle.plan_reconcile.proofs.Rows.{numbered_at}
use Rattle.plan_reconcile.proofs.Naming.{one_value, bytes_after, bytes_turned, next_new, next_held}

bytes_more : (group : Values) (one : ℕ × List ℕ) → bytes_of (group ++ one ∷ []) ≡ bytes_of group ++ one.1
bytes_more [] one = append-nil one.1
bytes_more (first ∷ rest) one = ap (λ (x : List ℕ). first.1 ++ x) (bytes_more rest one) ∙ sym (append_assoc first.1 (bytes_of rest) one.1)

mask_more : (group : Values) (one : ℕ × List ℕ) → mask_of (group ++ one ∷ []) ≡ mask_of group + bit_of one.0
mask_more [] one = omega arith
mask_more (first ∷ rest) one = omega (arith, mask_more rest one)

pow_positive : (k : ℕ) → 0 < 2 ^ k
pow_positive zero = omega arith
pow_positive (suc k) =
    let power : 2 ^ suc k ≡ 2 ^ k * 2 = pow-suc 2 k in
    omega (arith, pow_positive k)

-- a set of a group is one of its values
pub flushed_is : (one : EntityId) (group : Group) (values : Values) → IsGroup group values → flushed one group ≡ map (set_of one) (closed values)
unfolding set_of
flushed_is one group [] g = ap (λ b. cond b [] (Set one group.mask group.values ∷ [])) {x = group.mask == 0} {y = true} (grind (arith, nat_tests, g.mask))
flushed_is one group (x ∷ rest) g =
    let some : (group.mask == 0) ≡ false = grind (arith, nat_tests, g.mask, pow_positive (16 - x.0)) in
    ap (λ b. cond b [] (Set one group.mask group.values ∷ [])) some ∙ ap (λ m. Set one m group.values ∷ []) g.mask ∙ ap (λ (v : List ℕ). Set one (mask_of (x ∷ rest)) v ∷ []) g.bytes

-- the group with one value more
joined : (group next : Group) (bit : ℕ) (value : List ℕ) (values : Values) (number : ℕ) → IsGroup group values → bit ≡ bit_of number → next.mask ≡ group.mask + bit → next.width ≡ group.width + length value
    → ((bytes : List ℕ) → length bytes ≡ group.width → group.values ≡ filled 30 bytes → next.values ≡ filled 30 (bytes ++ value)) → IsGroup next (values ++ (number, value) ∷ [])
joined group next bit value values number g bit_is mask width bytes = record {
  mask = omega (arith, mask, g.mask, bit_is, mask_more values (number, value));
  width = omega (arith, width, g.width, ap length (bytes_more values (number, value)), length-append (bytes_of values) value);
  bytes = bytes (bytes_of values) (sym g.width) g.bytes ∙ ap (filled 30) (sym (bytes_more values (number, value)));
}

room_is : (group : Group) (value : List ℕ) (values : Values) (number : ℕ) → IsGroup group values → has_room values (number, value) ≡ nat_le (group.width + length value) 30
room_is group value values number g = ap (λ n. nat_le (n + length value) 30) (sym g.width)

-- the value goes into the group
pub adds_fit : (one : EntityId) (group next : Group) (bit : ℕ) (value : List ℕ) (before : List PlanStep) → group.width + length value ≤ 30 → next.mask ≡ group.mask + bit → next.width ≡ group.width + length value
    → ((bytes : List ℕ) → length bytes ≡ group.width → group.values ≡ filled 30 bytes → next.values ≡ filled 30 (bytes ++ value)) → Adds true one group bit value before before next
adds_fit one group next bit value before fit mask width bytes =
    let room : nat_le (group.width + length value) 30 ≡ true = grind (arith, nat_tests, fit) in
    record {
      to = λ values number g bit_is. added values number g (room_is group value values number g ∙ room) (joined group next bit value values number g bit_is mask width bytes);
      small = omega (arith, width, fit);
      mask = omega (arith, mask);
    }
  where
    added : (values : Values) (number : ℕ) → IsGroup group values → has_room values (number, value) ≡ true → IsGroup next (values ++ (number, value) ∷ []) → AddsTo true one (number, value) values before before next
    added values number g fits all = record {
      steps = sym (append-nil (steps_of before)) ∙ sym (ap (λ b. steps_of before ++ map (set_of one) (ended b values)) fits);
      group = subst (λ b. IsGroup next (current b values (number, value))) (sym fits) all;
    }

-- the value begins a group
pub adds_flush : (one : EntityId) (group next : Group) (bit : ℕ) (value : List ℕ) (before after : List PlanStep) → 30 < group.width + length value → length value ≤ 30 → next.mask ≡ 0 + bit → next.width ≡ 0 + length value
    → ((bytes : List ℕ) → length bytes ≡ 0 → ◌≡◌ {A = List ℕ} (replicate 30 0) (filled 30 bytes) → next.values ≡ filled 30 (bytes ++ value)) → steps_of after ≡ steps_of before ++ flushed one group → Adds true one group bit value before after next
adds_flush one group next bit value before after over short mask width bytes steps =
    let room : nat_le (group.width + length value) 30 ≡ false = grind (arith, nat_tests, over) in
    record {
      to = λ values number g bit_is. added values number g (room_is group value values number g ∙ room) (joined no_group next bit value [] number (record { mask = refl; width = refl; bytes = refl }) bit_is mask width bytes);
      small = omega (arith, width, short);
      mask = omega (arith, mask);
    }
  where
    added : (values : Values) (number : ℕ) → IsGroup group values → has_room values (number, value) ≡ false → IsGroup next ([] ++ (number, value) ∷ []) → AddsTo true one (number, value) values before after next
    added values number g fits all = record {
      steps = steps ∙ ap (λ (l : List Step). steps_of before ++ l) (flushed_is one group values g) ∙ sym (ap (λ b. steps_of before ++ map (set_of one) (ended b values)) fits);
      group = subst (λ b. IsGroup next (current b values (number, value))) (sym fits) all;
    }

-- what is left to be set, from an attribute on
abbrev pub left_over : Standing → List Attribute → ℕ → List ℕ → ℕ → ℕ → Values
left_over standing attributes mask bytes from from_held = differing (held_from standing attributes from_held) (values_named attributes mask (drop from bytes)) attributes

pub record SetsSoFar (one : EntityId) (attributes : List Attribute) (mask : ℕ) (bytes : List ℕ) (standing : Standing) (whole : List Step) (place from from_held : ℕ) (group : Group) (steps : List PlanStep) : Type 0 where
  pub values : Values
  pub group_is : IsGroup group values
  pub so_far : steps_of steps ++ map (set_of one) (groups_from values (left_over standing (drop place attributes) mask bytes from from_held)) ≡ whole
  pub small : group.width ≤ 30
  pub bound : group.mask + mask_where (λ _. true) (drop place attributes) < 65536
  pub left : from + width_where (λ one. has mask one.number) (drop place attributes) ≤ 45
  pub left_held : from_held + width_where (λ one. has standing.mask.0 one.number) (drop place attributes) ≤ 45

pub sets_start : (one : EntityId) (attributes : List Attribute) (mask : ℕ) (bytes : List ℕ) (standing : Standing) (steps : List PlanStep) → IsNumbered 1 attributes → length attributes ≤ 13 → whole_width attributes ≤ 45
    → SetsSoFar one attributes mask bytes standing (steps_of steps ++ map (set_of one) (groups_from [] (left_over standing attributes mask bytes 0 0))) 0 0 0 no_group steps
sets_start one attributes mask bytes standing steps numbered few whole = record {
  values = [];
  group_is = record { mask = refl; width = refl; bytes = refl };
  so_far = refl;
  small = omega arith;
  bound = omega (arith, mask-lt (λ _. true) attributes 1 16 numbered (omega (arith, few)) refl);
  left = omega (arith, width-le (λ one. has mask one.number) attributes, whole);
  left_held = omega (arith, width-le (λ one. has standing.mask.0 one.number) attributes, whole);
}

cond_le : (b : Bool) (n m : ℕ) → cond b (n + m) n ≤ n + m
cond_le true n m = omega arith
cond_le false n m = omega arith

-- the values so far and the next one
grouped : (one : EntityId) (differs : Bool) (x : ℕ × List ℕ) (values rest : Values)
    → map (set_of one) (groups_from values (cond differs (x ∷ []) [] ++ rest)) ≡ map (set_of one) (cond differs (ended (has_room values x) values) []) ++ map (set_of one) (groups_from (cond differs (current (has_room values x) values x) values) rest)
grouped one true x values rest = map-append (set_of one) (ended (has_room values x) values) (groups_from (current (has_room values x) values x) rest)
grouped one false x values rest = refl

module _ (one : EntityId) (attributes : List Attribute) (mask : ℕ) (bytes : List ℕ) (standing : Standing) (whole : List Step) (place from from_held : ℕ) (group : Group) (steps : List PlanStep)
    (s : SetsSoFar one attributes mask bytes standing whole place from from_held group steps) (part : Part) (p : IsPart attributes place mask standing.mask.0 part) where
  named_sum : width_where (λ one. has mask one.number) (drop place attributes) ≡ cond part.named part.width 0 + width_where (λ one. has mask one.number) (drop (place + 1) attributes)
  named_sum = width-step (λ one. has mask one.number) attributes place p.one part.named p.rest (sym p.named) ∙ ap (λ w. cond part.named w 0 + width_where (λ one. has mask one.number) (drop (place + 1) attributes)) (sym p.width)

  held_sum : width_where (λ one. has standing.mask.0 one.number) (drop place attributes) ≡ cond part.held part.width 0 + width_where (λ one. has standing.mask.0 one.number) (drop (place + 1) attributes)
  held_sum = width-step (λ one. has standing.mask.0 one.number) attributes place p.one part.held p.rest (sym p.held) ∙ ap (λ w. cond part.held w 0 + width_where (λ one. has standing.mask.0 one.number) (drop (place + 1) attributes)) (sym p.width)

  bit_sum : mask_where (λ _. true) (drop place attributes) ≡ part.bit + mask_where (λ _. true) (drop (place + 1) attributes)
  bit_sum = mask-step (λ _. true) attributes place p.one true p.rest refl ∙ ap (λ b. b + mask_where (λ _. true) (drop (place + 1) attributes)) (sym p.bit)

  pub room_named : from + cond part.named part.width 0 ≤ 45
  room_named = omega (arith, s.left, named_sum)

  pub room_held : from_held + cond part.held part.width 0 ≤ 45
  room_held = omega (arith, s.left_held, held_sum)

  pub bit_small : group.mask + part.bit < 65536
  bit_small = omega (arith, s.bound, bit_sum)

  module _ (numbered : IsNumbered 1 attributes) (value : List ℕ) (value_is : value ≡ take part.width (drop from bytes)) (differs : Bool) (differs_is : differs ≡ (part.named && not (has_already standing part from_held value)))
      (from' from_held' : ℕ) (from_is : from' ≡ from + cond part.named part.width 0) (from_held_is : from_held' ≡ from_held + cond part.held part.width 0) where
    abbrev pub x : ℕ × List ℕ
    x = (p.one.number, value)

    rest_is : IsNumbered (1 + place) (p.one ∷ drop (place + 1) attributes)
    rest_is = numbered_at attributes place p.one numbered p.rest

    turned : bytes_after (has mask p.one.number) p.one.width (drop from bytes) ≡ drop from' bytes
    turned = ap (λ w. bytes_after (has mask p.one.number) w (drop from bytes)) (sym p.width) ∙ ap (λ b. bytes_after b part.width (drop from bytes)) (sym p.named) ∙ bytes_turned part.named part.width from from' bytes from_is

    held_turned : bytes_after (has standing.mask.0 p.one.number) p.one.width (drop from_held standing.values.now) ≡ drop from_held' standing.values.now
    held_turned = ap (λ w. bytes_after (has standing.mask.0 p.one.number) w (drop from_held standing.values.now)) (sym p.width) ∙ ap (λ b. bytes_after b part.width (drop from_held standing.values.now)) (sym p.held) ∙ bytes_turned part.held part.width from_held from_held' standing.values.now from_held_is

    v_is : take p.one.width (drop from bytes) ≡ value
    v_is = ap (λ w. take w (drop from bytes)) (sym p.width) ∙ sym value_is

    opened_new : standing.is_new ≡ true → differing None (values_named (p.one ∷ drop (place + 1) attributes) mask (drop from bytes)) (p.one ∷ drop (place + 1) attributes) ≡ one_value differs p.one.number value ++ differing None (values_named (drop (place + 1) attributes) mask (drop from' bytes)) (drop (place + 1) attributes)
    opened_new new =
        let already : differs ≡ (has mask p.one.number && not (p.one.created || bytes_eq (replicate p.one.width 0) value)) =
        differs_is ∙ ap (λ b. b && not (has_already standing part from_held value)) p.named
        ∙ ap (λ b. has mask p.one.number && not (cond b (part.created || bytes_eq (replicate part.width 0) value) (part.held && bytes_eq (take part.width (drop from_held standing.values.now)) value))) new
        ∙ ap (λ b. has mask p.one.number && not (b || bytes_eq (replicate part.width 0) value)) p.created
        ∙ ap (λ w. has mask p.one.number && not (p.one.created || bytes_eq (replicate w 0) value)) p.width in
        next_new p.one (drop (place + 1) attributes) (1 + place) mask (drop from bytes) rest_is
        ∙ ap (λ (v : List ℕ). one_value (has mask p.one.number && not (p.one.created || bytes_eq (replicate p.one.width 0) v)) p.one.number v ++ differing None (values_named (drop (place + 1) attributes) mask (bytes_after (has mask p.one.number) p.one.width (drop from bytes))) (drop (place + 1) attributes)) v_is
        ∙ ap (λ b. one_value b p.one.number value ++ differing None (values_named (drop (place + 1) attributes) mask (bytes_after (has mask p.one.number) p.one.width (drop from bytes))) (drop (place + 1) attributes)) (sym already)
        ∙ ap (λ (l : List ℕ). one_value differs p.one.number value ++ differing None (values_named (drop (place + 1) attributes) mask l) (drop (place + 1) attributes)) turned

    opened_held : standing.is_new ≡ false
        → differing (Some (values_named (p.one ∷ drop (place + 1) attributes) standing.mask.0 (drop from_held standing.values.now))) (values_named (p.one ∷ drop (place + 1) attributes) mask (drop from bytes)) (p.one ∷ drop (place + 1) attributes)
        ≡ one_value differs p.one.number value ++ differing (Some (values_named (drop (place + 1) attributes) standing.mask.0 (drop from_held' standing.values.now))) (values_named (drop (place + 1) attributes) mask (drop from' bytes)) (drop (place + 1) attributes)
    opened_held old =
        let hb : List ℕ = drop from_held standing.values.now in
        let held_after : List ℕ = bytes_after (has standing.mask.0 p.one.number) p.one.width hb in
        let after : List ℕ = bytes_after (has mask p.one.number) p.one.width (drop from bytes) in
        let tail : List ℕ → List ℕ → Values = λ h l. differing (Some (values_named (drop (place + 1) attributes) standing.mask.0 h)) (values_named (drop (place + 1) attributes) mask l) (drop (place + 1) attributes) in
        let already : differs ≡ (has mask p.one.number && not (has standing.mask.0 p.one.number && bytes_eq (take p.one.width hb) value)) =
        differs_is ∙ ap (λ b. b && not (has_already standing part from_held value)) p.named
        ∙ ap (λ b. has mask p.one.number && not (cond b (part.created || bytes_eq (replicate part.width 0) value) (part.held && bytes_eq (take part.width hb) value))) old
        ∙ ap (λ b. has mask p.one.number && not (b && bytes_eq (take part.width hb) value)) p.held
        ∙ ap (λ w. has mask p.one.number && not (has standing.mask.0 p.one.number && bytes_eq (take w hb) value)) p.width in
        next_held p.one (drop (place + 1) attributes) (1 + place) mask (drop from bytes) rest_is standing.mask.0 hb
        ∙ ap (λ (v : List ℕ). one_value (has mask p.one.number && not (has standing.mask.0 p.one.number && bytes_eq (take p.one.width hb) v)) p.one.number v ++ tail held_after after) v_is
        ∙ ap (λ b. one_value b p.one.number value ++ tail held_after after) (sym already)
        ∙ ap (λ (l : List ℕ). one_value differs p.one.number value ++ tail held_after l) turned
        ∙ ap (λ (h : List ℕ). one_value differs p.one.number value ++ tail h (drop from' bytes)) held_turned

    opened : left_over standing (drop place attributes) mask bytes from from_held ≡ one_value differs p.one.number value ++ left_over standing (drop (place + 1) attributes) mask bytes from' from_held'
    opened = ap (λ (l : List Attribute). left_over standing l mask bytes from from_held) p.rest ∙ go standing.is_new refl
      where
        go : (b : Bool) → standing.is_new ≡ b
            → differing (cond b None (Some (values_named (p.one ∷ drop (place + 1) attributes) standing.mask.0 (drop from_held standing.values.now)))) (values_named (p.one ∷ drop (place + 1) attributes) mask (drop from bytes)) (p.one ∷ drop (place + 1) attributes)
            ≡ one_value differs p.one.number value ++ differing (cond b None (Some (values_named (drop (place + 1) attributes) standing.mask.0 (drop from_held' standing.values.now)))) (values_named (drop (place + 1) attributes) mask (drop from' bytes)) (drop (place + 1) attributes)
        go true is = opened_new is
        go false is = opened_held is

    pub sets_next : (steps' : List PlanStep) (next : Group) → Adds differs one group part.bit value steps steps' next → SetsSoFar one attributes mask bytes standing whole (place + 1) from' from_held' next steps'
    sets_next steps' next a =
        let to : AddsTo differs one x s.values steps steps' next = a.to s.values p.one.number s.group_is p.bit in
        let values' : Values = cond differs (current (has_room s.values x) s.values x) s.values in
        let L' : Values = left_over standing (drop (place + 1) attributes) mask bytes from' from_held' in
        let A : List Step = map (set_of one) (cond differs (ended (has_room s.values x) s.values) []) in
        let B : List Step = map (set_of one) (groups_from values' L') in
        let both : map (set_of one) (groups_from s.values (left_over standing (drop place attributes) mask bytes from from_held)) ≡ A ++ B = ap (λ (l : Values). map (set_of one) (groups_from s.values l)) opened ∙ grouped one differs x s.values L' in
        record {
          values = values';
          group_is = to.group;
          so_far = ap (λ (l : List Step). l ++ B) to.steps ∙ append_assoc (steps_of steps) A B ∙ ap (λ (l : List Step). steps_of steps ++ l) (sym both) ∙ s.so_far;
          small = a.small;
          bound = omega (arith, s.bound, bit_sum, a.mask, cond_le differs group.mask part.bit);
          left = omega (arith, s.left, named_sum, from_is);
          left_held = omega (arith, s.left_held, held_sum, from_held_is);
        }

pub sets_end : (one : EntityId) (attributes : List Attribute) (mask : ℕ) (bytes : List ℕ) (standing : Standing) (whole : List Step) (place from from_held : ℕ) (group : Group) (steps : List PlanStep)
    → SetsSoFar one attributes mask bytes standing whole place from from_held group steps → length attributes ≤ place → steps_of steps ++ flushed one group ≡ whole
sets_end one attributes mask bytes standing whole place from from_held group steps s le =
    let none : drop place attributes ≡ [] = none_left attributes place le in
    ap (λ (l : List Step). steps_of steps ++ l) (flushed_is one group s.values s.group_is)
    ∙ sym (ap (λ (l : List Attribute). steps_of steps ++ map (set_of one) (groups_from s.values (left_over standing l mask bytes from from_held))) none) ∙ s.so_far
