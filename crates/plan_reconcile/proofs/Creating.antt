-- The loop that makes the bytes of a create.
use Rattle.std.proofs.Common.{◌≡◌, ℕ, ◌+◌, ◌-◌, ◌≤◌, Bool, true, false, cond, List, [], ◌++◌, length, take, drop, replicate, refl, sym, ap, ◌∙◌, append_assoc, arith}
use Rattle.std.proofs.lemmas.List.{append-nil, length-append, length-replicate, length-take-le, length-drop}
use Rattle.frame_spec.specs.Widths.{filled}
use Rattle.class_spec.specs.Classes.{Attribute}
use Rattle.class_spec.specs.Masks.{has, width_where}
use Rattle.entity_classes.specs.Rule.{whole_width, created_width}
use Rattle.omci_attributes.proofs.Sums.{none_left, width-le, width-step}
use Rattle.plan_reconcile.specs.declared.attributes.Part.{Part}
use Rattle.plan_reconcile.specs.Made.{made_bytes}
use Rattle.plan_reconcile.specs.Turns.{IsPart}
use Rattle.plan_reconcile.proofs.Naming.{bytes_after, bytes_turned}

pub record MadeSoFar (attributes : List Attribute) (mask : ℕ) (values made : List ℕ) (place to from : ℕ) : Type 0 where
  pub before : List ℕ
  pub row : made ≡ filled 32 before
  pub len : length before ≡ to
  pub so_far : before ++ made_bytes (drop place attributes) mask (drop from values) ≡ made_bytes attributes mask values
  pub room : to + width_where (λ one. one.created) (drop place attributes) ≤ 32
  pub left : from + width_where (λ one. has mask one.number) (drop place attributes) ≤ 45

pub made_start : (attributes : List Attribute) (mask : ℕ) (values : List ℕ) → created_width attributes ≤ 32 → whole_width attributes ≤ 45 → MadeSoFar attributes mask values (replicate 32 0) 0 0 0
made_start attributes mask values created whole = record {
  before = [];
  row = refl;
  len = refl;
  so_far = refl;
  room = omega (arith, created);
  left = omega (arith, width-le (λ one. has mask one.number) attributes, whole);
}

pub filled_length : (n : ℕ) (bytes : List ℕ) → length bytes ≤ n → length (filled n bytes) ≡ n
filled_length n bytes le = omega (arith, length-append bytes (replicate (n - length bytes) 0), length-replicate {A = ℕ} (n - length bytes) 0, le)

module _ (attributes : List Attribute) (mask holds place : ℕ) (part : Part) (p : IsPart attributes place mask holds part) (values made : List ℕ) (to from : ℕ) (s : MadeSoFar attributes mask values made place to from) where
  created_sum : width_where (λ one. one.created) (drop place attributes) ≡ cond part.created part.width 0 + width_where (λ one. one.created) (drop (place + 1) attributes)
  created_sum = width-step (λ one. one.created) attributes place p.one part.created p.rest (sym p.created) ∙ ap (λ w. cond part.created w 0 + width_where (λ one. one.created) (drop (place + 1) attributes)) (sym p.width)

  named_sum : width_where (λ one. has mask one.number) (drop place attributes) ≡ cond part.named part.width 0 + width_where (λ one. has mask one.number) (drop (place + 1) attributes)
  named_sum = width-step (λ one. has mask one.number) attributes place p.one part.named p.rest (sym p.named) ∙ ap (λ w. cond part.named w 0 + width_where (λ one. has mask one.number) (drop (place + 1) attributes)) (sym p.width)

  pub room_created : to + cond part.created part.width 0 ≤ 32
  room_created = omega (arith, s.room, created_sum)

  pub room_named : from + cond part.named part.width 0 ≤ 45
  room_named = omega (arith, s.left, named_sum)

  module _ (whole : length values ≡ 45) (value : List ℕ) (value_is : value ≡ cond part.named (take part.width (drop from values)) (replicate part.width 0)) where
    pub value_length : length value ≡ part.width
    value_length = ap length value_is ∙ go part.named refl
      where
        go : (b : Bool) → part.named ≡ b → length (cond b (take part.width (drop from values)) (replicate part.width 0)) ≡ part.width
        go true is = length-take-le part.width (drop from values) (omega (arith, length-drop from values, whole, room_named, ap (λ b. cond b part.width 0) is))
        go false is = length-replicate part.width 0

    pub made_fits : part.created ≡ true → to + length value ≤ length made
    made_fits is = omega (arith, room_created, ap (λ b. cond b part.width 0) is, value_length, ap length s.row, filled_length 32 s.before (omega (arith, s.len, room_created)))

    pub made_next : (made' : List ℕ) (to' from' : ℕ) → ((before : List ℕ) → length before ≡ to → made ≡ filled (length made) before → made' ≡ filled (length made) (before ++ cond part.created value [])) → to' ≡ to + cond part.created part.width 0 → from' ≡ from + cond part.named part.width 0
        → MadeSoFar attributes mask values made' (place + 1) to' from'
    made_next made' to' from' put to_is from_is =
        let V : List ℕ = cond part.created value [] in
        let size : length made ≡ 32 = ap length s.row ∙ filled_length 32 s.before (omega (arith, s.len, room_created)) in
        let after : List ℕ = drop from' values in
        let M : List ℕ = made_bytes (drop (place + 1) attributes) mask after in
        let turned : bytes_after (has mask p.one.number) p.one.width (drop from values) ≡ after =
        ap (λ w. bytes_after (has mask p.one.number) w (drop from values)) (sym p.width) ∙ ap (λ b. bytes_after b part.width (drop from values)) (sym p.named) ∙ bytes_turned part.named part.width from from' values from_is in
        let V_is : cond p.one.created (cond (has mask p.one.number) (take p.one.width (drop from values)) (replicate p.one.width 0)) [] ≡ V =
        ap (λ w. cond p.one.created (cond (has mask p.one.number) (take w (drop from values)) (replicate w 0)) []) (sym p.width)
        ∙ ap (λ b. cond p.one.created (cond b (take part.width (drop from values)) (replicate part.width 0)) []) (sym p.named)
        ∙ ap (λ (x : List ℕ). cond p.one.created x []) (sym value_is) ∙ ap (λ b. cond b value []) (sym p.created) in
        let opened : made_bytes (drop place attributes) mask (drop from values) ≡ V ++ M =
        ap (λ (l : List Attribute). made_bytes l mask (drop from values)) p.rest
        ∙ ap (λ (x : List ℕ). x ++ made_bytes (drop (place + 1) attributes) mask (bytes_after (has mask p.one.number) p.one.width (drop from values))) V_is
        ∙ ap (λ (x : List ℕ). V ++ made_bytes (drop (place + 1) attributes) mask x) turned in
        let V_len : length V ≡ cond part.created part.width 0 = go part.created in
        record {
          before = s.before ++ V;
          row = put s.before s.len (s.row ∙ ap (λ n. filled n s.before) (sym size)) ∙ ap (λ n. filled n (s.before ++ V)) size;
          len = length-append s.before V ∙ omega (arith, V_len, s.len, to_is);
          so_far = append_assoc s.before V M ∙ ap (λ (x : List ℕ). s.before ++ x) (sym opened) ∙ s.so_far;
          room = omega (arith, s.room, created_sum, to_is);
          left = omega (arith, s.left, named_sum, from_is);
        }
      where
        go : (b : Bool) → length (cond b value []) ≡ cond b part.width 0
        go true = value_length
        go false = refl

pub made_end : (attributes : List Attribute) (mask : ℕ) (values made : List ℕ) (place to from : ℕ) → MadeSoFar attributes mask values made place to from → length attributes ≤ place → made ≡ filled 32 (made_bytes attributes mask values)
made_end attributes mask values made place to from s le =
    let nothing : made_bytes (drop place attributes) mask (drop from values) ≡ [] = ap (λ (l : List Attribute). made_bytes l mask (drop from values)) (none_left attributes place le) in
    let all : s.before ≡ made_bytes attributes mask values = sym (append-nil s.before) ∙ ap (λ (x : List ℕ). s.before ++ x) (sym nothing) ∙ s.so_far in
    s.row ∙ ap (filled 32) all
