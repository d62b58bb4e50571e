-- The loops over a class's values, value by value.
use Rattle.std.proofs.Common.{◌≡◌, ℕ, ◌+◌, ◌-◌, ◌≤◌, Bool, true, false, cond, List, [], ◌++◌, length, take, drop, replicate, refl, sym, ap, subst, ◌∙◌, append_assoc, length-take, length-drop, arith}
use Rattle.std.proofs.lemmas.List.{drop-drop, take-append-drop, append-nil, length-take-le}
use Rattle.std.proofs.Math.Seq.{take-add}
use Rattle.class_spec.specs.Classes.{Attribute}
use Rattle.class_spec.specs.Masks.{width_where}
use Rattle.entity_classes.specs.Rule.{whole_width}
use Rattle.omci_attributes.proofs.Sums.{none_left, width-step}
use Rattle.frame_spec.specs.Widths.{filled}
use Rattle.mib_store.proofs.Counter.{drop_zeros}
use Rattle.mib_store.specs.declared.layout.Step.{Step}
use Rattle.mib_store.specs.Layout.{chosen_bytes, with_chosen}
use Rattle.mib_store.specs.Step.{IsStep}

-- what a call that puts the bytes where they are picked has done
pub record Puts (picked : Bool) (bytes before after : List ℕ) (at put : ℕ) : Type 0 where
  pub count : put ≡ cond picked (length bytes) 0
  pub off : picked ≡ false → after ≡ before
  pub front : picked ≡ true → take (at + length bytes) after ≡ take at before ++ bytes
  pub back : picked ≡ true → drop (at + length bytes) after ≡ drop (at + length bytes) before

module _ (passes : Attribute → Bool) (attributes : List Attribute) (n : ℕ) (step : Step) (is : IsStep attributes passes n step) where
  later : List Attribute
  later = drop (n + 1) attributes

  -- the sums go on by the attribute's width
  pub whole_goes : whole_width (drop n attributes) ≡ step.width + whole_width (drop (n + 1) attributes)
  whole_goes = ap whole_width is.rest ∙ ap (λ w. w + whole_width (drop (n + 1) attributes)) (sym is.width)

  pub width_goes : width_where passes (drop n attributes) ≡ cond step.picked step.width 0 + width_where passes (drop (n + 1) attributes)
  width_goes = width-step passes attributes n is.one step.picked is.rest (sym is.picked)
      ∙ ap (λ w. cond step.picked w 0 + width_where passes (drop (n + 1) attributes)) (sym is.width)

  overwritten_goes : (given bytes : List ℕ) → with_chosen passes (drop n attributes) given bytes
      ≡ cond step.picked (take step.width given) (take step.width bytes) ++ with_chosen passes (drop (n + 1) attributes) (cond step.picked (drop step.width given) given) (drop step.width bytes)
  overwritten_goes given bytes =
      ap (λ (l : List Attribute). with_chosen passes l given bytes) is.rest
      ∙ ap (λ b. cond b (take is.one.width given) (take is.one.width bytes) ++ with_chosen passes (drop (n + 1) attributes) (cond b (drop is.one.width given) given) (drop is.one.width bytes)) (sym is.picked)
      ∙ ap (λ w. cond step.picked (take w given) (take w bytes) ++ with_chosen passes (drop (n + 1) attributes) (cond step.picked (drop w given) given) (drop w bytes)) (sym is.width)

  picked_goes : (bytes : List ℕ) → chosen_bytes passes (drop n attributes) bytes
      ≡ cond step.picked (take step.width bytes) [] ++ chosen_bytes passes (drop (n + 1) attributes) (drop step.width bytes)
  picked_goes bytes =
      ap (λ (l : List Attribute). chosen_bytes passes l bytes) is.rest
      ∙ ap (λ b. cond b (take is.one.width bytes) [] ++ chosen_bytes passes (drop (n + 1) attributes) (drop is.one.width bytes)) (sym is.picked)
      ∙ ap (λ w. cond step.picked (take w bytes) [] ++ chosen_bytes passes (drop (n + 1) attributes) (drop w bytes)) (sym is.width)

  module _ (given before after : List ℕ) (at from put : ℕ) where
    abbrev part : List ℕ
    part = take step.width (drop from given)

    -- a value is written, or stays
    pub written_step : from + width_where passes (drop n attributes) ≤ length given → Puts step.picked (take step.width (drop from given)) before after at put
        → take (at + step.width) after ++ with_chosen passes (drop (n + 1) attributes) (drop (from + put) given) (drop (at + step.width) after)
        ≡ take at before ++ with_chosen passes (drop n attributes) (drop from given) (drop at before)
    written_step room puts = go step.picked refl
      where
        O : List ℕ → List ℕ → List ℕ
        O = λ g b. with_chosen passes (drop (n + 1) attributes) g b

        go : (b : Bool) → step.picked ≡ b → take (at + step.width) after ++ O (drop (from + put) given) (drop (at + step.width) after) ≡ take at before ++ with_chosen passes (drop n attributes) (drop from given) (drop at before)
        go true on =
            let w : ℕ = step.width in
            let wide : from + w ≤ length given = omega (arith, room, width_goes, ap (λ b. cond b step.width 0) on) in
            let len : length part ≡ w = omega (arith, length-take w (drop from given), length-drop from given, wide) in
            let put_is : put ≡ w = puts.count ∙ ap (λ b. cond b (length part) 0) on ∙ len in
            let written : take (at + w) after ≡ take at before ++ part = subst (λ k. take (at + k) after ≡ take at before ++ part) len (puts.front on) in
            let same : drop (at + w) after ≡ drop w (drop at before) = subst (λ k. drop (at + k) after ≡ drop (at + k) before) len (puts.back on) ∙ sym (drop-drop w at before) in
            let rest : drop (from + put) given ≡ drop w (drop from given) = ap (λ k. drop (from + k) given) put_is ∙ sym (drop-drop w from given) in
            ap (λ x. x ++ O (drop (from + put) given) (drop (at + w) after)) written
            ∙ ap (λ g. (take at before ++ part) ++ O g (drop (at + w) after)) rest
            ∙ ap (λ b. (take at before ++ part) ++ O (drop w (drop from given)) b) same
            ∙ append_assoc (take at before) part _
            ∙ sym (ap (λ x. take at before ++ x) (overwritten_goes (drop from given) (drop at before)
            ∙ ap (λ b. cond b part (take w (drop at before)) ++ O (cond b (drop w (drop from given)) (drop from given)) (drop w (drop at before))) on))
        go false on =
            let w : ℕ = step.width in
            let put_is : from + put ≡ from = omega (arith, puts.count, ap (λ b. cond b (length part) 0) on) in
            let kept : take (at + w) after ≡ take at before ++ take w (drop at before) = ap (λ x. take (at + w) x) (puts.off on) ∙ take-add at w before in
            let same : drop (at + w) after ≡ drop w (drop at before) = ap (λ x. drop (at + w) x) (puts.off on) ∙ sym (drop-drop w at before) in
            ap (λ x. x ++ O (drop (from + put) given) (drop (at + w) after)) kept
            ∙ ap (λ k. (take at before ++ take w (drop at before)) ++ O (drop k given) (drop (at + w) after)) put_is
            ∙ ap (λ b. (take at before ++ take w (drop at before)) ++ O (drop from given) b) same
            ∙ append_assoc (take at before) (take w (drop at before)) _
            ∙ sym (ap (λ x. take at before ++ x) (overwritten_goes (drop from given) (drop at before)
            ∙ ap (λ b. cond b part (take w (drop at before)) ++ O (cond b (drop w (drop from given)) (drop from given)) (drop w (drop at before))) on))

    -- as many bytes are put as the value has
    pub put_goes : from + width_where passes (drop n attributes) ≤ length given → Puts step.picked (take step.width (drop from given)) before after at put → put + width_where passes (drop (n + 1) attributes) ≡ width_where passes (drop n attributes)
    put_goes room puts = go step.picked refl
      where
        go : (b : Bool) → step.picked ≡ b → put + width_where passes (drop (n + 1) attributes) ≡ width_where passes (drop n attributes)
        go true on = omega (arith, room, width_goes, puts.count, ap (λ b. cond b step.width 0) on, ap (λ b. cond b (length part) 0) on, length-take step.width (drop from given), length-drop from given)
        go false on = omega (arith, room, width_goes, puts.count, ap (λ b. cond b step.width 0) on, ap (λ b. cond b (length part) 0) on)

  module _ (values before after : List ℕ) (to from put : ℕ) (room : from + whole_width (drop n attributes) ≤ length values)
      (puts : Puts step.picked (take step.width (drop from values)) before after to put) where
    abbrev value : List ℕ
    value = take step.width (drop from values)

    value_length : length value ≡ step.width
    value_length = omega (arith, room, whole_goes, length-take step.width (drop from values), length-drop from values)

    pub gathered_step : take (to + put) after ++ chosen_bytes passes (drop (n + 1) attributes) (drop (from + step.width) values) ≡ take to before ++ chosen_bytes passes (drop n attributes) (drop from values)
    gathered_step = go step.picked refl
      where
        w : ℕ
        w = step.width

        P : List ℕ → List ℕ
        P = λ b. chosen_bytes passes (drop (n + 1) attributes) b

        go : (b : Bool) → step.picked ≡ b → take (to + put) after ++ P (drop (from + w) values) ≡ take to before ++ chosen_bytes passes (drop n attributes) (drop from values)
        go true on =
            let put_is : put ≡ length value = puts.count ∙ ap (λ b. cond b (length value) 0) on in
            let written : take (to + put) after ≡ take to before ++ value = ap (λ k. take (to + k) after) put_is ∙ puts.front on in
            ap (λ x. x ++ P (drop (from + w) values)) written
            ∙ ap (λ v. (take to before ++ value) ++ P v) (sym (drop-drop w from values))
            ∙ append_assoc (take to before) value _
            ∙ sym (ap (λ x. take to before ++ x) (picked_goes (drop from values) ∙ ap (λ b. cond b value [] ++ P (drop w (drop from values))) on))
        go false on =
            let put_is : to + put ≡ to = omega (arith, puts.count, ap (λ b. cond b (length value) 0) on) in
            let kept : take (to + put) after ≡ take to before = ap (λ k. take k after) put_is ∙ ap (λ x. take to x) (puts.off on) in
            ap (λ x. x ++ P (drop (from + w) values)) kept
            ∙ ap (λ v. take to before ++ P v) (sym (drop-drop w from values))
            ∙ sym (ap (λ x. take to before ++ x) (picked_goes (drop from values) ∙ ap (λ b. cond b value [] ++ P (drop w (drop from values))) on))

    pub gathered_width : put + width_where passes (drop (n + 1) attributes) ≡ width_where passes (drop n attributes)
    gathered_width = go step.picked refl
      where
        go : (b : Bool) → step.picked ≡ b → put + width_where passes (drop (n + 1) attributes) ≡ width_where passes (drop n attributes)
        go true on = omega (arith, width_goes, puts.count, value_length, ap (λ b. cond b step.width 0) on, ap (λ b. cond b (length value) 0) on)
        go false on = omega (arith, width_goes, puts.count, ap (λ b. cond b step.width 0) on, ap (λ b. cond b (length value) 0) on)

    pub gathered_rest : to + width_where passes (drop n attributes) ≤ 25 → drop to before ≡ replicate (25 - to) 0 → drop (to + put) after ≡ replicate (25 - (to + put)) 0
    gathered_rest small zeros = go step.picked refl
      where
        go : (b : Bool) → step.picked ≡ b → drop (to + put) after ≡ replicate (25 - (to + put)) 0
        go true on =
            let put_is : put ≡ length value = puts.count ∙ ap (λ b. cond b (length value) 0) on in
            let fits : length value ≤ 25 - to = omega (arith, small, width_goes, value_length, ap (λ b. cond b step.width 0) on) in
            let less : 25 - to - length value ≡ 25 - (to + put) = omega (arith, put_is) in
            ap (λ k. drop (to + k) after) put_is ∙ puts.back on ∙ sym (drop-drop (length value) to before) ∙ ap (λ x. drop (length value) x) zeros
            ∙ drop_zeros (25 - to) (length value) fits ∙ ap (λ k. replicate k 0) less
        go false on =
            let put_is : to ≡ to + put = omega (arith, puts.count, ap (λ b. cond b (length value) 0) on) in
            subst (λ k. drop k after ≡ replicate (25 - k) 0) put_is (ap (λ x. drop to x) (puts.off on) ∙ zeros)

-- the end of each loop
pub gathered_end : (passes : Attribute → Bool) (attributes : List Attribute) (n to : ℕ) (into rest whole : List ℕ) → length attributes ≤ n → length into ≡ 25 → to ≤ 25 → take to into ++ chosen_bytes passes (drop n attributes) rest ≡ whole → drop to into ≡ replicate (25 - to) 0 → into ≡ filled 25 whole
gathered_end passes attributes n to into rest whole le wide small is zeros =
    let front : take to into ≡ whole = sym (append-nil (take to into)) ∙ ap (λ (l : List Attribute). take to into ++ chosen_bytes passes l rest) (sym (none_left attributes n le)) ∙ is in
    let len : to ≡ length whole = sym (length-take-le to into (omega arith)) ∙ ap length front in
    sym (take-append-drop to into) ∙ ap (λ x. x ++ drop to into) front ∙ ap (λ x. whole ++ x) zeros ∙ ap (λ k. whole ++ replicate (25 - k) 0) len

pub written_end : (passes : Attribute → Bool) (attributes : List Attribute) (n at : ℕ) (after given whole : List ℕ) → length attributes ≤ n → take at after ++ with_chosen passes (drop n attributes) given (drop at after) ≡ whole → after ≡ whole
written_end passes attributes n at after given whole le is =
    sym (take-append-drop at after) ∙ ap (λ (l : List Attribute). take at after ++ with_chosen passes l given (drop at after)) (sym (none_left attributes n le)) ∙ is
