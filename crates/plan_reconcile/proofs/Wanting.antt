-- The first fault of what comes to what is wanted, and the item that is made of it.
use Rattle.std.proofs.Common.{◌≡◌, ℕ, ◌+◌, ◌-◌, ◌<◌, ◌≤◌, ◌%◌, ◌^◌, Bool, true, false, cond, List, [], ◌∷◌, ◌++◌, length, take, drop, replicate, Option, Some, None, is_some, refl, sym, ap, subst, ◌∙◌, arith}
use Rattle.std.specs.Prelude.{◌==◌, ◌&&◌, not}
use Rattle.std.specs.Option.{option_map_or}
use Rattle.std.proofs.lemmas.Bool.Decides.{nat_tests}
use Rattle.std.proofs.lemmas.List.{take-append-le, drop-append-le, length-drop}
use Rattle.omci_types.specs.declared.EntityId.{EntityId}
use Rattle.class_spec.specs.Classes.{Attribute, Row, class_row}
use Rattle.class_spec.specs.Masks.{has, bit_of, mask_where, width_where, known_mask, unknown_mask, fixed_mask, width_of}
use Rattle.entity_classes.specs.Rule.{IsRow}
use Rattle.mib_spec.specs.Database.{Values}
use Rattle.mib_spec.specs.Requests.{of_class}
use Rattle.upload_spec.specs.Pieces.{Copy, values_named}
use Rattle.upload_spec.specs.Copies.{copied, is_copied, with_copied, attributes_of}
use Rattle.std.specs.List.{insert}
use Rattle.frame_spec.specs.Widths.{filled}
use Rattle.omci_attributes.specs.declared.mask.Mask.{Mask}
use Rattle.omci_attributes.proofs.Sums.{mask-le, width-le}
use Rattle.plan_reconcile.specs.declared.items.Item.{Item}
use Rattle.plan_reconcile.specs.Items.{item_as, wanted_of, IsWanted, IsItem, IsGap}
use Rattle.plan_reconcile.specs.Faults.{Admits}
use Rattle.plan_reconcile.proofs.Places.{inserted, inserted_keys, each_inserted}
use Rattle.plan_spec.specs.declared.WantedFault.{WantedFault}
use Rattle.plan_spec.specs.declared.WantedFault.TheVariants.{ClassUnknown, NotWritable, Width, Repeated}
use Rattle.plan_spec.specs.Wanting.{wanted_fault, with_wanted, is_wantable, not_writable}

pub of_row : (f : Row → ℕ → ℕ) (class mask : ℕ) (row : Row) → class_row class ≡ Some row → of_class f class mask ≡ f row mask
of_row f class mask row is = ap (λ (o : Option Row). option_map_or (λ (r : Row). f r mask) o 0) is

pub attributes_of_row : (class : ℕ) (row : Row) → class_row class ≡ Some row → attributes_of class ≡ row.attributes
attributes_of_row class row is = ap (λ (o : Option Row). option_map_or (λ (r : Row). r.attributes) o []) is

fixed_le : (mask : ℕ) (attributes : List Attribute) → mask_where (λ one. has mask one.number && not one.written) attributes ≤ mask_where (λ one. has mask one.number) attributes
fixed_le mask [] = omega arith
fixed_le mask (one ∷ rest) =
    let part : cond (has mask one.number && not one.written) (bit_of one.number) 0 ≤ cond (has mask one.number) (bit_of one.number) 0 = smaller (has mask one.number) (not one.written) (bit_of one.number) in
    omega (arith, part, fixed_le mask rest)
  where
    smaller : (a b : Bool) (n : ℕ) → cond (a && b) n 0 ≤ cond a n 0
    smaller true true n = omega arith
    smaller true false n = omega arith
    smaller false b n = omega arith

-- what may not be written is part of the mask
pub not_writable_le : (row : Row) (mask : ℕ) → IsRow row → unknown_mask row mask + fixed_mask row mask ≤ mask
unfolding unknown_mask fixed_mask known_mask
not_writable_le row mask rule =
    let few = rule.count in
    let known : mask_where (λ one. has mask one.number) row.attributes ≤ mask % 2 ^ 16 = mask-le mask row.attributes 1 16 rule.numbered (omega (arith, few)) refl in
    omega (arith, known, fixed_le mask row.attributes)

pub width_le : (row : Row) (mask : ℕ) → IsRow row → width_of row mask ≤ 45
unfolding width_of
width_le row mask rule = omega (arith, width-le (λ one. has mask one.number) row.attributes, rule.whole)

-- the faults, by what their tests say
abbrev pub fault_by : Bool → Bool → Bool → Bool → ℕ → ℕ → ℕ → Option WantedFault
fault_by wantable writable wide there mask need have =
    cond (not wantable) (Some ClassUnknown) (cond (not writable) (Some (NotWritable mask)) (cond (not wide) (Some (Width need have)) (cond there (Some Repeated) None)))

module _ (one : EntityId) (mask : ℕ) (values : List ℕ) (want : Copy) where
  abbrev pub need : ℕ
  need = of_class width_of one.class mask

  abbrev pub bad : ℕ
  bad = not_writable one.class mask

  by : wanted_fault one mask values want ≡ fault_by (is_wantable one.class) (bad == 0) (length values == need) (is_copied one want) bad need (length values)
  unfolding wanted_fault
  by = refl

  pub class_fault : is_wantable one.class ≡ false → wanted_fault one mask values want ≡ Some ClassUnknown
  class_fault h = by ∙ ap (λ b. fault_by b (bad == 0) (length values == need) (is_copied one want) bad need (length values)) h

  module _ (row : Row) (is : class_row one.class ≡ Some row) (wantable : is_wantable one.class ≡ true) where
    bad_is : bad ≡ unknown_mask row mask + fixed_mask row mask
    bad_is = ap (λ n. n + of_class fixed_mask one.class mask) (of_row unknown_mask one.class mask row is) ∙ ap (λ n. unknown_mask row mask + n) (of_row fixed_mask one.class mask row is)

    need_is : need ≡ width_of row mask
    need_is = of_row width_of one.class mask row is

    pub mask_fault : (n : ℕ) → n ≡ unknown_mask row mask + fixed_mask row mask → 0 < n → wanted_fault one mask values want ≡ Some (NotWritable n)
    mask_fault n n_is some =
        let off : (bad == 0) ≡ false = grind (arith, nat_tests, bad_is, n_is, some) in
        by ∙ ap (λ b. fault_by b (bad == 0) (length values == need) (is_copied one want) bad need (length values)) wantable
        ∙ ap (λ b. fault_by true b (length values == need) (is_copied one want) bad need (length values)) off
        ∙ ap (λ m. Some (NotWritable m)) (bad_is ∙ sym n_is)

    pub writable : (n : ℕ) → n ≡ unknown_mask row mask + fixed_mask row mask → n ≡ 0 → bad ≡ 0
    writable n n_is none = bad_is ∙ sym n_is ∙ none

    module _ (good : bad ≡ 0) where
      on : (bad == 0) ≡ true
      on = grind (arith, nat_tests, good)

      pub width_fault : (n : ℕ) → n ≡ width_of row mask → (length values == n) ≡ false → wanted_fault one mask values want ≡ Some (Width n (length values))
      width_fault n n_is differ =
          let same : need ≡ n = need_is ∙ sym n_is in
          by ∙ ap (λ b. fault_by b (bad == 0) (length values == need) (is_copied one want) bad need (length values)) wantable
          ∙ ap (λ b. fault_by true b (length values == need) (is_copied one want) bad need (length values)) on
          ∙ ap (λ m. fault_by true true (length values == m) (is_copied one want) bad m (length values)) same
          ∙ ap (λ b. fault_by true true b (is_copied one want) bad n (length values)) differ

      module _ (wide : length values ≡ need) where
        fits : (length values == need) ≡ true
        fits = grind (arith, nat_tests, wide)

        to_there : wanted_fault one mask values want ≡ fault_by true true true (is_copied one want) bad need (length values)
        to_there =
            by ∙ ap (λ b. fault_by b (bad == 0) (length values == need) (is_copied one want) bad need (length values)) wantable
            ∙ ap (λ b. fault_by true b (length values == need) (is_copied one want) bad need (length values)) on
            ∙ ap (λ b. fault_by true true b (is_copied one want) bad need (length values)) fits

        pub repeated_fault : (held : Values) → copied one want ≡ Some held → wanted_fault one mask values want ≡ Some Repeated
        repeated_fault held there = to_there ∙ ap (λ (o : Option Values). fault_by true true true (is_some o) bad need (length values)) there

        pub no_fault : copied one want ≡ None → wanted_fault one mask values want ≡ None
        no_fault absent = to_there ∙ ap (λ (o : Option Values). fault_by true true true (is_some o) bad need (length values)) absent

-- bytes after the values don't matter
pub named_more : (attributes : List Attribute) (mask : ℕ) (bytes tail : List ℕ) → width_where (λ one. has mask one.number) attributes ≤ length bytes → values_named attributes mask (bytes ++ tail) ≡ values_named attributes mask bytes
named_more [] mask bytes tail le = refl
named_more (one ∷ rest) mask bytes tail le = go (has mask one.number) le (λ b l. named_more rest mask b tail l)
  where
    w : ℕ
    w = one.width

    sum : ℕ
    sum = width_where (λ one. has mask one.number) rest

    go : (b : Bool) → cond b w 0 + sum ≤ length bytes → ((b : List ℕ) → sum ≤ length b → values_named rest mask (b ++ tail) ≡ values_named rest mask b)
        → cond b ((one.number, take w (bytes ++ tail)) ∷ []) [] ++ values_named rest mask (cond b (drop w (bytes ++ tail)) (bytes ++ tail)) ≡ cond b ((one.number, take w bytes) ∷ []) [] ++ values_named rest mask (cond b (drop w bytes) bytes)
    go true le later =
        ap (λ (x : List ℕ). (one.number, x) ∷ values_named rest mask (drop w (bytes ++ tail))) (take-append-le w bytes tail (omega (arith, le)))
        ∙ ap (λ (x : List ℕ). (one.number, take w bytes) ∷ values_named rest mask x) (drop-append-le w bytes tail (omega (arith, le)))
        ∙ ap (λ (x : Values). (one.number, take w bytes) ∷ x) (later (drop w bytes) (omega (arith, le, length-drop w bytes)))
    go false le later = later bytes (omega (arith, le))

-- the values of an item whose bytes are filled with zeros
pub filled_named : (class mask : ℕ) (row : Row) (values zeros : List ℕ) → class_row class ≡ Some row → length values ≡ width_of row mask → values_named (attributes_of class) mask (values ++ zeros) ≡ values_named (attributes_of class) mask values
unfolding width_of
filled_named class mask row values zeros is len =
    let attributes : attributes_of class ≡ row.attributes = attributes_of_row class row is in
    ap (λ (l : List Attribute). values_named l mask (values ++ zeros)) attributes ∙ named_more row.attributes mask values zeros (omega (arith, len)) ∙ sym (ap (λ (l : List Attribute). values_named l mask values) attributes)

-- a class is unknown, and nothing is named, or it is known
filled_values : (class mask : ℕ) (values : List ℕ) → length values ≡ of_class width_of class mask → values_named (attributes_of class) mask (filled 45 values) ≡ values_named (attributes_of class) mask values
filled_values class mask values same = go (class_row class) refl
  where
    go : (o : Option Row) → class_row class ≡ o → values_named (attributes_of class) mask (filled 45 values) ≡ values_named (attributes_of class) mask values
    go None is = ap (λ (o : Option Row). values_named (option_map_or (λ (r : Row). r.attributes) o []) mask (filled 45 values)) is ∙ sym (ap (λ (o : Option Row). values_named (option_map_or (λ (r : Row). r.attributes) o []) mask values) is)
    go (Some row) is = filled_named class mask row values (replicate (45 - length values) 0) is (same ∙ of_row width_of class mask row is)

-- the item of what has no fault
pub item_added : (items : List Item) (at : ℕ) (item : Item) (one : EntityId) (mask : Mask) (values : List ℕ) → item ≡ record { entity = one; mask = mask; values = filled 45 values } → IsWanted items → Admits items one mask values at → IsWanted (insert items at item)
item_added items at item one mask values is w a =
    let gap : IsGap items item.entity at = subst (λ (i : Item). IsGap items i.entity at) (sym is) a.gap in
    record { ascending = inserted_keys items at item w.ascending gap; each = each_inserted items at item (subst IsItem (sym is) a.item) w.each }

pub added_wanted : (items : List Item) (at : ℕ) (item : Item) (one : EntityId) (mask : Mask) (values : List ℕ) → item ≡ record { entity = one; mask = mask; values = filled 45 values } → Admits items one mask values at → wanted_of (insert items at item) ≡ with_wanted one mask.0 values (wanted_of items)
unfolding with_wanted
added_wanted items at item one mask values is a =
    let gap : IsGap items item.entity at = subst (λ (i : Item). IsGap items i.entity at) (sym is) a.gap in
    inserted items at item gap
    ∙ ap (λ (i : Item). with_copied i.entity (item_as i).1 (wanted_of items)) is
    ∙ ap (λ (v : Values). with_copied one v (wanted_of items)) (filled_values one.class mask.0 values a.same)
