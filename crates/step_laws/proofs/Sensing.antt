-- A value that the unit measures may not be written: whatever it is, the database goes on agreeing
-- with
-- a copy.
use Rattle.std.proofs.Common.{◌≡◌, ℕ, Bool, true, false, cond, not, List, [], ◌∷◌, length, Option, Some, None}
use Rattle.std.proofs.Common.{Ordering, Less, Equal, Greater, is_eq, refl, sym, ap, subst, ◌∙◌}
use Rattle.std.proofs.Common.{◌==◌}
use Rattle.std.proofs.lemmas.Option.{same_Some}
use Rattle.std.proofs.lemmas.Bool.{and_parts, false≢true}
use Rattle.std.specs.Option.{option_map_or}
use Rattle.std.specs.Map.{lookup, set_value}
use Rattle.std.specs.BTreeMap.{is_at}
use Rattle.omci_types.specs.declared.EntityId.{EntityId}
use Rattle.class_spec.specs.declared.TheConstants.{ONU_DATA}
use Rattle.class_spec.specs.Classes.{Attribute, Row, class_row, class_table, attribute_in}
use Rattle.omci_types.specs.declared.Software.{Software}
use Rattle.mib_spec.specs.declared.Sensed.{Sensed}
use Rattle.mib_spec.specs.declared.Sensed.TheVariants.{NotAllowed, Same, Changed}
use Rattle.mib_spec.specs.Database.{Database, Managed, Values, entity_cmp, with_value, values_of}
use Rattle.mib_spec.specs.Database.{with_values, managed_of, image_entity, image_values, with_software}
use Rattle.mib_spec.specs.Requests.{may_sense, is_sensed, sense_outcome}
use Rattle.upload_spec.specs.Pieces.{Copy}
use Rattle.upload_spec.specs.Copies.{attributes_of, copied}
use Rattle.upload_laws.specs.Shaped.{IsShaped}
use Rattle.mib_laws.proofs.Others.{entity_exact}
use Rattle.resync_laws.specs.Agreeing.{ValuesAgree, Agrees, IsCopied}
use Rattle.resync_laws.proofs.Databases.{with_values_whole, same_row, may_be_sensed, value_shaped}
use Rattle.resync_laws.proofs.Databases.{sensed_row, image_row, image_row_is, image_wide, version_wide}
use Rattle.resync_laws.specs.Databases.{HasVersions}
use Rattle.resync_laws.proofs.Following.{IsThere, there, there_too, row_attributes, values_held}
use Rattle.resync_laws.proofs.Following.{held_still}

-- the value of an attribute that may not be written
unwritten_agrees : (number : ℕ) (value : List ℕ) (attributes : List Attribute)
    (held copies : Values)
    → IsShaped attributes held → may_be_sensed value (attribute_in attributes number) ≡ true
    → ValuesAgree attributes held copies
    → ValuesAgree attributes (with_value number value held) copies
unwritten_agrees number value [] held copies s h a = absurd (false≢true h)
unwritten_agrees number value (one ∷ rest) [] copies s h a = absurd s
unwritten_agrees number value (one ∷ rest) (v ∷ vs) [] s h a = absurd a
unwritten_agrees number value (one ∷ rest) (v ∷ vs) (c ∷ cs) s h a =
    go (one.number == number) (v.0 == number) (ap (λ n. n == number) s.0) h
    (λ k. unwritten_agrees number value rest vs cs s.2 k a.2)
  where
    go : (x y : Bool) → y ≡ x → may_be_sensed value
        (cond x (Some one) (attribute_in rest number)) ≡ true
        → (may_be_sensed value (attribute_in rest number) ≡ true
        → ValuesAgree rest (with_value number value vs) cs)
        → ValuesAgree (one ∷ rest) (cond y ((v.0, value) ∷ vs) (v ∷ with_value number value vs))
        (c ∷ cs)
    go true true e k later =
        let unwritten = (and_parts (not one.written) (one.width == length value) k).0 in
        (a.0, (λ w. absurd (false≢true (sym (ap not w) ∙ unwritten))), a.2)
    go false false e k later = (a.0, a.1, later k)
    go true false e k later = absurd (cc)
    go false true e k later = absurd (cc)

-- other values of an entity, in the database alone
agrees_alone : (one : EntityId) (managed : Managed) (values : Values) (database : Database)
    (copy : Copy) → Agrees database copy → lookup (is_at (entity_cmp one)) copy ≡ Some values
    → ValuesAgree (attributes_of one.class) managed.values values
    → Agrees (set_value (is_at (entity_cmp one)) database managed) copy
agrees_alone one managed values [] [] h e v = tt
agrees_alone one managed values [] (c ∷ cs) h e v = absurd h
agrees_alone one managed values (d ∷ ds) [] h e v = absurd h
agrees_alone one managed values (d ∷ ds) (c ∷ cs) h e v =
    go (entity_cmp one d.0) refl (entity_cmp one c.0) (ap (entity_cmp one) h.0) e
    (λ f. agrees_alone one managed values ds cs h.2 f v)
  where
    test : EntityId → Bool
    test = is_at (entity_cmp one)

    go : (r : Ordering) → entity_cmp one d.0 ≡ r → (q : Ordering) → r ≡ q
        → cond (is_eq q) (Some c.1) (lookup test cs) ≡ Some values
        → (lookup test cs ≡ Some values → Agrees (set_value test ds managed) cs)
        → Agrees (cond (is_eq r) ((d.0, managed) ∷ ds) (d ∷ set_value test ds managed)) (c ∷ cs)
    go Equal is Equal same f later = (
      h.0,
      subst (λ (x : EntityId). ValuesAgree (attributes_of x.class) managed.values c.1)
          (entity_exact one d.0 is)
          (subst (ValuesAgree (attributes_of one.class) managed.values)
          (sym (same_Some c.1 values f)) v),
      h.2,
    )
    go Less is Less same f later = (h.0, h.1, later f)
    go Greater is Greater same f later = (h.0, h.1, later f)
    go Less is Equal same f later = absurd (cc)
    go Less is Greater same f later = absurd (cc)
    go Equal is Less same f later = absurd (cc)
    go Equal is Greater same f later = absurd (cc)
    go Greater is Less same f later = absurd (cc)
    go Greater is Equal same f later = absurd (cc)

revalued_alone : (one : EntityId) (database : Database) (copy : Copy)
    (k : IsThere one database copy)
    (held : Values) → IsCopied database copy → IsShaped k.row.attributes held
    → ValuesAgree (attributes_of one.class) held k.values
    → IsCopied (with_values one held database) copy
unfolding with_values copied
revalued_alone one database copy k held h s agree = record {
  whole = with_values_whole one k.row held database h.whole k.is s;
  counted = held_still one ONU_DATA held database h.counted;
  copied = h.copied;
  agrees =
      subst (λ o. Agrees (option_map_or
      (λ (m : Managed). set_value (is_at (entity_cmp one)) database
      (record m { values = held })) o database) copy) (sym k.held)
      (agrees_alone one (record k.managed { values = held }) k.values database copy h.agrees k.found
      agree);
}

pub sense_copied : (one : EntityId) (number : ℕ) (value : List ℕ) (database : Database)
    (copy : Copy)
    → IsCopied database copy → IsCopied (sense_outcome one number value database).1 copy
unfolding sense_outcome may_sense
sense_copied one number value database copy h =
    go (may_sense one number value database) (is_sensed one number value database) refl
  where
    after : Values
    after = with_value number value (values_of one database)

    go : (may same : Bool) → may_sense one number value database ≡ may
        → IsCopied (cond {A = Sensed × Database} (not may) (NotAllowed, database)
        (cond same (Same, database) (Changed, with_values one after database))).1 copy
    go false same e = h
    go true true e = h
    go true false e =
        let p = and_parts _ _ e in
        let k = there_too one database copy h (and_parts _ _ (and_parts _ _ p.0).0).0 in
        let r = sensed_row value number one.class (class_row one.class) refl p.1 in
        let may = subst (λ (x : Row). may_be_sensed value (attribute_in x.attributes number) ≡ true)
        (same_row one.class r.0 k.row r.1 k.is) r.2 in
        let attributes = row_attributes one.class k.row k.is in
        let agree = subst (λ l. ValuesAgree l k.managed.values k.values) attributes k.agree in
        let held : values_of one database ≡ k.managed.values =
        values_held one k.managed database k.held in
        subst (λ (v : Values). IsCopied (with_values one (with_value number value v) database) copy)
        (sym held)
        (revalued_alone one database copy k (with_value number value k.managed.values) h
        (value_shaped number value k.row.attributes k.managed.values k.shaped may)
        (subst (λ l. ValuesAgree l (with_value number value k.managed.values) k.values)
        (sym attributes)
        (unwritten_agrees number value k.row.attributes k.managed.values k.values k.shaped may
        agree)))

-- ---- the software images

-- attributes none of which may be written
abbrev pub AreFixed : List Attribute → Type 0
AreFixed [] = Unit {0}
AreFixed (one ∷ rest) = (one.written ≡ false) × AreFixed rest

fixed_agree : (attributes : List Attribute) (values held copies : Values) → AreFixed attributes
    → IsShaped attributes values → IsShaped attributes held → ValuesAgree attributes held copies
    → ValuesAgree attributes values copies
fixed_agree [] [] [] copies f s r a = a
fixed_agree [] [] (h ∷ hs) copies f s r a = absurd r
fixed_agree [] (v ∷ vs) held copies f s r a = absurd s
fixed_agree (one ∷ rest) [] held copies f s r a = absurd s
fixed_agree (one ∷ rest) (v ∷ vs) [] copies f s r a = absurd r
fixed_agree (one ∷ rest) (v ∷ vs) (h ∷ hs) [] f s r a = absurd a
fixed_agree (one ∷ rest) (v ∷ vs) (h ∷ hs) (c ∷ cs) f s r a = (
  s.0 ∙ sym r.0 ∙ a.0,
  (λ w. absurd (false≢true (sym f.0 ∙ w))),
  fixed_agree rest vs hs cs f.1 s.2 r.2 a.2,
)

fixed_image : AreFixed image_row.attributes
unfolding image_row class_row class_table
fixed_image = (refl, (refl, (refl, (refl, tt))))

-- an image's values in the database
image_copied : (number : ℕ) (held : Values) (database : Database) (copy : Copy)
    → IsShaped image_row.attributes held → IsCopied database copy
    → IsCopied (with_values (image_entity number) held database) copy
unfolding with_values
image_copied number held database copy s h = go (managed_of one database) refl
  where
    one : EntityId
    one = image_entity number

    absent : managed_of one database ≡ None → with_values one held database ≡ database
    absent e = ap (λ o. option_map_or (λ (m : Managed). set_value (is_at (entity_cmp one)) database
        (record m { values = held })) o database) e

    go : (o : Option Managed) → managed_of one database ≡ o
        → IsCopied (with_values one held database) copy
    go None e = subst (λ d. IsCopied d copy) (sym (absent e)) h
    go (Some managed) e =
        let k = there one managed database copy h e in
        let row = same_row 7 k.row image_row k.is image_row_is in
        let attributes = row_attributes one.class k.row k.is in
        let shaped = subst (λ (x : Row). IsShaped x.attributes held) (sym row) s in
        let fixed = subst (λ (x : Row). AreFixed x.attributes) (sym row) fixed_image in
        let agree = subst (λ l. ValuesAgree l k.managed.values k.values) attributes k.agree in
        revalued_alone one database copy k held h shaped
        (subst (λ l. ValuesAgree l held k.values) (sym attributes)
        (fixed_agree k.row.attributes held k.managed.values k.values fixed shaped k.shaped agree))

-- a copy goes on agreeing where the software images are shown
pub software_copied : (m : Software) (database : Database) (copy : Copy) → HasVersions m
    → IsCopied database copy → IsCopied (with_software m database) copy
unfolding with_software
software_copied m database copy v h =
    image_copied 1 (image_values 1 m)
    (with_values (image_entity 0) (image_values 0 m) database) copy
    (image_wide 1 m (version_wide m.second v.second))
    (image_copied 0 (image_values 0 m) database copy (image_wide 0 m (version_wide m.first v.first)) h)
