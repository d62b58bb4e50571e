-- A copy that follows the manager's own changes goes on agreeing with the unit's database.
use Rattle.std.proofs.Common.{◌≡◌, ℕ, ◌+◌, ◌<◌, Bool, true, false, cond, List, [], ◌∷◌, ◌++◌, length, take, drop, Some, None, Ordering, Less, Equal, Greater, is_eq, refl, sym, ap, subst, ◌∙◌, arith, ◌==◌}
use Rattle.std.proofs.lemmas.Option.{same_Some}
use Rattle.std.proofs.lemmas.Bool.Decides.{nat_tests}
use Rattle.std.specs.Ordering.{match_ordering}
use Rattle.std.specs.Option.{option_map_or}
use Rattle.std.specs.Map.{lookup, set_value, remove_entry}
use Rattle.std.specs.BTreeMap.{insert_entry, is_at}
use Rattle.omci_types.specs.declared.EntityId.{EntityId}
use Rattle.class_spec.specs.Classes.{Attribute, Row}
use Rattle.class_spec.specs.Masks.{has}
use Rattle.mib_spec.specs.Database.{Database, Managed, Values, entity_cmp, value_at, with_value}
use Rattle.mib_spec.specs.Requests.{set_values}
use Rattle.upload_spec.specs.Pieces.{Copy, without_makers, values_named}
use Rattle.upload_spec.specs.Copies.{numbered_value, first_some, overlay, attributes_of}
use Rattle.mib_laws.proofs.Others.{entity_total, entity_exact}
use Rattle.upload_laws.specs.Shaped.{IsShaped, IsNumberedFrom, ComesBefore, IsWhole}
use Rattle.upload_laws.proofs.Runs.{overlay_skip, overlay_skip_new}
use Rattle.resync_laws.specs.Agreeing.{ValuesAgree, Agrees}

-- ---- values

pub values_same : (attributes : List Attribute) (values : Values) → IsShaped attributes values
    → ValuesAgree attributes values values
values_same [] [] s = tt
values_same [] (v ∷ vs) s = absurd s
values_same (one ∷ rest) [] s = absurd s
values_same (one ∷ rest) (v ∷ vs) s = (refl, λ w. refl, values_same rest vs s.2)

-- a value of one attribute on both sides
pub value_agrees : (number : ℕ) (bytes : List ℕ) (attributes : List Attribute) (held copies : Values)
    → ValuesAgree attributes held copies
    → ValuesAgree attributes (with_value number bytes held) (with_value number bytes copies)
value_agrees number bytes [] [] [] h = tt
value_agrees number bytes [] [] (c ∷ cs) h = absurd h
value_agrees number bytes [] (v ∷ vs) cs h = absurd h
value_agrees number bytes (one ∷ rest) [] cs h = absurd h
value_agrees number bytes (one ∷ rest) (v ∷ vs) [] h = absurd h
value_agrees number bytes (one ∷ rest) (v ∷ vs) (c ∷ cs) h =
    go (v.0 == number) (c.0 == number) (ap (λ n. n == number) h.0)
    (value_agrees number bytes rest vs cs h.2)
  where
    go : (a b : Bool) → a ≡ b
        → ValuesAgree rest (with_value number bytes vs) (with_value number bytes cs)
        → ValuesAgree (one ∷ rest) (cond a ((v.0, bytes) ∷ vs) (v ∷ with_value number bytes vs))
        (cond b ((c.0, bytes) ∷ cs) (c ∷ with_value number bytes cs))
    go true true e later = (h.0, λ w. refl, h.2)
    go false false e later = (h.0, h.1, later)
    go true false e later = absurd (cc)
    go false true e later = absurd (cc)

-- the values of a set on both sides
pub set_agrees : (mask : ℕ) (attributes : List Attribute) (held copies : Values) (given : List ℕ)
    → IsShaped attributes held → IsShaped attributes copies → ValuesAgree attributes held copies
    → ValuesAgree attributes (set_values mask given held) (set_values mask given copies)
set_agrees mask [] [] [] given s r h = tt
set_agrees mask [] [] (c ∷ cs) given s r h = absurd h
set_agrees mask [] (v ∷ vs) cs given s r h = absurd h
set_agrees mask (one ∷ rest) [] cs given s r h = absurd h
set_agrees mask (one ∷ rest) (v ∷ vs) [] given s r h = absurd h
set_agrees mask (one ∷ rest) (v ∷ vs) (c ∷ cs) given s r h =
    let wide : length v.1 ≡ length c.1 = s.1 ∙ sym r.1 in
    go (has mask v.0) (has mask c.0) (ap (has mask) h.0) (ap (λ n. take n given) wide)
    (subst (λ n. ValuesAgree rest (set_values mask (drop (length v.1) given) vs) (set_values mask (drop n given) cs)) wide
    (set_agrees mask rest vs cs (drop (length v.1) given) s.2 r.2 h.2))
    (set_agrees mask rest vs cs given s.2 r.2 h.2)
  where
    go : (a b : Bool) → a ≡ b → take (length v.1) given ≡ take (length c.1) given
        → ValuesAgree rest (set_values mask (drop (length v.1) given) vs) (set_values mask (drop (length c.1) given) cs)
        → ValuesAgree rest (set_values mask given vs) (set_values mask given cs)
        → ValuesAgree (one ∷ rest)
        (cond a ((v.0, take (length v.1) given) ∷ set_values mask (drop (length v.1) given) vs) (v ∷ set_values mask given vs))
        (cond b ((c.0, take (length c.1) given) ∷ set_values mask (drop (length c.1) given) cs) (c ∷ set_values mask given cs))
    go true true e same cut whole = (h.0, λ w. same, cut)
    go false false e same cut whole = (h.0, h.1, whole)
    go true false e same cut whole = absurd (cc)
    go false true e same cut whole = absurd (cc)

-- what a set lays over the values of a copy are the values of the set
named_none : (attributes : List Attribute) (number mask n : ℕ) (bytes : List ℕ)
    → IsNumberedFrom number attributes → n < number
    → value_at n (values_named attributes mask bytes) ≡ None
named_none [] number mask n bytes h lt = refl
named_none (one ∷ rest) number mask n bytes h lt =
    go (has mask one.number)
    (named_none rest (number + 1) mask n (drop one.width bytes) h.1 (omega (arith, lt)))
    (named_none rest (number + 1) mask n bytes h.1 (omega (arith, lt)))
  where
    other : (one.number == n) ≡ false
    other = let a = h.0 in grind (arith, nat_tests)

    go : (b : Bool) → value_at n (values_named rest mask (drop one.width bytes)) ≡ None
        → value_at n (values_named rest mask bytes) ≡ None
        → value_at n (cond b ((one.number, take one.width bytes) ∷ []) [] ++ values_named rest mask (cond b (drop one.width bytes) bytes)) ≡ None
    go true cut whole = ap (λ b. cond b (Some (take one.width bytes)) (value_at n (values_named rest mask (drop one.width bytes)))) other ∙ cut
    go false cut whole = whole

pub overlay_set : (attributes : List Attribute) (number mask : ℕ) (copies : Values) (given : List ℕ)
    → IsNumberedFrom number attributes → IsShaped attributes copies
    → overlay attributes copies (values_named attributes mask given) ≡ set_values mask given copies
overlay_set [] number mask [] given n s = refl
overlay_set [] number mask (c ∷ cs) given n s = absurd s
overlay_set (one ∷ rest) number mask [] given n s = absurd s
overlay_set (one ∷ rest) number mask (c ∷ cs) given n s =
    go (has mask one.number) (has mask c.0) (ap (has mask) (sym s.0))
    (overlay_set rest (number + 1) mask cs (drop one.width given) n.1 s.2)
    (overlay_set rest (number + 1) mask cs given n.1 s.2)
  where
    mine : (c.0 == one.number) ≡ true
    mine = let a = s.0 in grind (arith, nat_tests)

    own : (one.number == one.number) ≡ true
    own = grind (arith, nat_tests)

    below : c.0 < number + 1
    below = omega (arith, s.0, n.0)

    skip : (new : Values) → overlay rest (c ∷ cs) new ≡ overlay rest cs new
    skip new = overlay_skip rest (number + 1) c cs new n.1 below

    go : (a b : Bool) → a ≡ b
        → overlay rest cs (values_named rest mask (drop one.width given)) ≡ set_values mask (drop one.width given) cs
        → overlay rest cs (values_named rest mask given) ≡ set_values mask given cs
        → overlay (one ∷ rest) (c ∷ cs) (cond a ((one.number, take one.width given) ∷ []) [] ++ values_named rest mask (cond a (drop one.width given) given))
        ≡ cond b ((c.0, take (length c.1) given) ∷ set_values mask (drop (length c.1) given) cs) (c ∷ set_values mask given cs)
    go true true e cut whole =
        let later : Values = values_named rest mask (drop one.width given) in
        let now : ℕ × List ℕ = (one.number, take one.width given) in
        ap (λ b. numbered_value one.number (first_some (cond b (Some now.1) (value_at one.number later)) (value_at one.number (c ∷ cs))) ++ overlay rest (c ∷ cs) (now ∷ later)) own
        ∙ ap (λ (vs : Values). now ∷ vs)
        (skip (now ∷ later) ∙ overlay_skip_new rest (number + 1) now cs later n.1 (omega (arith, n.0)) ∙ cut)
        ∙ ap (λ m. (m, take one.width given) ∷ set_values mask (drop one.width given) cs) (sym s.0)
        ∙ ap (λ k. (c.0, take k given) ∷ set_values mask (drop k given) cs) (sym s.1)
    go false false e cut whole =
        let later : Values = values_named rest mask given in
        ap (λ o. numbered_value one.number (first_some o (value_at one.number (c ∷ cs))) ++ overlay rest (c ∷ cs) later)
        (named_none rest (number + 1) mask one.number given n.1 (omega (arith, n.0)))
        ∙ ap (λ b. numbered_value one.number (cond b (Some c.1) (value_at one.number cs)) ++ overlay rest (c ∷ cs) later) mine
        ∙ ap (λ (vs : Values). (one.number, c.1) ∷ vs) (skip later ∙ whole)
        ∙ ap (λ m. (m, c.1) ∷ set_values mask given cs) (sym s.0)
    go true false e cut whole = absurd (cc)
    go false true e cut whole = absurd (cc)

-- ---- entities

pub agrees_insert : (one : EntityId) (managed : Managed) (values : Values) (database : Database)
    (copy : Copy) → Agrees database copy
    → ValuesAgree (attributes_of one.class) managed.values values
    → Agrees (insert_entry entity_cmp database one managed) (insert_entry entity_cmp copy one values)
agrees_insert one managed values [] [] h v = (refl, v, tt)
agrees_insert one managed values [] (c ∷ cs) h v = absurd h
agrees_insert one managed values (d ∷ ds) [] h v = absurd h
agrees_insert one managed values (d ∷ ds) (c ∷ cs) h v =
    go (entity_cmp one d.0) refl (entity_cmp one c.0) (ap (entity_cmp one) h.0) (agrees_insert one managed values ds cs h.2 v)
  where
    go : (r : Ordering) → entity_cmp one d.0 ≡ r → (q : Ordering) → r ≡ q
        → Agrees (insert_entry entity_cmp ds one managed) (insert_entry entity_cmp cs one values)
        → Agrees (match_ordering r ((one, managed) ∷ d ∷ ds) ((d.0, managed) ∷ ds) (d ∷ insert_entry entity_cmp ds one managed))
        (match_ordering q ((one, values) ∷ c ∷ cs) ((c.0, values) ∷ cs) (c ∷ insert_entry entity_cmp cs one values))
    go Less is Less e later = (refl, v, h)
    go Equal is Equal e later =
        (h.0, subst (λ (x : EntityId). ValuesAgree (attributes_of x.class) managed.values values) (entity_exact one d.0 is) v, h.2)
    go Greater is Greater e later = (h.0, h.1, later)
    go Less is Equal e later = absurd (cc)
    go Less is Greater e later = absurd (cc)
    go Equal is Less e later = absurd (cc)
    go Equal is Greater e later = absurd (cc)
    go Greater is Less e later = absurd (cc)
    go Greater is Equal e later = absurd (cc)

pub agrees_remove : (test : EntityId → Bool) (database : Database) (copy : Copy)
    → Agrees database copy → Agrees (remove_entry test database) (remove_entry test copy)
agrees_remove test [] [] h = tt
agrees_remove test [] (c ∷ cs) h = absurd h
agrees_remove test (d ∷ ds) [] h = absurd h
agrees_remove test (d ∷ ds) (c ∷ cs) h =
    go (test d.0) (test c.0) (ap test h.0) (agrees_remove test ds cs h.2)
  where
    go : (a b : Bool) → a ≡ b → Agrees (remove_entry test ds) (remove_entry test cs)
        → Agrees (cond a ds (d ∷ remove_entry test ds)) (cond b cs (c ∷ remove_entry test cs))
    go true true e later = h.2
    go false false e later = (h.0, h.1, later)
    go true false e later = absurd (cc)
    go false true e later = absurd (cc)

-- what the copy has of an entity that is there
pub record FoundToo (one : EntityId) (held : Values) (copy : Copy) : Type 0 where
  pub values : Values
  pub is : lookup (is_at (entity_cmp one)) copy ≡ Some values
  pub agree : ValuesAgree (attributes_of one.class) held values

pub agrees_found : (one : EntityId) (managed : Managed) (database : Database) (copy : Copy)
    → Agrees database copy → lookup (is_at (entity_cmp one)) database ≡ Some managed
    → FoundToo one managed.values copy
agrees_found one managed [] copy h e = absurd (cc)
agrees_found one managed (d ∷ ds) [] h e = absurd h
agrees_found one managed (d ∷ ds) (c ∷ cs) h e =
    go (entity_cmp one d.0) refl (entity_cmp one c.0) refl (ap (entity_cmp one) h.0)
    (λ f. agrees_found one managed ds cs h.2 f) e
  where
    later_too : (q : Ordering) → entity_cmp one c.0 ≡ q → is_eq q ≡ false
        → FoundToo one managed.values cs → FoundToo one managed.values (c ∷ cs)
    later_too q is differs k = record {
      values = k.values;
      is = ap (λ r. cond (is_eq r) (Some c.1) (lookup (is_at (entity_cmp one)) cs)) is ∙ ap (λ b. cond b (Some c.1) (lookup (is_at (entity_cmp one)) cs)) differs ∙ k.is;
      agree = k.agree;
    }

    go : (r : Ordering) → entity_cmp one d.0 ≡ r → (q : Ordering) → entity_cmp one c.0 ≡ q
        → entity_cmp one d.0 ≡ entity_cmp one c.0
        → (lookup (is_at (entity_cmp one)) ds ≡ Some managed → FoundToo one managed.values cs)
        → cond (is_eq r) (Some d.1) (lookup (is_at (entity_cmp one)) ds) ≡ Some managed
        → FoundToo one managed.values (c ∷ cs)
    go Less is q is' same later f = later_too Less (sym same ∙ is) refl (later f)
    go Greater is q is' same later f = later_too Greater (sym same ∙ is) refl (later f)
    go Equal is q is' same later f =
        let own = entity_exact one d.0 is in
        record {
          values = c.1;
          is = ap (λ r. cond (is_eq r) (Some c.1) (lookup (is_at (entity_cmp one)) cs)) (sym same ∙ is);
          agree = subst (λ (x : EntityId). ValuesAgree (attributes_of x.class) managed.values c.1) (sym own)
              (subst (λ (x : Managed). ValuesAgree (attributes_of d.0.class) x.values c.1) (same_Some d.1 managed f) h.1);
        }

-- an entity that comes before all is none of them
none_before : (one : EntityId) (copy : Copy) (values : Values) → ComesBefore one copy
    → lookup (is_at (entity_cmp one)) copy ≡ Some values → ⊥
none_before one [] values h e = cc
none_before one (c ∷ cs) values h e =
    none_before one cs values h.1
    (sym (ap (λ r. cond (is_eq r) (Some c.1) (lookup (is_at (entity_cmp one)) cs)) h.0) ∙ e)

-- where it is there, other values of it are set
pub insert_is_set : (one : EntityId) (values before : Values) (copy : Copy) → IsWhole copy
    → lookup (is_at (entity_cmp one)) copy ≡ Some before
    → insert_entry entity_cmp copy one values ≡ set_value (is_at (entity_cmp one)) copy values
insert_is_set one values before [] h e = absurd (cc)
insert_is_set one values before (c ∷ cs) h e =
    go (entity_cmp one c.0) refl e (λ f. insert_is_set one values before cs h.2 f)
  where
    all_before : (rest : Copy) → entity_cmp one c.0 ≡ Less → ComesBefore c.0 rest → ComesBefore one rest
    all_before [] less k = tt
    all_before (x ∷ xs) less k = (entity_total.trans one c.0 x.0 less k.0, all_before xs less k.1)

    go : (r : Ordering) → entity_cmp one c.0 ≡ r
        → cond (is_eq r) (Some c.1) (lookup (is_at (entity_cmp one)) cs) ≡ Some before
        → (lookup (is_at (entity_cmp one)) cs ≡ Some before
        → insert_entry entity_cmp cs one values ≡ set_value (is_at (entity_cmp one)) cs values)
        → match_ordering r ((one, values) ∷ c ∷ cs) ((c.0, values) ∷ cs) (c ∷ insert_entry entity_cmp cs one values)
        ≡ cond (is_eq r) ((c.0, values) ∷ cs) (c ∷ set_value (is_at (entity_cmp one)) cs values)
    go Less is f later = absurd (none_before one cs before (all_before cs is h.1) f)
    go Equal is f later = refl
    go Greater is f later = ap (λ (x : Copy). c ∷ x) (later f)

pub agrees_set : (one : EntityId) (managed : Managed) (values : Values) (database : Database)
    (copy : Copy) → Agrees database copy
    → ValuesAgree (attributes_of one.class) managed.values values
    → Agrees (set_value (is_at (entity_cmp one)) database managed) (set_value (is_at (entity_cmp one)) copy values)
agrees_set one managed values [] [] h v = tt
agrees_set one managed values [] (c ∷ cs) h v = absurd h
agrees_set one managed values (d ∷ ds) [] h v = absurd h
agrees_set one managed values (d ∷ ds) (c ∷ cs) h v =
    go (entity_cmp one d.0) refl (entity_cmp one c.0) (ap (entity_cmp one) h.0) (agrees_set one managed values ds cs h.2 v)
  where
    test : EntityId → Bool
    test = is_at (entity_cmp one)

    go : (r : Ordering) → entity_cmp one d.0 ≡ r → (q : Ordering) → r ≡ q
        → Agrees (set_value test ds managed) (set_value test cs values)
        → Agrees (cond (is_eq r) ((d.0, managed) ∷ ds) (d ∷ set_value test ds managed))
        (cond (is_eq q) ((c.0, values) ∷ cs) (c ∷ set_value test cs values))
    go Equal is Equal e later =
        (h.0, subst (λ (x : EntityId). ValuesAgree (attributes_of x.class) managed.values values) (entity_exact one d.0 is) v, h.2)
    go Less is Less e later = (h.0, h.1, later)
    go Greater is Greater e later = (h.0, h.1, later)
    go Less is Equal e later = absurd (cc)
    go Less is Greater e later = absurd (cc)
    go Equal is Less e later = absurd (cc)
    go Equal is Greater e later = absurd (cc)
    go Greater is Less e later = absurd (cc)
    go Greater is Equal e later = absurd (cc)

-- a whole database's own copy
pub agrees_itself : (database : Database) → IsWhole (without_makers database)
    → Agrees database (without_makers database)
agrees_itself [] h = tt
agrees_itself (d ∷ ds) h =
    let attributes = ap (λ o. option_map_or (λ (row : Row). row.attributes) o []) h.0.is in (
      refl,
      subst (λ l. ValuesAgree l d.1.values d.1.values) (sym attributes) (values_same h.0.row.attributes d.1.values h.0.shaped),
      agrees_itself ds h.2,
    )
