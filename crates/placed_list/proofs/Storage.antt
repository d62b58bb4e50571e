-- The storage of a list: what an edit of the items or of the order of their places does to the items in order.
use Rattle.std.proofs.Common.{◌≡◌, ◌≢◌, ℕ, zero, suc, ◌+◌, ◌-◌, ◌<◌, ◌≤◌, false, List, [], ◌∷◌, ◌++◌, length, take, drop, map, get_or, set, Result, Ok, Err, OnOk, refl, sym, ap, subst, ◌∙◌, inl, inr, append_assoc, length-take, length-drop, arith}
use Rattle.std.specs.List.{All, AllByRecursion, IsDistinct, insert, remove, flat_map}
use Rattle.std.specs.List.Sorted.{IsPermutation}
use Rattle.std.proofs.Math.Dec.{eqb}
use Rattle.std.proofs.Math.Seq.{get_or-append_seam}
use Rattle.std.proofs.lemmas.Bool.{false≢true}
use Rattle.std.proofs.lemmas.Bool.Decides.{eqb_tells}
use Rattle.std.proofs.lemmas.List.{get_or-map, take_at, take_all, take-take, drop-take, drop-drop, length-take-le, take-map, drop-map, map-append, length-map, length-set, length-append}
use Rattle.std.proofs.lemmas.Grind.{get_or_default_zero}
use Rattle.std.proofs.lemmas.List.Elements.{All-take, All-append, All-cons, All-nil}
use Rattle.std.proofs.lemmas.List.Sorted.{All-permutation, length_permutation}
use Rattle.std.proofs.lemmas.Map.Keys.{IsDistinct-IsPermutation}
use Rattle.std.proofs.lemmas.Slice.{take-put_mid}
use borrow.Rule.Slice.PartMut.{put_mid, post_of}
use Rattle.placed_list.specs.Places.{place_at, item_in, in_order, IsOrder, IsIndex, Lodges}

-- numbers that differ
differs : (p q : ℕ) → eqb p q ≡ false → q ≢ p
differs p q h e = elim (eqb_tells p q) [ inl same ↦ false≢true (sym h ∙ same.0) | inr other ↦ other.1 (sym e) ]

tells : (p q : ℕ) → p ≢ q → eqb p q ≡ false
tells p q h = elim (eqb_tells p q) [ inl same ↦ absurd (h same.1) | inr other ↦ other.0 ]

flips : (p q : ℕ) → eqb p q ≡ eqb q p
flips p q = elim (eqb_tells p q) [
  | inl same ↦ subst (λ k. eqb p k ≡ eqb k p) same.1 refl
  | inr other ↦ other.0 ∙ sym (tells q p (λ e. other.1 (sym e)))
]

at_index : (P : ℕ → Type 0) (xs : List ℕ) (n : ℕ) → AllByRecursion P xs → n < length xs → P (get_or xs n 0)
at_index P [] n h lt = absurd (omega arith)
at_index P (x ∷ xs) zero h lt = h.0
at_index P (x ∷ xs) (suc n) h lt = at_index P xs n h.1 (omega arith)

first_of : (P : ℕ → Type 0) (n : ℕ) (xs : List ℕ) → AllByRecursion P xs → AllByRecursion P (take n xs)
first_of P zero xs h = tt
first_of P (suc n) [] h = tt
first_of P (suc n) (x ∷ xs) h = (h.0, first_of P n xs h.1)

pub distinct_take : (n : ℕ) (xs : List ℕ) → IsDistinct eqb xs → IsDistinct eqb (take n xs)
unfolding IsDistinct
distinct_take zero xs h = tt
distinct_take (suc n) [] h = tt
distinct_take (suc n) (x ∷ xs) h = (first_of (λ y. eqb x y ≡ false) n xs h.0, distinct_take n xs h.1)

-- the places before one are other places
before_apart : (xs : List ℕ) (n : ℕ) → IsDistinct eqb xs → n < length xs → AllByRecursion (λ y. eqb (get_or xs n 0) y ≡ false) (take n xs)
unfolding IsDistinct
before_apart [] n h lt = absurd (omega arith)
before_apart (x ∷ xs) zero h lt = tt
before_apart (x ∷ xs) (suc n) h lt = (flips (get_or xs n 0) x ∙ at_index (λ y. eqb x y ≡ false) xs n h.0 (omega arith), before_apart xs n h.1 (omega arith))

-- the item in a place
one_in : {T : Type 0} (items : List T) (p : ℕ) (d : T) → p < length items → item_in items p ≡ get_or items p d ∷ []
one_in [] p d lt = absurd (omega arith)
one_in (x ∷ xs) zero d lt = refl
one_in (x ∷ xs) (suc p) d lt = one_in xs p d (omega arith)

set_other : {T : Type 0} (items : List T) (p q : ℕ) (e : T) → q ≢ p → item_in (set items p e) q ≡ item_in items q
set_other [] p q e apart = refl
set_other (x ∷ xs) zero zero e apart = absurd (apart refl)
set_other (x ∷ xs) zero (suc q) e apart = refl
set_other (x ∷ xs) (suc p) zero e apart = refl
set_other (x ∷ xs) (suc p) (suc q) e apart = set_other xs p q e (λ same. apart (ap suc same))

set_same : {T : Type 0} (items : List T) (p : ℕ) (e : T) → p < length items → item_in (set items p e) p ≡ e ∷ []
set_same [] p e lt = absurd (omega arith)
set_same (x ∷ xs) zero e lt = refl
set_same (x ∷ xs) (suc p) e lt = set_same xs p e (omega arith)

append_left : {T : Type 0} (items : List T) (e : T) (p : ℕ) → p < length items → item_in (items ++ e ∷ []) p ≡ item_in items p
append_left [] e p lt = absurd (omega arith)
append_left (x ∷ xs) e zero lt = refl
append_left (x ∷ xs) e (suc p) lt = append_left xs e p (omega arith)

append_last : {T : Type 0} (items : List T) (e : T) → item_in (items ++ e ∷ []) (length items) ≡ e ∷ []
append_last [] e = refl
append_last (x ∷ xs) e = append_last xs e

-- the items in order, each by its place
pub by_place : {T : Type 0} (items : List T) (d : T) (ps : List ℕ) → All (λ place. place < length items) ps → in_order items ps ≡ map (λ p. get_or items p d) ps
by_place items d [] inside = refl
by_place items d (p ∷ ps) inside =
    ap (λ h. h ++ in_order items ps) (one_in items p d (inside 0 0 (omega arith)))
    ∙ ap (λ t. get_or items p d ∷ t) (by_place items d ps (λ k z lt. inside (suc k) z (omega arith)))

-- an item is written, and those in other places stay
untouched : {T : Type 0} (items : List T) (p : ℕ) (e : T) (ps : List ℕ) → AllByRecursion (λ y. eqb p y ≡ false) ps → in_order (set items p e) ps ≡ in_order items ps
untouched items p e [] h = refl
untouched items p e (q ∷ ps) h =
    ap (λ x. x ++ in_order (set items p e) ps) (set_other items p q e (differs p q h.0)) ∙ ap (λ xs. item_in items q ++ xs) (untouched items p e ps h.1)

pub written_order : {T : Type 0} (items : List T) (e : T) (order : List ℕ) (at : ℕ) → All (λ place. place < length items) order → IsDistinct eqb order → at < length order → in_order (set items (place_at order at) e) order ≡ set (in_order items order) at e
unfolding IsDistinct
written_order items e [] at inside distinct lt = absurd (omega arith)
written_order items e (p ∷ ps) zero inside distinct lt =
    let there : p < length items = inside 0 0 (omega arith) in
    ap (λ x. x ++ in_order (set items p e) ps) (set_same items p e there) ∙ ap (λ xs. e ∷ xs) (untouched items p e ps distinct.0)
    ∙ ap (λ x. set (x ++ in_order items ps) 0 e) (sym (one_in items p e there))
written_order items e (p ∷ ps) (suc at) inside distinct lt =
    let q : ℕ = place_at ps at in
    let there : p < length items = inside 0 0 (omega arith) in
    let apart : eqb p q ≡ false = at_index (λ y. eqb p y ≡ false) ps at distinct.0 (omega arith) in
    ap (λ x. x ++ in_order (set items q e) ps) (set_other items q p e (differs q p (flips q p ∙ apart)))
    ∙ ap (λ xs. item_in items p ++ xs) (written_order items e ps at (λ k d low. inside (suc k) d (omega arith)) distinct.1 (omega arith))
    ∙ ap (λ x. x ++ set (in_order items ps) at e) (one_in items p e there)
    ∙ ap (λ x. set (x ++ in_order items ps) (suc at) e) (sym (one_in items p e there))

-- an item more at the end
appended_order : {T : Type 0} (items : List T) (e : T) (ps : List ℕ) → All (λ place. place < length items) ps → in_order (items ++ e ∷ []) ps ≡ in_order items ps
appended_order items e [] h = refl
appended_order items e (p ∷ ps) h =
    ap (λ x. x ++ in_order (items ++ e ∷ []) ps) (append_left items e p (h 0 0 (omega arith)))
    ∙ ap (λ xs. item_in items p ++ xs) (appended_order items e ps (λ k d lt. h (suc k) d (omega arith)))

end_apart : (x n : ℕ) (xs : List ℕ) → x < n → AllByRecursion (λ y. eqb x y ≡ false) xs → AllByRecursion (λ y. eqb x y ≡ false) (xs ++ n ∷ [])
end_apart x n [] lt h = (tells x n (λ e. omega (arith, lt, e)), tt)
end_apart x n (y ∷ ys) lt h = (h.0, end_apart x n ys lt h.1)

distinct_end : (xs : List ℕ) (n : ℕ) → All (λ p. p < n) xs → IsDistinct eqb xs → IsDistinct eqb (xs ++ n ∷ [])
unfolding IsDistinct
distinct_end [] n inside h = (tt, tt)
distinct_end (x ∷ xs) n inside h = (end_apart x n xs (inside 0 0 (omega arith)) h.0, distinct_end xs n (λ k d lt. inside (suc k) d (omega arith)) h.1)

module _ {T : Type 0} (items : List T) (order : List ℕ) (count : ℕ) (index : IsIndex items order count) (e : T) where
  -- a free place is taken
  pub lodged : count < length items → Lodges items (set items (place_at order count) e) order order count e
  lodged lt =
      let p : ℕ = place_at order count in
      let there : count < length order = omega (arith, lt, index.places.same) in
      let size : length (set items p e) ≡ length items = length-set items p e in
      record {
        places = subst (λ n. IsOrder n order) (sym size) index.places;
        room = omega (arith, lt, size);
        front = refl;
        kept = untouched items p e (take count order) (before_apart order count index.places.distinct there);
        here = set_same items p e (index.places.inside count 0 there);
      }

  -- a place is made
  pub appended : count ≡ length items → Lodges items (items ++ e ∷ []) order (order ++ length items ∷ []) count e
  appended full =
      let n : ℕ = length items in
      let all : length order ≡ count = omega (arith, full, index.places.same) in
      let size : length (items ++ e ∷ []) ≡ n + 1 = length-append items (e ∷ []) in
      let sizes : length (order ++ n ∷ []) ≡ length order + 1 = length-append order (n ∷ []) in
      let seam : place_at (order ++ n ∷ []) count ≡ n = subst (λ k. place_at (order ++ n ∷ []) k ≡ n) all (get_or-append_seam order n [] 0) in
      record {
        places = record {
          same = omega (arith, sizes, size, index.places.same);
          inside = All-append (λ place. place < length (items ++ e ∷ [])) order (n ∷ []) (λ k d lt. omega (arith, index.places.inside k d lt, size)) (All-cons (λ place. place < length (items ++ e ∷ [])) n [] (omega (arith, size)) (All-nil (λ place. place < length (items ++ e ∷ []))));
          distinct = distinct_end order n index.places.inside index.places.distinct;
        };
        room = omega (arith, size, full);
        front = take_at order (n ∷ []) count all ∙ sym (take_all count order (omega (arith, all)));
        kept = appended_order items e (take count order) (All-take (λ place. place < length items) count order index.places.inside);
        here = ap (item_in (items ++ e ∷ [])) seam ∙ append_last items e;
      }

pub lodged_at : {T : Type 0} (items : List T) (order : List ℕ) (count place : ℕ) (e : T) → IsIndex items order count → count < length items → place ≡ get_or order count place → Lodges items (set items place e) order order count e
lodged_at items order count place e index lt is =
    let same : place ≡ place_at order count = is ∙ get_or_default_zero order count place (omega (arith, lt, index.places.same)) in
    subst (λ p. Lodges items (set items p e) order order count e) (sym same) (lodged items order count index e lt)

pub lodged_as : {T F : Type 0} (r : Result (Unit {0}) F) (items after : List T) (order order' : List ℕ) (count : ℕ) (e : T) → IsIndex items order count → count ≡ length items
    → OnOk r (after ≡ items ++ e ∷ []) → OnOk r (order' ≡ order ++ length items ∷ []) → OnOk r (Lodges items after order order' count e)
lodged_as (Err f) items after order order' count e index full one two = tt
lodged_as (Ok u) items after order order' count e index full one two =
    subst (λ l. Lodges items l order order' count e) (sym one) (subst (λ l. Lodges items (items ++ e ∷ []) order l count e) (sym two) (appended items order count index e full))

-- the order is turned in a part
one_at : (xs : List ℕ) (n : ℕ) → n < length xs → take 1 (drop n xs) ≡ get_or xs n 0 ∷ []
one_at [] n lt = absurd (omega arith)
one_at (x ∷ xs) zero lt = refl
one_at (x ∷ xs) (suc n) lt = one_at xs n (omega arith)

module _ (xs ys : List ℕ) (at k : ℕ) (there : at + k < length xs) (len : length ys ≡ k + 1) where
  abbrev sub : List ℕ
  sub = take (k + 1) (drop at xs)

  turned_up : ys ≡ drop k sub ++ take k sub → take (at + k + 1) (put_mid at (k + 1) xs ys) ≡ insert (take (at + k) xs) at (place_at xs (at + k))
  turned_up is =
      let first : drop k sub ≡ place_at xs (at + k) ∷ [] = drop-take k 1 (drop at xs) ∙ ap (take 1) (drop-drop k at xs) ∙ one_at xs (at + k) there in
      let rest : take k sub ≡ drop at (take (at + k) xs) = take-take k (k + 1) (drop at xs) (omega arith) ∙ sym (drop-take at k xs) in
      take-put_mid at (k + 1) xs ys (at + k + 1) (omega (arith, len)) (omega (arith, there))
      ∙ ap (λ r. take at xs ++ r) (is ∙ ap (λ f. f ++ take k sub) first ∙ ap (λ t. place_at xs (at + k) ∷ t) rest)
      ∙ ap (λ h. h ++ place_at xs (at + k) ∷ drop at (take (at + k) xs)) (sym (take-take at (at + k) xs (omega arith)))

  turned_down : ys ≡ drop 1 sub ++ take 1 sub → take (at + k) (put_mid at (k + 1) xs ys) ≡ remove (take (at + k + 1) xs) at
  turned_down is =
      let front : List ℕ = take at xs ++ drop 1 sub in
      let later : List ℕ = take 1 sub ++ post_of at (k + 1) xs in
      let whole : put_mid at (k + 1) xs ys ≡ front ++ later =
      ap (λ (r : List ℕ). take at xs ++ (r ++ post_of at (k + 1) xs)) is ∙ ap (λ (r : List ℕ). take at xs ++ r) (append_assoc (drop 1 sub) (take 1 sub) (post_of at (k + 1) xs)) ∙ sym (append_assoc (take at xs) (drop 1 sub) later) in
      let size : length front ≡ at + k =
      omega (arith, there, length-append (take at xs) (drop 1 sub), length-take at xs, length-drop 1 sub, length-take (k + 1) (drop at xs), length-drop at xs) in
      let one : drop 1 sub ≡ take k (drop (at + 1) xs) = ap (λ n. drop 1 (take n (drop at xs))) {x = k + 1} {y = 1 + k} (omega arith) ∙ drop-take 1 k (drop at xs) ∙ ap (take k) (drop-drop 1 at xs) in
      let same : drop (suc at) (take (at + k + 1) xs) ≡ take k (drop (at + 1) xs) =
      ap (λ n. drop (suc at) (take n xs)) {x = at + k + 1} {y = suc at + k} (omega arith) ∙ drop-take (suc at) k xs ∙ ap (λ n. take k (drop n xs)) {x = suc at} {y = at + 1} (omega arith) in
      ap (take (at + k)) whole ∙ take_at front later (at + k) size
      ∙ ap (λ r. take at xs ++ r) (one ∙ sym same) ∙ ap (λ h. h ++ drop (suc at) (take (at + k + 1) xs)) (sym (take-take at (at + k + 1) xs (omega arith)))

module _ (xs ys : List ℕ) (from at w : ℕ) (before : at ≤ from) (there : from < length xs) (wide : w ≡ from + 1 - at) (len : length ys ≡ length (take w (drop at xs))) where
  abbrev part : List ℕ
  part = take w (drop at xs)

  ends : at + (from - at) ≡ from
  ends = omega (arith, before)

  spans : w ≡ from - at + 1
  spans = omega (arith, before, wide)

  size : length part ≡ w
  size = omega (arith, there, before, wide, length-take w (drop at xs), length-drop at xs)

  less : length part - 1 ≡ from - at
  less = omega (arith, size, spans)

  pub moved_up : ys ≡ drop (length part - 1) part ++ take (length part - 1) part → take (from + 1) (put_mid at w xs ys) ≡ insert (take from xs) at (place_at xs from)
  moved_up is =
      let k : ℕ = from - at in
      let is' : ys ≡ drop k (take (k + 1) (drop at xs)) ++ take k (take (k + 1) (drop at xs)) =
      is ∙ ap (λ n. drop n part ++ take n part) less ∙ ap (λ n. drop k (take n (drop at xs)) ++ take k (take n (drop at xs))) spans in
      let up = turned_up xs ys at k (omega (arith, there, ends)) (omega (arith, len, size, spans)) is' in
      subst (λ f. take (f + 1) (put_mid at w xs ys) ≡ insert (take f xs) at (place_at xs f)) ends
      (subst (λ n. take (at + k + 1) (put_mid at n xs ys) ≡ insert (take (at + k) xs) at (place_at xs (at + k))) (sym spans) up)

  pub moved_down : ys ≡ drop 1 part ++ take 1 part → take from (put_mid at w xs ys) ≡ remove (take (from + 1) xs) at
  moved_down is =
      let k : ℕ = from - at in
      let is' : ys ≡ drop 1 (take (k + 1) (drop at xs)) ++ take 1 (take (k + 1) (drop at xs)) = is ∙ ap (λ n. drop 1 (take n (drop at xs)) ++ take 1 (take n (drop at xs))) spans in
      let down = turned_down xs ys at k (omega (arith, there, ends)) (omega (arith, len, size, spans)) is' in
      subst (λ f. take f (put_mid at w xs ys) ≡ remove (take (f + 1) xs) at) ends
      (subst (λ n. take (at + k) (put_mid at n xs ys) ≡ remove (take (at + k + 1) xs) at) (sym spans) down)

pub order_moved : (n : ℕ) (order order' : List ℕ) → IsOrder n order → IsPermutation order order' → IsOrder n order'
order_moved n order order' is moved = record {
  same = length_permutation order order' moved ∙ is.same;
  inside = All-permutation (λ place. place < n) order order' moved is.inside;
  distinct = IsDistinct-IsPermutation eqb flips order order' moved is.distinct;
}

-- the items in order are edited as the places are
all_mapped : {T : Type 0} (d : T) (items : List T) (count : ℕ) (order : List ℕ) → All (λ place. place < length items) order → in_order items (take count order) ≡ map (λ p. get_or items p d) (take count order)
all_mapped d items count order inside = by_place items d (take count order) (All-take (λ place. place < length items) count order inside)

map_inserted : {T : Type 0} (f : ℕ → T) (order : List ℕ) (at p : ℕ) → map f (insert order at p) ≡ insert (map f order) at (f p)
map_inserted f order at p =
    map-append f (take at order) (p ∷ drop at order)
    ∙ ap (λ h. h ++ f p ∷ map f (drop at order)) (sym (take-map f at order))
    ∙ ap (λ t. take at (map f order) ++ f p ∷ t) (sym (drop-map f at order))

map_removed : {T : Type 0} (f : ℕ → T) (order : List ℕ) (at : ℕ) → map f (remove order at) ≡ remove (map f order) at
map_removed f order at =
    map-append f (take at order) (drop (suc at) order)
    ∙ ap (λ h. h ++ map f (drop (suc at) order)) (sym (take-map f at order))
    ∙ ap (λ t. take at (map f order) ++ t) (sym (drop-map f (suc at) order))

one_same : {T : Type 0} (items : List T) (p : ℕ) (e : T) → p < length items → item_in items p ≡ e ∷ [] → get_or items p e ≡ e
one_same items p e lt is = ap (λ l. get_or l 0 e) (sym (one_in items p e lt) ∙ is)

get_or_other : {T : Type 0} (items : List T) (p : ℕ) (d e : T) → p < length items → get_or items p d ≡ get_or items p e
get_or_other [] p d e lt = absurd (omega arith)
get_or_other (x ∷ xs) zero d e lt = refl
get_or_other (x ∷ xs) (suc p) d e lt = get_or_other xs p d e (omega arith)

get_or-take : {T : Type 0} (at count : ℕ) (items : List T) (d : T) → at < count → get_or (take count items) at d ≡ get_or items at d
get_or-take at zero items d lt = absurd (omega arith)
get_or-take at (suc count) [] d lt = refl
get_or-take zero (suc count) (x ∷ xs) d lt = refl
get_or-take (suc at) (suc count) (x ∷ xs) d lt = get_or-take at count xs d (omega arith)

-- a list of no items, and its length
no_index : {T : Type 0} → IsIndex {T = T} [] [] 0
unfolding IsDistinct
no_index = record { places = record { same = refl; inside = All-nil (λ p. p < 0); distinct = tt }; used = omega arith }

pub empty_index : {T : Type 0} (items : List T) (order : List ℕ) → items ≡ [] → order ≡ [] → IsIndex items order 0
empty_index items order none no_places = subst (λ o. IsIndex items o 0) (sym no_places) (subst (λ l. IsIndex l [] 0) (sym none) no_index)

view_size : {T : Type 0} (items : List T) (ps : List ℕ) → All (λ place. place < length items) ps → length (in_order items ps) ≡ length ps
view_size items [] inside = refl
view_size [] (p ∷ ps) inside = absurd (omega (arith, inside 0 0 (omega arith)))
view_size (x ∷ xs) (p ∷ ps) inside = ap length (by_place (x ∷ xs) x (p ∷ ps) inside) ∙ length-map (p ∷ ps) (λ q. get_or (x ∷ xs) q x)

-- the first items are those in the first places
in_taken : {T : Type 0} (items : List T) (ps : List ℕ) (k : ℕ) → All (λ place. place < length items) ps → in_order items (take k ps) ≡ take k (in_order items ps)
in_taken items ps zero inside = refl
in_taken items [] (suc k) inside = refl
in_taken [] (p ∷ ps) (suc k) inside = absurd (omega (arith, inside 0 0 (omega arith)))
in_taken (x ∷ xs) (p ∷ ps) (suc k) inside =
    let one : item_in (x ∷ xs) p ≡ get_or (x ∷ xs) p x ∷ [] = one_in (x ∷ xs) p x (inside 0 0 (omega arith)) in
    ap (λ h. h ++ in_order (x ∷ xs) (take k ps)) one ∙ ap (λ t. get_or (x ∷ xs) p x ∷ t) (in_taken (x ∷ xs) ps k (λ j z lt. inside (suc j) z (omega arith)))
    ∙ sym (ap (λ h. take (suc k) (h ++ in_order (x ∷ xs) ps)) one)

-- a list with an item more, and with one less
module _ {T : Type 0} (old : List T) (order : List ℕ) (count : ℕ) where
  pub view_length : IsIndex old order count → length (in_order old (take count order)) ≡ count
  view_length index = view_size old (take count order) (All-take (λ place. place < length old) count order index.places.inside) ∙ length-take-le count order (omega (arith, index.used, index.places.same))

  -- the place that stands there is that of an item
  pub place_inside : (at place : ℕ) → IsIndex old order count → at < count → place ≡ get_or order at place → place < length old
  place_inside at place index lt is =
      let there : at < length order = omega (arith, lt, index.used, index.places.same) in
      subst (λ p. p < length old) (sym is) (index.places.inside at place there)

  pub item_is : (at place : ℕ) (item other : T) → IsIndex old order count → at < count → place ≡ get_or order at place → item ≡ get_or old place item → item ≡ get_or (in_order old (take count order)) at other
  item_is at place item other index lt place_is is =
      let front : List ℕ = take count order in
      let size : length front ≡ count = length-take-le count order (omega (arith, index.used, index.places.same)) in
      let inside : place < length old = place_inside at place index lt place_is in
      let first : get_or front at place ≡ place = get_or-take at count order place lt ∙ sym place_is in
      is ∙ get_or_other old place item other inside ∙ ap (λ p. get_or old p other) (sym first) ∙ sym (get_or-map (λ p. get_or old p other) front at place other (omega (arith, lt, size)))
      ∙ ap (λ l. get_or l at other) (sym (all_mapped other old count order index.places.inside))

  pub inserted_index : (new : List T) (order' order'' items : List ℕ) (e : T) → Lodges old new order order' count e → IsPermutation order' order'' → items ≡ order'' → IsIndex new items (count + 1)
  inserted_index new order' order'' items e is moved same =
      subst (λ l. IsIndex new l (count + 1)) (sym same) (record { places = order_moved (length new) order' order'' is.places moved; used = omega (arith, is.room) })

  pub inserted_view : (at : ℕ) (new : List T) (order' order'' items : List ℕ) (e : T) → Lodges old new order order' count e → IsPermutation order' order'' → take (count + 1) order'' ≡ insert (take count order') at (place_at order' count) → items ≡ order''
      → in_order new (take (count + 1) items) ≡ insert (in_order old (take count order)) at e
  inserted_view at new order' order'' items e is moved turned same =
      let f : ℕ → T = λ p. get_or new p e in
      let inside : All (λ place. place < length new) order'' = (order_moved (length new) order' order'' is.places moved).inside in
      let there : count < length order' = omega (arith, is.room, is.places.same) in
      let here : f (place_at order' count) ≡ e = one_same new (place_at order' count) e (is.places.inside count 0 there) is.here in
      ap (λ l. in_order new (take (count + 1) l)) same ∙ all_mapped e new (count + 1) order'' inside ∙ ap (map f) turned ∙ map_inserted f (take count order') at (place_at order' count)
      ∙ ap (λ x. insert (map f (take count order')) at x) here
      ∙ ap (λ xs. insert xs at e) (sym (all_mapped e new count order' is.places.inside) ∙ ap (in_order new) is.front ∙ is.kept)

  pub removed_index : (order' items : List ℕ) → IsIndex old order count → IsPermutation order order' → items ≡ order' → IsIndex old items (count - 1)
  removed_index order' items is moved same =
      subst (λ l. IsIndex old l (count - 1)) (sym same) (record { places = order_moved (length old) order order' is.places moved; used = omega (arith, is.used) })

  pub removed_view : (at : ℕ) (order' items : List ℕ) → IsIndex old order count → at < count → IsPermutation order order' → take (count - 1) order' ≡ remove (take (count - 1 + 1) order) at → items ≡ order'
      → in_order old (take (count - 1) items) ≡ remove (in_order old (take count order)) at
  removed_view at order' items index lt moved turned same = removed_by old refl
    where
      removed_by : (all : List T) → all ≡ old → in_order old (take (count - 1) items) ≡ remove (in_order old (take count order)) at
      removed_by [] none = absurd (omega (arith, lt, index.used, ap length none))
      removed_by (d ∷ rest) some =
          let f : ℕ → T = λ p. get_or old p d in
          let back : count - 1 + 1 ≡ count = omega (arith, lt) in
          let inside : All (λ place. place < length old) order' = (order_moved (length old) order order' index.places moved).inside in
          ap (λ l. in_order old (take (count - 1) l)) same ∙ all_mapped d old (count - 1) order' inside ∙ ap (map f) (turned ∙ ap (λ n. remove (take n order) at) back) ∙ map_removed f (take count order) at
          ∙ ap (λ l. remove l at) (sym (all_mapped d old count order index.places.inside))

  pub written_view : (at : ℕ) (items new : List T) (e : T) → items ≡ new → in_order new (take count order) ≡ set (in_order old (take count order)) at e → in_order items (take count order) ≡ set (in_order old (take count order)) at e
  written_view at items new e same is = ap (λ l. in_order l (take count order)) same ∙ is

  pub written_index : (items new : List T) → items ≡ new → length new ≡ length old → IsIndex old order count → IsIndex items order count
  written_index items new same size is =
      let sizes : length items ≡ length old = ap length same ∙ size in
      record { places = subst (λ n. IsOrder n order) (sym sizes) is.places; used = omega (arith, is.used, sizes) }

  pub truncated_index : (k : ℕ) → k ≤ count → IsIndex old order count → IsIndex old order k
  truncated_index k le is = record { places = is.places; used = omega (arith, is.used, le) }

  pub truncated_view : (k : ℕ) → k ≤ count → IsIndex old order count → in_order old (take k order) ≡ take k (in_order old (take count order))
  truncated_view k le is =
      ap (in_order old) (sym (take-take k count order le)) ∙ in_taken old (take count order) k (All-take (λ place. place < length old) count order is.places.inside)
