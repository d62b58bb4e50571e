-- The pieces that carry the groups, and those of a snapshot's entries by their numbers.
use Rattle.std.proofs.Common.{◌≡◌, ℕ, zero, suc, ◌+◌, ◌-◌, ◌<◌, ◌≤◌, Bool, true, false, List, [], ◌∷◌, ◌++◌, length, take, drop, map, replicate, slice_get, Option, option_map, Some, None, Result, Ok, Err, refl, sym, ap, subst, ◌∙◌, inl, inr, append_assoc, arith}
use Rattle.std.specs.Prelude.{nat_le, MatchOption, slice_index_or}
use Rattle.std.specs.List.{flat_map}
use Rattle.std.specs.Int.{to_be_bytes, w16}
use Rattle.std.specs.Option.{option_map_or}
use Rattle.std.specs.Ordering.{nat_cmp, ordering_index}
use Rattle.std.specs.List.Sorted.{IsSearchInRange, IsBinarySearchResult}
use Rattle.std.proofs.lemmas.List.Sorted.{searched}
use Rattle.std.proofs.lemmas.Bool.{cases_lt}
use Rattle.std.proofs.lemmas.List.{append-nil, length-take, length-take-le, length-drop, drop-drop, take-append-drop, length-map, get_or-map}
use Rattle.std.proofs.lemmas.Option.{slice_get-map}
use Rattle.std.proofs.Math.Seq.{take-add}
use Rattle.std.proofs.Math.Nat.{min-le_left}
use Rattle.omci_types.specs.declared.EntityId.{EntityId}
use Rattle.class_spec.specs.Classes.{Attribute as Listed, Row, class_row}
use Rattle.class_spec.specs.Masks.{bit_of}
use Rattle.entity_classes.specs.Rule.{whole_width, attribute_of}
use Rattle.mib_spec.specs.Database.{Managed, Values, bytes_of}
use Rattle.frame_spec.specs.Widths.{filled}
use Rattle.upload_spec.specs.declared.TheConstants.{PIECE_ROOM}
use Rattle.upload_spec.specs.Pieces.{fits, current, ended, groups_from, mask_of, piece_of, pieces_of, pieces, piece_at, without_makers}
use Rattle.upload_spec.specs.Copies.{attributes_of}
use Rattle.mib_store.specs.Layout.{cut}
use Rattle.mib_store.specs.Entries.{values_in, width_in, held_in, maker_of}
use Rattle.mib_store.proofs.Counter.{drop_zeros}
use Rattle.mib_store.proofs.Kept.{whole_cut}
use Rattle.mib_upload.specs.declared.groups.Group.{Group}
use Rattle.mib_upload.specs.declared.taken.Taken.{Taken}
use Rattle.mib_upload.specs.Groups.{no_group, has_room, group_with, group_ended, groups_after, groups_of, piece_by}
use Rattle.mib_upload.specs.Snapshots.{taken_as, database_of, AreNumbered, IsHolder, taken_at, no_taken}
use Rattle.mib_upload.proofs.Cutting.{narrow}

-- a piece put together from its four parts
pub assembled : (class instance mask values zeros one two three four : List ℕ) → length values ≤ 26 → zeros ≡ replicate 32 0
    → take 2 one ≡ class → drop 2 one ≡ drop 2 zeros
    → take 4 two ≡ take 2 one ++ instance → drop 4 two ≡ drop 4 one
    → take 6 three ≡ take 4 two ++ mask → drop 6 three ≡ drop 6 two
    → take (6 + length values) four ≡ take 6 three ++ values → drop (6 + length values) four ≡ drop (6 + length values) three
    → four ≡ class ++ instance ++ mask ++ filled PIECE_ROOM values
assembled class instance mask values zeros one two three four few blank f1 b1 f2 b2 f3 b3 f4 b4 =
    let n : ℕ = length values in
    let front : take (6 + n) four ≡ class ++ instance ++ mask ++ values =
    f4 ∙ ap (λ x. x ++ values) f3 ∙ ap (λ x. (x ++ mask) ++ values) f2 ∙ ap (λ x. ((x ++ instance) ++ mask) ++ values) f1 in
    let two_rest : drop 6 two ≡ drop 2 (drop 4 one) = sym (drop-drop 2 4 two) ∙ ap (drop 2) b2 in
    let one_rest : drop 4 one ≡ drop 2 (drop 2 zeros) = sym (drop-drop 2 2 one) ∙ ap (drop 2) b1 in
    let tail : drop 6 three ≡ replicate 26 0 = b3 ∙ two_rest ∙ ap (drop 2) one_rest ∙ ap (λ (z : List ℕ). drop 2 (drop 2 (drop 2 z))) blank in
    let rest : drop (6 + n) four ≡ replicate (26 - n) 0 = b4 ∙ sym (drop-drop n 6 three) ∙ ap (drop n) tail ∙ drop_zeros 26 n few in
    sym (take-append-drop (6 + n) four) ∙ ap (λ x. x ++ drop (6 + n) four) front ∙ ap (λ x. (class ++ instance ++ mask ++ values) ++ x) rest
    ∙ append_assoc (class ++ instance ++ mask) values _

-- values of a piece more
bytes_more : (group : Values) (one : ℕ × List ℕ) → bytes_of (group ++ one ∷ []) ≡ bytes_of group ++ one.1
bytes_more [] one = append-nil one.1
bytes_more (first ∷ rest) one = ap (λ x. first.1 ++ x) (bytes_more rest one) ∙ sym (append_assoc first.1 (bytes_of rest) one.1)

mask_more : (group : Values) (one : ℕ × List ℕ) → mask_of (group ++ one ∷ []) ≡ mask_of group + bit_of one.0
mask_more [] one = omega arith
mask_more (first ∷ rest) one = omega (arith, mask_more rest one)

module _ (entity : EntityId) (bytes : List ℕ) where
  -- a group of the widths carries a group of the values
  record Carries (group : Group) (values : Values) : Type 0 where
    bytes_are : bytes_of values ≡ take group.width (drop group.start bytes)
    mask_is : mask_of values ≡ group.mask

  one_piece : (group : Group) (values : Values) → Carries group values → piece_of entity values ≡ piece_by entity bytes group
  unfolding piece_of piece_by
  one_piece group values c =
      ap (λ (m : ℕ). to_be_bytes w16 entity.class ++ to_be_bytes w16 entity.instance ++ to_be_bytes w16 m ++ filled PIECE_ROOM (bytes_of values)) c.mask_is
      ∙ ap (λ (b : List ℕ). to_be_bytes w16 entity.class ++ to_be_bytes w16 entity.instance ++ to_be_bytes w16 group.mask ++ filled PIECE_ROOM b) c.bytes_are

  carried : (attributes : List Listed) (group : Group) (values : Values) → group.start + group.width + whole_width attributes ≤ length bytes → Carries group values
      → map (piece_of entity) (groups_from values (cut attributes (drop (group.start + group.width) bytes))) ≡ map (piece_by entity bytes) (groups_after group attributes)
  carried [] group values room c = ap (λ x. x ∷ []) (one_piece group values c)
  carried (one ∷ rest) group values room c =
      ap (λ b. map (piece_of entity) (ended b values ++ groups_from (current b values next) (cut rest (drop one.width (drop end bytes))))) same
      ∙ go (has_room group (attribute_of one)) (λ g v r k. carried rest g v r k)
    where
      end : ℕ
      end = group.start + group.width

      value : List ℕ
      value = take one.width (drop end bytes)

      next : ℕ × List ℕ
      next = (one.number, value)

      value_length : length value ≡ one.width
      value_length = length-take-le one.width (drop end bytes) (omega (arith, length-drop end bytes, room))

      held_length : length (bytes_of values) ≡ group.width
      held_length = ap length c.bytes_are ∙ length-take-le group.width (drop group.start bytes) (omega (arith, length-drop group.start bytes, room))

      same : fits values next ≡ has_room group (attribute_of one)
      same = ap (λ n. nat_le (n + length value) PIECE_ROOM) held_length ∙ ap (λ n. nat_le (group.width + n) PIECE_ROOM) value_length

      later : cut rest (drop one.width (drop end bytes)) ≡ cut rest (drop (end + one.width) bytes)
      later = ap (cut rest) (drop-drop one.width end bytes)

      go : (b : Bool) → ((g : Group) (v : Values) → g.start + g.width + whole_width rest ≤ length bytes → Carries g v → map (piece_of entity) (groups_from v (cut rest (drop (g.start + g.width) bytes))) ≡ map (piece_by entity bytes) (groups_after g rest)) → map (piece_of entity) (ended b values ++ groups_from (current b values next) (cut rest (drop one.width (drop end bytes)))) ≡ map (piece_by entity bytes) (group_ended b group ++ groups_after (group_with b group (attribute_of one)) rest)
      go true more =
          let g : Group = group_with true group (attribute_of one) in
          let place : end + one.width ≡ g.start + g.width = omega arith in
          ap (λ (v : Values). map (piece_of entity) (groups_from (values ++ next ∷ []) v)) (later ∙ ap (λ k. cut rest (drop k bytes)) place)
          ∙ more g (values ++ next ∷ []) (omega (arith, room)) record {
            bytes_are = bytes_more values next ∙ ap (λ x. x ++ value) c.bytes_are ∙ ap (λ x. take group.width (drop group.start bytes) ++ take one.width x) (sym (drop-drop group.width group.start bytes)) ∙ sym (take-add group.width one.width (drop group.start bytes));
            mask_is = mask_more values next ∙ ap (λ m. m + bit_of one.number) c.mask_is;
          }
      go false more =
          let g : Group = group_with false group (attribute_of one) in
          ap (λ (v : Values). map (piece_of entity) (values ∷ groups_from (next ∷ []) v)) later
          ∙ ap (λ (p : List ℕ). p ∷ map (piece_of entity) (groups_from (next ∷ []) (cut rest (drop (end + one.width) bytes)))) (one_piece group values c)
          ∙ ap (λ (ps : List (List ℕ)). piece_by entity bytes group ∷ ps) (more g (next ∷ []) (omega (arith, room)) record {
            bytes_are = append-nil value;
            mask_is = omega arith;
          })

-- the values of a class stand in the order of its attributes
pub in_order : (class : ℕ) (bytes : List ℕ) → values_in class bytes ≡ cut (attributes_of class) bytes
unfolding values_in
in_order class bytes = go (class_row class)
  where
    go : (o : Option Row) → option_map_or (λ (row : Row). cut row.attributes bytes) o [] ≡ cut (option_map_or (λ (row : Row). row.attributes) o []) bytes
    go None = refl
    go (Some row) = refl

pub entity_pieces : (entity : EntityId) (bytes : List ℕ) → length bytes ≡ 45 → pieces_of entity (values_in entity.class bytes) ≡ map (piece_by entity bytes) (groups_of (attributes_of entity.class))
entity_pieces entity bytes wide =
    ap (pieces_of entity) (in_order entity.class bytes)
    ∙ carried entity bytes (attributes_of entity.class) no_group [] (omega (arith, narrow entity.class, wide)) record { bytes_are = refl; mask_is = refl }

pub entity_piece : (entity : EntityId) (bytes : List ℕ) (number : ℕ) → length bytes ≡ 45
    → option_map (piece_by entity bytes) (slice_get (groups_of (attributes_of entity.class)) number) ≡ slice_get (pieces_of entity (values_in entity.class bytes)) number
entity_piece entity bytes number wide =
    sym (slice_get-map (piece_by entity bytes) (groups_of (attributes_of entity.class)) number) ∙ ap (λ (l : List (List ℕ)). slice_get l number) (sym (entity_pieces entity bytes wide))

pub entity_count : (entity : EntityId) (bytes : List ℕ) → length bytes ≡ 45 → length (groups_of (attributes_of entity.class)) ≡ length (pieces_of entity (values_in entity.class bytes))
entity_count entity bytes wide =
    sym (length-map (groups_of (attributes_of entity.class)) (piece_by entity bytes)) ∙ ap length (sym (entity_pieces entity bytes wide))

-- bytes that come after the values change nothing
pub width_narrow : (class : ℕ) → width_in class ≤ 45
width_narrow class = subst (λ n. n ≤ 45) (go (class_row class)) (narrow class)
  where
    go : (o : Option Row) → whole_width (option_map_or (λ (row : Row). row.attributes) o []) ≡ option_map_or (λ (row : Row). whole_width row.attributes) o 0
    go None = refl
    go (Some row) = refl

whole_is : (class : ℕ) → whole_width (attributes_of class) ≡ width_in class
whole_is class = go (class_row class)
  where
    go : (o : Option Row) → whole_width (option_map_or (λ (row : Row). row.attributes) o []) ≡ option_map_or (λ (row : Row). whole_width row.attributes) o 0
    go None = refl
    go (Some row) = refl

pub held_longer : (entity : EntityId) (bytes longer : List ℕ) → length bytes ≡ width_in entity.class → take (length bytes) longer ≡ bytes → held_in entity bytes ≡ held_in entity longer
held_longer entity bytes longer len front =
    let attributes : List Listed = attributes_of entity.class in
    let width : whole_width attributes ≡ length bytes = whole_is entity.class ∙ sym len in
    let same : cut attributes bytes ≡ cut attributes longer = sym (whole_cut attributes longer ∙ ap (λ n. cut attributes (take n longer)) width ∙ ap (cut attributes) front) in
    ap (λ (v : Values). (entity, record { maker = maker_of entity.class; values = v })) (in_order entity.class bytes ∙ same ∙ sym (in_order entity.class longer))

-- pieces by number
abbrev pieces_in : List Taken → List (List ℕ)
pieces_in entries = flat_map (λ (one : EntityId × Values). pieces_of one.0 one.1) (without_makers (database_of entries))

abbrev own : Taken → List (List ℕ)
own taken = pieces_of taken.entity (taken_as taken).1.values

get_front : (xs ys : List (List ℕ)) (n : ℕ) → n < length xs → slice_get (xs ++ ys) n ≡ slice_get xs n
get_front [] ys n lt = absurd (omega arith)
get_front (x ∷ xs) ys zero lt = refl
get_front (x ∷ xs) ys (suc n) lt = get_front xs ys n (omega arith)

get_back : (xs ys : List (List ℕ)) (n : ℕ) → slice_get (xs ++ ys) (length xs + n) ≡ slice_get ys n
get_back [] ys n =
    let none : 0 + n ≡ n = omega arith in
    ap (λ k. slice_get ys k) none
get_back (x ∷ xs) ys n =
    let next : suc (length xs) + n ≡ suc (length xs + n) = omega arith in
    ap (λ k. slice_get (x ∷ (xs ++ ys)) k) next ∙ get_back xs ys n

begins_later : (entries : List Taken) (number at : ℕ) → AreNumbered number entries → at < length entries → number ≤ (taken_at entries at).first
begins_later [] number at h lt = absurd (omega arith)
begins_later (e ∷ es) number zero h lt = omega (arith, h.0)
begins_later (e ∷ es) number (suc at) h lt = omega (arith, begins_later es (number + length (own e)) at h.1 (omega arith))

found_among : (entries : List Taken) (start number at : ℕ) → AreNumbered start entries → at < length entries → (taken_at entries at).first ≤ number → ((k : ℕ) → at < k → k < length entries → number < (taken_at entries k).first)
    → slice_get (own (taken_at entries at)) (number - (taken_at entries at).first) ≡ slice_get (pieces_in entries) (number - start)
found_among [] start number at h lt begun later = absurd (omega arith)
found_among (e ∷ es) start number zero h lt begun later = elim (cases_lt (number - start) (length (own e))) as (λ _. slice_get (own e) (number - e.first) ≡ slice_get (own e ++ pieces_in es) (number - start)) [
  | inl less ↦ ap (λ n. slice_get (own e) (number - n)) h.0 ∙ sym (get_front (own e) (pieces_in es) (number - start) less)
  | inr more ↦ past es h.1 later more
]
  where
    past : (rest : List Taken) → AreNumbered (start + length (own e)) rest → ((k : ℕ) → 0 < k → k < length (e ∷ rest) → number < (taken_at (e ∷ rest) k).first) → length (own e) ≤ number - start → slice_get (own e) (number - e.first) ≡ slice_get (own e ++ pieces_in rest) (number - start)
    past [] h' l more = ap (λ n. slice_get (own e) (number - n)) h.0 ∙ ap (λ (x : List (List ℕ)). slice_get x (number - start)) (sym (append-nil (own e)))
    past (f ∷ rest) h' l more = absurd (omega (arith, h'.0, h.0, begun, more, l 1 (omega arith) (omega arith)))
found_among (e ∷ es) start number (suc at) h lt begun later =
    let enough : start + length (own e) ≤ number = omega (arith, begun, begins_later es (start + length (own e)) at h.1 (omega arith)) in
    let place : length (own e) + (number - (start + length (own e))) ≡ number - start = omega (arith, enough) in
    found_among es (start + length (own e)) number at h.1 (omega arith) begun (λ k low high. later (suc k) (omega (arith, low)) (omega (arith, high)))
    ∙ sym (get_back (own e) (pieces_in es) (number - (start + length (own e)))) ∙ ap (slice_get (own e ++ pieces_in es)) place

pub piece_found : (entries : List Taken) (number at : ℕ) → AreNumbered 0 entries → IsHolder entries number at
    → slice_get (pieces_of (taken_at entries at).entity (taken_as (taken_at entries at)).1.values) (number - (taken_at entries at).first) ≡ piece_at number (without_makers (database_of entries))
unfolding piece_at pieces
piece_found entries number at h is =
    let none : number - 0 ≡ number = omega arith in
    found_among entries 0 number at h is.in_range is.begun is.later ∙ ap (λ k. slice_get (pieces_in entries) k) none

pub no_pieces : (entries : List Taken) (number : ℕ) → entries ≡ [] → None ≡ piece_at number (without_makers (database_of entries))
unfolding piece_at pieces
no_pieces entries number none = sym (ap (λ (l : List Taken). slice_get (pieces_in l) number) none)

pub no_managed : EntityId × Managed
no_managed = held_in (record { class = 0; instance = 0 }) []

pub cut_short : (bytes : List ℕ) (start width : ℕ) (value : List ℕ) → value ≡ take width (drop start bytes) → width ≤ 26 → length value ≤ 26
cut_short bytes start width value is small = omega (arith, ap length is, length-take width (drop start bytes), min-le_left width (length (drop start bytes)))

-- a binary search for a number ends at the entry that begins there, or past the last that begins before
some_groups : (group values : Values) → 1 ≤ length (groups_from group values)
some_groups group [] = omega arith
some_groups group (one ∷ rest) = elim (fits group one) as (λ b. 1 ≤ length (ended b group ++ groups_from (current b group one) rest)) [
  | true ↦ some_groups (group ++ one ∷ []) rest
  | false ↦ omega arith
]

some_own : (taken : Taken) → 1 ≤ length (own taken)
some_own taken = omega (arith, length-map (groups_from [] (taken_as taken).1.values) (piece_of taken.entity), some_groups [] (taken_as taken).1.values)

rises_by : (entries : List Taken) (start i j : ℕ) → AreNumbered start entries → i < j → j < length entries → (taken_at entries i).first < (taken_at entries j).first
rises_by [] start i j h less lt = absurd (omega arith)
rises_by (e ∷ es) start i zero h less lt = absurd (omega arith)
rises_by (e ∷ es) start zero (suc j) h less lt = omega (arith, h.0, some_own e, begins_later es (start + length (own e)) j h.1 (omega arith))
rises_by (e ∷ es) start (suc i) (suc j) h less lt = rises_by es (start + length (own e)) i j h.1 (omega arith) (omega arith)

abbrev first_number : Taken → ℕ
first_number taken = taken.first

search_in : (entries : List Taken) (number : ℕ) (r : Result ℕ ℕ) → IsSearchInRange r (length entries) → IsBinarySearchResult (λ (t : Taken). nat_cmp t.first number) entries r → IsBinarySearchResult (λ n. nat_cmp n number) (map first_number entries) r
search_in entries number (Ok at) in_range equal = λ d. ap (λ n. nat_cmp n number) (get_or-map first_number entries at no_taken d in_range) ∙ equal no_taken
search_in entries number (Err at) in_range parts = λ rises.
    let both = parts (λ i j d le lt.
    let lt' : j < length (map first_number entries) = omega (arith, lt, length-map entries first_number) in
    let less : i < length entries = omega (arith, lt, le) in
    subst (λ n. ordering_index (nat_cmp (slice_index_or entries i d).first number) ≤ ordering_index (nat_cmp n number)) (get_or-map first_number entries j d 0 lt)
    (subst (λ n. ordering_index (nat_cmp n number) ≤ ordering_index (nat_cmp (slice_index_or (map first_number entries) j 0) number)) (get_or-map first_number entries i d 0 less) (rises i j 0 le lt'))) in (
      λ k d low high. ap (λ n. nat_cmp n number) (get_or-map first_number entries k no_taken d (omega (arith, high, in_range))) ∙ both.0 k no_taken low high,
      λ k d low high.
          let lt : k < length entries = omega (arith, high, length-map entries first_number) in
          ap (λ n. nat_cmp n number) (get_or-map first_number entries k no_taken d lt) ∙ both.1 k no_taken low lt,
    )

module _ (entries : List Taken) (number : ℕ) (numbered : AreNumbered 0 entries) where
  first_is : (k : ℕ) → k < length entries → slice_index_or (map first_number entries) k 0 ≡ (taken_at entries k).first
  first_is k lt = get_or-map first_number entries k no_taken 0 lt

  rising : (i j : ℕ) → i ≤ j → j < length (map first_number entries) → slice_index_or (map first_number entries) i 0 ≤ slice_index_or (map first_number entries) j 0
  rising i j le lt =
      let lt' : j < length entries = omega (arith, lt, length-map entries first_number) in
      elim (cases_lt i j) as (λ _. slice_index_or (map first_number entries) i 0 ≤ slice_index_or (map first_number entries) j 0) [
        | inl less ↦ omega (arith, first_is i (omega (arith, le, lt')), first_is j lt', rises_by entries 0 i j numbered less lt')
        | inr more ↦ let same : i ≡ j = omega (arith, le, more) in subst (λ k. slice_index_or (map first_number entries) i 0 ≤ slice_index_or (map first_number entries) k 0) same (omega arith)
      ]

  pub held_at : (at : ℕ) → IsSearchInRange (Ok at) (length entries) → IsBinarySearchResult (λ (t : Taken). nat_cmp t.first number) entries (Ok at) → IsHolder entries number at
  held_at at in_range by_key =
      let facts = searched (map first_number entries) number (Ok at) (search_in entries number (Ok at) in_range by_key) rising in
      let here : (taken_at entries at).first ≡ number = sym (first_is at in_range) ∙ facts.1 in
      record {
        in_range = in_range;
        begun = omega (arith, here);
        later = λ k low high. omega (arith, here, rises_by entries 0 at k numbered low high);
      }

  pub held_before : (at : ℕ) → IsSearchInRange (Err at) (length entries) → IsBinarySearchResult (λ (t : Taken). nat_cmp t.first number) entries (Err at) → (o : Option ℕ) → MatchOption o (at ≡ 0) (λ place. place + 1 ≡ at) → MatchOption o (entries ≡ []) (IsHolder entries number)
  held_before at in_range by_key o o_is = go o o_is
    where
      facts : (at ≤ length (map first_number entries)) × ((k : ℕ) → k < at → slice_index_or (map first_number entries) k 0 < number) × ((k : ℕ) → at ≤ k → k < length (map first_number entries) → number < slice_index_or (map first_number entries) k 0)
      facts = searched (map first_number entries) number (Err at) (search_in entries number (Err at) in_range by_key) rising

      later_is : (k : ℕ) → at ≤ k → k < length entries → number < (taken_at entries k).first
      later_is k low high = omega (arith, first_is k high, facts.2 k low (omega (arith, high, length-map entries first_number)))

      empty : (es : List Taken) → AreNumbered 0 es → ((k : ℕ) → 0 ≤ k → k < length es → number < (taken_at es k).first) → es ≡ []
      empty [] h later = refl
      empty (e ∷ es) h later = absurd (omega (arith, h.0, later 0 (omega arith) (omega arith)))

      go : (o : Option ℕ) → MatchOption o (at ≡ 0) (λ place. place + 1 ≡ at) → MatchOption o (entries ≡ []) (IsHolder entries number)
      go None none = empty entries numbered (λ k low high. later_is k (omega (arith, none)) high)
      go (Some place) is =
          let lt : place < length entries = omega (arith, is, in_range) in
          record {
            in_range = lt;
            begun = omega (arith, first_is place lt, facts.1 place (omega (arith, is)));
            later = λ k low high. later_is k (omega (arith, is, low)) high;
          }
