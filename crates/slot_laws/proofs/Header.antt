-- What the first 4,096 bytes of a disk show of the slots that it stands for.
use Rattle.std.proofs.Common.{◌≡◌, inl, inr, ℕ, zero, suc, ◌+◌, ◌-◌, ◌*◌, ◌%◌, ◌^◌, ◌≤◌, ◌<◌, ◌==◌, ◌&&◌, Bool, true, cond, nat_le, List, ◌++◌, length, get_or, take, drop, Option, Some, None, IsSome, refl, sym, ◌∙◌, ap, subst, arith, append_assoc}
use Rattle.std.proofs.lemmas.Bool.{false≢true, cases_Bool, eq-eqb, eqb-true, leb-true, le-leb, and_from, and_parts}
use Rattle.std.proofs.lemmas.Bool.Decides.{nat_tests}
use Rattle.std.proofs.lemmas.List.{get_or-take, drop-take, take-take, take_at, drop_at, drop-drop, take_all}
use Rattle.std.proofs.lemmas.Nat.{from_be_bytes-to_be_bytes_4}
use Rattle.std.specs.Option.{option_map}
use Rattle.std.specs.Str.{bytes_eq}
use Rattle.std.specs.Int.{from_be_bytes, to_be_bytes, w32}
use Rattle.omci_types.specs.declared.SlotView.{SlotView}
use Rattle.frame_spec.specs.Checksum.{crc}
use Rattle.slot_spec.specs.declared.DiskHeader.{DiskHeader}
use Rattle.slot_laws.proofs.Gate.{field_one, gate_inside, is_open}
use Rattle.slot_laws.proofs.Fill.{length-version}
use Rattle.frame_laws.proofs.Lengths.{crc-lt}
use Rattle.slot_spec.specs.Crash.{field}
use Rattle.slot_spec.specs.Slots.{SlotPair, image_at}
use Rattle.slot_spec.specs.Layout.{magic, gate_place, entry_place, entry, version, given_length, IsLength, SlotIn, StandsAt, IsOpen}
use Rattle.slot_spec.specs.Header.{view_of, view_at, number_at, is_valid, entry_view, slot_header_in, disk_header_in, has_unit}
use Rattle.slot_spec.specs.Owner.{ShowsSlot, Shows}

-- what stands within the front of a list
pub field-front : (front place count : ℕ) (bytes : List ℕ) → place + count ≤ front → field place count (take front bytes) ≡ field place count bytes
field-front front place count bytes fits =
    let split : front ≡ place + (front - place) = omega arith in
    ap (λ (n : ℕ). take count (drop place (take n bytes))) split
    ∙ ap (λ (l : List ℕ). take count l) (drop-take place (front - place) bytes)
    ∙ take-take count (front - place) (drop place bytes) (omega arith)

pub field-field : (place count inner n : ℕ) (bytes : List ℕ) → inner + n ≤ count → field inner n (field place count bytes) ≡ field (place + inner) n bytes
field-field place count inner n bytes fits = field-front count inner n (drop place bytes) fits ∙ ap (λ (l : List ℕ). take n l) (drop-drop inner place bytes)

number-of : (n : ℕ) (rest : List ℕ) → n < 2 ^ 32 → from_be_bytes w32 (take 4 (to_be_bytes w32 n ++ rest)) ≡ n
number-of n rest fits = ap (λ (l : List ℕ). from_be_bytes w32 l) (take_at (to_be_bytes w32 n) rest 4 refl) ∙ from_be_bytes-to_be_bytes_4 n fits

-- an entry is read as what it was made of
pub entry-length : (image : List ℕ) → length image < 2 ^ 32 → from_be_bytes w32 (take 4 (entry image)) ≡ length image
unfolding entry
entry-length image fits = number-of (length image) (to_be_bytes w32 (crc image) ++ version image) fits

entry-check : (image : List ℕ) → from_be_bytes w32 (field 4 4 (entry image)) ≡ crc image
unfolding entry
entry-check image =
    ap (λ (l : List ℕ). from_be_bytes w32 (take 4 l)) (drop_at (to_be_bytes w32 (length image)) (to_be_bytes w32 (crc image) ++ version image) 4 refl)
    ∙ number-of (crc image) (version image) (crc-lt image)

entry-version : (image : List ℕ) → field 8 14 (entry image) ≡ version image
unfolding entry
entry-version image =
    ap (λ (l : List ℕ). take 14 (drop 8 l)) (sym (append_assoc (to_be_bytes w32 (length image)) (to_be_bytes w32 (crc image)) (version image)))
    ∙ ap (λ (l : List ℕ). take 14 l) (drop_at (to_be_bytes w32 (length image) ++ to_be_bytes w32 (crc image)) (version image) 8 refl)
    ∙ take_all 14 (version image) (omega (arith, length-version image))

-- whatever stands in the range that holds an entry
given_is : (place : ℕ) (bytes : List ℕ) → number_at place bytes ≡ given_length (field place 22 bytes)
unfolding number_at given_length
given_is place bytes = ap (λ (l : List ℕ). from_be_bytes w32 l) (sym (take-take 4 22 (drop place bytes) (omega arith)))

view_entered : (place : ℕ) (bytes image : List ℕ) → field place 22 bytes ≡ entry image → length image < 2 ^ 32 → entry_view place bytes ≡ view_of image
unfolding entry_view number_at
view_entered place bytes image is fits =
    let size : from_be_bytes w32 (field place 4 bytes) ≡ length image =
    ap (λ (l : List ℕ). from_be_bytes w32 l) (sym (take-take 4 22 (drop place bytes) (omega arith))) ∙ ap (λ (l : List ℕ). from_be_bytes w32 (take 4 l)) is ∙ entry-length image fits in
    let check : from_be_bytes w32 (field (place + 4) 4 bytes) ≡ crc image =
    ap (λ (l : List ℕ). from_be_bytes w32 l) (sym (field-field place 22 4 4 bytes (omega arith))) ∙ ap (λ (l : List ℕ). from_be_bytes w32 (field 4 4 l)) is ∙ entry-check image in
    let first : field (place + 8) 14 bytes ≡ version image =
    sym (field-field place 22 8 14 bytes (omega arith)) ∙ ap (λ (l : List ℕ). field 8 14 l) is ∙ entry-version image in
    λ i. record { length = size i; crc = check i; version = first i }

valid_since : (room gate given : ℕ) → gate ≡ 165 → IsLength room given → is_valid room gate given ≡ true
unfolding is_valid
valid_since room gate given is within = let low : 1 ≤ given = within.0 in let high : given ≤ room = within.1 in grind (arith, nat_tests)

valid_parts : (room gate given : ℕ) → is_valid room gate given ≡ true → (gate ≡ 165) × IsLength room given
unfolding is_valid
valid_parts room gate given valid =
    let a = and_parts (gate == 165) (nat_le 1 given && nat_le given room) valid in
    let b = and_parts (nat_le 1 given) (nat_le given room) a.1 in
    (eqb-true gate 165 a.0, (leb-true 1 given b.0, leb-true given room b.1))

byte-open : (slot : ℕ) (bytes : List ℕ) → 4096 ≤ length bytes → IsOpen slot bytes → get_or bytes (gate_place slot) 0 ≡ 165
byte-open slot bytes long opened = ap (λ (l : List ℕ). get_or l 0 0) (sym (field_one (gate_place slot) bytes (gate_inside slot (length bytes) long)) ∙ opened)

known_view : (room slot : ℕ) (bytes : List ℕ) (image : Option (List ℕ)) → room ≤ 16777216 → 4096 ≤ length bytes → SlotIn room bytes slot image → (slot_header_in room slot bytes).view ≡ option_map view_of image
unfolding slot_header_in number_at entry_view
known_view room slot bytes (Some image) small long stands =
    let byte = byte-open slot bytes long stands.opened in
    let fits : length image < 2 ^ 32 = omega (arith, stands.within) in
    let view = view_entered (entry_place slot) bytes image stands.entered fits in
    let given : number_at (entry_place slot) bytes ≡ length image = ap (λ (v : SlotView). v.length) view in
    let valid = valid_since room (get_or bytes (gate_place slot) 0) (number_at (entry_place slot) bytes) byte (subst (λ (n : ℕ). IsLength room n) (sym given) stands.within) in
    ap (λ (b : Bool). cond b (Some (entry_view (entry_place slot) bytes)) None) valid ∙ ap (λ (v : SlotView). Some v) view
known_view room slot bytes None small long stands = elim (cases_Bool (is_valid room (get_or bytes (gate_place slot) 0) (number_at (entry_place slot) bytes))) [
  | inl valid ↦
      let parts = valid_parts room (get_or bytes (gate_place slot) 0) (number_at (entry_place slot) bytes) valid in
      absurd (stands (is_open slot bytes long parts.0) (subst (λ (n : ℕ). IsLength room n) (given_is (entry_place slot) bytes) parts.1))
  | inr not ↦ ap (λ (b : Bool). cond b (Some (entry_view (entry_place slot) bytes)) None) not
]

pub shows_slot_in : (room slot : ℕ) (bytes : List ℕ) (image : Option (List ℕ)) → room ≤ 16777216 → 4096 ≤ length bytes → SlotIn room bytes slot image → ShowsSlot slot (slot_header_in room slot bytes) image bytes
unfolding slot_header_in
shows_slot_in room slot bytes image small long stands = record {
  view_is = known_view room slot bytes image small long stands;
  open_is = (λ e. is_open slot bytes long (eqb-true (get_or bytes (gate_place slot) 0) 165 e), λ o. eq-eqb (get_or bytes (gate_place slot) 0) 165 (byte-open slot bytes long o));
}

room_read : (room : ℕ) (bytes : List ℕ) (s : SlotPair) → StandsAt room bytes s → number_at 8 bytes ≡ room
unfolding number_at
room_read room bytes s stands = ap (λ (l : List ℕ). from_be_bytes w32 l) stands.room_is ∙ from_be_bytes-to_be_bytes_4 room (omega (arith, stands.room_fits))

-- the header of bytes that stand for slots is right for them
pub header_shows : (room : ℕ) (bytes : List ℕ) (s : SlotPair) → StandsAt room bytes s → Shows (disk_header_in bytes) s bytes
unfolding disk_header_in
header_shows room bytes s stands =
    let same = room_read room bytes s stands in
    let stands_read : StandsAt (number_at 8 bytes) bytes s = subst (λ (n : ℕ). StandsAt n bytes s) (sym same) stands in
    let small : number_at 8 bytes ≤ 16777216 = omega (arith, stands_read.room_fits) in
    let long : 4096 ≤ length bytes = omega (arith, stands.long) in
    record {
      stands = stands_read;
      committed_is = stands.committed_is;
      first = shows_slot_in (number_at 8 bytes) 0 bytes s.first small long stands_read.first;
      second = shows_slot_in (number_at 8 bytes) 1 bytes s.second small long stands_read.second;
    }

pub number-front : (place : ℕ) (bytes : List ℕ) → place + 4 ≤ 4096 → number_at place (take 4096 bytes) ≡ number_at place bytes
unfolding number_at
number-front place bytes fits = ap (λ (l : List ℕ). from_be_bytes w32 l) (field-front 4096 place 4 bytes fits)

pub entry_fits : (slot : ℕ) → entry_place slot + 22 ≤ 4096
entry_fits zero = omega arith
entry_fits (suc _) = omega arith

pub gate_fits : (slot : ℕ) → gate_place slot < 4096
gate_fits zero = omega arith
gate_fits (suc _) = omega arith

view-front : (place : ℕ) (bytes : List ℕ) → place + 22 ≤ 4096 → entry_view place (take 4096 bytes) ≡ entry_view place bytes
unfolding entry_view
view-front place bytes fits =
    let size = number-front place bytes (omega arith) in
    let check = number-front (place + 4) bytes (omega arith) in
    let first = field-front 4096 (place + 8) 14 bytes (omega arith) in
    λ i. record { length = size i; crc = check i; version = first i }

known-front : (room slot : ℕ) (bytes : List ℕ) → slot_header_in room slot (take 4096 bytes) ≡ slot_header_in room slot bytes
unfolding slot_header_in
known-front room slot bytes =
    let gate : get_or (take 4096 bytes) (gate_place slot) 0 ≡ get_or bytes (gate_place slot) 0 = get_or-take 4096 bytes (gate_place slot) 0 (gate_fits slot) in
    let given = number-front (entry_place slot) bytes (omega (arith, entry_fits slot)) in
    let view = view-front (entry_place slot) bytes (entry_fits slot) in
    λ i. record { opened = gate i == 165; view = cond (is_valid room (gate i) (given i)) (Some (view i)) None }

pub header-front : (bytes : List ℕ) → disk_header_in (take 4096 bytes) ≡ disk_header_in bytes
unfolding disk_header_in
header-front bytes =
    let room = number-front 8 bytes (omega arith) in
    let committed : get_or (take 4096 bytes) 512 0 ≡ get_or bytes 512 0 = get_or-take 4096 bytes 512 0 (omega arith) in
    ap (λ (n : ℕ). record { room = n; committed = get_or (take 4096 bytes) 512 0 % 2; first = slot_header_in n 0 (take 4096 bytes); second = slot_header_in n 1 (take 4096 bytes) }) room
    ∙ (λ i. record { room = number_at 8 bytes; committed = committed i % 2; first = known-front (number_at 8 bytes) 0 bytes i; second = known-front (number_at 8 bytes) 1 bytes i })

pub unit-front : (size : ℕ) (bytes : List ℕ) → has_unit size (take 4096 bytes) ≡ has_unit size bytes
unfolding has_unit
unit-front size bytes =
    let room = number-front 8 bytes (omega arith) in
    let first = field-front 4096 0 8 bytes (omega arith) in
    λ i. bytes_eq (first i) magic && (nat_le 1 (room i) && (nat_le (room i) 16777216 && nat_le (4096 + 2 * room i) size))

pub unit_there : (room size : ℕ) (bytes : List ℕ) (s : SlotPair) → StandsAt room bytes s → size ≡ length bytes → has_unit size bytes ≡ true
unfolding has_unit
unit_there room size bytes s stands is =
    let same = room_read room bytes s stands in
    and_from (bytes_eq (field 0 8 bytes) magic) _ (ap (λ (l : List ℕ). bytes_eq l magic) stands.magic_is)
    (and_from (nat_le 1 (number_at 8 bytes)) _ (lt-leb' 1 (number_at 8 bytes) (omega (arith, same, stands.room_fits)))
    (and_from (nat_le (number_at 8 bytes) 16777216) _ (lt-leb' (number_at 8 bytes) 16777216 (omega (arith, same, stands.room_fits)))
    (lt-leb' (4096 + 2 * number_at 8 bytes) size (omega (arith, same, stands.long, is)))))
  where
    lt-leb' : (a b : ℕ) → a ≤ b → nat_le a b ≡ true
    lt-leb' a b le = le-leb a b le

some_view : (image : Option (List ℕ)) (view : Option SlotView) → view ≡ option_map view_of image → IsSome image → view ≡ None → ⊥
some_view None view is some none = false≢true some
some_view (Some image) view is some none = let both : Some (view_of image) ≡ None = sym is ∙ none in cc both

-- the committed slot of bytes that stand for slots has an image
pub committed_view : (header : DiskHeader) (s : SlotPair) (bytes : List ℕ) → Shows header s bytes → view_at header.committed header ≡ None → ⊥
committed_view header s bytes shows none = at header.committed shows.committed_is none
  where
    at : (k : ℕ) → k ≡ s.committed → view_at k header ≡ None → ⊥
    at zero is none = some_view s.first header.first.view shows.first.view_is (subst (λ (n : ℕ). IsSome (image_at n s)) (sym is) shows.stands.bootable) none
    at (suc _) is none = some_view s.second header.second.view shows.second.view_is (subst (λ (n : ℕ). IsSome (image_at n s)) (sym is) shows.stands.bootable) none
