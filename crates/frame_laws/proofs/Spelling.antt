-- The laws of the one spelling of a baseline frame.
use Rattle.std.proofs.Common.{◌≡◌, ℕ, ◌+◌, ◌≤◌, ◌<◌, ◌^◌, List, [], ◌∷◌, ◌++◌, length, take, drop, get_or, None, ◌⊎◌, inl, inr, refl, ap, sym, ◌∙◌, subst, arith}
use Rattle.std.proofs.lemmas.List.{append_assoc, take_at, drop_at, length-append, length-take, length-drop, get_or-take, take_all, take-append-drop, get_or-drop, get_or_past}
use Rattle.std.proofs.lemmas.Bool.{cases_lt}
use Rattle.std.proofs.lemmas.Nat.{be_bytes_2, be_bytes_4, from_be_bytes-to_be_bytes_2, from_be_bytes-to_be_bytes_4}
use Rattle.std.specs.Int.{to_be_bytes, from_be_bytes, w16, w32}
use Rattle.omci_types.specs.declared.Frame.{Frame}
use Rattle.frame_spec.specs.Checksum.{crc}
use Rattle.frame_spec.specs.declared.TheConstants.{BASELINE_TRAILER}
use Rattle.frame_spec.specs.Baseline.{IsBytes, IsFrame, Spells, checked_bytes, spelling, number_at, frame_of, trailer_at, given_check, computed_check, fault_of}
use Rattle.frame_laws.proofs.Lengths.{crc-lt}
use Rattle.frame_laws.proofs.Places.{within_front, laid_out, fields-of-front}
use Rattle.frame_laws.proofs.Sound.{IsSound, IsSound-from_none, fault_of-sound}

checked_bytes-laid_out : (frame : Frame) → checked_bytes frame ≡ laid_out (to_be_bytes w16 frame.tci) (frame.kind ∷ 10 ∷ []) (to_be_bytes w16 frame.entity.class) (to_be_bytes w16 frame.entity.instance) frame.contents BASELINE_TRAILER
unfolding checked_bytes laid_out
checked_bytes-laid_out frame = refl

pub length-checked_bytes : (frame : Frame) → IsFrame frame → length (checked_bytes frame) ≡ 44
unfolding checked_bytes
length-checked_bytes frame fits = omega (arith, length-append frame.contents BASELINE_TRAILER, fits.contents_whole)

pub length-spelling : (frame : Frame) → IsFrame frame → length (spelling frame) ≡ 48
unfolding spelling
length-spelling frame fits = omega (arith, length-append (checked_bytes frame) (to_be_bytes w32 (crc (checked_bytes frame))), length-checked_bytes frame fits)

take-44-spelling : (frame : Frame) → IsFrame frame → take 44 (spelling frame) ≡ checked_bytes frame
unfolding spelling
take-44-spelling frame fits = take_at (checked_bytes frame) _ 44 (length-checked_bytes frame fits)

drop-44-spelling : (frame : Frame) → IsFrame frame → drop 44 (spelling frame) ≡ to_be_bytes w32 (crc (checked_bytes frame))
unfolding spelling
drop-44-spelling frame fits = drop_at (checked_bytes frame) _ 44 (length-checked_bytes frame fits)

number_at-spelled : (n : ℕ) (place : ℕ) (bytes : List ℕ) → n < 2 ^ 16 → take 2 (drop place bytes) ≡ to_be_bytes w16 n → number_at place bytes ≡ n
unfolding number_at
number_at-spelled n place bytes fits here = ap (λ (l : List ℕ). from_be_bytes w16 l) here ∙ from_be_bytes-to_be_bytes_2 n fits

frame_of_parts : ℕ → ℕ → ℕ → ℕ → List ℕ → Frame
frame_of_parts tci kind class instance contents = record { tci = tci; kind = kind; entity = record { class = class; instance = instance }; contents = contents }

frame_of-parts : (bytes : List ℕ) → frame_of bytes ≡ frame_of_parts (number_at 0 bytes) (get_or bytes 2 0) (number_at 4 bytes) (number_at 6 bytes) (take 32 (drop 8 bytes))
unfolding frame_of frame_of_parts
frame_of-parts bytes = refl

parts-of : (frame : Frame) → frame_of_parts frame.tci frame.kind frame.entity.class frame.entity.instance frame.contents ≡ frame
unfolding frame_of_parts
parts-of frame = refl

-- the fields of a spelling are the frame's
pub Spells-frame_of : (frame : Frame) (bytes : List ℕ) → IsFrame frame → Spells frame bytes → frame_of bytes ≡ frame
Spells-frame_of frame bytes fits spelled =
    let tci : number_at 0 bytes ≡ frame.tci = number_at-spelled frame.tci 0 bytes fits.tci_fits spelled.tci in
    let class : number_at 4 bytes ≡ frame.entity.class = number_at-spelled frame.entity.class 4 bytes fits.class_fits spelled.class in
    let instance : number_at 6 bytes ≡ frame.entity.instance = number_at-spelled frame.entity.instance 6 bytes fits.instance_fits spelled.instance in
    let kind : get_or bytes 2 0 ≡ frame.kind = spelled.kind in
    let contents : take 32 (drop 8 bytes) ≡ frame.contents = spelled.contents in
    let parts : frame_of bytes ≡ frame_of_parts (number_at 0 bytes) (get_or bytes 2 0) (number_at 4 bytes) (number_at 6 bytes) (take 32 (drop 8 bytes)) = frame_of-parts bytes in
    let whole : frame_of_parts frame.tci frame.kind frame.entity.class frame.entity.instance frame.contents ≡ frame = parts-of frame in
    cc

-- A spelling has no fault.
pub Spells-IsSound : (frame : Frame) (bytes : List ℕ) → Spells frame bytes → IsSound bytes
unfolding trailer_at given_check computed_check
Spells-IsSound frame bytes spelled =
    let last : take 4 (drop 44 bytes) ≡ drop 44 bytes = take_all 4 (drop 44 bytes) (omega (arith, length-drop 44 bytes, spelled.whole)) in
    record {
      whole = omega (arith, spelled.whole);
      device = spelled.device;
      trailer = spelled.trailer;
      check = ap (λ (l : List ℕ). from_be_bytes w32 l) (last ∙ spelled.check) ∙ from_be_bytes-to_be_bytes_4 (crc (take 44 bytes)) (crc-lt (take 44 bytes));
    }

-- Bytes that spell a frame are the frame's spelling.
pub spelling-unique : (frame : Frame) (bytes : List ℕ) → Spells frame bytes → bytes ≡ spelling frame
unfolding spelling
spelling-unique frame bytes spelled =
    let whole : 44 ≤ length bytes = omega (arith, spelled.whole) in
    let fields = fields-of-front bytes whole in
    let tci = spelled.tci in
    let kind : get_or bytes 2 0 ≡ frame.kind = spelled.kind in
    let device : get_or bytes 3 0 ≡ 10 = spelled.device in
    let class = spelled.class in
    let instance = spelled.instance in
    let contents = spelled.contents in
    let trailer = spelled.trailer in
    let laid = checked_bytes-laid_out frame in
    let front : take 44 bytes ≡ checked_bytes frame = cc in
    sym (take-append-drop 44 bytes) ∙ ap (λ (l : List ℕ). l ++ drop 44 bytes) front ∙ ap (λ (l : List ℕ). checked_bytes frame ++ l) (spelled.check ∙ ap (λ (l : List ℕ). to_be_bytes w32 (crc l)) front)

contents-within : (contents check : List ℕ) → length contents ≡ 32 → take 32 (contents ++ BASELINE_TRAILER ++ check) ≡ contents
contents-within contents check whole =
    ap (λ (l : List ℕ). take 32 l) (append_assoc contents BASELINE_TRAILER check) ∙ take_at contents (BASELINE_TRAILER ++ check) 32 whole

trailer-within : (contents check : List ℕ) → length contents ≡ 32 → take 4 (drop 32 (contents ++ BASELINE_TRAILER ++ check)) ≡ BASELINE_TRAILER
trailer-within contents check whole =
    ap (λ (l : List ℕ). take 4 (drop 32 l)) (append_assoc contents BASELINE_TRAILER check)
    ∙ ap (λ (l : List ℕ). take 4 l) (drop_at contents (BASELINE_TRAILER ++ check) 32 whole)

-- A frame's spelling spells it.
pub Spells-spelling : (frame : Frame) → IsFrame frame → Spells frame (spelling frame)
unfolding spelling checked_bytes
Spells-spelling frame fits =
    let check = to_be_bytes w32 (crc (checked_bytes frame)) in
    record {
      whole = length-spelling frame fits;
      tci = refl;
      kind = refl;
      device = refl;
      class = refl;
      instance = refl;
      contents = contents-within frame.contents check fits.contents_whole;
      trailer = trailer-within frame.contents check fits.contents_whole;
      check = drop-44-spelling frame fits ∙ ap (λ (l : List ℕ). to_be_bytes w32 (crc l)) (sym (take-44-spelling frame fits));
    }

-- ---- what follows a frame doesn't matter

number_at-front : (place : ℕ) (bytes : List ℕ) → place + 2 ≤ 48 → number_at place (take 48 bytes) ≡ number_at place bytes
unfolding number_at
number_at-front place bytes fits = ap (λ (l : List ℕ). from_be_bytes w16 l) (within_front 48 place 2 bytes fits)

pub frame_of-front : (bytes : List ℕ) → frame_of (take 48 bytes) ≡ frame_of bytes
frame_of-front bytes =
    let tci : number_at 0 (take 48 bytes) ≡ number_at 0 bytes = number_at-front 0 bytes (omega arith) in
    let class : number_at 4 (take 48 bytes) ≡ number_at 4 bytes = number_at-front 4 bytes (omega arith) in
    let instance : number_at 6 (take 48 bytes) ≡ number_at 6 bytes = number_at-front 6 bytes (omega arith) in
    let kind : get_or (take 48 bytes) 2 0 ≡ get_or bytes 2 0 = get_or-take 48 bytes 2 0 (omega arith) in
    let contents : take 32 (drop 8 (take 48 bytes)) ≡ take 32 (drop 8 bytes) = within_front 48 8 32 bytes (omega arith) in
    let parts = frame_of-parts bytes in
    let front_parts = frame_of-parts (take 48 bytes) in
    cc

IsSound-front : (bytes : List ℕ) → 48 ≤ length bytes → IsSound (take 48 bytes) → IsSound bytes
unfolding trailer_at given_check computed_check
IsSound-front bytes whole sound =
    record {
      whole = whole;
      device = sym (get_or-take 48 bytes 3 0 (omega arith)) ∙ sound.device;
      trailer = sym (within_front 48 40 4 bytes (omega arith)) ∙ sound.trailer;
      check = ap (λ (l : List ℕ). from_be_bytes w32 l) (sym (within_front 48 44 4 bytes (omega arith))) ∙ sound.check ∙ ap crc (within_front 48 0 44 bytes (omega arith));
    }

-- ---- reading

whole-from_front : (bytes : List ℕ) (front : List ℕ) → take 48 bytes ≡ front → length front ≡ 48 → 48 ≤ length bytes
whole-from_front bytes front same whole = omega (arith, length-take 48 bytes, ap length same)

-- Bytes that begin with a frame's spelling have no fault, and their fields are the frame's.
pub is_read : (frame : Frame) (bytes : List ℕ) → IsFrame frame → take 48 bytes ≡ spelling frame → (fault_of bytes ≡ None) × (frame_of bytes ≡ frame)
is_read frame bytes fits same =
    let spelled : Spells frame (take 48 bytes) = subst (λ (l : List ℕ). Spells frame l) (sym same) (Spells-spelling frame fits) in
    let whole : 48 ≤ length bytes = whole-from_front bytes (spelling frame) same (length-spelling frame fits) in (
      fault_of-sound bytes (IsSound-front bytes whole (Spells-IsSound frame (take 48 bytes) spelled)),
      sym (frame_of-front bytes) ∙ Spells-frame_of frame (take 48 bytes) fits spelled,
    )

get_or-within : (count place i : ℕ) (bytes : List ℕ) → IsBytes bytes → get_or (take count (drop place bytes)) i 0 < 256
get_or-within count place i bytes fit =
    let below : (i < count) ⊎ (count ≤ i) = cases_lt i count in
    elim below [
      | inl less ↦ rw (get_or-take count (drop place bytes) i 0 less, get_or-drop place bytes i 0) (fit (place + i))
      | inr more ↦ rw (get_or_past (take count (drop place bytes)) i 0 (omega (arith, length-take count (drop place bytes)))) (omega arith)
    ]

bytes-of-number_at : (place : ℕ) (bytes : List ℕ) → IsBytes bytes → place + 2 ≤ length bytes → (number_at place bytes < 2 ^ 16) × (take 2 (drop place bytes) ≡ to_be_bytes w16 (number_at place bytes))
unfolding number_at
bytes-of-number_at place bytes fit there =
    let pair = take 2 (drop place bytes) in
    let whole : length pair ≡ 2 = omega (arith, length-take 2 (drop place bytes), length-drop place bytes) in
    let fits : (i : ℕ) → get_or pair i 0 < 256 = λ i. get_or-within 2 place i bytes fit in
    (omega (arith, fits 0, fits 1), sym (be_bytes_2 pair (from_be_bytes w16 pair) whole fits refl))

-- The fields of 48 bytes make a frame.
pub IsFrame-frame_of : (bytes : List ℕ) → IsBytes bytes → 48 ≤ length bytes → IsFrame (frame_of bytes)
unfolding frame_of
IsFrame-frame_of bytes fit whole =
    record {
      tci_fits = (bytes-of-number_at 0 bytes fit (omega arith)).0;
      kind_fits = fit 2;
      class_fits = (bytes-of-number_at 4 bytes fit (omega arith)).0;
      instance_fits = (bytes-of-number_at 6 bytes fit (omega arith)).0;
      contents_whole = omega (arith, length-take 32 (drop 8 bytes), length-drop 8 bytes);
      contents_fit = λ i. get_or-within 32 8 i bytes fit;
    }

-- Sound bytes of a frame's length spell the frame of their fields.
Spells-sound : (bytes : List ℕ) → IsBytes bytes → length bytes ≡ 48 → IsSound bytes → Spells (frame_of bytes) bytes
unfolding frame_of trailer_at given_check computed_check
Spells-sound bytes fit whole sound =
    let check = drop 44 bytes in
    let check_whole : length check ≡ 4 = omega (arith, length-drop 44 bytes) in
    let all : take 4 check ≡ check = take_all 4 check (omega arith) in
    let same : crc (take 44 bytes) ≡ from_be_bytes w32 check = sym sound.check ∙ ap (λ (l : List ℕ). from_be_bytes w32 l) all in
    record {
      whole = whole;
      tci = (bytes-of-number_at 0 bytes fit (omega arith)).1;
      kind = refl;
      device = sound.device;
      class = (bytes-of-number_at 4 bytes fit (omega arith)).1;
      instance = (bytes-of-number_at 6 bytes fit (omega arith)).1;
      contents = refl;
      trailer = sound.trailer;
      check = sym (be_bytes_4 check (crc (take 44 bytes)) check_whole (λ i. rw (get_or-drop 44 bytes i 0) (fit (44 + i))) same);
    }

IsSound-of_front : (bytes : List ℕ) → IsSound bytes → IsSound (take 48 bytes)
unfolding trailer_at given_check computed_check
IsSound-of_front bytes sound =
    record {
      whole = omega (arith, length-take 48 bytes, sound.whole);
      device = get_or-take 48 bytes 3 0 (omega arith) ∙ sound.device;
      trailer = within_front 48 40 4 bytes (omega arith) ∙ sound.trailer;
      check = ap (λ (l : List ℕ). from_be_bytes w32 l) (within_front 48 44 4 bytes (omega arith)) ∙ sound.check ∙ ap crc (sym (within_front 48 0 44 bytes (omega arith)));
    }

-- Bytes without a fault begin with the spelling of the frame of their fields.
pub is_spelled : (bytes : List ℕ) → IsBytes bytes → fault_of bytes ≡ None → take 48 bytes ≡ spelling (frame_of bytes)
is_spelled bytes fit none =
    let sound = IsSound-from_none bytes none in
    let whole : length (take 48 bytes) ≡ 48 = omega (arith, length-take 48 bytes, sound.whole) in
    let spelled = Spells-sound (take 48 bytes) (λ i. get_or-within 48 0 i bytes fit) whole (IsSound-of_front bytes sound) in
    spelling-unique (frame_of (take 48 bytes)) (take 48 bytes) spelled ∙ ap spelling (frame_of-front bytes)
