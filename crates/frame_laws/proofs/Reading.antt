-- Reading and spelling undo each other.
use Rattle.std.proofs.Common.{◌≡◌, ℕ, ◌<◌, List, [], ◌∷◌, ◌++◌, length, take, Option, Some, None, Ok, zero, suc, eqb, refl, ap, sym, ◌∙◌, subst, arith}
use Rattle.std.proofs.lemmas.Bool.{eq-eqb, eqb-true, cond-true}
use Rattle.std.proofs.lemmas.List.{append-nil, length-append, nil_from_length, take_all}
use Rattle.std.proofs.lemmas.Option.{cond_some}
use Rattle.std.specs.Int.{to_be_bytes, bytes_high_first, byte_at, w32}
use Rattle.omci_types.specs.declared.Frame.{Frame}
use Rattle.frame_spec.specs.declared.FrameFault.{FrameFault}
use Rattle.frame_spec.specs.Checksum.{crc}
use Rattle.frame_spec.specs.declared.TheConstants.{BASELINE_TRAILER}
use Rattle.frame_spec.specs.Baseline.{IsBytes, IsFrame, Spells, checked_bytes, spelling, frame_of, fault_of, answer_of, decoded, frame_unless, packet_frame}
use Rattle.frame_laws.proofs.Sound.{IsSound-from_none}
use Rattle.frame_laws.proofs.Spelling.{length-spelling, Spells-frame_of, spelling-unique, is_read, is_spelled, IsFrame-frame_of}

-- ---- what is spelled is read

pub decoded-spelled : (frame : Frame) (bytes : List ℕ) → IsFrame frame → take 48 bytes ≡ spelling frame → decoded bytes ≡ Ok frame
unfolding decoded answer_of
decoded-spelled frame bytes fits same =
    let read = is_read frame bytes fits same in
    ap (λ (o : Option FrameFault). answer_of o bytes) read.0 ∙ ap (λ (f : Frame). Ok f) read.1

take-spelling : (frame : Frame) → IsFrame frame → take 48 (spelling frame) ≡ spelling frame
take-spelling frame fits = take_all 48 (spelling frame) (omega (arith, length-spelling frame fits))

pub decoded-spelling : (frame : Frame) → IsFrame frame → decoded (spelling frame) ≡ Ok frame
decoded-spelling frame fits = decoded-spelled frame (spelling frame) fits (take-spelling frame fits)

pub fault_of-spelling : (frame : Frame) → IsFrame frame → fault_of (spelling frame) ≡ None
fault_of-spelling frame fits = (is_read frame (spelling frame) fits (take-spelling frame fits)).0

pub frame_of-spelling : (frame : Frame) → IsFrame frame → frame_of (spelling frame) ≡ frame
frame_of-spelling frame fits = (is_read frame (spelling frame) fits (take-spelling frame fits)).1

pub packet_frame-spelling : (frame : Frame) → IsFrame frame → packet_frame (spelling frame) ≡ Some frame
unfolding packet_frame frame_unless
packet_frame-spelling frame fits =
    ap (λ (o : Option FrameFault). frame_unless o (spelling frame)) (fault_of-spelling frame fits)
    ∙ cond-true _ _ _ (eq-eqb (length (spelling frame)) 48 (length-spelling frame fits))
    ∙ ap (λ (f : Frame). Some f) (frame_of-spelling frame fits)

-- ---- what is read is spelled

answer_of-ok : (fault : Option FrameFault) (bytes : List ℕ) (frame : Frame) → answer_of fault bytes ≡ Ok frame → (fault ≡ None) × (frame_of bytes ≡ frame)
unfolding answer_of
answer_of-ok None bytes frame read = (refl, cc)
answer_of-ok (Some fault) bytes frame read = cc

pub spelled-from_decoded : (frame : Frame) (bytes : List ℕ) → IsBytes bytes → decoded bytes ≡ Ok frame → IsFrame frame × (take 48 bytes ≡ spelling frame)
unfolding decoded
spelled-from_decoded frame bytes fit read =
    let sound = answer_of-ok (fault_of bytes) bytes frame read in (
      subst (λ (f : Frame). IsFrame f) sound.1 (IsFrame-frame_of bytes fit (IsSound-from_none bytes sound.0).whole),
      is_spelled bytes fit sound.0 ∙ ap spelling sound.1,
    )

frame_unless-some : (fault : Option FrameFault) (bytes : List ℕ) (frame : Frame) → frame_unless fault bytes ≡ Some frame → (fault ≡ None) × (length bytes ≡ 48) × (frame_of bytes ≡ frame)
unfolding frame_unless
frame_unless-some None bytes frame read =
    let passed = cond_some (eqb (length bytes) 48) (frame_of bytes) frame read in
    (refl, eqb-true (length bytes) 48 passed.0, passed.1)
frame_unless-some (Some fault) bytes frame read = cc

pub spelled-from_packet_frame : (frame : Frame) (bytes : List ℕ) → IsBytes bytes → packet_frame bytes ≡ Some frame → IsFrame frame × (bytes ≡ spelling frame)
unfolding packet_frame
spelled-from_packet_frame frame bytes fit read =
    let sound = frame_unless-some (fault_of bytes) bytes frame read in (
      subst (λ (f : Frame). IsFrame f) sound.2 (IsFrame-frame_of bytes fit (omega (arith, sound.1))),
      sym (take_all 48 bytes (omega (arith, sound.1))) ∙ is_spelled bytes fit sound.0 ∙ ap spelling sound.2,
    )

-- ---- one spelling

-- No frame has two spellings.
pub same_bytes : (frame : Frame) (a b : List ℕ) → Spells frame a → Spells frame b → a ≡ b
same_bytes frame a b spelled_a spelled_b = spelling-unique frame a spelled_a ∙ sym (spelling-unique frame b spelled_b)

-- No two frames have one spelling.
pub same_frame : (f g : Frame) (bytes : List ℕ) → IsFrame f → IsFrame g → Spells f bytes → Spells g bytes → f ≡ g
same_frame f g bytes fits_f fits_g spelled_f spelled_g =
    sym (Spells-frame_of f bytes fits_f spelled_f) ∙ Spells-frame_of g bytes fits_g spelled_g

-- No spelling is a proper front of another.
pub no_front : (f g : Frame) (rest : List ℕ) → IsFrame f → IsFrame g → spelling f ++ rest ≡ spelling g → (f ≡ g) × (rest ≡ [])
no_front f g rest fits_f fits_g same =
    let none : rest ≡ [] = nil_from_length rest (omega (arith, length-append (spelling f) rest, ap length same, length-spelling f fits_f, length-spelling g fits_g)) in
    let whole : spelling f ≡ spelling g = sym (append-nil (spelling f)) ∙ ap (λ (l : List ℕ). spelling f ++ l) (sym none) ∙ same in
    (sym (frame_of-spelling f fits_f) ∙ ap frame_of whole ∙ frame_of-spelling g fits_g, none)

-- ---- a spelling is a list of bytes

IsBytes-append : (a b : List ℕ) → IsBytes a → IsBytes b → IsBytes (a ++ b)
IsBytes-append [] b fit_a fit_b i = fit_b i
IsBytes-append (x ∷ a) b fit_a fit_b zero = fit_a zero
IsBytes-append (x ∷ a) b fit_a fit_b (suc i) = IsBytes-append a b (λ j. fit_a (suc j)) fit_b i

byte_at-lt : (i n : ℕ) → byte_at i n < 256
byte_at-lt zero n = omega arith
byte_at-lt (suc i) n = omega arith

IsBytes-high_first : (count n : ℕ) → IsBytes (bytes_high_first count n)
IsBytes-high_first zero n i = omega arith
IsBytes-high_first (suc count) n zero = byte_at-lt count n
IsBytes-high_first (suc count) n (suc i) = IsBytes-high_first count n i

IsBytes-pair : (a b : ℕ) → a < 256 → b < 256 → IsBytes (a ∷ b ∷ [])
IsBytes-pair a b fit_a fit_b zero = fit_a
IsBytes-pair a b fit_a fit_b (suc zero) = fit_b
IsBytes-pair a b fit_a fit_b (suc (suc i)) = omega arith

IsBytes-trailer : IsBytes BASELINE_TRAILER
IsBytes-trailer = IsBytes-append (0 ∷ 0 ∷ []) (0 ∷ 40 ∷ []) (IsBytes-pair 0 0 (omega arith) (omega arith)) (IsBytes-pair 0 40 (omega arith) (omega arith))

pub IsBytes-spelling : (frame : Frame) → IsFrame frame → IsBytes (spelling frame)
unfolding spelling checked_bytes
IsBytes-spelling frame fits =
    let tci = bytes_high_first 2 frame.tci in
    let kinds = frame.kind ∷ 10 ∷ [] in
    let class = bytes_high_first 2 frame.entity.class in
    let instance = bytes_high_first 2 frame.entity.instance in
    let to_kinds = IsBytes-append tci kinds (IsBytes-high_first 2 frame.tci) (IsBytes-pair frame.kind 10 fits.kind_fits (omega arith)) in
    let to_class = IsBytes-append (tci ++ kinds) class to_kinds (IsBytes-high_first 2 frame.entity.class) in
    let to_instance = IsBytes-append (tci ++ kinds ++ class) instance to_class (IsBytes-high_first 2 frame.entity.instance) in
    let to_contents = IsBytes-append (tci ++ kinds ++ class ++ instance) frame.contents to_instance fits.contents_fit in
    let to_trailer = IsBytes-append (tci ++ kinds ++ class ++ instance ++ frame.contents) BASELINE_TRAILER to_contents IsBytes-trailer in
    IsBytes-append (checked_bytes frame) (to_be_bytes w32 (crc (checked_bytes frame))) to_trailer (IsBytes-high_first 4 (crc (checked_bytes frame)))
