-- Baseline frames are a set of which streams can be read.
use Rattle.std.proofs.Common.{◌≡◌, ℕ, ◌+◌, ◌≤◌, List, ◌++◌, length, take, drop, Option, Some, None, Err, refl, sym, ap, subst, ◌∙◌, arith, length-append}
use Rattle.std.proofs.lemmas.List.{drop-append-le, take-append-le, length-drop}
use Rattle.std.proofs.Math.ListN.{get_or-append}
use Rattle.std.specs.Int.{from_be_bytes, w32}
use Rattle.omci_types.specs.declared.Frame.{Frame}
use Rattle.frame_spec.specs.declared.FrameFault.{FrameFault}
use Rattle.frame_spec.specs.declared.FrameFault.TheVariants.{Device, Short, Trailer, Check}
use Rattle.frame_spec.specs.Baseline.{IsBytes, IsFrame, spelling, fault_of, frame_of, answer_of, decoded, trailer_at, given_check, computed_check}
use Rattle.frame_spec.specs.Checksum.{crc}
use Rattle.frame_laws.specs.Faults.{IsDeviceFault, IsTrailerFault, IsCheckFault}
use Rattle.frame_laws.proofs.Faults.{decoded-from_fault, decoded-device, decoded-trailer, decoded-check}
use Rattle.frame_laws.proofs.Spelling.{length-spelling, is_read, is_spelled, IsFrame-frame_of}
use Rattle.frame_laws.proofs.Sound.{IsSound-from_none}
use Rattle.std.specs.Prelude.{All}
use Rattle.stream_spec.specs.Streams.{Front, Whole, Open, Faulty, BeginsWith, IsStream, Call, IsCall, first_course, after_calls}
use Rattle.stream_spec.specs.Baseline.{front_by, front_of}
use Rattle.stream_laws.specs.Sets.{IsSet, IsCourse}
use Rattle.stream_laws.proofs.Courses.{all_calls, first_is, stream_of}

-- a whole frame is shown where there is no fault
pub record IsWhole (fault : Option FrameFault) (bytes : List ℕ) (frame : Frame) (count : ℕ) : Type 0 where
  pub none : fault ≡ None
  pub fields : frame_of bytes ≡ frame
  pub long : count ≡ 48

whole_by : (fault : Option FrameFault) (bytes : List ℕ) (frame : Frame) (count : ℕ) → front_by fault bytes ≡ Whole frame count → IsWhole fault bytes frame count
whole_by None bytes frame count is = record { none = refl; fields = cc; long = cc }
whole_by (Some (Device byte)) bytes frame count is = cc
whole_by (Some (Short have)) bytes frame count is = cc
whole_by (Some (Trailer trailer)) bytes frame count is = cc
whole_by (Some (Check given computed)) bytes frame count is = cc

front-whole : (bytes : List ℕ) (frame : Frame) (count : ℕ) → IsBytes bytes → front_of bytes ≡ Whole frame count →
    IsFrame frame × (take count bytes ≡ spelling frame) × (count ≡ length (spelling frame))
unfolding front_of
front-whole bytes frame count fit is =
    let facts = whole_by (fault_of bytes) bytes frame count is in
    let valid : IsFrame frame = subst (λ (f : Frame). IsFrame f) facts.fields (IsFrame-frame_of bytes fit (IsSound-from_none bytes facts.none).whole) in
    (valid, ap (λ (n : ℕ). take n bytes) facts.long ∙ is_spelled bytes fit facts.none ∙ ap spelling facts.fields, facts.long ∙ sym (length-spelling frame valid))

front-found : (bytes : List ℕ) (frame : Frame) → IsFrame frame → BeginsWith (spelling frame) bytes → front_of bytes ≡ Whole frame (length (spelling frame))
unfolding front_of
front-found bytes frame valid begins =
    let long = length-spelling frame valid in
    let read = is_read frame bytes valid (subst (λ (n : ℕ). take n bytes ≡ spelling frame) long begins) in
    let shown : Frame → ℕ → Front Frame FrameFault = λ f n. Whole f n in
    ap (λ (o : Option FrameFault). front_by o bytes) read.0 ∙ ap (λ (f : Frame). shown f 48) read.1 ∙ ap (shown frame) (sym long)

pub set : IsSet IsFrame spelling front_of
set = record { whole = front-whole; found = front-found }

-- ---- a fault stands

faulty_by : (of : Option FrameFault) (bytes : List ℕ) (fault : FrameFault) → front_by of bytes ≡ Faulty fault → of ≡ Some fault
faulty_by None bytes fault is = cc
faulty_by (Some (Device byte)) bytes fault is = cc
faulty_by (Some (Short have)) bytes fault is = cc
faulty_by (Some (Trailer trailer)) bytes fault is = cc
faulty_by (Some (Check given computed)) bytes fault is = cc

fault_from : (of : Option FrameFault) (bytes : List ℕ) (fault : FrameFault) → answer_of of bytes ≡ Err fault → of ≡ Some fault
unfolding answer_of
fault_from None bytes fault is = cc
fault_from (Some found) bytes fault is = cc

fault-from_decoded : (bytes : List ℕ) (fault : FrameFault) → decoded bytes ≡ Err fault → fault_of bytes ≡ Some fault
unfolding decoded
fault-from_decoded bytes fault is = fault_from (fault_of bytes) bytes fault is

within : (count place : ℕ) (bytes more : List ℕ) → place + count ≤ length bytes → take count (drop place (bytes ++ more)) ≡ take count (drop place bytes)
within count place bytes more fits =
    ap (take count) (drop-append-le place bytes more (omega (arith, fits)))
    ∙ take-append-le count (drop place bytes) more (omega (arith, fits, length-drop place bytes))

device_more : (bytes more : List ℕ) (byte : ℕ) → IsDeviceFault bytes byte → IsDeviceFault (bytes ++ more) byte
device_more bytes more byte is = record {
  there = omega (arith, is.there, length-append bytes more);
  value = get_or-append bytes more 0 3 (omega (arith, is.there)) ∙ is.value;
  wrong = is.wrong;
}

trailer_more : (bytes more trailer : List ℕ) → IsTrailerFault bytes trailer → IsTrailerFault (bytes ++ more) trailer
unfolding trailer_at
trailer_more bytes more trailer is = record {
  device = get_or-append bytes more 0 3 (omega (arith, is.whole)) ∙ is.device;
  whole = omega (arith, is.whole, length-append bytes more);
  value = within 4 40 bytes more (omega (arith, is.whole)) ∙ is.value;
  wrong = is.wrong;
}

check_more : (bytes more : List ℕ) (given computed : ℕ) → IsCheckFault bytes given computed → IsCheckFault (bytes ++ more) given computed
unfolding trailer_at given_check computed_check
check_more bytes more given computed is = record {
  device = get_or-append bytes more 0 3 (omega (arith, is.whole)) ∙ is.device;
  whole = omega (arith, is.whole, length-append bytes more);
  trailer = within 4 40 bytes more (omega (arith, is.whole)) ∙ is.trailer;
  given_value = ap (from_be_bytes w32) (within 4 44 bytes more (omega (arith, is.whole))) ∙ is.given_value;
  computed_value = ap crc (take-append-le 44 bytes more (omega (arith, is.whole))) ∙ is.computed_value;
  wrong = is.wrong;
}

stands_by : (bytes more : List ℕ) (fault : FrameFault) → front_by (Some fault) bytes ≡ Faulty fault → decoded bytes ≡ Err fault → front_of (bytes ++ more) ≡ Faulty fault
unfolding front_of
stands_by bytes more (Device byte) shown is =
    ap (λ (o : Option FrameFault). front_by o (bytes ++ more)) (fault-from_decoded (bytes ++ more) (Device byte)
    ((decoded-device (bytes ++ more) byte).1 (device_more bytes more byte ((decoded-device bytes byte).0 is))))
stands_by bytes more (Short have) shown is = cc
stands_by bytes more (Trailer trailer) shown is =
    ap (λ (o : Option FrameFault). front_by o (bytes ++ more)) (fault-from_decoded (bytes ++ more) (Trailer trailer)
    ((decoded-trailer (bytes ++ more) trailer).1 (trailer_more bytes more trailer ((decoded-trailer bytes trailer).0 is))))
stands_by bytes more (Check given computed) shown is =
    ap (λ (o : Option FrameFault). front_by o (bytes ++ more)) (fault-from_decoded (bytes ++ more) (Check given computed)
    ((decoded-check (bytes ++ more) given computed).1 (check_more bytes more given computed ((decoded-check bytes given computed).0 is))))

pub fault_stands : (bytes more : List ℕ) (fault : FrameFault) → front_of bytes ≡ Faulty fault → front_of (bytes ++ more) ≡ Faulty fault
unfolding front_of
fault_stands bytes more fault is =
    let first = faulty_by (fault_of bytes) bytes fault is in
    stands_by bytes more fault (sym (ap (λ (o : Option FrameFault). front_by o bytes) first) ∙ is) (decoded-from_fault bytes fault first)

-- ---- the clauses

pub shows_frames : (bytes : List ℕ) (frame : Frame) → IsBytes bytes →
    (front_of bytes ≡ Whole frame 48 → IsFrame frame × BeginsWith (spelling frame) bytes) × (IsFrame frame × BeginsWith (spelling frame) bytes → front_of bytes ≡ Whole frame 48)
shows_frames bytes frame fit = (
  λ is. let facts = front-whole bytes frame 48 fit is in (facts.0, ap (λ (n : ℕ). take n bytes) (sym facts.2) ∙ facts.1),
  λ begins. front-found bytes frame begins.0 begins.1 ∙ ap (λ (n : ℕ). Whole frame n) (length-spelling frame begins.0),
)

pub course_of : (calls : List Call) → All IsCall calls → IsCourse IsFrame spelling (after_calls front_of 48 calls first_course)
course_of calls fit = all_calls IsFrame spelling front_of set 48 calls first_course fit (first_is IsFrame spelling)

open_or : (shown : Front Frame FrameFault) (frame : Frame) (count : ℕ) → shown ≡ Open → shown ≡ Whole frame count → ⊥
open_or shown frame count e f = cc

faulty_or : (shown : Front Frame FrameFault) (fault : FrameFault) (frame : Frame) (count : ℕ) → shown ≡ Faulty fault → shown ≡ Whole frame count → ⊥
faulty_or shown fault frame count e f = cc

pub stream_if_open : (calls : List Call) → All IsCall calls → front_of (after_calls front_of 48 calls first_course).reader.held ≡ Open →
    IsStream IsFrame spelling (after_calls front_of 48 calls first_course).bytes (after_calls front_of 48 calls first_course).frames (after_calls front_of 48 calls first_course).reader.held
stream_if_open calls fit is =
    stream_of IsFrame spelling front_of set (after_calls front_of 48 calls first_course) (course_of calls fit) (λ frame count. open_or _ frame count is)

pub stream_if_faulty : (calls : List Call) → All IsCall calls → (fault : FrameFault) → front_of (after_calls front_of 48 calls first_course).reader.held ≡ Faulty fault →
    IsStream IsFrame spelling (after_calls front_of 48 calls first_course).bytes (after_calls front_of 48 calls first_course).frames (after_calls front_of 48 calls first_course).reader.held
stream_if_faulty calls fit fault is =
    stream_of IsFrame spelling front_of set (after_calls front_of 48 calls first_course) (course_of calls fit) (λ frame count. faulty_or _ fault frame count is)
