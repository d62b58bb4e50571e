-- Frames of both message sets are a set of which streams can be read.
use Rattle.std.proofs.Common.{◌≡◌, ℕ, ◌≤◌, Bool, true, false, ◌&&◌, ◌==◌, List, length, take, Option, Some, None, Ok, get_or, refl, sym, ap, subst, ◌∙◌, arith}
use Rattle.std.specs.Prelude.{All}
use Rattle.std.proofs.lemmas.List.{length-take}
use Rattle.frame_spec.specs.Baseline.{IsBytes, spelling, fault_of}
use Rattle.omci_types.specs.declared.Frame.{Frame}
use Rattle.frame_laws.proofs.Spelling.{length-spelling, is_read, is_spelled, IsFrame-frame_of}
use Rattle.frame_laws.proofs.Sound.{IsSound, IsSound-from_none}
use Rattle.stream_spec.specs.Streams.{Front, Whole, Open, Faulty, BeginsWith, IsStream, Call, IsCall, first_course, after_calls}
use Rattle.stream_laws.specs.Sets.{IsSet, IsCourse}
use Rattle.stream_laws.proofs.Courses.{all_calls, first_is, stream_of}
use Rattle.extended_spec.specs.declared.AnyFault.{AnyFault}
use Rattle.extended_spec.specs.declared.AnyFault.TheVariants.{Device, Short, Trailer, Check, Length, NoMemory}
use Rattle.extended_spec.specs.Frames.{Long, as_any, is_extended, fault_in, any_fault_of, Any, Baseline, Extended, IsAny, any_spelling, frame_in, bytes_in, any_of, any_bytes, any_answer, any_decoded}
use Rattle.extended_spec.specs.Streams.{any_front_by, any_front}
use Rattle.extended_laws.proofs.Sound.{IsLongSound-from_none, none-from_any}
use Rattle.extended_laws.proofs.Long.{found, spelled}

-- ---- what is read is spelled

pub record IsReadFrame (bytes : List ℕ) (frame : Any) (count : ℕ) : Type 0 where
  pub valid : IsAny frame
  pub spelled : take count bytes ≡ any_spelling frame
  pub whole : count ≤ length bytes

read_by : (extended : Bool) (bytes : List ℕ) → is_extended bytes ≡ extended → IsBytes bytes → fault_in extended bytes ≡ None → IsReadFrame bytes (frame_in extended bytes) (bytes_in extended bytes)
read_by true bytes is fit none =
    let facts = spelled bytes fit is (IsLongSound-from_none bytes none) in
    record { valid = facts.valid; spelled = facts.spelled; whole = facts.whole }
read_by false bytes is fit none =
    let no_fault = none-from_any (fault_of bytes) none in
    let sound = IsSound-from_none bytes no_fault in
    record { valid = IsFrame-frame_of bytes fit sound.whole; spelled = is_spelled bytes fit no_fault; whole = sound.whole }

pub read_frame : (bytes : List ℕ) → IsBytes bytes → any_fault_of bytes ≡ None → IsReadFrame bytes (any_of bytes) (any_bytes bytes)
unfolding any_fault_of any_of any_bytes
read_frame bytes fit none = read_by (is_extended bytes) bytes refl fit none

-- ---- what is spelled is read

pub record IsFoundFrame (bytes : List ℕ) (frame : Any) : Type 0 where
  pub none : any_fault_of bytes ≡ None
  pub fields : any_of bytes ≡ frame
  pub count : any_bytes bytes ≡ length (any_spelling frame)

found_by : (extended : Bool) (bytes : List ℕ) (frame : Any) → is_extended bytes ≡ extended → fault_in extended bytes ≡ None → frame_in extended bytes ≡ frame → bytes_in extended bytes ≡ length (any_spelling frame) → IsFoundFrame bytes frame
unfolding any_fault_of any_of any_bytes
found_by extended bytes frame is none fields count = record {
  none = ap (λ (b : Bool). fault_in b bytes) is ∙ none;
  fields = ap (λ (b : Bool). frame_in b bytes) is ∙ fields;
  count = ap (λ (b : Bool). bytes_in b bytes) is ∙ count;
}

other_device : (a : Bool) (byte : ℕ) → byte ≡ 10 → (a && (byte == 11)) ≡ false
other_device true byte is = ap (λ (b : ℕ). b == 11) is
other_device false byte is = refl

not_extended : (bytes : List ℕ) → IsSound bytes → is_extended bytes ≡ false
unfolding is_extended
not_extended bytes sound = other_device _ (get_or bytes 3 0) sound.device

pub found_frame : (frame : Any) (bytes : List ℕ) → IsAny frame → BeginsWith (any_spelling frame) bytes → IsFoundFrame bytes frame
found_frame (Baseline frame) bytes valid begins =
    let long = length-spelling frame valid in
    let read = is_read frame bytes valid (subst (λ (n : ℕ). take n bytes ≡ spelling frame) long begins) in
    found_by false bytes (Baseline frame) (not_extended bytes (IsSound-from_none bytes read.0)) (ap as_any read.0) (ap (λ (f : Frame). Baseline f) read.1) (sym long)
found_frame (Extended frame) bytes valid begins =
    let read = found frame bytes valid begins in
    found_by true bytes (Extended frame) read.extended read.none (ap (λ (f : Long). Extended f) read.fields) read.count

-- ---- the set

pub record IsWhole (fault : Option AnyFault) (bytes : List ℕ) (frame : Any) (count : ℕ) : Type 0 where
  pub none : fault ≡ None
  pub fields : any_of bytes ≡ frame
  pub long : any_bytes bytes ≡ count

whole_by : (fault : Option AnyFault) (bytes : List ℕ) (frame : Any) (count : ℕ) → any_front_by fault bytes ≡ Whole frame count → IsWhole fault bytes frame count
whole_by None bytes frame count is = record { none = refl; fields = cc; long = cc }
whole_by (Some (Device byte)) bytes frame count is = cc
whole_by (Some (Short have)) bytes frame count is = cc
whole_by (Some (Trailer trailer)) bytes frame count is = cc
whole_by (Some (Check given computed)) bytes frame count is = cc
whole_by (Some (Length given)) bytes frame count is = cc
whole_by (Some NoMemory) bytes frame count is = cc

front-whole : (bytes : List ℕ) (frame : Any) (count : ℕ) → IsBytes bytes → any_front bytes ≡ Whole frame count →
    IsAny frame × (take count bytes ≡ any_spelling frame) × (count ≡ length (any_spelling frame))
unfolding any_front
front-whole bytes frame count fit is =
    let facts = whole_by (any_fault_of bytes) bytes frame count is in
    let read = read_frame bytes fit facts.none in
    let bytes_of : take count bytes ≡ any_spelling frame = ap (λ (n : ℕ). take n bytes) (sym facts.long) ∙ read.spelled ∙ ap any_spelling facts.fields in (
      subst (λ (f : Any). IsAny f) facts.fields read.valid,
      bytes_of,
      omega (arith, length-take count bytes, ap (λ (z : List ℕ). length z) bytes_of, facts.long, read.whole),
    )

front-found : (bytes : List ℕ) (frame : Any) → IsAny frame → BeginsWith (any_spelling frame) bytes → any_front bytes ≡ Whole frame (length (any_spelling frame))
unfolding any_front
front-found bytes frame valid begins =
    let read = found_frame frame bytes valid begins in
    let shown : Any → ℕ → Front Any AnyFault = λ f n. Whole f n in
    ap (λ (o : Option AnyFault). any_front_by o bytes) read.none ∙ ap (λ (f : Any). shown f (any_bytes bytes)) read.fields ∙ ap (shown frame) read.count

pub set : IsSet IsAny any_spelling any_front
set = record { whole = front-whole; found = front-found }

-- ---- the clauses

pub decoded-read : (frame : Any) (bytes : List ℕ) → IsAny frame → BeginsWith (any_spelling frame) bytes → any_decoded bytes ≡ Ok frame
unfolding any_decoded
decoded-read frame bytes valid begins =
    let read = found_frame frame bytes valid begins in
    ap (λ (o : Option AnyFault). any_answer o bytes) read.none ∙ ap (λ (f : Any). Ok f) read.fields

ok_by : (fault : Option AnyFault) (bytes : List ℕ) (frame : Any) → any_answer fault bytes ≡ Ok frame → (fault ≡ None) × (any_of bytes ≡ frame)
ok_by None bytes frame is = (refl, cc)
ok_by (Some fault) bytes frame is = cc

front_of_read : (bytes : List ℕ) (frame : Any) → any_fault_of bytes ≡ None → any_of bytes ≡ frame → any_front bytes ≡ Whole frame (any_bytes bytes)
unfolding any_front
front_of_read bytes frame none fields =
    let shown : Any → ℕ → Front Any AnyFault = λ f n. Whole f n in
    ap (λ (o : Option AnyFault). any_front_by o bytes) none ∙ ap (λ (f : Any). shown f (any_bytes bytes)) fields

pub decoded-spelled : (frame : Any) (bytes : List ℕ) → IsBytes bytes → any_decoded bytes ≡ Ok frame → IsAny frame × BeginsWith (any_spelling frame) bytes
unfolding any_decoded
decoded-spelled frame bytes fit is =
    let facts = ok_by (any_fault_of bytes) bytes frame is in
    let front : any_front bytes ≡ Whole frame (any_bytes bytes) = front_of_read bytes frame facts.0 facts.1 in
    let whole = front-whole bytes frame (any_bytes bytes) fit front in
    (whole.0, ap (λ (n : ℕ). take n bytes) (sym whole.2) ∙ whole.1)

pub course_of : (calls : List Call) → All IsCall calls → IsCourse IsAny any_spelling (after_calls any_front 1980 calls first_course)
course_of calls fit = all_calls IsAny any_spelling any_front set 1980 calls first_course fit (first_is IsAny any_spelling)

open_or : (shown : Front Any AnyFault) (frame : Any) (count : ℕ) → shown ≡ Open → shown ≡ Whole frame count → ⊥
open_or shown frame count e f = cc

faulty_or : (shown : Front Any AnyFault) (fault : AnyFault) (frame : Any) (count : ℕ) → shown ≡ Faulty fault → shown ≡ Whole frame count → ⊥
faulty_or shown fault frame count e f = cc

pub stream_if_open : (calls : List Call) → All IsCall calls → any_front (after_calls any_front 1980 calls first_course).reader.held ≡ Open →
    IsStream IsAny any_spelling (after_calls any_front 1980 calls first_course).bytes (after_calls any_front 1980 calls first_course).frames (after_calls any_front 1980 calls first_course).reader.held
stream_if_open calls fit is =
    stream_of IsAny any_spelling any_front set (after_calls any_front 1980 calls first_course) (course_of calls fit) (λ frame count. open_or _ frame count is)

pub stream_if_faulty : (calls : List Call) → All IsCall calls → (fault : AnyFault) → any_front (after_calls any_front 1980 calls first_course).reader.held ≡ Faulty fault →
    IsStream IsAny any_spelling (after_calls any_front 1980 calls first_course).bytes (after_calls any_front 1980 calls first_course).frames (after_calls any_front 1980 calls first_course).reader.held
stream_if_faulty calls fit fault is =
    stream_of IsAny any_spelling any_front set (after_calls any_front 1980 calls first_course) (course_of calls fit) (λ frame count. faulty_or _ fault frame count is)
