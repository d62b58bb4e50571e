-- What a reader answers and keeps, by what its bytes show.
use Rattle.std.proofs.Common.{◌≡◌, ℕ, ◌-◌, ◌≤◌, Bool, true, false, min, List, [], length, drop, Option, Some, None, refl, sym, ap, ◌∙◌, arith}
use Rattle.std.proofs.lemmas.List.{drop_all}
use Rattle.omci_types.specs.declared.Frame.{Frame}
use Rattle.frame_spec.specs.declared.FrameFault.{FrameFault}
use Rattle.frame_spec.specs.declared.FrameFault.TheVariants.{Device, Short, Trailer, Check}
use Rattle.frame_spec.specs.Baseline.{fault_of}
use Rattle.stream_spec.specs.declared.Taken.{Taken}
use Rattle.stream_spec.specs.declared.Taken.TheVariants as taken
use Rattle.stream_spec.specs.Streams.{Front, Whole, Open, Faulty, Reader, place_after, bytes_taken, after_take}
use Rattle.stream_spec.specs.Baseline.{front_by, front_of, taken_from, is_fault}

-- where a frame is given, a frame's bytes are held no longer
frame_by : (fault : Option FrameFault) (bytes : List ℕ) (at : ℕ) (frame : Frame) (r : Reader) → taken_from (front_by fault bytes) at ≡ taken.Frame frame →
    after_take (front_by fault bytes) r ≡ record { at = place_after r.at 48; held = drop 48 r.held }
unfolding after_take
frame_by None bytes at frame r is = refl
frame_by (Some (Device byte)) bytes at frame r is = cc
frame_by (Some (Short have)) bytes at frame r is = cc
frame_by (Some (Trailer trailer)) bytes at frame r is = cc
frame_by (Some (Check given computed)) bytes at frame r is = cc

pub frame_leaves : (r : Reader) (answer : Taken) (frame : Frame) (at : ℕ) → length r.held ≤ 48 → answer ≡ taken_from (front_of r.held) r.at → answer ≡ taken.Frame frame →
    at ≡ place_after r.at 48 → record { at = at; held = [] } ≡ after_take (front_of r.held) r
unfolding front_of
frame_leaves r answer frame at fits value is on =
    let rest : drop 48 r.held ≡ [] = drop_all 48 r.held fits in
    let reader : ℕ → List ℕ → Reader = λ a h. record { at = a; held = h } in
    ap (λ (a : ℕ). reader a []) on ∙ ap (reader (place_after r.at 48)) (sym rest)
    ∙ sym (frame_by (fault_of r.held) r.held r.at frame r (sym value ∙ is))

-- where no frame is given, the reader stays as it is
kept_by : (front : Front Frame FrameFault) (at : ℕ) (r : Reader) → ((frame : Frame) → taken_from front at ≡ taken.Frame frame → ⊥) → r ≡ after_take front r
unfolding after_take
kept_by (Whole frame count) at r none = absurd (none frame refl)
kept_by Open at r none = refl
kept_by (Faulty fault) at r none = refl

pub others_leave : (r : Reader) (answer : Taken) → answer ≡ taken_from (front_of r.held) r.at → ((frame : Frame) → answer ≡ taken.Frame frame → ⊥) → r ≡ after_take (front_of r.held) r
others_leave r answer value none = kept_by (front_of r.held) r.at r (λ frame is. none frame (value ∙ is))

no_fault : (place at : ℕ) (fault : FrameFault) → taken_from (front_of []) place ≡ taken.Fault at fault → ⊥
unfolding front_of fault_of
no_fault place at fault is = cc

-- no bytes show no fault
pub fault_of_some : (r : Reader) (answer : Taken) (at : ℕ) (fault : FrameFault) → answer ≡ taken_from (front_of r.held) r.at → answer ≡ taken.Fault at fault → r.held ≡ [] → ⊥
fault_of_some r answer at fault value is empty = no_fault r.at at fault (sym (ap (λ (held : List ℕ). taken_from (front_of held) r.at) empty) ∙ sym value ∙ is)

-- ---- how many bytes of a piece are taken

full_by : (front : Front Frame FrameFault) (r : Reader) (piece : List ℕ) → 48 - length r.held ≡ 0 → 0 ≡ bytes_taken front 48 r piece
unfolding bytes_taken
full_by (Whole frame count) r piece full = omega (arith, full)
full_by Open r piece full = omega (arith, full)
full_by (Faulty fault) r piece full = refl

pub none_if_full : (r : Reader) (piece : List ℕ) (len : ℕ) → len ≡ length r.held → 48 - len ≡ 0 → 0 ≡ bytes_taken (front_of r.held) 48 r piece
none_if_full r piece len same full = full_by (front_of r.held) r piece (omega (arith, full, same))

faulty_by : (front : Front Frame FrameFault) (at : ℕ) (r : Reader) (piece : List ℕ) → is_fault (taken_from front at) ≡ true → 0 ≡ bytes_taken front 48 r piece
unfolding bytes_taken
faulty_by (Whole frame count) at r piece is = cc
faulty_by Open at r piece is = cc
faulty_by (Faulty fault) at r piece is = refl

pub none_if_faulty : (r : Reader) (piece : List ℕ) (answer : Taken) (faulty : Bool) → answer ≡ taken_from (front_of r.held) r.at → faulty ≡ is_fault answer → faulty ≡ true → 0 ≡ bytes_taken (front_of r.held) 48 r piece
none_if_faulty r piece answer faulty value same is = faulty_by (front_of r.held) r.at r piece (sym (ap is_fault value) ∙ sym same ∙ is)

some_by : (front : Front Frame FrameFault) (at : ℕ) (r : Reader) (piece : List ℕ) → is_fault (taken_from front at) ≡ false → bytes_taken front 48 r piece ≡ min (length piece) (48 - length r.held)
unfolding bytes_taken
some_by (Whole frame count) at r piece is = refl
some_by Open at r piece is = refl
some_by (Faulty fault) at r piece is = cc

pub as_many_as_fit : (r : Reader) (piece : List ℕ) (answer : Taken) (faulty : Bool) (len count : ℕ) → answer ≡ taken_from (front_of r.held) r.at → faulty ≡ is_fault answer → faulty ≡ false →
    len ≡ length r.held → count ≡ min (length piece) (48 - len) → count ≡ bytes_taken (front_of r.held) 48 r piece
as_many_as_fit r piece answer faulty len count value same is long many =
    many ∙ ap (λ (n : ℕ). min (length piece) (48 - n)) long ∙ sym (some_by (front_of r.held) r.at r piece (sym (ap is_fault value) ∙ sym same ∙ is))
