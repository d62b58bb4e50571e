-- What a reader answers and keeps, by what its bytes show, and bytes that are added to its buffer.
use Rattle.std.proofs.Common.{◌≡◌, ℕ, ◌+◌, ◌-◌, ◌≤◌, Bool, true, false, min, List, [], ◌++◌, length, take, drop, Option, Some, None, refl, sym, ap, ◌∙◌, arith}
use Rattle.std.proofs.lemmas.List.{drop-take, drop-append-le, drop-drop, length-take}
use Rattle.stream_spec.specs.Streams.{Front, Whole, Open, Faulty, Reader, place_after, bytes_taken, after_take}
use Rattle.extended_spec.specs.declared.AnyFault.{AnyFault}
use Rattle.extended_spec.specs.declared.AnyFault.TheVariants.{Device, Short, Trailer, Check, Length, NoMemory}
use Rattle.extended_spec.specs.Frames.{Any, any_of, any_bytes, any_fault_of, is_extended}
use Rattle.frame_spec.specs.Baseline.{fault_of}
use Rattle.extended_spec.specs.Streams.{any_front_by, any_front, GivenFrame, any_taken_from}
use Rattle.extended_frames.specs.declared.front.Shown.{Shown}
use Rattle.extended_frames.specs.declared.front.Shown.TheVariants as shown
use Rattle.extended_frames.specs.Views.{shown_by, is_shown_faulty}

-- ---- what is shown

sound_by : (fault : Option AnyFault) (bytes : List ℕ) (count : ℕ) → shown_by (any_front_by fault bytes) ≡ shown.Whole count → fault ≡ None
sound_by None bytes count is = refl
sound_by (Some (Device byte)) bytes count is = cc
sound_by (Some (Short have)) bytes count is = cc
sound_by (Some (Trailer trailer)) bytes count is = cc
sound_by (Some (Check given computed)) bytes count is = cc
sound_by (Some (Length given)) bytes count is = cc
sound_by (Some NoMemory) bytes count is = cc

pub whole_is_sound : (bytes : List ℕ) (s : Shown) (count : ℕ) → s ≡ shown_by (any_front bytes) → s ≡ shown.Whole count → any_fault_of bytes ≡ None
unfolding any_front
whole_is_sound bytes s count value is = sound_by (any_fault_of bytes) bytes count (sym value ∙ is)

open_by : (front : Front Any AnyFault) (r : Reader) → shown_by front ≡ shown.Open → r ≡ after_take front r
unfolding after_take
open_by (Whole frame count) r is = cc
open_by Open r is = refl
open_by (Faulty fault) r is = cc

pub open_leaves : (r : Reader) (s : Shown) → s ≡ shown_by (any_front r.held) → s ≡ shown.Open → r ≡ after_take (any_front r.held) r
open_leaves r s value is = open_by (any_front r.held) r (sym value ∙ is)

faulty_by : (front : Front Any AnyFault) (r : Reader) (fault : AnyFault) → shown_by front ≡ shown.Faulty fault → r ≡ after_take front r
unfolding after_take
faulty_by (Whole frame count) r fault is = cc
faulty_by Open r fault is = cc
faulty_by (Faulty other) r fault is = refl

pub faulty_leaves : (r : Reader) (s : Shown) (fault : AnyFault) → s ≡ shown_by (any_front r.held) → s ≡ shown.Faulty fault → r ≡ after_take (any_front r.held) r
faulty_leaves r s fault value is = faulty_by (any_front r.held) r fault (sym value ∙ is)

no_fault : (fault : AnyFault) → shown_by (any_front []) ≡ shown.Faulty fault → ⊥
unfolding any_front any_fault_of is_extended fault_of
no_fault fault is = cc

-- no bytes show no fault
pub fault_of_some : (r : Reader) (s : Shown) (fault : AnyFault) → s ≡ shown_by (any_front r.held) → s ≡ shown.Faulty fault → r.held ≡ [] → ⊥
fault_of_some r s fault value is empty = no_fault fault (sym (ap (λ (held : List ℕ). shown_by (any_front held)) empty) ∙ sym value ∙ is)

-- ---- how many bytes of a piece are taken

none_by : (front : Front Any AnyFault) (r : Reader) (piece : List ℕ) → is_shown_faulty (shown_by front) ≡ true → 0 ≡ bytes_taken front 1980 r piece
unfolding bytes_taken
none_by (Whole frame count) r piece is = cc
none_by Open r piece is = cc
none_by (Faulty fault) r piece is = refl

pub none_if_faulty : (r : Reader) (piece : List ℕ) (s : Shown) (faulty : Bool) → s ≡ shown_by (any_front r.held) → faulty ≡ is_shown_faulty s → faulty ≡ true → 0 ≡ bytes_taken (any_front r.held) 1980 r piece
none_if_faulty r piece s faulty value same is = none_by (any_front r.held) r piece (sym (ap is_shown_faulty value) ∙ sym same ∙ is)

some_by : (front : Front Any AnyFault) (r : Reader) (piece : List ℕ) → is_shown_faulty (shown_by front) ≡ false → bytes_taken front 1980 r piece ≡ min (length piece) (1980 - length r.held)
unfolding bytes_taken
some_by (Whole frame count) r piece is = refl
some_by Open r piece is = refl
some_by (Faulty fault) r piece is = cc

pub as_many_as_fit : (r : Reader) (piece : List ℕ) (s : Shown) (faulty : Bool) (len count : ℕ) → s ≡ shown_by (any_front r.held) → faulty ≡ is_shown_faulty s → faulty ≡ false →
    len ≡ length r.held → count ≡ min (length piece) (1980 - len) → count ≡ bytes_taken (any_front r.held) 1980 r piece
as_many_as_fit r piece s faulty len count value same is long many =
    many ∙ ap (λ (n : ℕ). min (length piece) (1980 - n)) long ∙ sym (some_by (any_front r.held) r piece (sym (ap is_shown_faulty value) ∙ sym same ∙ is))

-- ---- a whole frame

pub frame_given : (held : List ℕ) (at : ℕ) (frame : Any) → any_fault_of held ≡ None → frame ≡ any_of held → GivenFrame frame ≡ any_taken_from (any_front held) at
unfolding any_front
frame_given held at frame none is =
    ap (λ (a : Any). GivenFrame a) is ∙ sym (ap (λ (o : Option AnyFault). any_taken_from (any_front_by o held) at) none)

whole_after : (r : Reader) → any_fault_of r.held ≡ None → after_take (any_front r.held) r ≡ record { at = place_after r.at (any_bytes r.held); held = drop (any_bytes r.held) r.held }
unfolding any_front after_take
whole_after r none = ap (λ (o : Option AnyFault). after_take (any_front_by o r.held) r) none

twice : (count start : ℕ) (items : List ℕ) → drop count (drop start items) ≡ drop (start + count) items
twice count start items =
    let same : count + start ≡ start + count = omega arith in
    grind (arith, same, drop-drop count start items, drop-drop start count items)

-- the bytes of the frame are held no longer
pub frame_leaves : (r : Reader) (start len count at : ℕ) (items : List ℕ) → any_fault_of r.held ≡ None → r.held ≡ take len (drop start items) → count ≡ any_bytes r.held → count ≤ len → at ≡ place_after r.at count →
    record { at = at; held = take (len - count) (drop (start + count) items) } ≡ after_take (any_front r.held) r
frame_leaves r start len count at items none held many few on =
    let reader : ℕ → List ℕ → Reader = λ a h. record { at = a; held = h } in
    let split : len ≡ count + (len - count) = omega (arith, few) in
    let rest : drop count r.held ≡ take (len - count) (drop (start + count) items) =
    ap (drop count) held ∙ ap (λ (n : ℕ). drop count (take n (drop start items))) split ∙ drop-take count (len - count) (drop start items) ∙ ap (take (len - count)) (twice count start items) in
    ap (λ (a : ℕ). reader a (take (len - count) (drop (start + count) items))) on
    ∙ ap (reader (place_after r.at count)) (sym rest)
    ∙ ap (λ (n : ℕ). reader (place_after r.at n) (drop n r.held)) many
    ∙ sym (whole_after r none)

-- ---- the buffer

-- what stands after the bytes that are held joins them
pub added : (start len : ℕ) (whole new more : List ℕ) → start + len ≤ length whole → take (start + len + length more) new ≡ take (start + len) whole ++ more →
    take (len + length more) (drop start new) ≡ take len (drop start whole) ++ more
added start len whole new more fits front =
    let all : start + (len + length more) ≡ start + len + length more = omega arith in
    sym (drop-take start (len + length more) new)
    ∙ ap (λ (n : ℕ). drop start (take n new)) all
    ∙ ap (drop start) front
    ∙ drop-append-le start (take (start + len) whole) more (omega (arith, fits, length-take (start + len) whole))
    ∙ ap (λ (z : List ℕ). z ++ more) (drop-take start len whole)
