-- What bytes show, and what passing a frame makes of those that are held.
use Rattle.std.proofs.Common.{◌≡◌, ℕ, ◌+◌, ◌-◌, ◌^◌, ◌≤◌, ◌<◌, Bool, true, false, cond, min, List, [], ◌∷◌, ◌++◌, length, take, drop, Option, Some, None, refl, sym, ap, subst, ◌∙◌, append_assoc, arith, length-append, take-append-drop}
use Rattle.std.specs.Prelude.{All}
use Rattle.std.specs.List.{flat_map}
use Rattle.std.proofs.lemmas.List.{append-nil, length-take, length-drop}
use Rattle.std.proofs.lemmas.List.Elements.{All-append, All-cons}
use Rattle.std.proofs.lemmas.Grind.{flat_map-append}
use Rattle.frame_spec.specs.Baseline.{IsBytes}
use Rattle.stream_spec.specs.Streams.{Front, Whole, Open, Faulty, Reader, place_after}
use Rattle.extended_spec.specs.declared.AnyFault.{AnyFault}
use Rattle.extended_spec.specs.declared.AnyFault.TheVariants.{Device, Short, Trailer, Check, Length, NoMemory}
use Rattle.extended_spec.specs.Frames.{Any, IsAny, any_spelling, any_of, any_bytes, any_fault_of}
use Rattle.extended_spec.specs.declared.LongFault.{LongFault}
use Rattle.extended_spec.specs.Messages.{any_message_fault}
use Rattle.extended_spec.specs.Streams.{any_front_by, any_front}
use Rattle.extended_laws.proofs.Sets.{read_frame, IsReadFrame, set}
use Rattle.extended_frames.specs.declared.front.Shown.TheVariants as shown
use Rattle.extended_frames.specs.Views.{shown_by}
use Rattle.show_spec.specs.Shown.{Passes, frame_bytes, frame_line, frame_lines}
use Rattle.stream_show.specs.Runs.{PassesHeld}
use Rattle.stream_show.proofs.CountLemmas.{spelled_long}

-- ---- what is shown

-- the bytes begin with a whole frame of so many bytes
pub record IsWhole (bytes : List ℕ) (count : ℕ) : Type 0 where
  pub none : any_fault_of bytes ≡ None
  pub front : any_front bytes ≡ Whole (any_of bytes) count
  pub long : any_bytes bytes ≡ count

none_by : (fault : Option AnyFault) (bytes : List ℕ) (count : ℕ) → shown_by (any_front_by fault bytes) ≡ shown.Whole count → (fault ≡ None) × (any_front_by fault bytes ≡ Whole (any_of bytes) count) × (any_bytes bytes ≡ count)
none_by None bytes count is = let same : any_bytes bytes ≡ count = cc in (refl, ap (λ (n : ℕ). Whole (any_of bytes) n) same, same)
none_by (Some (Device byte)) bytes count is = cc
none_by (Some (Short have)) bytes count is = cc
none_by (Some (Trailer trailer)) bytes count is = cc
none_by (Some (Check given computed)) bytes count is = cc
none_by (Some (Length given)) bytes count is = cc
none_by (Some NoMemory) bytes count is = cc

pub whole_shown : (bytes : List ℕ) (count : ℕ) → shown_by (any_front bytes) ≡ shown.Whole count → IsWhole bytes count
unfolding any_front
whole_shown bytes count is =
    let facts = none_by (any_fault_of bytes) bytes count is in
    record { none = facts.0; front = facts.1; long = facts.2 }

open_by : (front : Front Any AnyFault) → shown_by front ≡ shown.Open → front ≡ Open
open_by (Whole frame count) is = cc
open_by Open is = refl
open_by (Faulty fault) is = cc

pub open_shown : (bytes : List ℕ) → shown_by (any_front bytes) ≡ shown.Open → any_front bytes ≡ Open
open_shown bytes is = open_by (any_front bytes) is

faulty_by : (front : Front Any AnyFault) (fault : AnyFault) → shown_by front ≡ shown.Faulty fault → front ≡ Faulty fault
faulty_by (Whole frame count) fault is = cc
faulty_by Open fault is = cc
faulty_by (Faulty other) fault is = cc

pub faulty_shown : (bytes : List ℕ) (fault : AnyFault) → shown_by (any_front bytes) ≡ shown.Faulty fault → any_front bytes ≡ Faulty fault
faulty_shown bytes fault is = faulty_by (any_front bytes) fault is

-- ---- passing a frame

none_below : (k : ℕ) → k < 0 → ⊥
none_below k h = omega (arith, h)

no_elements : {F : Type 0} (P : F → Type 0) → All P []
no_elements P k d within = absurd (none_below k within)

-- no frame passed yet
pub nothing_passed : (refused : Any → Option ℕ) (held : List ℕ) → Passes refused held [] held
nothing_passed refused held = record { spelled = refl; valid = no_elements IsAny; passed = no_elements (λ frame. refused frame ≡ None) }

-- all that was read belongs to what is held or to the frames passed
pub passes_then : (refused : Any → Option ℕ) (bytes held rest : List ℕ) (frames more : List Any) → Passes refused bytes frames held → Passes refused held more rest → Passes refused bytes (frames ++ more) rest
passes_then refused bytes held rest frames more first then =
    let same : frame_bytes (frames ++ more) ≡ frame_bytes frames ++ frame_bytes more = flat_map-append any_spelling frames more in
    record {
      spelled = first.spelled ∙ ap (λ (z : List ℕ). frame_bytes frames ++ z) then.spelled ∙ sym (append_assoc (frame_bytes frames) (frame_bytes more) rest) ∙ ap (λ (z : List ℕ). z ++ rest) (sym same);
      valid = All-append IsAny frames more first.valid then.valid;
      passed = All-append (λ frame. refused frame ≡ None) frames more first.passed then.passed;
    }

-- more bytes were read
pub passes_more : (refused : Any → Option ℕ) (bytes held piece : List ℕ) (frames : List Any) → Passes refused bytes frames held → Passes refused (bytes ++ piece) frames (held ++ piece)
passes_more refused bytes held piece frames first = record {
  spelled = ap (λ (z : List ℕ). z ++ piece) first.spelled ∙ append_assoc (frame_bytes frames) held piece;
  valid = first.valid;
  passed = first.passed;
}

-- the frame that the bytes begin with is passed
pub one_passed : (refused : Any → Option ℕ) (held : List ℕ) (count : ℕ) → IsBytes held → IsWhole held count → refused (any_of held) ≡ None → Passes refused held (any_of held ∷ []) (drop count held)
one_passed refused held count fit whole none =
    let facts = set.whole held (any_of held) count fit whole.front in
    record {
      spelled = sym (take-append-drop count held) ∙ ap (λ (z : List ℕ). z ++ drop count held) (facts.1 ∙ sym (append-nil (any_spelling (any_of held))));
      valid = All-cons IsAny (any_of held) [] facts.0 (no_elements IsAny);
      passed = All-cons (λ frame. refused frame ≡ None) (any_of held) [] none (no_elements (λ frame. refused frame ≡ None));
    }

-- the frame's bytes are there
pub within_held : (held : List ℕ) (count : ℕ) → IsBytes held → IsWhole held count → count ≤ length held
within_held held count fit whole = subst (λ (n : ℕ). n ≤ length held) whole.long (read_frame held fit whole.none).whole

one_long : (held : List ℕ) (count : ℕ) → IsBytes held → IsWhole held count → length (frame_bytes (any_of held ∷ [])) ≡ count
one_long held count fit whole =
    let facts = set.whole held (any_of held) count fit whole.front in
    ap (λ (z : List ℕ). length z) (append-nil (any_spelling (any_of held))) ∙ sym facts.2

-- nothing was passed of what is held
pub held_same : (refused : Any → Option ℕ) (r : Reader) → PassesHeld refused r r []
held_same refused r = record { passes = nothing_passed refused r.held; at = λ passed is. is ∙ ap (λ (n : ℕ). min n (2 ^ 64 - 1)) (no_more passed) }
  where
    no_more : (passed : ℕ) → passed ≡ passed + 0
    no_more passed = omega arith

place_then : (at passed count : ℕ) → at ≡ min passed (2 ^ 64 - 1) → place_after at count ≡ min (passed + count) (2 ^ 64 - 1)
place_then at passed count is = omega (arith, is)

-- one frame more was passed of what is held
pub held_next : (refused : Any → Option ℕ) (before r : Reader) (frames : List Any) (count : ℕ) → PassesHeld refused before r frames → IsBytes r.held → IsWhole r.held count → refused (any_of r.held) ≡ None →
    PassesHeld refused before (record { at = place_after r.at count; held = drop count r.held }) (frames ++ any_of r.held ∷ [])
held_next refused before r frames count so_far fit whole none =
    let one = one_passed refused r.held count fit whole none in
    let longer : length (frame_bytes (frames ++ any_of r.held ∷ [])) ≡ length (frame_bytes frames) + count =
    ap (λ (z : List ℕ). length z) (flat_map-append any_spelling frames (any_of r.held ∷ []))
    ∙ length-append (frame_bytes frames) (frame_bytes (any_of r.held ∷ []))
    ∙ ap (λ (n : ℕ). length (frame_bytes frames) + n) (one_long r.held count fit whole) in
    record {
      passes = passes_then refused before.held r.held (drop count r.held) frames (any_of r.held ∷ []) so_far.passes one;
      at = λ passed is.
          place_then r.at (passed + length (frame_bytes frames)) count (so_far.at passed is)
          ∙ ap (λ (n : ℕ). min n (2 ^ 64 - 1)) (sums passed (length (frame_bytes frames)) count (length (frame_bytes (frames ++ any_of r.held ∷ []))) longer);
    }
  where
    sums : (a b c d : ℕ) → d ≡ b + c → a + b + c ≡ a + d
    sums a b c d is = omega (arith, is)

-- the lines of one frame more
pub lines_next : (frames : List Any) (frame : Any) → frame_lines (frames ++ frame ∷ []) ≡ frame_lines frames ++ frame_line frame
lines_next frames frame = flat_map-append frame_line frames (frame ∷ []) ∙ ap (λ (z : List ℕ). frame_lines frames ++ z) (append-nil (frame_line frame))

-- what was shown of a slice that has these bytes
pub whole_at : (held slice : List ℕ) (count : ℕ) → slice ≡ held → shown.Whole count ≡ shown_by (any_front slice) → IsWhole held count
whole_at held slice count is value = whole_shown held count (ap (λ (z : List ℕ). shown_by (any_front z)) (sym is) ∙ sym value)

pub fit_at : (held slice : List ℕ) → slice ≡ held → IsBytes slice → IsBytes held
fit_at held slice is fit = subst (λ (z : List ℕ). IsBytes z) is fit

pub line_at : (held slice lines more : List ℕ) → slice ≡ held → more ≡ lines ++ frame_line (any_of slice) → more ≡ lines ++ frame_line (any_of held)
line_at held slice lines more is line = line ∙ ap (λ (z : List ℕ). lines ++ frame_line (any_of z)) is

pub faulty_at : (held slice : List ℕ) (fault : AnyFault) → slice ≡ held → shown.Faulty fault ≡ shown_by (any_front slice) → any_front held ≡ Faulty fault
faulty_at held slice fault is value = faulty_shown held fault (ap (λ (z : List ℕ). shown_by (any_front z)) (sym is) ∙ sym value)

pub message_at : (held slice : List ℕ) (fault : Option LongFault) → slice ≡ held → fault ≡ any_message_fault (any_of slice) → fault ≡ any_message_fault (any_of held)
message_at held slice fault is value = value ∙ ap (λ (z : List ℕ). any_message_fault (any_of z)) is

pub less_held : (r s : Reader) (count : ℕ) → s ≡ record { at = place_after r.at count; held = drop count r.held } → 0 < count → count ≤ length r.held → length s.held < length r.held
less_held r s count after some few = omega (arith, ap (λ (x : Reader). length x.held) after, length-drop count r.held, some, few)

-- there is a byte at least in a frame
pub whole_some : (held : List ℕ) (count : ℕ) → IsBytes held → IsWhole held count → 0 < count
whole_some held count fit whole =
    let facts = set.whole held (any_of held) count fit whole.front in
    omega (arith, facts.2, spelled_long (any_of held) facts.0)
