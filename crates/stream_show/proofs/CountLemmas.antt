-- Counting the frames of a stream.
use Rattle.std.proofs.Common.{◌≡◌, ℕ, ◌+◌, ◌-◌, ◌^◌, ◌≤◌, ◌<◌, Bool, true, false, min, List, [], ◌∷◌, ◌++◌, length, Option, Some, None, Ok, Err, refl, sym, ap, subst, ◌∙◌, arith, length-append}
use Rattle.std.specs.Prelude.{All, Result}
use Rattle.std.proofs.lemmas.List.Elements.{All-head, All-tail}
use Rattle.frame_spec.specs.Baseline.{spelling}
use Rattle.frame_laws.proofs.Spelling.{length-spelling}
use Rattle.stream_spec.specs.Streams.{Reader}
use Rattle.extended_spec.specs.declared.LongFault.{LongFault}
use Rattle.extended_spec.specs.Frames.{Any, Baseline, Extended, IsAny, any_spelling, long_spelling}
use Rattle.extended_spec.specs.Messages.{any_message_fault}
use Rattle.extended_laws.proofs.Long.{length-long_spelling}
use Rattle.show_spec.specs.Shown.{frame_bytes, one_if, is_unknown_type, unknown_count}
use Rattle.stream_show.specs.Runs.{Grows}

pub grows_none : (n : ℕ) → Grows n n 0
grows_none n passed is = is ∙ ap (λ (m : ℕ). min m (2 ^ 64 - 1)) (no_more passed)
  where
    no_more : (passed : ℕ) → passed ≡ passed + 0
    no_more passed = omega arith

pub grows_then : (a b c more other : ℕ) → Grows a b more → Grows b c other → Grows a c (more + other)
grows_then a b c more other first then passed is = then (passed + more) (first passed is) ∙ ap (λ (m : ℕ). min m (2 ^ 64 - 1)) (sums passed more other)
  where
    sums : (a b c : ℕ) → a + b + c ≡ a + (b + c)
    sums a b c = omega arith

pub grows_by : (a b more : ℕ) → b ≡ min (a + more) (2 ^ 64 - 1) → Grows a b more
grows_by a b more value passed is = omega (arith, value, is)

pub length_next : (frames : List Any) (frame : Any) → length (frames ++ frame ∷ []) ≡ length frames + 1
length_next frames frame = length-append frames (frame ∷ [])

pub unknown_then : (frames more : List Any) → unknown_count (frames ++ more) ≡ unknown_count frames + unknown_count more
unknown_then [] more = omega arith
unknown_then (frame ∷ frames) more =
    ap (λ (n : ℕ). one_if (is_unknown_type (any_message_fault frame)) + n) (unknown_then frames more)
    ∙ sums (one_if (is_unknown_type (any_message_fault frame))) (unknown_count frames) (unknown_count more)
  where
    sums : (a b c : ℕ) → a + (b + c) ≡ a + b + c
    sums a b c = omega arith

pub unknown_next : (frames : List Any) (frame : Any) → unknown_count (frames ++ frame ∷ []) ≡ unknown_count frames + one_if (is_unknown_type (any_message_fault frame))
unknown_next frames frame = unknown_then frames (frame ∷ []) ∙ ap (λ (n : ℕ). unknown_count frames + n) (no_more (one_if (is_unknown_type (any_message_fault frame))))
  where
    no_more : (n : ℕ) → n + 0 ≡ n
    no_more n = omega arith

-- ---- there are not more frames than bytes

pub spelled_long : (frame : Any) → IsAny frame → 0 < length (any_spelling frame)
spelled_long (Baseline frame) valid = omega (arith, length-spelling frame valid)
spelled_long (Extended frame) valid = omega (arith, length-long_spelling frame)

pub few_frames : (frames : List Any) → All IsAny frames → length frames ≤ length (frame_bytes frames)
few_frames [] valid = omega arith
few_frames (frame ∷ frames) valid =
    omega (arith, spelled_long frame (All-head IsAny frame frames valid), few_frames frames (All-tail IsAny frame frames valid), length-append (any_spelling frame) (frame_bytes frames))

one_few : (b : Bool) → one_if b ≤ 1
one_few true = omega arith
one_few false = omega arith

pub few_unknown : (frames : List Any) → unknown_count frames ≤ length frames
few_unknown [] = omega arith
few_unknown (frame ∷ frames) = omega (arith, one_few (is_unknown_type (any_message_fault frame)), few_unknown frames)

-- a count that began at nothing
pub count_is : (now more limit : ℕ) → Grows 0 now more → more ≤ limit → limit < 2 ^ 64 → now ≡ more
count_is now more limit grows few bound = let is : now ≡ min (0 + more) (2 ^ 64 - 1) = grows 0 refl in omega (arith, is, few, bound)
