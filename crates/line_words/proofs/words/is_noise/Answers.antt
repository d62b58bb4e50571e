use Rattle.std.proofs.Common.{◌≡◌, ℕ, List, not, Option, Some, None, refl, ap, ◌∙◌}
use Rattle.std.specs.Prelude.{is_some}
use Rattle.extended_spec.specs.declared.AnyFault.{AnyFault}
use Rattle.extended_spec.specs.declared.AnyFault.TheVariants as faults
use Rattle.extended_spec.specs.Frames.{any_fault_of}
use Rattle.extended_spec.specs.Streams.{any_front, any_front_by}
use Rattle.extended_frames.specs.Views.{shown_by}
use Rattle.line_words.specs.Answers.{is_whole}
use Rattle.line_words.proofs.words.is_noise.Goals as goal

-- no whole frame is shown exactly where there is a fault
by_fault : (found : Option AnyFault) (bytes : List ℕ)
    → not (is_whole (shown_by (any_front_by found bytes))) ≡ is_some found
by_fault None bytes = refl
by_fault (Some (faults.Short have)) bytes = refl
by_fault (Some _) bytes = refl

by_front : (bytes : List ℕ) → not (is_whole (shown_by (any_front bytes))) ≡ is_some (any_fault_of bytes)
unfolding any_front
by_front bytes = by_fault (any_fault_of bytes) bytes

pub returns : goal.returns
returns c = record {
  value =
      ap not (c.is_whole.ensures.value ∙ ap is_whole c.front_shown.ensures.value)
      ∙ by_front c.args.bytes.now;
}
