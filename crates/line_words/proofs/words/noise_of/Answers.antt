use Rattle.std.proofs.Common.{◌≡◌, ℕ, List, true, false, Option, Some, None, Ok, Err}
use Rattle.std.proofs.Common.{sym, ap, ◌∙◌, refl}
use Rattle.std.specs.Prelude.{is_some}
use Rattle.extended_spec.specs.declared.AnyFault.{AnyFault}
use Rattle.extended_spec.specs.Frames.{any_fault_of}
use Rattle.script_spec.specs.Reading.{◌>>=◌, noise_with}
use Rattle.line_words.proofs.words.noise_of.Goals as goal

noise_there : (found : Option AnyFault) (bytes : List ℕ) → is_some found ≡ true
    → noise_with found bytes ≡ Ok bytes
noise_there (Some fault) bytes h = refl
noise_there None bytes h = cc

noise_missing : (found : Option AnyFault) (bytes : List ℕ) → is_some found ≡ false
    → noise_with found bytes ≡ Err 5
noise_missing (Some fault) bytes h = cc
noise_missing None bytes h = refl

pub returns-then-is_noise : goal.returns-then-is_noise
returns-then-is_noise c =
    let same = ap (λ bs. is_some (any_fault_of bs)) (sym c.bytes-2.ensures.value) in
    record {
      value =
          ap (λ r. r >>= λ bytes. noise_with (any_fault_of bytes) bytes) c.in_ok-bytes.ensures.value
          ∙ noise_there (any_fault_of c.in_ok-bytes.bytes) c.in_ok-bytes.bytes
          (same ∙ sym c.is_noise.ensures.value ∙ c.if-is_noise.true);
    }

pub returns-else-is_noise : goal.returns-else-is_noise
returns-else-is_noise c =
    let same = ap (λ bs. is_some (any_fault_of bs)) (sym c.bytes-2.ensures.value) in
    record {
      value =
          ap (λ r. r >>= λ bytes. noise_with (any_fault_of bytes) bytes) c.in_ok-bytes.ensures.value
          ∙ noise_missing (any_fault_of c.in_ok-bytes.bytes) c.in_ok-bytes.bytes
          (same ∙ sym c.is_noise.ensures.value ∙ c.if-is_noise.false);
    }
