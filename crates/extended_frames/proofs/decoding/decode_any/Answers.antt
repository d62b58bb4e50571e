use Rattle.std.proofs.Common.{◌≡◌, Result, Err, Some, refl, sym, ap, ◌∙◌}
use Rattle.extended_spec.specs.declared.AnyFault.{AnyFault}
use Rattle.extended_laws.proofs.Sound.{never_memory}
use Rattle.extended_frames.proofs.decoding.decode_any.Goals as goal

same_fault : (T : Type 0) (answer : Result T AnyFault) (a b : AnyFault) → answer ≡ Err a → answer ≡ Err b → a ≡ b
same_fault T answer a b first second = cc

pub returns-in-Some-clause-memory : goal.returns-in-Some-clause-memory
returns-in-Some-clause-memory c = λ is.
    absurd (never_memory c.args.bytes.now (sym c.in-Some.ensures.value ∙ ap (λ (f : AnyFault). Some f) (same_fault _ (Err c.in-Some.fault) _ _ refl is)))
