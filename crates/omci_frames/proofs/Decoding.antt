-- What an answer that is the decoded one says.
use Rattle.std.proofs.Common.{◌≡◌, ◌↔◌, ℕ, List, Option, Some, None, Result, Err, sym, ◌∙◌}
use Rattle.std.specs.Prelude.{IfSome}
use Rattle.omci_types.specs.declared.Frame.{Frame}
use Rattle.frame_spec.specs.declared.FrameFault.{FrameFault}
use Rattle.frame_spec.specs.Baseline.{IsBytes, IsFrame, spelling, packet_frame}
use Rattle.frame_laws.proofs.Reading.{spelled-from_packet_frame}

pub same_answer : (answer decoded : Result Frame FrameFault) (fault : FrameFault) (P : Type 0) → answer ≡ decoded → (decoded ≡ Err fault) ↔ P → (answer ≡ Err fault) ↔ P
same_answer answer decoded fault P same law = (λ e. law.0 (sym same ∙ e), λ p. same ∙ law.1 p)

pub packet_exact : (answer : Option Frame) (bytes : List ℕ) → IsBytes bytes → answer ≡ packet_frame bytes → IfSome answer (λ f. IsFrame f × (bytes ≡ spelling f))
packet_exact None bytes fit same = tt
packet_exact (Some frame) bytes fit same = spelled-from_packet_frame frame bytes fit (sym same)
