-- What an answer is that is the definition's.
use Rattle.std.proofs.Common.{◌≡◌, ◌↔◌, ℕ, ◌<◌, Result, Ok, Err, sym, ◌∙◌}
use Rattle.omci_types.specs.declared.Frame.{Frame}
use Rattle.message_spec.specs.declared.Message.{Message}
use Rattle.message_spec.specs.declared.ContentsFault.{ContentsFault}
use Rattle.message_spec.specs.declared.ContentsFault.TheVariants.{UnknownType, Bits}
use Rattle.message_spec.specs.Reading.{message_of, Reads}
use Rattle.message_laws.specs.Faults.{IsUnknownType, HasWrongBits}
use Rattle.message_laws.proofs.Reading.{read_reads, reads_read}
use Rattle.message_laws.proofs.Causes.{unknown_is, is_unknown, bits_are, wrong_is}

pub reads_exactly : (f : Frame) (answer : Result Message ContentsFault) → f.kind < 256 → answer ≡ message_of f → (m : Message) → (answer ≡ Ok m) ↔ Reads m f
reads_exactly f answer lt is m = (λ e. read_reads f m lt (sym is ∙ e), λ r. is ∙ reads_read f m r)

pub unknown_exactly : (f : Frame) (answer : Result Message ContentsFault) → answer ≡ message_of f → (number : ℕ) → (answer ≡ Err (UnknownType number)) ↔ IsUnknownType f number
unknown_exactly f answer is number = (λ e. unknown_is f number (sym is ∙ e), λ u. is ∙ is_unknown f number u)

pub bits_exactly : (f : Frame) (answer : Result Message ContentsFault) → f.kind < 256 → answer ≡ message_of f → (byte : ℕ) → (answer ≡ Err (Bits byte)) ↔ HasWrongBits f byte
bits_exactly f answer lt is byte = (λ e. bits_are f byte (sym is ∙ e), λ w. is ∙ wrong_is f byte lt w)
