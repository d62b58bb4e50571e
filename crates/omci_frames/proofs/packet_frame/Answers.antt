use Rattle.std.proofs.Common.{ap, sym, ◌∙◌, arith}
use Rattle.std.specs.Result.{result_ok}
use Rattle.frame_spec.specs.Baseline.{packet_frame}
use Rattle.frame_laws.proofs.Reading.{packet_frame-spelling}
use Rattle.frame_laws.proofs.Faults.{packet_frame-whole, packet_frame-other}
use Rattle.omci_frames.proofs.Decoding.{packet_exact}
use Rattle.omci_frames.proofs.packet_frame.Goals as goal

pub returns-then-bytes-eq-FRAME_BYTES-clause-value : goal.returns-then-bytes-eq-FRAME_BYTES-clause-value
returns-then-bytes-eq-FRAME_BYTES-clause-value c =
    c.ok.ensures.value ∙ ap result_ok c.decode.ensures.value ∙ sym (packet_frame-whole c.args.bytes.now c.if-bytes-eq-FRAME_BYTES.true)

pub returns-then-bytes-eq-FRAME_BYTES-clause-exact : goal.returns-then-bytes-eq-FRAME_BYTES-clause-exact
returns-then-bytes-eq-FRAME_BYTES-clause-exact c =
    packet_exact c.ok.result c.args.bytes.now (λ i. omega (arith, c.type_inv.bytes i)) (returns-then-bytes-eq-FRAME_BYTES-clause-value c)

pub returns-then-bytes-eq-FRAME_BYTES-clause-only : goal.returns-then-bytes-eq-FRAME_BYTES-clause-only
returns-then-bytes-eq-FRAME_BYTES-clause-only c = λ f fits same.
    returns-then-bytes-eq-FRAME_BYTES-clause-value c ∙ ap packet_frame same ∙ packet_frame-spelling f fits

pub returns-else-bytes-eq-FRAME_BYTES-clause-value : goal.returns-else-bytes-eq-FRAME_BYTES-clause-value
returns-else-bytes-eq-FRAME_BYTES-clause-value c = sym (packet_frame-other c.args.bytes.now c.if-bytes-eq-FRAME_BYTES.false)

pub returns-else-bytes-eq-FRAME_BYTES-clause-only : goal.returns-else-bytes-eq-FRAME_BYTES-clause-only
returns-else-bytes-eq-FRAME_BYTES-clause-only c = λ f fits same.
    returns-else-bytes-eq-FRAME_BYTES-clause-value c ∙ ap packet_frame same ∙ packet_frame-spelling f fits
