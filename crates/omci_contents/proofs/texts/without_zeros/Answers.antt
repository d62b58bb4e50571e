use Rattle.std.proofs.Common.{sym, ◌∙◌, arith}
use Rattle.omci_contents.proofs.Cutting.{cut_shorter, cut_whole, cut_none}
use Rattle.omci_contents.proofs.texts.without_zeros.Goals as goal
use Rattle.omci_contents.proofs.texts.without_zeros.Goals.{then-loop-end-test+else-bytes-end-eq0, else-loop-end-test}

pub loop-end-preserved : goal.loop-end-preserved
loop-end-preserved c = (
  cut_shorter c.args.bytes.now c.loop-end.end (omega arith) c.loop-end.invariant.1 c.if-bytes-end-eq0.true ∙ c.loop-end.invariant.0,
  omega arith,
)

pub returns-clause-value : goal.returns-clause-value
returns-clause-value c =
    elim c.loop-end-test.branch [
      | then-loop-end-test+else-bytes-end-eq0 w ↦
          sym (cut_whole c.args.bytes.now c.loop-end.end (omega arith) c.loop-end.invariant.1 w.if-bytes-end-eq0.false) ∙ c.loop-end.invariant.0
      | else-loop-end-test w ↦ sym (cut_none c.args.bytes.now c.loop-end.end (omega arith)) ∙ c.loop-end.invariant.0
    ]
