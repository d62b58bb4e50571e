use Rattle.std.proofs.Common.{sym, ◌∙◌, ap, get_or}
use Rattle.drill_run.specs.Tallied.{byte_tallied}
use Rattle.drill_run.proofs.Counting.{tallied_none, tallied_more}
use Rattle.drill_run.proofs.tally.Tally.add.Goals as goal

pub loop-byte-init : goal.loop-byte-init
loop-byte-init c = tallied_none c.args.self.now

pub loop-byte-preserved : goal.loop-byte-preserved
loop-byte-preserved c =
    c.in_ok-byte.ensures.after
    ∙ ap (byte_tallied (get_or c.args.text.now c.loop-byte.byte-index 0)) c.loop-byte.invariant
    ∙ sym (tallied_more c.args.text.now c.loop-byte.byte-index c.args.self.now c.loop-byte-test.true)
