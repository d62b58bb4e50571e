use Rattle.std.proofs.Common.{sym, ◌∙◌}
use Rattle.mib_upload.specs.Parts.{copy_of}
use Rattle.mib_upload.proofs.Places.{counter_read, counter_absent}
use Rattle.mib_upload.proofs.parts.counter.Goals as goal

pub returns-then-not-has_counter : goal.returns-then-not-has_counter
returns-then-not-has_counter c = counter_absent (copy_of c.args.parts.now) (sym c.has_counter.ensures ∙ c.if-not-has_counter.true)

pub returns : goal.returns
returns c = counter_read c.part_of.result (copy_of c.args.parts.now) c.part_of.ensures.entity c.part_of.ensures.values (sym c.has_counter.ensures ∙ c.if-not-has_counter.false)
