use Rattle.std.proofs.Common.{refl}
use Rattle.omci_top.proofs.ShowLemmas.{check_ran, check_told, check_read, check_long, check_memory}
use Rattle.omci_top.proofs.show.check.Goals as goal

pub returns-in-Ok-clause-answers : goal.returns-in-Ok-clause-answers
returns-in-Ok-clause-answers g c = check_ran _ _ _ _ _ _ _ _ c.tell_counts.result c.in-Ok.counts c.in-Ok.ensures.counts c.tell_counts.ensures.ran

pub returns-in-Err-Refused-clause-answers : goal.returns-in-Err-Refused-clause-answers
returns-in-Err-Refused-clause-answers g c = check_told _ _ _ _ _ _ _ _ c.tell_fault.result c.in-Err-Refused.place c.in-Err-Refused.reason (rw c.in-Err-Refused.field-0-is at c.in-Err-Refused.ensures.counts) c.tell_fault.ensures.ran

pub returns-in-Err-Read-clause-answers : goal.returns-in-Err-Read-clause-answers
returns-in-Err-Read-clause-answers g c = check_read _ _ (g.K.Sink.written c.args.sink.now) _ _ _ (rw c.in-Err-Read.field-0-is at c.in-Err-Read.ensures.counts)

pub returns-in-Err-Write-clause-answers : goal.returns-in-Err-Write-clause-answers
returns-in-Err-Write-clause-answers g c = absurd (c.in-Err-Write.ensures.some c.in-Err-Write.field-0-is)

pub returns-in-Err-TooLong-clause-answers : goal.returns-in-Err-TooLong-clause-answers
returns-in-Err-TooLong-clause-answers g c = check_long _ _ (g.K.Sink.written c.args.sink.now) _ _ _ (rw c.in-Err-TooLong.field-0-is at c.in-Err-TooLong.ensures.counts)

pub returns-in-Err-NoMemory-clause-answers : goal.returns-in-Err-NoMemory-clause-answers
returns-in-Err-NoMemory-clause-answers g c = check_memory _ _ _ _ _ _ (rw c.in-Err-NoMemory.field-0-is at c.in-Err-NoMemory.ensures.counts)
