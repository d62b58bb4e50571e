use Rattle.moves_laws.proofs.Reached.{channel_of, taken_is_own, taken_is_kept, taken_was_carried, taken_is_last}
use Rattle.moves_laws.proofs.replies_are_own.Goals as goal

pub returns-clause-own : goal.returns-clause-own
returns-clause-own c = λ l w at d bytes o r. taken_is_own l w at d bytes o (channel_of w r)

pub returns-clause-kept : goal.returns-clause-kept
returns-clause-kept c = λ l w at d bytes o r. taken_is_kept l w at d bytes o (channel_of w r)

pub returns-clause-carried : goal.returns-clause-carried
returns-clause-carried c = λ l w at d bytes o r. taken_was_carried l w at d bytes o (channel_of w r)

pub returns-clause-reply : goal.returns-clause-reply
returns-clause-reply c = λ l w at d bytes o r. taken_is_last l w at d bytes o (channel_of w r)
