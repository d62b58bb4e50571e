-- Nothing is sent on a frame that answers nothing.
use Rattle.std.proofs.Common.{rules}
use Rattle.olt_manager.proofs.Untaken.{sent_for_nothing}
use Rattle.olt_manager.proofs.replies.take_frame.Goals as goal

pub returns-then-not-reply-clause-packets : goal.returns-then-not-reply-clause-packets
returns-then-not-reply-clause-packets c =
    sent_for_nothing c.args.priority c.args.frame.now c.args.olt.now c.args.out.now (search rules)
