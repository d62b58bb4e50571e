use Rattle.step_laws.proofs.Stated.{agree_outright, check_equal}
use Rattle.step_laws.proofs.copies_are_read.Goals as goal

pub returns-clause-outright : goal.returns-clause-outright
returns-clause-outright c n t m u command r s rest =
    agree_outright (record {
      promises = record {
        awaited = c.requests_are_awaited.ensures.awaited;
        carried = c.replies_are_own.ensures.carried;
        reply = c.replies_are_own.ensures.reply;
      };
      fresh = c.requests_are_awaited.ensures.fresh;
      own = c.replies_are_own.ensures.own;
      older = c.requests_follow_replies.ensures.older;
    }) n t r m u command s rest

pub returns-clause-checked : goal.returns-clause-checked
returns-clause-checked c n t m u command r s rest asked reply entity e =
    check_equal (record {
      promises = record {
        awaited = c.requests_are_awaited.ensures.awaited;
        carried = c.replies_are_own.ensures.carried;
        reply = c.replies_are_own.ensures.reply;
      };
      fresh = c.requests_are_awaited.ensures.fresh;
      own = c.replies_are_own.ensures.own;
      older = c.requests_follow_replies.ensures.older;
    }) n t r m u command s rest asked reply entity e
