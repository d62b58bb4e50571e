use Rattle.step_laws.proofs.Stated.{reached_in_step, script_in_step}
use Rattle.step_laws.proofs.copies_keep_step.Goals as goal

pub returns-clause-in_step : goal.returns-clause-in_step
returns-clause-in_step c n t r =
    reached_in_step (record {
      promises = record {
        awaited = c.requests_are_awaited.ensures.awaited;
        carried = c.replies_are_own.ensures.carried;
        reply = c.replies_are_own.ensures.reply;
      };
      fresh = c.requests_are_awaited.ensures.fresh;
      own = c.replies_are_own.ensures.own;
      older = c.requests_follow_replies.ensures.older;
    }) n t r

pub returns-clause-script : goal.returns-clause-script
returns-clause-script c h actions a b all =
    script_in_step (record {
      promises = record {
        awaited = c.requests_are_awaited.ensures.awaited;
        carried = c.replies_are_own.ensures.carried;
        reply = c.replies_are_own.ensures.reply;
      };
      fresh = c.requests_are_awaited.ensures.fresh;
      own = c.replies_are_own.ensures.own;
      older = c.requests_follow_replies.ensures.older;
    }) h actions a b all
