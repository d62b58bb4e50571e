use Rattle.resync_laws.proofs.Runs.{history_synced, reached_whole}
use Rattle.resync_laws.proofs.copies_are_snapshots.Goals as goal

pub returns-clause-synced : goal.returns-clause-synced
returns-clause-synced c h actions low high allowed =
    history_synced
    (record {
      awaited = c.requests_are_awaited.ensures.awaited;
      carried = c.replies_are_own.ensures.carried;
      reply = c.replies_are_own.ensures.reply;
    }) h actions low high allowed

pub returns-clause-whole : goal.returns-clause-whole
returns-clause-whole c n t u r on =
    reached_whole
    (record {
      awaited = c.requests_are_awaited.ensures.awaited;
      carried = c.replies_are_own.ensures.carried;
      reply = c.replies_are_own.ensures.reply;
    }) n t u r on
