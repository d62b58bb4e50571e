use Rattle.downloaded_laws.proofs.Runs.{history_downloaded}
use Rattle.downloaded_laws.proofs.downloads_are_what_was_checked.Goals as goal

pub returns : goal.returns
returns c h actions low high allowed =
    history_downloaded
    (record {
      awaited = c.requests_are_awaited.ensures.awaited;
      carried = c.replies_are_own.ensures.carried;
      reply = c.replies_are_own.ensures.reply;
    }) h actions low high allowed
