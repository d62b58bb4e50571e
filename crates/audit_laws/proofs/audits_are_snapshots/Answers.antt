use Rattle.audit_laws.proofs.Runs.{history_audited}
use Rattle.audit_laws.proofs.audits_are_snapshots.Goals as goal

pub returns : goal.returns
returns c h actions low high allowed =
    history_audited
    (record {
      awaited = c.requests_are_awaited.ensures.awaited;
      carried = c.replies_are_own.ensures.carried;
      reply = c.replies_are_own.ensures.reply;
    }) h actions low high allowed
