use Rattle.moves_laws.proofs.Reached.{channel_of, reply_before_request}
use Rattle.moves_laws.proofs.requests_follow_replies.Goals as goal

pub returns : goal.returns
returns c = record { older = λ l w up down d e bytes r. reply_before_request l w up down d e bytes (channel_of w r) }
