use Rattle.world_laws.proofs.Reached.{channel_for, is_older}
use Rattle.world_laws.proofs.requests_follow_replies.Goals as goal

pub returns : goal.returns
returns c = record { older = λ l n t up down r s k. is_older l n t up down r s (channel_for n t k) }
