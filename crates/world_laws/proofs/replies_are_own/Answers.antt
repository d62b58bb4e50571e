use Rattle.world_laws.proofs.Reached.{channel_for, is_own, is_kept, was_carried, is_last}
use Rattle.world_laws.proofs.replies_are_own.Goals as goal

pub returns-clause-own : goal.returns-clause-own
returns-clause-own c = λ l n t i s m w r. is_own l n t i s m w (channel_for n t r)

pub returns-clause-kept : goal.returns-clause-kept
returns-clause-kept c = λ l n t i s m w u r. is_kept l n t i s m w u (channel_for n t r)

pub returns-clause-carried : goal.returns-clause-carried
returns-clause-carried c = λ l n t i s m w r. was_carried l n t i s m w (channel_for n t r)

pub returns-clause-reply : goal.returns-clause-reply
returns-clause-reply c = λ l n t i s m w r. is_last l n t i s m w (channel_for n t r)
