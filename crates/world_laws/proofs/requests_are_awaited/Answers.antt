use Rattle.world_laws.proofs.Reached.{channel_for, is_fresh, is_awaited}
use Rattle.world_laws.proofs.requests_are_awaited.Goals as goal

pub returns-clause-fresh : goal.returns-clause-fresh
returns-clause-fresh c = λ l n t i s u r. is_fresh l n t i s u (channel_for n t r)

pub returns-clause-awaited : goal.returns-clause-awaited
returns-clause-awaited c = λ l n t i s u m r. is_awaited l n t i s u m (channel_for n t r)
