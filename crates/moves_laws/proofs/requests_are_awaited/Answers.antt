use Rattle.moves_laws.proofs.Reached.{channel_of, carried_fresh, carried_awaited}
use Rattle.moves_laws.proofs.requests_are_awaited.Goals as goal

pub returns-clause-fresh : goal.returns-clause-fresh
returns-clause-fresh c = λ l w at d r. carried_fresh l w at d (channel_of w r)

pub returns-clause-awaited : goal.returns-clause-awaited
returns-clause-awaited c = λ l w at d r. carried_awaited l w at d (channel_of w r)
