use Rattle.extended_laws.proofs.Stands.{open_few}
use Rattle.extended_laws.proofs.open_fronts_are_short.Goals as goal

pub returns : goal.returns
returns c = record { law = open_few }
