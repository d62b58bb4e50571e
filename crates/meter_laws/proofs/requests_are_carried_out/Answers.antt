use Rattle.std.specs.Prelude.{[]}
use Rattle.meter_laws.proofs.Fresh.{all_carried, first_fresh}
use Rattle.meter_laws.proofs.requests_are_carried_out.Goals as goal

pub returns : goal.returns
returns c = record { law = λ later. all_carried 1 later [] first_fresh }
