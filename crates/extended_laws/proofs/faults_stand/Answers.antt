use Rattle.extended_laws.proofs.Stands.{any_fault_stands}
use Rattle.extended_laws.proofs.faults_stand.Goals as goal

pub returns : goal.returns
returns c = record { law = any_fault_stands }
