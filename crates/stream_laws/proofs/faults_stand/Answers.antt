use Rattle.stream_laws.proofs.Baseline.{fault_stands}
use Rattle.stream_laws.proofs.faults_stand.Goals as goal

pub returns : goal.returns
returns c = record { law = fault_stands }
