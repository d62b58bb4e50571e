use Rattle.frame_laws.proofs.Faults.{decoded-device, decoded-short, decoded-trailer, decoded-check}
use Rattle.frame_laws.proofs.faults_are_exact.Goals as goal

pub returns-clause-device : goal.returns-clause-device
returns-clause-device c = decoded-device

pub returns-clause-short : goal.returns-clause-short
returns-clause-short c = decoded-short

pub returns-clause-trailer : goal.returns-clause-trailer
returns-clause-trailer c = decoded-trailer

pub returns-clause-check : goal.returns-clause-check
returns-clause-check c = decoded-check
