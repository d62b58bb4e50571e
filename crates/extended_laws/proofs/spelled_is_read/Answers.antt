use Rattle.extended_laws.proofs.Sets.{decoded-read, decoded-spelled}
use Rattle.extended_laws.proofs.spelled_is_read.Goals as goal

pub returns-clause-read : goal.returns-clause-read
returns-clause-read c = decoded-read

pub returns-clause-spelled : goal.returns-clause-spelled
returns-clause-spelled c = decoded-spelled
