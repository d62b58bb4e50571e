use Rattle.ending_laws.proofs.Jobs.{all_jobs_end}
use Rattle.ending_laws.proofs.jobs_end.Goals as goal

pub returns : goal.returns
returns c = all_jobs_end
