use Rattle.audit_laws.proofs.Worked.{traces}
use Rattle.audit_laws.proofs.worked_audits.Goals as goal

pub returns-clause-audited : goal.returns-clause-audited
returns-clause-audited c = traces.audited-is

pub returns-clause-noticed : goal.returns-clause-noticed
returns-clause-noticed c = traces.noticed-is

pub returns-clause-job_in_the_way : goal.returns-clause-job_in_the_way
returns-clause-job_in_the_way c = traces.job_in_the_way-is
