use Rattle.alarm_laws.proofs.Steps.{audit_begins, audit_reads, audit_notices, audit_ends}
use Rattle.alarm_laws.proofs.audits_come_out_right.Goals as goal

pub returns-clause-begins : goal.returns-clause-begins
returns-clause-begins c log t = audit_begins log t

pub returns-clause-row : goal.returns-clause-row
returns-clause-row c snapshot read log t whole h = audit_reads snapshot read log t whole h

pub returns-clause-notice : goal.returns-clause-notice
returns-clause-notice c snapshot read one bitmap log t h lt = audit_notices snapshot read one bitmap log t h lt

pub returns-clause-ends : goal.returns-clause-ends
returns-clause-ends c snapshot log t h = audit_ends snapshot log t h
