use Rattle.step_laws.proofs.Worked.{ends}
use Rattle.step_laws.proofs.worked_steps.Goals as goal

pub returns-clause-synced : goal.returns-clause-synced
returns-clause-synced c = ends.synced

pub returns-clause-synced_unit : goal.returns-clause-synced_unit
returns-clause-synced_unit c = ends.synced_unit

pub returns-clause-synced_copy : goal.returns-clause-synced_copy
returns-clause-synced_copy c = ends.synced_copy

pub returns-clause-alone : goal.returns-clause-alone
returns-clause-alone c = ends.alone

pub returns-clause-alone_unit : goal.returns-clause-alone_unit
returns-clause-alone_unit c = ends.alone_unit

pub returns-clause-alone_copy : goal.returns-clause-alone_copy
returns-clause-alone_copy c = ends.alone_copy

pub returns-clause-again_phase : goal.returns-clause-again_phase
returns-clause-again_phase c = ends.again_phase

pub returns-clause-again_apart : goal.returns-clause-again_apart
returns-clause-again_apart c = ends.again_apart
