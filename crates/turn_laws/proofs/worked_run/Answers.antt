use Rattle.turn_laws.proofs.Worked.{worked}
use Rattle.turn_laws.proofs.worked_run.Goals as goal

pub returns-clause-probe_text : goal.returns-clause-probe_text
returns-clause-probe_text c = worked.probe_text-is

pub returns-clause-probe_sent : goal.returns-clause-probe_sent
returns-clause-probe_sent c = worked.probe_sent-is

pub returns-clause-probe_turns : goal.returns-clause-probe_turns
returns-clause-probe_turns c = worked.probe_turns-is

pub returns-clause-reboot_text : goal.returns-clause-reboot_text
returns-clause-reboot_text c = worked.reboot_text-is

pub returns-clause-reboot_sent : goal.returns-clause-reboot_sent
returns-clause-reboot_sent c = worked.reboot_sent-is
