use Rattle.image_laws.proofs.Worked.{downloads}
use Rattle.image_laws.proofs.worked_downloads.Goals as goal

pub returns-clause-windows_sent : goal.returns-clause-windows_sent
returns-clause-windows_sent c = downloads.windows_sent-is

pub returns-clause-wrong_check : goal.returns-clause-wrong_check
returns-clause-wrong_check c = downloads.wrong_check-is
