use Rattle.download_laws.proofs.Sending.{window_sent}
use Rattle.download_laws.proofs.windows_are_sent_by_sections.Goals as goal

pub returns : goal.returns
returns c = window_sent
