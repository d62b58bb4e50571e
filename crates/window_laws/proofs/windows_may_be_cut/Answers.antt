use Rattle.window_laws.proofs.Gathering.{cut_after, cut_answer}
use Rattle.window_laws.proofs.windows_may_be_cut.Goals as goal

pub returns-clause-window : goal.returns-clause-window
returns-clause-window c room s w = cut_after room s w

pub returns-clause-answer : goal.returns-clause-answer
returns-clause-answer c room s last w = cut_answer room s last w
