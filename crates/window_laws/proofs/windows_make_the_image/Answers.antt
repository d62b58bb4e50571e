use Rattle.window_laws.proofs.Windows.{window_joined, window_ends}
use Rattle.window_laws.proofs.windows_make_the_image.Goals as goal

pub returns-clause-joined : goal.returns-clause-joined
returns-clause-joined c o = window_joined o

pub returns-clause-last : goal.returns-clause-last
returns-clause-last c o last within = window_ends o last within
