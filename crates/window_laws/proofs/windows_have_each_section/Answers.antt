use Rattle.window_spec.specs.Outgoing.{window_count}
use Rattle.window_laws.proofs.Sections.{count_length, section_got}
use Rattle.window_laws.proofs.Windows.{next_window, last_window, window_within}
use Rattle.window_laws.proofs.windows_have_each_section.Goals as goal

pub returns-clause-next : goal.returns-clause-next
returns-clause-next c o more = next_window o more

pub returns-clause-last : goal.returns-clause-last
returns-clause-last c o last within = last_window o last within

pub returns-clause-within : goal.returns-clause-within
returns-clause-within c o within = window_within o within

pub returns-clause-numbered : goal.returns-clause-numbered
returns-clause-numbered c o number lt = section_got (window_count o) o.first number o.image lt

pub returns-clause-count : goal.returns-clause-count
returns-clause-count c o = count_length (window_count o) o.first o.image
