use Rattle.std.proofs.Common.{true, false}
use Rattle.window_laws.proofs.Gathering.{arrives, next_answer}
use Rattle.window_laws.proofs.windows_arrive_whole.Goals as goal

pub returns-clause-held : goal.returns-clause-held
returns-clause-held c tci sections w some = arrives tci sections w some

pub returns-clause-whole : goal.returns-clause-whole
returns-clause-whole c tci before bytes w = next_answer tci before bytes true w

pub returns-clause-on_the_way : goal.returns-clause-on_the_way
returns-clause-on_the_way c tci before bytes w = next_answer tci before bytes false w
