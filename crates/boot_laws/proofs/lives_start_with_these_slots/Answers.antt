use Rattle.boot_laws.proofs.Starts.{first_starts, line_starts}
use Rattle.boot_laws.proofs.lives_start_with_these_slots.Goals as goal

pub returns-clause-first : goal.returns-clause-first
returns-clause-first c = first_starts

pub returns-clause-next : goal.returns-clause-next
returns-clause-next c = line_starts
