use Rattle.slot_laws.proofs.Rows.{one_byte_entry-is}
use Rattle.slot_laws.proofs.worked_cuts.Goals as goal

pub returns-clause-entry : goal.returns-clause-entry
returns-clause-entry c = one_byte_entry-is
