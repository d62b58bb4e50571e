use Rattle.std.proofs.Common.{arith}
use Rattle.aal5_crc.proofs.Entries.{entry_at}
use Rattle.aal5_crc.proofs.entry.Goals as goal

pub returns : goal.returns
returns c = record { bits = entry_at c.args.zeros c.args.byte c.args.table.now c.requires.right (omega arith) (omega arith) }
