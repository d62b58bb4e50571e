use Rattle.aal5_crc.proofs.Entries.{after_byte-bits}
use Rattle.aal5_crc.proofs.after_byte.Goals as goal

pub returns : goal.returns
returns c = record { bits = after_byte-bits c.args.register c.args.byte c.entry.result c.entry.ensures.bits }
