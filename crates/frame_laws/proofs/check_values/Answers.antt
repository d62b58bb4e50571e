use Rattle.frame_laws.proofs.Lengths.{crc-lt}
use Rattle.frame_laws.proofs.Worked.{crc-digits, crc-ff, crc-ffffffff, crc-63-bytes}
use Rattle.frame_laws.proofs.check_values.Goals as goal

pub returns-clause-fits : goal.returns-clause-fits
returns-clause-fits c = crc-lt

pub returns-clause-digits : goal.returns-clause-digits
returns-clause-digits c = crc-digits

pub returns-clause-one_byte : goal.returns-clause-one_byte
returns-clause-one_byte c = crc-ff

pub returns-clause-four_bytes : goal.returns-clause-four_bytes
returns-clause-four_bytes c = crc-ffffffff

pub returns-clause-many_bytes : goal.returns-clause-many_bytes
returns-clause-many_bytes c = crc-63-bytes
