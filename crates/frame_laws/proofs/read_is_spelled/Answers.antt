use Rattle.frame_laws.proofs.Reading.{spelled-from_decoded, spelled-from_packet_frame}
use Rattle.frame_laws.proofs.read_is_spelled.Goals as goal

pub returns-clause-front : goal.returns-clause-front
returns-clause-front c = spelled-from_decoded

pub returns-clause-packet : goal.returns-clause-packet
returns-clause-packet c = spelled-from_packet_frame
