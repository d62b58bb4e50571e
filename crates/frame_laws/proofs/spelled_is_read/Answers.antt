use Rattle.frame_laws.proofs.Reading.{frame_of-spelling, decoded-spelling, decoded-spelled, packet_frame-spelling}
use Rattle.frame_laws.proofs.spelled_is_read.Goals as goal

pub returns-clause-fields : goal.returns-clause-fields
returns-clause-fields c = frame_of-spelling

pub returns-clause-decoding : goal.returns-clause-decoding
returns-clause-decoding c = decoded-spelling

pub returns-clause-front : goal.returns-clause-front
returns-clause-front c = decoded-spelled

pub returns-clause-packet : goal.returns-clause-packet
returns-clause-packet c = packet_frame-spelling
