use Rattle.slot_laws.proofs.Once.{one_room, one_pair}
use Rattle.slot_laws.proofs.bytes_stand_once.Goals as goal

pub returns-clause-room : goal.returns-clause-room
returns-clause-room c = one_room

pub returns-clause-slots : goal.returns-clause-slots
returns-clause-slots c = one_pair
