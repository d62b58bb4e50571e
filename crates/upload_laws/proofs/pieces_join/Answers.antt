use Rattle.upload_laws.proofs.Joins.{pieces_joined}
use Rattle.upload_laws.proofs.pieces_join.Goals as goal

pub returns : goal.returns
returns c copy whole = pieces_joined copy whole
