use Rattle.upload_spec.specs.Pieces.{without_makers}
use Rattle.upload_laws.proofs.Joins.{pieces_joined}
use Rattle.resync_laws.proofs.Pieces.{pieces_counted, piece_whole}
use Rattle.resync_laws.proofs.whole_databases_go_up.Goals as goal

pub returns-clause-counted : goal.returns-clause-counted
returns-clause-counted c database h = pieces_counted database h

pub returns-clause-long : goal.returns-clause-long
returns-clause-long c database number piece h e = piece_whole (without_makers database) number piece h.whole e

pub returns-clause-joined : goal.returns-clause-joined
returns-clause-joined c database h = pieces_joined (without_makers database) h.whole
