use Rattle.std.proofs.Common.{◌∙◌}
use Rattle.mib_upload.proofs.Carried.{piece_found, no_pieces}
use Rattle.mib_upload.proofs.taken.piece_among.Goals as goal

pub returns-in-Some : goal.returns-in-Some
returns-in-Some c = c.piece_in.ensures ∙ piece_found c.args.entries.now c.args.number c.in-Some.at c.requires c.in-Some.ensures

pub returns-in-None : goal.returns-in-None
returns-in-None c = no_pieces c.args.entries.now c.args.number c.in-None.ensures
