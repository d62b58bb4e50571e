use Rattle.std.proofs.Common.{◌∙◌, arith, drop}
use Rattle.std.proofs.lemmas.List.{take_all, length-drop}
use Rattle.mib_upload.proofs.pieces.bytes_in.Goals as goal

pub returns : goal.returns
returns c = c.copy_from_slice.ensures.after ∙ take_all 26 (drop 6 c.args.piece.now) (omega (arith, length-drop 6 c.args.piece.now, c.told-piece))
