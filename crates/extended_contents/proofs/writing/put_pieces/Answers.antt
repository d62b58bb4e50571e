use Rattle.extended_spec.specs.Layouts.{piece_bytes}
use Rattle.extended_contents.proofs.Members.{next_put}
use Rattle.extended_contents.proofs.writing.put_pieces.Goals as goal

pub loop-place-preserved : goal.loop-place-preserved
loop-place-preserved c =
    next_put piece_bytes c.args.pieces.now c.loop-place.place c.piece.result.now c.args.out.now.items c.loop-place.out.items c.put_piece.new.out.items c.piece.ensures.value c.loop-place.invariant c.in_ok-put_piece.ensures.put
