use Rattle.std.proofs.Common.{◌≡◌, ◌+◌, ℕ, List, length, ap, ◌∙◌, sym}
use Rattle.extended_spec.specs.Layouts.{piece_bytes}
use Rattle.extended_laws.proofs.Contents.{length-piece_bytes}
use Rattle.extended_contents.proofs.Members.{no_room, less_room}
use Rattle.extended_contents.proofs.room.pieces_fit.Goals as goal

pub returns-then-size-room : goal.returns-then-size-room
returns-then-size-room c =
    let long : length (piece_bytes c.piece.result.now) ≡ 8 + length c.values.result.now =
    length-piece_bytes c.piece.result.now ∙ ap (λ (v : List ℕ). 8 + length v) (sym c.values.ensures.value) in
    record {
      value = (
        λ no. absurd cc,
        λ fits. absurd (no_room piece_bytes c.args.pieces.now c.loop-place.place c.piece.result.now (8 + length c.values.result.now) c.loop-place.room c.piece.ensures.value long c.if-size-room.true c.loop-place.invariant fits),
      );
    }

pub loop-place-preserved : goal.loop-place-preserved
loop-place-preserved c =
    let long : length (piece_bytes c.piece.result.now) ≡ 8 + length c.values.result.now =
    length-piece_bytes c.piece.result.now ∙ ap (λ (v : List ℕ). 8 + length v) (sym c.values.ensures.value) in
    less_room piece_bytes c.args.pieces.now c.loop-place.place c.piece.result.now (8 + length c.values.result.now) c.loop-place.room c.piece.ensures.value long c.if-size-room.false c.loop-place.invariant
