use Rattle.std.proofs.Common.{◌≡◌, ◌+◌, ◌<◌, ◌≤◌, ℕ, List, [], ◌∷◌, ◌++◌, length, drop, ap, ◌∙◌, arith, rules}
use Rattle.extended_spec.specs.Layouts.{piece_size, piece_of, pieces_in}
use Rattle.extended_contents.proofs.Members.{piece_at, next_need, next_member, no_member}
use Rattle.extended_contents.proofs.reading.read_pieces.Goals as goal

pub read_piece-requires-clause-header : goal.read_piece-requires-clause-header
read_piece-requires-clause-header c =
    (piece_at c.args.contents.now c.loop-place.place c.bytes_from.result.now c.bytes_from.ensures.value c.loop-place-test.true c.loop-place.invariant.1).header

pub read_piece-requires-clause-whole : goal.read_piece-requires-clause-whole
read_piece-requires-clause-whole c =
    (piece_at c.args.contents.now c.loop-place.place c.bytes_from.result.now c.bytes_from.ensures.value c.loop-place-test.true c.loop-place.invariant.1).whole

pub overflow_add-place : goal.overflow_add-place
overflow_add-place c =
    let piece = piece_at c.args.contents.now c.loop-place.place c.bytes_from.result.now c.bytes_from.ensures.value c.loop-place-test.true c.loop-place.invariant.1 in
    let fits : c.loop-place.place + c.in_ok-place.field-0 ≤ length c.args.contents.now = omega (arith, piece.fits, c.in_ok-place.ensures.size) in
    search (rules, arith, fits)

pub loop-place-preserved : goal.loop-place-preserved
loop-place-preserved c =
    let piece = piece_at c.args.contents.now c.loop-place.place c.bytes_from.result.now c.bytes_from.ensures.value c.loop-place-test.true c.loop-place.invariant.1 in
    let fits : c.loop-place.place + c.in_ok-place.field-0 ≤ length c.args.contents.now = omega (arith, piece.fits, c.in_ok-place.ensures.size) in
    let some : 0 < c.in_ok-place.field-0 = omega (arith, c.in_ok-place.ensures.size) in
    let size : c.in_ok-place.field-0 ≡ piece_size (drop c.loop-place.place c.args.contents.now) = c.in_ok-place.ensures.size ∙ piece.size in
    let added : c.read_piece.new.pieces ≡ c.loop-place.pieces ++ piece_of (drop c.loop-place.place c.args.contents.now) ∷ [] =
    c.in_ok-place.ensures.read ∙ ap (λ (b : List ℕ). c.loop-place.pieces ++ piece_of b ∷ []) c.bytes_from.ensures.value in (
      fits,
      next_need piece_size c.args.contents.now c.loop-place.place c.in_ok-place.field-0 size some fits ∙ c.loop-place.invariant.1,
      next_member piece_size piece_of c.args.contents.now c.loop-place.place c.in_ok-place.field-0 c.loop-place.pieces c.read_piece.new.pieces size some fits added ∙ c.loop-place.invariant.2,
    )

pub returns : goal.returns
returns c = record {
  value = no_member piece_size piece_of c.args.contents.now c.loop-place.place c.loop-place.pieces (pieces_in c.args.contents.now) c.loop-place-test.false c.loop-place.invariant.2;
}
