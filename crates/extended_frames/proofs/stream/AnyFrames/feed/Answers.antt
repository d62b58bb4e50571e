use Rattle.std.proofs.Common.{rules, arith}
use Rattle.std.proofs.lemmas.List.{length-take, length-drop}
use Rattle.extended_frames.proofs.Streams.{none_if_faulty, as_many_as_fit}
use Rattle.extended_frames.proofs.stream.AnyFrames.feed.Goals as goal

pub returns-then-is_faulty-clause-count : goal.returns-then-is_faulty-clause-count
returns-then-is_faulty-clause-count c =
    none_if_faulty c.args.self.now c.args.piece.now c.front_shown.result c.is_faulty.result (search (rules, c.front_shown.ensures.value)) (search (rules, c.is_faulty.ensures.value)) c.if-is_faulty.true

pub returns-clause-count : goal.returns-clause-count
returns-clause-count c =
    as_many_as_fit c.args.self.now c.args.piece.now c.front_shown.result c.is_faulty.result c.self.inside.len c.min-count.result (search (rules, c.front_shown.ensures.value)) (search (rules, c.is_faulty.ensures.value)) c.if-is_faulty.false
    (search (rules, arith, length-take, length-drop)) (search (rules, c.min-count.ensures))
