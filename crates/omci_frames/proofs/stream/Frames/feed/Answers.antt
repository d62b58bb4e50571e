use Rattle.std.proofs.Common.{rules}
use Rattle.std.proofs.lemmas.List.{length-take}
use Rattle.omci_frames.proofs.Streams.{none_if_full, none_if_faulty, as_many_as_fit}
use Rattle.omci_frames.proofs.stream.Frames.feed.Goals as goal
use Rattle.omci_frames.proofs.stream.Frames.feed.Goals.{then-room-eq0-via-then-room-eq0, then-room-eq0-via-else-room-eq0+then-is_fault}

pub returns-then-room-eq0-clause-count : goal.returns-then-room-eq0-clause-count
returns-then-room-eq0-clause-count c =
    elim c.then-room-eq0.branch [
      | then-room-eq0-via-then-room-eq0 w ↦ none_if_full c.args.self.now c.args.piece.now c.self.inside.len (search (rules, length-take)) w.if-room-eq0.true
      | then-room-eq0-via-else-room-eq0+then-is_fault w ↦
          none_if_faulty c.args.self.now c.args.piece.now w.answer.result w.is_fault.result (search (rules, w.answer.ensures.value)) (search (rules, w.is_fault.ensures.value)) w.if-is_fault.true
    ]

pub returns-clause-count : goal.returns-clause-count
returns-clause-count c =
    as_many_as_fit c.args.self.now c.args.piece.now c.answer.result c.is_fault.result c.self.inside.len c.min-count.result (search (rules, c.answer.ensures.value)) (search (rules, c.is_fault.ensures.value)) c.if-is_fault.false (search (rules, length-take)) (search (rules, c.min-count.ensures))
