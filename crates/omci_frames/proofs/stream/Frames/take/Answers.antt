use Rattle.std.proofs.Common.{rules, arith}
use Rattle.omci_frames.proofs.Streams.{frame_leaves, others_leave}
use Rattle.omci_frames.proofs.stream.Frames.take.Goals as goal

pub returns-in-Frame-clause-after : goal.returns-in-Frame-clause-after
returns-in-Frame-clause-after c =
    frame_leaves c.args.self.now c.answer-taken.result c.in-Frame.field-0 c.saturating_add-self-inside.result (search (rules, c.held.ensures.bound)) (search (rules, c.answer-taken.ensures.value)) c.in-Frame.is (search (rules, arith, c.saturating_add-self-inside.ensures))

pub returns-in_default : goal.returns-in_default
returns-in_default c = record {
  value = search (rules, c.answer-taken.ensures.value);
  after = others_leave c.args.self.now c.answer-taken.result (search (rules, c.answer-taken.ensures.value)) (λ frame is. c.in_default.not-Frame frame is);
}
