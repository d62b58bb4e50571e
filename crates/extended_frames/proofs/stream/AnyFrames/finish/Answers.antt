use Rattle.std.proofs.Common.{rules}
use Rattle.extended_frames.proofs.Streams.{fault_of_some}
use Rattle.extended_frames.proofs.stream.AnyFrames.finish.Goals as goal

pub returns-in-Faulty-clause-ok : goal.returns-in-Faulty-clause-ok
returns-in-Faulty-clause-ok c = (
  λ e. cc,
  λ empty. absurd (fault_of_some c.args.self.now c.front_shown.result c.in-Faulty.fault (search (rules, c.front_shown.ensures.value)) c.in-Faulty.is empty),
)
