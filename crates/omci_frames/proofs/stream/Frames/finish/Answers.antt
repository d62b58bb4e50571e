use Rattle.std.proofs.Common.{rules}
use Rattle.omci_frames.proofs.Streams.{fault_of_some}
use Rattle.omci_frames.proofs.stream.Frames.finish.Goals as goal

pub returns-in-Fault-clause-ok : goal.returns-in-Fault-clause-ok
returns-in-Fault-clause-ok c = (
  λ e. cc,
  λ empty. absurd (fault_of_some c.args.self.now c.answer.result c.in-Fault.at c.in-Fault.fault (search (rules, c.answer.ensures.value)) c.in-Fault.is empty),
)
