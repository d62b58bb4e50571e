use Rattle.std.proofs.Common.{subst, sym}
use Rattle.onu_agent.specs.State.{AreFrames}
use Rattle.onu_agent.proofs.Replies.{kept_whole}
use Rattle.onu_agent.proofs.desk.Desk.give.Goals as goal

pub invariant_of-self : goal.invariant_of-self
invariant_of-self c =
    subst AreFrames (sym c.keep.ensures.kept) (kept_whole c.args.tci _ _ c.self.invariant c.encode.array_long)
