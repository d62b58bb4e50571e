use Rattle.std.proofs.Common.{sym}
use Rattle.frame_laws.proofs.Sound.{IsSound-from_none}
use Rattle.omci_frames.proofs.stream.answer.Goals as goal

pub frame_at-requires : goal.frame_at-requires
frame_at-requires c = (IsSound-from_none c.args.held.now (sym c.in-None.ensures.value)).whole
