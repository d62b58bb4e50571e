use Rattle.image_laws.proofs.Worked.{cuts}
use Rattle.image_laws.proofs.worked_cuts.Goals as goal

pub returns-clause-cut_before : goal.returns-clause-cut_before
returns-clause-cut_before c = cuts.cut_before-is

pub returns-clause-cut_behind : goal.returns-clause-cut_behind
returns-clause-cut_behind c = cuts.cut_behind-is

pub returns-clause-cut_after : goal.returns-clause-cut_after
returns-clause-cut_after c = cuts.cut_after-is

pub returns-clause-cut_to_byte : goal.returns-clause-cut_to_byte
returns-clause-cut_to_byte c = cuts.cut_to_byte-is

pub returns-clause-committed_and_cut : goal.returns-clause-committed_and_cut
returns-clause-committed_and_cut c = cuts.committed_and_cut-is

pub returns-clause-activated : goal.returns-clause-activated
returns-clause-activated c = cuts.activated-is
