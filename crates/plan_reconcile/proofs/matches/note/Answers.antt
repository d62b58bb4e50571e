use Rattle.std.proofs.Common.{◌∙◌, ap, ℕ, List, Option, Some, set}
use Rattle.plan_reconcile.proofs.Matching.{missed, hit, in_gap}
use Rattle.plan_reconcile.proofs.matches.note.Goals as goal

pub returns-in-Ok-clause-noted : goal.returns-in-Ok-clause-noted
returns-in-Ok-clause-noted c have values is =
    let at = c.in-Ok.ensures.found in
    ap (λ (l : List (Option ℕ)). set l c.in-Ok.at (Some c.args.place)) is ∙ hit c.args.entity values c.args.place have c.args.want.now c.in-Ok.at c.requires.ascending at.in_range at.here at.before

pub returns-in-Err-clause-noted : goal.returns-in-Err-clause-noted
returns-in-Err-clause-noted c have values is =
    is ∙ missed c.args.entity values c.args.place have c.args.want.now (in_gap c.args.want.now c.args.entity _ c.in-Err.ensures.absent)
