use Rattle.std.proofs.Common.{◌∙◌, sym}
use Rattle.std.proofs.lemmas.Bool.{true≢false}
use Rattle.image_store.proofs.Carrying.{given_back}
use Rattle.image_store.proofs.load.begin_over.Goals as goal

pub returns-in-Whole-clause-carried : goal.returns-in-Whole-clause-carried
returns-in-Whole-clause-carried g c = λ room granted next held m s whole other some fits.
    let l = rw c.in-Whole.is at s in
    rw c.in-Whole.is (c.begin.ensures.carried room next m l.0 other some fits)

pub returns-in-Filling-clause-carried : goal.returns-in-Filling-clause-carried
returns-in-Filling-clause-carried g c = λ room granted next held m s whole other some fits.
    let l = rw c.in-Filling.is at s in
    let back = given_back g.D.Disk.seen g.D.Disk.may_leave room c.args.active granted held c.in-Filling.download c.abandon.result m l c.abandon.ensures.disk c.abandon.ensures.header in
    rw (c.in-Filling.is, ← c.abandon.ensures.disk) (c.begin-in-Filling.ensures.carried room next m back other some fits)

pub returns-in-Broken-clause-carried : goal.returns-in-Broken-clause-carried
returns-in-Broken-clause-carried g c = λ room granted next held m s whole other some fits.
    let b = rw c.in-Broken.is at s in
    absurd (true≢false (sym b.0.broken_is ∙ whole))
