use Rattle.std.proofs.Common.{subst}
use Rattle.omci_top.specs.Flashes.{FlashesImage}
use Rattle.omci_top.proofs.FlashLemmas.{AnswersFlash-image}
use Rattle.omci_top.proofs.flash.flash.Goals as goal

pub returns-in-Ok-clause-answers : goal.returns-in-Ok-clause-answers
returns-in-Ok-clause-answers g c =
    let flashed = subst (λ bytes. FlashesImage g.D.Disk.seen g.D.Disk.may_leave g.D.Disk.rig g.D.Disk.faults c.flash_image.result.status bytes c.args.disk c.flash_image.result.disk) c.deref.ensures.value c.flash_image.ensures.flashed in
    AnswersFlash-image g.D.Disk.seen g.D.Disk.may_leave g.D.Disk.rig g.D.Disk.faults c.args.disk c.flash_image.result.disk _ _ _ _ c.flash_image.result.status c.in-Ok.image.items c.in-Ok.ensures.whole c.in-Ok.ensures.kept flashed
