use Rattle.std.proofs.Common.{◌∙◌, sym, arith}
use Rattle.image_store.proofs.Running.{runs_activated, runs_committed, runs_other}
use Rattle.image_store.proofs.store.slot_to_run.Goals as goal
use Rattle.image_store.proofs.store.slot_to_run.Goals.{else-from-lt-IMAGES-via-then-from-lt-IMAGES+else-is_some, else-from-lt-IMAGES-via-else-from-lt-IMAGES}

pub returns-in-PowerUp-clause-slot : goal.returns-in-PowerUp-clause-slot
returns-in-PowerUp-clause-slot g c = λ s settled. rw c.in-PowerUp.is (c.committed.ensures.committed ∙ settled.shows.committed_is)

pub returns-then-is_some-clause-slot : goal.returns-then-is_some-clause-slot
returns-then-is_some-clause-slot g c = λ s settled.
    runs_activated c.in-Activated.slot c.args.boot s c.view.result c.in-Activated.is (omega (arith, c.if-from-lt-IMAGES.true, c.from.ensures)) (c.view.ensures.shows s settled) (sym c.is_some.ensures ∙ c.if-is_some.true)

pub returns-else-from-lt-IMAGES-clause-slot : goal.returns-else-from-lt-IMAGES-clause-slot
returns-else-from-lt-IMAGES-clause-slot g c = λ s settled.
    c.committed-else-from-lt-IMAGES.ensures.committed ∙ settled.shows.committed_is ∙ elim c.else-from-lt-IMAGES.branch [
      | else-from-lt-IMAGES-via-then-from-lt-IMAGES+else-is_some w ↦ runs_committed c.in-Activated.slot c.args.boot s w.view.result c.in-Activated.is (w.view.ensures.shows s settled) (sym w.is_some.ensures ∙ w.if-is_some.false)
      | else-from-lt-IMAGES-via-else-from-lt-IMAGES w ↦ runs_other c.in-Activated.slot c.args.boot s c.in-Activated.is (omega (arith, w.if-from-lt-IMAGES.false, c.from.ensures))
    ]
