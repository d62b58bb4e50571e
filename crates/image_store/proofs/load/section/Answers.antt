use Rattle.std.proofs.Common.{◌∙◌, ap}
use Rattle.window_spec.specs.Incoming.{section}
use Rattle.image_store.proofs.load.section.Goals as goal

pub returns-clause-carried : goal.returns-clause-carried
returns-clause-carried g c = λ room m s whole.
    rw c.clear.ensures.empty (c.window-done.ensures.carried room c.args.coming.now.inbox (section c.args.tci c.args.number c.args.bytes.now) m s whole c.section-arrived.ensures.answer (c.window.ensures.value ∙ ap (λ w. w.bytes) c.section-arrived.ensures.window))
