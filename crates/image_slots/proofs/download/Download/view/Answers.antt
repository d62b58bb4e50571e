use Rattle.std.proofs.Common.{ap, ◌∙◌}
use Rattle.slot_spec.specs.declared.SlotHeader.{SlotHeader}
use Rattle.slot_laws.proofs.Gate.{shows_slot_at}
use Rattle.image_slots.proofs.download.Download.view.Goals as goal

pub returns-clause-shows : goal.returns-clause-shows
returns-clause-shows g c = rw (← c.self.view_is) (λ s settled.
    ap (λ (k : SlotHeader). k.view) c.slot_header.ensures.header ∙ (shows_slot_at c.args.slot c.self.inside.header s settled.bytes c.requires.slot settled.shows).view_is)
