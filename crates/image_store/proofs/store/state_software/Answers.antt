use Rattle.std.proofs.Common.{◌∙◌, sym, ap}
use Rattle.store_spec.specs.State.{software_in}
use Rattle.image_store.proofs.store.state_software.Goals as goal

pub returns-in-Whole : goal.returns-in-Whole
returns-in-Whole g c = record {
  shows = λ room granted window m s.
      let l = rw c.in-Whole.is at s in
      c.slots_software.ensures.shows m.slots l.0.settled ∙ ap (λ k. software_in k m.slots) (sym l.0.active_is);
}

pub returns-in-Filling : goal.returns-in-Filling
returns-in-Filling g c = record {
  shows = λ room granted window m s.
      let l = rw c.in-Filling.is at s in
      c.download_software.ensures.shows m.slots l.filling.settled ∙ ap (λ k. software_in k m.slots) (sym l.active_is);
}

pub returns-in-Broken : goal.returns-in-Broken
returns-in-Broken g c = record {
  shows = λ room granted window m s.
      let b = rw c.in-Broken.is at s in b.0.software_is;
}
