use Rattle.std.proofs.Common.{◌∙◌, ap}
use Rattle.omci_types.specs.declared.Software.{Software}
use Rattle.image_store.proofs.load.committed.Goals as goal

pub returns-in-Whole : goal.returns-in-Whole
returns-in-Whole g c = record {
  committed = λ room active granted window m s.
      let l = rw c.in-Whole.is at s in
      c.committed.ensures.committed ∙ l.0.settled.shows.committed_is;
}

pub returns-in-Filling : goal.returns-in-Filling
returns-in-Filling g c = record {
  committed = λ room active granted window m s.
      let l = rw c.in-Filling.is at s in
      c.committed-in-Filling.ensures.committed ∙ l.filling.settled.shows.committed_is;
}

pub returns-in-Broken : goal.returns-in-Broken
returns-in-Broken g c = record {
  committed = λ room active granted window m s.
      let l = rw c.in-Broken.is at s in
      ap (λ (x : Software). x.committed) l.0.software_is;
}
