use Rattle.std.proofs.Common.{◌∙◌, sym, ap}
use Rattle.std.proofs.lemmas.Bool.{true≢false}
use Rattle.std.specs.Option.{is_some}
use Rattle.store_laws.proofs.Tests.{valid_is}
use Rattle.image_store.proofs.finish.has_image.Goals as goal

pub returns-in-Whole : goal.returns-in-Whole
returns-in-Whole g c = record {
  value = λ room active granted held m s whole.
      let l = rw c.in-Whole.is at s in
      c.is_some.ensures ∙ ap (λ o. is_some o) c.view.ensures.view ∙ sym (valid_is c.args.slot c.in-Whole.slots.header m.slots l.0.settled.bytes l.0.settled.shows);
}

pub returns-in-Filling : goal.returns-in-Filling
returns-in-Filling g c = record {
  value = λ room active granted held m s whole.
      let l = rw c.in-Filling.is at s in
      c.is_some-in-Filling.ensures ∙ ap (λ o. is_some o) c.view-in-Filling.ensures.view ∙ sym (valid_is c.args.slot c.in-Filling.download.header m.slots l.filling.settled.bytes l.filling.settled.shows);
}

pub returns-in-Broken : goal.returns-in-Broken
returns-in-Broken g c = record {
  value = λ room active granted held m s whole.
      let b = rw c.in-Broken.is at s in
      absurd (true≢false (sym b.0.broken_is ∙ whole));
}
