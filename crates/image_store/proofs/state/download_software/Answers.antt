use Rattle.std.proofs.Common.{◌∙◌}
use Rattle.image_store.proofs.state.download_software.Goals as goal

pub returns : goal.returns
returns g c = record {
  shows = λ s settled.
      let first = c.view.ensures.shows s settled in
      let second = c.view-2.ensures.shows s settled in
      let committed = c.committed.ensures.committed ∙ settled.shows.committed_is in
      λ i. record { first = first i; second = second i; committed = committed i; active = c.args.active };
}
