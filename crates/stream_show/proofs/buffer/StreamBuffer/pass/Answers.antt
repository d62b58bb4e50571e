use Rattle.std.proofs.Common.{rules, ◌≡◌, ℕ, ◌+◌, ◌-◌, ap, sym, ◌∙◌, List, take, drop, arith}
use Rattle.std.proofs.lemmas.List.{length-take}
use Rattle.stream_spec.specs.Streams.{Reader, place_after}
use Rattle.stream_show.proofs.Buffers.{passed_view}
use Rattle.stream_show.proofs.buffer.StreamBuffer.pass.Goals as goal

pub returns : goal.returns
returns c = record {
  after =
      let held : c.args.self.now.held ≡ take c.self.inside.len (drop c.self.inside.start c.self.inside.bytes.items) = search (rules, c.self.view_is) in
      let at : c.saturating_add-self-inside.result ≡ place_after c.args.self.now.at c.args.count = search (rules, arith, c.saturating_add-self-inside.ensures, c.self.view_is) in
      let rest = passed_view c.self.inside.start c.self.inside.len c.args.count c.self.inside.bytes.items (search (rules, arith, length-take)) in
      ap (λ (n : ℕ). record { at = n; held = take (c.self.inside.len - c.args.count) (drop (c.self.inside.start + c.args.count) c.self.inside.bytes.items) }) at
      ∙ ap (λ (z : List ℕ). record { at = place_after c.args.self.now.at c.args.count; held = z }) (rest ∙ ap (drop c.args.count) (sym held));
}
