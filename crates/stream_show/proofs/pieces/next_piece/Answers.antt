use Rattle.std.proofs.Common.{◌≡◌, rules, arith, ap, sym, subst, ◌∙◌}
use Rattle.stream_show.specs.Buffer.{Fills}
use Rattle.stream_spec.specs.Streams.{Reader}
use Rattle.extended_spec.specs.Streams.{any_front}
use Rattle.extended_laws.proofs.Stands.{open_few}
use Rattle.stream_show.proofs.Buffers.{empty_fill, next_of_end}
use Rattle.stream_show.proofs.pieces.next_piece.Goals as goal

pub fill-requires-clause-few : goal.fill-requires-clause-few
fill-requires-clause-few g c = omega (arith, open_few c.args.buffer.now.held c.requires.nothing)

pub end_of-requires : goal.end_of-requires
end_of-requires g c =
    let none : c.in-Ok-eq0.field-0 ≡ 0 = search (rules, arith, c.in-Ok-eq0.field-0-test, c.in-Ok-eq0.field-0-is) in
    record {
      nothing = ap (λ (x : Reader). any_front x.held) (empty_fill _ _ c.args.buffer.now c.fill.new.self _ (subst (λ n. Fills (g.S.Source.left c.args.source.now) (g.S.Source.left c.fill.new.source) c.args.buffer.now c.fill.new.self n c.max.result) none c.in-Ok-eq0.ensures.read)) ∙ c.requires.nothing;
    }

pub returns-in-Ok-eq0 : goal.returns-in-Ok-eq0
returns-in-Ok-eq0 g c =
    let none : c.in-Ok-eq0.field-0 ≡ 0 = search (rules, arith, c.in-Ok-eq0.field-0-test, c.in-Ok-eq0.field-0-is) in
    record {
      next = next_of_end c.end_of.result c.args.left _ c.args.buffer.now c.fill.new.self _ _ _ _ c.end_of.ensures.end (subst (λ n. Fills (g.S.Source.left c.args.source.now) (g.S.Source.left c.fill.new.source) c.args.buffer.now c.fill.new.self n c.max.result) none c.in-Ok-eq0.ensures.read) c.in-Ok-eq0.ensures.cause.kept;
    }
