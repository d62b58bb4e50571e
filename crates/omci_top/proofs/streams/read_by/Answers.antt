use Rattle.std.proofs.Common.{◌++◌, take, arith, ◌∙◌, length-append}
use Rattle.std.proofs.lemmas.List.{length-take}
use Rattle.omci_core.proofs.Streams.{Consumes-then}
use Rattle.omci_top.proofs.streams.read_by.Goals as goal

pub returns-then-count-len-clause-end : goal.returns-then-count-len-clause-end
returns-then-count-len-clause-end g c = (
  record {
    bytes = c.loop-bytes.bytes.items ++ take c.in-Ok.count c.read.new.into;
    taken = Consumes-then (g.S.Source.left c.args.source.now) (g.S.Source.left c.loop-bytes.source) (g.S.Source.left c.read.new.self) _ _ c.loop-bytes.invariant.0 c.in-Ok.ensures.bytes.0;
    bound = simp (length-append, length-take) (omega (arith, c.in-Ok.ensures.bound, c.len.ensures));
  },
  c.in-Ok.ensures.cause.kept ∙ c.loop-bytes.invariant.2,
)
