use Rattle.std.proofs.Common.{rules, arith}
use Rattle.stream_show.proofs.Buffers.{ends_short}
use Rattle.stream_show.proofs.pieces.end_of.Goals as goal

pub returns : goal.returns
returns c = record { end = ends_short c.args.buffer.now c.refused_at.result c.refused_at.ensures.value c.requires.nothing (search (rules, arith)) }
