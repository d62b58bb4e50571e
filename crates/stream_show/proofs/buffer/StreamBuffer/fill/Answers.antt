use Rattle.std.proofs.Common.{rules, ◌∙◌, sym, arith}
use Rattle.std.proofs.lemmas.List.{with_items_is, places}
use Rattle.stream_show.proofs.Buffers.{fills_of}
use Rattle.stream_show.proofs.buffer.StreamBuffer.fill.Goals as goal

pub returns-clause-read : goal.returns-clause-read
returns-clause-read g c =
    fills_of _ _ c.args.self.now c.self.inside.at c.self.inside.start c.read_after-start.result.0 c.self.inside.len c.in_ok-count.count c.min-most.result c.args.most c.self.inside.bytes.items c.read_after-start.new.bytes _
    (search (rules, c.self.view_is))
    (search (rules, c.read_after-start.ensures.held))
    (with_items_is c.self.inside.bytes c.read_after-start.new.bytes (search (rules, places)))
    (rw c.in_ok-count.was at c.read_after-start.ensures.read)
    (search (rules, arith, c.min-most.ensures))
