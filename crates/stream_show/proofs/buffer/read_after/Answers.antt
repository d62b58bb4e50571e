use Rattle.std.proofs.Common.{rules, ◌∙◌}
use Rattle.stream_show.proofs.Buffers.{held_same_after}
use Rattle.stream_show.proofs.buffer.read_after.Goals as goal

pub returns-clause-held : goal.returns-clause-held
returns-clause-held g c = held_same_after c.make_room-start.result c.args.len c.make_room-start.new.bytes c.read_at-read.new.bytes c.read_at-read.ensures.front ∙ c.make_room-start.ensures.held
