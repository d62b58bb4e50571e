use Rattle.std.proofs.Common.{◌++◌, List, ℕ, ap, ◌∙◌, arith}
use Rattle.extended_frames.proofs.Streams.{added}
use Rattle.extended_frames.proofs.stream.add_bytes.Goals as goal

pub returns-clause-held : goal.returns-clause-held
returns-clause-held c =
    added c.make_room-start.result c.args.len c.make_room-start.new.bytes c.put_at.new.into c.args.more.now (omega (arith, c.make_room-start.ensures.room)) c.put_at.ensures.front
    ∙ ap (λ (z : List ℕ). z ++ c.args.more.now) c.make_room-start.ensures.held
