use Rattle.std.proofs.Common.{rules, arith}
use Rattle.std.proofs.lemmas.List.{length-take, length-drop}
use Rattle.extended_frames.specs.Views.{any_in}
use Rattle.extended_frames.proofs.Streams.{frame_given, frame_leaves}
use Rattle.extended_frames.proofs.stream.AnyFrames.take_whole.Goals as goal

pub returns-clause-value : goal.returns-clause-value
returns-clause-value c = frame_given c.args.self.now.held c.args.self.now.at (any_in c.in_ok-frame.frame) c.requires.sound (search (rules, c.in_ok-frame.ensures.value))

pub returns-clause-after : goal.returns-clause-after
returns-clause-after c =
    frame_leaves c.args.self.now c.self.inside.start c.self.inside.len c.any_bytes-count.result c.saturating_add-self-inside.result c.self.inside.bytes.items c.requires.sound
    (search (rules, c.self.view_is)) (search (rules, c.any_bytes-count.ensures.value)) (search (rules, arith, length-take, length-drop, c.any_bytes-count.ensures.within)) (search (rules, arith, c.saturating_add-self-inside.ensures))
