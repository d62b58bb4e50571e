use Rattle.std.proofs.Common.{rules}
use Rattle.extended_frames.proofs.Streams.{whole_is_sound, open_leaves, faulty_leaves}
use Rattle.extended_frames.proofs.stream.AnyFrames.take.Goals as goal

pub take_whole-requires : goal.take_whole-requires
take_whole-requires c = record { sound = whole_is_sound c.args.self.now.held c.front_shown.result _ (search (rules, c.front_shown.ensures.value)) c.in-Whole.is }

pub returns-in-Open-clause-after : goal.returns-in-Open-clause-after
returns-in-Open-clause-after c = open_leaves c.args.self.now c.front_shown.result (search (rules, c.front_shown.ensures.value)) c.in-Open.is

pub returns-in-Faulty-clause-after : goal.returns-in-Faulty-clause-after
returns-in-Faulty-clause-after c = faulty_leaves c.args.self.now c.front_shown.result c.in-Faulty.fault (search (rules, c.front_shown.ensures.value)) c.in-Faulty.is
