use Rattle.std.proofs.Common.{sym, ◌∙◌}
use Rattle.extended_laws.proofs.Sound.{extended_sound, baseline_sound}
use Rattle.extended_frames.proofs.front.push_front_text.Goals as goal

pub push_long_front-requires-clause-whole : goal.push_long_front-requires-clause-whole
push_long_front-requires-clause-whole c = (extended_sound c.args.bytes.now c.requires.sound (sym c.is_extended.ensures.value ∙ c.if-is_extended.true)).whole

pub push_long_front-requires-clause-few : goal.push_long_front-requires-clause-few
push_long_front-requires-clause-few c = (extended_sound c.args.bytes.now c.requires.sound (sym c.is_extended.ensures.value ∙ c.if-is_extended.true)).few

pub frame_at-requires : goal.frame_at-requires
frame_at-requires c = (baseline_sound c.args.bytes.now c.requires.sound (sym c.is_extended.ensures.value ∙ c.if-is_extended.false)).whole
