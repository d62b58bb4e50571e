use Rattle.std.proofs.Common.{sym, ◌∙◌}
use Rattle.extended_laws.proofs.Sound.{extended_sound, baseline_sound}
use Rattle.extended_frames.proofs.decoding.any_at.Goals as goal

pub long_at-requires-clause-whole : goal.long_at-requires-clause-whole
long_at-requires-clause-whole c = (extended_sound c.args.bytes.now c.requires.sound (sym c.is_extended.ensures.value ∙ c.if-is_extended.true)).whole

pub long_at-requires-clause-few : goal.long_at-requires-clause-few
long_at-requires-clause-few c = (extended_sound c.args.bytes.now c.requires.sound (sym c.is_extended.ensures.value ∙ c.if-is_extended.true)).few

pub frame_at-requires : goal.frame_at-requires
frame_at-requires c = (baseline_sound c.args.bytes.now c.requires.sound (sym c.is_extended.ensures.value ∙ c.if-is_extended.false)).whole
