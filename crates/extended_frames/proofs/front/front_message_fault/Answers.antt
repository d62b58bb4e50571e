use Rattle.std.proofs.Common.{sym, ◌∙◌}
use Rattle.extended_laws.proofs.Sound.{extended_sound, baseline_sound}
use Rattle.extended_frames.proofs.front.front_message_fault.Goals as goal

pub long_message_fault-requires-clause-whole : goal.long_message_fault-requires-clause-whole
long_message_fault-requires-clause-whole c = (extended_sound c.args.bytes.now c.requires.sound (sym c.is_extended.ensures.value ∙ c.if-is_extended.true)).whole

pub long_message_fault-requires-clause-few : goal.long_message_fault-requires-clause-few
long_message_fault-requires-clause-few c = (extended_sound c.args.bytes.now c.requires.sound (sym c.is_extended.ensures.value ∙ c.if-is_extended.true)).few

pub baseline_message_fault-requires : goal.baseline_message_fault-requires
baseline_message_fault-requires c = (baseline_sound c.args.bytes.now c.requires.sound (sym c.is_extended.ensures.value ∙ c.if-is_extended.false)).whole
