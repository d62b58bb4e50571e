use Rattle.std.proofs.Common.{sym, ◌∙◌, arith}
use Rattle.extended_laws.proofs.Sound.{extended_sound, baseline_sound}
use Rattle.extended_frames.proofs.decoding.any_bytes.Goals as goal

pub length_at-requires : goal.length_at-requires
length_at-requires c = (extended_sound c.args.bytes.now c.requires.sound (sym c.is_extended.ensures.value ∙ c.if-is_extended.true)).header

pub returns-then-is_extended-clause-within : goal.returns-then-is_extended-clause-within
returns-then-is_extended-clause-within c =
    let sound = extended_sound c.args.bytes.now c.requires.sound (sym c.is_extended.ensures.value ∙ c.if-is_extended.true) in
    omega (arith, sound.whole, c.length_at.ensures.value)

pub returns-else-is_extended-clause-within : goal.returns-else-is_extended-clause-within
returns-else-is_extended-clause-within c = (baseline_sound c.args.bytes.now c.requires.sound (sym c.is_extended.ensures.value ∙ c.if-is_extended.false)).whole
