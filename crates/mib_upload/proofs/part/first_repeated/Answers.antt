use Rattle.std.proofs.Common.{sym, ◌∙◌}
use Rattle.mib_upload.proofs.Overlays.{repeats_here, repeats_later}
use Rattle.mib_upload.proofs.part.first_repeated.Goals as goal

pub returns-then-is_in_both : goal.returns-then-is_in_both
returns-then-is_in_both c =
    repeats_here c.args.class.now.attributes c.loop-place.place c.args.mask.0 c.args.old.now.mask.0 c.args.old.now.values c.attribute_at-number.result c.count-place-end.ensures.rule.numbered c.attribute_at-number.ensures (sym c.is_in_both.ensures ∙ c.if-is_in_both.true) ∙ c.loop-place.invariant

pub loop-place-preserved : goal.loop-place-preserved
loop-place-preserved c =
    repeats_later c.args.class.now.attributes c.loop-place.place c.args.mask.0 c.args.old.now.mask.0 c.args.old.now.values c.attribute_at-number.result c.count-place-end.ensures.rule.numbered c.attribute_at-number.ensures (sym c.is_in_both.ensures ∙ c.if-is_in_both.false) ∙ c.loop-place.invariant
