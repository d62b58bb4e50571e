use Rattle.std.proofs.Common.{◌≡◌, ◌∙◌, ap, sym, subst, arith}
use Rattle.std.proofs.lemmas.Bool.{false≢true}
use Rattle.class_spec.specs.Masks.{width_of}
use Rattle.upload_spec.specs.Copies.{after_set}
use Rattle.mib_upload.specs.declared.part.Chosen.TheVariants.{Named}
use Rattle.mib_upload.specs.Merged.{picks_or}
use Rattle.mib_upload.specs.Parts.{copy_of, part_at, IsAt, IsGap, IsParts}
use Rattle.mib_upload.proofs.Joined.{set_nothing, gap_copied, at_known, at_copied, is_not_there, settable_is, fits_where, set_part, set_parts}
use Rattle.mib_upload.proofs.copy.MibCopy.changed.Goals as goal

pub returns-in_default : goal.returns-in_default
returns-in_default c =
    let gap : IsGap c.self.inside.parts c.args.entity c.in_default.field-0 = c.in_default.ensures.absent in
    subst (λ d. d ≡ after_set c.args.entity c.args.mask.0 c.args.values.now d) c.self.view_is
    (set_nothing c.args.entity c.args.mask.0 c.args.values.now (copy_of c.self.inside.parts) (gap_copied c.self.inside.parts c.args.entity c.in_default.field-0 c.args.mask.0 c.args.values.now gap))

pub returns-in_default-class : goal.returns-in_default-class
returns-in_default-class c =
    let at : IsAt c.self.inside.parts c.args.entity c.in-Ok.at = c.in-Ok.ensures.found in
    absurd (false≢true (sym (is_not_there c.args.entity.class (sym c.in_default-class.ensures.row)) ∙ at_known c.self.inside.parts c.args.entity c.in-Ok.at at c.self.invariant.known))

pub returns-then-not-is_settable : goal.returns-then-not-is_settable
returns-then-not-is_settable c =
    let at : IsAt c.self.inside.parts c.args.entity c.in-Ok.at = c.in-Ok.ensures.found in
    subst (λ d. d ≡ after_set c.args.entity c.args.mask.0 c.args.values.now d) c.self.view_is
    (set_nothing c.args.entity c.args.mask.0 c.args.values.now (copy_of c.self.inside.parts)
    (settable_is c.args.entity c.args.mask.0 c.args.values.now (copy_of c.self.inside.parts) c.in-Some.class c.select.result.unknown.0 c.select.result.width c.is_settable.result (sym c.in-Some.ensures.row) c.select.ensures.unknown c.select.ensures.width c.told-values c.is_settable.ensures (at_copied c.self.inside.parts c.args.entity c.in-Ok.at at)
    ∙ c.if-not-is_settable.true))

pub overlay-after-requires : goal.overlay-after-requires
unfolding width_of
overlay-after-requires c = omega (arith, fits_where c.select.result.unknown.0 c.select.result.width (sym c.is_settable.ensures ∙ c.if-not-is_settable.false), c.select.ensures.width, c.told-values)

pub invariant_of-self : goal.invariant_of-self
invariant_of-self c =
    let at : IsAt c.self.inside.parts c.args.entity c.in-Ok.at = c.in-Ok.ensures.found in
    let old : c.part_at-part.result.now ≡ part_at c.self.inside.parts c.in-Ok.at = c.part_at-part.ensures in
    subst IsParts (sym c.set.ensures.written) (set_parts c.self.inside.parts c.args.entity c.in-Some.class c.in-Ok.at c.part_at-part.result.now c.overlay-after.result (picks_or (Named c.args.mask) c.part_at-part.result.now.mask.0) at (sym c.in-Some.ensures.row) c.in-Some.ensures.rule old c.overlay-after.ensures.entity c.overlay-after.ensures.mask c.self.invariant)

pub returns : goal.returns
returns c =
    let at : IsAt c.self.inside.parts c.args.entity c.in-Ok.at = c.in-Ok.ensures.found in
    let old : c.part_at-part.result.now ≡ part_at c.self.inside.parts c.in-Ok.at = c.part_at-part.ensures in
    let settable = settable_is c.args.entity c.args.mask.0 c.args.values.now (copy_of c.self.inside.parts) c.in-Some.class c.select.result.unknown.0 c.select.result.width c.is_settable.result (sym c.in-Some.ensures.row) c.select.ensures.unknown c.select.ensures.width c.told-values c.is_settable.ensures (at_copied c.self.inside.parts c.args.entity c.in-Ok.at at)
    ∙ c.if-not-is_settable.false in
    ap copy_of c.set.ensures.written ∙ set_part c.self.inside.parts c.args.entity c.in-Some.class c.args.mask.0 c.args.values.now c.in-Ok.at c.part_at-part.result.now c.overlay-after.result at (sym c.in-Some.ensures.row) c.in-Some.ensures.rule old c.overlay-after.ensures.entity c.overlay-after.ensures.values settable
    ∙ ap (after_set c.args.entity c.args.mask.0 c.args.values.now) c.self.view_is
