use Rattle.std.proofs.Common.{sym, ◌∙◌}
use Rattle.omci_attributes.proofs.Places.{placed_absent, placed_unnamed, placed_late, placed_there}
use Rattle.omci_attributes.proofs.widths.place.Goals as goal

pub returns-in_default : goal.returns-in_default
returns-in_default c = placed_absent c.args.class.now c.args.mask c.args.number c.args.room c.in_default.ensures.value

pub returns-then-not-has : goal.returns-then-not-has
returns-then-not-has c =
    placed_unnamed c.args.class.now c.args.mask c.args.number c.args.room c.in-Some.attribute c.in-Some.ensures.value (sym c.has.ensures ∙ c.if-not-has.true)

pub returns-then-need-room : goal.returns-then-need-room
returns-then-need-room c =
    placed_late c.args.class.now c.args.mask c.args.number c.args.room c.in-Some.attribute c.in-Some.ensures.value (sym c.has.ensures ∙ c.if-not-has.false) c.before-place.result c.before-place.ensures.sum c.if-need-room.true

pub returns : goal.returns
returns c =
    placed_there c.args.class.now c.args.mask c.args.number c.args.room c.in-Some.attribute c.in-Some.ensures.value (sym c.has.ensures ∙ c.if-not-has.false) c.before-place.result c.before-place.ensures.sum c.if-need-room.false
