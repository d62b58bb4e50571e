use Rattle.std.proofs.Common.{◌∙◌, ap, sym, List}
use Rattle.frame_spec.specs.Widths.{filled}
use Rattle.class_spec.specs.Classes.{Attribute}
use Rattle.upload_spec.specs.Pieces.{values_named}
use Rattle.plan_spec.specs.Steps.{Create, create_of, create_bytes}
use Rattle.plan_reconcile.proofs.Naming.{made_is}
use Rattle.plan_reconcile.proofs.Wanting.{attributes_of_row}
use Rattle.plan_reconcile.proofs.creates.create_of.Goals as goal

pub returns : goal.returns
unfolding create_of
returns c =
    let i = c.args.item.now in
    ap (Create i.entity) (c.create_values.ensures ∙ ap (filled 32) (made_is c.args.class.now.attributes 1 i.mask.0 i.values c.requires.rule.numbered))
    ∙ ap (λ (l : List Attribute). Create i.entity (filled 32 (create_bytes l (values_named l i.mask.0 i.values)))) (sym (attributes_of_row i.entity.class c.args.class.now c.requires.row))
