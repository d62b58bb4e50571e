use Rattle.std.proofs.Common.{ap, sym, ◌∙◌}
use Rattle.std.specs.Prelude.{◌==◌}
use Rattle.class_spec.specs.Masks.{has}
use Rattle.entity_classes.specs.declared.classes.Attribute.{Attribute}
use Rattle.omci_attributes.proofs.Sums.{is_created}
use Rattle.mib_store.specs.declared.layout.Chosen.{Chosen}
use Rattle.mib_store.specs.Layout.{picks}
use Rattle.mib_store.proofs.layout.is_picked.Goals as goal

pub returns-in-Created : goal.returns-in-Created
returns-in-Created c one is = c.contains.ensures tt ∙ is_created _ one is ∙ ap (λ (chosen : Chosen). picks chosen one) (sym c.in-Created.is)

pub returns-in-Named : goal.returns-in-Named
returns-in-Named c one is = c.has.ensures ∙ ap (λ (a : Attribute). has c.in-Named.mask.0 a.number) is ∙ ap (λ (chosen : Chosen). picks chosen one) (sym c.in-Named.is)

pub returns-in-Only : goal.returns-in-Only
returns-in-Only c one is = ap (λ (a : Attribute). a.number == c.in-Only.number) is ∙ ap (λ (chosen : Chosen). picks chosen one) (sym c.in-Only.is)
