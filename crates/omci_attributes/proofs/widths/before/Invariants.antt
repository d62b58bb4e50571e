use Rattle.std.proofs.Common.{◌≡◌, ◌+◌, drop}
use Rattle.class_spec.specs.Masks.{width_where}
use Rattle.omci_attributes.specs.Placed.{is_selected}
use Rattle.omci_attributes.proofs.widths.before.Given as goal

abbrev pub invariant-loop-earlier : goal.invariant-loop-earlier
invariant-loop-earlier l = l.place + width_where (is_selected l.mask) (drop l.earlier l.class.attributes) ≡ width_where (is_selected l.mask) l.class.attributes
