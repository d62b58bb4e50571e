use Rattle.std.proofs.Common.{◌≡◌, ◌+◌, drop}
use Rattle.class_spec.specs.Masks.{mask_where, width_where}
use Rattle.omci_attributes.specs.Placed.{is_selected, is_fixed}
use Rattle.omci_attributes.proofs.widths.select.Given as goal

abbrev pub invariant-loop-place : goal.invariant-loop-place
invariant-loop-place l = record {
  known : l.known + mask_where (is_selected l.mask) (drop l.place l.class.attributes) ≡ mask_where (is_selected l.mask) l.class.attributes;
  fixed : l.fixed + mask_where (is_fixed l.mask) (drop l.place l.class.attributes) ≡ mask_where (is_fixed l.mask) l.class.attributes;
  width : l.width + width_where (is_selected l.mask) (drop l.place l.class.attributes) ≡ width_where (is_selected l.mask) l.class.attributes;
}
