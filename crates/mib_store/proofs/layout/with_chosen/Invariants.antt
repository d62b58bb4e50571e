use Rattle.std.proofs.Common.{◌≡◌, ◌+◌, ◌++◌, take, drop}
use Rattle.class_spec.specs.Masks.{width_where}
use Rattle.entity_classes.specs.Rule.{whole_width}
use Rattle.mib_store.specs.Layout.{picks, with_chosen}
use Rattle.mib_store.proofs.layout.with_chosen.Given as goal

abbrev pub invariant-loop-place : goal.invariant-loop-place
invariant-loop-place l = record {
  bytes : take l.at l.after ++ with_chosen (picks l.chosen) (drop l.place l.class.attributes) (drop l.from l.given) (drop l.at l.after) ≡ with_chosen (picks l.chosen) l.class.attributes l.given l.values;
  width : l.at + whole_width (drop l.place l.class.attributes) ≡ whole_width l.class.attributes;
  given : l.from + width_where (picks l.chosen) (drop l.place l.class.attributes) ≡ width_where (picks l.chosen) l.class.attributes;
}
