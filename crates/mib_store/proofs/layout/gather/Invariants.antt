use Rattle.std.proofs.Common.{◌≡◌, length, ◌+◌, ◌-◌, ◌++◌, take, drop, replicate}
use Rattle.class_spec.specs.Masks.{width_where}
use Rattle.entity_classes.specs.Rule.{whole_width}
use Rattle.mib_store.specs.Layout.{picks, chosen_bytes}
use Rattle.mib_store.proofs.layout.gather.Given as goal

abbrev pub invariant-loop-place : goal.invariant-loop-place
invariant-loop-place l = record {
  bytes : take l.to l.into ++ chosen_bytes (picks l.chosen) (drop l.place l.class.attributes) (drop l.from l.values) ≡ chosen_bytes (picks l.chosen) l.class.attributes l.values;
  wide : length l.into ≡ 25;
  rest : drop l.to l.into ≡ replicate (25 - l.to) 0;
  width : l.to + width_where (picks l.chosen) (drop l.place l.class.attributes) ≡ width_where (picks l.chosen) l.class.attributes;
  read : l.from + whole_width (drop l.place l.class.attributes) ≡ whole_width l.class.attributes;
}
