-- The order of managed entities: by class, then by instance.
use Rattle.std.specs.Ordering.{nat_cmp}
use Rattle.std.specs.declared.cmp.Ordering.{Ordering}
use Rattle.std.specs.declared.cmp.Ordering.TheVariants.{Less, Equal, Greater}
use Rattle.omci_types.specs.declared.EntityId.{EntityId}

-- the first comparison, or the second where the first finds no difference
abbrev pub unless_equal : Ordering → Ordering → Ordering
unless_equal Less second = Less
unless_equal Equal second = second
unless_equal Greater second = Greater

-- which of two entities comes first
abbrev pub entity_order : EntityId → EntityId → Ordering
entity_order a b = unless_equal (nat_cmp a.class b.class) (nat_cmp a.instance b.instance)
