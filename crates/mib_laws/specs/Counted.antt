-- A database with a counter.
use Rattle.std.specs.Prelude.{◌≡◌, true, is_some, Some}
use Rattle.class_spec.specs.declared.TheConstants.{ONU_DATA}
use Rattle.mib_spec.specs.Database.{Database, Managed, Values, managed_of, value_at}

-- ONU data is there, and its attribute 1
pub record IsCounted (database : Database) : Type 0 where
  pub managed : Managed
  pub here : managed_of ONU_DATA database ≡ Some managed
  pub value : is_some (value_at 1 managed.values) ≡ true

-- the same maker, with these values
abbrev pub revalue : Values → Managed → Managed
revalue values managed = record managed { values = values }
