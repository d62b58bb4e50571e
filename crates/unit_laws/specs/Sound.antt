-- What holds of a unit at any time.
use Rattle.mib_laws.specs.Made.{HoldsOnlyMade}
use Rattle.unit_spec.specs.Onu.{Onu}
use Rattle.unit_laws.specs.Own.{AreOwn}

-- Of the classes that the unit makes, its database holds no other entities than those of its start,
-- and its alarms are of those that may have some.
pub record IsSound (u : Onu) : Type 0 where
  pub made : HoldsOnlyMade u.database
  pub own : AreOwn u.log.alarms
