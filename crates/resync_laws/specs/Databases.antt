-- A database that the unit may have: each entity, in ascending order, has a value for each
-- attribute of its class, as wide as it, and there are no more entities than a unit holds.
use Rattle.std.specs.Prelude.{◌≡◌, ◌≤◌, length, Some}
use Rattle.omci_types.specs.declared.SlotView.{SlotView}
use Rattle.omci_types.specs.declared.Software.{Software}
use Rattle.mib_spec.specs.declared.TheConstants.{MOST_ENTITIES}
use Rattle.mib_spec.specs.Database.{Database}
use Rattle.upload_spec.specs.Pieces.{without_makers}
use Rattle.upload_laws.specs.Shaped.{IsWhole}

pub record IsWholeDatabase (database : Database) : Type 0 where
  pub whole : IsWhole (without_makers database)
  pub few : length database ≤ MOST_ENTITIES

-- the version of each image that is valid has the bytes that the database has for it
pub record HasVersions (software : Software) : Type 0 where
  pub first : (view : SlotView) → software.first ≡ Some view → length view.version ≡ 14
  pub second : (view : SlotView) → software.second ≡ Some view → length view.version ≡ 14
