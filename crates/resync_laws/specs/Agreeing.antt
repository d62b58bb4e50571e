-- When a copy agrees with the unit's database: it has the same entities, and of each the same
-- values in all attributes that may be written, the counter among them.
use Rattle.std.specs.Prelude.{◌≡◌, true, List, [], ◌∷◌}
use Rattle.class_spec.specs.declared.TheConstants.{ONU_DATA}
use Rattle.class_spec.specs.Classes.{Attribute}
use Rattle.mib_spec.specs.Database.{Database, Values, is_held}
use Rattle.upload_spec.specs.Pieces.{Copy}
use Rattle.upload_spec.specs.Copies.{attributes_of}
use Rattle.upload_laws.specs.Shaped.{IsWhole}
use Rattle.resync_laws.specs.Databases.{IsWholeDatabase}

-- of one entity: a value for each attribute on both sides, and the same one where it may be written
abbrev pub ValuesAgree : List Attribute → Values → Values → Type 0
ValuesAgree [] [] [] = Unit {0}
ValuesAgree [] [] (copied ∷ later) = ⊥
ValuesAgree [] (held ∷ values) copies = ⊥
ValuesAgree (one ∷ rest) [] copies = ⊥
ValuesAgree (one ∷ rest) (held ∷ values) [] = ⊥
ValuesAgree (one ∷ rest) (held ∷ values) (copied ∷ later) =
    (held.0 ≡ copied.0) × (one.written ≡ true → held.1 ≡ copied.1) × ValuesAgree rest values later

-- of all entities
abbrev pub Agrees : Database → Copy → Type 0
Agrees [] [] = Unit {0}
Agrees [] (copied ∷ later) = ⊥
Agrees (held ∷ database) [] = ⊥
Agrees (held ∷ database) (copied ∷ later) =
    (held.0 ≡ copied.0)
    × ValuesAgree (attributes_of held.0.class) held.1.values copied.1
    × Agrees database later

-- a database that a unit may have, with ONU data and so a counter, and a copy that agrees with it
pub record IsCopied (database : Database) (copy : Copy) : Type 0 where
  pub whole : IsWholeDatabase database
  pub counted : is_held ONU_DATA database ≡ true
  pub copied : IsWhole copy
  pub agrees : Agrees database copy
