-- Databases and numbers of the profile's rows.
use Rattle.std.specs.Prelude.{ℕ, ◌∷◌, Some, None, replicate, length}
use Rattle.std.specs.Option.{option_map_or}
use Rattle.omci_types.specs.declared.Software.{Software}
use Rattle.class_spec.specs.Classes.{Row, class_row}
use Rattle.class_spec.specs.Masks.{width_of, place_of}
use Rattle.mib_spec.specs.Database.{Database, entity, first}
use Rattle.mib_spec.specs.Requests.{create_outcome, set_outcome}

-- a class's number, how many attributes it has, and the bytes of their values
abbrev pub size_of : Row → ℕ × ℕ × ℕ
size_of row = (row.number, length row.attributes, width_of row 65535)

-- where the value of the third attribute begins among those of the first three
abbrev pub place_of_third : ℕ → ℕ
place_of_third class = option_map_or (λ row. place_of row 57344 3) (class_row class) 0

-- one image of one byte
abbrev pub one_image : Software
one_image = record {
  first = Some (record {
    length = 1;
    crc = 255;
    version = 255 ∷ replicate 13 0;
  });
  second = None;
  committed = 0;
  active = 0;
}

-- the first database, and a VLAN tagging filter more
abbrev pub with_filter : Database
with_filter = (create_outcome (entity 84 1) (replicate 32 0) (first one_image)).1

-- the counter is set to 255, and then something else is set
abbrev pub after_sets : Database
after_sets = (set_outcome (entity 256 0) 1024 (1 ∷ replicate 29 0)
    (set_outcome (entity 2 0) 32768 (255 ∷ replicate 29 0) (first one_image)).database).database
