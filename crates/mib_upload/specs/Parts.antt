-- The parts of the code as a copy.
use Rattle.std.specs.Prelude.{◌≡◌, ℕ, ◌<◌, ◌≤◌, true, List, [], ◌∷◌, length, map, slice_index_or, Some, None}
use Rattle.std.specs.declared.cmp.Ordering.TheVariants.{Less, Greater}
use Rattle.omci_types.specs.declared.EntityId.{EntityId}
use Rattle.mib_spec.specs.Database.{Values, entity_cmp}
use Rattle.mib_spec.specs.Requests.{is_class, of_class}
use Rattle.class_spec.specs.Masks.{known_mask}
use Rattle.upload_spec.specs.Pieces.{Copy, values_named}
use Rattle.upload_spec.specs.Copies.{attributes_of, copied}
use Rattle.mib_store.specs.Entries.{IsAscending}
use Rattle.mib_upload.specs.declared.part.Part.{Part}

-- a gathering: the copy so far, and how many pieces were announced
pub record Gathering : Type 0 where
  pub copy : Copy
  pub expected : ℕ

-- a part as the copy has it
abbrev pub part_as : Part → EntityId × Values
part_as part = (part.entity, values_named (attributes_of part.entity.class) part.mask.0 part.values)

abbrev pub copy_of : List Part → Copy
copy_of parts = map part_as parts

-- a part is of a known class and has known attributes alone
pub record IsKnown (part : Part) : Type 0 where
  pub class : is_class part.entity.class ≡ true
  pub attributes : of_class known_mask part.entity.class part.mask.0 ≡ part.mask.0

abbrev pub AreKnown : List Part → Type 0
AreKnown [] = Unit {0}
AreKnown (part ∷ rest) = IsKnown part × AreKnown rest

abbrev pub keys_of : List Part → List EntityId
keys_of parts = map (λ part. part.entity) parts

pub record IsParts (parts : List Part) : Type 0 where
  pub ascending : IsAscending (keys_of parts)
  pub known : AreKnown parts

-- a part for reading past the end
abbrev pub no_part : Part
no_part = record {
  entity = record { class = 0; instance = 0 };
  mask = record { 0 = 0 };
  values = [];
}

abbrev pub part_at : List Part → ℕ → Part
part_at parts at = slice_index_or parts at no_part

-- the entity stands in this place: those before it are less
pub record IsAt (parts : List Part) (one : EntityId) (at : ℕ) : Type 0 where
  pub in_range : at < length parts
  pub here : (part_at parts at).entity ≡ one
  pub before : (k : ℕ) → k < at → entity_cmp (part_at parts k).entity one ≡ Less
  pub is_copied : copied one (copy_of parts) ≡ Some (part_as (part_at parts at)).1

-- the entity isn't there and would go to this place
pub record IsGap (parts : List Part) (one : EntityId) (at : ℕ) : Type 0 where
  pub in_range : at ≤ length parts
  pub before : (k : ℕ) → k < at → entity_cmp (part_at parts k).entity one ≡ Less
  pub after : (k : ℕ) → at ≤ k → k < length parts → entity_cmp (part_at parts k).entity one
      ≡ Greater
  pub not_copied : copied one (copy_of parts) ≡ None
