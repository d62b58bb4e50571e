-- The items of the code as what is wanted.
use Rattle.std.specs.Prelude.{◌≡◌, ℕ, ◌<◌, ◌≤◌, true, List, [], ◌∷◌, length, map, slice_index_or, Some, None}
use Rattle.std.specs.declared.cmp.Ordering.TheVariants.{Less, Greater}
use Rattle.omci_types.specs.declared.EntityId.{EntityId}
use Rattle.class_spec.specs.Classes.{Row, class_row}
use Rattle.entity_classes.specs.Rule.{IsRow}
use Rattle.mib_spec.specs.Database.{Values, entity_cmp}
use Rattle.upload_spec.specs.Pieces.{Copy, values_named}
use Rattle.upload_spec.specs.Copies.{attributes_of, copied}
use Rattle.mib_store.specs.Entries.{IsAscending}
use Rattle.plan_spec.specs.Wanting.{is_wantable, not_writable}
use Rattle.plan_reconcile.specs.declared.items.Item.{Item}

-- an item as it is wanted
abbrev pub item_as : Item → EntityId × Values
item_as item = (item.entity, values_named (attributes_of item.entity.class) item.mask.0 item.values)

abbrev pub wanted_of : List Item → Copy
wanted_of items = map item_as items

abbrev pub keys_of : List Item → List EntityId
keys_of items = map (λ item. item.entity) items

-- the class of this number is there, and its entities may be wanted
pub record IsWantable (number : ℕ) (row : Row) : Type 0 where
  pub is : class_row number ≡ Some row
  pub rule : IsRow row
  pub wantable : is_wantable number ≡ true

-- an item is of a class whose entities may be wanted, and names attributes that may be written
pub record IsItem (item : Item) : Type 0 where
  pub wantable : is_wantable item.entity.class ≡ true
  pub writable : not_writable item.entity.class item.mask.0 ≡ 0
  pub whole : length item.values ≡ 45

abbrev pub AreItems : List Item → Type 0
AreItems [] = Unit {0}
AreItems (item ∷ rest) = IsItem item × AreItems rest

pub record IsWanted (items : List Item) : Type 0 where
  pub ascending : IsAscending (keys_of items)
  pub each : AreItems items

-- an item for reading past the end
abbrev pub no_item : Item
no_item = record {
  entity = record { class = 0; instance = 0 };
  mask = record { 0 = 0 };
  values = [];
}

abbrev pub item_at : List Item → ℕ → Item
item_at items at = slice_index_or items at no_item

-- the entity stands in this place: those before it are less
pub record IsAt (items : List Item) (one : EntityId) (at : ℕ) : Type 0 where
  pub in_range : at < length items
  pub here : (item_at items at).entity ≡ one
  pub before : (k : ℕ) → k < at → entity_cmp (item_at items k).entity one ≡ Less
  pub is_wanted : copied one (wanted_of items) ≡ Some (item_as (item_at items at)).1

-- the entity isn't there and would go to this place
pub record IsGap (items : List Item) (one : EntityId) (at : ℕ) : Type 0 where
  pub in_range : at ≤ length items
  pub before : (k : ℕ) → k < at → entity_cmp (item_at items k).entity one ≡ Less
  pub after : (k : ℕ) → at ≤ k → k < length items → entity_cmp (item_at items k).entity one
      ≡ Greater
  pub not_wanted : copied one (wanted_of items) ≡ None
