-- What is wanted of a unit's database: from entity to the values of the attributes that are named,
-- both in ascending order.
use Rattle.std.specs.Prelude.{ℕ, ◌+◌, ◌==◌, ◌||◌, ◌&&◌, not, Bool, List, length, Option, Some, None, if◌then◌else◌}
use Rattle.omci_types.specs.declared.EntityId.{EntityId}
use Rattle.class_spec.specs.declared.TheConstants.{ONU_DATA}
use Rattle.class_spec.specs.Masks.{unknown_mask, fixed_mask, width_of}
use Rattle.mib_spec.specs.Requests.{is_class, of_class}
use Rattle.upload_spec.specs.Pieces.{Copy, values_named}
use Rattle.upload_spec.specs.Copies.{is_copied, with_copied, attributes_of}
use Rattle.plan_spec.specs.declared.WantedFault.{WantedFault}
use Rattle.plan_spec.specs.declared.WantedFault.TheVariants.{ClassUnknown, NotWritable, Width, Repeated}

-- whether entities of the class may be wanted: the class is known and isn't ONU data
abbrev pub is_wantable : ℕ → Bool
is_wantable class = is_class class && not (class == ONU_DATA.class)

-- of the named attributes, those that the class doesn't have and those that may not be written
abbrev pub not_writable : ℕ → ℕ → ℕ
not_writable class mask = of_class unknown_mask class mask + of_class fixed_mask class mask

-- the first fault of an entity, a mask and values that come to what is wanted already
unfoldable pub wanted_fault : EntityId → ℕ → List ℕ → Copy → Option WantedFault
wanted_fault one mask values want =
    if not (is_wantable one.class) then Some ClassUnknown
    else if not (not_writable one.class mask == 0) then Some (NotWritable (not_writable one.class mask))
    else if not (length values == of_class width_of one.class mask)
    then Some (Width (of_class width_of one.class mask) (length values))
    else if is_copied one want then Some Repeated
    else None

-- what is wanted with an entity more
unfoldable pub with_wanted : EntityId → ℕ → List ℕ → Copy → Copy
with_wanted one mask values want =
    with_copied one (values_named (attributes_of one.class) mask values) want
