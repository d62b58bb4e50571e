-- The fault that the code answers for one of what is wanted, and what becomes of an entity.
use Rattle.std.specs.Prelude.{◌≡◌, ◌≤◌, ℕ, List, length, Option, Some, None}
use Rattle.omci_types.specs.declared.EntityId.{EntityId}
use Rattle.omci_attributes.specs.declared.mask.Mask.{Mask}
use Rattle.plan_spec.specs.declared.WantedFault.{WantedFault}
use Rattle.plan_spec.specs.declared.WantedFault.TheVariants as wanted
use Rattle.frame_spec.specs.Widths.{filled}
use Rattle.class_spec.specs.Masks.{width_of}
use Rattle.mib_spec.specs.Requests.{of_class}
use Rattle.plan_spec.specs.Wanting.{wanted_fault}
use Rattle.plan_reconcile.specs.declared.items.Item.{Item}
use Rattle.plan_reconcile.specs.declared.wanted.WantFault.{WantFault}
use Rattle.plan_reconcile.specs.declared.wanted.WantFault.TheVariants as want
use Rattle.plan_reconcile.specs.Items.{wanted_of, IsGap, IsItem}

-- want of memory comes where there is no fault
abbrev pub want_fault_as : Option WantedFault → WantFault
want_fault_as None = want.NoMemory
want_fault_as (Some wanted.ClassUnknown) = want.ClassUnknown
want_fault_as (Some (wanted.NotWritable mask)) = want.NotWritable (record { 0 = mask })
want_fault_as (Some (wanted.Width need have)) = want.Width need have
want_fault_as (Some wanted.Repeated) = want.Repeated

-- an entity without fault, and the place where it goes
pub record Admits (items : List Item) (one : EntityId) (mask : Mask) (values : List ℕ) (at : ℕ)
    : Type 0 where
  pub good : wanted_fault one mask.0 values (wanted_of items) ≡ None
  pub gap : IsGap items one at
  pub item : IsItem (record { entity = one; mask = mask; values = filled 45 values })
  pub short : length values ≤ 45
  pub same : length values ≡ of_class width_of one.class mask.0

-- the entity has this fault
pub record IsFault (items : List Item) (one : EntityId) (mask : Mask) (values : List ℕ)
    (fault : WantFault) : Type 0 where
  pub first : WantedFault
  pub is : wanted_fault one mask.0 values (wanted_of items) ≡ Some first
  pub same : fault ≡ want_fault_as (Some first)
