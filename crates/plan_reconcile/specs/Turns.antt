-- One attribute of a loop over a class, and what the loop has so far.
use Rattle.std.specs.Prelude.{◌≡◌, ℕ, ◌+◌, ◌≤◌, ◌==◌, ◌&&◌, ◌||◌, Bool, bytes_eq, List, [], ◌∷◌, ◌++◌, length, take, drop, replicate, map, Option, Some, None, if◌then◌else◌}
use Rattle.omci_types.specs.declared.EntityId.{EntityId}
use Rattle.frame_spec.specs.Widths.{filled}
use Rattle.class_spec.specs.declared.TheConstants.{SET_ROOM}
use Rattle.class_spec.specs.Classes.{Attribute}
use Rattle.class_spec.specs.Masks.{bit_of, has}
use Rattle.mib_spec.specs.Database.{Values, bytes_of}
use Rattle.upload_spec.specs.Pieces.{values_named, mask_of}
use Rattle.plan_spec.specs.Steps.{Step, Set, set_of, ended, current, has_room}
use Rattle.plan_reconcile.specs.declared.attributes.Part.{Part}
use Rattle.plan_reconcile.specs.declared.sets.Group.{Group}
use Rattle.plan_reconcile.specs.declared.sets.Standing.{Standing}
use Rattle.plan_reconcile.specs.declared.steps.PlanStep.{PlanStep}
use Rattle.plan_reconcile.specs.Made.{steps_of}

-- the part is about the attribute in this place
pub record IsPart (attributes : List Attribute) (place mask holds : ℕ) (part : Part) : Type 0 where
  pub one : Attribute
  pub rest : drop place attributes ≡ one ∷ drop (place + 1) attributes
  pub bit : part.bit ≡ bit_of one.number
  pub width : part.width ≡ one.width
  pub few : part.width ≤ 25
  pub created : part.created ≡ one.created
  pub named : part.named ≡ has mask one.number
  pub held : part.held ≡ has holds one.number

-- what stands of the entity, from the attributes that are left and the bytes from a place on
abbrev pub held_from : Standing → List Attribute → ℕ → Option Values
held_from standing attributes from = if standing.is_new then None
    else Some (values_named attributes standing.mask.0 (drop from standing.values.now))

-- whether the attribute has the value already
abbrev pub has_already : Standing → Part → ℕ → List ℕ → Bool
has_already standing part from value =
    if standing.is_new then part.created || bytes_eq (replicate part.width 0) value
    else part.held && bytes_eq (take part.width (drop from standing.values.now)) value

abbrev pub no_group : Group
no_group = record { mask = 0; values = replicate 30 0; width = 0 }

-- the set of a group, where it has an attribute
abbrev pub flushed : EntityId → Group → List Step
flushed one group = if group.mask == 0 then [] else Set one group.mask group.values ∷ []

-- the group has these values
pub record IsGroup (group : Group) (values : Values) : Type 0 where
  pub mask : group.mask ≡ mask_of values
  pub width : group.width ≡ length (bytes_of values)
  pub bytes : group.values ≡ filled SET_ROOM (bytes_of values)

-- what a value more makes of a group with these values
pub record AddsTo (differs : Bool) (one : EntityId) (added : ℕ × List ℕ) (values : Values)
    (before after : List PlanStep) (next : Group) : Type 0 where
  pub steps : steps_of after ≡ steps_of before
      ++ map (set_of one) (if differs then ended (has_room values added) values else [])
  pub group : IsGroup next
      (if differs then current (has_room values added) values added else values)

-- the group after a value, and the steps that it took
pub record Adds (differs : Bool) (one : EntityId) (group : Group) (bit : ℕ) (value : List ℕ)
    (before after : List PlanStep) (next : Group) : Type 0 where
  pub to : (values : Values) (number : ℕ) → IsGroup group values → bit ≡ bit_of number
      → AddsTo differs one (number, value) values before after next
  pub small : next.width ≤ SET_ROOM
  pub mask : next.mask ≤ (if differs then group.mask + bit else group.mask)
