-- The plan: the steps from what a manager's copy has to what is wanted.
use Rattle.std.specs.Prelude.{ℕ, ◌+◌, ◌&&◌, ◌||◌, not, Bool, true, false, nat_le, nat_lt, bytes_eq, List, [], ◌∷◌, ◌++◌, length, map, replicate, Option, Some, None, option_map, Result, Ok, Err, if◌then◌else◌, is_some}
use Rattle.std.specs.List.{flat_map}
use Rattle.std.specs.Option.{option_map_or}
use Rattle.omci_types.specs.declared.EntityId.{EntityId}
use Rattle.frame_spec.specs.Widths.{filled}
use Rattle.class_spec.specs.declared.TheConstants.{CREATE_ROOM, SET_ROOM}
use Rattle.class_spec.specs.Classes.{Attribute}
use Rattle.mib_spec.specs.declared.TheConstants.{MOST_ENTITIES}
use Rattle.mib_spec.specs.Database.{Values, value_at, bytes_of}
use Rattle.mib_spec.specs.Requests.{is_unit_made}
use Rattle.upload_spec.specs.Pieces.{Copy, mask_of, values_named}
use Rattle.upload_spec.specs.Copies.{copied, is_copied, attributes_of}
use Rattle.plan_spec.specs.declared.PlanFault.{PlanFault}
use Rattle.plan_spec.specs.declared.PlanFault.TheVariants.{NotMade, TooMany}

-- a step, with the bytes that its request carries
pub data Step : Type 0 where
  Delete : EntityId → Step
  Create : EntityId → List ℕ → Step
  Set : EntityId → ℕ → List ℕ → Step

-- the entities that pass, in the order in which they stand
abbrev pub entities_where : (EntityId → Bool) → Copy → List EntityId
entities_where passes [] = []
entities_where passes (one ∷ rest) = if passes one.0 then one.0 ∷ entities_where passes rest
    else entities_where passes rest

-- ---- deletes

-- whether an entity of the copy stays: the unit has made it, or it is wanted
abbrev pub stays : Copy → EntityId → Bool
stays want one = is_unit_made one.class || is_copied one want

abbrev pub goes : Copy → EntityId → Bool
goes want one = not (stays want one)

unfoldable pub deletes : Copy → Copy → List Step
deletes have want = map Delete (entities_where (goes want) have)

-- ---- creates

-- the wanted value of an attribute, zeros where none is named
abbrev pub wanted_or_zeros : Attribute → Values → List ℕ
wanted_or_zeros one want = option_map_or (λ value. value) (value_at one.number want)
    (replicate one.width 0)

-- what a create of it carries: the values of the attributes that a create sets
abbrev pub create_bytes : List Attribute → Values → List ℕ
create_bytes [] want = []
create_bytes (one ∷ rest) want = (if one.created then wanted_or_zeros one want else [])
    ++ create_bytes rest want

unfoldable pub create_of : EntityId → Values → Step
create_of one want = Create one (filled CREATE_ROOM (create_bytes (attributes_of one.class) want))

-- an entity that isn't there is created
abbrev pub create_if_new : EntityId → Values → Option Values → List Step
create_if_new one want None = create_of one want ∷ []
create_if_new one want (Some held) = []

-- ---- sets

abbrev pub is_value : List ℕ → Option (List ℕ) → Bool
is_value value None = false
is_value value (Some other) = bytes_eq other value

-- whether the attribute has the wanted value already: in the copy, or in a new entity, where an
-- attribute that a create sets has its value and any other is zero
abbrev pub has_already : Option Values → Attribute → List ℕ → Bool
has_already (Some held) one value = is_value value (value_at one.number held)
has_already None one value = one.created || bytes_eq (replicate one.width 0) value

abbrev pub unless : Bool → ℕ → List ℕ → Values
unless already number value = if already then [] else (number, value) ∷ []

-- the attribute with its wanted value, where one is named and still differs
abbrev pub differing_one : Option Values → Attribute → Option (List ℕ) → Values
differing_one held one None = []
differing_one held one (Some value) = unless (has_already held one value) one.number value

-- the named attributes that still differ, in attribute order
abbrev pub differing : Option Values → Values → List Attribute → Values
differing held want [] = []
differing held want (one ∷ rest) = differing_one held one (value_at one.number want)
    ++ differing held want rest

-- whether a set has room for one more value
abbrev pub has_room : Values → ℕ × List ℕ → Bool
has_room group one = nat_le (length (bytes_of group) + length one.1) SET_ROOM

-- a set of these values; there is none of no values
abbrev pub closed : Values → List Values
closed [] = []
closed (one ∷ rest) = (one ∷ rest) ∷ []

-- the set that the next value ends
abbrev pub ended : Bool → Values → List Values
ended fits group = if fits then [] else closed group

-- the values of the current set after the next value: it is added, or it begins a set of its own
abbrev pub current : Bool → Values → ℕ × List ℕ → Values
current fits group one = (if fits then group else []) ++ one ∷ []

-- the values, set by set, where the current set has some already
abbrev pub groups_from : Values → Values → List Values
groups_from group [] = closed group
groups_from group (one ∷ rest) = ended (has_room group one) group
    ++ groups_from (current (has_room group one) group one) rest

abbrev pub set_groups : Values → List Values
set_groups values = groups_from [] values

unfoldable pub set_of : EntityId → Values → Step
set_of one group = Set one (mask_of group) (filled SET_ROOM (bytes_of group))

unfoldable pub sets : EntityId → Option Values → Values → List Step
sets one held want = map (set_of one)
    (set_groups (differing held want (attributes_of one.class)))

-- ---- the whole plan

-- what an entry of the copy tells: the values that stand in its bytes by its mask
abbrev pub told : ℕ → Values → Values
told class held = values_named (attributes_of class) (mask_of held) (bytes_of held)

-- what the copy tells of an entity
unfoldable pub told_of : EntityId → Copy → Option Values
told_of one have = option_map (told one.class) (copied one have)

unfoldable pub entity_steps : Option Values → EntityId × Values → List Step
entity_steps held one = create_if_new one.0 one.1 held ++ sets one.0 held one.1

-- first the deletes, then for each wanted entity its create and its sets
unfoldable pub steps : Copy → Copy → List Step
steps have want = deletes have want ++ flat_map (λ one. entity_steps (told_of one.0 have) one) want

-- ---- refusals

abbrev pub is_new : Copy → EntityId → Bool
is_new have one = not (is_copied one have)

-- whether only the unit can make the entity, and it isn't there
abbrev pub is_not_made : Copy → EntityId → Bool
is_not_made have one = is_unit_made one.class && is_new have one

-- how many entities would stand: those that stay and the new ones
unfoldable pub standing : Copy → Copy → ℕ
standing have want = length (entities_where (stays want) have)
    + length (entities_where (is_new have) want)

-- the plan, where not too many would stand
abbrev pub unless_many : ℕ → List Step → Result (List Step) PlanFault
unless_many count steps = if nat_lt MOST_ENTITIES count then Err (TooMany count) else Ok steps

-- the plan, where the unit has made what only it can make
abbrev pub unless_not_made : List EntityId → ℕ → List Step → Result (List Step) PlanFault
unless_not_made [] count steps = unless_many count steps
unless_not_made (one ∷ rest) count steps = Err (NotMade one)

-- the plan, or why there is none
unfoldable pub planned : Copy → Copy → Result (List Step) PlanFault
planned have want = unless_not_made (entities_where (is_not_made have) want) (standing have want)
    (steps have want)
