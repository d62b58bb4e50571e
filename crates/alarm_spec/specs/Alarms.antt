-- Alarms of a unit's entities (ITU-T G.988, the alarm table and get all alarms): a finite map from
-- entity to bitmap, and the rows in which it is read.
use Rattle.std.specs.Prelude.{◌≡◌, ℕ, ◌<◌, ◌^◌, Bool, true, false, List, [], ◌∷◌, ◌++◌, length, take, drop, map, replicate, bytes_eq, is_some, slice_get, Option, option_map, unwrap_or}
use Rattle.std.specs.Int.{to_be_bytes, from_be_bytes, w16}
use Rattle.std.specs.declared.cmp.Ordering.TheVariants.{Less}
use Rattle.std.specs.Map.{lookup, remove_entry}
use Rattle.std.specs.BTreeMap.{insert_entry, is_at}
use Rattle.omci_types.specs.declared.EntityId.{EntityId}
use Rattle.mib_spec.specs.Database.{entity, entity_cmp}
use Rattle.alarm_spec.specs.declared.TheConstants.{BITMAP_BYTES}

-- an entity with its bitmap
abbrev pub Alarm : Type 0
Alarm = EntityId × List ℕ

-- from entity to bitmap, in ascending order of the entity
abbrev pub Alarms : Type 0
Alarms = List Alarm

-- the bitmap of an entity without an alarm
abbrev pub clear_bitmap : List ℕ
clear_bitmap = replicate BITMAP_BYTES 0

abbrev pub is_clear : List ℕ → Bool
is_clear bitmap = bytes_eq bitmap clear_bitmap

-- what is held of an entity
unfoldable pub bitmap_found : EntityId → Alarms → Option (List ℕ)
bitmap_found one alarms = lookup (is_at (entity_cmp one)) alarms

abbrev pub is_raised : EntityId → Alarms → Bool
is_raised one alarms = is_some (bitmap_found one alarms)

-- the entity's bitmap; that of an entity of which none is held is clear
abbrev pub bitmap_of : EntityId → Alarms → List ℕ
bitmap_of one alarms = unwrap_or (bitmap_found one alarms) clear_bitmap

-- the alarms with this bitmap of an entity, every other as it was
unfoldable pub with_alarm : EntityId → List ℕ → Alarms → Alarms
with_alarm one bitmap alarms = insert_entry entity_cmp alarms one bitmap

-- the alarms without an entity, every other as it was
unfoldable pub without_alarm : EntityId → Alarms → Alarms
without_alarm one alarms = remove_entry (is_at (entity_cmp one)) alarms

abbrev pub unless_clear : Bool → EntityId → List ℕ → Alarms → Alarms
unless_clear true one bitmap alarms = without_alarm one alarms
unless_clear false one bitmap alarms = with_alarm one bitmap alarms

-- the entity has this bitmap from now on; a clear one is held by absence
unfoldable pub with_bitmap : EntityId → List ℕ → Alarms → Alarms
with_bitmap one bitmap alarms = unless_clear (is_clear bitmap) one bitmap alarms

-- the alarms after these notices, one after the other
abbrev pub after : Alarms → List Alarm → Alarms
after alarms [] = alarms
after alarms (one ∷ rest) = after (with_bitmap one.0 one.1 alarms) rest

-- a row: class, instance, bitmap
unfoldable pub row_of : Alarm → List ℕ
row_of one = to_be_bytes w16 one.0.class ++ to_be_bytes w16 one.0.instance ++ one.1

-- the rows of the alarms, in ascending order of the entity
abbrev pub rows_of : Alarms → List (List ℕ)
rows_of alarms = map row_of alarms

-- the row of this number, counted from 0
unfoldable pub row_at : ℕ → Alarms → Option (List ℕ)
row_at number alarms = option_map row_of (slice_get alarms number)

-- what a row says: its entity and its bitmap
abbrev pub entity_in : List ℕ → EntityId
entity_in row = entity (from_be_bytes w16 (take 2 row)) (from_be_bytes w16 (take 2 (drop 2 row)))

abbrev pub bitmap_in : List ℕ → List ℕ
bitmap_in row = drop 4 row

-- the entity comes before all of these
abbrev pub ComesBefore : EntityId → Alarms → Type 0
ComesBefore one [] = Unit {0}
ComesBefore one (other ∷ rest) = (entity_cmp one other.0 ≡ Less) × ComesBefore one rest

-- no entity stands twice, and they are in order
abbrev pub IsAscending : Alarms → Type 0
IsAscending [] = Unit {0}
IsAscending (one ∷ rest) = ComesBefore one.0 rest × IsAscending rest

-- an entity with an alarm: its numbers have 16 bits, and its bitmap isn't clear
pub record IsRaised (one : Alarm) : Type 0 where
  pub class : one.0.class < 2 ^ 16
  pub instance : one.0.instance < 2 ^ 16
  pub bytes : length one.1 ≡ BITMAP_BYTES
  pub raised : is_clear one.1 ≡ false

abbrev pub AreRaised : Alarms → Type 0
AreRaised [] = Unit {0}
AreRaised (one ∷ rest) = IsRaised one × AreRaised rest

-- what a unit holds: entities in order, each with an alarm
pub record IsWhole (alarms : Alarms) : Type 0 where
  pub ascending : IsAscending alarms
  pub raised : AreRaised alarms
