-- The link: every packet that was ever sent, and for each direction and lane how far its deliveries
-- have come.
use Rattle.std.specs.Prelude.{ℕ, ◌+◌, ◌&&◌, Bool, true, false, if◌then◌else◌, nat_le, List, [], ◌∷◌, ◌++◌, length, slice_get, Option, Some, None, max}
use Rattle.omci_types.specs.declared.Priority.{Priority}
use Rattle.omci_types.specs.declared.Priority.TheVariants.{Low, High}
use Rattle.tci_spec.specs.Tci.{priority_of, packet_tci}
use Rattle.link_spec.specs.declared.Direction.{Direction}
use Rattle.link_spec.specs.declared.Direction.TheVariants.{Down, Up}
use Rattle.link_spec.specs.declared.Way.{Way}
use Rattle.link_spec.specs.declared.TheConstants.{WINDOW}

-- a packet on the link
pub record Sent : Type 0 where
  pub direction : Direction
  pub bytes : List ℕ

-- a packet's lane is the priority of its TCI
abbrev pub lane_of : List ℕ → Priority
lane_of bytes = priority_of (packet_tci bytes)

-- one way for each direction and lane
pub record Ways : Type 0 where
  pub down_low : Way
  pub down_high : Way
  pub up_low : Way
  pub up_high : Way

abbrev pub way_in : Direction → Priority → Ways → Way
way_in Down Low w = w.down_low
way_in Down High w = w.down_high
way_in Up Low w = w.up_low
way_in Up High w = w.up_high

abbrev pub with_way : Direction → Priority → Way → Ways → Ways
with_way Down Low way w = record w { down_low = way }
with_way Down High way w = record w { down_high = way }
with_way Up Low way w = record w { up_low = way }
with_way Up High way w = record w { up_high = way }

-- the way of a packet
abbrev pub way_of : Sent → Ways → Way
way_of s w = way_in s.direction (lane_of s.bytes) w

-- nothing below that number comes any more, or is fresh
abbrev pub way_from : ℕ → Way
way_from number = record { floor = number; mark = number }

abbrev pub ways_from : ℕ → Ways
ways_from number =
    record {
      down_low = way_from number;
      down_high = way_from number;
      up_low = way_from number;
      up_high = way_from number;
    }

-- a direction, named by whether it is down
abbrev pub direction_if : (down : Bool) → Direction
direction_if true = Down
direction_if false = Up

abbrev pub is_down : Direction → Bool
is_down Down = true
is_down Up = false

-- the packets of both directions, oldest first, so that a packet's number is its place
pub record Link : Type 0 where
  pub packets : List Sent
  pub ways : Ways

abbrev pub empty_link : Link
empty_link = record { packets = []; ways = ways_from 0 }

-- how many packets were sent
abbrev pub count : Link → ℕ
count l = length l.packets

-- a packet goes onto the link
abbrev pub sent_on : Sent → Link → Link
sent_on s l = record l { packets = l.packets ++ s ∷ [] }

-- a packet is forgotten once WINDOW were sent after it
abbrev pub is_young : ℕ → ℕ → Bool
is_young number count = nat_le count (number + WINDOW)

-- a packet that was sent may come: it isn't below its way's floor, and not too old
abbrev pub may_come : ℕ → Way → ℕ → Bool
may_come number way count = nat_le way.floor number && is_young number count

abbrev pub if_may_come : Bool → Sent → Option Sent
if_may_come true s = Some s
if_may_come false s = None

abbrev pub allowed_one : ℕ → Option Sent → Ways → ℕ → Option Sent
allowed_one number None ways count = None
allowed_one number (Some s) ways count = if_may_come (may_come number (way_of s ways) count) s

-- the packet of that number, where it may come
unfoldable pub allowed : ℕ → Link → Option Sent
allowed number l = allowed_one number (slice_get l.packets number) l.ways (count l)

-- the way after the delivery of that number
abbrev pub passed : ℕ → Way → Way
passed number w = record { floor = number; mark = max w.mark (number + 1) }

-- the ways after the delivery of that packet
unfoldable pub ways_past : ℕ → Sent → Ways → Ways
ways_past number s w = with_way s.direction (lane_of s.bytes) (passed number (way_of s w)) w

-- the packet of that number was delivered
abbrev pub delivered_on : ℕ → Sent → Link → Link
delivered_on number s l = record l { ways = ways_past number s l.ways }

abbrev pub carried_on : ℕ → Option Sent → Link → Link
carried_on number None l = l
carried_on number (Some s) l = delivered_on number s l

-- the link after a delivery of that number, which changes nothing where the packet may not come
unfoldable pub link_after : ℕ → Link → Link
link_after number l = carried_on number (allowed number l) l

-- whether a packet's receiver is on
abbrev pub is_heard : Direction → Bool → Bool → Bool
is_heard Down unit_on manager_on = unit_on
is_heard Up unit_on manager_on = manager_on

-- a packet is fresh where its receiver is on, and it is at or past its way's mark and may come
abbrev pub is_fresh : Bool → Bool → ℕ → Sent → Ways → ℕ → Bool
is_fresh unit_on manager_on number s ways count =
    is_heard s.direction unit_on manager_on && nat_le (way_of s ways).mark number
    && may_come number (way_of s ways) count

-- the first fresh packet of these, which begin at that number
abbrev pub first_fresh : Bool → Bool → ℕ → List Sent → Ways → ℕ → Option ℕ
first_fresh unit_on manager_on number [] ways count = None
first_fresh unit_on manager_on number (s ∷ rest) ways count =
    if is_fresh unit_on manager_on number s ways count then Some number
    else first_fresh unit_on manager_on (number + 1) rest ways count

-- the oldest fresh packet
unfoldable pub fresh : Bool → Bool → Link → Option ℕ
fresh unit_on manager_on l = first_fresh unit_on manager_on 0 l.packets l.ways (count l)

-- an end starts: it finds the link empty
abbrev pub emptied : Link → Link
emptied l = record l { ways = ways_from (count l) }
