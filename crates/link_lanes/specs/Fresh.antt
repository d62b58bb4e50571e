-- The oldest fresh packet of each direction, which the link keeps.
use Rattle.std.specs.Prelude.{◌≡◌, ℕ, ◌+◌, ◌-◌, ◌≤◌, ◌^◌, Bool, true, false, not, length, drop, Option, Some, None, min}
use Rattle.link_spec.specs.declared.TheConstants.{WINDOW}
use Rattle.link_spec.specs.declared.Direction.{Direction}
use Rattle.link_spec.specs.declared.Direction.TheVariants.{Down, Up}
use Rattle.link_spec.specs.Link.{Ways, is_down, first_fresh}
use Rattle.link_spec.specs.Held.{Held}
use Rattle.link_lanes.specs.Latest.{Latest, first_of}

-- the oldest fresh packet of a direction
abbrev pub fresh_in : Direction → Latest → Ways → Option ℕ
fresh_in d l ways = first_fresh (is_down d) (not (is_down d)) (first_of l) l.last ways l.count

abbrev pub sooner : Option ℕ → Option ℕ → Option ℕ
sooner None b = b
sooner (Some a) None = Some a
sooner (Some a) (Some b) = Some (min a b)

abbrev pub if_on : Bool → Option ℕ → Option ℕ
if_on true o = o
if_on false o = None

-- the packets of a direction below that number may be passed over
abbrev pub Skips : Direction → ℕ → Latest → Ways → Type 0
Skips d n l ways =
    first_fresh (is_down d) (not (is_down d)) (first_of l + (n - first_of l))
    (drop (n - first_of l) l.last) ways l.count ≡ fresh_in d l ways

-- what a link holds
abbrev pub held_as : Latest → Ways → Held
held_as l ways = record { count = l.count; last = l.last; ways = ways }

-- The packets that are held were sent and are no more than may be held, and the kept answers are
-- the oldest fresh ones.
pub record IsLink (l : Latest) (ways : Ways) (to_unit to_manager : Option ℕ) : Type 0 where
  pub countable : l.count ≤ 2 ^ 63
  pub sent : length l.last ≤ l.count
  pub held : length l.last ≤ WINDOW
  pub down : to_unit ≡ fresh_in Down l ways
  pub up : to_manager ≡ fresh_in Up l ways
