-- The last packets of a link, and how they are held: the first 48 bytes of each packet stand in one
-- ring, and what a longer packet has past them in another, which has an item for each of these
-- packets alone.
use Rattle.std.specs.Prelude.{◌≡◌, ℕ, ◌+◌, ◌-◌, ◌≤◌, ◌^◌, Bool, true, false, nat_lt, List, [], ◌∷◌, ◌++◌, length, take, drop}
use Rattle.circular_buffer.specs.Buffer.{Buffer, buffer, keep_last}
use Rattle.frame_spec.specs.declared.TheConstants.{MAX_PACKET_BYTES}
use Rattle.link_spec.specs.declared.TheConstants.{WINDOW}
use Rattle.link_spec.specs.Link.{Sent, lane_of}
use Rattle.link_lanes.specs.declared.latest.Front.{Front}
use Rattle.link_lanes.specs.declared.latest.TheConstants.{FRONT_LENGTH}
use Rattle.link_lanes.specs.declared.ways.Tag.{Tag}

-- how many packets were sent, and the last of them
pub record Latest : Type 0 where
  pub count : ℕ
  pub last : List Sent

abbrev pub nothing_sent : Latest
nothing_sent = record { count = 0; last = [] }

-- one more packet, at the end of the last ones
abbrev pub added : Sent → Latest → Latest
added s l = record { count = l.count + 1; last = l.last ++ s ∷ [] }

abbrev pub with_packet : Sent → Latest → Latest
with_packet s l = record { count = l.count + 1; last = keep_last WINDOW (l.last ++ s ∷ []) }

-- room for one more
abbrev pub with_room : Latest → Latest
with_room l = record l { last = keep_last (WINDOW - 1) l.last }

-- the number of the first of them
abbrev pub first_of : Latest → ℕ
first_of l = l.count - length l.last

abbrev pub tag_of : Sent → Tag
tag_of s = record { direction = s.direction; lane = lane_of s.bytes }

-- ---- the two rings

abbrev pub is_long : Front → Bool
is_long f = nat_lt FRONT_LENGTH f.length

-- how many rests a packet has
abbrev pub rests_if : Bool → ℕ
rests_if true = 1
rests_if false = 0

abbrev pub rests_of : Front → ℕ
rests_of f = rests_if (is_long f)

abbrev pub rests_in : List Front → ℕ
rests_in [] = 0
rests_in (f ∷ fs) = rests_of f + rests_in fs

abbrev pub first_rest : List (List ℕ) → List ℕ
first_rest [] = []
first_rest (r ∷ rs) = r

abbrev pub bytes_by : (long : Bool) → Front → List ℕ → List ℕ
bytes_by true f rest = f.bytes ++ take (f.length - FRONT_LENGTH) rest
bytes_by false f rest = take f.length f.bytes

-- the packet whose front that is; its rest, where it has one, is the first of the rests
abbrev pub packet_of : Front → List (List ℕ) → Sent
packet_of f rests = record {
  direction = f.direction;
  bytes = bytes_by (is_long f) f (first_rest rests);
}

-- the packets of these fronts and rests
abbrev pub joined : List Front → List (List ℕ) → List Sent
joined [] rests = []
joined (f ∷ fs) rests = packet_of f rests ∷ joined fs (drop (rests_of f) rests)

-- each front has the number of rests before it, from k on
abbrev pub IsNumbered : ℕ → List Front → Type 0
IsNumbered k [] = Unit {0}
IsNumbered k (f ∷ fs) = (f.rests_before ≡ k) × IsNumbered (k + rests_of f) fs

pub record IsFront (f : Front) : Type 0 where
  pub least : 2 ≤ f.length
  pub most : f.length ≤ MAX_PACKET_BYTES
  pub whole : length f.bytes ≡ FRONT_LENGTH

abbrev pub AreFronts : List Front → Type 0
AreFronts [] = Unit {0}
AreFronts (f ∷ fs) = IsFront f × AreFronts fs

pub record IsLatest (fronts : Buffer Front) (rests : Buffer (List ℕ)) (sent rests_sent : ℕ) : Type 0
  where
    pub capacity : fronts.capacity ≡ WINDOW
    pub room : rests.capacity ≡ WINDOW
    pub fits : length fronts.items ≤ WINDOW
    pub within : length fronts.items ≤ sent
    pub below : sent ≤ 2 ^ 63
    pub fewer : rests_sent ≤ sent
    pub each : AreFronts fronts.items
    pub numbered : IsNumbered (rests_sent - length rests.items) fronts.items
    pub same : rests_in fronts.items ≡ length rests.items
    pub before : length rests.items ≤ rests_sent

-- the rest of these bytes, where they have one, was added
pub record AddsRest (bytes : List ℕ) (earlier later : Buffer (List ℕ)) (added : ℕ) : Type 0 where
  pub rests : List (List ℕ)
  pub items : later ≡ buffer (earlier.items ++ rests) earlier.capacity
  pub count : length rests ≡ added
  pub one : added ≡ rests_if (nat_lt FRONT_LENGTH (length bytes))
  pub holds : nat_lt FRONT_LENGTH (length bytes) ≡ true
      → take (length bytes - FRONT_LENGTH) (first_rest rests) ≡ drop FRONT_LENGTH bytes
