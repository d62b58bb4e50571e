-- What a disk may hold after a crash, and how the calls that a disk takes one after the other join.
use Rattle.std.specs.Prelude.{◌≡◌, ◌⊎◌, ℕ, ◌+◌, ◌≤◌, ◌<◌, max, List, length, take, drop, get_or}

-- the bytes of a range
abbrev pub field : ℕ → ℕ → List ℕ → List ℕ
field at count bytes = take count (drop at bytes)

-- two disks have the same bytes outside a range, up to the old end
abbrev pub SameElsewhere : ℕ → ℕ → List ℕ → List ℕ → Type 0
SameElsewhere at count old new =
    (place : ℕ) → place < length old → (place < at) ⊎ (at + count ≤ place) → get_or new place 0
    ≡ get_or old place 0

-- a write of so many bytes was begun: any bytes stand in the range and past the old end, the old
-- ones elsewhere
pub record Torn (at count : ℕ) (old new : List ℕ) : Type 0 where
  pub elsewhere : SameElsewhere at count old new
  pub no_shorter : length old ≤ length new
  pub no_longer : length new ≤ max (length old) (at + count)

-- a write is done: these bytes stand in the range, the old ones elsewhere
pub record Written (at : ℕ) (bytes old new : List ℕ) : Type 0 where
  pub torn : Torn at (length bytes) old new
  pub there : field at (length bytes) new ≡ bytes

-- what a crash leaves once a write was begun on a disk that it could leave so before
abbrev pub TornFrom : ℕ → ℕ → (List ℕ → Type 0) → List ℕ → Type 0
TornFrom at count before image = (old : List ℕ) × before old × Torn at count old image

-- From one state of a disk to a later one, each crash leaves a disk that has P: a crash now, and
-- one at any moment between them. A longer run that began before them goes on: what it could have
-- left since then, it could have left before these calls, or it has P.
pub record Moments {D : Type 0} (clock : D → ℕ) (left_since : D → ℕ → List ℕ → Type 0)
    (may_leave : D → List ℕ → Type 0) (old new : D) (P : List ℕ → Type 0) : Type 0 where
  pub later : clock old ≤ clock new
  pub now : (image : List ℕ) → may_leave new image → P image
  pub between : (image : List ℕ) → left_since new (clock old) image → P image
  pub earlier : (time : ℕ) (image : List ℕ) → time ≤ clock old → left_since new time image
      → left_since old time image ⊎ P image

-- each disk that a crash may leave has so many bytes
abbrev pub HasLength : {D : Type 0} → (D → List ℕ → Type 0) → ℕ → D → Type 0
HasLength may_leave size disk = (image : List ℕ) → may_leave disk image → length image ≡ size
