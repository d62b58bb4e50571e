-- What the states of a disk of slots are.
use Rattle.std.specs.Prelude.{ℕ, List}
use Rattle.slot_spec.specs.declared.DiskHeader.{DiskHeader}

-- a disk of slots, and what its first bytes say
pub record Mounted (D : Type 0) : Type 0 where
  pub disk : D
  pub header : DiskHeader

-- the same while an image is put into a slot: which slot, how long the image is to be, how much of
-- it is there, and the check value and the version of that part
pub record Loading (D : Type 0) : Type 0 where
  pub disk : D
  pub header : DiskHeader
  pub target : ℕ
  pub size : ℕ
  pub have : ℕ
  pub crc : ℕ
  pub version : List ℕ

-- a disk of which a call failed
pub record Lost (D : Type 0) : Type 0 where
  pub disk : D
