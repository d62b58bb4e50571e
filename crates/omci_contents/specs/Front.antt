-- What an append leaves of the bytes before it, also where it fails.
use Rattle.std.specs.Prelude.{◌≡◌, ℕ, List, length, take}

-- the bytes begin with these
pub record IsFront (front bytes : List ℕ) : Type 0 where
  pub kept : take (length front) bytes ≡ front
