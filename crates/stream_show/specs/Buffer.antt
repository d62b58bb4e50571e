-- What reading more of a stream makes of the bytes that are held.
use Rattle.std.specs.Prelude.{◌≡◌, ℕ, ◌≤◌, List, length, Option}
use Rattle.std.specs.Io.KnownBytes.{Consumes, IsAtEnd}
use Rattle.frame_spec.specs.Baseline.{IsBytes}
use Rattle.stream_spec.specs.Streams.{Reader, with_bytes}

-- these bytes were read, so many of at most so many; none exactly at the end
pub record ReadsPiece (left_before left_now : Option (List ℕ)) (piece : List ℕ) (count most : ℕ)
    : Type 0 where
  pub taken : Consumes left_before left_now piece
  pub long : length piece ≡ count
  pub few : count ≤ most
  pub fit : IsBytes piece
  pub ended : count ≡ 0 → IsAtEnd left_now

-- so many bytes were read, and stand after those that were held
pub record Fills (left_before left_now : Option (List ℕ)) (before now : Reader) (count most : ℕ)
    : Type 0 where
  pub piece : List ℕ
  pub read : ReadsPiece left_before left_now piece count most
  pub after : now ≡ with_bytes piece before
