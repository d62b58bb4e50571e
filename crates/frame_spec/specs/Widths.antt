-- Bytes of a width, and bytes at a place.
use Rattle.std.specs.Prelude.{ℕ, ◌+◌, ◌-◌, List, ◌++◌, length, take, drop, replicate}

-- the bytes, filled with zeros up to a width
abbrev pub filled : ℕ → List ℕ → List ℕ
filled width bytes = bytes ++ replicate (width - length bytes) 0

-- the first bytes of a width; where there are fewer, zeros follow
abbrev pub front_filled : ℕ → List ℕ → List ℕ
front_filled width bytes = take width (filled width bytes)

-- some bytes in the place of those that stood there
abbrev pub with_bytes_at : ℕ → List ℕ → List ℕ → List ℕ
with_bytes_at at bytes whole = take at whole ++ bytes ++ drop (at + length bytes) whole
