-- The sections of a window in the code, and a list of packets that grows by some of its packets.
use Rattle.std.specs.Prelude.{◌≡◌, ◌≤◌, ◌-◌, ℕ, List, [], ◌++◌, length, take, Option, Some, None}
use Rattle.std.specs.Prelude.{get_or}
use Rattle.std.specs.List.{All}

-- 1 to 256 sections, each of 31 bytes
pub record AreSections (sections : List (List ℕ)) : Type 0 where
  pub some : 1 ≤ length sections
  pub most : length sections ≤ 256
  pub whole : All (λ section. length section ≡ 31) sections

abbrev pub HasSections : Option (List (List ℕ)) → Type 0
HasSections None = Unit {0}
HasSections (Some sections) = AreSections sections

-- those before the last one
abbrev pub earlier_of : Option (List (List ℕ)) → List (List ℕ)
earlier_of None = []
earlier_of (Some sections) = take (length sections - 1) sections

-- the last one
abbrev pub last_of : List (List ℕ) → List ℕ
last_of sections = get_or sections (length sections - 1) []

-- the first of some packets were added, or all of them, or none
pub record AddsFront (packets old new : List (List ℕ)) : Type 0 where
  pub added : List (List ℕ)
  pub rest : List (List ℕ)
  pub are : packets ≡ added ++ rest
  pub now : new ≡ old ++ added
