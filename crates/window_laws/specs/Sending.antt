-- The sections of a window as they are sent, and what is added to an image's last one.
use Rattle.std.specs.Prelude.{ℕ, ◌+◌, ◌*◌, ◌-◌, List, [], ◌∷◌, length}
use Rattle.window_spec.specs.declared.TheConstants.{SECTION_BYTES}
use Rattle.window_spec.specs.Incoming.{Section, section}
use Rattle.window_spec.specs.Outgoing.{section_count}

-- sections under one TCI, with the numbers from this one on
abbrev pub numbered : ℕ → ℕ → List (List ℕ) → List Section
numbered tci number [] = []
numbered tci number (bytes ∷ rest) = section tci number bytes ∷ numbered tci (number + 1) rest

-- how many zeros fill the last section of an image
abbrev pub padding : List ℕ → ℕ
padding image = SECTION_BYTES * section_count image - length image
