-- Sections that come one after the other, and those of them that are held.
use Rattle.std.specs.Prelude.{◌≡◌, ℕ, ◌+◌, ◌⊎◌, true, List, [], ◌∷◌, ◌++◌, length}
use Rattle.std.specs.List.{flat_map}
use Rattle.window_spec.specs.declared.Fit.{Fit}
use Rattle.window_spec.specs.declared.Fit.TheVariants.{Begins, Extends, Apart}
use Rattle.window_spec.specs.Incoming.{Section, Window, is_next_tci, fit}

-- a section fits what is held: it begins a window, or is the next of the one that is held
abbrev pub Fits : Section → Window → Type 0
Fits s w = (s.number ≡ 0) ⊎ ((s.number ≡ w.sections) × (is_next_tci w.tci s.tci ≡ true))

-- the TCI of the last of these sections, or the one given where there is none
abbrev pub last_tci : ℕ → List Section → ℕ
last_tci tci [] = tci
last_tci tci (s ∷ rest) = last_tci s.tci rest

-- what is held where these sections are
abbrev pub window_of : List Section → Window
window_of held = record {
  sections = length held;
  tci = last_tci 0 held;
  bytes = flat_map (λ s. s.bytes) held;
}

abbrev pub held_by : Fit → Section → List Section → List Section
held_by Begins s held = s ∷ []
held_by Extends s held = held ++ s ∷ []
held_by Apart s held = held

-- the sections that are held after one more has come: it alone, it behind those before, or those
abbrev pub held_with : Section → List Section → List Section
held_with s held = held_by (fit s (window_of held)) s held

-- those of the sections that came that are held, where some were held before
abbrev pub held_of : List Section → List Section → List Section
held_of [] held = held
held_of (s ∷ rest) held = held_of rest (held_with s held)

-- sections with the numbers from this one on, each under the TCI of the one before or the TCI after
abbrev pub AreNext : ℕ → ℕ → List Section → Type 0
AreNext number tci [] = Unit {0}
AreNext number tci (s ∷ rest) = (s.number ≡ number)
    × ((is_next_tci tci s.tci ≡ true) × AreNext (number + 1) s.tci rest)

-- the sections of a window in order, with none missing: their numbers are 0, 1, 2 and so on
abbrev pub AreWindow : List Section → Type 0
AreWindow [] = Unit {0}
AreWindow (s ∷ rest) = (s.number ≡ 0) × AreNext 1 s.tci rest
