-- An image of 63 bytes, and its sections as they come.
use Rattle.std.specs.Prelude.{ℕ, zero, suc, Bool, List, [], ◌∷◌, ◌++◌, replicate}
use Rattle.window_spec.specs.declared.Arrived.{Arrived}
use Rattle.window_spec.specs.Incoming.{Section, section, Window, after_section, answer}
use Rattle.window_spec.specs.Outgoing.{Outgoing, new_outgoing, after_window}

abbrev pub image : List ℕ
image = 255 ∷ 255 ∷ 255 ∷ 255 ∷ replicate 58 0 ++ 1 ∷ []

-- its three sections
abbrev pub first_section : List ℕ
first_section = 255 ∷ 255 ∷ 255 ∷ 255 ∷ replicate 27 0

abbrev pub second_section : List ℕ
second_section = replicate 31 0

abbrev pub third_section : List ℕ
third_section = 1 ∷ replicate 30 0

-- its windows of two sections
abbrev pub first_window : Outgoing
first_window = new_outgoing image 2

abbrev pub second_window : Outgoing
second_window = after_window first_window

-- a section as it comes, and whether it has AR
pub record Coming : Type 0 where
  pub section : Section
  pub last : Bool

abbrev pub coming : ℕ → ℕ → List ℕ → Bool → Coming
coming tci number bytes last = record { section = section tci number bytes; last = last }

-- the answers to sections that come one after the other
abbrev pub answers : List Coming → Window → List Arrived
answers [] w = []
answers (one ∷ rest) w = answer one.section one.last w ∷ answers rest (after_section one.section w)

-- what is held after them
abbrev pub held_after : List Coming → Window → Window
held_after [] w = w
held_after (one ∷ rest) w = held_after rest (after_section one.section w)

-- 256 sections of no byte under TCI 1
abbrev pub empty_sections : ℕ → List (List ℕ)
empty_sections zero = []
empty_sections (suc n) = [] ∷ empty_sections n
