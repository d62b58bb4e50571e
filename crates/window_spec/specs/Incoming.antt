-- What a unit holds of a window, and what it makes of a section that comes.
use Rattle.std.specs.Prelude.{ℕ, ◌+◌, ◌%◌, ◌==◌, ◌&&◌, ◌||◌, Bool, true, false, if◌then◌else◌, List, [], ◌∷◌, ◌++◌, take}
use Rattle.frame_spec.specs.declared.TheConstants.{FIRST_HIGH_TCI}
use Rattle.tci_spec.specs.Tci.{number_after, priority_of, tci_of}
use Rattle.window_spec.specs.declared.Fit.{Fit}
use Rattle.window_spec.specs.declared.Fit.TheVariants.{Begins, Extends, Apart}
use Rattle.window_spec.specs.declared.Arrived.{Arrived}
use Rattle.window_spec.specs.declared.Arrived.TheVariants.{Held, Ignored, Whole, Broken}

-- a section as it comes: the TCI of its packet, its number in its window, and its bytes
pub record Section : Type 0 where
  pub tci : ℕ
  pub number : ℕ
  pub bytes : List ℕ

abbrev pub section : ℕ → ℕ → List ℕ → Section
section tci number bytes = record { tci = tci; number = number; bytes = bytes }

-- what is held of a window: how many sections, the TCI of the last one, and their bytes in order
pub record Window : Type 0 where
  pub sections : ℕ
  pub tci : ℕ
  pub bytes : List ℕ

abbrev pub no_window : Window
no_window = record { sections = 0; tci = 0; bytes = [] }

-- the TCI after a TCI: that of the next number in the same priority
abbrev pub tci_after : ℕ → ℕ
tci_after tci = tci_of (priority_of tci) (number_after (tci % FIRST_HIGH_TCI))

-- whether a section of the second TCI may follow one of the first: they are the same, or it is the
-- TCI after
abbrev pub is_next_tci : ℕ → ℕ → Bool
is_next_tci before tci = (tci == before) || (tci == tci_after before)

-- whether a section is the next of what is held
abbrev pub is_next : Section → Window → Bool
is_next s w = (s.number == w.sections) && is_next_tci w.tci s.tci

-- how a section fits what is held: number 0 begins a window, the next number extends the held one
unfoldable pub fit : Section → Window → Fit
fit s w = if s.number == 0 then Begins else if is_next s w then Extends else Apart

-- what is held, with one more section
abbrev pub with_section : Section → Window → Window
with_section s w = record { sections = w.sections + 1; tci = s.tci; bytes = w.bytes ++ s.bytes }

abbrev pub window_by : Fit → Section → Window → Window
window_by Begins s w = with_section s no_window
window_by Extends s w = with_section s w
window_by Apart s w = w

-- what is held after a section
unfoldable pub after_section : Section → Window → Window
after_section s w = window_by (fit s w) s w

abbrev pub answer_by : Fit → Bool → ℕ → Arrived
answer_by Begins false held = Held
answer_by Begins true held = Whole held
answer_by Extends false held = Held
answer_by Extends true held = Whole held
answer_by Apart false held = Ignored
answer_by Apart true held = Broken

-- what becomes of a section, which is its window's last where its packet has AR; a window is whole
-- with as many sections as are held then
unfoldable pub answer : Section → Bool → Window → Arrived
answer s last w = answer_by (fit s w) last (after_section s w).sections

-- what is held after sections, the first of them first
abbrev pub after_sections : List Section → Window → Window
after_sections [] w = w
after_sections (s ∷ rest) w = after_sections rest (after_section s w)

-- what is held, its bytes cut where the image ends: so many are still to come
abbrev pub cut_window : ℕ → Window → Window
cut_window room w = record w { bytes = take room w.bytes }
