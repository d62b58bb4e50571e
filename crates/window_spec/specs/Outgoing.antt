-- An image on its way: its sections, and the windows in which they are sent.
use Rattle.std.specs.Prelude.{ℕ, zero, suc, ◌+◌, ◌-◌, ◌*◌, ◌/◌, ◌≤◌, Bool, if◌then◌else◌, nat_le, min, List, [], ◌∷◌, length, drop}
use Rattle.frame_spec.specs.Widths.{front_filled}
use Rattle.window_spec.specs.declared.TheConstants.{SECTION_BYTES, MAX_IMAGE_BYTES}

-- a length that an image may have
pub record IsImageLength (count : ℕ) : Type 0 where
  pub some : 1 ≤ count
  pub most : count ≤ MAX_IMAGE_BYTES

-- how many sections an image has
unfoldable pub section_count : List ℕ → ℕ
section_count image = (length image + (SECTION_BYTES - 1)) / SECTION_BYTES

-- the section of an image in a place, counted from 0; the last one is filled with zeros
unfoldable pub section_at : ℕ → List ℕ → List ℕ
section_at place image = front_filled SECTION_BYTES (drop (SECTION_BYTES * place) image)

-- so many sections of an image, from a place on
abbrev pub sections_from : ℕ → ℕ → List ℕ → List (List ℕ)
sections_from zero place image = []
sections_from (suc count) place image = section_at place image
    ∷ sections_from count (place + 1) image

-- the sections of an image
abbrev pub sections_of : List ℕ → List (List ℕ)
sections_of image = sections_from (section_count image) 0 image

-- an image on its way: the most sections that a window has, and the place of the first section of
-- the window that is sent
pub record Outgoing : Type 0 where
  pub image : List ℕ
  pub most : ℕ
  pub first : ℕ

-- the first window is sent
abbrev pub new_outgoing : List ℕ → ℕ → Outgoing
new_outgoing image most = record { image = image; most = most; first = 0 }

-- how many sections are left, those of the window among them
abbrev pub sections_left : Outgoing → ℕ
sections_left o = section_count o.image - o.first

-- how many sections the window has
abbrev pub window_count : Outgoing → ℕ
window_count o = min o.most (sections_left o)

-- the sections of the window
abbrev pub window_sections : Outgoing → List (List ℕ)
window_sections o = sections_from (window_count o) o.first o.image

-- the sections of the windows before
abbrev pub sections_before : Outgoing → List (List ℕ)
sections_before o = sections_from o.first 0 o.image

-- whether no window comes after this one
abbrev pub is_last : Outgoing → Bool
is_last o = nat_le (sections_left o) o.most

-- the next window is sent; after the last one it stays
unfoldable pub after_window : Outgoing → Outgoing
after_window o = if is_last o then o else record o { first = o.first + o.most }
