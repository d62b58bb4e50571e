-- The two image slots, what a request makes of them, and the slots that a crash inside it may
-- leave.
use Rattle.std.specs.Prelude.{ℕ, zero, suc, List, [], ◌∷◌, Option, Some, None}

-- the images of slot 0 and slot 1, and which slot is committed
pub record SlotPair : Type 0 where
  pub first : Option (List ℕ)
  pub second : Option (List ℕ)
  pub committed : ℕ

-- the image of a slot
abbrev pub image_at : ℕ → SlotPair → Option (List ℕ)
image_at zero s = s.first
image_at (suc _) s = s.second

abbrev pub with_image : ℕ → Option (List ℕ) → SlotPair → SlotPair
with_image zero image s = record { first = image; second = s.second; committed = s.committed }
with_image (suc _) image s = record { first = s.first; second = image; committed = s.committed }

abbrev pub with_committed : ℕ → SlotPair → SlotPair
with_committed slot s = record { first = s.first; second = s.second; committed = slot }

-- What a request makes of the slots, once its tests hold: nothing; the start of a download over an
-- open gate, which leaves the slot without an image; its end, which gives the slot the whole image;
-- a commit of the other slot.
pub data Change : Type 0 where
  Keep : Change
  Clear : ℕ → Change
  Seal : ℕ → List ℕ → Change
  Commit : ℕ → Change

-- the slots after the request
abbrev pub after_change : Change → SlotPair → SlotPair
after_change Keep s = s
after_change (Clear target) s = with_image target None s
after_change (Seal target image) s = with_image target (Some image) s
after_change (Commit slot) s = with_committed slot s

-- the slots that a crash at some moment of the request may leave: those before its deciding write,
-- and those after it
abbrev pub mid : Change → SlotPair → List SlotPair
mid Keep s = s ∷ []
mid (Clear target) s = s ∷ with_image target None s ∷ []
mid (Seal target image) s = s ∷ with_image target (Some image) s ∷ []
mid (Commit slot) s = s ∷ with_committed slot s ∷ []
