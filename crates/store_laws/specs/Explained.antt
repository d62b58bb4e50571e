-- Slots that the papers of a history explain. It is more than that a unit may start with them: the
-- other slot's image is explained too, so that it may be committed.
use Rattle.std.specs.Prelude.{◌≡◌, ℕ, true, List, Option, Some, IsSome}
use Rattle.slot_spec.specs.Slots.{SlotPair, image_at, after_change}
use Rattle.store_spec.specs.History.{Papers, Ledger, papers_at, IsCheck}
use Rattle.store_spec.specs.State.{StoreState}

-- the image in a slot, where there is one, is that of its papers
abbrev pub FromPapers : Papers → Option (List ℕ) → Type 0
FromPapers p image = (i : List ℕ) → image ≡ Some i → (p.image ≡ Some i) × IsCheck p.check i

pub record ExplainedBy (l : Ledger) (s : SlotPair) : Type 0 where
  pub some : IsSome (image_at s.committed s)
  pub named : (papers_at s.committed l).named ≡ true
  pub begun : (papers_at s.committed l).begun ≡ true
  pub first : FromPapers l.first s.first
  pub second : FromPapers l.second s.second

-- the slots of a store are explained, and so are those that its last request may have made of them
pub record StoreExplained (l : Ledger) (m : StoreState) : Type 0 where
  pub sure : ExplainedBy l m.slots
  pub doubtful : ExplainedBy l (after_change m.doubt m.slots)
