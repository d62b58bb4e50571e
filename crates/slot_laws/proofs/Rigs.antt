-- What is known of a disk holds of what it reads as, and of what each cut would leave.
use Rattle.std.proofs.Common.{◌≡◌, ℕ, List, Option, Some, sym, ◌∙◌, subst}
use Rattle.slot_spec.specs.declared.DiskHeader.{DiskHeader}
use Rattle.slot_spec.specs.declared.Pick.{Pick}
use Rattle.slot_spec.specs.Slots.{SlotPair}
use Rattle.slot_spec.specs.Layout.{StandsAt}
use Rattle.slot_spec.specs.Rig.{Rigged, RigHolds}
use Rattle.slot_spec.specs.Owner.{Shows, Settled}

same_some : (a b : List ℕ) → ◌≡◌ {A = Option (List ℕ)} (Some a) (Some b) → a ≡ b
same_some a b e = cc

module _ {D : Type 0} (seen : D → Option (List ℕ)) (may_leave : D → List ℕ → Type 0) (rig : D → Option Rigged) (rig_reads : (disk : D) (r : Rigged) → rig disk ≡ Some r → seen disk ≡ Some r.bytes) (cut_counts : (disk : D) (r : Rigged) (pick : Pick) → rig disk ≡ Some r → may_leave disk (r.cut pick))
    (disk : D) (header : DiskHeader) (s : SlotPair) (r : Rigged) (is : rig disk ≡ Some r) (settled : Settled seen may_leave disk header s) where
  pub bytes_are : settled.bytes ≡ r.bytes
  bytes_are = same_some settled.bytes r.bytes (sym settled.reads ∙ rig_reads disk r is)

  pub rig_shows : RigHolds (λ bytes t. Shows header t bytes) s r
  rig_shows = record { reads = subst (λ (b : List ℕ). Shows header s b) bytes_are settled.shows; cuts = λ pick. settled.crash (r.cut pick) (cut_counts disk r pick is) }

  pub rig_stands : RigHolds (StandsAt header.room) s r
  rig_stands = record { reads = rig_shows.reads.stands; cuts = λ pick. (rig_shows.cuts pick).stands }
