-- What becomes of a piece.
use Rattle.std.specs.Prelude.{◌≡◌, ℕ, List, Some, None}
use Rattle.upload_spec.specs.Copies.{piece_fault, with_copied, with_piece}
use Rattle.upload_spec.specs.declared.PieceFault.{PieceFault}
use Rattle.mib_upload.specs.declared.gather.GatherFault.{GatherFault}
use Rattle.mib_upload.specs.declared.part.Part.{Part}
use Rattle.mib_upload.specs.Parts.{part_as, copy_of, IsKnown}
use Rattle.mib_upload.specs.Faults.{fault_as}

-- the part is what the copy has of the piece's entity once the piece is joined
pub record Joins (parts : List Part) (piece : List ℕ) (part : Part) : Type 0 where
  pub good : piece_fault piece (copy_of parts) ≡ None
  pub known : IsKnown part
  pub joined : with_copied part.entity (part_as part).1 (copy_of parts)
      ≡ with_piece piece (copy_of parts)

-- the piece has this fault
pub record IsFault (parts : List Part) (piece : List ℕ) (fault : GatherFault) : Type 0 where
  pub first : PieceFault
  pub is : piece_fault piece (copy_of parts) ≡ Some first
  pub same : fault ≡ fault_as (Some first)
