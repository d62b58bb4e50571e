-- The fault that the code answers for a piece's fault.
use Rattle.std.specs.Prelude.{Option, Some, None}
use Rattle.upload_spec.specs.declared.PieceFault.{PieceFault}
use Rattle.upload_spec.specs.declared.PieceFault.TheVariants as piece
use Rattle.mib_upload.specs.declared.gather.GatherFault.{GatherFault}
use Rattle.mib_upload.specs.declared.gather.GatherFault.TheVariants as gather

-- want of memory comes where the piece has no fault
abbrev pub fault_as : Option PieceFault → GatherFault
fault_as None = gather.NoMemory
fault_as (Some piece.Empty) = gather.Empty
fault_as (Some (piece.ClassUnknown class)) = gather.ClassUnknown class
fault_as (Some (piece.Truncated entity)) = gather.Truncated entity
fault_as (Some (piece.Repeated entity attribute)) = gather.Repeated entity attribute
