-- Streams of baseline frames.
use Rattle.std.specs.Prelude.{ℕ, Bool, true, false, ◌==◌, if◌then◌else◌, List, length, Option, Some, None, Result, Ok, Err}
use Rattle.omci_types.specs.declared.Frame.{Frame}
use Rattle.frame_spec.specs.declared.TheConstants.{FRAME_BYTES}
use Rattle.frame_spec.specs.declared.FrameFault.{FrameFault}
use Rattle.frame_spec.specs.declared.FrameFault.TheVariants.{Device, Short, Trailer, Check}
use Rattle.frame_spec.specs.Baseline.{frame_of, fault_of}
use Rattle.stream_spec.specs.declared.StreamFault.{StreamFault}
use Rattle.stream_spec.specs.declared.Taken.{Taken}
use Rattle.stream_spec.specs.declared.Taken.TheVariants as taken
use Rattle.stream_spec.specs.Streams.{Front, Whole, Open, Faulty, Reader}

-- what bytes show that have this first fault: too few bytes may become a frame
abbrev pub front_by : Option FrameFault → List ℕ → Front Frame FrameFault
front_by None bytes = Whole (frame_of bytes) FRAME_BYTES
front_by (Some (Device byte)) bytes = Faulty (Device byte)
front_by (Some (Short have)) bytes = Open
front_by (Some (Trailer trailer)) bytes = Faulty (Trailer trailer)
front_by (Some (Check given computed)) bytes = Faulty (Check given computed)

-- what bytes show at their front
unfoldable pub front_of : List ℕ → Front Frame FrameFault
front_of bytes = front_by (fault_of bytes) bytes

-- the answer of a reader that is asked for a frame
abbrev pub taken_from : Front Frame FrameFault → ℕ → Taken
taken_from (Whole frame count) at = taken.Frame frame
taken_from Open at = taken.More
taken_from (Faulty fault) at = taken.Fault at fault

abbrev pub is_fault : Taken → Bool
is_fault (taken.Frame frame) = false
is_fault taken.More = false
is_fault (taken.Fault at fault) = true

-- the answer where so many bytes are held that show no fault, the first of them from this place
abbrev pub held_bytes_fault : ℕ → ℕ → Result Unit StreamFault
held_bytes_fault count at = if count == 0 then Ok tt
    else Err (record { at = at; fault = Short count })

-- The answer of a reader whose stream has ended: a fault that stands, or the bytes that are held,
-- also where they are a whole frame that was not taken.
abbrev pub finish_from : Front Frame FrameFault → Reader → Result Unit StreamFault
finish_from (Faulty fault) reader = Err (record { at = reader.at; fault = fault })
finish_from Open reader = held_bytes_fault (length reader.held) reader.at
finish_from (Whole frame count) reader = held_bytes_fault (length reader.held) reader.at
