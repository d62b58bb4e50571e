-- Streams of frames of both message sets.
use Rattle.std.specs.Prelude.{ℕ, ◌==◌, if◌then◌else◌, List, length, Option, Some, None, Result, Ok, Err}
use Rattle.extended_spec.specs.declared.AnyFault.{AnyFault}
use Rattle.extended_spec.specs.declared.AnyFault.TheVariants.{Device, Short, Trailer, Check, Length, NoMemory}
use Rattle.extended_spec.specs.declared.AnyStreamFault.{AnyStreamFault}
use Rattle.extended_spec.specs.Frames.{Any, any_of, any_bytes, any_fault_of}
use Rattle.stream_spec.specs.Streams.{Front, Whole, Open, Faulty, Reader}

-- what bytes show that have this first fault: too few bytes may become a frame
abbrev pub any_front_by : Option AnyFault → List ℕ → Front Any AnyFault
any_front_by None bytes = Whole (any_of bytes) (any_bytes bytes)
any_front_by (Some (Short have)) bytes = Open
any_front_by (Some (Device byte)) bytes = Faulty (Device byte)
any_front_by (Some (Trailer trailer)) bytes = Faulty (Trailer trailer)
any_front_by (Some (Check given computed)) bytes = Faulty (Check given computed)
any_front_by (Some (Length given)) bytes = Faulty (Length given)
any_front_by (Some NoMemory) bytes = Faulty NoMemory

-- what bytes show at their front
unfoldable pub any_front : List ℕ → Front Any AnyFault
any_front bytes = any_front_by (any_fault_of bytes) bytes

-- the answer where so many bytes are held that show no fault, the first of them from this place
abbrev pub any_held_bytes_fault : ℕ → ℕ → Result Unit AnyStreamFault
any_held_bytes_fault count at = if count == 0 then Ok tt
    else Err (record { at = at; fault = Short count })

-- The answer of a reader whose stream has ended: a fault that stands, or the bytes that are held,
-- also where they begin with a whole frame that was not taken.
abbrev pub any_finish_from : Front Any AnyFault → Reader → Result Unit AnyStreamFault
any_finish_from (Faulty fault) reader = Err (record { at = reader.at; fault = fault })
any_finish_from Open reader = any_held_bytes_fault (length reader.held) reader.at
any_finish_from (Whole frame count) reader = any_held_bytes_fault (length reader.held) reader.at

-- what a reader of such a stream answers when it is asked for a frame
pub data TakenView : Type 0 where
  GivenFrame : Any → TakenView
  WantsMore : TakenView
  ShowsFault : ℕ → AnyFault → TakenView

abbrev pub any_taken_from : Front Any AnyFault → ℕ → TakenView
any_taken_from (Whole frame count) at = GivenFrame frame
any_taken_from Open at = WantsMore
any_taken_from (Faulty fault) at = ShowsFault at fault
