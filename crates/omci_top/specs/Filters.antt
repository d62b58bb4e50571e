-- What each answer of a command that makes a text of a text says of the source and of the sink.
use Rattle.std.specs.Prelude.{ℕ, ◌≡◌, ◌⊎◌, List, [], Option, Result, Ok, Err}
use Rattle.std.specs.Io.KnownBytes.{Appends}
use Rattle.omci_core.specs.Causes.{Rose}
use Rattle.whole_writes.specs.Writing.{WritesFront}
use Rattle.command_lines.specs.declared.Filter.{Filter}
use Rattle.command_lines.specs.declared.Filter.TheVariants.{Meter, Capture}
use Rattle.meter_lines_spec.specs.Replies.{meter_text}
use Rattle.capture_spec.specs.Output.{capture_text}
use Rattle.omci_top.specs.Streams.{ReadsWhole, ReadsPast}
use Rattle.omci_top.specs.Texts.{input_text}
use Rattle.omci_top.specs.declared.status.Status.{Status}
use Rattle.omci_top.specs.declared.status.Status.TheVariants.{Done, Input, ReadFault, WriteFault, TooLong, NoMemory}
use Rattle.omci_top.specs.declared.streams.TheConstants.{LARGEST_INPUT}

-- what a filter makes of an input: its whole output, or the first fault of the input, by its line
-- and its reason
abbrev pub filtered : Filter → List ℕ → Result (List ℕ) (ℕ × ℕ)
filtered Meter input = meter_text input
filtered Capture input = capture_text input

-- what is to be written of it
abbrev pub text_of : Result (List ℕ) (ℕ × ℕ) → List ℕ
text_of (Ok text) = text
text_of (Err at) = input_text at.0 at.1

-- What a filter over an input comes to at the sink, by its answer. No other answer comes.
abbrev pub FilterEnds : Status → Filter → List ℕ → (written_before written_now : Option (List ℕ))
    (write_before write_now : ℕ) → Type 0
FilterEnds Done filter input written_before written_now write_before write_now =
    ((text : List ℕ) × (filtered filter input ≡ Ok text)
    × Appends written_before written_now text)
    × (write_now ≡ write_before)
FilterEnds (Input place reason) filter input written_before written_now write_before write_now =
    (filtered filter input ≡ Err (place, reason))
    × Appends written_before written_now (input_text place reason)
    × (write_now ≡ write_before)
FilterEnds WriteFault filter input written_before written_now write_before write_now =
    WritesFront (text_of (filtered filter input)) written_before written_now
    × Rose write_before write_now
FilterEnds NoMemory filter input written_before written_now write_before write_now =
    (Appends written_before written_now []
    ⊎ WritesFront (text_of (filtered filter input)) written_before written_now)
    × (write_now ≡ write_before)
FilterEnds _ filter input written_before written_now write_before write_now = ⊥

-- the source was read to its end, and the filter over what it gave ended with this answer
pub record FilterReads (status : Status) (filter : Filter)
    (left_before left_now written_before written_now : Option (List ℕ))
    (write_before write_now : ℕ) : Type 0 where
  pub input : List ℕ
  pub read : ReadsWhole LARGEST_INPUT left_before left_now input
  pub ends : FilterEnds status filter input written_before written_now write_before write_now

-- What a filter comes to, by its answer.
abbrev pub AnswersFilter : Status → Filter
    → (left_before left_now written_before written_now : Option (List ℕ))
    (read_before read_now write_before write_now : ℕ) → Type 0
AnswersFilter ReadFault filter left_before left_now written_before written_now read_before read_now
    write_before write_now =
    Rose read_before read_now × (write_now ≡ write_before)
AnswersFilter TooLong filter left_before left_now written_before written_now read_before read_now
    write_before write_now =
    ReadsPast LARGEST_INPUT left_before left_now
    × (read_now ≡ read_before) × (write_now ≡ write_before)
AnswersFilter NoMemory filter left_before left_now written_before written_now read_before read_now
    write_before write_now =
    ((Appends written_before written_now [] × (write_now ≡ write_before))
    ⊎ FilterReads NoMemory filter left_before left_now written_before written_now write_before
    write_now)
    × (read_now ≡ read_before)
AnswersFilter status filter left_before left_now written_before written_now read_before read_now
    write_before write_now =
    FilterReads status filter left_before left_now written_before written_now write_before
    write_now
    × (read_now ≡ read_before)
