-- What lines do to the interval counters, and what is written of them.
use Rattle.std.specs.Prelude.{ℕ, ◌+◌, List, [], ◌∷◌, ◌++◌, codes, decimal, Option, Some, None}
use Rattle.std.specs.Prelude.{Result, Ok}
use Rattle.std.specs.Int.{w16, to_be_bytes}
use Rattle.omci_types.specs.declared.Frame.{Frame}
use Rattle.frame_spec.specs.declared.TheConstants.{CONTENTS_BYTES}
use Rattle.frame_spec.specs.Widths.{filled}
use Rattle.tci_spec.specs.Tci.{number_after}
use Rattle.message_spec.specs.Text.{message_text}
use Rattle.script_spec.specs.Reading.{◌>>=◌}
use Rattle.meter_spec.specs.declared.TheConstants.{MONITOR_CLASS, ONU_CLASS, CREATE, DELETE, GET}
use Rattle.meter_spec.specs.declared.TheConstants.{GET_CURRENT_DATA, SYNCHRONIZE_TIME}
use Rattle.meter_spec.specs.declared.Command.{Command}
use Rattle.meter_spec.specs.declared.Command.TheVariants.{Create, Delete, Get, GetCurrent}
use Rattle.meter_spec.specs.declared.Command.TheVariants.{SynchronizeTime}
use Rattle.meter_spec.specs.declared.Counted.{Counted}
use Rattle.meter_spec.specs.declared.Counted.TheVariants.{Absent, Added}
use Rattle.meter_spec.specs.Events.{History, Asked, Grown}
use Rattle.meter_spec.specs.Meter.{answer, counted, with_ticks}
use Rattle.meter_lines_spec.specs.declared.MeterLine.{MeterLine}
use Rattle.meter_lines_spec.specs.declared.MeterLine.TheVariants as lines
use Rattle.meter_lines_spec.specs.Lines.{reading}

-- ---- requests

-- the type byte of a request
abbrev pub kind_of : Command → ℕ
kind_of Create = CREATE
kind_of Delete = DELETE
kind_of Get = GET
kind_of GetCurrent = GET_CURRENT_DATA
kind_of SynchronizeTime = SYNCHRONIZE_TIME

-- the class that a request names
abbrev pub class_of : Command → ℕ
class_of SynchronizeTime = ONU_CLASS
class_of command = MONITOR_CLASS

-- A request. A create sends no values: its contents are zero, as are those of a request without a
-- mask.
unfoldable pub request : ℕ → Command → (instance mask : ℕ) → Frame
request tci command instance mask = record {
  tci = tci;
  kind = kind_of command;
  entity = record { class = class_of command; instance = instance };
  contents = filled CONTENTS_BYTES (to_be_bytes w16 mask);
}

-- ---- one line

-- the events after a line whose request has that TCI
abbrev pub after : ℕ → MeterLine → History → History
after tci (lines.Request command instance mask) h = Asked (request tci command instance mask) ∷ h
after tci (lines.Count instance attribute n) h = Grown instance attribute n ∷ h
after tci (lines.Pass ticks) h = with_ticks ticks h

-- the TCI of the next request after a line
abbrev pub tci_after : ℕ → MeterLine → ℕ
tci_after tci (lines.Request command instance mask) = number_after tci
tci_after tci (lines.Count instance attribute n) = tci
tci_after tci (lines.Pass ticks) = tci

-- the line of a reply
abbrev pub reply_line : ℕ → Option Frame → List ℕ
reply_line event (Some reply) = decimal event ++ codes " " ++ message_text reply ++ codes "\n"
reply_line event None = []

-- the line of a count that isn't added
abbrev pub count_line : ℕ → Counted → List ℕ
count_line event Absent = decimal event ++ codes " absent\n"
count_line event Added = []

-- What is written of the line of an event, by the events before it and the TCI of its request.
abbrev pub line_text : (event tci : ℕ) → MeterLine → History → List ℕ
line_text event tci (lines.Request command instance mask) h =
    reply_line event (answer (request tci command instance mask) h)
line_text event tci (lines.Count instance attribute n) h =
    count_line event (counted instance attribute h)
line_text event tci (lines.Pass ticks) h = []

-- ---- all lines

-- What is written of lines, of which the first is this event and its request would have this TCI,
-- after these events.
unfoldable pub lines_text : (event tci : ℕ) → List MeterLine → History → List ℕ
lines_text event tci [] h = []
lines_text event tci (line ∷ later) h =
    line_text event tci line h
    ++ lines_text (event + 1) (tci_after tci line) later (after tci line h)

-- What is written of an input, or its first fault: the line's number, from 1, and the reason.
-- Events are numbered from 1 over the lines after the header, and so are the TCIs of requests.
unfoldable pub meter_text : List ℕ → Result (List ℕ) (ℕ × ℕ)
meter_text bytes = reading bytes >>= λ found. Ok (lines_text 1 1 found [])
