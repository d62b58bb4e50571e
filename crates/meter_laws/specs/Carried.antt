-- Requests of lines that are carried out, each with its reply.
use Rattle.std.specs.Prelude.{◌≡◌, ℕ, List, [], ◌∷◌, Some}
use Rattle.meter_spec.specs.declared.Command.{Command}
use Rattle.meter_spec.specs.Events.{History, carried}
use Rattle.meter_spec.specs.Replies.{reply_to}
use Rattle.meter_spec.specs.Meter.{monitor_of, answer}
use Rattle.meter_lines_spec.specs.declared.MeterLine.{MeterLine}
use Rattle.meter_lines_spec.specs.declared.MeterLine.TheVariants as lines
use Rattle.meter_lines_spec.specs.Replies.{request, after, tci_after}

-- a request is carried out after these events, and its reply is its answer
pub record IsCarriedOut (tci : ℕ) (command : Command) (instance mask : ℕ) (h : History)
    : Type 0 where
  pub now : carried (request tci command instance mask) h ≡ Some command
  pub reply : answer (request tci command instance mask) h
      ≡ Some (reply_to command (request tci command instance mask) (monitor_of instance h))

abbrev pub IsRun : ℕ → MeterLine → History → Type 0
IsRun tci (lines.Request command instance mask) h = IsCarriedOut tci command instance mask h
IsRun tci (lines.Count instance attribute n) h = Unit {0}
IsRun tci (lines.Pass ticks) h = Unit {0}

-- each request of lines is carried out, of which the first would have this TCI, after these events
unfoldable pub AreCarriedOut : ℕ → List MeterLine → History → Type 0
AreCarriedOut tci [] h = Unit {0}
AreCarriedOut tci (line ∷ later) h =
    IsRun tci line h × AreCarriedOut (tci_after tci line) later (after tci line h)
