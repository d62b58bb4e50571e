-- What the check knows of the lines so far, and what one more line does to it.
use Rattle.std.specs.Prelude.{ℕ, ◌+◌, ◌==◌, ◌<◌, nat_le, Bool, false, if◌then◌else◌, List}
use Rattle.std.specs.Prelude.{replicate, slice_get, slice_set, Option, Some, None, is_some}
use Rattle.omci_types.specs.declared.Frame.{Frame}
use Rattle.tci_spec.specs.Tci.{is_low}
use Rattle.capture_spec.specs.declared.TheConstants.{TCIS}
use Rattle.capture_spec.specs.declared.CaptureItem.{CaptureItem}
use Rattle.capture_spec.specs.declared.CaptureItem.TheVariants.{Down, Up, Start}
use Rattle.capture_spec.specs.declared.Breach.{Breach}
use Rattle.capture_spec.specs.Places.{or_else}
use Rattle.capture_spec.specs.Runs.{Lines, wants_reply}
use Rattle.capture_spec.specs.Breaches.{unfit_to, reply_unlike, request_unlike}
use Rattle.capture_check.specs.declared.checker.Run.{Run}

pub record Known : Type 0 where
  -- the latest run of each TCI
  pub table : List (Option Run)
  -- the place after the last start
  pub since : ℕ
  -- the last requests of both priorities
  pub low : Option ℕ
  pub high : Option ℕ
  pub runs : ℕ
  pub replies : ℕ

unfoldable pub nothing_known : Known
nothing_known = record {
  table = replicate TCIS None;
  since = 0;
  low = None;
  high = None;
  runs = 0;
  replies = 0;
}

abbrev pub run_in : Option (Option Run) → Option Run
run_in (Some run) = run
run_in None = None

abbrev pub last_of : ℕ → Known → Option ℕ
last_of tci s = if is_low tci then s.low else s.high

abbrev pub is_place : ℕ → Option ℕ → Bool
is_place place (Some last) = last == place
is_place place None = false

-- a run, if its last request is of the span since the last start
abbrev pub live_run : ℕ → Option Run → Option Run
live_run since (Some run) = if nat_le since run.latest then Some run else None
live_run since None = None

unfoldable pub live : ℕ → Known → Option Run
live tci s = live_run s.since (run_in (slice_get s.table tci))

-- a run, if its last request is the last of its priority
abbrev pub continued_run : Option ℕ → Option Run → Option Run
continued_run last (Some run) = if is_place run.latest last then Some run else None
continued_run last None = None

unfoldable pub continued : ℕ → Known → Option Run
continued tci s = continued_run (last_of tci s) (live tci s)

abbrev pub asked_run : Bool → ℕ → Option Run → Run
asked_run wants place (Some run) = record {
  latest = place;
  first = run.first;
  with_ar = or_else run.with_ar (if wants then Some place else None);
  reply = run.reply;
}
asked_run wants place None = record {
  latest = place;
  first = place;
  with_ar = if wants then Some place else None;
  reply = None;
}

abbrev pub answered_run : ℕ → Run → Run
answered_run place run = record {
  latest = run.latest;
  first = run.first;
  with_ar = run.with_ar;
  reply = or_else run.reply (Some place);
}

unfoldable pub with_last : (tci place : ℕ) → Known → Known
with_last tci place s = record s {
  low = if is_low tci then Some place else s.low;
  high = if is_low tci then s.high else Some place;
}

unfoldable pub asked : ℕ → Frame → Known → Known
asked place request s =
    with_last request.tci place (record s {
      table = slice_set s.table request.tci
          (Some (asked_run (wants_reply request) place (continued request.tci s)));
      runs = s.runs + (if is_some (continued request.tci s) then 0 else 1);
    })

abbrev pub with_reply : (tci place : ℕ) → Option Run → List (Option Run) → List (Option Run)
with_reply tci place (Some run) table = slice_set table tci (Some (answered_run place run))
with_reply tci place None table = table

unfoldable pub answered : ℕ → Frame → Known → Known
answered place reply s = record s {
  table = with_reply reply.tci place (live reply.tci s) s.table;
  replies = s.replies + 1;
}

abbrev pub reply_breach : Lines → Frame → Option Run → Option Breach
reply_breach lines reply (Some run) =
    or_else (unfit_to lines reply run.first) (reply_unlike lines reply run.reply)
reply_breach lines reply None = Some (record { kind = 1; earlier = 0 })

abbrev pub with_ar_of : Option Run → Option ℕ
with_ar_of (Some run) = run.with_ar
with_ar_of None = None

abbrev pub request_breach : Lines → Frame → Option Run → Option Breach
request_breach lines request run =
    if wants_reply request then request_unlike lines request (with_ar_of run) else None

-- What is wrong with a line that has an item, where this is known of those before it.
abbrev pub found_in : Lines → Option CaptureItem → Known → Option Breach
found_in lines (Some (Down request)) s =
    request_breach lines request (continued request.tci s)
found_in lines (Some (Up frame)) s =
    if frame.tci == 0 then None else reply_breach lines frame (live frame.tci s)
found_in lines (Some Start) s = None
found_in lines None s = None

abbrev pub started : ℕ → Known → Known
started place s = record s { since = place + 1 }

-- What is known after the line at a place, which has this item.
abbrev pub taken_in : ℕ → Option CaptureItem → Known → Known
taken_in place (Some (Down request)) s = asked place request s
taken_in place (Some (Up frame)) s = if frame.tci == 0 then s else answered place frame s
taken_in place (Some Start) s = started place s
taken_in place None s = s

-- the TCI of a line's frame is one of 16 bits
abbrev pub Fits : Option CaptureItem → Type 0
Fits (Some (Down frame)) = frame.tci < TCIS
Fits (Some (Up frame)) = frame.tci < TCIS
Fits (Some Start) = Unit
Fits None = Unit
