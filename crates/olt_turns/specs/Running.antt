-- What a run of the manager alone says of the link and of the sink, at its end or where a fault
-- broke it off.
use Rattle.std.specs.Prelude.{◌≡◌, ℕ, Bool, true, false, List, ◌++◌, Option}
use Rattle.std.specs.Io.KnownBytes.{Appends}
use Rattle.omci_core.specs.Causes.{Rose}
use Rattle.script_spec.specs.Script.{Orders}
use Rattle.turn_spec.specs.Arrivals.{Arrival}
use Rattle.turn_spec.specs.OltTurns.{OltState, OltRun, olt_run_from, olt_run, at_end, led}
use Rattle.whole_writes.specs.Writing.{WritesFront}
use Rattle.olt_seat.specs.Seat.{packets_after, SendsFront, TookAll}
use Rattle.olt_seat.specs.declared.fault.OltFault.{OltFault}
use Rattle.olt_seat.specs.declared.fault.OltFault.TheVariants as fault

-- ---- the whole run

-- The run over the orders and what the link gave has come to its end: its packets were sent, and
-- its lines written.
pub record HasRun (turns : ℕ) (orders : Orders) (left_before left_now : Option (List Arrival))
    (sent_before sent_now : Option (List (List ℕ))) (written_before written_now : Option (List ℕ))
    : Type 0 where
  pub taken : List Arrival
  pub took : TookAll taken left_before left_now
  pub ended : (olt_run turns orders taken).ended ≡ true
  pub sent : sent_now ≡ packets_after (olt_run turns orders taken).packets sent_before
  pub written : Appends written_before written_now (olt_run turns orders taken).text

-- A fault broke the run off: some of the first of these packets were sent, and some of the first of
-- these lines written.
pub record HasRunInPart (turns : ℕ) (orders : Orders) (left_before left_now : Option (List Arrival))
    (sent_before sent_now : Option (List (List ℕ))) (written_before written_now : Option (List ℕ))
    : Type 0 where
  pub taken : List Arrival
  pub took : TookAll taken left_before left_now
  pub sent : SendsFront (olt_run turns orders taken).packets sent_before sent_now
  pub written : WritesFront (olt_run turns orders taken).text written_before written_now

-- why a run ended before its end: want of memory with no fault, a fault of the link, or one of the
-- sink
abbrev pub EndsOlt : OltFault → (link_before link_now sink_before sink_now : ℕ) → Type 0
EndsOlt fault.NoMemory link_before link_now sink_before sink_now =
    (link_now ≡ link_before) × (sink_now ≡ sink_before)
EndsOlt fault.Link link_before link_now sink_before sink_now =
    Rose link_before link_now × (sink_now ≡ sink_before)
EndsOlt fault.Write link_before link_now sink_before sink_now =
    (link_now ≡ link_before) × Rose sink_before sink_now

-- ---- some turns of it

-- what follows: more turns, or the last line
abbrev pub rest_of : (goes_on : Bool) → (turns : ℕ) → List Arrival → OltState → OltRun
rest_of true turns more s = olt_run_from turns more s
rest_of false turns more s = at_end s

-- So many turns were taken, from one state to another: with these packets and these lines before
-- the rest it is the whole run.
pub record Ran (turns : ℕ) (st now : OltState) (goes_on : Bool)
    (left_before left_now : Option (List Arrival)) (sent_before sent_now : Option (List (List ℕ)))
    (written_before written_now : Option (List ℕ)) : Type 0 where
  pub taken : List Arrival
  pub took : TookAll taken left_before left_now
  pub packets : List (List ℕ)
  pub sent : sent_now ≡ packets_after packets sent_before
  pub text : List ℕ
  pub written : Appends written_before written_now text
  pub rest : (more : List Arrival) → olt_run_from turns (taken ++ more) st
      ≡ led packets text (rest_of goes_on turns more now)

-- the same of turns of which a fault broke off the last
pub record RanInPart (turns : ℕ) (st : OltState) (left_before left_now : Option (List Arrival))
    (sent_before sent_now : Option (List (List ℕ))) (written_before written_now : Option (List ℕ))
    : Type 0 where
  pub taken : List Arrival
  pub took : TookAll taken left_before left_now
  pub sent : SendsFront (olt_run_from turns taken st).packets sent_before sent_now
  pub written : WritesFront (olt_run_from turns taken st).text written_before written_now
