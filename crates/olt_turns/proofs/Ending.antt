-- How a turn begins, what ends a run before its end, and what its last line tells.
use Rattle.std.proofs.Common.{◌≡◌, ℕ, ◌+◌, ◌-◌, ◌≤◌, Bool, true, List, length, drop, Option, sym, ◌∙◌, subst, arith, length-drop}
use Rattle.omci_core.specs.Causes.{Rose}
use Rattle.script_spec.specs.Script.{Action}
use Rattle.turn_spec.specs.OltTurns.{OltState}
use Rattle.olt_seat.specs.Seat.{Seat, StopsLink, Begins}
use Rattle.olt_turns.specs.Running.{EndsOlt}
use Rattle.olt_seat.specs.declared.fault.OltFault.{OltFault}
use Rattle.olt_seat.specs.declared.fault.OltFault.TheVariants as fault

-- ---- what stands before a turn

pub begun_so : (begun is : Bool) (turns : ℕ) (st now : OltState) (before after : List ℕ) (a a' : Option (List (List ℕ)))
    → begun ≡ is → Begins begun turns st now before after a a' → Begins is turns st now before after a a'
begun_so begun is turns st now before after a a' same begins =
    subst (λ b. Begins b turns st now before after a a') same begins

-- what the link gives doesn't begin a turn
pub grown : (turns : ℕ) (w v new : Seat) (begun : Bool) → begun ≡ true
    → (begun ≡ true → (v.turn ≡ w.turn + 1) × (v.turn ≤ turns)) → new.turn ≡ v.turn
    → (new.turn ≡ w.turn + 1) × (new.turn ≤ turns)
grown turns w v new begun is grows same =
    let more = grows is in (same ∙ more.0, omega (arith, same, more.1))

-- ---- what ends a run

-- a call of the link alone leaves the sink as it was
pub stops_ends : (e : OltFault) (l l' l'' s s' : ℕ) → l' ≡ l → StopsLink e l' l'' → s' ≡ s → EndsOlt e l l'' s s'
stops_ends fault.NoMemory l l' l'' s s' kept stops same = (stops ∙ kept, same)
stops_ends fault.Link l l' l'' s s' kept stops same = (subst (λ n. Rose n l'') kept stops, same)
stops_ends fault.Write l l' l'' s s' kept stops same = absurd stops

-- ---- the last line

pub orders_left : (actions : List Action) (given count : ℕ) → count ≡ length actions - given → count ≡ length (drop given actions)
orders_left actions given count is = is ∙ sym (length-drop given actions)
