-- How the turns of a run join.
use Rattle.std.proofs.Common.{◌≡◌, ℕ, ◌+◌, ◌≤◌, ◌<◌, Bool, true, false, ◌||◌, List, [], ◌∷◌, length}
use Rattle.std.proofs.Common.{Option, Some, refl, arith}
use Rattle.std.proofs.lemmas.Bool.{false≢true}
use Rattle.std.proofs.lemmas.Bool.Decides.{nat_tests}
use Rattle.std.specs.Prelude.{nat_le}
use Rattle.slot_spec.specs.Slots.{SlotPair}
use Rattle.slot_spec.specs.Rig.{Rigged}
use Rattle.image_store.specs.declared.state.State.{State as Form}
use Rattle.image_store.specs.Stands.{state_disk}
use Rattle.onu_agent.specs.State.{State}
use Rattle.turn_spec.specs.Arrivals.{Arrival}
use Rattle.turn_spec.specs.UnitTurns.{Turn, is_closed}
use Rattle.unit_turns.specs.Running.{UnitRuns, Shown, Before}
use Rattle.unit_turns.specs.Ending.{RunEnds}
use Rattle.unit_turns.specs.declared.ending.UnitStatus.TheVariants.{Done}
use Rattle.unit_turns.proofs.Turning.{at_rest}

le_says : (a b : ℕ) → nat_le a b ≡ true → a ≤ b
le_says a b h = grind (arith, nat_tests, h)

not_le : (a b : ℕ) → b < a → nat_le a b ≡ false
not_le a b h = either (nat_le a b) refl
  where
    either : (x : Bool) → nat_le a b ≡ x → x ≡ false
    either true e = absurd (omega (arith, le_says a b e, h))
    either false e = refl

is_le : (a b : ℕ) → a ≤ b → nat_le a b ≡ true
is_le a b h = grind (arith, nat_tests, h)

or_false : (a b : Bool) → a ≡ false → b ≡ false → (a || b) ≡ false
or_false true b x y = x
or_false false b x y = y

or_first : (a b : Bool) → a ≡ true → (a || b) ≡ true
or_first true b x = refl
or_first false b x = absurd (false≢true x)

module _ {D : Type 0} (seen : D → Option (List ℕ)) (may_leave : D → List ℕ → Type 0)
    (clock : D → ℕ) (left_since : D → ℕ → List ℕ → Type 0) (faults : D → ℕ) where
  -- so many turns were taken, and none found the link closed
  pub record RunSoFar (room : ℕ) (s0 : SlotPair) (limit : ℕ) (mounted : D)
      (left0 left : Option (List Arrival)) (sent0 sent : Option (List (List ℕ)))
      (written0 written : Option (List ℕ)) (agent : State D) (size life place : ℕ) : Type 0 where
    pub turns : List Turn
    pub count : length turns ≡ place
    pub opened : is_closed turns ≡ false
    pub runs : UnitRuns seen may_leave clock left_since faults room s0 limit mounted agent size life
        turns
    pub shown : Shown room s0 turns [] [] [] left0 left sent0 sent written0 written

  -- the same of each run that began with this agent
  abbrev pub RunsOn : (limit : ℕ) (first_left left : Option (List Arrival))
      (first_sent sent : Option (List (List ℕ))) (first_written written : Option (List ℕ))
      (first : State D) (first_size first_life : ℕ) (agent : State D) (size life place : ℕ)
      → Type 0
  RunsOn limit first_left left first_sent sent first_written written first first_size first_life
      agent size life place =
      (room : ℕ) (s0 : SlotPair) (mounted : D) (left0 : Option (List Arrival))
      (sent0 : Option (List (List ℕ))) (written0 : Option (List ℕ))
      → UnitRuns seen may_leave clock left_since faults room s0 limit mounted first first_size
      first_life []
      → Shown room s0 [] [] [] [] left0 first_left sent0 first_sent written0 first_written
      → RunSoFar room s0 limit mounted left0 left sent0 sent written0 written agent size life place

  pub runs_begin : (limit : ℕ) (left : Option (List Arrival)) (sent : Option (List (List ℕ)))
      (written : Option (List ℕ)) (first : State D) (size life : ℕ)
      → RunsOn limit left left sent sent written written first size life first size life 0
  runs_begin limit left sent written first size life =
      λ room s0 mounted left0 sent0 written0 runs shown.
      record { turns = []; count = refl; opened = refl; runs = runs; shown = shown }

  module _ (room : ℕ) (s0 : SlotPair) (limit : ℕ) (mounted : D)
      (left0 left : Option (List Arrival)) (sent0 sent : Option (List (List ℕ)))
      (written0 written : Option (List ℕ)) (agent : State D) (size life place : ℕ)
      (r : RunSoFar room s0 limit mounted left0 left sent0 sent written0 written agent size life
      place) where
    pub run_before : (turn : ℕ) → place < limit → turn ≡ place + 1
        → Before seen may_leave clock left_since faults room s0 limit mounted agent size life turn
        r.turns left0 left sent0 sent written0 written
    run_before turn below is =
        record {
          runs = r.runs;
          shown = r.shown;
          goes_on = or_false (nat_le limit (length r.turns)) (is_closed r.turns)
              (not_le limit (length r.turns) (omega (arith, below, r.count))) r.opened;
          turn_is = omega (arith, is, r.count);
        }

    -- one more turn
    pub run_next : (now : Option (List Arrival)) (sent_now : Option (List (List ℕ)))
        (written_now : Option (List ℕ)) (new : State D) (size_now life_now : ℕ)
        → (t : Turn) × (is_closed (t ∷ r.turns) ≡ false)
        × UnitRuns seen may_leave clock left_since faults room s0 limit mounted new size_now
        life_now (t ∷ r.turns)
        × Shown room s0 (t ∷ r.turns) [] [] [] left0 now sent0 sent_now written0 written_now
        → RunSoFar room s0 limit mounted left0 now sent0 sent_now written0 written_now new size_now
        life_now (place + 1)
    run_next now sent_now written_now new size_now life_now next =
        record {
          turns = next.0 ∷ r.turns;
          count = omega (arith, r.count);
          opened = next.1;
          runs = next.2;
          shown = next.3;
        }

    -- all turns were taken
    pub run_done : (rig : D → Option Rigged) (disk : D) → limit ≤ place
        → ((state : Form D) → agent.unit.images.state ≡ Some state → disk ≡ state_disk state)
        → RunEnds seen may_leave clock left_since faults Done room s0 limit mounted disk left0 left
        sent0 sent written0 written
    run_done rig disk all gives = (
      r.turns,
      or_first (nat_le limit (length r.turns)) (is_closed r.turns)
          (is_le limit (length r.turns) (omega (arith, all, r.count))),
      at_rest seen may_leave clock left_since rig faults room s0 limit mounted size r.turns agent
          life disk r.runs gives,
      r.shown,
    )
