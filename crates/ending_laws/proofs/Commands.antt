-- Every command ends, over any list of moves.
use Rattle.std.proofs.Common.{◌≡◌, ℕ, ◌+◌, ◌*◌, ◌≤◌, ◌<◌, List, [], ◌∷◌, Option, Some, None, ◌⊎◌, inl, inr, refl, sym, ap, subst, ◌∙◌, arith}
use Rattle.omci_types.specs.declared.Priority.{Priority}
use Rattle.omci_types.specs.declared.Priority.TheVariants.{Low, High}
use Rattle.lane_spec.specs.Lane.{Lane, Waiting, timeout_of}
use Rattle.manager_spec.specs.Manager.{Manager, lane_in, manager_started}
use Rattle.ending_spec.specs.Moves.{Move, Probe, Submit, Check, Resync, Audit, Download, Packet, Second, outcome_of, taken_out, after_move, after_moves, seconds_of, seconds_in}
use Rattle.ending_spec.specs.Commands.{most_seconds, seconds_waited, CommandEnds}
use Rattle.ending_laws.proofs.Lanes.{TellsCommand, IsLane, IsSound, Stays, Goes, lane_sound, idle_is, stays_same, more_of_more}
use Rattle.ending_laws.proofs.Calls.{Steady, probe_steady, submit_steady, check_steady, resync_steady, audit_steady, image_steady}
use Rattle.ending_laws.proofs.Seconds.{second_sound, second_goes}
use Rattle.ending_laws.proofs.Packets.{packet_steady}

-- ---- one move

pub move_sound : (v : Move) (m : Manager) → IsSound m → IsSound (outcome_of v m).manager
move_sound (Probe lane) m = (probe_steady lane m).sound
move_sound (Submit lane entity asked) m = (submit_steady lane entity asked m).sound
move_sound Check m = (check_steady m).sound
move_sound Resync m = (resync_steady m).sound
move_sound Audit m = (audit_steady m).sound
move_sound (Download slot window check image) m = (image_steady slot window check image m).sound
move_sound (Packet bytes) m = (packet_steady bytes m).sound
move_sound Second m = second_sound m

pub move_goes : (v : Move) (m : Manager) → IsSound m → (lane : Priority)
    → Goes lane (seconds_of v) m (outcome_of v m)
move_goes (Probe lane) m h = (probe_steady lane m).goes
move_goes (Submit lane entity asked) m h = (submit_steady lane entity asked m).goes
move_goes Check m h = (check_steady m).goes
move_goes Resync m h = (resync_steady m).goes
move_goes Audit m h = (audit_steady m).goes
move_goes (Download slot window check image) m h = (image_steady slot window check image m).goes
move_goes (Packet bytes) m h = (packet_steady bytes m).goes
move_goes Second m h = λ lane. second_goes lane m h

-- ---- many moves

out_sound : (m : Manager) → IsSound m → IsSound (taken_out m)
out_sound m h = record { low = h.low; high = h.high }

pub after_sound : (v : Move) (m : Manager) → IsSound m → IsSound (after_move v m)
after_sound v m h = out_sound (outcome_of v m).manager (move_sound v m h)

pub moves_sound : (moves : List Move) (m : Manager) → IsSound m → IsSound (after_moves moves m)
moves_sound [] m h = h
moves_sound (v ∷ rest) m h = moves_sound rest (after_move v m) (after_sound v m h)

pub started_sound : (low high : ℕ) → IsSound (manager_started low high)
started_sound low high = record {
  low = idle_is Low (manager_started low high).low refl refl;
  high = idle_is High (manager_started low high).high refl refl;
}

pub lane_out : (lane : Priority) (m : Manager) → lane_in lane (taken_out m) ≡ lane_in lane m
lane_out Low m = refl
lane_out High m = refl

-- what is outstanding has been so for less than the lane's seconds
pub waited_less : (lane : Priority) (l : Lane) (w : Waiting) → IsLane lane l
    → l.outstanding ≡ Some w → seconds_waited lane w < most_seconds lane
waited_less Low l w h e = less w.repeats w.ticks (h.repeats w e) (h.ticks w e)
  where
    less : (r t : ℕ) → r ≤ 2 → t < 3 → 3 * r + t < 9
    less r t a b = omega (arith, a, b)
waited_less High l w h e = less w.repeats w.ticks (h.repeats w e) (h.ticks w e)
  where
    less : (r t : ℕ) → r ≤ 2 → t < 1 → 1 * r + t < 3
    less r t a b = omega (arith, a, b)

pub too_long : (a b : ℕ) → b < a → a ≤ b + 0 → ⊥
too_long a b lt le = omega (arith, lt, le)

pub less_left : (most a b k rest : ℕ) → b ≡ a + k → most ≤ a + (k + rest) → most ≤ b + rest
less_left most a b k rest e le = omega (arith, e, le)

pub ends : (lane : Priority) (moves : List Move) (m : Manager) (w : Waiting) → IsSound m
    → (lane_in lane m).outstanding ≡ Some w
    → most_seconds lane ≤ seconds_waited lane w + seconds_in moves
    → CommandEnds lane w.tci moves m
ends lane [] m w h e le =
    absurd (too_long (most_seconds lane) (seconds_waited lane w)
    (waited_less lane (lane_in lane m) w (lane_sound lane m h) e) le)
ends lane (v ∷ rest) m w h e le =
    ends_by (move_goes v m h lane w e)
    (λ x out more. ends lane rest (after_move v m) x (after_sound v m h) out more)
  where
    ends_by : TellsCommand lane w.tci (outcome_of v m)
        ⊎ Stays lane w (seconds_of v) (lane_in lane (outcome_of v m).manager)
        → ((x : Waiting) → (lane_in lane (after_move v m)).outstanding ≡ Some x
        → most_seconds lane ≤ seconds_waited lane x + seconds_in rest
        → CommandEnds lane x.tci rest (after_move v m))
        → CommandEnds lane w.tci (v ∷ rest) m
    ends_by (inl told) later = inl told
    ends_by (inr s) later = inr (subst (λ tci. CommandEnds lane tci rest (after_move v m)) s.tci
        (later s.waiting
        (ap (λ l. l.outstanding) (lane_out lane (outcome_of v m).manager) ∙ s.waits)
        (less_left (most_seconds lane) (seconds_waited lane w) (seconds_waited lane s.waiting)
        (seconds_of v) (seconds_in rest) s.waited le)))

-- or none of the moves tells its end, and it goes on waiting
pub goes_on : (lane : Priority) (moves : List Move) (m : Manager) (w : Waiting) → IsSound m
    → (lane_in lane m).outstanding ≡ Some w
    → CommandEnds lane w.tci moves m
    ⊎ Stays lane w (seconds_in moves) (lane_in lane (after_moves moves m))
goes_on lane [] m w h e = inr (stays_same lane (lane_in lane m) w e)
goes_on lane (v ∷ rest) m w h e =
    goes_by (move_goes v m h lane w e)
    (λ x out. goes_on lane rest (after_move v m) x (after_sound v m h) out)
  where
    joined : (s : Stays lane w (seconds_of v) (lane_in lane (outcome_of v m).manager))
        → CommandEnds lane s.waiting.tci rest (after_move v m)
        ⊎ Stays lane s.waiting (seconds_in rest) (lane_in lane (after_moves rest (after_move v m)))
        → CommandEnds lane w.tci (v ∷ rest) m
        ⊎ Stays lane w (seconds_in (v ∷ rest)) (lane_in lane (after_moves (v ∷ rest) m))
    joined s (inl told) = inl (inr (subst (λ tci. CommandEnds lane tci rest (after_move v m)) s.tci
        told))
    joined s (inr q) = inr (record {
      waiting = q.waiting;
      waits = q.waits;
      tci = q.tci ∙ s.tci;
      waited = q.waited ∙ more_of_more (seconds_waited lane w) (seconds_waited lane s.waiting)
          (seconds_of v) (seconds_in rest) s.waited;
    })

    goes_by : TellsCommand lane w.tci (outcome_of v m)
        ⊎ Stays lane w (seconds_of v) (lane_in lane (outcome_of v m).manager)
        → ((x : Waiting) → (lane_in lane (after_move v m)).outstanding ≡ Some x
        → CommandEnds lane x.tci rest (after_move v m)
        ⊎ Stays lane x (seconds_in rest) (lane_in lane (after_moves rest (after_move v m))))
        → CommandEnds lane w.tci (v ∷ rest) m
        ⊎ Stays lane w (seconds_in (v ∷ rest)) (lane_in lane (after_moves (v ∷ rest) m))
    goes_by (inl told) later = inl (inl told)
    goes_by (inr s) later = joined s (later s.waiting
        (ap (λ l. l.outstanding) (lane_out lane (outcome_of v m).manager) ∙ s.waits))

pub more : (a b c : ℕ) → a ≤ c → a ≤ b + c
more a b c le = omega (arith, le)

pub all_commands_end : (low high : ℕ) (past moves : List Move) (lane : Priority) (w : Waiting)
    → (lane_in lane (after_moves past (manager_started low high))).outstanding ≡ Some w
    → most_seconds lane ≤ seconds_in moves
    → CommandEnds lane w.tci moves (after_moves past (manager_started low high))
all_commands_end low high past moves lane w e le =
    ends lane moves (after_moves past (manager_started low high)) w
    (moves_sound past (manager_started low high) (started_sound low high)) e
    (more (most_seconds lane) (seconds_waited lane w) (seconds_in moves) le)
