-- Every command ends, over the lines of any script.
use Rattle.std.proofs.Common.{◌≡◌, ℕ, ◌+◌, ◌≤◌, ◌<◌, List, [], ◌∷◌, Option, Some, None, ◌⊎◌, inl, inr, refl, sym, ap, subst, ◌∙◌, arith}
use Rattle.std.proofs.lemmas.Option.{same_Some}
use Rattle.omci_types.specs.declared.Priority.{Priority}
use Rattle.script_spec.specs.Script as script
use Rattle.script_spec.specs.Script.{Header, Action}
use Rattle.lane_spec.specs.Lane.{Waiting}
use Rattle.manager_spec.specs.Manager.{Manager, lane_in, manager_started}
use Rattle.world_spec.specs.Ends.{Step, cut_manager, start_manager}
use Rattle.world_spec.specs.Nodes.{Nodes, first_nodes, acted, next_event, step, nodes_after, nodes_after_step}
use Rattle.ending_spec.specs.Moves.{after_moves, seconds_in}
use Rattle.ending_spec.specs.Commands.{most_seconds, seconds_waited, ends_command, CommandEnds}
use Rattle.ending_spec.specs.Scripts.{ticks_of, ticks_in, IsOn, StaysOn, CommandEndsIn}
use Rattle.ending_laws.proofs.Lanes.{IsSound, Stays, lane_sound}
use Rattle.ending_laws.proofs.Commands.{moves_sound, started_sound, waited_less, goes_on, too_long, less_left, more}
use Rattle.ending_laws.proofs.Made.{Made}
use Rattle.ending_laws.proofs.Lines.{line_made, StaysOff, line_off}

-- ---- a line

pub step_made : (a : Action) (m : Manager) (n : Nodes) → n.ends.manager ≡ Some m → IsOn a
    → Made m (ticks_of a) (record { ends = (step a n).nodes.ends; happenings = (step a n).happenings })
unfolding step
step_made a m n on h =
    let k = line_made a m (next_event n) on h in
    record { moves = k.moves; manager = k.manager; passed = k.passed; told = k.told }

module _ (lane : Priority) (a : Action) (n : Nodes) where
  line_goes : (m : Manager) (w : Waiting) → n.ends.manager ≡ Some m → IsOn a → IsSound m
      → (lane_in lane m).outstanding ≡ Some w
      → (rest : List Action)
      → ((x : Manager) (v : Waiting) → (step a n).nodes.ends.manager ≡ Some x → IsSound x
      → (lane_in lane x).outstanding ≡ Some v
      → seconds_waited lane v ≡ seconds_waited lane w + ticks_of a
      → CommandEndsIn lane v.tci rest (step a n).nodes)
      → CommandEndsIn lane w.tci (a ∷ rest) n
  line_goes m w on h sound e rest later = parts (goes_on lane k.moves m w sound e)
    where
      k : Made m (ticks_of a) (record { ends = (step a n).nodes.ends; happenings = (step a n).happenings })
      k = step_made a m n on h

      parts : CommandEnds lane w.tci k.moves m
          ⊎ Stays lane w (seconds_in k.moves) (lane_in lane (after_moves k.moves m))
          → CommandEndsIn lane w.tci (a ∷ rest) n
      parts (inl told) = inl (k.told (ends_command lane w.tci) told)
      parts (inr s) = inr (subst (λ tci. CommandEndsIn lane tci rest (step a n).nodes) s.tci
          (later (after_moves k.moves m) s.waiting k.manager (moves_sound k.moves m sound) s.waits
          (s.waited ∙ ap (λ x. seconds_waited lane w + x) k.passed)))

-- ---- lines

pub ends_in : (lane : Priority) (lines : List Action) (n : Nodes) (m : Manager) (w : Waiting)
    → n.ends.manager ≡ Some m → IsSound m → StaysOn lines
    → (lane_in lane m).outstanding ≡ Some w
    → most_seconds lane ≤ seconds_waited lane w + ticks_in lines
    → CommandEndsIn lane w.tci lines n
ends_in lane [] n m w on sound stays e le =
    absurd (too_long (most_seconds lane) (seconds_waited lane w)
    (waited_less lane (lane_in lane m) w (lane_sound lane m sound) e) le)
ends_in lane (a ∷ rest) n m w on sound stays e le =
    line_goes lane a n m w on stays.0 sound e rest
    (λ x v is good out more.
    ends_in lane rest (step a n).nodes x v is good stays.1 out
    (less_left (most_seconds lane) (seconds_waited lane w) (seconds_waited lane v) (ticks_of a)
    (ticks_in rest) more le))

-- ---- every manager that a script reaches

abbrev pub AreSound : Nodes → Type 0
AreSound n = (m : Manager) → n.ends.manager ≡ Some m → IsSound m

same_Manager : (a b : Manager) → Some a ≡ Some b → a ≡ b
same_Manager a b e = same_Some a b e

not_none : (m : Manager) → None ≡ Some m → ⊥
not_none m e = cc

-- a manager that the power leaves is off
cut_off : (o : Option Manager) (n : Nodes) → n.ends.manager ≡ o
    → (cut_manager o n.ends).ends.manager ≡ None
cut_off None n off = off
cut_off (Some x) n on = refl

pub is_cut : (n : Nodes) → (step script.CutOlt n).nodes.ends.manager ≡ None
unfolding step acted
is_cut n = cut_off n.ends.manager (next_event n) refl

-- whether the power of the manager stays in a line
pub on_or_cut : (a : Action) → IsOn a ⊎ (a ≡ script.CutOlt)
on_or_cut script.CutOlt = inr refl
on_or_cut (script.Probe lane) = inl tt
on_or_cut (script.Reset lane) = inl tt
on_or_cut (script.Get lane entity mask) = inl tt
on_or_cut (script.Create lane entity values) = inl tt
on_or_cut (script.Set lane entity mask values) = inl tt
on_or_cut (script.Delete lane entity) = inl tt
on_or_cut (script.Activate lane slot) = inl tt
on_or_cut (script.Commit lane slot) = inl tt
on_or_cut (script.Reboot lane) = inl tt
on_or_cut script.Resync = inl tt
on_or_cut script.Audit = inl tt
on_or_cut script.Check = inl tt
on_or_cut (script.Image slot window check image) = inl tt
on_or_cut (script.Deliver number) = inl tt
on_or_cut (script.Flow times) = inl tt
on_or_cut (script.CutIn number call pick) = inl tt
on_or_cut (script.NoiseUnit bytes) = inl tt
on_or_cut (script.NoiseOlt bytes) = inl tt
on_or_cut script.Tick = inl tt
on_or_cut (script.Sense entity number value) = inl tt
on_or_cut (script.Alarm entity bitmap) = inl tt
on_or_cut script.CutUnit = inl tt
on_or_cut script.StartUnit = inl tt
on_or_cut (script.StartOlt low high) = inl tt

on_sound : (a : Action) (m : Manager) (n : Nodes) → n.ends.manager ≡ Some m → IsSound m → IsOn a
    → AreSound (step a n).nodes
on_sound a m n on sound h = λ x is.
    let k = step_made a m n on h in
    subst IsSound (same_Manager (after_moves k.moves m) x (sym k.manager ∙ is))
    (moves_sound k.moves m sound)

step_off : (a : Action) (n : Nodes) → n.ends.manager ≡ None
    → StaysOff (record { ends = (step a n).nodes.ends; happenings = (step a n).happenings })
unfolding step
step_off a n off = line_off a (next_event n) off

off_sound : (a : Action) (n : Nodes)
    → StaysOff (record { ends = (step a n).nodes.ends; happenings = (step a n).happenings })
    → AreSound (step a n).nodes
off_sound a n (inl off) = λ x is. absurd (not_none x (sym off ∙ is))
off_sound a n (inr starts) = λ x is.
    subst IsSound (same_Manager (manager_started starts.0 starts.1) x (sym starts.2 ∙ is))
    (started_sound starts.0 starts.1)

line_sound : (a : Action) (o : Option Manager) (n : Nodes) → n.ends.manager ≡ o → AreSound n
    → IsOn a ⊎ (a ≡ script.CutOlt) → AreSound (step a n).nodes
line_sound a None n off h on = off_sound a n (step_off a n off)
line_sound a (Some m) n on h (inl stays) = on_sound a m n on (h m on) stays
line_sound a (Some m) n on h (inr cut) =
    subst (λ b. AreSound (step b n).nodes) (sym cut)
    (λ x is. absurd (not_none x (sym (is_cut n) ∙ is)))

pub lines_sound : (lines : List Action) (n : Nodes) → AreSound n → AreSound (nodes_after lines n)
unfolding nodes_after
lines_sound [] n h = h
lines_sound (a ∷ rest) n h =
    lines_sound rest (step a n).nodes (line_sound a n.ends.manager n refl h (on_or_cut a))

pub first_sound : (h : Header) → AreSound (first_nodes h)
first_sound h = λ m is.
    subst IsSound (same_Manager (manager_started h.low h.high) m is) (started_sound h.low h.high)

pub scripts_end : (h : Header) (past lines : List Action) (lane : Priority) (m : Manager)
    (w : Waiting) → (nodes_after past (first_nodes h)).ends.manager ≡ Some m
    → (lane_in lane m).outstanding ≡ Some w → StaysOn lines
    → most_seconds lane ≤ ticks_in lines
    → CommandEndsIn lane w.tci lines (nodes_after past (first_nodes h))
scripts_end h past lines lane m w on e stays le =
    ends_in lane lines (nodes_after past (first_nodes h)) m w on
    (lines_sound past (first_nodes h) (first_sound h) m on) stays e
    (more (most_seconds lane) (seconds_waited lane w) (ticks_in lines) le)
