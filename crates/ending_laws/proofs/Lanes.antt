-- The lanes of a manager, and how a step leaves what is outstanding in one.
use Rattle.std.proofs.Common.{◌≡◌, ℕ, ◌+◌, ◌*◌, ◌≤◌, ◌<◌, Bool, true, false, List, [], ◌∷◌, Option, Some, None, ◌⊎◌, inl, inr, refl, sym, ap, subst, ◌∙◌, arith}
use Rattle.std.proofs.lemmas.Option.{same_Some}
use Rattle.omci_types.specs.declared.Priority.{Priority}
use Rattle.omci_types.specs.declared.Priority.TheVariants.{Low, High}
use Rattle.lane_spec.specs.declared.TheConstants.{MOST_REPEATS}
use Rattle.lane_spec.specs.Command.{Command}
use Rattle.lane_spec.specs.Lane.{Lane, Waiting, timeout_of}
use Rattle.manager_spec.specs.Manager.{Manager, Outcome, lane_in, with_lane, sends_nothing, and_then, command_sent}
use Rattle.world_laws.proofs.Likeness.{SameLanes}
use Rattle.ending_spec.specs.Moves.{told_by, is_told}
use Rattle.ending_spec.specs.Commands.{seconds_waited, ends_command}
use Rattle.ending_laws.proofs.Told.{KeepsReports, first_told, second_told}

-- what is outstanding in a lane was sent less than its timeout ago, and no more often than it may
pub record IsLane (lane : Priority) (l : Lane) : Type 0 where
  pub priority : l.priority ≡ lane
  pub ticks : (w : Waiting) → l.outstanding ≡ Some w → w.ticks < timeout_of lane
  pub repeats : (w : Waiting) → l.outstanding ≡ Some w → w.repeats ≤ MOST_REPEATS

pub record IsSound (m : Manager) : Type 0 where
  pub low : IsLane Low m.low
  pub high : IsLane High m.high

pub lane_sound : (lane : Priority) (m : Manager) → IsSound m → IsLane lane (lane_in lane m)
lane_sound Low m h = h.low
lane_sound High m h = h.high

pub with_sound : (lane : Priority) (l : Lane) (m : Manager) → IsSound m → IsLane lane l
    → IsSound (with_lane lane l m)
with_sound Low l m h k = record { low = k; high = h.high }
with_sound High l m h k = record { low = h.low; high = k }

pub same_sound : (m n : Manager) → SameLanes m n → IsSound m → IsSound n
same_sound m n s h = record {
  low = subst (IsLane Low) (sym s.low) h.low;
  high = subst (IsLane High) (sym s.high) h.high;
}

pub lane_same : (lane : Priority) (m n : Manager) → SameLanes m n → lane_in lane n ≡ lane_in lane m
lane_same Low m n s = s.low
lane_same High m n s = s.high

positive : (lane : Priority) → 0 < timeout_of lane
positive Low = omega arith
positive High = omega arith

-- a lane whose command was just drawn
pub drawn_is : (lane : Priority) (l : Lane) (w : Waiting) → l.priority ≡ lane
    → l.outstanding ≡ Some w → w.ticks ≡ 0 → w.repeats ≡ 0 → IsLane lane l
drawn_is lane l w p e t r = record {
  priority = p;
  ticks = λ v k. let same = same_Some w v (sym e ∙ k) in
      subst (λ (x : Waiting). x.ticks < timeout_of lane) same (subst (λ n. n < timeout_of lane) (sym t) (positive lane));
  repeats = λ v k. let same = same_Some w v (sym e ∙ k) in
      subst (λ (x : Waiting). x.repeats ≤ MOST_REPEATS) same (omega (arith, r));
}

-- a lane in which nothing is outstanding
pub idle_is : (lane : Priority) (l : Lane) → l.priority ≡ lane → l.outstanding ≡ None
    → IsLane lane l
idle_is lane l p e = record {
  priority = p;
  ticks = λ v k. absurd (differ v (sym e ∙ k));
  repeats = λ v k. absurd (differ v (sym e ∙ k));
}
  where
    differ : (v : Waiting) → None ≡ Some v → ⊥
    differ v e = cc

pub sent_sound : (asks : Bool) (lane : Priority) (c : Command) (m : Manager) → IsSound m
    → IsSound (command_sent asks lane c m).manager
sent_sound asks lane c m h =
    with_sound lane _ m h (drawn_is lane _ _ (lane_sound lane m h).priority refl refl refl)

-- ---- what is outstanding goes on waiting

pub record Stays (lane : Priority) (w : Waiting) (seconds : ℕ) (l : Lane) : Type 0 where
  pub waiting : Waiting
  pub waits : l.outstanding ≡ Some waiting
  pub tci : waiting.tci ≡ w.tci
  pub waited : seconds_waited lane waiting ≡ seconds_waited lane w + seconds

-- the outcome tells that the command ended
abbrev pub TellsCommand : Priority → (tci : ℕ) → Outcome → Type 0
TellsCommand lane tci o = is_told (ends_command lane tci) (told_by o) ≡ true

-- its end is told, or it goes on waiting
abbrev pub Goes : Priority → (seconds : ℕ) → Manager → Outcome → Type 0
Goes lane seconds m o = (w : Waiting) → (lane_in lane m).outstanding ≡ Some w
    → TellsCommand lane w.tci o ⊎ Stays lane w seconds (lane_in lane o.manager)

none_more : (n : ℕ) → n ≡ n + 0
none_more n = omega arith

pub stays_same : (lane : Priority) (l : Lane) (w : Waiting) → l.outstanding ≡ Some w
    → Stays lane w 0 l
stays_same lane l w e = record {
  waiting = w;
  waits = e;
  tci = refl;
  waited = none_more (seconds_waited lane w);
}

pub goes_same : (lane : Priority) (m : Manager) (o : Outcome)
    → lane_in lane o.manager ≡ lane_in lane m → Goes lane 0 m o
goes_same lane m o same = λ w e. inr
    (stays_same lane (lane_in lane o.manager) w (ap (λ l. l.outstanding) same ∙ e))

-- where the step's manager has the lane of another one
pub goes_from : (lane : Priority) (seconds : ℕ) (m n : Manager) (o : Outcome)
    → lane_in lane n ≡ lane_in lane m → Goes lane seconds n o → Goes lane seconds m o
goes_from lane seconds m n o same g = λ w e. g w (ap (λ l. l.outstanding) same ∙ e)

pub more_of_more : (a b k j : ℕ) → b ≡ a + k → b + j ≡ a + (k + j)
more_of_more a b k j e = omega (arith, e)

-- one step and then another
pub goes_then : (lane : Priority) (k j : ℕ) (m : Manager) (a : Outcome) (f : Manager → Outcome)
    → KeepsReports a.manager (f a.manager).manager → Goes lane k m a
    → Goes lane j a.manager (f a.manager)
    → Goes lane (k + j) m (and_then a f)
goes_then lane k j m a f keeps g h w e = first (g w e)
  where
    second : (s : Stays lane w k (lane_in lane a.manager))
        → TellsCommand lane s.waiting.tci (f a.manager)
        ⊎ Stays lane s.waiting j (lane_in lane (f a.manager).manager)
        → TellsCommand lane w.tci (and_then a f)
        ⊎ Stays lane w (k + j) (lane_in lane (and_then a f).manager)
    second s (inl t) = inl (second_told (ends_command lane w.tci) a f
        (subst (λ tci. TellsCommand lane tci (f a.manager)) s.tci t))
    second s (inr q) = inr (record {
      waiting = q.waiting;
      waits = q.waits;
      tci = q.tci ∙ s.tci;
      waited = q.waited
          ∙ more_of_more (seconds_waited lane w) (seconds_waited lane s.waiting) k j s.waited;
    })

    first : TellsCommand lane w.tci a ⊎ Stays lane w k (lane_in lane a.manager)
        → TellsCommand lane w.tci (and_then a f)
        ⊎ Stays lane w (k + j) (lane_in lane (and_then a f).manager)
    first (inl t) = inl (first_told (ends_command lane w.tci) a f keeps t)
    first (inr s) = second s (h s.waiting s.waits)

-- a command is drawn in a lane where nothing is outstanding
pub goes_sent : (lane to : Priority) (asks : Bool) (c : Command) (m : Manager)
    → (lane_in to m).outstanding ≡ None → Goes lane 0 m (command_sent asks to c m)
goes_sent Low Low asks c m none = λ w e. absurd (differ w (sym none ∙ e))
  where
    differ : (v : Waiting) → None ≡ Some v → ⊥
    differ v e = cc
goes_sent Low High asks c m none = goes_same Low m (command_sent asks High c m) refl
goes_sent High Low asks c m none = goes_same High m (command_sent asks Low c m) refl
goes_sent High High asks c m none = λ w e. absurd (differ w (sym none ∙ e))
  where
    differ : (v : Waiting) → None ≡ Some v → ⊥
    differ v e = cc
