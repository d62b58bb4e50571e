-- Every job ends, over any list of moves.
use Rattle.std.proofs.Common.{◌≡◌, ℕ, ◌+◌, ◌-◌, ◌*◌, ◌≤◌, ◌<◌, Bool, true, false, List, [], ◌∷◌, Option, Some, None, ◌⊎◌, inl, inr, refl, sym, ap, subst, ◌∙◌, arith}
use Rattle.std.specs.Prelude.{max}
use Rattle.std.proofs.lemmas.Option.{same_Some}
use Rattle.omci_types.specs.declared.Priority.{Priority}
use Rattle.omci_types.specs.declared.Priority.TheVariants.{Low, High}
use Rattle.lane_spec.specs.Command.{Command}
use Rattle.lane_spec.specs.Lane.{Lane, Waiting}
use Rattle.manager_spec.specs.declared.Job.{Job}
use Rattle.manager_spec.specs.Manager.{Stage, Probing, Asking, Gathering, AskingAlarms, GatheringRows, StartingImage, SendingImage, EndingImage, DelayingEnd, Manager, manager_started}
use Rattle.manager_spec.specs.Jobs.{job_of}
use Rattle.ending_spec.specs.Moves.{Move, Probe, Submit, Check, Resync, Audit, Download, Packet, Second, IsMove, AreMoves, outcome_of, taken_out, after_move, after_moves, seconds_of, seconds_in}
use Rattle.ending_spec.specs.Commands.{most_seconds, seconds_waited}
use Rattle.ending_spec.specs.Jobs.{commands_left, delays_left, seconds_left, ends_job, JobEnds}
use Rattle.ending_laws.proofs.Told.{reported_told}
use Rattle.ending_laws.proofs.Lanes.{IsLane, IsSound}
use Rattle.ending_laws.proofs.Commands.{waited_less, after_sound, started_sound}
use Rattle.ending_laws.proofs.Stages.{AwaitsJob, IsProbing, Awaits, left_of, left_if, wait, budget, cost, Done, Runs, Leaves, IsBesideJob, IsJobSound}
use Rattle.ending_laws.proofs.JobPackets.{some_none, beside_idle, packet_leaves, packet_none, packet_high}
use Rattle.ending_laws.proofs.JobSeconds.{second_leaves, second_none, second_high}
use Rattle.ending_laws.proofs.JobCalls.{probe_leaves, submit_leaves, check_leaves, resync_leaves, audit_leaves, image_leaves, Begins, MayBegin, probe_begins, submit_begins, check_begins, resync_begins, audit_begins, image_begins, probe_high, submit_high, check_high, resync_high, audit_high, image_high}

-- ---- one move

pub move_leaves : (v : Move) (s : Stage) (m : Manager) → IsMove v → IsSound m → IsJobSound m
    → m.job ≡ Some s → Leaves s (seconds_of v) m (outcome_of v m).manager
move_leaves (Probe lane) s m is sound h e = probe_leaves s m e (h.awaits s e) lane
move_leaves (Submit lane entity asked) s m is sound h e =
    submit_leaves s lane entity asked m e (h.awaits s e)
move_leaves Check s m is sound h e = check_leaves s m e (h.awaits s e)
move_leaves Resync s m is sound h e = resync_leaves s m e (h.awaits s e)
move_leaves Audit s m is sound h e = audit_leaves s m e (h.awaits s e)
move_leaves (Download slot window check image) s m is sound h e =
    image_leaves s m e (h.awaits s e) slot window check image
move_leaves (Packet bytes) s m is sound h e = packet_leaves bytes m s e h is
move_leaves Second s m is sound h e = second_leaves s m sound e (h.awaits s e)

move_begins : (v : Move) (m : Manager) → IsMove v → IsSound m → m.job ≡ None
    → MayBegin (outcome_of v m).manager
move_begins (Probe lane) m is sound e = probe_begins lane m e
move_begins (Submit lane entity asked) m is sound e = submit_begins lane entity asked m e
move_begins Check m is sound e = check_begins m e
move_begins Resync m is sound e = resync_begins m e
move_begins Audit m is sound e = audit_begins m e
move_begins (Download slot window check image) m is sound e =
    image_begins slot window check image m e is.0
move_begins (Packet bytes) m is sound e = inl (packet_none bytes m e)
move_begins Second m is sound e = inl (second_none m sound e)

move_high : (v : Move) (m : Manager) → IsSound m → IsBesideJob m.high
    → IsBesideJob (outcome_of v m).manager.high
move_high (Probe lane) m sound h = probe_high m h lane
move_high (Submit lane entity asked) m sound h = submit_high m h lane entity asked
move_high Check m sound h = check_high m h
move_high Resync m sound h = resync_high m h
move_high Audit m sound h = audit_high m h
move_high (Download slot window check image) m sound h = image_high m h slot window check image
move_high (Packet bytes) m sound h = packet_high bytes m h
move_high Second m sound h = second_high m sound h

left_awaits : (s : Stage) (k : ℕ) (m n : Manager) → Leaves s k m n → (t : Stage) → n.job ≡ Some t
    → Awaits t n.low n.high
left_awaits s k m n (inl d) t e = absurd (some_none t (sym d.none ∙ e))
left_awaits s k m n (inr r) t e =
    subst (λ x. Awaits x n.low n.high) (same_Some r.stage t (sym r.is ∙ e)) r.awaits

begun_awaits : (n : Manager) → MayBegin n → (t : Stage) → n.job ≡ Some t → Awaits t n.low n.high
begun_awaits n (inl none) t e = absurd (some_none t (sym none ∙ e))
begun_awaits n (inr b) t e =
    subst (λ x. Awaits x n.low n.high) (same_Some b.stage t (sym b.is ∙ e)) b.awaits

move_awaits : (v : Move) (m : Manager) (j : Option Stage) → m.job ≡ j → IsMove v → IsSound m
    → IsJobSound m → (t : Stage) → (outcome_of v m).manager.job ≡ Some t
    → Awaits t (outcome_of v m).manager.low (outcome_of v m).manager.high
move_awaits v m None e is sound h =
    begun_awaits (outcome_of v m).manager (move_begins v m is sound e)
move_awaits v m (Some s) e is sound h =
    left_awaits s (seconds_of v) m (outcome_of v m).manager (move_leaves v s m is sound h e)

pub after_job_sound : (v : Move) (m : Manager) → IsMove v → IsSound m → IsJobSound m
    → IsJobSound (after_move v m)
after_job_sound v m is sound h = record {
  beside = move_high v m sound h.beside;
  awaits = move_awaits v m m.job refl is sound h;
}

-- ---- many moves

pub started_job_sound : (low high : ℕ) → IsJobSound (manager_started low high)
started_job_sound low high = record {
  beside = beside_idle (manager_started low high).high refl;
  awaits = λ s e. absurd (some_none s e);
}

pub record AreSound (m : Manager) : Type 0 where
  pub lanes : IsSound m
  pub job : IsJobSound m

pub moves_are_sound : (moves : List Move) (m : Manager) → AreMoves moves → AreSound m
    → AreSound (after_moves moves m)
moves_are_sound [] m are h = h
moves_are_sound (v ∷ rest) m are h =
    moves_are_sound rest (after_move v m) are.1 (record {
      lanes = after_sound v m h.lanes;
      job = after_job_sound v m are.0 h.lanes h.job;
    })

-- ---- a job that runs has some seconds

left_some : (lane : Priority) (l : Lane) (w : Waiting) → IsLane lane l → l.outstanding ≡ Some w
    → 1 ≤ left_of lane l.outstanding
left_some lane l w h e =
    subst (λ o. 1 ≤ left_of lane o) (sym e)
    (some (most_seconds lane) (seconds_waited lane w) (waited_less lane l w h e))
  where
    some : (a b : ℕ) → b < a → 1 ≤ a - b
    some a b lt = omega (arith, lt)

sent_some : (c : Command) (l : Lane) (b : ℕ) → IsLane Low l → AwaitsJob c l
    → 1 ≤ left_of Low l.outstanding + b
sent_some c l b h a = up (left_some Low l a.waiting h a.waits)
  where
    up : {x : ℕ} → 1 ≤ x → 1 ≤ x + b
    up k = omega (arith, k)

pub cost_some : (s : Stage) (m : Manager) → IsSound m → Awaits s m.low m.high
    → 1 ≤ cost s m.low m.high
cost_some (Probing high low) m sound a =
    more (wait (Probing high low) m.low m.high)
  where
    more : (x : ℕ) → 1 ≤ x + (9 * (65535 + 1) + 0)
    more x = omega arith
cost_some Asking m sound a = sent_some _ m.low (budget Asking) sound.low a
cost_some (Gathering expected next copy) m sound a =
    sent_some _ m.low (budget (Gathering expected next copy)) sound.low a.1
cost_some AskingAlarms m sound a = sent_some _ m.low (budget AskingAlarms) sound.low a
cost_some (GatheringRows expected next) m sound a =
    sent_some _ m.low (budget (GatheringRows expected next)) sound.low a.1
cost_some (StartingImage order asked image) m sound a =
    sent_some _ m.low (budget (StartingImage order asked image)) sound.low a.1
cost_some (SendingImage order o resent) m sound a =
    sent_some _ m.low (budget (SendingImage order o resent)) sound.low a.1
cost_some (EndingImage order image busy) m sound a =
    sent_some _ m.low (budget (EndingImage order image busy)) sound.low a.1
cost_some (DelayingEnd order image busy) m sound a =
    more (left_of Low m.low.outstanding) (60 - busy)
  where
    more : (x y : ℕ) → 1 ≤ x + (9 * (y + 1) + (y + 1))
    more x y = omega arith

-- and no more than the bound
left_most : (lane : Priority) (o : Option Waiting) → left_of lane o ≤ most_seconds lane
left_most lane None = omega arith
left_most lane (Some w) = below (most_seconds lane) (seconds_waited lane w)
  where
    below : (a b : ℕ) → a - b ≤ a
    below a b = omega arith

within : (x c d : ℕ) → x ≤ 9 → x + (9 * c + d) ≤ 9 * (c + 1) + d
within x c d h = omega (arith, h)

if_most : (b : Bool) (lane : Priority) (l : Lane) → left_if b lane l ≤ most_seconds lane
if_most true lane l = left_most lane l.outstanding
if_most false lane l = omega arith

probes_most : (x y : ℕ) → x ≤ 3 → y ≤ 9 → max x y ≤ 9
probes_most x y h k = omega (arith, h, k)

wait_most : (s : Stage) (low high : Lane) → wait s low high ≤ 9
wait_most (Probing h l) low high =
    probes_most (left_if h High high) (left_if l Low low) (if_most h High high) (if_most l Low low)
wait_most Asking low high = left_most Low low.outstanding
wait_most (Gathering expected next copy) low high = left_most Low low.outstanding
wait_most AskingAlarms low high = left_most Low low.outstanding
wait_most (GatheringRows expected next) low high = left_most Low low.outstanding
wait_most (StartingImage order asked image) low high = left_most Low low.outstanding
wait_most (SendingImage order o resent) low high = left_most Low low.outstanding
wait_most (EndingImage order image busy) low high = left_most Low low.outstanding
wait_most (DelayingEnd order image busy) low high = left_most Low low.outstanding

pub cost_most : (s : Stage) (low high : Lane) → cost s low high ≤ seconds_left s
cost_most s low high =
    within (wait s low high) (commands_left s) (delays_left s) (wait_most s low high)

-- ---- it ends

none_left : (a : ℕ) → 1 ≤ a → a ≤ 0 → ⊥
none_left a h k = omega (arith, h, k)

less_left : (a b k rest : ℕ) → b + k ≤ a → a ≤ k + rest → b ≤ rest
less_left a b k rest h le = omega (arith, h, le)

pub job_ends : (moves : List Move) (s : Stage) (m : Manager) → AreMoves moves → AreSound m
    → m.job ≡ Some s → cost s m.low m.high ≤ seconds_in moves → JobEnds (job_of s) moves m
job_ends [] s m are h e le =
    absurd (none_left (cost s m.low m.high) (cost_some s m h.lanes (h.job.awaits s e)) le)
job_ends (v ∷ rest) s m are h e le =
    ends_by (move_leaves v s m are.0 h.lanes h.job e)
    (λ t is less. job_ends rest t (after_move v m) are.1
    (record {
      lanes = after_sound v m h.lanes;
      job = after_job_sound v m are.0 h.lanes h.job;
    }) is less)
  where
    ends_by : Leaves s (seconds_of v) m (outcome_of v m).manager
        → ((t : Stage) → (outcome_of v m).manager.job ≡ Some t
        → cost t (outcome_of v m).manager.low (outcome_of v m).manager.high ≤ seconds_in rest
        → JobEnds (job_of t) rest (after_move v m))
        → JobEnds (job_of s) (v ∷ rest) m
    ends_by (inl d) later = inl (reported_told (ends_job (job_of s)) (outcome_of v m) d.told)
    ends_by (inr r) later = inr (subst (λ j. JobEnds j rest (after_move v m)) r.same
        (later r.stage r.is
        (less_left (cost s m.low m.high)
        (cost r.stage (outcome_of v m).manager.low (outcome_of v m).manager.high)
        (seconds_of v) (seconds_in rest) r.less le)))

under : (a b c : ℕ) → a ≤ b → b ≤ c → a ≤ c
under a b c h k = omega (arith, h, k)

pub all_jobs_end : (low high : ℕ) (past moves : List Move) (s : Stage) → AreMoves past
    → AreMoves moves → (after_moves past (manager_started low high)).job ≡ Some s
    → seconds_left s ≤ seconds_in moves
    → JobEnds (job_of s) moves (after_moves past (manager_started low high))
all_jobs_end low high past moves s before after e le =
    let m = after_moves past (manager_started low high) in
    job_ends moves s m after
    (moves_are_sound past (manager_started low high) before (record {
      lanes = started_sound low high;
      job = started_job_sound low high;
    })) e
    (under (cost s m.low m.high) (seconds_left s) (seconds_in moves) (cost_most s m.low m.high) le)
