-- The job sends what it wants next, or nothing.
use Rattle.std.proofs.Common.{◌≡◌, ℕ, ◌+◌, ◌*◌, ◌≤◌, ◌&&◌, Bool, true, false, List, Option, Some, None, is_none, ◌⊎◌, inl, inr, refl, sym, ap, subst, ◌∙◌, arith}
use Rattle.omci_types.specs.declared.Priority.{Priority}
use Rattle.omci_types.specs.declared.Priority.TheVariants.{Low, High}
use Rattle.message_spec.specs.declared.Request.TheVariants as request
use Rattle.lane_spec.specs.Command.{Command, sync_entity, job_command}
use Rattle.lane_spec.specs.Lane.{Lane, Waiting}
use Rattle.manager_spec.specs.declared.Job.TheVariants as job
use Rattle.manager_spec.specs.Manager.{Stage, Probing, Asking, Gathering, AskingAlarms, GatheringRows, StartingImage, SendingImage, EndingImage, DelayingEnd, Manager, Outcome, sends_nothing}
use Rattle.manager_spec.specs.Resync.{with_job}
use Rattle.manager_spec.specs.Upgrade.{image_window, end_image_command}
use Rattle.manager_spec.specs.Jobs.{job_of, Wish, wish_of, wish_in, is_free, send_wish, job_goes_on}
use Rattle.ending_laws.proofs.Stages.{AwaitsJob, IsProbing, IsFree, Awaits, left_of, wait, budget, cost, Done, Runs, Leaves}
use Rattle.ending_laws.proofs.Replies.{Ready, first_wait, Sends, Next}

-- ---- nothing

and_none : (b : Bool) → (b && false) ≡ false
and_none true = refl
and_none false = refl

busy_lane : (l : Lane) (w : Waiting) → l.outstanding ≡ Some w → is_free l ≡ false
busy_lane l w e = ap (λ o. l.proved && is_none o) e ∙ and_none l.proved

wishes_none : (free : Bool) (w : Option Wish) (m : Manager) → w ≡ None
    → send_wish free w m ≡ sends_nothing m
wishes_none free w m e = ap (λ x. send_wish free x m) e

not_free : (w : Option Wish) (m : Manager) → send_wish false w m ≡ sends_nothing m
not_free None m = refl
not_free (Some w) m = refl

-- of a stage that waits nothing is sent
quiet : (s : Stage) (low high : Lane) → Awaits s low high
    → (is_free low ≡ false) ⊎ (wish_of s ≡ None)
quiet (Probing true low_) low high a = inr refl
quiet (Probing false true) low high a = inr refl
quiet (Probing false false) low high a = absurd a
quiet Asking low high a = inr refl
quiet (Gathering expected next copy) low high a = inl (busy_lane low a.1.waiting a.1.waits)
quiet AskingAlarms low high a = inr refl
quiet (GatheringRows expected next) low high a = inl (busy_lane low a.1.waiting a.1.waits)
quiet (StartingImage order asked image) low high a = inr refl
quiet (SendingImage order o resent) low high a = inl (busy_lane low a.1.waiting a.1.waits)
quiet (EndingImage order image busy) low high a = inl (busy_lane low a.1.waiting a.1.waits)
quiet (DelayingEnd order image busy) low high a = inr refl

pub goes_quiet : (s : Stage) (m : Manager) → m.job ≡ Some s → Awaits s m.low m.high
    → job_goes_on m ≡ sends_nothing m
unfolding job_goes_on
goes_quiet s m e a = by (quiet s m.low m.high a)
  where
    by : (is_free m.low ≡ false) ⊎ (wish_of s ≡ None)
        → send_wish (is_free m.low) (wish_in m.job) m ≡ sends_nothing m
    by (inl busy) = ap (λ b. send_wish b (wish_in m.job) m) busy ∙ not_free (wish_in m.job) m
    by (inr none) = wishes_none (is_free m.low) (wish_in m.job) m (ap wish_in e ∙ none)

-- and of no job
pub none_goes : (m : Manager) → m.job ≡ None → job_goes_on m ≡ sends_nothing m
unfolding job_goes_on
none_goes m e = wishes_none (is_free m.low) (wish_in m.job) m (ap wish_in e)

-- ---- a command

-- the stage's command is sent, or waits for the next second
pub record IsGone (s : Stage) (m : Manager) : Type 0 where
  pub is : m.job ≡ Some s
  pub awaits : Awaits s m.low m.high
  pub waits : wait s m.low m.high ≡ first_wait s

gone_by : (s : Stage) (m : Manager) → m.job ≡ Some s → Ready s → IsFree m.low
    → IsGone s (send_wish true (wish_of s) m).manager
gone_by (Probing high low) m e ready free = absurd ready
gone_by Asking m e ready free = absurd ready
gone_by (Gathering expected next copy) m e ready free = record {
  is = refl;
  awaits = (ready, record { waiting = _; waits = refl; command = refl; proved = free.proved });
  waits = refl;
}
gone_by AskingAlarms m e ready free = absurd ready
gone_by (GatheringRows expected next) m e ready free = record {
  is = refl;
  awaits = (ready, record { waiting = _; waits = refl; command = refl; proved = free.proved });
  waits = refl;
}
gone_by (StartingImage order asked image) m e ready free = absurd ready
gone_by (SendingImage order o resent) m e ready free = record {
  is = refl;
  awaits = (ready, record { waiting = _; waits = refl; command = refl; proved = free.proved });
  waits = refl;
}
gone_by (EndingImage order image busy) m e ready free = record {
  is = refl;
  awaits = (ready, record { waiting = _; waits = refl; command = refl; proved = free.proved });
  waits = refl;
}
gone_by (DelayingEnd order image busy) m e ready free = record {
  is = e;
  awaits = (ready, free);
  waits = ap (left_of Low) free.none;
}

free_is : (l : Lane) → IsFree l → is_free l ≡ true
free_is l f = ap (λ o. l.proved && is_none o) f.none ∙ ap (λ b. b && true) f.proved

sent_as : (s : Stage) (m : Manager) → m.job ≡ Some s → IsFree m.low
    → job_goes_on m ≡ send_wish true (wish_of s) m
unfolding job_goes_on
sent_as s m e free =
    ap (λ b. send_wish b (wish_in m.job) m) (free_is m.low free)
    ∙ ap (λ j. send_wish true (wish_in j) m) e

pub goes_ready : (s : Stage) (m : Manager) → m.job ≡ Some s → Ready s → IsFree m.low
    → IsGone s (job_goes_on m).manager
goes_ready s m e ready free =
    subst (λ o. IsGone s o.manager) (sym (sent_as s m e free)) (gone_by s m e ready free)

less_than : (a b c k : ℕ) → a ≡ b → b + c ≤ k → a + c + 0 ≤ k
less_than a b c k e le = omega (arith, e, le)

-- what a reply leaves, once the job went on
pub next_leaves : (s : Stage) (most : ℕ) (m : Manager) → budget s ≤ most → IsFree m.low → Next s m
    → Done (job_of s) (job_goes_on m).manager ⊎ Runs (job_of s) 0 most (job_goes_on m).manager
next_leaves s most m le free (inl done) =
    inl (subst (λ o. Done (job_of s) o.manager) (sym (none_goes m done.none)) done)
next_leaves s most m le free (inr x) =
    let g = goes_ready x.stage m x.is x.ready free in
    inr (record {
      stage = x.stage;
      is = g.is;
      same = x.same;
      awaits = g.awaits;
      less = less_than (wait x.stage (job_goes_on m).manager.low (job_goes_on m).manager.high)
          (first_wait x.stage) (budget x.stage) most g.waits (up x.less le);
    })
  where
    up : {a b c : ℕ} → a ≤ b → b ≤ c → a ≤ c
    up h k = omega (arith, h, k)

-- both probes were answered, and the upload is asked for
pub goes_asking : (most : ℕ) (m : Manager) → m.job ≡ Some (Probing false false) → IsFree m.low
    → budget (Probing false false) ≤ most
    → Runs job.Resync 0 most (job_goes_on m).manager
goes_asking most m e free le =
    subst (λ o. Runs job.Resync 0 most o.manager) (sym (sent_as (Probing false false) m e free))
    (record {
      stage = Asking;
      is = refl;
      same = refl;
      awaits = record { waiting = _; waits = refl; command = refl; proved = free.proved };
      less = first most le;
    })
  where
    first : (k : ℕ) → 9 * (65535 + 1) + 0 ≤ k → 9 + (9 * 65535 + 0) + 0 ≤ k
    first k h = omega (arith, h)
