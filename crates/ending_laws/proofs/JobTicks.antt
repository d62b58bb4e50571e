-- What a lane's second does to the job that waits for it.
use Rattle.std.proofs.Common.{◌≡◌, ℕ, ◌+◌, ◌*◌, ◌≤◌, ◌<◌, Bool, true, false, List, Option, Some, None, ◌⊎◌, inl, inr, refl, sym, ap, subst, ◌∙◌, arith, nat_le, nat_lt}
use Rattle.omci_types.specs.declared.Priority.{Priority}
use Rattle.omci_types.specs.declared.Priority.TheVariants.{Low, High}
use Rattle.lane_spec.specs.declared.TheConstants.{MOST_REPEATS}
use Rattle.lane_spec.specs.declared.LaneTick.TheVariants.{Quiet, Repeat, GaveUp}
use Rattle.lane_spec.specs.Command.{Command}
use Rattle.lane_spec.specs.Lane.{Lane, Waiting, is_changed_by, timeout_of, tick_by, tick_waiting, lane_tick}
use Rattle.manager_spec.specs.declared.Report.TheVariants as report
use Rattle.manager_spec.specs.Manager.{Stage, Manager, Outcome, lane_in, with_lane, with_report, sends_nothing}
use Rattle.manager_spec.specs.Jobs.{job_of, lost_by, job_lost, waits_for}
use Rattle.manager_spec.specs.Steps.{loss_seen, lane_ticked, tick_lane}
use Rattle.world_laws.proofs.Keeping.{KeepsLanes, loss_keeps}
use Rattle.ending_spec.specs.Commands.{seconds_waited}
use Rattle.ending_laws.proofs.Lanes.{IsSound, lane_same}
use Rattle.ending_laws.proofs.Seconds.{with_is, at_end}
use Rattle.ending_laws.proofs.Stages.{Done}
use Rattle.ending_laws.proofs.Replies.{leave_job, lost_done}

-- it waits a second more
pub record WaitsOn (lane : Priority) (w : Waiting) (l : Lane) : Type 0 where
  pub waiting : Waiting
  pub waits : l.outstanding ≡ Some waiting
  pub command : waiting.command ≡ w.command
  pub waited : seconds_waited lane waiting ≡ seconds_waited lane w + 1

pub record TicksOn (lane : Priority) (m n : Manager) : Type 0 where
  pub job : n.job ≡ m.job
  pub proved : (lane_in lane n).proved ≡ (lane_in lane m).proved
  pub idle : (lane_in lane m).outstanding ≡ None → (lane_in lane n).outstanding ≡ None
  pub busy : (w : Waiting) → (lane_in lane m).outstanding ≡ Some w
      → WaitsOn lane w (lane_in lane n)

-- or it is given up, and with it the job that waited for it
pub record TicksOff (lane : Priority) (m n : Manager) : Type 0 where
  pub was : Waiting
  pub waited : (lane_in lane m).outstanding ≡ Some was
  pub none : (lane_in lane n).outstanding ≡ None
  pub beside : waits_for lane m.job ≡ false → n.job ≡ m.job
  pub lost : (s : Stage) → m.job ≡ Some s → waits_for lane m.job ≡ true → Done (job_of s) n

with_job_same : (lane : Priority) (x : Lane) (m : Manager) → (with_lane lane x m).job ≡ m.job
with_job_same Low x m = refl
with_job_same High x m = refl

same_Waiting : (w v : Waiting) → Some w ≡ Some v → w ≡ v
same_Waiting w v e = cc

beside_by : (waits changes : Bool) (tci : ℕ) (m : Manager) → waits ≡ false
    → (loss_seen waits changes tci m).job ≡ m.job
beside_by true changes tci m e = absurd (cc)
beside_by false true tci m e = leave_job m
beside_by false false tci m e = refl

lost_by_waits : (waits changes : Bool) (tci : ℕ) (m : Manager) (s : Stage) → m.job ≡ Some s
    → waits ≡ true → Done (job_of s) (loss_seen waits changes tci m)
lost_by_waits true changes tci m s e h =
    subst (λ j. Done (job_of s) (job_lost j tci m)) (sym e) (lost_done (job_of s) tci m)
lost_by_waits false changes tci m s e h = absurd (cc)

module _ (lane : Priority) (w : Waiting) (m : Manager) (e : (lane_in lane m).outstanding ≡ Some w) where
  -- the lane after the second, with another waiting command
  on_with : (v : Waiting) (n : Manager)
      → n ≡ with_lane lane (record (lane_in lane m) { outstanding = Some v }) m
      → v.command ≡ w.command → seconds_waited lane v ≡ seconds_waited lane w + 1
      → TicksOn lane m n
  on_with v n is command waited = record {
    job = ap (λ x. x.job) is ∙ with_job_same lane y m;
    proved = ap (λ l. l.proved) lane_is;
    idle = λ none. absurd (differ (sym none ∙ e));
    busy = λ u out. record {
      waiting = v;
      waits = ap (λ l. l.outstanding) lane_is;
      command = command ∙ ap (λ z. z.command) (same_Waiting w u (sym e ∙ out));
      waited = waited ∙ ap (λ z. seconds_waited lane z + 1) (same_Waiting w u (sym e ∙ out));
    };
  }
    where
      y : Lane
      y = record (lane_in lane m) { outstanding = Some v }

      lane_is : lane_in lane n ≡ record (lane_in lane m) { outstanding = Some v }
      lane_is = ap (lane_in lane) is ∙ with_is lane (record (lane_in lane m) { outstanding = Some v }) m

      differ : None ≡ Some w → ⊥
      differ k = cc

  off : TicksOff lane m
      (lane_ticked (GaveUp w.tci) lane (lane_in lane m).outstanding
      (record (lane_in lane m) { proved = false; outstanding = None }) m).manager
  off = record {
    was = w;
    waited = e;
    none = ap (λ l. l.outstanding)
        (lane_same lane n _ (record { low = kept.same.low; high = kept.same.high })
        ∙ with_is lane x m);
    beside = λ h. beside_by (waits_for lane m.job) changes w.tci p h ∙ with_job_same lane x m;
    lost = λ s k h. lost_by_waits (waits_for lane m.job) changes w.tci p s
        (with_job_same lane x m ∙ k) h;
  }
    where
      x : Lane
      x = record (lane_in lane m) { proved = false; outstanding = None }

      n : Manager
      n = with_lane lane x m

      p : Manager
      p = with_report (report.GaveUp w.tci) n

      changes : Bool
      changes = is_changed_by (lane_in lane m).outstanding

      kept : KeepsLanes p (loss_seen (waits_for lane m.job) changes w.tci p)
      kept = loss_keeps (waits_for lane m.job) changes w.tci p

  ticks_by : (over may : Bool)
      → nat_le (timeout_of (lane_in lane m).priority) (w.ticks + 1) ≡ over → IsSound m
      → TicksOn lane m (lane_ticked (tick_by over may w (lane_in lane m)).tick lane (lane_in lane m).outstanding (tick_by over may w (lane_in lane m)).lane m).manager
      ⊎ TicksOff lane m (lane_ticked (tick_by over may w (lane_in lane m)).tick lane (lane_in lane m).outstanding (tick_by over may w (lane_in lane m)).lane m).manager
  ticks_by false may o sound =
      inl (on_with (record w { ticks = w.ticks + 1 }) _ refl refl
      (next (timeout_of lane * w.repeats) w.ticks))
    where
      next : (a b : ℕ) → a + (b + 1) ≡ a + b + 1
      next a b = omega arith
  ticks_by true true o sound =
      inl (on_with (record w { ticks = 0; repeats = w.repeats + 1 }) _ refl refl
      (next (timeout_of lane) w.repeats w.ticks (at_end lane w m e o sound)))
    where
      next : (t r k : ℕ) → k + 1 ≡ t → t * (r + 1) + 0 ≡ t * r + k + 1
      next t r k is = let s : t * (r + 1) ≡ t * r + t = grind arith in omega (arith, is, s)
  ticks_by true false o sound = inr off

idle_on : (lane : Priority) (m n : Manager) → (lane_in lane m).outstanding ≡ None
    → n ≡ with_lane lane (lane_in lane m) m → TicksOn lane m n
idle_on lane m n none is = record {
  job = ap (λ x. x.job) is ∙ with_job_same lane (lane_in lane m) m;
  proved = ap (λ l. l.proved) lane_is;
  idle = λ h. ap (λ l. l.outstanding) lane_is ∙ h;
  busy = λ w out. absurd (differ w (sym none ∙ out));
}
  where
    lane_is : lane_in lane n ≡ lane_in lane m
    lane_is = ap (lane_in lane) is ∙ with_is lane (lane_in lane m) m

    differ : (v : Waiting) → None ≡ Some v → ⊥
    differ v k = cc

waiting_ticks : (lane : Priority) (o : Option Waiting) (m : Manager)
    → (lane_in lane m).outstanding ≡ o → IsSound m
    → TicksOn lane m (lane_ticked (tick_waiting o (lane_in lane m)).tick lane (lane_in lane m).outstanding (tick_waiting o (lane_in lane m)).lane m).manager
    ⊎ TicksOff lane m (lane_ticked (tick_waiting o (lane_in lane m)).tick lane (lane_in lane m).outstanding (tick_waiting o (lane_in lane m)).lane m).manager
waiting_ticks lane None m e sound = inl (idle_on lane m _ e refl)
waiting_ticks lane (Some w) m e sound = ticks_by lane w m e _ _ refl sound

pub tick_is : (lane : Priority) (m : Manager) → IsSound m
    → TicksOn lane m (tick_lane lane m).manager ⊎ TicksOff lane m (tick_lane lane m).manager
unfolding lane_tick
tick_is lane m sound = waiting_ticks lane (lane_in lane m).outstanding m refl sound
