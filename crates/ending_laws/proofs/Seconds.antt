-- A second of the manager: each lane's, and then the job's.
use Rattle.std.proofs.Common.{◌≡◌, ℕ, ◌+◌, ◌*◌, ◌≤◌, ◌<◌, ◌&&◌, Bool, true, false, List, [], ◌∷◌, ◌++◌, Option, Some, None, is_none, ◌⊎◌, inl, inr, refl, sym, ap, subst, ◌∙◌, arith, nat_le, nat_lt, eqb}
use Rattle.std.proofs.lemmas.Bool.{and_parts}
use Rattle.std.proofs.lemmas.Bool.Decides.{nat_tests}
use Rattle.std.proofs.lemmas.Option.{same_Some}
use Rattle.omci_types.specs.declared.Priority.{Priority}
use Rattle.omci_types.specs.declared.Priority.TheVariants.{Low, High}
use Rattle.lane_spec.specs.declared.TheConstants.{MOST_REPEATS}
use Rattle.lane_spec.specs.declared.LaneTick.{LaneTick}
use Rattle.lane_spec.specs.declared.LaneTick.TheVariants.{Quiet, Repeat, GaveUp}
use Rattle.lane_spec.specs.Lane.{Lane, Waiting, is_changed_by, timeout_of, tick_by, tick_waiting, lane_tick}
use Rattle.manager_spec.specs.declared.Report.{Report}
use Rattle.manager_spec.specs.declared.Report.TheVariants as report
use Rattle.manager_spec.specs.Manager.{Stage, EndingImage, DelayingEnd, Manager, Outcome, lane_in, with_lane, with_report, sends_nothing, and_then}
use Rattle.manager_spec.specs.Resync.{with_job}
use Rattle.manager_spec.specs.Jobs.{waits_for, Wish, is_free, send_wish, wish_in, job_goes_on, resumed_by, job_resumes}
use Rattle.manager_spec.specs.Steps.{loss_seen, lane_ticked, tick_lane, tick_lanes, after_tick}
use Rattle.world_laws.proofs.Likeness.{SameLanes}
use Rattle.world_laws.proofs.Keeping.{KeepsLanes, loss_keeps, job_reports}
use Rattle.ending_spec.specs.Moves.{Telling, Reported, is_told}
use Rattle.ending_spec.specs.Commands.{seconds_waited, ends_command, reports_end}
use Rattle.ending_laws.proofs.Told.{KeepsReports, reports_stay, reports_grow, told_last, reported_told}
use Rattle.ending_laws.proofs.Lanes.{TellsCommand, IsLane, IsSound, Stays, Goes, lane_sound, with_sound, same_sound, lane_same, idle_is, sent_sound, goes_same, goes_from, goes_then, goes_sent}
use Rattle.ending_laws.proofs.Calls.{Steady}

-- ---- the job sends what it wants next

none_is : (o : Option Waiting) → is_none o ≡ true → o ≡ None
none_is None e = refl
none_is (Some w) e = absurd (cc)

wish_steady : (free : Bool) (w : Option Wish) (m : Manager) → is_free m.low ≡ free
    → Steady m (send_wish free w m)
wish_steady free None m e = record {
  sound = λ h. h;
  goes = λ lane. goes_same lane m (sends_nothing m) refl;
}
wish_steady false (Some w) m e = record {
  sound = λ h. h;
  goes = λ lane. goes_same lane m (sends_nothing m) refl;
}
wish_steady true (Some w) m e = record {
  sound = λ h. sent_sound w.asks Low w.command n (same_sound m n same h);
  goes = λ lane. goes_from lane 0 m n (send_wish true (Some w) m) (lane_same lane m n same)
      (goes_sent lane Low w.asks w.command n none);
}
  where
    n : Manager
    n = with_job (Some w.stage) m

    same : SameLanes m n
    same = record { low = refl; high = refl }

    none : m.low.outstanding ≡ None
    none = none_is m.low.outstanding (and_parts m.low.proved (is_none m.low.outstanding) e).1

pub job_steady : (m : Manager) → Steady m (job_goes_on m)
unfolding job_goes_on
job_steady m = wish_steady (is_free m.low) (wish_in m.job) m refl

resumed_steady : (job : Option Stage) (m : Manager) → Steady m (resumed_by job m)
resumed_steady (Some (DelayingEnd order image busy)) m =
    let n = with_job (Some (EndingImage order image busy)) m in
    let s = job_steady n in
    record {
      sound = λ h. s.sound (same_sound m n (record { low = refl; high = refl }) h);
      goes = λ lane. goes_from lane 0 m n (resumed_by (Some (DelayingEnd order image busy)) m) (lane_same lane m n (record { low = refl; high = refl })) (s.goes lane);
    }
resumed_steady _ m = record {
  sound = λ h. h;
  goes = λ lane. goes_same lane m (sends_nothing m) refl;
}

resumed_reports : (job : Option Stage) (m : Manager) → KeepsReports m (resumed_by job m).manager
resumed_reports (Some (DelayingEnd order image busy)) m =
    let n = with_job (Some (EndingImage order image busy)) m in
    reports_stay m (job_goes_on n).manager (job_reports n)
resumed_reports _ m = reports_stay m m refl

-- ---- a lane's second

-- what a lane's second does
pub record Ticks (lane : Priority) (m : Manager) (o : Outcome) : Type 0 where
  pub sound : IsSound m → IsSound o.manager
  pub goes : IsSound m → Goes lane 1 m o
  pub other : (l : Priority) → (l ≡ lane) ⊎ (lane_in l o.manager ≡ lane_in l m)
  pub reports : KeepsReports m o.manager

pub other_with : (lane : Priority) (x : Lane) (m : Manager) (l : Priority)
    → (l ≡ lane) ⊎ (lane_in l (with_lane lane x m) ≡ lane_in l m)
other_with Low x m Low = inl refl
other_with Low x m High = inr refl
other_with High x m Low = inr refl
other_with High x m High = inl refl

pub with_is : (lane : Priority) (x : Lane) (m : Manager) → lane_in lane (with_lane lane x m) ≡ x
with_is Low x m = refl
with_is High x m = refl

pub with_same : (lane : Priority) (m : Manager) → with_lane lane (lane_in lane m) m ≡ m
with_same Low m = refl
with_same High m = refl

pub with_reports : (lane : Priority) (x : Lane) (m : Manager)
    → (with_lane lane x m).reports ≡ m.reports
with_reports Low x m = refl
with_reports High x m = refl

same_tci : (n : ℕ) → eqb n n ≡ true
same_tci n = grind (arith, nat_tests)

module _ (lane : Priority) (w : Waiting) (m : Manager) (e : (lane_in lane m).outstanding ≡ Some w) where
  -- it waits on, as a waiting command with these seconds
  waits_on : (v : Waiting) (o : Outcome) (x : Lane) → o.manager ≡ with_lane lane x m
      → x.outstanding ≡ Some v → v.tci ≡ w.tci
      → (IsSound m → seconds_waited lane v ≡ seconds_waited lane w + 1)
      → IsSound m → Goes lane 1 m o
  waits_on v o x is out tci more h u k = inr (record {
    waiting = v;
    waits = ap (λ n. (lane_in lane n).outstanding) is ∙ ap (λ l. l.outstanding) (with_is lane x m) ∙ out;
    tci = tci ∙ ap (λ z. z.tci) same;
    waited = more h ∙ ap (λ z. seconds_waited lane z + 1) same;
  })
    where
      same : w ≡ u
      same = same_Some w u (sym e ∙ k)

  counts : nat_le (timeout_of (lane_in lane m).priority) (w.ticks + 1) ≡ false
      → (may : Bool)
      → Ticks lane m (lane_ticked (tick_by false may w (lane_in lane m)).tick lane (lane_in lane m).outstanding (tick_by false may w (lane_in lane m)).lane m)
  counts early may = record {
    sound = λ h. with_sound lane x m h (let l = lane_sound lane m h in record {
      priority = l.priority;
      ticks = λ v k. subst (λ (z : Waiting). z.ticks < timeout_of lane) (same_Some y v k) (below l.priority);
      repeats = λ v k. subst (λ (z : Waiting). z.repeats ≤ MOST_REPEATS) (same_Some y v k) (l.repeats w e);
    });
    goes = waits_on y (sends_nothing (with_lane lane x m)) x refl refl refl
        (λ h. next (timeout_of lane * w.repeats) w.ticks);
    other = other_with lane x m;
    reports = reports_stay m (with_lane lane x m) (with_reports lane x m);
  }
    where
      y : Waiting
      y = record w { ticks = w.ticks + 1 }

      x : Lane
      x = record (lane_in lane m) { outstanding = Some y }

      below : (lane_in lane m).priority ≡ lane → w.ticks + 1 < timeout_of lane
      below p = under (timeout_of lane) (w.ticks + 1)
          (subst (λ q. nat_le (timeout_of q) (w.ticks + 1) ≡ false) p early)
        where
          under : (a b : ℕ) → nat_le a b ≡ false → b < a
          under a b t = grind (arith, nat_tests)

      next : (a b : ℕ) → a + (b + 1) ≡ a + b + 1
      next a b = omega arith

  -- the time is over
  pub at_end : nat_le (timeout_of (lane_in lane m).priority) (w.ticks + 1) ≡ true → IsSound m
      → w.ticks + 1 ≡ timeout_of lane
  at_end over h =
      reached (timeout_of lane) w.ticks (l.ticks w e)
      (subst (λ q. nat_le (timeout_of q) (w.ticks + 1) ≡ true) l.priority over)
    where
      l : IsLane lane (lane_in lane m)
      l = lane_sound lane m h

      reached : (a b : ℕ) → b < a → nat_le a (b + 1) ≡ true → b + 1 ≡ a
      reached a b lt t = grind (arith, nat_tests)

  repeats : nat_le (timeout_of (lane_in lane m).priority) (w.ticks + 1) ≡ true
      → nat_lt w.repeats MOST_REPEATS ≡ true
      → Ticks lane m (lane_ticked (tick_by true true w (lane_in lane m)).tick lane (lane_in lane m).outstanding (tick_by true true w (lane_in lane m)).lane m)
  repeats over may = record {
    sound = λ h. with_sound lane x m h (record {
      priority = (lane_sound lane m h).priority;
      ticks = λ v k. subst (λ (z : Waiting). z.ticks < timeout_of lane) (same_Some y v k)
          (positive lane);
      repeats = λ v k. subst (λ (z : Waiting). z.repeats ≤ MOST_REPEATS) (same_Some y v k)
          (more w.repeats may);
    });
    goes = waits_on y o x refl refl refl
        (λ h. next (timeout_of lane) w.repeats w.ticks (at_end over h));
    other = other_with lane x m;
    reports = reports_stay m (with_lane lane x m) (with_reports lane x m);
  }
    where
      y : Waiting
      y = record w { ticks = 0; repeats = w.repeats + 1 }

      x : Lane
      x = record (lane_in lane m) { outstanding = Some y }

      o : Outcome
      o = lane_ticked Repeat lane (lane_in lane m).outstanding x m

      positive : (l : Priority) → 0 < timeout_of l
      positive Low = omega arith
      positive High = omega arith

      more : (n : ℕ) → nat_lt n MOST_REPEATS ≡ true → n + 1 ≤ MOST_REPEATS
      more n t = grind (arith, nat_tests)

      next : (t r k : ℕ) → k + 1 ≡ t → t * (r + 1) + 0 ≡ t * r + k + 1
      next t r k is = let s : t * (r + 1) ≡ t * r + t = grind arith in omega (arith, is, s)

  gives_up : Ticks lane m (lane_ticked (tick_by true false w (lane_in lane m)).tick lane (lane_in lane m).outstanding (tick_by true false w (lane_in lane m)).lane m)
  gives_up = record {
    sound = λ h. same_sound n o.manager (record { low = kept.same.low; high = kept.same.high })
        (with_sound lane x m h (idle_is lane x (lane_sound lane m h).priority refl));
    goes = λ h u k. inl (told u (same_Some w u (sym e ∙ k)));
    other = λ l. others l (other_with lane x m l);
    reports = λ such t. reports_grow p o.manager kept.added kept.reports such
        (reports_grow m p (report.GaveUp w.tci ∷ [])
        (ap (λ rs. rs ++ report.GaveUp w.tci ∷ []) (with_reports lane x m)) such t);
  }
    where
      x : Lane
      x = record (lane_in lane m) { proved = false; outstanding = None }

      n : Manager
      n = with_lane lane x m

      p : Manager
      p = with_report (report.GaveUp w.tci) n

      o : Outcome
      o = lane_ticked (GaveUp w.tci) lane (lane_in lane m).outstanding x m

      kept : KeepsLanes p o.manager
      kept = loss_keeps (waits_for lane m.job) (is_changed_by (lane_in lane m).outstanding) w.tci p

      told : (u : Waiting) → w ≡ u → TellsCommand lane u.tci o
      told u same = subst (λ (z : Waiting). TellsCommand lane z.tci o) same
          (reported_told (ends_command lane w.tci) o
          (reports_grow p o.manager kept.added kept.reports (reports_end lane w.tci)
          (told_last (reports_end lane w.tci) n.reports (report.GaveUp w.tci) (same_tci w.tci))))

      others : (l : Priority) → (l ≡ lane) ⊎ (lane_in l n ≡ lane_in l m)
          → (l ≡ lane) ⊎ (lane_in l o.manager ≡ lane_in l m)
      others l (inl is) = inl is
      others l (inr same) = inr (lane_same l p o.manager (record { low = kept.same.low; high = kept.same.high }) ∙ stays l ∙ same)
        where
          stays : (q : Priority) → lane_in q p ≡ lane_in q n
          stays Low = refl
          stays High = refl

  tick_by_ticks : (over may : Bool)
      → nat_le (timeout_of (lane_in lane m).priority) (w.ticks + 1) ≡ over
      → nat_lt w.repeats MOST_REPEATS ≡ may
      → Ticks lane m (lane_ticked (tick_by over may w (lane_in lane m)).tick lane (lane_in lane m).outstanding (tick_by over may w (lane_in lane m)).lane m)
  tick_by_ticks false may o r = counts o may
  tick_by_ticks true true o r = repeats o r
  tick_by_ticks true false o r = gives_up

none_ticks : (lane : Priority) (m : Manager) → (lane_in lane m).outstanding ≡ None
    → Ticks lane m (sends_nothing (with_lane lane (lane_in lane m) m))
none_ticks lane m e = record {
  sound = λ h. subst IsSound (sym (with_same lane m)) h;
  goes = λ h w k. absurd (differ w (sym e ∙ k));
  other = other_with lane (lane_in lane m) m;
  reports = reports_stay m (with_lane lane (lane_in lane m) m)
      (with_reports lane (lane_in lane m) m);
}
  where
    differ : (v : Waiting) → None ≡ Some v → ⊥
    differ v e = cc

tick_waiting_ticks : (lane : Priority) (o : Option Waiting) (m : Manager)
    → (lane_in lane m).outstanding ≡ o
    → Ticks lane m (lane_ticked (tick_waiting o (lane_in lane m)).tick lane (lane_in lane m).outstanding (tick_waiting o (lane_in lane m)).lane m)
tick_waiting_ticks lane None m e = none_ticks lane m e
tick_waiting_ticks lane (Some w) m e = tick_by_ticks lane w m e _ _ refl refl

pub lane_ticks : (lane : Priority) (m : Manager) → Ticks lane m (tick_lane lane m)
unfolding lane_tick
lane_ticks lane m = tick_waiting_ticks lane (lane_in lane m).outstanding m refl

-- ---- both lanes, and the job

not_it : (l k : Priority) (m n : Manager) → (l ≡ k → ⊥) → (l ≡ k) ⊎ (lane_in l n ≡ lane_in l m)
    → lane_in l n ≡ lane_in l m
not_it l k m n differ (inl e) = absurd (differ e)
not_it l k m n differ (inr e) = e

pub lanes_sound : (m : Manager) → IsSound m → IsSound (tick_lanes m).manager
lanes_sound m h = (lane_ticks Low (tick_lane High m).manager).sound ((lane_ticks High m).sound h)

pub lanes_go : (lane : Priority) (m : Manager) → IsSound m → Goes lane 1 m (tick_lanes m)
lanes_go Low m h =
    let a = tick_lane High m in
    let first = lane_ticks High m in
    let second = lane_ticks Low a.manager in
    goes_then Low 0 1 m a (tick_lane Low) second.reports
    (goes_same Low m a (not_it Low High m a.manager (λ e. cc) (first.other Low)))
    (second.goes (first.sound h))
lanes_go High m h =
    let a = tick_lane High m in
    let first = lane_ticks High m in
    let second = lane_ticks Low a.manager in
    goes_then High 1 0 m a (tick_lane Low) second.reports (first.goes h)
    (goes_same High a.manager (tick_lane Low a.manager)
    (not_it High Low a.manager (tick_lane Low a.manager).manager (λ e. cc) (second.other High)))

pub second_sound : (m : Manager) → IsSound m → IsSound (after_tick m).manager
unfolding after_tick
second_sound m h =
    let a = tick_lanes m in (resumed_steady a.manager.job a.manager).sound (lanes_sound m h)

pub second_goes : (lane : Priority) (m : Manager) → IsSound m → Goes lane 1 m (after_tick m)
unfolding after_tick
second_goes lane m h =
    let a = tick_lanes m in
    goes_then lane 1 0 m a job_resumes (resumed_reports a.manager.job a.manager)
    (lanes_go lane m h) ((resumed_steady a.manager.job a.manager).goes lane)
