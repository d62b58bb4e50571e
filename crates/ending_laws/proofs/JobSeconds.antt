-- A second brings a running job nearer to its end.
use Rattle.std.proofs.Common.{◌≡◌, ℕ, ◌+◌, ◌-◌, ◌*◌, ◌≤◌, ◌<◌, Bool, true, false, List, Option, Some, None, ◌⊎◌, inl, inr, refl, sym, ap, subst, ◌∙◌, arith}
use Rattle.std.specs.Prelude.{max}
use Rattle.std.proofs.lemmas.Option.{same_Some}
use Rattle.omci_types.specs.declared.Priority.{Priority}
use Rattle.omci_types.specs.declared.Priority.TheVariants.{Low, High}
use Rattle.message_spec.specs.declared.Request.TheVariants as request
use Rattle.upload_spec.specs.Pieces.{Copy}
use Rattle.window_spec.specs.Outgoing.{Outgoing}
use Rattle.lane_spec.specs.Command.{Command, sync_entity, job_command}
use Rattle.lane_spec.specs.Lane.{Lane, Waiting}
use Rattle.manager_spec.specs.Manager.{Order, Stage, Probing, Asking, Gathering, AskingAlarms, GatheringRows, StartingImage, SendingImage, EndingImage, DelayingEnd, Manager, Outcome, lane_in, sends_nothing}
use Rattle.manager_spec.specs.Resync.{with_job}
use Rattle.manager_spec.specs.Upgrade.{start_command, image_window, end_image_command}
use Rattle.manager_spec.specs.Jobs.{job_of, waits_for, resumed_by, job_goes_on}
use Rattle.manager_spec.specs.Steps.{tick_lane, tick_lanes, after_tick}
use Rattle.ending_spec.specs.Commands.{most_seconds, seconds_waited}
use Rattle.ending_laws.proofs.Lanes.{IsSound}
use Rattle.ending_laws.proofs.Seconds.{Ticks, lane_ticks, lanes_sound}
use Rattle.ending_laws.proofs.Commands.{waited_less}
use Rattle.ending_laws.proofs.Stages.{AwaitsJob, IsProbing, IsFree, Awaits, left_of, wait, budget, cost, Done, Runs, Leaves, is_job, IsBesideJob}
use Rattle.ending_laws.proofs.Replies.{Ready}
use Rattle.ending_laws.proofs.Sending.{IsGone, goes_ready}
use Rattle.ending_laws.proofs.JobTicks.{WaitsOn, TicksOn, TicksOff, tick_is}
use Rattle.ending_laws.proofs.JobPackets.{goes_high, beside_same, beside_idle}

not_same : (l k : Priority) (m n : Manager) → (l ≡ k → ⊥) → (l ≡ k) ⊎ (lane_in l n ≡ lane_in l m)
    → lane_in l n ≡ lane_in l m
not_same l k m n differ (inl e) = absurd (differ e)
not_same l k m n differ (inr e) = e

pub high_keeps_low : (m : Manager) → (tick_lane High m).manager.low ≡ m.low
high_keeps_low m = not_same Low High m (tick_lane High m).manager (λ e. cc) ((lane_ticks High m).other Low)

pub low_keeps_high : (m : Manager) → (tick_lane Low m).manager.high ≡ m.high
low_keeps_high m = not_same High Low m (tick_lane Low m).manager (λ e. cc) ((lane_ticks Low m).other High)

-- ---- no job

none_waits : (lane : Priority) (m : Manager) → m.job ≡ None → waits_for lane m.job ≡ false
none_waits lane m e = ap (waits_for lane) e ∙ idle lane
  where
    idle : (l : Priority) → waits_for l None ≡ false
    idle Low = refl
    idle High = refl

none_ticks_by : (lane : Priority) (m n : Manager) → m.job ≡ None
    → TicksOn lane m n ⊎ TicksOff lane m n → n.job ≡ None
none_ticks_by lane m n e (inl on) = on.job ∙ e
none_ticks_by lane m n e (inr off) = off.beside (none_waits lane m e) ∙ e

none_lane : (lane : Priority) (m : Manager) → IsSound m → m.job ≡ None
    → (tick_lane lane m).manager.job ≡ None
none_lane lane m sound e = none_ticks_by lane m (tick_lane lane m).manager e (tick_is lane m sound)

none_resumes : (j : Option Stage) (m : Manager) → j ≡ None → resumed_by j m ≡ sends_nothing m
none_resumes j m e = ap (λ x. resumed_by x m) e

pub second_none : (m : Manager) → IsSound m → m.job ≡ None → (after_tick m).manager.job ≡ None
unfolding after_tick
second_none m sound e =
    let a = (tick_lane High m).manager in
    let n = (tick_lanes m).manager in
    let none : n.job ≡ None = none_lane Low a ((lane_ticks High m).sound sound) (none_lane High m sound e) in
    ap (λ o. o.manager.job) (none_resumes n.job n none) ∙ none

-- ---- a job that has ended stays so

done_low : (s : Stage) (m : Manager) → IsSound m → Done (job_of s) m
    → Done (job_of s) (tick_lane Low m).manager
done_low s m sound d = record {
  none = none_lane Low m sound d.none;
  told = (lane_ticks Low m).reports _ d.told;
}

done_resumes : (s : Stage) (m : Manager) → Done (job_of s) m
    → Done (job_of s) (resumed_by m.job m).manager
done_resumes s m d =
    subst (λ o. Done (job_of s) o.manager) (sym (none_resumes m.job m d.none)) d

-- ---- both lanes

-- after both lanes' seconds the stage still waits, and has a second less
record Nearer (s : Stage) (m n : Manager) : Type 0 where
  is : n.job ≡ Some s
  awaits : Awaits s n.low n.high
  less : cost s n.low n.high + 1 ≤ cost s m.low m.high

abbrev Lasts : Stage → Manager → Manager → Type 0
Lasts s m n = Done (job_of s) n ⊎ Nearer s m n

-- a stage whose command is outstanding in the low lane
record IsSent (s : Stage) : Type 0 where
  command : Command
  awaits : (low high : Lane) → Awaits s low high → AwaitsJob command low
  back : (low high x y : Lane) → Awaits s low high → AwaitsJob command x → Awaits s x y
  waits : (low high : Lane) → wait s low high ≡ left_of Low low.outstanding
  in_low : waits_for Low (Some s) ≡ true
  in_high : waits_for High (Some s) ≡ false

module _ (s : Stage) (k : IsSent s) (m : Manager) (e : m.job ≡ Some s) (sound : IsSound m) (a : Awaits s m.low m.high) where
  abbrev sent_high : Manager
  sent_high = (tick_lane High m).manager

  abbrev sent_both : Manager
  sent_both = (tick_lane Low sent_high).manager

  still_job : TicksOn High m sent_high ⊎ TicksOff High m sent_high → sent_high.job ≡ Some s
  still_job (inl on) = on.job ∙ e
  still_job (inr off) = off.beside (ap (waits_for High) e ∙ k.in_high) ∙ e

  high_sound : IsSound sent_high
  high_sound = (lane_ticks High m).sound sound

  before : AwaitsJob (k.command) m.low
  before = k.awaits m.low m.high a

  after_high : AwaitsJob (k.command) sent_high.low
  after_high = subst (AwaitsJob (k.command)) (sym (high_keeps_low m)) before

  nearer : TicksOn Low sent_high sent_both → sent_high.job ≡ Some s → Lasts s m sent_both
  nearer on j =
      let w = after_high.waiting in
      let v = on.busy w after_high.waits in
      let lane : AwaitsJob (k.command) sent_both.low = record {
        waiting = v.waiting;
        waits = v.waits;
        command = v.command ∙ after_high.command;
        proved = on.proved ∙ after_high.proved;
      } in
      inr (record {
        is = on.job ∙ j;
        awaits = k.back m.low m.high sent_both.low sent_both.high a lane;
        less = spent (seconds_waited Low w) (budget s)
            (k.waits sent_both.low sent_both.high ∙ ap (left_of Low) v.waits
            ∙ ap (λ n. most_seconds Low - n) v.waited)
            (k.waits m.low m.high ∙ ap (λ l. left_of Low l.outstanding) (sym (high_keeps_low m))
            ∙ ap (left_of Low) after_high.waits)
            (waited_less Low sent_high.low w high_sound.low after_high.waits);
      })
    where
      spent : {x y : ℕ} (n b : ℕ) → x ≡ 9 - (n + 1) → y ≡ 9 - n → n < 9 → x + b + 1 ≤ y + b
      spent n b ex ey lt = omega (arith, ex, ey, lt)

  lasts_by : sent_high.job ≡ Some s
      → TicksOn Low sent_high sent_both ⊎ TicksOff Low sent_high sent_both
      → Lasts s m sent_both
  lasts_by j (inl on) = nearer on j
  lasts_by j (inr off) = inl (off.lost s j (ap (waits_for Low) j ∙ k.in_low))

  sent_lasts : Lasts s m (tick_lanes m).manager
  sent_lasts = lasts_by (still_job (tick_is High m sound)) (tick_is Low sent_high high_sound)

-- ---- the stages

asking_sent : IsSent Asking
asking_sent = record {
  command = job_command sync_entity request.Upload;
  awaits = λ low high a. a;
  back = λ low high x y a k. k;
  waits = λ low high. refl;
  in_low = refl;
  in_high = refl;
}

gathering_sent : (expected next : ℕ) (copy : Copy) → IsSent (Gathering expected next copy)
gathering_sent expected next copy = record {
  command = job_command sync_entity (request.UploadNext next);
  awaits = λ low high a. a.1;
  back = λ low high x y a k. (a.0, k);
  waits = λ low high. refl;
  in_low = refl;
  in_high = refl;
}

alarms_sent : IsSent AskingAlarms
alarms_sent = record {
  command = job_command sync_entity (request.Alarms 0);
  awaits = λ low high a. a;
  back = λ low high x y a k. k;
  waits = λ low high. refl;
  in_low = refl;
  in_high = refl;
}

rows_sent : (expected next : ℕ) → IsSent (GatheringRows expected next)
rows_sent expected next = record {
  command = job_command sync_entity (request.AlarmsNext next);
  awaits = λ low high a. a.1;
  back = λ low high x y a k. (a.0, k);
  waits = λ low high. refl;
  in_low = refl;
  in_high = refl;
}

start_sent : (order : Order) (asked : ℕ) (image : List ℕ) → IsSent (StartingImage order asked image)
start_sent order asked image = record {
  command = start_command order asked image;
  awaits = λ low high a. a.1;
  back = λ low high x y a k. (a.0, k);
  waits = λ low high. refl;
  in_low = refl;
  in_high = refl;
}

window_sent : (order : Order) (o : Outgoing) (resent : ℕ) → IsSent (SendingImage order o resent)
window_sent order o resent = record {
  command = image_window order o;
  awaits = λ low high a. a.1;
  back = λ low high x y a k. (a.0, k);
  waits = λ low high. refl;
  in_low = refl;
  in_high = refl;
}

end_sent : (order : Order) (image : List ℕ) (busy : ℕ) → IsSent (EndingImage order image busy)
end_sent order image busy = record {
  command = end_image_command order image;
  awaits = λ low high a. a.1;
  back = λ low high x y a k. (a.0, k);
  waits = λ low high. refl;
  in_low = refl;
  in_high = refl;
}

-- ---- probes

same_Waiting : (w v : Waiting) → Some w ≡ Some v → w ≡ v
same_Waiting w v e = cc

still_probing : (lane : Priority) (m n : Manager) (p : IsProbing (lane_in lane m))
    → TicksOn lane m n → IsProbing (lane_in lane n)
still_probing lane m n p on =
    let v = on.busy p.waiting p.waits in
    record { waiting = v.waiting; waits = v.waits; probe = ap (λ c. c.purpose) v.command ∙ p.probe }

left_after : (lane : Priority) (m n : Manager) (p : IsProbing (lane_in lane m)) → TicksOn lane m n
    → left_of lane (lane_in lane n).outstanding
    ≡ most_seconds lane - (seconds_waited lane p.waiting + 1)
left_after lane m n p on =
    let v = on.busy p.waiting p.waits in
    ap (left_of lane) v.waits ∙ ap (λ k. most_seconds lane - k) v.waited

both_less : {x y u v : ℕ} (k j b : ℕ) → x ≡ 3 - (k + 1) → y ≡ 9 - (j + 1) → u ≡ 3 - k → v ≡ 9 - j
    → k < 3 → j < 9 → max x y + b + 1 ≤ max u v + b
both_less k j b ex ey eu ev lk lj = omega (arith, ex, ey, eu, ev, lk, lj)

low_less : {y v : ℕ} (j b : ℕ) → y ≡ 9 - (j + 1) → v ≡ 9 - j → j < 9 → max 0 y + b + 1 ≤ max 0 v + b
low_less j b ey ev lj = omega (arith, ey, ev, lj)

high_less : {x u : ℕ} (k b : ℕ) → x ≡ 3 - (k + 1) → u ≡ 3 - k → k < 3
    → max x 0 + b + 1 ≤ max u 0 + b
high_less k b ex eu lk = omega (arith, ex, eu, lk)

module _ (m : Manager) (sound : IsSound m) where
  abbrev one : Manager
  one = (tick_lane High m).manager

  abbrev two : Manager
  two = (tick_lane Low one).manager

  one_sound : IsSound one
  one_sound = (lane_ticks High m).sound sound

  both_lasts : m.job ≡ Some (Probing true true) → IsProbing m.low → IsProbing m.high
      → Lasts (Probing true true) m two
  both_lasts e low high = first (tick_is High m sound)
    where
      low_one : IsProbing one.low
      low_one = subst IsProbing (sym (high_keeps_low m)) low

      second : TicksOn High m one → TicksOn Low one two ⊎ TicksOff Low one two
          → Lasts (Probing true true) m two
      second h (inl on) = inr (record {
        is = on.job ∙ h.job ∙ e;
        awaits = (
          still_probing Low one two low_one on,
          subst IsProbing (sym (low_keeps_high one)) (still_probing High m one high h),
        );
        less = both_less (seconds_waited High high.waiting) (seconds_waited Low low_one.waiting)
            (budget (Probing true true))
            (ap (λ l. left_of High l.outstanding) (low_keeps_high one) ∙ left_after High m one high h)
            (left_after Low one two low_one on)
            (ap (left_of High) high.waits)
            (ap (λ l. left_of Low l.outstanding) (sym (high_keeps_low m))
            ∙ ap (left_of Low) low_one.waits)
            (waited_less High m.high high.waiting sound.high high.waits)
            (waited_less Low one.low low_one.waiting one_sound.low low_one.waits);
      })
      second h (inr off) = inl (off.lost (Probing true true) (h.job ∙ e)
          (ap (waits_for Low) (h.job ∙ e)))

      first : TicksOn High m one ⊎ TicksOff High m one → Lasts (Probing true true) m two
      first (inl on) = second on (tick_is Low one one_sound)
      first (inr off) = inl (done_low (Probing true true) one one_sound
          (off.lost (Probing true true) e (ap (waits_for High) e)))

  low_lasts : m.job ≡ Some (Probing false true) → IsProbing m.low
      → Lasts (Probing false true) m two
  low_lasts e low = second (first (tick_is High m sound)) (tick_is Low one one_sound)
    where
      low_one : IsProbing one.low
      low_one = subst IsProbing (sym (high_keeps_low m)) low

      first : TicksOn High m one ⊎ TicksOff High m one → one.job ≡ Some (Probing false true)
      first (inl on) = on.job ∙ e
      first (inr off) = off.beside (ap (waits_for High) e) ∙ e

      second : one.job ≡ Some (Probing false true) → TicksOn Low one two ⊎ TicksOff Low one two
          → Lasts (Probing false true) m two
      second j (inl on) = inr (record {
        is = on.job ∙ j;
        awaits = still_probing Low one two low_one on;
        less = low_less (seconds_waited Low low_one.waiting) (budget (Probing false true))
            (left_after Low one two low_one on)
            (ap (λ l. left_of Low l.outstanding) (sym (high_keeps_low m))
            ∙ ap (left_of Low) low_one.waits)
            (waited_less Low one.low low_one.waiting one_sound.low low_one.waits);
      })
      second j (inr off) = inl (off.lost (Probing false true) j (ap (waits_for Low) j))

  -- a lane that was free is free after its second
  free_after : IsFree m.low → TicksOn Low one two → IsFree two.low
  free_after free on = record {
    none = on.idle (ap (λ l. l.outstanding) (high_keeps_low m) ∙ free.none);
    proved = on.proved ∙ ap (λ l. l.proved) (high_keeps_low m) ∙ free.proved;
  }

  not_given_up : IsFree m.low → TicksOff Low one two → ⊥
  not_given_up free off = differ off.was
      (sym (ap (λ l. l.outstanding) (high_keeps_low m) ∙ free.none) ∙ off.waited)
    where
      differ : (v : Waiting) → None ≡ Some v → ⊥
      differ v k = cc

  high_lasts : m.job ≡ Some (Probing true false) → IsFree m.low → IsProbing m.high
      → Lasts (Probing true false) m two
  high_lasts e low high = first (tick_is High m sound)
    where
      second : TicksOn High m one → TicksOn Low one two ⊎ TicksOff Low one two
          → Lasts (Probing true false) m two
      second h (inl on) = inr (record {
        is = on.job ∙ h.job ∙ e;
        awaits = (
          free_after low on,
          subst IsProbing (sym (low_keeps_high one)) (still_probing High m one high h),
        );
        less = high_less (seconds_waited High high.waiting) (budget (Probing true false))
            (ap (λ l. left_of High l.outstanding) (low_keeps_high one) ∙ left_after High m one high h)
            (ap (left_of High) high.waits)
            (waited_less High m.high high.waiting sound.high high.waits);
      })
      second h (inr off) = absurd (not_given_up low off)

      first : TicksOn High m one ⊎ TicksOff High m one → Lasts (Probing true false) m two
      first (inl on) = second on (tick_is Low one one_sound)
      first (inr off) = inl (done_low (Probing true false) one one_sound
          (off.lost (Probing true false) e (ap (waits_for High) e)))

  -- ---- an end that is sent anew

  module _ (order : Order) (image : List ℕ) (busy : ℕ) where
    delaying_waits : m.job ≡ Some (DelayingEnd order image busy) → IsFree m.low
        → (two.job ≡ Some (DelayingEnd order image busy)) × IsFree two.low
    delaying_waits e free = second (first (tick_is High m sound)) (tick_is Low one one_sound)
      where
        first : TicksOn High m one ⊎ TicksOff High m one
            → one.job ≡ Some (DelayingEnd order image busy)
        first (inl on) = on.job ∙ e
        first (inr off) = off.beside (ap (waits_for High) e) ∙ e

        second : one.job ≡ Some (DelayingEnd order image busy)
            → TicksOn Low one two ⊎ TicksOff Low one two
            → (two.job ≡ Some (DelayingEnd order image busy)) × IsFree two.low
        second j (inl on) = (on.job ∙ j, free_after free on)
        second j (inr off) = absurd (not_given_up free off)

    delaying_leaves : m.job ≡ Some (DelayingEnd order image busy) → busy ≤ 60 → IsFree m.low
        → Leaves (DelayingEnd order image busy) 1 m (resumed_by two.job two).manager
    delaying_leaves e le free =
        let waits = delaying_waits e free in
        let n = with_job (Some (EndingImage order image busy)) two in
        let g = goes_ready (EndingImage order image busy) n refl le (record {
          none = waits.1.none;
          proved = waits.1.proved;
        }) in
        subst (λ j. Leaves (DelayingEnd order image busy) 1 m (resumed_by j two).manager)
        (sym waits.0)
        (inr (record {
          stage = EndingImage order image busy;
          is = g.is;
          same = refl;
          awaits = g.awaits;
          less = anew busy g.waits (ap (left_of Low) free.none) le;
        }))
      where
        anew : {x y : ℕ} (b : ℕ) → x ≡ 9 → y ≡ 0 → b ≤ 60
            → x + (9 * (60 - b) + (60 - b)) + 1 ≤ y + (9 * ((60 - b) + 1) + ((60 - b) + 1))
        anew b ex ey lb = omega (arith, ex, ey, lb)

-- ---- a second

lasts_leaves : (s : Stage) (m n : Manager) → ((x : Manager) → resumed_by (Some s) x ≡ sends_nothing x)
    → Lasts s m n → Leaves s 1 m (resumed_by n.job n).manager
lasts_leaves s m n quiet (inl done) = inl (done_resumes s n done)
lasts_leaves s m n quiet (inr near) =
    subst (λ o. Leaves s 1 m o.manager)
    (sym (ap (λ j. resumed_by j n) near.is ∙ quiet n))
    (inr (record {
      stage = s;
      is = near.is;
      same = refl;
      awaits = near.awaits;
      less = near.less;
    }))

second_by : (s : Stage) (m : Manager) → IsSound m → m.job ≡ Some s → Awaits s m.low m.high
    → Leaves s 1 m (resumed_by (tick_lanes m).manager.job (tick_lanes m).manager).manager
second_by (Probing true true) m sound e a =
    lasts_leaves (Probing true true) m (tick_lanes m).manager (λ x. refl) (both_lasts m sound e a.0 a.1)
second_by (Probing false true) m sound e a =
    lasts_leaves (Probing false true) m (tick_lanes m).manager (λ x. refl) (low_lasts m sound e a)
second_by (Probing true false) m sound e a =
    lasts_leaves (Probing true false) m (tick_lanes m).manager (λ x. refl) (high_lasts m sound e a.0 a.1)
second_by (Probing false false) m sound e a = absurd a
second_by Asking m sound e a =
    lasts_leaves Asking m (tick_lanes m).manager (λ x. refl) (sent_lasts Asking asking_sent m e sound a)
second_by (Gathering expected next copy) m sound e a =
    lasts_leaves (Gathering expected next copy) m (tick_lanes m).manager (λ x. refl)
    (sent_lasts (Gathering expected next copy) (gathering_sent expected next copy) m e sound a)
second_by AskingAlarms m sound e a =
    lasts_leaves AskingAlarms m (tick_lanes m).manager (λ x. refl) (sent_lasts AskingAlarms alarms_sent m e sound a)
second_by (GatheringRows expected next) m sound e a =
    lasts_leaves (GatheringRows expected next) m (tick_lanes m).manager (λ x. refl)
    (sent_lasts (GatheringRows expected next) (rows_sent expected next) m e sound a)
second_by (StartingImage order asked image) m sound e a =
    lasts_leaves (StartingImage order asked image) m (tick_lanes m).manager (λ x. refl)
    (sent_lasts (StartingImage order asked image) (start_sent order asked image) m e sound a)
second_by (SendingImage order o resent) m sound e a =
    lasts_leaves (SendingImage order o resent) m (tick_lanes m).manager (λ x. refl)
    (sent_lasts (SendingImage order o resent) (window_sent order o resent) m e sound a)
second_by (EndingImage order image busy) m sound e a =
    lasts_leaves (EndingImage order image busy) m (tick_lanes m).manager (λ x. refl)
    (sent_lasts (EndingImage order image busy) (end_sent order image busy) m e sound a)
second_by (DelayingEnd order image busy) m sound e a =
    delaying_leaves m sound order image busy e a.0 a.1

pub second_leaves : (s : Stage) (m : Manager) → IsSound m → m.job ≡ Some s
    → Awaits s m.low m.high → Leaves s 1 m (after_tick m).manager
unfolding after_tick
second_leaves s m sound e a = second_by s m sound e a

-- ---- the high lane

ticked_beside : (m n : Manager) → IsBesideJob m.high → (o : Option Waiting) → m.high.outstanding ≡ o
    → TicksOn High m n ⊎ TicksOff High m n → IsBesideJob n.high
ticked_beside m n h o e (inr off) = beside_idle n.high off.none
ticked_beside m n h None e (inl on) = beside_idle n.high (on.idle e)
ticked_beside m n h (Some w) e (inl on) =
    let v = on.busy w e in
    λ u out.
    ap (λ x. is_job x.command.purpose) (same_Waiting u v.waiting (sym out ∙ v.waits))
    ∙ ap (λ c. is_job c.purpose) v.command ∙ h w e

resumed_high : (j : Option Stage) (m : Manager) → (resumed_by j m).manager.high ≡ m.high
resumed_high (Some (DelayingEnd order image busy)) m =
    goes_high (with_job (Some (EndingImage order image busy)) m)
resumed_high _ m = refl

pub second_high : (m : Manager) → IsSound m → IsBesideJob m.high
    → IsBesideJob (after_tick m).manager.high
unfolding after_tick
second_high m sound h =
    let a = (tick_lane High m).manager in
    let n = (tick_lanes m).manager in
    beside_same a.high (resumed_by n.job n).manager.high
    (resumed_high n.job n ∙ low_keeps_high a)
    (ticked_beside m a h m.high.outstanding refl (tick_is High m sound))
