-- A caller's command leaves a running job alone, or begins one.
use Rattle.std.proofs.Common.{◌≡◌, ℕ, ◌+◌, ◌≤◌, Bool, true, false, cond, List, [], ◌∷◌, Option, Some, None, ◌⊎◌, inl, inr, refl, sym, ap, subst, ◌∙◌, arith}
use Rattle.omci_types.specs.declared.EntityId.{EntityId}
use Rattle.omci_types.specs.declared.Priority.{Priority}
use Rattle.omci_types.specs.declared.Priority.TheVariants.{Low, High}
use Rattle.message_spec.specs.declared.Request.{Request}
use Rattle.message_spec.specs.declared.Request.TheVariants as request
use Rattle.lane_spec.specs.Command.{Command, sync_entity, job_command, probe_command, check_command, ask}
use Rattle.lane_spec.specs.Lane.{Lane, Waiting}
use Rattle.manager_spec.specs.declared.Refusal.{Refusal}
use Rattle.manager_spec.specs.declared.Refusal.TheVariants.{Unproven}
use Rattle.manager_spec.specs.Manager.{Order, Stage, Probing, Asking, Gathering, AskingAlarms, GatheringRows, StartingImage, SendingImage, EndingImage, DelayingEnd, Manager, Outcome, lane_in, other_lane, command_sent, sends_nothing}
use Rattle.manager_spec.specs.Resync.{with_job}
use Rattle.manager_spec.specs.Upgrade.{start_command}
use Rattle.manager_spec.specs.Jobs.{job_of}
use Rattle.manager_spec.specs.Submitting.{occupied, unproven, out_of_step, needs_copy, running, job_running, goes_beside, job_in_the_way, other_change, second_change, first_refusal, unless_refused, probe_refusal, after_probe, submit_refusal, leaves_copy, leave_if, after_submit, check_refusal, after_check, resync_refusal, resync_begun, after_resync, audit_refusal, audit_asked, after_audit, image_refusal, check_given, image_asked, after_image}
use Rattle.world_laws.proofs.Likeness.{SameLanes}
use Rattle.world_laws.proofs.Keeping.{leave_if_keeps}
use Rattle.ending_laws.proofs.Calls.{first_none, free_first, free_second}
use Rattle.ending_laws.proofs.Stages.{AwaitsJob, IsProbing, Awaits, cost, Done, Runs, Leaves, is_job, IsBesideJob}
use Rattle.ending_laws.proofs.Replies.{leave_job}
use Rattle.ending_laws.proofs.JobPackets.{Unprobed, other_high, other_cost, lanes_awaits, lanes_cost, equal_less, some_none, beside_same}

-- ---- a job that runs

running_none : (j : Option Stage) → running j ≡ None → j ≡ None
running_none None e = refl
running_none (Some s) e = absurd (cc)

rest_none : (o : Option Refusal) (rest : List (Option Refusal)) → first_refusal (o ∷ rest) ≡ None
    → first_refusal rest ≡ None
rest_none o rest e = (first_none o rest e).1

head_none : (o : Option Refusal) (rest : List (Option Refusal)) → first_refusal (o ∷ rest) ≡ None
    → o ≡ None
head_none o rest e = (first_none o rest e).0

pub still_leaves : (s : Stage) (m : Manager) → m.job ≡ Some s → Awaits s m.low m.high
    → Leaves s 0 m m
still_leaves s m e a = inr (record {
  stage = s;
  is = e;
  same = refl;
  awaits = a;
  less = equal_less (cost s m.low m.high) (cost s m.low m.high) refl;
})

module _ (s : Stage) (m : Manager) (e : m.job ≡ Some s) (a : Awaits s m.low m.high) where
  unless_leaves : (r : Option Refusal) (o : Outcome) → (r ≡ None → Leaves s 0 m o.manager)
      → Leaves s 0 m (unless_refused r o m).outcome.manager
  unless_leaves None o f = f refl
  unless_leaves (Some refusal) o f = still_leaves s m e a

  -- a command that is refused while a job runs
  in_the_way : (o : Outcome) → job_running m ≡ None → Leaves s 0 m o.manager
  in_the_way o none = absurd (some_none s (sym (running_none m.job none) ∙ e))

  pub probe_leaves : (lane : Priority) → Leaves s 0 m (after_probe lane m).outcome.manager
  unfolding after_probe
  probe_leaves lane =
      unless_leaves (probe_refusal lane m) (command_sent false lane probe_command m)
      (λ none. in_the_way (command_sent false lane probe_command m)
      (head_none (job_running m) [] (rest_none (occupied lane m) (job_running m ∷ []) none)))

  pub check_leaves : Leaves s 0 m (after_check m).outcome.manager
  unfolding after_check
  check_leaves =
      unless_leaves (check_refusal m) (command_sent false Low check_command m)
      (λ none. in_the_way (command_sent false Low check_command m)
      (head_none (job_running m) (other_change Low m ∷ [])
      (rest_none (out_of_step true m) (job_running m ∷ other_change Low m ∷ [])
      (rest_none (occupied Low m) (out_of_step true m ∷ job_running m ∷ other_change Low m ∷ [])
      (rest_none (unproven Low m)
      (occupied Low m ∷ out_of_step true m ∷ job_running m ∷ other_change Low m ∷ []) none)))))

  pub resync_leaves : Leaves s 0 m (after_resync m).outcome.manager
  unfolding after_resync
  resync_leaves =
      unless_leaves (resync_refusal m) (resync_begun m)
      (λ none. in_the_way (resync_begun m)
      (head_none (job_running m) [] (rest_none (occupied Low m) (job_running m ∷ [])
      (rest_none (occupied High m) (occupied Low m ∷ job_running m ∷ []) none))))

  pub audit_leaves : Leaves s 0 m (after_audit m).outcome.manager
  unfolding after_audit
  audit_leaves =
      unless_leaves (audit_refusal m) (audit_asked m)
      (λ none. in_the_way (audit_asked m)
      (head_none (job_running m) [] (rest_none (occupied Low m) (job_running m ∷ [])
      (rest_none (unproven Low m) (occupied Low m ∷ job_running m ∷ []) none))))

  pub image_leaves : (slot asked : ℕ) (check : Option ℕ) (image : List ℕ)
      → Leaves s 0 m (after_image slot asked check image m).outcome.manager
  unfolding after_image
  image_leaves slot asked check image =
      unless_leaves (image_refusal m)
      (image_asked (record { slot = slot; check = check_given check image }) asked image m)
      (λ none. in_the_way
      (image_asked (record { slot = slot; check = check_given check image }) asked image m)
      (head_none (job_running m) (other_change Low m ∷ [])
      (rest_none (occupied Low m) (job_running m ∷ other_change Low m ∷ [])
      (rest_none (unproven Low m) (occupied Low m ∷ job_running m ∷ other_change Low m ∷ [])
      none))))

-- ---- a request beside it, which is a get in the high lane

leave_if_job : (b : Bool) (m : Manager) → (leave_if b m).job ≡ m.job
leave_if_job true m = leave_job m
leave_if_job false m = refl

unprobed_by : (s : Stage) (low high : Lane) → Awaits s low high → high.outstanding ≡ None
    → Unprobed s
unprobed_by (Probing true true) low high a none = absurd (differ a.1.waiting (sym none ∙ a.1.waits))
  where
    differ : (v : Waiting) → None ≡ Some v → ⊥
    differ v k = cc
unprobed_by (Probing true false) low high a none = absurd (differ a.1.waiting (sym none ∙ a.1.waits))
  where
    differ : (v : Waiting) → None ≡ Some v → ⊥
    differ v k = cc
unprobed_by (Probing false b) low high a none = refl
unprobed_by Asking low high a none = tt
unprobed_by (Gathering expected next copy) low high a none = tt
unprobed_by AskingAlarms low high a none = tt
unprobed_by (GatheringRows expected next) low high a none = tt
unprobed_by (StartingImage order asked image) low high a none = tt
unprobed_by (SendingImage order o resent) low high a none = tt
unprobed_by (EndingImage order image busy) low high a none = tt
unprobed_by (DelayingEnd order image busy) low high a none = tt

beside_leaves : (s : Stage) (c : Command) (m n : Manager) → m.job ≡ Some s → Awaits s m.low m.high
    → m.high.outstanding ≡ None → n.job ≡ m.job → SameLanes m n
    → Leaves s 0 m (command_sent false High c n).manager
beside_leaves s c m n e a none j same =
    let p = (command_sent false High c n).manager in
    let u = unprobed_by s m.low m.high a none in
    inr (record {
      stage = s;
      is = j ∙ e;
      same = refl;
      awaits = lanes_awaits s m.low p.low p.high p.high same.low refl
          (other_high s m.low m.high p.high u a);
      less = equal_less (cost s p.low p.high) (cost s m.low m.high)
          (lanes_cost s m.low p.low p.high p.high same.low refl
          ∙ other_cost s m.low m.high p.high u);
    })

way_by : (b : Bool) (m : Manager) → cond b None (job_running m) ≡ None
    → (b ≡ true) ⊎ (job_running m ≡ None)
way_by true m e = inl refl
way_by false m e = inr e

pub submit_leaves : (s : Stage) (lane : Priority) (entity : EntityId) (r : Request) (m : Manager)
    → m.job ≡ Some s → Awaits s m.low m.high
    → Leaves s 0 m (after_submit lane entity r m).outcome.manager
unfolding after_submit
submit_leaves s Low entity r m e a =
    let o = command_sent false Low (ask entity r) (leave_if (leaves_copy r) m) in
    unless_leaves s m e a (submit_refusal Low r m) o
    (λ none. in_the_way s m e a o
    (head_none (job_running m) (second_change r Low m ∷ [])
    (rest_none (out_of_step (needs_copy r) m) (job_running m ∷ second_change r Low m ∷ [])
    (rest_none (occupied Low m)
    (out_of_step (needs_copy r) m ∷ job_running m ∷ second_change r Low m ∷ [])
    (rest_none (unproven Low m)
    (occupied Low m ∷ out_of_step (needs_copy r) m ∷ job_running m ∷ second_change r Low m ∷ [])
    none)))))
submit_leaves s High entity r m e a =
    let n = leave_if (leaves_copy r) m in
    unless_leaves s m e a (submit_refusal High r m) (command_sent false High (ask entity r) n)
    (λ none. beside_leaves s (ask entity r) m n e a
    (free_second (unproven High m) High m (out_of_step (needs_copy r) m ∷ job_in_the_way High r m
    ∷ second_change r High m ∷ []) none)
    (leave_if_job (leaves_copy r) m) (leave_if_keeps (leaves_copy r) m).same)

-- ---- where no job runs

-- a job has begun, and waits
pub record Begins (m : Manager) : Type 0 where
  pub stage : Stage
  pub is : m.job ≡ Some stage
  pub awaits : Awaits stage m.low m.high

abbrev pub MayBegin : Manager → Type 0
MayBegin m = (m.job ≡ None) ⊎ Begins m

unless_begins : (r : Option Refusal) (o : Outcome) (m : Manager) → m.job ≡ None
    → (r ≡ None → MayBegin o.manager) → MayBegin (unless_refused r o m).outcome.manager
unless_begins None o m e f = f refl
unless_begins (Some refusal) o m e f = inl e

sent_job : (asks : Bool) (lane : Priority) (c : Command) (m : Manager)
    → (command_sent asks lane c m).manager.job ≡ m.job
sent_job asks Low c m = refl
sent_job asks High c m = refl

proved_by : (b : Bool) (lane : Priority) → cond b None (Some (Unproven lane)) ≡ None → b ≡ true
proved_by true lane e = refl
proved_by false lane e = absurd (cc)

low_proved : (m : Manager) (rest : List (Option Refusal))
    → first_refusal (unproven Low m ∷ rest) ≡ None → m.low.proved ≡ true
low_proved m rest e = proved_by m.low.proved Low (head_none (unproven Low m) rest e)

pub probe_begins : (lane : Priority) (m : Manager) → m.job ≡ None
    → MayBegin (after_probe lane m).outcome.manager
unfolding after_probe
probe_begins lane m e =
    unless_begins (probe_refusal lane m) (command_sent false lane probe_command m) m e
    (λ none. inl (sent_job false lane probe_command m ∙ e))

pub submit_begins : (lane : Priority) (entity : EntityId) (r : Request) (m : Manager)
    → m.job ≡ None → MayBegin (after_submit lane entity r m).outcome.manager
unfolding after_submit
submit_begins lane entity r m e =
    let n = leave_if (leaves_copy r) m in
    unless_begins (submit_refusal lane r m) (command_sent false lane (ask entity r) n) m e
    (λ none. inl (sent_job false lane (ask entity r) n ∙ leave_if_job (leaves_copy r) m ∙ e))

pub check_begins : (m : Manager) → m.job ≡ None → MayBegin (after_check m).outcome.manager
unfolding after_check
check_begins m e =
    unless_begins (check_refusal m) (command_sent false Low check_command m) m e (λ none. inl e)

pub resync_begins : (m : Manager) → m.job ≡ None → MayBegin (after_resync m).outcome.manager
unfolding after_resync
resync_begins m e =
    unless_begins (resync_refusal m) (resync_begun m) m e
    (λ none. inr (record {
      stage = Probing true true;
      is = refl;
      awaits = (
        record { waiting = _; waits = refl; probe = refl },
        record { waiting = _; waits = refl; probe = refl },
      );
    }))

pub audit_begins : (m : Manager) → m.job ≡ None → MayBegin (after_audit m).outcome.manager
unfolding after_audit
audit_begins m e =
    unless_begins (audit_refusal m) (audit_asked m) m e
    (λ none. inr (record {
      stage = AskingAlarms;
      is = refl;
      awaits = record {
        waiting = _;
        waits = refl;
        command = refl;
        proved = low_proved m (occupied Low m ∷ job_running m ∷ []) none;
      };
    }))

pub image_begins : (slot asked : ℕ) (check : Option ℕ) (image : List ℕ) (m : Manager)
    → m.job ≡ None → 1 ≤ asked → MayBegin (after_image slot asked check image m).outcome.manager
unfolding after_image
image_begins slot asked check image m e some =
    unless_begins (image_refusal m) (image_asked order asked image m) m e
    (λ none. inr (record {
      stage = StartingImage order asked image;
      is = refl;
      awaits = (
        some,
        record {
          waiting = _;
          waits = refl;
          command = refl;
          proved = low_proved m (occupied Low m ∷ job_running m ∷ other_change Low m ∷ []) none;
        },
      );
    }))
  where
    order : Order
    order = record { slot = slot; check = check_given check image }

-- ---- the high lane

same_command : (w : Waiting) (c : Command) (tci : ℕ)
    → Some (record { tci = tci; command = c; ticks = 0; repeats = 0 }) ≡ Some w
    → is_job c.purpose ≡ false → is_job w.command.purpose ≡ false
same_command w c tci e h = subst (λ (x : Waiting). is_job x.command.purpose ≡ false) (same e) h
  where
    same : Some (record { tci = tci; command = c; ticks = 0; repeats = 0 }) ≡ Some w
        → record { tci = tci; command = c; ticks = 0; repeats = 0 } ≡ w
    same k = cc

pub sent_beside : (asks : Bool) (lane : Priority) (c : Command) (m : Manager)
    → is_job c.purpose ≡ false → IsBesideJob m.high
    → IsBesideJob (command_sent asks lane c m).manager.high
sent_beside asks Low c m other h = h
sent_beside asks High c m other h = λ w out. same_command w c _ out other

unless_beside : (r : Option Refusal) (o : Outcome) (m : Manager) → IsBesideJob m.high
    → IsBesideJob o.manager.high → IsBesideJob (unless_refused r o m).outcome.manager.high
unless_beside None o m h k = k
unless_beside (Some refusal) o m h k = h

module _ (m : Manager) (h : IsBesideJob m.high) where
  pub probe_high : (lane : Priority) → IsBesideJob (after_probe lane m).outcome.manager.high
  unfolding after_probe
  probe_high lane = unless_beside (probe_refusal lane m) (command_sent false lane probe_command m) m h
      (sent_beside false lane probe_command m refl h)

  pub submit_high : (lane : Priority) (entity : EntityId) (r : Request)
      → IsBesideJob (after_submit lane entity r m).outcome.manager.high
  unfolding after_submit
  submit_high lane entity r =
      let n = leave_if (leaves_copy r) m in
      unless_beside (submit_refusal lane r m) (command_sent false lane (ask entity r) n) m h
      (sent_beside false lane (ask entity r) n refl
      (beside_same m.high n.high (leave_if_keeps (leaves_copy r) m).same.high h))

  pub check_high : IsBesideJob (after_check m).outcome.manager.high
  unfolding after_check
  check_high = unless_beside (check_refusal m) (command_sent false Low check_command m) m h h

  pub resync_high : IsBesideJob (after_resync m).outcome.manager.high
  unfolding after_resync
  resync_high = unless_beside (resync_refusal m) (resync_begun m) m h
      (sent_beside false High probe_command (with_job (Some (Probing true true)) m) refl h)

  pub audit_high : IsBesideJob (after_audit m).outcome.manager.high
  unfolding after_audit
  audit_high = unless_beside (audit_refusal m) (audit_asked m) m h h

  pub image_high : (slot asked : ℕ) (check : Option ℕ) (image : List ℕ)
      → IsBesideJob (after_image slot asked check image m).outcome.manager.high
  unfolding after_image
  image_high slot asked check image = unless_beside (image_refusal m)
      (image_asked (record { slot = slot; check = check_given check image }) asked image m) m h h
