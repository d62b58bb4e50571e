-- Steps of the two ends between their rests: submissions and seconds.
use Rattle.std.proofs.Common.{◌≡◌, ℕ, ◌+◌, ◌++◌, Bool, true, false, cond, List, [], ◌∷◌, Option, Some, None, is_none, refl, sym, ap, subst, ◌∙◌}
use Rattle.std.proofs.lemmas.Bool.{and_parts}
use Rattle.std.specs.Prelude.{map}
use Rattle.omci_types.specs.declared.EntityId.{EntityId}
use Rattle.omci_types.specs.declared.Priority.{Priority}
use Rattle.omci_types.specs.declared.Priority.TheVariants.{Low, High}
use Rattle.message_spec.specs.declared.Request.{Request}
use Rattle.message_spec.specs.declared.Request.TheVariants as request
use Rattle.lane_spec.specs.Command.{probe_command, check_command, ask, job_command, sync_entity, is_probe}
use Rattle.lane_spec.specs.Lane.{Lane, Waiting, lane_tick}
use Rattle.lane_spec.specs.declared.LaneTick.{LaneTick}
use Rattle.lane_spec.specs.declared.LaneTick.TheVariants.{Quiet, Repeat, GaveUp}
use Rattle.manager_spec.specs.declared.Refusal.{Refusal}
use Rattle.manager_spec.specs.declared.Refusal.TheVariants.{Unproven}
use Rattle.omci_types.specs.declared.Boot.{Boot}
use Rattle.slot_spec.specs.Slots.{SlotPair}
use Rattle.manager_spec.specs.Upgrade.{start_command}
use Rattle.manager_spec.specs.Manager.{Order, Stage, Probing, AskingAlarms, StartingImage, EndingImage, DelayingEnd, Manager, Outcome, and_then, sends_nothing, lane_in, command_sent}
use Rattle.manager_spec.specs.Resync.{with_job}
use Rattle.manager_spec.specs.Jobs.{Wish, is_free, send_wish, wish_in, job_goes_on, resumed_by, job_resumes}
use Rattle.manager_spec.specs.Submitting.{occupied, occupied_by, unproven, out_of_step, needs_copy, job_running, job_in_the_way, other_change, second_change, first_refusal, unless_refused, probe_refusal, after_probe, submit_refusal, leaves_copy, leave_if, after_submit, check_refusal, after_check, resync_refusal, after_resync, audit_refusal, audit_asked, after_audit, image_refusal, check_given, image_asked, after_image}
use Rattle.manager_spec.specs.Steps.{lane_ticked, tick_lane, tick_lanes, after_tick}
use Rattle.unit_spec.specs.Onu.{Onu, onu_started, onu_ticked}
use Rattle.moves_spec.specs.Moves.{UnitStarts}
use Rattle.link_spec.specs.Link.{Link}
use Rattle.moves_spec.specs.Channel.{Channel}
use Rattle.world_spec.specs.Happenings.{ReplyTaken}
use Rattle.world_spec.specs.Ends.{Ends, Step, still, not_enabled, then_step, stage_in, manager_did, submission_step, submission, manager_ticks, unit_starts, restarts, unit_ticks, second}
use Rattle.world_spec.specs.Nodes.{Nodes}
use Rattle.world_spec.specs.History.{Told}
use Rattle.world_laws.proofs.Likeness.{Like, same_length, some_unit, SameLanes, like_same_kept}
use Rattle.world_laws.proofs.Keeping.{leave_if_keeps, resume_takes}
use Rattle.world_laws.proofs.Following.{Happens, then_happens, OutcomeFollows, sends_none, from_same, both_follow, outcome_happens}
use Rattle.world_laws.proofs.Sending.{command_follows}
use Rattle.world_laws.proofs.Ticks.{tick_lane_follows}

-- the nodes between two lines of a script
abbrev pub Rests : Nodes → Told → Channel → Type 0
Rests n t p = Like n.link n.ends.lives n.ends.unit n.ends.manager t p

-- some moves make up for a step
abbrev pub StepFollows : Step → Nodes → Told → Channel → Type 0
StepFollows s n t p = Happens s.happenings n.link s.ends.lives s.ends.unit s.ends.manager t p

pub no_step : (n : Nodes) (t : Told) (p : Channel) → Rests n t p → StepFollows (still n.ends) n t p
no_step n t p h = ([], h)

pub not_enabled_step : (n : Nodes) (t : Told) (p : Channel) → Rests n t p
    → StepFollows (not_enabled n.ends) n t p
not_enabled_step n t p h = ([], h)

-- ---- what the manager did of its own

-- it took no reply
pub own_follows : (o : Outcome) (m : Manager) (n : Nodes) (t : Told) (p : Channel) → Rests n t p
    → n.ends.manager ≡ Some m → o.taken ≡ [] → OutcomeFollows m o
    → StepFollows (manager_did o n.ends) n t p
own_follows o m n t p h e none f =
    outcome_happens [] (stage_in n.ends.manager) m o n.link n.ends.lives n.ends.unit t p
    (subst
    (λ ls. Happens (map ReplyTaken ls) n.link n.ends.lives n.ends.unit (Some m) t p) (sym none)
    ([], subst (λ x. Like n.link n.ends.lives n.ends.unit x t p) e h)) f

-- ---- submissions

first_none : (o : Option Refusal) (rest : List (Option Refusal))
    → first_refusal (o ∷ rest) ≡ None → (o ≡ None) × (first_refusal rest ≡ None)
first_none None rest e = (refl, e)
first_none (Some r) rest e = absurd (cc)

unoccupied : (o : Option Waiting) → occupied_by o ≡ None → o ≡ None
unoccupied None e = refl
unoccupied (Some w) e = absurd (cc)

is_proved : (proved : Bool) (l : Priority) → cond proved None (Some (Unproven l)) ≡ None
    → proved ≡ true
is_proved true l e = refl
is_proved false l e = absurd (cc)

proved_any : (proved probe : Bool) → proved ≡ true → proved ≡ false → probe ≡ true
proved_any proved probe e f = absurd (cc)

-- it is refused, or does what it asks for
submission_by : (r : Option Refusal) (o : Outcome) (m : Manager) (n : Nodes) (t : Told)
    (p : Channel) → Rests n t p → (r ≡ None → StepFollows (manager_did o n.ends) n t p)
    → StepFollows (submission_step (unless_refused r o m) n.ends) n t p
submission_by None o m n t p h f = f refl
submission_by (Some r) o m n t p h f = ([], h)

probe_goes : (l : Priority) (m : Manager) (n : Nodes) (t : Told) (p : Channel) → Rests n t p
    → n.ends.manager ≡ Some m
    → StepFollows (submission_step (after_probe l m) n.ends) n t p
unfolding after_probe
probe_goes l m n t p h e =
    submission_by (probe_refusal l m) (command_sent false l probe_command m) m n t p h
    (λ none. own_follows (command_sent false l probe_command m) m n t p h e refl
    (command_follows false l probe_command m
    (unoccupied (lane_in l m).outstanding
    (first_none (occupied l m) (job_running m ∷ []) none).0) (λ q. refl)))

pub probe_follows : (l : Priority) (o : Option Manager) (n : Nodes) (t : Told) (p : Channel)
    → Rests n t p → n.ends.manager ≡ o
    → StepFollows (submission (after_probe l) o n.ends) n t p
probe_follows l None n t p h e = not_enabled_step n t p h
probe_follows l (Some m) n t p h e = probe_goes l m n t p h e

lane_same : (l : Priority) (m n : Manager) → SameLanes m n → lane_in l n ≡ lane_in l m
lane_same Low m n s = s.low
lane_same High m n s = s.high

-- a request may leave the copy before it goes out
ask_follows : (b : Bool) (l : Priority) (entity : EntityId) (r : Request) (m : Manager)
    → (lane_in l m).proved ≡ true → (lane_in l m).outstanding ≡ None
    → OutcomeFollows m (command_sent false l (ask entity r) (leave_if b m))
ask_follows b l entity r m proved none =
    from_same m (leave_if b m) (command_sent false l (ask entity r) (leave_if b m)) same
    (command_follows false l (ask entity r) (leave_if b m)
    (ap (λ x. x.outstanding) lane ∙ none)
    (proved_any (lane_in l (leave_if b m)).proved false (ap (λ x. x.proved) lane ∙ proved)))
  where
    same : SameLanes m (leave_if b m)
    same = (leave_if_keeps b m).same

    lane : lane_in l (leave_if b m) ≡ lane_in l m
    lane = lane_same l m (leave_if b m) same

submit_goes : (l : Priority) (entity : EntityId) (r : Request) (m : Manager) (n : Nodes) (t : Told)
    (p : Channel) → Rests n t p → n.ends.manager ≡ Some m
    → StepFollows (submission_step (after_submit l entity r m) n.ends) n t p
unfolding after_submit
submit_goes l entity r m n t p h e =
    submission_by (submit_refusal l r m) o m n t p h
    (λ none. own_follows o m n t p h e refl (goes (first_none (unproven l m) rest none)))
  where
    o : Outcome
    o = command_sent false l (ask entity r) (leave_if (leaves_copy r) m)

    more : List (Option Refusal)
    more = out_of_step (needs_copy r) m ∷ job_in_the_way l r m ∷ second_change r l m ∷ []

    rest : List (Option Refusal)
    rest = occupied l m ∷ more

    goes : (unproven l m ≡ None) × (first_refusal rest ≡ None) → OutcomeFollows m o
    goes k = ask_follows (leaves_copy r) l entity r m (is_proved (lane_in l m).proved l k.0)
        (unoccupied (lane_in l m).outstanding (first_none (occupied l m) more k.1).0)

pub submit_follows : (l : Priority) (entity : EntityId) (r : Request) (o : Option Manager)
    (n : Nodes) (t : Told) (p : Channel) → Rests n t p → n.ends.manager ≡ o
    → StepFollows (submission (after_submit l entity r) o n.ends) n t p
submit_follows l entity r None n t p h e = not_enabled_step n t p h
submit_follows l entity r (Some m) n t p h e = submit_goes l entity r m n t p h e

check_goes : (m : Manager) (n : Nodes) (t : Told) (p : Channel) → Rests n t p
    → n.ends.manager ≡ Some m → StepFollows (submission_step (after_check m) n.ends) n t p
unfolding after_check
check_goes m n t p h e =
    submission_by (check_refusal m) o m n t p h
    (λ none. own_follows o m n t p h e refl (goes (first_none (unproven Low m) rest none)))
  where
    o : Outcome
    o = command_sent false Low check_command m

    more : List (Option Refusal)
    more = out_of_step true m ∷ job_running m ∷ other_change Low m ∷ []

    rest : List (Option Refusal)
    rest = occupied Low m ∷ more

    goes : (unproven Low m ≡ None) × (first_refusal rest ≡ None) → OutcomeFollows m o
    goes k = command_follows false Low check_command m
        (unoccupied m.low.outstanding (first_none (occupied Low m) more k.1).0)
        (proved_any m.low.proved false (is_proved m.low.proved Low k.0))

pub check_follows : (o : Option Manager) (n : Nodes) (t : Told) (p : Channel) → Rests n t p
    → n.ends.manager ≡ o → StepFollows (submission after_check o n.ends) n t p
check_follows None n t p h e = not_enabled_step n t p h
check_follows (Some m) n t p h e = check_goes m n t p h e

-- both lanes are probed
resync_sends : (m : Manager) → m.high.outstanding ≡ None → m.low.outstanding ≡ None
    → OutcomeFollows m
    (and_then (command_sent false High probe_command (with_job (Some (Probing true true)) m))
    (command_sent false Low probe_command))
resync_sends m high low =
    both_follow m a (command_sent false Low probe_command)
    (from_same m b a (record { low = refl; high = refl })
    (command_follows false High probe_command b high (λ q. refl)))
    (command_follows false Low probe_command a.manager low (λ q. refl))
  where
    b : Manager
    b = with_job (Some (Probing true true)) m

    a : Outcome
    a = command_sent false High probe_command b

resync_goes : (m : Manager) (n : Nodes) (t : Told) (p : Channel) → Rests n t p
    → n.ends.manager ≡ Some m → StepFollows (submission_step (after_resync m) n.ends) n t p
unfolding after_resync
resync_goes m n t p h e =
    submission_by (resync_refusal m) o m n t p h
    (λ none. own_follows o m n t p h e refl (goes (first_none (occupied High m) rest none)))
  where
    o : Outcome
    o = and_then (command_sent false High probe_command (with_job (Some (Probing true true)) m))
        (command_sent false Low probe_command)

    more : List (Option Refusal)
    more = job_running m ∷ []

    rest : List (Option Refusal)
    rest = occupied Low m ∷ more

    goes : (occupied High m ≡ None) × (first_refusal rest ≡ None) → OutcomeFollows m o
    goes k = resync_sends m (unoccupied m.high.outstanding k.0)
        (unoccupied m.low.outstanding (first_none (occupied Low m) more k.1).0)

pub resync_follows : (o : Option Manager) (n : Nodes) (t : Told) (p : Channel) → Rests n t p
    → n.ends.manager ≡ o → StepFollows (submission after_resync o n.ends) n t p
resync_follows None n t p h e = not_enabled_step n t p h
resync_follows (Some m) n t p h e = resync_goes m n t p h e

-- all alarms are asked for
audit_goes : (m : Manager) (n : Nodes) (t : Told) (p : Channel) → Rests n t p
    → n.ends.manager ≡ Some m → StepFollows (submission_step (after_audit m) n.ends) n t p
unfolding after_audit
audit_goes m n t p h e =
    submission_by (audit_refusal m) (audit_asked m) m n t p h
    (λ none. own_follows (audit_asked m) m n t p h e refl
    (goes (first_none (unproven Low m) rest none)))
  where
    more : List (Option Refusal)
    more = job_running m ∷ []

    rest : List (Option Refusal)
    rest = occupied Low m ∷ more

    asking : Manager
    asking = with_job (Some AskingAlarms) m

    goes : (unproven Low m ≡ None) × (first_refusal rest ≡ None) → OutcomeFollows m (audit_asked m)
    goes k = from_same m asking (audit_asked m) (record { low = refl; high = refl })
        (command_follows true Low (job_command sync_entity (request.Alarms 0)) asking
        (unoccupied m.low.outstanding (first_none (occupied Low m) more k.1).0)
        (proved_any m.low.proved false (is_proved m.low.proved Low k.0)))

pub audit_follows : (o : Option Manager) (n : Nodes) (t : Told) (p : Channel) → Rests n t p
    → n.ends.manager ≡ o → StepFollows (submission after_audit o n.ends) n t p
audit_follows None n t p h e = not_enabled_step n t p h
audit_follows (Some m) n t p h e = audit_goes m n t p h e

-- a download is asked for
image_goes : (slot asked : ℕ) (check : Option ℕ) (image : List ℕ) (m : Manager) (n : Nodes)
    (t : Told) (p : Channel) → Rests n t p → n.ends.manager ≡ Some m
    → StepFollows (submission_step (after_image slot asked check image m) n.ends) n t p
unfolding after_image
image_goes slot asked check image m n t p h e =
    submission_by (image_refusal m) o m n t p h
    (λ none. own_follows o m n t p h e refl (goes (first_none (unproven Low m) rest none)))
  where
    order : Order
    order = record { slot = slot; check = check_given check image }

    o : Outcome
    o = image_asked order asked image m

    more : List (Option Refusal)
    more = job_running m ∷ other_change Low m ∷ []

    rest : List (Option Refusal)
    rest = occupied Low m ∷ more

    starting : Manager
    starting = with_job (Some (StartingImage order asked image)) m

    goes : (unproven Low m ≡ None) × (first_refusal rest ≡ None) → OutcomeFollows m o
    goes k = from_same m starting o (record { low = refl; high = refl })
        (command_follows false Low (start_command order asked image) starting
        (unoccupied m.low.outstanding (first_none (occupied Low m) more k.1).0)
        (proved_any m.low.proved false (is_proved m.low.proved Low k.0)))

pub image_follows : (slot asked : ℕ) (check : Option ℕ) (image : List ℕ) (o : Option Manager)
    (n : Nodes) (t : Told) (p : Channel) → Rests n t p → n.ends.manager ≡ o
    → StepFollows (submission (after_image slot asked check image) o n.ends) n t p
image_follows slot asked check image None n t p h e = not_enabled_step n t p h
image_follows slot asked check image (Some m) n t p h e =
    image_goes slot asked check image m n t p h e

-- ---- the job goes on

none_is : (o : Option Waiting) → is_none o ≡ true → o ≡ None
none_is None e = refl
none_is (Some w) e = absurd (cc)

-- a lane that is free waits for nothing, and is proved
free_is : (x : Lane) → is_free x ≡ true → (x.outstanding ≡ None) × (x.proved ≡ true)
free_is x e =
    let both = and_parts x.proved (is_none x.outstanding) e in
    (none_is x.outstanding both.1, both.0)

wish_follows : (free : Bool) (w : Option Wish) (m : Manager) → is_free m.low ≡ free
    → OutcomeFollows m (send_wish free w m)
wish_follows free None m e =
    sends_none m (send_wish free None m) (record { low = refl; high = refl }) refl
wish_follows false (Some w) m e =
    sends_none m (send_wish false (Some w) m) (record { low = refl; high = refl }) refl
wish_follows true (Some w) m e =
    from_same m (with_job (Some w.stage) m) (send_wish true (Some w) m)
    (record { low = refl; high = refl })
    (command_follows w.asks Low w.command (with_job (Some w.stage) m)
    (free_is m.low e).0
    (proved_any m.low.proved (is_probe w.command.purpose) (free_is m.low e).1))

-- what the job sends next
pub job_follows : (m : Manager) → OutcomeFollows m (job_goes_on m)
unfolding job_goes_on
job_follows m = wish_follows (is_free m.low) (wish_in m.job) m refl

-- ---- a second

ticked_takes : (tick : LaneTick) (l : Priority) (o : Option Waiting) (x : Lane) (m : Manager)
    → (lane_ticked tick l o x m).taken ≡ []
ticked_takes Quiet l o x m = refl
ticked_takes Repeat l o x m = refl
ticked_takes (GaveUp tci) l o x m = refl

-- no reply is taken
tick_takes : (l : Priority) (m : Manager) → (tick_lane l m).taken ≡ []
tick_takes l m = ticked_takes (lane_tick (lane_in l m)).tick l (lane_in l m).outstanding
    (lane_tick (lane_in l m)).lane m

both_take : (a : Outcome) (f : Manager → Outcome) → a.taken ≡ [] → (f a.manager).taken ≡ []
    → (and_then a f).taken ≡ []
both_take a f e g = ap (λ ls. ls ++ (f a.manager).taken) e ∙ g

-- a job that waited for the second
resume_follows : (job : Option Stage) (m : Manager) → OutcomeFollows m (resumed_by job m)
resume_follows (Some (DelayingEnd order image busy)) m =
    from_same m (with_job (Some (EndingImage order image busy)) m)
    (resumed_by (Some (DelayingEnd order image busy)) m)
    (record { low = refl; high = refl })
    (job_follows (with_job (Some (EndingImage order image busy)) m))
resume_follows _ m = sends_none m (sends_nothing m) (record { low = refl; high = refl }) refl

tick_follows : (m : Manager) (n : Nodes) (t : Told) (p : Channel) → Rests n t p → n.ends.manager
    ≡ Some m → StepFollows (manager_did (after_tick m) n.ends) n t p
unfolding after_tick
tick_follows m n t p h e =
    own_follows (and_then lanes job_resumes) m n t p h e
    (both_take lanes job_resumes
    (both_take high (tick_lane Low) (tick_takes High m) (tick_takes Low high.manager))
    (resume_takes lanes.manager))
    (both_follow m lanes job_resumes
    (both_follow m high (tick_lane Low) (tick_lane_follows High m)
    (tick_lane_follows Low high.manager)) (resume_follows lanes.manager.job lanes.manager))
  where
    high : Outcome
    high = tick_lane High m

    lanes : Outcome
    lanes = tick_lanes m

manager_second : (o : Option Manager) (n : Nodes) (t : Told) (p : Channel) → Rests n t p
    → n.ends.manager ≡ o → StepFollows (manager_ticks o n.ends) n t p
manager_second None n t p h e = no_step n t p h
manager_second (Some m) n t p h e = tick_follows m n t p h e

kept_over : (u : Onu) → (onu_ticked u).kept ≡ u.kept
unfolding onu_ticked
kept_over u = refl

-- a unit that starts is a move, whatever was on before
pub unit_starts_follow : (boot : Boot) (slots : SlotPair) (e : Ends) (link : Link) (t : Told)
    (p : Channel) → Like link e.lives e.unit e.manager t p
    → Happens (unit_starts boot slots e).happenings link (unit_starts boot slots e).ends.lives
    (unit_starts boot slots e).ends.unit (unit_starts boot slots e).ends.manager t p
unfolding onu_started
unit_starts_follow boot slots e link t p h =
    let k = same_length link.packets t.names p.shared.packets h.packets in (
      UnitStarts ∷ [],
      record {
        packets = h.packets;
        ways = record { down_low = k; down_high = k; up_low = k; up_high = k };
        lives_are = ap (λ x. x + 1) h.lives_are;
        drawn = h.drawn;
        history = h.history;
        unit_is = some_unit (onu_started boot e.room slots) None None
            (record { is_low = tt; is_high = tt });
        manager_is = λ m f.
            let q = h.manager_is m f in record { is_low = q.is_low; is_high = q.is_high };
      },
    )

-- the unit's second is no move, but for a unit that leaves
restart_follows : (leaving : Option Boot) (u : Onu) (e : Ends) (link : Link) (t : Told)
    (p : Channel) → Like link e.lives (Some u) e.manager t p
    → Like link e.lives e.unit e.manager t p
    → Happens (restarts leaving u e).happenings link (restarts leaving u e).ends.lives
    (restarts leaving u e).ends.unit (restarts leaving u e).ends.manager t p
restart_follows None u e link t p h k = (
  [],
  like_same_kept link e.lives u (onu_ticked u) e.manager t p (kept_over u) h,
)
restart_follows (Some boot) u e link t p h k = unit_starts_follow boot u.store.slots e link t p k

unit_second : (o : Option Onu) (e : Ends) (link : Link) (t : Told) (p : Channel) → e.unit ≡ o
    → Like link e.lives e.unit e.manager t p
    → Happens (unit_ticks o e).happenings link (unit_ticks o e).ends.lives
    (unit_ticks o e).ends.unit (unit_ticks o e).ends.manager t p
unit_second None e link t p f h = ([], h)
unit_second (Some u) e link t p f h =
    restart_follows u.leaving u e link t p (subst (λ x. Like link e.lives x e.manager t p) f h) h

second_by : (s : Step) (n : Nodes) (t : Told) (p : Channel) → StepFollows s n t p
    → StepFollows (then_step s (λ after. unit_ticks after.unit after)) n t p
second_by s n t p one =
    then_happens s.happenings r.happenings n.link s.ends.lives r.ends.lives s.ends.unit
    r.ends.unit s.ends.manager r.ends.manager t p one
    (λ q k. unit_second s.ends.unit s.ends _ _ q refl k)
  where
    r : Step
    r = unit_ticks s.ends.unit s.ends

pub second_follows : (n : Nodes) (t : Told) (p : Channel) → Rests n t p
    → StepFollows (second n.ends) n t p
unfolding second
second_follows n t p h =
    second_by (manager_ticks n.ends.manager n.ends) n t p
    (manager_second n.ends.manager n t p h refl)
