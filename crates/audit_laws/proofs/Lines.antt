-- Each line of a script keeps all well.
use Rattle.std.proofs.Common.{◌≡◌, ◌≢◌, ℕ, ◌+◌, Bool, true, false, List, [], ◌∷◌, ◌++◌, reverse, Option, Some, None, inr, ◌<◌, refl, sym, ap, subst, ◌∙◌, arith}
use Rattle.std.proofs.lemmas.Option.{same_Some}
use Rattle.omci_types.specs.declared.EntityId.{EntityId}
use Rattle.omci_types.specs.declared.Priority.{Priority}
use Rattle.message_spec.specs.declared.Notice.{Notice}
use Rattle.message_spec.specs.declared.Request.{Request}
use Rattle.frame_spec.specs.Baseline.{fault_of, packet_frame}
use Rattle.mib_spec.specs.Database.{Database}
use Rattle.mib_spec.specs.declared.Sensed.{Sensed}
use Rattle.mib_spec.specs.declared.Sensed.TheVariants as sensed
use Rattle.mib_spec.specs.Requests.{sense_outcome}
use Rattle.alarm_spec.specs.Log.{change}
use Rattle.script_spec.specs.Script.{Header}
use Rattle.link_spec.specs.declared.Direction.{Direction}
use Rattle.link_spec.specs.declared.Direction.TheVariants.{Down, Up}
use Rattle.link_spec.specs.Link.{Sent, allowed}
use Rattle.manager_spec.specs.declared.Refusal.{Refusal}
use Rattle.manager_spec.specs.Manager.{Manager, Outcome, manager_started}
use Rattle.manager_spec.specs.Submitting.{Submission, unless_refused, probe_refusal, after_probe, submit_refusal, after_submit, check_refusal, after_check, resync_refusal, after_resync, audit_refusal, after_audit, image_refusal, check_given, after_image}
use Rattle.manager_spec.specs.Steps.{packet_dropped, for_frame, after_packet, after_tick}
use Rattle.unit_spec.specs.declared.Noticed.{Noticed}
use Rattle.unit_spec.specs.declared.Noticed.TheVariants as noticed
use Rattle.omci_types.specs.declared.Boot.{Boot}
use Rattle.omci_types.specs.declared.Boot.TheVariants.{PowerUp}
use Rattle.slot_spec.specs.declared.Pick.{Pick}
use Rattle.slot_spec.specs.Slots.{SlotPair}
use Rattle.store_spec.specs.Effects.{entries_before}
use Rattle.unit_spec.specs.Onu.{Onu, AlarmSnapshot, Reception, onu_started, onu_ticked, packet_deed, alarms_unless_over, alarms_second_older, second_older}
use Rattle.unit_spec.specs.Noticing.{Noticing, notice_unless_leaving, sensed_as, onu_sensed, told_by, may_alarm, alarm_if, onu_alarmed}
use Rattle.history_spec.specs.History.{WasCarried}
use Rattle.world_spec.specs.Happenings.{PacketCame, PowerCut}
use Rattle.world_spec.specs.Ends.{Ends, Step, factory_slots, not_enabled, preceded, stage_in, manager_did, submission_step, submission, manager_got, manager_ticks, stored, unit_did, unit_got, notice_sent, unit_notices, arrives_at, arrives, noise, unit_starts, restarts, unit_ticks, second, cut_unit, cut_manager, start_unit, unit_cut_amid, cut_at, cut_in, start_manager}
use Rattle.world_spec.specs.Nodes.{Nodes, first_nodes, delivery_of, delivery, cut_of, cut_delivery}
use Rattle.world_spec.specs.History.{Told, first_told, name_at, tell_all}
use Rattle.resync_laws.proofs.Reading.{noise_read}
use Rattle.resync_laws.proofs.Unit.{noise_drops}
use Rattle.resync_laws.proofs.Telling.{tell_append}
use Rattle.resync_laws.proofs.Invariants.{Good as Kept}
use Rattle.resync_laws.proofs.Lines.{Fine, Linked, allowed_is}
use Rattle.audit_laws.proofs.Known.{UnitOk, started_ok, ticked_ok, sensed_ok, IsAlarmed, alarmed_ok}
use Rattle.audit_laws.proofs.Invariants.{state_of, JobOk, job_none, Keeps, stage_kept, Good, entries_good}
use Rattle.audit_laws.proofs.Telling.{Did}
use Rattle.audit_laws.proofs.Taking.{packet_good, drops_on}
use Rattle.audit_laws.proofs.Turns.{probe_good, check_good, resync_good, audit_good, image_good, submit_good, tick_good}
use Rattle.audit_laws.proofs.Serving.{unit_good}

abbrev pub NodesGood : Nodes → Told → Type 0
NodesGood n t = Good n.ends.lives n.ends.unit n.ends.manager t

abbrev pub StepGood : Step → Told → Type 0
StepGood s t = Good s.ends.lives s.ends.unit s.ends.manager (tell_all s.happenings t)

-- one step and then another
pub both_good : (s r : Step) (t : Told)
    → Good r.ends.lives r.ends.unit r.ends.manager (tell_all r.happenings (tell_all s.happenings t))
    → StepGood (record { ends = r.ends; happenings = s.happenings ++ r.happenings }) t
both_good s r t g =
    subst (λ u. Good r.ends.lives r.ends.unit r.ends.manager u)
    (sym (tell_append s.happenings r.happenings t)) g

-- ---- the manager

did_good : (o : Outcome) (e : Ends) (t : Told) → ((u : Onu) → e.unit ≡ Some u → UnitOk u)
    → Did o e.lives e.unit t → StepGood (manager_did o e) t
did_good o e t ok d =
    let m : Manager = record o.manager { reports = [] } in
    record {
      job = λ x f. subst (λ y. JobOk e.lives e.unit y (tell_all (manager_did o e).happenings t))
          (same_Some m x f) (d (stage_in e.manager)).job;
      unit_ok = ok;
      right = (d (stage_in e.manager)).right;
    }

submitted : (r : Option Refusal) (o : Outcome) (m : Manager) (e : Ends) (t : Told)
    → Good e.lives e.unit e.manager t → (r ≡ None → Did o e.lives e.unit t)
    → StepGood (submission_step (unless_refused r o m) e) t
submitted None o m e t g d = did_good o e t g.unit_ok (d refl)
submitted (Some refusal) o m e t g d =
    record { job = g.job; unit_ok = g.unit_ok; right = g.right }

not_enabled_good : (e : Ends) (t : Told) → Good e.lives e.unit e.manager t
    → StepGood (not_enabled e) t
not_enabled_good e t g = record { job = g.job; unit_ok = g.unit_ok; right = g.right }

module _ (n : Nodes) (t : Told) (f : Fine n t) (g : NodesGood n t) where
  asked_good : (call : Manager → Submission) (o : Option Manager) → n.ends.manager ≡ o
      → ((m : Manager) → n.ends.manager ≡ Some m → StepGood (submission_step (call m) n.ends) t)
      → StepGood (submission call o n.ends) t
  asked_good call None e d = not_enabled_good n.ends t g
  asked_good call (Some m) e d = d m e

  known : (life command : ℕ) → WasCarried life command t.history → command < t.drawn
  known life command was = f.good.carried life command was

  pub probe_line : (lane : Priority) → StepGood (submission (after_probe lane) n.ends.manager n.ends) t
  unfolding after_probe
  probe_line lane =
      asked_good (after_probe lane) n.ends.manager refl
      (λ m e. submitted (probe_refusal lane m) _ m n.ends t g
      (λ r. probe_good m n.ends.lives n.ends.unit t known (g.job m e) g.right (f.good.reports m e)
      lane r))

  pub submit_line : (lane : Priority) (entity : EntityId) (r : Request)
      → StepGood (submission (after_submit lane entity r) n.ends.manager n.ends) t
  unfolding after_submit
  submit_line lane entity r =
      asked_good (after_submit lane entity r) n.ends.manager refl
      (λ m e. submitted (submit_refusal lane r m) _ m n.ends t g
      (λ q. submit_good m n.ends.lives n.ends.unit t known (g.job m e) g.right (f.good.reports m e)
      lane entity r q))

  pub check_line : StepGood (submission after_check n.ends.manager n.ends) t
  unfolding after_check
  check_line =
      asked_good after_check n.ends.manager refl
      (λ m e. submitted (check_refusal m) _ m n.ends t g
      (λ r. check_good m n.ends.lives n.ends.unit t known (g.job m e) g.right (f.good.reports m e)
      r))

  pub resync_line : StepGood (submission after_resync n.ends.manager n.ends) t
  unfolding after_resync
  resync_line =
      asked_good after_resync n.ends.manager refl
      (λ m e. submitted (resync_refusal m) _ m n.ends t g
      (λ r. resync_good m n.ends.lives n.ends.unit t known (g.job m e) g.right (f.good.reports m e)
      r))

  pub audit_line : StepGood (submission after_audit n.ends.manager n.ends) t
  unfolding after_audit
  audit_line =
      asked_good after_audit n.ends.manager refl
      (λ m e. submitted (audit_refusal m) _ m n.ends t g
      (λ r. audit_good m n.ends.lives n.ends.unit t known (g.job m e) g.right (f.good.reports m e)
      r))

  pub image_line : (slot asked : ℕ) (check : Option ℕ) (image : List ℕ)
      → StepGood (submission (after_image slot asked check image) n.ends.manager n.ends) t
  unfolding after_image
  image_line slot asked check image =
      asked_good (after_image slot asked check image) n.ends.manager refl
      (λ m e. submitted (image_refusal m) _ m n.ends t g
      (λ r. image_good m n.ends.lives n.ends.unit t known (g.job m e) g.right (f.good.reports m e)
      (record { slot = slot; check = check_given check image }) asked image r))

  manager_second : (o : Option Manager) → n.ends.manager ≡ o → StepGood (manager_ticks o n.ends) t
  manager_second None e = g
  manager_second (Some m) e =
      did_good (after_tick m) n.ends t g.unit_ok
      (tick_good m n.ends.lives n.ends.unit t (g.job m e) g.right (f.good.reports m e))

-- ---- the unit has changed, and nothing else

unit_keeps : (lives : ℕ) (before after : Option Onu) (m : Manager) (t : Told)
    → ((v : Onu) (x : AlarmSnapshot) → after ≡ Some v → v.alarm_snapshot ≡ Some x
    → (u : Onu) × (y : AlarmSnapshot) × (before ≡ Some u) × (u.alarm_snapshot ≡ Some y)
    × (y.alarms ≡ x.alarms))
    → Keeps (state_of lives before m t) (state_of lives after m t)
unit_keeps lives before after m t from = record {
  tlow = refl;
  asking = refl;
  proved = λ e. e;
  waits = λ w e. (w, e, refl);
  drawn = omega arith;
  high = λ w e. inr (w, e, refl);
  gathering = λ rows e. e;
  waiting = λ rows e apart f. f;
  replied = λ r e. e;
  carried = λ was v x on has. was;
  put_by = from;
  last = λ command alarms h. h;
}

-- in another life it has put nothing by
unit_anew : (lives more : ℕ) (before after : Option Onu) (m : Manager) (t : Told)
    → ((v : Onu) (x : AlarmSnapshot) → after ≡ Some v → v.alarm_snapshot ≡ Some x → ⊥)
    → Keeps (state_of lives before m t) (state_of more after m t)
unit_anew lives more before after m t none = record {
  tlow = refl;
  asking = refl;
  proved = λ e. e;
  waits = λ w e. (w, e, refl);
  drawn = omega arith;
  high = λ w e. inr (w, e, refl);
  gathering = λ rows e. e;
  waiting = λ rows e apart f. f;
  replied = λ r e. e;
  carried = λ was v x on has. absurd (none v x on has);
  put_by = λ v x on has. absurd (none v x on has);
  last = λ command alarms h. h;
}

same_put_by : (before : Option Onu) (u w : Onu) → before ≡ Some u
    → w.alarm_snapshot ≡ u.alarm_snapshot → (v : Onu) (x : AlarmSnapshot) → Some w ≡ Some v
    → v.alarm_snapshot ≡ Some x
    → (u : Onu) × (y : AlarmSnapshot) × (before ≡ Some u) × (u.alarm_snapshot ≡ Some y)
    × (y.alarms ≡ x.alarms)
same_put_by before u w e same v x on has =
    (u, x, e, sym same ∙ ap (λ (y : Onu). y.alarm_snapshot) (same_Some w v on) ∙ has, refl)

older_by : (b : Bool) (y x : AlarmSnapshot) → alarms_unless_over b y ≡ Some x
    → y.alarms ≡ x.alarms
older_by true y x e = absurd (cc)
older_by false y x e =
    ap (λ (z : AlarmSnapshot). z.alarms) (same_Some (record y { age = y.age + 1 }) x e)

older_from : (o : Option AlarmSnapshot) (x : AlarmSnapshot) → alarms_second_older o ≡ Some x
    → (y : AlarmSnapshot) × (o ≡ Some y) × (y.alarms ≡ x.alarms)
older_from None x e = absurd (cc)
older_from (Some y) x e = (y, refl, older_by _ y x e)

some_ok : (u : Onu) → UnitOk u → (v : Onu) → Some u ≡ Some v → UnitOk v
some_ok u h v e = subst UnitOk (same_Some u v e) h

-- its next life
pub unit_starts_line : (boot : Boot) (slots : SlotPair) (e : Ends) (t : Told)
    → Good e.lives e.unit e.manager t → StepGood (unit_starts boot slots e) t
unfolding onu_started
unit_starts_line boot slots e t g =
    let after : Onu = onu_started boot e.room slots in
    record {
      job = λ m h s k.
          stage_kept _ _
          (unit_anew e.lives (e.lives + 1) e.unit (Some after) m t
          (λ v x on has.
          let a = ap (λ (y : Onu). y.alarm_snapshot) (same_Some after v on) in absurd (cc)))
          s (g.job m h s k);
      unit_ok = some_ok after (started_ok boot e.room slots);
      right = g.right;
    }

unit_older : (u : Onu) (e : Ends) (t : Told) → e.unit ≡ Some u → Good e.lives e.unit e.manager t
    → StepGood (restarts None u e) t
unfolding onu_ticked
unit_older u e t f g = record {
  job = λ m h s k.
      stage_kept _ _
      (unit_keeps e.lives e.unit (Some (onu_ticked u)) m t
      (λ v x on has.
      let q = older_from u.alarm_snapshot x
      (ap (λ (y : Onu). y.alarm_snapshot) (same_Some (record u {
        snapshot = second_older u.snapshot;
        alarm_snapshot = alarms_second_older u.alarm_snapshot;
      }) v on) ∙ has) in (u, q.0, f, q.1, q.2))) s (g.job m h s k);
  unit_ok = some_ok (onu_ticked u) (ticked_ok u (g.unit_ok u f));
  right = g.right;
}

unit_second : (o : Option Onu) (e : Ends) (t : Told) → e.unit ≡ o
    → Good e.lives e.unit e.manager t → StepGood (unit_ticks o e) t
unit_second None e t f g = g
unit_second (Some u) e t f g = go u.leaving
  where
    go : (leaving : Option Boot) → StepGood (restarts leaving u e) t
    go None = unit_older u e t f g
    go (Some boot) = unit_starts_line boot u.store.slots e t g

pub second_line : (n : Nodes) (t : Told) → Fine n t → NodesGood n t → StepGood (second n.ends) t
unfolding second
second_line n t f g =
    let s = manager_ticks n.ends.manager n.ends in
    let one = manager_second n t f g n.ends.manager refl in
    both_good s (unit_ticks s.ends.unit s.ends) t
    (unit_second s.ends.unit s.ends (tell_all s.happenings t) refl one)

-- ---- power

pub cut_unit_line : (o : Option Onu) (e : Ends) (t : Told) → Good e.lives e.unit e.manager t
    → StepGood (cut_unit o e) t
cut_unit_line None e t g = not_enabled_good e t g
cut_unit_line (Some u) e t g = record {
  job = λ m h s k.
      stage_kept _ _
      (unit_anew e.lives e.lives e.unit None m t (λ v x on has. absurd (cc))) s (g.job m h s k);
  unit_ok = λ v f. absurd (cc);
  right = g.right;
}

pub cut_manager_line : (o : Option Manager) (e : Ends) (t : Told) → Good e.lives e.unit e.manager t
    → StepGood (cut_manager o e) t
cut_manager_line None e t g = not_enabled_good e t g
cut_manager_line (Some m) e t g =
    record { job = λ x f. absurd (cc); unit_ok = g.unit_ok; right = g.right }

pub start_unit_line : (o : Option Onu) (e : Ends) (t : Told) → Good e.lives e.unit e.manager t
    → StepGood (start_unit o e) t
start_unit_line (Some u) e t g = not_enabled_good e t g
start_unit_line None e t g = unit_starts_line PowerUp e.slots e t g

pub start_manager_line : (low high : ℕ) (o : Option Manager) (e : Ends) (t : Told)
    → Good e.lives e.unit e.manager t → StepGood (start_manager low high o e) t
start_manager_line low high (Some m) e t g = not_enabled_good e t g
start_manager_line low high None e t g = record {
  job = λ m f. job_none e.lives e.unit m t
      (ap (λ (x : Manager). x.job) (sym (same_Some (manager_started low high) m f)));
  unit_ok = g.unit_ok;
  right = g.right;
}

-- ---- the unit notices something

noticed_by : (o : Noticed) (packet : List ℕ) (w : Onu) (e : Ends) (t : Told)
    → Good e.lives (Some w) e.manager t
    → StepGood (record { ends = record e { unit = Some w }; happenings = notice_sent o packet }) t
noticed_by noticed.NotAllowed packet w e t g =
    record { job = g.job; unit_ok = g.unit_ok; right = g.right }
noticed_by noticed.Same packet w e t g = g
noticed_by noticed.Sent packet w e t g =
    record { job = g.job; unit_ok = g.unit_ok; right = g.right }

noticing_line : (call : Onu → Noticing) (o : Option Onu) (e : Ends) (t : Told) → e.unit ≡ o
    → ((u : Onu) → (call u).unit.alarm_snapshot ≡ u.alarm_snapshot)
    → ((u : Onu) → UnitOk u → UnitOk (call u).unit) → Good e.lives e.unit e.manager t
    → StepGood (unit_notices call o e) t
noticing_line call None e t f same ok g = not_enabled_good e t g
noticing_line call (Some u) e t f same ok g =
    noticed_by (call u).noticed (call u).packet (call u).unit e t (record {
      job = λ m h s k.
          stage_kept _ _
          (unit_keeps e.lives e.unit (Some (call u).unit) m t
          (same_put_by e.unit u (call u).unit f (same u))) s (g.job m h s k);
      unit_ok = some_ok (call u).unit (ok u (g.unit_ok u f));
      right = g.right;
    })

-- a unit that leaves notices nothing
unless_same : (leaving : Option Boot) (n : Noticing) (u : Onu)
    → n.unit.alarm_snapshot ≡ u.alarm_snapshot
    → (notice_unless_leaving leaving n u).unit.alarm_snapshot ≡ u.alarm_snapshot
unless_same None n u e = e
unless_same (Some boot) n u e = refl

sensed_same : (o : Sensed) (one : EntityId) (number : ℕ) (value : List ℕ) (db : Database) (u : Onu)
    → (sensed_as o one number value db u).unit.alarm_snapshot ≡ u.alarm_snapshot
sensed_same sensed.NotAllowed one number value db u = refl
sensed_same sensed.Same one number value db u = refl
sensed_same sensed.Changed one number value db u = refl

pub sense_line : (one : EntityId) (number : ℕ) (value : List ℕ) (e : Ends) (t : Told)
    → Good e.lives e.unit e.manager t
    → StepGood (unit_notices (onu_sensed one number value) e.unit e) t
unfolding onu_sensed
sense_line one number value e t g =
    noticing_line (onu_sensed one number value) e.unit e t refl
    (λ u. unless_same u.leaving _ u (sensed_same (sense_outcome one number value u.database).0 one
    number value (sense_outcome one number value u.database).1 u)) (sensed_ok one number value) g

told_same : (o : Option Notice) (one : EntityId) (u : Onu)
    → (told_by o one u).unit.alarm_snapshot ≡ u.alarm_snapshot
told_same None one u = refl
told_same (Some notice) one u = refl

alarmed_same : (b : Bool) (one : EntityId) (bitmap : List ℕ) (u : Onu)
    → (alarm_if b one bitmap u).unit.alarm_snapshot ≡ u.alarm_snapshot
alarmed_same false one bitmap u = refl
alarmed_same true one bitmap u =
    told_same (change one bitmap u.log).notice one
    (record u { log = (change one bitmap u.log).log })

pub alarm_line : (one : EntityId) (bitmap : List ℕ) (e : Ends) (t : Told) → IsAlarmed one bitmap
    → Good e.lives e.unit e.manager t → StepGood (unit_notices (onu_alarmed one bitmap) e.unit e) t
unfolding onu_alarmed
alarm_line one bitmap e t a g =
    noticing_line (onu_alarmed one bitmap) e.unit e t refl
    (λ u. unless_same u.leaving _ u (alarmed_same (may_alarm one u.database) one bitmap u))
    (λ u h. alarmed_ok one bitmap u a h) g

-- ---- noise

unit_noise : (bytes : List ℕ) (o : Option Onu) (e : Ends) (t : Told) → e.unit ≡ o
    → packet_frame bytes ≡ None → Good e.lives e.unit e.manager t
    → StepGood (unit_got [] bytes o e) t
unit_noise bytes None e t f k g = not_enabled_good e t g
unit_noise bytes (Some u) e t f k g =
    subst (λ (r : Reception). StepGood (preceded [] (unit_did r u e)) t)
    (sym (noise_drops bytes u k)) (subst (λ x. Good e.lives x e.manager t) f g)

manager_noise : (bytes : List ℕ) (o : Option Manager) (n : Nodes) (t : Told) → n.ends.manager ≡ o
    → packet_frame bytes ≡ None → Fine n t → NodesGood n t
    → StepGood (manager_got [] bytes o n.ends) t
unfolding after_packet
manager_noise bytes None n t f k fine g = not_enabled_good n.ends t g
manager_noise bytes (Some m) n t f k fine g =
    subst (λ o. StepGood (preceded [] (manager_did (for_frame o m) n.ends)) t) (sym k)
    (did_good (packet_dropped m) n.ends t g.unit_ok
    (drops_on m n.ends.lives n.ends.unit t (g.job m f) g.right (fine.good.reports m f)))

pub noise_line : (d : Direction) (bytes : List ℕ) (n : Nodes) (t : Told) → Fine n t
    → NodesGood n t → fault_of bytes ≢ None → StepGood (noise d bytes n.ends) t
unfolding noise
noise_line Down bytes n t f g k =
    unit_noise bytes n.ends.unit n.ends t refl (noise_read bytes k) g
noise_line Up bytes n t f g k =
    manager_noise bytes n.ends.manager n t refl (noise_read bytes k) f g

-- ---- deliveries

module _ (number : ℕ) (s : Sent) (n : Nodes) (t : Told) (f : Fine n t) (g : NodesGood n t) (k : Linked n t) (may : allowed number n.link ≡ Some s) where
  unit_arrives : (o : Option Onu) → n.ends.unit ≡ o → s.direction ≡ Down
      → StepGood (unit_got (PacketCame number s ∷ []) s.bytes o n.ends) t
  unit_arrives None e way = not_enabled_good n.ends t g
  unit_arrives (Some u) e way =
      unit_good number s n.link n.ends.lives u n.ends.manager t
      (subst (λ x. Kept n.link.packets n.ends.lives x n.ends.manager t) e f.good)
      (subst (λ x. Good n.ends.lives x n.ends.manager t) e g) (allowed_is number n.link s may) way
      (k.waited number s u e may way)

  manager_arrives : (o : Option Manager) → n.ends.manager ≡ o → s.direction ≡ Up
      → StepGood (manager_got (PacketCame number s ∷ []) s.bytes o n.ends) t
  manager_arrives None e way = not_enabled_good n.ends t g
  manager_arrives (Some m) e way =
      let c : Told = record t { came = name_at number t.names; packet = s.bytes } in
      let d = packet_good s.bytes m n.ends.lives n.ends.unit c (λ life command was. f.good.carried life command was)
      (f.good.lanes m e) (g.job m e) g.right (f.good.reports m e)
      (λ w waits same lane probe.
      let x = k.heard number s m e may way w waits same lane probe in
      record { carried = x.carried; last = x.last }) in
      did_good (after_packet s.bytes m) n.ends c g.unit_ok d

  arrives_by : (d : Direction) → s.direction ≡ d
      → StepGood (arrives_at d (PacketCame number s ∷ []) s.bytes n.ends) t
  arrives_by Down way = unit_arrives n.ends.unit refl way
  arrives_by Up way = manager_arrives n.ends.manager refl way

  arrives_good : StepGood (arrives number s n.ends) t
  unfolding arrives
  arrives_good = arrives_by s.direction refl

delivery_by : (o : Option Sent) (number : ℕ) (n : Nodes) (t : Told) → Fine n t → NodesGood n t
    → Linked n t → allowed number n.link ≡ o → StepGood (delivery_of o number n.ends) t
delivery_by None number n t f g k may = not_enabled_good n.ends t g
delivery_by (Some s) number n t f g k may = arrives_good number s n t f g k may

pub delivery_line : (number : ℕ) (n : Nodes) (t : Told) → Fine n t → NodesGood n t → Linked n t
    → StepGood (delivery number n) t
unfolding delivery
delivery_line number n t f g k = delivery_by (allowed number n.link) number n t f g k refl

-- the power goes amid it
came_good : (number : ℕ) (s : Sent) (e : Ends) (t : Told) → Good e.lives e.unit e.manager t
    → Good e.lives None e.manager (record t { came = name_at number t.names; packet = s.bytes })
came_good number s e t g = record {
  job = λ m h x k.
      stage_kept _ _ (unit_keeps e.lives e.unit None m t (λ v y on has. absurd (cc))) x (g.job m h x k);
  unit_ok = λ v h. absurd (cc);
  right = g.right;
}

unit_cut_line : (call : ℕ) (pick : Pick) (number : ℕ) (s : Sent) (o : Option Onu) (e : Ends) (t : Told)
    → Good e.lives e.unit e.manager t
    → StepGood (unit_cut_amid call pick (PacketCame number s ∷ []) s.bytes o e) t
unit_cut_line call pick number s None e t g = not_enabled_good e t g
unit_cut_line call pick number s (Some u) e t g =
    let c : Told = record t { came = name_at number t.names; packet = s.bytes } in
    let es = entries_before (packet_deed s.bytes u) in
    subst (λ v. Good e.lives None e.manager v) (sym (tell_append (stored es) (PowerCut ∷ []) c))
    (entries_good (reverse es) e.lives None e.manager c (came_good number s e t g))

cut_by : (call : ℕ) (pick : Pick) (d : Direction) (number : ℕ) (s : Sent) (e : Ends) (t : Told)
    → Good e.lives e.unit e.manager t
    → StepGood (cut_at call pick d (PacketCame number s ∷ []) s.bytes e) t
cut_by call pick Down number s e t g = unit_cut_line call pick number s e.unit e t g
cut_by call pick Up number s e t g = not_enabled_good e t g

cut_of_line : (call : ℕ) (pick : Pick) (o : Option Sent) (number : ℕ) (e : Ends) (t : Told)
    → Good e.lives e.unit e.manager t → StepGood (cut_of call pick o number e) t
unfolding cut_in
cut_of_line call pick None number e t g = not_enabled_good e t g
cut_of_line call pick (Some s) number e t g = cut_by call pick s.direction number s e t g

pub cut_delivery_line : (call : ℕ) (pick : Pick) (number : ℕ) (n : Nodes) (t : Told) → NodesGood n t
    → StepGood (cut_delivery call pick number n) t
unfolding cut_delivery
cut_delivery_line call pick number n t g =
    cut_of_line call pick (allowed number n.link) number n.ends t g

-- ---- at first

pub first_good : (h : Header) → NodesGood (first_nodes h) first_told
first_good h = record {
  job = λ m e. job_none 1 _ m first_told
      (ap (λ (x : Manager). x.job) (sym (same_Some (manager_started h.low h.high) m e)));
  unit_ok = some_ok (onu_started PowerUp h.room (factory_slots h.factory))
      (started_ok PowerUp h.room (factory_slots h.factory));
  right = tt;
}
