-- Each line of a script keeps all well.
use Rattle.std.proofs.Common.{◌≡◌, ◌≢◌, ℕ, ◌+◌, ◌≤◌, Bool, true, false, List, [], ◌∷◌, ◌++◌, Option, Some, None, refl, sym, ap, subst, ◌∙◌}
use Rattle.std.proofs.lemmas.Option.{same_Some}
use Rattle.omci_types.specs.declared.Boot.{Boot}
use Rattle.omci_types.specs.declared.Boot.TheVariants.{PowerUp}
use Rattle.omci_types.specs.declared.EntityId.{EntityId}
use Rattle.omci_types.specs.declared.Priority.{Priority}
use Rattle.message_spec.specs.declared.Notice.{Notice}
use Rattle.message_spec.specs.declared.Request.{Request}
use Rattle.frame_spec.specs.Baseline.{fault_of, packet_frame}
use Rattle.mib_spec.specs.Database.{Database}
use Rattle.mib_spec.specs.declared.Sensed.{Sensed}
use Rattle.mib_spec.specs.declared.Sensed.TheVariants as sensed
use Rattle.mib_spec.specs.Requests.{sense_outcome}
use Rattle.alarm_spec.specs.Log.{change}
use Rattle.script_spec.specs.Script.{Header}
use Rattle.link_spec.specs.declared.Direction.{Direction}
use Rattle.link_spec.specs.declared.Direction.TheVariants.{Down, Up}
use Rattle.link_spec.specs.Link.{Sent, allowed}
use Rattle.slot_spec.specs.declared.Pick.{Pick}
use Rattle.slot_spec.specs.Slots.{SlotPair}
use Rattle.manager_spec.specs.declared.Refusal.{Refusal}
use Rattle.manager_spec.specs.Manager.{Manager, Outcome, manager_started}
use Rattle.manager_spec.specs.Submitting.{Submission, unless_refused, probe_refusal, after_probe, submit_refusal, after_submit, check_refusal, after_check, resync_refusal, after_resync, audit_refusal, after_audit, image_refusal, check_given, after_image}
use Rattle.manager_spec.specs.Steps.{packet_dropped, for_frame, after_packet, after_tick}
use Rattle.unit_spec.specs.declared.Noticed.{Noticed}
use Rattle.unit_spec.specs.declared.Noticed.TheVariants as noticed
use Rattle.unit_spec.specs.Onu.{Onu, Reception, onu_started, onu_ticked, packet_deed}
use Rattle.unit_spec.specs.Noticing.{Noticing, notice_unless_leaving, sensed_as, onu_sensed, told_by, may_alarm, alarm_if, onu_alarmed}
use Rattle.world_spec.specs.Happenings.{PacketCame}
use Rattle.world_spec.specs.Ends.{Ends, Step, not_enabled, preceded, stage_in, manager_did, submission_step, submission, manager_got, manager_ticks, unit_did, unit_got, notice_sent, unit_notices, arrives_at, arrives, noise, unit_starts, restarts, unit_ticks, second, cut_unit, cut_manager, start_unit, unit_cut_amid, cut_at, cut_in, start_manager}
use Rattle.world_spec.specs.Nodes.{Nodes, first_nodes, delivery_of, delivery, cut_of, cut_delivery}
use Rattle.world_spec.specs.History.{Told, first_told, name_at, tell_all}
use Rattle.resync_laws.proofs.Reading.{noise_read}
use Rattle.resync_laws.proofs.Unit.{noise_drops}
use Rattle.resync_laws.proofs.Telling.{tell_append}
use Rattle.resync_laws.proofs.Invariants.{Good as Kept}
use Rattle.resync_laws.proofs.Lines.{Fine, Linked, allowed_is}
use Rattle.downloaded_laws.proofs.Reading.{IsOrder}
use Rattle.downloaded_laws.proofs.Unit.{asks_of}
use Rattle.downloaded_laws.proofs.Invariants.{state_of, JobOk, job_other, stage_kept, Good, passes_same, lane_same, NoNewDownload, keeps_of, keeps_anew}
use Rattle.downloaded_laws.proofs.Telling.{Did, Known}
use Rattle.downloaded_laws.proofs.Aside.{none_no}
use Rattle.downloaded_laws.proofs.Taking.{packet_good, drops_on}
use Rattle.downloaded_laws.proofs.Turns.{probe_good, check_good, resync_good, audit_good, image_good, submit_good, tick_good}
use Rattle.downloaded_laws.proofs.Serving.{AreServed, unit_good, cut_good}

abbrev pub NodesGood : Nodes → Told → Type 0
NodesGood n t = Good n.ends.lives n.ends.unit n.ends.manager t

abbrev pub StepGood : Step → Told → Type 0
StepGood s t = Good s.ends.lives s.ends.unit s.ends.manager (tell_all s.happenings t)

-- one step and then another
pub both_good : (s r : Step) (t : Told)
    → Good r.ends.lives r.ends.unit r.ends.manager (tell_all r.happenings (tell_all s.happenings t))
    → StepGood (record { ends = r.ends; happenings = s.happenings ++ r.happenings }) t
both_good s r t g =
    subst (λ u. Good r.ends.lives r.ends.unit r.ends.manager u)
    (sym (tell_append s.happenings r.happenings t)) g

-- ---- the manager

did_good : (o : Outcome) (m : Manager) (e : Ends) (t : Told) → e.manager ≡ Some m
    → Did m.job o e.lives e.unit t → StepGood (manager_did o e) t
did_good o m e t on given =
    let d = subst (λ b. Did b o e.lives e.unit t) (sym (ap stage_in on)) given in
    let n : Manager = record o.manager { reports = [] } in
    record {
      job = λ x f. subst (λ y. JobOk e.lives e.unit y (tell_all (manager_did o e).happenings t))
          (same_Some n x f) d.job;
      right = d.right;
    }

submitted : (r : Option Refusal) (o : Outcome) (m : Manager) (e : Ends) (t : Told)
    → e.manager ≡ Some m → Good e.lives e.unit e.manager t
    → (r ≡ None → Did m.job o e.lives e.unit t)
    → StepGood (submission_step (unless_refused r o m) e) t
submitted None o m e t on g d = did_good o m e t on (d refl)
submitted (Some refusal) o m e t on g d = record { job = g.job; right = g.right }

not_enabled_good : (e : Ends) (t : Told) → Good e.lives e.unit e.manager t
    → StepGood (not_enabled e) t
not_enabled_good e t g = record { job = g.job; right = g.right }

module _ (n : Nodes) (t : Told) (f : Fine n t) (g : NodesGood n t) where
  asked_good : (call : Manager → Submission) (o : Option Manager) → n.ends.manager ≡ o
      → ((m : Manager) → n.ends.manager ≡ Some m → StepGood (submission_step (call m) n.ends) t)
      → StepGood (submission call o n.ends) t
  asked_good call None e d = not_enabled_good n.ends t g
  asked_good call (Some m) e d = d m e

  known : Known t
  known life command was = f.good.carried life command was

  pub probe_line : (lane : Priority) → StepGood (submission (after_probe lane) n.ends.manager n.ends) t
  unfolding after_probe
  probe_line lane =
      asked_good (after_probe lane) n.ends.manager refl
      (λ m e. submitted (probe_refusal lane m) _ m n.ends t e g
      (λ r. probe_good m n.ends.lives n.ends.unit t known (g.job m e) g.right (f.good.reports m e)
      lane r))

  pub submit_line : (lane : Priority) (entity : EntityId) (r : Request)
      → StepGood (submission (after_submit lane entity r) n.ends.manager n.ends) t
  unfolding after_submit
  submit_line lane entity r =
      asked_good (after_submit lane entity r) n.ends.manager refl
      (λ m e. submitted (submit_refusal lane r m) _ m n.ends t e g
      (λ q. submit_good m n.ends.lives n.ends.unit t known (g.job m e) g.right (f.good.reports m e)
      lane entity r q))

  pub check_line : StepGood (submission after_check n.ends.manager n.ends) t
  unfolding after_check
  check_line =
      asked_good after_check n.ends.manager refl
      (λ m e. submitted (check_refusal m) _ m n.ends t e g
      (λ r. check_good m n.ends.lives n.ends.unit t known (g.job m e) g.right (f.good.reports m e)
      r))

  pub resync_line : StepGood (submission after_resync n.ends.manager n.ends) t
  unfolding after_resync
  resync_line =
      asked_good after_resync n.ends.manager refl
      (λ m e. submitted (resync_refusal m) _ m n.ends t e g
      (λ r. resync_good m n.ends.lives n.ends.unit t known (g.job m e) g.right
      (f.good.reports m e)))

  pub audit_line : StepGood (submission after_audit n.ends.manager n.ends) t
  unfolding after_audit
  audit_line =
      asked_good after_audit n.ends.manager refl
      (λ m e. submitted (audit_refusal m) _ m n.ends t e g
      (λ r. audit_good m n.ends.lives n.ends.unit t known (g.job m e) g.right (f.good.reports m e)))

  pub image_line : (slot asked : ℕ) (check : Option ℕ) (image : List ℕ)
      → IsOrder (record { slot = slot; check = check_given check image }) image → 1 ≤ asked
      → asked ≤ 256
      → StepGood (submission (after_image slot asked check image) n.ends.manager n.ends) t
  unfolding after_image
  image_line slot asked check image ordered some most =
      asked_good (after_image slot asked check image) n.ends.manager refl
      (λ m e. submitted (image_refusal m) _ m n.ends t e g
      (λ r. image_good m n.ends.lives n.ends.unit t known (g.job m e) g.right (f.good.reports m e)
      (record { slot = slot; check = check_given check image }) asked image ordered some most r))

  manager_second : (o : Option Manager) → n.ends.manager ≡ o → StepGood (manager_ticks o n.ends) t
  manager_second None e = g
  manager_second (Some m) e =
      did_good (after_tick m) m n.ends t e
      (tick_good m n.ends.lives n.ends.unit t known (g.job m e) g.right (f.good.reports m e))

-- ---- the unit has changed, and nothing else

unit_changed : (before after : Option Onu) (lives : ℕ) (manager : Option Manager) (t : Told)
    → NoNewDownload before after → Good lives before manager t → Good lives after manager t
unit_changed before after lives manager t same g = record {
  job = λ m e x k.
      stage_kept (state_of lives before m t) _
      (keeps_of lives before after m m t t refl (passes_same t.history) (lane_same m.low m.low refl)
      same) x (g.job m e x k);
  right = g.right;
}

same_download : (before : Option Onu) (u w : Onu) → before ≡ Some u
    → w.store.download ≡ u.store.download → NoNewDownload before (Some w)
same_download before u w e same v l on has =
    (u, e, sym same ∙ ap (λ (y : Onu). y.store.download) (same_Some w v on) ∙ has)

no_unit : (before : Option Onu) → NoNewDownload before None
no_unit before v l on has = absurd (cc)

-- its next life
pub unit_starts_line : (boot : Boot) (slots : SlotPair) (e : Ends) (t : Told)
    → Good e.lives e.unit e.manager t → StepGood (unit_starts boot slots e) t
unfolding onu_started
unit_starts_line boot slots e t g =
    let after : Onu = onu_started boot e.room slots in
    record {
      job = λ m h x k.
          stage_kept (state_of e.lives e.unit m t) _
          (keeps_anew e.lives (e.lives + 1) e.unit (Some after) m t t refl (passes_same t.history)
          (λ v l on has.
          let a = ap (λ (y : Onu). y.store.download) (same_Some after v on) in absurd (cc)))
          x (g.job m h x k);
      right = g.right;
    }

unit_older : (u : Onu) (e : Ends) (t : Told) → e.unit ≡ Some u → Good e.lives e.unit e.manager t
    → StepGood (restarts None u e) t
unfolding onu_ticked
unit_older u e t f g =
    unit_changed e.unit (Some (onu_ticked u)) e.lives e.manager t
    (same_download e.unit u (onu_ticked u) f refl) g

unit_second : (o : Option Onu) (e : Ends) (t : Told) → e.unit ≡ o
    → Good e.lives e.unit e.manager t → StepGood (unit_ticks o e) t
unit_second None e t f g = g
unit_second (Some u) e t f g = go u.leaving
  where
    go : (leaving : Option Boot) → StepGood (restarts leaving u e) t
    go None = unit_older u e t f g
    go (Some boot) = unit_starts_line boot u.store.slots e t g

pub second_line : (n : Nodes) (t : Told) → Fine n t → NodesGood n t → StepGood (second n.ends) t
unfolding second
second_line n t f g =
    let s = manager_ticks n.ends.manager n.ends in
    let one = manager_second n t f g n.ends.manager refl in
    both_good s (unit_ticks s.ends.unit s.ends) t
    (unit_second s.ends.unit s.ends (tell_all s.happenings t) refl one)

-- ---- power

pub cut_unit_line : (o : Option Onu) (e : Ends) (t : Told) → Good e.lives e.unit e.manager t
    → StepGood (cut_unit o e) t
cut_unit_line None e t g = not_enabled_good e t g
cut_unit_line (Some u) e t g = unit_changed e.unit None e.lives e.manager t (no_unit e.unit) g

pub cut_manager_line : (o : Option Manager) (e : Ends) (t : Told) → Good e.lives e.unit e.manager t
    → StepGood (cut_manager o e) t
cut_manager_line None e t g = not_enabled_good e t g
cut_manager_line (Some m) e t g = record { job = λ x f. absurd (cc); right = g.right }

pub start_unit_line : (o : Option Onu) (e : Ends) (t : Told) → Good e.lives e.unit e.manager t
    → StepGood (start_unit o e) t
start_unit_line (Some u) e t g = not_enabled_good e t g
start_unit_line None e t g = unit_starts_line PowerUp e.slots e t g

pub start_manager_line : (low high : ℕ) (o : Option Manager) (e : Ends) (t : Told)
    → Good e.lives e.unit e.manager t → StepGood (start_manager low high o e) t
start_manager_line low high (Some m) e t g = not_enabled_good e t g
start_manager_line low high None e t g = record {
  job = λ m f. job_other e.lives e.unit m t
      (none_no m (ap (λ (x : Manager). x.job) (sym (same_Some (manager_started low high) m f))));
  right = g.right;
}

-- ---- the unit notices something

noticed_by : (o : Noticed) (packet : List ℕ) (w : Onu) (e : Ends) (t : Told)
    → Good e.lives (Some w) e.manager t
    → StepGood (record { ends = record e { unit = Some w }; happenings = notice_sent o packet }) t
noticed_by noticed.NotAllowed packet w e t g = record { job = g.job; right = g.right }
noticed_by noticed.Same packet w e t g = g
noticed_by noticed.Sent packet w e t g = record { job = g.job; right = g.right }

noticing_line : (call : Onu → Noticing) (o : Option Onu) (e : Ends) (t : Told) → e.unit ≡ o
    → ((u : Onu) → (call u).unit.store.download ≡ u.store.download)
    → Good e.lives e.unit e.manager t → StepGood (unit_notices call o e) t
noticing_line call None e t f same g = not_enabled_good e t g
noticing_line call (Some u) e t f same g =
    noticed_by (call u).noticed (call u).packet (call u).unit e t
    (unit_changed e.unit (Some (call u).unit) e.lives e.manager t
    (same_download e.unit u (call u).unit f (same u)) g)

unless_same : (leaving : Option Boot) (n : Noticing) (u : Onu)
    → n.unit.store.download ≡ u.store.download
    → (notice_unless_leaving leaving n u).unit.store.download ≡ u.store.download
unless_same None n u e = e
unless_same (Some boot) n u e = refl

sensed_same : (o : Sensed) (one : EntityId) (number : ℕ) (value : List ℕ) (db : Database) (u : Onu)
    → (sensed_as o one number value db u).unit.store.download ≡ u.store.download
sensed_same sensed.NotAllowed one number value db u = refl
sensed_same sensed.Same one number value db u = refl
sensed_same sensed.Changed one number value db u = refl

pub sense_line : (one : EntityId) (number : ℕ) (value : List ℕ) (e : Ends) (t : Told)
    → Good e.lives e.unit e.manager t
    → StepGood (unit_notices (onu_sensed one number value) e.unit e) t
unfolding onu_sensed
sense_line one number value e t g =
    noticing_line (onu_sensed one number value) e.unit e t refl
    (λ u. unless_same u.leaving _ u
    (sensed_same (sense_outcome one number value u.database).0 one number value
    (sense_outcome one number value u.database).1 u)) g

told_same : (o : Option Notice) (one : EntityId) (u : Onu)
    → (told_by o one u).unit.store.download ≡ u.store.download
told_same None one u = refl
told_same (Some notice) one u = refl

alarmed_same : (b : Bool) (one : EntityId) (bitmap : List ℕ) (u : Onu)
    → (alarm_if b one bitmap u).unit.store.download ≡ u.store.download
alarmed_same false one bitmap u = refl
alarmed_same true one bitmap u =
    told_same (change one bitmap u.log).notice one
    (record u { log = (change one bitmap u.log).log })

pub alarm_line : (one : EntityId) (bitmap : List ℕ) (e : Ends) (t : Told)
    → Good e.lives e.unit e.manager t
    → StepGood (unit_notices (onu_alarmed one bitmap) e.unit e) t
unfolding onu_alarmed
alarm_line one bitmap e t g =
    noticing_line (onu_alarmed one bitmap) e.unit e t refl
    (λ u. unless_same u.leaving _ u (alarmed_same (may_alarm one u.database) one bitmap u)) g

-- ---- noise

unit_noise : (bytes : List ℕ) (o : Option Onu) (e : Ends) (t : Told) → e.unit ≡ o
    → Good e.lives e.unit e.manager t → packet_frame bytes ≡ None → StepGood (unit_got [] bytes o e) t
unit_noise bytes None e t f g k = not_enabled_good e t g
unit_noise bytes (Some u) e t f g k =
    subst (λ (r : Reception). StepGood (preceded [] (unit_did r u e)) t) (sym (noise_drops bytes u k))
    (let h = subst (λ x. Good e.lives x e.manager t) f g in
    record { job = h.job; right = h.right })

manager_noise : (bytes : List ℕ) (o : Option Manager) (n : Nodes) (t : Told) → n.ends.manager ≡ o
    → Fine n t → NodesGood n t → packet_frame bytes ≡ None
    → StepGood (manager_got [] bytes o n.ends) t
unfolding after_packet
manager_noise bytes None n t e f g k = not_enabled_good n.ends t g
manager_noise bytes (Some m) n t e f g k =
    subst (λ o. StepGood (preceded [] (manager_did (for_frame o m) n.ends)) t) (sym k)
    (did_good (packet_dropped m) m n.ends t e
    (drops_on m n.ends.lives n.ends.unit t (g.job m e) g.right (f.good.reports m e)))

pub noise_line : (d : Direction) (bytes : List ℕ) (n : Nodes) (t : Told) → Fine n t
    → NodesGood n t → fault_of bytes ≢ None → StepGood (noise d bytes n.ends) t
unfolding noise
noise_line Down bytes n t f g k =
    unit_noise bytes n.ends.unit n.ends t refl g (noise_read bytes k)
noise_line Up bytes n t f g k =
    manager_noise bytes n.ends.manager n t refl f g (noise_read bytes k)

-- ---- deliveries

-- what is known of the packets that may come next
pub record Expected (n : Nodes) (t : Told) : Type 0 where
  pub linked : Linked n t
  pub served : (number : ℕ) (s : Sent) (u : Onu) → n.ends.unit ≡ Some u
      → allowed number n.link ≡ Some s → s.direction ≡ Down
      → AreServed n.ends.lives n.ends.manager t number s u

module _ (number : ℕ) (s : Sent) (n : Nodes) (t : Told) (f : Fine n t) (g : NodesGood n t) (k : Expected n t) (may : allowed number n.link ≡ Some s) where
  unit_arrives : (o : Option Onu) → n.ends.unit ≡ o → s.direction ≡ Down
      → StepGood (unit_got (PacketCame number s ∷ []) s.bytes o n.ends) t
  unit_arrives None e way = not_enabled_good n.ends t g
  unit_arrives (Some u) e way =
      unit_good number s n.link n.ends.lives u n.ends.manager t
      (subst (λ x. Kept n.link.packets n.ends.lives x n.ends.manager t) e f.good)
      (subst (λ x. Good n.ends.lives x n.ends.manager t) e g)
      (allowed_is number n.link s may) way (k.served number s u e may way)

  came_job : (m : Manager) → JobOk n.ends.lives n.ends.unit m t
      → JobOk n.ends.lives n.ends.unit m (record t { came = name_at number t.names; packet = s.bytes })
  came_job m j x e = j x e

  manager_arrives : (o : Option Manager) → n.ends.manager ≡ o → s.direction ≡ Up
      → StepGood (manager_got (PacketCame number s ∷ []) s.bytes o n.ends) t
  manager_arrives None e way = not_enabled_good n.ends t g
  manager_arrives (Some m) e way =
      let came : Told = record t { came = name_at number t.names; packet = s.bytes } in
      let lanes = f.good.lanes m e in
      did_good (after_packet s.bytes m) m n.ends came e
      (packet_good s.bytes m n.ends.lives n.ends.unit came
      (λ life command was. f.good.carried life command was)
      (record {
        priority = lanes.priority;
        number = lanes.number;
        low_out = lanes.low_out;
        high_out = lanes.high_out;
      })
      (came_job m (g.job m e)) g.right (f.good.reports m e)
      (λ w waits same lane probe.
      let x = k.linked.heard number s m e may way w waits same lane probe in
      record { carried = x.carried; last = x.last }))

  arrives_by : (d : Direction) → s.direction ≡ d
      → StepGood (arrives_at d (PacketCame number s ∷ []) s.bytes n.ends) t
  arrives_by Down way = unit_arrives n.ends.unit refl way
  arrives_by Up way = manager_arrives n.ends.manager refl way

  arrives_line : StepGood (arrives number s n.ends) t
  unfolding arrives
  arrives_line = arrives_by s.direction refl

  -- the power goes amid it
  unit_cut : (call : ℕ) (pick : Pick) (o : Option Onu) → n.ends.unit ≡ o → s.direction ≡ Down
      → StepGood (unit_cut_amid call pick (PacketCame number s ∷ []) s.bytes o n.ends) t
  unit_cut call pick None e way = not_enabled_good n.ends t g
  unit_cut call pick (Some u) e way =
      cut_good number s n.link n.ends.lives u n.ends.manager t
      (subst (λ x. Kept n.link.packets n.ends.lives x n.ends.manager t) e f.good)
      (subst (λ x. Good n.ends.lives x n.ends.manager t) e g)
      (allowed_is number n.link s may) way (k.served number s u e may way)
      (packet_deed s.bytes u) (asks_of s.bytes u)

  cut_by : (call : ℕ) (pick : Pick) (d : Direction) → s.direction ≡ d
      → StepGood (cut_at call pick d (PacketCame number s ∷ []) s.bytes n.ends) t
  cut_by call pick Down way = unit_cut call pick n.ends.unit refl way
  cut_by call pick Up way = not_enabled_good n.ends t g

  cut_in_line : (call : ℕ) (pick : Pick) → StepGood (cut_in call pick number s n.ends) t
  unfolding cut_in
  cut_in_line call pick = cut_by call pick s.direction refl

delivery_by : (o : Option Sent) (number : ℕ) (n : Nodes) (t : Told) → Fine n t → NodesGood n t
    → Expected n t → allowed number n.link ≡ o → StepGood (delivery_of o number n.ends) t
delivery_by None number n t f g k may = not_enabled_good n.ends t g
delivery_by (Some s) number n t f g k may = arrives_line number s n t f g k may

pub delivery_line : (number : ℕ) (n : Nodes) (t : Told) → Fine n t → NodesGood n t → Expected n t
    → StepGood (delivery number n) t
unfolding delivery
delivery_line number n t f g k = delivery_by (allowed number n.link) number n t f g k refl

cut_of_line : (call : ℕ) (pick : Pick) (o : Option Sent) (number : ℕ) (n : Nodes) (t : Told)
    → Fine n t → NodesGood n t → Expected n t → allowed number n.link ≡ o
    → StepGood (cut_of call pick o number n.ends) t
cut_of_line call pick None number n t f g k may = not_enabled_good n.ends t g
cut_of_line call pick (Some s) number n t f g k may = cut_in_line number s n t f g k may call pick

-- the power of the unit goes amid a delivery
pub cut_delivery_line : (call : ℕ) (pick : Pick) (number : ℕ) (n : Nodes) (t : Told) → Fine n t
    → NodesGood n t → Expected n t → StepGood (cut_delivery call pick number n) t
unfolding cut_delivery
cut_delivery_line call pick number n t f g k =
    cut_of_line call pick (allowed number n.link) number n t f g k refl

-- ---- at first

pub first_good : (h : Header) → NodesGood (first_nodes h) first_told
unfolding onu_started
first_good h =
    record {
      job = λ m e. job_other 1 (first_nodes h).ends.unit m first_told
          (none_no m (ap (λ (x : Manager). x.job) (sym (same_Some (manager_started h.low h.high) m e))));
      right = tt;
    }
