-- Each line of a script keeps all well.
use Rattle.std.proofs.Common.{◌≡◌, ◌≢◌, ℕ, ◌+◌, Bool, true, false, List, [], ◌∷◌, ◌++◌, reverse, slice_get, Option, Some, None, refl, sym, ap, subst, ◌∙◌, arith}
use Rattle.std.proofs.lemmas.Option.{same_Some}
use Rattle.omci_types.specs.declared.EntityId.{EntityId}
use Rattle.omci_types.specs.declared.Priority.{Priority}
use Rattle.omci_types.specs.declared.Boot.{Boot}
use Rattle.omci_types.specs.declared.Boot.TheVariants.{PowerUp}
use Rattle.slot_spec.specs.declared.Pick.{Pick}
use Rattle.slot_spec.specs.Slots.{SlotPair}
use Rattle.store_spec.specs.State.{store_started, software_of}
use Rattle.store_spec.specs.Deeds.{Deed}
use Rattle.store_spec.specs.Effects.{entries_before}
use Rattle.tci_spec.specs.Tci.{IsNumber}
use Rattle.message_spec.specs.declared.Request.{Request}
use Rattle.frame_spec.specs.Baseline.{fault_of, packet_frame}
use Rattle.frame_spec.specs.Widths.{filled}
use Rattle.script_spec.specs.Script.{Header}
use Rattle.link_spec.specs.declared.Direction.{Direction}
use Rattle.link_spec.specs.declared.Direction.TheVariants.{Down, Up}
use Rattle.link_spec.specs.Link.{Sent, Link, Ways, way_of, may_come, if_may_come, allowed_one, allowed, count, delivered_on}
use Rattle.lane_spec.specs.Lane.{Lane}
use Rattle.message_spec.specs.declared.Notice.{Notice}
use Rattle.mib_spec.specs.Database.{Database}
use Rattle.mib_spec.specs.declared.Sensed.{Sensed}
use Rattle.mib_spec.specs.declared.Sensed.TheVariants as sensed
use Rattle.mib_spec.specs.Requests.{sense_outcome}
use Rattle.alarm_spec.specs.Log.{change}
use Rattle.unit_spec.specs.declared.Noticed.{Noticed}
use Rattle.unit_spec.specs.declared.Noticed.TheVariants as noticed
use Rattle.unit_spec.specs.Noticing.{Noticing, notice_unless_leaving, sensed_as, onu_sensed, told_by, may_alarm, alarm_if, onu_alarmed}
use Rattle.manager_spec.specs.declared.Refusal.{Refusal}
use Rattle.manager_spec.specs.declared.Report.TheVariants as report
use Rattle.manager_spec.specs.Manager.{Manager, Outcome, with_report, manager_started}
use Rattle.manager_spec.specs.Submitting.{Submission, unless_refused, probe_refusal, after_probe, submit_refusal, after_submit, check_refusal, after_check, resync_refusal, after_resync, audit_refusal, after_audit, image_refusal, check_given, after_image}
use Rattle.manager_spec.specs.Steps.{packet_dropped, for_frame, after_packet, after_tick}
use Rattle.unit_spec.specs.Onu.{Onu, Reception, onu_started, onu_ticked, packet_deed}
use Rattle.world_spec.specs.Happenings.{PacketCame, PowerCut, link_read}
use Rattle.world_spec.specs.Ends.{Step, factory_slots, not_enabled, preceded, stage_in, manager_did, submission_step, submission, manager_got, manager_ticks, stored, unit_did, unit_got, arrives_at, arrives, noise, unit_starts, restarts, unit_ticks, second, cut_unit, cut_manager, start_unit, cut_amid, unit_cut_amid, cut_at, cut_in, start_manager, notice_sent, unit_notices}
use Rattle.world_spec.specs.Nodes.{Nodes, first_nodes, delivery_of, delivery, cut_of, cut_delivery, nodes_after_step}
use Rattle.world_spec.specs.History.{Told, first_told, name_at, tell_all}
use Rattle.resync_laws.specs.Databases.{IsWholeDatabase}
use Rattle.resync_laws.proofs.Reading.{noise_read, is_plain}
use Rattle.resync_laws.proofs.Databases.{first_whole, sense_whole, slots_versions}
use Rattle.resync_laws.proofs.Unit.{noise_drops}
use Rattle.resync_laws.proofs.Invariants.{Held, Good, held_of, good_of, sent_more, IsSent, IsApart}
use Rattle.resync_laws.proofs.Telling.{tell_append, link_append, NoneSynced, none_more, Did, did_quiet, goes_nothing}
use Rattle.resync_laws.proofs.Going.{job_none}
use Rattle.resync_laws.proofs.Taking.{IsHeard, packet_good}
use Rattle.resync_laws.proofs.Serving.{AreWaited, unit_good}
use Rattle.resync_laws.proofs.Passing.{entries_good, IsOlder, ticked_older, nothing_older, stage_anew, good_older}
use Rattle.resync_laws.proofs.Turns.{probe_good, check_good, resync_good, audit_good, image_good, submit_good, tick_good}

-- all is well
pub record Fine (n : Nodes) (t : Told) : Type 0 where
  pub good : Good n.link.packets n.ends.lives n.ends.unit n.ends.manager t

abbrev pub StepFine : Step → Nodes → Told → Type 0
StepFine s n t = Fine (nodes_after_step s n) (tell_all s.happenings t)

-- ---- one step and then another

pub both_fine : (s r : Step) (n : Nodes) (t : Told)
    → Fine (nodes_after_step r (nodes_after_step s n)) (tell_all r.happenings (tell_all s.happenings t))
    → StepFine (record { ends = r.ends; happenings = s.happenings ++ r.happenings }) n t
both_fine s r n t f =
    let at : Link → Nodes = λ l. record { ends = r.ends; link = l } in
    subst (λ l. Fine (at l) (tell_all (s.happenings ++ r.happenings) t)) (sym (link_append s.happenings r.happenings n.link))
    (subst (λ u. Fine (at (link_read r.happenings (link_read s.happenings n.link))) u) (sym (tell_append s.happenings r.happenings t)) f)

-- ---- what is asked of the manager

did_fine : (o : Outcome) (n : Nodes) (t : Told) → Fine n t
    → Did o n.link n.ends.lives n.ends.unit t → StepFine (manager_did o n.ends) n t
did_fine o n t f d = record { good = d (stage_in n.ends.manager) }

submitted : (r : Option Refusal) (o : Outcome) (m : Manager) (n : Nodes) (t : Told) → Fine n t
    → (r ≡ None → Did o n.link n.ends.lives n.ends.unit t)
    → StepFine (submission_step (unless_refused r o m) n.ends) n t
submitted None o m n t f d = did_fine o n t f (d refl)
submitted (Some refusal) o m n t f d = record { good = f.good }

not_enabled_fine : (n : Nodes) (t : Told) → Fine n t → StepFine (not_enabled n.ends) n t
not_enabled_fine n t f = record { good = f.good }

asked_fine : (call : Manager → Submission) (o : Option Manager) (n : Nodes) (t : Told) → Fine n t
    → n.ends.manager ≡ o
    → ((m : Manager) → Good n.link.packets n.ends.lives n.ends.unit (Some m) t
    → StepFine (submission_step (call m) n.ends) n t)
    → StepFine (submission call o n.ends) n t
asked_fine call None n t f e d = not_enabled_fine n t f
asked_fine call (Some m) n t f e d =
    d m (subst (λ x. Good n.link.packets n.ends.lives n.ends.unit x t) e f.good)

module _ (n : Nodes) (t : Told) (f : Fine n t) where
  abbrev Managed : Manager → Type 0
  Managed m = Good n.link.packets n.ends.lives n.ends.unit (Some m) t

  held : (m : Manager) → Managed m → Held n.link.packets n.ends.unit m.low m.high t
  held m g = held_of n.link.packets n.ends.lives n.ends.unit m t g

  pub probe_fine : (lane : Priority) → StepFine (submission (after_probe lane) n.ends.manager n.ends) n t
  unfolding after_probe
  probe_fine lane =
      asked_fine (after_probe lane) n.ends.manager n t f refl
      (λ m g. submitted (probe_refusal lane m) _ m n t f (λ e. probe_good m n.link n.ends.lives n.ends.unit t (held m g) (g.job m refl) (g.reports m refl) lane e))

  pub submit_fine : (lane : Priority) (entity : EntityId) (r : Request) → is_plain r ≡ true
      → StepFine (submission (after_submit lane entity r) n.ends.manager n.ends) n t
  unfolding after_submit
  submit_fine lane entity r plainly =
      asked_fine (after_submit lane entity r) n.ends.manager n t f refl
      (λ m g. submitted (submit_refusal lane r m) _ m n t f (λ e. submit_good m n.link n.ends.lives n.ends.unit t (held m g) (g.job m refl) (g.reports m refl) lane entity r plainly e))

  pub check_fine : StepFine (submission after_check n.ends.manager n.ends) n t
  unfolding after_check
  check_fine =
      asked_fine after_check n.ends.manager n t f refl
      (λ m g. submitted (check_refusal m) _ m n t f (λ e. check_good m n.link n.ends.lives n.ends.unit t (held m g) (g.job m refl) (g.reports m refl) e))

  pub resync_fine : StepFine (submission after_resync n.ends.manager n.ends) n t
  unfolding after_resync
  resync_fine =
      asked_fine after_resync n.ends.manager n t f refl
      (λ m g. submitted (resync_refusal m) _ m n t f (λ e. resync_good m n.link n.ends.lives n.ends.unit t (held m g) (g.job m refl) (g.reports m refl) e))

  pub audit_fine : StepFine (submission after_audit n.ends.manager n.ends) n t
  unfolding after_audit
  audit_fine =
      asked_fine after_audit n.ends.manager n t f refl
      (λ m g. submitted (audit_refusal m) _ m n t f (λ e. audit_good m n.link n.ends.lives n.ends.unit t (held m g) (g.job m refl) (g.reports m refl) e))

  pub image_fine : (slot asked : ℕ) (check : Option ℕ) (image : List ℕ)
      → StepFine (submission (after_image slot asked check image) n.ends.manager n.ends) n t
  unfolding after_image
  image_fine slot asked check image =
      asked_fine (after_image slot asked check image) n.ends.manager n t f refl
      (λ m g. submitted (image_refusal m) _ m n t f (λ e. image_good m n.link n.ends.lives n.ends.unit t (held m g) (g.job m refl) (g.reports m refl) (record { slot = slot; check = check_given check image }) asked image e))

  -- ---- a unit starts

  pub unit_starts_fine : (boot : Boot) (slots : SlotPair) → StepFine (unit_starts boot slots n.ends) n t
  unfolding onu_started
  unit_starts_fine boot slots =
      let after : Onu = onu_started boot n.ends.room slots in
      record {
        good = record {
          sent = f.good.sent;
          apart = f.good.apart;
          lanes = f.good.lanes;
          job = λ m e s g.
              stage_anew n.ends.lives (n.ends.lives + 1) n.ends.unit (Some after) m.low t.low t.asking t.history s
              (λ v x on has. let a = ap (λ (y : Onu). y.snapshot) (same_Some after v on) in absurd (cc)) (f.good.job m e s g);
          reports = f.good.reports;
          carried = f.good.carried;
          whole = λ v e. subst (λ (x : Onu). IsWholeDatabase x.database) (same_Some after v e)
              (first_whole (software_of (store_started boot slots)) (slots_versions (store_started boot slots).active slots));
          right = f.good.right;
        };
      }

  -- ---- a second

  manager_ticked : (o : Option Manager) → n.ends.manager ≡ o → StepFine (manager_ticks o n.ends) n t
  manager_ticked None e = record { good = f.good }
  manager_ticked (Some m) e =
      let g : Managed m = subst (λ x. Good n.link.packets n.ends.lives n.ends.unit x t) e f.good in
      did_fine (after_tick m) n t f (tick_good m n.link n.ends.lives n.ends.unit t (held m g) (g.job m refl) (g.reports m refl))

  unit_older : (u : Onu) → n.ends.unit ≡ Some u → StepFine (restarts None u n.ends) n t
  unfolding onu_ticked
  unit_older u e = record {
    good = good_older n.link.packets n.ends.lives n.ends.unit (Some (onu_ticked u)) n.ends.manager t
        (subst (λ x. IsOlder x (Some (onu_ticked u))) (sym e) (ticked_older u))
        (λ v k. subst (λ (x : Onu). IsWholeDatabase x.database) (same_Some (onu_ticked u) v k) (f.good.whole u e)) f.good;
  }

  unit_ticked : (o : Option Onu) → n.ends.unit ≡ o → StepFine (unit_ticks o n.ends) n t
  unit_ticked None e = record { good = f.good }
  unit_ticked (Some u) e = go u.leaving
    where
      go : (leaving : Option Boot) → StepFine (restarts leaving u n.ends) n t
      go None = unit_older u e
      go (Some boot) = unit_starts_fine boot u.store.slots

  -- ---- the unit notices something

  noticed_by : (o : Noticed) (packet : List ℕ) (w : Onu) → Good n.link.packets n.ends.lives (Some w) n.ends.manager t
      → StepFine (record { ends = record n.ends { unit = Some w }; happenings = notice_sent o packet }) n t
  noticed_by noticed.NotAllowed packet w g = record { good = g }
  noticed_by noticed.Same packet w g = record { good = g }
  noticed_by noticed.Sent packet w g = record {
    good = record {
      sent = sent_more (IsSent t.drawn) n.link.packets t.names _ _ g.sent (λ d. absurd (cc));
      apart = λ m v e out. sent_more (IsApart t.low) n.link.packets t.names _ _ (g.apart m v e out) (λ d. absurd (cc));
      lanes = g.lanes;
      job = g.job;
      reports = g.reports;
      carried = g.carried;
      whole = g.whole;
      right = g.right;
    };
  }

  pub noticing_fine : (call : Onu → Noticing) (o : Option Onu) → n.ends.unit ≡ o
      → ((u : Onu) → (call u).unit.snapshot ≡ u.snapshot)
      → ((u : Onu) → IsWholeDatabase u.database → IsWholeDatabase (call u).unit.database)
      → StepFine (unit_notices call o n.ends) n t
  noticing_fine call None e same whole = not_enabled_fine n t f
  noticing_fine call (Some u) e same whole =
      noticed_by (call u).noticed (call u).packet (call u).unit
      (good_older n.link.packets n.ends.lives n.ends.unit (Some (call u).unit) n.ends.manager t
      (record {
        from = λ v s on has. (u, s, e, sym (same u) ∙ ap (λ (x : Onu). x.snapshot) (same_Some (call u).unit v on) ∙ has, refl);
      })
      (λ v k. subst (λ (x : Onu). IsWholeDatabase x.database) (same_Some (call u).unit v k) (whole u (f.good.whole u e))) f.good)

  -- ---- power

  pub cut_unit_fine : (o : Option Onu) → StepFine (cut_unit o n.ends) n t
  cut_unit_fine None = not_enabled_fine n t f
  cut_unit_fine (Some u) = record {
    good = good_older n.link.packets n.ends.lives n.ends.unit None n.ends.manager t
        (nothing_older n.ends.unit None (λ v s on has. absurd (cc))) (λ v e. absurd (cc)) f.good;
  }

  pub cut_manager_fine : (o : Option Manager) → StepFine (cut_manager o n.ends) n t
  cut_manager_fine None = not_enabled_fine n t f
  cut_manager_fine (Some m) = record {
    good = record {
      sent = f.good.sent;
      apart = λ x w e g. absurd (cc);
      lanes = λ x e. absurd (cc);
      job = λ x e. absurd (cc);
      reports = λ x e. absurd (cc);
      carried = f.good.carried;
      whole = f.good.whole;
      right = f.good.right;
    };
  }

  pub start_unit_fine : (o : Option Onu) → StepFine (start_unit o n.ends) n t
  start_unit_fine (Some u) = not_enabled_fine n t f
  start_unit_fine None = unit_starts_fine PowerUp n.ends.slots

  pub start_manager_fine : (low high : ℕ) (o : Option Manager) → IsNumber low → StepFine (start_manager low high o n.ends) n t
  start_manager_fine low high (Some m) a = not_enabled_fine n t f
  start_manager_fine low high None a = record {
    good = good_of n.link.packets n.ends.lives n.ends.unit (manager_started low high) t
        (record {
          sent = f.good.sent;
          apart = λ w e. absurd (cc);
          lanes = record {
            priority = refl;
            number = omega (arith, a.most);
            low_out = λ w e. absurd (cc);
            high_out = λ w e. absurd (cc);
          };
          carried = f.good.carried;
          whole = f.good.whole;
          right = f.good.right;
        })
        (job_none n.ends.lives n.ends.unit _ None t.low t.asking t.history refl) refl;
  }

  -- ---- noise

  unit_noise : (bytes : List ℕ) (o : Option Onu) → n.ends.unit ≡ o → packet_frame bytes ≡ None → StepFine (unit_got [] bytes o n.ends) n t
  unit_noise bytes None e k = not_enabled_fine n t f
  unit_noise bytes (Some u) e k =
      subst (λ (r : Reception). StepFine (preceded [] (unit_did r u n.ends)) n t) (sym (noise_drops bytes u k))
      (record { good = subst (λ x. Good n.link.packets n.ends.lives x n.ends.manager t) e f.good })

  manager_noise : (bytes : List ℕ) (o : Option Manager) → n.ends.manager ≡ o → packet_frame bytes ≡ None → StepFine (manager_got [] bytes o n.ends) n t
  unfolding after_packet
  manager_noise bytes None e k = not_enabled_fine n t f
  manager_noise bytes (Some m) e k =
      let g : Managed m = subst (λ x. Good n.link.packets n.ends.lives n.ends.unit x t) e f.good in
      subst (λ o. StepFine (preceded [] (manager_did (for_frame o m) n.ends)) n t) (sym k)
      (did_fine (packet_dropped m) n t f
      (did_quiet (packet_dropped m) n.link n.ends.lives n.ends.unit t t refl
      (none_more m.reports report.Dropped (subst NoneSynced (sym (g.reports m refl)) tt) refl)
      (goes_nothing (with_report report.Dropped m) n.link n.ends.lives n.ends.unit t (held m g) (g.job m refl))))

-- a unit that leaves notices nothing
unless_snapshot : (leaving : Option Boot) (n : Noticing) (u : Onu) → n.unit.snapshot ≡ u.snapshot
    → (notice_unless_leaving leaving n u).unit.snapshot ≡ u.snapshot
unless_snapshot None n u e = e
unless_snapshot (Some boot) n u e = refl

unless_whole : (leaving : Option Boot) (n : Noticing) (u : Onu) → IsWholeDatabase n.unit.database
    → IsWholeDatabase u.database → IsWholeDatabase (notice_unless_leaving leaving n u).unit.database
unless_whole None n u h k = h
unless_whole (Some boot) n u h k = k

sensed_snapshot : (o : Sensed) (one : EntityId) (number : ℕ) (value : List ℕ) (db : Database) (u : Onu)
    → (sensed_as o one number value db u).unit.snapshot ≡ u.snapshot
sensed_snapshot sensed.NotAllowed one number value db u = refl
sensed_snapshot sensed.Same one number value db u = refl
sensed_snapshot sensed.Changed one number value db u = refl

sensed_database : (o : Sensed) (one : EntityId) (number : ℕ) (value : List ℕ) (db : Database) (u : Onu)
    → IsWholeDatabase db → IsWholeDatabase u.database → IsWholeDatabase (sensed_as o one number value db u).unit.database
sensed_database sensed.NotAllowed one number value db u k h = h
sensed_database sensed.Same one number value db u k h = h
sensed_database sensed.Changed one number value db u k h = k

-- the unit measures a value
pub sense_fine : (one : EntityId) (number : ℕ) (value : List ℕ) (n : Nodes) (t : Told) → Fine n t
    → StepFine (unit_notices (onu_sensed one number value) n.ends.unit n.ends) n t
unfolding onu_sensed
sense_fine one number value n t f =
    noticing_fine n t f (onu_sensed one number value) n.ends.unit refl
    (λ u. unless_snapshot u.leaving _ u (sensed_snapshot (sense_outcome one number value u.database).0 one number value (sense_outcome one number value u.database).1 u))
    (λ u h. unless_whole u.leaving _ u (sensed_database (sense_outcome one number value u.database).0 one number value (sense_outcome one number value u.database).1 u (sense_whole one number value u.database h) h) h)

told_snapshot : (o : Option Notice) (one : EntityId) (u : Onu) → (told_by o one u).unit.snapshot ≡ u.snapshot
told_snapshot None one u = refl
told_snapshot (Some notice) one u = refl

told_database : (o : Option Notice) (one : EntityId) (u : Onu) → (told_by o one u).unit.database ≡ u.database
told_database None one u = refl
told_database (Some notice) one u = refl

alarmed_snapshot : (b : Bool) (one : EntityId) (bitmap : List ℕ) (u : Onu) → (alarm_if b one bitmap u).unit.snapshot ≡ u.snapshot
alarmed_snapshot false one bitmap u = refl
alarmed_snapshot true one bitmap u = told_snapshot (change one bitmap u.log).notice one (record u { log = (change one bitmap u.log).log })

pub alarmed_database : (b : Bool) (one : EntityId) (bitmap : List ℕ) (u : Onu) → (alarm_if b one bitmap u).unit.database ≡ u.database
alarmed_database false one bitmap u = refl
alarmed_database true one bitmap u = told_database (change one bitmap u.log).notice one (record u { log = (change one bitmap u.log).log })

-- or notices alarms
pub alarm_fine : (one : EntityId) (bitmap : List ℕ) (n : Nodes) (t : Told) → Fine n t
    → StepFine (unit_notices (onu_alarmed one bitmap) n.ends.unit n.ends) n t
unfolding onu_alarmed
alarm_fine one bitmap n t f =
    noticing_fine n t f (onu_alarmed one bitmap) n.ends.unit refl
    (λ u. unless_snapshot u.leaving _ u (alarmed_snapshot (may_alarm one u.database) one bitmap u))
    (λ u h. unless_whole u.leaving _ u (subst IsWholeDatabase (sym (alarmed_database (may_alarm one u.database) one bitmap u)) h) h)

pub second_fine : (n : Nodes) (t : Told) → Fine n t → StepFine (second n.ends) n t
unfolding second
second_fine n t f =
    let s = manager_ticks n.ends.manager n.ends in
    let one = manager_ticked n t f n.ends.manager refl in
    both_fine s (unit_ticks s.ends.unit s.ends) n t
    (unit_ticked (nodes_after_step s n) (tell_all s.happenings t) one s.ends.unit refl)

pub noise_fine : (d : Direction) (bytes : List ℕ) (n : Nodes) (t : Told) → Fine n t → fault_of bytes ≢ None
    → StepFine (noise d bytes n.ends) n t
unfolding noise
noise_fine Down bytes n t f k = unit_noise n t f bytes n.ends.unit refl (noise_read bytes k)
noise_fine Up bytes n t f k = manager_noise n t f bytes n.ends.manager refl (noise_read bytes k)

-- ---- deliveries

-- what is known of the packets that may come next in the low lane
pub record Linked (n : Nodes) (t : Told) : Type 0 where
  pub waited : (number : ℕ) (s : Sent) (u : Onu) → n.ends.unit ≡ Some u → allowed number n.link ≡ Some s
      → s.direction ≡ Down → AreWaited n.ends.manager t number s u
  pub heard : (number : ℕ) (s : Sent) (m : Manager) → n.ends.manager ≡ Some m → allowed number n.link ≡ Some s
      → s.direction ≡ Up → IsHeard m.low n.ends.lives t s.bytes

allowed_by : (b : Bool) (x s : Sent) → if_may_come b x ≡ Some s → x ≡ s
allowed_by true x s e = same_Some x s e
allowed_by false x s e = absurd (cc)

allowed_at : (i : ℕ) (o : Option Sent) (ways : Ways) (total : ℕ) (s : Sent) → allowed_one i o ways total ≡ Some s → o ≡ Some s
allowed_at i None ways total s e = absurd (cc)
allowed_at i (Some x) ways total s e = ap (λ y. Some y) (allowed_by (may_come i (way_of x ways) total) x s e)

pub allowed_is : (i : ℕ) (l : Link) (s : Sent) → allowed i l ≡ Some s → slice_get l.packets i ≡ Some s
unfolding allowed
allowed_is i l s e = allowed_at i (slice_get l.packets i) l.ways (count l) s e

-- the packet has come
abbrev came_told : ℕ → Sent → Told → Told
came_told number s t = record t { came = name_at number t.names; packet = s.bytes }

held_came : (number : ℕ) (s : Sent) (packets : List Sent) (unit : Option Onu) (low high : Lane) (t : Told)
    → Held packets unit low high t → Held packets unit low high (came_told number s t)
held_came number s packets unit low high t h = record {
  sent = h.sent;
  apart = h.apart;
  lanes = h.lanes;
  carried = h.carried;
  whole = h.whole;
  right = h.right;
}

module _ (number : ℕ) (s : Sent) (n : Nodes) (t : Told) (f : Fine n t) (k : Linked n t) (may : allowed number n.link ≡ Some s) where
  unit_arrives : (o : Option Onu) → n.ends.unit ≡ o → s.direction ≡ Down → StepFine (unit_got (PacketCame number s ∷ []) s.bytes o n.ends) n t
  unit_arrives None e way = not_enabled_fine n t f
  unit_arrives (Some u) e way = record {
    good = unit_good number s n.link n.ends.lives u n.ends.manager t (subst (λ x. Good n.link.packets n.ends.lives x n.ends.manager t) e f.good)
        (allowed_is number n.link s may) way (k.waited number s u e may way);
  }

  manager_arrives : (o : Option Manager) → n.ends.manager ≡ o → s.direction ≡ Up → StepFine (manager_got (PacketCame number s ∷ []) s.bytes o n.ends) n t
  manager_arrives None e way = not_enabled_fine n t f
  manager_arrives (Some m) e way =
      let g = subst (λ x. Good n.link.packets n.ends.lives n.ends.unit x t) e f.good in
      record {
        good = packet_good s.bytes m (delivered_on number s n.link) n.ends.lives n.ends.unit (came_told number s t)
            (held_came number s n.link.packets n.ends.unit m.low m.high t (held_of n.link.packets n.ends.lives n.ends.unit m t g))
            (g.job m refl) (g.reports m refl)
            (λ w waits same lane probe. let x = k.heard number s m e may way w waits same lane probe in record { carried = x.carried; last = x.last })
            (stage_in n.ends.manager);
      }

  arrives_by : (d : Direction) → s.direction ≡ d → StepFine (arrives_at d (PacketCame number s ∷ []) s.bytes n.ends) n t
  arrives_by Down way = unit_arrives n.ends.unit refl way
  arrives_by Up way = manager_arrives n.ends.manager refl way

  arrives_fine : StepFine (arrives number s n.ends) n t
  unfolding arrives
  arrives_fine = arrives_by s.direction refl

  -- ---- the power goes amid it

  unit_off : (v : Told) → Good n.link.packets n.ends.lives n.ends.unit n.ends.manager v
      → Good n.link.packets n.ends.lives None n.ends.manager v
  unit_off v g =
      good_older n.link.packets n.ends.lives n.ends.unit None n.ends.manager v
      (nothing_older n.ends.unit None (λ x y on has. absurd (cc))) (λ x e. absurd (cc)) g

  came_good : Good (delivered_on number s n.link).packets n.ends.lives n.ends.unit n.ends.manager (came_told number s t)
  came_good = record {
    sent = f.good.sent;
    apart = f.good.apart;
    lanes = f.good.lanes;
    job = f.good.job;
    reports = f.good.reports;
    carried = f.good.carried;
    whole = f.good.whole;
    right = f.good.right;
  }

  cut_amid_fine : (call : ℕ) (pick : Pick) (d : Deed) (u : Onu)
      → StepFine (preceded (PacketCame number s ∷ []) (cut_amid call pick d u n.ends)) n t
  cut_amid_fine call pick d u =
      let es = stored (entries_before d) in
      let l = delivered_on number s n.link in
      record {
        good =
            subst (λ (x : Link). Good x.packets n.ends.lives None n.ends.manager (tell_all (es ++ PowerCut ∷ []) (came_told number s t)))
            (sym (link_append es (PowerCut ∷ []) l))
            (subst (λ v. Good (link_read es l).packets n.ends.lives None n.ends.manager v)
            (sym (tell_append es (PowerCut ∷ []) (came_told number s t)))
            (entries_good (reverse (entries_before d)) l n.ends.lives None n.ends.manager (came_told number s t)
            (unit_off (came_told number s t) came_good)));
      }

  unit_cut_fine : (call : ℕ) (pick : Pick) (o : Option Onu)
      → StepFine (unit_cut_amid call pick (PacketCame number s ∷ []) s.bytes o n.ends) n t
  unit_cut_fine call pick None = not_enabled_fine n t f
  unit_cut_fine call pick (Some u) = cut_amid_fine call pick (packet_deed s.bytes u) u

  cut_by : (call : ℕ) (pick : Pick) (d : Direction)
      → StepFine (cut_at call pick d (PacketCame number s ∷ []) s.bytes n.ends) n t
  cut_by call pick Down = unit_cut_fine call pick n.ends.unit
  cut_by call pick Up = not_enabled_fine n t f

  cut_in_fine : (call : ℕ) (pick : Pick) → StepFine (cut_in call pick number s n.ends) n t
  unfolding cut_in
  cut_in_fine call pick = cut_by call pick s.direction

delivery_by : (o : Option Sent) (number : ℕ) (n : Nodes) (t : Told) → Fine n t → Linked n t → allowed number n.link ≡ o
    → StepFine (delivery_of o number n.ends) n t
delivery_by None number n t f k may = not_enabled_fine n t f
delivery_by (Some s) number n t f k may = arrives_fine number s n t f k may

cut_of_fine : (call : ℕ) (pick : Pick) (o : Option Sent) (number : ℕ) (n : Nodes) (t : Told)
    → Fine n t → Linked n t → allowed number n.link ≡ o
    → StepFine (cut_of call pick o number n.ends) n t
cut_of_fine call pick None number n t f k may = not_enabled_fine n t f
cut_of_fine call pick (Some s) number n t f k may = cut_in_fine number s n t f k may call pick

-- the power of the unit goes amid a delivery
pub cut_delivery_fine : (call : ℕ) (pick : Pick) (number : ℕ) (n : Nodes) (t : Told) → Fine n t
    → Linked n t → StepFine (cut_delivery call pick number n) n t
unfolding cut_delivery
cut_delivery_fine call pick number n t f k =
    cut_of_fine call pick (allowed number n.link) number n t f k refl

pub delivery_fine : (number : ℕ) (n : Nodes) (t : Told) → Fine n t → Linked n t → StepFine (delivery number n) n t
unfolding delivery
delivery_fine number n t f k = delivery_by (allowed number n.link) number n t f k refl

-- ---- at first

pub first_fine : (h : Header) → IsNumber h.low → Fine (first_nodes h) first_told
unfolding onu_started
first_fine h a =
    let slots : SlotPair = factory_slots h.factory in
    let first : Onu = onu_started PowerUp h.room slots in
    record {
      good = good_of [] 1 (Some first) (manager_started h.low h.high) first_told
          (record {
            sent = tt;
            apart = λ w e. absurd (cc);
            lanes = record {
              priority = refl;
              number = omega (arith, a.most);
              low_out = λ w e. absurd (cc);
              high_out = λ w e. absurd (cc);
            };
            carried = λ life command was. absurd was;
            whole = λ v e. subst (λ (x : Onu). IsWholeDatabase x.database) (same_Some first v e)
                (first_whole (software_of (store_started PowerUp slots)) (slots_versions (store_started PowerUp slots).active slots));
            right = tt;
          })
          (job_none 1 _ _ None 0 0 [] refl) refl;
    }
