-- Each line of a script keeps all.
use Rattle.std.proofs.Common.{◌≡◌, ◌≢◌, ℕ, ◌+◌, ◌<◌, ◌^◌, true, false, List, [], ◌∷◌, ◌++◌, length}
use Rattle.std.proofs.Common.{map, reverse, Option, Some, None, inl, inr, refl, sym, ap, subst}
use Rattle.std.proofs.Common.{arith}
use Rattle.std.proofs.lemmas.Option.{same_Some}
use Rattle.omci_types.specs.declared.EntityId.{EntityId}
use Rattle.omci_types.specs.declared.Priority.{Priority}
use Rattle.omci_types.specs.declared.Priority.TheVariants.{Low, High}
use Rattle.tci_spec.specs.Tci.{IsNumber}
use Rattle.frame_spec.specs.Baseline.{fault_of, packet_frame, spelling}
use Rattle.message_spec.specs.declared.Request.{Request}
use Rattle.mib_spec.specs.Database.{Database, first, image_values, has_unit_entities}
use Rattle.mib_spec.specs.declared.Sensed.{Sensed}
use Rattle.mib_spec.specs.declared.Sensed.TheVariants as sensed
use Rattle.mib_spec.specs.Requests.{sense_outcome}
use Rattle.mib_laws.proofs.UnitEntities.{first_has, keeps_sense}
use Rattle.script_spec.specs.Script.{Header}
use Rattle.link_spec.specs.declared.Direction.{Direction}
use Rattle.link_spec.specs.declared.Direction.TheVariants.{Down, Up}
use Rattle.link_spec.specs.Link.{Sent, Link, empty_link, allowed, sent_on, delivered_on, emptied}
use Rattle.lane_spec.specs.Command.{ask, is_changing}
use Rattle.manager_spec.specs.declared.Refusal.{Refusal}
use Rattle.manager_spec.specs.declared.Report.TheVariants as report
use Rattle.manager_spec.specs.Manager.{Manager, Outcome, Asking, with_report, manager_started}
use Rattle.manager_spec.specs.Submitting.{Submission, unless_refused, probe_refusal, after_probe}
use Rattle.manager_spec.specs.Submitting.{submit_refusal, after_submit, check_refusal, after_check}
use Rattle.manager_spec.specs.Submitting.{resync_refusal, after_resync, audit_refusal, after_audit}
use Rattle.manager_spec.specs.Submitting.{image_refusal, check_given, after_image}
use Rattle.manager_spec.specs.Steps.{packet_dropped, for_frame, after_packet, after_tick}
use Rattle.unit_spec.specs.declared.Did.{Did}
use Rattle.unit_spec.specs.declared.Did.TheVariants as did
use Rattle.unit_spec.specs.declared.Note.{Note}
use Rattle.unit_spec.specs.declared.Note.TheVariants as note
use Rattle.unit_spec.specs.declared.Noticed.{Noticed}
use Rattle.unit_spec.specs.declared.Noticed.TheVariants as noticed
use Rattle.unit_spec.specs.Noticing.{Noticing, sensed_as, onu_sensed, may_alarm, onu_alarmed}
use Rattle.unit_spec.specs.Noticing.{notice_unless_leaving}
use Rattle.omci_types.specs.declared.Boot.{Boot}
use Rattle.omci_types.specs.declared.Boot.TheVariants.{PowerUp}
use Rattle.slot_spec.specs.declared.Pick.{Pick}
use Rattle.slot_spec.specs.Slots.{SlotPair}
use Rattle.store_spec.specs.History.{StoreEntry}
use Rattle.store_spec.specs.State.{store_started, software_of}
use Rattle.store_spec.specs.Effects.{entries_before}
use Rattle.unit_spec.specs.Onu.{Onu, Reception, onu_started, onu_received, onu_ticked, packet_deed}
use Rattle.history_spec.specs.History.{WasCarried}
use Rattle.world_spec.specs.Happenings.{PacketCame, ImageStored, PowerCut, link_read}
use Rattle.world_spec.specs.Ends.{Step, factory_slots, not_enabled, preceded, stage_in, stored}
use Rattle.world_spec.specs.Ends.{unit_starts, restarts, unit_cut_amid, cut_at, cut_in, manager_did}
use Rattle.world_spec.specs.Ends.{submission_step, submission, manager_got, manager_ticks}
use Rattle.world_spec.specs.Ends.{unit_deed, unit_did, unit_got, arrives_at, arrives, noise}
use Rattle.world_spec.specs.Ends.{unit_ticks, second, cut_unit, cut_manager, start_unit}
use Rattle.world_spec.specs.Ends.{start_manager, notice_sent, unit_notices}
use Rattle.world_spec.specs.Nodes.{Nodes, first_nodes, delivery_of, delivery, cut_of, cut_delivery}
use Rattle.world_spec.specs.Nodes.{nodes_after_step}
use Rattle.world_spec.specs.History.{Told, first_told, name_at, tell, tell_all}
use Rattle.resync_laws.proofs.Reading.{noise_read, is_plain}
use Rattle.resync_laws.proofs.Unit.{IsIdle, Leaves, Carries, Receives, receives, noise_drops}
use Rattle.resync_laws.proofs.Telling.{tell_append, link_append, all_deeds, NoneSynced, none_more}
use Rattle.resync_laws.proofs.Serving.{history_after, unit_after}
use Rattle.resync_laws.proofs.Lines.{Fine, StepFine, alarmed_database}
use Rattle.resync_laws.specs.Databases.{IsWholeDatabase}
use Rattle.step_laws.proofs.Sensing.{sense_copied}
use Rattle.step_laws.proofs.Coming.{Coming, coming_more, coming_past, coming_none}
use Rattle.step_laws.proofs.Reading.{IsExact}
use Rattle.step_laws.proofs.Parts.{lane_at, last_in, IsBelow, IsNewest, LaneOk, Steady, Kept, Sure}
use Rattle.step_laws.proofs.Milder.{milder_steady}
use Rattle.step_laws.proofs.Moving.{moved_steady, IsLike, like_database, IsLikeUnit, unit_steady}
use Rattle.step_laws.proofs.Moving.{unit_kept, life_steady}
use Rattle.step_laws.proofs.Serving.{carried_kept, carried_steady}
use Rattle.step_laws.proofs.Sending.{same_more}
use Rattle.step_laws.proofs.Turning.{like_report, like_milder}
use Rattle.step_laws.proofs.Going.{StepsTo, steps_quiet}
use Rattle.step_laws.proofs.Turns.{probe_steps, check_steps, resync_steps, audit_steps}
use Rattle.step_laws.proofs.Turns.{image_steps, submit_steps, tick_steps}
use Rattle.step_laws.proofs.Taking.{stored_steady}
use Rattle.step_laws.proofs.Hearing.{IsFenced, IsHeard, SomeDid, packet_steps}
use Rattle.step_laws.proofs.Quiet.{kept_tell, kept_deeds}

-- all of the nodes
abbrev pub Sures : Nodes → Told → Type 0
Sures n t = Sure n.link n.ends.lives n.ends.unit n.ends.manager t

abbrev pub StepSure : Step → Nodes → Told → Type 0
StepSure s n t = Sures (nodes_after_step s n) (tell_all s.happenings t)

pub both_sure : (s r : Step) (n : Nodes) (t : Told)
    → Sures (nodes_after_step r (nodes_after_step s n))
    (tell_all r.happenings (tell_all s.happenings t))
    → StepSure (record { ends = r.ends; happenings = s.happenings ++ r.happenings }) n t
both_sure s r n t f =
    let at : Link → Nodes = λ l. record { ends = r.ends; link = l } in
    subst (λ l. Sures (at l) (tell_all (s.happenings ++ r.happenings) t))
    (sym (link_append s.happenings r.happenings n.link))
    (subst (λ u. Sures (at (link_read r.happenings (link_read s.happenings n.link))) u)
    (sym (tell_append s.happenings r.happenings t)) f)

sure_some : (link : Link) (lives : ℕ) (unit : Option Onu) (m : Manager) (t : Told)
    → Steady link lives unit m t
    → Kept lives unit t.history → Sure link lives unit (Some m) t
sure_some link lives unit m t h k = record {
  steady = λ x e. subst (λ y. Steady link lives unit y t) (same_Some m x e) h;
  kept = k;
}

-- ---- a manager that has just started

started_steady : (link : Link) (lives : ℕ) (unit : Option Onu) (low high : ℕ) (t : Told)
    → IsNumber low → IsNumber high
    → length link.packets ≡ length t.names
    → ((life command : ℕ) → WasCarried life command t.history → command < t.drawn)
    → ((P : Sent → ℕ → Type 0) → Coming P link t.names)
    → Steady link lives unit (manager_started low high) t
started_steady link lives unit low high t a b same known none = record {
  same = same;
  below = none (IsBelow t.drawn);
  lanes = lane_ok;
  apart = λ w v e f. absurd (cc);
  known = known;
  job = λ s e. absurd (cc);
  phase = λ e. absurd (cc);
}
  where
    lane_ok : (lane : Priority) → LaneOk lane
        (lane_at lane (manager_started low high).low (manager_started low high).high) link t.names
        t.drawn (last_in lane t)
    lane_ok Low = record {
      priority = refl;
      number = omega (arith, a.most);
      out =
          λ w e. absurd (cc);
      newest = none (IsNewest Low t.low None);
    }
    lane_ok High = record {
      priority = refl;
      number = omega (arith, b.most);
      out =
          λ w e. absurd (cc);
      newest = none (IsNewest High t.high None);
    }

-- ---- what is asked of the manager

did_sure : (o : Outcome) (n : Nodes) (t : Told) → Kept n.ends.lives n.ends.unit t.history
    → StepsTo o n.link n.ends.lives n.ends.unit t → StepSure (manager_did o n.ends) n t
did_sure o n t k d =
    let before = stage_in n.ends.manager in
    sure_some (link_read (all_deeds before o) n.link) n.ends.lives n.ends.unit
    (record o.manager { reports = [] }) (tell_all (all_deeds before o) t) (d before)
    (kept_deeds before n.ends.lives n.ends.unit o t k)

submitted : (r : Option Refusal) (o : Outcome) (m : Manager) (n : Nodes) (t : Told) → Sures n t
    → (r ≡ None → StepsTo o n.link n.ends.lives n.ends.unit t)
    → StepSure (submission_step (unless_refused r o m) n.ends) n t
submitted None o m n t f d = did_sure o n t f.kept (d refl)
submitted (Some refusal) o m n t f d = record { steady = f.steady; kept = f.kept }

not_enabled_sure : (n : Nodes) (t : Told) → Sures n t → StepSure (not_enabled n.ends) n t
not_enabled_sure n t f = record { steady = f.steady; kept = f.kept }

asked_sure : (call : Manager → Submission) (o : Option Manager) (n : Nodes) (t : Told) → Sures n t
    → n.ends.manager ≡ o
    → ((m : Manager) → n.ends.manager ≡ Some m → StepSure (submission_step (call m) n.ends) n t)
    → StepSure (submission call o n.ends) n t
asked_sure call None n t f e d = not_enabled_sure n t f
asked_sure call (Some m) n t f e d = d m e

-- the unit's next life
pub unit_starts_sure : (boot : Boot) (slots : SlotPair) (n : Nodes) (t : Told) → Sures n t
    → StepSure (unit_starts boot slots n.ends) n t
unfolding onu_started first
unit_starts_sure boot slots n t f =
    let started : Onu = onu_started boot n.ends.room slots in
    let m = software_of (store_started boot slots) in
    record {
      steady = λ x e.
          life_steady n.link n.ends.lives (n.ends.lives + 1) n.ends.unit (Some started) x t
          (λ command was. let lt = f.kept.past (n.ends.lives + 1) command was in
          omega (arith, lt)) (f.steady x e);
      kept = record {
        has = λ v on. subst (λ (x : Onu). has_unit_entities x.database ≡ true)
            (same_Some started v on) (first_has (image_values 0 m) (image_values 1 m));
        past = λ life command was. let lt = f.kept.past life command was in omega (arith, lt);
        snapshots = f.kept.snapshots;
      };
    }

module _ (n : Nodes) (t : Told) (f : Sures n t) (g : Fine n t) where
  pub probe_sure : (lane : Priority) → StepSure
      (submission (after_probe lane) n.ends.manager n.ends) n t
  unfolding after_probe
  probe_sure lane =
      asked_sure (after_probe lane) n.ends.manager n t f refl
      (λ m e. submitted (probe_refusal lane m) _ m n t f
      (λ r. probe_steps m n.link n.ends.lives n.ends.unit t (f.steady m e)
      (g.good.reports m e) lane r))

  pub submit_sure : (lane : Priority) (entity : EntityId) (r : Request) → is_plain r ≡ true
      → (is_changing r ≡ true → (tci : ℕ) → tci < 2 ^ 16 → IsExact tci (ask entity r))
      → StepSure (submission (after_submit lane entity r) n.ends.manager n.ends) n t
  unfolding after_submit
  submit_sure lane entity r plainly exact =
      asked_sure (after_submit lane entity r) n.ends.manager n t f refl
      (λ m e. submitted (submit_refusal lane r m) _ m n t f
      (λ q. submit_steps m n.link n.ends.lives n.ends.unit t (f.steady m e)
      (g.good.reports m e) lane entity r plainly exact q))

  pub check_sure : StepSure (submission after_check n.ends.manager n.ends) n t
  unfolding after_check
  check_sure =
      asked_sure after_check n.ends.manager n t f refl
      (λ m e. submitted (check_refusal m) _ m n t f
      (λ q. check_steps m n.link n.ends.lives n.ends.unit t (f.steady m e) (g.good.reports m e) q))

  pub resync_sure : StepSure (submission after_resync n.ends.manager n.ends) n t
  unfolding after_resync
  resync_sure =
      asked_sure after_resync n.ends.manager n t f refl
      (λ m e. submitted (resync_refusal m) _ m n t f
      (λ q. resync_steps m n.link n.ends.lives n.ends.unit t (f.steady m e) (g.good.reports m e) q))

  pub audit_sure : StepSure (submission after_audit n.ends.manager n.ends) n t
  unfolding after_audit
  audit_sure =
      asked_sure after_audit n.ends.manager n t f refl
      (λ m e. submitted (audit_refusal m) _ m n t f
      (λ q. audit_steps m n.link n.ends.lives n.ends.unit t (f.steady m e) (g.good.reports m e) q))

  pub image_sure : (slot asked : ℕ) (check : Option ℕ) (image : List ℕ)
      → StepSure (submission (after_image slot asked check image) n.ends.manager n.ends) n t
  unfolding after_image
  image_sure slot asked check image =
      asked_sure (after_image slot asked check image) n.ends.manager n t f refl
      (λ m e. submitted (image_refusal m) _ m n t f
      (λ q. image_steps m n.link n.ends.lives n.ends.unit t (f.steady m e) (g.good.reports m e)
      (record { slot = slot; check = check_given check image }) asked image q))

  -- ---- a second

  manager_ticked : (o : Option Manager) → n.ends.manager ≡ o → StepSure (manager_ticks o n.ends) n t
  manager_ticked None e = record { steady = f.steady; kept = f.kept }
  manager_ticked (Some m) e =
      did_sure (after_tick m) n t f.kept
      (tick_steps m n.link n.ends.lives n.ends.unit t (f.steady m e) (g.good.reports m e))

  -- ---- power

  pub cut_unit_sure : (o : Option Onu) → StepSure (cut_unit o n.ends) n t
  cut_unit_sure None = not_enabled_sure n t f
  cut_unit_sure (Some u) =
      let none : IsLikeUnit n.ends.unit None = record { from = λ v on. absurd (cc) } in
      record {
        steady = λ m e. unit_steady n.link n.ends.lives n.ends.unit None m t none (f.steady m e);
        kept = record {
          has = λ v on. absurd (cc);
          past = f.kept.past;
          snapshots =
              f.kept.snapshots;
        };
      }

  pub cut_manager_sure : (o : Option Manager) → StepSure (cut_manager o n.ends) n t
  cut_manager_sure None = not_enabled_sure n t f
  cut_manager_sure (Some m) = record { steady = λ x e. absurd (cc); kept = f.kept }

  pub start_unit_sure : (o : Option Onu) → StepSure (start_unit o n.ends) n t
  start_unit_sure (Some u) = not_enabled_sure n t f
  start_unit_sure None = unit_starts_sure PowerUp n.ends.slots n t f

  pub start_manager_sure : (low high : ℕ) (o : Option Manager) → IsNumber low → IsNumber high
      → length n.link.packets ≡ length t.names
      → ((life command : ℕ) → WasCarried life command t.history → command < t.drawn)
      → StepSure (start_manager low high o n.ends) n t
  start_manager_sure low high (Some m) a b same known = not_enabled_sure n t f
  start_manager_sure low high None a b same known =
      sure_some (emptied n.link) n.ends.lives n.ends.unit (manager_started low high) t
      (started_steady (emptied n.link) n.ends.lives n.ends.unit low high t a b same known
      (λ P. coming_none P n.link t.names)) f.kept

  -- ---- noise

  unit_noise : (bytes : List ℕ) (o : Option Onu) → n.ends.unit ≡ o → packet_frame bytes ≡ None
      → StepSure (unit_got [] bytes o n.ends) n t
  unit_noise bytes None e k = not_enabled_sure n t f
  unit_noise bytes (Some u) e k =
      subst (λ (r : Reception). StepSure (preceded [] (unit_did r u n.ends)) n t)
      (sym (noise_drops bytes u k))
      (subst (λ x. Sure n.link n.ends.lives x n.ends.manager t) e f)

  manager_noise : (bytes : List ℕ) (o : Option Manager) → n.ends.manager ≡ o
      → packet_frame bytes ≡ None → StepSure (manager_got [] bytes o n.ends) n t
  unfolding after_packet
  manager_noise bytes None e k = not_enabled_sure n t f
  manager_noise bytes (Some m) e k =
      let x : Manager = with_report report.Dropped m in
      subst (λ o. StepSure (preceded [] (manager_did (for_frame o m) n.ends)) n t) (sym k)
      (did_sure (packet_dropped m) n t f.kept
      (steps_quiet (packet_dropped m) n.link n.ends.lives n.ends.unit t t refl
      (none_more m.reports report.Dropped (subst NoneSynced (sym (g.good.reports m e)) tt) refl)
      (milder_steady n.link n.ends.lives n.ends.unit m x t
      (like_milder m x (like_report report.Dropped m)) (f.steady m e))))

-- the unit goes over into one that is alike
like_unit : (n : Nodes) (t : Told) (u w : Onu) → n.ends.unit ≡ Some u → IsLike u.database w.database
    → IsLikeUnit n.ends.unit (Some w)
like_unit n t u w e like = record {
  from = λ v on. (u, e, subst (λ (x : Onu). IsLike u.database x.database) (same_Some w v on) like);
}

like_sure : (n : Nodes) (t : Told) (after : Option Onu) → Sures n t → IsLikeUnit n.ends.unit after
    → Sure n.link n.ends.lives after n.ends.manager t
like_sure n t after f o = record {
  steady = λ m e. unit_steady n.link n.ends.lives n.ends.unit after m t o (f.steady m e);
  kept = unit_kept n.ends.lives n.ends.unit after t.history o f.kept;
}

-- ---- the unit notices something

noticed_by : (o : Noticed) (packet : List ℕ) (n : Nodes) (t : Told) (w : Onu)
    → Sure n.link n.ends.lives (Some w) n.ends.manager t
    → StepSure (record {
      ends = record n.ends { unit = Some w };
      happenings =
          notice_sent o packet;
    }) n t
noticed_by noticed.NotAllowed packet n t w f = record { steady = f.steady; kept = f.kept }
noticed_by noticed.Same packet n t w f = record { steady = f.steady; kept = f.kept }
noticed_by noticed.Sent packet n t w f =
    let x : Sent = record { direction = Up; bytes = packet } in
    record {
      steady = λ m e.
          let h = f.steady m e in
          moved_steady n.link (sent_on x n.link) n.ends.lives (Some w) m t t.came t.packet
          (t.names ++ 0 ∷ [])
          (same_more n.link.packets x t.names 0 h.same)
          (λ P q. coming_more P n.link t.names x 0 h.same (λ d. absurd (cc)) q) h;
      kept = f.kept;
    }

noticing_sure : (call : Onu → Noticing) (o : Option Onu) (n : Nodes) (t : Told) → Sures n t
    → n.ends.unit ≡ o
    → ((u : Onu) → IsLike u.database (call u).unit.database)
    → StepSure (unit_notices call o n.ends) n t
noticing_sure call None n t f e like = not_enabled_sure n t f
noticing_sure call (Some u) n t f e like =
    noticed_by (call u).noticed (call u).packet n t (call u).unit
    (like_sure n t (Some (call u).unit) f (like_unit n t u (call u).unit e (like u)))

sensed_like : (o : Sensed) (one : EntityId) (number : ℕ) (value : List ℕ) (db : Database) (u : Onu)
    → IsLike u.database db → IsLike u.database (sensed_as o one number value db u).unit.database
sensed_like sensed.NotAllowed one number value db u k = like_database u.database u.database refl
sensed_like sensed.Same one number value db u k = like_database u.database u.database refl
sensed_like sensed.Changed one number value db u k = k

-- a unit that leaves notices nothing
unless_like : (leaving : Option Boot) (n : Noticing) (u : Onu) → IsLike u.database n.unit.database
    → IsLike u.database (notice_unless_leaving leaving n u).unit.database
unless_like None n u k = k
unless_like (Some boot) n u k = like_database u.database u.database refl

-- the unit measures a value
pub sense_sure : (one : EntityId) (number : ℕ) (value : List ℕ) (n : Nodes) (t : Told) → Sures n t
    → StepSure (unit_notices (onu_sensed one number value) n.ends.unit n.ends) n t
unfolding onu_sensed
sense_sure one number value n t f =
    noticing_sure (onu_sensed one number value) n.ends.unit n t f refl
    (λ u. unless_like u.leaving _ u
    (sensed_like (sense_outcome one number value u.database).0 one number value
    (sense_outcome one number value u.database).1 u
    (record {
      has = λ h. keeps_sense one number value u.database h;
      copied = λ copy h. sense_copied one number value u.database copy h;
    })))

-- or notices alarms
pub alarm_sure : (one : EntityId) (bitmap : List ℕ) (n : Nodes) (t : Told) → Sures n t
    → StepSure (unit_notices (onu_alarmed one bitmap) n.ends.unit n.ends) n t
unfolding onu_alarmed
alarm_sure one bitmap n t f =
    noticing_sure (onu_alarmed one bitmap) n.ends.unit n t f refl
    (λ u. unless_like u.leaving _ u (like_database u.database _ (sym
    (alarmed_database (may_alarm one u.database) one bitmap u))))

-- ---- a second

unit_older : (n : Nodes) (t : Told) (u : Onu) → Sures n t → n.ends.unit ≡ Some u
    → StepSure (restarts None u n.ends) n t
unfolding onu_ticked
unit_older n t u f e =
    like_sure n t (Some (onu_ticked u)) f
    (like_unit n t u (onu_ticked u) e (like_database u.database u.database refl))

unit_ticked : (n : Nodes) (t : Told) (o : Option Onu) → Sures n t → n.ends.unit ≡ o
    → StepSure (unit_ticks o n.ends) n t
unit_ticked n t None f e = record { steady = f.steady; kept = f.kept }
unit_ticked n t (Some u) f e = go u.leaving
  where
    go : (leaving : Option Boot) → StepSure (restarts leaving u n.ends) n t
    go None = unit_older n t u f e
    go (Some boot) = unit_starts_sure boot u.store.slots n t f

pub second_sure : (n : Nodes) (t : Told) → Sures n t → Fine n t → StepSure (second n.ends) n t
unfolding second
second_sure n t f g =
    let s = manager_ticks n.ends.manager n.ends in
    both_sure s (unit_ticks s.ends.unit s.ends) n t
    (unit_ticked (nodes_after_step s n) (tell_all s.happenings t) s.ends.unit
    (manager_ticked n t f g n.ends.manager refl) refl)

pub noise_sure : (d : Direction) (bytes : List ℕ) (n : Nodes) (t : Told) → Sures n t → Fine n t
    → fault_of bytes ≢ None
    → StepSure (noise d bytes n.ends) n t
unfolding noise
noise_sure Down bytes n t f g k = unit_noise n t f g bytes n.ends.unit refl (noise_read bytes k)
noise_sure Up bytes n t f g k = manager_noise n t f g bytes n.ends.manager refl (noise_read bytes k)

-- ---- deliveries

-- what is known of the packets that may come next
pub record Linked (n : Nodes) (t : Told) : Type 0 where
  pub fresh : (number : ℕ) (s : Sent) (u : Onu) (note : Option Note) → n.ends.unit ≡ Some u
      → allowed number n.link ≡ Some s → s.direction ≡ Down
      → (onu_received false s.bytes u).did ≡ did.Carried note
      → WasCarried n.ends.lives (name_at number t.names) t.history → ⊥
  pub heard : (number : ℕ) (s : Sent) (m : Manager) → n.ends.manager ≡ Some m
      → allowed number n.link ≡ Some s → s.direction ≡ Up → IsHeard n.link n.ends.lives m t s.bytes

-- what the store has for the history
entries_sure : (entries : List StoreEntry) (link : Link) (lives : ℕ) (unit : Option Onu)
    (manager : Option Manager) (t : Told) → Sure link lives unit manager t
    → Sure (link_read (map ImageStored entries) link) lives unit manager
    (tell_all (map ImageStored entries) t)
entries_sure [] link lives unit manager t h = h
entries_sure (entry ∷ rest) link lives unit manager t h =
    entries_sure rest link lives unit manager (tell (ImageStored entry) t)
    (record {
      steady = λ m e. stored_steady entry link lives unit m t (h.steady m e);
      kept = kept_tell lives unit (ImageStored entry) t refl h.kept;
    })

module _ (number : ℕ) (s : Sent) (n : Nodes) (t : Told) (f : Sures n t) (g : Fine n t)
    (k : Linked n t) (may : allowed number n.link ≡ Some s) where
  abbrev lives : ℕ
  lives = n.ends.lives

  abbrev came : ℕ
  came = name_at number t.names

  past : (P : Sent → ℕ → Type 0) → Coming P n.link t.names
      → Coming P (delivered_on number s n.link) t.names
  past P h = coming_past P number s n.link t.names may h

  arrived : (unit : Option Onu) (m : Manager) → Steady n.link lives unit m t
      → Steady (delivered_on number s n.link) lives unit m
      (record t { came = came; packet = s.bytes })
  arrived unit m h = moved_steady n.link
      (delivered_on number s n.link) lives unit m t came s.bytes t.names h.same past h

  answered : (unit : Option Onu) (m : Manager) (reply : List ℕ) → Steady n.link lives unit m t
      → Steady (sent_on (record { direction = Up; bytes = reply }) (delivered_on number s n.link))
      lives unit m (record t { came = came; packet = s.bytes; names = t.names ++ came ∷ [] })
  answered unit m reply h =
      moved_steady n.link (sent_on (record { direction = Up; bytes = reply })
      (delivered_on number s n.link)) lives unit m t came s.bytes (t.names ++ came ∷ [])
      (same_more n.link.packets (record { direction = Up; bytes = reply }) t.names came h.same)
      (λ P q. coming_more P (delivered_on number s n.link) t.names
      (record { direction = Up; bytes = reply }) came h.same (λ d. absurd (cc)) (past P q)) h

  -- ---- to the unit

  abbrev Served : Onu → Reception → Type 0
  Served u r =
      Sure (link_read (PacketCame number s ∷ unit_deed r.did r.reply u lives) n.link) lives
      (Some r.unit) n.ends.manager
      (tell_all (PacketCame number s ∷ unit_deed r.did r.reply u lives) t)

  -- the entries of its store are told after that
  abbrev ServedWhole : Onu → Reception → Type 0
  ServedWhole u r =
      let hs = PacketCame number s ∷ unit_deed r.did r.reply u lives ++ stored r.stored in
      Sure (link_read hs n.link) lives (Some r.unit) n.ends.manager (tell_all hs t)

  served_whole : (u : Onu) (r : Reception) → Served u r → ServedWhole u r
  served_whole u r h =
      let hs = PacketCame number s ∷ unit_deed r.did r.reply u lives in
      let ks = stored r.stored in
      subst (λ l. Sure l lives (Some r.unit) n.ends.manager (tell_all (hs ++ ks) t))
      (sym (link_append hs ks n.link))
      (subst (λ v. Sure (link_read ks (link_read hs n.link)) lives (Some r.unit) n.ends.manager v)
      (sym (tell_append hs ks t))
      (entries_sure (reverse r.stored) (link_read hs n.link) lives (Some r.unit) n.ends.manager
      (tell_all hs t) h))

  leaves_sure : (u : Onu) → Sure n.link lives (Some u) n.ends.manager t → (r : Reception)
      → Leaves u r → Served u r
  leaves_sure u h r q = subst (λ x. Sure
      (link_read (PacketCame number s ∷ unit_deed r.did r.reply u lives) n.link) lives
      (Some x) n.ends.manager (tell_all (PacketCame number s ∷ unit_deed r.did r.reply u lives) t))
      (sym q.unit) (go r.did q.did)
    where
      held : Onu
      held = record u { store = q.store }

      still : IsLikeUnit (Some u) (Some held)
      still = record {
        from = λ v on. (
          u,
          refl,
          subst (λ (x : Onu). IsLike u.database x.database) (same_Some held v on)
              (like_database u.database u.database refl),
        );
      }

      held_steady : (m : Manager) → n.ends.manager ≡ Some m → Steady n.link lives (Some held) m t
      held_steady m x = unit_steady n.link lives (Some u) (Some held) m t still (h.steady m x)

      held_kept : Kept lives (Some held) t.history
      held_kept = unit_kept lives (Some u) (Some held) t.history still h.kept

      go : (d : Did) → IsIdle d
          → Sure (link_read (PacketCame number s ∷ unit_deed d r.reply u lives) n.link) lives
          (Some held) n.ends.manager (tell_all
          (PacketCame number s ∷ unit_deed d r.reply u lives) t)
      go did.Dropped i =
          record { steady = λ m x. arrived (Some held) m (held_steady m x); kept = held_kept }
      go did.Held i =
          record { steady = λ m x. arrived (Some held) m (held_steady m x); kept = held_kept }
      go did.Kept i =
          record { steady = λ m x. answered (Some held) m r.reply (held_steady m x); kept = held_kept }
      go (did.Carried o) i = absurd i

  module _ (u : Onu) (h : Sure n.link lives (Some u) n.ends.manager t) (way : s.direction ≡ Down)
      (c : Carries s.bytes u (onu_received false s.bytes u)) (fresh : WasCarried lives came t.history → ⊥)
      (whole : IsWholeDatabase u.database) where
    abbrev CarriedWith : Option Note → Type 0
    CarriedWith o =
        Sure (link_read (PacketCame number s ∷ unit_deed (did.Carried o)
        (spelling c.answer.reply) u lives) n.link) lives
        (Some (unit_after c.frame.tci c.answer)) n.ends.manager
        (tell_all (PacketCame number s ∷ unit_deed (did.Carried o)
        (spelling c.answer.reply) u lives) t)

    abbrev Plainly : Option Note → Type 0
    Plainly o =
        Sure (sent_on (record { direction = Up; bytes = spelling c.answer.reply })
        (delivered_on number s n.link)) lives
        (Some (unit_after c.frame.tci c.answer)) n.ends.manager
        (record t {
          came = came;
          packet = s.bytes;
          names = t.names ++ came ∷ [];
          history =
              history_after o lives came (spelling c.answer.reply) u t.history;
        })

    plainly_carried : Plainly c.answer.note
    plainly_carried = record {
      steady = λ m e. carried_steady number s n.link lives u t may way fresh c m
          (h.steady m e) whole (h.kept.has u refl);
      kept = carried_kept number s n.link lives u t may way fresh c h.kept;
    }

    carried_with : (o : Option Note) → c.answer.note ≡ o → CarriedWith o
    carried_with None e = subst Plainly e plainly_carried
    carried_with (Some (note.Snapshot entities counter)) e = subst Plainly e plainly_carried
    carried_with (Some (note.Alarms rows)) e = subst Plainly e plainly_carried
    carried_with (Some (note.Sealed slot size check)) e = subst Plainly e plainly_carried
    carried_with (Some (note.Committed slot)) e = subst Plainly e plainly_carried
    carried_with (Some (note.Leaving boot)) e = subst Plainly e plainly_carried

    carries_sure : Served u (onu_received false s.bytes u)
    carries_sure = subst (Served u) (sym c.is) (carried_with c.answer.note refl)

  unit_arrives : (o : Option Onu) → n.ends.unit ≡ o → s.direction ≡ Down
      → StepSure (unit_got (PacketCame number s ∷ []) s.bytes o n.ends) n t
  unit_arrives None e way = not_enabled_sure n t f
  unit_arrives (Some u) e way =
      served_whole u (onu_received false s.bytes u) (go (receives s.bytes u))
    where
      h : Sure n.link n.ends.lives (Some u) n.ends.manager t
      h = subst (λ x. Sure n.link n.ends.lives x n.ends.manager t) e f

      go : Receives s.bytes u (onu_received false s.bytes u) → Served u (onu_received false s.bytes u)
      go (inl q) = leaves_sure u h (onu_received false s.bytes u) q
      go (inr c) = carries_sure u h way c
          (k.fresh number s u c.answer.note e may way (ap (λ (r : Reception). r.did) c.is))
          (g.good.whole u e)

  -- ---- to the manager

  did_of : (m : Manager) → n.ends.manager ≡ Some m
      → StepFine (manager_got (PacketCame number s ∷ []) s.bytes (Some m) n.ends) n t
      → SomeDid (after_packet s.bytes m) (delivered_on number s n.link) lives n.ends.unit
      (record t { came = came; packet = s.bytes })
  did_of m e after = record { before = stage_in n.ends.manager; did = after.good }

  asking_own : (m : Manager) → n.ends.manager ≡ Some m → m.job ≡ Some Asking → t.asking ≡ t.low
  asking_own m e j = (g.good.job m e Asking j).own

  manager_arrives : (o : Option Manager) → n.ends.manager ≡ o → s.direction ≡ Up
      → StepFine (manager_got (PacketCame number s ∷ []) s.bytes o n.ends) n t
      → StepSure (manager_got (PacketCame number s ∷ []) s.bytes o n.ends) n t
  manager_arrives None e way after = not_enabled_sure n t f
  manager_arrives (Some m) e way after =
      let u : Told = record t { came = came; packet = s.bytes } in
      let link : Link = delivered_on number s n.link in
      let before = stage_in n.ends.manager in
      sure_some (link_read (all_deeds before (after_packet s.bytes m)) link) lives n.ends.unit
      (record (after_packet s.bytes m).manager { reports = [] })
      (tell_all (all_deeds before (after_packet s.bytes m)) u)
      (packet_steps s.bytes m link lives n.ends.unit u (arrived n.ends.unit m (f.steady m e))
      (g.good.reports m e)
      (λ l w waits same lane. let x = k.heard number s m e may way l w waits same lane in
      record { own = x.own; fence = past (IsFenced l (last_in l t)) x.fence })
      (λ w waits. ((g.good.lanes m e).high_out w waits).callers)
      (asking_own m e) (did_of m e after) before)
      (kept_deeds before lives n.ends.unit (after_packet s.bytes m) u f.kept)

  arrives_by : (d : Direction) → s.direction ≡ d
      → StepFine (arrives_at d (PacketCame number s ∷ []) s.bytes n.ends) n t
      → StepSure (arrives_at d (PacketCame number s ∷ []) s.bytes n.ends) n t
  arrives_by Down way after = unit_arrives n.ends.unit refl way
  arrives_by Up way after = manager_arrives n.ends.manager refl way after

  -- ---- the power goes amid it

  off_sure : Sure (delivered_on number s n.link) lives None n.ends.manager
      (record t { came = came; packet = s.bytes })
  off_sure =
      let none : IsLikeUnit n.ends.unit None = record { from = λ v on. absurd (cc) } in
      let h = like_sure n t None f none in
      record { steady = λ m e. arrived None m (h.steady m e); kept = h.kept }

  unit_cut_sure : (call : ℕ) (pick : Pick) (o : Option Onu)
      → StepSure (unit_cut_amid call pick (PacketCame number s ∷ []) s.bytes o n.ends) n t
  unit_cut_sure call pick None = not_enabled_sure n t f
  unit_cut_sure call pick (Some u) =
      let c : Told = record t { came = came; packet = s.bytes } in
      let l : Link = delivered_on number s n.link in
      let es = entries_before (packet_deed s.bytes u) in
      let ks = stored es in
      subst (λ x. Sure x lives None n.ends.manager (tell_all (ks ++ PowerCut ∷ []) c))
      (sym (link_append ks (PowerCut ∷ []) l))
      (subst (λ v. Sure (link_read ks l) lives None n.ends.manager v)
      (sym (tell_append ks (PowerCut ∷ []) c))
      (entries_sure (reverse es) l lives None n.ends.manager c off_sure))

  cut_by : (call : ℕ) (pick : Pick) (d : Direction)
      → StepSure (cut_at call pick d (PacketCame number s ∷ []) s.bytes n.ends) n t
  cut_by call pick Down = unit_cut_sure call pick n.ends.unit
  cut_by call pick Up = not_enabled_sure n t f

  cut_in_sure : (call : ℕ) (pick : Pick) → StepSure (cut_in call pick number s n.ends) n t
  unfolding cut_in
  cut_in_sure call pick = cut_by call pick s.direction

  arrives_sure : StepFine (arrives number s n.ends) n t → StepSure (arrives number s n.ends) n t
  unfolding arrives
  arrives_sure after = arrives_by s.direction refl after

delivery_by : (o : Option Sent) (number : ℕ) (n : Nodes) (t : Told) → Sures n t → Fine n t
    → Linked n t → allowed number n.link ≡ o
    → StepFine (delivery_of o number n.ends) n t → StepSure (delivery_of o number n.ends) n t
delivery_by None number n t f g k may after = not_enabled_sure n t f
delivery_by (Some s) number n t f g k may after = arrives_sure number s n t f g k may after

cut_of_sure : (call : ℕ) (pick : Pick) (o : Option Sent) (number : ℕ) (n : Nodes) (t : Told)
    → Sures n t → Fine n t → Linked n t → allowed number n.link ≡ o
    → StepSure (cut_of call pick o number n.ends) n t
cut_of_sure call pick None number n t f g k may = not_enabled_sure n t f
cut_of_sure call pick (Some s) number n t f g k may = cut_in_sure number s n t f g k may call pick

-- the power of the unit goes amid a delivery
pub cut_delivery_sure : (call : ℕ) (pick : Pick) (number : ℕ) (n : Nodes) (t : Told) → Sures n t
    → Fine n t → Linked n t → StepSure (cut_delivery call pick number n) n t
unfolding cut_delivery
cut_delivery_sure call pick number n t f g k =
    cut_of_sure call pick (allowed number n.link) number n t f g k refl

pub delivery_sure : (number : ℕ) (n : Nodes) (t : Told) → Sures n t → Fine n t → Linked n t
    → StepFine (delivery number n) n t
    → StepSure (delivery number n) n t
unfolding delivery
delivery_sure number n t f g k after =
    delivery_by (allowed number n.link) number n t f g k refl after

-- ---- at first

pub first_sure : (h : Header) → IsNumber h.low → IsNumber h.high → Sures (first_nodes h) first_told
unfolding onu_started first allowed
first_sure h a b =
    let slots : SlotPair = factory_slots h.factory in
    let first : Onu = onu_started PowerUp h.room slots in
    let m = software_of (store_started PowerUp slots) in
    sure_some empty_link 1 (Some first) (manager_started h.low h.high) first_told
    (started_steady empty_link 1 (Some first) h.low h.high
    first_told a b refl (λ life command was. absurd was) (λ P i s may way. absurd (cc)))
    (record {
      has = λ v on. subst (λ (x : Onu). has_unit_entities x.database ≡ true) (same_Some first v on)
          (first_has (image_values 0 m) (image_values 1 m));
      past = λ life command was. absurd was;
      snapshots = λ life command was. absurd was;
    })
