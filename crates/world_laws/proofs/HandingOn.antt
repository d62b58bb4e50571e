-- Each reply that the manager hands on was taken right before.
use Rattle.std.proofs.Common.{◌≡◌, ◌≢◌, ℕ, zero, suc, Bool, true, false, List, [], ◌∷◌, ◌++◌, reverse, Option, Some, None, ◌⊎◌, inl, inr, refl, sym, ap, subst, ◌∙◌}
use Rattle.std.proofs.lemmas.Option.{same_Some}
use Rattle.std.specs.Prelude.{map}
use Rattle.std.specs.List.{All, flat_map}
use Rattle.omci_types.specs.declared.Frame.{Frame}
use Rattle.omci_types.specs.declared.EntityId.{EntityId}
use Rattle.omci_types.specs.declared.Priority.{Priority}
use Rattle.omci_types.specs.declared.Priority.TheVariants.{Low, High}
use Rattle.tci_spec.specs.Tci.{priority_of}
use Rattle.message_spec.specs.declared.Request.{Request}
use Rattle.message_spec.specs.declared.Request.TheVariants as request
use Rattle.frame_spec.specs.Baseline.{fault_of, packet_frame}
use Rattle.frame_spec.specs.Widths.{filled}
use Rattle.upload_spec.specs.Pieces.{Copy}
use Rattle.alarm_spec.specs.Alarms.{Alarm as AlarmOf}
use Rattle.alarm_spec.specs.declared.TheConstants.{BITMAP_BYTES}
use Rattle.link_spec.specs.declared.Direction.{Direction}
use Rattle.link_spec.specs.declared.Direction.TheVariants.{Down, Up}
use Rattle.link_spec.specs.Link.{Sent, allowed}
use Rattle.lane_spec.specs.Command.{Command, sync_entity, is_probe, probe_command, check_command, ask}
use Rattle.lane_spec.specs.Lane.{Lane, Waiting, is_changed_by, lane_tick}
use Rattle.lane_spec.specs.declared.LaneTick.{LaneTick}
use Rattle.lane_spec.specs.declared.LaneTick.TheVariants.{Quiet, Repeat, GaveUp}
use Rattle.unit_spec.specs.declared.Did.{Did}
use Rattle.unit_spec.specs.declared.Did.TheVariants as did
use Rattle.unit_spec.specs.declared.Noticed.{Noticed}
use Rattle.unit_spec.specs.declared.Noticed.TheVariants as noticed
use Rattle.unit_spec.specs.Onu.{Onu, onu_received, packet_deed}
use Rattle.unit_spec.specs.Noticing.{Noticing, onu_sensed, onu_alarmed}
use Rattle.manager_spec.specs.declared.Refusal.{Refusal}
use Rattle.manager_spec.specs.declared.Report.{Report}
use Rattle.manager_spec.specs.declared.Report.TheVariants as report
use Rattle.omci_types.specs.declared.Boot.{Boot}
use Rattle.slot_spec.specs.declared.Pick.{Pick}
use Rattle.store_spec.specs.History.{StoreEntry}
use Rattle.store_spec.specs.Effects.{entries_before}
use Rattle.unit_spec.specs.declared.TheConstants.{ONU_G}
use Rattle.manager_spec.specs.Upgrade.{image_entity}
use Rattle.manager_spec.specs.Resync.{with_job}
use Rattle.manager_spec.specs.Manager.{Stage, EndingImage, DelayingEnd, Manager, Sending, Outcome, lane_in, with_lane, command_sent, manager_started}
use Rattle.manager_spec.specs.Jobs.{waits_for, resumed_by}
use Rattle.manager_spec.specs.Submitting.{Submission, unless_refused, probe_refusal, after_probe, submit_refusal, leaves_copy, leave_if, after_submit, check_refusal, after_check, resync_refusal, resync_begun, after_resync, audit_refusal, audit_asked, after_audit, image_refusal, after_image}
use Rattle.manager_spec.specs.Steps.{packet_dropped, after_packet, lane_ticked, tick_lane, tick_lanes, after_tick}
use Rattle.script_spec.specs.Script.{Header, Action, Probe, Reset, Get, Create, Set, Delete, Activate, Commit, Reboot, Resync, Audit, Check, Image, Deliver, Flow, CutIn, NoiseUnit, NoiseOlt, Tick, Sense, Alarm, CutUnit, CutOlt, StartUnit, StartOlt, IsAction}
use Rattle.world_spec.specs.Happenings.{Happening, PacketCame, ReplyTaken, NoticeTaken, ImageStored, PowerCut, Reported}
use Rattle.world_spec.specs.Ends.{Ends, Step, still, not_enabled, preceded, if_drawn, if_asked, goes_down, sends, copy_told, report_told, image_told, download_told, stage_in, stored, restarts, unit_cut_amid, cut_at, cut_in, notice_sent, unit_notices, manager_did, submission_by, submission, manager_got, manager_ticks, unit_deed, unit_got, arrives_at, arrives, noise, unit_ticks, second, cut_unit, cut_manager, start_unit, start_manager}
use Rattle.world_spec.specs.Nodes.{Nodes, first_nodes, cut_of, cut_delivery, delivery_of, delivery, nodes_after_step, flow_from, oldest_fresh, flow, acted, next_event, step}
use Rattle.world_spec.specs.History.{Told, first_told, tell, tell_all}
use Rattle.world_laws.specs.Seen.{IsNewest, is_taking, AreHandedOn, HandOn, ScriptHandsOn}
use Rattle.world_laws.proofs.Keeping.{IsQuiet, AreQuiet, both_quiet, KeepsLanes, leave_if_keeps, give_up_keeps, AreFirst, AreFor, taken_lanes, IsTaking, taking_is, takes_one, takes_no_notice, job_reports, IsBeside, dropped_beside, is_beside}
use Rattle.world_laws.proofs.Manager.{freed_lane, meant_by, untaken, IsTaken, hearing_is, noise_heard}
use Rattle.world_laws.proofs.Following.{rest_of, deeds_of, replies_and_rest, all_deeds}
use Rattle.world_laws.proofs.Lines.{IsFair}
use Rattle.world_laws.proofs.Runs.{AllFair, all_fair}

-- ---- lists of happenings

-- what holds where nothing was taken before holds in any case
any_before : (taken : Bool) (hs : List Happening) (t : Told) → AreHandedOn false hs t
    → AreHandedOn taken hs t
any_before false hs t h = h
any_before true [] t h = tt
any_before true (Reported (report.Took reply) ∷ rest) t h = absurd h.0
any_before true (_ ∷ rest) t h = (tt, h.1)

handed_then : (taken : Bool) (hs gs : List Happening) (t : Told) → AreHandedOn taken hs t
    → AreHandedOn false gs (tell_all hs t) → AreHandedOn taken (hs ++ gs) t
handed_then taken [] gs t h k = any_before taken gs t k
handed_then taken (x ∷ xs) gs t h k = (h.0, handed_then (is_taking x) xs gs (tell x t) h.1 k)

-- none of these hands a reply on
abbrev pub Silent : List Happening → Type 0
Silent hs = (taken : Bool) (t : Told) → AreHandedOn taken hs t

both_silent : (hs gs : List Happening) → Silent hs → Silent gs → Silent (hs ++ gs)
both_silent hs gs h k = λ taken t. handed_then taken hs gs t (h taken t) (k false (tell_all hs t))

silent_taken : (ls : List Priority) → Silent (map ReplyTaken ls)
silent_taken [] = λ taken t. tt
silent_taken (l ∷ ls) = λ taken t. (tt, silent_taken ls true (tell (ReplyTaken l) t))

silent_down : (l : Priority) (ps : List (List ℕ)) → Silent (map (goes_down l) ps)
silent_down l [] = λ taken t. tt
silent_down l (p ∷ ps) = λ taken t. (tt, silent_down l ps false (tell (goes_down l p) t))

silent_drawn : (b : Bool) (l : Priority) → Silent (if_drawn b l)
silent_drawn true l = λ taken t. (tt, tt)
silent_drawn false l = λ taken t. tt

silent_asked : (b : Bool) (l : Priority) → Silent (if_asked b l)
silent_asked true l = λ taken t. (tt, tt)
silent_asked false l = λ taken t. tt

silent_sending : (s : Sending) → Silent (sends s)
silent_sending s =
    both_silent (if_drawn s.drawn s.lane ++ if_asked s.asks s.lane)
    (map (goes_down s.lane) s.packets)
    (both_silent (if_drawn s.drawn s.lane) (if_asked s.asks s.lane) (silent_drawn s.drawn s.lane)
    (silent_asked s.asks s.lane)) (silent_down s.lane s.packets)

silent_sends : (ss : List Sending) → Silent (flat_map sends ss)
silent_sends [] = λ taken t. tt
silent_sends (s ∷ ss) = both_silent (sends s) (flat_map sends ss) (silent_sending s)
    (silent_sends ss)

silent_copy : (copy : Option Copy) → Silent (copy_told copy)
silent_copy None = λ taken t. tt
silent_copy (Some copy) = λ taken t. (tt, tt)

silent_reported : (r : Report) (m : Manager) → IsQuiet r → Silent (report_told m r)
silent_reported (report.Took reply) m q = absurd q
silent_reported (report.Synced entities counter) m q = λ taken t. (tt, silent_copy m.copy false t)
silent_reported (report.Audited rows) m q = λ taken t. (tt, (tt, tt))
silent_reported _ m q = λ taken t. (tt, tt)

silent_reports : (m : Manager) (rs : List Report) → AreQuiet rs
    → Silent (flat_map (report_told m) rs)
silent_reports m [] q = λ taken t. tt
silent_reports m (r ∷ rs) q = both_silent (report_told m r) (flat_map (report_told m) rs)
    (silent_reported r m q.0) (silent_reports m rs q.1)

silent_noticed : (ns : List AlarmOf) → Silent (map NoticeTaken ns)
silent_noticed [] = λ taken t. tt
silent_noticed (n ∷ ns) = λ taken t. (tt, silent_noticed ns false (tell (NoticeTaken n) t))

silent_rest : (o : Outcome) → AreQuiet o.manager.reports → Silent (rest_of o)
silent_rest o q =
    both_silent (map NoticeTaken o.noticed)
    (flat_map (report_told o.manager) o.manager.reports ++ flat_map sends o.sendings)
    (silent_noticed o.noticed)
    (both_silent (flat_map (report_told o.manager) o.manager.reports) (flat_map sends o.sendings)
    (silent_reports o.manager o.manager.reports q) (silent_sends o.sendings))

silent_outcome : (o : Outcome) → AreQuiet o.manager.reports → Silent (deeds_of o)
silent_outcome o q = subst Silent (sym (replies_and_rest o))
    (both_silent (map ReplyTaken o.taken) (rest_of o) (silent_taken o.taken) (silent_rest o q))

silent_image : (before : Option Stage) (slot : ℕ) → Silent (image_told before slot)
silent_image None slot = λ taken t. tt
silent_image (Some (EndingImage order image busy)) slot = λ taken t. (tt, tt)
silent_image (Some _) slot = λ taken t. tt

silent_download : (before : Option Stage) (r : Report) → Silent (download_told before r)
silent_download before (report.ImageDone slot) = silent_image before slot
silent_download before _ = λ taken t. tt

silent_downloads : (before : Option Stage) (rs : List Report)
    → Silent (flat_map (download_told before) rs)
silent_downloads before [] = λ taken t. tt
silent_downloads before (r ∷ rs) =
    both_silent (download_told before r) (flat_map (download_told before) rs)
    (silent_download before r) (silent_downloads before rs)

silent_deeds : (before : Option Stage) (o : Outcome) → AreQuiet o.manager.reports
    → Silent (all_deeds before o)
silent_deeds before o q =
    both_silent (deeds_of o) (flat_map (download_told before) o.manager.reports)
    (silent_outcome o q) (silent_downloads before o.manager.reports)

silent_entries : (entries : List StoreEntry) → Silent (map ImageStored entries)
silent_entries [] = λ taken t. tt
silent_entries (e ∷ rest) = λ taken t. (tt, silent_entries rest false (tell (ImageStored e) t))

-- ---- a reply that is taken

-- the first report hands the reply on that was taken last
first_reported : (f : Frame) (m : Manager) (rs : List Report) (t : Told) → AreFirst f rs
    → IsNewest f t.history → AreHandedOn true (flat_map (report_told m) rs) t
first_reported f m [] t h k = tt
first_reported f m (report.Took reply ∷ rest) t h k =
    (subst (λ x. IsNewest x t.history) (sym h.0) k, silent_reports m rest h.1 false t)
first_reported f m (r ∷ rest) t h k = silent_reports m (r ∷ rest) (tt, h) true t

reply_handed : (probe : Bool) (f : Frame) (l : Priority) (i : ℕ) (s : Sent) (o : Outcome)
    (t : Told) → o.taken ≡ taken_lanes probe l → o.noticed ≡ [] → AreFor probe f o.manager.reports
    → packet_frame s.bytes ≡ Some f → AreHandedOn false (PacketCame i s ∷ deeds_of o) t
reply_handed true f l i s o t e none q read =
    (tt, silent_outcome o q false (tell (PacketCame i s) t))
reply_handed false f l i s o t e none q read =
    subst (λ hs. AreHandedOn false (PacketCame i s ∷ hs) t) (sym (replies_and_rest o))
    (subst (λ ls. AreHandedOn false (PacketCame i s ∷ (map ReplyTaken ls ++ rest_of o)) t) (sym e)
    (subst
    (λ ns. AreHandedOn false
    (PacketCame i s
    ∷ ReplyTaken l
    ∷ (map NoticeTaken ns
    ++ (flat_map (report_told o.manager) o.manager.reports ++ flat_map sends o.sendings))) t)
    (sym none) (
      tt,
      (
        tt,
        handed_then true (flat_map (report_told o.manager) o.manager.reports)
            (flat_map sends o.sendings) (tell (ReplyTaken l) (tell (PacketCame i s) t))
            (first_reported f o.manager o.manager.reports
            (tell (ReplyTaken l) (tell (PacketCame i s) t)) q read)
            (silent_sends o.sendings false _),
      ),
    )))

-- ---- steps

-- no report waits in a manager that is on
abbrev pub IsCleared : Option Manager → Type 0
IsCleared o = (m : Manager) → o ≡ Some m → m.reports ≡ []

-- a step hands on what it should, and leaves no report behind
pub record HandsOn (s : Step) (t : Told) : Type 0 where
  pub handed : AreHandedOn false s.happenings t
  pub cleared : IsCleared s.ends.manager

cleared_as : (n : Manager) → n.reports ≡ [] → IsCleared (Some n)
cleared_as n e = λ m f. ap (λ x. x.reports) (sym (same_Some n m f)) ∙ e

still_hands : (e : Ends) (t : Told) → IsCleared e.manager → HandsOn (still e) t
still_hands e t c = record { handed = tt; cleared = c }

not_enabled_hands : (e : Ends) (t : Told) → IsCleared e.manager → HandsOn (not_enabled e) t
not_enabled_hands e t c = record { handed = (tt, tt); cleared = c }

manager_hands : (o : Outcome) (e : Ends) (t : Told) → AreQuiet o.manager.reports
    → HandsOn (manager_did o e) t
manager_hands o e t q = record {
  handed = silent_deeds (stage_in e.manager) o q false t;
  cleared = cleared_as (record o.manager { reports = [] }) refl;
}

none_quiet : (m : Manager) → m.reports ≡ [] → AreQuiet m.reports
none_quiet m e = subst AreQuiet (sym e) tt

lane_reports : (l : Priority) (x : Lane) (m : Manager) → (with_lane l x m).reports ≡ m.reports
lane_reports Low x m = refl
lane_reports High x m = refl

kept_quiet : (m n : Manager) → KeepsLanes m n → AreQuiet m.reports → AreQuiet n.reports
kept_quiet m n k q = subst AreQuiet (sym k.reports) (both_quiet m.reports k.added q k.quiet)

-- ---- submissions

submission_hands_by : (r : Option Refusal) (o : Outcome) (e : Ends) (t : Told)
    → IsCleared e.manager → AreQuiet o.manager.reports → HandsOn (submission_by r o e) t
submission_hands_by None o e t c q = manager_hands o e t q
submission_hands_by (Some r) o e t c q = record { handed = (tt, tt); cleared = c }

-- a call that hands nothing on
abbrev pub IsSilent : (Manager → Submission) → Type 0
IsSilent call = (m : Manager) → AreQuiet m.reports → AreQuiet (call m).outcome.manager.reports

submission_hands : (call : Manager → Submission) (o : Option Manager) (e : Ends) (t : Told)
    → e.manager ≡ o → IsCleared e.manager → IsSilent call → HandsOn (submission call o e) t
submission_hands call None e t f c q = not_enabled_hands e t c
submission_hands call (Some m) e t f c q =
    submission_hands_by (call m).refusal (call m).outcome e t c (q m (none_quiet m (c m f)))

unless_silent : (r : Option Refusal) (o : Outcome) (m : Manager) → AreQuiet m.reports
    → AreQuiet o.manager.reports → AreQuiet (unless_refused r o m).outcome.manager.reports
unless_silent None o m q k = k
unless_silent (Some r) o m q k = q

sent_quiet : (asks : Bool) (l : Priority) (c : Command) (m : Manager) → AreQuiet m.reports
    → AreQuiet (command_sent asks l c m).manager.reports
sent_quiet asks l c m q = subst AreQuiet (sym (lane_reports l _ m)) q

probe_silent : (l : Priority) → IsSilent (after_probe l)
unfolding after_probe
probe_silent l = λ m q.
    unless_silent (probe_refusal l m) (command_sent false l probe_command m) m q
    (sent_quiet false l probe_command m q)

submit_silent : (l : Priority) (entity : EntityId) (r : Request)
    → IsSilent (after_submit l entity r)
unfolding after_submit
submit_silent l entity r = λ m q.
    unless_silent (submit_refusal l r m)
    (command_sent false l (ask entity r) (leave_if (leaves_copy r) m)) m q
    (sent_quiet false l (ask entity r) (leave_if (leaves_copy r) m)
    (kept_quiet m (leave_if (leaves_copy r) m) (leave_if_keeps (leaves_copy r) m) q))

check_silent : IsSilent after_check
unfolding after_check
check_silent = λ m q.
    unless_silent (check_refusal m) (command_sent false Low check_command m) m q q

resync_silent : IsSilent after_resync
unfolding after_resync
resync_silent = λ m q. unless_silent (resync_refusal m) (resync_begun m) m q q

audit_silent : IsSilent after_audit
unfolding after_audit
audit_silent = λ m q. unless_silent (audit_refusal m) (audit_asked m) m q q

image_silent : (slot asked : ℕ) (check : Option ℕ) (image : List ℕ)
    → IsSilent (after_image slot asked check image)
unfolding after_image
image_silent slot asked check image = λ m q. unless_silent (image_refusal m) _ m q q

-- ---- packets and noise

silent_deed : (d : Did) (reply : List ℕ) (before : Onu) (life : ℕ)
    → Silent (unit_deed d reply before life)
silent_deed did.Dropped reply before life = λ taken t. (tt, tt)
silent_deed did.Held reply before life = λ taken t. (tt, tt)
silent_deed did.Kept reply before life = λ taken t. (tt, (tt, tt))
silent_deed (did.Carried None) reply before life = λ taken t. (tt, (tt, tt))
silent_deed (did.Carried (Some note)) reply before life = λ taken t. (tt, (tt, (tt, tt)))

unit_hands : (first : List Happening) (bytes : List ℕ) (o : Option Onu) (e : Ends) (t : Told)
    → Silent first → IsCleared e.manager → HandsOn (unit_got first bytes o e) t
unit_hands first bytes None e t s c = not_enabled_hands e t c
unit_hands first bytes (Some u) e t s c =
    let r = onu_received false bytes u in
    record {
      handed = both_silent first (unit_deed r.did r.reply u e.lives ++ stored r.stored) s
          (both_silent (unit_deed r.did r.reply u e.lives) (stored r.stored)
          (silent_deed r.did r.reply u e.lives) (silent_entries (reverse r.stored))) false t;
      cleared = c;
    }

beside_quiet : (m : Manager) (o : Outcome) → m.reports ≡ [] → IsBeside m o
    → AreQuiet o.manager.reports
beside_quiet m o e k = kept_quiet m o.manager k.keeps (none_quiet m e)

outcome_hands : (i : ℕ) (s : Sent) (o : Outcome) (m : Manager) (e : Ends) (t : Told)
    → m.reports ≡ [] → (o ≡ untaken (packet_frame s.bytes) m) ⊎ IsTaken s.bytes m o
    → HandsOn (preceded (PacketCame i s ∷ []) (manager_did o e)) t
outcome_hands i s o m e t none (inl drops) = record {
  handed = (
    tt,
    silent_deeds (stage_in e.manager) o
        (beside_quiet m o none (is_beside (packet_frame s.bytes) m o drops)) false
        (tell (PacketCame i s) t),
  );
  cleared = cleared_as (record o.manager { reports = [] }) refl;
}
outcome_hands i s o m e t none (inr k) = record {
  handed = handed_then false (PacketCame i s ∷ deeds_of o)
      (flat_map (download_told (stage_in e.manager)) o.manager.reports) t
      (reply_handed probe k.frame l i s o t
      (ap (λ x. x.taken) k.is ∙ takes_one probe l meant taking.taken)
      (ap (λ x. x.noticed) k.is ∙ takes_no_notice meant taking.noticed)
      (subst (AreFor probe k.frame)
      (sym (ap (λ x. x.manager.reports) k.is ∙ job_reports meant.manager))
      (taking.told (lane_reports l _ m ∙ none))) k.read)
      (silent_downloads (stage_in e.manager) o.manager.reports false _);
  cleared = cleared_as (record o.manager { reports = [] }) refl;
}
  where
    l : Priority
    l = priority_of k.frame.tci

    probe : Bool
    probe = is_probe k.waiting.command.purpose

    meant : Outcome
    meant = meant_by l k.frame k.waiting m

    taking : IsTaking probe k.frame l (freed_lane l k.waiting m) meant
    taking = taking_is k.waiting.command.purpose l k.waiting.command k.frame
        (freed_lane l k.waiting m)

manager_got_hands : (i : ℕ) (s : Sent) (o : Option Manager) (e : Ends) (t : Told)
    → e.manager ≡ o → IsCleared e.manager
    → HandsOn (manager_got (PacketCame i s ∷ []) s.bytes o e) t
manager_got_hands i s None e t f c = not_enabled_hands e t c
manager_got_hands i s (Some m) e t f c =
    outcome_hands i s (after_packet s.bytes m) m e t (c m f) (hearing_is s.bytes m)

arrival_hands : (d : Direction) (i : ℕ) (s : Sent) (e : Ends) (t : Told) → IsCleared e.manager
    → HandsOn (arrives_at d (PacketCame i s ∷ []) s.bytes e) t
arrival_hands Down i s e t c = unit_hands (PacketCame i s ∷ []) s.bytes e.unit e t
    (λ taken u. (tt, tt)) c
arrival_hands Up i s e t c = manager_got_hands i s e.manager e t refl c

delivery_hands_by : (o : Option Sent) (i : ℕ) (e : Ends) (t : Told) → IsCleared e.manager
    → HandsOn (delivery_of o i e) t
unfolding arrives
delivery_hands_by None i e t c = not_enabled_hands e t c
delivery_hands_by (Some s) i e t c = arrival_hands s.direction i s e t c

delivery_hands : (i : ℕ) (n : Nodes) (t : Told) → IsCleared n.ends.manager
    → HandsOn (delivery i n) t
unfolding delivery
delivery_hands i n t c = delivery_hands_by (allowed i n.link) i n.ends t c

flow_hands_by : (o : Option ℕ) (times : ℕ) (n : Nodes) (t : Told) → IsCleared n.ends.manager
    → ((m : Nodes) (u : Told) → IsCleared m.ends.manager → HandsOn (flow times m) u)
    → HandsOn (flow_from o (flow times) n) t
flow_hands_by None times n t c rest = still_hands n.ends t c
flow_hands_by (Some i) times n t c rest =
    let one = delivery_hands i n t c in
    let s = delivery i n in
    let more = rest (nodes_after_step s n) (tell_all s.happenings t) one.cleared in
    record {
      handed = handed_then false s.happenings (flow times (nodes_after_step s n)).happenings t
          one.handed more.handed;
      cleared = more.cleared;
    }

flow_hands : (times : ℕ) (n : Nodes) (t : Told) → IsCleared n.ends.manager
    → HandsOn (flow times n) t
unfolding flow
flow_hands zero n t c = still_hands n.ends t c
flow_hands (suc times) n t c = flow_hands_by (oldest_fresh n) times n t c (flow_hands times)

noise_hands : (bytes : List ℕ) (o : Option Manager) (e : Ends) (t : Told) → e.manager ≡ o
    → IsCleared e.manager → fault_of bytes ≢ None → HandsOn (manager_got [] bytes o e) t
noise_hands bytes None e t f c n = not_enabled_hands e t c
noise_hands bytes (Some m) e t f c n =
    subst (λ o. HandsOn (preceded [] (manager_did o e)) t) (sym (noise_heard bytes m n))
    (record {
      handed = silent_deeds (stage_in e.manager) (packet_dropped m)
          (beside_quiet m (packet_dropped m) (c m f) (dropped_beside m)) false t;
      cleared = cleared_as (record m { reports = [] }) refl;
    })

-- ---- seconds

ticked_quiet : (tick : LaneTick) (l : Priority) (o : Option Waiting) (x : Lane) (m : Manager)
    → AreQuiet m.reports → AreQuiet (lane_ticked tick l o x m).manager.reports
ticked_quiet Quiet l o x m q = subst AreQuiet (sym (lane_reports l x m)) q
ticked_quiet Repeat l o x m q = subst AreQuiet (sym (lane_reports l x m)) q
ticked_quiet (GaveUp tci) l o x m q =
    kept_quiet (with_lane l x m) _
    (give_up_keeps (waits_for l m.job) (is_changed_by o) tci (with_lane l x m))
    (subst AreQuiet (sym (lane_reports l x m)) q)

tick_quiet : (l : Priority) (m : Manager) → AreQuiet m.reports
    → AreQuiet (tick_lane l m).manager.reports
tick_quiet l m q = ticked_quiet (lane_tick (lane_in l m)).tick l (lane_in l m).outstanding
    (lane_tick (lane_in l m)).lane m q

resumed_quiet : (job : Option Stage) (m : Manager) → AreQuiet m.reports
    → AreQuiet (resumed_by job m).manager.reports
resumed_quiet None m q = q
resumed_quiet (Some (DelayingEnd order image busy)) m q =
    subst AreQuiet (sym (job_reports (with_job (Some (EndingImage order image busy)) m))) q
resumed_quiet (Some _) m q = q

both_ticks_quiet : (m : Manager) → AreQuiet m.reports → AreQuiet (after_tick m).manager.reports
unfolding after_tick
both_ticks_quiet m q =
    let lanes = tick_lanes m in
    resumed_quiet lanes.manager.job lanes.manager
    (tick_quiet Low (tick_lane High m).manager (tick_quiet High m q))

manager_second_hands : (o : Option Manager) (e : Ends) (t : Told) → e.manager ≡ o
    → IsCleared e.manager → HandsOn (manager_ticks o e) t
manager_second_hands None e t f c = still_hands e t c
manager_second_hands (Some m) e t f c =
    manager_hands (after_tick m) e t (both_ticks_quiet m (none_quiet m (c m f)))

restart_hands : (leaving : Option Boot) (u : Onu) (e : Ends) (t : Told) → IsCleared e.manager
    → HandsOn (restarts leaving u e) t
restart_hands None u e t c = record { handed = tt; cleared = c }
restart_hands (Some boot) u e t c = record { handed = (tt, tt); cleared = c }

unit_second_hands : (o : Option Onu) (e : Ends) (t : Told) → IsCleared e.manager
    → HandsOn (unit_ticks o e) t
unit_second_hands None e t c = record { handed = tt; cleared = c }
unit_second_hands (Some u) e t c = restart_hands u.leaving u e t c

second_hands : (e : Ends) (t : Told) → IsCleared e.manager → HandsOn (second e) t
unfolding second
second_hands e t c =
    let s = manager_ticks e.manager e in
    let one = manager_second_hands e.manager e t refl c in
    let r = unit_ticks s.ends.unit s.ends in
    let two = unit_second_hands s.ends.unit s.ends (tell_all s.happenings t) one.cleared in
    record {
      handed = handed_then false s.happenings r.happenings t one.handed two.handed;
      cleared = two.cleared;
    }

-- ---- the unit notices something

silent_notice : (o : Noticed) (packet : List ℕ) → Silent (notice_sent o packet)
silent_notice noticed.NotAllowed packet = λ taken t. (tt, tt)
silent_notice noticed.Same packet = λ taken t. tt
silent_notice noticed.Sent packet = λ taken t. (tt, tt)

notices_hand : (call : Onu → Noticing) (o : Option Onu) (e : Ends) (t : Told)
    → IsCleared e.manager → HandsOn (unit_notices call o e) t
notices_hand call None e t c = not_enabled_hands e t c
notices_hand call (Some u) e t c =
    record { handed = silent_notice (call u).noticed (call u).packet false t; cleared = c }

-- ---- power

cut_unit_hands : (o : Option Onu) (e : Ends) (t : Told) → IsCleared e.manager
    → HandsOn (cut_unit o e) t
cut_unit_hands None e t c = not_enabled_hands e t c
cut_unit_hands (Some u) e t c = record { handed = tt; cleared = c }

cut_manager_hands : (o : Option Manager) (e : Ends) (t : Told) → IsCleared e.manager
    → HandsOn (cut_manager o e) t
cut_manager_hands None e t c = not_enabled_hands e t c
cut_manager_hands (Some m) e t c = record { handed = tt; cleared = λ x f. absurd (cc) }

start_unit_hands : (o : Option Onu) (e : Ends) (t : Told) → IsCleared e.manager
    → HandsOn (start_unit o e) t
start_unit_hands (Some u) e t c = not_enabled_hands e t c
start_unit_hands None e t c = record { handed = (tt, tt); cleared = c }

start_manager_hands : (low high : ℕ) (o : Option Manager) (e : Ends) (t : Told)
    → IsCleared e.manager → HandsOn (start_manager low high o e) t
start_manager_hands low high (Some m) e t c = not_enabled_hands e t c
start_manager_hands low high None e t c =
    record { handed = (tt, tt); cleared = cleared_as (manager_started low high) refl }

cut_amid_hands : (call : ℕ) (pick : Pick) (number : ℕ) (s : Sent) (o : Option Onu) (e : Ends)
    (t : Told) → IsCleared e.manager
    → HandsOn (unit_cut_amid call pick (PacketCame number s ∷ []) s.bytes o e) t
cut_amid_hands call pick number s None e t c = not_enabled_hands e t c
cut_amid_hands call pick number s (Some u) e t c =
    let entries = reverse (entries_before (packet_deed s.bytes u)) in
    record {
      handed = (
        tt,
        both_silent (map ImageStored entries) (PowerCut ∷ []) (silent_entries entries)
            (λ taken v. (tt, tt)) false (tell (PacketCame number s) t),
      );
      cleared = c;
    }

cut_at_hands : (call : ℕ) (pick : Pick) (d : Direction) (number : ℕ) (s : Sent) (e : Ends)
    (t : Told) → IsCleared e.manager
    → HandsOn (cut_at call pick d (PacketCame number s ∷ []) s.bytes e) t
cut_at_hands call pick Down number s e t c = cut_amid_hands call pick number s e.unit e t c
cut_at_hands call pick Up number s e t c = not_enabled_hands e t c

cut_of_hands : (call : ℕ) (pick : Pick) (o : Option Sent) (number : ℕ) (e : Ends) (t : Told)
    → IsCleared e.manager → HandsOn (cut_of call pick o number e) t
unfolding cut_in
cut_of_hands call pick None number e t c = not_enabled_hands e t c
cut_of_hands call pick (Some s) number e t c =
    cut_at_hands call pick s.direction number s e t c

-- ---- lines

acted_hands : (a : Action) (n : Nodes) (t : Told) → IsFair a → IsCleared n.ends.manager
    → HandsOn (acted a n) t
unfolding acted noise cut_delivery
acted_hands (Probe lane) n t f c =
    submission_hands (after_probe lane) n.ends.manager n.ends t refl c (probe_silent lane)
acted_hands (Reset lane) n t f c =
    submission_hands (after_submit lane sync_entity request.Reset) n.ends.manager n.ends t refl c
    (submit_silent lane sync_entity request.Reset)
acted_hands (Get lane entity mask) n t f c =
    submission_hands (after_submit lane entity (request.Get mask)) n.ends.manager n.ends t refl c
    (submit_silent lane entity (request.Get mask))
acted_hands (Create lane entity values) n t f c =
    submission_hands (after_submit lane entity (request.Create (filled 32 values)))
    n.ends.manager n.ends t refl c
    (submit_silent lane entity (request.Create (filled 32 values)))
acted_hands (Set lane entity mask values) n t f c =
    submission_hands (after_submit lane entity (request.Set mask (filled 30 values)))
    n.ends.manager n.ends t refl c
    (submit_silent lane entity (request.Set mask (filled 30 values)))
acted_hands (Delete lane entity) n t f c =
    submission_hands (after_submit lane entity request.Delete) n.ends.manager n.ends t refl c
    (submit_silent lane entity request.Delete)
acted_hands (Activate lane slot) n t f c =
    submission_hands (after_submit lane (image_entity slot) (request.Activate 0)) n.ends.manager
    n.ends t refl c (submit_silent lane (image_entity slot) (request.Activate 0))
acted_hands (Commit lane slot) n t f c =
    submission_hands (after_submit lane (image_entity slot) request.Commit) n.ends.manager n.ends t
    refl c (submit_silent lane (image_entity slot) request.Commit)
acted_hands (Reboot lane) n t f c =
    submission_hands (after_submit lane ONU_G (request.Reboot 0)) n.ends.manager n.ends t refl c
    (submit_silent lane ONU_G (request.Reboot 0))
acted_hands (Image slot asked check image) n t f c =
    submission_hands (after_image slot asked check image) n.ends.manager n.ends t refl c
    (image_silent slot asked check image)
acted_hands (CutIn number call pick) n t f c =
    cut_of_hands call pick (allowed number n.link) number n.ends t c
acted_hands Resync n t f c =
    submission_hands after_resync n.ends.manager n.ends t refl c resync_silent
acted_hands Audit n t f c =
    submission_hands after_audit n.ends.manager n.ends t refl c audit_silent
acted_hands Check n t f c =
    submission_hands after_check n.ends.manager n.ends t refl c check_silent
acted_hands (Deliver number) n t f c = delivery_hands number n t c
acted_hands (Flow times) n t f c = flow_hands times n t c
acted_hands (NoiseUnit bytes) n t f c = unit_hands [] bytes n.ends.unit n.ends t
    (λ taken u. tt) c
acted_hands (NoiseOlt bytes) n t f c = noise_hands bytes n.ends.manager n.ends t refl c f
acted_hands Tick n t f c = second_hands n.ends t c
acted_hands (Sense entity number value) n t f c = notices_hand
    (onu_sensed entity number value) n.ends.unit n.ends t c
acted_hands (Alarm entity bitmap) n t f c = notices_hand
    (onu_alarmed entity (filled BITMAP_BYTES bitmap)) n.ends.unit n.ends t c
acted_hands CutUnit n t f c = cut_unit_hands n.ends.unit n.ends t c
acted_hands CutOlt n t f c = cut_manager_hands n.ends.manager n.ends t c
acted_hands StartUnit n t f c = start_unit_hands n.ends.unit n.ends t c
acted_hands (StartOlt low high) n t f c =
    start_manager_hands low high n.ends.manager n.ends t c

lines_hand_on : (actions : List Action) (n : Nodes) (t : Told) → AllFair actions
    → IsCleared n.ends.manager → HandOn actions n t
unfolding HandOn step
lines_hand_on [] n t f c = tt
lines_hand_on (a ∷ rest) n t f c =
    let one = acted_hands a (next_event n) t f.0 c in (
      one.handed,
      lines_hand_on rest (step a n).nodes (tell_all (step a n).happenings t) f.1 one.cleared,
    )

pub script_hands_on : (h : Header) (actions : List Action) → All IsAction actions
    → ScriptHandsOn h actions
script_hands_on h actions allowed =
    lines_hand_on actions (first_nodes h) first_told (all_fair actions allowed)
    (cleared_as (manager_started h.low h.high) refl)
