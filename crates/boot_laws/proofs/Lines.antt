-- Each line of a script keeps the unit's slots such that the history so far explains them.
use Rattle.std.proofs.Common.{◌≡◌, ℕ, zero, suc, Bool, true, false, List, [], ◌∷◌, ◌++◌}
use Rattle.std.proofs.Common.{Option, Some, None, reverse, refl, sym, ap, subst, ◌∙◌, arith}
use Rattle.std.specs.Prelude.{map}
use Rattle.omci_types.specs.declared.EntityId.{EntityId}
use Rattle.omci_types.specs.declared.Boot.{Boot}
use Rattle.omci_types.specs.declared.Boot.TheVariants.{PowerUp}
use Rattle.message_spec.specs.declared.Request.TheVariants as request
use Rattle.message_spec.specs.declared.Notice.{Notice}
use Rattle.frame_spec.specs.Widths.{filled}
use Rattle.mib_spec.specs.Database.{Database}
use Rattle.script_spec.specs.Script.{Header, Action, Probe, Reset, Get, Create, Set, Delete}
use Rattle.script_spec.specs.Script.{Activate, Commit, Reboot, Resync, Audit, Check, Image, Deliver}
use Rattle.script_spec.specs.Script.{Flow, CutIn, NoiseUnit, NoiseOlt, Tick, Sense, Alarm, CutUnit}
use Rattle.script_spec.specs.Script.{CutOlt, StartUnit, StartOlt}
use Rattle.link_spec.specs.declared.Direction.{Direction}
use Rattle.link_spec.specs.declared.Direction.TheVariants.{Down, Up}
use Rattle.link_spec.specs.Link.{Sent, allowed}
use Rattle.lane_spec.specs.Command.{sync_entity}
use Rattle.alarm_spec.specs.Log.{change}
use Rattle.alarm_spec.specs.declared.TheConstants.{BITMAP_BYTES}
use Rattle.slot_spec.specs.declared.Pick.{Pick}
use Rattle.slot_spec.specs.Slots.{SlotPair}
use Rattle.store_spec.specs.History.{StoreEntry, Bootable, ledger}
use Rattle.store_spec.specs.Effects.{entries_before}
use Rattle.store_laws.proofs.Papers.{bootable, explained_first}
use Rattle.history_spec.specs.History.{store_history}
use Rattle.unit_spec.specs.declared.TheConstants.{ONU_G}
use Rattle.mib_spec.specs.declared.Sensed.{Sensed}
use Rattle.mib_spec.specs.declared.Sensed.TheVariants as sensed
use Rattle.unit_spec.specs.Onu.{Onu, Reception, onu_started, onu_received, onu_ticked, packet_deed}
use Rattle.unit_spec.specs.Noticing.{Noticing, sensed_as, notice_unless_leaving, measured}
use Rattle.unit_spec.specs.Noticing.{onu_sensed, may_alarm, told_by, alarm_if, onu_alarmed}
use Rattle.manager_spec.specs.Manager.{Manager, Outcome}
use Rattle.manager_spec.specs.declared.Refusal.{Refusal}
use Rattle.manager_spec.specs.Upgrade.{image_entity}
use Rattle.manager_spec.specs.Submitting.{Submission, after_probe, after_submit, after_check}
use Rattle.manager_spec.specs.Submitting.{after_resync, after_audit, after_image}
use Rattle.manager_spec.specs.Steps.{after_packet, after_tick}
use Rattle.world_spec.specs.Happenings.{Happening, PacketCame, PowerCut, ImageStored}
use Rattle.world_spec.specs.Ends.{Ends, Step, factory_slots, preceded}
use Rattle.world_spec.specs.Ends.{manager_did, submission_by, submission, manager_got}
use Rattle.world_spec.specs.Ends.{manager_ticks, unit_deed, unit_did, unit_got, notice_sent}
use Rattle.world_spec.specs.Ends.{unit_notices, arrives_at, arrives, noise, unit_starts, restarts}
use Rattle.world_spec.specs.Ends.{unit_ticks, second, cut_unit, cut_manager, start_unit}
use Rattle.world_spec.specs.Ends.{cut_amid, unit_cut_amid, cut_at, cut_in, start_manager}
use Rattle.world_spec.specs.Nodes.{Nodes, first_nodes, delivery_of, delivery, cut_of, cut_delivery}
use Rattle.world_spec.specs.Nodes.{nodes_after_step, flow_from, oldest_fresh, flow, acted}
use Rattle.world_spec.specs.Nodes.{next_event, step, nodes_after}
use Rattle.world_spec.specs.History.{Told, first_told, tell_all, told_after, history_of}
use Rattle.boot_laws.specs.Slots.{slots_of, slots_in}
use Rattle.boot_laws.proofs.Keeping.{StoreGood, UnitGood, started_good, left_good}
use Rattle.boot_laws.proofs.Keeping.{received_good, packet_meets, cut_good}
use Rattle.boot_laws.proofs.Telling.{stores_of, AreQuiet, tell_append, quiet_tells, stored_tells}
use Rattle.boot_laws.proofs.Telling.{manager_quiet, deed_quiet, notice_quiet}

-- ---- a value and alarms change nothing in the store

unless_store : (leaving : Option Boot) (n : Noticing) (u : Onu) → n.unit.store ≡ u.store
    → (notice_unless_leaving leaving n u).unit.store ≡ u.store
unless_store None n u e = e
unless_store (Some boot) n u e = refl

sensed_by : (o : Sensed) (one : EntityId) (number : ℕ) (value : List ℕ) (db : Database) (u : Onu)
    → (sensed_as o one number value db u).unit.store ≡ u.store
sensed_by sensed.NotAllowed one number value db u = refl
sensed_by sensed.Same one number value db u = refl
sensed_by sensed.Changed one number value db u = refl

sensed_store : (one : EntityId) (number : ℕ) (value : List ℕ) (u : Onu)
    → (onu_sensed one number value u).unit.store ≡ u.store
unfolding onu_sensed
sensed_store one number value u = unless_store u.leaving (measured one number value u) u
    (sensed_by _ one number value _ u)

told_store : (o : Option Notice) (one : EntityId) (u : Onu) → (told_by o one u).unit.store ≡ u.store
told_store None one u = refl
told_store (Some notice) one u = refl

alarmed_by : (b : Bool) (one : EntityId) (bitmap : List ℕ) (u : Onu)
    → (alarm_if b one bitmap u).unit.store ≡ u.store
alarmed_by false one bitmap u = refl
alarmed_by true one bitmap u =
    let c = change one bitmap u.log in told_store c.notice one (record u { log = c.log })

alarmed_store : (one : EntityId) (bitmap : List ℕ) (u : Onu)
    → (onu_alarmed one bitmap u).unit.store ≡ u.store
unfolding onu_alarmed
alarmed_store one bitmap u = unless_store u.leaving (alarm_if (may_alarm one u.database) one bitmap u)
    u (alarmed_by (may_alarm one u.database) one bitmap u)

ticked_store : (u : Onu) → (onu_ticked u).store ≡ u.store
unfolding onu_ticked
ticked_store u = refl

module _ (s0 : SlotPair) where
  abbrev pub Good : Ends → Told → Type 0
  Good e t = UnitGood s0 (stores_of t) e.unit e.slots

  abbrev pub StepGood : Step → Told → Type 0
  StepGood s t = Good s.ends (tell_all s.happenings t)

  -- ---- steps in general

  quiet_good : (e : Ends) (hs : List Happening) (t : Told) → Good e t → AreQuiet hs
      → Good e (tell_all hs t)
  quiet_good e hs t g q =
      subst (λ (h : List StoreEntry). UnitGood s0 h e.unit e.slots) (sym (quiet_tells hs t q)) g

  both_good : (e : Ends) (hs gs : List Happening) (t : Told) → Good e (tell_all gs (tell_all hs t))
      → Good e (tell_all (hs ++ gs) t)
  both_good e hs gs t g = subst (λ (v : Told). Good e v) (sym (tell_append hs gs t)) g

  preceded_good : (first : List Happening) (s : Step) (t : Told) → StepGood s (tell_all first t)
      → StepGood (preceded first s) t
  preceded_good first s t g = both_good s.ends first s.happenings t g

  on_unit : (e : Ends) (t : Told) (u : Onu) → e.unit ≡ Some u → Good e t
      → StoreGood s0 (stores_of t) u.store
  on_unit e t u is g =
      subst (λ (x : Option Onu). UnitGood s0 (stores_of t) x e.slots) is g

  off_unit : (e : Ends) (t : Told) → e.unit ≡ None → Good e t
      → UnitGood s0 (stores_of t) None e.slots
  off_unit e t is g = subst (λ (x : Option Onu). UnitGood s0 (stores_of t) x e.slots) is g

  -- ---- the manager

  did_good : (o : Outcome) (e : Ends) (t : Told) → Good e t → StepGood (manager_did o e) t
  did_good o e t g = quiet_good e (manager_did o e).happenings t g (manager_quiet o e)

  submitted_good : (refusal : Option Refusal) (o : Outcome) (e : Ends) (t : Told) → Good e t
      → StepGood (submission_by refusal o e) t
  submitted_good None o e t g = did_good o e t g
  submitted_good (Some refusal) o e t g = g

  submission_good : (call : Manager → Submission) (m : Option Manager) (e : Ends) (t : Told)
      → Good e t → StepGood (submission call m e) t
  submission_good call None e t g = g
  submission_good call (Some m) e t g =
      submitted_good (call m).refusal (call m).outcome e t g

  manager_got_good : (first : List Happening) (bytes : List ℕ) (m : Option Manager) (e : Ends)
      (t : Told) → Good e t → AreQuiet first → StepGood (manager_got first bytes m e) t
  manager_got_good first bytes None e t g q = g
  manager_got_good first bytes (Some m) e t g q =
      preceded_good first (manager_did (after_packet bytes m) e) t
      (did_good (after_packet bytes m) e (tell_all first t) (quiet_good e first t g q))

  manager_ticks_good : (m : Option Manager) (e : Ends) (t : Told) → Good e t
      → StepGood (manager_ticks m e) t
  manager_ticks_good None e t g = g
  manager_ticks_good (Some m) e t g = did_good (after_tick m) e t g

  -- ---- the unit

  unit_did_good : (r : Reception) (before : Onu) (e : Ends) (t : Told)
      → StoreGood s0 (r.stored ++ stores_of t) r.unit.store → StepGood (unit_did r before e) t
  unit_did_good r before e t g =
      let deeds = unit_deed r.did r.reply before e.lives in
      let told = tell_all deeds t in
      both_good (unit_did r before e).ends deeds (map ImageStored (reverse r.stored)) t
      (subst (λ (h : List StoreEntry). StoreGood s0 h r.unit.store)
      (sym (stored_tells r.stored told
      ∙ ap (λ (h : List StoreEntry). r.stored ++ h)
      (quiet_tells deeds t (deed_quiet r.did r.reply before e.lives)))) g)

  unit_got_good : (first : List Happening) (bytes : List ℕ) (o : Option Onu) (e : Ends) (t : Told)
      → e.unit ≡ o → Good e t → AreQuiet first → StepGood (unit_got first bytes o e) t
  unit_got_good first bytes None e t is g q = g
  unit_got_good first bytes (Some u) e t is g q =
      let r = onu_received false bytes u in
      preceded_good first (unit_did r u e) t
      (unit_did_good r u e (tell_all first t)
      (received_good false s0 (stores_of (tell_all first t)) bytes u
      (on_unit e (tell_all first t) u is (quiet_good e first t g q))))

  notices_good : (call : Onu → Noticing) → ((u : Onu) → (call u).unit.store ≡ u.store)
      → (o : Option Onu) (e : Ends) (t : Told) → e.unit ≡ o → Good e t
      → StepGood (unit_notices call o e) t
  notices_good call same None e t is g = g
  notices_good call same (Some u) e t is g =
      quiet_good (record e { unit = Some (call u).unit })
      (notice_sent (call u).noticed (call u).packet) t
      (subst (λ m. StoreGood s0 (stores_of t) m) (sym (same u)) (on_unit e t u is g))
      (notice_quiet (call u).noticed (call u).packet)

  -- ---- packets that come

  arrives_at_good : (d : Direction) (first : List Happening) (bytes : List ℕ) (e : Ends) (t : Told)
      → Good e t → AreQuiet first → StepGood (arrives_at d first bytes e) t
  arrives_at_good Down first bytes e t g q = unit_got_good first bytes e.unit e t refl g q
  arrives_at_good Up first bytes e t g q = manager_got_good first bytes e.manager e t g q

  arrives_good : (number : ℕ) (s : Sent) (e : Ends) (t : Told) → Good e t
      → StepGood (arrives number s e) t
  unfolding arrives
  arrives_good number s e t g =
      arrives_at_good s.direction (PacketCame number s ∷ []) s.bytes e t g (tt, tt)

  noise_good : (d : Direction) (bytes : List ℕ) (e : Ends) (t : Told) → Good e t
      → StepGood (noise d bytes e) t
  unfolding noise
  noise_good d bytes e t g = arrives_at_good d [] bytes e t g tt

  deliver_good : (s : Option Sent) (number : ℕ) (e : Ends) (t : Told) → Good e t
      → StepGood (delivery_of s number e) t
  deliver_good None number e t g = g
  deliver_good (Some s) number e t g = arrives_good number s e t g

  delivery_good : (number : ℕ) (n : Nodes) (t : Told) → Good n.ends t
      → StepGood (delivery number n) t
  unfolding delivery
  delivery_good number n t g = deliver_good (allowed number n.link) number n.ends t g

  from_good : (o : Option ℕ) (rest : Nodes → Step) (n : Nodes) (t : Told) → Good n.ends t
      → ((n : Nodes) (t : Told) → Good n.ends t → StepGood (rest n) t)
      → StepGood (flow_from o rest n) t
  from_good None rest n t g good = g
  from_good (Some number) rest n t g good =
      let s = delivery number n in
      let after = nodes_after_step s n in
      both_good (rest after).ends s.happenings (rest after).happenings t
      (good after (tell_all s.happenings t) (delivery_good number n t g))

  flow_good : (times : ℕ) (n : Nodes) (t : Told) → Good n.ends t → StepGood (flow times n) t
  unfolding flow
  flow_good zero n t g = g
  flow_good (suc times) n t g = from_good (oldest_fresh n) (flow times) n t g (flow_good times)

  -- ---- power and time

  unit_starts_good : (boot : Boot) (slots : SlotPair) (e : Ends) (t : Told)
      → UnitGood s0 (stores_of t) None slots → StepGood (unit_starts boot slots e) t
  unfolding onu_started
  unit_starts_good boot slots e t g = started_good s0 (stores_of t) boot slots g

  restarts_good : (leaving : Option Boot) (u : Onu) (e : Ends) (t : Told)
      → StoreGood s0 (stores_of t) u.store → StepGood (restarts leaving u e) t
  restarts_good None u e t g =
      subst (λ m. StoreGood s0 (stores_of t) m) (sym (ticked_store u)) g
  restarts_good (Some boot) u e t g =
      unit_starts_good boot u.store.slots e t (left_good s0 (stores_of t) u.store g)

  unit_ticks_good : (o : Option Onu) (e : Ends) (t : Told) → e.unit ≡ o → Good e t
      → StepGood (unit_ticks o e) t
  unit_ticks_good None e t is g = g
  unit_ticks_good (Some u) e t is g = restarts_good u.leaving u e t (on_unit e t u is g)

  second_good : (e : Ends) (t : Told) → Good e t → StepGood (second e) t
  unfolding second
  second_good e t g =
      let s = manager_ticks e.manager e in
      let then = unit_ticks s.ends.unit s.ends in
      both_good then.ends s.happenings then.happenings t
      (unit_ticks_good s.ends.unit s.ends (tell_all s.happenings t) refl
      (manager_ticks_good e.manager e t g))

  cut_unit_good : (o : Option Onu) (e : Ends) (t : Told) → e.unit ≡ o → Good e t
      → StepGood (cut_unit o e) t
  cut_unit_good None e t is g = g
  cut_unit_good (Some u) e t is g = left_good s0 (stores_of t) u.store (on_unit e t u is g)

  cut_manager_good : (o : Option Manager) (e : Ends) (t : Told) → Good e t
      → StepGood (cut_manager o e) t
  cut_manager_good None e t g = g
  cut_manager_good (Some m) e t g = g

  start_unit_good : (o : Option Onu) (e : Ends) (t : Told) → e.unit ≡ o → Good e t
      → StepGood (start_unit o e) t
  start_unit_good None e t is g = unit_starts_good PowerUp e.slots e t (off_unit e t is g)
  start_unit_good (Some u) e t is g = g

  start_manager_good : (low high : ℕ) (o : Option Manager) (e : Ends) (t : Told) → Good e t
      → StepGood (start_manager low high o e) t
  start_manager_good low high None e t g = g
  start_manager_good low high (Some m) e t g = g

  -- ---- a cut amid a packet

  amid_good : (call : ℕ) (pick : Pick) (first : List Happening) (bytes : List ℕ) (o : Option Onu)
      (e : Ends) (t : Told) → e.unit ≡ o → Good e t → AreQuiet first
      → StepGood (unit_cut_amid call pick first bytes o e) t
  amid_good call pick first bytes None e t is g q = g
  amid_good call pick first bytes (Some u) e t is g q =
      let d = packet_deed bytes u in
      let came = tell_all first t in
      let k = on_unit e came u is (quiet_good e first t g q) in
      let s = cut_amid call pick d u e in
      preceded_good first s t
      (both_good s.ends (map ImageStored (reverse (entries_before d))) (PowerCut ∷ []) came
      (subst (λ (h : List StoreEntry). UnitGood s0 h None s.ends.slots)
      (sym (stored_tells (entries_before d) came))
      (cut_good call pick d s0 (stores_of came) u.store k (packet_meets bytes u k.sound))))

  cut_at_good : (call : ℕ) (pick : Pick) (d : Direction) (first : List Happening)
      (bytes : List ℕ) (e : Ends) (t : Told) → Good e t → AreQuiet first
      → StepGood (cut_at call pick d first bytes e) t
  cut_at_good call pick Down first bytes e t g q =
      amid_good call pick first bytes e.unit e t refl g q
  cut_at_good call pick Up first bytes e t g q = g

  cut_in_good : (call : ℕ) (pick : Pick) (number : ℕ) (s : Sent) (e : Ends) (t : Told) → Good e t
      → StepGood (cut_in call pick number s e) t
  unfolding cut_in
  cut_in_good call pick number s e t g =
      cut_at_good call pick s.direction (PacketCame number s ∷ []) s.bytes e t g (tt, tt)

  cut_of_good : (call : ℕ) (pick : Pick) (s : Option Sent) (number : ℕ) (e : Ends) (t : Told)
      → Good e t → StepGood (cut_of call pick s number e) t
  cut_of_good call pick None number e t g = g
  cut_of_good call pick (Some s) number e t g = cut_in_good call pick number s e t g

  cut_delivery_good : (call : ℕ) (pick : Pick) (number : ℕ) (n : Nodes) (t : Told)
      → Good n.ends t → StepGood (cut_delivery call pick number n) t
  unfolding cut_delivery
  cut_delivery_good call pick number n t g =
      cut_of_good call pick (allowed number n.link) number n.ends t g

  -- ---- lines

  acted_good : (a : Action) (n : Nodes) (t : Told) → Good n.ends t → StepGood (acted a n) t
  unfolding acted
  acted_good (Probe lane) n t g = submission_good (after_probe lane) n.ends.manager n.ends t g
  acted_good (Reset lane) n t g =
      submission_good (after_submit lane sync_entity request.Reset) n.ends.manager n.ends t g
  acted_good (Get lane entity mask) n t g =
      submission_good (after_submit lane entity (request.Get mask)) n.ends.manager n.ends t g
  acted_good (Create lane entity values) n t g =
      submission_good (after_submit lane entity (request.Create (filled 32 values))) n.ends.manager
      n.ends t g
  acted_good (Set lane entity mask values) n t g =
      submission_good (after_submit lane entity (request.Set mask (filled 30 values)))
      n.ends.manager n.ends t g
  acted_good (Delete lane entity) n t g =
      submission_good (after_submit lane entity request.Delete) n.ends.manager n.ends t g
  acted_good (Activate lane slot) n t g =
      submission_good (after_submit lane (image_entity slot) (request.Activate 0)) n.ends.manager
      n.ends t g
  acted_good (Commit lane slot) n t g =
      submission_good (after_submit lane (image_entity slot) request.Commit) n.ends.manager n.ends
      t g
  acted_good (Reboot lane) n t g =
      submission_good (after_submit lane ONU_G (request.Reboot 0)) n.ends.manager n.ends t g
  acted_good Resync n t g = submission_good after_resync n.ends.manager n.ends t g
  acted_good Audit n t g = submission_good after_audit n.ends.manager n.ends t g
  acted_good Check n t g = submission_good after_check n.ends.manager n.ends t g
  acted_good (Image slot asked check image) n t g =
      submission_good (after_image slot asked check image) n.ends.manager n.ends t g
  acted_good (Deliver number) n t g = delivery_good number n t g
  acted_good (Flow times) n t g = flow_good times n t g
  acted_good (CutIn number call pick) n t g = cut_delivery_good call pick number n t g
  acted_good (NoiseUnit bytes) n t g = noise_good Down bytes n.ends t g
  acted_good (NoiseOlt bytes) n t g = noise_good Up bytes n.ends t g
  acted_good Tick n t g = second_good n.ends t g
  acted_good (Sense entity number value) n t g =
      notices_good (onu_sensed entity number value) (sensed_store entity number value) n.ends.unit
      n.ends t refl g
  acted_good (Alarm entity bitmap) n t g =
      notices_good (onu_alarmed entity (filled BITMAP_BYTES bitmap))
      (alarmed_store entity (filled BITMAP_BYTES bitmap)) n.ends.unit n.ends t refl g
  acted_good CutUnit n t g = cut_unit_good n.ends.unit n.ends t refl g
  acted_good CutOlt n t g = cut_manager_good n.ends.manager n.ends t g
  acted_good StartUnit n t g = start_unit_good n.ends.unit n.ends t refl g
  acted_good (StartOlt low high) n t g = start_manager_good low high n.ends.manager n.ends t g

  step_good : (a : Action) (n : Nodes) (t : Told) → Good n.ends t
      → Good (step a n).nodes.ends (tell_all (step a n).happenings t)
  unfolding step
  step_good a n t g = acted_good a (next_event n) t g

  run_good : (actions : List Action) (n : Nodes) (t : Told) → Good n.ends t
      → Good (nodes_after actions n).ends (told_after actions n t)
  unfolding nodes_after told_after
  run_good [] n t g = g
  run_good (a ∷ rest) n t g =
      run_good rest (step a n).nodes (tell_all (step a n).happenings t) (step_good a n t g)

  -- slots that the history explains are slots that it lets a unit start with
  good_boots : (e : Ends) (t : Told) (o : Option Onu) → e.unit ≡ o
      → UnitGood s0 (stores_of t) o e.slots → Bootable (stores_of t) s0 (slots_of o e.slots)
  good_boots e t None is g = bootable (ledger s0 (stores_of t)) e.slots g.explained
  good_boots e t (Some u) is g =
      bootable (ledger s0 (stores_of t)) u.store.slots g.explained.sure

  pub boots : (e : Ends) (t : Told) → Good e t → Bootable (stores_of t) s0 (slots_in e)
  boots e t g = good_boots e t e.unit refl g

first_good : (h : Header) → Good (factory_slots h.factory) (first_nodes h).ends first_told
unfolding onu_started
first_good h =
    let s = factory_slots h.factory in
    started_good s [] PowerUp s
    (record { below = omega (arith); explained = explained_first s (omega (arith)) refl })

pub slots_boot : (h : Header) (actions : List Action)
    → Bootable (store_history (history_of h actions)) (factory_slots h.factory)
    (slots_in (nodes_after actions (first_nodes h)).ends)
slots_boot h actions =
    let s = factory_slots h.factory in
    boots s (nodes_after actions (first_nodes h)).ends (told_after actions (first_nodes h) first_told)
    (run_good s actions (first_nodes h) first_told (first_good h))
