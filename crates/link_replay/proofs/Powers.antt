-- What comes to the unit, its starts and its cuts, as a world shows them.
use Rattle.std.proofs.Common.{◌≡◌, ℕ, ◌+◌, length, arith, true, false, List, [], ◌∷◌, ◌++◌, map, reverse, Option, Some, None, is_some, option_map, refl, sym, ◌∙◌, ap, subst, append_assoc}
use Rattle.std.proofs.lemmas.List.{append-nil, length-replicate}
use Rattle.slot_spec.specs.declared.DiskHeader.{DiskHeader}
use Rattle.slot_spec.specs.Owner.{Settled}
use Rattle.image_slots.specs.Formats.{formatted_slots, formatted_length, FormatLeaves}
use Rattle.link_spec.specs.Link.{empty_link}
use Rattle.link_spec.specs.Held.{held_of}
use Rattle.script_spec.specs.Script.{Header}
use Rattle.world_spec.specs.Ends.{factory_slots}
use Rattle.world_spec.specs.Nodes.{first_nodes}
use Rattle.slot_disk.specs.Memory.{zero_disk, rig_of, leaves_seen_of}
use Rattle.link_replay.specs.Seen.{Stands, disk_bytes, unstarted}
use Rattle.link_replay.proofs.Units.{same_bytes, same_rig}
use Rattle.frame_spec.specs.Baseline.{frame_of}
use Rattle.omci_types.specs.declared.Boot.{Boot}
use Rattle.omci_types.specs.declared.Boot.TheVariants.{PowerUp}
use Rattle.slot_spec.specs.declared.Pick.{Pick}
use Rattle.slot_spec.specs.declared.Trap.TheVariants.{Fuse, Clear}
use Rattle.slot_spec.specs.Slots.{SlotPair}
use Rattle.slot_spec.specs.Layout.{StandsAt}
use Rattle.slot_spec.specs.Crash.{HasLength}
use Rattle.slot_spec.specs.Rig.{Rigged}
use Rattle.slot_disk.specs.Memory.{MemState, MayLeave, after_restore}
use Rattle.store_spec.specs.History.{StoreEntry}
use Rattle.store_spec.specs.State.{software_of, store_started}
use Rattle.store_spec.specs.Effects.{entries_before}
use Rattle.link_spec.specs.declared.Direction.{Direction}
use Rattle.link_spec.specs.declared.Direction.TheVariants.{Down, Up}
use Rattle.link_spec.specs.Link.{Sent, is_down}
use Rattle.link_spec.specs.Held.{Held, held_sent, held_emptied, held_allowed, held_delivered, held_after}
use Rattle.image_store.specs.declared.state.State.{State as Form}
use Rattle.image_store.specs.Stands.{state_disk}
use Rattle.image_store.specs.Starts.{Started}
use Rattle.unit_spec.specs.declared.Did.{Did}
use Rattle.unit_spec.specs.declared.Did.TheVariants as did
use Rattle.unit_spec.specs.declared.Noticed.{Noticed}
use Rattle.unit_spec.specs.Onu.{Onu, Reception, onu_started, onu_received, onu_ticked, packet_deed}
use Rattle.unit_spec.specs.Noticing.{Noticing}
use Rattle.manager_spec.specs.Manager.{Manager, manager_started}
use Rattle.onu_agent.specs.State.{State as Agent, AgentStands, Tells}
use Rattle.onu_agent.specs.Received.{Received}
use Rattle.world_spec.specs.declared.Effect.TheVariants as effect
use Rattle.world_spec.specs.Happenings.{Happening, ImageStored, PacketCame, PowerCut, held_read}
use Rattle.world_spec.specs.Trace.{line_text, lines_text}
use Rattle.world_spec.specs.Ends.{Ends, Step, still, not_enabled, stored, unit_deed, unit_got, unit_notices, unit_noticed, notice_sent, unit_starts, restarts, unit_ticks, cut_unit, cut_manager, cut_amid, cut_at, unit_cut_amid, cut_in, start_unit, start_manager}
use Rattle.world_spec.specs.Nodes.{cut_of}
use Rattle.link_replay.specs.Seen.{Seen, EndsStand, UnitStands, AgentRuns, DiskStands, OffStands, Woken, Follows, reads, did_text, did_held, up_text, up, life_text, goes_down}
use Rattle.link_replay.proofs.Following.{seen_as, not_enabled_there, still_there, one_line}
use Rattle.link_replay.proofs.Deliveries.{off_unit, carried_by, unit_on}
use Rattle.link_replay.proofs.Units.{took, Took, Apart, runs_on, ticked_apart, clock, left_since, rig, faults, stopped_stands, cut_stands, started_runs}

-- ---- the store's entries are neither lines nor packets

stored_silent : (event next : ℕ) (entries : List StoreEntry) (rest : List Happening)
    → lines_text event next (map ImageStored entries ++ rest) ≡ lines_text event next rest
stored_silent event next [] rest = refl
stored_silent event next (x ∷ xs) rest = stored_silent event next xs rest

stored_held : (entries : List StoreEntry) (rest : List Happening) (h : Held)
    → held_read (map ImageStored entries ++ rest) h ≡ held_read rest h
stored_held [] rest h = refl
stored_held (x ∷ xs) rest h = stored_held xs rest h

none_after : (event next : ℕ) (entries : List StoreEntry) → lines_text event next (stored entries) ≡ []
none_after event next entries =
    ap (lines_text event next) (sym (append-nil (stored entries))) ∙ stored_silent event next (reverse entries) []

held_after_stored : (entries : List StoreEntry) (h : Held) → held_read (stored entries) h ≡ h
held_after_stored entries h =
    ap (λ hs. held_read hs h) (sym (append-nil (stored entries))) ∙ stored_held (reverse entries) [] h

-- ---- what the unit did

deed_text : (event next life : ℕ) (d : Did) (reply : List ℕ) (before : Onu) (entries : List StoreEntry)
    → lines_text event next (unit_deed d reply before life ++ stored entries) ≡ did_text event next life d reply
deed_text event next life did.Dropped reply before entries =
    ap (λ t. line_text event effect.Dropped ++ t) (none_after event next entries) ∙ append-nil (line_text event effect.Dropped)
deed_text event next life did.Held reply before entries =
    ap (λ t. line_text event effect.Held ++ t) (none_after event next entries) ∙ append-nil (line_text event effect.Held)
deed_text event next life did.Kept reply before entries =
    ap (λ t. line_text event effect.Kept ++ (up_text event next reply ++ t)) (none_after event (next + 1) entries)
    ∙ ap (λ t. line_text event effect.Kept ++ t) (append-nil (up_text event next reply))
deed_text event next life (did.Carried None) reply before entries =
    ap (λ t. line_text event (effect.Carried life) ++ (up_text event next reply ++ t)) (none_after event (next + 1) entries)
    ∙ ap (λ t. line_text event (effect.Carried life) ++ t) (append-nil (up_text event next reply))
deed_text event next life (did.Carried (Some note)) reply before entries =
    ap (λ t. line_text event (effect.Carried life) ++ (line_text event (effect.Noted note) ++ (up_text event next reply ++ t))) (none_after event (next + 1) entries)
    ∙ ap (λ t. line_text event (effect.Carried life) ++ (line_text event (effect.Noted note) ++ t)) (append-nil (up_text event next reply))

deed_held : (life : ℕ) (d : Did) (reply : List ℕ) (before : Onu) (entries : List StoreEntry) (h : Held)
    → held_read (unit_deed d reply before life ++ stored entries) h ≡ did_held d reply h
deed_held life did.Dropped reply before entries h = held_after_stored entries h
deed_held life did.Held reply before entries h = held_after_stored entries h
deed_held life did.Kept reply before entries h = held_after_stored entries (held_sent (up reply) h)
deed_held life (did.Carried None) reply before entries h = held_after_stored entries (held_sent (up reply) h)
deed_held life (did.Carried (Some note)) reply before entries h = held_after_stored entries (held_sent (up reply) h)

-- ---- a unit that is on is an agent

pub record OnStands (w : Seen) (e : Ends) (a : Agent MemState) : Type 0 where
  pub unit : Onu
  pub unit_is : e.unit ≡ Some unit
  pub runs : AgentRuns e.room w.length a unit

on_by : (room size : ℕ) (a : Agent MemState) (d : Option MemState) (o : Option Onu) (s : SlotPair) → UnitStands room size (Some a) d o s
    → (u : Onu) × (o ≡ Some u) × AgentRuns room size a u
on_by room size a d None s stands = absurd stands
on_by room size a d (Some u) s stands = (u, refl, stands)

pub on_stands : (w : Seen) (e : Ends) (a : Agent MemState) → EndsStand w e → w.unit ≡ Some a → OnStands w e a
on_stands w e a s on =
    let t = on_by e.room w.length a w.disk e.unit e.slots (subst (λ (o : Option (Agent MemState)). UnitStands e.room w.length o w.disk e.unit e.slots) on s.unit) in
    record { unit = t.0; unit_is = t.1; runs = t.2 }

-- another unit and its agent in the place of those
pub with_unit : (v : Seen) (e : Ends) (b : Agent MemState) (u : Onu) (h : Held) → EndsStand v e → AgentRuns e.room v.length b u
    → EndsStand (record v { unit = Some b; held = h }) (record e { unit = Some u })
with_unit v e b u h s runs = record {
  event_is = s.event_is;
  lives_is = s.lives_is;
  size_is = s.size_is;
  manager_is = s.manager_is;
  unit = runs;
}

-- a call of a unit that is off
pub unit_off : (step : Option Onu → Step) (v w : Seen) (before after : List ℕ) → v ≡ w → v.unit ≡ None
    → after ≡ before ++ line_text v.event effect.NotEnabled → (e : Ends) → EndsStand w e
    → step None ≡ not_enabled e → Follows (step e.unit) e w v before after
unit_off step v w before after same off is e s none =
    let at : EndsStand v e = subst (λ (x : Seen). EndsStand x e) (sym same) s in
    seen_as (step e.unit) e v w v before after same
    (subst (λ (t : Step). Follows t e v v before after) (sym none ∙ ap step (sym (off_unit v e at off)))
    (not_enabled_there e v before after at is))

-- the unit took a packet
pub got_there : (v w new : Seen) (a b : Agent MemState) (d : Did) (reply bytes before after : List ℕ) → v ≡ w → v.unit ≡ Some a
    → b.spent ≡ false
    → ((u : Onu) → AgentStands reads MayLeave a u → Received reads MayLeave clock left_since rig faults a.unit b.unit d reply bytes u)
    → new ≡ record v { unit = Some b; held = did_held d reply v.held }
    → after ≡ before ++ did_text v.event v.held.count v.lives d reply
    → (e : Ends) → EndsStand w e → Follows (unit_got [] bytes e.unit e) e w new before after
got_there v w new a b d reply bytes before after same on sound received new_is after_is e s =
    let at : EndsStand v e = subst (λ (x : Seen). EndsStand x e) (sym same) s in
    let here = on_stands v e a at on in
    let u = here.unit in
    let r = onu_received false bytes u in
    let t : Took e.room v.length b d reply bytes u = took e.room v.length a b u d reply bytes here.runs sound (received u here.runs.stands) in
    seen_as (unit_got [] bytes e.unit e) e v w new before after same
    (subst (λ (o : Option Onu). Follows (unit_got [] bytes o e) e v new before after) (sym here.unit_is)
    (record {
      ends = subst (λ (x : Seen). EndsStand x (unit_got [] bytes (Some u) e).ends) (sym new_is) (with_unit v e b r.unit (did_held d reply v.held) at t.runs);
      held =
          ap (λ (x : Seen). x.held) new_is
          ∙ ap (λ x. did_held x reply v.held) t.did_is
          ∙ ap (λ x. did_held r.did x v.held) t.reply_is
          ∙ sym (deed_held e.lives r.did r.reply u r.stored v.held);
      text =
          after_is
          ∙ ap (λ n. before ++ did_text n v.held.count v.lives d reply) at.event_is
          ∙ ap (λ n. before ++ did_text e.event v.held.count n d reply) at.lives_is
          ∙ ap (λ x. before ++ did_text e.event v.held.count e.lives x reply) t.did_is
          ∙ ap (λ x. before ++ did_text e.event v.held.count e.lives r.did x) t.reply_is
          ∙ ap (λ x. before ++ x) (sym (deed_text e.event v.held.count e.lives r.did r.reply u r.stored));
    }))

-- the unit noticed something by itself
pub noticed_there : (call : Onu → Noticing) (v w new : Seen) (a b : Agent MemState) (why : Noticed) (packet before after : List ℕ) → v ≡ w → v.unit ≡ Some a
    → b.spent ≡ false → b.unit.images ≡ a.unit.images → ((u : Onu) → Apart u (call u).unit)
    → ((u : Onu) → AgentStands reads MayLeave a u → Tells reads MayLeave b.unit why packet (call u))
    → new ≡ record v { unit = Some b; held = held_read (notice_sent why packet) v.held }
    → after ≡ before ++ lines_text v.event v.held.count (notice_sent why packet)
    → (e : Ends) → EndsStand w e → Follows (unit_notices call e.unit e) e w new before after
noticed_there call v w new a b why packet before after same on sound images apart tells new_is after_is e s =
    let at : EndsStand v e = subst (λ (x : Seen). EndsStand x e) (sym same) s in
    let here = on_stands v e a at on in
    let u = here.unit in
    let n = call u in
    let t = tells u here.runs.stands in
    seen_as (unit_notices call e.unit e) e v w new before after same
    (subst (λ (o : Option Onu). Follows (unit_notices call o e) e v new before after) (sym here.unit_is)
    (record {
      ends = subst (λ (x : Seen). EndsStand x (unit_noticed n e).ends) (sym new_is) (with_unit v e b n.unit (held_read (notice_sent why packet) v.held) at
          (runs_on e.room v.length a b u n.unit here.runs (record { sound = sound; stands = t.stands }) images (apart u)));
      held =
          ap (λ (x : Seen). x.held) new_is
          ∙ ap (λ x. held_read (notice_sent x packet) v.held) t.noticed_is
          ∙ ap (λ x. held_read (notice_sent n.noticed x) v.held) t.packet_is;
      text =
          after_is
          ∙ ap (λ k. before ++ lines_text k v.held.count (notice_sent why packet)) at.event_is
          ∙ ap (λ x. before ++ lines_text e.event v.held.count (notice_sent x packet)) t.noticed_is
          ∙ ap (λ x. before ++ lines_text e.event v.held.count (notice_sent n.noticed x)) t.packet_is;
    }))

-- ---- starts and stops

-- the unit's next life on its disk
pub woken_there : (boot : Boot) (v w middle new : Seen) (before after : List ℕ) (e : Ends) (s : SlotPair) → v ≡ w
    → OffStands w e s
    → ((room : ℕ) (disk : MemState) (t : SlotPair) → v.disk ≡ Some disk → DiskStands room v.length disk t → Woken boot room t v middle)
    → new ≡ record middle { held = held_emptied middle.held }
    → ((f : Ends) → EndsStand new f → after ≡ before ++ life_text f.event f.lives f.unit)
    → Follows (unit_starts boot s e) e w new before after
unfolding onu_started
woken_there boot v w middle new before after e s same off wakes new_is line =
    let at : OffStands v e s = subst (λ (x : Seen). OffStands x e s) (sym same) off in
    let woken = wakes e.room at.disk s at.disk_is at.stands in
    let new_is' : new ≡ record v { lives = v.lives + 1; unit = Some woken.agent; disk = None; held = held_emptied v.held } =
    new_is ∙ ap (λ (x : Seen). record x { held = held_emptied x.held }) woken.new_is in
    let f = (unit_starts boot s e).ends in
    let stands : EndsStand new f = subst (λ (x : Seen). EndsStand x f) (sym new_is') (record {
      event_is = at.event_is;
      lives_is = ap (λ n. n + 1) at.lives_is;
      size_is = at.size_is;
      manager_is = at.manager_is;
      unit = woken.runs;
    }) in
    seen_as (unit_starts boot s e) e v w new before after same (record {
      ends = stands;
      held = ap (λ (x : Seen). x.held) new_is';
      text = line f stands ∙ sym (one_line before (line_text e.event (effect.UnitStarted (e.lives + 1) (software_of (store_started boot s)))));
    })

same_unit : (x y : Onu) → ◌≡◌ {A = Option Onu} (Some x) (Some y) → x ≡ y
same_unit x y e = cc

-- a unit that stops leaves its disk
pub stopped_there : (v w new : Seen) (a : Agent MemState) (disk : MemState) (e : Ends) (u : Onu) → v ≡ w → v.unit ≡ Some a
    → ((state : Form MemState) → a.unit.images.state ≡ Some state → disk ≡ state_disk state)
    → new ≡ record v { unit = None; disk = Some disk } → EndsStand w e → e.unit ≡ Some u → OffStands new e u.store.slots
stopped_there v w new a disk e u same on stops new_is s unit_is =
    let at : EndsStand v e = subst (λ (x : Seen). EndsStand x e) (sym same) s in
    let here = on_stands v e a at on in
    let is : here.unit ≡ u = same_unit here.unit u (sym here.unit_is ∙ unit_is) in
    let runs : AgentRuns e.room v.length a u = subst (λ (x : Onu). AgentRuns e.room v.length a x) is here.runs in
    subst (λ (x : Seen). OffStands x e u.store.slots) (sym new_is) (record {
      event_is = at.event_is;
      lives_is = at.lives_is;
      size_is = at.size_is;
      manager_is = at.manager_is;
      off = refl;
      disk = disk;
      disk_is = refl;
      stands = subst (λ (d : MemState). DiskStands e.room v.length d u.store.slots) (sym (stops runs.form runs.form_is)) (stopped_stands e.room v.length a u runs);
    })

-- a unit that stays off
not_on : (a : Option (Agent MemState)) (w : Seen) (e : Ends) → EndsStand w e → w.unit ≡ a → is_some a ≡ false → (u : Onu) → e.unit ≡ Some u → ⊥
not_on a w e s is off u on = differ (sym off ∙ ap is_some (sym is) ∙ unit_on e.room w.length w.unit w.disk e.unit e.slots s.unit ∙ ap is_some on)
  where
    differ : false ≡ true → ⊥
    differ x = cc

pub none_stopped : (v w : Seen) (e : Ends) (u : Onu) → v ≡ w → v.unit ≡ None → EndsStand w e → e.unit ≡ Some u → ⊥
none_stopped v w e u same off s on =
    not_on None v e (subst (λ (x : Seen). EndsStand x e) (sym same) s) off refl u on

off_by : (room size : ℕ) (x : Option (Agent MemState)) (d : Option MemState) (disk : MemState) (s : SlotPair) → x ≡ None → d ≡ Some disk
    → DiskStands room size disk s → UnitStands room size x d None s
off_by room size x d disk s none some stands =
    subst (λ y. UnitStands room size y d None s) (sym none)
    (subst (λ y. UnitStands room size None y None s) (sym some) stands)

off_ends : (w : Seen) (e : Ends) (s : SlotPair) → OffStands w e s → EndsStand w (record e { slots = s; unit = None })
off_ends w e s t = record {
  event_is = t.event_is;
  lives_is = t.lives_is;
  size_is = t.size_is;
  manager_is = t.manager_is;
  unit = off_by e.room w.length w.unit w.disk t.disk s t.off t.disk_is t.stands;
}

-- the unit's power goes
pub cut_there : (v w new : Seen) (text : List ℕ) → v ≡ w → is_some v.unit ≡ true
    → ((e : Ends) (u : Onu) → EndsStand v e → e.unit ≡ Some u → OffStands new e u.store.slots) → new.held ≡ v.held
    → (e : Ends) → EndsStand w e → Follows (cut_unit e.unit e) e w new text text
cut_there v w new text same on off held e s =
    let at : EndsStand v e = subst (λ (x : Seen). EndsStand x e) (sym same) s in
    seen_as (cut_unit e.unit e) e v w new text text same
    (by at e.unit refl (sym on ∙ unit_on e.room v.length v.unit v.disk e.unit e.slots at.unit))
  where
    by : EndsStand v e → (o : Option Onu) → e.unit ≡ o → true ≡ is_some o → Follows (cut_unit o e) e v new text text
    by at None is there = absurd (cc)
    by at (Some u) is there = record {
      ends = off_ends new e u.store.slots (off e u at is);
      held = held;
      text = sym (append-nil text);
    }

pub manager_cut : (v w : Seen) (text : List ℕ) → v ≡ w → is_some v.manager ≡ true
    → (e : Ends) → EndsStand w e → Follows (cut_manager e.manager e) e w (record v { manager = None }) text text
manager_cut v w text same on e s =
    let at : EndsStand v e = subst (λ (x : Seen). EndsStand x e) (sym same) s in
    seen_as (cut_manager e.manager e) e v w (record v { manager = None }) text text same (by at e.manager (sym on ∙ ap is_some at.manager_is))
  where
    by : EndsStand v e → (o : Option Manager) → true ≡ is_some o → Follows (cut_manager o e) e v (record v { manager = None }) text text
    by at None there = absurd (cc)
    by at (Some m) there = record {
      ends = record { event_is = at.event_is; lives_is = at.lives_is; size_is = at.size_is; manager_is = refl; unit = at.unit };
      held = refl;
      text = sym (append-nil text);
    }

off_from : (w : Seen) (e : Ends) (d : Option MemState) → EndsStand w e → w.unit ≡ None → w.disk ≡ d
    → UnitStands e.room w.length None d None e.slots → OffStands w e e.slots
off_from w e None s off is stands = absurd stands
off_from w e (Some disk) s off is stands = record {
  event_is = s.event_is;
  lives_is = s.lives_is;
  size_is = s.size_is;
  manager_is = s.manager_is;
  off = off;
  disk = disk;
  disk_is = is;
  stands = stands;
}

-- the unit starts
pub starts_there : (v w new : Seen) (before after : List ℕ) → v ≡ w → v.unit ≡ None
    → ((e : Ends) (s : SlotPair) → OffStands v e s → Follows (unit_starts PowerUp s e) e v new before after)
    → (e : Ends) → EndsStand w e → Follows (start_unit e.unit e) e w new before after
starts_there v w new before after same off wakes e s =
    let at : EndsStand v e = subst (λ (x : Seen). EndsStand x e) (sym same) s in
    let none = off_unit v e at off in
    seen_as (start_unit e.unit e) e v w new before after same
    (subst (λ (o : Option Onu). Follows (start_unit o e) e v new before after) (sym none) (wakes e e.slots (off_from v e v.disk at off refl
    (subst (λ o. UnitStands e.room v.length o v.disk None e.slots) off (subst (λ o. UnitStands e.room v.length v.unit v.disk o e.slots) none at.unit)))))

pub unit_runs : (w : Seen) (before after : List ℕ) → is_some w.unit ≡ true → after ≡ before ++ line_text w.event effect.NotEnabled
    → (e : Ends) → EndsStand w e → Follows (start_unit e.unit e) e w w before after
unit_runs w before after on is e s = by e.unit (sym on ∙ unit_on e.room w.length w.unit w.disk e.unit e.slots s.unit)
  where
    by : (o : Option Onu) → true ≡ is_some o → Follows (start_unit o e) e w w before after
    by None there = absurd (cc)
    by (Some u) there = not_enabled_there e w before after s is

pub manager_runs : (low high : ℕ) (w : Seen) (before after : List ℕ) → is_some w.manager ≡ true → after ≡ before ++ line_text w.event effect.NotEnabled
    → (e : Ends) → EndsStand w e → Follows (start_manager low high e.manager e) e w w before after
manager_runs low high w before after on is e s = by e.manager (sym on ∙ ap is_some s.manager_is)
  where
    by : (o : Option Manager) → true ≡ is_some o → Follows (start_manager low high o e) e w w before after
    by None there = absurd (cc)
    by (Some m) there = not_enabled_there e w before after s is

pub manager_starts : (low high : ℕ) (v w new : Seen) (text : List ℕ) → v ≡ w → v.manager ≡ None
    → new ≡ record v { manager = Some (manager_started low high); held = held_emptied v.held }
    → (e : Ends) → EndsStand w e → Follows (start_manager low high e.manager e) e w new text text
manager_starts low high v w new text same off new_is e s =
    let at : EndsStand v e = subst (λ (x : Seen). EndsStand x e) (sym same) s in
    seen_as (start_manager low high e.manager e) e v w new text text same
    (subst (λ (o : Option Manager). Follows (start_manager low high o e) e v new text text) (sym off ∙ at.manager_is)
    (subst (λ (x : Seen). Follows (start_manager low high None e) e v x text text) (sym new_is) (record {
      ends = record { event_is = at.event_is; lives_is = at.lives_is; size_is = at.size_is; manager_is = refl; unit = at.unit };
      held = refl;
      text = sym (append-nil text);
    })))

-- ---- seconds

pub unit_not_ticked : (v w : Seen) (text : List ℕ) → v ≡ w → v.unit ≡ None
    → (e : Ends) → EndsStand w e → Follows (unit_ticks e.unit e) e w v text text
unit_not_ticked v w text same off e s =
    let at : EndsStand v e = subst (λ (x : Seen). EndsStand x e) (sym same) s in
    seen_as (unit_ticks e.unit e) e v w v text text same
    (subst (λ (o : Option Onu). Follows (unit_ticks o e) e v v text text) (sym (off_unit v e at off)) (still_there e v text at))

pub ticked : (v w : Seen) (a b : Agent MemState) (text : List ℕ) → v ≡ w → v.unit ≡ Some a → a.unit.leaving ≡ None
    → ((u : Onu) → AgentStands reads MayLeave a u → AgentStands reads MayLeave b (onu_ticked u)) → b.unit.images ≡ a.unit.images
    → (e : Ends) → EndsStand w e → Follows (unit_ticks e.unit e) e w (record v { unit = Some b }) text text
ticked v w a b text same on stays ticks images e s =
    let at : EndsStand v e = subst (λ (x : Seen). EndsStand x e) (sym same) s in
    let here = on_stands v e a at on in
    let u = here.unit in
    let none : u.leaving ≡ None = sym here.runs.stands.stands.leaving_is ∙ stays in
    seen_as (unit_ticks e.unit e) e v w (record v { unit = Some b }) text text same
    (subst (λ (o : Option Onu). Follows (unit_ticks o e) e v (record v { unit = Some b }) text text) (sym here.unit_is)
    (subst (λ (o : Option Boot). Follows (restarts o u e) e v (record v { unit = Some b }) text text) (sym none)
    (record {
      ends = with_unit v e b (onu_ticked u) v.held at (runs_on e.room v.length a b u (onu_ticked u) here.runs (ticks u here.runs.stands) images (ticked_apart u));
      held = refl;
      text = sym (append-nil text);
    })))

-- a unit that leaves starts again
pub restarted : (boot : Boot) (v w middle new : Seen) (a : Agent MemState) (before after : List ℕ) → v ≡ w → v.unit ≡ Some a → a.unit.leaving ≡ Some boot
    → ((e : Ends) (u : Onu) → EndsStand (record v { unit = Some a }) e → e.unit ≡ Some u → OffStands middle e u.store.slots) → middle.held ≡ v.held
    → ((e : Ends) (s : SlotPair) → OffStands middle e s → Follows (unit_starts boot s e) e middle new before after)
    → (e : Ends) → EndsStand w e → Follows (unit_ticks e.unit e) e w new before after
restarted boot v w middle new a before after same on leaves off held wakes e s =
    let at : EndsStand v e = subst (λ (x : Seen). EndsStand x e) (sym same) s in
    let here = on_stands v e a at on in
    let u = here.unit in
    let some : u.leaving ≡ Some boot = sym here.runs.stands.stands.leaving_is ∙ leaves in
    let f = wakes e u.store.slots (off e u (subst (λ (o : Option (Agent MemState)). EndsStand (record v { unit = o }) e) on at) here.unit_is) in
    seen_as (unit_ticks e.unit e) e v w new before after same
    (subst (λ (o : Option Onu). Follows (unit_ticks o e) e v new before after) (sym here.unit_is)
    (subst (λ (o : Option Boot). Follows (restarts o u e) e v new before after) (sym some)
    (record {
      ends = f.ends;
      held = f.held ∙ ap (λ h. held_read (unit_starts boot u.store.slots e).happenings h) held;
      text = f.text ∙ ap (λ (h : Held). before ++ lines_text e.event h.count (unit_starts boot u.store.slots e).happenings) held;
    })))

-- ---- cuts amid a packet

-- the disk after one
pub cut_amid_there : (call : ℕ) (pick : Pick) (v w new : Seen) (a b c : Agent MemState) (d : Did) (reply bytes : List ℕ) (disk : MemState) → v ≡ w → v.unit ≡ Some a
    → ((u : Onu) → AgentStands reads MayLeave a u → AgentStands reads MayLeave b u)
    → ((old new : Form MemState) (r : Rigged) → a.unit.images.state ≡ Some old → b.unit.images.state ≡ Some new
    → rig (state_disk old) ≡ Some r → rig (state_disk new) ≡ Some (record r { trap = Fuse call pick }))
    → ((u : Onu) → AgentStands reads MayLeave b u → Received reads MayLeave clock left_since rig faults b.unit c.unit d reply bytes u)
    → ((state : Form MemState) → c.unit.images.state ≡ Some state → disk ≡ state_disk state)
    → new ≡ record v { unit = None; disk = Some (record (after_restore disk) { trap = Clear }) }
    → (e : Ends) (u : Onu) → EndsStand w e → e.unit ≡ Some u → EndsStand new (cut_amid call pick (packet_deed bytes u) u e).ends
cut_amid_there call pick v w new a b c d reply bytes disk same on rigs trap received stops new_is e u s unit_is =
    let at : EndsStand v e = subst (λ (x : Seen). EndsStand x e) (sym same) s in
    let here = on_stands v e a at on in
    let is : here.unit ≡ u = same_unit here.unit u (sym here.unit_is ∙ unit_is) in
    let runs : AgentRuns e.room v.length a u = subst (λ (x : Onu). AgentRuns e.room v.length a x) is here.runs in
    let rigged = rigs u runs.stands in
    let r = received u rigged in
    let left = cut_stands e.room v.length a b c u d reply bytes call pick rigged.stands.images.state r.disk.after runs rigged.stands.images.state_is trap r r.disk.after_is in
    let f = (cut_amid call pick (packet_deed bytes u) u e).ends in
    subst (λ (x : Seen). EndsStand x f) (sym new_is) (record {
      event_is = at.event_is;
      lives_is = at.lives_is;
      size_is = at.size_is;
      manager_is = at.manager_is;
      unit = subst (λ (m : MemState). DiskStands e.room v.length (record (after_restore m) { trap = Clear }) f.slots) (sym (stops r.disk.after r.disk.after_is)) left;
    })

-- a packet that doesn't come to the unit
pub not_down : (call : ℕ) (pick : Pick) (number : ℕ) (w : Seen) (before after : List ℕ) → goes_down (held_allowed number w.held) ≡ false
    → after ≡ before ++ line_text w.event effect.NotEnabled
    → (e : Ends) → EndsStand w e → Follows (cut_of call pick (held_allowed number w.held) number e) e w w before after
unfolding cut_in
not_down call pick number w before after none is e s =
    subst (λ (t : Step). Follows t e w w before after) (sym (by (held_allowed number w.held) none)) (not_enabled_there e w before after s is)
  where
    at : (d : Direction) (p : Sent) → is_down d ≡ false → cut_at call pick d (PacketCame number p ∷ []) p.bytes e ≡ not_enabled e
    at Down p up = absurd (cc)
    at Up p up = refl

    by : (o : Option Sent) → goes_down o ≡ false → cut_of call pick o number e ≡ not_enabled e
    by None up = refl
    by (Some p) up = at p.direction p up

-- one that comes to a unit that is off
pub down_to_none : (call : ℕ) (pick : Pick) (number : ℕ) (v w : Seen) (before after : List ℕ) → v ≡ w → v.unit ≡ None
    → after ≡ before ++ line_text w.event effect.NotEnabled
    → (e : Ends) → EndsStand w e → Follows (cut_of call pick (held_allowed number w.held) number e) e w w before after
unfolding cut_in
down_to_none call pick number v w before after same out is e s =
    subst (λ (t : Step). Follows t e w w before after) (sym (by (held_allowed number w.held))) (not_enabled_there e w before after s is)
  where
    at : (d : Direction) (p : Sent) → cut_at call pick d (PacketCame number p ∷ []) p.bytes e ≡ not_enabled e
    at Down p = ap (λ o. unit_cut_amid call pick (PacketCame number p ∷ []) p.bytes o e) (off_unit w e s (ap (λ (x : Seen). x.unit) (sym same) ∙ out))
    at Up p = refl

    by : (o : Option Sent) → cut_of call pick o number e ≡ not_enabled e
    by None = refl
    by (Some p) = at p.direction p

-- the power goes amid a packet that comes to the unit
cut_in_at : (call : ℕ) (pick : Pick) (number : ℕ) (o : Option Sent) (w new : Seen) (h : Held) (bytes before after : List ℕ)
    → held_allowed number w.held ≡ o → goes_down o ≡ true → is_some w.unit ≡ true → h ≡ held_after number w.held
    → Some bytes ≡ option_map (λ s. s.bytes) o
    → ((e : Ends) (u : Onu) → EndsStand (record w { held = h }) e → e.unit ≡ Some u → EndsStand new (cut_amid call pick (packet_deed bytes u) u e).ends)
    → new.held ≡ h → after ≡ before ++ line_text new.event effect.Cut
    → (e : Ends) → EndsStand w e → Follows (cut_of call pick (held_allowed number w.held) number e) e w new before after
unfolding cut_in
cut_in_at call pick number None w new h bytes before after is down on h_is packet cut held text e s = absurd (cc)
cut_in_at call pick number (Some p) w new h bytes before after is down on h_is packet cut held text e s =
    subst (λ (o : Option Sent). Follows (cut_of call pick o number e) e w new before after) (sym is)
    (at p.direction down e.unit refl (sym on ∙ unit_on e.room w.length w.unit w.disk e.unit e.slots s.unit))
  where
    bytes_are : bytes ≡ p.bytes
    bytes_are = cc

    came : new.held ≡ held_delivered number p w.held
    came = held ∙ h_is ∙ carried_by number (Some p) p w.held is refl

    by : (o : Option Onu) → e.unit ≡ o → true ≡ is_some o
        → Follows (unit_cut_amid call pick (PacketCame number p ∷ []) p.bytes o e) e w new before after
    by None unit_is there = absurd (cc)
    by (Some u) unit_is there =
        let entries = entries_before (packet_deed p.bytes u) in
        let stands = cut e u (record { event_is = s.event_is; lives_is = s.lives_is; size_is = s.size_is; manager_is = s.manager_is; unit = s.unit }) unit_is in
        record {
          ends = subst (λ (b : List ℕ). EndsStand new (cut_amid call pick (packet_deed b u) u e).ends) bytes_are stands;
          held = came ∙ sym (stored_held (reverse entries) (PowerCut ∷ []) (held_delivered number p w.held));
          text =
              text
              ∙ ap (λ n. before ++ line_text n effect.Cut) stands.event_is
              ∙ sym (one_line before (line_text e.event effect.Cut))
              ∙ ap (λ t. before ++ t) (sym (stored_silent e.event w.held.count (reverse entries) (PowerCut ∷ [])));
        }

    at : (d : Direction) → is_down d ≡ true → (o : Option Onu) → e.unit ≡ o → true ≡ is_some o
        → Follows (cut_at call pick d (PacketCame number p ∷ []) p.bytes e) e w new before after
    at Down goes o unit_is there =
        subst (λ (x : Option Onu). Follows (unit_cut_amid call pick (PacketCame number p ∷ []) p.bytes x e) e w new before after) (sym unit_is) (by o unit_is there)
    at Up goes o unit_is there = absurd (cc)

-- whether it may come
pub down_allowed : (o : Option Sent) → goes_down o ≡ true → is_some o ≡ true
down_allowed None down = absurd (cc)
down_allowed (Some p) down = refl

pub cut_in_followed : (call : ℕ) (pick : Pick) (number : ℕ) (o : Option Sent) (v w new : Seen) (h : Held) (bytes before after : List ℕ) → v ≡ w
    → held_allowed number v.held ≡ o → goes_down o ≡ true → is_some v.unit ≡ true → h ≡ held_after number v.held
    → Some bytes ≡ option_map (λ s. s.bytes) o
    → ((e : Ends) (u : Onu) → EndsStand (record v { held = h }) e → e.unit ≡ Some u → EndsStand new (cut_amid call pick (packet_deed bytes u) u e).ends)
    → new.held ≡ h → after ≡ before ++ line_text new.event effect.Cut
    → (e : Ends) → EndsStand w e → Follows (cut_of call pick (held_allowed number w.held) number e) e w new before after
cut_in_followed call pick number o v w new h bytes before after same is down on h_is packet cut held text =
    subst (λ (x : Seen). (e : Ends) → EndsStand x e → Follows (cut_of call pick (held_allowed number x.held) number e) e x new before after) same
    (cut_in_at call pick number o v new h bytes before after is down on h_is packet cut held text)

-- ---- the fields of a world

pub placed : (event lives size : ℕ) (manager : Option Manager) (held : Held) (o : Option (Agent MemState)) (d disk : MemState) → o ≡ None → d ≡ disk
    → ◌≡◌ {A = Seen} (record { event = event; lives = lives; length = size; unit = o; disk = Some d; manager = manager; held = held })
    (record { event = event; lives = lives; length = size; unit = None; disk = Some disk; manager = manager; held = held })
placed event lives size manager held o d disk none is =
    ap (λ x. record { event = event; lives = lives; length = size; unit = x; disk = Some d; manager = manager; held = held }) none
    ∙ ap (λ (m : MemState). record { event = event; lives = lives; length = size; unit = None; disk = Some m; manager = manager; held = held }) is

pub put_back : (disk restored disarmed : MemState) → restored ≡ after_restore disk → disarmed ≡ record restored { trap = Clear }
    → disarmed ≡ record (after_restore disk) { trap = Clear }
put_back disk restored disarmed back clear = clear ∙ ap (λ (m : MemState). record m { trap = Clear }) back

pub on_seen : (v w : Seen) → v ≡ w → is_some v.unit ≡ true → is_some w.unit ≡ true
on_seen v w same on = ap (λ (x : Seen). is_some x.unit) (sym same) ∙ on

pub down_seen : (number : ℕ) (v w : Seen) → v ≡ w → goes_down (held_allowed number w.held) ≡ true → goes_down (held_allowed number v.held) ≡ true
down_seen number v w same down = ap (λ (x : Seen). goes_down (held_allowed number x.held)) same ∙ down

pub off_seen : (v w : Seen) → v ≡ w → v.unit ≡ None → w.unit ≡ None
off_seen v w same off = ap (λ (x : Seen). x.unit) (sym same) ∙ off

pub emptied : (v w : Seen) (h : Held) → v ≡ w → h ≡ held_emptied v.held → record v { held = h } ≡ record w { held = held_emptied w.held }
emptied v w h same is = ap (λ x. record v { held = x }) is ∙ ap (λ (x : Seen). record x { held = held_emptied x.held }) same

same_mem : (a b : MemState) → ◌≡◌ {A = Option MemState} (Some a) (Some b) → a ≡ b
same_mem a b e = cc

-- an agent started on the disk
pub agent_started : (boot : Boot) (room : ℕ) (s : SlotPair) (v w : Seen) (n : ℕ) (o : Option MemState) (disk d : MemState) (a : Agent MemState) → v ≡ w
    → n ≡ v.lives + 1 → o ≡ None → v.disk ≡ Some d → w.disk ≡ Some disk → DiskStands room w.length disk s
    → ((room : ℕ) (s : SlotPair) (bytes : List ℕ) → reads d ≡ Some bytes → v.length ≡ length bytes → StandsAt room bytes s
    → AgentStands reads MayLeave a (onu_started boot room s))
    → ((state : Form MemState) → a.unit.images.state ≡ Some state
    → Started reads MayLeave clock left_since rig faults v.length d (state_disk state) false)
    → ((bytes : List ℕ) → reads d ≡ Some bytes → (state : Form MemState) → a.unit.images.state ≡ Some state
    → HasLength MayLeave (length bytes) (state_disk state))
    → Woken boot room s w (record v { lives = n; unit = Some a; disk = o })
agent_started boot room s v w n o disk d a same lives none was is stands starts started long =
    let here : DiskStands room v.length d s =
    subst (λ (k : ℕ). DiskStands room k d s) (sym (ap (λ (x : Seen). x.length) same))
    (subst (λ (m : MemState). DiskStands room w.length m s) (same_mem disk d (sym is ∙ ap (λ (x : Seen). x.disk) (sym same) ∙ was)) stands) in
    subst (λ (x : Seen). Woken boot room s x (record v { lives = n; unit = Some a; disk = o })) same (record {
      agent = a;
      new_is = ap (λ k. record v { lives = k; unit = Some a; disk = o }) lives ∙ ap (λ x. record v { lives = v.lives + 1; unit = Some a; disk = x }) none;
      runs = started_runs room v.length d s boot a here (starts room s d.bytes refl (sym here.long) here.slots) started (long d.bytes refl);
    })

-- ---- how a world begins

-- the factory's disk
pub factory_stands : (room size : ℕ) (zeros d e : MemState) (header : DiskHeader) (image : List ℕ) → zeros ≡ zero_disk size → size ≡ disk_bytes room
    → e ≡ d → header.room ≡ room → Settled reads MayLeave d header (formatted_slots image)
    → ((bytes : List ℕ) → reads zeros ≡ Some bytes → HasLength MayLeave (formatted_length room (length bytes)) d)
    → ((r : Rigged) → rig zeros ≡ Some r → (after : Rigged) × (rig d ≡ Some after) × FormatLeaves room image r after)
    → DiskStands room size e (factory_slots image)
factory_stands room size zeros d e header image is sized same room_is settled long leaves =
    subst (λ (m : MemState). DiskStands room size m (factory_slots image)) (sym same) (record {
      long =
          let many : length zeros.bytes ≡ size = ap (λ (m : MemState). length m.bytes) is ∙ length-replicate {A = ℕ} size 0 in
          long zeros.bytes refl d.bytes (leaves_seen_of d d.bytes refl)
          ∙ ap (λ n. formatted_length room n) (many ∙ sized)
          ∙ omega arith
          ∙ sym sized;
      slots = subst (λ (n : ℕ). StandsAt n d.bytes (factory_slots image)) room_is
          (subst (λ (b : List ℕ). StandsAt header.room b (factory_slots image)) (same_bytes settled.bytes d.bytes settled.reads) settled.shows.stands);
      clear =
          let l = leaves (rig_of zeros) refl in
          ap (λ (x : Rigged). x.trap) (same_rig (rig_of d) l.0 l.1) ∙ l.2.clear (ap (λ (m : MemState). m.trap) is);
    })

-- both ends as they start
pub first_stands : (h : Header) (size : ℕ) (disk : MemState) (old new : Seen) → old ≡ unstarted size disk h → size ≡ disk_bytes h.room
    → DiskStands h.room size disk (factory_slots h.factory)
    → ((room : ℕ) (d : MemState) (s : SlotPair) → old.disk ≡ Some d → DiskStands room old.length d s → Woken PowerUp room s old new)
    → Stands new (first_nodes h)
first_stands h size disk old new is sized stands wakes =
    let woken = subst (λ (x : Seen). (room : ℕ) (d : MemState) (s : SlotPair) → x.disk ≡ Some d → DiskStands room x.length d s → Woken PowerUp room s x new) is wakes h.room disk (factory_slots h.factory) refl stands in
    subst (λ (x : Seen). Stands x (first_nodes h)) (sym woken.new_is) (record {
      ends = record {
        event_is = refl;
        lives_is = refl;
        size_is = sized;
        manager_is = refl;
        unit = woken.runs;
      };
      held = refl;
    })
