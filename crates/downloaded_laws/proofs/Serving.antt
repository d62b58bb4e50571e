-- Packets that come to the unit while a download runs.
use Rattle.std.proofs.Common.{◌≡◌, ◌≢◌, ℕ, ◌≤◌, Bool, true, false, List, [], ◌∷◌, ◌++◌, length, reverse, slice_get, Option, Some, None, ◌⊎◌, inl, inr, refl, sym, ap, subst, ◌∙◌}
use Rattle.std.proofs.lemmas.Option.{same_Some}
use Rattle.std.proofs.lemmas.Bool.{false≢true}
use Rattle.std.specs.List.{Contains}
use Rattle.omci_types.specs.declared.EntityId.{EntityId}
use Rattle.omci_types.specs.declared.Frame.{Frame}
use Rattle.omci_types.specs.declared.Priority.{Priority}
use Rattle.omci_types.specs.declared.Priority.TheVariants.{Low, High}
use Rattle.frame_spec.specs.Baseline.{spelling, packet_frame}
use Rattle.message_spec.specs.declared.Message.TheVariants.{Asked}
use Rattle.message_spec.specs.declared.Request.{Request}
use Rattle.message_spec.specs.declared.Request.TheVariants as request
use Rattle.message_spec.specs.Reading.{plain, IsMessage}
use Rattle.retry_spec.specs.Kept.{kept_for}
use Rattle.link_spec.specs.declared.Direction.TheVariants.{Down}
use Rattle.link_spec.specs.Link.{Sent, Link, lane_of}
use Rattle.window_spec.specs.Outgoing.{Outgoing}
use Rattle.store_spec.specs.History.{StoreEntry}
use Rattle.store_spec.specs.Deeds.{Deed, Ignore, Refuse, RefuseWindow, GiveUp, Begin, Hold, Put, Seal, Activate, Commit, Recommit}
use Rattle.store_spec.specs.Effects.{entries_before}
use Rattle.lane_spec.specs.Command.{job_command}
use Rattle.lane_spec.specs.Lane.{Waiting, waiting_packets}
use Rattle.manager_spec.specs.Manager.{Order, Stage, Probing, Asking, Gathering, AskingAlarms, GatheringRows, StartingImage, SendingImage, EndingImage, DelayingEnd, Manager}
use Rattle.manager_spec.specs.Upgrade.{image_entity}
use Rattle.unit_spec.specs.declared.Did.{Did}
use Rattle.unit_spec.specs.declared.Did.TheVariants as did
use Rattle.unit_spec.specs.declared.Note.{Note}
use Rattle.unit_spec.specs.declared.Note.TheVariants as note
use Rattle.unit_spec.specs.Onu.{Onu, Reception, Answer, answer, image_deed, image_handled, hold_section, onu_received}
use Rattle.history_spec.specs.History.{LastReply, WasCarried, LastChecked, DownloadedRight}
use Rattle.world_spec.specs.Happenings.{PacketCame, PowerCut}
use Rattle.world_spec.specs.Ends.{unit_deed, stored}
use Rattle.world_spec.specs.History.{Told, name_at, tell_all}
use Rattle.download_laws.specs.Carrying.{IsSectionOf, Carried}
use Rattle.download_laws.proofs.Carrying.{section_carries}
use Rattle.resync_laws.proofs.Reading.{is_plain, plain_asked}
use Rattle.resync_laws.proofs.Unit.{IsIdle, same_asked}
use Rattle.resync_laws.proofs.Invariants.{sent_at, IsMade, IsSent, IsApart, Good as Kept}
use Rattle.resync_laws.proofs.Telling.{tell_append}
use Rattle.resync_laws.proofs.Serving.{history_after, unit_after, IsWaited}
use Rattle.downloaded_laws.proofs.Reading.{IsReadAs, exact_read, start_exact, end_exact, section_exact}
use Rattle.downloaded_laws.proofs.Unit.{LeavesAside, HoldsIt, CarriesIt, ComesIn, comes_in, one_request, held_idle, held_stored, quiet_of, start_begins, window_puts, IsEnd, end_seals, NoCheck, IsBeside, beside_before, plain_beside, IsBesideAnswer, carries_beside, AsksOf}
use Rattle.downloaded_laws.proofs.Invariants.{state_of, Has, HasFront, HasImage, Starts, Sends, Ends, AtStage, stage_kept, Good, passes_same, lane_same, keeps_of}
use Rattle.downloaded_laws.proofs.Telling.{Steady}
use Rattle.downloaded_laws.proofs.Deeds.{has_at, held_case, one_packet, one_section, Entered, entered}
use Rattle.downloaded_laws.proofs.Carrying.{told_carried, told_answer, later, start_after, window_after, end_after, aside_after}

-- ---- what is known of a packet that no kept reply answers

-- its command wasn't carried out in this life, and in a proved low lane it is the outstanding one
pub record AreServed (lives : ℕ) (manager : Option Manager) (t : Told) (number : ℕ) (s : Sent)
    (u : Onu) : Type 0 where
  pub fresh : (f : Frame) → packet_frame s.bytes ≡ Some f → kept_for f.tci u.kept ≡ None
      → WasCarried lives (name_at number t.names) t.history → ⊥
  pub waited : (m : Manager) (f : Frame) → manager ≡ Some m → m.low.proved ≡ true
      → lane_of s.bytes ≡ Low → packet_frame s.bytes ≡ Some f → kept_for f.tci u.kept ≡ None
      → IsWaited m.low t number s.bytes

-- ---- a packet comes

-- all is well after it
abbrev pub ServedWhole : Reception → ℕ → Sent → ℕ → Onu → Option Manager → Told → Type 0
ServedWhole r number s lives u manager t =
    Good lives (Some r.unit) manager
    (tell_all (PacketCame number s ∷ unit_deed r.did r.reply u lives ++ stored r.stored) t)

-- what is told where nothing is carried out
idle_steady : (d : Did) (reply : List ℕ) (number : ℕ) (s : Sent) (lives : ℕ) (u : Onu) (t : Told)
    → IsIdle d → Steady t (tell_all (PacketCame number s ∷ unit_deed d reply u lives) t)
idle_steady did.Dropped reply number s lives u t i =
    record { low = refl; drawn = refl; passes = passes_same t.history; right = λ r. r }
idle_steady did.Held reply number s lives u t i =
    record { low = refl; drawn = refl; passes = passes_same t.history; right = λ r. r }
idle_steady did.Kept reply number s lives u t i =
    record { low = refl; drawn = refl; passes = passes_same t.history; right = λ r. r }
idle_steady (did.Carried n) reply number s lives u t i = absurd i

-- and nothing of the store
nothing_stored : (es : List StoreEntry) (d : Did) (reply : List ℕ) (number : ℕ) (s : Sent)
    (lives : ℕ) (u : Onu) (t : Told) → es ≡ []
    → tell_all (PacketCame number s ∷ unit_deed d reply u lives ++ stored es) t
    ≡ tell_all (PacketCame number s ∷ unit_deed d reply u lives) t
nothing_stored es d reply number s lives u t e =
    let hs = PacketCame number s ∷ unit_deed d reply u lives in
    tell_append hs (stored es) t
    ∙ ap (λ (l : List StoreEntry). tell_all (stored l) (tell_all hs t)) e

module _ (number : ℕ) (s : Sent) (link : Link) (lives : ℕ) (u : Onu) (manager : Option Manager) (t : Told) (k : Kept link.packets lives (Some u) manager t) (h : Good lives (Some u) manager t) (there : slice_get link.packets number ≡ Some s) (way : s.direction ≡ Down) (served : AreServed lives manager t number s u) where
  made : IsMade s
  made = (sent_at (IsSent t.drawn) link.packets t.names number s k.sent there way).1

  name_apart : (m : Manager) (w : Waiting) → manager ≡ Some m → m.low.outstanding ≡ Some w
      → lane_of s.bytes ≡ High → name_at number t.names ≢ t.low
  name_apart m w e waits lane =
      sent_at (IsApart t.low) link.packets t.names number s (k.apart m w e waits) there way lane

  -- the waiting command is the stage's
  waiting_is : (m : Manager) (v w : Waiting) → m.low.outstanding ≡ Some v
      → m.low.outstanding ≡ Some w → v.command ≡ w.command
  waiting_is m v w e f = ap (λ (x : Waiting). x.command) (same_Some v w (sym e ∙ f))

  low_tci : (m : Manager) (w : Waiting) → manager ≡ Some m → m.low.outstanding ≡ Some w
      → w.tci ≤ 32767
  low_tci m w e waits = ((k.lanes m e).low_out w waits).0

  -- ---- nothing changes

  aside_good : (r : Reception) → LeavesAside u r → ServedWhole r number s lives u manager t
  aside_good r l =
      let v = tell_all (PacketCame number s ∷ unit_deed r.did r.reply u lives) t in
      let st = idle_steady r.did r.reply number s lives u t l.did_is in
      subst (Good lives (Some r.unit) manager)
      (sym (nothing_stored r.stored r.did r.reply number s lives u t l.stored))
      (record {
        job = λ m e x g.
            stage_kept (state_of lives (Some u) m t) _
            (keeps_of lives (Some u) (Some r.unit) m m t v st.low st.passes
            (lane_same m.low m.low refl)
            (λ w y on has. (
              u,
              refl,
              sym l.download ∙ ap (λ (z : Onu). z.store.download) (same_Some r.unit w on) ∙ has,
            ))) x (h.job m e x g);
        right = st.right h.right;
      })

  -- ---- a section is held

  module _ (c : HoldsIt s.bytes u (onu_received false s.bytes u)) where
    abbrev held_deed : Deed
    held_deed = image_deed c.frame (request.Section c.number c.piece false) u

    abbrev held_unit : Onu
    held_unit = image_handled false held_deed c.frame.entity.instance u

    not_plain : {A : Type 0} (q : Request) (tci : ℕ) (entity : EntityId)
        → s.bytes ≡ spelling (plain (Asked tci entity q)) → is_plain q ≡ true → A
    not_plain q tci entity spelled plainly =
        let g = plain_asked tci entity q c.frame plainly (ap packet_frame (sym spelled) ∙ c.read) in
        let same = one_request c.frame c.frame.tci c.tci c.frame.entity c.entity g.asked
        (request.Section c.number c.piece false) g.is c.asked in
        absurd (false≢true (ap is_plain (sym same) ∙ g.plainly))

    held_lane : lane_of s.bytes ≡ Low
    held_lane = elim made.lane as (λ _. lane_of s.bytes ≡ Low) [
      | inl low ↦ low
      | inr plainly ↦ not_plain made.request made.tci made.entity made.bytes plainly
    ]

    -- the packet is no other request
    not_single : {A : Type 0} (m : Manager) (w : Waiting) (entity : EntityId) (q : Request)
        → m.low.outstanding ≡ Some w → IsWaited m.low t number s.bytes
        → w.command ≡ job_command entity q → IsMessage (Asked w.tci entity q)
        → (q ≡ request.Section c.number c.piece false → A) → A
    not_single m w entity q waits x command exact f =
        let same : x.waiting ≡ w = same_Some x.waiting w (sym x.waits ∙ waits) in
        let spelled = one_packet w entity q s.bytes
        (subst (λ v. Contains (waiting_packets (Some v)) s.bytes) same x.among) command in
        let r = exact_read w.tci entity q s.bytes c.frame exact spelled c.read in
        f (one_request c.frame w.tci c.tci entity c.entity q
        (request.Section c.number c.piece false) r.is c.asked)

    held_window : (m : Manager) → manager ≡ Some m → (order : Order) (o : Outgoing)
        → Sends (state_of lives (Some u) m t) order o → (v : Told) → Steady t v
        → Sends (state_of lives (Some held_unit) m v) order o
    held_window m e order o at v st =
        let x = served.waited m c.frame e at.proved held_lane c.read c.unkept in
        let same : x.waiting ≡ at.waiting = same_Some x.waiting at.waiting (sym x.waits ∙ at.waits) in
        let never : WasCarried lives v.low v.history → ⊥ = (λ was.
        served.fresh c.frame c.read c.unkept
        (subst (λ n. WasCarried lives n t.history) (st.low ∙ sym x.name)
        (st.passes.was lives v.low was))) in
        let one = one_section order o at.waiting s.bytes at.sending
        (subst (λ w. Contains (waiting_packets (Some w)) s.bytes) same x.among) at.command in
        let exact = section_exact at.waiting.tci order o one.number one.bytes one.last
        (low_tci m at.waiting e at.waits) at.sending.ordered at.sending.most one.section in
        let r = exact_read at.waiting.tci (image_entity order.slot)
        (request.Section one.number one.bytes one.last) s.bytes c.frame exact one.is c.read in
        let is = one_request c.frame at.waiting.tci c.tci (image_entity order.slot) c.entity
        (request.Section one.number one.bytes one.last)
        (request.Section c.number c.piece false) r.is c.asked in
        record {
          sending = at.sending;
          proved = at.proved;
          waiting = at.waiting;
          waits = at.waits;
          command = at.command;
          before = λ fresh.
              has_at held_unit (HasFront order o)
              (held_case held_deed o order u.store.download
              (quiet_of c.frame c.number c.piece u)
              (λ l has.
              let f = at.before
              (λ was. fresh (subst (λ n. WasCarried lives n v.history) (sym st.low)
              (st.passes.still lives t.low was))) u l refl has in (
                f.target,
                subst (λ q. Carried o (image_deed c.frame q u) l) is
                    (section_carries o u.room c.frame.tci c.frame.entity one.number one.bytes one.last
                    u.store l has f.has one.section),
              )));
          reply = λ y last.
              let w = at.reply y
              (subst (λ n. LastReply n y t.history) st.low (st.passes.last v.low y last)) in
              record {
                number = w.number;
                section = w.section;
                frame = w.frame;
                is = w.is;
                says = λ was. absurd (never was);
              };
        }

    held_stage : (m : Manager) → manager ≡ Some m → (x : Stage)
        → AtStage (state_of lives (Some u) m t) x → (v : Told) → Steady t v
        → AtStage (state_of lives (Some held_unit) m v) x
    held_stage m e (Probing high low) at v st = tt
    held_stage m e Asking at v st = tt
    held_stage m e (Gathering expected next copy) at v st = tt
    held_stage m e AskingAlarms at v st = tt
    held_stage m e (GatheringRows expected next) at v st = tt
    held_stage m e (StartingImage order asked image) at v st =
        let x = served.waited m c.frame e at.proved held_lane c.read c.unkept in
        not_single m at.waiting (image_entity order.slot)
        (request.Start asked (length image) 1 order.slot) at.waits x at.command
        (start_exact at.waiting.tci asked order image (low_tci m at.waiting e at.waits) at.ordered
        at.some at.most) (λ q. absurd (cc))
    held_stage m e (SendingImage order o resent) at v st = held_window m e order o at v st
    held_stage m e (EndingImage order image busy) at v st =
        let x = served.waited m c.frame e at.proved held_lane c.read c.unkept in
        not_single m at.waiting (image_entity order.slot)
        (request.End order.check (length image) 1 order.slot) at.waits x at.command
        (end_exact at.waiting.tci order image (low_tci m at.waiting e at.waits) at.ordered)
        (λ q. absurd (cc))
    held_stage m e (DelayingEnd order image busy) at v st =
        let x = served.waited m c.frame e at.proved held_lane c.read c.unkept in
        let none = at.none in let some = x.waits in absurd (cc)

    held_good : ServedWhole (onu_received false s.bytes u) number s lives u manager t
    held_good =
        let q = quiet_of c.frame c.number c.piece u in
        let r = hold_section false held_deed c.frame.entity.instance u in
        let v = tell_all (PacketCame number s ∷ unit_deed r.did r.reply u lives) t in
        let st = idle_steady r.did r.reply number s lives u t (held_idle held_deed q) in
        subst (λ x. ServedWhole x number s lives u manager t) (sym c.is)
        (subst (Good lives (Some held_unit) manager)
        (sym (nothing_stored r.stored r.did r.reply number s lives u t (held_stored held_deed q)))
        (record {
          job = λ m e x g. held_stage m e x (h.job m e x g) v st;
          right = st.right h.right;
        }))

  -- ---- a request is carried out

  module _ (c : CarriesIt s.bytes u (onu_received false s.bytes u)) where
    abbrev answered : Answer
    answered = c.carries.answer

    abbrev f : Frame
    f = c.carries.frame

    waited_for : (m : Manager) → manager ≡ Some m → m.low.proved ≡ true → lane_of s.bytes ≡ Low
        → IsWaited m.low t number s.bytes
    waited_for m e proved lane = served.waited m f e proved lane c.carries.read c.unkept

    -- the request that was read is that of the command
    single : (m : Manager) (w : Waiting) (entity : EntityId) (q : Request)
        → m.low.outstanding ≡ Some w → IsWaited m.low t number s.bytes
        → w.command ≡ job_command entity q → IsMessage (Asked w.tci entity q)
        → IsReadAs f w.tci entity q
    single m w entity q waits x command exact =
        let same : x.waiting ≡ w = same_Some x.waiting w (sym x.waits ∙ waits) in
        exact_read w.tci entity q s.bytes f exact
        (one_packet w entity q s.bytes
        (subst (λ v. Contains (waiting_packets (Some v)) s.bytes) same x.among) command)
        c.carries.read

    window_stage : (m : Manager) → manager ≡ Some m → lane_of s.bytes ≡ Low → (order : Order)
        (o : Outgoing) → Sends (state_of lives (Some u) m t) order o
        → Sends (later lives u m number s t f.tci answered) order o
    unfolding answer
    window_stage m e lane order o at =
        let x = waited_for m e at.proved lane in
        let same : x.waiting ≡ at.waiting = same_Some x.waiting at.waiting (sym x.waits ∙ at.waits) in
        let one = one_section order o at.waiting s.bytes at.sending
        (subst (λ w. Contains (waiting_packets (Some w)) s.bytes) same x.among) at.command in
        let exact = section_exact at.waiting.tci order o one.number one.bytes one.last
        (low_tci m at.waiting e at.waits) at.sending.ordered at.sending.most one.section in
        let r = exact_read at.waiting.tci (image_entity order.slot)
        (request.Section one.number one.bytes one.last) s.bytes f exact one.is c.carries.read in
        go one.number one.bytes one.last one.section r x.name
      where
        go : (n : ℕ) (bytes : List ℕ) (last : Bool) → IsSectionOf o n bytes last
            → IsReadAs f at.waiting.tci (image_entity order.slot) (request.Section n bytes last)
            → name_at number t.names ≡ t.low
            → Sends (later lives u m number s t f.tci answered) order o
        go n bytes false section r own =
            absurd (false≢true (sym (c.loud at.waiting.tci (image_entity order.slot)
            (request.Section n bytes false) r.is)))
        go n bytes true section r own =
            let q = request.Section n bytes true in
            let fresh : WasCarried lives t.low t.history → ⊥ = (λ was.
            served.fresh f c.carries.read c.unkept
            (subst (λ y. WasCarried lives y t.history) (sym own) was)) in
            subst (λ a. Sends (later lives u m number s t f.tci a) order o)
            (sym (same_asked f u answered at.waiting.tci (image_entity order.slot) q r.is c.carries.from))
            (window_after lives u m number s t (image_deed f q u) order o f n own fresh
            (window_puts u.room f.tci f.entity n bytes u.store)
            (λ l has.
            let b = at.before fresh u l refl has in (
              b.target,
              section_carries o u.room f.tci f.entity n bytes true u.store l has b.has section,
            )) at)

    low_stage : (m : Manager) → manager ≡ Some m → lane_of s.bytes ≡ Low → (x : Stage)
        → AtStage (state_of lives (Some u) m t) x → AtStage (later lives u m number s t f.tci answered) x
    unfolding answer
    low_stage m e lane (Probing high low) at = tt
    low_stage m e lane Asking at = tt
    low_stage m e lane (Gathering expected next copy) at = tt
    low_stage m e lane AskingAlarms at = tt
    low_stage m e lane (GatheringRows expected next) at = tt
    low_stage m e lane (StartingImage order asked image) at =
        let x = waited_for m e at.proved lane in
        let q = request.Start asked (length image) 1 order.slot in
        let r = single m at.waiting (image_entity order.slot) q at.waits x at.command
        (start_exact at.waiting.tci asked order image (low_tci m at.waiting e at.waits) at.ordered
        at.some at.most) in
        subst (λ a. Starts (later lives u m number s t f.tci a) order asked image)
        (sym (same_asked f u answered at.waiting.tci (image_entity order.slot) q r.is c.carries.from))
        (start_after lives u m number s t (image_deed f q u) order asked image f asked x.name
        r.entity_is
        (start_begins u.room f.tci f.entity asked (length image) 1 order.slot u.store) at)
    low_stage m e lane (SendingImage order o resent) at = window_stage m e lane order o at
    low_stage m e lane (EndingImage order image busy) at =
        let x = waited_for m e at.proved lane in
        let q = request.End order.check (length image) 1 order.slot in
        let r = single m at.waiting (image_entity order.slot) q at.waits x at.command
        (end_exact at.waiting.tci order image (low_tci m at.waiting e at.waits) at.ordered) in
        subst (λ a. Ends (later lives u m number s t f.tci a) order image)
        (sym (same_asked f u answered at.waiting.tci (image_entity order.slot) q r.is c.carries.from))
        (end_after lives u m number s t (image_deed f q u) order image f x.name
        (end_seals u.room f.tci f.entity order.check (length image) 1 order.slot u.store) at)
    low_stage m e lane (DelayingEnd order image busy) at =
        let x = waited_for m e at.proved lane in
        let none = at.none in let some = x.waits in absurd (cc)

    high_beside : lane_of s.bytes ≡ High → IsBesideAnswer u answered
    high_beside lane = elim made.lane as (λ _. IsBesideAnswer u answered) [
      | inl low ↦ absurd (cc)
      | inr plainly ↦ carries_beside made.tci made.entity made.request s.bytes u (onu_received false s.bytes u) made.bytes plainly c.carries
    ]

    high_stage : (m : Manager) → manager ≡ Some m → lane_of s.bytes ≡ High → (x : Stage)
        → AtStage (state_of lives (Some u) m t) x → AtStage (later lives u m number s t f.tci answered) x
    high_stage m e lane (Probing high low) at = tt
    high_stage m e lane Asking at = tt
    high_stage m e lane (Gathering expected next copy) at = tt
    high_stage m e lane AskingAlarms at = tt
    high_stage m e lane (GatheringRows expected next) at = tt
    high_stage m e lane (StartingImage order asked image) at =
        aside_after lives u m number s t f.tci answered (high_beside lane)
        (name_apart m at.waiting e at.waits lane) (StartingImage order asked image) at
    high_stage m e lane (SendingImage order o resent) at =
        aside_after lives u m number s t f.tci answered (high_beside lane)
        (name_apart m at.waiting e at.waits lane) (SendingImage order o resent) at
    high_stage m e lane (EndingImage order image busy) at =
        aside_after lives u m number s t f.tci answered (high_beside lane)
        (name_apart m at.waiting e at.waits lane) (EndingImage order image busy) at
    high_stage m e lane (DelayingEnd order image busy) at = record {
      ordered = at.ordered;
      proved = at.proved;
      none = at.none;
      has = has_at (unit_after f.tci answered) (HasImage order image)
          (λ l has. at.has u l refl (sym (high_beside lane).download ∙ has));
    }

    stage_by : (l : Priority) → lane_of s.bytes ≡ l → (m : Manager) → manager ≡ Some m → (x : Stage)
        → AtStage (state_of lives (Some u) m t) x → AtStage (later lives u m number s t f.tci answered) x
    stage_by Low lane m e x at = low_stage m e lane x at
    stage_by High lane m e x at = high_stage m e lane x at

    right_by : (n : Option Note) → DownloadedRight (history_after n lives (name_at number t.names) (spelling answered.reply) u t.history)
    right_by None = h.right
    right_by (Some (note.Snapshot entities counter)) = h.right
    right_by (Some (note.Alarms rows)) = h.right
    right_by (Some (note.Sealed slot size check)) = h.right
    right_by (Some (note.Committed slot)) = h.right
    right_by (Some (note.Leaving boot)) = h.right

    -- what is told of it is what the answer says
    carried_told : (n : Option Note)
        → tell_all (PacketCame number s ∷ unit_deed (did.Carried n) (spelling answered.reply) u lives) t
        ≡ told_carried n lives number s (spelling answered.reply) u t
    carried_told None = refl
    carried_told (Some (note.Snapshot entities counter)) = refl
    carried_told (Some (note.Alarms rows)) = refl
    carried_told (Some (note.Sealed slot size check)) = refl
    carried_told (Some (note.Committed slot)) = refl
    carried_told (Some (note.Leaving boot)) = refl

    answer_told : tell_all (PacketCame number s ∷ unit_deed (did.Carried answered.note) (spelling answered.reply) u lives ++ stored answered.stored) t
        ≡ told_answer lives number s u t answered
    answer_told =
        tell_append (PacketCame number s ∷ unit_deed (did.Carried answered.note) (spelling answered.reply) u lives) (stored answered.stored) t
        ∙ ap (tell_all (stored answered.stored)) (carried_told answered.note)

    carried_good : ServedWhole (onu_received false s.bytes u) number s lives u manager t
    carried_good =
        let v = told_carried answered.note lives number s (spelling answered.reply) u t in
        subst (λ r. ServedWhole r number s lives u manager t) (sym c.carries.is)
        (subst (Good lives (Some (unit_after f.tci answered)) manager) (sym answer_told)
        (record {
          job = λ m e x g. stage_by (lane_of s.bytes) refl m e x (h.job m e x g);
          right = (entered (reverse answered.stored) v).right (right_by answered.note);
        }))

  received_good : ComesIn s.bytes u (onu_received false s.bytes u)
      → ServedWhole (onu_received false s.bytes u) number s lives u manager t
  received_good (inl l) = aside_good (onu_received false s.bytes u) l
  received_good (inr (inl c)) = held_good c
  received_good (inr (inr c)) = carried_good c

  pub unit_good : ServedWhole (onu_received false s.bytes u) number s lives u manager t
  unit_good = received_good (comes_in s.bytes u)

  -- ---- the power goes amid it

  -- what is told of the store before the first device call
  module _ (d : Deed) (v : Told) (told : Entered (reverse (entries_before d)) t v) where
    off_stage : (m : Manager) (x : Stage)
        → ((order : Order) (image : List ℕ) (busy : ℕ) → x ≡ EndingImage order image busy
        → LastChecked order.slot image t.history → LastChecked order.slot image v.history)
        → AtStage (state_of lives (Some u) m t) x → AtStage (state_of lives None m v) x
    off_stage m (Probing high low) checked at = tt
    off_stage m Asking checked at = tt
    off_stage m (Gathering expected next copy) checked at = tt
    off_stage m AskingAlarms checked at = tt
    off_stage m (GatheringRows expected next) checked at = tt
    off_stage m (StartingImage order asked image) checked at = record {
      ordered = at.ordered;
      some = at.some;
      most = at.most;
      proved = at.proved;
      waiting = at.waiting;
      waits = at.waits;
      command = at.command;
      reply = λ r last.
          let w = at.reply r (told.last t.low r (subst (λ n. LastReply n r v.history) told.low last)) in
          record {
            number = w.number;
            granted = w.granted;
            frame = w.frame;
            is = w.is;
            good = λ zero was y l on has. absurd (cc);
          };
    }
    off_stage m (SendingImage order o resent) checked at = record {
      sending = at.sending;
      proved = at.proved;
      waiting = at.waiting;
      waits = at.waits;
      command = at.command;
      before = λ fresh y l on has. absurd (cc);
      reply = λ r last.
          let w = at.reply r (told.last t.low r (subst (λ n. LastReply n r v.history) told.low last)) in
          record {
            number = w.number;
            section = w.section;
            frame = w.frame;
            is = w.is;
            says = λ was y l on has. absurd (cc);
          };
    }
    off_stage m (EndingImage order image busy) checked at = record {
      ordered = at.ordered;
      proved = at.proved;
      waiting = at.waiting;
      waits = at.waits;
      command = at.command;
      has = λ y l on has. absurd (cc);
      reply = λ r last.
          let w = at.reply r (told.last t.low r (subst (λ n. LastReply n r v.history) told.low last)) in
          record {
            number = w.number;
            frame = w.frame;
            is = w.is;
            good = λ zero. checked order image busy refl (w.good zero);
          };
    }
    off_stage m (DelayingEnd order image busy) checked at = record {
      ordered = at.ordered;
      proved = at.proved;
      none = at.none;
      has = λ y l on has. absurd (cc);
    }

  -- an end that is cut has checked the image
  cut_case : (d : Deed) (order : Order) (image : List ℕ) → IsEnd u.store.download d
      → Has (Some u) (HasImage order image) → (v : Told)
      → v ≡ tell_all (stored (entries_before d)) (record t { came = name_at number t.names; packet = s.bytes })
      → LastChecked order.slot image t.history → LastChecked order.slot image v.history
  cut_case (Seal slot sealed) order image b has v e last =
      let x = has u b.0 refl b.1 in
      subst (λ (y : Told). LastChecked order.slot image y.history) (sym e)
      (inl (b.2 ∙ x.target, b.3 ∙ x.put))
  cut_case (Refuse number') order image b has v e last =
      subst (λ (y : Told). LastChecked order.slot image y.history) (sym e) last
  cut_case (GiveUp number') order image b has v e last =
      subst (λ (y : Told). LastChecked order.slot image y.history) (sym e) last
  cut_case Ignore order image b has v e last = absurd b
  cut_case (RefuseWindow number') order image b has v e last = absurd b
  cut_case (Begin slot size granted) order image b has v e last = absurd b
  cut_case (Hold window) order image b has v e last = absurd b
  cut_case (Put bytes) order image b has v e last = absurd b
  cut_case (Activate leaves) order image b has v e last = absurd b
  cut_case (Commit slot) order image b has v e last = absurd b
  cut_case (Recommit slot) order image b has v e last = absurd b

  pub cut_good : (d : Deed) → (d ≡ Ignore) ⊎ AsksOf s.bytes u d
      → Good lives None manager
      (tell_all (PacketCame number s ∷ stored (entries_before d) ++ PowerCut ∷ []) t)
  cut_good d asks =
      let came : Told = record t { came = name_at number t.names; packet = s.bytes } in
      let v = tell_all (stored (entries_before d)) came in
      let x = entered (reverse (entries_before d)) came in
      let told : Entered (reverse (entries_before d)) t v = record {
        low = x.low;
        was = x.was;
        still = x.still;
        last = x.last;
        right = x.right;
        checked = x.checked;
      } in
      subst (Good lives None manager)
      (sym (tell_append (PacketCame number s ∷ stored (entries_before d)) (PowerCut ∷ []) t))
      (record {
        job = λ m e y g.
            off_stage d v told m y (λ order image busy is. checked_by asks m e order image busy v refl told
            (subst (AtStage (state_of lives (Some u) m t)) is (h.job m e y g))) (h.job m e y g);
        right = told.right h.right;
      })
    where
      checked_by : (d ≡ Ignore) ⊎ AsksOf s.bytes u d → (m : Manager) → manager ≡ Some m
          → (order : Order) (image : List ℕ) (busy : ℕ) (v : Told)
          → v ≡ tell_all (stored (entries_before d)) (record t { came = name_at number t.names; packet = s.bytes })
          → Entered (reverse (entries_before d)) t v
          → Ends (state_of lives (Some u) m t) order image
          → LastChecked order.slot image t.history → LastChecked order.slot image v.history
      checked_by (inl is) m e order image busy v told x at last =
          x.checked (subst (λ y. NoCheck (reverse (entries_before y))) (sym is) tt) order.slot image last
      checked_by (inr k') m e order image busy v told x at last = elim made.lane [
        | inl low ↦ (
            let w = served.waited m k'.frame e at.proved low k'.read k'.unkept in
            let same : w.waiting ≡ at.waiting = same_Some w.waiting at.waiting (sym w.waits ∙ at.waits) in
            let q = request.End order.check (length image) 1 order.slot in
            let r = exact_read at.waiting.tci (image_entity order.slot) q s.bytes k'.frame
            (end_exact at.waiting.tci order image (low_tci m at.waiting e at.waits) at.ordered)
            (one_packet at.waiting (image_entity order.slot) q s.bytes
            (subst (λ y. Contains (waiting_packets (Some y)) s.bytes) same w.among) at.command)
            k'.read in
            let asked = one_request k'.frame k'.tci at.waiting.tci k'.entity (image_entity order.slot) k'.asked q k'.is_asked r.is in
            cut_case d order image
            (subst (IsEnd u.store.download) (sym (k'.is ∙ ap (λ y. image_deed k'.frame y u) asked))
            (end_seals u.room k'.frame.tci k'.frame.entity order.check (length image) 1 order.slot u.store))
            at.has v told last
            )
        | inr plainly ↦ (
            let g = plain_asked made.tci made.entity made.request k'.frame plainly (ap packet_frame (sym made.bytes) ∙ k'.read) in
            let asked = one_request k'.frame k'.tci k'.frame.tci k'.entity k'.frame.entity k'.asked g.asked k'.is_asked g.is in
            let beside = plain_beside u.room k'.frame.tci k'.frame.entity g.asked u.store g.plainly in
            x.checked (beside_before d
            (subst IsBeside (sym (k'.is ∙ ap (λ y. image_deed k'.frame y u) asked)) beside))
            order.slot image last
            )
      ]
