-- A request that comes to the unit is carried out.
use Rattle.std.proofs.Common.{◌≡◌, ◌≢◌, ℕ, ◌<◌, ◌^◌, Bool, true, false, List, [], ◌∷◌, ◌++◌, Option}
use Rattle.std.proofs.Common.{Some, ◌⊎◌, inl, inr, ⊎_elim, refl, sym, ap, subst, ◌∙◌, arith}
use Rattle.std.proofs.lemmas.Option.{same_Some}
use Rattle.std.proofs.lemmas.Bool.{false≢true}
use Rattle.omci_types.specs.declared.EntityId.{EntityId}
use Rattle.message_spec.specs.declared.Request.{Request}
use Rattle.omci_types.specs.declared.Frame.{Frame}
use Rattle.omci_types.specs.declared.Priority.{Priority}
use Rattle.omci_types.specs.declared.Priority.TheVariants.{Low, High}
use Rattle.frame_spec.specs.Baseline.{spelling, packet_frame}
use Rattle.mib_spec.specs.Database.{has_unit_entities}
use Rattle.upload_spec.specs.Pieces.{Copy, without_makers}
use Rattle.link_spec.specs.declared.Direction.TheVariants.{Down, Up}
use Rattle.link_spec.specs.Link.{Sent, Link, lane_of, allowed, sent_on, delivered_on}
use Rattle.lane_spec.specs.Command.{Command, command_frame, is_changing}
use Rattle.lane_spec.specs.Lane.{Waiting}
use Rattle.manager_spec.specs.Manager.{Stage, Probing, Asking, Gathering, AskingAlarms}
use Rattle.manager_spec.specs.Manager.{GatheringRows, Manager}
use Rattle.manager_spec.specs.Manager.{StartingImage, SendingImage, EndingImage, DelayingEnd}
use Rattle.manager_spec.specs.Steps.{response_of}
use Rattle.unit_spec.specs.Onu.{Onu, Answer, answer, upload, onu_received}
use Rattle.history_spec.specs.History.{Entry, WasCarried, LastReply, LastSnapshot}
use Rattle.world_spec.specs.History.{Told, name_at}
use Rattle.resync_laws.specs.Agreeing.{IsCopied}
use Rattle.resync_laws.specs.Databases.{IsWholeDatabase}
use Rattle.resync_laws.proofs.Reading.{frame_is, contents_long}
use Rattle.resync_laws.proofs.Unit.{From, Carries, LongEnough, read_long, carries_upload}
use Rattle.resync_laws.proofs.Serving.{history_after, unit_after}
use Rattle.resync_laws.proofs.Following.{snapshot_copied}
use Rattle.step_laws.specs.InStep.{CarriedOn}
use Rattle.step_laws.proofs.Coming.{Coming, coming_map, coming_more, coming_past}
use Rattle.step_laws.proofs.Reading.{Changes, IsExact, exact_read, exact_request, form}
use Rattle.step_laws.proofs.Reading.{only_packet, command_form, command_asked}
use Rattle.step_laws.proofs.Copying.{has_data, answer_has, same_database, followed_copy}
use Rattle.step_laws.proofs.Copying.{answer_copied, form_copy, form_entity, counted_copied}
use Rattle.step_laws.proofs.Parts.{out_in, last_in, IsNewest, IsBelow, Uploads, NoPacket, IsLeft}
use Rattle.step_laws.proofs.Parts.{IsPut, IsCalm, IsPutBy, IsCurrent, AtStep, IsItsChange}
use Rattle.step_laws.proofs.Parts.{IsSettled, IsOnTheWay, IsIdle, InPhase, Steady, Kept, left_of}
use Rattle.step_laws.proofs.Parts.{has_asked, is_probed, IsFollowed, IsImages, IsCounted, counted_of}
use Rattle.step_laws.proofs.Histories.{Grown, grown}
use Rattle.step_laws.proofs.Sending.{same_more}

-- ---- what a packet that is carried out may be

-- it asks for a change
pub record IsChange (bytes : List ℕ) (f : Frame) (u : Onu) (a : Answer) : Type 0 where
  pub changes : Changes bytes
  pub is : a ≡ answer false f changes.request u

change_or : (bytes : List ℕ) (f : Frame) (u : Onu) (a : Answer) → packet_frame bytes ≡ Some f
    → From f u a
    → IsChange bytes f u a ⊎ (a.unit.database ≡ u.database)
change_or bytes f u a read (inl k) = go (is_changing k.request) refl
  where
    go : (b : Bool) → is_changing k.request ≡ b → IsChange bytes f u a
        ⊎ (a.unit.database ≡ u.database)
    go true e = inl (record {
      changes = record {
        frame = f;
        tci = k.tci;
        entity = k.entity;
        request = k.request;
        read =
            read;
        is = k.read;
        changing = e;
      };
      is = k.is;
    })
    go false e = inr (ap (λ (x : Answer). x.unit.database) k.is ∙ same_database f k.request u e)
change_or bytes f u a read (inr k) = inr (ap (λ (x : Answer). x.unit.database) k.is)

from_has : (f : Frame) (u : Onu) (a : Answer) → From f u a → has_unit_entities u.database ≡ true
    → has_unit_entities a.unit.database ≡ true
from_has f u a (inl k) h = subst (λ (x : Answer). has_unit_entities x.unit.database ≡ true)
    (sym k.is) (answer_has f k.request u h)
from_has f u a (inr k) h = subst (λ (x : Answer). has_unit_entities x.unit.database ≡ true)
    (sym k.is) h

-- the answer to a command's packet
asked_answer : (f : Frame) (u : Onu) (a : Answer) (tci : ℕ) (c : Command) → IsExact tci c
    → packet_frame (spelling (command_frame tci c)) ≡ Some f → From f u a → a ≡ answer false f c.request u
asked_answer f u a tci c h e (inl k) =
    k.is ∙ ap (λ x. answer false f x u) (exact_request tci c f k.tci k.entity k.request h e k.read)
asked_answer f u a tci c h e (inr k) =
    absurd (let r = k.read in let q = (exact_read tci c f h e).is in cc)

-- the answer to a start or an end, whatever it asks
record IsAnswer (f : Frame) (u : Onu) (a : Answer) (n : ℕ) : Type 0 where
  request : Request
  is : a ≡ answer false f request u
  same : form request ≡ n

counted_answer : (f : Frame) (u : Onu) (a : Answer) (tci : ℕ) (c : Command)
    → packet_frame (spelling (command_frame tci c)) ≡ Some f → From f u a
    → IsAnswer f u a (form c.request)
counted_answer f u a tci c e (inl k) = record {
  request = k.request;
  is = k.is;
  same = command_form tci c f k.tci k.entity k.request e k.read;
}
counted_answer f u a tci c e (inr k) =
    absurd (let r = k.read in let q = (command_asked tci c f e).is in cc)

asked_long : (tci : ℕ) (c : Command) (f : Frame) → IsExact tci c
    → packet_frame (spelling (command_frame tci c)) ≡ Some f → LongEnough c.request
asked_long tci c f h e =
    read_long f tci c.entity c.request
    (contents_long (spelling (command_frame tci c)) f
    (frame_is (spelling (command_frame tci c)) f e))
    (exact_read tci c f h e).is

-- two changes don't wait at once
pub one_change : (link : Link) (lives : ℕ) (unit : Option Onu) (m : Manager) (t : Told)
    (copy : Copy) (upload : ℕ)
    → InPhase link lives unit m t copy upload → (a b : Priority) (w v : Waiting)
    → out_in a m ≡ Some w
    → out_in b m ≡ Some v → is_changing w.command.request ≡ true
    → is_changing v.command.request ≡ true
    → a ≡ b
one_change link lives unit m t copy upload h Low Low w v e f g i = refl
one_change link lives unit m t copy upload h High High w v e f g i = refl
one_change link lives unit m t copy upload h Low High w v e f g i = absurd (h.one w v e f g i)
one_change link lives unit m t copy upload h High Low w v e f g i = absurd (h.one v w f e i g)

module _ (number : ℕ) (s : Sent) (link : Link) (lives : ℕ) (u : Onu) (t : Told)
    (may : allowed number link ≡ Some s) (way : s.direction ≡ Down)
    (fresh : WasCarried lives (name_at number t.names) t.history → ⊥)
    (c : Carries s.bytes u (onu_received false s.bytes u)) where
  abbrev name : ℕ
  name = name_at number t.names

  abbrev reply : List ℕ
  reply = spelling c.answer.reply

  abbrev newer : List Entry
  newer = history_after c.answer.note lives name reply u t.history

  abbrev told : Told
  told = record t { came = name; packet = s.bytes; names = t.names ++ name ∷ []; history = newer }

  abbrev after : Onu
  after = unit_after c.frame.tci c.answer

  abbrev linked : Link
  linked = sent_on (record { direction = Up; bytes = reply }) (delivered_on number s link)

  more : Grown lives name reply u.database t.history newer
  more = grown c.answer.note lives name reply u t.history

  -- a command of another name
  new_name : (command : ℕ) → WasCarried lives command t.history → name ≢ command
  new_name command was e = fresh (subst (λ n. WasCarried lives n t.history) (sym e) was)

  kind : IsChange s.bytes c.frame u c.answer ⊎ (c.answer.unit.database ≡ u.database)
  kind = change_or s.bytes c.frame u c.answer c.read c.from

  pub carried_kept : Kept lives (Some u) t.history → Kept lives (Some after) newer
  carried_kept h = record {
    has = λ v on. subst (λ (x : Onu). has_unit_entities x.database ≡ true) (same_Some after v on)
        (from_has c.frame u c.answer c.from (h.has u refl));
    past = λ life command was. ⊎_elim (λ (e : (lives ≡ life) × (name ≡ command)). let q = e.0 in
        omega (arith, q)) (λ e. h.past life command e) (more.was life command was);
    snapshots = λ life command was. ⊎_elim
        (λ (e : (lives ≡ life) × (name ≡ command)). subst (λ n. WasCarried n command newer) e.0
        (subst (λ n. WasCarried lives n newer) e.1 more.now))
        (λ e. more.still life command (h.snapshots life command e))
        (more.snapshots life command was);
  }

  module _ (m : Manager) (h : Steady link lives (Some u) m t) (whole : IsWholeDatabase u.database)
      (has : has_unit_entities u.database ≡ true) where
    keeps : (P : Sent → ℕ → Type 0) → Coming P link t.names → Coming P linked told.names
    keeps P k = coming_more P (delivered_on number s link) t.names
        (record { direction = Up; bytes = reply }) name h.same (λ d. absurd (cc))
        (coming_past P number s link t.names may k)

    carried_put : (P : List ℕ → Type 0) (upload : ℕ) → IsPut P upload link lives m t
        → IsPut P upload linked lives m told
    carried_put P upload k = record {
      early = k.early;
      packets = keeps (IsLeft P upload lives newer)
          (coming_map (IsLeft P upload lives t.history) (IsLeft P upload lives newer) link t.names
          (λ x n q e. ⊎_elim (λ p. inl p) (λ was. inr (more.still lives upload was)) (q e))
          k.packets);
      out = k.out;
    }

    not_upload : (upload : ℕ) → IsPut NoPacket upload link lives m t → name ≢ upload
    not_upload upload k e = ⊎_elim (λ (x : ⊥). x) (λ was. new_name upload was e)
        (k.packets number s may way e)

    carried_before : (upload : ℕ) → IsPut NoPacket upload link lives m t
        → WasCarried lives upload newer → WasCarried lives upload t.history
    carried_before upload k was = ⊎_elim
        (λ (e : (lives ≡ lives) × (name ≡ upload)). absurd (not_upload upload k e.1)) (λ e. e)
        (more.was lives upload was)

    -- ---- the job

    calm_database : Coming (IsCalm (lane_of s.bytes)) link t.names
        → c.answer.unit.database ≡ u.database
    calm_database calm = ⊎_elim (λ (x : IsChange s.bytes c.frame u c.answer). absurd
        (calm number s may way refl x.changes)) (λ e. e) kind

    still_current : (asking : ℕ) → c.answer.unit.database ≡ u.database
        → IsCurrent asking lives (Some u) t.history → WasCarried lives asking t.history
        → IsPutBy asking c.answer.unit.database newer
    still_current asking same k was =
        let x = k u refl was in
        record {
          copy = x.copy;
          last = more.put asking x.copy (new_name asking was) x.last;
          agrees = subst (λ d. IsCopied d x.copy) (sym same) x.agrees;
        }

    upload_current : (asking : ℕ) → name ≡ asking → Uploads s.bytes
        → IsPutBy asking c.answer.unit.database newer
    upload_current asking e up =
        let is = carries_upload up.tci up.entity s.bytes u (onu_received false s.bytes u) up.is c in
        record {
          copy = without_makers u.database;
          last = subst (λ (a : Answer). LastSnapshot asking (without_makers u.database)
              (history_after a.note lives name (spelling a.reply) u t.history)) (sym is)
              (inl (e, refl));
          agrees = subst (λ (a : Answer). IsCopied a.unit.database (without_makers u.database))
              (sym is) (snapshot_copied u.database whole (has_data u.database has));
        }

    current_by : (x : Stage) → has_asked x ≡ true → AtStep link lives (Some u) m t x
        → WasCarried lives t.asking newer → IsPutBy t.asking c.answer.unit.database newer
    current_by (Probing high low) a k was = absurd (false≢true a)
    current_by AskingAlarms a k was = absurd (false≢true a)
    current_by (GatheringRows expected next) a k was = absurd (false≢true a)
    current_by (StartingImage order asked image) a k was = absurd (false≢true a)
    current_by (SendingImage order outgoing resent) a k was = absurd (false≢true a)
    current_by (EndingImage order image busy) a k was = absurd (false≢true a)
    current_by (DelayingEnd order image busy) a k was = absurd (false≢true a)
    current_by Asking a k was = ⊎_elim
        (λ (e : (lives ≡ lives) × (name ≡ t.asking)). ⊎_elim
        (λ (up : Uploads s.bytes). upload_current t.asking e.1 up)
        (λ old. absurd (new_name t.asking old e.1)) ((k.put refl).packets number s may way e.1))
        (λ old. still_current t.asking (calm_database
        (k.calm (lane_of s.bytes) (all_probed (lane_of s.bytes)))) (k.current refl) old)
        (more.was lives t.asking was)
      where
        all_probed : (lane : Priority) → is_probed lane Asking ≡ true
        all_probed Low = refl
        all_probed High = refl
    current_by (Gathering expected next copy) a k was =
        still_current t.asking (calm_database
        (k.calm (lane_of s.bytes) (all_probed (lane_of s.bytes)))) (k.current refl)
        (carried_before t.asking (k.put refl) was)
      where
        all_probed : (lane : Priority) → is_probed lane (Gathering expected next copy) ≡ true
        all_probed Low = refl
        all_probed High = refl

    carried_step : (x : Stage) → AtStep link lives (Some u) m t x
        → AtStep linked lives (Some after) m told x
    carried_step x k = record {
      quiet = k.quiet;
      calm = λ lane p. keeps (IsCalm lane) (k.calm lane p);
      put = λ a. carried_put (left_of x) t.asking (k.put a);
      current = λ a v on was. subst (λ (y : Onu). IsPutBy t.asking y.database newer)
          (same_Some after v on) (current_by x a k was);
    }

    -- ---- in step

    module _ (copy : Copy) (upload : ℕ) (k : InPhase link lives (Some u) m t copy upload) where
      -- a change that comes is the one that waits
      its_change : Changes s.bytes → IsItsChange (out_in (lane_of s.bytes) m)
          (last_in (lane_of s.bytes) t) name
      its_change ch = ⊎_elim (λ x. x) (λ was. absurd (fresh was)) (k.settled number s may way ch)

      idle_by : IsChange s.bytes c.frame u c.answer ⊎ (c.answer.unit.database ≡ u.database)
          → WasCarried lives upload newer → IsIdle lives m told
          → IsCopied c.answer.unit.database copy
      idle_by (inl ch) up none =
          let x = its_change ch.changes in
          absurd (none (lane_of s.bytes) x.waiting x.waits x.changing
          (subst (λ n. WasCarried lives n newer) x.named more.now))
      idle_by (inr same) up none =
          subst (λ d. IsCopied d copy) (sym same)
          (k.idle u refl (carried_before upload k.put up)
          (λ lane w e g was. none lane w e g (more.still lives (last_in lane t) was)))

      module _ (lane : Priority) (w : Waiting) (e : out_in lane m ≡ Some w)
          (g : is_changing w.command.request ≡ true) where
        -- it was carried out before
        ahead_still : IsChange s.bytes c.frame u c.answer ⊎ (c.answer.unit.database ≡ u.database)
            → WasCarried lives (last_in lane t) t.history
            → IsOnTheWay lives u w (last_in lane t) t.history copy
            → IsOnTheWay lives after w (last_in lane t) newer copy
        ahead_still (inl ch) was x =
            let z = its_change ch.changes in
            let same = one_change link lives (Some u) m t copy upload k
            (lane_of s.bytes) lane z.waiting w z.waits e z.changing g in
            absurd (new_name (last_in lane t) was (z.named ∙ ap (λ q. last_in q t) same))
        ahead_still (inr same) was x = record {
          before = x.before;
          carried = more.on_still lives (last_in lane t) x.before x.carried;
          agreed = x.agreed;
          later = λ r f last read. ⊎_elim
              (λ (z : (name ≡ last_in lane t) × (reply ≡ r)). absurd
              (new_name (last_in lane t) was z.0))
              (λ (z : (name ≢ last_in lane t) × LastReply (last_in lane t) r t.history).
              subst (λ d. IsCopied d (followed_copy w.command.entity w.command.request
              (response_of f) copy)) (sym same) (x.later r f z.1 read))
              (more.last (last_in lane t) r last);
        }

        -- it is carried out now
        module _ (named : name ≡ last_in lane t) (up : WasCarried lives upload newer) where
          agreed_before : IsCopied u.database copy
          agreed_before = k.idle u refl (carried_before upload k.put up) (λ other v f i was.
              let same = one_change link lives (Some u) m t copy upload k other lane v w f e i g in
              fresh (subst (λ n. WasCarried lives n t.history)
              (ap (λ q. last_in q t) same ∙ sym named) was))

          -- the one packet of its command
          its_packet : w.command.earlier ≡ [] → s.bytes ≡ spelling (command_frame w.tci w.command)
          its_packet single =
              only_packet w.tci w.command s.bytes single
              (((h.lanes lane).newest number s may way).1 w e named)

          now_by : ((f : Frame) → packet_frame (spelling c.answer.reply) ≡ Some f
              → IsCopied c.answer.unit.database
              (followed_copy w.command.entity w.command.request (response_of f) copy))
              → IsOnTheWay lives after w (last_in lane t) newer copy
          now_by done = record {
            before = u.database;
            carried = subst (λ n. CarriedOn lives n u.database newer) named more.on;
            agreed = agreed_before;
            later = λ r f last got. ⊎_elim
                (λ (z : (name ≡ last_in lane t) × (reply ≡ r)). done f (ap packet_frame z.1 ∙ got))
                (λ (z : (name ≢ last_in lane t) × LastReply (last_in lane t) r t.history). absurd
                (z.0 named))
                (more.last (last_in lane t) r last);
          }

          followed_now : IsFollowed w → IsOnTheWay lives after w (last_in lane t) newer copy
          followed_now followed =
              let bytes = its_packet followed.single in
              let read = ap packet_frame (sym bytes) ∙ c.read in
              let asked = exact_read w.tci w.command c.frame followed.exact read in
              let is = asked_answer c.frame u c.answer w.tci w.command followed.exact read c.from in
              now_by (λ f got.
              subst (λ (a : Answer). IsCopied a.unit.database
              (followed_copy w.command.entity w.command.request (response_of f) copy)) (sym is)
              (subst (λ (one : EntityId). IsCopied
              (answer false c.frame w.command.request u).unit.database
              (followed_copy one w.command.request (response_of f) copy)) asked.entity
              (answer_copied c.frame w.command.request u copy f
              (subst (λ (one : EntityId). one.instance < 2 ^ 16)
              (sym asked.entity) followed.exact.instance)
              (asked_long w.tci w.command c.frame followed.exact read) followed.plainly
              followed.stays agreed_before
              (ap (λ (a : Answer). packet_frame (spelling a.reply)) (sym is) ∙ got))))

          counted_now : IsCounted w.command → IsOnTheWay lives after w (last_in lane t) newer copy
          counted_now counted =
              let bytes = its_packet counted.single in
              let read = ap packet_frame (sym bytes) ∙ c.read in
              let q = counted_answer c.frame u c.answer w.tci w.command read c.from in
              let some = ⊎_elim (λ z. inl (q.same ∙ z)) (λ z. inr (q.same ∙ z)) counted.some in
              now_by (λ f got.
              subst (λ (x : Copy). IsCopied c.answer.unit.database x)
              (form_copy w.command.entity q.request w.command.request (response_of f) copy q.same
              counted.some)
              (subst (λ (a : Answer). IsCopied a.unit.database
              (followed_copy w.command.entity q.request (response_of f) copy)) (sym q.is)
              (subst (λ (x : Copy). IsCopied (answer false c.frame q.request u).unit.database x)
              (form_entity c.frame.entity w.command.entity q.request (response_of f) copy some)
              (counted_copied c.frame q.request u copy f some agreed_before
              (ap (λ (a : Answer). packet_frame (spelling a.reply)) (sym q.is) ∙ got)))))

          ahead_now : IsOnTheWay lives after w (last_in lane t) newer copy
          ahead_now = ⊎_elim (λ (x : IsFollowed w). followed_now x)
              (λ (x : IsImages lane m.job w). counted_now (counted_of m.job w.command x.at))
              (k.made lane w e g)

        ahead_by : WasCarried lives (last_in lane t) newer → WasCarried lives upload newer
            → IsOnTheWay lives after w (last_in lane t) newer copy
        ahead_by was up = ⊎_elim
            (λ (z : (lives ≡ lives) × (name ≡ last_in lane t)). ahead_now z.1 up)
            (λ old. ahead_still kind old (k.ahead u lane w refl
            (carried_before upload k.put up) e g old))
            (more.was lives (last_in lane t) was)

      carried_phase : InPhase linked lives (Some after) m told copy upload
      carried_phase = record {
        synced = more.synced upload k.synced;
        put = carried_put NoPacket upload k.put;
        one = k.one;
        made = k.made;
        settled = keeps (IsSettled lives m told)
            (coming_map (IsSettled lives m t) (IsSettled lives m told) link t.names
            (λ x n q ch. ⊎_elim (λ z. inl z) (λ was. inr (more.still lives n was)) (q ch))
            k.settled);
        idle = λ v on up none. subst (λ (x : Onu). IsCopied x.database copy) (same_Some after v on)
            (idle_by kind up none);
        ahead = λ v lane w on up e g was. subst
            (λ (x : Onu). IsOnTheWay lives x w (last_in lane t) newer copy) (same_Some after v on)
            (ahead_by lane w e g was up);
      }

    pub carried_steady : Steady linked lives (Some after) m told
    carried_steady = record {
      same = same_more link.packets (record { direction = Up; bytes = reply }) t.names name h.same;
      below = keeps (IsBelow t.drawn) h.below;
      lanes = λ lane. let k = h.lanes lane in record {
        priority = k.priority;
        number = k.number;
        out = k.out;
        newest = keeps (IsNewest lane (last_in lane t) (out_in lane m)) k.newest;
      };
      apart = h.apart;
      known = λ life command was. ⊎_elim
          (λ (e : (lives ≡ life) × (name ≡ command)). subst (λ n. n < t.drawn) e.1
          (h.below number s may way))
          (λ old. h.known life command old) (more.was life command was);
      job = λ x e. carried_step x (h.job x e);
      phase = λ e. let k = h.phase e in
          record {
            copy = k.copy;
            upload = k.upload;
            has = k.has;
            phase =
                carried_phase k.copy k.upload k.phase;
          };
    }
