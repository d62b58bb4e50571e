-- The manager takes a reply.
use Rattle.std.proofs.Common.{◌≡◌, ◌≢◌, ℕ, Bool, true, false, not, ◌||◌, List, ◌∷◌, Option, Some, None, inl, inr}
use Rattle.std.proofs.Common.{⊎_elim, refl, sym, ap, subst, ◌∙◌, ◌==◌}
use Rattle.std.proofs.lemmas.Option.{same_Some}
use Rattle.std.proofs.lemmas.Bool.{false≢true}
use Rattle.std.specs.Option.{option_map}
use Rattle.omci_types.specs.declared.EntityId.{EntityId}
use Rattle.omci_types.specs.declared.Frame.{Frame}
use Rattle.omci_types.specs.declared.Priority.{Priority}
use Rattle.omci_types.specs.declared.Priority.TheVariants.{Low, High}
use Rattle.frame_spec.specs.Baseline.{packet_frame}
use Rattle.message_spec.specs.declared.Request.{Request}
use Rattle.message_spec.specs.declared.Request.TheVariants as request
use Rattle.message_spec.specs.declared.Response.{Response}
use Rattle.upload_spec.specs.Pieces.{Copy}
use Rattle.link_spec.specs.Link.{Link, lane_of}
use Rattle.lane_spec.specs.Command.{Command, is_changing}
use Rattle.lane_spec.specs.Lane.{Waiting, end_command}
use Rattle.manager_spec.specs.declared.Phase.TheVariants as phase
use Rattle.manager_spec.specs.declared.Report.TheVariants as report
use Rattle.manager_spec.specs.Manager.{Stage, Probing, Asking, Gathering, AskingAlarms}
use Rattle.manager_spec.specs.Manager.{GatheringRows, Manager, lane_in, with_lane, with_report}
use Rattle.manager_spec.specs.Manager.{StartingImage, SendingImage, EndingImage, DelayingEnd}
use Rattle.manager_spec.specs.Copying.{copy_after, followed_if, followed}
use Rattle.manager_spec.specs.Resync.{probe_answered, resync_done}
use Rattle.manager_spec.specs.Steps.{response_of, code_of, followed_by, job_probed}
use Rattle.unit_spec.specs.Onu.{Onu}
use Rattle.alarm_spec.specs.Alarms.{Alarm}
use Rattle.store_spec.specs.History.{StoreEntry}
use Rattle.history_spec.specs.History.{Entry, Remarked, Stored, Downloaded, WasCarried, LastReply}
use Rattle.history_spec.specs.History.{LastSnapshot}
use Rattle.world_spec.specs.History.{Told, with_entry}
use Rattle.resync_laws.specs.Agreeing.{IsCopied}
use Rattle.resync_laws.proofs.Invariants.{one_snapshot}
use Rattle.resync_laws.proofs.Telling.{synced_told, audited_told}
use Rattle.resync_laws.proofs.Taking.{took_told}
use Rattle.mib_spec.specs.Database.{Database}
use Rattle.step_laws.specs.InStep.{LastSynced, CarriedOn}
use Rattle.step_laws.proofs.Coming.{Coming, coming_map}
use Rattle.step_laws.proofs.Copying.{followed_copy, Follows, follows, follows_copy}
use Rattle.step_laws.proofs.Parts.{lane_at, out_in, last_in, NoPacket, IsLeft, IsPut, IsCalm}
use Rattle.step_laws.proofs.Parts.{AtStep, IsItsChange, IsSettled, InPhase, Steady, left_of}
use Rattle.step_laws.proofs.Parts.{has_asked, is_probed, is_resync, is_image, is_barred}
use Rattle.step_laws.proofs.Parts.{probed_resync, AtCommand}
use Rattle.step_laws.proofs.Parts.{asked_resync, resync_bars}
use Rattle.step_laws.proofs.Milder.{Fewer, Milder, fewer_put, fewer_one, fewer_made, still_changing}
use Rattle.step_laws.proofs.Milder.{fewer_step, fewer_steady, milder_steady, rejob_steady}
use Rattle.step_laws.proofs.Sending.{same_lane, not_both}
use Rattle.step_laws.proofs.Serving.{one_change}
use Rattle.step_laws.proofs.Turning.{LaneMild, lane_still, lane_ended, fewer_of, Like, like_then}
use Rattle.step_laws.proofs.Turning.{like_report, over_milder}

-- ---- it is written into the history

-- nothing more was carried out, put by, or synchronised
record AreSame (older newer : List Entry) : Type 0 where
  was : (life c : ℕ) → WasCarried life c newer → WasCarried life c older
  still : (life c : ℕ) → WasCarried life c older → WasCarried life c newer
  on : (life c : ℕ) (database : Database) → CarriedOn life c database older
      → CarriedOn life c database newer
  last : (c : ℕ) (r : List ℕ) → LastReply c r newer → LastReply c r older
  put : (c : ℕ) (copy : Copy) → LastSnapshot c copy older → LastSnapshot c copy newer
  synced : (c : ℕ) → LastSynced c older → LastSynced c newer

-- that, and other notices
module _ (link : Link) (lives : ℕ) (unit : Option Onu) (m : Manager) (t : Told)
    (notices : List Alarm) (newer : List Entry) (k : AreSame t.history newer) where
  abbrev told : Told
  told = record t { notices = notices; history = newer }

  told_put : (P : List ℕ → Type 0) (upload : ℕ) → IsPut P upload link lives m t
      → IsPut P upload link lives m told
  told_put P upload h = record {
    early = h.early;
    packets = coming_map (IsLeft P upload lives t.history)
        (IsLeft P upload lives newer) link t.names
        (λ s name q e. ⊎_elim (λ x. inl x) (λ x. inr (k.still lives upload x)) (q e)) h.packets;
    out = h.out;
  }

  told_phase : (copy : Copy) (upload : ℕ) → InPhase link lives unit m t copy upload
      → InPhase link lives unit m told copy upload
  told_phase copy upload h = record {
    synced = k.synced upload h.synced;
    put = told_put NoPacket upload h.put;
    one = h.one;
    made = h.made;
    settled = coming_map (IsSettled lives m t) (IsSettled lives m told) link t.names
        (λ s name q ch. ⊎_elim (λ x. inl x) (λ x. inr (k.still lives name x)) (q ch)) h.settled;
    idle = λ u on up none. h.idle u on (k.was lives upload up)
        (λ lane w e g was. none lane w e g (k.still lives (last_in lane t) was));
    ahead = λ u lane w on up e g was.
        let x = h.ahead u lane w on (k.was lives upload up) e g
        (k.was lives (last_in lane t) was) in
        record {
          before = x.before;
          carried = k.on lives (last_in lane t) x.before x.carried;
          agreed = x.agreed;
          later = λ r f last read. x.later r f (k.last (last_in lane t) r last) read;
        };
  }

  told_steady : Steady link lives unit m t → Steady link lives unit m told
  told_steady h = record {
    same = h.same;
    below = h.below;
    lanes = h.lanes;
    apart = h.apart;
    known = λ life c was. h.known life c (k.was life c was);
    job = λ s e. let q = h.job s e in record {
      quiet = q.quiet;
      calm = q.calm;
      put = λ p. told_put (left_of s) t.asking (q.put p);
      current = λ a u on was.
          let x = q.current a u on (k.was lives t.asking was) in
          record { copy = x.copy; last = k.put t.asking x.copy x.last; agrees = x.agrees };
    };
    phase = λ e. let q = h.phase e in record {
      copy = q.copy;
      upload = q.upload;
      has =
          q.has;
      phase = told_phase q.copy q.upload q.phase;
    };
  }

-- a notice that was taken
pub noticed_steady : (link : Link) (lives : ℕ) (unit : Option Onu) (m : Manager) (t : Told)
    (notices : List Alarm)
    → Steady link lives unit m t → Steady link lives unit m (record t { notices = notices })
noticed_steady link lives unit m t notices h =
    told_steady link lives unit m t notices t.history
    (record {
      was = λ l c x. x;
      still = λ l c x. x;
      on = λ l c d x. x;
      last = λ c r x. x;
      put =
          λ c y x. x;
      synced = λ c x. x;
    }) h

-- a reply
pub took_steady : (l : Priority) (link : Link) (lives : ℕ) (unit : Option Onu) (m : Manager)
    (t : Told)
    → Steady link lives unit m t → Steady link lives unit m (took_told l t)
took_steady l link lives unit m t h =
    told_steady link lives unit m t (took_told l t).notices (took_told l t).history
    (record {
      was = λ l c x. x;
      still = λ l c x. x;
      on = λ l c d x. x;
      last = λ c r x. x;
      put =
          λ c y x. x;
      synced = λ c x. x;
    }) h

-- an entry of the unit's store, or a download that has ended
pub stored_steady : (entry : StoreEntry) (link : Link) (lives : ℕ) (unit : Option Onu) (m : Manager)
    (t : Told) → Steady link lives unit m t
    → Steady link lives unit m (with_entry (Remarked (Stored entry)) t)
stored_steady entry link lives unit m t h =
    told_steady link lives unit m t t.notices (Remarked (Stored entry) ∷ t.history)
    (record {
      was = λ l c x. x;
      still = λ l c x. x;
      on = λ l c d x. x;
      last = λ c r x. x;
      put = λ c y x. x;
      synced = λ c x. x;
    }) h

pub ended_steady : (slot : ℕ) (image : List ℕ) (link : Link) (lives : ℕ) (unit : Option Onu)
    (m : Manager) (t : Told) → Steady link lives unit m t
    → Steady link lives unit m (with_entry (Remarked (Downloaded slot image)) t)
ended_steady slot image link lives unit m t h =
    told_steady link lives unit m t t.notices (Remarked (Downloaded slot image) ∷ t.history)
    (record {
      was = λ l c x. x;
      still = λ l c x. x;
      on = λ l c d x. x;
      last = λ c r x. x;
      put = λ c y x. x;
      synced = λ c x. x;
    }) h

-- a table of an audit
pub audited_steady : (link : Link) (lives : ℕ) (unit : Option Onu) (m : Manager) (t : Told)
    → Steady link lives unit m t → Steady link lives unit m (audited_told m t)
audited_steady link lives unit m t h =
    told_steady link lives unit m t t.notices (audited_told m t).history
    (record {
      was = λ l c x. x;
      still = λ l c x. x;
      on = λ l c d x. x;
      last = λ c r x. x;
      put =
          λ c y x. x;
      synced = λ c x. x;
    }) h

-- ---- the copy follows a change

module _ (l : Priority) (w : Waiting) (link : Link) (lives : ℕ) (unit : Option Onu) (m a : Manager)
    (t : Told) (bytes : List ℕ) (f : Frame) (read : packet_frame bytes ≡ Some f)
    (e : out_in l m ≡ Some w) (g : is_changing w.command.request ≡ true)
    (was : WasCarried lives (last_in l t) t.history)
    (last : LastReply (last_in l t) bytes t.history) (fewer : Fewer m a) (gone : out_in l a ≡ None)
    (others : (k : Priority) (v : Waiting) → k ≢ l → out_in k m ≡ Some v
    → out_in k a ≡ Some v)
    (stays : (v : Waiting) → out_in Low a ≡ Some v → AtCommand m.job v.command
    → AtCommand a.job v.command) where
  change_phase : (copy : Copy) (upload : ℕ) → InPhase link lives unit m t copy upload
      → InPhase link lives unit a t (followed_copy w.command.entity w.command.request
      (response_of f) copy) upload
  change_phase copy upload h = record {
    synced = h.synced;
    put = fewer_put link lives unit m a t fewer NoPacket upload h.put;
    one = fewer_one link lives unit m a t fewer h.one;
    made = fewer_made link lives unit m a t fewer h.made stays;
    settled = λ i s may way ch. ⊎_elim
        (λ (x : IsItsChange (out_in (lane_of s.bytes) m) (last_in (lane_of s.bytes) t) _). ⊎_elim
        (λ (same : lane_of s.bytes ≡ l). inr
        (subst (λ n. WasCarried lives n t.history)
        (sym (x.named ∙ ap (λ q. last_in q t) same)) was))
        (λ (ne : lane_of s.bytes ≢ l). inl
        (record {
          waiting = x.waiting;
          waits =
              others (lane_of s.bytes) x.waiting ne x.waits;
          changing = x.changing;
          named = x.named;
        }))
        (same_lane (lane_of s.bytes) l))
        (λ x. inr x) (h.settled i s may way ch);
    idle = λ u on up none. (h.ahead u l w on up e g was).later bytes f last read;
    ahead = λ u lane v on up f' g' was'.
        let x = fewer.out lane v f' in
        let same = one_change link lives unit m t copy upload h lane l x.waiting w x.waits e
        (still_changing link lives unit m a t fewer lane v f' g') g in
        absurd (let z = subst (λ q. out_in q a ≡ Some v) same f' in cc);
  }

  pub change_steady : ((s : Stage) → a.job ≡ Some s → AtStep link lives unit a t s)
      → (a.phase ≡ phase.InStep → m.phase ≡ phase.InStep)
      → ((copy : Copy) → m.phase ≡ phase.InStep → m.copy ≡ Some copy
      → a.copy ≡ Some (followed_copy w.command.entity w.command.request (response_of f) copy))
      → Steady link lives unit m t → Steady link lives unit a t
  change_steady job in_step copied h =
      fewer_steady link lives unit m a t fewer h
      job
      (λ p. let c = h.phase (in_step p) in record {
        copy = followed_copy w.command.entity w.command.request (response_of f) c.copy;
        upload = c.upload;
        has = copied c.copy (in_step p) c.has;
        phase = change_phase c.copy c.upload c.phase;
      })

-- a request that isn't a change leaves the copy as it was
unchanged_if : (b : Bool) (one : EntityId) (r : Request) (m : Manager) → is_changing r ≡ false
    → (followed_if b one r m).copy ≡ m.copy
unchanged_if false one r m e = refl
unchanged_if true one r m e = go m.copy
  where
    same : (copy : Copy) (q : Request) → is_changing q ≡ false
        → copy_after m.phase one q copy ≡ copy
    same copy (request.Create values) f = absurd (false≢true (sym f))
    same copy request.Delete f = absurd (false≢true (sym f))
    same copy (request.Set mask values) f = absurd (false≢true (sym f))
    same copy request.Commit f = absurd (false≢true (sym f))
    same copy (request.Start window size targets target) f = absurd (false≢true (sym f))
    same copy (request.End crc size targets target) f = absurd (false≢true (sym f))
    same copy _ f = refl

    go : (o : Option Copy) → option_map (copy_after m.phase one r) o ≡ o
    go None = refl
    go (Some copy) = ap (λ c. Some c) (same copy r e)

unchanged : (c : Command) (o : Option Response) (m : Manager) → is_changing c.request ≡ false
    → (followed_by c o m).copy ≡ m.copy
unfolding followed
unchanged c None m e = refl
unchanged c (Some r) m e = unchanged_if (code_of r == 0) c.entity c.request m e

follows_like : (c : Command) (o : Option Response) (m : Manager) → is_changing c.request ≡ false
    → Like m (followed_by c o m)
follows_like c o m e = let k = follows c o m in record {
  low = k.low;
  high = k.high;
  job = λ s j. sym k.job ∙ j;
  was = λ p. sym k.phase ∙ p;
  copy = λ p. unchanged c o m e;
  command = λ p d x. subst (λ j. AtCommand j d) (sym k.job) x;
}

-- what is known of a reply that a lane may take, but for one to a probe
pub record IsOwn (lives : ℕ) (last : ℕ) (history : List Entry) (bytes : List ℕ) : Type 0 where
  pub carried : WasCarried lives last history
  pub reply : LastReply last bytes history

-- the manager x has freed the lane
submission_by : (l : Priority) (w : Waiting) (link : Link) (lives : ℕ) (unit : Option Onu)
    (m x : Manager) (t : Told) (bytes : List ℕ) (f : Frame)
    → packet_frame bytes ≡ Some f → out_in l m ≡ Some w → IsOwn lives (last_in l t) t.history bytes
    → Steady link lives unit m t
    → x.job ≡ m.job → x.phase ≡ m.phase → x.copy ≡ m.copy → out_in l x ≡ None
    → ((k : Priority) (v : Waiting) → k ≢ l → out_in k m ≡ Some v → out_in k x ≡ Some v)
    → ((a : Manager) → a.low ≡ x.low → a.high ≡ x.high → Fewer m a)
    → (is_changing w.command.request ≡ false → Milder m (followed_by w.command (response_of f) x))
    → Steady link lives unit (followed_by w.command (response_of f) x) t
submission_by l w link lives unit m x t bytes f read e own h job in_step copy gone others fewer
    mild = go (is_changing w.command.request) refl
  where
    result : Manager
    result = followed_by w.command (response_of f) x

    k : Follows x result
    k = follows w.command (response_of f) x

    same_out : (q : Priority) → out_in q result ≡ out_in q x
    same_out q = ap (λ z. (lane_at q z result.high).outstanding) k.low
        ∙ ap (λ z. (lane_at q x.low z).outstanding) k.high

    go : (b : Bool) → is_changing w.command.request ≡ b → Steady link lives unit result t
    go false g = milder_steady link lives unit m result t (mild g) h
    go true g =
        change_steady l w link lives unit m result t bytes f read e g own.carried own.reply
        (fewer result k.low k.high)
        (same_out l ∙ gone) (λ q v ne o. same_out q ∙ others q v ne o)
        (λ v o x. subst (λ j. AtCommand j v.command) (sym (k.job ∙ job)) x)
        (λ s j. fewer_step link lives unit m result t (fewer result k.low k.high) s
        (h.job s (sym (k.job ∙ job) ∙ j))) (λ p. sym (k.phase ∙ in_step) ∙ p)
        (λ c p o. follows_copy w.command (response_of f) x c (in_step ∙ p) (copy ∙ o)) h

pub submission_steady : (l : Priority) (w : Waiting) (link : Link) (lives : ℕ) (unit : Option Onu)
    (m : Manager) (t : Told) (bytes : List ℕ) (f : Frame)
    → packet_frame bytes ≡ Some f → out_in l m ≡ Some w → IsOwn lives (last_in l t) t.history bytes
    → Steady link lives unit m t
    → Steady link lives unit (followed_by w.command (response_of f)
    (with_report (report.Took f) (with_lane l (end_command w (lane_in l m)) m))) t
submission_steady Low w link lives unit m t bytes f read e own h =
    submission_by Low w link lives unit m x t bytes f read e own h refl refl refl refl others
    (λ a low high. fewer_of ⊥ m a (subst (LaneMild ⊥ m.low) (sym low)
    (lane_ended ⊥ m.low w x.low.proved e (λ p. absurd p)))
    (subst (LaneMild ⊥ m.high) (sym high) (lane_still ⊥ m.high)))
    (λ g. over_milder Low w x.low.proved m (followed_by w.command (response_of f) x) e
    (like_then (with_lane Low (end_command w (lane_in Low m)) m) x
    (followed_by w.command (response_of f) x)
    (like_report (report.Took f) (with_lane Low (end_command w (lane_in Low m)) m))
    (follows_like w.command (response_of f) x g)) (λ p. g))
  where
    x : Manager
    x = with_report (report.Took f) (with_lane Low (end_command w (lane_in Low m)) m)

    others : (k : Priority) (v : Waiting) → k ≢ Low → out_in k m ≡ Some v → out_in k x ≡ Some v
    others Low v ne o = absurd (ne refl)
    others High v ne o = o
submission_steady High w link lives unit m t bytes f read e own h =
    submission_by High w link lives unit m x t bytes f read e own h refl refl refl refl others
    (λ a low high. fewer_of ⊥ m a (subst (LaneMild ⊥ m.low) (sym low) (lane_still ⊥ m.low))
    (subst (LaneMild ⊥ m.high) (sym high) (lane_ended ⊥ m.high w x.high.proved e (λ p. absurd p))))
    (λ g. over_milder High w x.high.proved m (followed_by w.command (response_of f) x) e
    (like_then (with_lane High (end_command w (lane_in High m)) m) x
    (followed_by w.command (response_of f) x)
    (like_report (report.Took f) (with_lane High (end_command w (lane_in High m)) m))
    (follows_like w.command (response_of f) x g)) (λ p. g))
  where
    x : Manager
    x = with_report (report.Took f) (with_lane High (end_command w (lane_in High m)) m)

    others : (k : Priority) (v : Waiting) → k ≢ High → out_in k m ≡ Some v → out_in k x ≡ Some v
    others High v ne o = absurd (ne refl)
    others Low v ne o = o

-- ---- a probe is answered

-- the stage once the lane's probe was answered, where no change may come in the lane any more
probed_step : (l : Priority) (link : Link) (lives : ℕ) (unit : Option Onu) (m : Manager)
    (j : Option Stage) (t : Told) (s : Stage)
    → (is_resync s ≡ true → Coming (IsCalm l) link t.names) → AtStep link lives unit m t s
    → AtStep link lives unit (record m { job = j }) t (probe_answered l s)
probed_step l link lives unit m j t s calm k = record {
  quiet = λ lane w b e. k.quiet lane w (still_barred lane b) e;
  calm = λ lane p. ⊎_elim
      (λ (same : lane ≡ l). subst (λ q. Coming (IsCalm q) link t.names) (sym same)
      (calm (sym (same_resync l s) ∙ probed_resync lane (probe_answered l s) p)))
      (λ (ne : lane ≢ l). k.calm lane (still_probed l lane s ne p)) (same_lane lane l);
  put = λ a. let q = k.put (still_asked l s ∙ a) in record {
    early = q.early;
    packets = coming_map (IsLeft (left_of s) t.asking lives t.history)
        (IsLeft (left_of (probe_answered l s)) t.asking lives t.history) link t.names
        (λ x n z e. ⊎_elim (λ y. inl (subst (λ P. P x.bytes) (still_left l s) y)) (λ y. inr y)
        (z e)) q.packets;
    out = λ lane w e n bytes among. subst (λ P. P bytes) (still_left l s)
        (q.out lane w e n bytes among);
  };
  current = λ a. k.current (still_asked l s ∙ a);
}
  where
    same_resync : (q : Priority) (x : Stage) → is_resync (probe_answered q x) ≡ is_resync x
    same_resync Low (Probing high low) = refl
    same_resync High (Probing high low) = refl
    same_resync Low Asking = refl
    same_resync High Asking = refl
    same_resync Low (Gathering expected next copy) = refl
    same_resync High (Gathering expected next copy) = refl
    same_resync Low AskingAlarms = refl
    same_resync High AskingAlarms = refl
    same_resync Low (GatheringRows expected next) = refl
    same_resync High (GatheringRows expected next) = refl
    same_resync Low (StartingImage order asked image) = refl
    same_resync High (StartingImage order asked image) = refl
    same_resync Low (SendingImage order outgoing resent) = refl
    same_resync High (SendingImage order outgoing resent) = refl
    same_resync Low (EndingImage order image busy) = refl
    same_resync High (EndingImage order image busy) = refl
    same_resync Low (DelayingEnd order image busy) = refl
    same_resync High (DelayingEnd order image busy) = refl

    same_image : (q : Priority) (x : Stage) → is_image (probe_answered q x) ≡ is_image x
    same_image Low (Probing high low) = refl
    same_image High (Probing high low) = refl
    same_image Low Asking = refl
    same_image High Asking = refl
    same_image Low (Gathering expected next copy) = refl
    same_image High (Gathering expected next copy) = refl
    same_image Low AskingAlarms = refl
    same_image High AskingAlarms = refl
    same_image Low (GatheringRows expected next) = refl
    same_image High (GatheringRows expected next) = refl
    same_image Low (StartingImage order asked image) = refl
    same_image High (StartingImage order asked image) = refl
    same_image Low (SendingImage order outgoing resent) = refl
    same_image High (SendingImage order outgoing resent) = refl
    same_image Low (EndingImage order image busy) = refl
    same_image High (EndingImage order image busy) = refl
    same_image Low (DelayingEnd order image busy) = refl
    same_image High (DelayingEnd order image busy) = refl

    still_barred : (lane : Priority) → is_barred lane (probe_answered l s) ≡ true
        → is_barred lane s ≡ true
    still_barred Low b = ap not (sym (same_image l s)) ∙ b
    still_barred High b =
        ap (λ x. x || is_image s) (sym (same_resync l s))
        ∙ ap (λ x. is_resync (probe_answered l s) || x) (sym (same_image l s)) ∙ b

    still_probed : (q lane : Priority) (x : Stage) → lane ≢ q
        → is_probed lane (probe_answered q x) ≡ true → is_probed lane x ≡ true
    still_probed Low Low x ne p = absurd (ne refl)
    still_probed High High x ne p = absurd (ne refl)
    still_probed Low High (Probing high low) ne p = p
    still_probed High Low (Probing high low) ne p = p
    still_probed Low High Asking ne p = refl
    still_probed High Low Asking ne p = refl
    still_probed Low High (Gathering expected next copy) ne p = refl
    still_probed High Low (Gathering expected next copy) ne p = refl
    still_probed Low High AskingAlarms ne p = p
    still_probed High Low AskingAlarms ne p = p
    still_probed Low High (GatheringRows expected next) ne p = p
    still_probed High Low (GatheringRows expected next) ne p = p
    still_probed Low High (StartingImage order asked image) ne p = p
    still_probed High Low (StartingImage order asked image) ne p = p
    still_probed Low High (SendingImage order outgoing resent) ne p = p
    still_probed High Low (SendingImage order outgoing resent) ne p = p
    still_probed Low High (EndingImage order image busy) ne p = p
    still_probed High Low (EndingImage order image busy) ne p = p
    still_probed Low High (DelayingEnd order image busy) ne p = p
    still_probed High Low (DelayingEnd order image busy) ne p = p

    still_asked : (q : Priority) (x : Stage) → has_asked x ≡ has_asked (probe_answered q x)
    still_asked Low (Probing high low) = refl
    still_asked High (Probing high low) = refl
    still_asked Low Asking = refl
    still_asked High Asking = refl
    still_asked Low (Gathering expected next copy) = refl
    still_asked High (Gathering expected next copy) = refl
    still_asked Low AskingAlarms = refl
    still_asked High AskingAlarms = refl
    still_asked Low (GatheringRows expected next) = refl
    still_asked High (GatheringRows expected next) = refl
    still_asked Low (StartingImage order asked image) = refl
    still_asked High (StartingImage order asked image) = refl
    still_asked Low (SendingImage order outgoing resent) = refl
    still_asked High (SendingImage order outgoing resent) = refl
    still_asked Low (EndingImage order image busy) = refl
    still_asked High (EndingImage order image busy) = refl
    still_asked Low (DelayingEnd order image busy) = refl
    still_asked High (DelayingEnd order image busy) = refl

    still_left : (q : Priority) (x : Stage) → left_of x ≡ left_of (probe_answered q x)
    still_left Low (Probing high low) = refl
    still_left High (Probing high low) = refl
    still_left Low Asking = refl
    still_left High Asking = refl
    still_left Low (Gathering expected next copy) = refl
    still_left High (Gathering expected next copy) = refl
    still_left Low AskingAlarms = refl
    still_left High AskingAlarms = refl
    still_left Low (GatheringRows expected next) = refl
    still_left High (GatheringRows expected next) = refl
    still_left Low (StartingImage order asked image) = refl
    still_left High (StartingImage order asked image) = refl
    still_left Low (SendingImage order outgoing resent) = refl
    still_left High (SendingImage order outgoing resent) = refl
    still_left Low (EndingImage order image busy) = refl
    still_left High (EndingImage order image busy) = refl
    still_left Low (DelayingEnd order image busy) = refl
    still_left High (DelayingEnd order image busy) = refl

pub probed_steady : (l : Priority) (link : Link) (lives : ℕ) (unit : Option Onu) (m : Manager)
    (t : Told)
    → ((s : Stage) → m.job ≡ Some s → is_resync s ≡ true → Coming (IsCalm l) link t.names)
    → Steady link lives unit m t
    → Steady link lives unit (record m { job = job_probed l m.job }) t
probed_steady l link lives unit m t calm h =
    rejob_steady link lives unit m (job_probed l m.job) t h (λ x e. go m.job refl x e)
    (λ w o x. still l m.job w.command x)
  where
    still : (q : Priority) (o : Option Stage) (c : Command) → AtCommand o c
        → AtCommand (job_probed q o) c
    still Low None c x = absurd x
    still Low (Some (Probing high low)) c x = absurd x
    still Low (Some Asking) c x = absurd x
    still Low (Some (Gathering expected next copy)) c x = absurd x
    still Low (Some AskingAlarms) c x = absurd x
    still Low (Some (GatheringRows expected next)) c x = absurd x
    still Low (Some (StartingImage order asked image)) c x = x
    still Low (Some (SendingImage order outgoing resent)) c x = absurd x
    still Low (Some (EndingImage order image busy)) c x = x
    still Low (Some (DelayingEnd order image busy)) c x = absurd x
    still High None c x = absurd x
    still High (Some (Probing high low)) c x = absurd x
    still High (Some Asking) c x = absurd x
    still High (Some (Gathering expected next copy)) c x = absurd x
    still High (Some AskingAlarms) c x = absurd x
    still High (Some (GatheringRows expected next)) c x = absurd x
    still High (Some (StartingImage order asked image)) c x = x
    still High (Some (SendingImage order outgoing resent)) c x = absurd x
    still High (Some (EndingImage order image busy)) c x = x
    still High (Some (DelayingEnd order image busy)) c x = absurd x

    go : (o : Option Stage) → m.job ≡ o → (x : Stage) → job_probed l o ≡ Some x
        → AtStep link lives unit (record m { job = job_probed l m.job }) t x
    go None e x f = absurd (cc)
    go (Some s) e x f =
        subst (AtStep link lives unit (record m { job = job_probed l m.job }) t)
        (same_Some (probe_answered l s) x f)
        (probed_step l link lives unit m (job_probed l m.job) t s (calm s e) (h.job s e))

-- ---- the job's reply

-- the upload was carried out: none of its packets is left
module _ (link : Link) (lives : ℕ) (unit : Option Onu) (m : Manager) (t : Told) (s : Stage)
    (asked : has_asked s ≡ true) (k : AtStep link lives unit m t s)
    (put : IsPut NoPacket t.asking link lives m t) where
  all_calm : (lane : Priority) → Coming (IsCalm lane) link t.names
  all_calm lane = k.calm lane (probed lane s asked)
    where
      probed : (q : Priority) (x : Stage) → has_asked x ≡ true → is_probed q x ≡ true
      probed q (Probing high low) a = absurd (false≢true a)
      probed Low Asking a = refl
      probed High Asking a = refl
      probed Low (Gathering expected next copy) a = refl
      probed High (Gathering expected next copy) a = refl
      probed q AskingAlarms a = absurd (false≢true a)
      probed q (GatheringRows expected next) a = absurd (false≢true a)
      probed q (StartingImage order asked image) a = absurd (false≢true a)
      probed q (SendingImage order outgoing resent) a = absurd (false≢true a)
      probed q (EndingImage order image busy) a = absurd (false≢true a)
      probed q (DelayingEnd order image busy) a = absurd (false≢true a)

  all_quiet : (lane : Priority) (w : Waiting) → out_in lane m ≡ Some w
      → is_changing w.command.request ≡ false
  all_quiet lane w e = k.quiet lane w (resync_bars lane s (asked_resync s asked)) e

  pub gathering_step : (expected next : ℕ) (copy : Copy) (j : Option Stage)
      → AtStep link lives unit (record m { job = j }) t (Gathering expected next copy)
  gathering_step expected next copy j = record {
    quiet = λ lane w b e. all_quiet lane w e;
    calm = λ lane p. all_calm lane;
    put = λ a. record { early = put.early; packets = put.packets; out = put.out };
    current = λ a. k.current asked;
  }

  -- the copy is what the upload put by
  synced_phase : (copy : Copy) → LastSnapshot t.asking copy t.history
      → InPhase link lives unit (resync_done copy m) (synced_told copy t) copy t.asking
  synced_phase copy last = record {
    synced = refl;
    put = record { early = put.early; packets = put.packets; out = put.out };
    one = λ w v e f g i. not_both _ g (all_quiet Low w e);
    made = λ lane w e g. not_both _ g (all_quiet lane w e);
    settled = λ i x may way ch. absurd (all_calm (lane_of x.bytes) i x may way refl ch);
    idle = λ u on up none.
        let x = k.current asked u on up in
        subst (IsCopied u.database) (one_snapshot t.asking x.copy copy t.history x.last last)
        x.agrees;
    ahead = λ u lane w on up e g was. not_both _ g (all_quiet lane w e);
  }

  pub synced_steady : (copy : Copy) → LastSnapshot t.asking copy t.history
      → Steady link lives unit m t
      → Steady link lives unit (resync_done copy m) (synced_told copy t)
  synced_steady copy last h = record {
    same = h.same;
    below = h.below;
    lanes = h.lanes;
    apart = h.apart;
    known = h.known;
    job = λ x e. absurd (cc);
    phase = λ e. record {
      copy = copy;
      upload = t.asking;
      has = refl;
      phase =
          synced_phase copy last;
    };
  }
