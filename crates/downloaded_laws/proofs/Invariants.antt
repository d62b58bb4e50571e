-- What holds of both ends and of what is told of them while a download runs.
use Rattle.std.proofs.Common.{◌≡◌, ◌≢◌, ℕ, ◌<◌, ◌≤◌, Bool, true, false, List, Option, Some, None, ◌⊎◌, refl, sym, ap, subst, ◌∙◌}
use Rattle.std.proofs.lemmas.Option.{same_Some}
use Rattle.omci_types.specs.declared.Frame.{Frame}
use Rattle.frame_spec.specs.Baseline.{spelling}
use Rattle.message_spec.specs.declared.Response.TheVariants as response
use Rattle.window_spec.specs.Outgoing.{Outgoing, new_outgoing, section_count}
use Rattle.store_spec.specs.State.{Loading}
use Rattle.lane_spec.specs.Lane.{Lane, Waiting}
use Rattle.manager_spec.specs.Manager.{Order, Stage, Probing, Asking, Gathering, AskingAlarms, GatheringRows, StartingImage, SendingImage, EndingImage, DelayingEnd, Manager}
use Rattle.manager_spec.specs.Upgrade.{start_command, image_window, end_image_command}
use Rattle.unit_spec.specs.Onu.{Onu, response_frame, code}
use Rattle.history_spec.specs.History.{Entry, WasCarried, LastReply, LastChecked, DownloadedRight}
use Rattle.world_spec.specs.History.{Told}
use Rattle.download_laws.specs.Carrying.{HasBefore, HasAll}
use Rattle.downloaded_laws.proofs.Reading.{IsOrder}

-- ---- a download that runs

-- what a download speaks of: the unit in its life, the manager's low lane, and what is told
pub record State : Type 0 where
  pub lives : ℕ
  pub unit : Option Onu
  pub low : Lane
  pub tlow : ℕ
  pub history : List Entry

abbrev pub state_of : ℕ → Option Onu → Manager → Told → State
state_of lives unit m t =
    record { lives = lives; unit = unit; low = m.low; tlow = t.low; history = t.history }

-- the outstanding command was carried out in this life
abbrev pub IsCarried : State → Type 0
IsCarried a = WasCarried a.lives a.tlow a.history

-- what a unit that is on has of a download, where it has one
abbrev pub Has : Option Onu → (Loading → Type 0) → Type 0
Has unit P = (u : Onu) (l : Loading) → unit ≡ Some u → u.store.download ≡ Some l → P l

-- the windows before the one that is sent, that one too, or all of the image
pub record HasFront (order : Order) (o : Outgoing) (l : Loading) : Type 0 where
  pub target : l.target ≡ order.slot
  pub has : HasBefore o l

pub record HasWindow (order : Order) (o : Outgoing) (l : Loading) : Type 0 where
  pub target : l.target ≡ order.slot
  pub has : HasAll o l

pub record HasImage (order : Order) (image : List ℕ) (l : Loading) : Type 0 where
  pub target : l.target ≡ order.slot
  pub put : l.put ≡ image

-- what it has after a window that was answered by this code
abbrev pub HasAfter : (number : ℕ) → Order → Outgoing → Loading → Type 0
HasAfter number order o l =
    ((number ≡ 0) × HasWindow order o l) ⊎ ((number ≢ 0) × HasFront order o l)

-- this reply to the start gives a code; with code 0 a download has begun
pub record StartSays (a : State) (order : Order) (image reply : List ℕ) : Type 0 where
  pub number : ℕ
  pub granted : ℕ
  pub frame : Frame
  pub is : reply ≡ spelling (response_frame frame (response.Start (code number) granted))
  pub good : number ≡ 0 → IsCarried a
      → Has a.unit (λ l. (most : ℕ) → HasFront order (new_outgoing image most) l)

-- it waits for the reply to its start
pub record Starts (a : State) (order : Order) (asked : ℕ) (image : List ℕ) : Type 0 where
  pub ordered : IsOrder order image
  pub some : 1 ≤ asked
  pub most : asked ≤ 256
  pub proved : a.low.proved ≡ true
  pub waiting : Waiting
  pub waits : a.low.outstanding ≡ Some waiting
  pub command : waiting.command ≡ start_command order asked image
  pub reply : (r : List ℕ) → LastReply a.tlow r a.history → StartSays a order image r

-- a window that may be sent
pub record IsSending (order : Order) (o : Outgoing) : Type 0 where
  pub ordered : IsOrder order o.image
  pub some : 1 ≤ o.most
  pub most : o.most ≤ 256
  pub within : o.first < section_count o.image

-- this reply to a window gives a code, and the unit has what goes with it
pub record WindowSays (a : State) (order : Order) (o : Outgoing) (reply : List ℕ) : Type 0 where
  pub number : ℕ
  pub section : ℕ
  pub frame : Frame
  pub is : reply ≡ spelling (response_frame frame (response.Section (code number) section))
  pub says : IsCarried a → Has a.unit (HasAfter number order o)

-- it waits for the reply to a window; until that was carried out the unit has those before it
pub record Sends (a : State) (order : Order) (o : Outgoing) : Type 0 where
  pub sending : IsSending order o
  pub proved : a.low.proved ≡ true
  pub waiting : Waiting
  pub waits : a.low.outstanding ≡ Some waiting
  pub command : waiting.command ≡ image_window order o
  pub before : (IsCarried a → ⊥) → Has a.unit (HasFront order o)
  pub reply : (r : List ℕ) → LastReply a.tlow r a.history → WindowSays a order o r

-- this reply to the end gives a code; with code 0 the image was checked last
pub record EndSays (a : State) (order : Order) (image reply : List ℕ) : Type 0 where
  pub number : ℕ
  pub frame : Frame
  pub is : reply ≡ spelling (response_frame frame (response.End (code number)))
  pub good : number ≡ 0 → LastChecked order.slot image a.history

-- it waits for the reply to its end
pub record Ends (a : State) (order : Order) (image : List ℕ) : Type 0 where
  pub ordered : IsOrder order image
  pub proved : a.low.proved ≡ true
  pub waiting : Waiting
  pub waits : a.low.outstanding ≡ Some waiting
  pub command : waiting.command ≡ end_image_command order image
  pub has : Has a.unit (HasImage order image)
  pub reply : (r : List ℕ) → LastReply a.tlow r a.history → EndSays a order image r

-- it waits for the next second
pub record Delays (a : State) (order : Order) (image : List ℕ) : Type 0 where
  pub ordered : IsOrder order image
  pub proved : a.low.proved ≡ true
  pub none : a.low.outstanding ≡ None
  pub has : Has a.unit (HasImage order image)

abbrev pub AtStage : State → Stage → Type 0
AtStage a (Probing high low) = Unit {0}
AtStage a Asking = Unit {0}
AtStage a (Gathering expected next copy) = Unit {0}
AtStage a AskingAlarms = Unit {0}
AtStage a (GatheringRows expected next) = Unit {0}
AtStage a (StartingImage order asked image) = Starts a order asked image
AtStage a (SendingImage order outgoing resent) = Sends a order outgoing
AtStage a (EndingImage order image busy) = Ends a order image
AtStage a (DelayingEnd order image busy) = Delays a order image

abbrev pub is_image : Stage → Bool
is_image (Probing high low) = false
is_image Asking = false
is_image (Gathering expected next copy) = false
is_image AskingAlarms = false
is_image (GatheringRows expected next) = false
is_image (StartingImage order asked image) = true
is_image (SendingImage order outgoing resent) = true
is_image (EndingImage order image busy) = true
is_image (DelayingEnd order image busy) = true

-- another job has nothing to keep
pub other_stage : (s : Stage) (a : State) → is_image s ≡ false → AtStage a s
other_stage (Probing high low) a e = tt
other_stage Asking a e = tt
other_stage (Gathering expected next copy) a e = tt
other_stage AskingAlarms a e = tt
other_stage (GatheringRows expected next) a e = tt
other_stage (StartingImage order asked image) a e = absurd (cc)
other_stage (SendingImage order outgoing resent) a e = absurd (cc)
other_stage (EndingImage order image busy) a e = absurd (cc)
other_stage (DelayingEnd order image busy) a e = absurd (cc)

abbrev pub JobOk : ℕ → Option Onu → Manager → Told → Type 0
JobOk lives unit m t = (s : Stage) → m.job ≡ Some s → AtStage (state_of lives unit m t) s

-- the job, where there is one, is no download
abbrev pub NoImage : Manager → Type 0
NoImage m = (s : Stage) → m.job ≡ Some s → is_image s ≡ false

pub job_other : (lives : ℕ) (unit : Option Onu) (m : Manager) (t : Told) → NoImage m
    → JobOk lives unit m t
job_other lives unit m t h s e = other_stage s _ (h s e)

pub job_at : (lives : ℕ) (unit : Option Onu) (m : Manager) (t : Told) (s : Stage)
    → m.job ≡ Some s → AtStage (state_of lives unit m t) s → JobOk lives unit m t
job_at lives unit m t s e h x f =
    subst (AtStage (state_of lives unit m t)) (same_Some s x (sym e ∙ f)) h

-- ---- steps that leave a download alone

-- a download of the one is one of the other
pub record Keeps (a b : State) : Type 0 where
  pub tlow : b.tlow ≡ a.tlow
  pub proved : a.low.proved ≡ true → b.low.proved ≡ true
  pub waits : (w : Waiting) → a.low.outstanding ≡ Some w
      → (v : Waiting) × (b.low.outstanding ≡ Some v) × (v.command ≡ w.command)
  pub none : a.low.outstanding ≡ None → b.low.outstanding ≡ None
  pub replied : (r : List ℕ) → LastReply a.tlow r b.history → LastReply a.tlow r a.history
  pub put : (u : Onu) (l : Loading) → b.unit ≡ Some u → u.store.download ≡ Some l
      → (v : Onu) × (a.unit ≡ Some v) × (v.store.download ≡ Some l)
  pub carried : (u : Onu) (l : Loading) → b.unit ≡ Some u → u.store.download ≡ Some l
      → WasCarried b.lives a.tlow b.history → WasCarried a.lives a.tlow a.history
  pub still : (u : Onu) (l : Loading) → b.unit ≡ Some u → u.store.download ≡ Some l
      → WasCarried a.lives a.tlow a.history → WasCarried b.lives a.tlow b.history
  pub checked : (slot : ℕ) (image : List ℕ) → LastChecked slot image a.history
      → LastChecked slot image b.history

module _ (a b : State) (k : Keeps a b) where
  -- it has what it had
  has_kept : (P : Loading → Type 0) → Has a.unit P → Has b.unit P
  has_kept P h u l on has = let x = k.put u l on has in h x.0 l x.1 x.2

  carried_kept : (P : Loading → Type 0) → (IsCarried a → Has a.unit P) → IsCarried b
      → Has b.unit P
  carried_kept P h was u l on has =
      let x = k.put u l on has in
      h (k.carried u l on has (subst (λ n. WasCarried b.lives n b.history) k.tlow was)) x.0 l x.1 x.2

  uncarried_kept : (P : Loading → Type 0) → ((IsCarried a → ⊥) → Has a.unit P)
      → (IsCarried b → ⊥) → Has b.unit P
  uncarried_kept P h fresh u l on has =
      let x = k.put u l on has in
      h (λ was. fresh (subst (λ n. WasCarried b.lives n b.history) (sym k.tlow)
      (k.still u l on has was))) x.0 l x.1 x.2

  last_kept : (r : List ℕ) → LastReply b.tlow r b.history → LastReply a.tlow r a.history
  last_kept r last = k.replied r (subst (λ n. LastReply n r b.history) k.tlow last)

  start_says_kept : (order : Order) (image r : List ℕ) → StartSays a order image r
      → StartSays b order image r
  start_says_kept order image r h = record {
    number = h.number;
    granted = h.granted;
    frame = h.frame;
    is = h.is;
    good = λ e. carried_kept (λ l. (most : ℕ) → HasFront order (new_outgoing image most) l)
        (h.good e);
  }

  window_says_kept : (order : Order) (o : Outgoing) (r : List ℕ) → WindowSays a order o r
      → WindowSays b order o r
  window_says_kept order o r h = record {
    number = h.number;
    section = h.section;
    frame = h.frame;
    is = h.is;
    says = carried_kept (HasAfter h.number order o) h.says;
  }

  end_says_kept : (order : Order) (image r : List ℕ) → EndSays a order image r
      → EndSays b order image r
  end_says_kept order image r h = record {
    number = h.number;
    frame = h.frame;
    is = h.is;
    good = λ e. k.checked order.slot image (h.good e);
  }

  starts_kept : (order : Order) (asked : ℕ) (image : List ℕ) → Starts a order asked image
      → Starts b order asked image
  starts_kept order asked image h =
      let v = k.waits h.waiting h.waits in
      record {
        ordered = h.ordered;
        some = h.some;
        most = h.most;
        proved = k.proved h.proved;
        waiting = v.0;
        waits = v.1;
        command = v.2 ∙ h.command;
        reply = λ r last. start_says_kept order image r (h.reply r (last_kept r last));
      }

  sends_kept : (order : Order) (o : Outgoing) → Sends a order o → Sends b order o
  sends_kept order o h =
      let v = k.waits h.waiting h.waits in
      record {
        sending = h.sending;
        proved = k.proved h.proved;
        waiting = v.0;
        waits = v.1;
        command = v.2 ∙ h.command;
        before = uncarried_kept (HasFront order o) h.before;
        reply = λ r last. window_says_kept order o r (h.reply r (last_kept r last));
      }

  ends_kept : (order : Order) (image : List ℕ) → Ends a order image → Ends b order image
  ends_kept order image h =
      let v = k.waits h.waiting h.waits in
      record {
        ordered = h.ordered;
        proved = k.proved h.proved;
        waiting = v.0;
        waits = v.1;
        command = v.2 ∙ h.command;
        has = has_kept (HasImage order image) h.has;
        reply = λ r last. end_says_kept order image r (h.reply r (last_kept r last));
      }

  pub stage_kept : (s : Stage) → AtStage a s → AtStage b s
  stage_kept (Probing high low) h = tt
  stage_kept Asking h = tt
  stage_kept (Gathering expected next copy) h = tt
  stage_kept AskingAlarms h = tt
  stage_kept (GatheringRows expected next) h = tt
  stage_kept (StartingImage order asked image) h = starts_kept order asked image h
  stage_kept (SendingImage order outgoing resent) h = sends_kept order outgoing h
  stage_kept (EndingImage order image busy) h = ends_kept order image h
  stage_kept (DelayingEnd order image busy) h = record {
    ordered = h.ordered;
    proved = k.proved h.proved;
    none = k.none h.none;
    has = has_kept (HasImage order image) h.has;
  }

-- ---- all of it

pub record Good (lives : ℕ) (unit : Option Onu) (manager : Option Manager) (t : Told) : Type 0 where
  pub job : (m : Manager) → manager ≡ Some m → JobOk lives unit m t
  pub right : DownloadedRight t.history

-- ---- what passes a history by

-- the one says what the other does of commands, and no less of checks
pub record Passes (h k : List Entry) : Type 0 where
  pub was : (life c : ℕ) → WasCarried life c k → WasCarried life c h
  pub still : (life c : ℕ) → WasCarried life c h → WasCarried life c k
  pub last : (c : ℕ) (r : List ℕ) → LastReply c r k → LastReply c r h
  pub checked : (slot : ℕ) (image : List ℕ) → LastChecked slot image h → LastChecked slot image k

pub passes_same : (h : List Entry) → Passes h h
passes_same h = record {
  was = λ life c w. w;
  still = λ life c w. w;
  last = λ c r l. l;
  checked = λ slot image l. l;
}

pub passes_then : (g h k : List Entry) → Passes g h → Passes h k → Passes g k
passes_then g h k a b = record {
  was = λ life c w. a.was life c (b.was life c w);
  still = λ life c w. b.still life c (a.still life c w);
  last = λ c r l. a.last c r (b.last c r l);
  checked = λ slot image l. b.checked slot image (a.checked slot image l);
}

-- a lane in which a download's command waits as before
pub record LaneKept (a b : Lane) : Type 0 where
  pub proved : a.proved ≡ true → b.proved ≡ true
  pub waits : (w : Waiting) → a.outstanding ≡ Some w
      → (v : Waiting) × (b.outstanding ≡ Some v) × (v.command ≡ w.command)
  pub none : a.outstanding ≡ None → b.outstanding ≡ None

pub lane_same : (a b : Lane) → b ≡ a → LaneKept a b
lane_same a b e = record {
  proved = λ p. ap (λ (l : Lane). l.proved) e ∙ p;
  waits = λ w f. (w, ap (λ (l : Lane). l.outstanding) e ∙ f, refl);
  none = λ f. ap (λ (l : Lane). l.outstanding) e ∙ f;
}

-- a unit with no other download than before
abbrev pub NoNewDownload : (before after : Option Onu) → Type 0
NoNewDownload before after =
    (u : Onu) (l : Loading) → after ≡ Some u → u.store.download ≡ Some l
    → (v : Onu) × (before ≡ Some v) × (v.store.download ≡ Some l)

pub same_unit : (unit : Option Onu) → NoNewDownload unit unit
same_unit unit u l on has = (u, on, has)

pub keeps_of : (lives : ℕ) (before after : Option Onu) (m n : Manager) (t u : Told)
    → u.low ≡ t.low → Passes t.history u.history → LaneKept m.low n.low
    → NoNewDownload before after
    → Keeps (state_of lives before m t) (state_of lives after n u)
keeps_of lives before after m n t u low p lane same = record {
  tlow = low;
  proved = lane.proved;
  waits = lane.waits;
  none = lane.none;
  replied = λ r last. p.last t.low r last;
  put = same;
  carried = λ v l on has was. p.was lives t.low was;
  still = λ v l on has was. p.still lives t.low was;
  checked = p.checked;
}

-- another life, in which it has no download
pub keeps_anew : (lives more : ℕ) (before after : Option Onu) (m : Manager) (t u : Told)
    → u.low ≡ t.low → Passes t.history u.history
    → ((v : Onu) (l : Loading) → after ≡ Some v → v.store.download ≡ Some l → ⊥)
    → Keeps (state_of lives before m t) (state_of more after m u)
keeps_anew lives more before after m t u low p none = record {
  tlow = low;
  proved = λ e. e;
  waits = λ w e. (w, e, refl);
  none = λ e. e;
  replied = λ r last. p.last t.low r last;
  put = λ v l on has. absurd (none v l on has);
  carried = λ v l on has was. absurd (none v l on has);
  still = λ v l on has was. absurd (none v l on has);
  checked = p.checked;
}
