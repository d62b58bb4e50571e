-- What the laws of resynchronisation pass over: a remark of another thing in the history, and a unit
-- that has put by what it had put by before, or nothing.
use Rattle.std.proofs.Common.{◌≡◌, ℕ, ◌+◌, Bool, true, false, List, [], ◌∷◌, ◌++◌, map, reverse, Option, Some, None, refl, sym, ap, subst, ◌∙◌}
use Rattle.std.specs.List.{flat_map}
use Rattle.std.proofs.lemmas.Option.{same_Some}
use Rattle.slot_spec.specs.Slots.{SlotPair}
use Rattle.store_spec.specs.History.{StoreEntry}
use Rattle.upload_spec.specs.Pieces.{Copy, without_makers}
use Rattle.link_spec.specs.Link.{Sent, Link}
use Rattle.lane_spec.specs.Lane.{Lane, Waiting}
use Rattle.manager_spec.specs.declared.Report.{Report}
use Rattle.manager_spec.specs.declared.Report.TheVariants as report
use Rattle.manager_spec.specs.Manager.{Stage, Probing, Asking, Gathering, AskingAlarms, GatheringRows, StartingImage, SendingImage, EndingImage, DelayingEnd, Manager}
use Rattle.unit_spec.specs.Onu.{Onu, Snapshot, unless_over, second_older, alarms_second_older, onu_ticked}
use Rattle.history_spec.specs.History.{Entry, Remarked, Stored, Downloaded, WasCarried, LastReply, LastSnapshot, SyncedRight}
use Rattle.world_spec.specs.Happenings.{Happening, ImageStored, ImageTold, on_link, link_read}
use Rattle.world_spec.specs.Ends.{image_told, download_told, stored}
use Rattle.world_spec.specs.History.{Told, with_entry, tell, tell_all}
use Rattle.resync_laws.specs.Databases.{IsWholeDatabase}
use Rattle.resync_laws.proofs.Invariants.{Counted, Asks, Gathers, AsksNext, AtStage, JobOk, Good}

-- ---- an entry more

-- an entry of the history that says nothing of requests and snapshots
pub record Passes (entry : Entry) : Type 0 where
  pub was : (life command : ℕ) (history : List Entry) → WasCarried life command (entry ∷ history)
      → WasCarried life command history
  pub reply : (command : ℕ) (r : List ℕ) (history : List Entry)
      → LastReply command r (entry ∷ history) → LastReply command r history
  pub was_too : (life command : ℕ) (history : List Entry) → WasCarried life command history
      → WasCarried life command (entry ∷ history)
  pub last : (command : ℕ) (copy : Copy) (history : List Entry) → LastSnapshot command copy history
      → LastSnapshot command copy (entry ∷ history)
  pub right : (history : List Entry) → SyncedRight history → SyncedRight (entry ∷ history)

stored_passes : (entry : StoreEntry) → Passes (Remarked (Stored entry))
stored_passes entry = record {
  was = λ life command history h. h;
  reply = λ command r history h. h;
  was_too = λ life command history h. h;
  last = λ command copy history h. h;
  right = λ history h. h;
}

downloaded_passes : (slot : ℕ) (image : List ℕ) → Passes (Remarked (Downloaded slot image))
downloaded_passes slot image = record {
  was = λ life command history h. h;
  reply = λ command r history h. h;
  was_too = λ life command history h. h;
  last = λ command copy history h. h;
  right = λ history h. h;
}

module _ (entry : Entry) (p : Passes entry) where
  counted_passes : (command : ℕ) (r : List ℕ) (history : List Entry) → Counted command r history
      → Counted command r (entry ∷ history)
  counted_passes command r history h = record {
    database = h.database;
    whole = h.whole;
    few = h.few;
    last = p.last command h.database history h.last;
    frame = h.frame;
    is = h.is;
  }

  stage_passes : (lives : ℕ) (unit : Option Onu) (low : Lane) (tlow asking : ℕ)
      (history : List Entry) (s : Stage) → AtStage lives unit low tlow asking history s
      → AtStage lives unit low tlow asking (entry ∷ history) s
  stage_passes lives unit low tlow asking history (Probing high' low') h = tt
  stage_passes lives unit low tlow asking history Asking h = record {
    proved = h.proved;
    waiting = h.waiting;
    waits = h.waits;
    command = h.command;
    own = h.own;
    reply = λ r last. counted_passes tlow r history (h.reply r (p.reply tlow r history last));
    fresh = λ u s on was has.
        p.last tlow (without_makers s.database) history
        (h.fresh u s on (p.was lives tlow history was) has);
  }
  stage_passes lives unit low tlow asking history (Gathering expected next copy) h =
      let g : Gathers unit asking (entry ∷ history) expected next copy = record {
        database = h.0.database;
        whole = h.0.whole;
        few = h.0.few;
        last = p.last asking h.0.database history h.0.last;
        count = h.0.count;
        less = h.0.less;
        front = h.0.front;
        put_by = h.0.put_by;
      } in (
        g,
        record {
          proved = h.1.proved;
          waiting = h.1.waiting;
          waits = h.1.waits;
          command = h.1.command;
          reply = λ r last. h.1.reply r (p.reply tlow r history last);
        },
      )
  stage_passes lives unit low tlow asking history AskingAlarms h = tt
  stage_passes lives unit low tlow asking history (GatheringRows expected next) h = tt
  stage_passes lives unit low tlow asking history (StartingImage order asked image) h = tt
  stage_passes lives unit low tlow asking history (SendingImage order outgoing resent) h = tt
  stage_passes lives unit low tlow asking history (EndingImage order image busy) h = tt
  stage_passes lives unit low tlow asking history (DelayingEnd order image busy) h = tt

  good_passes : (packets : List Sent) (lives : ℕ) (unit : Option Onu) (manager : Option Manager)
      (t : Told) → Good packets lives unit manager t
      → Good packets lives unit manager (with_entry entry t)
  good_passes packets lives unit manager t h = record {
    sent = h.sent;
    apart = h.apart;
    lanes = h.lanes;
    job = λ m e s g. stage_passes lives unit m.low t.low t.asking t.history s (h.job m e s g);
    reports = h.reports;
    carried = λ life command was. h.carried life command (p.was life command t.history was);
    whole = h.whole;
    right = p.right t.history h.right;
  }

-- ---- what the store has for the history

pub entries_good : (entries : List StoreEntry) (link : Link) (lives : ℕ) (unit : Option Onu)
    (manager : Option Manager) (t : Told) → Good link.packets lives unit manager t
    → Good (link_read (map ImageStored entries) link).packets lives unit manager
    (tell_all (map ImageStored entries) t)
entries_good [] link lives unit manager t h = h
entries_good (entry ∷ rest) link lives unit manager t h =
    entries_good rest link lives unit manager (with_entry (Remarked (Stored entry)) t)
    (good_passes (Remarked (Stored entry)) (stored_passes entry) link.packets lives unit manager t h)

-- ---- downloads that have ended

told_good : (before : Option Stage) (slot : ℕ) (packets : List Sent) (lives : ℕ)
    (unit : Option Onu) (manager : Option Manager) (t : Told) → Good packets lives unit manager t
    → Good packets lives unit manager (tell_all (image_told before slot) t)
told_good None slot packets lives unit manager t h = h
told_good (Some (Probing high low)) slot packets lives unit manager t h = h
told_good (Some Asking) slot packets lives unit manager t h = h
told_good (Some (Gathering expected next copy)) slot packets lives unit manager t h = h
told_good (Some AskingAlarms) slot packets lives unit manager t h = h
told_good (Some (GatheringRows expected next)) slot packets lives unit manager t h = h
told_good (Some (StartingImage order asked image)) slot packets lives unit manager t h = h
told_good (Some (SendingImage order outgoing resent)) slot packets lives unit manager t h = h
told_good (Some (EndingImage order image busy)) slot packets lives unit manager t h =
    good_passes (Remarked (Downloaded slot image)) (downloaded_passes slot image) packets lives unit
    manager t h
told_good (Some (DelayingEnd order image busy)) slot packets lives unit manager t h = h

one_told : (before : Option Stage) (r : Report) (packets : List Sent) (lives : ℕ)
    (unit : Option Onu) (manager : Option Manager) (t : Told) → Good packets lives unit manager t
    → Good packets lives unit manager (tell_all (download_told before r) t)
one_told before (report.ImageDone slot) packets lives unit manager t h =
    told_good before slot packets lives unit manager t h
one_told before _ packets lives unit manager t h = h

tell_both : (xs ys : List Happening) (t : Told)
    → tell_all (xs ++ ys) t ≡ tell_all ys (tell_all xs t)
tell_both [] ys t = refl
tell_both (x ∷ xs) ys t = tell_both xs ys (tell x t)

pub downloads_good : (before : Option Stage) (reports : List Report) (packets : List Sent)
    (lives : ℕ) (unit : Option Onu) (manager : Option Manager) (t : Told)
    → Good packets lives unit manager t
    → Good packets lives unit manager (tell_all (flat_map (download_told before) reports) t)
downloads_good before [] packets lives unit manager t h = h
downloads_good before (r ∷ rest) packets lives unit manager t h =
    subst (λ u. Good packets lives unit manager u)
    (sym (tell_both (download_told before r) (flat_map (download_told before) rest) t))
    (downloads_good before rest packets lives unit manager
    (tell_all (download_told before r) t) (one_told before r packets lives unit manager t h))

link_image : (before : Option Stage) (slot : ℕ) (l : Link)
    → link_read (image_told before slot) l ≡ l
link_image None slot l = refl
link_image (Some (Probing high low)) slot l = refl
link_image (Some Asking) slot l = refl
link_image (Some (Gathering expected next copy)) slot l = refl
link_image (Some AskingAlarms) slot l = refl
link_image (Some (GatheringRows expected next)) slot l = refl
link_image (Some (StartingImage order asked image)) slot l = refl
link_image (Some (SendingImage order outgoing resent)) slot l = refl
link_image (Some (EndingImage order image busy)) slot l = refl
link_image (Some (DelayingEnd order image busy)) slot l = refl

link_download : (before : Option Stage) (r : Report) (l : Link)
    → link_read (download_told before r) l ≡ l
link_download before (report.ImageDone slot) l = link_image before slot l
link_download before _ l = refl

link_both : (xs ys : List Happening) (l : Link)
    → link_read (xs ++ ys) l ≡ link_read ys (link_read xs l)
link_both [] ys l = refl
link_both (x ∷ xs) ys l = link_both xs ys (on_link x l)

-- none of it goes onto the link
pub link_downloads : (before : Option Stage) (reports : List Report) (l : Link)
    → link_read (flat_map (download_told before) reports) l ≡ l
link_downloads before [] l = refl
link_downloads before (r ∷ rest) l =
    link_both (download_told before r) (flat_map (download_told before) rest) l
    ∙ ap (link_read (flat_map (download_told before) rest)) (link_download before r l)
    ∙ link_downloads before rest l

-- ---- another unit

-- what was put by is what was put by before, or nothing
pub record IsOlder (before after : Option Onu) : Type 0 where
  pub from : (v : Onu) (s : Snapshot) → after ≡ Some v → v.snapshot ≡ Some s
      → (u : Onu) × (x : Snapshot) × (before ≡ Some u) × (u.snapshot ≡ Some x) × (x.database ≡ s.database)

older_by : (b : Bool) (x s : Snapshot) → unless_over b x ≡ Some s → x.database ≡ s.database
older_by true x s e = absurd (cc)
older_by false x s e = ap (λ (y : Snapshot). y.database) (same_Some (record x { age = x.age + 1 }) s e)

older_from : (o : Option Snapshot) (s : Snapshot) → second_older o ≡ Some s
    → (x : Snapshot) × (o ≡ Some x) × (x.database ≡ s.database)
older_from None s e = absurd (cc)
older_from (Some x) s e = (x, refl, older_by _ x s e)

pub ticked_older : (u : Onu) → IsOlder (Some u) (Some (onu_ticked u))
unfolding onu_ticked
ticked_older u = record {
  from = λ v s on has.
      let k = older_from u.snapshot s (ap (λ (y : Onu). y.snapshot) (same_Some (record u { snapshot = second_older u.snapshot; alarm_snapshot = alarms_second_older u.alarm_snapshot }) v on) ∙ has) in
      (u, k.0, refl, k.1, k.2);
}

pub nothing_older : (unit after : Option Onu) → ((v : Onu) (s : Snapshot) → after ≡ Some v → v.snapshot ≡ Some s → ⊥) → IsOlder unit after
nothing_older unit after none = record { from = λ v s on has. absurd (none v s on has) }

pub stage_older : (lives : ℕ) (before after : Option Onu) (low : Lane) (tlow asking : ℕ) (history : List Entry) (s : Stage)
    → IsOlder before after → AtStage lives before low tlow asking history s → AtStage lives after low tlow asking history s
stage_older lives before after low tlow asking history (Probing high' low') o h = tt
stage_older lives before after low tlow asking history AskingAlarms o h = tt
stage_older lives before after low tlow asking history (GatheringRows expected next) o h = tt
stage_older lives before after low tlow asking history (StartingImage order asked image) o h = tt
stage_older lives before after low tlow asking history (SendingImage order outgoing resent) o h = tt
stage_older lives before after low tlow asking history (EndingImage order image busy) o h = tt
stage_older lives before after low tlow asking history (DelayingEnd order image busy) o h = tt
stage_older lives before after low tlow asking history Asking o h = record {
  proved = h.proved;
  waiting = h.waiting;
  waits = h.waits;
  command = h.command;
  own = h.own;
  reply = h.reply;
  fresh = λ v s on was has.
      let k = o.from v s on has in
      subst (λ d. LastSnapshot tlow (without_makers d) history) k.4 (h.fresh k.0 k.1 k.2 was k.3);
}
stage_older lives before after low tlow asking history (Gathering expected next copy) o h =
    let g : Gathers after asking history expected next copy = record {
      database = h.0.database;
      whole = h.0.whole;
      few = h.0.few;
      last = h.0.last;
      count = h.0.count;
      less = h.0.less;
      front = h.0.front;
      put_by = λ v s on has.
          let k = o.from v s on has in
          ap without_makers (sym k.4) ∙ h.0.put_by k.0 k.1 k.2 k.3;
    } in (
      g,
      record {
        proved = h.1.proved;
        waiting = h.1.waiting;
        waits = h.1.waits;
        command = h.1.command;
        reply = h.1.reply;
      },
    )

-- in another life of the unit, which has put nothing by
pub stage_anew : (lives lives' : ℕ) (before after : Option Onu) (low : Lane) (tlow asking : ℕ) (history : List Entry) (s : Stage)
    → ((v : Onu) (x : Snapshot) → after ≡ Some v → v.snapshot ≡ Some x → ⊥) → AtStage lives before low tlow asking history s → AtStage lives' after low tlow asking history s
stage_anew lives lives' before after low tlow asking history (Probing high' low') none h = tt
stage_anew lives lives' before after low tlow asking history AskingAlarms none h = tt
stage_anew lives lives' before after low tlow asking history (GatheringRows expected next) none h = tt
stage_anew lives lives' before after low tlow asking history (StartingImage order asked image) none h = tt
stage_anew lives lives' before after low tlow asking history (SendingImage order outgoing resent) none h = tt
stage_anew lives lives' before after low tlow asking history (EndingImage order image busy) none h = tt
stage_anew lives lives' before after low tlow asking history (DelayingEnd order image busy) none h = tt
stage_anew lives lives' before after low tlow asking history Asking none h = record {
  proved = h.proved;
  waiting = h.waiting;
  waits = h.waits;
  command = h.command;
  own = h.own;
  reply = h.reply;
  fresh = λ v s on was has. absurd (none v s on has);
}
stage_anew lives lives' before after low tlow asking history (Gathering expected next copy) none h =
    let g : Gathers after asking history expected next copy = record {
      database = h.0.database;
      whole = h.0.whole;
      few = h.0.few;
      last = h.0.last;
      count = h.0.count;
      less = h.0.less;
      front = h.0.front;
      put_by = λ v s on has. absurd (none v s on has);
    } in (
      g,
      record {
        proved = h.1.proved;
        waiting = h.1.waiting;
        waits = h.1.waits;
        command = h.1.command;
        reply = h.1.reply;
      },
    )

pub good_older : (packets : List Sent) (lives : ℕ) (before after : Option Onu) (manager : Option Manager) (t : Told)
    → IsOlder before after → ((v : Onu) → after ≡ Some v → IsWholeDatabase v.database)
    → Good packets lives before manager t → Good packets lives after manager t
good_older packets lives before after manager t o whole h = record {
  sent = h.sent;
  apart = h.apart;
  lanes = h.lanes;
  job = λ m e s g. stage_older lives before after m.low t.low t.asking t.history s o (h.job m e s g);
  reports = h.reports;
  carried = h.carried;
  whole = whole;
  right = h.right;
}
