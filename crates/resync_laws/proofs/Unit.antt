-- What a packet of the manager does to the unit: to its database, and to what it put by.
use Rattle.std.proofs.Common.{◌≡◌, ℕ, ◌<◌, ◌≤◌, ◌^◌, Bool, true, false, cond, ◌==◌, List, length, Option, Some, None, Result, Ok, Err, ◌⊎◌, inl, inr, refl, sym, ap, subst, ◌∙◌, arith}
use Rattle.std.proofs.lemmas.Bool.{false≢true}
use Rattle.std.proofs.lemmas.List.{length-take-le}
use Rattle.omci_types.specs.declared.EntityId.{EntityId}
use Rattle.omci_types.specs.declared.Frame.{Frame}
use Rattle.frame_spec.specs.Baseline.{spelling, packet_frame}
use Rattle.message_spec.specs.declared.Action.{Action}
use Rattle.message_spec.specs.declared.Action.TheVariants as action
use Rattle.message_spec.specs.declared.Message.{Message}
use Rattle.message_spec.specs.declared.Message.TheVariants.{Asked, Answered, Told}
use Rattle.message_spec.specs.declared.Request.{Request}
use Rattle.message_spec.specs.declared.Request.TheVariants as request
use Rattle.message_spec.specs.declared.ContentsFault.{ContentsFault}
use Rattle.message_spec.specs.declared.ContentsFault.TheVariants.{UnknownType, Bits}
use Rattle.message_spec.specs.declared.Kind.{Kind}
use Rattle.message_spec.specs.declared.Kind.TheVariants as kinds
use Rattle.message_spec.specs.Fields.{values_at}
use Rattle.message_spec.specs.Types.{kind_of, row}
use Rattle.message_spec.specs.Requests.{request_with}
use Rattle.message_spec.specs.Reading.{plain, message_of, message_typed}
use Rattle.mib_spec.specs.Requests.{reset_code, reset}
use Rattle.retry_spec.specs.Kept.{kept_for}
use Rattle.omci_types.specs.declared.Boot.{Boot}
use Rattle.omci_types.specs.declared.Software.{Software}
use Rattle.mib_spec.specs.Database.{Database, with_software}
use Rattle.store_spec.specs.declared.Handled.{Handled}
use Rattle.store_spec.specs.declared.Handled.TheVariants as handled
use Rattle.window_spec.specs.declared.Arrived.{Arrived}
use Rattle.window_spec.specs.declared.Arrived.TheVariants as arrived
use Rattle.window_spec.specs.Incoming.{Section, section, answer as answer_of}
use Rattle.store_spec.specs.State.{Loading, StoreState, software_of}
use Rattle.store_spec.specs.Deeds.{ignore, image_code, on_download, hold_by, hold_deed, deed, Deed, Ignore, Refuse, RefuseWindow, GiveUp, Begin, Hold, Put, Seal, Activate, Commit, Recommit}
use Rattle.store_spec.specs.Effects.{store_after, handled_by}
use Rattle.unit_spec.specs.Images.{database_handled, counted_if, leave_note, deed_note, reboot_code, reboot_note}
use Rattle.unit_spec.specs.declared.Did.{Did}
use Rattle.unit_spec.specs.declared.Did.TheVariants as did
use Rattle.unit_spec.specs.declared.Note.{Note}
use Rattle.unit_spec.specs.declared.Note.TheVariants as note
use Rattle.unit_spec.specs.Onu.{Onu, Reception, Answer, drop_packet, answer, upload, upload_next, not_supported, keep_reply, unless_leaving, unless_kept, take_request, asks_nothing, image_deed, image_handled, hold_section, hold_unless_kept, take_section, unless_quiet, has_request_bits, if_request, for_message, for_frame, onu_received}
use Rattle.omci_types.specs.declared.Boot.TheVariants.{PowerUp}
use Rattle.resync_laws.specs.Databases.{IsWholeDatabase, HasVersions}
use Rattle.resync_laws.proofs.Databases.{create_whole, delete_whole, set_whole, whole_unless, reset_whole, grown_whole, with_software_whole, slots_versions}
use Rattle.resync_laws.proofs.Reading.{IsReadOf, read_of, upload_asked, next_asked, is_plain, plain_asked}

-- ---- what is read of a create has the room of a create

asked_of : Result Message ContentsFault → Request
asked_of (Ok (Asked tci entity r)) = r
asked_of (Ok (Answered tci entity r)) = request.Reset
asked_of (Ok (Told tci entity r)) = request.Reset
asked_of (Err fault) = request.Reset

abbrev pub LongEnough : Request → Type 0
LongEnough (request.Create values) = 32 ≤ length values
LongEnough request.Delete = Unit {0}
LongEnough (request.Set mask values) = Unit {0}
LongEnough (request.Get mask) = Unit {0}
LongEnough request.Reset = Unit {0}
LongEnough (request.Alarms mode) = Unit {0}
LongEnough (request.AlarmsNext number) = Unit {0}
LongEnough request.Upload = Unit {0}
LongEnough (request.UploadNext number) = Unit {0}
LongEnough (request.Start window size targets target) = Unit {0}
LongEnough (request.Section number bytes last) = Unit {0}
LongEnough (request.End crc size targets target) = Unit {0}
LongEnough (request.Activate flags) = Unit {0}
LongEnough request.Commit = Unit {0}
LongEnough (request.Reboot flags) = Unit {0}

action_long : (a : Action) (contents : List ℕ) → length contents ≡ 32
    → LongEnough (request_with a (values_at (row a).request contents))
action_long action.Create contents len =
    let l = length-take-le 32 contents (omega (arith, len)) in omega (arith, l)
action_long action.Delete contents len = tt
action_long action.Set contents len = tt
action_long action.Get contents len = tt
action_long action.Alarms contents len = tt
action_long action.AlarmsNext contents len = tt
action_long action.Upload contents len = tt
action_long action.UploadNext contents len = tt
action_long action.Reset contents len = tt
action_long action.Start contents len = tt
action_long action.Section contents len = tt
action_long action.End contents len = tt
action_long action.Activate contents len = tt
action_long action.Commit contents len = tt
action_long action.Reboot contents len = tt

pub read_long : (g : Frame) (tci : ℕ) (entity : EntityId) (r : Request) → length g.contents ≡ 32
    → message_of g ≡ Ok (Asked tci entity r) → LongEnough r
unfolding message_of asked_of
read_long g tci entity r len h = go (kind_of g.kind) h
  where
    go : (k : Result Kind ContentsFault) → message_typed g k ≡ Ok (Asked tci entity r) → LongEnough r
    go (Ok (kinds.Request a)) e = subst LongEnough (ap asked_of e) (action_long a g.contents len)
    go (Ok kinds.UnansweredSection) e = subst LongEnough (ap asked_of e) tt
    go (Ok (kinds.Response a)) e = absurd (cc)
    go (Ok kinds.Alarm) e = absurd (cc)
    go (Ok kinds.Change) e = absurd (cc)
    go (Err fault) e = absurd (cc)

-- ---- an answer leaves the database whole

counted_whole : (grows : Bool) (m : Software) (database : Database) → HasVersions m
    → IsWholeDatabase database → IsWholeDatabase (counted_if grows m database)
counted_whole true m database v h =
    grown_whole (with_software m database) (with_software_whole m database v h)
counted_whole false m database v h = h

handled_whole : (h : Handled) (m : Software) (database : Database) → HasVersions m
    → IsWholeDatabase database → IsWholeDatabase (database_handled h m database)
handled_whole (handled.Answered code grows leaves) m database v w =
    counted_whole grows m database v w
handled_whole handled.Held m database v w = w
handled_whole handled.Dropped m database v w = w

-- so does a deed of the store
pub deed_whole : (fails : Bool) (d : Deed) (slot : ℕ) (u : Onu) → IsWholeDatabase u.database
    → IsWholeDatabase (image_handled fails d slot u).database
deed_whole fails d slot u h =
    let m = store_after fails d u.store in
    handled_whole (handled_by fails d) (software_of m) u.database (slots_versions m.active m.slots) h

pub answer_whole : (f : Frame) (r : Request) (u : Onu) → f.entity.instance < 2 ^ 16 → LongEnough r
    → IsWholeDatabase u.database → IsWholeDatabase (answer false f r u).unit.database
unfolding answer
answer_whole f (request.Create values) u instance long h =
    create_whole f.entity values u.database instance long h
answer_whole f request.Delete u instance long h = delete_whole f.entity u.database h
answer_whole f (request.Set mask values) u instance long h = set_whole f.entity mask values u.database h
answer_whole f (request.Get mask) u instance long h = h
answer_whole f request.Reset u instance long h =
    whole_unless (reset_code f.entity) (reset u.database) u.database (λ e. reset_whole u.database h) h
answer_whole f (request.Alarms mode) u instance long h = h
answer_whole f (request.AlarmsNext number) u instance long h = h
answer_whole f request.Upload u instance long h = h
answer_whole f (request.UploadNext number) u instance long h = h
answer_whole f (request.Start window size targets target) u instance long h =
    deed_whole false (image_deed f (request.Start window size targets target) u) f.entity.instance u h
answer_whole f (request.Section number bytes last) u instance long h =
    deed_whole false (image_deed f (request.Section number bytes last) u) f.entity.instance u h
answer_whole f (request.End crc size targets target) u instance long h =
    deed_whole false (image_deed f (request.End crc size targets target) u) f.entity.instance u h
answer_whole f (request.Activate flags) u instance long h =
    deed_whole false (image_deed f (request.Activate flags) u) f.entity.instance u h
answer_whole f request.Commit u instance long h =
    deed_whole false (image_deed f request.Commit u) f.entity.instance u h
answer_whole f (request.Reboot flags) u instance long h = h

-- a note of which the history has nothing
abbrev pub IsQuietNote : Option Note → Type 0
IsQuietNote None = Unit {0}
IsQuietNote (Some (note.Snapshot entities counter)) = ⊥
IsQuietNote (Some (note.Alarms rows)) = ⊥
IsQuietNote (Some (note.Sealed slot size check)) = Unit {0}
IsQuietNote (Some (note.Committed slot)) = Unit {0}
IsQuietNote (Some (note.Leaving boot)) = Unit {0}

quiet_leave : (leaves : Bool) (slot : ℕ) → IsQuietNote (leave_note leaves slot)
quiet_leave true slot = tt
quiet_leave false slot = tt

pub quiet_deed : (d : Deed) (slot : ℕ) → IsQuietNote (deed_note d slot)
quiet_deed Ignore slot = tt
quiet_deed (Refuse code) slot = tt
quiet_deed (RefuseWindow code) slot = tt
quiet_deed (GiveUp code) slot = tt
quiet_deed (Begin target size granted) slot = tt
quiet_deed (Hold window) slot = tt
quiet_deed (Put bytes) slot = tt
quiet_deed (Seal target image) slot = tt
quiet_deed (Activate leaves) slot = quiet_leave leaves slot
quiet_deed (Commit target) slot = tt
quiet_deed (Recommit target) slot = tt

pub quiet_reboot : (code : ℕ) → IsQuietNote (reboot_note code)
quiet_reboot code = go (code == 0)
  where
    go : (b : Bool) → IsQuietNote (cond b (Some (note.Leaving PowerUp)) None)
    go true = tt
    go false = tt

-- what leaves alone what was put by
pub record IsAside (u : Onu) (a : Answer) : Type 0 where
  pub snapshot : a.unit.snapshot ≡ u.snapshot
  pub note : IsQuietNote a.note

plain_aside : (f : Frame) (r : Request) (u : Onu) → is_plain r ≡ true
    → IsAside u (answer false f r u)
unfolding answer
plain_aside f (request.Create values) u p = record { snapshot = refl; note = tt }
plain_aside f request.Delete u p = record { snapshot = refl; note = tt }
plain_aside f (request.Set mask values) u p = record { snapshot = refl; note = tt }
plain_aside f (request.Get mask) u p = record { snapshot = refl; note = tt }
plain_aside f request.Reset u p = record { snapshot = refl; note = tt }
plain_aside f (request.Alarms mode) u p = absurd (false≢true p)
plain_aside f (request.AlarmsNext number) u p = absurd (false≢true p)
plain_aside f request.Upload u p = absurd (false≢true p)
plain_aside f (request.UploadNext number) u p = absurd (false≢true p)
plain_aside f (request.Start window size targets target) u p = absurd (false≢true p)
plain_aside f (request.Section number bytes last) u p = absurd (false≢true p)
plain_aside f (request.End crc size targets target) u p = absurd (false≢true p)
plain_aside f (request.Activate flags) u p =
    record { snapshot = refl; note = quiet_deed (image_deed f (request.Activate flags) u) f.entity.instance }
plain_aside f request.Commit u p =
    record { snapshot = refl; note = quiet_deed (image_deed f request.Commit u) f.entity.instance }
plain_aside f (request.Reboot flags) u p =
    record { snapshot = refl; note = quiet_reboot (reboot_code f.entity) }

-- ---- what becomes of a packet

-- it is read as a request, which is answered so
pub record IsAnswered (f : Frame) (u : Onu) (a : Answer) : Type 0 where
  pub tci : ℕ
  pub entity : EntityId
  pub request : Request
  pub read : message_of f ≡ Ok (Asked tci entity request)
  pub is : a ≡ answer false f request u

-- its type is unknown, and it is refused so
pub record IsUnknown (f : Frame) (u : Onu) (a : Answer) : Type 0 where
  pub number : ℕ
  pub read : message_of f ≡ Err (UnknownType number)
  pub is : a ≡ not_supported f u

abbrev pub From : Frame → Onu → Answer → Type 0
From f u a = IsAnswered f u a ⊎ IsUnknown f u a

-- it is carried out
pub record Carries (bytes : List ℕ) (u : Onu) (r : Reception) : Type 0 where
  pub frame : Frame
  pub answer : Answer
  pub read : packet_frame bytes ≡ Some frame
  pub is : r ≡ keep_reply frame.tci answer
  pub from : From frame u answer

-- what it did with a request that it didn't carry out
abbrev pub IsIdle : Did → Type 0
IsIdle did.Dropped = Unit {0}
IsIdle did.Held = Unit {0}
IsIdle did.Kept = Unit {0}
IsIdle (did.Carried n) = ⊥

-- it is not carried out: at most a section is held
pub record Leaves (u : Onu) (r : Reception) : Type 0 where
  pub store : StoreState
  pub unit : r.unit ≡ record u { store = store }
  pub did : IsIdle r.did

abbrev pub Receives : List ℕ → Onu → Reception → Type 0
Receives bytes u r = Leaves u r ⊎ Carries bytes u r

drops : (u : Onu) → Leaves u (drop_packet u)
drops u = record { store = u.store; unit = refl; did = tt }

kept_or : (o : Option (List ℕ)) (bytes : List ℕ) (f : Frame) (a : Answer) (u : Onu)
    → packet_frame bytes ≡ Some f → From f u a → Receives bytes u (unless_kept o f.tci a u)
kept_or (Some reply) bytes f a u e from =
    inl (record { store = u.store; unit = refl; did = tt })
kept_or None bytes f a u e from = go u.leaving
  where
    go : (leaving : Option Boot) → Receives bytes u (unless_leaving leaving (keep_reply f.tci a) u)
    go None = inr (record { frame = f; answer = a; read = e; is = refl; from = from })
    go (Some boot) = inl (drops u)

takes : (bytes : List ℕ) (f : Frame) (a : Answer) (u : Onu) → packet_frame bytes ≡ Some f
    → From f u a → Receives bytes u (take_request f a u)
unfolding take_request
takes bytes f a u e from = kept_or (kept_for f.tci u.kept) bytes f a u e from

-- a deed that answers nothing
abbrev pub IsQuietDeed : Deed → Type 0
IsQuietDeed Ignore = Unit {0}
IsQuietDeed (Refuse code) = ⊥
IsQuietDeed (RefuseWindow code) = ⊥
IsQuietDeed (GiveUp code) = ⊥
IsQuietDeed (Begin target size granted) = ⊥
IsQuietDeed (Hold window) = Unit {0}
IsQuietDeed (Put bytes) = ⊥
IsQuietDeed (Seal target image) = ⊥
IsQuietDeed (Activate leaves) = ⊥
IsQuietDeed (Commit target) = ⊥
IsQuietDeed (Recommit target) = ⊥

holds_by : (a : Arrived) (s : Section) (l : Loading) → IsQuietDeed (hold_by a s l)
holds_by arrived.Held s l = tt
holds_by arrived.Ignored s l = tt
holds_by arrived.Broken s l = tt
holds_by (arrived.Whole sections) s l = tt

holds_if : (b : Bool) (d : Deed) → IsQuietDeed d → IsQuietDeed (cond b d Ignore)
holds_if true d h = h
holds_if false d h = tt

on_running : (slot : ℕ) (o : Option Loading) (s : Section)
    → IsQuietDeed (on_download ignore slot o (λ l. hold_deed s l))
on_running slot None s = tt
on_running slot (Some l) s =
    holds_if (slot == l.target) (hold_deed s l) (holds_by (answer_of s false l.window) s l)

-- a section that isn't its window's last is held or dropped
pub quiet_section : (room tci : ℕ) (one : EntityId) (r : Request) (m : StoreState)
    → asks_nothing r ≡ true → IsQuietDeed (deed room tci one r m)
unfolding deed
quiet_section room tci one (request.Section number bytes false) m e =
    holds_if (image_code one m.broken == 0) _
    (on_running one.instance m.download (section tci number bytes))
quiet_section room tci one (request.Section number bytes true) m e = absurd (false≢true e)
quiet_section room tci one _ m e = absurd (false≢true e)

holds : (d : Deed) (slot : ℕ) (u : Onu) → IsQuietDeed d → Leaves u (hold_section false d slot u)
holds Ignore slot u h = record { store = store_after false Ignore u.store; unit = refl; did = tt }
holds (Hold window) slot u h =
    record { store = store_after false (Hold window) u.store; unit = refl; did = tt }
holds (Refuse code) slot u h = absurd h
holds (RefuseWindow code) slot u h = absurd h
holds (GiveUp code) slot u h = absurd h
holds (Begin target size granted) slot u h = absurd h
holds (Put bytes) slot u h = absurd h
holds (Seal target image) slot u h = absurd h
holds (Activate leaves) slot u h = absurd h
holds (Commit target) slot u h = absurd h
holds (Recommit target) slot u h = absurd h

holds_or : (o : Option (List ℕ)) (d : Deed) (slot : ℕ) (u : Onu) → IsQuietDeed d
    → Leaves u (hold_unless_kept o false d slot u)
holds_or (Some reply) d slot u h = drops u
holds_or None d slot u h = go u.leaving
  where
    go : (leaving : Option Boot) → Leaves u (unless_leaving leaving (hold_section false d slot u) u)
    go None = holds d slot u h
    go (Some boot) = drops u

section_leaves : (f : Frame) (r : Request) (u : Onu) → asks_nothing r ≡ true
    → Leaves u (take_section false f r u)
unfolding take_section
section_leaves f r u e =
    holds_or (kept_for f.tci u.kept) (image_deed f r u) f.entity.instance u
    (quiet_section u.room f.tci f.entity r u.store e)

quiet_or : (quiet : Bool) (bytes : List ℕ) (f : Frame) (tci : ℕ) (entity : EntityId) (r : Request)
    (u : Onu) → packet_frame bytes ≡ Some f → message_of f ≡ Ok (Asked tci entity r)
    → asks_nothing r ≡ quiet → Receives bytes u (unless_quiet quiet false f r u)
quiet_or true bytes f tci entity r u e m q = inl (section_leaves f r u q)
quiet_or false bytes f tci entity r u e m q =
    takes bytes f (answer false f r u) u e
    (inl (record { tci = tci; entity = entity; request = r; read = m; is = refl }))

bits_or : (b : Bool) (bytes : List ℕ) (f : Frame) (number : ℕ) (u : Onu)
    → packet_frame bytes ≡ Some f → message_of f ≡ Err (UnknownType number)
    → Receives bytes u (if_request b f u)
bits_or true bytes f number u e m =
    takes bytes f (not_supported f u) u e
    (inr (record { number = number; read = m; is = refl }))
bits_or false bytes f number u e m = inl (drops u)

by_message : (m : Result Message ContentsFault) (bytes : List ℕ) (f : Frame) (u : Onu)
    → packet_frame bytes ≡ Some f → message_of f ≡ m → Receives bytes u (for_message false m f u)
by_message (Ok (Asked tci entity r)) bytes f u e m = quiet_or (asks_nothing r) bytes f tci entity r u e m refl
by_message (Ok (Answered tci entity r)) bytes f u e m = inl (drops u)
by_message (Ok (Told tci entity r)) bytes f u e m = inl (drops u)
by_message (Err (UnknownType number)) bytes f u e m = bits_or (has_request_bits f.kind) bytes f number u e m
by_message (Err (Bits kind)) bytes f u e m = inl (drops u)

by_frame : (o : Option Frame) (bytes : List ℕ) (u : Onu) → packet_frame bytes ≡ o
    → Receives bytes u (for_frame false o u)
by_frame None bytes u e = inl (drops u)
by_frame (Some f) bytes u e = by_message (message_of f) bytes f u e refl

pub receives : (bytes : List ℕ) (u : Onu) → Receives bytes u (onu_received false bytes u)
unfolding onu_received
receives bytes u = by_frame (packet_frame bytes) bytes u refl

-- noise is dropped
pub noise_drops : (bytes : List ℕ) (u : Onu) → packet_frame bytes ≡ None
    → onu_received false bytes u ≡ drop_packet u
unfolding onu_received
noise_drops bytes u e = ap (λ o. for_frame false o u) e

-- ---- a packet that the manager made

pub carries_whole : (tci : ℕ) (entity : EntityId) (q : Request) (bytes : List ℕ) (u : Onu)
    (r : Reception) → bytes ≡ spelling (plain (Asked tci entity q)) → Carries bytes u r
    → IsWholeDatabase u.database → IsWholeDatabase r.unit.database
carries_whole tci entity q bytes u r made c h =
    let g = read_of (plain (Asked tci entity q)) c.frame (ap packet_frame (sym made) ∙ c.read) in
    subst (λ x. IsWholeDatabase x.unit.database) (sym c.is) (go g c.from)
  where
    go : IsReadOf (plain (Asked tci entity q)) c.frame
        → From c.frame u c.answer → IsWholeDatabase c.answer.unit.database
    go g (inl a) =
        subst (λ x. IsWholeDatabase x.unit.database) (sym a.is)
        (answer_whole c.frame a.request u g.instance
        (read_long c.frame a.tci a.entity a.request g.long a.read) h)
    go g (inr a) = subst (λ x. IsWholeDatabase x.unit.database) (sym a.is) h

-- the answer to what was read is that of its request
pub same_asked : (f : Frame) (u : Onu) (a : Answer) (tci : ℕ) (entity : EntityId) (q : Request)
    → message_of f ≡ Ok (Asked tci entity q) → From f u a → a ≡ answer false f q u
unfolding asked_of
same_asked f u a tci entity q e (inl k) =
    k.is ∙ ap (λ x. answer false f x u) (ap asked_of (sym k.read ∙ e))
same_asked f u a tci entity q e (inr k) = absurd (let r = k.read in cc)

-- one that a caller submitted leaves alone what was put by
pub carries_aside : (tci : ℕ) (entity : EntityId) (q : Request) (bytes : List ℕ) (u : Onu)
    (r : Reception) → bytes ≡ spelling (plain (Asked tci entity q)) → is_plain q ≡ true
    → (c : Carries bytes u r) → IsAside u c.answer
carries_aside tci entity q bytes u r made p c =
    let g = plain_asked tci entity q c.frame p (ap packet_frame (sym made) ∙ c.read) in
    subst (IsAside u) (sym (same_asked c.frame u c.answer c.frame.tci c.frame.entity g.asked g.is c.from))
    (plain_aside c.frame g.asked u g.plainly)

pub carries_upload : (tci : ℕ) (entity : EntityId) (bytes : List ℕ) (u : Onu) (r : Reception)
    → bytes ≡ spelling (plain (Asked tci entity request.Upload)) → (c : Carries bytes u r)
    → c.answer ≡ upload c.frame u
unfolding answer
carries_upload tci entity bytes u r made c =
    same_asked c.frame u c.answer c.frame.tci c.frame.entity request.Upload
    (upload_asked tci entity c.frame (ap packet_frame (sym made) ∙ c.read)) c.from

pub carries_next : (tci : ℕ) (entity : EntityId) (number : ℕ) (bytes : List ℕ) (u : Onu)
    (r : Reception) → bytes ≡ spelling (plain (Asked tci entity (request.UploadNext number)))
    → number < 2 ^ 16 → (c : Carries bytes u r) → c.answer ≡ upload_next c.frame number u
unfolding answer
carries_next tci entity number bytes u r made small c =
    same_asked c.frame u c.answer c.frame.tci c.frame.entity (request.UploadNext number)
    (next_asked tci entity number c.frame small (ap packet_frame (sym made) ∙ c.read)) c.from
