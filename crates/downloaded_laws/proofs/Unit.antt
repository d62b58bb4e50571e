-- What a packet of the manager does to the unit's download, and to what is told of its store.
use Rattle.std.proofs.Common.{◌≡◌, ℕ, Bool, true, false, ◌==◌, List, [], ◌∷◌, ◌++◌, length, reverse, Option, Some, None, Result, Ok, Err, ◌⊎◌, inl, inr, refl, sym, ap, subst, ◌∙◌}
use Rattle.std.proofs.lemmas.Bool.{cases_Bool, false≢true}
use Rattle.std.specs.Prelude.{if◌then◌else◌, min}
use Rattle.omci_types.specs.declared.Boot.{Boot}
use Rattle.omci_types.specs.declared.EntityId.{EntityId}
use Rattle.omci_types.specs.declared.Frame.{Frame}
use Rattle.frame_spec.specs.Baseline.{spelling, packet_frame}
use Rattle.message_spec.specs.declared.Message.{Message}
use Rattle.message_spec.specs.declared.Message.TheVariants.{Asked, Answered, Told}
use Rattle.message_spec.specs.declared.Request.{Request}
use Rattle.message_spec.specs.declared.Request.TheVariants as request
use Rattle.message_spec.specs.declared.ContentsFault.{ContentsFault}
use Rattle.message_spec.specs.declared.ContentsFault.TheVariants.{UnknownType, Bits}
use Rattle.message_spec.specs.Reading.{plain, message_of}
use Rattle.retry_spec.specs.Kept.{kept_for}
use Rattle.window_spec.specs.Incoming.{section, answer as answer_of}
use Rattle.store_spec.specs.History.{StoreEntry, Checked, CommitBegun, Committed}
use Rattle.store_spec.specs.State.{Loading, StoreState, has_image, window_after}
use Rattle.store_spec.specs.Deeds.{Deed, Ignore, Refuse, RefuseWindow, GiveUp, Begin, Hold, Put, Seal, Activate, Commit, Recommit, unless_refused, image_code, start_code, is_in_use, window_code, seal_code, valid_code, on_download, put_deed, seal_deed, activate_deed, commit_deed, slot_deed, refuse, deed}
use Rattle.store_spec.specs.Effects.{download_after, handled_by, entries_before, entries_by}
use Rattle.unit_spec.specs.Images.{quiet_did, reboot_code}
use Rattle.unit_spec.specs.Onu.{Onu, Reception, Answer, drop_packet, answer, not_supported, keep_reply, unless_leaving, unless_kept, take_request, asks_nothing, image_deed, hold_section, hold_unless_kept, take_section, unless_quiet, has_request_bits, if_request, for_message, for_frame, onu_received, deed_unless_leaving, deed_unless_kept, message_deed, frame_deed, packet_deed}
use Rattle.resync_laws.proofs.Reading.{is_plain, plain_asked}
use Rattle.resync_laws.proofs.Unit.{IsQuietNote, quiet_deed, quiet_reboot, IsQuietDeed, quiet_section, From, Carries, IsIdle, same_asked}

-- ---- what becomes of a packet

-- the download stays as it is, and nothing is told
pub record LeavesAside (u : Onu) (r : Reception) : Type 0 where
  pub download : r.unit.store.download ≡ u.store.download
  pub did_is : IsIdle r.did
  pub stored : r.stored ≡ []

-- it is a section that isn't its window's last, and isn't dropped under a kept TCI
pub record HoldsIt (bytes : List ℕ) (u : Onu) (r : Reception) : Type 0 where
  pub frame : Frame
  pub tci : ℕ
  pub entity : EntityId
  pub number : ℕ
  pub piece : List ℕ
  pub read : packet_frame bytes ≡ Some frame
  pub asked : message_of frame ≡ Ok (Asked tci entity (request.Section number piece false))
  pub unkept : kept_for frame.tci u.kept ≡ None
  pub is : r ≡ hold_section false (image_deed frame (request.Section number piece false) u) frame.entity.instance u

-- the frame, where it is read as a request, is read as one that asks for a reply
abbrev pub IsLoud : Frame → Type 0
IsLoud f =
    (tci : ℕ) (entity : EntityId) (r : Request) → message_of f ≡ Ok (Asked tci entity r)
    → asks_nothing r ≡ false

-- it is carried out
pub record CarriesIt (bytes : List ℕ) (u : Onu) (r : Reception) : Type 0 where
  pub carries : Carries bytes u r
  pub unkept : kept_for carries.frame.tci u.kept ≡ None
  pub loud : IsLoud carries.frame

abbrev pub ComesIn : List ℕ → Onu → Reception → Type 0
ComesIn bytes u r = LeavesAside u r ⊎ (HoldsIt bytes u r ⊎ CarriesIt bytes u r)

drops : (u : Onu) → LeavesAside u (drop_packet u)
drops u = record { download = refl; did_is = tt; stored = refl }

kept_or : (o : Option (List ℕ)) (bytes : List ℕ) (f : Frame) (a : Answer) (u : Onu)
    → kept_for f.tci u.kept ≡ o → packet_frame bytes ≡ Some f → From f u a → IsLoud f
    → ComesIn bytes u (unless_kept o f.tci a u)
kept_or (Some reply) bytes f a u k e from loud =
    inl (record { download = refl; did_is = tt; stored = refl })
kept_or None bytes f a u k e from loud = go u.leaving
  where
    go : (leaving : Option Boot) → ComesIn bytes u (unless_leaving leaving (keep_reply f.tci a) u)
    go None = inr (inr (record {
      carries = record { frame = f; answer = a; read = e; is = refl; from = from };
      unkept = k;
      loud = loud;
    }))
    go (Some boot) = inl (drops u)

takes : (bytes : List ℕ) (f : Frame) (a : Answer) (u : Onu) → packet_frame bytes ≡ Some f
    → From f u a → IsLoud f → ComesIn bytes u (take_request f a u)
unfolding take_request
takes bytes f a u e from loud = kept_or (kept_for f.tci u.kept) bytes f a u refl e from loud

-- a frame is read as one request
asked_in : Result Message ContentsFault → Request
asked_in (Ok (Asked tci entity r)) = r
asked_in _ = request.Reset

pub one_request : (f : Frame) (tci tci' : ℕ) (entity entity' : EntityId) (q r : Request)
    → message_of f ≡ Ok (Asked tci entity q) → message_of f ≡ Ok (Asked tci' entity' r) → q ≡ r
unfolding asked_in
one_request f tci tci' entity entity' q r a b = ap asked_in (sym a ∙ b)

holds_or : (o : Option (List ℕ)) (bytes : List ℕ) (f : Frame) (tci : ℕ) (entity : EntityId)
    (number : ℕ) (piece : List ℕ) (u : Onu) → kept_for f.tci u.kept ≡ o
    → packet_frame bytes ≡ Some f
    → message_of f ≡ Ok (Asked tci entity (request.Section number piece false))
    → ComesIn bytes u (hold_unless_kept o false (image_deed f (request.Section number piece false) u) f.entity.instance u)
holds_or (Some reply) bytes f tci entity number piece u k e m = inl (drops u)
holds_or None bytes f tci entity number piece u k e m = go u.leaving
  where
    go : (leaving : Option Boot)
        → ComesIn bytes u (unless_leaving leaving (hold_section false (image_deed f (request.Section number piece false) u) f.entity.instance u) u)
    go None = inr (inl (record {
      frame = f;
      tci = tci;
      entity = entity;
      number = number;
      piece = piece;
      read = e;
      asked = m;
      unkept = k;
      is = refl;
    }))
    go (Some boot) = inl (drops u)

quiet_or : (quiet : Bool) (bytes : List ℕ) (f : Frame) (tci : ℕ) (entity : EntityId) (r : Request)
    (u : Onu) → packet_frame bytes ≡ Some f → message_of f ≡ Ok (Asked tci entity r)
    → asks_nothing r ≡ quiet → ComesIn bytes u (unless_quiet quiet false f r u)
unfolding take_section
quiet_or true bytes f tci entity (request.Section number piece false) u e m q =
    holds_or (kept_for f.tci u.kept) bytes f tci entity number piece u refl e m
quiet_or true bytes f tci entity (request.Section number piece true) u e m q = absurd (false≢true q)
quiet_or true bytes f tci entity _ u e m q = absurd (false≢true q)
quiet_or false bytes f tci entity r u e m q =
    takes bytes f (answer false f r u) u e
    (inl (record { tci = tci; entity = entity; request = r; read = m; is = refl }))
    (λ tci' entity' x k. ap asks_nothing (one_request f tci' tci entity' entity x r k m) ∙ q)

bits_or : (b : Bool) (bytes : List ℕ) (f : Frame) (number : ℕ) (u : Onu)
    → packet_frame bytes ≡ Some f → message_of f ≡ Err (UnknownType number)
    → ComesIn bytes u (if_request b f u)
bits_or true bytes f number u e m =
    takes bytes f (not_supported f u) u e (inr (record { number = number; read = m; is = refl }))
    (λ tci entity x k. absurd (cc))
bits_or false bytes f number u e m = inl (drops u)

by_message : (m : Result Message ContentsFault) (bytes : List ℕ) (f : Frame) (u : Onu)
    → packet_frame bytes ≡ Some f → message_of f ≡ m → ComesIn bytes u (for_message false m f u)
by_message (Ok (Asked tci entity r)) bytes f u e m =
    quiet_or (asks_nothing r) bytes f tci entity r u e m refl
by_message (Ok (Answered tci entity r)) bytes f u e m = inl (drops u)
by_message (Ok (Told tci entity r)) bytes f u e m = inl (drops u)
by_message (Err (UnknownType number)) bytes f u e m =
    bits_or (has_request_bits f.kind) bytes f number u e m
by_message (Err (Bits kind)) bytes f u e m = inl (drops u)

by_frame : (o : Option Frame) (bytes : List ℕ) (u : Onu) → packet_frame bytes ≡ o
    → ComesIn bytes u (for_frame false o u)
by_frame None bytes u e = inl (drops u)
by_frame (Some f) bytes u e = by_message (message_of f) bytes f u e refl

pub comes_in : (bytes : List ℕ) (u : Onu) → ComesIn bytes u (onu_received false bytes u)
unfolding onu_received
comes_in bytes u = by_frame (packet_frame bytes) bytes u refl

-- ---- a section that is held

pub held_idle : (d : Deed) → IsQuietDeed d → IsIdle (quiet_did (handled_by false d))
held_idle Ignore h = tt
held_idle (Hold window) h = tt
held_idle (Refuse code) h = tt
held_idle (RefuseWindow code) h = tt
held_idle (GiveUp code) h = tt
held_idle (Begin target size granted) h = tt
held_idle (Put bytes) h = tt
held_idle (Seal target image) h = tt
held_idle (Activate leaves) h = tt
held_idle (Commit target) h = tt
held_idle (Recommit target) h = tt

pub held_stored : (d : Deed) → IsQuietDeed d → entries_by false d ≡ []
held_stored Ignore h = refl
held_stored (Hold window) h = refl
held_stored (Refuse code) h = absurd h
held_stored (RefuseWindow code) h = absurd h
held_stored (GiveUp code) h = absurd h
held_stored (Begin target size granted) h = absurd h
held_stored (Put bytes) h = absurd h
held_stored (Seal target image) h = absurd h
held_stored (Activate leaves) h = absurd h
held_stored (Commit target) h = absurd h
held_stored (Recommit target) h = absurd h

pub quiet_of : (f : Frame) (number : ℕ) (piece : List ℕ) (u : Onu)
    → IsQuietDeed (image_deed f (request.Section number piece false) u)
quiet_of f number piece u =
    quiet_section u.room f.tci f.entity (request.Section number piece false) u.store refl

-- ---- the deeds of a download's requests

unless_case : (P : Deed → Type 0) (refusing : ℕ → Deed) (code : ℕ) (d : Deed)
    → ((code == 0) ≡ false → P (refusing code)) → P d → P (unless_refused refusing code d)
unless_case P refusing code d refused passed = elim (cases_Bool (code == 0)) [
  | inl is ↦ subst (λ (b : Bool). P (if b then d else refusing code)) (sym is) passed
  | inr is ↦ subst (λ (b : Bool). P (if b then d else refusing code)) (sym is) (refused is)
]

-- a start begins a download of that size into that slot, or is refused
abbrev pub IsBegin : ℕ → ℕ → Deed → Type 0
IsBegin slot size (Begin target whole granted) = (target ≡ slot) × (whole ≡ size)
IsBegin slot size (Refuse code) = (code == 0) ≡ false
IsBegin slot size Ignore = ⊥
IsBegin slot size (RefuseWindow code) = ⊥
IsBegin slot size (GiveUp code) = ⊥
IsBegin slot size (Hold window) = ⊥
IsBegin slot size (Put bytes) = ⊥
IsBegin slot size (Seal target image) = ⊥
IsBegin slot size (Activate leaves) = ⊥
IsBegin slot size (Commit target) = ⊥
IsBegin slot size (Recommit target) = ⊥

pub start_begins : (room tci : ℕ) (one : EntityId) (window size targets target : ℕ)
    (m : StoreState)
    → IsBegin one.instance size (deed room tci one (request.Start window size targets target) m)
unfolding deed
start_begins room tci one window size targets target m =
    let P = IsBegin one.instance size in
    unless_case P (refuse (request.Start window size targets target)) (image_code one m.broken)
    (slot_deed room tci one.instance (request.Start window size targets target) m) (λ other. other)
    (unless_case P Refuse
    (start_code (is_in_use one.instance m.active m.slots.committed) room targets size)
    (Begin one.instance size (min window 32)) (λ other. other) (refl, refl))

-- a section that ends its window puts it, or it is refused
abbrev pub IsPut : Deed → Type 0
IsPut (Put bytes) = Unit {0}
IsPut (RefuseWindow code) = (code == 0) ≡ false
IsPut Ignore = ⊥
IsPut (Refuse code) = ⊥
IsPut (GiveUp code) = ⊥
IsPut (Begin target size granted) = ⊥
IsPut (Hold window) = ⊥
IsPut (Seal target image) = ⊥
IsPut (Activate leaves) = ⊥
IsPut (Commit target) = ⊥
IsPut (Recommit target) = ⊥

put_on : (slot tci number : ℕ) (piece : List ℕ) (o : Option Loading)
    → IsPut (on_download RefuseWindow slot o (λ l. put_deed (section tci number piece) l))
put_on slot tci number piece None = refl
put_on slot tci number piece (Some l) = go (slot == l.target)
  where
    go : (b : Bool)
        → IsPut (if b then put_deed (section tci number piece) l else RefuseWindow 3)
    go true =
        unless_case IsPut RefuseWindow
        (window_code l.granted l.size (length l.put)
        (answer_of (section tci number piece) true l.window))
        (Put (l.put ++ (window_after (section tci number piece) l).bytes)) (λ other. other) tt
    go false = refl

pub window_puts : (room tci : ℕ) (one : EntityId) (number : ℕ) (piece : List ℕ) (m : StoreState)
    → IsPut (deed room tci one (request.Section number piece true) m)
unfolding deed
window_puts room tci one number piece m =
    unless_case IsPut (refuse (request.Section number piece true)) (image_code one m.broken)
    (slot_deed room tci one.instance (request.Section number piece true) m) (λ other. other)
    (put_on one.instance tci number piece m.download)

-- an end seals what the download has, or it is refused, or the download ends
abbrev pub IsEnd : Option Loading → Deed → Type 0
IsEnd o (Seal slot image) = (l : Loading) × (o ≡ Some l) × (slot ≡ l.target) × (image ≡ l.put)
IsEnd o (Refuse code) = (code == 0) ≡ false
IsEnd o (GiveUp code) = (code == 0) ≡ false
IsEnd o Ignore = ⊥
IsEnd o (RefuseWindow code) = ⊥
IsEnd o (Begin target size granted) = ⊥
IsEnd o (Hold window) = ⊥
IsEnd o (Put bytes) = ⊥
IsEnd o (Activate leaves) = ⊥
IsEnd o (Commit target) = ⊥
IsEnd o (Recommit target) = ⊥

end_on : (slot check given : ℕ) (o : Option Loading)
    → IsEnd o (on_download Refuse slot o (λ l. seal_deed check given l))
end_on slot check given None = refl
end_on slot check given (Some l) = go (slot == l.target)
  where
    go : (b : Bool) → IsEnd (Some l) (if b then seal_deed check given l else Refuse 3)
    go true =
        unless_case (IsEnd (Some l)) GiveUp (seal_code check given l.size l.put)
        (Seal l.target l.put) (λ other. other) (l, refl, refl, refl)
    go false = refl

pub end_seals : (room tci : ℕ) (one : EntityId) (check size targets target : ℕ) (m : StoreState)
    → IsEnd m.download (deed room tci one (request.End check size targets target) m)
unfolding deed
end_seals room tci one check size targets target m =
    let P = IsEnd m.download in
    unless_case P (refuse (request.End check size targets target)) (image_code one m.broken)
    (slot_deed room tci one.instance (request.End check size targets target) m) (λ other. other)
    (end_on one.instance check size m.download)

-- ---- requests beside a download

-- no entry is of a check
abbrev pub NoCheck : List StoreEntry → Type 0
NoCheck [] = Unit {0}
NoCheck (Checked slot image check ∷ es) = ⊥
NoCheck (CommitBegun slot ∷ es) = NoCheck es
NoCheck (Committed slot ∷ es) = NoCheck es

-- a deed that leaves the download alone, and isn't a check's
abbrev pub IsBeside : Deed → Type 0
IsBeside Ignore = Unit {0}
IsBeside (Refuse code) = Unit {0}
IsBeside (RefuseWindow code) = ⊥
IsBeside (GiveUp code) = ⊥
IsBeside (Begin target size granted) = ⊥
IsBeside (Hold window) = ⊥
IsBeside (Put bytes) = ⊥
IsBeside (Seal target image) = ⊥
IsBeside (Activate leaves) = Unit {0}
IsBeside (Commit target) = Unit {0}
IsBeside (Recommit target) = Unit {0}

beside_download : (d : Deed) (o : Option Loading) → IsBeside d → download_after d o ≡ o
beside_download Ignore o h = refl
beside_download (Refuse code) o h = refl
beside_download (RefuseWindow code) o h = absurd h
beside_download (GiveUp code) o h = absurd h
beside_download (Begin target size granted) o h = absurd h
beside_download (Hold window) o h = absurd h
beside_download (Put bytes) o h = absurd h
beside_download (Seal target image) o h = absurd h
beside_download (Activate leaves) o h = refl
beside_download (Commit target) o h = refl
beside_download (Recommit target) o h = refl

beside_stored : (d : Deed) → IsBeside d → NoCheck (reverse (entries_by false d))
beside_stored Ignore h = tt
beside_stored (Refuse code) h = tt
beside_stored (RefuseWindow code) h = absurd h
beside_stored (GiveUp code) h = absurd h
beside_stored (Begin target size granted) h = absurd h
beside_stored (Hold window) h = absurd h
beside_stored (Put bytes) h = absurd h
beside_stored (Seal target image) h = absurd h
beside_stored (Activate leaves) h = tt
beside_stored (Commit target) h = tt
beside_stored (Recommit target) h = tt

pub beside_before : (d : Deed) → IsBeside d → NoCheck (reverse (entries_before d))
beside_before Ignore h = tt
beside_before (Refuse code) h = tt
beside_before (RefuseWindow code) h = absurd h
beside_before (GiveUp code) h = absurd h
beside_before (Begin target size granted) h = absurd h
beside_before (Hold window) h = absurd h
beside_before (Put bytes) h = absurd h
beside_before (Seal target image) h = absurd h
beside_before (Activate leaves) h = tt
beside_before (Commit target) h = tt
beside_before (Recommit target) h = tt

commit_by : (b : Bool) (slot : ℕ) → IsBeside (if b then Recommit slot else Commit slot)
commit_by true slot = tt
commit_by false slot = tt

if_beside : (b : Bool) (d e : Deed) → IsBeside d → IsBeside e → IsBeside (if b then d else e)
if_beside true d e h k = h
if_beside false d e h k = k

-- so is each that a caller's request comes to
pub plain_beside : (room tci : ℕ) (one : EntityId) (r : Request) (m : StoreState)
    → is_plain r ≡ true → IsBeside (deed room tci one r m)
unfolding deed
plain_beside room tci one (request.Activate flags) m p =
    unless_case IsBeside Refuse (image_code one m.broken) (activate_deed one.instance m)
    (λ other. tt)
    (unless_case IsBeside Refuse (valid_code (has_image one.instance m.slots))
    (Activate _) (λ other. tt) tt)
plain_beside room tci one request.Commit m p =
    unless_case IsBeside Refuse (image_code one m.broken) (commit_deed one.instance m.slots)
    (λ other. tt)
    (unless_case IsBeside Refuse (valid_code (has_image one.instance m.slots))
    (if one.instance == m.slots.committed then Recommit one.instance else Commit one.instance)
    (λ other. tt) (commit_by (one.instance == m.slots.committed) one.instance))
plain_beside room tci one (request.Start window size targets target) m p = absurd (false≢true p)
plain_beside room tci one (request.Section number bytes last) m p = absurd (false≢true p)
plain_beside room tci one (request.End check size targets target) m p = absurd (false≢true p)
plain_beside room tci one (request.Create values) m p = if_beside (image_code one m.broken == 0) Ignore Ignore tt tt
plain_beside room tci one request.Delete m p = if_beside (image_code one m.broken == 0) Ignore Ignore tt tt
plain_beside room tci one (request.Set mask values) m p = if_beside (image_code one m.broken == 0) Ignore Ignore tt tt
plain_beside room tci one (request.Get mask) m p = if_beside (image_code one m.broken == 0) Ignore Ignore tt tt
plain_beside room tci one request.Reset m p = if_beside (image_code one m.broken == 0) Ignore Ignore tt tt
plain_beside room tci one (request.Alarms mode) m p = absurd (false≢true p)
plain_beside room tci one (request.AlarmsNext number) m p = absurd (false≢true p)
plain_beside room tci one request.Upload m p = absurd (false≢true p)
plain_beside room tci one (request.UploadNext number) m p = absurd (false≢true p)
plain_beside room tci one (request.Reboot flags) m p = if_beside (image_code one m.broken == 0) Ignore Ignore tt tt

-- an answer that leaves the download alone
pub record IsBesideAnswer (u : Onu) (a : Answer) : Type 0 where
  pub download : a.unit.store.download ≡ u.store.download
  pub note : IsQuietNote a.note
  pub stored : NoCheck (reverse a.stored)

plain_answer : (f : Frame) (r : Request) (u : Onu) → is_plain r ≡ true
    → IsBesideAnswer u (answer false f r u)
unfolding answer
plain_answer f (request.Create values) u p = record { download = refl; note = tt; stored = tt }
plain_answer f request.Delete u p = record { download = refl; note = tt; stored = tt }
plain_answer f (request.Set mask values) u p = record { download = refl; note = tt; stored = tt }
plain_answer f (request.Get mask) u p = record { download = refl; note = tt; stored = tt }
plain_answer f request.Reset u p = record { download = refl; note = tt; stored = tt }
plain_answer f (request.Alarms mode) u p = absurd (false≢true p)
plain_answer f (request.AlarmsNext number) u p = absurd (false≢true p)
plain_answer f request.Upload u p = absurd (false≢true p)
plain_answer f (request.UploadNext number) u p = absurd (false≢true p)
plain_answer f (request.Start window size targets target) u p = absurd (false≢true p)
plain_answer f (request.Section number bytes last) u p = absurd (false≢true p)
plain_answer f (request.End crc size targets target) u p = absurd (false≢true p)
plain_answer f (request.Activate flags) u p =
    let d = image_deed f (request.Activate flags) u in
    let b = plain_beside u.room f.tci f.entity (request.Activate flags) u.store p in
    record {
      download = beside_download d u.store.download b;
      note = quiet_deed d f.entity.instance;
      stored = beside_stored d b;
    }
plain_answer f request.Commit u p =
    let d = image_deed f request.Commit u in
    let b = plain_beside u.room f.tci f.entity request.Commit u.store p in
    record {
      download = beside_download d u.store.download b;
      note = quiet_deed d f.entity.instance;
      stored = beside_stored d b;
    }
plain_answer f (request.Reboot flags) u p =
    record { download = refl; note = quiet_reboot (reboot_code f.entity); stored = tt }

pub carries_beside : (tci : ℕ) (entity : EntityId) (q : Request) (bytes : List ℕ) (u : Onu)
    (r : Reception) → bytes ≡ spelling (plain (Asked tci entity q)) → is_plain q ≡ true
    → (c : Carries bytes u r) → IsBesideAnswer u c.answer
carries_beside tci entity q bytes u r made p c =
    let g = plain_asked tci entity q c.frame p (ap packet_frame (sym made) ∙ c.read) in
    subst (IsBesideAnswer u) (sym (same_asked c.frame u c.answer c.frame.tci c.frame.entity g.asked g.is c.from))
    (plain_answer c.frame g.asked u g.plainly)

-- ---- the deed of a packet

-- it asks nothing of the store
pub record AsksOf (bytes : List ℕ) (u : Onu) (d : Deed) : Type 0 where
  pub frame : Frame
  pub tci : ℕ
  pub entity : EntityId
  pub asked : Request
  pub read : packet_frame bytes ≡ Some frame
  pub is_asked : message_of frame ≡ Ok (Asked tci entity asked)
  pub unkept : kept_for frame.tci u.kept ≡ None
  pub is : d ≡ image_deed frame asked u

deed_kept : (o : Option (List ℕ)) (bytes : List ℕ) (f : Frame) (tci : ℕ) (entity : EntityId)
    (r : Request) (u : Onu) → kept_for f.tci u.kept ≡ o → packet_frame bytes ≡ Some f
    → message_of f ≡ Ok (Asked tci entity r)
    → (deed_unless_kept o u.leaving (image_deed f r u) ≡ Ignore)
    ⊎ AsksOf bytes u (deed_unless_kept o u.leaving (image_deed f r u))
deed_kept (Some reply) bytes f tci entity r u k e m = inl refl
deed_kept None bytes f tci entity r u k e m = go u.leaving
  where
    go : (leaving : Option Boot) → (deed_unless_leaving leaving (image_deed f r u) ≡ Ignore)
        ⊎ AsksOf bytes u (deed_unless_leaving leaving (image_deed f r u))
    go None = inr (record {
      frame = f;
      tci = tci;
      entity = entity;
      asked = r;
      read = e;
      is_asked = m;
      unkept = k;
      is = refl;
    })
    go (Some boot) = inl refl

deed_message : (m : Result Message ContentsFault) (bytes : List ℕ) (f : Frame) (u : Onu)
    → packet_frame bytes ≡ Some f → message_of f ≡ m
    → (message_deed m f u ≡ Ignore) ⊎ AsksOf bytes u (message_deed m f u)
deed_message (Ok (Asked tci entity r)) bytes f u e m =
    deed_kept (kept_for f.tci u.kept) bytes f tci entity r u refl e m
deed_message (Ok (Answered tci entity r)) bytes f u e m = inl refl
deed_message (Ok (Told tci entity r)) bytes f u e m = inl refl
deed_message (Err fault) bytes f u e m = inl refl

deed_frame : (o : Option Frame) (bytes : List ℕ) (u : Onu) → packet_frame bytes ≡ o
    → (frame_deed o u ≡ Ignore) ⊎ AsksOf bytes u (frame_deed o u)
deed_frame None bytes u e = inl refl
deed_frame (Some f) bytes u e = deed_message (message_of f) bytes f u e refl

pub asks_of : (bytes : List ℕ) (u : Onu)
    → (packet_deed bytes u ≡ Ignore) ⊎ AsksOf bytes u (packet_deed bytes u)
unfolding packet_deed
asks_of bytes u = deed_frame (packet_frame bytes) bytes u refl
