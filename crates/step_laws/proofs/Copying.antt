-- What a request does to the unit's database, and its reply to the manager's copy.
use Rattle.std.proofs.Common.{◌≡◌, ◌≢◌, ℕ, ◌<◌, ◌^◌, Bool, true, false, cond, List, ◌++◌, length, Option, Some, None}
use Rattle.std.proofs.Common.{◌⊎◌, inl, inr, ⊎_elim, is_some, refl, sym, ap, subst, ◌∙◌, ◌==◌}
use Rattle.std.proofs.lemmas.Bool.{and_parts, false≢true, eqb-true, eqb-false}
use Rattle.std.specs.Option.{option_map, option_map_or}
use Rattle.omci_types.specs.declared.EntityId.{EntityId}
use Rattle.omci_types.specs.declared.Frame.{Frame}
use Rattle.class_spec.specs.declared.TheConstants.{ONU_DATA}
use Rattle.frame_spec.specs.Baseline.{spelling, packet_frame}
use Rattle.message_spec.specs.declared.Request.{Request}
use Rattle.message_spec.specs.declared.Request.TheVariants as request
use Rattle.message_spec.specs.declared.Response.{Response}
use Rattle.mib_spec.specs.Database.{Database, Managed, managed_of, is_held, is_by_unit}
use Rattle.mib_spec.specs.Database.{is_made_by_unit, has_unit_entities}
use Rattle.mib_spec.specs.Requests.{create_outcome, delete_outcome, set_outcome, reset_code, reset}
use Rattle.mib_spec.specs.Requests.{unless_refused}
use Rattle.mib_laws.proofs.UnitEntities.{keeps_create, keeps_delete, keeps_set, keeps_reset}
use Rattle.upload_spec.specs.Pieces.{Copy}
use Rattle.lane_spec.specs.Command.{Command, is_changing}
use Rattle.manager_spec.specs.declared.Phase.TheVariants as phase
use Rattle.manager_spec.specs.Manager.{Manager}
use Rattle.manager_spec.specs.Copying.{copy_after, followed_if, followed}
use Rattle.manager_spec.specs.Submitting.{leaves_copy}
use Rattle.manager_spec.specs.Steps.{response_of, code_of, followed_by}
use Rattle.omci_types.specs.declared.Software.{Software}
use Rattle.mib_spec.specs.Database.{with_software}
use Rattle.mib_laws.proofs.UnitEntities.{keeps_grown, keeps_software}
use Rattle.upload_spec.specs.Copies.{copy_grown}
use Rattle.window_spec.specs.declared.Arrived.{Arrived}
use Rattle.window_spec.specs.declared.Arrived.TheVariants as arrived
use Rattle.window_spec.specs.Incoming.{Section, section, answer as answer_of}
use Rattle.store_spec.specs.declared.Handled.{Handled}
use Rattle.store_spec.specs.declared.Handled.TheVariants as handled
use Rattle.store_spec.specs.State.{Loading, StoreState, software_of, has_image, window_after}
use Rattle.store_spec.specs.Deeds.{Deed, Ignore, Refuse, RefuseWindow, GiveUp, Begin, Hold, Put}
use Rattle.store_spec.specs.Deeds.{Seal, Activate, Commit, Recommit, ignore, image_code, is_in_use}
use Rattle.store_spec.specs.Deeds.{start_code as start_deed_code, window_code, seal_code, valid_code}
use Rattle.store_spec.specs.Deeds.{on_download, put_deed, hold_by, hold_deed, seal_deed, deed}
use Rattle.store_spec.specs.Effects.{store_after, handled_by}
use Rattle.unit_spec.specs.Images.{code_handled, granted_by, counted_if, database_handled}
use Rattle.unit_spec.specs.Onu.{Onu, image_deed, image_handled, answer}
use Rattle.resync_laws.proofs.Databases.{slots_versions}
use Rattle.step_laws.proofs.Sensing.{software_copied}
use Rattle.resync_laws.specs.Agreeing.{IsCopied}
use Rattle.resync_laws.proofs.Reading.{is_plain}
use Rattle.resync_laws.proofs.Unit.{LongEnough}
use Rattle.resync_laws.proofs.Following.{created_copied, deleted_copied, set_copied, create_refused}
use Rattle.resync_laws.proofs.Following.{grown_copied}
use Rattle.resync_laws.proofs.Following.{delete_refused, set_refused}
use Rattle.step_laws.proofs.Reading.{HasCode, create_code, delete_code, set_code, commit_code}
use Rattle.step_laws.proofs.Reading.{start_code, end_code, form}

-- ---- the unit's entities stay

made_held : (o : Option Managed) → option_map_or
    (λ managed. is_by_unit managed.maker) o false ≡ true
    → is_some o ≡ true
made_held None e = e
made_held (Some managed) e = refl

pub has_data : (database : Database) → has_unit_entities database ≡ true
    → is_held ONU_DATA database ≡ true
unfolding has_unit_entities
has_data database h =
    made_held (managed_of ONU_DATA database) (and_parts (is_made_by_unit database ONU_DATA) _ h).0

has_unless : (code : ℕ) (after before : Database) → has_unit_entities after ≡ true
    → has_unit_entities before ≡ true → has_unit_entities (unless_refused code after before) ≡ true
has_unless code after before h k = go (code == 0)
  where
    go : (b : Bool) → has_unit_entities (cond b after before) ≡ true
    go true = h
    go false = k

has_counted : (grows : Bool) (m : Software) (db : Database) → has_unit_entities db ≡ true
    → has_unit_entities (counted_if grows m db) ≡ true
has_counted true m db h = keeps_grown (with_software m db) (keeps_software m db h)
has_counted false m db h = h

has_handled : (h : Handled) (m : Software) (db : Database) → has_unit_entities db ≡ true
    → has_unit_entities (database_handled h m db) ≡ true
has_handled (handled.Answered code grows leaves) m db h = has_counted grows m db h
has_handled handled.Held m db h = h
has_handled handled.Dropped m db h = h

deed_has : (d : Deed) (slot : ℕ) (u : Onu) → has_unit_entities u.database ≡ true
    → has_unit_entities (image_handled false d slot u).database ≡ true
deed_has d slot u h =
    has_handled (handled_by false d) (software_of (store_after false d u.store)) u.database h

pub answer_has : (f : Frame) (r : Request) (u : Onu) → has_unit_entities u.database ≡ true
    → has_unit_entities (answer false f r u).unit.database ≡ true
unfolding answer
answer_has f (request.Create values) u h = keeps_create f.entity values u.database h
answer_has f request.Delete u h = keeps_delete f.entity u.database h
answer_has f (request.Set mask values) u h = keeps_set f.entity mask values u.database h
answer_has f request.Reset u h =
    has_unless (reset_code f.entity) (reset u.database) u.database (keeps_reset u.database) h
answer_has f (request.Start window size targets target) u h =
    deed_has (image_deed f (request.Start window size targets target) u) f.entity.instance u h
answer_has f (request.Section number bytes last) u h =
    deed_has (image_deed f (request.Section number bytes last) u) f.entity.instance u h
answer_has f (request.End crc size targets target) u h =
    deed_has (image_deed f (request.End crc size targets target) u) f.entity.instance u h
answer_has f (request.Activate flags) u h =
    deed_has (image_deed f (request.Activate flags) u) f.entity.instance u h
answer_has f request.Commit u h =
    deed_has (image_deed f request.Commit u) f.entity.instance u h
answer_has f _ u h = h

-- ---- requests that change nothing

-- a deed that counts nothing
abbrev IsStill : Deed → Type 0
IsStill Ignore = Unit {0}
IsStill (Refuse code) = Unit {0}
IsStill (RefuseWindow code) = Unit {0}
IsStill (GiveUp code) = Unit {0}
IsStill (Begin target size granted) = ⊥
IsStill (Hold window) = Unit {0}
IsStill (Put bytes) = Unit {0}
IsStill (Seal target image) = ⊥
IsStill (Activate leaves) = ⊥
IsStill (Commit target) = ⊥
IsStill (Recommit target) = ⊥

still_database : (d : Deed) (slot : ℕ) (u : Onu) → IsStill d
    → (image_handled false d slot u).database ≡ u.database
still_database Ignore slot u h = refl
still_database (Refuse code) slot u h = refl
still_database (RefuseWindow code) slot u h = refl
still_database (GiveUp code) slot u h = refl
still_database (Begin target size granted) slot u h = absurd h
still_database (Hold window) slot u h = refl
still_database (Put bytes) slot u h = refl
still_database (Seal target image) slot u h = absurd h
still_database (Activate leaves) slot u h = absurd h
still_database (Commit target) slot u h = absurd h
still_database (Recommit target) slot u h = absurd h

still_if : (b : Bool) (d e : Deed) → IsStill d → IsStill e → IsStill (cond b d e)
still_if true d e h k = h
still_if false d e h k = k

still_hold : (a : Arrived) (s : Section) (l : Loading) → IsStill (hold_by a s l)
still_hold arrived.Held s l = tt
still_hold arrived.Ignored s l = tt
still_hold arrived.Broken s l = tt
still_hold (arrived.Whole sections) s l = tt

still_put : (s : Section) (l : Loading) → IsStill (put_deed s l)
still_put s l =
    still_if (window_code l.granted l.size (length l.put) (answer_of s true l.window) == 0)
    (Put (l.put ++ (window_after s l).bytes)) _ tt tt

still_window : (slot : ℕ) (o : Option Loading) (s : Section)
    → IsStill (on_download RefuseWindow slot o (λ l. put_deed s l))
still_window slot None s = tt
still_window slot (Some l) s = still_if (slot == l.target) (put_deed s l) _ (still_put s l) tt

still_section : (slot : ℕ) (o : Option Loading) (s : Section)
    → IsStill (on_download ignore slot o (λ l. hold_deed s l))
still_section slot None s = tt
still_section slot (Some l) s =
    still_if (slot == l.target) (hold_deed s l) Ignore (still_hold (answer_of s false l.window) s l) tt

section_still : (room tci : ℕ) (one : EntityId) (number : ℕ) (bytes : List ℕ) (last : Bool)
    (m : StoreState) → IsStill (deed room tci one (request.Section number bytes last) m)
unfolding deed
section_still room tci one number bytes true m =
    still_if (image_code one m.broken == 0) _ _
    (still_window one.instance m.download (section tci number bytes)) tt
section_still room tci one number bytes false m =
    still_if (image_code one m.broken == 0) _ _
    (still_section one.instance m.download (section tci number bytes)) tt

pub same_database : (f : Frame) (r : Request) (u : Onu) → is_changing r ≡ false
    → (answer false f r u).unit.database ≡ u.database
unfolding answer
same_database f (request.Create values) u e = absurd (false≢true (sym e))
same_database f request.Delete u e = absurd (false≢true (sym e))
same_database f (request.Set mask values) u e = absurd (false≢true (sym e))
same_database f request.Reset u e = absurd (false≢true (sym e))
same_database f (request.Start window size targets target) u e = absurd (false≢true (sym e))
same_database f (request.Section number bytes last) u e =
    still_database (image_deed f (request.Section number bytes last) u) f.entity.instance u
    (section_still u.room f.tci f.entity number bytes last u.store)
same_database f (request.End crc size targets target) u e = absurd (false≢true (sym e))
same_database f (request.Activate flags) u e = absurd (false≢true (sym e))
same_database f request.Commit u e = absurd (false≢true (sym e))
same_database f (request.Reboot flags) u e = absurd (false≢true (sym e))
same_database f _ u e = refl

-- ---- the copy

-- the copy of a manager in step, after that reply to a request for an entity
abbrev pub followed_copy : EntityId → Request → Option Response → Copy → Copy
followed_copy one r None copy = copy
followed_copy one r (Some x) copy = cond (code_of x == 0) (copy_after phase.InStep one r copy) copy

pub same_copy : (one : EntityId) (r : Request) (o : Option Response) (copy : Copy)
    → is_changing r ≡ false → followed_copy one r o copy ≡ copy
same_copy one r None copy e = refl
same_copy one r (Some x) copy e = go (code_of x == 0) r e
  where
    go : (b : Bool) (q : Request) → is_changing q ≡ false
        → cond b (copy_after phase.InStep one q copy) copy ≡ copy
    go false q e = refl
    go true (request.Create values) e = absurd (false≢true (sym e))
    go true request.Delete e = absurd (false≢true (sym e))
    go true (request.Set mask values) e = absurd (false≢true (sym e))
    go true request.Commit e = absurd (false≢true (sym e))
    go true (request.Start window size targets target) e = absurd (false≢true (sym e))
    go true (request.End crc size targets target) e = absurd (false≢true (sym e))
    go true _ e = refl

-- a reply that is followed leaves the lanes, the phase and the job alone
pub record Follows (m a : Manager) : Type 0 where
  pub low : a.low ≡ m.low
  pub high : a.high ≡ m.high
  pub phase : a.phase ≡ m.phase
  pub job : a.job ≡ m.job

follows_if : (b : Bool) (one : EntityId) (r : Request) (m : Manager)
    → Follows m (followed_if b one r m)
follows_if true one r m = record { low = refl; high = refl; phase = refl; job = refl }
follows_if false one r m = record { low = refl; high = refl; phase = refl; job = refl }

pub follows : (c : Command) (o : Option Response) (m : Manager) → Follows m (followed_by c o m)
unfolding followed
follows c None m = record { low = refl; high = refl; phase = refl; job = refl }
follows c (Some r) m = follows_if (code_of r == 0) c.entity c.request m

copy_if : (b : Bool) (one : EntityId) (r : Request) (m : Manager) (copy : Copy)
    → m.phase ≡ phase.InStep → m.copy ≡ Some copy
    → (followed_if b one r m).copy ≡ Some (cond b (copy_after phase.InStep one r copy) copy)
copy_if true one r m copy e h =
    ap (option_map (copy_after m.phase one r)) h ∙ ap (λ p. Some (copy_after p one r copy)) e
copy_if false one r m copy e h = h

pub follows_copy : (c : Command) (o : Option Response) (m : Manager) (copy : Copy)
    → m.phase ≡ phase.InStep → m.copy ≡ Some copy
    → (followed_by c o m).copy ≡ Some (followed_copy c.entity c.request o copy)
unfolding followed
follows_copy c None m copy e h = h
follows_copy c (Some r) m copy e h = copy_if (code_of r == 0) c.entity c.request m copy e h

-- ---- both

by_code : (one : EntityId) (r : Request) (n : ℕ) (g : Frame) (after before : Database) (copy : Copy)
    → HasCode g n → (n ≡ 0 → IsCopied after (copy_after phase.InStep one r copy))
    → (n ≢ 0 → after ≡ before) → IsCopied before copy
    → IsCopied after (followed_copy one r (response_of g) copy)
by_code one r n g after before copy k done refused h =
    subst (λ o. IsCopied after (followed_copy one r o copy)) (sym k.is)
    (subst (λ x. IsCopied after (cond (x == 0) (copy_after phase.InStep one r copy) copy))
    (sym k.code)
    (go (n == 0) refl))
  where
    go : (b : Bool) → (n == 0) ≡ b → IsCopied after
        (cond b (copy_after phase.InStep one r copy) copy)
    go true e = done (eqb-true n 0 e)
    go false e = subst (λ d. IsCopied d copy) (sym (refused (eqb-false n 0 e))) h

-- ---- requests that count

-- a deed of a start, an end or a commit: it is done by code 0, or refused by another one
abbrev IsSound : Deed → Type 0
IsSound Ignore = ⊥
IsSound (Refuse code) = code ≢ 0
IsSound (RefuseWindow code) = ⊥
IsSound (GiveUp code) = code ≢ 0
IsSound (Begin target size granted) = Unit {0}
IsSound (Hold window) = ⊥
IsSound (Put bytes) = ⊥
IsSound (Seal target image) = Unit {0}
IsSound (Activate leaves) = ⊥
IsSound (Commit target) = Unit {0}
IsSound (Recommit target) = Unit {0}

sound_refuse : (code : ℕ) (d : Deed) → IsSound d → IsSound (cond (code == 0) d (Refuse code))
sound_refuse code d h = go (code == 0) refl
  where
    go : (b : Bool) → (code == 0) ≡ b → IsSound (cond b d (Refuse code))
    go true e = h
    go false e = eqb-false code 0 e

sound_give_up : (code : ℕ) (d : Deed) → IsSound d → IsSound (cond (code == 0) d (GiveUp code))
sound_give_up code d h = go (code == 0) refl
  where
    go : (b : Bool) → (code == 0) ≡ b → IsSound (cond b d (GiveUp code))
    go true e = h
    go false e = eqb-false code 0 e

start_sound : (room tci : ℕ) (one : EntityId) (window size targets target : ℕ) (m : StoreState)
    → IsSound (deed room tci one (request.Start window size targets target) m)
unfolding deed
start_sound room tci one window size targets target m =
    sound_refuse (image_code one m.broken) _
    (sound_refuse (start_deed_code (is_in_use one.instance m.active m.slots.committed) room targets size)
    _ tt)

end_if : (b : Bool) (d : Deed) → IsSound d → IsSound (cond b d (Refuse 3))
end_if true d h = h
end_if false d h = λ e. absurd (cc)

end_running : (slot check given : ℕ) (o : Option Loading)
    → IsSound (on_download Refuse slot o (λ l. seal_deed check given l))
end_running slot check given None = λ e. absurd (cc)
end_running slot check given (Some l) =
    end_if (slot == l.target) (seal_deed check given l)
    (sound_give_up (seal_code check given l.size l.put) (Seal l.target l.put) tt)

end_sound : (room tci : ℕ) (one : EntityId) (check size targets target : ℕ) (m : StoreState)
    → IsSound (deed room tci one (request.End check size targets target) m)
unfolding deed
end_sound room tci one check size targets target m =
    sound_refuse (image_code one m.broken) _ (end_running one.instance check size m.download)

commit_if : (b : Bool) (slot : ℕ) → IsSound (cond b (Recommit slot) (Commit slot))
commit_if true slot = tt
commit_if false slot = tt

commit_sound : (room tci : ℕ) (one : EntityId) (m : StoreState)
    → IsSound (deed room tci one request.Commit m)
unfolding deed
commit_sound room tci one m =
    sound_refuse (image_code one m.broken) _
    (sound_refuse (valid_code (has_image one.instance m.slots)) _
    (commit_if (one.instance == m.slots.committed) one.instance))

-- the database after such a deed agrees with the copy after its reply
deed_copied : (d : Deed) (one : EntityId) (r : Request) (slot : ℕ) (u : Onu) (copy : Copy)
    (g : Frame) → IsSound d → HasCode g (code_handled (handled_by false d))
    → copy_after phase.InStep one r copy ≡ copy_grown copy → IsCopied u.database copy
    → IsCopied (image_handled false d slot u).database (followed_copy one r (response_of g) copy)
deed_copied d one r slot u copy g sound code grows h =
    by_code one r (code_handled (handled_by false d)) g (image_handled false d slot u).database
    u.database copy code (λ z. subst (IsCopied (image_handled false d slot u).database) (sym grows)
    (done d sound z)) (λ z. refused d sound z) h
  where
    counted : (e : Deed) → IsCopied
        (counted_if true (software_of (store_after false e u.store)) u.database) (copy_grown copy)
    counted e =
        let m = store_after false e u.store in
        let sw = software_of m in
        grown_copied (with_software sw u.database) copy
        (software_copied sw u.database copy (slots_versions m.active m.slots) h)

    done : (e : Deed) → IsSound e → code_handled (handled_by false e) ≡ 0
        → IsCopied (image_handled false e slot u).database (copy_grown copy)
    done Ignore s z = absurd s
    done (Refuse n) s z = absurd (s z)
    done (RefuseWindow n) s z = absurd s
    done (GiveUp n) s z = absurd (s z)
    done (Begin target size granted) s z = counted (Begin target size granted)
    done (Hold window) s z = absurd s
    done (Put bytes) s z = absurd s
    done (Seal target image) s z = counted (Seal target image)
    done (Activate leaves) s z = absurd s
    done (Commit target) s z = counted (Commit target)
    done (Recommit target) s z = counted (Recommit target)

    refused : (e : Deed) → IsSound e → code_handled (handled_by false e) ≢ 0
        → (image_handled false e slot u).database ≡ u.database
    refused Ignore s z = absurd s
    refused (Refuse n) s z = refl
    refused (RefuseWindow n) s z = absurd s
    refused (GiveUp n) s z = refl
    refused (Begin target size granted) s z = absurd (z refl)
    refused (Hold window) s z = absurd s
    refused (Put bytes) s z = absurd s
    refused (Seal target image) s z = absurd (z refl)
    refused (Activate leaves) s z = absurd s
    refused (Commit target) s z = absurd (z refl)
    refused (Recommit target) s z = absurd (z refl)

-- the copy after a start and after an end is the same, whatever they ask
pub form_copy : (one : EntityId) (q r : Request) (o : Option Response) (copy : Copy)
    → form q ≡ form r → (form r ≡ 1) ⊎ (form r ≡ 2)
    → followed_copy one q o copy ≡ followed_copy one r o copy
form_copy one q r None copy same some = refl
form_copy one q r (Some x) copy same some =
    ap (λ c. cond (code_of x == 0) c copy) (counts q (some_too q) ∙ sym (counts r some))
  where
    some_too : (p : Request) → (form q ≡ 1) ⊎ (form q ≡ 2)
    some_too p = ⊎_elim (λ e. inl (same ∙ e)) (λ e. inr (same ∙ e)) some

    counts : (p : Request) → (form p ≡ 1) ⊎ (form p ≡ 2)
        → copy_after phase.InStep one p copy ≡ copy_grown copy
    counts (request.Start window size targets target) e = refl
    counts (request.End check size targets target) e = refl
    counts _ (inl e) = absurd (cc)
    counts _ (inr e) = absurd (cc)

-- whatever their entity
pub form_entity : (one other : EntityId) (q : Request) (o : Option Response) (copy : Copy)
    → (form q ≡ 1) ⊎ (form q ≡ 2) → followed_copy one q o copy ≡ followed_copy other q o copy
form_entity one other (request.Start window size targets target) None copy e = refl
form_entity one other (request.Start window size targets target) (Some x) copy e = refl
form_entity one other (request.End check size targets target) None copy e = refl
form_entity one other (request.End check size targets target) (Some x) copy e = refl
form_entity one other _ o copy (inl e) = absurd (cc)
form_entity one other _ o copy (inr e) = absurd (cc)

-- the answer to one of them
pub counted_copied : (f : Frame) (r : Request) (u : Onu) (copy : Copy) (g : Frame)
    → (form r ≡ 1) ⊎ (form r ≡ 2) → IsCopied u.database copy
    → packet_frame (spelling (answer false f r u).reply) ≡ Some g
    → IsCopied (answer false f r u).unit.database (followed_copy f.entity r (response_of g) copy)
unfolding answer
counted_copied f (request.Start window size targets target) u copy g some h e =
    let r = request.Start window size targets target in
    let n = code_handled (handled_by false (image_deed f r u)) in
    deed_copied (image_deed f r u) f.entity r f.entity.instance u copy g
    (start_sound u.room f.tci f.entity window size targets target u.store)
    (start_code f n (granted_by n window) g e) refl h
counted_copied f (request.End crc size targets target) u copy g some h e =
    let r = request.End crc size targets target in
    let n = code_handled (handled_by false (image_deed f r u)) in
    deed_copied (image_deed f r u) f.entity r f.entity.instance u copy g
    (end_sound u.room f.tci f.entity crc size targets target u.store) (end_code f n g e) refl h
counted_copied f _ u copy g (inl e) h k = absurd (cc)
counted_copied f _ u copy g (inr e) h k = absurd (cc)

-- the database after a change agrees with the copy after the change's reply
pub answer_copied : (f : Frame) (r : Request) (u : Onu) (copy : Copy) (g : Frame)
    → f.entity.instance < 2 ^ 16 → LongEnough r → is_plain r ≡ true → leaves_copy r ≡ false
    → IsCopied u.database copy → packet_frame (spelling (answer false f r u).reply) ≡ Some g
    → IsCopied (answer false f r u).unit.database (followed_copy f.entity r (response_of g) copy)
unfolding answer
answer_copied f (request.Create values) u copy g instance long p l h e =
    let o = create_outcome f.entity values u.database in
    by_code f.entity (request.Create values) o.0 g o.1 u.database copy (create_code f o.0 g e)
    (λ z. created_copied f.entity values u.database copy instance long h z)
    (λ z. create_refused f.entity values u.database z) h
answer_copied f request.Delete u copy g instance long p l h e =
    let o = delete_outcome f.entity u.database in
    by_code f.entity request.Delete o.0 g o.1 u.database copy (delete_code f o.0 g e)
    (λ z. deleted_copied f.entity u.database copy h z)
    (λ z. delete_refused f.entity u.database z) h
answer_copied f (request.Set mask values) u copy g instance long p l h e =
    let o = set_outcome f.entity mask values u.database in
    by_code f.entity (request.Set mask values) o.code g o.database u.database copy
    (set_code f o.code o.unsupported o.failed g e)
    (λ z. set_copied f.entity mask values u.database copy h z)
    (λ z. set_refused f.entity mask values u.database z) h
answer_copied f (request.Get mask) u copy g instance long p l h e =
    subst (IsCopied u.database) (sym (same_copy f.entity (request.Get mask)
    (response_of g) copy refl)) h
answer_copied f request.Reset u copy g instance long p l h e = absurd (false≢true (sym l))
answer_copied f (request.Alarms mode) u copy g instance long p l h e = absurd (false≢true p)
answer_copied f (request.AlarmsNext number) u copy g instance long p l h e = absurd (false≢true p)
answer_copied f request.Upload u copy g instance long p l h e = absurd (false≢true p)
answer_copied f (request.UploadNext number) u copy g instance long p l h e = absurd (false≢true p)
answer_copied f (request.Start window size targets target) u copy g instance long p l h e =
    absurd (false≢true p)
answer_copied f (request.Section number bytes last) u copy g instance long p l h e =
    absurd (false≢true p)
answer_copied f (request.End crc size targets target) u copy g instance long p l h e =
    absurd (false≢true p)
answer_copied f (request.Activate flags) u copy g instance long p l h e =
    absurd (false≢true (sym l))
answer_copied f request.Commit u copy g instance long p l h e =
    deed_copied (image_deed f request.Commit u) f.entity request.Commit f.entity.instance u copy g
    (commit_sound u.room f.tci f.entity u.store)
    (commit_code f (code_handled (handled_by false (image_deed f request.Commit u))) g e) refl h
answer_copied f (request.Reboot flags) u copy g instance long p l h e = absurd (false≢true (sym l))
