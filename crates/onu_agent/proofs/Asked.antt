-- What requests come to: those about the database or the alarms leave the store alone; those for an
-- image come to what the store's answer says.
use Rattle.std.proofs.Common.{◌≡◌, ℕ, zero, suc, Bool, true, false, if◌then◌else◌, List, [], ◌∷◌, length, Option, Some, None, option_map, Result, Ok, Err, IfOk, refl, sym, ap, subst, ◌∙◌, arith}
use Rattle.std.proofs.lemmas.Bool.{false≢true}
use Rattle.std.proofs.lemmas.Bool.Decides.{nat_tests}
use Rattle.std.specs.Prelude.{◌==◌, not, nat_le, nat_lt}
use Rattle.omci_types.specs.declared.Boot.{Boot}
use Rattle.omci_types.specs.declared.EntityId.{EntityId}
use Rattle.omci_types.specs.declared.Frame.{Frame}
use Rattle.omci_types.specs.declared.Software.{Software}
use Rattle.frame_spec.specs.Baseline.{IsFrame}
use Rattle.message_spec.specs.declared.Message.{Message}
use Rattle.message_spec.specs.declared.ContentsFault.{ContentsFault}
use Rattle.message_spec.specs.Reading.{message_of, HasWindow}
use Rattle.message_laws.proofs.Reading.{read_in_range, window_in_range}
use Rattle.message_spec.specs.declared.Request.{Request}
use Rattle.message_spec.specs.declared.Request.TheVariants as ask
use Rattle.mib_spec.specs.Database.{Database, slot as shown}
use Rattle.mib_spec.specs.Requests.{first_code, is_class}
use Rattle.slot_spec.specs.Header.{view_of}
use Rattle.window_spec.specs.Incoming.{answer as window_answer, section}
use Rattle.window_spec.specs.declared.Arrived.{Arrived}
use Rattle.window_spec.specs.declared.Arrived.TheVariants as arrived
use Rattle.store_spec.specs.declared.Handled.{Handled}
use Rattle.store_spec.specs.declared.Handled.TheVariants.{Dropped}
use Rattle.store_spec.specs.State.{StoreState, Loading, software_of, has_image}
use Rattle.store_spec.specs.Deeds.{Deed, Ignore, Refuse, RefuseWindow, GiveUp, Begin, Put, Seal, Activate, Commit, Recommit, unless_refused, ignore, image_code, start_code, is_in_use, window_code, seal_code, valid_code, on_download, put_deed, hold_by, hold_deed, seal_deed, slot_deed, refuse, deed}
use Rattle.store_spec.specs.Effects.{store_after, store_done, handled_by, handled_done}
use Rattle.unit_spec.specs.Images.{leaving_handled, database_handled, note_handled, deed_note}
use Rattle.unit_spec.specs.Onu.{Onu, Answer, answer, image_answer, image_deed, asks_nothing}
use Rattle.onu_agent.specs.State.{desk_of, alone}
use Rattle.onu_agent.specs.Images.{is_for_image, is_for_desk, slot_of, image_response, image_note, success_note, sealed_note}

-- ---- tests

equal_says : (a b : ℕ) → (a == b) ≡ true → a ≡ b
equal_says a b h = grind (arith, nat_tests, h)

clash : (k : ℕ) → suc k ≡ zero → ⊥
clash k e = omega (arith, e)

not_zero : (k : ℕ) (b : Bool) → (suc k == 0) ≡ b → b ≡ false
not_zero k true is = absurd (clash k (equal_says (suc k) 0 is))
not_zero k false is = refl

-- ---- the asked window

-- a message that is read has a window in its range
pub read_window : (f : Frame) (r : Result Message ContentsFault) → IsFrame f → r ≡ message_of f → IfOk r HasWindow
read_window f (Ok m) is e = window_in_range m (read_in_range f m (record { tci = is.tci_fits; kind = is.kind_fits; class = is.class_fits; instance = is.instance_fits; len = is.contents_whole; bytes = is.contents_fit }) (sym e))
read_window f (Err fault) is e = tt

-- ---- the store's deed

if_same : {A : Type 0} (b : Bool) (x : A) → (if b then x else x) ≡ x
if_same true x = refl
if_same false x = refl

-- a request that isn't for an image asks nothing of the store
pub not_asked : (room tci : ℕ) (one : EntityId) (r : Request) (m : StoreState) → is_for_image r ≡ false → deed room tci one r m ≡ Ignore
unfolding deed
not_asked room tci one (ask.Create values) m is = if_same (image_code one m.broken == 0) Ignore
not_asked room tci one ask.Delete m is = if_same (image_code one m.broken == 0) Ignore
not_asked room tci one (ask.Set mask values) m is = if_same (image_code one m.broken == 0) Ignore
not_asked room tci one (ask.Get mask) m is = if_same (image_code one m.broken == 0) Ignore
not_asked room tci one (ask.Alarms mode) m is = if_same (image_code one m.broken == 0) Ignore
not_asked room tci one (ask.AlarmsNext number) m is = if_same (image_code one m.broken == 0) Ignore
not_asked room tci one ask.Upload m is = if_same (image_code one m.broken == 0) Ignore
not_asked room tci one (ask.UploadNext number) m is = if_same (image_code one m.broken == 0) Ignore
not_asked room tci one ask.Reset m is = if_same (image_code one m.broken == 0) Ignore
not_asked room tci one (ask.Reboot flags) m is = if_same (image_code one m.broken == 0) Ignore
not_asked room tci one (ask.Start window size targets target) m is = absurd (false≢true (sym is))
not_asked room tci one (ask.Section number bytes last) m is = absurd (false≢true (sym is))
not_asked room tci one (ask.End crc size targets target) m is = absurd (false≢true (sym is))
not_asked room tci one (ask.Activate flags) m is = absurd (false≢true (sym is))
not_asked room tci one ask.Commit m is = absurd (false≢true (sym is))

pub desk_not_image : (r : Request) → is_for_desk r ≡ true → is_for_image r ≡ false
desk_not_image (ask.Create values) is = refl
desk_not_image ask.Delete is = refl
desk_not_image (ask.Set mask values) is = refl
desk_not_image (ask.Get mask) is = refl
desk_not_image (ask.Alarms mode) is = refl
desk_not_image (ask.AlarmsNext number) is = refl
desk_not_image ask.Upload is = refl
desk_not_image (ask.UploadNext number) is = refl
desk_not_image ask.Reset is = refl
desk_not_image (ask.Reboot flags) is = refl
desk_not_image (ask.Start window size targets target) is = absurd (false≢true is)
desk_not_image (ask.Section number bytes last) is = absurd (false≢true is)
desk_not_image (ask.End crc size targets target) is = absurd (false≢true is)
desk_not_image (ask.Activate flags) is = absurd (false≢true is)
desk_not_image ask.Commit is = absurd (false≢true is)

-- ---- requests about the database or the alarms

-- a unit's answer to one is that of its desk
pub record OfDesk (a alone_a : Answer) (u : Onu) : Type 0 where
  pub reply : a.reply ≡ alone_a.reply
  pub note : a.note ≡ alone_a.note
  pub desk : desk_of a.unit ≡ desk_of alone_a.unit
  pub leaving : a.unit.leaving ≡ u.leaving
  pub room : a.unit.room ≡ u.room
  pub store : a.unit.store ≡ u.store

of_desk : {a b : Answer} {u : Onu} → a.reply ≡ b.reply → a.note ≡ b.note → desk_of a.unit ≡ desk_of b.unit → a.unit.leaving ≡ u.leaving → a.unit.room ≡ u.room → a.unit.store ≡ u.store → OfDesk a b u
of_desk x y z l r s = record { reply = x; note = y; desk = z; leaving = l; room = r; store = s }

pub answer_of_desk : (fails : Bool) (f : Frame) (r : Request) (u : Onu) → is_for_desk r ≡ true → OfDesk (answer fails f r u) (answer false f r (alone (desk_of u))) u
unfolding answer
answer_of_desk fails f (ask.Create values) u is = of_desk refl refl refl refl refl refl
answer_of_desk fails f ask.Delete u is = of_desk refl refl refl refl refl refl
answer_of_desk fails f (ask.Set mask values) u is = of_desk refl refl refl refl refl refl
answer_of_desk fails f (ask.Get mask) u is = of_desk refl refl refl refl refl refl
answer_of_desk fails f (ask.Alarms mode) u is = of_desk refl refl refl refl refl refl
answer_of_desk fails f (ask.AlarmsNext number) u is = of_desk refl refl refl refl refl refl
answer_of_desk fails f ask.Upload u is = of_desk refl refl refl refl refl refl
answer_of_desk fails f (ask.UploadNext number) u is = of_desk refl refl refl refl refl refl
answer_of_desk fails f ask.Reset u is = of_desk refl refl refl refl refl refl
answer_of_desk fails f (ask.Reboot flags) u is = absurd (false≢true is)
answer_of_desk fails f (ask.Start window size targets target) u is = absurd (false≢true is)
answer_of_desk fails f (ask.Section number bytes last) u is = absurd (false≢true is)
answer_of_desk fails f (ask.End crc size targets target) u is = absurd (false≢true is)
answer_of_desk fails f (ask.Activate flags) u is = absurd (false≢true is)
answer_of_desk fails f ask.Commit u is = absurd (false≢true is)

-- ---- requests for an image

pub answer_of_image : (fails : Bool) (f : Frame) (r : Request) (u : Onu) → is_for_image r ≡ true → answer fails f r u ≡ image_answer fails (image_deed f r u) f (image_response r) u
unfolding answer
answer_of_image fails f (ask.Start window size targets target) u is = refl
answer_of_image fails f (ask.Section number bytes last) u is = refl
answer_of_image fails f (ask.End crc size targets target) u is = refl
answer_of_image fails f (ask.Activate flags) u is = refl
answer_of_image fails f ask.Commit u is = refl
answer_of_image fails f (ask.Create values) u is = absurd (false≢true is)
answer_of_image fails f ask.Delete u is = absurd (false≢true is)
answer_of_image fails f (ask.Set mask values) u is = absurd (false≢true is)
answer_of_image fails f (ask.Get mask) u is = absurd (false≢true is)
answer_of_image fails f (ask.Alarms mode) u is = absurd (false≢true is)
answer_of_image fails f (ask.AlarmsNext number) u is = absurd (false≢true is)
answer_of_image fails f ask.Upload u is = absurd (false≢true is)
answer_of_image fails f (ask.UploadNext number) u is = absurd (false≢true is)
answer_of_image fails f ask.Reset u is = absurd (false≢true is)
answer_of_image fails f (ask.Reboot flags) u is = absurd (false≢true is)

-- one that is refused has no note, and the unit stays
module _ (slot other : ℕ) (software : Software) where
  refused_note : (r : Request) (code : ℕ) → (code == 0) ≡ false → image_note r (handled_done (refuse r code)) slot software ≡ deed_note (refuse r code) other
  refused_note (ask.Start window size targets target) code h = if_same (code == 0) None
  refused_note (ask.Section number bytes true) code h = if_same (code == 0) None
  refused_note (ask.Section number bytes false) code h = refl
  refused_note (ask.End crc size targets target) code h = ap (λ (b : Bool). if b then sealed_note slot (shown slot software) else None) h
  refused_note (ask.Activate flags) code h = if_same (code == 0) None
  refused_note ask.Commit code h = ap (λ (b : Bool). if b then success_note ask.Commit false slot software else None) h
  refused_note (ask.Create values) code h = refl
  refused_note ask.Delete code h = refl
  refused_note (ask.Set mask values) code h = refl
  refused_note (ask.Get mask) code h = refl
  refused_note (ask.Alarms mode) code h = refl
  refused_note (ask.AlarmsNext number) code h = refl
  refused_note ask.Upload code h = refl
  refused_note (ask.UploadNext number) code h = refl
  refused_note ask.Reset code h = refl
  refused_note (ask.Reboot flags) code h = refl

refused_leaving : (slot other : ℕ) (leaving : Option Boot) (r : Request) (code : ℕ) → leaving_handled (handled_done (refuse r code)) slot leaving ≡ leaving_handled (handled_done (refuse r code)) other leaving
refused_leaving slot other leaving (ask.Start window size targets target) code = refl
refused_leaving slot other leaving (ask.Section number bytes true) code = refl
refused_leaving slot other leaving (ask.Section number bytes false) code = refl
refused_leaving slot other leaving (ask.End crc size targets target) code = refl
refused_leaving slot other leaving (ask.Activate flags) code = refl
refused_leaving slot other leaving ask.Commit code = refl
refused_leaving slot other leaving (ask.Create values) code = refl
refused_leaving slot other leaving ask.Delete code = refl
refused_leaving slot other leaving (ask.Set mask values) code = refl
refused_leaving slot other leaving (ask.Get mask) code = refl
refused_leaving slot other leaving (ask.Alarms mode) code = refl
refused_leaving slot other leaving (ask.AlarmsNext number) code = refl
refused_leaving slot other leaving ask.Upload code = refl
refused_leaving slot other leaving (ask.UploadNext number) code = refl
refused_leaving slot other leaving ask.Reset code = refl
refused_leaving slot other leaving (ask.Reboot flags) code = refl

-- the entity of a request that isn't refused is a slot
below_by : (a b c d : Bool) → (first_code ((a, 4) ∷ (b, 2) ∷ (c, 5) ∷ (d, 1) ∷ []) == 0) ≡ true → c ≡ false
below_by true b c d h = absurd (false≢true h)
below_by false true c d h = absurd (false≢true h)
below_by false false true d h = absurd (false≢true h)
below_by false false false d h = refl

pub below_two : (one : EntityId) (broken : Bool) → (image_code one broken == 0) ≡ true → nat_le 2 one.instance ≡ false
unfolding image_code
below_two one broken h = below_by (not (is_class one.class)) (not (one.class == 7)) (nat_le 2 one.instance) broken h

pub slot_is : (one : EntityId) (broken : Bool) → (image_code one broken == 0) ≡ true → slot_of one ≡ one.instance
slot_is one broken h = by (nat_lt one.instance 2) (grind (arith, nat_tests, below_two one broken h))
  where
    by : (b : Bool) → b ≡ true → (if b then one.instance else 0) ≡ one.instance
    by true is = refl
    by false is = absurd (false≢true is)

module _ (room tci slot : ℕ) (m : StoreState) where
  -- what is told is the deed's note
  abbrev Told : Request → Deed → Type 0
  Told r d = image_note r (handled_done d) slot (software_of (store_done d m)) ≡ deed_note d slot

  sealed : (crc size targets target : ℕ) (image : List ℕ) (at : ℕ) → slot ≡ at → Told (ask.End crc size targets target) (Seal at image)
  sealed crc size targets target image at is = subst (λ (k : ℕ). image_note (ask.End crc size targets target) (handled_done (Seal at image)) k (software_of (store_done (Seal at image) m)) ≡ deed_note (Seal at image) k) (sym is) (go at)
    where
      go : (k : ℕ) → image_note (ask.End crc size targets target) (handled_done (Seal k image)) k (software_of (store_done (Seal k image) m)) ≡ deed_note (Seal k image) k
      go zero = refl
      go (suc k) = ap (λ (b : Bool). sealed_note (suc k) (if b then option_map view_of m.slots.first else Some (view_of image))) (not_zero k (suc k == 0) refl)

  sealing : (check size targets target : ℕ) (l : Loading) (b : Bool) (code : ℕ) → (code == 0) ≡ b → slot ≡ l.target → Told (ask.End check size targets target) (if b then Seal l.target l.put else GiveUp code)
  sealing check size targets target l true code h is = sealed check size targets target l.put l.target is
  sealing check size targets target l false code h is = ap (λ (b : Bool). if b then sealed_note slot (shown slot (software_of (store_done (GiveUp code) m))) else None) h

  ending_by : (check size targets target : ℕ) (l : Loading) (b : Bool) → (slot == l.target) ≡ b → Told (ask.End check size targets target) (if b then seal_deed check size l else Refuse 3)
  ending_by check size targets target l true h = sealing check size targets target l (seal_code check size l.size l.put == 0) (seal_code check size l.size l.put) refl (equal_says slot l.target h)
  ending_by check size targets target l false h = refl

  ending : (check size targets target : ℕ) (d : Option Loading) → Told (ask.End check size targets target) (on_download Refuse slot d (λ l. seal_deed check size l))
  ending check size targets target None = refl
  ending check size targets target (Some l) = ending_by check size targets target l (slot == l.target) refl

  starting : (window size targets target granted code : ℕ) (b : Bool) → Told (ask.Start window size targets target) (if b then Begin slot size granted else Refuse code)
  starting window size targets target granted code true = refl
  starting window size targets target granted code false = if_same (code == 0) None

  putting_by : (number : ℕ) (bytes all : List ℕ) (code : ℕ) (b : Bool) → Told (ask.Section number bytes true) (if b then Put all else RefuseWindow code)
  putting_by number bytes all code true = refl
  putting_by number bytes all code false = if_same (code == 0) None

  putting_at : (number : ℕ) (bytes : List ℕ) (l : Loading) (b : Bool) → Told (ask.Section number bytes true) (if b then put_deed (section tci number bytes) l else RefuseWindow 3)
  putting_at number bytes l true = putting_by number bytes _ _ (window_code l.granted l.size (length l.put) (window_answer (section tci number bytes) true l.window) == 0)
  putting_at number bytes l false = refl

  putting : (number : ℕ) (bytes : List ℕ) (d : Option Loading) → Told (ask.Section number bytes true) (on_download RefuseWindow slot d (λ l. put_deed (section tci number bytes) l))
  putting number bytes None = refl
  putting number bytes (Some l) = putting_at number bytes l (slot == l.target)

  holding_by : (number : ℕ) (bytes : List ℕ) (l : Loading) (a : Arrived) → Told (ask.Section number bytes false) (hold_by a (section tci number bytes) l)
  holding_by number bytes l arrived.Held = refl
  holding_by number bytes l arrived.Ignored = refl
  holding_by number bytes l arrived.Broken = refl
  holding_by number bytes l (arrived.Whole sections) = refl

  holding_at : (number : ℕ) (bytes : List ℕ) (l : Loading) (b : Bool) → Told (ask.Section number bytes false) (if b then hold_deed (section tci number bytes) l else Ignore)
  holding_at number bytes l true = holding_by number bytes l (window_answer (section tci number bytes) false l.window)
  holding_at number bytes l false = refl

  holding : (number : ℕ) (bytes : List ℕ) (d : Option Loading) → Told (ask.Section number bytes false) (on_download ignore slot d (λ l. hold_deed (section tci number bytes) l))
  holding number bytes None = refl
  holding number bytes (Some l) = holding_at number bytes l (slot == l.target)

  activating : (flags : ℕ) (leaves : Bool) (b : Bool) → Told (ask.Activate flags) (unless_refused Refuse (valid_code b) (Activate leaves))
  activating flags leaves true = refl
  activating flags leaves false = refl

  committing : (b same : Bool) → Told ask.Commit (unless_refused Refuse (valid_code b) (if same then Recommit slot else Commit slot))
  committing true true = refl
  committing true false = refl
  committing false same = refl

  told : (r : Request) → Told r (slot_deed room tci slot r m)
  told (ask.Start window size targets target) = starting window size targets target _ _ (start_code (is_in_use slot m.active m.slots.committed) room targets size == 0)
  told (ask.Section number bytes true) = putting number bytes m.download
  told (ask.Section number bytes false) = holding number bytes m.download
  told (ask.End crc size targets target) = ending crc size targets target m.download
  told (ask.Activate flags) = activating flags (not (slot == m.active)) (has_image slot m.slots)
  told ask.Commit = committing (has_image slot m.slots) (slot == m.slots.committed)
  told (ask.Create values) = refl
  told ask.Delete = refl
  told (ask.Set mask values) = refl
  told (ask.Get mask) = refl
  told (ask.Alarms mode) = refl
  told (ask.AlarmsNext number) = refl
  told ask.Upload = refl
  told (ask.UploadNext number) = refl
  told ask.Reset = refl
  told (ask.Reboot flags) = refl

module _ (room tci : ℕ) (one : EntityId) (r : Request) (m : StoreState) where
  note_by : (b : Bool) → (image_code one m.broken == 0) ≡ b
      → (let d = (if b then slot_deed room tci one.instance r m else refuse r (image_code one m.broken)) in
      image_note r (handled_done d) (slot_of one) (software_of (store_done d m)) ≡ deed_note d one.instance)
  note_by true h = subst (λ (k : ℕ). image_note r (handled_done (slot_deed room tci one.instance r m)) k (software_of (store_done (slot_deed room tci one.instance r m) m)) ≡ deed_note (slot_deed room tci one.instance r m) one.instance) (sym (slot_is one m.broken h)) (told room tci one.instance m r)
  note_by false h = refused_note (slot_of one) one.instance (software_of (store_done (refuse r (image_code one m.broken)) m)) r (image_code one m.broken) h

  -- what is told of a request for an image is what its deed tells
  pub note_is : (fails : Bool) → image_note r (handled_by fails (deed room tci one r m)) (slot_of one) (software_of (store_after fails (deed room tci one r m) m)) ≡ note_handled fails (deed room tci one r m) one.instance
  unfolding deed
  note_is true = refl
  note_is false = note_by (image_code one m.broken == 0) refl

  leaving_by : (leaving : Option Boot) (b : Bool) → (image_code one m.broken == 0) ≡ b
      → (let d = (if b then slot_deed room tci one.instance r m else refuse r (image_code one m.broken)) in
      leaving_handled (handled_done d) (slot_of one) leaving ≡ leaving_handled (handled_done d) one.instance leaving)
  leaving_by leaving true h = ap (λ (k : ℕ). leaving_handled (handled_done (slot_deed room tci one.instance r m)) k leaving) (slot_is one m.broken h)
  leaving_by leaving false h = refused_leaving (slot_of one) one.instance leaving r (image_code one m.broken)

  -- and the slot with which the unit starts again is the entity's
  pub leaving_slot : (fails : Bool) (leaving : Option Boot) → leaving_handled (handled_by fails (deed room tci one r m)) (slot_of one) leaving ≡ leaving_handled (handled_by fails (deed room tci one r m)) one.instance leaving
  unfolding deed
  leaving_slot true leaving = refl
  leaving_slot false leaving = leaving_by leaving (image_code one m.broken == 0) refl

-- ---- a section that asks for no reply

-- it changes nothing beside the store
pub record Quiet (h : Handled) : Type 0 where
  pub database : (software : Software) (db : Database) → database_handled h software db ≡ db
  pub leaving : (slot : ℕ) (leaving : Option Boot) → leaving_handled h slot leaving ≡ leaving

quiet_dropped : Quiet Dropped
quiet_dropped = record { database = λ software db. refl; leaving = λ slot leaving. refl }

module _ (room tci slot number : ℕ) (bytes : List ℕ) where
  quiet_by : (l : Loading) (a : Arrived) → Quiet (handled_done (hold_by a (section tci number bytes) l))
  quiet_by l arrived.Held = record { database = λ software db. refl; leaving = λ slot leaving. refl }
  quiet_by l arrived.Ignored = quiet_dropped
  quiet_by l arrived.Broken = quiet_dropped
  quiet_by l (arrived.Whole sections) = quiet_dropped

  quiet_at : (l : Loading) (b : Bool) → Quiet (handled_done (if b then hold_deed (section tci number bytes) l else Ignore))
  quiet_at l true = quiet_by l (window_answer (section tci number bytes) false l.window)
  quiet_at l false = quiet_dropped

  quiet_in : (d : Option Loading) → Quiet (handled_done (on_download ignore slot d (λ l. hold_deed (section tci number bytes) l)))
  quiet_in None = quiet_dropped
  quiet_in (Some l) = quiet_at l (slot == l.target)

  quiet_deed : (one : EntityId) (m : StoreState) (b : Bool) → Quiet (handled_done (if b then slot_deed room tci slot (ask.Section number bytes false) m else Ignore))
  quiet_deed one m true = quiet_in m.download
  quiet_deed one m false = quiet_dropped

pub section_quiet : (fails : Bool) (room tci : ℕ) (one : EntityId) (r : Request) (m : StoreState) → asks_nothing r ≡ true → Quiet (handled_by fails (deed room tci one r m))
unfolding deed
section_quiet true room tci one r m is = record { database = λ software db. refl; leaving = λ slot leaving. refl }
section_quiet false room tci one (ask.Section number bytes false) m is = quiet_deed room tci one.instance number bytes one m (image_code one m.broken == 0)
section_quiet false room tci one (ask.Section number bytes true) m is = absurd (false≢true is)
section_quiet false room tci one (ask.Start window size targets target) m is = absurd (false≢true is)
section_quiet false room tci one (ask.End crc size targets target) m is = absurd (false≢true is)
section_quiet false room tci one (ask.Activate flags) m is = absurd (false≢true is)
section_quiet false room tci one ask.Commit m is = absurd (false≢true is)
section_quiet false room tci one (ask.Create values) m is = absurd (false≢true is)
section_quiet false room tci one ask.Delete m is = absurd (false≢true is)
section_quiet false room tci one (ask.Set mask values) m is = absurd (false≢true is)
section_quiet false room tci one (ask.Get mask) m is = absurd (false≢true is)
section_quiet false room tci one (ask.Alarms mode) m is = absurd (false≢true is)
section_quiet false room tci one (ask.AlarmsNext number) m is = absurd (false≢true is)
section_quiet false room tci one ask.Upload m is = absurd (false≢true is)
section_quiet false room tci one (ask.UploadNext number) m is = absurd (false≢true is)
section_quiet false room tci one ask.Reset m is = absurd (false≢true is)
section_quiet false room tci one (ask.Reboot flags) m is = absurd (false≢true is)

-- ---- what a frame reads as

pub in_ok : (read : Result Message ContentsFault) (m n : Message) → read ≡ Ok m → m ≡ n → read ≡ Ok n
in_ok read m n is same = is ∙ ap (λ (x : Message). Ok x) same

pub in_err : (read : Result Message ContentsFault) (m n : ContentsFault) → read ≡ Err m → m ≡ n → read ≡ Err n
in_err read m n is same = is ∙ ap (λ (x : ContentsFault). Err x) same
