-- What comes to a unit, by what its desk and its store of images say of it.
use Rattle.std.proofs.Common.{◌≡◌, ℕ, Bool, true, false, List, [], Option, Some, None, is_some, Result, Ok, Err, IfOk, OnOk, refl, sym, ap, subst, ◌∙◌}
use Rattle.std.proofs.lemmas.Bool.{true≢false}
use Rattle.omci_types.specs.declared.Boot.{Boot}
use Rattle.omci_types.specs.declared.EntityId.{EntityId}
use Rattle.omci_types.specs.declared.Frame.{Frame}
use Rattle.omci_types.specs.declared.Software.{Software}
use Rattle.message_spec.specs.declared.Request.{Request}
use Rattle.message_spec.specs.declared.Request.TheVariants as ask
use Rattle.frame_spec.specs.Baseline.{spelling, packet_frame}
use Rattle.message_spec.specs.declared.Message.{Message}
use Rattle.message_spec.specs.declared.ContentsFault.{ContentsFault}
use Rattle.message_spec.specs.Reading.{message_of}
use Rattle.mib_spec.specs.declared.Sensed.{Sensed}
use Rattle.mib_spec.specs.declared.Sensed.TheVariants as sensed
use Rattle.mib_spec.specs.Requests.{sense_outcome}
use Rattle.retry_spec.specs.Kept.{Kept, kept_for, kept_with}
use Rattle.message_spec.specs.declared.Notice.{Notice}
use Rattle.alarm_spec.specs.Log.{Log, change}
use Rattle.slot_spec.specs.declared.Pick.{Pick}
use Rattle.slot_spec.specs.Slots.{Keep}
use Rattle.slot_spec.specs.Rig.{Rigged}
use Rattle.store_spec.specs.declared.Handled.{Handled}
use Rattle.store_spec.specs.State.{StoreState, software_of}
use Rattle.store_spec.specs.Deeds.{Deed, Ignore, deed}
use Rattle.store_spec.specs.Effects.{store_after, handled_by}
use Rattle.unit_spec.specs.declared.Note.{Note}
use Rattle.unit_spec.specs.declared.Did.{Did}
use Rattle.unit_spec.specs.declared.Did.TheVariants as did
use Rattle.unit_spec.specs.declared.Noticed.{Noticed}
use Rattle.unit_spec.specs.declared.Noticed.TheVariants as noticed
use Rattle.unit_spec.specs.Images.{leaving_handled, database_handled, code_handled, quiet_did}
use Rattle.unit_spec.specs.Noticing.{Noticing, onu_sensed, onu_alarmed, measured, sensed_as, alarm_if, told_by, may_alarm, notice_unless_leaving}
use Rattle.unit_spec.specs.Onu.{Onu, Reception, Answer, drop_packet, answer, reboot, image_deed, image_answer, response_frame, deed_unless_kept, deed_unless_leaving, unless_kept, unless_leaving, keep_reply, take_request, take_section, hold_section, hold_unless_kept, asks_nothing, onu_received, packet_deed, for_frame, frame_deed, for_message, message_deed, refusal_frame, not_supported, onu_ticked}
use Rattle.image_store.specs.Stands.{Kept as Images, StoreStands, state_disk}
use Rattle.image_store.specs.Carries.{Changed, DiskChanges, MakesCalls, CallsWithin, StoreCarried}
use Rattle.image_store.proofs.Calling.{makes_none, within_none, clear_runs}
use Rattle.image_store.proofs.Carrying.{same_disk}
use Rattle.onu_agent.specs.State.{Desk, Held, UnitStands, Tells, desk_of, alone}
use Rattle.onu_agent.specs.Received.{Touches, Came, Received, CarriedOut}
use Rattle.onu_agent.specs.declared.deed.Deed as code
use Rattle.onu_agent.specs.Images.{is_for_image, is_for_desk, slot_of, image_response, image_note}
use Rattle.onu_agent.proofs.Asked.{not_asked, desk_not_image, OfDesk, answer_of_desk, answer_of_image, note_is, leaving_slot, Quiet, section_quiet}

none_of : {A : Type 0} (o : Option A) → is_some o ≡ false → o ≡ None
none_of None is = refl
none_of (Some x) is = absurd (true≢false is)

-- a reply that is kept, or a unit that leaves, keeps a request from the store
ignored_twice : (o : Option (List ℕ)) (leaving : Option Boot) → deed_unless_kept o leaving Ignore ≡ Ignore
ignored_twice (Some reply) leaving = refl
ignored_twice None None = refl
ignored_twice None (Some boot) = refl

ignored_leaving : (o : Option (List ℕ)) (leaving : Option Boot) (d : Deed) → is_some leaving ≡ true → deed_unless_kept o leaving d ≡ Ignore
ignored_leaving (Some reply) leaving d is = refl
ignored_leaving None None d is = absurd (true≢false (sym is))
ignored_leaving None (Some boot) d is = refl

dropped_leaving : (leaving : Option Boot) (r : Reception) (u : Onu) → is_some leaving ≡ true → unless_leaving leaving r u ≡ drop_packet u
dropped_leaving None r u is = absurd (true≢false (sym is))
dropped_leaving (Some boot) r u is = refl

module _ {D : Type 0} (seen : D → Option (List ℕ)) (may_leave : D → List ℕ → Type 0) where
  kept_is : (held : Held D) (u : Onu) → UnitStands seen may_leave held u → held.desk.kept ≡ u.kept
  kept_is held u s = ap (λ (d : Desk). d.kept) s.desk_is

  -- the same holds of what differs in nothing that is looked at
  pub other_unit : (old new : Held D) (u v : Onu) → UnitStands seen may_leave old u → new.desk ≡ desk_of v → new.images ≡ old.images → new.leaving ≡ v.leaving → v.room ≡ u.room → v.store ≡ u.store → UnitStands seen may_leave new v
  other_unit old new u v s desk images leaving room store = record {
    desk_is = desk;
    leaving_is = leaving;
    room_is = ap (λ (i : Images D). i.room) images ∙ s.room_is ∙ sym room;
    images = subst (λ (m : StoreState). StoreStands seen may_leave new.images m) (sym store) (subst (λ (i : Images D). StoreStands seen may_leave i u.store) (sym images) s.images);
  }

  -- ---- what a unit notices by itself

  module _ (old new : Held D) (u : Onu) (why : Noticed) (packet : List ℕ) (s : UnitStands seen may_leave old u) where
    -- a unit that leaves notices nothing
    pub tells_nothing : (told : Noticing) → is_some old.leaving ≡ true → new ≡ old → why ≡ noticed.NotAllowed → packet ≡ [] → Tells seen may_leave new why packet (notice_unless_leaving u.leaving told u)
    tells_nothing told leaves same is empty = by u.leaving (sym (ap (λ (l : Option Boot). is_some l) s.leaving_is) ∙ leaves)
      where
        by : (l : Option Boot) → is_some l ≡ true → Tells seen may_leave new why packet (notice_unless_leaving l told u)
        by None e = absurd (true≢false (sym e))
        by (Some boot) e = record { stands = subst (λ (h : Held D). UnitStands seen may_leave h u) (sym same) s; noticed_is = is; packet_is = empty }

    -- another tells what its desk tells
    tells_by : (told : Noticing) (of_desk : Noticing) → told.noticed ≡ of_desk.noticed → told.packet ≡ of_desk.packet → desk_of told.unit ≡ desk_of of_desk.unit → told.unit.leaving ≡ u.leaving → told.unit.room ≡ u.room → told.unit.store ≡ u.store
        → is_some old.leaving ≡ false → new.images ≡ old.images → new.leaving ≡ old.leaving → why ≡ of_desk.noticed → packet ≡ of_desk.packet → new.desk ≡ desk_of of_desk.unit → Tells seen may_leave new why packet (notice_unless_leaving u.leaving told u)
    tells_by told of_desk n p d l r m none images leaving is given desk = subst (λ (x : Option Boot). Tells seen may_leave new why packet (notice_unless_leaving x told u)) (sym (sym s.leaving_is ∙ none_of old.leaving none)) (record {
      stands = other_unit old new u told.unit s (desk ∙ sym d) images (leaving ∙ s.leaving_is ∙ sym l) r m;
      noticed_is = is ∙ sym n;
      packet_is = given ∙ sym p;
    })

    -- a unit that senses does what its desk does
    pub sensing : (one : EntityId) (number : ℕ) (value : List ℕ) → is_some old.leaving ≡ false → new.images ≡ old.images → new.leaving ≡ old.leaving → (let of_desk = onu_sensed one number value (alone old.desk) in why ≡ of_desk.noticed → packet ≡ of_desk.packet → new.desk ≡ desk_of of_desk.unit → Tells seen may_leave new why packet (onu_sensed one number value u))
    unfolding onu_sensed
    sensing one number value none images leaving is given desk = by (sense_outcome one number value u.database).0 refl
      where
        told : Sensed → Noticing
        told o = sensed_as o one number value (sense_outcome one number value u.database).1 u

        of_desk : Sensed → Noticing
        of_desk o = sensed_as o one number value (sense_outcome one number value u.database).1 (alone (desk_of u))

        same : measured one number value (alone old.desk) ≡ measured one number value (alone (desk_of u))
        same = ap (λ (d : Desk). measured one number value (alone d)) s.desk_is

        by : (o : Sensed) → (sense_outcome one number value u.database).0 ≡ o → Tells seen may_leave new why packet (notice_unless_leaving u.leaving (measured one number value u) u)
        by o e = subst (λ (x : Noticing). Tells seen may_leave new why packet (notice_unless_leaving u.leaving x u)) (ap told (sym e)) (each o (is ∙ ap (λ (n : Noticing). n.noticed) (same ∙ ap of_desk e)) (given ∙ ap (λ (n : Noticing). n.packet) (same ∙ ap of_desk e)) (desk ∙ ap (λ (n : Noticing). desk_of n.unit) (same ∙ ap of_desk e)))
          where
            each : (o : Sensed) → why ≡ (of_desk o).noticed → packet ≡ (of_desk o).packet → new.desk ≡ desk_of (of_desk o).unit → Tells seen may_leave new why packet (notice_unless_leaving u.leaving (told o) u)
            each sensed.NotAllowed is given desk = tells_by (told sensed.NotAllowed) (of_desk sensed.NotAllowed) refl refl refl refl refl refl none images leaving is given desk
            each sensed.Same is given desk = tells_by (told sensed.Same) (of_desk sensed.Same) refl refl refl refl refl refl none images leaving is given desk
            each sensed.Changed is given desk = tells_by (told sensed.Changed) (of_desk sensed.Changed) refl refl refl refl refl refl none images leaving is given desk

    -- and so with its alarms
    pub alarming : (one : EntityId) (bitmap : List ℕ) → is_some old.leaving ≡ false → new.images ≡ old.images → new.leaving ≡ old.leaving → (let of_desk = onu_alarmed one bitmap (alone old.desk) in why ≡ of_desk.noticed → packet ≡ of_desk.packet → new.desk ≡ desk_of of_desk.unit → Tells seen may_leave new why packet (onu_alarmed one bitmap u))
    unfolding onu_alarmed
    alarming one bitmap none images leaving is given desk =
        by (may_alarm one u.database)
        (is ∙ ap (λ (d : Desk). (alarmed d).noticed) s.desk_is) (given ∙ ap (λ (d : Desk). (alarmed d).packet) s.desk_is) (desk ∙ ap (λ (d : Desk). desk_of (alarmed d).unit) s.desk_is)
      where
        alarmed : Desk → Noticing
        alarmed d = alarm_if (may_alarm one d.database) one bitmap (alone d)

        log : Log
        log = (change one bitmap u.log).log

        told : Option Notice → Noticing
        told notice = told_by notice one (record u { log = log })

        of_desk : Option Notice → Noticing
        of_desk notice = told_by notice one (record (alone (desk_of u)) { log = log })

        each : (notice : Option Notice) → why ≡ (of_desk notice).noticed → packet ≡ (of_desk notice).packet → new.desk ≡ desk_of (of_desk notice).unit → Tells seen may_leave new why packet (notice_unless_leaving u.leaving (told notice) u)
        each None is given desk = tells_by (told None) (of_desk None) refl refl refl refl refl refl none images leaving is given desk
        each (Some notice) is given desk = tells_by (told (Some notice)) (of_desk (Some notice)) refl refl refl refl refl refl none images leaving is given desk

        by : (may : Bool) → why ≡ (alarm_if may one bitmap (alone (desk_of u))).noticed → packet ≡ (alarm_if may one bitmap (alone (desk_of u))).packet → new.desk ≡ desk_of (alarm_if may one bitmap (alone (desk_of u))).unit → Tells seen may_leave new why packet (notice_unless_leaving u.leaving (alarm_if may one bitmap u) u)
        by false is given desk = tells_by (alarm_if false one bitmap u) (alarm_if false one bitmap (alone (desk_of u))) refl refl refl refl refl refl none images leaving is given desk
        by true is given desk = each (change one bitmap u.log).notice is given desk

  -- the same of the call, which may want memory
  pub alarmed_as : {E : Type 0} (old new : Held D) (u : Onu) (packet : List ℕ) → UnitStands seen may_leave old u → (one : EntityId) (bitmap : List ℕ) (answer : Result Noticed E) → is_some old.leaving ≡ false → new.images ≡ old.images → new.leaving ≡ old.leaving
      → (let of_desk = onu_alarmed one bitmap (alone old.desk) in IfOk answer (λ n. n ≡ of_desk.noticed) → OnOk answer (packet ≡ of_desk.packet) → OnOk answer (new.desk ≡ desk_of of_desk.unit) → IfOk answer (λ n. Tells seen may_leave new n packet (onu_alarmed one bitmap u)))
  alarmed_as old new u packet s one bitmap (Ok why) none images leaving is given desk = alarming old new u why packet s one bitmap none images leaving is given desk
  alarmed_as old new u packet s one bitmap (Err want) none images leaving is given desk = tt

  -- a second
  pub ticking : (old new : Held D) (u : Onu) → UnitStands seen may_leave old u → new.images ≡ old.images → new.leaving ≡ old.leaving → new.desk ≡ desk_of (onu_ticked (alone old.desk)) → UnitStands seen may_leave new (onu_ticked u)
  unfolding onu_ticked
  ticking old new u s images leaving desk = other_unit old new u (onu_ticked u) s (desk ∙ ap (λ (d : Desk). desk_of (onu_ticked (alone d))) s.desk_is) images (leaving ∙ s.leaving_is) refl refl

  -- ---- a packet

  module _ (clock : D → ℕ) (left_since : D → ℕ → List ℕ → Type 0) (rig : D → Option Rigged) (faults : D → ℕ) where
    abbrev OfStore : (fails : Bool) (old new : Held D) → Deed → Onu → Type 0
    OfStore fails old new d u = Touches may_leave clock left_since rig faults fails old.images new.images d u

    -- what a request made of the store
    touched : (old new : Held D) (handled : Handled) (d : Deed) (u : Onu) → UnitStands seen may_leave old u → (c : StoreCarried seen may_leave clock left_since rig faults old.images new.images handled d u.store) → OfStore c.fails old new d u
    touched old new handled d u s c = record {
      before = c.before;
      before_is = c.before_is;
      after = c.stands.state;
      after_is = c.stands.state_is;
      calls = c.calls;
      made = subst (λ (room : ℕ). MakesCalls room d u.store (rig (state_disk c.before)) (rig (state_disk c.stands.state)) c.fails) s.room_is c.made;
      within = subst (λ (room : ℕ). CallsWithin room d u.store (rig (state_disk c.before))) s.room_is c.within;
      clear = clear_runs old.images.room d u.store (rig (state_disk c.before)) (rig (state_disk c.stands.state)) c.fails c.made c.within;
      cause = c.cause;
      disk = subst (λ (room : ℕ). DiskChanges may_leave clock left_since rig room d u.store (state_disk c.before) (state_disk c.stands.state)) s.room_is c.disk;
    }

    -- what asks nothing of the store does so also where it is kept from it
    pub still_ignored : (old new : Held D) (what : Did) (reply : List ℕ) (came : Bool → Reception) (o : Option (List ℕ)) (leaving : Option Boot) (u : Onu) → Came seen may_leave clock left_since rig faults old new what reply came (deed_unless_kept o leaving Ignore) u → Came seen may_leave clock left_since rig faults old new what reply came Ignore u
    still_ignored old new what reply came o leaving u c = subst (λ (d : Deed). Came seen may_leave clock left_since rig faults old new what reply came d u) (ignored_twice o leaving) c

    -- a packet is its frame, and the frame its message
    pub read_as : {E : Type 0} (old new : Held D) (answered : Result Did E) (reply bytes : List ℕ) (f : Frame) (read : Result Message ContentsFault) (u : Onu) → packet_frame bytes ≡ Some f → read ≡ message_of f
        → IfOk answered (λ what. Came seen may_leave clock left_since rig faults old new what reply (λ fails. for_message fails read f u) (message_deed read f u) u)
        → IfOk answered (λ what. Received seen may_leave clock left_since rig faults old new what reply bytes u)
    unfolding onu_received packet_deed
    read_as old new (Ok what) reply bytes f read u framed is c =
        subst (λ (o : Option Frame). Came seen may_leave clock left_since rig faults old new what reply (λ fails. for_frame fails o u) (frame_deed o u) u) (sym framed)
        (subst (λ (r : Result Message ContentsFault). Came seen may_leave clock left_since rig faults old new what reply (λ fails. for_message fails r f u) (message_deed r f u) u) is c)
    read_as old new (Err want) reply bytes f read u framed is c = tt

    -- the store's clause, for the unit's room
    pub carried_in : (old : Held D) (images : Images D) (handled : Handled) (f : Frame) (r : Request) (u : Onu) → UnitStands seen may_leave old u
        → ((m : StoreState) → StoreStands seen may_leave old.images m → StoreCarried seen may_leave clock left_since rig faults old.images images handled (deed old.images.room f.tci f.entity r m) m)
        → StoreCarried seen may_leave clock left_since rig faults old.images images handled (image_deed f r u) u.store
    carried_in old images handled f r u s carried = subst (λ (room : ℕ). StoreCarried seen may_leave clock left_since rig faults old.images images handled (deed room f.tci f.entity r u.store) u.store) s.room_is (carried u.store s.images)

    -- a section is held, or dropped by the store
    pub section_held : (old new : Held D) (handled : Handled) (what : Did) (reply : List ℕ) (f : Frame) (r : Request) (u : Onu) → UnitStands seen may_leave old u → asks_nothing r ≡ true
        → is_some (kept_for f.tci old.desk.kept) ≡ false → is_some old.leaving ≡ false
        → StoreCarried seen may_leave clock left_since rig faults old.images new.images handled (image_deed f r u) u.store
        → new.images.room ≡ old.images.room → new.desk ≡ old.desk → new.leaving ≡ old.leaving → what ≡ quiet_did handled → reply ≡ []
        → Came seen may_leave clock left_since rig faults old new what reply (λ fails. take_section fails f r u) (deed_unless_kept (kept_for f.tci u.kept) u.leaving (image_deed f r u)) u
    unfolding take_section
    section_held old new handled what reply f r u s quiet none stays c room desk leaving is empty =
        record {
          fails = c.fails;
          stands = subst (λ (x : Reception). UnitStands seen may_leave new x.unit) (sym whole) (record {
            desk_is = desk ∙ s.desk_is ∙ (λ i. record (desk_of u) { database = sym (q.database (software_of (store_after c.fails d u.store)) u.database) i });
            leaving_is = leaving ∙ s.leaving_is ∙ sym (q.leaving f.entity.instance u.leaving);
            room_is = room ∙ s.room_is;
            images = c.stands;
          });
          did_is = is ∙ ap (λ (h : Handled). quiet_did h) c.handled_is ∙ ap (λ (x : Reception). x.did) (sym whole);
          reply_is = empty ∙ ap (λ (x : Reception). x.reply) (sym whole);
          disk = subst (λ (x : Deed). OfStore c.fails old new x u) (sym deed_is) (touched old new handled d u s c);
        }
      where
        d : Deed
        d = image_deed f r u

        q : Quiet (handled_by c.fails d)
        q = section_quiet c.fails u.room f.tci f.entity r u.store quiet

        kept_none : kept_for f.tci u.kept ≡ None
        kept_none = sym (ap (λ (k : Kept). kept_for f.tci k) (kept_is old u s)) ∙ none_of _ none

        leaving_none : u.leaving ≡ None
        leaving_none = sym s.leaving_is ∙ none_of old.leaving stays

        whole : take_section c.fails f r u ≡ hold_section c.fails d f.entity.instance u
        whole = ap (λ (o : Option (List ℕ)). hold_unless_kept o c.fails d f.entity.instance u) kept_none ∙ ap (λ (l : Option Boot). unless_leaving l (hold_section c.fails d f.entity.instance u) u) leaving_none

        deed_is : deed_unless_kept (kept_for f.tci u.kept) u.leaving d ≡ d
        deed_is = ap (λ (o : Option (List ℕ)). deed_unless_kept o u.leaving d) kept_none ∙ ap (λ (l : Option Boot). deed_unless_leaving l d) leaving_none

    -- a request for an image is carried out
    pub image_carried : (old new : Held D) (handled : Handled) (slot : ℕ) (software : Software) (reply : Frame) (extra : Option Note) (f : Frame) (r : Request) (u : Onu) → UnitStands seen may_leave old u → is_for_image r ≡ true
        → StoreCarried seen may_leave clock left_since rig faults old.images new.images handled (image_deed f r u) u.store
        → new.images.room ≡ old.images.room → ((m : StoreState) → StoreStands seen may_leave new.images m → software ≡ software_of m)
        → slot ≡ slot_of f.entity → new.desk ≡ record old.desk { database = database_handled handled software old.desk.database } → new.leaving ≡ leaving_handled handled slot old.leaving
        → reply ≡ response_frame f (image_response r (code_handled handled)) → extra ≡ image_note r handled slot software
        → CarriedOut seen may_leave clock left_since rig faults old new reply extra (λ fails. answer fails f r u) (image_deed f r u) u
    image_carried old new handled slot software reply extra f r u s image c room shows slot_is desk leaving reply_is note_is_ = record {
      fails = c.fails;
      stands = subst (λ (a : Answer). UnitStands seen may_leave new a.unit) (sym answer_is) (record {
        desk_is = desk ∙ (λ i. record (s.desk_is i) { database = database_handled (c.handled_is i) (software_is i) (s.desk_is i).database });
        leaving_is = leaving ∙ (λ i. leaving_handled (c.handled_is i) (slot_is i) (s.leaving_is i)) ∙ leaving_slot u.room f.tci f.entity r u.store c.fails u.leaving;
        room_is = room ∙ s.room_is;
        images = c.stands;
      });
      reply_is = reply_is ∙ ap (λ (h : Handled). response_frame f (image_response r (code_handled h))) c.handled_is ∙ ap (λ (a : Answer). a.reply) (sym answer_is);
      note_is = note_is_ ∙ (λ i. image_note r (c.handled_is i) (slot_is i) (software_is i)) ∙ note_is u.room f.tci f.entity r u.store c.fails ∙ ap (λ (a : Answer). a.note) (sym answer_is);
      disk = touched old new handled (image_deed f r u) u s c;
    }
      where
        answer_is : answer c.fails f r u ≡ image_answer c.fails (image_deed f r u) f (image_response r) u
        answer_is = answer_of_image c.fails f r u image

        software_is : software ≡ software_of (store_after c.fails (image_deed f r u) u.store)
        software_is = shows _ c.stands

    -- what a request came to, once its reply is kept
    pub kept_then : (old middle new : Held D) (what : Did) (bytes : List ℕ) (reply : Frame) (extra : Option Note) (f : Frame) (a : Bool → Answer) (came : Bool → Reception) (d : Deed) (u : Onu) → UnitStands seen may_leave old u
        → is_some (kept_for f.tci old.desk.kept) ≡ false → is_some old.leaving ≡ false → ((fails : Bool) → came fails ≡ take_request f (a fails) u)
        → CarriedOut seen may_leave clock left_since rig faults old middle reply extra a d u
        → new.images ≡ middle.images → new.leaving ≡ middle.leaving → new.desk ≡ record middle.desk { kept = kept_with f.tci (spelling reply) middle.desk.kept } → what ≡ did.Carried extra → bytes ≡ spelling reply
        → Came seen may_leave clock left_since rig faults old new what bytes came (deed_unless_kept (kept_for f.tci u.kept) u.leaving d) u
    unfolding take_request
    kept_then old middle new what bytes reply extra f a came d u s none stays came_is c images leaving desk is given = record {
      fails = c.fails;
      stands = subst (λ (r : Reception). UnitStands seen may_leave new r.unit) (sym whole) (record {
        desk_is = desk ∙ (λ i. record (c.stands.desk_is i) { kept = kept_with f.tci (spelling (c.reply_is i)) (c.stands.desk_is i).kept });
        leaving_is = leaving ∙ c.stands.leaving_is;
        room_is = ap (λ (i : Images D). i.room) images ∙ c.stands.room_is;
        images = subst (λ (i : Images D). StoreStands seen may_leave i (a c.fails).unit.store) (sym images) c.stands.images;
      });
      did_is = is ∙ ap (λ (n : Option Note). did.Carried n) c.note_is ∙ ap (λ (r : Reception). r.did) (sym whole);
      reply_is = given ∙ ap spelling c.reply_is ∙ ap (λ (r : Reception). r.reply) (sym whole);
      disk = subst (λ (x : Deed). Touches may_leave clock left_since rig faults c.fails old.images new.images x u) (sym deed_is) (subst (λ (i : Images D). Touches may_leave clock left_since rig faults c.fails old.images i d u) (sym images) c.disk);
    }
      where
        kept_none : kept_for f.tci u.kept ≡ None
        kept_none = sym (ap (λ (k : Kept). kept_for f.tci k) (kept_is old u s)) ∙ none_of _ none

        leaving_none : u.leaving ≡ None
        leaving_none = sym s.leaving_is ∙ none_of old.leaving stays

        whole : came c.fails ≡ keep_reply f.tci (a c.fails)
        whole = came_is c.fails ∙ ap (λ (o : Option (List ℕ)). unless_kept o f.tci (a c.fails) u) kept_none ∙ ap (λ (l : Option Boot). unless_leaving l (keep_reply f.tci (a c.fails)) u) leaving_none

        deed_is : deed_unless_kept (kept_for f.tci u.kept) u.leaving d ≡ d
        deed_is = ap (λ (o : Option (List ℕ)). deed_unless_kept o u.leaving d) kept_none ∙ ap (λ (l : Option Boot). deed_unless_leaving l d) leaving_none

    module _ (rig_reads : (disk : D) (r : Rigged) → rig disk ≡ Some r → seen disk ≡ Some r.bytes)
        (cut_counts : (disk : D) (r : Rigged) (pick : Pick) → rig disk ≡ Some r → may_leave disk (r.cut pick))
        (only_now : (disk : D) (image : List ℕ) → left_since disk (clock disk) image → may_leave disk image) where
      -- the store isn't asked
      untouched : (old new : Held D) (d : Deed) (u : Onu) → UnitStands seen may_leave old u → d ≡ Ignore → new.images ≡ old.images → OfStore false old new d u
      untouched old new d u s none same = subst (λ (x : Deed). Touches may_leave clock left_since rig faults false old.images new.images x u) (sym none) (subst (λ (i : Images D). Touches may_leave clock left_since rig faults false old.images i Ignore u) (sym same) (record {
        before = s.images.state;
        before_is = s.images.state_is;
        after = s.images.state;
        after_is = s.images.state_is;
        calls = λ (e : false ≡ true). absurd (true≢false (sym e));
        made = makes_none u.room Ignore u.store (rig (state_disk s.images.state)) refl;
        within = within_none u.room Ignore u.store (rig (state_disk s.images.state)) refl;
        clear = λ r told clear. (refl, (r, told, clear));
        cause = refl;
        disk = (
          λ whole. subst (λ (room : ℕ). Changed may_leave clock left_since rig room Keep u.store.slots (state_disk s.images.state) (state_disk s.images.state)) s.room_is (same_disk seen may_leave clock left_since rig faults rig_reads cut_counts only_now old.images.room old.images.active old.images.granted old.images.window s.images.state u.store s.images.stands whole),
          λ broken. refl,
        );
      }))

      -- so nothing but the desk changed
      pub not_stored : (old new : Held D) (what : Did) (reply : List ℕ) (came : Bool → Reception) (d : Deed) (u : Onu) → UnitStands seen may_leave old u → d ≡ Ignore → new.images ≡ old.images
          → UnitStands seen may_leave new (came false).unit → what ≡ (came false).did → reply ≡ (came false).reply → Came seen may_leave clock left_since rig faults old new what reply came d u
      not_stored old new what reply came d u s none same stands is given = record { fails = false; stands = stands; did_is = is; reply_is = given; disk = untouched old new d u s none same }

      -- a packet is dropped
      pub dropped : (old new : Held D) (what : Did) (reply : List ℕ) (came : Bool → Reception) (d : Deed) (u : Onu) → UnitStands seen may_leave old u → d ≡ Ignore → came false ≡ drop_packet u
          → new ≡ old → what ≡ did.Dropped → reply ≡ [] → Came seen may_leave clock left_since rig faults old new what reply came d u
      dropped old new what reply came d u s none drops same is empty = not_stored old new what reply came d u s none (ap (λ (h : Held D). h.images) same)
          (subst (λ (r : Reception). UnitStands seen may_leave new r.unit) (sym drops) (subst (λ (h : Held D). UnitStands seen may_leave h u) (sym same) s)) (is ∙ ap (λ (r : Reception). r.did) (sym drops)) (empty ∙ ap (λ (r : Reception). r.reply) (sym drops))

      -- the kept reply answers a request
      pub kept_again : (old new : Held D) (what : Did) (reply : List ℕ) (f : Frame) (a : Bool → Answer) (came : Bool → Reception) (d : Deed) (u : Onu) → UnitStands seen may_leave old u → kept_for f.tci old.desk.kept ≡ Some reply
          → ((fails : Bool) → came fails ≡ take_request f (a fails) u) → new ≡ old → what ≡ did.Kept → Came seen may_leave clock left_since rig faults old new what reply came (deed_unless_kept (kept_for f.tci u.kept) u.leaving d) u
      unfolding take_request
      kept_again old new what reply f a came d u s some came_is same is = not_stored old new what reply came _ u s (ap (λ (o : Option (List ℕ)). deed_unless_kept o u.leaving d) kept_some) (ap (λ (h : Held D). h.images) same)
          (subst (λ (r : Reception). UnitStands seen may_leave new r.unit) (sym whole) (subst (λ (h : Held D). UnitStands seen may_leave h u) (sym same) s)) (is ∙ ap (λ (r : Reception). r.did) (sym whole)) (ap (λ (r : Reception). r.reply) (sym whole))
        where
          kept_some : kept_for f.tci u.kept ≡ Some reply
          kept_some = sym (ap (λ (k : Kept). kept_for f.tci k) (kept_is old u s)) ∙ some

          whole : came false ≡ record { unit = u; did = did.Kept; reply = reply; stored = [] }
          whole = came_is false ∙ ap (λ (o : Option (List ℕ)). unless_kept o f.tci (a false) u) kept_some

      -- a unit that leaves drops one
      pub left : (old new : Held D) (what : Did) (reply : List ℕ) (f : Frame) (a : Bool → Answer) (came : Bool → Reception) (d : Deed) (u : Onu) → UnitStands seen may_leave old u → is_some (kept_for f.tci old.desk.kept) ≡ false → is_some old.leaving ≡ true
          → ((fails : Bool) → came fails ≡ take_request f (a fails) u) → new ≡ old → what ≡ did.Dropped → reply ≡ [] → Came seen may_leave clock left_since rig faults old new what reply came (deed_unless_kept (kept_for f.tci u.kept) u.leaving d) u
      unfolding take_request
      left old new what reply f a came d u s none leaves came_is same is empty = dropped old new what reply came _ u s (ignored_leaving (kept_for f.tci u.kept) u.leaving d leaving_some)
          (came_is false ∙ ap (λ (o : Option (List ℕ)). unless_kept o f.tci (a false) u) (sym (ap (λ (k : Kept). kept_for f.tci k) (kept_is old u s)) ∙ none_of _ none) ∙ dropped_leaving u.leaving (keep_reply f.tci (a false)) u leaving_some) same is empty
        where
          leaving_some : is_some u.leaving ≡ true
          leaving_some = ap (λ (l : Option Boot). is_some l) (sym s.leaving_is) ∙ leaves

      -- a section is dropped: its TCI is that of a kept reply, or the unit leaves
      pub section_kept : (old new : Held D) (what : Did) (reply : List ℕ) (f : Frame) (r : Request) (u : Onu) → UnitStands seen may_leave old u → is_some (kept_for f.tci old.desk.kept) ≡ true → new ≡ old → what ≡ did.Dropped → reply ≡ []
          → Came seen may_leave clock left_since rig faults old new what reply (λ fails. take_section fails f r u) (deed_unless_kept (kept_for f.tci u.kept) u.leaving (image_deed f r u)) u
      unfolding take_section
      section_kept old new what reply f r u s some same is empty = by (kept_for f.tci u.kept) (ap (λ (k : Kept). is_some (kept_for f.tci k)) (sym (kept_is old u s)) ∙ some)
        where
          by : (o : Option (List ℕ)) → is_some o ≡ true → Came seen may_leave clock left_since rig faults old new what reply (λ fails. hold_unless_kept o fails (image_deed f r u) f.entity.instance u) (deed_unless_kept o u.leaving (image_deed f r u)) u
          by None e = absurd (true≢false (sym e))
          by (Some given) e = dropped old new what reply (λ fails. drop_packet u) Ignore u s refl refl same is empty

      pub section_left : (old new : Held D) (what : Did) (reply : List ℕ) (f : Frame) (r : Request) (u : Onu) → UnitStands seen may_leave old u → is_some (kept_for f.tci old.desk.kept) ≡ false → is_some old.leaving ≡ true → new ≡ old → what ≡ did.Dropped → reply ≡ []
          → Came seen may_leave clock left_since rig faults old new what reply (λ fails. take_section fails f r u) (deed_unless_kept (kept_for f.tci u.kept) u.leaving (image_deed f r u)) u
      unfolding take_section
      section_left old new what reply f r u s none leaves same is empty = dropped old new what reply _ _ u s (ignored_leaving (kept_for f.tci u.kept) u.leaving (image_deed f r u) leaving_some)
          (ap (λ (o : Option (List ℕ)). hold_unless_kept o false (image_deed f r u) f.entity.instance u) (sym (ap (λ (k : Kept). kept_for f.tci k) (kept_is old u s)) ∙ none_of _ none) ∙ dropped_leaving u.leaving (hold_section false (image_deed f r u) f.entity.instance u) u leaving_some) same is empty
        where
          leaving_some : is_some u.leaving ≡ true
          leaving_some = ap (λ (l : Option Boot). is_some l) (sym s.leaving_is) ∙ leaves

      -- a request of an unknown type changes nothing
      pub not_carried : (old : Held D) (reply : Frame) (f : Frame) (u : Onu) → UnitStands seen may_leave old u → reply ≡ refusal_frame f → CarriedOut seen may_leave clock left_since rig faults old old reply None (λ fails. not_supported f u) Ignore u
      not_carried old reply f u s is = record { fails = false; stands = s; reply_is = is; note_is = refl; disk = untouched old old Ignore u s refl refl }

      -- a request about the database or the alarms is carried out
      pub desk_carried : (old new : Held D) (reply : Frame) (extra : Option Note) (f : Frame) (r : Request) (u : Onu) → UnitStands seen may_leave old u → is_for_desk r ≡ true → new.images ≡ old.images → new.leaving ≡ old.leaving
          → (let a = answer false f r (alone old.desk) in new.desk ≡ desk_of a.unit → reply ≡ a.reply → extra ≡ a.note
          → CarriedOut seen may_leave clock left_since rig faults old new reply extra (λ fails. answer fails f r u) (image_deed f r u) u)
      desk_carried old new reply extra f r u s about images leaving desk is told = record {
        fails = false;
        stands = other_unit old new u (answer false f r u).unit s (desk ∙ ap (λ (d : Desk). desk_of (answer false f r (alone d)).unit) s.desk_is ∙ sym o.desk) images (leaving ∙ s.leaving_is ∙ sym o.leaving) o.room o.store;
        reply_is = is ∙ ap (λ (d : Desk). (answer false f r (alone d)).reply) s.desk_is ∙ sym o.reply;
        note_is = told ∙ ap (λ (d : Desk). (answer false f r (alone d)).note) s.desk_is ∙ sym o.note;
        disk = untouched old new (image_deed f r u) u s (not_asked u.room f.tci f.entity r u.store (desk_not_image r about)) images;
      }
        where
          o : OfDesk (answer false f r u) (answer false f r (alone (desk_of u))) u
          o = answer_of_desk false f r u about

      -- the unit restarts after its reply
      pub reboot_carried : (old new : Held D) (reply : Frame) (extra : Option Note) (f : Frame) (flags : ℕ) (u : Onu) → UnitStands seen may_leave old u → new.images ≡ old.images → new.desk ≡ old.desk
          → new.leaving ≡ (reboot f u).unit.leaving → reply ≡ (reboot f u).reply → extra ≡ (reboot f u).note
          → CarriedOut seen may_leave clock left_since rig faults old new reply extra (λ fails. answer fails f (ask.Reboot flags) u) (image_deed f (ask.Reboot flags) u) u
      unfolding answer
      reboot_carried old new reply extra f flags u s images desk leaving is told = record {
        fails = false;
        stands = other_unit old new u (reboot f u).unit s (desk ∙ s.desk_is) images leaving refl refl;
        reply_is = is;
        note_is = told;
        disk = untouched old new (image_deed f (ask.Reboot flags) u) u s (not_asked u.room f.tci f.entity (ask.Reboot flags) u.store refl) images;
      }

      -- the same of the call, which may want memory
      pub desk_called : {E : Type 0} (old new : Held D) (done : Result code.Deed E) (f : Frame) (r : Request) (u : Onu) → UnitStands seen may_leave old u → is_for_desk r ≡ true → new.images ≡ old.images → new.leaving ≡ old.leaving
          → (let a = answer false f r (alone old.desk) in IfOk done (λ d. d.reply ≡ a.reply) → IfOk done (λ d. d.note ≡ a.note) → OnOk done (new.desk ≡ desk_of a.unit)
          → IfOk done (λ d. CarriedOut seen may_leave clock left_since rig faults old new d.reply d.note (λ fails. answer fails f r u) (image_deed f r u) u))
      desk_called old new (Ok deed) f r u s about images leaving is told desk = desk_carried old new deed.reply deed.note f r u s about images leaving desk is told
      desk_called old new (Err want) f r u s about images leaving is told desk = tt

      -- bytes that are no frame are dropped
      pub no_frame : (old new : Held D) (what : Did) (reply bytes : List ℕ) (u : Onu) → UnitStands seen may_leave old u → packet_frame bytes ≡ None → new ≡ old → what ≡ did.Dropped → reply ≡ [] → Received seen may_leave clock left_since rig faults old new what reply bytes u
      unfolding onu_received packet_deed
      no_frame old new what reply bytes u s none same is empty = dropped old new what reply (λ fails. onu_received fails bytes u) (packet_deed bytes u) u s (ap (λ (o : Option Frame). frame_deed o u) none) (ap (λ (o : Option Frame). for_frame false o u) none) same is empty
