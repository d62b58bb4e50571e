-- What each call of the slots makes of a store.
use Rattle.std.proofs.Common.{◌≡◌, ℕ, ◌-◌, if◌then◌else◌, true}
use Rattle.std.proofs.Common.{false, List, [], ◌++◌, length, Option, Some, None, IsSome, refl}
use Rattle.std.proofs.Common.{sym, ◌∙◌, ap, subst}
use Rattle.std.proofs.lemmas.Bool.{true≢false}
use Rattle.std.specs.Option.{is_some}
use Rattle.omci_types.specs.declared.Software.{Software}
use Rattle.omci_core.specs.Causes.{Rose}
use Rattle.slot_spec.specs.declared.Pick.{Pick}
use Rattle.slot_spec.specs.declared.DiskHeader.{DiskHeader}
use Rattle.slot_spec.specs.Slots.{SlotPair, Change, Keep, with_image}
use Rattle.slot_spec.specs.Rig.{Rigged}
use Rattle.slot_spec.specs.Header.{shut_header, with_slot_header}
use Rattle.slot_spec.specs.Owner.{Settled, Filling}
use Rattle.slot_laws.proofs.Gate.{room_kept}
use Rattle.image_slots.specs.declared.slots.Slots.{Slots}
use Rattle.image_slots.specs.declared.slots.Broken.{Broken}
use Rattle.image_slots.specs.declared.download.Download.{Download}
use Rattle.image_slots.specs.Answers.{Loaded, IsEmpty}
use Rattle.window_spec.specs.Incoming.{Window, no_window, cut_window}
use Rattle.message_spec.specs.declared.Request.{Request}
use Rattle.message_spec.specs.declared.Request.TheVariants as ask
use Rattle.store_spec.specs.declared.Handled.{Handled}
use Rattle.store_spec.specs.State.{StoreState, Loading, loading_of, software_of}
use Rattle.store_spec.specs.Deeds.{Deed, refuse, is_window, Refuse, RefuseWindow, GiveUp, Begin}
use Rattle.store_spec.specs.Deeds.{Hold, Put}
use Rattle.store_spec.specs.Effects.{change_of, with_window, with_bytes_put, store_done}
use Rattle.store_spec.specs.Effects.{handled_done, answered, calls_device}
use Rattle.image_store.specs.declared.state.State.{State}
use Rattle.image_store.specs.declared.state.State.TheVariants as form
use Rattle.image_store.specs.declared.state.Done.{Done}
use Rattle.image_store.specs.Stands.{Kept, state_disk, state_broken, SlotsStand, LoadingStands}
use Rattle.image_store.specs.Stands.{StateStands, StoreStands}
use Rattle.image_store.specs.Carries.{Changed, MakesCalls, CallsWithin, Carried, StoreCarried}
use Rattle.image_store.proofs.Calling.{makes_none, within_none, calls_none_keeps}
use Rattle.image_store.proofs.Changing.{changed_none}
use Rattle.store_laws.proofs.Tests.{cut_none}

pub refusal_calls : (r : Request) (code : ℕ) → calls_device (refuse r code) ≡ false
refusal_calls (ask.Start window size targets target) code = refl
refusal_calls (ask.Section number bytes true) code = refl
refusal_calls (ask.Section number bytes false) code = refl
refusal_calls (ask.End check size targets target) code = refl
refusal_calls (ask.Activate flags) code = refl
refusal_calls ask.Commit code = refl
refusal_calls (ask.Create values) code = refl
refusal_calls ask.Delete code = refl
refusal_calls (ask.Set mask values) code = refl
refusal_calls (ask.Get mask) code = refl
refusal_calls (ask.Alarms mode) code = refl
refusal_calls (ask.AlarmsNext number) code = refl
refusal_calls ask.Upload code = refl
refusal_calls (ask.UploadNext number) code = refl
refusal_calls ask.Reset code = refl
refusal_calls (ask.Reboot flags) code = refl

pub told_of : (o : Option (List ℕ)) (bytes : List ℕ) → o ≡ Some bytes → IsSome o
told_of o bytes is = ap (λ (x : Option (List ℕ)). is_some x) is

module _ {D : Type 0} (seen : D → Option (List ℕ)) (may_leave : D → List ℕ → Type 0) where
  -- whether the store is broken is whether its state is
  pub broken_is : (room active granted : ℕ) (window : Window) (held : State D) (m : StoreState)
      → StateStands seen may_leave room active granted window held m → m.broken ≡ state_broken held
  broken_is room active granted window (form.Whole slots) m s = s.0.whole
  broken_is room active granted window (form.Filling download) m l = l.whole
  broken_is room active granted window (form.Broken broken software) m b = b.0.broken_is

  pub active_of : (room active granted : ℕ) (window : Window) (held : State D) (m : StoreState)
      → StateStands seen may_leave room active granted window held m → m.active ≡ active
  active_of room active granted window (form.Whole slots) m s = s.0.active_is
  active_of room active granted window (form.Filling download) m l = l.active_is
  active_of room active granted window (form.Broken broken software) m b = b.0.active_is

  -- a state in which no download runs says nothing of a window
  pub loading_window : (room active granted : ℕ) (window next : Window) (download : Download D)
      (m : StoreState) → LoadingStands seen may_leave room active granted window download m
      → (d : Option Loading) → ((put : List ℕ)
      → m.download ≡ Some (loading_of download.target download.size granted put window)
      → d ≡ Some (loading_of download.target download.size granted put next))
      → LoadingStands seen may_leave room active granted next download (record m { download = d })
  loading_window room active granted window next download m l d is =
      record {
        whole = l.whole;
        room_is = l.room_is;
        active_is = l.active_is;
        put = l.put;
        filling =
            l.filling;
        loaded = l.loaded;
        download_is = is l.put l.download_is;
      }

  -- a window that is refused is let go
  pub window_refused : (room active granted code : ℕ) (window : Window) (held : State D)
      (m : StoreState) → StateStands seen may_leave room active granted window held m
      → StateStands seen may_leave room active granted no_window held
      (store_done (RefuseWindow code) m)
  window_refused room active granted code window (form.Whole slots) m s = (
    record {
      whole = s.0.whole;
      room_is = s.0.room_is;
      active_is = s.0.active_is;
      settled =
          s.0.settled;
    },
    ap (λ (o : Option Loading). with_window no_window o) s.1,
  )
  window_refused room active granted code window (form.Filling download) m l =
      loading_window room active granted window no_window download m l
      (with_window no_window m.download)
      (λ put is. ap (λ (o : Option Loading). with_window no_window o) is
      ∙ ap (λ (w : Window). Some (record
      (loading_of download.target download.size granted put window) { window = w }))
      (sym (cut_none (download.size - length put))))
  window_refused room active granted code window (form.Broken broken software) m b = (
    record {
      broken_is = b.0.broken_is;
      active_is = b.0.active_is;
      told = b.0.told;
      crash =
          b.0.crash;
      software_is = b.0.software_is;
    },
    ap
        (λ (o : Option Loading). with_window no_window o) b.1,
  )

  -- a request that its first tests refuse
  pub refusal_stands : (room active granted code : ℕ) (window : Window) (held : State D)
      (r : Request) (m : StoreState) → StateStands seen may_leave room active granted window held m
      → StateStands seen may_leave room active granted
      (if is_window r then no_window else window) held (store_done (refuse r code) m)
  refusal_stands room active granted code window held (ask.Start asked size targets target) m s = s
  refusal_stands room active granted code window held (ask.Section number bytes true) m s =
      window_refused room active granted code window held m s
  refusal_stands room active granted code window held (ask.Section number bytes false) m s = s
  refusal_stands room active granted code window held (ask.End check size targets target) m s = s
  refusal_stands room active granted code window held (ask.Activate flags) m s = s
  refusal_stands room active granted code window held ask.Commit m s = s
  refusal_stands room active granted code window held (ask.Create values) m s = s
  refusal_stands room active granted code window held ask.Delete m s = s
  refusal_stands room active granted code window held (ask.Set mask values) m s = s
  refusal_stands room active granted code window held (ask.Get mask) m s = s
  refusal_stands room active granted code window held (ask.Alarms mode) m s = s
  refusal_stands room active granted code window held (ask.AlarmsNext number) m s = s
  refusal_stands room active granted code window held ask.Upload m s = s
  refusal_stands room active granted code window held (ask.UploadNext number) m s = s
  refusal_stands room active granted code window held ask.Reset m s = s
  refusal_stands room active granted code window held (ask.Reboot flags) m s = s

  -- a section is held
  pub window_held : (room active granted : ℕ) (window next : Window) (download : Download D)
      (m : StoreState) (l : LoadingStands seen may_leave room active granted window download m)
      → LoadingStands seen may_leave room active granted next download
      (store_done (Hold (cut_window (download.size - length l.put) next)) m)
  window_held room active granted window next download m l =
      record {
        whole = l.whole;
        room_is = l.room_is;
        active_is = l.active_is;
        put = l.put;
        filling =
            l.filling;
        loaded = l.loaded;
        download_is =
            ap (λ (o : Option Loading). with_window
            (cut_window (download.size - length l.put) next) o) l.download_is;
      }

  -- a download has begun
  pub began : (room active slot size granted : ℕ) (slots : Slots D) (download : Download D)
      (m : StoreState) → SlotsStand seen may_leave room active slots m
      → Filling seen may_leave download.disk download.header slot (with_image slot None m.slots) []
      → IsEmpty slot size download → Loaded download []
      → download.header ≡ with_slot_header slot shut_header slots.header
      → LoadingStands seen may_leave room active granted no_window download
      (store_done (Begin slot size granted) m)
  began room active slot size granted slots download m s filling empty loaded header = record {
    whole = s.whole;
    room_is = ap (λ (h : DiskHeader). h.room) header ∙ room_kept slot shut_header slots.header
        ∙ s.room_is;
    active_is = s.active_is;
    put = [];
    filling = subst (λ (t : ℕ). Filling seen may_leave download.disk download.header t
        (with_image slot None m.slots) []) (sym empty.target) filling;
    loaded = loaded;
    download_is = λ i. Some
        (record {
          target = sym empty.target i;
          size = sym empty.size i;
          granted = granted;
          put = [];
          window = sym (cut_none (download.size - 0)) i;
        });
  }

  -- a piece was put
  pub went : (room active granted : ℕ) (window : Window) (piece : List ℕ) (old new : Download D)
      (m : StoreState) (l : LoadingStands seen may_leave room active granted window old m)
      → Filling seen may_leave new.disk new.header new.target m.slots (l.put ++ piece)
      → Loaded new (l.put ++ piece)
      → new.header ≡ old.header → new.target ≡ old.target → new.size ≡ old.size
      → LoadingStands seen may_leave room active granted no_window new
      (store_done (Put (l.put ++ piece)) m)
  went room active granted window piece old new m l filling loaded header target size = record {
    whole = l.whole;
    room_is = ap (λ (h : DiskHeader). h.room) header ∙ l.room_is;
    active_is = l.active_is;
    put = l.put ++ piece;
    filling = filling;
    loaded = loaded;
    download_is = ap (λ (o : Option Loading). with_bytes_put (l.put ++ piece) o) l.download_is
        ∙ (λ i. Some
        (record {
          target = sym target i;
          size = sym size i;
          granted = granted;
          put = l.put ++ piece;
          window = sym (cut_none (new.size - length (l.put ++ piece))) i;
        }));
  }

  -- a download was given up
  pub given_back : (room active granted : ℕ) (window : Window) (old : Download D) (slots : Slots D)
      (m : StoreState) → LoadingStands seen may_leave room active granted window old m
      → slots.disk ≡ old.disk → slots.header ≡ old.header
      → SlotsStand seen may_leave room active slots m
  given_back room active granted window old slots m l disk header = record {
    whole = l.whole;
    room_is = ap (λ (h : DiskHeader). h.room) header ∙ l.room_is;
    active_is = l.active_is;
    settled = subst (λ (d : D). Settled seen may_leave d slots.header m.slots) (sym disk)
        (subst (λ (h : DiskHeader). Settled seen may_leave old.disk h m.slots)
        (sym header) l.filling.settled);
  }

  -- slots in which something was made
  pub slots_after : (room active : ℕ) (header : DiskHeader) (slots : Slots D) (s : SlotPair)
      (d : Option Loading) (m : StoreState) → m.broken ≡ false → m.active ≡ active
      → header.room ≡ room → slots.header.room ≡ header.room
      → Settled seen may_leave slots.disk slots.header s
      → SlotsStand seen may_leave room active slots (record m { slots = s; download = d })
  slots_after room active header slots s d m whole active_is room_is same settled =
      record { whole = whole; room_is = same ∙ room_is; active_is = active_is; settled = settled }

  module _ (clock : D → ℕ) (left_since : D → ℕ → List ℕ → Type 0) (rig : D → Option Rigged)
      (faults : D → ℕ) where
    -- a deed whose device calls were all done
    pub done : (room active granted : ℕ) (window : Window) (old : D) (held : State D)
        (handled : Handled) (d : Deed) (m : StoreState) → m.broken ≡ false
        → StateStands seen may_leave room active granted window held (store_done d m)
        → handled ≡ handled_done d → faults (state_disk held) ≡ faults old
        → Changed may_leave clock left_since rig room (change_of d) m.slots old (state_disk held)
        → MakesCalls room d m (rig old) (rig (state_disk held)) false
        → CallsWithin room d m (rig old)
        → Carried seen may_leave clock left_since rig faults room active granted window old
        (record { state = held; handled = handled }) d m
    done room active granted window old held handled d m whole stands is kept changed made within = record {
      made = made;
      within = within;
      fails = false;
      stands = stands;
      handled_is = is;
      calls = λ (e : false ≡ true). absurd (true≢false (sym e));
      cause = kept;
      disk = (λ sound. changed, λ broken. absurd (true≢false (sym broken ∙ whole)));
    }

    -- and one in which a call failed
    pub broke : (room active granted : ℕ) (window : Window) (old : D) (broken : Broken D)
        (software : Software) (handled : Handled) (d : Deed) (m : StoreState)
        → handled ≡ answered 1 false false → m.broken ≡ false → m.active ≡ active
        → calls_device d ≡ true → software ≡ software_of m → IsSome (seen broken.disk)
        → Rose (faults old) (faults broken.disk)
        → Changed may_leave clock left_since rig room (change_of d) m.slots old broken.disk
        → MakesCalls room d m (rig old) (rig broken.disk) true
        → CallsWithin room d m (rig old)
        → Carried seen may_leave clock left_since rig faults room active granted window old
        (record { state = form.Broken broken software; handled = handled }) d m
    broke room active granted window old broken software handled d m is whole active_is calls shown told
        rose changed made within = record {
          made = made;
          within = within;
          fails = true;
          stands = (
            record {
              broken_is = refl;
              active_is = active_is;
              told = told;
              crash =
                  λ image left. changed.moments.now image left;
              software_is = shown;
            },
            refl,
          );
          handled_is = is;
          calls = λ e. calls;
          cause = rose;
          disk = (λ sound. changed, λ broken. absurd (true≢false (sym broken ∙ whole)));
        }

    module _ (rig_reads : (disk : D) (r : Rigged) → rig disk ≡ Some r → seen disk ≡ Some r.bytes)
        (cut_counts : (disk : D) (r : Rigged) (pick : Pick) → rig disk ≡ Some r
        → may_leave disk (r.cut pick)) (only_now : (disk : D) (image : List ℕ)
        → left_since disk (clock disk) image → may_leave disk image) where
      -- nothing becomes of the disk
      pub same_disk : (room active granted : ℕ) (window : Window) (held : State D) (m : StoreState)
          → StateStands seen may_leave room active granted window held m → m.broken ≡ false
          → Changed may_leave clock left_since rig room Keep m.slots (state_disk held)
          (state_disk held)
      same_disk room active granted window (form.Whole slots) m s whole =
          changed_none may_leave clock left_since rig seen rig_reads cut_counts only_now room
          slots.disk slots.header m.slots s.0.room_is s.0.settled
      same_disk room active granted window (form.Filling download) m l whole =
          changed_none may_leave clock left_since rig seen rig_reads cut_counts only_now room
          download.disk download.header m.slots l.room_is l.filling.settled
      same_disk room active granted window (form.Broken broken software) m b whole =
          absurd (true≢false (sym b.0.broken_is ∙ whole))

      -- a deed with no device call
      pub still : (room active granted next_granted : ℕ) (window next : Window) (held : State D)
          (handled : Handled) (d : Deed) (m : StoreState)
          → StateStands seen may_leave room active granted window held m
          → StateStands seen may_leave room active next_granted next held (store_done d m)
          → calls_device d ≡ false → handled ≡ handled_done d
          → Carried seen may_leave clock left_since rig faults room active next_granted next
          (state_disk held) (record { state = held; handled = handled }) d m
      still room active granted next_granted window next held handled d m stands after quiet is =
          record {
            made = makes_none room d m (rig (state_disk held)) quiet;
            within = within_none room d m (rig (state_disk held)) quiet;
            fails = false;
            stands = after;
            handled_is = is;
            calls = λ (e : false ≡ true). absurd (true≢false (sym e));
            cause = refl;
            disk = (
              λ whole. subst (λ (c : Change). Changed may_leave clock left_since rig room c
                  m.slots (state_disk held) (state_disk held)) (sym (calls_none_keeps d quiet))
                  (same_disk room active granted window held m stands whole),
              λ broken. refl,
            );
          }

      -- a request that changes nothing
      pub refused : (room active granted code : ℕ) (window : Window) (held : State D)
          (handled : Handled) (m : StoreState) → handled ≡ answered code false false
          → StateStands seen may_leave room active granted window held m
          → Carried seen may_leave clock left_since rig faults room active granted window
          (state_disk held) (record { state = held; handled = handled }) (Refuse code) m
      refused room active granted code window held handled m is stands =
          still room active granted granted window window held handled
          (Refuse code) m stands stands refl is

      -- a window that is refused
      pub let_go : (room active granted code : ℕ) (window : Window) (held : State D)
          (handled : Handled) (m : StoreState) → handled ≡ answered code false false
          → StateStands seen may_leave room active granted window held m
          → Carried seen may_leave clock left_since rig faults room active granted no_window
          (state_disk held) (record { state = held; handled = handled }) (RefuseWindow code) m
      let_go room active granted code window held handled m is stands =
          still room active granted granted window no_window held handled
          (RefuseWindow code) m stands (window_refused room active granted code window held m
          stands) refl is

      -- a download that ends with nothing in its slot
      pub gave_up : (room active granted code : ℕ) (window : Window) (old : Download D)
          (slots : Slots D) (handled : Handled) (m : StoreState)
          → handled ≡ answered code false false
          → LoadingStands seen may_leave room active granted window old m → slots.disk ≡ old.disk
          → slots.header ≡ old.header
          → Carried seen may_leave clock left_since rig faults room active granted window old.disk
          (record { state = form.Whole slots; handled = handled }) (GiveUp code) m
      gave_up room active granted code window old slots handled m is l disk header =
          let s = given_back room active granted window old slots m l disk header in
          subst (λ (d : D). Carried seen may_leave clock left_since rig faults room active granted
          window d (record { state = form.Whole slots; handled = handled }) (GiveUp code) m)
          disk
          (done room active granted window slots.disk (form.Whole slots) handled
          (GiveUp code) m l.whole (
            record {
              whole = s.whole;
              room_is = s.room_is;
              active_is =
                  s.active_is;
              settled = s.settled;
            },
            refl,
          ) is refl
          (changed_none may_leave clock left_since rig seen rig_reads cut_counts only_now room
          slots.disk slots.header m.slots s.room_is s.settled)
          (makes_none room (GiveUp code) m (rig slots.disk) refl)
          (within_none room (GiveUp code) m (rig slots.disk) refl))

-- a state is the one that a store has
pub one_state : {D : Type 0} (o : Option (State D)) (a b : State D) → o ≡ Some a → o ≡ Some b
    → a ≡ b
one_state o a b x y = same a b (sym x ∙ y)
  where
    same : {D : Type 0} (a b : State D) → ◌≡◌ {A = Option (State D)} (Some a) (Some b) → a ≡ b
    same a b e = cc

-- what is said of the state is said of the store
pub store_carried : {D : Type 0} (seen : D → Option (List ℕ)) (may_leave : D → List ℕ → Type 0)
    (clock : D → ℕ) (left_since : D → ℕ → List ℕ → Type 0) (rig : D → Option Rigged)
    (faults : D → ℕ) (old new : Kept D) (before : State D) (did : Done D) (d : Deed)
    (m : StoreState)
    → StoreStands seen may_leave old m → old.state ≡ Some before → new.state ≡ Some did.state
    → new.room ≡ old.room → new.active ≡ old.active
    → (StateStands seen may_leave old.room old.active old.granted old.window before m
    → Carried seen may_leave clock left_since rig faults old.room old.active new.granted new.window
    (state_disk before) did d m)
    → StoreCarried seen may_leave clock left_since rig faults old new did.handled d m
store_carried seen may_leave clock left_since rig faults old new before did d m s was is room active
    carried =
    let c = carried (subst (λ (x : State _). StateStands seen may_leave old.room old.active
    old.granted old.window x m) (one_state old.state s.state before s.state_is was) s.stands) in
    record {
      fails = c.fails;
      stands = record { state = did.state; state_is = is; stands = rw (room, active) c.stands };
      handled_is = c.handled_is;
      before = before;
      before_is = was;
      calls = c.calls;
      made = c.made;
      within = c.within;
      cause = c.cause;
      disk = c.disk;
    }
