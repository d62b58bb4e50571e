-- What a start makes of a unit, by what its store of images says of it.
use Rattle.std.proofs.Common.{◌≡◌, ℕ, List, Option, Some, None, IsSome, refl, sym, ap, subst, ◌∙◌}
use Rattle.std.proofs.lemmas.Bool.{false≢true}
use Rattle.omci_types.specs.declared.Boot.{Boot}
use Rattle.omci_types.specs.declared.Software.{Software}
use Rattle.slot_spec.specs.Slots.{SlotPair}
use Rattle.slot_spec.specs.Layout.{StandsAt}
use Rattle.slot_laws.proofs.Once.{one_room}
use Rattle.image_slots.specs.declared.mount.MountRefusal.{MountRefusal}
use Rattle.image_slots.specs.declared.mount.MountRefusal.TheVariants as mount
use Rattle.image_slots.specs.Mounts.{IsMountFault}
use Rattle.store_spec.specs.State.{StoreState, store_started, software_of}
use Rattle.unit_spec.specs.Onu.{onu_started}
use Rattle.image_store.specs.declared.state.State.{State as Form}
use Rattle.image_store.specs.declared.state.State.TheVariants as form
use Rattle.image_store.specs.Stands.{Kept as Images, StoreStands, StateStands, state_disk}
use Rattle.onu_agent.specs.declared.agent.StartRefusal.{StartRefusal}
use Rattle.onu_agent.specs.State.{Desk, UnitStands, desk_started}
use Rattle.onu_agent.specs.Starts.{not_mounted, is_fault, IsFaultOrMemory}
use Rattle.image_store.specs.Starts.{refusal_faults}

-- a mount that a device call failed
pub fault_as : {D : Type 0} (refusal : MountRefusal D) (given : StartRefusal D) → given ≡ not_mounted refusal → IsMountFault refusal → IsFaultOrMemory given
fault_as refusal given is fault = subst IsFaultOrMemory (sym is) (by refusal fault)
  where
    by : {D : Type 0} (refusal : MountRefusal D) → IsMountFault refusal → IsFaultOrMemory (not_mounted refusal)
    by (mount.Fault disk) fault = tt
    by (mount.NoUnit disk length magic room) fault = absurd fault
    by (mount.NoImage disk slot gate size) fault = absurd fault

-- and whether one did
pub fault_is : {D : Type 0} (refusal : MountRefusal D) (given : StartRefusal D) → given ≡ not_mounted refusal → is_fault given ≡ refusal_faults refusal
fault_is refusal given is = ap is_fault is ∙ by refusal
  where
    by : {D : Type 0} (refusal : MountRefusal D) → is_fault (not_mounted refusal) ≡ refusal_faults refusal
    by (mount.NoUnit disk length magic room) = refl
    by (mount.Fault disk) = refl
    by (mount.NoImage disk slot gate size) = refl

same_bytes : (a b : List ℕ) → ◌≡◌ {A = Option (List ℕ)} (Some a) (Some b) → a ≡ b
same_bytes a b e = cc

none_some : {A : Type 0} (x : A) → ◌≡◌ {A = Option A} None (Some x) → ⊥
none_some x e = cc

module _ {D : Type 0} (seen : D → Option (List ℕ)) (may_leave : D → List ℕ → Type 0) where
  -- bytes stand for slots with one room
  room_of : (room : ℕ) (boot : Boot) (s : SlotPair) (bytes : List ℕ) (images : Images D) (state : Form D) → StateStands seen may_leave images.room images.active images.granted images.window state (store_started boot s)
      → seen (state_disk state) ≡ Some bytes → StandsAt room bytes s → images.room ≡ room
  room_of room boot s bytes images (form.Whole slots) stands reads there =
      let settled = stands.0.settled in
      sym stands.0.room_is ∙ one_room slots.header.room room bytes s s (subst (λ (b : List ℕ). StandsAt slots.header.room b s) (same_bytes settled.bytes bytes (sym settled.reads ∙ reads)) settled.shows.stands) there
  room_of room boot s bytes images (form.Filling download) stands reads there = absurd (none_some _ stands.download_is)
  room_of room boot s bytes images (form.Broken broken software) stands reads there = absurd (false≢true stands.0.broken_is)

  pub unit_started : (room : ℕ) (boot : Boot) (s : SlotPair) (bytes : List ℕ) (disk : D) (images : Images D) (desk : Desk) (software : Software) → StoreStands seen may_leave images (store_started boot s)
      → ((state : Form D) → images.state ≡ Some state → seen (state_disk state) ≡ seen disk) → seen disk ≡ Some bytes → StandsAt room bytes s
      → ((m : StoreState) → StoreStands seen may_leave images m → software ≡ software_of m) → desk ≡ desk_started software
      → UnitStands seen may_leave (record { desk = desk; images = images; leaving = None }) (onu_started boot room s)
  unfolding onu_started
  unit_started room boot s bytes disk images desk software stands same reads there shows desk_is = record {
    desk_is = desk_is ∙ ap desk_started (shows (store_started boot s) stands);
    leaving_is = refl;
    room_is = room_of room boot s bytes images stands.state stands.stands (same stands.state stands.state_is ∙ reads) there;
    images = stands;
  }

-- the disk that a store gives back is its state's
pub unmounted : {D : Type 0} (P : D → Type 0) (o : Option (Form D)) (disk : D) → IsSome o → ((state : Form D) → o ≡ Some state → disk ≡ state_disk state) → ((state : Form D) → o ≡ Some state → P (state_disk state)) → P disk
unmounted P (Some state) disk some is said = subst P (sym (is state refl)) (said state refl)
unmounted P None disk some is said = absurd (false≢true some)
