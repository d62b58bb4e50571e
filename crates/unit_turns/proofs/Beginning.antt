-- What a start of the unit comes to, by what its calls answered.
use Rattle.std.proofs.Common.{◌≡◌, inl, inr, ℕ, Bool, false, List, length, Option, Some}
use Rattle.std.proofs.Common.{refl, sym, ap, ◌∙◌, subst}
use Rattle.std.specs.Prelude.{Result}
use Rattle.std.specs.Io.KnownBytes.{Appends}
use Rattle.omci_types.specs.declared.Boot.{Boot}
use Rattle.omci_types.specs.declared.Software.{Software}
use Rattle.slot_spec.specs.Slots.{SlotPair}
use Rattle.slot_spec.specs.Layout.{StandsAt}
use Rattle.slot_spec.specs.Crash.{HasLength}
use Rattle.slot_spec.specs.Rig.{Rigged}
use Rattle.store_spec.specs.State.{software_of}
use Rattle.image_store.specs.declared.state.State.{State as Form}
use Rattle.image_store.specs.Stands.{state_disk}
use Rattle.image_store.specs.Starts.{Started}
use Rattle.unit_spec.specs.Onu.{Onu, onu_started}
use Rattle.onu_agent.specs.State.{State, AgentStands}
use Rattle.onu_agent.specs.declared.agent.StartRefusal.{StartRefusal}
use Rattle.onu_agent.specs.declared.agent.StartRefusal.TheVariants as refused
use Rattle.onu_agent.specs.Starts.{given_back, is_fault, IsFaultOrMemory}
use Rattle.world_spec.specs.declared.Effect.TheVariants as effect
use Rattle.world_spec.specs.Trace.{line_text}
use Rattle.turn_spec.specs.UnitTurns.{start_line, slots_found}
use Rattle.unit_turns.specs.Taking.{LineBroken}
use Rattle.unit_turns.specs.Ending.{StartDone, StartFailed, StartComes, refusal_status}
use Rattle.unit_turns.specs.declared.ending.UnitStatus.{UnitStatus}
use Rattle.unit_turns.specs.declared.ending.UnitStatus.TheVariants.{WriteFault, NoMemory}
use Rattle.unit_turns.specs.declared.ending.UnitEnd as ending
use Rattle.unit_turns.specs.declared.running.Running as running
use Rattle.unit_turns.proofs.Disks.{state_whole, state_reads}

module _ {D : Type 0} (seen : D → Option (List ℕ)) (may_leave : D → List ℕ → Type 0)
    (clock : D → ℕ) (left_since : D → ℕ → List ℕ → Type 0) (rig : D → Option Rigged)
    (faults : D → ℕ) where
  module _ (room size turn life : ℕ) (boot : Boot) (s : SlotPair) (old : D)
      (written0 written : Option (List ℕ)) where
    -- the agent started
    module _ (agent : State D) (software : Software)
        (stands : AgentStands seen may_leave agent (onu_started boot room s))
        (begun : (state : Form D) → agent.unit.images.state ≡ Some state
        → Started seen may_leave clock left_since rig faults size old (state_disk state) false)
        (shows : (u : Onu) → AgentStands seen may_leave agent u → software ≡ software_of u.store)
      where
        line_is : line_text turn (effect.UnitStarted life software)
            ≡ start_line turn life (onu_started boot room s)
        line_is = ap (λ (x : Software). line_text turn (effect.UnitStarted life x))
            (shows (onu_started boot room s) stands)

        leaves : (disk : D)
            → ((state : Form D) → agent.unit.images.state ≡ Some state → disk ≡ state_disk state)
            → (image : List ℕ) → may_leave disk image → StandsAt room image s
        unfolding onu_started
        leaves disk gives image left =
            let st = stands.stands in
            subst (λ (n : ℕ). StandsAt n image s) st.room_is
            (state_whole seen may_leave agent.unit.images.room agent.unit.images.active
            agent.unit.images.granted agent.unit.images.window st.images.state
            (onu_started boot room s).store st.images.stands refl image
            (subst (λ (d : D). may_leave d image) (gives st.images.state st.images.state_is) left))

        begun_at : (disk : D)
            → ((state : Form D) → agent.unit.images.state ≡ Some state → disk ≡ state_disk state)
            → Started seen may_leave clock left_since rig faults size old disk false
        begun_at disk gives =
            let st = stands.stands.images in
            subst (λ (d : D). Started seen may_leave clock left_since rig faults size old d false)
            (sym (gives st.state st.state_is)) (begun st.state st.state_is)

        pub start_done : ((state : Form D) → agent.unit.images.state ≡ Some state
            → HasLength may_leave size (state_disk state))
            → Appends written0 written (line_text turn (effect.UnitStarted life software))
            → StartDone seen may_leave clock left_since rig faults room size turn life boot s old
            (record { agent = agent; size = size; life = life }) written0 written
        start_done long wrote =
            let st = stands.stands.images in
            record {
              stands = stands;
              size_is = refl;
              life_is = refl;
              long = long st.state st.state_is;
              begun = begun st.state st.state_is;
              written = subst (λ (l : List ℕ). Appends written0 written l) line_is wrote;
            }

        pub start_broke : (status : UnitStatus) (disk : D) → status ≡ WriteFault
            → ((state : Form D) → agent.unit.images.state ≡ Some state → disk ≡ state_disk state)
            → LineBroken (line_text turn (effect.UnitStarted life software)) written0 written
            → StartFailed seen may_leave clock left_since rig faults status room size turn life boot s
            old disk written0 written
        start_broke status disk is gives broke =
            subst (λ (x : UnitStatus). StartFailed seen may_leave clock left_since rig faults x room
            size turn life boot s old disk written0 written) (sym is) (
              begun_at disk gives,
              leaves disk gives,
              subst (λ (l : List ℕ). LineBroken l written0 written) line_is broke,
            )

        pub start_starved : (status : UnitStatus) (disk : D) → status ≡ NoMemory
            → ((state : Form D) → agent.unit.images.state ≡ Some state → disk ≡ state_disk state)
            → written ≡ written0
            → StartFailed seen may_leave clock left_since rig faults status room size turn life boot s
            old disk written0 written
        start_starved status disk is gives same =
            subst (λ (x : UnitStatus). StartFailed seen may_leave clock left_since rig faults x room
            size turn life boot s old disk written0 written) (sym is)
            (begun_at disk gives, inr (leaves disk gives), same)

    -- it didn't
    refused_by : (refusal : StartRefusal D) → IsFaultOrMemory refusal
        → Started seen may_leave clock left_since rig faults size old (given_back refusal)
        (is_fault refusal)
        → written ≡ written0
        → StartFailed seen may_leave clock left_since rig faults (refusal_status refusal) room size
        turn life boot s old (given_back refusal) written0 written
    refused_by (refused.NoUnit disk length magic room) fault begun same = absurd fault
    refused_by (refused.NoImage disk slot gate given) fault begun same = absurd fault
    refused_by (refused.Fault disk) fault begun same = (begun, same)
    refused_by (refused.NoMemory disk) fault begun same = (begun, inl tt, same)

    pub start_refused : (refusal : StartRefusal D) (end : ending.UnitEnd D)
        → end.status ≡ refusal_status refusal → end.disk ≡ given_back refusal
        → IsFaultOrMemory refusal
        → Started seen may_leave clock left_since rig faults size old (given_back refusal)
        (is_fault refusal)
        → written ≡ written0
        → StartFailed seen may_leave clock left_since rig faults end.status room size turn life boot
        s old end.disk written0 written
    start_refused refusal end status_is disk_is fault begun same =
        subst (λ (x : UnitStatus). StartFailed seen may_leave clock left_since rig faults x room size
        turn life boot s old end.disk written0 written) (sym status_is)
        (subst (λ (d : D). StartFailed seen may_leave clock left_since rig faults
        (refusal_status refusal) room size turn life boot s old d written0 written) (sym disk_is)
        (refused_by refusal fault begun same))

  -- what a start comes to on the disk that a unit gave back
  pub again_comes : ((disk : D) (bytes : List ℕ) → seen disk ≡ Some bytes → may_leave disk bytes)
      → (agent : State D) (u : Onu) (stands : AgentStands seen may_leave agent u)
      (size turn life : ℕ) (boot : Boot) (disk : D) (written0 written : Option (List ℕ))
      (result : Result (running.Running D) (ending.UnitEnd D))
      → HasLength may_leave size (state_disk stands.stands.images.state)
      → ((state : Form D) → agent.unit.images.state ≡ Some state → disk ≡ state_disk state)
      → ((room : ℕ) (s : SlotPair) (bytes : List ℕ) → seen disk ≡ Some bytes
      → size ≡ length bytes → StandsAt room bytes s
      → StartComes seen may_leave clock left_since rig faults result room size turn life boot s disk
      written0 written)
      → (made : Bool) × StartComes seen may_leave clock left_since rig faults result u.room size
      turn life boot (slots_found made u.store) (state_disk stands.stands.images.state) written0
      written
  again_comes leaves_seen agent u stands size turn life boot disk written0 written result long gives
      comes =
      let st = stands.stands.images in
      let is = gives st.state st.state_is in
      let r = state_reads seen may_leave agent.unit.images.room agent.unit.images.active
      agent.unit.images.granted agent.unit.images.window st.state u.store st.stands leaves_seen in (
        r.made,
        subst (λ (d : D). StartComes seen may_leave clock left_since rig faults result u.room size
            turn life boot (slots_found r.made u.store) d written0 written) is
            (comes u.room (slots_found r.made u.store) r.bytes (ap seen is ∙ r.reads)
            (sym (long r.bytes (leaves_seen (state_disk st.state) r.bytes r.reads)))
            (subst (λ (n : ℕ). StandsAt n r.bytes (slots_found r.made u.store)) stands.stands.room_is
            r.stands)),
      )
