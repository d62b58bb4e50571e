-- What one more turn makes of a unit that runs, and of its disk.
use Rattle.std.proofs.Common.{◌≡◌, ℕ, ◌+◌, Bool, true, false, List}
use Rattle.std.proofs.Common.{if◌then◌else◌, ◌∷◌, ◌++◌, Option, Some, None, refl, sym, ap}
use Rattle.std.proofs.Common.{◌∙◌, subst, arith}
use Rattle.std.proofs.lemmas.Bool.{false≢true}
use Rattle.omci_core.specs.Causes.{Rose}
use Rattle.omci_types.specs.declared.Boot.{Boot}
use Rattle.slot_spec.specs.Slots.{SlotPair, mid}
use Rattle.slot_spec.specs.Layout.{StandsAt, StandsAmong}
use Rattle.slot_spec.specs.Crash.{Moments, HasLength}
use Rattle.slot_spec.specs.Rig.{Rigged}
use Rattle.slot_laws.proofs.Moments.{moments_weaker, moments_then}
use Rattle.store_spec.specs.History.{StoreEntry, Boots, BootsEver, ledger}
use Rattle.store_spec.specs.Effects.{change_of}
use Rattle.store_laws.proofs.Papers.{bootable}
use Rattle.store_laws.proofs.Boots.{boots_now, ever_now, ever_more}
use Rattle.boot_laws.proofs.Keeping.{StoreGood}
use Rattle.unit_spec.specs.Onu.{Onu, onu_started, onu_received, onu_ticked, packet_deed}
use Rattle.image_store.specs.declared.state.State.{State as Form}
use Rattle.image_store.specs.Stands.{Kept as Images, state_disk}
use Rattle.image_store.specs.Carries.{DiskChanges, Caused}
use Rattle.image_store.specs.Starts.{Started}
use Rattle.image_store.proofs.Carrying.{one_state}
use Rattle.onu_agent.specs.State.{State, AgentStands}
use Rattle.turn_spec.specs.Arrivals.{Came, Quiet, Closed}
use Rattle.turn_spec.specs.UnitTurns.{Turn, UnitRun, is_over, unit_run}
use Rattle.turn_spec.specs.UnitTurns.{faults_in, second_by, slots_found}
use Rattle.turn_laws.proofs.Runs.{run_good, run_room, found_good}
use Rattle.turn_laws.proofs.Stored.{packet_inside}
use Rattle.unit_turns.specs.Taking.{PacketTaken}
use Rattle.unit_turns.specs.Running.{RoseBy, DiskRuns, RunsAs, UnitRuns, DiskAfter}
use Rattle.unit_turns.specs.Ending.{StartDone}
use Rattle.unit_turns.specs.declared.running.Running as running
use Rattle.unit_turns.proofs.Disks.{state_crash, state_whole}

-- ---- turns

-- a turn in which a packet came
abbrev pub came : List ℕ → (fails : Bool) → Turn
came bytes fails = record { arrival = Came bytes; fails = fails; made = false }

-- a second without one, after which a start found this
abbrev pub quiet : (made : Bool) → Turn
quiet made = record { arrival = Quiet; fails = false; made = made }

-- the link's end
abbrev pub closed : Turn
closed = record { arrival = Closed; fails = false; made = false }

-- ---- counts

rose_more : (times a b c : ℕ) → RoseBy times a b → Rose b c → RoseBy (times + 1) a c
rose_more times a b c before rose = omega (arith, before, rose)

rose_first : (times a b c : ℕ) → RoseBy times a b → Rose b c → RoseBy (1 + times) a c
rose_first times a b c before rose = omega (arith, before, rose)

caused_more : (fails : Bool) (times a b c : ℕ) → RoseBy times a b → Caused fails b c
    → RoseBy (if fails then times + 1 else times) a c
caused_more true times a b c before rose = rose_more times a b c before rose
caused_more false times a b c before same =
    subst (λ (n : ℕ). RoseBy times a n) (sym same) before

rose_none : (times a b : ℕ) → RoseBy times a b → RoseBy (0 + times) a b
rose_none times a b before = omega (arith, before)

caused_first : (fails : Bool) (times a b c : ℕ) → RoseBy times a b → Caused fails b c
    → RoseBy ((if fails then 1 else 0) + times) a c
caused_first true times a b c before rose = rose_first times a b c before rose
caused_first false times a b c before same =
    rose_none times a c (subst (λ (n : ℕ). RoseBy times a n) (sym same) before)

module _ {D : Type 0} (seen : D → Option (List ℕ)) (may_leave : D → List ℕ → Type 0)
    (clock : D → ℕ) (left_since : D → ℕ → List ℕ → Type 0) (rig : D → Option Rigged)
    (faults : D → ℕ) where
  -- ---- a packet's deed

  module _ (room : ℕ) (s0 : SlotPair) (mounted : D) (h : List StoreEntry) (fails : Bool)
      (bytes : List ℕ) (u : Onu) (good : StoreGood s0 h u.store) (same_room : u.room ≡ room)
      (old new : D)
      (changes : DiskChanges may_leave clock left_since rig u.room (packet_deed bytes u) u.store old
      new) where
    long_by : (broken : Bool) → u.store.broken ≡ broken → (size : ℕ) → HasLength may_leave size old
        → HasLength may_leave size new
    long_by true is size long = subst (λ (d : D). HasLength may_leave size d) (sym (changes.1 is))
        long
    long_by false is size long = (changes.0 is).length size long

    ever_by : (broken : Bool) → u.store.broken ≡ broken
        → Moments clock left_since may_leave mounted old (BootsEver room s0 h)
        → Moments clock left_since may_leave mounted new
        (BootsEver room s0 ((onu_received fails bytes u).stored ++ h))
    ever_by true is ever =
        subst (λ (d : D). Moments clock left_since may_leave mounted d
        (BootsEver room s0 ((onu_received fails bytes u).stored ++ h))) (sym (changes.1 is))
        (moments_weaker clock left_since may_leave mounted old (BootsEver room s0 h)
        (BootsEver room s0 ((onu_received fails bytes u).stored ++ h)) ever
        (ever_more room s0 (onu_received fails bytes u).stored h))
    ever_by false is ever =
        moments_then clock left_since may_leave mounted old new
        (BootsEver room s0 ((onu_received fails bytes u).stored ++ h))
        (moments_weaker clock left_since may_leave mounted old (BootsEver room s0 h)
        (BootsEver room s0 ((onu_received fails bytes u).stored ++ h)) ever
        (ever_more room s0 (onu_received fails bytes u).stored h))
        (moments_weaker clock left_since may_leave old new
        (StandsAmong u.room (mid (change_of (packet_deed bytes u)) u.store.slots))
        (BootsEver room s0 ((onu_received fails bytes u).stored ++ h)) (changes.0 is).moments
        (λ image among. packet_inside room s0 h fails bytes u image good
        (subst (λ (n : ℕ). StandsAmong n (mid (change_of (packet_deed bytes u)) u.store.slots) image)
        same_room among)))

    packet_disk : (size times : ℕ) → Caused fails (faults old) (faults new)
        → DiskRuns seen may_leave clock left_since faults room s0 mounted size times h old
        → DiskRuns seen may_leave clock left_since faults room s0 mounted size
        (if fails then times + 1 else times) ((onu_received fails bytes u).stored ++ h) new
    packet_disk size times cause disk =
        record {
          long = long_by u.store.broken refl size disk.long;
          ever = ever_by u.store.broken refl disk.ever;
          rises = caused_more fails times (faults mounted) (faults old) (faults new) disk.rises
              cause;
        }

  -- ---- the disk of a state

  -- what is so of one state's disk is so of the other's, where both are the store's
  moved : (P : D → Type 0) (o : Option (Form D)) (a b : Form D) → o ≡ Some a → o ≡ Some b
      → P (state_disk a) → P (state_disk b)
  moved P o a b is_a is_b said =
      subst (λ (x : Form D). P (state_disk x)) (one_state o a b is_a is_b) said

  module _ (room : ℕ) (s0 : SlotPair) (limit : ℕ) (mounted : D) (size : ℕ) (turns : List Turn) where
    abbrev Runs : State D → ℕ → List Turn → Type 0
    Runs agent life ts =
        UnitRuns seen may_leave clock left_since faults room s0 limit mounted agent size life ts

    good : (agent : State D) (life : ℕ) → Runs agent life turns
        → StoreGood s0 (unit_run room s0 turns).stored (unit_run room s0 turns).unit.store
    good agent life r = run_good s0 room turns r.below r.some

    -- ---- a packet

    pub packet_runs : (agent new : State D) (life : ℕ) (packets : List (List ℕ)) (bytes : List ℕ)
        → Runs agent life turns → is_over limit turns ≡ false
        → (p : PacketTaken seen may_leave clock left_since rig faults agent new packets bytes
        (unit_run room s0 turns).unit)
        → Runs new life (came bytes p.fails ∷ turns)
    packet_runs agent new life packets bytes r goes_on p =
        let run = unit_run room s0 turns in
        let touched = p.disk in
        let before = moved (λ (d : D). DiskRuns seen may_leave clock left_since faults room s0 mounted
        size (faults_in turns) run.stored d) agent.unit.images.state
        r.runs.stands.stands.images.state touched.before r.runs.stands.stands.images.state_is
        touched.before_is r.runs.disk in
        let after = packet_disk room s0 mounted run.stored p.fails bytes run.unit (good agent life r)
        (run_room room s0 turns) (state_disk touched.before) (state_disk touched.after)
        touched.disk size (faults_in turns) touched.cause before in
        record {
          below = r.below;
          some = r.some;
          are = (goes_on, touched.calls, r.are);
          runs = record {
            stands = p.stands;
            life_is = r.runs.life_is;
            disk = moved (λ (d : D). DiskRuns seen may_leave clock left_since faults room s0 mounted
                size (if p.fails then faults_in turns + 1 else faults_in turns)
                ((onu_received p.fails bytes run.unit).stored ++ run.stored) d)
                new.unit.images.state touched.after p.stands.stands.images.state touched.after_is
                p.stands.stands.images.state_is after;
          };
        }

    -- ---- the link's end

    pub closed_runs : (agent : State D) (life : ℕ) → Runs agent life turns
        → is_over limit turns ≡ false → Runs agent life (closed ∷ turns)
    closed_runs agent life r goes_on =
        record {
          below = r.below;
          some = r.some;
          are = (goes_on, (λ fails. absurd (false≢true fails)), r.are);
          runs = record {
            stands = r.runs.stands;
            life_is = r.runs.life_is;
            disk = r.runs.disk;
          };
        }

    -- ---- a second

    module _ (agent new : State D) (life : ℕ) (r : Runs agent life turns)
        (goes_on : is_over limit turns ≡ false)
        (ticked : AgentStands seen may_leave new (onu_ticked (unit_run room s0 turns).unit))
        (images : new.unit.images ≡ agent.unit.images) where
      -- the disk is as before
      pub ticked_disk : DiskRuns seen may_leave clock left_since faults room s0 mounted size
          (faults_in turns) (unit_run room s0 turns).stored
          (state_disk ticked.stands.images.state)
      ticked_disk =
          moved (λ (d : D). DiskRuns seen may_leave clock left_since faults room s0 mounted
          size (faults_in turns) (unit_run room s0 turns).stored d) new.unit.images.state
          r.runs.stands.stands.images.state ticked.stands.images.state
          (ap (λ (i : Images D). i.state) images ∙ r.runs.stands.stands.images.state_is)
          ticked.stands.images.state_is r.runs.disk

      -- a crash leaves slots that the history lets a unit start with
      pub ticked_boots : (image : List ℕ)
          → may_leave (state_disk ticked.stands.images.state) image
          → Boots room s0 (unit_run room s0 turns).stored image
      unfolding onu_ticked
      ticked_boots image left =
          let g = good agent life r in
          let u = (unit_run room s0 turns).unit in
          boots_now room s0 (unit_run room s0 turns).stored u.store image g.explained
          (subst (λ (n : ℕ). StandsAmong n (mid u.store.doubt u.store.slots) image)
          (ticked.stands.room_is ∙ run_room room s0 turns)
          (state_crash seen may_leave new.unit.images.room new.unit.images.active
          new.unit.images.granted new.unit.images.window ticked.stands.images.state u.store
          ticked.stands.images.stands g.sound image left))

      -- and so it does at each moment of a start, and after it
      pub restarted_ever : (now : D)
          → Moments clock left_since may_leave (state_disk ticked.stands.images.state) now
          (may_leave (state_disk ticked.stands.images.state))
          → Moments clock left_since may_leave mounted now
          (BootsEver room s0 (unit_run room s0 turns).stored)
      restarted_ever now moments =
          let h = (unit_run room s0 turns).stored in
          let old = state_disk ticked.stands.images.state in
          moments_then clock left_since may_leave mounted old now (BootsEver room s0 h)
          ticked_disk.ever
          (moments_weaker clock left_since may_leave old now (may_leave old) (BootsEver room s0 h)
          moments (λ image left. ever_now room s0 h image (ticked_boots image left)))

      restarted : (now : D) (fails : Bool)
          → Moments clock left_since may_leave (state_disk ticked.stands.images.state) now
          (may_leave (state_disk ticked.stands.images.state))
          → Caused fails (faults (state_disk ticked.stands.images.state)) (faults now)
          → HasLength may_leave size now
          → DiskRuns seen may_leave clock left_since faults room s0 mounted size
          (if fails then faults_in turns + 1 else faults_in turns)
          (unit_run room s0 turns).stored now
      restarted now fails moments cause long =
          record {
            long = long;
            ever = restarted_ever now moments;
            rises = caused_more fails (faults_in turns) (faults mounted)
                (faults (state_disk ticked.stands.images.state)) (faults now) ticked_disk.rises cause;
          }

      counted : UnitRun
      counted = record (unit_run room s0 turns) { turns = (unit_run room s0 turns).turns + 1 }

      -- a unit that isn't leaving stays
      pub stays : (unit_run room s0 turns).unit.leaving ≡ None → Runs new life (quiet false ∷ turns)
      unfolding counted
      stays none =
          record {
            below = r.below;
            some = r.some;
            are = (goes_on, (λ fails. absurd (false≢true fails)), r.are);
            runs = subst (λ (run : UnitRun). RunsAs seen may_leave clock left_since faults room s0
                mounted new size life (faults_in turns) run)
                (sym (ap (λ (l : Option Boot). second_by l false counted) none)) (record {
                  stands = ticked;
                  life_is = r.runs.life_is;
                  disk = ticked_disk;
                });
          }

      -- a start of it failed before the unit started: the disk is still that of the turns before
      pub start_failed : (now : D) (fails : Bool)
          → Started seen may_leave clock left_since rig faults size
          (state_disk ticked.stands.images.state) now fails
          → DiskAfter seen may_leave clock left_since faults room s0 limit mounted now
          (if fails then 1 else 0) turns
      unfolding onu_ticked
      start_failed now fails s =
          let u = (unit_run room s0 turns).unit in
          record {
            are = r.are;
            ever = restarted_ever now s.moments;
            last = λ image left. ticked_boots image (s.moments.now image left);
            whole = λ whole image left. subst (λ (n : ℕ). StandsAt n image u.store.slots)
                (ticked.stands.room_is ∙ run_room room s0 turns)
                (state_whole seen may_leave new.unit.images.room new.unit.images.active
                new.unit.images.granted new.unit.images.window ticked.stands.images.state u.store
                ticked.stands.images.stands whole image (s.moments.now image left));
            rises = caused_first fails (faults_in turns) (faults mounted)
                (faults (state_disk ticked.stands.images.state)) (faults now) ticked_disk.rises
                s.cause;
          }

      -- the unit had started, and its line was not written whole
      pub line_failed : (boot : Boot) (made : Bool) (now : D)
          → (unit_run room s0 turns).unit.leaving ≡ Some boot
          → Started seen may_leave clock left_since rig faults size
          (state_disk ticked.stands.images.state) now false
          → ((image : List ℕ) → may_leave now image
          → StandsAt room image (slots_found made (unit_run room s0 turns).unit.store))
          → DiskAfter seen may_leave clock left_since faults room s0 limit mounted now 0
          (quiet made ∷ turns)
      unfolding onu_started counted
      line_failed boot made now leaves s there =
          let run = unit_run room s0 turns in
          let found = slots_found made run.unit.store in
          let g = found_good s0 made run.stored run.unit.store (good agent life r) in
          let after = sym (ap (λ (l : Option Boot). second_by l made counted) leaves) in
          record {
            are = (goes_on, (λ fails. absurd (false≢true fails)), r.are);
            ever = subst (λ (x : UnitRun). Moments clock left_since may_leave mounted now
                (BootsEver room s0 x.stored)) after (restarted_ever now s.moments);
            last = subst (λ (x : UnitRun). (image : List ℕ) → may_leave now image
                → Boots room s0 x.stored image) after
                (λ image left. (
                  found,
                  there image left,
                  bootable (ledger s0 run.stored) found g.explained,
                ));
            whole = subst (λ (x : UnitRun). x.unit.store.broken ≡ false → (image : List ℕ)
                → may_leave now image → StandsAt room image x.unit.store.slots) after
                (λ whole image left. there image left);
            rises = rose_none (faults_in turns) (faults mounted) (faults now)
                (caused_more false (faults_in turns) (faults mounted)
                (faults (state_disk ticked.stands.images.state)) (faults now) ticked_disk.rises
                s.cause);
          }

      -- one that is leaving has started again, on the slots that it found
      pub starts_again : (boot : Boot) (made : Bool) (next : running.Running D)
          (written0 written : Option (List ℕ)) (turn : ℕ)
          → (unit_run room s0 turns).unit.leaving ≡ Some boot
          → StartDone seen may_leave clock left_since rig faults (unit_run room s0 turns).unit.room
          size turn (life + 1) boot (slots_found made (unit_run room s0 turns).unit.store)
          (state_disk ticked.stands.images.state) next written0 written
          → UnitRuns seen may_leave clock left_since faults room s0 limit mounted next.agent next.size
          next.life (quiet made ∷ turns)
      unfolding counted
      starts_again boot made next written0 written turn leaves s =
          let run = unit_run room s0 turns in
          record {
            below = r.below;
            some = r.some;
            are = (goes_on, (λ fails. absurd (false≢true fails)), r.are);
            runs = subst (λ (after : UnitRun). RunsAs seen may_leave clock left_since faults room s0
                mounted next.agent next.size next.life (faults_in turns) after)
                (sym (ap (λ (l : Option Boot). second_by l made counted) leaves)) (record {
                  stands = s.stands;
                  life_is = s.life_is ∙ ap (λ (n : ℕ). n + 1) r.runs.life_is;
                  disk = subst (λ (n : ℕ). DiskRuns seen may_leave clock left_since faults room s0
                      mounted n (faults_in turns) run.stored
                      (state_disk s.stands.stands.images.state)) (sym s.size_is)
                      (restarted (state_disk s.stands.stands.images.state) false s.begun.moments
                      s.begun.cause s.long);
                });
          }

    -- ---- the end

    -- what became of the disk that an agent gives back
    pub at_rest : (agent : State D) (life : ℕ) (now : D) → Runs agent life turns
        → ((state : Form D) → agent.unit.images.state ≡ Some state → now ≡ state_disk state)
        → DiskAfter seen may_leave clock left_since faults room s0 limit mounted now 0 turns
    at_rest agent life now r gives =
        let run = unit_run room s0 turns in
        let st = r.runs.stands.stands in
        let g = good agent life r in
        let is = gives st.images.state st.images.state_is in
        subst (λ (d : D). DiskAfter seen may_leave clock left_since faults room s0 limit mounted d 0
        turns) (sym is) (record {
          are = r.are;
          ever = r.runs.disk.ever;
          last = λ image left. boots_now room s0 run.stored run.unit.store image g.explained
              (subst (λ (n : ℕ). StandsAmong n (mid run.unit.store.doubt run.unit.store.slots) image)
              (st.room_is ∙ run_room room s0 turns)
              (state_crash seen may_leave agent.unit.images.room agent.unit.images.active
              agent.unit.images.granted agent.unit.images.window st.images.state run.unit.store
              st.images.stands g.sound image left));
          whole = λ whole image left. subst (λ (n : ℕ). StandsAt n image run.unit.store.slots)
              (st.room_is ∙ run_room room s0 turns)
              (state_whole seen may_leave agent.unit.images.room agent.unit.images.active
              agent.unit.images.granted agent.unit.images.window st.images.state run.unit.store
              st.images.stands whole image left);
          rises = rose_none (faults_in turns) (faults mounted)
              (faults (state_disk st.images.state)) r.runs.disk.rises;
        })
