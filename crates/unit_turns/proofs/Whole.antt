-- How a whole run begins, on a disk that reads as bytes of slots.
use Rattle.std.proofs.Common.{◌≡◌, ◌⊎◌, inl, inr, ℕ, ◌<◌, false, List, []}
use Rattle.std.proofs.Common.{◌++◌, length, Option, Some, refl, sym, ◌∙◌, subst}
use Rattle.std.proofs.Common.{arith}
use Rattle.std.proofs.lemmas.List.{append-nil}
use Rattle.std.specs.Io.KnownBytes.{Appends}
use Rattle.std.proofs.KnownBytes.{Appends-nil}
use Rattle.omci_core.specs.Causes.{Rose}
use Rattle.omci_types.specs.declared.Boot.TheVariants.{PowerUp}
use Rattle.slot_spec.specs.Slots.{SlotPair}
use Rattle.slot_spec.specs.Layout.{StandsAt}
use Rattle.slot_spec.specs.Crash.{Moments}
use Rattle.slot_spec.specs.Rig.{Rigged}
use Rattle.slot_laws.proofs.Moments.{moments_none, moments_weaker, moments_then}
use Rattle.store_spec.specs.History.{Boots, BootsEver}
use Rattle.store_laws.proofs.Boots.{ever_now}
use Rattle.image_store.specs.declared.state.State.{State as Form}
use Rattle.image_store.specs.Stands.{state_disk}
use Rattle.image_store.specs.Starts.{Started}
use Rattle.unit_spec.specs.Onu.{onu_started}
use Rattle.turn_spec.specs.Arrivals.{Arrival}
use Rattle.turn_spec.specs.UnitTurns.{start_line}
use Rattle.turn_laws.proofs.Runs.{run_boots}
use Rattle.unit_turns.specs.Running.{UnitRuns, DiskAfter, Shown}
use Rattle.unit_turns.specs.Ending.{StartDone, StartFailed, RunEnds, Mounted, UnitEnds}
use Rattle.unit_turns.specs.declared.ending.UnitStatus.{UnitStatus}
use Rattle.unit_turns.specs.declared.ending.UnitStatus.TheVariants.{Done, DiskFault, NoUnit}
use Rattle.unit_turns.specs.declared.ending.UnitStatus.TheVariants.{LinkFault, WriteFault, NoMemory}
use Rattle.unit_turns.specs.declared.running.Running as running
use Rattle.unit_turns.proofs.Disks.{state_whole}
use Rattle.unit_turns.proofs.Showing.{sent_none}
use Rattle.unit_turns.proofs.Turning.{at_rest}

module _ {D : Type 0} (seen : D → Option (List ℕ)) (may_leave : D → List ℕ → Type 0)
    (clock : D → ℕ) (left_since : D → ℕ → List ℕ → Type 0) (rig : D → Option Rigged)
    (faults : D → ℕ)
    (only_now : (disk : D) (image : List ℕ) → left_since disk (clock disk) image
    → may_leave disk image)
    (room limit size : ℕ) (s0 : SlotPair) (bytes : List ℕ) (there : StandsAt room bytes s0)
    (old attached : D) (reads : seen attached ≡ seen old)
    (moments : Moments clock left_since may_leave old attached (may_leave old))
    (cause : faults attached ≡ faults old) where
  below : s0.committed < 2
  below = omega (arith, there.committed_is)

  -- each crash of a disk of these slots leaves bytes that a unit starts with
  boots : (now : D) → ((image : List ℕ) → may_leave now image → StandsAt room image s0)
      → (image : List ℕ) → may_leave now image → Boots room s0 [] image
  unfolding onu_started
  boots now leaves image left =
      (s0, leaves image left, run_boots s0 room [] below there.bootable)

  ever : (now : D) → ((image : List ℕ) → may_leave now image → StandsAt room image s0)
      → Moments clock left_since may_leave now now (BootsEver room s0 [])
  ever now leaves =
      moments_none clock left_since may_leave now (BootsEver room s0 []) (only_now now)
      (λ image left. ever_now room s0 [] image (boots now leaves image left))

  started_moments : (now : D)
      → Moments clock left_since may_leave attached now (may_leave attached)
      → Moments clock left_since may_leave old now (may_leave old)
  started_moments now m =
      moments_then clock left_since may_leave old attached now (may_leave old) moments
      (moments_weaker clock left_since may_leave attached now (may_leave attached)
      (may_leave old) m moments.now)

  mounts : (now : D) → Started seen may_leave clock left_since rig faults size attached now false
      → Mounted seen may_leave clock left_since faults old now
  mounts now s =
      record {
        reads = s.reads ∙ reads;
        moments = started_moments now s.moments;
        cause = s.cause ∙ cause;
      }

  after_mount : (now : D) → ((image : List ℕ) → may_leave now image → StandsAt room image s0)
      → DiskAfter seen may_leave clock left_since faults room s0 limit now now 0 []
  unfolding onu_started
  after_mount now leaves =
      record {
        are = tt;
        ever = ever now leaves;
        last = boots now leaves;
        whole = λ whole image left. leaves image left;
        rises = omega arith;
      }

  module _ (left left_now : Option (List Arrival)) (sent sent_now : Option (List (List ℕ)))
      (written written_now : Option (List ℕ)) where
    shows_start : (front text_rest : List ℕ) → left_now ≡ left → sent_now ≡ sent
        → Appends written written_now front
        → front ++ text_rest ≡ start_line 0 1 (onu_started PowerUp room s0)
        → Shown room s0 [] [] [] text_rest left left_now sent sent_now written written_now
    shows_start front text_rest left_is sent_is wrote whole =
        record {
          taken = left_is;
          sent = [];
          sent_is = sent_is ∙ sym (sent_none sent);
          sent_all = refl;
          text = front;
          written = wrote;
          text_all = whole;
        }

    module _ (unit : running.Running D)
        (s : StartDone seen may_leave clock left_since rig faults room size 0 1 PowerUp s0 attached
        unit written written_now) where
      leaves_slots : (image : List ℕ) → may_leave (state_disk s.stands.stands.images.state) image
          → StandsAt room image s0
      unfolding onu_started
      leaves_slots image left =
          let st = s.stands.stands in
          subst (λ (n : ℕ). StandsAt n image s0) st.room_is
          (state_whole seen may_leave unit.agent.unit.images.room unit.agent.unit.images.active
          unit.agent.unit.images.granted unit.agent.unit.images.window st.images.state
          (onu_started PowerUp room s0).store st.images.stands refl image left)

      pub first_mounted : Mounted seen may_leave clock left_since faults old
          (state_disk s.stands.stands.images.state)
      first_mounted = mounts (state_disk s.stands.stands.images.state) s.begun

      pub first_runs : UnitRuns seen may_leave clock left_since faults room s0 limit
          (state_disk s.stands.stands.images.state) unit.agent unit.size unit.life []
      first_runs =
          record {
            below = below;
            some = there.bootable;
            are = tt;
            runs = record {
              stands = s.stands;
              life_is = s.life_is;
              disk = record {
                long = subst (λ (n : ℕ). (image : List ℕ)
                    → may_leave (state_disk s.stands.stands.images.state) image
                    → length image ≡ n) (sym s.size_is) s.long;
                ever = ever (state_disk s.stands.stands.images.state) leaves_slots;
                rises = omega arith;
              };
            };
          }

      pub first_shown : left_now ≡ left → sent_now ≡ sent
          → Shown room s0 [] [] [] [] left left_now sent sent_now written written_now
      first_shown left_is sent_is =
          shows_start (start_line 0 1 (onu_started PowerUp room s0)) [] left_is sent_is s.written
          (append-nil (start_line 0 1 (onu_started PowerUp room s0)))

      -- the link couldn't be attached
      pub first_unattached : (disk : D) → left_now ≡ left → sent_now ≡ sent
          → ((state : Form D) → unit.agent.unit.images.state ≡ Some state
          → disk ≡ state_disk state)
          → UnitEnds seen may_leave clock left_since faults LinkFault room s0 limit old disk left
          left_now sent sent_now written written_now
      first_unattached disk left_is sent_is gives =
          inr (
            state_disk s.stands.stands.images.state,
            first_mounted,
            (
              [],
              [],
              at_rest seen may_leave clock left_since rig faults room s0 limit
                  (state_disk s.stands.stands.images.state) unit.size [] unit.agent unit.life disk
                  first_runs gives,
              first_shown left_is sent_is,
            ),
          )

      -- the run went on from there
      pub first_ran : (status : UnitStatus) (disk : D) (left_end : Option (List Arrival))
          (sent_end : Option (List (List ℕ))) (written_end : Option (List ℕ))
          → RunEnds seen may_leave clock left_since faults status room s0 limit
          (state_disk s.stands.stands.images.state) disk left left_end sent sent_end written
          written_end
          → UnitEnds seen may_leave clock left_since faults status room s0 limit old disk left
          left_end sent sent_end written written_end
      first_ran status disk left_end sent_end written_end ends =
          inr (state_disk s.stands.stands.images.state, first_mounted, ends)

    -- ---- the first start failed

    module _ (left_is : left_now ≡ left) (sent_is : sent_now ≡ sent) (disk : D) where
      abbrev Ends : UnitStatus → Type 0
      Ends status =
          UnitEnds seen may_leave clock left_since faults status room s0 limit old disk left left_now
          sent sent_now written written_now

      starved : Started seen may_leave clock left_since rig faults size attached disk false
          → Unit {0} ⊎ ((image : List ℕ) → may_leave disk image → StandsAt room image s0)
          → written_now ≡ written → Ends NoMemory
      starved s (inl none) same =
          inl (record {
            failed = tt;
            moments = started_moments disk s.moments;
            left_is = left_is;
            sent_is = sent_is;
            written_is = same;
          })
      starved s (inr leaves) same =
          inr (
            disk,
            mounts disk s,
            (
              [],
              [],
              start_line 0 1 (onu_started PowerUp room s0),
              tt,
              after_mount disk leaves,
              shows_start [] (start_line 0 1 (onu_started PowerUp room s0)) left_is sent_is
                  (subst (λ (w : Option (List ℕ)). Appends written w []) (sym same)
                  (Appends-nil written)) refl,
            ),
          )

      pub first_failed : (status : UnitStatus)
          → StartFailed seen may_leave clock left_since rig faults status room size 0 1 PowerUp s0
          attached disk written written_now → Ends status
      first_failed Done s = absurd s
      first_failed NoUnit s = absurd s
      first_failed LinkFault s = absurd s
      first_failed DiskFault s =
          inl (record {
            failed = subst (λ (n : ℕ). Rose n (faults disk)) cause s.0.cause;
            moments = started_moments disk s.0.moments;
            left_is = left_is;
            sent_is = sent_is;
            written_is = s.1;
          })
      first_failed WriteFault s =
          inr (
            disk,
            mounts disk s.0,
            (
              [],
              s.2.rest,
              after_mount disk s.1,
              shows_start s.2.front s.2.rest left_is sent_is s.2.wrote s.2.parts,
            ),
          )
      first_failed NoMemory s = starved s.0 s.1 s.2
