-- What each turn comes to, by what its calls answered; how the turns of a run join; and how a whole
-- run begins and ends.
use Rattle.std.proofs.Common.{◌≡◌, ℕ, ◌+◌, Bool, true, false, ◌||◌, List, [], ◌∷◌}
use Rattle.std.proofs.Common.{◌++◌, length, Option, Some, None, IsSome, refl, sym, ap}
use Rattle.std.proofs.Common.{◌∙◌, subst, Ok, Err}
use Rattle.std.specs.Prelude.{Result, nat_le}
use Rattle.std.proofs.lemmas.List.{append-nil}
use Rattle.std.specs.Io.KnownBytes.{Appends}
use Rattle.std.proofs.KnownBytes.{Appends-nil}
use Rattle.omci_types.specs.declared.Boot.{Boot}
use Rattle.slot_spec.specs.Slots.{SlotPair}
use Rattle.slot_spec.specs.Layout.{StandsAt}
use Rattle.slot_spec.specs.Crash.{HasLength}
use Rattle.slot_spec.specs.Rig.{Rigged}
use Rattle.image_store.specs.declared.state.State.{State as Form}
use Rattle.image_store.specs.Stands.{Kept as Images, state_disk}
use Rattle.unit_spec.specs.Onu.{onu_started, onu_ticked}
use Rattle.onu_agent.specs.State.{State, AgentStands}
use Rattle.turn_spec.specs.Arrivals.{Arrival, Came, Quiet, Closed}
use Rattle.turn_spec.specs.UnitTurns.{Turn, UnitRun, is_closed, unit_run}
use Rattle.turn_spec.specs.UnitTurns.{second_by, slots_found, start_line}
use Rattle.turn_laws.proofs.Runs.{run_turns, run_room}
use Rattle.unit_turns.specs.Taking.{PacketTaken, sent_more}
use Rattle.unit_turns.specs.Running.{UnitRuns, Shown, Before, TookOne}
use Rattle.unit_turns.specs.Ending.{StartComes, StartFailed, RunEnds, TurnEnds}
use Rattle.unit_turns.specs.declared.ending.UnitStatus.{UnitStatus}
use Rattle.unit_turns.specs.declared.ending.UnitStatus.TheVariants.{Done, DiskFault, NoUnit}
use Rattle.unit_turns.specs.declared.ending.UnitStatus.TheVariants.{LinkFault, WriteFault, NoMemory}
use Rattle.unit_turns.specs.declared.ending.UnitEnd as ending
use Rattle.unit_turns.specs.declared.running.Running as running
use Rattle.unit_turns.proofs.Showing.{sent_none, shows_turn, shows_event, shows_same}
use Rattle.unit_turns.proofs.Turning.{came, quiet, closed, packet_runs, closed_runs, stays}
use Rattle.unit_turns.proofs.Turning.{ticked_disk, starts_again, start_failed, line_failed, at_rest}

or_true : (b : Bool) → (b || true) ≡ true
or_true true = refl
or_true false = refl

module _ {D : Type 0} (seen : D → Option (List ℕ)) (may_leave : D → List ℕ → Type 0)
    (clock : D → ℕ) (left_since : D → ℕ → List ℕ → Type 0) (rig : D → Option Rigged)
    (faults : D → ℕ) (room limit turn : ℕ) (s0 : SlotPair) (mounted : D) (turns : List Turn)
    (left0 left now : Option (List Arrival)) (sent0 sent : Option (List (List ℕ)))
    (written0 written : Option (List ℕ)) (agent : State D) (size life : ℕ)
    (b : Before seen may_leave clock left_since faults room s0 limit mounted agent size life turn
    turns left0 left sent0 sent written0 written) where
  abbrev Ends : UnitStatus → D → Option (List (List ℕ)) → Option (List ℕ) → Type 0
  Ends status disk sent_now written_now =
      RunEnds seen may_leave clock left_since faults status room s0 limit mounted disk left0 now
      sent0 sent_now written0 written_now

  -- the run goes on with one more turn
  abbrev GoesOn : State D → (size life : ℕ) → Option (List (List ℕ)) → Option (List ℕ) → Type 0
  GoesOn new size_now life_now sent_now written_now =
      (t : Turn) × (is_closed (t ∷ turns) ≡ false)
      × UnitRuns seen may_leave clock left_since faults room s0 limit mounted new size_now life_now
      (t ∷ turns)
      × Shown room s0 (t ∷ turns) [] [] [] left0 now sent0 sent_now written0 written_now

  same_text : (unit_run room s0 turns).text ++ ([] ++ []) ≡ (unit_run room s0 turns).text
  same_text = append-nil (unit_run room s0 turns).text

  same_sent : (unit_run room s0 turns).sent ++ ([] ++ []) ≡ (unit_run room s0 turns).sent
  same_sent = append-nil (unit_run room s0 turns).sent

  -- ---- a packet

  module _ (bytes : List ℕ) (new : State D) (took : TookOne (Came bytes) left now) where
    pub packet_goes : (packets : List (List ℕ)) (sent_now : Option (List (List ℕ)))
        → PacketTaken seen may_leave clock left_since rig faults agent new packets bytes
        (unit_run room s0 turns).unit
        → sent_now ≡ sent_more packets sent → GoesOn new size life sent_now written
    packet_goes packets sent_now p sent_is = (
      came bytes p.fails,
      refl,
      packet_runs seen may_leave clock left_since rig faults room s0 limit mounted size turns agent
          new life packets bytes b.runs b.goes_on p,
      shows_turn room s0 turns left0 left sent0 sent written0 written (came bytes p.fails) now
          packets [] sent_now [] [] written b.shown took sent_is
          (ap (λ (x : List (List ℕ)). (unit_run room s0 turns).sent ++ x)
          (append-nil packets ∙ p.answer)) (Appends-nil written) same_text,
    )

    pub packet_unsent : (packets : List (List ℕ)) (sent_now : Option (List (List ℕ))) (disk : D)
        → PacketTaken seen may_leave clock left_since rig faults agent new packets bytes
        (unit_run room s0 turns).unit
        → sent_now ≡ sent
        → ((state : Form D) → new.unit.images.state ≡ Some state → disk ≡ state_disk state)
        → Ends LinkFault disk sent_now written
    packet_unsent packets sent_now disk p sent_is gives = (
      came bytes p.fails ∷ turns,
      packets,
      at_rest seen may_leave clock left_since rig faults room s0 limit mounted size
          (came bytes p.fails ∷ turns) new life disk
          (packet_runs seen may_leave clock left_since rig faults room s0 limit mounted size turns agent
          new life packets bytes b.runs b.goes_on p) gives,
      shows_turn room s0 turns left0 left sent0 sent written0 written (came bytes p.fails) now
          [] packets sent_now [] [] written b.shown took (sent_is ∙ sym (sent_none sent))
          (ap (λ (x : List (List ℕ)). (unit_run room s0 turns).sent ++ x) p.answer)
          (Appends-nil written) same_text,
    )

    pub packet_starves : (sent_now : Option (List (List ℕ))) (disk : D)
        → new.unit.images ≡ agent.unit.images → sent_now ≡ sent
        → ((state : Form D) → new.unit.images.state ≡ Some state → disk ≡ state_disk state)
        → Ends NoMemory disk sent_now written
    packet_starves sent_now disk images sent_is gives = (
      turns,
      Came bytes ∷ [],
      [],
      tt,
      at_rest seen may_leave clock left_since rig faults room s0 limit mounted size turns agent life
          disk b.runs (λ state is. gives state (ap (λ (i : Images D). i.state) images ∙ is)),
      shows_event room s0 turns left0 left sent0 sent written0 written (Came bytes) now sent_now
          written b.shown took sent_is refl,
    )

  -- ---- the link's end, and its faults

  pub link_closed : (sent_now : Option (List (List ℕ))) (disk : D) → TookOne Closed left now
      → sent_now ≡ sent
      → ((state : Form D) → agent.unit.images.state ≡ Some state → disk ≡ state_disk state)
      → Ends Done disk sent_now written
  link_closed sent_now disk took sent_is gives = (
    closed ∷ turns,
    or_true (nat_le limit (length (closed ∷ turns))),
    at_rest seen may_leave clock left_since rig faults room s0 limit mounted size (closed ∷ turns)
        agent life disk (closed_runs seen may_leave clock left_since rig faults room s0 limit mounted
        size turns agent life b.runs b.goes_on) gives,
    shows_turn room s0 turns left0 left sent0 sent written0 written closed now [] [] sent_now [] []
        written b.shown took (sent_is ∙ sym (sent_none sent)) same_sent (Appends-nil written) same_text,
  )

  pub link_failed : (sent_now : Option (List (List ℕ))) (disk : D) → now ≡ left → sent_now ≡ sent
      → ((state : Form D) → agent.unit.images.state ≡ Some state → disk ≡ state_disk state)
      → Ends LinkFault disk sent_now written
  link_failed sent_now disk left_is sent_is gives = (
    turns,
    [],
    at_rest seen may_leave clock left_since rig faults room s0 limit mounted size turns agent life
        disk b.runs gives,
    shows_same room s0 turns left0 left sent0 sent written0 written now sent_now b.shown left_is
        sent_is,
  )

  -- ---- a second

  module _ (new : State D) (took : TookOne Quiet left now)
      (ticked : AgentStands seen may_leave new (onu_ticked (unit_run room s0 turns).unit))
      (images : new.unit.images ≡ agent.unit.images) where
    pub second_stays : (unit_run room s0 turns).unit.leaving ≡ None
        → GoesOn new size life sent written
    second_stays none =
        let counted = record (unit_run room s0 turns)
        { turns = (unit_run room s0 turns).turns + 1 } in
        let after = sym (ap (λ (l : Option Boot). second_by l false counted) none) in (
          quiet false,
          refl,
          stays seen may_leave clock left_since rig faults room s0 limit mounted size turns agent new
              life b.runs b.goes_on ticked images none,
          shows_turn room s0 turns left0 left sent0 sent written0 written (quiet false) now [] []
              sent [] [] written b.shown took (sym (sent_none sent))
              (same_sent ∙ ap (λ (r : UnitRun). r.sent) after) (Appends-nil written)
              (same_text ∙ ap (λ (r : UnitRun). r.text) after),
        )

    pub second_disk : HasLength may_leave size (state_disk ticked.stands.images.state)
    second_disk =
        (ticked_disk seen may_leave clock left_since rig faults room s0 limit mounted size turns
        agent new life b.runs b.goes_on ticked images).long

    module _ (boot : Boot) (made : Bool)
        (leaves : (unit_run room s0 turns).unit.leaving ≡ Some boot) where
      abbrev line : List ℕ
      line = start_line turn (life + 1)
          (onu_started boot (unit_run room s0 turns).unit.room
          (slots_found made (unit_run room s0 turns).unit.store))

      -- the line of the start is the next one of the run
      line_is : (text_rest front : List ℕ) → front ++ text_rest ≡ line
          → (unit_run room s0 turns).text ++ (front ++ text_rest)
          ≡ (unit_run room s0 (quiet made ∷ turns)).text
      line_is text_rest front whole =
          let run = unit_run room s0 turns in
          let counted = record run { turns = run.turns + 1 } in
          let u = onu_started boot run.unit.room (slots_found made run.unit.store) in
          ap (λ (x : List ℕ). run.text ++ x) (whole
          ∙ ap (λ (n : ℕ). start_line n (life + 1) u)
          (b.turn_is ∙ ap (λ (n : ℕ). n + 1) (sym (run_turns room s0 turns)))
          ∙ ap (λ (n : ℕ). start_line (run.turns + 1) (n + 1) u) b.runs.runs.life_is)
          ∙ ap (λ (r : UnitRun). r.text)
          (sym (ap (λ (l : Option Boot). second_by l made counted) leaves))

      sent_same : (unit_run room s0 turns).sent ++ ([] ++ [])
          ≡ (unit_run room s0 (quiet made ∷ turns)).sent
      sent_same =
          let counted = record (unit_run room s0 turns)
          { turns = (unit_run room s0 turns).turns + 1 } in
          same_sent ∙ ap (λ (r : UnitRun). r.sent)
          (sym (ap (λ (l : Option Boot). second_by l made counted) leaves))

      starts_with_line : (written_now : Option (List ℕ)) (front text_rest : List ℕ)
          → Appends written written_now front → front ++ text_rest ≡ line
          → Shown room s0 (quiet made ∷ turns) [] [] text_rest left0 now sent0 sent written0
          written_now
      starts_with_line written_now front text_rest wrote whole =
          shows_turn room s0 turns left0 left sent0 sent written0 written (quiet made) now [] []
          sent front text_rest written_now b.shown took (sym (sent_none sent)) sent_same wrote
          (line_is text_rest front whole)

      some_leaves : (o : Option Boot) → o ≡ Some boot → IsSome o
      some_leaves o is = subst (λ (x : Option Boot). IsSome x) (sym is) refl

      abbrev Failed : UnitStatus → D → Option (List ℕ) → Type 0
      Failed status disk written_now =
          StartFailed seen may_leave clock left_since rig faults status
          (unit_run room s0 turns).unit.room size turn (life + 1) boot
          (slots_found made (unit_run room s0 turns).unit.store)
          (state_disk ticked.stands.images.state) disk written written_now

      starves : (disk : D) (written_now : Option (List ℕ)) → Failed NoMemory disk written_now
          → Ends NoMemory disk sent written_now
      starves disk written_now s = (
        turns,
        Quiet ∷ [],
        [],
        tt,
        start_failed seen may_leave clock left_since rig faults room s0 limit mounted size turns
            agent new life b.runs b.goes_on ticked images disk false s.0,
        shows_event room s0 turns left0 left sent0 sent written0 written Quiet now sent written_now
            b.shown took refl s.2,
      )

      failed_ends : (status : UnitStatus) (disk : D) (written_now : Option (List ℕ))
          → Failed status disk written_now → Ends status disk sent written_now
      failed_ends Done disk written_now s = absurd s
      failed_ends NoUnit disk written_now s = absurd s
      failed_ends LinkFault disk written_now s = absurd s
      failed_ends DiskFault disk written_now s = (
        turns,
        b.goes_on,
        some_leaves (unit_run room s0 turns).unit.leaving leaves,
        start_failed seen may_leave clock left_since rig faults room s0 limit mounted size turns
            agent new life b.runs b.goes_on ticked images disk true s.0,
        shows_event room s0 turns left0 left sent0 sent written0 written Quiet now sent written_now
            b.shown took refl s.1,
      )
      failed_ends WriteFault disk written_now s = (
        quiet made ∷ turns,
        s.2.rest,
        line_failed seen may_leave clock left_since rig faults room s0 limit mounted size turns
            agent new life b.runs b.goes_on ticked images boot made disk leaves s.0
            (λ image left. subst (λ (n : ℕ). StandsAt n image
            (slots_found made (unit_run room s0 turns).unit.store)) (run_room room s0 turns)
            (s.1 image left)),
        starts_with_line written_now s.2.front s.2.rest s.2.wrote s.2.parts,
      )
      failed_ends NoMemory disk written_now s = starves disk written_now s

      -- what the start came to, the turn comes to
      pub again_ends : (result : Result (running.Running D) (ending.UnitEnd D))
          (written_now : Option (List ℕ))
          → StartComes seen may_leave clock left_since rig faults result
          (unit_run room s0 turns).unit.room size turn (life + 1) boot
          (slots_found made (unit_run room s0 turns).unit.store)
          (state_disk ticked.stands.images.state) written written_now
          → TurnEnds seen may_leave clock left_since faults result room s0 limit mounted turns left0
          now sent0 sent written0 written_now
      again_ends (Ok next) written_now s = (
        quiet made,
        refl,
        starts_again seen may_leave clock left_since rig faults room s0 limit mounted size turns
            agent new life b.runs b.goes_on ticked images boot made next written written_now turn leaves
            s,
        starts_with_line written_now line [] s.written (append-nil line),
      )
      again_ends (Err end) written_now s = failed_ends end.status end.disk written_now s

    -- the start's clause speaks of the unit after the second, which has the same store and room
    pub second_starts : (boot : Boot) (result : Result (running.Running D) (ending.UnitEnd D))
        (written_now : Option (List ℕ)) → (unit_run room s0 turns).unit.leaving ≡ Some boot
        → (made : Bool) × StartComes seen may_leave clock left_since rig faults result
        (onu_ticked (unit_run room s0 turns).unit).room size turn (life + 1) boot
        (slots_found made (onu_ticked (unit_run room s0 turns).unit).store)
        (state_disk ticked.stands.images.state) written written_now
        → TurnEnds seen may_leave clock left_since faults result room s0 limit mounted turns left0
        now sent0 sent written0 written_now
    unfolding onu_ticked
    second_starts boot result written_now leaves s =
        again_ends boot s.0 leaves result written_now s.1
