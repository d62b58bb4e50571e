-- What each turn of a unit's run keeps: the room of its slots, and that the history explains them.
use Rattle.std.proofs.Common.{◌≡◌, ℕ, ◌+◌, ◌<◌, Bool, true, false, List, [], ◌∷◌, ◌++◌, Option, Some}
use Rattle.std.proofs.Common.{None, IsSome, Ok, Err, length, refl, ap, ◌∙◌, arith}
use Rattle.std.specs.Prelude.{Result}
use Rattle.omci_types.specs.declared.Boot.{Boot}
use Rattle.omci_types.specs.declared.Boot.TheVariants.{PowerUp}
use Rattle.omci_types.specs.declared.Frame.{Frame}
use Rattle.message_spec.specs.declared.Message.{Message}
use Rattle.message_spec.specs.declared.Message.TheVariants.{Asked, Answered, Told}
use Rattle.message_spec.specs.declared.Request.{Request}
use Rattle.message_spec.specs.declared.Request.TheVariants as request
use Rattle.message_spec.specs.declared.ContentsFault.{ContentsFault}
use Rattle.message_spec.specs.declared.ContentsFault.TheVariants.{UnknownType, Bits}
use Rattle.message_spec.specs.Reading.{message_of}
use Rattle.frame_spec.specs.Baseline.{packet_frame}
use Rattle.retry_spec.specs.Kept.{kept_for}
use Rattle.slot_spec.specs.Slots.{SlotPair, image_at}
use Rattle.store_spec.specs.History.{StoreEntry, Bootable, ledger}
use Rattle.store_spec.specs.State.{StoreState}
use Rattle.store_laws.proofs.Papers.{bootable, explained_first}
use Rattle.boot_laws.proofs.Keeping.{StoreGood, SlotsGood, started_good, left_good, received_good}
use Rattle.unit_spec.specs.Onu.{Onu, Reception, Answer, answer, not_supported, keep_reply}
use Rattle.unit_spec.specs.Onu.{unless_leaving, unless_kept, take_request, asks_nothing}
use Rattle.unit_spec.specs.Onu.{image_deed, hold_section, hold_unless_kept, take_section}
use Rattle.unit_spec.specs.Onu.{unless_quiet, has_request_bits, if_request, for_message, for_frame}
use Rattle.unit_spec.specs.Onu.{onu_started, onu_received, onu_ticked}
use Rattle.turn_spec.specs.Arrivals.{Arrival, Came, Quiet, Closed}
use Rattle.turn_spec.specs.UnitTurns.{Turn, UnitRun, slots_found, second_by, arrives, run_of}
use Rattle.turn_spec.specs.UnitTurns.{run_started, unit_run}

-- ---- the room

module _ (fails : Bool) where
  answer_room : (f : Frame) (r : Request) (u : Onu) → (answer fails f r u).unit.room ≡ u.room
  unfolding answer
  answer_room f (request.Create values) u = refl
  answer_room f request.Delete u = refl
  answer_room f (request.Set mask values) u = refl
  answer_room f (request.Get mask) u = refl
  answer_room f request.Reset u = refl
  answer_room f (request.Alarms mode) u = refl
  answer_room f (request.AlarmsNext number) u = refl
  answer_room f request.Upload u = refl
  answer_room f (request.UploadNext number) u = refl
  answer_room f (request.Start window size targets target) u = refl
  answer_room f (request.Section number bytes last) u = refl
  answer_room f (request.End crc size targets target) u = refl
  answer_room f (request.Activate flags) u = refl
  answer_room f request.Commit u = refl
  answer_room f (request.Reboot flags) u = refl

  leaving_room : (leaving : Option Boot) (r : Reception) (u : Onu) → r.unit.room ≡ u.room
      → (unless_leaving leaving r u).unit.room ≡ u.room
  leaving_room None r u same = same
  leaving_room (Some boot) r u same = refl

  kept_room : (kept : Option (List ℕ)) (tci : ℕ) (a : Answer) (u : Onu) → a.unit.room ≡ u.room
      → (unless_kept kept tci a u).unit.room ≡ u.room
  kept_room (Some reply) tci a u same = refl
  kept_room None tci a u same = leaving_room u.leaving (keep_reply tci a) u same

  request_room : (f : Frame) (a : Answer) (u : Onu) → a.unit.room ≡ u.room
      → (take_request f a u).unit.room ≡ u.room
  unfolding take_request
  request_room f a u same = kept_room (kept_for f.tci u.kept) f.tci a u same

  hold_room : (kept : Option (List ℕ)) (f : Frame) (r : Request) (u : Onu)
      → (hold_unless_kept kept fails (image_deed f r u) f.entity.instance u).unit.room ≡ u.room
  hold_room (Some reply) f r u = refl
  hold_room None f r u = leaving_room u.leaving
      (hold_section fails (image_deed f r u) f.entity.instance u) u refl

  quiet_room : (quiet : Bool) (f : Frame) (r : Request) (u : Onu)
      → (unless_quiet quiet fails f r u).unit.room ≡ u.room
  unfolding take_section
  quiet_room true f r u = hold_room (kept_for f.tci u.kept) f r u
  quiet_room false f r u = request_room f (answer fails f r u) u (answer_room f r u)

  unknown_room : (is_request : Bool) (f : Frame) (u : Onu)
      → (if_request is_request f u).unit.room ≡ u.room
  unknown_room true f u = request_room f (not_supported f u) u refl
  unknown_room false f u = refl

  message_room : (m : Result Message ContentsFault) (f : Frame) (u : Onu)
      → (for_message fails m f u).unit.room ≡ u.room
  message_room (Ok (Asked tci entity r)) f u = quiet_room (asks_nothing r) f r u
  message_room (Ok (Answered tci entity r)) f u = refl
  message_room (Ok (Told tci entity notice)) f u = refl
  message_room (Err (UnknownType number)) f u = unknown_room (has_request_bits f.kind) f u
  message_room (Err (Bits kind)) f u = refl

  frame_room : (f : Option Frame) (u : Onu) → (for_frame fails f u).unit.room ≡ u.room
  frame_room None u = refl
  frame_room (Some f) u = message_room (message_of f) f u

  received_room : (bytes : List ℕ) (u : Onu) → (onu_received fails bytes u).unit.room ≡ u.room
  unfolding onu_received
  received_room bytes u = frame_room (packet_frame bytes) u

second_room : (leaving : Option Boot) (made : Bool) (run : UnitRun)
    → (second_by leaving made run).unit.room ≡ run.unit.room
unfolding onu_ticked onu_started
second_room None made run = refl
second_room (Some boot) made run = refl

arrives_room : (a : Arrival) (fails made : Bool) (run : UnitRun)
    → (arrives a fails made run).unit.room ≡ run.unit.room
arrives_room (Came bytes) fails made run = received_room fails bytes run.unit
arrives_room Quiet fails made run = second_room run.unit.leaving made run
arrives_room Closed fails made run = refl

pub run_room : (room : ℕ) (s0 : SlotPair) (turns : List Turn)
    → (unit_run room s0 turns).unit.room ≡ room
unfolding onu_started
run_room room s0 [] = refl
run_room room s0 (t ∷ earlier) =
    arrives_room t.arrival t.fails t.made
    (record (unit_run room s0 earlier) { turns = (unit_run room s0 earlier).turns + 1 })
    ∙ run_room room s0 earlier

-- ---- the history

module _ (s0 : SlotPair) where
  -- the slots that a start finds
  pub found_good : (made : Bool) (h : List StoreEntry) (m : StoreState) → StoreGood s0 h m
      → SlotsGood s0 h (slots_found made m)
  found_good true h m g =
      record { below = g.sound.below_made; explained = g.explained.doubtful }
  found_good false h m g = left_good s0 h m g

  abbrev RunGood : UnitRun → Type 0
  RunGood run = StoreGood s0 run.stored run.unit.store

  second_good : (leaving : Option Boot) (made : Bool) (run : UnitRun) → RunGood run
      → RunGood (second_by leaving made run)
  unfolding onu_ticked onu_started
  second_good None made run g = g
  second_good (Some boot) made run g =
      started_good s0 run.stored boot (slots_found made run.unit.store)
      (found_good made run.stored run.unit.store g)

  arrives_good : (a : Arrival) (fails made : Bool) (run : UnitRun) → RunGood run
      → RunGood (arrives a fails made run)
  arrives_good (Came bytes) fails made run g = received_good fails s0 run.stored bytes run.unit g
  arrives_good Quiet fails made run g = second_good run.unit.leaving made run g
  arrives_good Closed fails made run g = g

  -- the history of a run explains its unit's store
  pub run_good : (room : ℕ) (turns : List Turn) → s0.committed < 2
      → IsSome (image_at s0.committed s0)
      → StoreGood s0 (unit_run room s0 turns).stored (unit_run room s0 turns).unit.store
  unfolding onu_started
  run_good room [] below some =
      started_good s0 [] PowerUp s0
      (record { below = below; explained = explained_first s0 below some })
  run_good room (t ∷ earlier) below some =
      arrives_good t.arrival t.fails t.made
      (record (unit_run room s0 earlier) { turns = (unit_run room s0 earlier).turns + 1 })
      (run_good room earlier below some)

  pub run_boots : (room : ℕ) (turns : List Turn) → s0.committed < 2
      → IsSome (image_at s0.committed s0)
      → Bootable (unit_run room s0 turns).stored s0 (unit_run room s0 turns).unit.store.slots
  run_boots room turns below some =
      bootable (ledger s0 (unit_run room s0 turns).stored) (unit_run room s0 turns).unit.store.slots
      (run_good room turns below some).explained.sure

-- ---- the count of turns

second_turns : (leaving : Option Boot) (made : Bool) (run : UnitRun)
    → (second_by leaving made run).turns ≡ run.turns
second_turns None made run = refl
second_turns (Some boot) made run = refl

arrives_turns : (a : Arrival) (fails made : Bool) (run : UnitRun)
    → (arrives a fails made run).turns ≡ run.turns
arrives_turns (Came bytes) fails made run = refl
arrives_turns Quiet fails made run = second_turns run.unit.leaving made run
arrives_turns Closed fails made run = refl

-- a run counts its turns
pub run_turns : (room : ℕ) (s0 : SlotPair) (turns : List Turn)
    → (unit_run room s0 turns).turns ≡ length turns
run_turns room s0 [] = refl
run_turns room s0 (t ∷ earlier) =
    arrives_turns t.arrival t.fails t.made
    (record (unit_run room s0 earlier) { turns = (unit_run room s0 earlier).turns + 1 })
    ∙ ap (λ (n : ℕ). n + 1) (run_turns room s0 earlier)
    ∙ omega arith
