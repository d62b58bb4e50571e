-- How far a unit that runs alone has come: its agent, its disk, and what its link and its lines
-- show.
use Rattle.std.specs.Prelude.{◌≡◌, ℕ, ◌+◌, ◌-◌, ◌^◌, ◌≤◌, ◌<◌, min, false, ◌++◌, List, [], length}
use Rattle.std.specs.Prelude.{Option, IfSome, IsSome}
use Rattle.std.specs.Option.{option_map}
use Rattle.std.specs.Io.KnownBytes.{Appends}
use Rattle.slot_spec.specs.Slots.{SlotPair, image_at}
use Rattle.slot_spec.specs.Layout.{StandsAt}
use Rattle.slot_spec.specs.Crash.{Moments, HasLength}
use Rattle.store_spec.specs.History.{StoreEntry, Boots, BootsEver}
use Rattle.image_store.specs.Stands.{state_disk}
use Rattle.onu_agent.specs.State.{State, AgentStands}
use Rattle.turn_spec.specs.Arrivals.{Arrival, next_arrival, later_arrivals}
use Rattle.turn_spec.specs.UnitTurns.{Turn, UnitRun, AreTurns, run_started, unit_run, faults_in, given_in}
use Rattle.turn_spec.specs.UnitTurns.{TakenFrom, is_over}
use Rattle.unit_turns.specs.Taking.{sent_more}

-- a count that stops at the last value of a `u64` has risen so often at least, or stands there
abbrev pub RoseBy : (times before now : ℕ) → Type 0
RoseBy times before now = min (before + times) (2 ^ 64 - 1) ≤ now

module _ {D : Type 0} (seen : D → Option (List ℕ)) (may_leave : D → List ℕ → Type 0)
    (clock : D → ℕ) (left_since : D → ℕ → List ℕ → Type 0) (faults : D → ℕ) where
  -- The disk of a unit that runs: it has its length; at each moment since the first mount a crash
  -- left slots that some older part of the history lets a unit start with; and its count of faults
  -- rose so often.
  pub record DiskRuns (room : ℕ) (s0 : SlotPair) (mounted : D) (size times : ℕ)
      (stored : List StoreEntry) (disk : D) : Type 0 where
    pub long : HasLength may_leave size disk
    pub ever : Moments clock left_since may_leave mounted disk (BootsEver room s0 stored)
    pub rises : RoseBy times (faults mounted) (faults disk)

  -- an agent runs as a run has come so far
  pub record RunsAs (room : ℕ) (s0 : SlotPair) (mounted : D) (agent : State D)
      (size life times : ℕ) (run : UnitRun) : Type 0 where
    pub stands : AgentStands seen may_leave agent run.unit
    pub life_is : life ≡ run.life
    pub disk : DiskRuns room s0 mounted size times run.stored
        (state_disk stands.stands.images.state)

  -- An agent runs after these turns, newest first, of a run of so many at most, which began with
  -- these slots on the disk as its first mount left it.
  pub record UnitRuns (room : ℕ) (s0 : SlotPair) (limit : ℕ) (mounted : D) (agent : State D)
      (size life : ℕ) (turns : List Turn) : Type 0 where
    pub below : s0.committed < 2
    pub some : IsSome (image_at s0.committed s0)
    pub are : AreTurns limit turns (run_started room s0)
    pub runs : RunsAs room s0 mounted agent size life (faults_in turns) (unit_run room s0 turns)

  -- What became of the disk in these turns, `more` more faults among them: at each moment since the
  -- first mount a crash leaves slots that some older part of the history lets a unit start with,
  -- and now those that the whole of it does. While the store is whole they are its slots.
  pub record DiskAfter (room : ℕ) (s0 : SlotPair) (limit : ℕ) (mounted now : D) (more : ℕ)
      (turns : List Turn) : Type 0 where
    pub are : AreTurns limit turns (run_started room s0)
    pub ever : Moments clock left_since may_leave mounted now
        (BootsEver room s0 (unit_run room s0 turns).stored)
    pub last : (image : List ℕ) → may_leave now image
        → Boots room s0 (unit_run room s0 turns).stored image
    pub whole : (unit_run room s0 turns).unit.store.broken ≡ false → (image : List ℕ)
        → may_leave now image → StandsAt room image (unit_run room s0 turns).unit.store.slots
    pub rises : RoseBy (more + faults_in turns) (faults mounted) (faults now)

-- what the link gave in the turns, and after them, newest first; and the packets sent and the lines
-- written, which are those of the run but for a rest of each
pub record Shown (room : ℕ) (s0 : SlotPair) (turns : List Turn) (after : List Arrival)
    (sent_rest : List (List ℕ)) (text_rest : List ℕ) (left_before left_now : Option (List Arrival))
    (sent_before sent_now : Option (List (List ℕ))) (written_before written_now : Option (List ℕ))
    : Type 0 where
  pub taken : TakenFrom (after ++ given_in turns) left_before left_now
  pub sent : List (List ℕ)
  pub sent_is : sent_now ≡ sent_more sent sent_before
  pub sent_all : sent ++ sent_rest ≡ (unit_run room s0 turns).sent
  pub text : List ℕ
  pub written : Appends written_before written_now text
  pub text_all : text ++ text_rest ≡ (unit_run room s0 turns).text

-- one event was taken of those that a link tells
abbrev pub TookOne : Arrival → (before now : Option (List Arrival)) → Type 0
TookOne arrival before now =
    IfSome before (λ events. arrival ≡ next_arrival events)
    × (now ≡ option_map later_arrivals before)

-- before a turn of that number, in a run that isn't over
pub record Before {D : Type 0} (seen : D → Option (List ℕ)) (may_leave : D → List ℕ → Type 0)
    (clock : D → ℕ) (left_since : D → ℕ → List ℕ → Type 0) (faults : D → ℕ) (room : ℕ)
    (s0 : SlotPair) (limit : ℕ) (mounted : D) (agent : State D) (size life turn : ℕ)
    (turns : List Turn) (left_before left_now : Option (List Arrival))
    (sent_before sent_now : Option (List (List ℕ))) (written_before written_now : Option (List ℕ))
    : Type 0 where
  pub runs : UnitRuns seen may_leave clock left_since faults room s0 limit mounted agent size life
      turns
  pub shown : Shown room s0 turns [] [] [] left_before left_now sent_before sent_now
      written_before written_now
  pub goes_on : is_over limit turns ≡ false
  pub turn_is : turn ≡ length turns + 1
