-- What may happen to a manager that is on, one thing after the other, and what it tells of each.
use Rattle.std.specs.Prelude.{◌≡◌, ◌⊎◌, ℕ, ◌+◌, ◌||◌, Bool, true, false, List, [], ◌∷◌, ◌++◌, map, Option}
use Rattle.omci_types.specs.declared.EntityId.{EntityId}
use Rattle.omci_types.specs.declared.Priority.{Priority}
use Rattle.message_spec.specs.declared.Request.{Request}
use Rattle.message_spec.specs.Reading.{IsWindow}
use Rattle.message_spec.specs.Fields.{AreBytes}
use Rattle.manager_spec.specs.declared.Report.{Report}
use Rattle.manager_spec.specs.Manager.{Manager, Outcome}
use Rattle.manager_spec.specs.Submitting.{after_probe, after_submit, after_check, after_resync, after_audit, after_image}
use Rattle.manager_spec.specs.Steps.{after_packet, after_tick}

-- a caller's command, a packet that comes, or a second; a start of the manager is none of these
pub data Move : Type 0 where
  Probe : (lane : Priority) → Move
  Submit : (lane : Priority) (entity : EntityId) (asked : Request) → Move
  Check : Move
  Resync : Move
  Audit : Move
  -- a download of an image into a slot, in windows of so many sections
  Download : (slot window : ℕ) (check : Option ℕ) (image : List ℕ) → Move
  -- bytes come, whatever they are
  Packet : (bytes : List ℕ) → Move
  Second : Move

-- what is in its range: a window is 1 to 256 sections, and a packet is of bytes
abbrev pub IsMove : Move → Type 0
IsMove (Download slot window check image) = IsWindow window
IsMove (Packet bytes) = AreBytes bytes
IsMove _ = Unit {0}

abbrev pub AreMoves : List Move → Type 0
AreMoves [] = Unit {0}
AreMoves (v ∷ rest) = IsMove v × AreMoves rest

-- what it comes to; a command that is refused comes to nothing
abbrev pub outcome_of : Move → Manager → Outcome
outcome_of (Probe lane) m = (after_probe lane m).outcome
outcome_of (Submit lane entity asked) m = (after_submit lane entity asked m).outcome
outcome_of Check m = (after_check m).outcome
outcome_of Resync m = (after_resync m).outcome
outcome_of Audit m = (after_audit m).outcome
outcome_of (Download slot window check image) m = (after_image slot window check image m).outcome
outcome_of (Packet bytes) m = after_packet bytes m
outcome_of Second m = after_tick m

-- the manager whose reports were taken out
abbrev pub taken_out : Manager → Manager
taken_out m = record m { reports = [] }

abbrev pub after_move : Move → Manager → Manager
after_move v m = taken_out (outcome_of v m).manager

abbrev pub after_moves : List Move → Manager → Manager
after_moves [] m = m
after_moves (v ∷ rest) m = after_moves rest (after_move v m)

-- how many seconds pass
abbrev pub seconds_of : Move → ℕ
seconds_of Second = 1
seconds_of _ = 0

abbrev pub seconds_in : List Move → ℕ
seconds_in [] = 0
seconds_in (v ∷ rest) = seconds_of v + seconds_in rest

-- ---- what is told

-- a reply to a command that isn't a probe was taken in a lane, or the manager reports
pub data Telling : Type 0 where
  Replied : (lane : Priority) → Telling
  Reported : (what : Report) → Telling

-- all that an outcome tells
abbrev pub told_by : Outcome → List Telling
told_by o = map Replied o.taken ++ map Reported o.manager.reports

-- whether one of these is such
abbrev pub is_told : {X : Type 0} → (X → Bool) → List X → Bool
is_told such [] = false
is_told such (x ∷ rest) = such x || is_told such rest

-- one of these moves tells such
abbrev pub AnyTells : (Telling → Bool) → List Move → Manager → Type 0
AnyTells such [] m = ⊥
AnyTells such (v ∷ rest) m =
    (is_told such (told_by (outcome_of v m)) ≡ true) ⊎ AnyTells such rest (after_move v m)
