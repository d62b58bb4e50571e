-- Requests for a software image (ITU-T G.988, annex A, software download; clause 9.1.4): what they
-- come to beside the store, by the store's deed. And a restart of the unit.
use Rattle.std.specs.Prelude.{ℕ, ◌==◌, not, min, Bool, true, false, if◌then◌else◌, List, [], ◌∷◌, length, Option, Some, None}
use Rattle.omci_types.specs.declared.Boot.{Boot}
use Rattle.omci_types.specs.declared.Boot.TheVariants.{PowerUp, Activated}
use Rattle.omci_types.specs.declared.EntityId.{EntityId}
use Rattle.omci_types.specs.declared.Software.{Software}
use Rattle.omci_types.specs.declared.TheConstants.Code.{SUCCESS, NOT_SUPPORTED, UNKNOWN_CLASS, UNKNOWN_INSTANCE}
use Rattle.frame_spec.specs.Checksum.{crc}
use Rattle.mib_spec.specs.Database.{Database, with_software, with_counter_grown}
use Rattle.mib_spec.specs.Requests.{first_code, is_class}
use Rattle.store_spec.specs.declared.Handled.{Handled}
use Rattle.store_spec.specs.declared.Handled.TheVariants as handled
use Rattle.store_spec.specs.declared.TheConstants.{MOST_GRANTED}
use Rattle.store_spec.specs.Deeds.{Deed, Ignore, Refuse, RefuseWindow, GiveUp, Begin, Hold, Put, Seal, Activate, Commit, Recommit}
use Rattle.unit_spec.specs.declared.TheConstants.{ONU_G}
use Rattle.unit_spec.specs.declared.Note.{Note}
use Rattle.unit_spec.specs.declared.Note.TheVariants as note
use Rattle.unit_spec.specs.declared.Did.{Did}
use Rattle.unit_spec.specs.declared.Did.TheVariants as did

-- the code that is answered
abbrev pub code_handled : Handled → ℕ
code_handled (handled.Answered code grows leaves) = code.0
code_handled handled.Held = SUCCESS.0
code_handled handled.Dropped = SUCCESS.0

-- how many sections of a window are granted to a start that asked for so many; one that is refused
-- has no such field, which reads as 1
abbrev pub granted_by : (code asked : ℕ) → ℕ
granted_by code asked = if code == SUCCESS.0 then min asked MOST_GRANTED else 1

-- what became of a section that isn't its window's last
abbrev pub quiet_did : Handled → Did
quiet_did handled.Held = did.Held
quiet_did handled.Dropped = did.Dropped
quiet_did (handled.Answered code grows leaves) = did.Dropped

-- ---- what changes beside the store

abbrev pub counted_if : Bool → Software → Database → Database
counted_if true software db = with_counter_grown (with_software software db)
counted_if false software db = db

-- a request that counts makes the counter grow, and the software images are shown as they then are
abbrev pub database_handled : Handled → Software → Database → Database
database_handled (handled.Answered code grows leaves) software db = counted_if grows software db
database_handled handled.Held software db = db
database_handled handled.Dropped software db = db

abbrev pub leaves_if : Bool → (slot : ℕ) → Option Boot → Option Boot
leaves_if true slot leaving = Some (Activated slot)
leaves_if false slot leaving = leaving

-- whether the unit leaves
abbrev pub leaving_handled : Handled → (slot : ℕ) → Option Boot → Option Boot
leaving_handled (handled.Answered code grows leaves) slot leaving = leaves_if leaves slot leaving
leaving_handled handled.Held slot leaving = leaving
leaving_handled handled.Dropped slot leaving = leaving

abbrev pub leave_note : Bool → (slot : ℕ) → Option Note
leave_note true slot = Some (note.Leaving (Activated slot))
leave_note false slot = None

-- what else is told of a deed for a slot in which no device call failed
abbrev pub deed_note : Deed → (slot : ℕ) → Option Note
deed_note Ignore slot = None
deed_note (Refuse code) slot = None
deed_note (RefuseWindow code) slot = None
deed_note (GiveUp code) slot = None
deed_note (Begin target size granted) slot = None
deed_note (Hold window) slot = None
deed_note (Put bytes) slot = None
deed_note (Seal target image) slot = Some (note.Sealed target (length image) (crc image))
deed_note (Activate leaves) slot = leave_note leaves slot
deed_note (Commit target) slot = Some (note.Committed target)
deed_note (Recommit target) slot = Some (note.Committed target)

abbrev pub note_handled : (fails : Bool) → Deed → (slot : ℕ) → Option Note
note_handled true d slot = None
note_handled false d slot = deed_note d slot

-- ---- a restart

-- the tests of a reboot: its entity is the ONU-G
unfoldable pub reboot_code : EntityId → ℕ
reboot_code one = first_code (
    (not (is_class one.class), UNKNOWN_CLASS.0) ∷
    (not (one.class == ONU_G.class), NOT_SUPPORTED.0) ∷
    (not (one.instance == ONU_G.instance), UNKNOWN_INSTANCE.0) ∷
    [])

-- whether the unit leaves after a reboot that was answered by this code
abbrev pub leaving_reboot : ℕ → Option Boot → Option Boot
leaving_reboot code leaving = if code == SUCCESS.0 then Some PowerUp else leaving

abbrev pub reboot_note : ℕ → Option Note
reboot_note code = if code == SUCCESS.0 then Some (note.Leaving PowerUp) else None
