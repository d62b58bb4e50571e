-- The trace of a script: a line for each effect of what happens. The packets are numbered as they
-- go onto the link.
use Rattle.std.specs.Prelude.{ℕ, List, [], ◌∷◌, ◌++◌, Option, Some, None, codes}
use Rattle.std.specs.List.{flat_map}
use Rattle.std.specs.Int.{w16, w32, to_be_bytes}
use Rattle.std.specs.Fmt.{decimal}
use Rattle.hex.specs.Hex.{encode_lower}
use Rattle.omci_types.specs.declared.EntityId.{EntityId}
use Rattle.omci_types.specs.declared.SlotView.{SlotView}
use Rattle.omci_types.specs.declared.Boot.{Boot}
use Rattle.omci_types.specs.declared.Boot.TheVariants.{PowerUp, Activated}
use Rattle.omci_types.specs.declared.Priority.{Priority}
use Rattle.omci_types.specs.declared.Priority.TheVariants.{Low, High}
use Rattle.message_spec.specs.Text.{message_text, contents_text}
use Rattle.frame_spec.specs.Baseline.{frame_of}
use Rattle.script_spec.specs.Script.{Script, Action}
use Rattle.link_spec.specs.declared.Direction.{Direction}
use Rattle.link_spec.specs.declared.Direction.TheVariants.{Down, Up}
use Rattle.link_spec.specs.Link.{count}
use Rattle.mib_spec.specs.Database.{Values, bytes_of}
use Rattle.upload_spec.specs.Pieces.{mask_of}
use Rattle.alarm_spec.specs.Alarms.{Alarm}
use Rattle.unit_spec.specs.declared.Note.{Note}
use Rattle.unit_spec.specs.declared.Note.TheVariants as note
use Rattle.manager_spec.specs.declared.Phase.{Phase}
use Rattle.manager_spec.specs.declared.Phase.TheVariants as phase
use Rattle.manager_spec.specs.declared.Job.{Job}
use Rattle.manager_spec.specs.declared.Job.TheVariants as job
use Rattle.manager_spec.specs.declared.ResyncReason.{ResyncReason}
use Rattle.manager_spec.specs.declared.ResyncReason.TheVariants as reason
use Rattle.manager_spec.specs.declared.AuditReason.{AuditReason}
use Rattle.manager_spec.specs.declared.AuditReason.TheVariants as audit
use Rattle.manager_spec.specs.declared.ImageReason.{ImageReason}
use Rattle.manager_spec.specs.declared.ImageReason.TheVariants as image
use Rattle.manager_spec.specs.declared.Refusal.{Refusal}
use Rattle.manager_spec.specs.declared.Refusal.TheVariants as refusal
use Rattle.manager_spec.specs.declared.Report.{Report}
use Rattle.manager_spec.specs.declared.Report.TheVariants as report
use Rattle.world_spec.specs.declared.Effect.{Effect}
use Rattle.world_spec.specs.declared.Effect.TheVariants as effect
use Rattle.world_spec.specs.Happenings.{Happening, UnitStarted, PacketSent, UnitCarried, UnitNoted, UnitKept, UnitDropped, UnitHeld, PowerCut, CopyTold, TableTold, Reported, Refused, NotEnabled, next_after}
use Rattle.world_spec.specs.Ends.{factory_software}
use Rattle.world_spec.specs.Nodes.{Nodes, Turn, step, first_nodes}

-- ---- texts

-- a number of 16 bits as four hex digits
abbrev pub tci_text : ℕ → List ℕ
tci_text tci = encode_lower (to_be_bytes w16 tci)

-- a valid slot as `LENGTH:CRC`, another as `-`
abbrev pub slot_text : Option SlotView → List ℕ
slot_text None = codes "-"
slot_text (Some v) = decimal v.length ++ codes ":" ++ encode_lower (to_be_bytes w32 v.crc)

abbrev pub direction_text : Direction → List ℕ
direction_text Down = codes "down"
direction_text Up = codes "up"

abbrev pub lane_text : Priority → List ℕ
lane_text Low = codes "low"
lane_text High = codes "high"

abbrev pub phase_text : Phase → List ℕ
phase_text phase.New = codes "new"
phase_text phase.InStep = codes "in"
phase_text phase.Out = codes "out"

abbrev pub job_text : Job → List ℕ
job_text job.Resync = codes "resync"
job_text job.Audit = codes "audit"
job_text job.Image = codes "image"

abbrev pub entity_text : EntityId → List ℕ
entity_text one = decimal one.class ++ codes " " ++ decimal one.instance

abbrev pub reason_text : ResyncReason → List ℕ
reason_text (reason.GaveUp tci) = codes "gave-up " ++ tci_text tci
reason_text reason.Empty = codes "empty"
reason_text (reason.Truncated one) = codes "truncated " ++ entity_text one
reason_text (reason.Repeated one attribute) =
    codes "repeated " ++ entity_text one ++ codes " " ++ decimal attribute
reason_text reason.Missing = codes "missing"

-- a gap in the numbers of notices
abbrev pub gap_text : (want have : ℕ) → List ℕ
gap_text want have = codes "gap " ++ decimal want ++ codes " " ++ decimal have

abbrev pub audit_reason_text : AuditReason → List ℕ
audit_reason_text (audit.GaveUp tci) = codes "gave-up " ++ tci_text tci
audit_reason_text audit.Empty = codes "empty"
audit_reason_text (audit.Repeated one) = codes "repeated " ++ entity_text one
audit_reason_text (audit.Gap want have) = gap_text want have
audit_reason_text audit.Overflow = codes "overflow"

abbrev pub image_reason_text : ImageReason → List ℕ
image_reason_text (image.GaveUp tci) = codes "gave-up " ++ tci_text tci
image_reason_text (image.Code code) = codes "code " ++ decimal code.0

abbrev pub refusal_text : Refusal → List ℕ
refusal_text (refusal.Unproven lane) = codes "unproven " ++ lane_text lane
refusal_text (refusal.Occupied tci) = codes "occupied " ++ tci_text tci
refusal_text (refusal.OutOfStep p) = codes "out-of-step " ++ phase_text p
refusal_text (refusal.JobRunning j) = codes "job " ++ job_text j
refusal_text (refusal.ChangeOutstanding tci) = codes "change " ++ tci_text tci
refusal_text refusal.NoMemory = codes "memory"

abbrev pub report_text : Report → List ℕ
report_text (report.Took reply) = codes "took " ++ message_text reply
report_text (report.Proved lane) = codes "proved " ++ lane_text lane
report_text (report.Freed tci) = codes "freed " ++ tci_text tci
report_text (report.GaveUp tci) = codes "gave up " ++ tci_text tci
report_text (report.Synced entities counter) =
    codes "synced " ++ decimal entities ++ codes " " ++ decimal counter
report_text report.PhaseIn = codes "phase in"
report_text report.PhaseOut = codes "phase out"
report_text (report.ResyncFailed why) = codes "resync failed " ++ reason_text why
report_text (report.Checked given expected) =
    codes "checked " ++ decimal given ++ codes " " ++ decimal expected
report_text (report.Audited rows) = codes "audited " ++ decimal rows
report_text (report.AuditFailed why) = codes "audit failed " ++ audit_reason_text why
report_text (report.ImageDone slot) = codes "image done " ++ decimal slot
report_text (report.ImageFailed why) = codes "image failed " ++ image_reason_text why
report_text (report.Busy times) = codes "busy " ++ decimal times
report_text (report.AlarmTaken number) = codes "notice " ++ decimal number
report_text (report.AlarmRepeat number) = codes "repeat " ++ decimal number
report_text (report.AlarmGap want have) = gap_text want have
report_text (report.AlarmOverflow number) = codes "overflow " ++ decimal number
report_text (report.AlarmUnaudited number) = codes "unaudited " ++ decimal number
report_text (report.Change notice) =
    codes "change " ++ entity_text notice.entity ++ codes " " ++ contents_text notice.contents
report_text report.Dropped = codes "dropped"

abbrev pub boot_text : Boot → List ℕ
boot_text PowerUp = codes "power-up"
boot_text (Activated slot) = codes "activate " ++ decimal slot

abbrev pub note_text : Note → List ℕ
note_text (note.Snapshot entities counter) =
    codes "snapshot " ++ decimal entities ++ codes " " ++ decimal counter
note_text (note.Alarms rows) = codes "alarms " ++ decimal rows
note_text (note.Sealed slot size check) =
    codes "sealed " ++ decimal slot ++ codes " " ++ decimal size ++ codes " "
    ++ encode_lower (to_be_bytes w32 check)
note_text (note.Committed slot) = codes "committed " ++ decimal slot
note_text (note.Leaving boot) = codes "leaving " ++ boot_text boot

unfoldable pub effect_text : Effect → List ℕ
effect_text (effect.UnitStarted life s) =
    codes "unit " ++ decimal life ++ codes " " ++ decimal s.active ++ codes " "
    ++ decimal s.committed ++ codes " " ++ slot_text s.first ++ codes " " ++ slot_text s.second
effect_text (effect.PacketSent number direction frame) =
    codes "sent " ++ decimal number ++ codes " " ++ direction_text direction ++ codes " "
    ++ message_text frame
effect_text (effect.Carried life) = codes "carried " ++ decimal life
effect_text (effect.Noted what) = note_text what
effect_text effect.Kept = codes "kept"
effect_text effect.Held = codes "held"
effect_text effect.Cut = codes "cut"
effect_text effect.Dropped = codes "dropped"
effect_text (effect.Refused why) = codes "refused " ++ refusal_text why
effect_text (effect.Reported what) = report_text what
effect_text effect.NotEnabled = codes "not enabled"

-- a line of the trace: the event's number, the effect, and a line feed
unfoldable pub line_text : ℕ → Effect → List ℕ
line_text event e = decimal event ++ codes " " ++ effect_text e ++ codes "\n"

-- bytes in hex, and `-` for none
abbrev pub hex_text : List ℕ → List ℕ
hex_text [] = codes "-"
hex_text (byte ∷ rest) = encode_lower (byte ∷ rest)

-- an entity of a copy, the mask of its attributes, and their values one after the other
unfoldable pub entry_text : EntityId → (mask : ℕ) → (bytes : List ℕ) → List ℕ
entry_text one mask bytes =
    codes "copy " ++ entity_text one ++ codes " " ++ tci_text mask ++ codes " " ++ hex_text bytes

-- its line
unfoldable pub entry_line : ℕ → EntityId → (mask : ℕ) → (bytes : List ℕ) → List ℕ
entry_line event one mask bytes =
    decimal event ++ codes " " ++ entry_text one mask bytes ++ codes "\n"

abbrev pub copy_line : ℕ → EntityId × Values → List ℕ
copy_line event one = entry_line event one.0 (mask_of one.1) (bytes_of one.1)

-- an entity of a table, and its bitmap without the zeros at its end
unfoldable pub row_text : EntityId → (bitmap : List ℕ) → List ℕ
row_text one bitmap = codes "row " ++ entity_text one ++ codes " " ++ contents_text bitmap

-- its line
unfoldable pub row_line : ℕ → EntityId → (bitmap : List ℕ) → List ℕ
row_line event one bitmap = decimal event ++ codes " " ++ row_text one bitmap ++ codes "\n"

abbrev pub alarm_line : ℕ → Alarm → List ℕ
alarm_line event one = row_line event one.0 one.1

-- ---- the trace's reading of what happens

-- what is seen of it, if anything, where that is the number of the next packet
abbrev pub effect_of : ℕ → Happening → Option Effect
effect_of next (UnitStarted life software) = Some (effect.UnitStarted life software)
effect_of next (PacketSent whose packet) =
    Some (effect.PacketSent next packet.direction (frame_of packet.bytes))
effect_of next (UnitCarried life reply before) = Some (effect.Carried life)
effect_of next (UnitNoted life note before) = Some (effect.Noted note)
effect_of next UnitKept = Some effect.Kept
effect_of next UnitDropped = Some effect.Dropped
effect_of next UnitHeld = Some effect.Held
effect_of next PowerCut = Some effect.Cut
effect_of next (Reported what) = Some (effect.Reported what)
effect_of next (Refused why) = Some (effect.Refused why)
effect_of next NotEnabled = Some effect.NotEnabled
effect_of next _ = None

abbrev pub line_if : ℕ → Option Effect → List ℕ
line_if event None = []
line_if event (Some e) = line_text event e

-- its lines: one for each entity of a copy or of a table that is told, one for an effect, or none
abbrev pub happening_text : ℕ → ℕ → Happening → List ℕ
happening_text event next (CopyTold copy) = flat_map (copy_line event) copy
happening_text event next (TableTold table) = flat_map (alarm_line event) table
happening_text event next h = line_if event (effect_of next h)

-- the lines of one event, whose first packet has that number
abbrev pub lines_text : ℕ → ℕ → List Happening → List ℕ
lines_text event next [] = []
lines_text event next (h ∷ rest) = happening_text event next h
    ++ lines_text event (next_after h next) rest

-- the lines of a line of the script, from these nodes on
abbrev pub turn_text : Nodes → Turn → List ℕ
turn_text n t = lines_text t.nodes.ends.event (count n.link) t.happenings

-- the lines of these events, one after the other
unfoldable pub trace_from : List Action → Nodes → List ℕ
trace_from [] n = []
trace_from (a ∷ rest) n = turn_text n (step a n) ++ trace_from rest (step a n).nodes

-- the unit's start line, which is event 0, and then the lines of each event
unfoldable pub trace : Script → List ℕ
trace s =
    line_text 0 (effect.UnitStarted 1 (factory_software s.header.factory))
    ++ trace_from s.actions (first_nodes s.header)
