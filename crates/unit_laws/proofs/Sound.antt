-- Whatever comes to a unit keeps it sound.
use Rattle.std.proofs.Common.{◌≡◌, ℕ, Bool, true, false, cond, List, Option, Some, None, Result, Ok, Err, refl}
use Rattle.std.specs.Prelude.{◌==◌}
use Rattle.omci_types.specs.declared.EntityId.{EntityId}
use Rattle.omci_types.specs.declared.Frame.{Frame}
use Rattle.omci_types.specs.declared.Software.{Software}
use Rattle.message_spec.specs.declared.Message.{Message}
use Rattle.message_spec.specs.declared.Message.TheVariants.{Asked, Answered, Told}
use Rattle.message_spec.specs.declared.Notice.{Notice}
use Rattle.message_spec.specs.declared.Request.{Request}
use Rattle.message_spec.specs.declared.Request.TheVariants as request
use Rattle.message_spec.specs.declared.ContentsFault.{ContentsFault}
use Rattle.message_spec.specs.declared.ContentsFault.TheVariants.{UnknownType, Bits}
use Rattle.message_spec.specs.Reading.{message_of}
use Rattle.frame_spec.specs.Baseline.{packet_frame}
use Rattle.mib_spec.specs.declared.Sensed.{Sensed}
use Rattle.mib_spec.specs.declared.Sensed.TheVariants as sensed
use Rattle.mib_spec.specs.Database.{Database, first, image_values, with_software}
use Rattle.mib_spec.specs.Requests.{reset_code, reset, sense_outcome}
use Rattle.mib_laws.specs.Made.{HoldsOnlyMade}
use Rattle.mib_laws.proofs.Made.{made_first, made_create, made_delete, made_set, made_reset, made_sense, made_grown, made_software}
use Rattle.retry_spec.specs.Kept.{kept_for}
use Rattle.alarm_spec.specs.Log.{change}
use Rattle.omci_types.specs.declared.Boot.{Boot}
use Rattle.slot_spec.specs.Slots.{SlotPair}
use Rattle.store_spec.specs.declared.Handled.{Handled}
use Rattle.store_spec.specs.declared.Handled.TheVariants.{Answered as Handled_answered, Held, Dropped}
use Rattle.store_spec.specs.State.{store_started, software_of}
use Rattle.store_spec.specs.Deeds.{Deed}
use Rattle.store_spec.specs.Effects.{store_after, handled_by}
use Rattle.unit_spec.specs.Images.{counted_if, database_handled}
use Rattle.unit_spec.specs.Onu.{Onu, Answer, Reception, onu_started, onu_received, onu_ticked, answer, image_deed, image_handled, not_supported, keep_reply, unless_leaving, unless_kept, take_request, asks_nothing, hold_section, hold_unless_kept, take_section, unless_quiet, has_request_bits, if_request, for_message, for_frame}
use Rattle.unit_spec.specs.Noticing.{Noticing, notice_unless_leaving, onu_sensed, sensed_as, onu_alarmed, may_alarm, alarm_if, told_by}
use Rattle.unit_laws.specs.Sound.{IsSound}
use Rattle.unit_laws.proofs.Own.{may_have_it, own_after}

pub sound_started : (boot : Boot) (room : ℕ) (slots : SlotPair) → IsSound (onu_started boot room slots)
unfolding onu_started first
sound_started boot room slots =
    let software = software_of (store_started boot slots) in
    record { made = made_first (image_values 0 software) (image_values 1 software); own = record { ascending = tt; among = tt } }

made_reset_if : (refused : Bool) (database : Database) → HoldsOnlyMade database → HoldsOnlyMade (cond refused (reset database) database)
made_reset_if true database h = made_reset database
made_reset_if false database h = h

made_counted_if : (grows : Bool) (software : Software) (database : Database) → HoldsOnlyMade database → HoldsOnlyMade (counted_if grows software database)
made_counted_if true software database h = made_grown (with_software software database) (made_software software database h)
made_counted_if false software database h = h

made_handled : (handled : Handled) (software : Software) (database : Database) → HoldsOnlyMade database → HoldsOnlyMade (database_handled handled software database)
made_handled (Handled_answered code grows leaves) software database h = made_counted_if grows software database h
made_handled Held software database h = h
made_handled Dropped software database h = h

sound_handled : (fails : Bool) (d : Deed) (slot : ℕ) (u : Onu) → IsSound u → IsSound (image_handled fails d slot u)
sound_handled fails d slot u s = record {
  made = made_handled (handled_by fails d) (software_of (store_after fails d u.store)) u.database s.made;
  own = s.own;
}

sound_answer : (fails : Bool) (f : Frame) (r : Request) (u : Onu) → IsSound u → IsSound (answer fails f r u).unit
unfolding answer
sound_answer fails f (request.Create values) u s = record { made = made_create f.entity values u.database s.made; own = s.own }
sound_answer fails f request.Delete u s = record { made = made_delete f.entity u.database s.made; own = s.own }
sound_answer fails f (request.Set mask values) u s = record { made = made_set f.entity mask values u.database s.made; own = s.own }
sound_answer fails f (request.Get mask) u s = s
sound_answer fails f request.Reset u s = record { made = made_reset_if (reset_code f.entity == 0) u.database s.made; own = s.own }
sound_answer fails f (request.Alarms mode) u s = record { made = s.made; own = s.own }
sound_answer fails f (request.AlarmsNext number) u s = record { made = s.made; own = s.own }
sound_answer fails f request.Upload u s = record { made = s.made; own = s.own }
sound_answer fails f (request.UploadNext number) u s = record { made = s.made; own = s.own }
sound_answer fails f (request.Start window size targets target) u s = sound_handled fails (image_deed f (request.Start window size targets target) u) f.entity.instance u s
sound_answer fails f (request.Section number bytes last) u s = sound_handled fails (image_deed f (request.Section number bytes last) u) f.entity.instance u s
sound_answer fails f (request.End crc size targets target) u s = sound_handled fails (image_deed f (request.End crc size targets target) u) f.entity.instance u s
sound_answer fails f (request.Activate flags) u s = sound_handled fails (image_deed f (request.Activate flags) u) f.entity.instance u s
sound_answer fails f request.Commit u s = sound_handled fails (image_deed f request.Commit u) f.entity.instance u s
sound_answer fails f (request.Reboot flags) u s = record { made = s.made; own = s.own }

sound_unless_leaving : (leaving : Option Boot) (r : Reception) (u : Onu) → IsSound r.unit → IsSound u → IsSound (unless_leaving leaving r u).unit
sound_unless_leaving None r u done s = done
sound_unless_leaving (Some boot) r u done s = s

sound_kept : (kept : Option (List ℕ)) (tci : ℕ) (a : Answer) (u : Onu) → IsSound a.unit → IsSound u → IsSound (unless_kept kept tci a u).unit
sound_kept (Some reply) tci a u done s = s
sound_kept None tci a u done s =
    sound_unless_leaving u.leaving (keep_reply tci a) u (record { made = done.made; own = done.own }) s

sound_taken : (f : Frame) (a : Answer) (u : Onu) → IsSound a.unit → IsSound u → IsSound (take_request f a u).unit
unfolding take_request
sound_taken f a u done s = sound_kept (kept_for f.tci u.kept) f.tci a u done s

sound_held : (kept : Option (List ℕ)) (fails : Bool) (d : Deed) (slot : ℕ) (u : Onu) → IsSound u → IsSound (hold_unless_kept kept fails d slot u).unit
sound_held (Some reply) fails d slot u s = s
sound_held None fails d slot u s =
    sound_unless_leaving u.leaving (hold_section fails d slot u) u (sound_handled fails d slot u s) s

sound_section : (fails : Bool) (f : Frame) (r : Request) (u : Onu) → IsSound u → IsSound (take_section fails f r u).unit
unfolding take_section
sound_section fails f r u s = sound_held (kept_for f.tci u.kept) fails (image_deed f r u) f.entity.instance u s

sound_unless_quiet : (quiet fails : Bool) (f : Frame) (r : Request) (u : Onu) → IsSound u → IsSound (unless_quiet quiet fails f r u).unit
sound_unless_quiet true fails f r u s = sound_section fails f r u s
sound_unless_quiet false fails f r u s = sound_taken f (answer fails f r u) u (sound_answer fails f r u s) s

sound_if_request : (is : Bool) (f : Frame) (u : Onu) → IsSound u → IsSound (if_request is f u).unit
sound_if_request true f u s = sound_taken f (not_supported f u) u s s
sound_if_request false f u s = s

sound_message : (fails : Bool) (read : Result Message ContentsFault) (f : Frame) (u : Onu) → IsSound u → IsSound (for_message fails read f u).unit
sound_message fails (Ok (Asked tci entity r)) f u s = sound_unless_quiet (asks_nothing r) fails f r u s
sound_message fails (Ok (Answered tci entity r)) f u s = s
sound_message fails (Ok (Told tci entity notice)) f u s = s
sound_message fails (Err (UnknownType number)) f u s = sound_if_request (has_request_bits f.kind) f u s
sound_message fails (Err (Bits kind)) f u s = s

sound_frame : (fails : Bool) (read : Option Frame) (u : Onu) → IsSound u → IsSound (for_frame fails read u).unit
sound_frame fails None u s = s
sound_frame fails (Some f) u s = sound_message fails (message_of f) f u s

pub sound_received : (fails : Bool) (bytes : List ℕ) (u : Onu) → IsSound u → IsSound (onu_received fails bytes u).unit
unfolding onu_received
sound_received fails bytes u s = sound_frame fails (packet_frame bytes) u s

pub sound_ticked : (u : Onu) → IsSound u → IsSound (onu_ticked u)
unfolding onu_ticked
sound_ticked u s = record { made = s.made; own = s.own }

sound_as : (what : Sensed) (one : EntityId) (number : ℕ) (value : List ℕ) (database : Database) (u : Onu) → HoldsOnlyMade database → IsSound u → IsSound (sensed_as what one number value database u).unit
sound_as sensed.NotAllowed one number value database u made s = s
sound_as sensed.Same one number value database u made s = s
sound_as sensed.Changed one number value database u made s = record { made = made; own = s.own }

sound_noticed : (leaving : Option Boot) (n : Noticing) (u : Onu) → IsSound n.unit → IsSound u → IsSound (notice_unless_leaving leaving n u).unit
sound_noticed None n u done s = done
sound_noticed (Some boot) n u done s = s

pub sound_sensed : (one : EntityId) (number : ℕ) (value : List ℕ) (u : Onu) → IsSound u → IsSound (onu_sensed one number value u).unit
unfolding onu_sensed
sound_sensed one number value u s =
    let o = sense_outcome one number value u.database in
    sound_noticed u.leaving (sensed_as o.0 one number value o.1 u) u
    (sound_as o.0 one number value o.1 u (made_sense one number value u.database s.made) s) s

sound_told : (notice : Option Notice) (one : EntityId) (u : Onu) → IsSound u → IsSound (told_by notice one u).unit
sound_told None one u s = s
sound_told (Some notice) one u s = s

sound_if : (may : Bool) (one : EntityId) (bitmap : List ℕ) (u : Onu) → may_alarm one u.database ≡ may → IsSound u → IsSound (alarm_if may one bitmap u).unit
sound_if false one bitmap u is s = s
sound_if true one bitmap u is s =
    let c = change one bitmap u.log in
    sound_told c.notice one (record u { log = c.log }) (record { made = s.made; own = own_after one bitmap u.log (may_have_it one u.database s.made is) s.own })

pub sound_alarmed : (one : EntityId) (bitmap : List ℕ) (u : Onu) → IsSound u → IsSound (onu_alarmed one bitmap u).unit
unfolding onu_alarmed
sound_alarmed one bitmap u s =
    sound_noticed u.leaving (alarm_if (may_alarm one u.database) one bitmap u) u
    (sound_if (may_alarm one u.database) one bitmap u refl s) s
