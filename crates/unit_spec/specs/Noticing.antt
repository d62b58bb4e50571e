-- What the unit notices by itself: a value that it measured, or the alarms of an entity. It tells
-- the manager of a change by a notice.
use Rattle.std.specs.Prelude.{ℕ, ◌==◌, ◌&&◌, ◌||◌, not, is_none, Bool, true, false, List, [], Option, Some, None}
use Rattle.omci_types.specs.declared.Boot.{Boot}
use Rattle.omci_types.specs.declared.EntityId.{EntityId}
use Rattle.message_spec.specs.declared.Message.TheVariants.{Told}
use Rattle.message_spec.specs.declared.Notice.{Notice}
use Rattle.message_spec.specs.declared.Notice.TheVariants as notices
use Rattle.message_spec.specs.Reading.{plain}
use Rattle.frame_spec.specs.Baseline.{spelling}
use Rattle.frame_spec.specs.Widths.{filled}
use Rattle.class_spec.specs.declared.TheConstants.{SET_ROOM}
use Rattle.class_spec.specs.Masks.{bit_of}
use Rattle.mib_spec.specs.declared.Sensed.{Sensed}
use Rattle.mib_spec.specs.declared.Sensed.TheVariants as sensed
use Rattle.mib_spec.specs.Database.{Database, is_held}
use Rattle.mib_spec.specs.Requests.{sense_outcome}
use Rattle.alarm_spec.specs.Alarms.{is_raised, is_clear}
use Rattle.alarm_spec.specs.Log.{change}
use Rattle.unit_spec.specs.declared.Noticed.{Noticed}
use Rattle.unit_spec.specs.declared.Noticed.TheVariants as noticed
use Rattle.unit_spec.specs.Onu.{Onu, with_database}

-- the unit after it, what became of it, and the notice's packet, which is empty where there is none
pub record Noticing : Type 0 where
  pub unit : Onu
  pub noticed : Noticed
  pub packet : List ℕ

-- a notice answers no request, so its TCI is 0
abbrev pub notice_packet : EntityId → Notice → List ℕ
notice_packet one notice = spelling (plain (Told 0 one notice))

abbrev pub notices_nothing : Noticed → Onu → Noticing
notices_nothing why u = record { unit = u; noticed = why; packet = [] }

-- ---- a measured value (ITU-T G.988, attribute value change)

abbrev pub value_notice : ℕ → List ℕ → Notice
value_notice number value = notices.Change (bit_of number) (filled SET_ROOM value)

abbrev pub sensed_as : Sensed → EntityId → ℕ → List ℕ → Database → Onu → Noticing
sensed_as sensed.NotAllowed one number value db u = notices_nothing noticed.NotAllowed u
sensed_as sensed.Same one number value db u = notices_nothing noticed.Same u
sensed_as sensed.Changed one number value db u =
    record {
      unit = with_database db u;
      noticed = noticed.Sent;
      packet = notice_packet one (value_notice number value);
    }

-- a unit that leaves notices nothing more
abbrev pub notice_unless_leaving : Option Boot → Noticing → Onu → Noticing
notice_unless_leaving None n u = n
notice_unless_leaving (Some boot) n u = notices_nothing noticed.NotAllowed u

abbrev pub measured : EntityId → ℕ → List ℕ → Onu → Noticing
measured one number value u =
    let o = sense_outcome one number value u.database in sensed_as o.0 one number value o.1 u

-- the entity's attribute was measured
unfoldable pub onu_sensed : EntityId → ℕ → List ℕ → Onu → Noticing
onu_sensed one number value u = notice_unless_leaving u.leaving (measured one number value u) u

-- ---- alarms

-- whether entities of a class have alarms: PPTP Ethernet UNIs, the ONU-G and T-CONTs
abbrev pub has_alarms : ℕ → Bool
has_alarms class = (class == 11) || (class == 256) || (class == 262)

-- whether the entity is there and may have alarms
unfoldable pub may_alarm : EntityId → Database → Bool
may_alarm one db = has_alarms one.class && is_held one db

abbrev pub told_by : Option Notice → EntityId → Onu → Noticing
told_by None one u = notices_nothing noticed.Same u
told_by (Some notice) one u =
    record { unit = u; noticed = noticed.Sent; packet = notice_packet one notice }

abbrev pub alarm_if : Bool → EntityId → List ℕ → Onu → Noticing
alarm_if false one bitmap u = notices_nothing noticed.NotAllowed u
alarm_if true one bitmap u =
    let c = change one bitmap u.log in told_by c.notice one (record u { log = c.log })

-- the entity's alarms are these from now on
unfoldable pub onu_alarmed : EntityId → List ℕ → Onu → Noticing
onu_alarmed one bitmap u =
    notice_unless_leaving u.leaving (alarm_if (may_alarm one u.database) one bitmap u) u

-- whether that takes memory: an entity has its first alarm
abbrev pub alarm_takes : EntityId → List ℕ → Onu → Bool
alarm_takes one bitmap u =
    is_none u.leaving && (may_alarm one u.database && not (is_raised one u.log.alarms)
    && not (is_clear bitmap))
