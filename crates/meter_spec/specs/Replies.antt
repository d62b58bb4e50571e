-- The replies, by what the monitor that a request names holds.
use Rattle.std.specs.Prelude.{ℕ, zero, suc, ◌-◌, ◌==◌, nat_le, not, if◌then◌else◌, List, [], ◌∷◌, ◌++◌, length, take, replicate, slice_index, Option, Some, None, is_some}
use Rattle.std.specs.Int.{w16, w32, from_be_bytes, to_be_bytes}
use Rattle.frame_spec.specs.declared.TheConstants.{CONTENTS_BYTES}
use Rattle.omci_types.specs.declared.Frame.{Frame}
use Rattle.class_spec.specs.Masks.{has}
use Rattle.meter_spec.specs.declared.TheConstants.{FIRST_COUNTER, ATTRIBUTES, VALUE_BYTES, REPLY_STEP}
use Rattle.meter_spec.specs.declared.Command.{Command}
use Rattle.meter_spec.specs.declared.Command.TheVariants.{Create, Delete, Get, GetCurrent, SynchronizeTime}
use Rattle.meter_spec.specs.declared.Monitor.{Monitor}
use Rattle.meter_spec.specs.Events.{is_monitor}

-- contents that begin with some bytes, and are zero behind them
unfoldable pub padded : List ℕ → List ℕ
padded bytes = bytes ++ replicate (CONTENTS_BYTES - length bytes) 0

-- contents that are a code alone
abbrev pub code_alone : ℕ → List ℕ
code_alone code = padded (code ∷ [])

-- the bytes of an attribute, with one of the monitor's two rows of counters
unfoldable pub attribute_bytes : Monitor → List ℕ → ℕ → List ℕ
attribute_bytes m row a =
    if a == 1 then m.number ∷ []
    else if a == 2 then m.setting
    else to_be_bytes w32 (slice_index row (a - FIRST_COUNTER))

-- The values of those of the first attributes that a mask names, one after the other.
unfoldable pub values_of : Monitor → List ℕ → (mask attributes : ℕ) → List ℕ
values_of m row mask zero = []
values_of m row mask (suc a) =
    values_of m row mask a ++ (if has mask (suc a) then attribute_bytes m row (suc a) else [])

-- The mask that a get asks for.
unfoldable pub asked_mask : Frame → ℕ
asked_mask f = from_be_bytes w16 (take 2 f.contents)

-- The reply to a get with these values: code 3 alone where they need more bytes than there are.
unfoldable pub given : ℕ → List ℕ → List ℕ
given mask values =
    if nat_le (length values) VALUE_BYTES then padded (0 ∷ to_be_bytes w16 mask ++ values)
    else code_alone 3

abbrev pub read_from : Monitor → List ℕ → ℕ → List ℕ
read_from m row mask = given mask (values_of m row mask ATTRIBUTES)

abbrev pub create_code : ℕ → Option Monitor → ℕ
create_code instance monitor =
    if not (is_monitor instance) then 5 else if is_some monitor then 7 else 0

abbrev pub delete_code : Option Monitor → ℕ
delete_code monitor = if is_some monitor then 0 else 5

abbrev pub time_code : ℕ → ℕ
time_code instance = if instance == 0 then 0 else 5

-- The contents of the reply to a command, by what the monitor holds that it names.
unfoldable pub contents_of : Command → Frame → Option Monitor → List ℕ
contents_of Create f monitor = code_alone (create_code f.entity.instance monitor)
contents_of Delete f monitor = code_alone (delete_code monitor)
contents_of Get f None = code_alone 5
contents_of Get f (Some m) = read_from m m.finished (asked_mask f)
contents_of GetCurrent f None = code_alone 5
contents_of GetCurrent f (Some m) = read_from m m.running (asked_mask f)
contents_of SynchronizeTime f monitor = code_alone (time_code f.entity.instance)

-- The reply to a request: its TCI and its entity, AK in place of AR.
unfoldable pub reply_to : Command → Frame → Option Monitor → Frame
reply_to command f monitor = record {
  tci = f.tci;
  kind = f.kind - REPLY_STEP;
  entity = f.entity;
  contents = contents_of command f monitor;
}
