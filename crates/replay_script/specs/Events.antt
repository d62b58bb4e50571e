-- What an event and the two kinds of header say, apart from where their bytes lie in memory.
use Rattle.script_spec.specs.Script as spec
use Rattle.replay_script.specs.declared.script.Event.{Event}
use Rattle.replay_script.specs.declared.script.Event.TheVariants.{Probe, Reset, Get, Create, Set}
use Rattle.replay_script.specs.declared.script.Event.TheVariants.{Delete, Resync, Audit, Check}
use Rattle.replay_script.specs.declared.script.Event.TheVariants.{Deliver, Flow, NoiseUnit, NoiseOlt}
use Rattle.replay_script.specs.declared.script.Event.TheVariants.{Tick, Sense, Alarm, CutUnit}
use Rattle.replay_script.specs.declared.script.Event.TheVariants.{CutOlt, StartUnit, StartOlt}
use Rattle.replay_script.specs.declared.script.Event.TheVariants.{Activate, Commit, Reboot, Image}
use Rattle.replay_script.specs.declared.script.Event.TheVariants.{CutIn}
use Rattle.replay_script.specs.declared.script.Header.{Header}
use Rattle.replay_script.specs.declared.orders.FirstNumbers.{FirstNumbers}

abbrev pub action_of : Event → spec.Action
action_of (Probe lane) = spec.Probe lane
action_of (Reset lane) = spec.Reset lane
action_of (Get lane entity mask) = spec.Get lane entity mask
action_of (Create lane entity values) = spec.Create lane entity values
action_of (Set lane entity mask values) = spec.Set lane entity mask values
action_of (Delete lane entity) = spec.Delete lane entity
action_of (Activate lane slot) = spec.Activate lane slot
action_of (Commit lane slot) = spec.Commit lane slot
action_of (Reboot lane) = spec.Reboot lane
action_of Resync = spec.Resync
action_of Audit = spec.Audit
action_of Check = spec.Check
action_of (Image slot window crc image) = spec.Image slot window crc image
action_of (Deliver packet) = spec.Deliver packet
action_of (Flow times) = spec.Flow times
action_of (CutIn packet call pick) = spec.CutIn packet call pick
action_of (NoiseUnit bytes) = spec.NoiseUnit bytes
action_of (NoiseOlt bytes) = spec.NoiseOlt bytes
action_of Tick = spec.Tick
action_of (Sense entity number value) = spec.Sense entity number value
action_of (Alarm entity bitmap) = spec.Alarm entity bitmap
action_of CutUnit = spec.CutUnit
action_of CutOlt = spec.CutOlt
action_of StartUnit = spec.StartUnit
action_of (StartOlt low high) = spec.StartOlt low high

abbrev pub header_of : Header → spec.Header
header_of header =
    record { room = header.room; low = header.low; high = header.high; factory = header.factory }

abbrev pub lanes_of : FirstNumbers → spec.OrdersHeader
lanes_of numbers = record { low = numbers.low; high = numbers.high }
