-- What a start answers, and what it makes of its disk.
use Rattle.std.specs.Prelude.{ℕ, Bool, true, false, List}
use Rattle.image_slots.specs.declared.mount.MountRefusal.{MountRefusal}
use Rattle.image_slots.specs.declared.mount.MountRefusal.TheVariants as mount
use Rattle.image_slots.specs.Mounts.{MountRefused}
use Rattle.onu_agent.specs.declared.agent.StartRefusal.{StartRefusal}
use Rattle.onu_agent.specs.declared.agent.StartRefusal.TheVariants.{NoUnit, Fault, NoImage}
use Rattle.onu_agent.specs.declared.agent.StartRefusal.TheVariants.{NoMemory}

-- the refusal of a disk that isn't mounted
abbrev pub not_mounted : {D : Type 0} → MountRefusal D → StartRefusal D
not_mounted (mount.NoUnit disk length magic room) = NoUnit disk length magic room
not_mounted (mount.Fault disk) = Fault disk
not_mounted (mount.NoImage disk slot gate size) = NoImage disk slot gate size

-- the disk that a refusal gives back
abbrev pub given_back : {D : Type 0} → StartRefusal D → D
given_back (NoUnit disk length magic room) = disk
given_back (Fault disk) = disk
given_back (NoImage disk slot gate size) = disk
given_back (NoMemory disk) = disk

-- whether a device call failed
abbrev pub is_fault : {D : Type 0} → StartRefusal D → Bool
is_fault (NoUnit disk length magic room) = false
is_fault (Fault disk) = true
is_fault (NoImage disk slot gate size) = false
is_fault (NoMemory disk) = false

-- a disk of slots is refused for a fault alone, or for want of memory
abbrev pub IsFaultOrMemory : {D : Type 0} → StartRefusal D → Type 0
IsFaultOrMemory (NoUnit disk length magic room) = ⊥
IsFaultOrMemory (Fault disk) = Unit {0}
IsFaultOrMemory (NoImage disk slot gate size) = ⊥
IsFaultOrMemory (NoMemory disk) = Unit {0}

-- the refusal of a disk of at least 4,096 bytes, which are these
abbrev pub StartRefused : {D : Type 0} → ℕ → List ℕ → StartRefusal D → Type 0
StartRefused size bytes (NoUnit disk length magic room) =
    MountRefused size bytes (mount.NoUnit disk length magic room)
StartRefused size bytes (Fault disk) = Unit {0}
StartRefused size bytes (NoImage disk slot gate given) =
    MountRefused size bytes (mount.NoImage disk slot gate given)
StartRefused size bytes (NoMemory disk) = Unit {0}
