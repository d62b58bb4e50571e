-- What callers see of an agent: what it holds, its store of images among it, and whether memory ran
-- out in an earlier call. And the unit of the definitions for which that stands.
use Rattle.std.specs.Prelude.{◌≡◌, Bool, false, ℕ, List, length, IfSome, Option, None}
use Rattle.omci_types.specs.declared.Boot.{Boot}
use Rattle.omci_types.specs.declared.Boot.TheVariants.{PowerUp}
use Rattle.omci_types.specs.declared.Software.{Software}
use Rattle.mib_spec.specs.Database.{Database, first}
use Rattle.retry_spec.specs.Kept.{Kept, nothing_kept}
use Rattle.alarm_spec.specs.Log.{Log, new_log}
use Rattle.store_spec.specs.State.{store_started}
use Rattle.unit_spec.specs.declared.Noticed.{Noticed}
use Rattle.unit_spec.specs.Onu.{Onu, Snapshot, AlarmSnapshot}
use Rattle.unit_spec.specs.Noticing.{Noticing}
use Rattle.image_store.specs.Stands.{Kept as Images, StoreStands}
use Rattle.frame_spec.specs.declared.TheConstants.{FRAME_BYTES}

-- what a unit holds beside its images
pub record Desk : Type 0 where
  pub database : Database
  pub kept : Kept
  pub snapshot : Option Snapshot
  pub log : Log
  pub alarm_snapshot : Option AlarmSnapshot

abbrev pub desk_of : Onu → Desk
desk_of u =
    record {
      database = u.database;
      kept = u.kept;
      snapshot = u.snapshot;
      log = u.log;
      alarm_snapshot = u.alarm_snapshot;
    }

-- that of a unit that starts with this software
abbrev pub desk_started : Software → Desk
desk_started software =
    record {
      database = first software;
      kept = nothing_kept;
      snapshot = None;
      log = new_log;
      alarm_snapshot = None;
    }

-- A unit with this desk, and without images. What becomes of a desk is what becomes of that unit's.
abbrev pub alone : Desk → Onu
alone d =
    record {
      database = d.database;
      kept = d.kept;
      snapshot = d.snapshot;
      log = d.log;
      alarm_snapshot = d.alarm_snapshot;
      room = 0;
      store = store_started PowerUp (record { first = None; second = None; committed = 0 });
      leaving = None;
    }

-- that, its store of images, and how it starts again where it leaves
pub record Held (D : Type 0) : Type 0 where
  pub desk : Desk
  pub images : Images D
  pub leaving : Option Boot

pub record State (D : Type 0) : Type 0 where
  pub spent : Bool
  pub unit : Held D

-- it stands for a unit
pub record UnitStands {D : Type 0} (seen : D → Option (List ℕ)) (may_leave : D → List ℕ → Type 0)
    (held : Held D) (u : Onu) : Type 0 where
  pub desk_is : held.desk ≡ desk_of u
  pub leaving_is : held.leaving ≡ u.leaving
  pub room_is : held.images.room ≡ u.room
  pub images : StoreStands seen may_leave held.images u.store

-- an agent whose memory never ran out stands for a unit
pub record AgentStands {D : Type 0} (seen : D → Option (List ℕ)) (may_leave : D → List ℕ → Type 0)
    (agent : State D) (u : Onu) : Type 0 where
  pub sound : agent.spent ≡ false
  pub stands : UnitStands seen may_leave agent.unit u

-- what came of something that the unit noticed by itself: the unit after it, the answer, and the
-- notice's packet
pub record Tells {D : Type 0} (seen : D → Option (List ℕ)) (may_leave : D → List ℕ → Type 0)
    (new : Held D) (why : Noticed) (packet : List ℕ) (told : Noticing) : Type 0 where
  pub stands : UnitStands seen may_leave new told.unit
  pub noticed_is : why ≡ told.noticed
  pub packet_is : packet ≡ told.packet

-- each kept reply is a baseline frame's 48 bytes
pub record AreFrames (k : Kept) : Type 0 where
  pub low : IfSome k.low (λ r. length r.packet ≡ FRAME_BYTES)
  pub high : IfSome k.high (λ r. length r.packet ≡ FRAME_BYTES)
