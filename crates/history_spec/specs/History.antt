-- The history of a run, newest first. Commands are numbered over the whole run, in the order in
-- which the managers drew them, probes and the commands of jobs included. Neither end knows these
-- numbers.
use Rattle.std.specs.Prelude.{ℕ, ◌≡◌, ◌≢◌, ◌⊎◌, List, [], ◌∷◌}
use Rattle.mib_spec.specs.Database.{Database}
use Rattle.upload_spec.specs.Pieces.{Copy, without_makers}
use Rattle.alarm_spec.specs.Alarms.{Alarm, Alarms, after}
use Rattle.store_spec.specs.History.{StoreEntry, Checked, CommitBegun, Committed}

-- what happened beside the carrying out of a command and the taking of its reply
pub data Remark : Type 0 where
  -- in that life of the unit the upload command put this database by, to be read piece by piece
  TookSnapshot : (life command : ℕ) (database : Database) → Remark
  -- a resynchronisation whose upload command this is gave the manager this copy
  Synced : (command : ℕ) (copy : Copy) → Remark
  -- in that life of the unit the get all alarms command put these alarms by, to be read row by row
  TookAlarms : (life command : ℕ) (alarms : Alarms) → Remark
  -- an audit whose get all alarms command this is gave the manager this table; since its reply
  -- these notices were taken, oldest first
  Audited : (command : ℕ) (table : Alarms) (notices : List Alarm) → Remark
  -- what the unit's store of software images has for the history
  Stored : (entry : StoreEntry) → Remark
  -- a download of this image into that slot, which was handed to the manager, has ended
  Downloaded : (slot : ℕ) (image : List ℕ) → Remark

pub data Entry : Type 0 where
  -- in that life of the unit the command was carried out; this is its reply's packet, and the
  -- database was this before it
  CarriedOut : (life command : ℕ) (reply : List ℕ) (before : Database) → Entry
  -- the manager took this packet as the reply to the command, which isn't a probe
  TookReply : (command : ℕ) (reply : List ℕ) → Entry
  -- something else that happened
  Remarked : (remark : Remark) → Entry

-- the command was carried out in that life
abbrev pub WasCarried : ℕ → ℕ → List Entry → Type 0
WasCarried life command [] = ⊥
WasCarried life command (CarriedOut l c reply before ∷ older) =
    ((l ≡ life) × (c ≡ command)) ⊎ WasCarried life command older
WasCarried life command (TookReply c reply ∷ older) = WasCarried life command older
WasCarried life command (Remarked remark ∷ older) = WasCarried life command older

-- at most once: no command is carried out twice in one life
abbrev pub Once : List Entry → Type 0
Once [] = Unit {0}
Once (CarriedOut life command reply before ∷ older) = (WasCarried life command older → ⊥)
    × Once older
Once (TookReply command reply ∷ older) = Once older
Once (Remarked remark ∷ older) = Once older

-- this is the reply of the last time that the command was carried out
abbrev pub LastReply : ℕ → List ℕ → List Entry → Type 0
LastReply command reply [] = ⊥
LastReply command reply (CarriedOut life c r before ∷ older) =
    ((c ≡ command) × (r ≡ reply)) ⊎ ((c ≢ command) × LastReply command reply older)
LastReply command reply (TookReply c r ∷ older) = LastReply command reply older
LastReply command reply (Remarked remark ∷ older) = LastReply command reply older

-- own reply: each reply taken is that of the last time that its command was carried out
abbrev pub Answered : List Entry → Type 0
Answered [] = Unit {0}
Answered (CarriedOut life command reply before ∷ older) = Answered older
Answered (TookReply command reply ∷ older) = LastReply command reply older × Answered older
Answered (Remarked remark ∷ older) = Answered older

-- this is the database, without makers, that the upload command put by the last time
abbrev pub LastSnapshot : ℕ → Copy → List Entry → Type 0
LastSnapshot command copy [] = ⊥
LastSnapshot command copy (CarriedOut life c r before ∷ older) = LastSnapshot command copy older
LastSnapshot command copy (TookReply c r ∷ older) = LastSnapshot command copy older
LastSnapshot command copy (Remarked (TookSnapshot life c database) ∷ older) =
    ((c ≡ command) × (without_makers database ≡ copy)) ⊎
    ((c ≢ command) × LastSnapshot command copy older)
LastSnapshot command copy (Remarked (Synced c other) ∷ older) = LastSnapshot command copy older
LastSnapshot command copy (Remarked (TookAlarms life c alarms) ∷ older) =
    LastSnapshot command copy older
LastSnapshot command copy (Remarked (Audited c table notices) ∷ older) =
    LastSnapshot command copy older
LastSnapshot command copy (Remarked (Stored entry) ∷ older) = LastSnapshot command copy older
LastSnapshot command copy (Remarked (Downloaded slot image) ∷ older) =
    LastSnapshot command copy older

-- synchronised right: the copy of each resynchronisation is what its upload command put by last
abbrev pub SyncedRight : List Entry → Type 0
SyncedRight [] = Unit {0}
SyncedRight (CarriedOut life command reply before ∷ older) = SyncedRight older
SyncedRight (TookReply command reply ∷ older) = SyncedRight older
SyncedRight (Remarked (TookSnapshot life command database) ∷ older) = SyncedRight older
SyncedRight (Remarked (TookAlarms life command alarms) ∷ older) = SyncedRight older
SyncedRight (Remarked (Audited command table notices) ∷ older) = SyncedRight older
SyncedRight (Remarked (Stored entry) ∷ older) = SyncedRight older
SyncedRight (Remarked (Downloaded slot image) ∷ older) = SyncedRight older
SyncedRight (Remarked (Synced command copy) ∷ older) =
    LastSnapshot command copy older × SyncedRight older

-- the alarms that the get all alarms command put by the last time, followed by these notices, are
-- this table
abbrev pub LastAlarms : ℕ → List Alarm → Alarms → List Entry → Type 0
LastAlarms command notices table [] = ⊥
LastAlarms command notices table (CarriedOut life c r before ∷ older) =
    LastAlarms command notices table older
LastAlarms command notices table (TookReply c r ∷ older) = LastAlarms command notices table older
LastAlarms command notices table (Remarked (TookSnapshot life c database) ∷ older) =
    LastAlarms command notices table older
LastAlarms command notices table (Remarked (Synced c other) ∷ older) =
    LastAlarms command notices table older
LastAlarms command notices table (Remarked (TookAlarms life c alarms) ∷ older) =
    ((c ≡ command) × (after alarms notices ≡ table)) ⊎
    ((c ≢ command) × LastAlarms command notices table older)
LastAlarms command notices table (Remarked (Audited c t waited) ∷ older) =
    LastAlarms command notices table older
LastAlarms command notices table (Remarked (Stored entry) ∷ older) =
    LastAlarms command notices table older
LastAlarms command notices table (Remarked (Downloaded slot image) ∷ older) =
    LastAlarms command notices table older

-- audited right: the table of each audit is what its get all alarms command put by last, followed
-- by the notices that were taken since its reply
abbrev pub AuditedRight : List Entry → Type 0
AuditedRight [] = Unit {0}
AuditedRight (CarriedOut life command reply before ∷ older) = AuditedRight older
AuditedRight (TookReply command reply ∷ older) = AuditedRight older
AuditedRight (Remarked (TookSnapshot life command database) ∷ older) = AuditedRight older
AuditedRight (Remarked (Synced command copy) ∷ older) = AuditedRight older
AuditedRight (Remarked (TookAlarms life command alarms) ∷ older) = AuditedRight older
AuditedRight (Remarked (Stored entry) ∷ older) = AuditedRight older
AuditedRight (Remarked (Downloaded slot image) ∷ older) = AuditedRight older
AuditedRight (Remarked (Audited command table notices) ∷ older) =
    LastAlarms command notices table older × AuditedRight older

-- this is the image of the slot's last check
abbrev pub LastChecked : ℕ → List ℕ → List Entry → Type 0
LastChecked slot image [] = ⊥
LastChecked slot image (CarriedOut life c r before ∷ older) = LastChecked slot image older
LastChecked slot image (TookReply c r ∷ older) = LastChecked slot image older
LastChecked slot image (Remarked (TookSnapshot life c database) ∷ older) =
    LastChecked slot image older
LastChecked slot image (Remarked (Synced c copy) ∷ older) = LastChecked slot image older
LastChecked slot image (Remarked (TookAlarms life c alarms) ∷ older) = LastChecked slot image older
LastChecked slot image (Remarked (Audited c table notices) ∷ older) = LastChecked slot image older
LastChecked slot image (Remarked (Stored (Checked s i check)) ∷ older) =
    ((s ≡ slot) × (i ≡ image)) ⊎ ((s ≢ slot) × LastChecked slot image older)
LastChecked slot image (Remarked (Stored (CommitBegun s)) ∷ older) = LastChecked slot image older
LastChecked slot image (Remarked (Stored (Committed s)) ∷ older) = LastChecked slot image older
LastChecked slot image (Remarked (Downloaded s i) ∷ older) = LastChecked slot image older

-- downloaded right: what the unit checked last for the slot of each download that has ended is the
-- image, byte for byte
abbrev pub DownloadedRight : List Entry → Type 0
DownloadedRight [] = Unit {0}
DownloadedRight (CarriedOut life command reply before ∷ older) = DownloadedRight older
DownloadedRight (TookReply command reply ∷ older) = DownloadedRight older
DownloadedRight (Remarked (TookSnapshot life command database) ∷ older) = DownloadedRight older
DownloadedRight (Remarked (Synced command copy) ∷ older) = DownloadedRight older
DownloadedRight (Remarked (TookAlarms life command alarms) ∷ older) = DownloadedRight older
DownloadedRight (Remarked (Audited command table notices) ∷ older) = DownloadedRight older
DownloadedRight (Remarked (Stored entry) ∷ older) = DownloadedRight older
DownloadedRight (Remarked (Downloaded slot image) ∷ older) =
    LastChecked slot image older × DownloadedRight older

-- what the history says of the unit's store, newest first
abbrev pub store_history : List Entry → List StoreEntry
store_history [] = []
store_history (CarriedOut life command reply before ∷ older) = store_history older
store_history (TookReply command reply ∷ older) = store_history older
store_history (Remarked (TookSnapshot life command database) ∷ older) = store_history older
store_history (Remarked (Synced command copy) ∷ older) = store_history older
store_history (Remarked (TookAlarms life command alarms) ∷ older) = store_history older
store_history (Remarked (Audited command table notices) ∷ older) = store_history older
store_history (Remarked (Stored entry) ∷ older) = entry ∷ store_history older
store_history (Remarked (Downloaded slot image) ∷ older) = store_history older
