-- What the calls of the slots' states answer, and the device calls that they make.
use Rattle.std.specs.Prelude.{◌≡◌, ◌⊎◌, ◌<◌, ◌≤◌, ◌+◌, ℕ, List, [], ◌∷◌, ◌++◌, ◌==◌, ◌&&◌, not, nat_le, if◌then◌else◌, Bool, true, false, length, replicate, None, IsSome, Result, Ok, Err}
use Rattle.std.specs.Option.{is_some}
use Rattle.std.specs.Int.{to_be_bytes, w32}
use Rattle.frame_spec.specs.Checksum.{crc}
use Rattle.slot_spec.specs.declared.DiskHeader.{DiskHeader}
use Rattle.slot_spec.specs.declared.TheConstants.{VERSION_BYTES, CLOSED_GATE}
use Rattle.image_slots.specs.declared.slots.Slots.{Slots}
use Rattle.image_slots.specs.declared.slots.CommitRefusal.{CommitRefusal}
use Rattle.image_slots.specs.declared.slots.CommitRefusal.TheVariants as commit
use Rattle.image_slots.specs.declared.slots.BeginRefusal.{BeginRefusal}
use Rattle.image_slots.specs.declared.slots.BeginRefusal.TheVariants as begin
use Rattle.image_slots.specs.declared.download.Download.{Download}
use Rattle.image_slots.specs.declared.download.PutRefusal.{PutRefusal}
use Rattle.image_slots.specs.declared.download.PutRefusal.TheVariants as put
use Rattle.image_slots.specs.declared.download.SealRefusal.{SealRefusal}
use Rattle.image_slots.specs.declared.download.SealRefusal.TheVariants as seal
use Rattle.slot_spec.specs.Slots.{Change, Keep, Clear, Seal, Commit}
use Rattle.slot_spec.specs.Layout.{version, commit_place, gate_place, entry_place, image_place, open_gate}
use Rattle.slot_spec.specs.Rig.{Call, Write, Sync}
use Rattle.slot_spec.specs.Header.{view_at, slot_header}

-- COMMIT. The disk that an answer holds, whether it is a fault, and when each refusal comes: a
-- refusal hands the slots back as they were.
abbrev pub commit_disk : {D : Type 0} → Result (Slots D) (CommitRefusal D) → D
commit_disk (Ok slots) = slots.disk
commit_disk (Err (commit.NotValid slots)) = slots.disk
commit_disk (Err (commit.Fault broken)) = broken.disk

abbrev pub commit_faults : {D : Type 0} → Result (Slots D) (CommitRefusal D) → Bool
commit_faults (Ok slots) = false
commit_faults (Err (commit.NotValid slots)) = false
commit_faults (Err (commit.Fault broken)) = true

abbrev pub CommitRefused : {D : Type 0} → Slots D → ℕ → CommitRefusal D → Type 0
CommitRefused before slot (commit.NotValid slots) = (slots ≡ before)
    × (view_at slot before.header ≡ None)
CommitRefused before slot (commit.Fault broken) = IsSome (view_at slot before.header)
    × (slot ≡ before.header.committed → ⊥)

-- the slot is valid and isn't the committed one, so that its commit writes
abbrev pub commit_writes : ℕ → DiskHeader → Bool
commit_writes slot header = is_some (view_at slot header) && not (slot == header.committed)

abbrev pub commit_calls : ℕ → DiskHeader → List Call
commit_calls slot header = if commit_writes slot header then Write commit_place (slot ∷ []) ∷ Sync
    ∷ [] else []

abbrev pub commit_change : ℕ → DiskHeader → Change
commit_change slot header = if commit_writes slot header then Commit slot else Keep

-- BEGIN
abbrev pub begin_disk : {D : Type 0} → Result (Download D) (BeginRefusal D) → D
begin_disk (Ok download) = download.disk
begin_disk (Err (begin.InUse slots)) = slots.disk
begin_disk (Err (begin.Size slots size room)) = slots.disk
begin_disk (Err (begin.Fault broken)) = broken.disk

abbrev pub begin_faults : {D : Type 0} → Result (Download D) (BeginRefusal D) → Bool
begin_faults (Ok download) = false
begin_faults (Err (begin.InUse slots)) = false
begin_faults (Err (begin.Size slots size room)) = false
begin_faults (Err (begin.Fault broken)) = true

abbrev pub BeginRefused : {D : Type 0} → Slots D → ℕ → ℕ → BeginRefusal D → Type 0
BeginRefused before slot asked (begin.InUse slots) = (slots ≡ before)
    × (slot ≡ before.header.committed)
BeginRefused before slot asked (begin.Size slots size room) = (slots ≡ before) × (size ≡ asked)
    × (room ≡ before.header.room) × ((asked ≡ 0) ⊎ (room < asked))
    × (slot ≡ before.header.committed → ⊥)
BeginRefused before slot asked (begin.Fault broken) = (slot ≡ before.header.committed → ⊥)
    × (1 ≤ asked) × (asked ≤ before.header.room)

abbrev pub begin_tests : ℕ → ℕ → DiskHeader → Bool
begin_tests slot size header = not (slot == header.committed)
    && (nat_le 1 size && nat_le size header.room)

-- a gate that is closed already isn't written
abbrev pub begin_writes : ℕ → ℕ → DiskHeader → Bool
begin_writes slot size header = begin_tests slot size header && (slot_header slot header).opened

abbrev pub begin_calls : ℕ → ℕ → DiskHeader → List Call
begin_calls slot size header = if begin_writes slot size header then Write (gate_place slot)
    (CLOSED_GATE ∷ []) ∷ Sync ∷ [] else []

abbrev pub begin_change : ℕ → ℕ → DiskHeader → Change
begin_change slot size header = if begin_writes slot size header then Clear slot else Keep

-- a download of this size into this slot, with nothing put yet
pub record IsEmpty {D : Type 0} (slot asked : ℕ) (download : Download D) : Type 0 where
  pub target : download.target ≡ slot
  pub size : download.size ≡ asked
  pub have : download.have ≡ 0
  pub check : download.crc ≡ crc []
  pub version : download.version ≡ replicate VERSION_BYTES 0

-- what a download counts of the image is right for these bytes, and the slot has room for the whole
pub record Loaded {D : Type 0} (download : Download D) (bytes : List ℕ) : Type 0 where
  pub have : download.have ≡ length bytes
  pub check : download.crc ≡ crc bytes
  pub version_is : download.version ≡ version bytes
  pub some : 1 ≤ download.size
  pub fits : download.size ≤ download.header.room

-- PUT
abbrev pub put_disk : {D : Type 0} → Result (Download D) (PutRefusal D) → D
put_disk (Ok download) = download.disk
put_disk (Err (put.Past download have size more)) = download.disk
put_disk (Err (put.Fault broken)) = broken.disk

abbrev pub put_faults : {D : Type 0} → Result (Download D) (PutRefusal D) → Bool
put_faults (Ok download) = false
put_faults (Err (put.Past download have size more)) = false
put_faults (Err (put.Fault broken)) = true

abbrev pub PutRefused : {D : Type 0} → Download D → ℕ → PutRefusal D → Type 0
PutRefused before asked (put.Past download have size more) = (download ≡ before)
    × (have ≡ before.have) × (size ≡ before.size) × (more ≡ asked)
    × (before.size < before.have + asked)
PutRefused before asked (put.Fault broken) = before.have + asked ≤ before.size

-- the piece follows what was put
abbrev pub put_calls : List ℕ → ℕ → ℕ → ℕ → ℕ → List Call
put_calls piece room target have size = if nat_le (have + length piece) size then Write
    (image_place room target + have) piece ∷ [] else []

-- SEAL
abbrev pub seal_disk : {D : Type 0} → Result (Slots D) (SealRefusal D) → D
seal_disk (Ok slots) = slots.disk
seal_disk (Err (seal.Size slots have given)) = slots.disk
seal_disk (Err (seal.Check slots computed given)) = slots.disk
seal_disk (Err (seal.Fault broken)) = broken.disk

abbrev pub seal_faults : {D : Type 0} → Result (Slots D) (SealRefusal D) → Bool
seal_faults (Ok slots) = false
seal_faults (Err (seal.Size slots have given)) = false
seal_faults (Err (seal.Check slots computed given)) = false
seal_faults (Err (seal.Fault broken)) = true

-- the download is given up, and its disk is as it was
abbrev pub GivesBack : {D : Type 0} → Download D → Slots D → Type 0
GivesBack before slots = (slots.disk ≡ before.disk) × (slots.header ≡ before.header)

abbrev pub SealRefused : {D : Type 0} → Download D → ℕ → ℕ → SealRefusal D → Type 0
SealRefused before check asked (seal.Size slots have given) = GivesBack before slots
    × (have ≡ before.have) × (given ≡ asked) × ((before.have ≡ before.size) → (asked ≡ before.have)
    → ⊥)
SealRefused before check asked (seal.Check slots computed given) = GivesBack before slots
    × (computed ≡ before.crc) × (given ≡ check) × (computed ≡ given → ⊥)
    × (before.have ≡ before.size) × (asked ≡ before.have)
SealRefused before check asked (seal.Fault broken) = (before.have ≡ before.size)
    × (asked ≡ before.have) × (check ≡ before.crc)

abbrev pub IsSealFault : {D : Type 0} → SealRefusal D → Type 0
IsSealFault (seal.Fault broken) = Unit {0}
IsSealFault (seal.Size slots have given) = ⊥
IsSealFault (seal.Check slots computed given) = ⊥

-- the image is there whole, of the length that was begun and given, with the check value that was
-- given
abbrev pub seal_tests : ℕ → ℕ → ℕ → ℕ → ℕ → Bool
seal_tests check given have size computed = (have == size && given == have) && computed == check

-- the entry and its sync, and then the gate and its sync
abbrev pub seal_calls : ℕ → ℕ → ℕ → ℕ → ℕ → ℕ → List ℕ → List Call
seal_calls check given target have size computed first =
    if seal_tests check given have size computed then
    (Write (entry_place target) (to_be_bytes w32 given ++ to_be_bytes w32 check ++ first) ∷ Sync
    ∷ []) ++ (Write (gate_place target) (open_gate ∷ []) ∷ Sync ∷ [])
    else []

abbrev pub seal_change : ℕ → ℕ → ℕ → ℕ → ℕ → ℕ → List ℕ → Change
seal_change check given target have size computed put =
    if seal_tests check given have size computed then Seal target put else Keep
