-- A disk in memory, and what each part of a call makes of it.
use Rattle.std.specs.Prelude.{◌≡◌, ◌⊎◌, ℕ, ◌+◌, if◌then◌else◌, Bool, true, false, List, ◌∷◌, ◌++◌, length, get_or, take, drop, replicate, Option, Some, refl}
use Rattle.std.specs.Option.{option_map}
use Rattle.std.proofs.Common.{ap, subst, sym, inl, inr}
use Rattle.slot_spec.specs.declared.Pick.{Pick}
use Rattle.slot_spec.specs.declared.Pick.TheVariants.{Old, New, Byte}
use Rattle.slot_spec.specs.declared.Trap.{Trap}
use Rattle.slot_spec.specs.declared.Trap.TheVariants.{Clear}
use Rattle.slot_spec.specs.Rig.{Rigged, with_bytes, trap_after, trap_after_restore, pick_of}
use Rattle.omci_core.specs.Memory.{one_more}

-- What a read gives; what stood at the last sync; the newest bytes, those of a write at a fuse's
-- call among them; which bytes were written since the last sync; the trap; the faults so far.
pub record MemState : Type 0 where
  pub bytes : List ℕ
  pub settled : List ℕ
  pub newest : List ℕ
  pub dirty : List Bool
  pub trap : Trap
  pub faults : ℕ

-- the lists are of one length, and a byte that wasn't written since the last sync is the same in
-- all three
pub record IsDisk (m : MemState) : Type 0 where
  pub settled_long : length m.settled ≡ length m.bytes
  pub newest_long : length m.newest ≡ length m.bytes
  pub dirty_long : length m.dirty ≡ length m.bytes
  pub settled_same : (place : ℕ) → get_or m.dirty place false ≡ false → get_or m.settled place 0
      ≡ get_or m.bytes place 0
  pub newest_same : (place : ℕ) → get_or m.dirty place false ≡ false → get_or m.newest place 0
      ≡ get_or m.bytes place 0

-- a byte in each marked place
abbrev pub with_byte : ℕ → List Bool → List ℕ → List ℕ
with_byte b (mark ∷ marks) (x ∷ bytes) = (if mark then b else x) ∷ with_byte b marks bytes
with_byte b marks bytes = bytes

-- what a cut leaves: old, new, or the stated byte in each place that was written since the last
-- sync
abbrev pub cut_by : List ℕ → List ℕ → List Bool → Pick → List ℕ
cut_by settled newest dirty Old = settled
cut_by settled newest dirty New = newest
cut_by settled newest dirty (Byte b) = with_byte b dirty settled

abbrev pub cut_of : MemState → Pick → List ℕ
cut_of m pick = cut_by m.settled m.newest m.dirty pick

-- any bytes where one was written since the last sync
pub record Loose (m : MemState) (image : List ℕ) : Type 0 where
  pub long : length image ≡ length m.bytes
  pub same : (place : ℕ) → get_or m.dirty place false ≡ false → get_or image place 0
      ≡ get_or m.bytes place 0

-- so may a crash leave; what a cut leaves is among them
abbrev pub MayLeave : MemState → List ℕ → Type 0
MayLeave m image = Loose m image ⊎ ((pick : Pick) × (image ≡ cut_of m pick))

-- what it tells as a rig: its bytes, what a cut would leave of it, and the trap
abbrev pub rig_of : MemState → Rigged
rig_of m = record { bytes = m.bytes; cut = cut_of m; trap = m.trap }

-- the parts of a call: the trap comes one call nearer; a fault is counted; a write begins, so that
-- it counts for a cut; a read gives it; all is settled
abbrev pub after_step : MemState → MemState
after_step m = record m { trap = trap_after m.trap }

abbrev pub after_fault : MemState → MemState
after_fault m = record m { faults = one_more m.faults }

abbrev pub with_marks : ℕ → ℕ → List Bool → List Bool
with_marks at count marks = take at marks ++ (replicate count true ++ drop (at + count) marks)

abbrev pub after_begin : ℕ → List ℕ → MemState → MemState
after_begin at from m = record m {
  newest = with_bytes at from m.newest;
  dirty = with_marks at (length from) m.dirty;
}

abbrev pub after_finish : ℕ → List ℕ → MemState → MemState
after_finish at from m = record m { bytes = with_bytes at from m.bytes }

abbrev pub after_sync : MemState → MemState
after_sync m = record m {
  settled = m.bytes;
  newest = m.bytes;
  dirty = replicate (length m.bytes) false;
}

-- a disk of zeros with no trap and no fault
abbrev pub zero_disk : ℕ → MemState
zero_disk size = record {
  bytes = replicate size 0;
  settled = replicate size 0;
  newest = replicate size 0;
  dirty = replicate size false;
  trap = Clear;
  faults = 0;
}

-- these bytes are what a read gives, with nothing pending
abbrev pub holding : List ℕ → MemState → MemState
holding bytes m = record m {
  bytes = bytes;
  settled = bytes;
  newest = bytes;
  dirty = replicate (length m.bytes) false;
}

-- the power is back: the bytes are those that a cut with the fuse's pick leaves
abbrev pub after_restore : MemState → MemState
after_restore m = record (holding (cut_of m (pick_of m.trap)) m) {
  trap = trap_after_restore m.trap;
}

-- the laws of the traits
pub rig_reads_of : (m : MemState) (r : Rigged) → Some (rig_of m) ≡ Some r → Some m.bytes
    ≡ Some r.bytes
rig_reads_of m r is = ap (λ (o : Option Rigged). option_map (λ q. q.bytes) o) is

pub cut_counts_of : (m : MemState) (r : Rigged) (pick : Pick) → Some (rig_of m) ≡ Some r
    → MayLeave m (r.cut pick)
cut_counts_of m r pick is = inr (pick, ap (λ (q : Rigged). q.cut pick) (sym (same is)))
  where
    same : Some (rig_of m) ≡ Some r → rig_of m ≡ r
    same e = cc

pub leaves_seen_of : (m : MemState) (bytes : List ℕ) → Some m.bytes ≡ Some bytes → MayLeave m bytes
leaves_seen_of m bytes is =
    inl (subst (Loose m) (same is) (record { long = refl; same = λ place clean. refl }))
  where
    same : Some m.bytes ≡ Some bytes → m.bytes ≡ bytes
    same e = cc
