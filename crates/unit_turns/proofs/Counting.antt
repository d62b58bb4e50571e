-- The count of the disk's faults over the calls of a run.
use Rattle.std.proofs.Common.{◌≡◌, inl, ℕ, sym, ap, subst, Result, Ok, Err}
use Rattle.image_store.specs.Stands.{Kept as Images}
use Rattle.image_store.specs.Carries.{Caused}
use Rattle.image_store.specs.Counts.{Counted, StoreCounts, store_faults, store_breaks}
use Rattle.image_store.proofs.Counting.{caused_counts, counted_then, rose_after}
use Rattle.onu_agent.specs.declared.agent.StartRefusal.{StartRefusal}
use Rattle.onu_agent.specs.declared.agent.StartRefusal.TheVariants as refused
use Rattle.onu_agent.specs.Starts.{given_back, is_fault}
use Rattle.unit_turns.specs.Ending.{DiskCausedBy, DiskCounts, refusal_status}
use Rattle.unit_turns.specs.declared.ending.UnitStatus.{UnitStatus}
use Rattle.unit_turns.specs.declared.ending.UnitStatus.TheVariants.{Done, DiskFault, NoUnit}
use Rattle.unit_turns.specs.declared.ending.UnitStatus.TheVariants.{LinkFault, WriteFault, NoMemory}
use Rattle.unit_turns.specs.declared.ending.UnitEnd as ending
use Rattle.unit_turns.specs.declared.running.Running as running

-- calls before it
pub cause_after : (status : UnitStatus) (a b c : ℕ) → Counted a b → DiskCausedBy status b c
    → DiskCausedBy status a c
cause_after Done a b c before cause = counted_then a b c before cause
cause_after DiskFault a b c before cause = rose_after a b c before cause
cause_after NoUnit a b c before cause = counted_then a b c before cause
cause_after LinkFault a b c before cause = counted_then a b c before cause
cause_after WriteFault a b c before cause = counted_then a b c before cause
cause_after NoMemory a b c before cause = counted_then a b c before cause

-- an end on a disk whose count is known
pub ended_counts : (status is : UnitStatus) (a b c : ℕ) → status ≡ is → DiskCausedBy is a b → c ≡ b
    → DiskCausedBy status a c
ended_counts status is a b c status_is cause same =
    subst (λ (x : UnitStatus). DiskCausedBy x a c) (sym status_is)
    (subst (λ (n : ℕ). DiskCausedBy is a n) (sym same) cause)

module _ {D : Type 0} (faults : D → ℕ) where
  pub counts_after : (result : Result (running.Running D) (ending.UnitEnd D)) (a b : ℕ) → Counted a b
      → DiskCounts faults result b → DiskCounts faults result a
  counts_after (Ok unit) a b before counts =
      counted_then a b (store_faults faults unit.agent.unit.images) before counts
  counts_after (Err end) a b before counts =
      cause_after end.status a b (faults end.disk) before counts

  -- a store that stays
  pub same_counts : (old new : Images D) → new ≡ old
      → Counted (store_faults faults old) (store_faults faults new)
  same_counts old new same = inl (ap (λ (i : Images D). store_faults faults i) same)

  -- a packet's calls
  pub packet_counts : (old new : Images D) → StoreCounts faults old new
      → Counted (store_faults faults old) (store_faults faults new)
  packet_counts old new counts =
      caused_counts (store_breaks old new) (store_faults faults old) (store_faults faults new) counts

  -- a refused start
  refused_by : (refusal : StartRefusal D) (a : ℕ)
      → Caused (is_fault refusal) a (faults (given_back refusal))
      → DiskCausedBy (refusal_status refusal) a (faults (given_back refusal))
  refused_by (refused.NoUnit disk length magic room) a cause = inl cause
  refused_by (refused.Fault disk) a cause = cause
  refused_by (refused.NoImage disk slot gate size) a cause = inl cause
  refused_by (refused.NoMemory disk) a cause = inl cause

  pub refused_counts : (refusal : StartRefusal D) (status : UnitStatus) (disk : D) (a : ℕ)
      → status ≡ refusal_status refusal → disk ≡ given_back refusal
      → Caused (is_fault refusal) a (faults (given_back refusal))
      → DiskCausedBy status a (faults disk)
  refused_counts refusal status disk a status_is disk_is cause =
      ended_counts status (refusal_status refusal) a (faults (given_back refusal)) (faults disk)
      status_is (refused_by refusal a cause) (ap faults disk_is)
