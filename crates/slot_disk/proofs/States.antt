-- What the parts of a call make of a disk in memory.
use Rattle.std.proofs.Common.{◌≡◌, ◌⊎◌, inl, inr, ℕ, zero, suc, ◌+◌, ◌-◌, ◌≤◌, ◌<◌, Bool, true, false, if◌then◌else◌, ◌&&◌, ◌||◌, not, nat_le, List, [], ◌∷◌, length, get_or, take, drop, replicate, Some, refl, sym, ◌∙◌, ap, subst, arith, length-take, length-drop}
use Rattle.std.proofs.lemmas.Bool.{cases_lt, true≢false}
use Rattle.std.proofs.lemmas.List.{length-replicate, get_or-take, get_or-drop, get_or-replicate, get_or_past}
use Rattle.std.proofs.lemmas.Grind.{same_number_lists}
use Rattle.slot_spec.specs.declared.Pick.{Pick}
use Rattle.slot_spec.specs.declared.Pick.TheVariants.{Old, New, Byte}
use Rattle.slot_spec.specs.Crash.{Torn, field, TornFrom, Written, Moments}
use Rattle.slot_spec.specs.Rig.{Rigged, Call, Write, Sync, with_bytes, cut_with_bytes, after_write, after_call, call_fails, after_calls, calls_fail, trap_after, trap_is_met, fuse_is_met, in_disk, Makes, pick_of, trap_after_restore, power_restored}
use Rattle.slot_disk.specs.Memory.{MemState, IsDisk, Loose, MayLeave, cut_by, with_byte, with_marks, cut_of, rig_of, after_step, after_fault, after_begin, after_finish, after_sync, holding, after_restore}
use Rattle.omci_core.specs.Memory.{one_more}
use Rattle.slot_laws.proofs.Splice.{length-over, over_elsewhere, over_before, over_behind, over_inside, with_bytes_written}
use Rattle.slot_laws.proofs.Calls.{one_call, one_call_fails}
use Rattle.slot_disk.proofs.Marks.{clean_before, length-with_marks, with_byte-with_marks, marked_elsewhere, length-with_byte}

pub begun_is_disk : (m : MemState) (at : ℕ) (from : List ℕ) → IsDisk m → at + length from ≤ length m.bytes → IsDisk (after_begin at from m)
begun_is_disk m at from disk within =
    let new_fits : at + length from ≤ length m.newest = omega (arith, disk.newest_long) in
    let dirty_fits : at + length from ≤ length m.dirty = omega (arith, disk.dirty_long) in
    record {
      settled_long = disk.settled_long;
      newest_long = length-over at from m.newest new_fits ∙ disk.newest_long;
      dirty_long = length-with_marks at (length from) m.dirty dirty_fits ∙ disk.dirty_long;
      settled_same = λ k clean. disk.settled_same k (clean_before at (length from) m.dirty k dirty_fits clean).0;
      newest_same = λ k clean. let was = clean_before at (length from) m.dirty k dirty_fits clean in over_elsewhere at from m.newest new_fits k 0 was.1 ∙ disk.newest_same k was.0;
    }

-- where all marks of a range are there, one that isn't there stands elsewhere
outside : (at count : ℕ) (dirty : List Bool) (k : ℕ) → take count (drop at dirty) ≡ replicate count true → get_or dirty k false ≡ false → (k < at) ⊎ (at + count ≤ k)
outside at count dirty k all clean = elim (cases_lt k at) [
  | inl before ↦ inl before
  | inr from ↦ elim (cases_lt k (at + count)) [
    | inl to ↦
        let here : get_or (take count (drop at dirty)) (k - at) false ≡ get_or dirty k false = get_or-take count (drop at dirty) (k - at) false (omega arith) ∙ get_or-drop at dirty (k - at) false ∙ ap (λ (n : ℕ). get_or dirty n false) (omega arith) in
        let is : get_or (take count (drop at dirty)) (k - at) false ≡ true = ap (λ (l : List Bool). get_or l (k - at) false) all ∙ get_or-replicate count (k - at) true false (omega arith) in
        absurd (true≢false (sym is ∙ here ∙ clean))
    | inr behind ↦ inr behind
  ]
]

pub finished_is_disk : (m : MemState) (at : ℕ) (from : List ℕ) → IsDisk m → at + length from ≤ length m.bytes → take (length from) (drop at m.dirty) ≡ replicate (length from) true → IsDisk (after_finish at from m)
finished_is_disk m at from disk within all =
    let long = length-over at from m.bytes within in
    record {
      settled_long = disk.settled_long ∙ sym long;
      newest_long = disk.newest_long ∙ sym long;
      dirty_long = disk.dirty_long ∙ sym long;
      settled_same = λ k clean. disk.settled_same k clean ∙ sym (over_elsewhere at from m.bytes within k 0 (outside at (length from) m.dirty k all clean));
      newest_same = λ k clean. disk.newest_same k clean ∙ sym (over_elsewhere at from m.bytes within k 0 (outside at (length from) m.dirty k all clean));
    }

-- what a crash may leave once a write has after_begin, it leaves of a disk that it could leave
-- before
module _ (m : MemState) (at : ℕ) (from : List ℕ) (disk : IsDisk m) (within : at + length from ≤ length m.bytes) where
  abbrev part : List ℕ
  part = field at (length from) m.bytes

  part-long : length part ≡ length from
  part-long = omega (arith, length-take (length from) (drop at m.bytes), length-drop at m.bytes)

  pub begun_torn : (image : List ℕ) → length image ≡ length m.bytes → ((k : ℕ) → get_or (with_marks at (length from) m.dirty) k false ≡ false → get_or image k 0 ≡ get_or m.bytes k 0) → TornFrom at (length from) (MayLeave m) image
  begun_torn image long same =
      let fits : at + length part ≤ length image = omega (arith, part-long, long, within) in
      let dirty_fits : at + length from ≤ length m.dirty = omega (arith, disk.dirty_long) in
      let old = with_bytes at part image in
      let old_long : length old ≡ length image = length-over at part image fits in (
        old,
        inl (record {
          long = old_long ∙ long;
          same = λ k clean. elim (cases_lt k at) [
            | inl before ↦ over_before at part image fits k 0 before ∙ same k (still_clean k clean (inl before) dirty_fits)
            | inr after ↦ elim (cases_lt k (at + length from)) [
              | inl to ↦ over_inside at part image fits k 0 after (omega (arith, part-long, to)) ∙ get_or-take (length from) (drop at m.bytes) (k - at) 0 (omega arith) ∙ get_or-drop at m.bytes (k - at) 0 ∙ ap (λ (n : ℕ). get_or m.bytes n 0) (omega arith)
              | inr behind ↦ over_behind at part image fits k 0 (omega (arith, part-long, behind)) ∙ same k (still_clean k clean (inr behind) dirty_fits)
            ]
          ];
        }),
        record {
          elsewhere = λ k below apart. sym (over_elsewhere at part image fits k 0 (moved k apart));
          no_shorter = omega (arith, old_long);
          no_longer = omega (arith, old_long);
        },
      )
    where
      moved : (k : ℕ) → (k < at) ⊎ (at + length from ≤ k) → (k < at) ⊎ (at + length part ≤ k)
      moved k (inl before) = inl before
      moved k (inr behind) = inr (omega (arith, part-long, behind))

      still_clean : (k : ℕ) → get_or m.dirty k false ≡ false → (k < at) ⊎ (at + length from ≤ k) → at + length from ≤ length m.dirty → get_or (with_marks at (length from) m.dirty) k false ≡ false
      still_clean k clean apart fits = marked_elsewhere at (length from) m.dirty k fits apart ∙ clean

  pub begun_leaves : (image : List ℕ) → Loose (after_begin at from m) image → TornFrom at (length from) (MayLeave m) image
  begun_leaves image left = begun_torn image left.long left.same

  pub finished_leaves : (image : List ℕ) → Loose (after_finish at from (after_begin at from m)) image → TornFrom at (length from) (MayLeave m) image
  finished_leaves image left =
      let dirty_fits : at + length from ≤ length m.dirty = omega (arith, disk.dirty_long) in
      begun_torn image (left.long ∙ length-over at from m.bytes within) (λ k clean.
      left.same k clean ∙ over_elsewhere at from m.bytes within k 0 (clean_before at (length from) m.dirty k dirty_fits clean).1)

-- a disk that wasn't written is torn from itself
pub same_torn : (at count : ℕ) (m : MemState) (image : List ℕ) → MayLeave m image → TornFrom at count (MayLeave m) image
same_torn at count m image left = (image, left, record { elsewhere = λ k below apart. refl; no_shorter = omega arith; no_longer = omega arith })

-- of a disk whose clock stands still, moments are what it may leave now
pub moments_now : (old new : MemState) (P : List ℕ → Type 0) → ((image : List ℕ) → MayLeave new image → P image) → Moments (λ m. 0) (λ m time image. MayLeave m image) MayLeave old new P
moments_now old new P here = record { later = omega arith; now = here; between = here; earlier = λ time image le left. inr (here image left) }

-- one call of a disk in memory
pub makes_one : (call : Call) (m new : MemState) (failed : Bool) → rig_of new ≡ after_call call (rig_of m) → failed ≡ call_fails call (rig_of m) → Makes (call ∷ []) (Some (rig_of m)) (Some (rig_of new)) failed
makes_one call m new failed state fails = λ r is.
    let same : rig_of m ≡ r = some_same is in
    (ap (λ (q : Rigged). Some q) (state ∙ sym (one_call call (rig_of m)) ∙ ap (λ (q : Rigged). after_calls (call ∷ []) q) same), fails ∙ sym (one_call_fails call (rig_of m)) ∙ ap (λ (q : Rigged). calls_fail (call ∷ []) q) same)
  where
    some_same : {q r : Rigged} → Some q ≡ Some r → q ≡ r
    some_same e = cc

cut-after_begin : (m : MemState) (at : ℕ) (from : List ℕ) → IsDisk m → at + length from ≤ length m.bytes → (pick : Pick) → cut_of (after_begin at from m) pick ≡ cut_with_bytes at from (cut_of m) pick
cut-after_begin m at from disk within Old = refl
cut-after_begin m at from disk within New = refl
cut-after_begin m at from disk within (Byte b) = with_byte-with_marks b at (length from) m.dirty m.settled (disk.dirty_long ∙ sym disk.settled_long) (omega (arith, within, disk.settled_long))

-- what a write comes to, by what it met
pub wrote_nothing : (m : MemState) (at : ℕ) (from : List ℕ) (faults : ℕ) (a b : Bool) → a ≡ false → b ≡ false → rig_of (record m { trap = trap_after m.trap; faults = faults }) ≡ after_write at from a b (rig_of m)
wrote_nothing m at from faults a b none nor = sym (λ i. after_write at from (none i) (nor i) (rig_of m))

pub wrote_begun : (m : MemState) (at : ℕ) (from : List ℕ) (faults : ℕ) (a b : Bool) → IsDisk m → at + length from ≤ length m.bytes → a ≡ false → b ≡ true → rig_of (record (after_begin at from m) { trap = trap_after m.trap; faults = faults }) ≡ after_write at from a b (rig_of m)
wrote_begun m at from faults a b disk within none begins =
    (λ i. record { bytes = m.bytes; cut = λ pick. cut-after_begin m at from disk within pick i; trap = trap_after m.trap }) ∙ sym (λ i. after_write at from (none i) (begins i) (rig_of m))

pub wrote_done : (m : MemState) (at : ℕ) (from : List ℕ) (a b : Bool) → IsDisk m → at + length from ≤ length m.bytes → a ≡ true → b ≡ true → rig_of (record (after_finish at from (after_begin at from m)) { trap = trap_after m.trap }) ≡ after_write at from a b (rig_of m)
wrote_done m at from a b disk within done begins =
    (λ i. record { bytes = with_bytes at from m.bytes; cut = λ pick. cut-after_begin m at from disk within pick i; trap = trap_after m.trap }) ∙ sym (λ i. after_write at from (done i) (begins i) (rig_of m))

-- a cut of a disk on which nothing is pending
with_byte-none : (b : ℕ) (bytes : List ℕ) (count : ℕ) → with_byte b (replicate count false) bytes ≡ bytes
with_byte-none b bytes zero = refl
with_byte-none b [] (suc count) = refl
with_byte-none b (x ∷ bytes) (suc count) = ap (λ (l : List ℕ). x ∷ l) (with_byte-none b bytes count)

cut-holding : (bytes : List ℕ) (m : MemState) (pick : Pick) → cut_of (holding bytes m) pick ≡ bytes
cut-holding bytes m Old = refl
cut-holding bytes m New = refl
cut-holding bytes m (Byte b) = with_byte-none b bytes (length m.bytes)

pub synced_done : (m : MemState) (s : Bool) → s ≡ false → rig_of (record (after_sync m) { trap = trap_after m.trap }) ≡ record { bytes = m.bytes; cut = if s then cut_of m else (λ pick. m.bytes); trap = trap_after m.trap }
synced_done m s goes = (λ i. record { bytes = m.bytes; cut = λ pick. cut-holding m.bytes m pick i; trap = trap_after m.trap }) ∙ sym (λ i. record { bytes = m.bytes; cut = if goes i then cut_of m else (λ pick. m.bytes); trap = trap_after m.trap })

-- a cut after a write has after_begin is torn from the same cut before
cut-torn : (m : MemState) (at : ℕ) (from : List ℕ) → IsDisk m → at + length from ≤ length m.bytes → (pick : Pick) → Torn at (length from) (cut_of m pick) (cut_of (after_begin at from m) pick)
cut-torn m at from disk within Old = record { elsewhere = λ k below apart. refl; no_shorter = omega arith; no_longer = omega arith }
cut-torn m at from disk within New = (with_bytes_written at from m.newest (omega (arith, within, disk.newest_long))).torn
cut-torn m at from disk within (Byte b) =
    let many : length (replicate (length from) b) ≡ length from = length-replicate (length from) b in
    let whole : length (with_byte b m.dirty m.settled) ≡ length m.settled = length-with_byte b m.dirty m.settled in
    subst (λ (l : List ℕ). Torn at (length from) (with_byte b m.dirty m.settled) l) (sym (cut-after_begin m at from disk within (Byte b)))
    (subst (λ (n : ℕ). Torn at n (with_byte b m.dirty m.settled) (with_bytes at (replicate (length from) b) (with_byte b m.dirty m.settled))) many
    (with_bytes_written at (replicate (length from) b) (with_byte b m.dirty m.settled) (omega (arith, many, whole, within, disk.settled_long))).torn)

cut_leaves : (m : MemState) (at : ℕ) (from : List ℕ) → IsDisk m → at + length from ≤ length m.bytes → (pick : Pick) (image : List ℕ) → image ≡ cut_of (after_begin at from m) pick → TornFrom at (length from) (MayLeave m) image
cut_leaves m at from disk within pick image is = (cut_of m pick, inr (pick, refl), subst (λ (l : List ℕ). Torn at (length from) (cut_of m pick) l) (sym is) (cut-torn m at from disk within pick))

pub same_leaves : (m new : MemState) → new.bytes ≡ m.bytes → new.settled ≡ m.settled → new.newest ≡ m.newest → new.dirty ≡ m.dirty → (image : List ℕ) → MayLeave new image → MayLeave m image
same_leaves m new a b c d image (inl loose) = inl (record { long = loose.long ∙ ap (λ (l : List ℕ). length l) a; same = λ k clean. loose.same k (ap (λ (l : List Bool). get_or l k false) d ∙ clean) ∙ ap (λ (l : List ℕ). get_or l k 0) a })
same_leaves m new a b c d image (inr cut) = inr (cut.0, cut.1 ∙ (λ i. cut_by (b i) (c i) (d i) cut.0))

-- a crash of a disk on which nothing is pending leaves what a read gives
holding_only : (bytes : List ℕ) (m : MemState) (image : List ℕ) → MayLeave (holding bytes m) image → image ≡ bytes
holding_only bytes m image (inl loose) = same_number_lists image bytes loose.long (λ k below. loose.same k (clean k))
  where
    clean : (k : ℕ) → get_or (replicate (length m.bytes) false) k false ≡ false
    clean k = elim (cases_lt k (length m.bytes)) [ inl below ↦ get_or-replicate (length m.bytes) k false false below | inr past ↦ get_or_past (replicate (length m.bytes) false) k false (omega (arith, past, length-replicate (length m.bytes) false)) ]
holding_only bytes m image (inr cut) = cut.1 ∙ cut-holding bytes m cut.0

pub settled_only : (m new : MemState) → new ≡ after_sync (after_step m) → (image : List ℕ) → MayLeave new image → image ≡ m.bytes
settled_only m new is image left = holding_only m.bytes (after_step m) image (subst (λ n. MayLeave n image) is left)

-- the power comes back
pub restored_rig : (m new : MemState) → new ≡ after_restore m → rig_of new ≡ power_restored (rig_of m)
restored_rig m new is = ap rig_of is ∙ (λ i. record { bytes = cut_of m (pick_of m.trap); cut = λ pick. cut-holding (cut_of m (pick_of m.trap)) m pick i; trap = trap_after_restore m.trap })

pub restored_leaves : (m new : MemState) → new ≡ after_restore m → (image : List ℕ) → MayLeave new image → MayLeave m image
restored_leaves m new is image left = inr (pick_of m.trap, holding_only (cut_of m (pick_of m.trap)) (record m { trap = trap_after_restore m.trap }) image (subst (λ n. MayLeave n image) is left))

module _ (m : MemState) (at : ℕ) (from : List ℕ) (disk : IsDisk m) (within : at + length from ≤ length m.bytes) where
  done_leaves : (image : List ℕ) → MayLeave (after_finish at from (after_begin at from (after_step m))) image → TornFrom at (length from) (MayLeave m) image
  done_leaves image (inl loose) = finished_leaves m at from disk within image (record { long = loose.long; same = loose.same })
  done_leaves image (inr cut) = cut_leaves m at from disk within cut.0 image cut.1

  write_leaves : (image : List ℕ) → MayLeave (after_fault (after_begin at from (after_step m))) image → TornFrom at (length from) (MayLeave m) image
  write_leaves image (inl loose) = begun_leaves m at from disk within image (record { long = loose.long; same = loose.same })
  write_leaves image (inr cut) = cut_leaves m at from disk within cut.0 image cut.1

  -- a write that is done
  pub done_moments : (new : MemState) → new ≡ after_finish at from (after_begin at from (after_step m)) → Moments (λ m. 0) (λ m time image. MayLeave m image) MayLeave m new (TornFrom at (length from) (MayLeave m))
  done_moments new is = subst (λ n. Moments (λ m. 0) (λ m time image. MayLeave m image) MayLeave m n (TornFrom at (length from) (MayLeave m))) (sym is)
      (moments_now m (after_finish at from (after_begin at from (after_step m))) (TornFrom at (length from) (MayLeave m)) (λ image left. done_leaves image left))

  pub done_makes : (new : MemState) (failed : Bool) → new ≡ after_finish at from (after_begin at from (after_step m)) → trap_is_met m.trap ≡ false → nat_le (at + length from) (length m.bytes) ≡ true → failed ≡ false → Makes (Write at from ∷ []) (Some (rig_of m)) (Some (rig_of new)) failed
  done_makes new failed is goes inside ok = subst (λ n. Makes (Write at from ∷ []) (Some (rig_of m)) (Some (rig_of n)) failed) (sym is)
      (makes_one (Write at from) m (after_finish at from (after_begin at from (after_step m))) failed
      (wrote_done m at from _ _ disk within (λ i. not (goes i) && inside i) (λ i. (not (goes i) || fuse_is_met m.trap) && inside i))
      (ok ∙ sym (λ i. goes i || not (inside i))))

  pub begun_moments : (new : MemState) → new ≡ after_fault (after_begin at from (after_step m)) → Moments (λ m. 0) (λ m time image. MayLeave m image) MayLeave m new (TornFrom at (length from) (MayLeave m))
  begun_moments new is = subst (λ n. Moments (λ m. 0) (λ m time image. MayLeave m image) MayLeave m n (TornFrom at (length from) (MayLeave m))) (sym is)
      (moments_now m (after_fault (after_begin at from (after_step m))) (TornFrom at (length from) (MayLeave m)) (λ image left. write_leaves image left))

  pub begun_makes : (new : MemState) (failed : Bool) → new ≡ after_fault (after_begin at from (after_step m)) → trap_is_met m.trap ≡ true → fuse_is_met m.trap ≡ true → nat_le (at + length from) (length m.bytes) ≡ true → failed ≡ true → Makes (Write at from ∷ []) (Some (rig_of m)) (Some (rig_of new)) failed
  begun_makes new failed is stops fuse inside err = subst (λ n. Makes (Write at from ∷ []) (Some (rig_of m)) (Some (rig_of n)) failed) (sym is)
      (makes_one (Write at from) m (after_fault (after_begin at from (after_step m))) failed
      (wrote_begun m at from (one_more m.faults) _ _ disk within (λ i. not (stops i) && in_disk at (length from) (rig_of m)) (λ i. (not (stops i) || fuse i) && inside i))
      (err ∙ sym (λ i. stops i || not (in_disk at (length from) (rig_of m)))))

  pub done_written : (new : MemState) (bytes : List ℕ) → new ≡ after_finish at from (after_begin at from (after_step m)) → Some m.bytes ≡ Some bytes → (now : List ℕ) × (Some new.bytes ≡ Some now) × Written at from bytes now
  done_written new bytes is reads =
      let same : m.bytes ≡ bytes = cc in
      (with_bytes at from m.bytes, ap (λ (n : MemState). Some n.bytes) is, subst (λ (b : List ℕ). Written at from b (with_bytes at from m.bytes)) same (with_bytes_written at from m.bytes within))

pub synced_makes : (m new : MemState) (failed : Bool) → new ≡ after_sync (after_step m) → trap_is_met m.trap ≡ false → failed ≡ false → Makes (Sync ∷ []) (Some (rig_of m)) (Some (rig_of new)) failed
synced_makes m new failed is goes ok = subst (λ n. Makes (Sync ∷ []) (Some (rig_of m)) (Some (rig_of n)) failed) (sym is)
    (makes_one Sync m (after_sync (after_step m)) failed (synced_done m (trap_is_met m.trap) goes) (ok ∙ sym goes))

-- a call that failed with nothing done
pub fault_moments : (m new : MemState) (at count : ℕ) → new ≡ after_fault (after_step m) → Moments (λ m. 0) (λ m time image. MayLeave m image) MayLeave m new (TornFrom at count (MayLeave m))
fault_moments m new at count is = subst (λ n. Moments (λ m. 0) (λ m time image. MayLeave m image) MayLeave m n (TornFrom at count (MayLeave m))) (sym is)
    (moments_now m (after_fault (after_step m)) (TornFrom at count (MayLeave m)) (λ image left. same_torn at count m image (same_leaves m (after_fault (after_step m)) refl refl refl refl image left)))

pub sync_moments : (m new : MemState) → new ≡ after_sync (after_step m) → Moments (λ m. 0) (λ m time image. MayLeave m image) MayLeave m new (MayLeave m)
sync_moments m new is = moments_now m new (MayLeave m) (λ image left.
    let same = settled_only m new is image left in inl (record { long = ap (λ (l : List ℕ). length l) same; same = λ k clean. ap (λ (l : List ℕ). get_or l k 0) same }))

pub sync_durable : (m new : MemState) (bytes image : List ℕ) → new ≡ after_sync (after_step m) → Some m.bytes ≡ Some bytes → MayLeave new image → image ≡ bytes
sync_durable m new bytes image is reads left = let same : m.bytes ≡ bytes = cc in settled_only m new is image left ∙ same
