-- The device calls of a deed are those of the slots' call.
use Rattle.std.proofs.Common.{◌≡◌, ◌≢◌, ℕ, zero, suc, ◌+◌, ◌*◌, ◌++◌, ◌==◌, ◌&&◌, ◌||◌, ◌≤◌, ◌<◌, not, if◌then◌else◌}
use Rattle.std.proofs.Common.{Bool, true, false, List, [], ◌∷◌, length, drop, Option, Some}
use Rattle.std.proofs.Common.{IsSome, nat_lt, refl, sym, ◌∙◌, ap, subst, arith}
use Rattle.std.proofs.lemmas.Bool.{le-leb, eq-eqb, ne_eqb, true≢false}
use Rattle.std.proofs.lemmas.Bool.Decides.{nat_tests}
use Rattle.std.proofs.lemmas.Slice.Eq.{bytes_eq-Decides}
use Rattle.std.specs.Int.{to_be_bytes, w32}
use Rattle.std.specs.Option.{is_some}
use Rattle.frame_spec.specs.Checksum.{crc}
use Rattle.slot_spec.specs.declared.DiskHeader.{DiskHeader}
use Rattle.slot_spec.specs.Slots.{SlotPair, Keep, image_at}
use Rattle.slot_spec.specs.Crash.{field}
use Rattle.slot_spec.specs.Layout.{open_gate, gate_place, entry_place, image_place, commit_place}
use Rattle.slot_spec.specs.Layout.{entry, version}
use Rattle.slot_spec.specs.Rig.{Rigged, Call, Read, Write, Sync, Makes, after_call, after_calls, call_fails, calls_fail}
use Rattle.slot_spec.specs.Rig.{trap_is_met, trap_after, in_disk, with_bytes}
use Rattle.slot_spec.specs.declared.Trap.{Trap}
use Rattle.slot_spec.specs.declared.Trap.TheVariants.{Clear}
use Rattle.slot_laws.proofs.Splice.{with_bytes_written}
use Rattle.slot_spec.specs.Header.{slot_header, view_at}
use Rattle.slot_spec.specs.Owner.{Shows, ShowsSlot, Settled}
use Rattle.slot_laws.proofs.Fill.{length-entry}
use Rattle.slot_laws.proofs.Gate.{shows_slot_at, open_known, not_open_known}
use Rattle.image_slots.specs.Mounts.{mount_calls}
use Rattle.image_slots.specs.Answers.{commit_calls, begin_calls, seal_calls}
use Rattle.image_slots.specs.Answers.{put_calls as piece_calls}
use Rattle.store_spec.specs.State.{StoreState, Loading, loading_of}
use Rattle.store_spec.specs.Deeds.{Deed, Ignore, Refuse, RefuseWindow, GiveUp, Begin, Hold, Put}
use Rattle.store_spec.specs.Deeds.{Seal, Activate, Commit, Recommit}
use Rattle.store_spec.specs.Effects.{change_of, calls_device}
use Rattle.window_spec.specs.Incoming.{Window}
use Rattle.image_store.specs.Carries.{gate_is_open, deed_calls, put_calls, MakesCalls, IsWithin, CallsWithin, StaysClear}
use Rattle.slot_spec.specs.declared.TheConstants.{CLOSED_GATE}

-- a deed that calls no device keeps the slots, and its list is empty
pub calls_none_keeps : (d : Deed) → calls_device d ≡ false → change_of d ≡ Keep
calls_none_keeps Ignore is = refl
calls_none_keeps (Refuse code) is = refl
calls_none_keeps (RefuseWindow code) is = refl
calls_none_keeps (GiveUp code) is = refl
calls_none_keeps (Begin slot size granted) is = absurd (true≢false is)
calls_none_keeps (Hold window) is = refl
calls_none_keeps (Put bytes) is = absurd (true≢false is)
calls_none_keeps (Seal slot image) is = absurd (true≢false is)
calls_none_keeps (Activate leaves) is = refl
calls_none_keeps (Commit slot) is = absurd (true≢false is)
calls_none_keeps (Recommit slot) is = refl

calls_none : (room : ℕ) (d : Deed) (m : StoreState) (bytes : List ℕ) → calls_device d ≡ false → deed_calls room d m bytes ≡ []
calls_none room Ignore m bytes is = refl
calls_none room (Refuse code) m bytes is = refl
calls_none room (RefuseWindow code) m bytes is = refl
calls_none room (GiveUp code) m bytes is = refl
calls_none room (Begin slot size granted) m bytes is = absurd (true≢false is)
calls_none room (Hold window) m bytes is = refl
calls_none room (Put all) m bytes is = absurd (true≢false is)
calls_none room (Seal slot image) m bytes is = absurd (true≢false is)
calls_none room (Activate leaves) m bytes is = refl
calls_none room (Commit slot) m bytes is = absurd (true≢false is)
calls_none room (Recommit slot) m bytes is = refl

-- so it makes nothing of the disk
pub makes_none : (room : ℕ) (d : Deed) (m : StoreState) (told : Option Rigged) → calls_device d ≡ false → MakesCalls room d m told told false
unfolding after_calls calls_fail
makes_none room d m told quiet r is = subst (λ (calls : List Call). (told ≡ Some (after_calls calls r)) × (false ≡ calls_fail calls r)) (sym (calls_none room d m r.bytes quiet)) (is, refl)

-- its calls are these, whatever the disk reads as
pub makes_these : (room : ℕ) (d : Deed) (m : StoreState) (calls : List Call) (old new : Option Rigged) (fails : Bool) → ((bytes : List ℕ) → deed_calls room d m bytes ≡ calls) → Makes calls old new fails → MakesCalls room d m old new fails
makes_these room d m calls old new fails same made r is = subst (λ (these : List Call). (new ≡ Some (after_calls these r)) × (fails ≡ calls_fail these r)) (sym (same r.bytes)) (made r is)

pub within_none : (room : ℕ) (d : Deed) (m : StoreState) (told : Option Rigged) → calls_device d ≡ false → CallsWithin room d m told
within_none room d m told quiet r is = subst (λ (calls : List Call). IsWithin (length r.bytes) calls) (sym (calls_none room d m r.bytes quiet)) tt

-- a larger disk holds them too
within_more : (small large : ℕ) (calls : List Call) → small ≤ large → IsWithin small calls → IsWithin large calls
within_more small large [] more within = tt
within_more small large (Read at count ∷ calls) more within = (omega (arith, within.0, more), within_more small large calls more within.1)
within_more small large (Write at bytes ∷ calls) more within = (omega (arith, within.0, more), within_more small large calls more within.1)
within_more small large (Sync ∷ calls) more within = within_more small large calls more within

-- without a trap no call of them fails, and there is none afterwards
runs_clear : (calls : List Call) (r : Rigged) → r.trap ≡ Clear → IsWithin (length r.bytes) calls → (calls_fail calls r ≡ false) × ((after_calls calls r).trap ≡ Clear)
unfolding after_calls calls_fail
runs_clear [] r clear within = (refl, clear)
runs_clear (Read at count ∷ calls) r clear within =
    let next = after_call (Read at count) r in
    let goes : call_fails (Read at count) r ≡ false = ap (λ (t : Trap). trap_is_met t || not (in_disk at count r)) clear ∙ ap not (le-leb (at + count) (length r.bytes) within.0) in
    let rest = runs_clear calls next (ap trap_after clear) within.1 in
    (ap (λ (b : Bool). if b then true else calls_fail calls next) goes ∙ rest.0, ap (λ (b : Bool). (if b then next else after_calls calls next).trap) goes ∙ rest.1)
runs_clear (Write at new ∷ calls) r clear within =
    let next = after_call (Write at new) r in
    let inside : in_disk at (length new) r ≡ true = le-leb (at + length new) (length r.bytes) within.0 in
    let goes : call_fails (Write at new) r ≡ false = ap (λ (t : Trap). trap_is_met t || not (in_disk at (length new) r)) clear ∙ ap not inside in
    let done : (not (trap_is_met r.trap) && in_disk at (length new) r) ≡ true = ap (λ (t : Trap). not (trap_is_met t) && in_disk at (length new) r) clear ∙ inside in
    let long : length r.bytes ≤ length next.bytes = subst (λ (b : Bool). length r.bytes ≤ length (if b then with_bytes at new r.bytes else r.bytes)) (sym done) (with_bytes_written at new r.bytes within.0).torn.no_shorter in
    let rest = runs_clear calls next (ap trap_after clear) (within_more (length r.bytes) (length next.bytes) calls long within.1) in
    (ap (λ (b : Bool). if b then true else calls_fail calls next) goes ∙ rest.0, ap (λ (b : Bool). (if b then next else after_calls calls next).trap) goes ∙ rest.1)
runs_clear (Sync ∷ calls) r clear within =
    let next = after_call Sync r in
    let goes : call_fails Sync r ≡ false = ap trap_is_met clear in
    let rest = runs_clear calls next (ap trap_after clear) within in
    (ap (λ (b : Bool). if b then true else calls_fail calls next) goes ∙ rest.0, ap (λ (b : Bool). (if b then next else after_calls calls next).trap) goes ∙ rest.1)

pub clear_runs : (room : ℕ) (d : Deed) (m : StoreState) (old new : Option Rigged) (fails : Bool) → MakesCalls room d m old new fails → CallsWithin room d m old → StaysClear old new fails
clear_runs room d m old new fails made within r told clear =
    let runs = runs_clear (deed_calls room d m r.bytes) r clear (within r told) in
    ((made r told).1 ∙ runs.0, (after_calls (deed_calls room d m r.bytes) r, (made r told).0, runs.1))

-- nor does one of a mount of a disk that has so many bytes
pub mount_clear : (size : ℕ) (old new : Option Rigged) (fails : Bool) → Makes (mount_calls size) old new fails → (r : Rigged) → old ≡ Some r → r.trap ≡ Clear → size ≡ length r.bytes → (fails ≡ false) × ((after : Rigged) × (new ≡ Some after) × (after.trap ≡ Clear))
mount_clear size old new fails made r told clear long =
    let runs = runs_clear (mount_calls size) r clear (by (nat_lt size 4096) refl) in
    ((made r told).1 ∙ runs.0, (after_calls (mount_calls size) r, (made r told).0, runs.1))
  where
    by : (short : Bool) → nat_lt size 4096 ≡ short → IsWithin (length r.bytes) (if short then [] else Sync ∷ Read 0 4096 ∷ [])
    by true is = tt
    by false is = (grind (arith, nat_tests, is, long), tt)

-- a commit of the other slot, and one of the committed slot
pub commit_calls_other : (slot : ℕ) (header : DiskHeader) → IsSome (view_at slot header) → slot ≢ header.committed → commit_calls slot header ≡ Write commit_place (slot ∷ []) ∷ Sync ∷ []
commit_calls_other slot header some other = by (is_some (view_at slot header)) some
  where
    by : (valid : Bool) → valid ≡ true → (if valid && not (slot == header.committed) then Write commit_place (slot ∷ []) ∷ Sync ∷ [] else []) ≡ Write commit_place (slot ∷ []) ∷ Sync ∷ []
    by valid is = rw (is, ne_eqb slot header.committed other) refl

pub commit_calls_same : (slot : ℕ) (header : DiskHeader) → IsSome (view_at slot header) → slot ≡ header.committed → commit_calls slot header ≡ []
commit_calls_same slot header some same = by (is_some (view_at slot header)) some
  where
    by : (valid : Bool) → valid ≡ true → (if valid && not (slot == header.committed) then Write commit_place (slot ∷ []) ∷ Sync ∷ [] else []) ≡ []
    by valid is = rw (is, eq-eqb slot header.committed same) refl

-- an end whose tests hold
pub seal_calls_are : (check given target have size computed : ℕ) (first put : List ℕ) → have ≡ size → given ≡ have → check ≡ computed → have ≡ length put → computed ≡ crc put → first ≡ version put
    → seal_calls check given target have size computed first ≡ (Write (entry_place target) (entry put) ∷ Sync ∷ []) ++ (Write (gate_place target) (open_gate ∷ []) ∷ Sync ∷ [])
unfolding entry
seal_calls_are check given target have size computed first put whole asked checks long sum begins =
    rw (eq-eqb have size whole, eq-eqb given have asked, eq-eqb computed check (sym checks))
    (λ i. (Write (entry_place target) (to_be_bytes w32 ((asked ∙ long) i) ++ to_be_bytes w32 ((checks ∙ sum) i) ++ begins i) ∷ Sync ∷ []) ++ (Write (gate_place target) (open_gate ∷ []) ∷ Sync ∷ []))

drop_front : (xs ys : List ℕ) → drop (length xs) (xs ++ ys) ≡ ys
drop_front [] ys = refl
drop_front (x ∷ xs) ys = drop_front xs ys

-- a piece that fits
pub piece_calls_are : (room granted : ℕ) (target have size : ℕ) (piece put : List ℕ) (window : Window) (d : Option Loading) → have ≡ length put → have + length piece ≤ size → d ≡ Some (loading_of target size granted put window)
    → put_calls room (put ++ piece) d ≡ piece_calls piece room target have size
piece_calls_are room granted target have size piece put window d long fits is =
    ap (λ (o : Option Loading). put_calls room (put ++ piece) o) is
    ∙ (λ i. Write (image_place room target + sym long i) (behind i) ∷ [])
    ∙ sym fitting
  where
    behind : drop (length put) (put ++ piece) ≡ piece
    behind = drop_front put piece

    fitting : piece_calls piece room target have size ≡ Write (image_place room target + have) piece ∷ []
    fitting = rw (le-leb (have + length piece) size fits) refl

-- a gate's byte is what the header says of it
opened_is : (slot : ℕ) (header : DiskHeader) (s : SlotPair) (bytes : List ℕ) → slot < 2 → Shows header s bytes → gate_is_open slot bytes ≡ (slot_header slot header).opened
opened_is slot header s bytes below shows = by (slot_header slot header).opened refl (gate_is_open slot bytes) refl
  where
    shown : ShowsSlot slot (slot_header slot header) (image_at slot s) bytes
    shown = shows_slot_at slot header s bytes below shows

    by : (opened : Bool) → (slot_header slot header).opened ≡ opened → (found : Bool) → gate_is_open slot bytes ≡ found → found ≡ opened
    by true is true e = refl
    by false is false e = refl
    by true is false e = absurd (true≢false (sym ((bytes_eq-Decides (field (gate_place slot) 1 bytes) (open_gate ∷ [])).1 (open_known slot (slot_header slot header) (image_at slot s) bytes shown is)) ∙ e))
    by false is true e = absurd (not_open_known slot (slot_header slot header) (image_at slot s) bytes shown is ((bytes_eq-Decides (field (gate_place slot) 1 bytes) (open_gate ∷ [])).0 e))

gate_inside : (slot size room : ℕ) → 4096 + 2 * room ≤ size → gate_place slot + 1 ≤ size
gate_inside zero size room long = omega (arith, long)
gate_inside (suc k) size room long = omega (arith, long)

entry_inside : (slot : ℕ) (image : List ℕ) (size room : ℕ) → 4096 + 2 * room ≤ size → entry_place slot + length (entry image) ≤ size
entry_inside zero image size room long = omega (arith, long, length-entry image)
entry_inside (suc k) image size room long = omega (arith, long, length-entry image)

same_bytes : (a b : List ℕ) → ◌≡◌ {A = Option (List ℕ)} (Some a) (Some b) → a ≡ b
same_bytes a b e = cc

-- a start whose tests hold
module _ {D : Type 0} (seen : D → Option (List ℕ)) (may_leave : D → List ℕ → Type 0) (rig : D → Option Rigged)
    (rig_reads : (disk : D) (r : Rigged) → rig disk ≡ Some r → seen disk ≡ Some r.bytes) where
  pub makes_begin : (room slot size granted : ℕ) (m : StoreState) (header : DiskHeader) (old : D) (new : Option Rigged) (fails : Bool) → slot < 2 → header.room ≡ room → slot ≢ header.committed → 1 ≤ size → size ≤ room → Settled seen may_leave old header m.slots
      → Makes (begin_calls slot size header) (rig old) new fails → MakesCalls room (Begin slot size granted) m (rig old) new fails
  makes_begin room slot size granted m header old new fails below is other some fits settled made r told =
      subst (λ (these : List Call). (new ≡ Some (after_calls these r)) × (fails ≡ calls_fail these r)) (sym calls) (made r told)
    where
      reads : settled.bytes ≡ r.bytes
      reads = same_bytes settled.bytes r.bytes (sym settled.reads ∙ rig_reads old r told)

      opened : gate_is_open slot r.bytes ≡ (slot_header slot header).opened
      opened = ap (gate_is_open slot) (sym reads) ∙ opened_is slot header m.slots settled.bytes below settled.shows

      calls : deed_calls room (Begin slot size granted) m r.bytes ≡ begin_calls slot size header
      calls = rw (opened, ne_eqb slot header.committed other, le-leb 1 size some, le-leb size header.room (omega (arith, fits, is))) refl

  -- the room of the slots is on the disk
  long_of : (room : ℕ) (header : DiskHeader) (old : D) (s : SlotPair) (r : Rigged) → header.room ≡ room → Settled seen may_leave old header s → rig old ≡ Some r → 4096 + 2 * room ≤ length r.bytes
  long_of room header old s r is settled told =
      subst (λ (bytes : List ℕ). 4096 + 2 * room ≤ length bytes) (same_bytes settled.bytes r.bytes (sym settled.reads ∙ rig_reads old r told))
      (omega (arith, settled.shows.stands.long, is))

  module _ (room : ℕ) (m : StoreState) (header : DiskHeader) (old : D) (is : header.room ≡ room) (settled : Settled seen may_leave old header m.slots) where
    pub within_commit : (slot : ℕ) → CallsWithin room (Commit slot) m (rig old)
    within_commit slot r told = (omega (arith, long_of room header old m.slots r is settled told), tt)

    pub within_recommit : (slot : ℕ) → CallsWithin room (Recommit slot) m (rig old)
    within_recommit slot r told = tt

    pub within_begin : (slot size granted : ℕ) → CallsWithin room (Begin slot size granted) m (rig old)
    within_begin slot size granted r told = by (gate_is_open slot r.bytes)
      where
        by : (opened : Bool) → IsWithin (length r.bytes) (if opened then Write (gate_place slot) (CLOSED_GATE ∷ []) ∷ Sync ∷ [] else [])
        by true = (gate_inside slot (length r.bytes) room (long_of room header old m.slots r is settled told), tt)
        by false = tt

    pub within_seal : (slot : ℕ) (image : List ℕ) → CallsWithin room (Seal slot image) m (rig old)
    within_seal slot image r told =
        let long = long_of room header old m.slots r is settled told in
        (entry_inside slot image (length r.bytes) room long, (gate_inside slot (length r.bytes) room long, tt))

    pub within_put : (granted target size : ℕ) (piece put : List ℕ) (window : Window) → length put + length piece ≤ size → size ≤ header.room → m.download ≡ Some (loading_of target size granted put window) → CallsWithin room (Put (put ++ piece)) m (rig old)
    within_put granted target size piece put window fits in_room loads r told =
        subst (λ (o : Option Loading). IsWithin (length r.bytes) (put_calls room (put ++ piece) o)) (sym loads)
        (subst (λ (bytes : List ℕ). image_place room target + length put + length bytes ≤ length r.bytes) (sym (drop_front put piece)) (inside target), tt)
      where
        long : 4096 + 2 * room ≤ length r.bytes
        long = long_of room header old m.slots r is settled told

        inside : (target : ℕ) → image_place room target + length put + length piece ≤ length r.bytes
        inside zero = omega (arith, long, fits, in_room, is)
        inside (suc k) = omega (arith, long, fits, in_room, is)
