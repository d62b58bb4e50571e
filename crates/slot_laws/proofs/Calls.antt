-- The calls of a disk that can be made to fail: one after the other, and a write with the sync
-- after it.
use Rattle.std.proofs.Common.{◌≡◌, inl, inr, ℕ, zero, suc, ◌-◌, ◌&&◌, ◌||◌, not, Bool, true, false, if◌then◌else◌, nat_le, nat_lt, List, [], ◌∷◌, ◌++◌, length, Option, Some, refl, sym, ◌∙◌, ap, subst, arith}
use Rattle.std.proofs.lemmas.Bool.{true≢false, cases_Bool, lt-leb, le-ltb}
use Rattle.slot_spec.specs.declared.Pick.{Pick}
use Rattle.slot_spec.specs.declared.Pick.TheVariants.{Old, New, Byte}
use Rattle.slot_spec.specs.declared.Trap.{Trap}
use Rattle.slot_spec.specs.declared.Trap.TheVariants.{Fuse, Fail, Clear}
use Rattle.slot_spec.specs.Slots.{SlotPair, Change, Keep, after_change}
use Rattle.slot_spec.specs.Rig.{Rigged, Call, Write, Sync, with_bytes, cut_with_bytes, in_disk, after_call, after_write, call_fails, trap_is_met, trap_after, fuse_is_met, fuse_is_spent, after_calls, calls_fail, Makes, RigHolds}
use Rattle.slot_spec.specs.Outcome.{Reach, Before, Pending, After, reach, slots_pending, slots_left, slots_read, LeftAs}

-- calls one list after the other
pub after_calls-append : (a b : List Call) (r : Rigged) → calls_fail a r ≡ false → after_calls (a ++ b) r ≡ after_calls b (after_calls a r)
unfolding after_calls calls_fail
after_calls-append [] b r goes = refl
after_calls-append (call ∷ a) b r goes = elim (cases_Bool (call_fails call r)) [
  | inl stops ↦ absurd (true≢false (sym (ap (λ (s : Bool). if s then true else calls_fail a (after_call call r)) stops) ∙ goes))
  | inr on ↦
      let rest : calls_fail a (after_call call r) ≡ false = sym (ap (λ (s : Bool). if s then true else calls_fail a (after_call call r)) on) ∙ goes in
      ap (λ (s : Bool). if s then after_call call r else after_calls (a ++ b) (after_call call r)) on ∙ after_calls-append a b (after_call call r) rest ∙ sym (ap (λ (s : Bool). after_calls b (if s then after_call call r else after_calls a (after_call call r))) on)
]

pub calls_fail-append : (a b : List Call) (r : Rigged) → calls_fail a r ≡ false → calls_fail (a ++ b) r ≡ calls_fail b (after_calls a r)
unfolding after_calls calls_fail
calls_fail-append [] b r goes = refl
calls_fail-append (call ∷ a) b r goes = elim (cases_Bool (call_fails call r)) [
  | inl stops ↦ absurd (true≢false (sym (ap (λ (s : Bool). if s then true else calls_fail a (after_call call r)) stops) ∙ goes))
  | inr on ↦
      let rest : calls_fail a (after_call call r) ≡ false = sym (ap (λ (s : Bool). if s then true else calls_fail a (after_call call r)) on) ∙ goes in
      ap (λ (s : Bool). if s then true else calls_fail (a ++ b) (after_call call r)) on ∙ calls_fail-append a b (after_call call r) rest ∙ sym (ap (λ (s : Bool). calls_fail b (if s then after_call call r else after_calls a (after_call call r))) on)
]

pub after_calls-stopped : (a b : List Call) (r : Rigged) → calls_fail a r ≡ true → (after_calls (a ++ b) r ≡ after_calls a r) × (calls_fail (a ++ b) r ≡ true)
unfolding after_calls calls_fail
after_calls-stopped [] b r stops = absurd (true≢false (sym stops))
after_calls-stopped (call ∷ a) b r stops = elim (cases_Bool (call_fails call r)) [
  | inl here ↦ (ap (λ (s : Bool). if s then after_call call r else after_calls (a ++ b) (after_call call r)) here ∙ sym (ap (λ (s : Bool). if s then after_call call r else after_calls a (after_call call r)) here), ap (λ (s : Bool). if s then true else calls_fail (a ++ b) (after_call call r)) here)
  | inr on ↦
      let rest : calls_fail a (after_call call r) ≡ true = sym (ap (λ (s : Bool). if s then true else calls_fail a (after_call call r)) on) ∙ stops in
      let later = after_calls-stopped a b (after_call call r) rest in
      (ap (λ (s : Bool). if s then after_call call r else after_calls (a ++ b) (after_call call r)) on ∙ later.0 ∙ sym (ap (λ (s : Bool). if s then after_call call r else after_calls a (after_call call r)) on), ap (λ (s : Bool). if s then true else calls_fail (a ++ b) (after_call call r)) on ∙ later.1)
]

-- calls that were made after others, of which none failed
pub makes-then : (a b : List Call) (old middle new : Option Rigged) (failed : Bool) → Makes a old middle false → Makes b middle new failed → Makes (a ++ b) old new failed
makes-then a b old middle new failed first second = λ r is.
    let f = first r is in
    let s = second (after_calls a r) f.0 in
    (s.0 ∙ ap (λ (q : Rigged). Some q) (sym (after_calls-append a b r (sym f.1))), s.1 ∙ sym (calls_fail-append a b r (sym f.1)))

-- calls of which one failed are the last
pub makes-stopped : (a b : List Call) (old new : Option Rigged) → Makes a old new true → Makes (a ++ b) old new true
makes-stopped a b old new first = λ r is.
    let f = first r is in
    let s = after_calls-stopped a b r (sym f.1) in
    (f.0 ∙ ap (λ (q : Rigged). Some q) (sym s.0), sym s.1)

pub one_call : (call : Call) (r : Rigged) → after_calls (call ∷ []) r ≡ after_call call r
unfolding after_calls
one_call call r = elim (cases_Bool (call_fails call r)) [
  | inl fails ↦ ap (λ (b : Bool). if b then after_call call r else after_call call r) fails
  | inr goes ↦ ap (λ (b : Bool). if b then after_call call r else after_call call r) goes
]

pub one_call_fails : (call : Call) (r : Rigged) → calls_fail (call ∷ []) r ≡ call_fails call r
unfolding calls_fail
one_call_fails call r = elim (cases_Bool (call_fails call r)) [
  | inl fails ↦ ap (λ (b : Bool). if b then true else false) fails ∙ sym fails
  | inr goes ↦ ap (λ (b : Bool). if b then true else false) goes ∙ sym goes
]

-- what a cut leaves of a write and a sync, by how far they came
abbrev pub two_cut : Reach → ℕ → List ℕ → Rigged → Pick → List ℕ
two_cut Before at new r pick = r.cut pick
two_cut Pending at new r pick = cut_with_bytes at new r.cut pick
two_cut After at new r pick = with_bytes at new r.bytes

-- what the disk then reads as
abbrev pub two_read : Reach → ℕ → List ℕ → Rigged → List ℕ
two_read Before at new r = r.bytes
two_read Pending at new r = with_bytes at new r.bytes
two_read After at new r = with_bytes at new r.bytes

pub two_calls : (at : ℕ) (new : List ℕ) (r : Rigged) → in_disk at (length new) r ≡ true → (pick : Pick) → (after_calls (Write at new ∷ Sync ∷ []) r).cut pick ≡ two_cut (reach 1 r.trap) at new r pick
unfolding after_calls
two_calls at new r inside pick = by r.trap
  where
    by : (trap : Trap) → (after_calls (Write at new ∷ Sync ∷ []) (record r { trap = trap })).cut pick ≡ two_cut (reach 1 trap) at new r pick
    by Clear = rw inside refl
    by (Fail zero) = refl
    by (Fail (suc zero)) = refl
    by (Fail (suc (suc zero))) = rw inside refl
    by (Fail (suc (suc (suc call)))) =
        let one : nat_le (suc (suc (suc call))) 1 ≡ false = lt-leb (suc (suc (suc call))) 1 (omega arith) in
        let next : nat_le (suc (suc (suc call)) - 1) 1 ≡ false = lt-leb (suc (suc (suc call)) - 1) 1 (omega arith) in
        let two : nat_le (suc (suc (suc call))) 2 ≡ false = lt-leb (suc (suc (suc call))) 2 (omega arith) in
        rw (inside, one, next, two) refl
    by (Fuse zero p) = refl
    by (Fuse (suc zero) p) = rw inside refl
    by (Fuse (suc (suc zero)) p) = rw inside refl
    by (Fuse (suc (suc (suc call))) p) =
        let one : nat_le (suc (suc (suc call))) 1 ≡ false = lt-leb (suc (suc (suc call))) 1 (omega arith) in
        let next : nat_le (suc (suc (suc call)) - 1) 1 ≡ false = lt-leb (suc (suc (suc call)) - 1) 1 (omega arith) in
        let two : nat_le (suc (suc (suc call))) 2 ≡ false = lt-leb (suc (suc (suc call))) 2 (omega arith) in
        let low : nat_lt (suc (suc (suc call))) 1 ≡ false = le-ltb (suc (suc (suc call))) 1 (omega arith) in
        rw (inside, one, next, two, low) refl

pub two_reads : (at : ℕ) (new : List ℕ) (r : Rigged) → in_disk at (length new) r ≡ true → fuse_is_spent (after_calls (Write at new ∷ Sync ∷ []) r).trap ≡ false → (after_calls (Write at new ∷ Sync ∷ []) r).bytes ≡ two_read (reach 1 r.trap) at new r
unfolding after_calls
two_reads at new r inside = by r.trap
  where
    by : (trap : Trap) → fuse_is_spent (after_calls (Write at new ∷ Sync ∷ []) (record r { trap = trap })).trap ≡ false → (after_calls (Write at new ∷ Sync ∷ []) (record r { trap = trap })).bytes ≡ two_read (reach 1 trap) at new r
    by Clear lives = rw inside refl
    by (Fail zero) lives = refl
    by (Fail (suc zero)) lives = refl
    by (Fail (suc (suc zero))) lives = rw inside refl
    by (Fail (suc (suc (suc call)))) lives =
        let one : nat_le (suc (suc (suc call))) 1 ≡ false = lt-leb (suc (suc (suc call))) 1 (omega arith) in
        let next : nat_le (suc (suc (suc call)) - 1) 1 ≡ false = lt-leb (suc (suc (suc call)) - 1) 1 (omega arith) in
        let two : nat_le (suc (suc (suc call))) 2 ≡ false = lt-leb (suc (suc (suc call))) 2 (omega arith) in
        rw (inside, one, next, two) refl
    by (Fuse zero p) lives = absurd (true≢false lives)
    by (Fuse (suc zero) p) lives = absurd (true≢false lives)
    by (Fuse (suc (suc zero)) p) lives = absurd (true≢false (rw inside at lives))
    by (Fuse (suc (suc (suc call))) p) lives =
        let one : nat_le (suc (suc (suc call))) 1 ≡ false = lt-leb (suc (suc (suc call))) 1 (omega arith) in
        let next : nat_le (suc (suc (suc call)) - 1) 1 ≡ false = lt-leb (suc (suc (suc call)) - 1) 1 (omega arith) in
        let two : nat_le (suc (suc (suc call))) 2 ≡ false = lt-leb (suc (suc (suc call))) 2 (omega arith) in
        let low : nat_lt (suc (suc (suc call))) 1 ≡ false = le-ltb (suc (suc (suc call))) 1 (omega arith) in
        rw (inside, one, next, two, low) refl

-- a write and a sync that were both done
pub two_done : (at : ℕ) (new : List ℕ) (r : Rigged) → in_disk at (length new) r ≡ true → calls_fail (Write at new ∷ Sync ∷ []) r ≡ false → after_calls (Write at new ∷ Sync ∷ []) r ≡ record { bytes = with_bytes at new r.bytes; cut = λ pick. with_bytes at new r.bytes; trap = trap_after (trap_after r.trap) }
unfolding after_calls calls_fail
two_done at new r inside = by r.trap
  where
    by : (trap : Trap) → calls_fail (Write at new ∷ Sync ∷ []) (record r { trap = trap }) ≡ false → after_calls (Write at new ∷ Sync ∷ []) (record r { trap = trap }) ≡ record { bytes = with_bytes at new r.bytes; cut = λ pick. with_bytes at new r.bytes; trap = trap_after (trap_after trap) }
    by Clear goes = rw inside refl
    by (Fail zero) goes = absurd (true≢false goes)
    by (Fail (suc zero)) goes = absurd (true≢false goes)
    by (Fail (suc (suc zero))) goes = absurd (true≢false (rw inside at goes))
    by (Fail (suc (suc (suc call)))) goes =
        let one : nat_le (suc (suc (suc call))) 1 ≡ false = lt-leb (suc (suc (suc call))) 1 (omega arith) in
        let next : nat_le (suc (suc (suc call)) - 1) 1 ≡ false = lt-leb (suc (suc (suc call)) - 1) 1 (omega arith) in
        rw (inside, one, next) refl
    by (Fuse zero p) goes = absurd (true≢false goes)
    by (Fuse (suc zero) p) goes = absurd (true≢false goes)
    by (Fuse (suc (suc zero)) p) goes = absurd (true≢false (rw inside at goes))
    by (Fuse (suc (suc (suc call))) p) goes =
        let one : nat_le (suc (suc (suc call))) 1 ≡ false = lt-leb (suc (suc (suc call))) 1 (omega arith) in
        let next : nat_le (suc (suc (suc call)) - 1) 1 ≡ false = lt-leb (suc (suc (suc call)) - 1) 1 (omega arith) in
        rw (inside, one, next) refl

-- where the first two of four calls stop, the third decides nothing; else it is the first of those
-- left
pub two_stopped : (at : ℕ) (new : List ℕ) (r : Rigged) → in_disk at (length new) r ≡ true → calls_fail (Write at new ∷ Sync ∷ []) r ≡ true → reach 3 r.trap ≡ Before
unfolding calls_fail
two_stopped at new r inside = by r.trap
  where
    by : (trap : Trap) → calls_fail (Write at new ∷ Sync ∷ []) (record r { trap = trap }) ≡ true → reach 3 trap ≡ Before
    by Clear stops = absurd (true≢false (sym stops ∙ rw inside refl))
    by (Fail zero) stops = refl
    by (Fail (suc zero)) stops = refl
    by (Fail (suc (suc zero))) stops = refl
    by (Fail (suc (suc (suc call)))) stops =
        let one : nat_le (suc (suc (suc call))) 1 ≡ false = lt-leb (suc (suc (suc call))) 1 (omega arith) in
        let next : nat_le (suc (suc (suc call)) - 1) 1 ≡ false = lt-leb (suc (suc (suc call)) - 1) 1 (omega arith) in
        absurd (true≢false (sym stops ∙ rw (inside, one, next) refl))
    by (Fuse zero p) stops = refl
    by (Fuse (suc zero) p) stops = refl
    by (Fuse (suc (suc zero)) p) stops = refl
    by (Fuse (suc (suc (suc call))) p) stops =
        let one : nat_le (suc (suc (suc call))) 1 ≡ false = lt-leb (suc (suc (suc call))) 1 (omega arith) in
        let next : nat_le (suc (suc (suc call)) - 1) 1 ≡ false = lt-leb (suc (suc (suc call)) - 1) 1 (omega arith) in
        absurd (true≢false (sym stops ∙ rw (inside, one, next) refl))

pub two_left : (at : ℕ) (new : List ℕ) (r : Rigged) → in_disk at (length new) r ≡ true → calls_fail (Write at new ∷ Sync ∷ []) r ≡ false → reach 1 (trap_after (trap_after r.trap)) ≡ reach 3 r.trap
unfolding calls_fail
two_left at new r inside = by r.trap
  where
    by : (trap : Trap) → calls_fail (Write at new ∷ Sync ∷ []) (record r { trap = trap }) ≡ false → reach 1 (trap_after (trap_after trap)) ≡ reach 3 trap
    by Clear goes = refl
    by (Fail zero) goes = absurd (true≢false goes)
    by (Fail (suc zero)) goes = absurd (true≢false goes)
    by (Fail (suc (suc zero))) goes = absurd (true≢false (rw inside at goes))
    by (Fail (suc (suc (suc zero)))) goes = refl
    by (Fail (suc (suc (suc (suc zero))))) goes = refl
    by (Fail (suc (suc (suc (suc (suc call)))))) goes = rw (lt-leb (suc (suc (suc (suc (suc call))))) 1 (omega arith), lt-leb ((suc (suc (suc (suc (suc call))))) - 1) 1 (omega arith), lt-leb ((suc (suc (suc (suc (suc call))))) - 1 - 1) 1 (omega arith), lt-leb ((suc (suc (suc (suc (suc call))))) - 1 - 1) 2 (omega arith), lt-leb (suc (suc (suc (suc (suc call))))) 3 (omega arith), lt-leb (suc (suc (suc (suc (suc call))))) 4 (omega arith)) refl
    by (Fuse zero p) goes = absurd (true≢false goes)
    by (Fuse (suc zero) p) goes = absurd (true≢false goes)
    by (Fuse (suc (suc zero)) p) goes = absurd (true≢false (rw inside at goes))
    by (Fuse (suc (suc (suc zero))) p) goes = refl
    by (Fuse (suc (suc (suc (suc zero)))) p) goes = refl
    by (Fuse (suc (suc (suc (suc (suc call))))) p) goes = rw (le-ltb ((suc (suc (suc (suc (suc call))))) - 1 - 1) 1 (omega arith), lt-leb ((suc (suc (suc (suc (suc call))))) - 1 - 1) 2 (omega arith), le-ltb (suc (suc (suc (suc (suc call))))) 3 (omega arith), lt-leb (suc (suc (suc (suc (suc call))))) 4 (omega arith)) refl

-- What is left has P, by how far the calls came. Each law asks for P of the disk as it was, of the
-- writes that count for a cut, and of those that are done.
module _ (P : List ℕ → SlotPair → Type 0) (s : SlotPair) where
  -- a request that keeps the slots leaves them, however far it came
  keep_left : (far : Reach) (pick : Pick) → slots_left far Keep s pick ≡ s
  keep_left Before pick = refl
  keep_left Pending Old = refl
  keep_left Pending New = refl
  keep_left Pending (Byte b) = refl
  keep_left After pick = refl

  keep_read : (far : Reach) → slots_read far Keep s ≡ s
  keep_read Before = refl
  keep_read Pending = refl
  keep_read After = refl

  -- no call
  pub none_left : (far : Reach) (r : Rigged) → RigHolds P s r → LeftAs P far Keep s r
  none_left far r holds = record {
    cuts = λ pick. subst (λ t. P (r.cut pick) t) (sym (keep_left far pick)) (holds.cuts pick);
    reads = λ lives. subst (λ t. P r.bytes t) (sym (keep_read far)) holds.reads;
  }

  -- a write alone
  write_holds : (at : ℕ) (new : List ℕ) (done counts : Bool) (r : Rigged) → RigHolds P s r → ((pick : Pick) → P (cut_with_bytes at new r.cut pick) s) → P (with_bytes at new r.bytes) s → RigHolds P s (after_write at new done counts r)
  write_holds at new done counts r holds pending after = record { reads = read done; cuts = λ pick. cut counts pick }
    where
      read : (b : Bool) → P (if b then with_bytes at new r.bytes else r.bytes) s
      read true = after
      read false = holds.reads

      cut : (b : Bool) (pick : Pick) → P ((if b then cut_with_bytes at new r.cut else r.cut) pick) s
      cut true pick = pending pick
      cut false pick = holds.cuts pick

  pub one_left : (far : Reach) (at : ℕ) (new : List ℕ) (r : Rigged) → RigHolds P s r → ((pick : Pick) → P (cut_with_bytes at new r.cut pick) s) → P (with_bytes at new r.bytes) s → LeftAs P far Keep s (after_calls (Write at new ∷ []) r)
  one_left far at new r holds pending after =
      subst (λ q. LeftAs P far Keep s q) (sym (one_call (Write at new) r))
      (none_left far (after_call (Write at new) r) (write_holds at new (not (trap_is_met r.trap) && in_disk at (length new) r) ((not (trap_is_met r.trap) || fuse_is_met r.trap) && in_disk at (length new) r) r holds pending after))

  -- a write and its sync
  pub two_left_as : (change : Change) (at : ℕ) (new : List ℕ) (r : Rigged) → in_disk at (length new) r ≡ true → RigHolds P s r → ((pick : Pick) → P (cut_with_bytes at new r.cut pick) (slots_pending change s pick)) → P (with_bytes at new r.bytes) (after_change change s)
      → LeftAs P (reach 1 r.trap) change s (after_calls (Write at new ∷ Sync ∷ []) r)
  two_left_as change at new r inside holds pending after = record {
    cuts = λ pick. subst (λ b. P b (slots_left (reach 1 r.trap) change s pick)) (sym (two_calls at new r inside pick)) (cut (reach 1 r.trap) pick);
    reads = λ lives. subst (λ b. P b (slots_read (reach 1 r.trap) change s)) (sym (two_reads at new r inside lives)) (read (reach 1 r.trap));
  }
    where
      cut : (far : Reach) (pick : Pick) → P (two_cut far at new r pick) (slots_left far change s pick)
      cut Before pick = holds.cuts pick
      cut Pending pick = pending pick
      cut After pick = after

      read : (far : Reach) → P (two_read far at new r) (slots_read far change s)
      read Before = holds.reads
      read Pending = after
      read After = after

  -- what keeps the slots is what stands before a deciding write
  before_left : (far : Reach) (change : Change) (r : Rigged) → LeftAs P far Keep s r → LeftAs P Before change s r
  before_left far change r left = record {
    cuts = λ pick. subst (λ t. P (r.cut pick) t) (keep_left far pick) (left.cuts pick);
    reads = λ lives. subst (λ t. P r.bytes t) (keep_read far) (left.reads lives);
  }

  -- two writes, each with its sync, of which the second one decides
  pub four_left_as : (change : Change) (at : ℕ) (new : List ℕ) (next : ℕ) (last : List ℕ) (r : Rigged) → in_disk at (length new) r ≡ true
      → in_disk next (length last) (record { bytes = with_bytes at new r.bytes; cut = λ pick. with_bytes at new r.bytes; trap = trap_after (trap_after r.trap) }) ≡ true
      → RigHolds P s r → ((pick : Pick) → P (cut_with_bytes at new r.cut pick) s) → P (with_bytes at new r.bytes) s
      → ((pick : Pick) → P (cut_with_bytes next last (λ pick. with_bytes at new r.bytes) pick) (slots_pending change s pick)) → P (with_bytes next last (with_bytes at new r.bytes)) (after_change change s)
      → LeftAs P (reach 3 r.trap) change s (after_calls ((Write at new ∷ Sync ∷ []) ++ (Write next last ∷ Sync ∷ [])) r)
  four_left_as change at new next last r inside inside-next holds pending after deciding decided =
      let first : List Call = Write at new ∷ Sync ∷ [] in
      let second : List Call = Write next last ∷ Sync ∷ [] in
      let middle : Rigged = record { bytes = with_bytes at new r.bytes; cut = λ pick. with_bytes at new r.bytes; trap = trap_after (trap_after r.trap) } in
      elim (cases_Bool (calls_fail first r)) [
        | inl fails ↦
            let left : LeftAs P (reach 1 r.trap) Keep s (after_calls first r) = two_left_as Keep at new r inside holds (λ pick. subst (λ t. P (cut_with_bytes at new r.cut pick) t) (sym (keep_left Pending pick)) (pending pick)) after in
            subst (λ far. LeftAs P far change s (after_calls (first ++ second) r)) (sym (two_stopped at new r inside fails))
            (subst (λ q. LeftAs P Before change s q) (sym (after_calls-stopped first second r fails).0) (before_left (reach 1 r.trap) change (after_calls first r) left))
        | inr goes ↦
            let is : after_calls (first ++ second) r ≡ after_calls second middle = after_calls-append first second r goes ∙ ap (λ (q : Rigged). after_calls second q) (two_done at new r inside goes) in
            subst (λ far. LeftAs P far change s (after_calls (first ++ second) r)) (two_left at new r inside goes)
            (subst (λ q. LeftAs P (reach 1 middle.trap) change s q) (sym is)
            (two_left_as change next last middle inside-next (record { reads = after; cuts = λ pick. after }) deciding decided))
      ]
