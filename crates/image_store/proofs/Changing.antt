-- What becomes of a disk while something is made of its slots.
use Rattle.std.proofs.Common.{◌≡◌, ◌≢◌, inl, inr, ℕ, zero, suc, ◌==◌, ◌&&◌, ◌≤◌, ◌<◌, not}
use Rattle.std.proofs.Common.{if◌then◌else◌, Bool, true, false, List}
use Rattle.std.proofs.Common.{Option, Some, None, IsSome, refl, sym, ◌∙◌, subst, arith}
use Rattle.std.proofs.lemmas.Bool.{cases_Bool, le-leb, eq-eqb, ne_eqb}
use Rattle.std.specs.Option.{is_some}
use Rattle.slot_spec.specs.declared.Pick.{Pick}
use Rattle.slot_spec.specs.declared.Pick.TheVariants.{Old, New, Byte}
use Rattle.slot_spec.specs.declared.Trap.{Trap}
use Rattle.slot_spec.specs.declared.DiskHeader.{DiskHeader}
use Rattle.slot_spec.specs.Slots.{SlotPair, Change, Keep, Clear, Seal, Commit, mid}
use Rattle.slot_spec.specs.Slots.{with_image, image_at}
use Rattle.slot_spec.specs.Layout.{StandsAt, StandsAmong, GatesHold, open_gate}
use Rattle.slot_spec.specs.Rig.{Rigged}
use Rattle.slot_spec.specs.Outcome.{Reach, Before, Pending, After, reach, deciding_call, slots_left}
use Rattle.slot_spec.specs.Outcome.{slots_read, Leaves}
use Rattle.slot_spec.specs.Header.{slot_header, view_at}
use Rattle.slot_spec.specs.Owner.{Settled}
use Rattle.slot_laws.proofs.Moments.{moments_none, moments_weaker}
use Rattle.slot_laws.proofs.Calls.{none_left}
use Rattle.slot_laws.proofs.Rigs.{rig_stands}
use Rattle.slot_laws.proofs.Gate.{image_none}
use Rattle.image_slots.specs.Answers.{begin_change, seal_change}
use Rattle.image_slots.specs.Answers.{commit_change}
use Rattle.image_store.specs.Carries.{Changed}

-- to clear a slot that has no image keeps the slots
pub without_image : (slot : ℕ) (s : SlotPair) → image_at slot s ≡ None → with_image slot None s ≡ s
without_image zero s none = λ i. record {
  first = sym none i;
  second = s.second;
  committed =
      s.committed;
}
without_image (suc _) s none = λ i.
    record { first = s.first; second = sym none i; committed = s.committed }

module _ (slot : ℕ) (s : SlotPair) (same : with_image slot None s ≡ s) where
  by_gate : (closes : Bool) → (if closes then s else with_image slot None s) ≡ s
  by_gate true = refl
  by_gate false = same

  clear_left : (far : Reach) (pick : Pick) → slots_left far (Clear slot) s pick ≡ s
  clear_left Before pick = refl
  clear_left Pending Old = refl
  clear_left Pending New = same
  clear_left Pending (Byte b) = by_gate (b == open_gate)
  clear_left After pick = same

  clear_read : (far : Reach) → slots_read far (Clear slot) s ≡ s
  clear_read Before = refl
  clear_read Pending = same
  clear_read After = same

  keep_left : (far : Reach) (pick : Pick) → slots_left far Keep s pick ≡ s
  keep_left Before pick = refl
  keep_left Pending Old = refl
  keep_left Pending New = refl
  keep_left Pending (Byte b) = refl
  keep_left After pick = refl

  keep_read : (far : Reach) → slots_read far Keep s ≡ s
  keep_read Before = refl
  keep_read Pending = refl
  keep_read After = refl

  -- a start over a closed gate leaves what it found, as one over an open gate does
  cleared_leaves : (P : List ℕ → SlotPair → Type 0) (trap : Trap) (now : Option Rigged)
      → Leaves P Keep s trap now → Leaves P (Clear slot) s trap now
  cleared_leaves P trap now l = (
    l.0,
    l.1,
    record {
      cuts = λ pick. subst (λ (t : SlotPair). P (l.0.cut pick) t)
          (keep_left (reach (deciding_call Keep) trap) pick
          ∙ sym (clear_left (reach (deciding_call (Clear slot)) trap) pick)) (l.2.cuts pick);
      reads = λ lives. subst (λ (t : SlotPair). P l.0.bytes t)
          (keep_read (reach (deciding_call Keep) trap)
          ∙ sym (clear_read (reach (deciding_call (Clear slot)) trap))) (l.2.reads lives);
    },
  )

module _ {D : Type 0} (may_leave : D → List ℕ → Type 0) (clock : D → ℕ)
    (left_since : D → ℕ → List ℕ → Type 0) (rig : D → Option Rigged) where
  -- a disk of slots that nothing is made of
  pub changed_none : (seen : D → Option (List ℕ))
      → ((disk : D) (r : Rigged) → rig disk ≡ Some r → seen disk ≡ Some r.bytes)
      → ((disk : D) (r : Rigged) (pick : Pick) → rig disk ≡ Some r → may_leave disk (r.cut pick))
      → ((disk : D) (image : List ℕ) → left_since disk (clock disk) image → may_leave disk image)
      → (room : ℕ) (disk : D) (header : DiskHeader) (s : SlotPair) → header.room ≡ room
      → Settled seen may_leave disk header s
      → Changed may_leave clock left_since rig room Keep s disk disk
  changed_none seen rig_reads cut_counts only_now room disk header s is settled =
      subst (λ (n : ℕ). Changed may_leave clock left_since rig n Keep s disk disk) is (record {
        moments = moments_none clock left_since may_leave disk (StandsAmong header.room (mid Keep s))
            (only_now disk) (λ image left. inl (settled.crash image left).stands);
        length = λ size long. long;
        outcome = λ r told. (
          r,
          told,
          none_left (StandsAt header.room) s _ r
              (rig_stands seen may_leave rig rig_reads cut_counts disk header s r told settled),
        );
        gates = λ r told holds. (r, told, none_left GatesHold s _ r holds);
      })

  -- in a room that is the header's
  pub changed_at : (room : ℕ) (change : Change) (s : SlotPair) (header : DiskHeader) (old new : D)
      → header.room ≡ room → Changed may_leave clock left_since rig header.room change s old new
      → Changed may_leave clock left_since rig room change s old new
  changed_at room change s header old new is c =
      subst (λ (n : ℕ). Changed may_leave clock left_since rig n change s old new) is c

  -- and one in which a start finds the gate closed
  changed_cleared : (room slot : ℕ) (s : SlotPair) (old new : D) → image_at slot s ≡ None
      → Changed may_leave clock left_since rig room Keep s old new
      → Changed may_leave clock left_since rig room (Clear slot) s old new
  changed_cleared room slot s old new none c =
      let same = without_image slot s none in
      record {
        moments = moments_weaker clock left_since may_leave old new (StandsAmong room (mid Keep s))
            (StandsAmong room (mid (Clear slot) s)) c.moments (λ image among. first image among);
        length = c.length;
        outcome = λ r told. cleared_leaves slot s same (StandsAt room) r.trap (rig new)
            (c.outcome r told);
        gates = λ r told holds. cleared_leaves slot s same GatesHold r.trap (rig new)
            (c.gates r told holds);
      }
    where
      first : (image : List ℕ) → StandsAmong room (mid Keep s) image
          → StandsAmong room (mid (Clear slot) s) image
      first image (inl stands) = inl stands
      first image (inr out) = absurd out

  -- a start whose tests hold
  pub changed_begin : (seen : D → Option (List ℕ)) (room slot size : ℕ) (s : SlotPair)
      (header : DiskHeader) (old new : D) → slot < 2 → header.room ≡ room → slot ≢ header.committed
      → 1 ≤ size → size ≤ room → Settled seen may_leave old header s
      → Changed may_leave clock left_since rig header.room (begin_change slot size header) s old new
      → Changed may_leave clock left_since rig room (Clear slot) s old new
  changed_begin seen room slot size s header old new below is other some fits settled c =
      subst (λ (n : ℕ). Changed may_leave clock left_since rig n (Clear slot) s old new) is
      (elim (cases_Bool (slot_header slot header).opened) [
        | inl opened ↦ subst (λ (x : Change). Changed may_leave clock left_since rig header.room
            x s old new) (change true opened) c
        | inr shut ↦ changed_cleared header.room slot s old new
            (image_none slot header s settled.bytes below settled.shows shut)
            (subst (λ (x : Change). Changed may_leave clock left_since rig header.room x s old new) (change false shut) c)
      ])
    where
      change : (shown : Bool) → (slot_header slot header).opened ≡ shown
          → begin_change slot size header ≡ (if shown then Clear slot else Keep)
      change shown opened = rw (
        ne_eqb slot header.committed other,
        le-leb 1 size some,
        le-leb size
            header.room (omega (arith, fits, is)),
        opened,
      ) refl

-- an end whose tests hold
pub seal_change_is : (check given target have size computed : ℕ) (put : List ℕ) → have ≡ size
    → given ≡ have → check ≡ computed → seal_change check given target have size computed put ≡ Seal
    target put
seal_change_is check given target have size computed put whole asked checks =
    rw (eq-eqb have size whole, eq-eqb given have asked, eq-eqb computed check (sym checks)) refl

-- a commit of the other slot, and one of the committed slot
pub commit_change_other : (slot : ℕ) (header : DiskHeader) → IsSome (view_at slot header)
    → slot ≢ header.committed → commit_change slot header ≡ Commit slot
commit_change_other slot header some other = by (is_some (view_at slot header)) some
  where
    by : (valid : Bool) → valid ≡ true
        → (if valid && not (slot == header.committed) then Commit slot else Keep) ≡ Commit slot
    by valid is = rw (is, ne_eqb slot header.committed other) refl

pub commit_change_same : (slot : ℕ) (header : DiskHeader) → IsSome (view_at slot header)
    → slot ≡ header.committed → commit_change slot header ≡ Keep
commit_change_same slot header some same = by (is_some (view_at slot header)) some
  where
    by : (valid : Bool) → valid ≡ true
        → (if valid && not (slot == header.committed) then Commit slot else Keep) ≡ Keep
    by valid is = rw (is, eq-eqb slot header.committed same) refl
