-- Slots that papers explain stay so over each entry and its change.
use Rattle.std.proofs.Common.{◌≡◌, ◌≢◌, ℕ, zero, suc, ◌<◌, true, List}
use Rattle.std.proofs.Common.{Option, Some, None, IsSome, refl, sym, ◌∙◌, subst, arith}
use Rattle.std.proofs.lemmas.Bool.{false≢true}
use Rattle.frame_spec.specs.Checksum.{crc}
use Rattle.slot_spec.specs.Slots.{SlotPair, image_at, with_image, with_committed}
use Rattle.store_laws.specs.Explained.{FromPapers, ExplainedBy}
use Rattle.store_spec.specs.History.{Checked, CommitBegun, Committed, Ledger, papers_at, with_entry}
use Rattle.store_spec.specs.History.{first_ledger, BootableBy}

none_some : (i : List ℕ) → ◌≡◌ {A = Option (List ℕ)} None (Some i) → ⊥
none_some i e = cc

same_some : (i j : List ℕ) → ◌≡◌ {A = Option (List ℕ)} (Some i) (Some j) → i ≡ j
same_some i j e = cc

some_of : (o : Option (List ℕ)) → IsSome o → (i : List ℕ) × (o ≡ Some i)
some_of None some = absurd (false≢true some)
some_of (Some i) some = (i, refl)

explained_at : (k : ℕ) (l : Ledger) (s : SlotPair) → FromPapers l.first s.first
    → FromPapers l.second s.second → FromPapers (papers_at k l) (image_at k s)
explained_at zero l s first second = first
explained_at (suc _) l s first second = second

pub bootable : (l : Ledger) (s : SlotPair) → ExplainedBy l s → BootableBy l s
bootable l s right =
    let there = some_of (image_at s.committed s) right.some in
    let e = explained_at s.committed l s right.first right.second there.0 there.1 in
    record {
      image = there.0;
      there = there.1;
      named = right.named;
      begun = right.begun;
      same =
          e.0;
      checked = e.1;
    }

-- at the beginning
pub explained_first : (s : SlotPair) → s.committed < 2 → IsSome (image_at s.committed s)
    → ExplainedBy (first_ledger s) s
explained_first s below some = by s.first s.second s.committed below some
  where
    by : (a b : Option (List ℕ)) (k : ℕ) → k < 2
        → IsSome (image_at k (record { first = a; second = b; committed = k }))
        → ExplainedBy (first_ledger (record { first = a; second = b; committed = k }))
        (record { first = a; second = b; committed = k })
    by a b zero below some = record {
      some = some;
      named = refl;
      begun = refl;
      first =
          λ i is. (is, tt);
      second = λ i is. (is, tt);
    }
    by a b (suc zero) below some = record {
      some = some;
      named = refl;
      begun = refl;
      first =
          λ i is. (is, tt);
      second = λ i is. (is, tt);
    }
    by a b (suc (suc _)) below some = absurd (omega arith)

-- a slot that isn't committed loses its image
pub explained_without : (l : Ledger) (s : SlotPair) (t : ℕ) → t < 2 → s.committed < 2
    → t ≢ s.committed → ExplainedBy l s → ExplainedBy l (with_image t None s)
explained_without l s zero below low other e = record {
  some = at s.committed e.some other;
  named = e.named;
  begun = e.begun;
  first = λ i is. absurd (none_some i is);
  second = e.second;
}
  where
    at : (k : ℕ) → IsSome (image_at k s) → zero ≢ k
        → IsSome (image_at k (record { first = None; second = s.second; committed = s.committed }))
    at zero some other = absurd (other refl)
    at (suc _) some other = some
explained_without l s (suc zero) below low other e = record {
  some = at s.committed low e.some other;
  named = e.named;
  begun = e.begun;
  first = e.first;
  second = λ i is. absurd (none_some i is);
}
  where
    at : (k : ℕ) → k < 2 → IsSome (image_at k s) → suc zero ≢ k
        → IsSome (image_at k (record { first = s.first; second = None; committed = s.committed }))
    at zero low some other = some
    at (suc zero) low some other = absurd (other refl)
    at (suc (suc _)) low some other = absurd (omega arith)
explained_without l s (suc (suc _)) below low other e = absurd (omega arith)

module _ (l : Ledger) (s : SlotPair) (image : List ℕ) (check : ℕ) (e : ExplainedBy l s) where
  -- a check of an image for a slot that has none and isn't committed
  pub explained_check : (t : ℕ) → t < 2 → t ≢ s.committed → image_at t s ≡ None
      → ExplainedBy (with_entry (Checked t image check) l) s
  explained_check zero below other none = record {
    some = e.some;
    named = at s.committed other e.named;
    begun = begun_at s.committed other e.begun;
    first = λ i is. absurd (none_some i (sym none ∙ is));
    second = e.second;
  }
    where
      at : (k : ℕ) → zero ≢ k → (papers_at k l).named ≡ true
          → (papers_at k (with_entry (Checked zero image check) l)).named ≡ true
      at zero other is = absurd (other refl)
      at (suc _) other is = is

      begun_at : (k : ℕ) → zero ≢ k → (papers_at k l).begun ≡ true
          → (papers_at k (with_entry (Checked zero image check) l)).begun ≡ true
      begun_at zero other is = absurd (other refl)
      begun_at (suc _) other is = is
  explained_check (suc zero) below other none = record {
    some = e.some;
    named = at s.committed other e.named e.some;
    begun = begun_at s.committed other e.begun e.some;
    first = e.first;
    second = λ i is. absurd (none_some i (sym none ∙ is));
  }
    where
      at : (k : ℕ) → suc zero ≢ k → (papers_at k l).named ≡ true → IsSome (image_at k s)
          → (papers_at k (with_entry (Checked (suc zero) image check) l)).named ≡ true
      at zero other is some = is
      at (suc k) other is some = absurd
          (false≢true (subst (λ (o : Option (List ℕ)). IsSome o) none some))

      begun_at : (k : ℕ) → suc zero ≢ k → (papers_at k l).begun ≡ true → IsSome (image_at k s)
          → (papers_at k (with_entry (Checked (suc zero) image check) l)).begun ≡ true
      begun_at zero other is some = is
      begun_at (suc k) other is some = absurd
          (false≢true (subst (λ (o : Option (List ℕ)). IsSome o) none some))
  explained_check (suc (suc _)) below other none = absurd (omega arith)

  -- and the slots with that image
  pub explained_image : (t : ℕ) → t < 2 → t ≢ s.committed → image_at t s ≡ None → check ≡ crc image
      → ExplainedBy (with_entry (Checked t image check) l) (with_image t (Some image) s)
  explained_image zero below other none checks = record {
    some = at s.committed other e.some;
    named = (explained_check zero below other none).named;
    begun = (explained_check zero below other none).begun;
    first = λ i is. (is, subst (λ (x : List ℕ). check ≡ crc x) (same_some image i is) checks);
    second = e.second;
  }
    where
      at : (k : ℕ) → zero ≢ k → IsSome (image_at k s)
          → IsSome (image_at k (with_image zero (Some image) s))
      at zero other some = refl
      at (suc _) other some = some
  explained_image (suc zero) below other none checks = record {
    some = at s.committed e.some;
    named = (explained_check (suc zero) below other none).named;
    begun = (explained_check (suc zero) below other none).begun;
    first = e.first;
    second = λ i is. (is, subst (λ (x : List ℕ). check ≡ crc x) (same_some image i is) checks);
  }
    where
      at : (k : ℕ) → IsSome (image_at k s)
          → IsSome (image_at k (with_image (suc zero) (Some image) s))
      at zero some = some
      at (suc _) some = refl
  explained_image (suc (suc _)) below other none checks = absurd (omega arith)

module _ (l : Ledger) (s : SlotPair) (e : ExplainedBy l s) where
  first_begun : (k : ℕ) → FromPapers (with_entry (CommitBegun k) l).first s.first
  first_begun zero = e.first
  first_begun (suc _) = e.first

  second_begun : (k : ℕ) → FromPapers (with_entry (CommitBegun k) l).second s.second
  second_begun zero = e.second
  second_begun (suc _) = e.second

  -- a commit that is begun takes nothing away
  pub explained_begun : (k : ℕ) → ExplainedBy (with_entry (CommitBegun k) l) s
  explained_begun k = record {
    some = e.some;
    named = named k s.committed e.named;
    begun =
        begun k s.committed e.begun;
    first = first_begun k;
    second = second_begun k;
  }
    where
      named : (k j : ℕ) → (papers_at j l).named ≡ true
          → (papers_at j (with_entry (CommitBegun k) l)).named ≡ true
      named zero zero is = refl
      named zero (suc _) is = is
      named (suc _) zero is = is
      named (suc _) (suc _) is = refl

      begun : (k j : ℕ) → (papers_at j l).begun ≡ true
          → (papers_at j (with_entry (CommitBegun k) l)).begun ≡ true
      begun zero zero is = refl
      begun zero (suc _) is = is
      begun (suc _) zero is = is
      begun (suc _) (suc _) is = refl

  -- and its slot may be committed
  pub explained_other : (k : ℕ) → IsSome (image_at k s)
      → ExplainedBy (with_entry (CommitBegun k) l) (with_committed k s)
  explained_other zero some = record {
    some = some;
    named = refl;
    begun = refl;
    first =
        first_begun zero;
    second = second_begun zero;
  }
  explained_other (suc k) some = record {
    some = some;
    named = refl;
    begun = refl;
    first =
        first_begun (suc k);
    second = second_begun (suc k);
  }

  -- the committed slot was committed
  pub explained_committed : (k : ℕ) → k ≡ s.committed → ExplainedBy (with_entry (Committed k) l) s
  explained_committed k same = record {
    some = e.some;
    named = named k s.committed same;
    begun =
        begun s.committed e.begun;
    first = e.first;
    second = e.second;
  }
    where
      named : (k j : ℕ) → k ≡ j → (papers_at j (with_entry (Committed k) l)).named ≡ true
      named zero zero same = refl
      named zero (suc _) same = absurd (omega arith)
      named (suc _) zero same = absurd (omega arith)
      named (suc _) (suc _) same = refl

      begun : (j : ℕ) → (papers_at j l).begun ≡ true
          → (papers_at j (with_entry (Committed k) l)).begun ≡ true
      begun zero is = is
      begun (suc _) is = is
