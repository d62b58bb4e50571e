-- How what is said of moments goes on.
use Rattle.std.proofs.Common.{◌≡◌, inl, inr, ⊎_elim, ℕ, ◌+◌, ◌≤◌, List, length, arith}
use Rattle.slot_spec.specs.Crash.{Torn, TornFrom, Moments, HasLength}

module _ {D : Type 0} (clock : D → ℕ) (left_since : D → ℕ → List ℕ → Type 0) (may_leave : D → List ℕ → Type 0) where
  -- before the first call
  pub moments_none : (disk : D) (P : List ℕ → Type 0) → ((image : List ℕ) → left_since disk (clock disk) image → may_leave disk image) → ((image : List ℕ) → may_leave disk image → P image) → Moments clock left_since may_leave disk disk P
  moments_none disk P only here = record {
    later = omega arith;
    now = here;
    between = λ image left. here image (only image left);
    earlier = λ time image le left. inl left;
  }

  -- what each has, it has more weakly
  pub moments_weaker : (old new : D) (P Q : List ℕ → Type 0) → Moments clock left_since may_leave old new P → ((image : List ℕ) → P image → Q image) → Moments clock left_since may_leave old new Q
  moments_weaker old new P Q m weaker = record {
    later = m.later;
    now = λ image left. weaker image (m.now image left);
    between = λ image left. weaker image (m.between image left);
    earlier = λ time image le left. ⊎_elim (λ before. inl before) (λ p. inr (weaker image p)) (m.earlier time image le left);
  }

  -- one call after the other
  pub moments_then : (old middle new : D) (P : List ℕ → Type 0) → Moments clock left_since may_leave old middle P → Moments clock left_since may_leave middle new P → Moments clock left_since may_leave old new P
  moments_then old middle new P a b = record {
    later = omega (arith, a.later, b.later);
    now = b.now;
    between = λ image left. ⊎_elim (a.between image) (λ p. p) (b.earlier (clock old) image a.later left);
    earlier = λ time image le left. ⊎_elim (a.earlier time image le) (λ p. inr p) (b.earlier time image (omega (arith, le, a.later)) left);
  }

-- a disk keeps its length over a write within it
pub length_kept : {D : Type 0} (may_leave : D → List ℕ → Type 0) (old new : D) (at count size : ℕ) → at + count ≤ size → HasLength may_leave size old → ((image : List ℕ) → may_leave new image → TornFrom at count (may_leave old) image) → HasLength may_leave size new
length_kept may_leave old new at count size within long torn = λ image left. after (torn image left).0 image (torn image left).2 (long (torn image left).0 (torn image left).1)
  where
    after : (a b : List ℕ) → Torn at count a b → length a ≡ size → length b ≡ size
    after a b t is = omega (arith, t.no_shorter, t.no_longer, is, within)
