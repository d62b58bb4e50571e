-- The kept replies of a unit are whole frames.
use Rattle.std.proofs.Common.{◌≡◌, ℕ, Bool, true, false, List, length, Option, Some, None, IfSome, if◌then◌else◌, subst}
use Rattle.omci_types.specs.declared.Priority.{Priority}
use Rattle.omci_types.specs.declared.Priority.TheVariants.{Low, High}
use Rattle.tci_spec.specs.Tci.{priority_of}
use Rattle.retry_spec.specs.Kept.{Reply, Kept, kept_in, keep_in, if_answers, kept_for, kept_with}
use Rattle.onu_agent.specs.State.{AreFrames}

in_lane : (p : Priority) (k : Kept) → AreFrames k → IfSome (kept_in p k) (λ r. length r.packet ≡ 48)
in_lane Low k f = f.low
in_lane High k f = f.high

pub given_whole : (tci : ℕ) (k : Kept) (reply : List ℕ) → AreFrames k → kept_for tci k ≡ Some reply → length reply ≡ 48
unfolding kept_for
given_whole tci k reply f e = from (kept_in (priority_of tci) k) (in_lane (priority_of tci) k f) e
  where
    same : (b : Bool) (r : Reply) → length r.packet ≡ 48 → (if b then Some r.packet else None) ≡ Some reply → length reply ≡ 48
    same true r whole e = subst (λ o. IfSome o (λ p. length p ≡ 48)) e whole
    same false r whole e = absurd (cc)

    from : (o : Option Reply) → IfSome o (λ r. length r.packet ≡ 48) → if_answers tci o ≡ Some reply → length reply ≡ 48
    from None whole e = absurd (cc)
    from (Some r) whole e = same _ r whole e

pub kept_whole : (tci : ℕ) (reply : List ℕ) (k : Kept) → AreFrames k → length reply ≡ 48 → AreFrames (kept_with tci reply k)
unfolding kept_with
kept_whole tci reply k f whole = from (priority_of tci)
  where
    from : (p : Priority) → AreFrames (keep_in p (record { tci = tci; packet = reply }) k)
    from Low = record { low = whole; high = f.high }
    from High = record { low = f.low; high = whole }
