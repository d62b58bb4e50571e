-- Notices that are applied one after the other.
use Rattle.std.proofs.Common.{◌≡◌, ℕ, zero, suc, ◌+◌, ◌<◌, List, [], ◌∷◌, length, take, ap, subst, ◌∙◌, arith}
use Rattle.std.specs.Prelude.{slice_get, IfSome}
use Rattle.alarm_spec.specs.Alarms.{Alarm, Alarms, with_bitmap, after}

after_next : (start before told : Alarms) (notices : List Alarm) (n : ℕ) → n < length notices → before ≡ after start (take n notices) → IfSome (slice_get notices n) (λ one. told ≡ with_bitmap one.0 one.1 before) → told ≡ after start (take (suc n) notices)
after_next start before told [] n lt so_far is = absurd (omega arith)
after_next start before told (one ∷ rest) zero lt so_far is = is ∙ ap (with_bitmap one.0 one.1) so_far
after_next start before told (one ∷ rest) (suc n) lt so_far is = after_next (with_bitmap one.0 one.1 start) before told rest n (omega arith) so_far is

pub told_next : (start before told : Alarms) (notices : List Alarm) (n : ℕ) → n < length notices → before ≡ after start (take n notices) → IfSome (slice_get notices n) (λ one. told ≡ with_bitmap one.0 one.1 before) → told ≡ after start (take (n + 1) notices)
told_next start before told notices n lt so_far is = subst (λ k. told ≡ after start (take k notices)) {x = suc n} {y = n + 1} (omega arith) (after_next start before told notices n lt so_far is)
