-- Packets that are too old are not fresh, and the search for the oldest fresh packet may begin past them.
use Rattle.std.proofs.Common.{◌≡◌, ℕ, zero, suc, ◌+◌, ◌-◌, ◌<◌, ◌≤◌, Bool, true, false, cond, ◌&&◌, nat_le, List, [], ◌∷◌, length, drop, Option, Some, refl, sym, ap, ◌∙◌, arith}
use Rattle.std.proofs.lemmas.Bool.{lt-leb}
use Rattle.link_spec.specs.declared.TheConstants.{WINDOW}
use Rattle.link_spec.specs.declared.Way.{Way}
use Rattle.link_spec.specs.Link.{Sent, Ways, way_of, is_heard, may_come, is_fresh, first_fresh}

pub and_false : (a : Bool) → (a && false) ≡ false
and_false true = refl
and_false false = refl

-- a packet that WINDOW others followed may not come
pub old_comes_not : (number : ℕ) (way : Way) (count : ℕ) → number + WINDOW < count → may_come number way count ≡ false
old_comes_not number way count old = ap (λ b. nat_le way.floor number && b) (lt-leb count (number + WINDOW) old) ∙ and_false (nat_le way.floor number)

pub old_is_not_fresh : (u m : Bool) (number : ℕ) (s : Sent) (ways : Ways) (count : ℕ) → number + WINDOW < count → is_fresh u m number s ways count ≡ false
old_is_not_fresh u m number s ways count old =
    let here = is_heard s.direction u m && nat_le (way_of s ways).mark number in
    ap (λ b. here && b) (old_comes_not number (way_of s ways) count old) ∙ and_false here

skip_one : (fresh : Bool) (here later : Option ℕ) → fresh ≡ false → cond fresh here later ≡ later
skip_one fresh here later e = ap (λ b. cond b here later) e

-- the first d packets are too old
pub skip_old : (u m : Bool) (k d : ℕ) (xs : List Sent) (ways : Ways) (count : ℕ) → d ≤ length xs → d ≤ count - (k + WINDOW)
    → first_fresh u m (k + d) (drop d xs) ways count ≡ first_fresh u m k xs ways count
skip_old u m k zero xs ways count within old = ap (λ n. first_fresh u m n xs ways count) (omega arith)
skip_old u m k (suc d) [] ways count within old = absurd (omega arith)
skip_old u m k (suc d) (s ∷ xs) ways count within old =
    let same : k + suc d ≡ (k + 1) + d = omega arith in
    ap (λ n. first_fresh u m n (drop d xs) ways count) same
    ∙ skip_old u m (k + 1) d xs ways count (omega arith) (omega arith)
    ∙ sym (skip_one (is_fresh u m k s ways count) (Some k) (first_fresh u m (k + 1) xs ways count) (old_is_not_fresh u m k s ways count (omega arith)))
