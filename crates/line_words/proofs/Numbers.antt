-- A number of fewer than 18 digits has room for one digit more.
use Rattle.std.proofs.Common.{ℕ, ◌+◌, ◌*◌, ◌^◌, ◌<◌, ◌≤◌, arith}
use Rattle.std.proofs.Math.Nat.{pow-le-pow_right}

pub one_more_digit : (value digits : ℕ) → value + 1 ≤ 10 ^ digits → digits < 18
    → value * 10 + 255 < 2 ^ 64
one_more_digit value digits bound few =
    let power : 10 ^ digits ≤ 10 ^ 17 =
    pow-le-pow_right {n = 10} (omega arith) {i = digits} {j = 17} (omega arith) in
    let value_bound : value + 1 ≤ 100000000000000000 = omega arith in
    omega arith
