-- Decimal digits of numbers, three at a time.
use Rattle.std.proofs.Common.{◌≡◌, ℕ, ◌+◌, ◌/◌, ◌%◌, ◌^◌, ◌<◌, ◌≤◌, List, [], ◌∷◌, ◌++◌, decimal, ap, ◌∙◌, append_assoc, arith}
use Rattle.std.proofs.lemmas.Fmt.{decimal_digit, decimal_step}
use Rattle.omci_contents.specs.Digits.{three_digits}

pub one_digit : (n : ℕ) → n < 10 → decimal n ≡ (48 + n) ∷ []
one_digit n most = decimal_digit n most

pub two_digits : (n : ℕ) → 10 ≤ n → n < 100 → decimal n ≡ (48 + n / 10) ∷ (48 + n % 10) ∷ []
two_digits n least most =
    decimal_step n least (omega arith)
    ∙ ap (λ (l : List ℕ). l ++ (48 + n % 10) ∷ []) (decimal_digit (n / 10) (omega arith))

pub three_alone : (n : ℕ) → 100 ≤ n → n < 1000 → decimal n ≡ three_digits n
three_alone n least most =
    let first : n / 10 / 10 ≡ n / 100 = omega arith in
    decimal_step n (omega arith) (omega arith)
    ∙ ap (λ (l : List ℕ). l ++ (48 + n % 10) ∷ []) (two_digits (n / 10) (omega arith) (omega arith))
    ∙ ap (λ (d : ℕ). (48 + d) ∷ (48 + n / 10 % 10) ∷ (48 + n % 10) ∷ []) first

-- the last three digits stand behind those of the thousands
pub three_after : (n : ℕ) → 1000 ≤ n → n < 2 ^ 64 → decimal n ≡ decimal (n / 1000) ++ three_digits (n % 1000)
three_after n least small =
    let thousands : n / 10 / 10 / 10 ≡ n / 1000 = omega arith in
    let first : n / 10 / 10 % 10 ≡ n % 1000 / 100 = omega arith in
    let second : n / 10 % 10 ≡ n % 1000 / 10 % 10 = omega arith in
    let third : n % 10 ≡ n % 1000 % 10 = omega arith in
    let front = decimal (n / 10 / 10 / 10) in
    decimal_step n (omega arith) small
    ∙ ap (λ (l : List ℕ). l ++ (48 + n % 10) ∷ [])
    (decimal_step (n / 10) (omega arith) (omega arith)
    ∙ ap (λ (l : List ℕ). l ++ (48 + n / 10 % 10) ∷ []) (decimal_step (n / 10 / 10) (omega arith) (omega arith)))
    ∙ append_assoc (front ++ (48 + n / 10 / 10 % 10) ∷ []) ((48 + n / 10 % 10) ∷ []) ((48 + n % 10) ∷ [])
    ∙ append_assoc front ((48 + n / 10 / 10 % 10) ∷ []) ((48 + n / 10 % 10) ∷ (48 + n % 10) ∷ [])
    ∙ (λ i. decimal (thousands i) ++ (48 + first i) ∷ (48 + second i) ∷ (48 + third i) ∷ [])
