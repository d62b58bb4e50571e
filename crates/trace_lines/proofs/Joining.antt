-- Texts that are joined piece by piece.
use Rattle.std.proofs.Common.{◌≡◌, ℕ, List, [], ◌++◌, ap, ◌∙◌, append_assoc}

-- what two appends have added
pub then : (a b c p q : List ℕ) → b ≡ a ++ p → c ≡ b ++ q → c ≡ a ++ (p ++ q)
then a b c p q first second = second ∙ ap (λ (x : List ℕ). x ++ q) first ∙ append_assoc a p q

-- a line that was built of its event's number, its effect and its end, and then appended
pub whole_line : (start first second before after number effect end : List ℕ) → start ≡ []
    → first ≡ start ++ number → second ≡ first ++ effect → after ≡ before ++ (second ++ end)
    → after ≡ before ++ ((number ++ effect) ++ end)
whole_line start first second before after number effect end empty first_is second_is after_is =
    after_is
    ∙ ap (λ (x : List ℕ). before ++ (x ++ end)) second_is
    ∙ ap (λ (x : List ℕ). before ++ ((x ++ effect) ++ end)) first_is
    ∙ ap (λ (x : List ℕ). before ++ (((x ++ number) ++ effect) ++ end)) empty
