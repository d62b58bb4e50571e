use Rattle.std.proofs.Common.{rules, ◌≡◌, ℕ, ◌+◌, ◌/◌, ◌%◌, ◌<◌, ◌≤◌, List, ◌++◌, decimal, ap, sym, ◌∙◌, append_assoc, arith}
use Rattle.omci_contents.specs.Digits.{three_digits}
use Rattle.omci_contents.proofs.Numbers.{three_after}
use Rattle.omci_contents.proofs.short_text.ShortText.append_number.Goals as goal

-- src/short_text.rt:113:5
pub returns-clause-text : goal.returns-clause-text
returns-clause-text c =
    c.append.ensures.text
    ∙ ap (λ (l : List ℕ). l ++ c.three_digits.result) c.append_few_digits-2.ensures.text
    ∙ ap (λ (l : List ℕ). (c.args.self.now ++ decimal (c.args.number / 1000)) ++ l) c.three_digits.ensures.value
    ∙ append_assoc c.args.self.now (decimal (c.args.number / 1000)) (three_digits (c.args.number % 1000))
    ∙ ap (λ (l : List ℕ). c.args.self.now ++ l) (sym (three_after c.args.number (omega arith) (omega arith)))
