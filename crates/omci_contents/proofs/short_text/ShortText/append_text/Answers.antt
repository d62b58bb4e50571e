use Rattle.std.proofs.Common.{◌≡◌, ℕ, List, ◌++◌, ap, ◌∙◌, append_assoc}
use Rattle.message_spec.specs.Text.{message_text}
use Rattle.omci_contents.proofs.short_text.ShortText.append_text.Goals as goal

-- what two appends have added
then : (a b c p q : List ℕ) → b ≡ a ++ p → c ≡ b ++ q → c ≡ a ++ (p ++ q)
then a b c p q first second = second ∙ ap (λ (x : List ℕ). x ++ q) first ∙ append_assoc a p q

pub returns-clause-text : goal.returns-clause-text
unfolding message_text
returns-clause-text c =
    let tci = c.append_tci.ensures.text in
    let device = then _ _ _ _ _ tci c.append.ensures.text in
    let kind = then _ _ _ _ _ device c.append_kind_text.ensures.text in
    let space = then _ _ _ _ _ kind c.append-2.ensures.text in
    let class = then _ _ _ _ _ space c.append_number.ensures.text in
    let space2 = then _ _ _ _ _ class c.append-3.ensures.text in
    let instance = then _ _ _ _ _ space2 c.append_number-2.ensures.text in
    let space3 = then _ _ _ _ _ instance c.append-4.ensures.text in
    then _ _ _ _ _ space3 c.append_contents_text.ensures.text
