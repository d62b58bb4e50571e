use Rattle.std.proofs.Common.{◌≡◌, ℕ, List, ◌++◌, ap, ◌∙◌, append_assoc}
use Rattle.extended_spec.specs.Text.{long_text}
use Rattle.extended_frames.proofs.texts.push_fields.Goals as goal

-- what two appends have appended
then : (a b c p q : List ℕ) → b ≡ a ++ p → c ≡ b ++ q → c ≡ a ++ (p ++ q)
then a b c p q first second = second ∙ ap (λ (x : List ℕ). x ++ q) first ∙ append_assoc a p q

pub returns-clause-text : goal.returns-clause-text
unfolding long_text
returns-clause-text c =
    let tci = c.in_ok-push_tci.ensures.text in
    let device = then _ _ _ _ _ tci c.in_ok-push_bytes.ensures.text in
    let kind = then _ _ _ _ _ device c.in_ok-push_kind_text.ensures.text in
    let space = then _ _ _ _ _ kind c.in_ok-push_bytes-2.ensures.text in
    let class = then _ _ _ _ _ space c.in_ok-push_number.ensures.text in
    let space2 = then _ _ _ _ _ class c.in_ok-push_bytes-3.ensures.text in
    let instance = then _ _ _ _ _ space2 c.in_ok-push_number-2.ensures.text in
    let space3 = then _ _ _ _ _ instance c.in_ok-push_bytes-4.ensures.text in
    then _ _ _ _ _ space3 c.in_ok-push_hex_or_dash.ensures.text
