use Rattle.std.proofs.Common.{◌≡◌, ℕ, ◌+◌, ◌-◌, ◌++◌, List, length, take, drop, sym, ◌∙◌, ap}
use Rattle.std.proofs.lemmas.List.{take-append-drop, drop-drop, take_rest}
use Rattle.omci_core.proofs.memory.copy_out.Goals as goal

-- what stands from a place on is what was copied and what stands after it
rest_is : (all new : List ℕ) (at n : ℕ) → take n new ≡ take n (take (length all - at) (drop at all)) → drop at all ≡ take n new ++ drop (at + n) all
rest_is all new at n front =
    let copied : take n (drop at all) ≡ take n new = ap (λ z. take n z) (sym (take_rest all at)) ∙ sym front in
    sym (take-append-drop n (drop at all)) ∙ ap (λ z. z ++ drop n (drop at all)) copied ∙ ap (λ z. take n new ++ z) (drop-drop n at all)

pub returns-clause-rest : goal.returns-clause-rest
returns-clause-rest c = rest_is c.args.from.now c.copy_front.new.into c.args.at c.copy_front.result c.copy_front.ensures.front
