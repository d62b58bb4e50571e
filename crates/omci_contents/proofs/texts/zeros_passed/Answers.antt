use Rattle.std.proofs.Common.{◌≡◌, ◌-◌, take, drop, sym, ◌∙◌, arith}
use Rattle.omci_contents.proofs.Cutting.{four_zeros, four_of, cut_fours}
use Rattle.omci_contents.proofs.texts.zeros_passed.Goals as goal

pub returns-then-half_number_at-eq0-clause-value : goal.returns-then-half_number_at-eq0-clause-value
returns-then-half_number_at-eq0-clause-value c =
    let number : c.half_number_at.result ≡ 0 = omega arith in
    let zeros : take 4 (drop (c.eights_passed-end.result - 4) c.args.bytes.now) ≡ four_zeros =
    four_of c.args.bytes.now (c.eights_passed-end.result - 4) (omega arith) (λ i. omega (arith, c.type_inv.bytes i)) (sym number ∙ c.half_number_at.ensures.value) in
    cut_fours c.args.bytes.now c.eights_passed-end.result (omega arith) zeros ∙ c.eights_passed-end.ensures.value
