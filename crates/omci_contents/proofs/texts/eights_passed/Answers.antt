use Rattle.std.proofs.Common.{◌≡◌, ℕ, List, ◌-◌, length, take, drop, get_or, sym, ◌∙◌, arith}
use Rattle.omci_contents.proofs.Cutting.{eight_zeros, eight_of, cut_eights}
use Rattle.omci_contents.proofs.texts.eights_passed.Goals as goal

pub loop-end-preserved : goal.loop-end-preserved
loop-end-preserved c =
    let number : c.number_at.result ≡ 0 = omega arith in
    let zeros : take 8 (drop (c.loop-end.end - 8) c.args.bytes.now) ≡ eight_zeros =
    eight_of c.args.bytes.now (c.loop-end.end - 8) (omega arith) (λ i. omega (arith, c.type_inv.bytes i)) (sym number ∙ c.number_at.ensures.value) in
    (cut_eights c.args.bytes.now c.loop-end.end (omega arith) zeros ∙ c.loop-end.invariant.0, omega arith)
