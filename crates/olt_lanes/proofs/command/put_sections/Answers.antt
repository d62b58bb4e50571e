-- One section more is sent, or none that comes after those that were.
use Rattle.std.proofs.Common.{List, ℕ, ◌-◌, length, sym, subst, arith}
use Rattle.olt_lanes.proofs.Sending.{SentSoFar, one_sent, front_sent, on_err}
use Rattle.olt_lanes.proofs.command.put_sections.Goals as goal

pub returns-in_err-put_section-clause-err : goal.returns-in_err-put_section-clause-err
returns-in_err-put_section-clause-err c =
    let sections = c.args.sections.now in
    let number = c.loop-number.number in
    let so_far =
    subst (λ (out : List (List ℕ)). SentSoFar c.args.tci c.args.entity sections number c.args.out.now out)
    (sym c.in_err-put_section.ensures.err) c.loop-number.invariant in
    on_err c.from_residual.result
    (front_sent c.args.tci c.args.entity sections (length sections - 1) number c.args.out.now
    c.put_section.new.out
    (omega (arith, c.loop-number-test.true, c.len-number-end.ensures.value)) so_far)

pub loop-number-preserved : goal.loop-number-preserved
loop-number-preserved c =
    one_sent c.args.tci c.args.entity c.args.sections.now c.loop-number.number c.section.result
    c.args.out.now c.loop-number.out c.put_section.new.out c.section.ensures.value
    c.in_ok-put_section.ensures.ok c.in_ok-put_section.ensures.whole c.loop-number.invariant
