use Rattle.std.proofs.Common.{◌≡◌, Some, subst}
use Rattle.script_spec.specs.Grammar.{Writes}
use Rattle.script_spec.specs.Fault.{fault}
use Rattle.script_laws.proofs.Scripts.{reading-Writes}
use Rattle.script_laws.proofs.FaultLaws.{reading_from_fault}
use Rattle.omci_top.proofs.AnswerLemmas.{answer_to_script, answer_to_fault, Ends-ran, Ends-told}
use Rattle.omci_top.proofs.replay.answer.Goals as goal

pub returns-in-Ok-clause-ends : goal.returns-in-Ok-clause-ends
returns-in-Ok-clause-ends g c =
    let input = c.args.input.items in
    let script = c.in-Ok.script in
    let spelled = subst (λ bytes. Writes script bytes) c.deref.ensures.value c.in-Ok.ensures.written in
    Ends-ran c.run_script.result.status c.run_script.result.world script input _ _ _ _ spelled
    (answer_to_script input script (reading-Writes script input spelled))
    c.run_script.ensures.ended
    c.run_script.ensures.ran

pub returns-in-Err-Fault-clause-ends : goal.returns-in-Err-Fault-clause-ends
returns-in-Err-Fault-clause-ends g c =
    let input = c.args.input.items in
    let line = c.in-Err-Fault.line in
    let reason = c.in-Err-Fault.reason in
    let faulty = subst (λ bytes. fault bytes ≡ Some (line, reason)) c.deref.ensures.value (rw c.in-Err-Fault.field-0-is at c.in-Err-Fault.ensures.refused) in
    rw c.without_world.ensures.status (Ends-told c.tell_fault.result c.without_world.result.world line reason input _ _ _ _ faulty
    (answer_to_fault input line reason (reading_from_fault input (line, reason) faulty))
    c.tell_fault.ensures.ran)
