use Rattle.std.proofs.Common.{◌≡◌, ◌≢◌, ◌++◌, None, Some, Err, sym, ◌∙◌, subst}
use Rattle.std.specs.Prelude.{OnOk, IfErr}
use Rattle.manager_spec.specs.declared.Refusal.TheVariants as why
use Rattle.manager_spec.specs.Manager.{packets_of}
use Rattle.manager_spec.specs.Submitting.{Submission}
use Rattle.olt_manager.specs.State.{sound, AreFrames}
use Rattle.replay_script.specs.Events.{action_of}
use Rattle.manager_orders.proofs.Others.{submits_asking}
use Rattle.manager_orders.proofs.asking.ask.Goals as goal

pub returns-in-Some-clause-refused : goal.returns-in-Some-clause-refused
returns-in-Some-clause-refused c =
    subst (λ (s : Submission). IfErr c.submit.result (λ r. r ≢ why.NoMemory → s.refusal ≡ Some r))
    (sym (submits_asking (action_of c.args.event.now) c.in-Some.asked c.args.manager.now.manager (sym c.asked_by.ensures.value ∙ c.in-Some.is)))
    c.submit.ensures.refused

pub returns-in-Some-clause-accepted : goal.returns-in-Some-clause-accepted
returns-in-Some-clause-accepted c =
    subst (λ (s : Submission). OnOk c.submit.result (s.refusal ≡ None))
    (sym (submits_asking (action_of c.args.event.now) c.in-Some.asked c.args.manager.now.manager (sym c.asked_by.ensures.value ∙ c.in-Some.is)))
    c.submit.ensures.accepted

pub returns-in-Some-clause-manager : goal.returns-in-Some-clause-manager
returns-in-Some-clause-manager c =
    subst (λ (s : Submission). c.submit.result ≢ Err why.NoMemory → c.submit.new.self ≡ sound s.outcome.manager)
    (sym (submits_asking (action_of c.args.event.now) c.in-Some.asked c.args.manager.now.manager (sym c.asked_by.ensures.value ∙ c.in-Some.is)))
    c.submit.ensures.manager

pub returns-in-Some-clause-packets : goal.returns-in-Some-clause-packets
returns-in-Some-clause-packets c =
    subst (λ (s : Submission). c.submit.result ≢ Err why.NoMemory → c.submit.new.out ≡ c.args.packets.now ++ packets_of s.outcome.sendings)
    (sym (submits_asking (action_of c.args.event.now) c.in-Some.asked c.args.manager.now.manager (sym c.asked_by.ensures.value ∙ c.in-Some.is)))
    c.submit.ensures.packets

pub returns-in-Some-clause-whole : goal.returns-in-Some-clause-whole
returns-in-Some-clause-whole c =
    subst (λ (s : Submission). c.submit.result ≢ Err why.NoMemory → AreFrames (packets_of s.outcome.sendings))
    (sym (submits_asking (action_of c.args.event.now) c.in-Some.asked c.args.manager.now.manager (sym c.asked_by.ensures.value ∙ c.in-Some.is)))
    c.submit.ensures.whole
