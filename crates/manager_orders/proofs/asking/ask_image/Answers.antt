use Rattle.std.proofs.Common.{◌≡◌, ◌≢◌, ◌++◌, ℕ, List, None, Some, Err, subst}
use Rattle.std.specs.Prelude.{OnOk, IfErr}
use Rattle.manager_spec.specs.declared.Refusal.TheVariants as why
use Rattle.manager_spec.specs.Manager.{packets_of}
use Rattle.manager_spec.specs.Submitting.{after_image}
use Rattle.olt_manager.specs.State.{sound, AreFrames}
use Rattle.manager_orders.proofs.asking.ask_image.Goals as goal

pub returns-clause-refused : goal.returns-clause-refused
returns-clause-refused c =
    subst (λ (i : List ℕ). IfErr c.image.result (λ r. r ≢ why.NoMemory → (after_image c.args.download.slot c.args.download.window c.args.download.crc i c.args.manager.now.manager).refusal ≡ Some r))
    c.in-Ok.ensures.copied c.image.ensures.refused

pub returns-clause-accepted : goal.returns-clause-accepted
returns-clause-accepted c =
    subst (λ (i : List ℕ). OnOk c.image.result ((after_image c.args.download.slot c.args.download.window c.args.download.crc i c.args.manager.now.manager).refusal ≡ None))
    c.in-Ok.ensures.copied c.image.ensures.accepted

pub returns-clause-manager : goal.returns-clause-manager
returns-clause-manager c =
    subst (λ (i : List ℕ). c.image.result ≢ Err why.NoMemory → c.image.new.self ≡ sound (after_image c.args.download.slot c.args.download.window c.args.download.crc i c.args.manager.now.manager).outcome.manager)
    c.in-Ok.ensures.copied c.image.ensures.manager

pub returns-clause-packets : goal.returns-clause-packets
returns-clause-packets c =
    subst (λ (i : List ℕ). c.image.result ≢ Err why.NoMemory → c.image.new.out ≡ c.args.packets.now ++ packets_of (after_image c.args.download.slot c.args.download.window c.args.download.crc i c.args.manager.now.manager).outcome.sendings)
    c.in-Ok.ensures.copied c.image.ensures.packets

pub returns-clause-whole : goal.returns-clause-whole
returns-clause-whole c =
    subst (λ (i : List ℕ). c.image.result ≢ Err why.NoMemory → AreFrames (packets_of (after_image c.args.download.slot c.args.download.window c.args.download.crc i c.args.manager.now.manager).outcome.sendings))
    c.in-Ok.ensures.copied c.image.ensures.whole
