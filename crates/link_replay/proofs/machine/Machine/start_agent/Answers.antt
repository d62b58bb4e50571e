use Rattle.std.proofs.Common.{◌≡◌, ◌+◌, sym, ◌∙◌, arith}
use Rattle.link_replay.proofs.Powers.{agent_started}
use Rattle.link_replay.proofs.machine.Machine.start_agent.Goals as goal

pub returns-in-Ok : goal.returns-in-Ok
returns-in-Ok c = record {
  woken = λ room disk s is stands.
      let lives : c.in-Some-checked_add.lives ≡ c.self.inside.lives + 1 = omega (arith, c.in-Some-checked_add.ensures) in
      agent_started c.args.boot room s _ c.args.self.now c.in-Some-checked_add.lives c.take.new.self disk c.in-Some.disk c.in-Ok.agent c.self.view_is lives c.take.ensures.after
      (sym c.take.ensures.value ∙ c.in-Some.is) is stands c.in-Ok.ensures.stands c.in-Ok.ensures.disk c.in-Ok.ensures.length;
}
