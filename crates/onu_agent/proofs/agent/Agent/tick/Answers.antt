use Rattle.onu_agent.proofs.agent.Agent.tick.Goals as goal

pub returns-clause-ticked : goal.returns-clause-ticked
returns-clause-ticked g c = rw (← c.self.view_is) (λ u s. record { sound = s.sound; stands = c.tick.ensures.ticked u s.stands })
