use Rattle.onu_agent.proofs.agent.Agent.rig.Goals as goal

pub returns-clause-stands : goal.returns-clause-stands
returns-clause-stands g c = rw (← c.self.view_is) (λ u s. record { sound = s.sound; stands = c.rig.ensures.stands u s.stands })
