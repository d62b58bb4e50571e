use Rattle.onu_agent.proofs.agent.Agent.sense.Goals as goal

pub returns-clause-sensed : goal.returns-clause-sensed
returns-clause-sensed g c = rw (← c.self.view_is) (λ u s. c.sense.ensures.sensed u s.stands)
