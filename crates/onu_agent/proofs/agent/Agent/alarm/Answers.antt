use Rattle.onu_agent.proofs.agent.Agent.alarm.Goals as goal

pub returns-clause-alarmed : goal.returns-clause-alarmed
returns-clause-alarmed g c = rw (← c.self.view_is) (λ u s. c.alarm-done.ensures.alarmed u s.stands)
