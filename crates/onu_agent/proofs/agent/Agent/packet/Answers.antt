use Rattle.onu_agent.proofs.agent.Agent.packet.Goals as goal

pub returns-clause-received : goal.returns-clause-received
returns-clause-received g c = rw (← c.self.view_is) (λ u s. c.packet-done.ensures.received u s.stands)
