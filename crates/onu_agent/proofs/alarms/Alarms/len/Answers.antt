use Rattle.std.proofs.Common.{arith}
use Rattle.unit_laws.proofs.Own.{seven_at_most}
use Rattle.onu_agent.proofs.alarms.Alarms.len.Goals as goal

pub returns-clause-most : goal.returns-clause-most
returns-clause-most c = omega (arith, c.len.ensures.count, seven_at_most c.self.inside.log.alarms c.self.invariant)
