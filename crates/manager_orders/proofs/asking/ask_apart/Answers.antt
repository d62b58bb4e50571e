use Rattle.manager_orders.proofs.Others.{five}
use Rattle.manager_orders.proofs.asking.ask_apart.Goals as goal

pub returns-in_default-clause-accepted : goal.returns-in_default-clause-accepted
returns-in_default-clause-accepted c = absurd (five c.args.event.now c.requires.apart c.requires.ordered c.in_default.not-Probe c.in_default.not-Resync c.in_default.not-Audit c.in_default.not-Check c.in_default.not-Image)

pub returns-in_default-clause-manager : goal.returns-in_default-clause-manager
returns-in_default-clause-manager c = absurd (five c.args.event.now c.requires.apart c.requires.ordered c.in_default.not-Probe c.in_default.not-Resync c.in_default.not-Audit c.in_default.not-Check c.in_default.not-Image)

pub returns-in_default-clause-packets : goal.returns-in_default-clause-packets
returns-in_default-clause-packets c = absurd (five c.args.event.now c.requires.apart c.requires.ordered c.in_default.not-Probe c.in_default.not-Resync c.in_default.not-Audit c.in_default.not-Check c.in_default.not-Image)

pub returns-in_default-clause-whole : goal.returns-in_default-clause-whole
returns-in_default-clause-whole c = absurd (five c.args.event.now c.requires.apart c.requires.ordered c.in_default.not-Probe c.in_default.not-Resync c.in_default.not-Audit c.in_default.not-Check c.in_default.not-Image)
