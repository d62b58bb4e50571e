use Rattle.script_laws.proofs.Scripts.{orders_reading-Writes, WritesOrders-reading}
use Rattle.script_laws.proofs.reading_gives_the_orders_written.Goals as goal

pub returns-clause-written : goal.returns-clause-written
returns-clause-written c = λ bytes orders h. WritesOrders-reading orders bytes h

pub returns-clause-read : goal.returns-clause-read
returns-clause-read c = λ bytes orders h. orders_reading-Writes orders bytes h
