use Rattle.script_spec.specs.Script.{IsOrders}
use Rattle.script_spec.specs.Grammar.{WritesOrders}
use Rattle.script_spec.specs.Fault.{orders_fault}
use Rattle.script_spec.specs.Reading.{orders_reading}
use Rattle.script_laws.proofs.Scripts.{orders_reading-Writes, WritesOrders-reading, orders_range}
use Rattle.script_laws.proofs.FaultLaws.{orders_fault_from_reading, orders_reading_from_fault}
use Rattle.replay_script.proofs.Public.{of_read, only, refused, faulty}
use Rattle.replay_script.proofs.reading.read_orders.Goals as goal

pub returns-clause-written : goal.returns-clause-written
returns-clause-written c =
    of_read orders_reading WritesOrders WritesOrders-reading c.orders_of.result c.args.bytes.now
    c.orders_of.ensures.exact

pub returns-clause-ranges : goal.returns-clause-ranges
returns-clause-ranges c =
    of_read orders_reading (λ orders bytes. IsOrders orders)
    (λ orders bytes h. orders_range bytes orders h) c.orders_of.result c.args.bytes.now
    c.orders_of.ensures.exact

pub returns-clause-only : goal.returns-clause-only
returns-clause-only c =
    only orders_reading WritesOrders orders_reading-Writes c.orders_of.result c.args.bytes.now
    c.orders_of.ensures.exact

pub returns-clause-refused : goal.returns-clause-refused
returns-clause-refused c =
    refused orders_reading orders_fault orders_fault_from_reading c.orders_of.result
    c.args.bytes.now c.orders_of.ensures.exact

pub returns-clause-faulty : goal.returns-clause-faulty
returns-clause-faulty c =
    faulty orders_reading orders_fault orders_reading_from_fault c.orders_of.result
    c.args.bytes.now c.orders_of.ensures.exact
