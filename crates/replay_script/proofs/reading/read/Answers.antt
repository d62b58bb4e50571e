use Rattle.script_spec.specs.Script.{IsScript}
use Rattle.script_spec.specs.Grammar.{Writes}
use Rattle.script_spec.specs.Fault.{fault}
use Rattle.script_spec.specs.Reading.{reading}
use Rattle.script_laws.proofs.Scripts.{reading-Writes, Writes-reading, reading_range}
use Rattle.script_laws.proofs.FaultLaws.{fault_from_reading, reading_from_fault}
use Rattle.replay_script.proofs.Public.{of_read, only, refused, faulty}
use Rattle.replay_script.proofs.reading.read.Goals as goal

pub returns-clause-written : goal.returns-clause-written
returns-clause-written c =
    of_read reading Writes Writes-reading c.script_of.result c.args.bytes.now
    c.script_of.ensures.exact

pub returns-clause-ranges : goal.returns-clause-ranges
returns-clause-ranges c =
    of_read reading (λ script bytes. IsScript script)
    (λ script bytes h. reading_range bytes script h) c.script_of.result c.args.bytes.now
    c.script_of.ensures.exact

pub returns-clause-only : goal.returns-clause-only
returns-clause-only c =
    only reading Writes reading-Writes c.script_of.result c.args.bytes.now
    c.script_of.ensures.exact

pub returns-clause-refused : goal.returns-clause-refused
returns-clause-refused c =
    refused reading fault fault_from_reading c.script_of.result c.args.bytes.now
    c.script_of.ensures.exact

pub returns-clause-faulty : goal.returns-clause-faulty
returns-clause-faulty c =
    faulty reading fault reading_from_fault c.script_of.result c.args.bytes.now
    c.script_of.ensures.exact
