use Rattle.std.proofs.Common.{rules, ◌≡◌, ◌<◌, Result, Ok, arith}
use Rattle.message_spec.specs.declared.Message.{Message}
use Rattle.message_spec.specs.declared.ContentsFault.{ContentsFault}
use Rattle.message_spec.specs.Reading.{message_of}
use Rattle.omci_contents.proofs.Exactly.{reads_exactly, unknown_exactly, bits_exactly}
use Rattle.omci_contents.proofs.reading.read_message.Goals as goal

pub returns-in_err-kind-clause-reads : goal.returns-in_err-kind-clause-reads
unfolding message_of
returns-in_err-kind-clause-reads c =
    let value : c.from_residual.result ≡ message_of c.args.frame.now = search rules in
    let fits : c.args.frame.now.kind < 256 = omega arith in
    reads_exactly c.args.frame.now c.from_residual.result fits value

pub returns-in_err-kind-clause-unknown : goal.returns-in_err-kind-clause-unknown
unfolding message_of
returns-in_err-kind-clause-unknown c =
    let value : c.from_residual.result ≡ message_of c.args.frame.now = search rules in
    unknown_exactly c.args.frame.now c.from_residual.result value

pub returns-in_err-kind-clause-bits : goal.returns-in_err-kind-clause-bits
unfolding message_of
returns-in_err-kind-clause-bits c =
    let value : c.from_residual.result ≡ message_of c.args.frame.now = search rules in
    let fits : c.args.frame.now.kind < 256 = omega arith in
    bits_exactly c.args.frame.now c.from_residual.result fits value

pub returns-clause-reads : goal.returns-clause-reads
unfolding message_of
returns-clause-reads c =
    let read : Result Message ContentsFault = Ok c.message_of_kind.result in
    let value : read ≡ message_of c.args.frame.now = search rules in
    let fits : c.args.frame.now.kind < 256 = omega arith in
    reads_exactly c.args.frame.now read fits value

pub returns-clause-unknown : goal.returns-clause-unknown
unfolding message_of
returns-clause-unknown c =
    let read : Result Message ContentsFault = Ok c.message_of_kind.result in
    let value : read ≡ message_of c.args.frame.now = search rules in
    unknown_exactly c.args.frame.now read value

pub returns-clause-bits : goal.returns-clause-bits
unfolding message_of
returns-clause-bits c =
    let read : Result Message ContentsFault = Ok c.message_of_kind.result in
    let value : read ≡ message_of c.args.frame.now = search rules in
    let fits : c.args.frame.now.kind < 256 = omega arith in
    bits_exactly c.args.frame.now read fits value
