use Rattle.std.proofs.Common.{sym}
use Rattle.script_laws.proofs.Places.{lines_of-none, lines_of-cut}
use Rattle.line_words.proofs.lines.next_line.Goals as goal

pub returns-in-None-clause-lines : goal.returns-in-None-clause-lines
returns-in-None-clause-lines c =
    lines_of-none c.args.bytes.now c.requires (sym c.in-None.ensures.value)

pub returns-in-Some-clause-lines : goal.returns-in-Some-clause-lines
returns-in-Some-clause-lines c =
    lines_of-cut c.args.bytes.now c.without_return.result.now c.in-Some.end
    (sym c.in-Some.ensures.value) c.without_return.ensures.text
