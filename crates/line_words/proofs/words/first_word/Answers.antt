use Rattle.std.proofs.Common.{sym}
use Rattle.script_laws.proofs.Places.{words_of-none, words_of-cut}
use Rattle.line_words.proofs.words.first_word.Goals as goal

pub returns-in-None : goal.returns-in-None
returns-in-None c = record { value = words_of-none c.args.text.now (sym c.in-None.ensures.value) }

pub returns-in-Some : goal.returns-in-Some
returns-in-Some c =
    record { value = words_of-cut c.args.text.now c.in-Some.end (sym c.in-Some.ensures.value) }
