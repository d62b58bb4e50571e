use Rattle.std.proofs.Common.{ap}
use Rattle.std.specs.Option.{option_copied}
use Rattle.line_words.proofs.Left.{none_left, some_left}
use Rattle.line_words.proofs.words.LineWords.word.Goals as goal

pub returns-in-None : goal.returns-in-None
returns-in-None c = record {
  value =
      none_left (option_copied c.self.inside.rest) c.args.self.now c.self.view_is
      (ap option_copied c.in-None.is);
}

pub returns-in-Some : goal.returns-in-Some
returns-in-Some c = record {
  value =
      some_left (option_copied c.self.inside.rest) c.args.self.now c.in-Some.text.now
      c.first_word.result.0.now (option_copied c.first_word.result.1) c.self.view_is
      (ap option_copied c.in-Some.is) c.first_word.ensures.value;
}
