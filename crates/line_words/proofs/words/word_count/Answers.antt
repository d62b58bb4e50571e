use Rattle.std.proofs.Common.{sym, ap, ◌+◌, ◌∙◌}
use Rattle.script_laws.proofs.Words.{length-words_of}
use Rattle.line_words.proofs.words.word_count.Goals as goal

pub returns : goal.returns
returns c =
    record {
      value =
          ap (λ n. n + 1) c.spaces.ensures.value ∙ sym (length-words_of c.args.text.now);
    }
