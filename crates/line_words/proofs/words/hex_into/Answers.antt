use Rattle.std.proofs.Common.{◌/◌, drop, length, rules, arith, inl, inr}
use Rattle.std.proofs.lemmas.List.{length-take-le}
use Rattle.line_words.proofs.FewHex.{dash_read, dash_few, none_empty, size_apart, word_read}
use Rattle.line_words.proofs.FewHex.{word_refused}
use Rattle.line_words.proofs.words.hex_into.Goals as goal
use Rattle.line_words.proofs.words.hex_into.Goals.{then-is_empty-via-then-is_empty, then-is_empty-via-else-is_empty+then-len-fewest, then-is_empty-via-else-is_empty+else-len-fewest+then-len-row}

pub returns-then-fewest-eq0-clause-value : goal.returns-then-fewest-eq0-clause-value
returns-then-fewest-eq0-clause-value c =
    dash_read c.args.fewest (length c.args.row.now) c.args.word.now (search rules)
    (omega (arith, c.if-fewest-eq0.true))

pub returns-else-fewest-eq0-clause-value : goal.returns-else-fewest-eq0-clause-value
returns-else-fewest-eq0-clause-value c =
    dash_few c.args.fewest (length c.args.row.now) c.args.word.now (search rules)
    (omega (arith, c.if-fewest-eq0.false))

pub returns-then-is_empty-clause-value : goal.returns-then-is_empty-clause-value
returns-then-is_empty-clause-value c =
    elim c.then-is_empty.branch [
      | then-is_empty-via-then-is_empty w ↦
          none_empty c.args.fewest (length c.args.row.now) c.args.word.now (search rules)
      | then-is_empty-via-else-is_empty+then-len-fewest w ↦
          size_apart c.args.fewest (length c.args.row.now) c.args.word.now (search rules)
          (search rules) (inl (omega (arith, w.if-len-fewest.true)))
      | then-is_empty-via-else-is_empty+else-len-fewest+then-len-row w ↦
          size_apart c.args.fewest (length c.args.row.now) c.args.word.now (search rules)
          (search rules) (inr (omega (arith, w.if-len-row.true)))
    ]

pub returns-in-Ok-clause-value : goal.returns-in-Ok-clause-value
returns-in-Ok-clause-value c =
    word_read c.args.fewest (length c.args.row.now) _ c.args.word.now c.decode_to_slice.new.out
    (drop (length c.args.word.now / 2) c.args.row.now) c.decode_to_slice.result c.in-Ok.field-0
    (search rules) (search rules) c.decode_to_slice.ensures.value c.in-Ok.is
    (length-take-le (length c.args.word.now / 2) c.args.row.now
    (omega (arith, c.if-len-row.false)))
    (omega (arith, c.if-len-fewest.false)) (omega (arith, c.if-len-row.false))

pub returns-in-Err-clause-value : goal.returns-in-Err-clause-value
returns-in-Err-clause-value c =
    word_refused c.args.fewest (length c.args.row.now) _ c.args.word.now c.decode_to_slice.new.out
    c.decode_to_slice.result c.in-Err.field-0 (search rules) (search rules)
    c.decode_to_slice.ensures.value c.in-Err.is
    (length-take-le (length c.args.word.now / 2) c.args.row.now
    (omega (arith, c.if-len-row.false)))
