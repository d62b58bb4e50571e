use Rattle.std.proofs.Common.{◌≡◌, ◌+◌, ◌^◌, ◌≤◌, drop}
use Rattle.std.specs.List.{list_all}
use Rattle.std.specs.Char.{is_ascii_digit}
use Rattle.script_spec.specs.Text.{value_from, decimal_value}
use Rattle.line_words.proofs.words.numeral.Given as goal

abbrev pub invariant-loop-digit : goal.invariant-loop-digit
invariant-loop-digit l =
    (value_from l.value (drop l.digit-index l.word) ≡ decimal_value l.fn.word)
    × (l.value + 1 ≤ 10 ^ l.digit-index)
    × (list_all is_ascii_digit (drop l.digit-index l.word) ≡ list_all is_ascii_digit l.fn.word)
