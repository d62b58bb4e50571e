use Rattle.std.proofs.Common.{◌++◌}
use Rattle.std.specs.Prelude.{codes, decimal}
use Rattle.message_spec.specs.Text.{message_text}
use Rattle.world_spec.specs.Trace.{direction_text, effect_text}
use Rattle.trace_lines.proofs.Joining.{then}
use Rattle.trace_lines.proofs.texts.append_sent.Goals as goal

pub returns-clause-text : goal.returns-clause-text
unfolding effect_text
returns-clause-text c =
    let start = c.args.line.now in
    let word = codes "sent " in
    let number = word ++ decimal c.args.number in
    let space = number ++ codes " " in
    let way = space ++ direction_text c.args.direction in
    let front = way ++ codes " " in
    let with_word = c.append.ensures.text in
    let with_number =
    then start c.append.new.self c.append_number.new.self word (decimal c.args.number) with_word
    c.append_number.ensures.text in
    let with_space =
    then start c.append_number.new.self c.append-2.new.self number (codes " ") with_number
    c.append-2.ensures.text in
    let with_way =
    then start c.append-2.new.self c.append_direction.new.line space
    (direction_text c.args.direction) with_space c.append_direction.ensures.text in
    let with_front =
    then start c.append_direction.new.line c.append-3.new.self way (codes " ") with_way
    c.append-3.ensures.text in
    then start c.append-3.new.self c.append_text.new.self front (message_text c.args.frame.now)
    with_front c.append_text.ensures.text
