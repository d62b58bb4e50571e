-- The words of six letters or more.
use Rattle.std.proofs.Common.{◌≡◌, sym, ap, rules}
use Rattle.std.specs.Prelude.{codes}
use Rattle.std.proofs.lemmas.Slice.Eq.{text_from_reads}
use Rattle.meter_lines_spec.specs.Lines.{word_named}
use Rattle.meter_run.proofs.lines.word_named.Goals as goal

pub returns-in-create : goal.returns-in-create
returns-in-create c =
    let is : c.args.word.now ≡ codes "create" =
    text_from_reads _ (codes "create") (search rules) (search rules) in
    record { value = sym (ap word_named is) }

pub returns-in-delete : goal.returns-in-delete
returns-in-delete c =
    let is : c.args.word.now ≡ codes "delete" =
    text_from_reads _ (codes "delete") (search rules) (search rules) in
    record { value = sym (ap word_named is) }

pub returns-in-current : goal.returns-in-current
returns-in-current c =
    let is : c.args.word.now ≡ codes "current" =
    text_from_reads _ (codes "current") (search rules) (search rules) in
    record { value = sym (ap word_named is) }
