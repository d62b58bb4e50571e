-- The kinds of line whose names have six letters or more.
use Rattle.std.proofs.Common.{refl, rules}
use Rattle.std.specs.Prelude.{codes}
use Rattle.std.proofs.lemmas.Slice.Eq.{text_from_reads}
use Rattle.script_spec.specs.declared.Line.TheVariants.{Create, Delete, Activate, Commit, Reboot}
use Rattle.script_spec.specs.declared.Line.TheVariants.{Resync, Deliver}
use Rattle.line_words.proofs.Names.{line_by_word}
use Rattle.line_words.proofs.words.LineWords.named_line.Goals as goal

pub returns-in-create : goal.returns-in-create
returns-in-create c = record {
  value =
      line_by_word Create (codes "create") refl _ _ _ c.in_ok-word.ensures.value
      (text_from_reads _ (codes "create") (search rules) (search rules));
}

pub returns-in-delete : goal.returns-in-delete
returns-in-delete c = record {
  value =
      line_by_word Delete (codes "delete") refl _ _ _ c.in_ok-word.ensures.value
      (text_from_reads _ (codes "delete") (search rules) (search rules));
}

pub returns-in-activate : goal.returns-in-activate
returns-in-activate c = record {
  value =
      line_by_word Activate (codes "activate") refl _ _ _ c.in_ok-word.ensures.value
      (text_from_reads _ (codes "activate") (search rules) (search rules));
}

pub returns-in-commit : goal.returns-in-commit
returns-in-commit c = record {
  value =
      line_by_word Commit (codes "commit") refl _ _ _ c.in_ok-word.ensures.value
      (text_from_reads _ (codes "commit") (search rules) (search rules));
}

pub returns-in-reboot : goal.returns-in-reboot
returns-in-reboot c = record {
  value =
      line_by_word Reboot (codes "reboot") refl _ _ _ c.in_ok-word.ensures.value
      (text_from_reads _ (codes "reboot") (search rules) (search rules));
}

pub returns-in-resync : goal.returns-in-resync
returns-in-resync c = record {
  value =
      line_by_word Resync (codes "resync") refl _ _ _ c.in_ok-word.ensures.value
      (text_from_reads _ (codes "resync") (search rules) (search rules));
}

pub returns-in-deliver : goal.returns-in-deliver
returns-in-deliver c = record {
  value =
      line_by_word Deliver (codes "deliver") refl _ _ _ c.in_ok-word.ensures.value
      (text_from_reads _ (codes "deliver") (search rules) (search rules));
}
