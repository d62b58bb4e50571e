use Rattle.std.proofs.Common.{sym, ◌∙◌}
use Rattle.script_laws.proofs.Steps.{ok_same}
use Rattle.script_laws.proofs.Scripts.{reading-Writes}
use Rattle.script_laws.proofs.bytes_write_one_script.Goals as goal

pub returns : goal.returns
returns c = record {
  one =
      λ bytes script other h i.
      ok_same (sym (reading-Writes script bytes h) ∙ reading-Writes other bytes i);
}
