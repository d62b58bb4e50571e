use Rattle.std.proofs.Common.{◌≡◌, ◌++◌, drop}
use Rattle.std.specs.List.{flat_map}
use Rattle.script_spec.specs.Canonical.{action_text, canonical}
use Rattle.replay_script.proofs.printing.print.Given as goal

-- the text so far, and then the lines that are left, are the whole
abbrev pub invariant-loop-place : goal.invariant-loop-place
invariant-loop-place l =
    l.text.items ++ flat_map action_text (drop l.place l.script.actions) ≡ canonical l.script
