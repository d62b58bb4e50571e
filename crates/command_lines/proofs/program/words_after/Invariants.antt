use Rattle.std.proofs.Common.{◌≡◌, ◌++◌, drop, map}
use Rattle.std.specs.String.{string_bytes}
use Rattle.command_lines.proofs.program.words_after.Given as goal

abbrev pub invariant-loop-place : goal.invariant-loop-place
invariant-loop-place l = l.words ++ map string_bytes (drop l.place l.arguments) ≡ map string_bytes (drop 1 l.arguments)
