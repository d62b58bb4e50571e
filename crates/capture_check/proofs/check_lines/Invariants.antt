use Rattle.capture_check.proofs.Standing.{Stands, no_breach}
use Rattle.capture_check.proofs.check_lines.Given as goal

abbrev pub invariant-loop-place : goal.invariant-loop-place
invariant-loop-place l = record {
  stands : Stands l.lines l.place l.checker;
  clean : no_breach l.lines l.place;
}
