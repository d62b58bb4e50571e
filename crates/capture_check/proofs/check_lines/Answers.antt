use Rattle.std.proofs.Common.{◌≡◌, ◌<◌, ◌+◌, ℕ, length, slice_get, Some, sym, ap, subst, ◌∙◌, arith}
use Rattle.capture_spec.specs.declared.CaptureLine.{CaptureLine}
use Rattle.capture_spec.specs.declared.Breach.{Breach}
use Rattle.capture_spec.specs.declared.Verdict.TheVariants as verdicts
use Rattle.capture_spec.specs.Runs.{Lines, item_of}
use Rattle.capture_spec.specs.Breaches.{number_in, line_number, verdict}
use Rattle.capture_check.specs.Steps.{Known, Fits, found_in}
use Rattle.capture_check.proofs.Standing.{Stands, no_breach, nothing_stands, no_breach_yet, no_breach_next, stands_next, found_is, few_runs, few_replies, verdict_found, verdict_ok}
use Rattle.capture_check.proofs.check_lines.Goals as goal

pub loop-place-init : goal.loop-place-init
loop-place-init c = record {
  stands = subst (λ s. Stands c.args.lines.now 0 s) (sym c.in_ok-checker.ensures) (nothing_stands c.args.lines.now);
  clean = no_breach_yet c.args.lines.now;
}

pub take-requires-clause-few : goal.take-requires-clause-few
take-requires-clause-few c = (few_runs c.args.lines.now c.loop-place.place c.loop-place.checker c.loop-place.invariant.stands, few_replies c.args.lines.now c.loop-place.place c.loop-place.checker c.loop-place.invariant.stands)

numbered : (lines : Lines) (n : ℕ) (line : CaptureLine) → slice_get lines n ≡ Some line → line.line ≡ line_number lines n
unfolding line_number
numbered lines n line is = sym (ap number_in is)

breach_said : (lines : Lines) (n : ℕ) (line : CaptureLine) (s : Known) (b : Breach) → slice_get lines n ≡ Some line → Stands lines n s → no_breach lines n → Fits (Some line.item) → Some b ≡ found_in lines (Some line.item) s → n < length lines → verdicts.Breach line.line b.kind b.earlier ≡ verdict lines
breach_said lines n line s b is st none fits found lt =
    ap (λ x. verdicts.Breach x b.kind b.earlier) (numbered lines n line is)
    ∙ verdict_found lines n b none (sym (found ∙ found_is lines n s line.item st (ap item_of is) fits)) lt

pub returns-in-Some : goal.returns-in-Some
returns-in-Some c = record {
  verdict = breach_said c.args.lines.now c.loop-place.place c.line_at-line.result c.loop-place.checker c.in-Some.breach c.line_at-line.ensures
      c.loop-place.invariant.stands c.loop-place.invariant.clean c.take.ensures.fits c.in-Some.ensures.breach (omega (arith, c.loop-place-test.true));
}

pub loop-place-preserved : goal.loop-place-preserved
loop-place-preserved c = record {
  stands = subst (λ s. Stands c.args.lines.now (c.loop-place.place + 1) s) (sym c.take.ensures.value)
      (stands_next c.args.lines.now c.loop-place.place c.loop-place.checker c.line_at-line.result.item c.loop-place.invariant.stands (ap item_of c.line_at-line.ensures) c.take.ensures.fits);
  clean = no_breach_next c.args.lines.now c.loop-place.place c.loop-place.invariant.clean
      (sym (found_is c.args.lines.now c.loop-place.place c.loop-place.checker c.line_at-line.result.item c.loop-place.invariant.stands (ap item_of c.line_at-line.ensures) c.take.ensures.fits)
      ∙ sym c.take.ensures.breach ∙ c.in_default.is);
}

pub returns : goal.returns
returns c = record {
  verdict = c.verdict.ensures ∙ verdict_ok c.args.lines.now c.loop-place.place c.loop-place.checker c.loop-place.invariant.stands c.loop-place.invariant.clean (omega (arith, c.loop-place-test.false));
}
