-- What the check of a capture's text writes.
use Rattle.std.specs.Prelude.{ℕ, List, ◌++◌, codes, decimal, Result, Ok}
use Rattle.script_spec.specs.Reading.{◌>>=◌}
use Rattle.capture_spec.specs.declared.Verdict.{Verdict}
use Rattle.capture_spec.specs.declared.Verdict.TheVariants as verdicts
use Rattle.capture_spec.specs.Breaches.{verdict}
use Rattle.capture_spec.specs.Input.{capture_reading}

-- The line of a verdict.
unfoldable pub verdict_text : Verdict → List ℕ
verdict_text (verdicts.Ok runs replies) =
    codes "ok " ++ decimal runs ++ codes " " ++ decimal replies ++ codes "\n"
verdict_text (verdicts.Breach line kind earlier) =
    codes "breach " ++ decimal line ++ codes " " ++ decimal kind ++ codes " " ++ decimal earlier
    ++ codes "\n"

-- The output for a text, or the text's first fault.
unfoldable pub capture_text : List ℕ → Result (List ℕ) (ℕ × ℕ)
capture_text bytes = capture_reading bytes >>= λ lines. Ok (verdict_text (verdict lines))
