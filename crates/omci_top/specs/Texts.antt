-- What is written of an input: the trace of the script that it spells, or one line that says why
-- there is none.
use Rattle.std.specs.Prelude.{ℕ, List, ◌++◌, codes, decimal, Result, Ok, Err}
use Rattle.script_spec.specs.Script.{Script}
use Rattle.script_spec.specs.Reading.{reading}
use Rattle.world_spec.specs.Trace.{trace}

-- the line of an input that is refused: where its first fault stands, and the reason
unfoldable pub input_text : ℕ → ℕ → List ℕ
input_text place reason = codes "input " ++ decimal place ++ codes " " ++ decimal reason
    ++ codes "\n"

abbrev pub answer_of : Result Script (ℕ × ℕ) → List ℕ
answer_of (Ok script) = trace script
answer_of (Err at) = input_text at.0 at.1

-- what a run on this input writes where nothing fails
unfoldable pub answer_to : List ℕ → List ℕ
answer_to input = answer_of (reading input)
