-- What the whole drill comes to: its line, and the nodes that its world stands for.
use Rattle.std.proofs.Common.{◌≡◌, ◌+◌, ◌*◌, ◌^◌, ◌≤◌, ◌<◌, ◌++◌, ℕ, suc, List, [], length, refl, sym, ◌∙◌, ap, subst, arith}
use Rattle.std.specs.List.{All}
use Rattle.script_spec.specs.Script.{Action, IsAction}
use Rattle.world_spec.specs.Trace.{trace}
use Rattle.link_replay.specs.Seen.{State, WorldStands}
use Rattle.drill_spec.specs.declared.Counts.{Counts}
use Rattle.drill_spec.specs.declared.TheConstants.{STEPS}
use Rattle.drill_spec.specs.Drill.{drill, first_lines, step_lines, lines_after, lines_until, state_before, state_after}
use Rattle.drill_spec.specs.Summary.{counts_text, script_summary, drill_nodes, drill_summary}
use Rattle.drill_run.specs.Tallied.{Tallied}
use Rattle.drill_run.specs.Drilled.{script_of, Drilled, DrilledSome}
use Rattle.drill_run.proofs.Counting.{tallied_is}
use Rattle.drill_run.proofs.Lines.{at_least_none, first_fit, both_fit, both_few, until_few}
use Rattle.drill_run.proofs.Running.{events_are}

-- a world that ran all lines stands for the nodes after the drill's script
pub drill_ends : (number : ℕ) (w : State) (t : Tallied) → Drilled (lines_until number STEPS) w t → WorldStands w (drill_nodes number)
unfolding drill_nodes drill
drill_ends number w t d = d.stands

-- the line of what was tallied is the drill's
pub drill_summed : (number events : ℕ) (w : State) (t : Tallied) → Drilled (lines_until number STEPS) w t → events ≡ w.seen.event → counts_text number events t.counts ≡ drill_summary number
unfolding drill_summary script_summary drill
drill_summed number events w t d is =
    let lines = lines_until number STEPS in
    ap (λ (n : ℕ). counts_text number n t.counts) (is ∙ events_are lines w t d)
    ∙ ap (λ (c : Counts). counts_text number (length lines) c) (ap (λ (x : Tallied). x.counts) d.counted ∙ tallied_is (trace (script_of lines)))

-- the line that is written is the drill's
pub drill_told : (number events : ℕ) (counts : Counts) (none line : List ℕ) (w : State) (t : Tallied) → Drilled (lines_until number STEPS) w t → events ≡ w.seen.event → counts ≡ t.counts → none ≡ [] → line ≡ none ++ counts_text number events counts → line ≡ drill_summary number
drill_told number events counts none line w t d is same empty pushed =
    pushed ∙ ap (λ (z : List ℕ). z ++ counts_text number events counts) empty
    ∙ ap (λ (c : Counts). counts_text number events c) same ∙ drill_summed number events w t d is

-- ---- the lines that are run together

-- those before the first step
pub first_made : (none events : List Action) → none ≡ [] → events ≡ none ++ first_lines → events ≡ first_lines
first_made none events empty pushed = pushed ∙ ap (λ (xs : List Action). xs ++ first_lines) empty

-- those of a step
pub step_made : (steps state : ℕ) (none lines events : List Action) → none ≡ [] → lines ≡ none ++ step_lines state → events ≡ lines ++ lines_after (steps + 1) → events ≡ step_lines state ++ lines_after (steps + 1)
step_made steps state none lines events empty stepped cut =
    cut ∙ ap (λ (xs : List Action). xs ++ lines_after (steps + 1)) (stepped ∙ ap (λ (xs : List Action). xs ++ step_lines state) empty)

six_short : (n : ℕ) → n ≤ 6 → n ≤ 2 ^ 32
six_short n few = omega (arith, few)

first_few : length first_lines ≤ 2 ^ 32
first_few = six_short 2 (omega arith)

pub first_short : (events : List Action) → events ≡ first_lines → length events ≤ 2 ^ 32
first_short events made = subst (λ (xs : List Action). length xs ≤ 2 ^ 32) (sym made) first_few

pub first_ranges : (events : List Action) → events ≡ first_lines → All IsAction events
first_ranges events made = subst (All IsAction) (sym made) first_fit

pub step_short : (steps state : ℕ) (events : List Action) → events ≡ step_lines state ++ lines_after (steps + 1) → length events ≤ 2 ^ 32
step_short steps state events made =
    subst (λ (xs : List Action). length xs ≤ 2 ^ 32) (sym made)
    (six_short (length (step_lines state ++ lines_after (steps + 1))) (both_few state (steps + 1)))

pub step_ranges : (steps state : ℕ) (events : List Action) → events ≡ step_lines state ++ lines_after (steps + 1) → All IsAction events
step_ranges steps state events made = subst (All IsAction) (sym made) (both_fit state (steps + 1))

-- ---- some lines were run

pub some_first : (w : State) (t : Tallied) → Drilled [] w t → DrilledSome (2 ^ 32) w t
some_first w t d = record { done = []; drilled = d; few = at_least_none (2 ^ 32) }

pub some_before : (number steps : ℕ) (w : State) (t : Tallied) → Drilled (lines_until number steps) w t → steps < STEPS → DrilledSome (2 ^ 32) w t
some_before number steps w t d lt =
    let few = until_few number steps in
    let before : steps < 5000 = lt in
    record { done = lines_until number steps; drilled = d; few = omega (arith, few, before) }

-- ---- the loop over the steps

pub steps_start : (number : ℕ) (events : List Action) (w w' : State) (t t' : Tallied) → Drilled [] w t → events ≡ first_lines → ((done : List Action) → Drilled done w t → Drilled (done ++ events) w' t') → Drilled (lines_until number 0) w' t' × (number ≡ state_before number 0)
unfolding lines_until state_before
steps_start number events w w' t t' before made runs =
    (subst (λ (xs : List Action). Drilled xs w' t') made (runs [] before), refl)

pub steps_go_on : (number steps state after : ℕ) (events : List Action) (w w' : State) (t t' : Tallied) → Drilled (lines_until number steps) w t × (state ≡ state_before number steps) → events ≡ step_lines state ++ lines_after (steps + 1) → after ≡ state_after (state_after state) → ((done : List Action) → Drilled done w t → Drilled (done ++ events) w' t') → Drilled (lines_until number (steps + 1)) w' t' × (after ≡ state_before number (steps + 1))
unfolding lines_until state_before
steps_go_on number steps state after events w w' t t' before made drawn runs =
    let next : suc steps ≡ steps + 1 = omega arith in
    let lines : events ≡ step_lines (state_before number steps) ++ lines_after (suc steps) =
    made ∙ ap (λ (n : ℕ). step_lines n ++ lines_after (steps + 1)) before.1
    ∙ ap (λ (n : ℕ). step_lines (state_before number steps) ++ lines_after n) (sym next) in
    let ran : Drilled (lines_until number (suc steps)) w' t' =
    subst (λ (xs : List Action). Drilled (lines_until number steps ++ xs) w' t') lines (runs (lines_until number steps) before.0) in
    let drew : after ≡ state_before number (suc steps) =
    drawn ∙ ap (λ (n : ℕ). state_after (state_after n)) before.1 in
    (subst (λ (n : ℕ). Drilled (lines_until number n) w' t') next ran, drew ∙ ap (state_before number) next)

-- after the last step
pub steps_end : (number steps : ℕ) (w : State) (t : Tallied) → steps ≡ STEPS → Drilled (lines_until number steps) w t → Drilled (lines_until number STEPS) w t
steps_end number steps w t last d = subst (λ (n : ℕ). Drilled (lines_until number n) w t) last d
