-- What one line more of the drill makes of the world, of its trace and of what is tallied of it.
use Rattle.std.proofs.Common.{◌≡◌, ◌+◌, ◌≤◌, ◌<◌, ◌^◌, ℕ, zero, suc, List, [], ◌∷◌, ◌++◌, length, take, Some, slice_get, refl, sym, ◌∙◌, ap, subst, append_assoc, arith}
use Rattle.std.proofs.lemmas.List.{append-nil, length-append, length-take-le, take_more, take_all}
use Rattle.std.specs.List.{All}
use Rattle.std.proofs.lemmas.Option.{slice_get_within, get_or_from_slice_get}
use Rattle.script_spec.specs.Script.{Action, IsAction}
use Rattle.world_spec.specs.Nodes.{Nodes, step, first_nodes, nodes_after}
use Rattle.world_spec.specs.declared.Effect.TheVariants as effect
use Rattle.world_spec.specs.Ends.{factory_software}
use Rattle.world_spec.specs.Trace.{line_text, turn_text, trace_from, trace}
use Rattle.unit_spec.specs.Onu.{onu_started}
use Rattle.link_replay.specs.Seen.{State, Stands, WorldStands, life_text}
use Rattle.link_replay.proofs.Flows.{step_event}
use Rattle.drill_spec.specs.Drill.{drill_header}
use Rattle.drill_run.specs.Tallied.{Tallied, no_tally, text_tallied}
use Rattle.drill_run.specs.Drilled.{script_of, Drilled, DrilledSome}
use Rattle.drill_run.proofs.Counting.{tallied_both}

-- the nodes before the drill's first line
abbrev pub start : Nodes
start = first_nodes drill_header

nodes_join : (done : List Action) (a : Action) (n : Nodes) → nodes_after (done ++ (a ∷ [])) n ≡ (step a (nodes_after done n)).nodes
unfolding nodes_after
nodes_join [] a n = refl
nodes_join (x ∷ rest) a n = nodes_join rest a (step x n).nodes

lines_join : (done : List Action) (a : Action) (n : Nodes) → trace_from (done ++ (a ∷ [])) n ≡ trace_from done n ++ turn_text (nodes_after done n) (step a (nodes_after done n))
unfolding trace_from nodes_after
lines_join [] a n = append-nil (turn_text n (step a n))
lines_join (x ∷ rest) a n =
    let next = (step x n).nodes in
    ap (λ (t : List ℕ). turn_text n (step x n) ++ t) (lines_join rest a next)
    ∙ sym (append_assoc (turn_text n (step x n)) (trace_from rest next) (turn_text (nodes_after rest next) (step a (nodes_after rest next))))

trace_join : (done : List Action) (a : Action) → trace (script_of (done ++ (a ∷ []))) ≡ trace (script_of done) ++ turn_text (nodes_after done start) (step a (nodes_after done start))
unfolding trace
trace_join done a =
    let life = line_text 0 (effect.UnitStarted 1 (factory_software drill_header.factory)) in
    ap (λ (t : List ℕ). life ++ t) (lines_join done a start)
    ∙ sym (append_assoc life (trace_from done start) (turn_text (nodes_after done start) (step a (nodes_after done start))))

-- before the first line the unit's start line is tallied
pub drilled_none : (w : State) (lines text : List ℕ) (t t' : Tallied) → WorldStands w start → lines ≡ []
    → ((n : Nodes) → Stands w.seen n → text ≡ lines ++ life_text n.ends.event n.ends.lives n.ends.unit)
    → t ≡ no_tally → t' ≡ text_tallied text t → Drilled [] w t'
unfolding trace trace_from nodes_after onu_started
drilled_none w lines text t t' stands none told first after =
    let text_is = told start stands.stands ∙ ap (λ (z : List ℕ). z ++ life_text start.ends.event start.ends.lives start.ends.unit) none in
    record {
      stands = stands;
      counted = after ∙ ap (text_tallied text) first ∙ ap (λ (z : List ℕ). text_tallied z no_tally) (text_is ∙ sym (append-nil (life_text start.ends.event start.ends.lives start.ends.unit)));
    }

-- one line more
pub drilled_one : (done : List Action) (a : Action) (old new : State) (t t' : Tallied) (lines text : List ℕ) → Drilled done old t → lines ≡ []
    → ((n : Nodes) → Stands old.seen n → WorldStands new (step a n).nodes)
    → ((n : Nodes) → Stands old.seen n → text ≡ lines ++ turn_text n (step a n))
    → t' ≡ text_tallied text t → Drilled (done ++ (a ∷ [])) new t'
drilled_one done a old new t t' lines text before none stands told after =
    let n = nodes_after done start in
    let seen = before.stands.stands in
    let turn = turn_text n (step a n) in
    let text_is = told n seen ∙ ap (λ (z : List ℕ). z ++ turn) none in
    record {
      stands = subst (λ (m : Nodes). WorldStands new m) (sym (nodes_join done a start)) (stands n seen);
      counted =
          after ∙ ap (λ (z : List ℕ). text_tallied z t) text_is ∙ ap (text_tallied turn) before.counted
          ∙ sym (tallied_both (trace (script_of done)) turn no_tally)
          ∙ ap (λ (z : List ℕ). text_tallied z no_tally) (sym (trace_join done a));
    }

-- ---- how many lines were run

more_none : (n : ℕ) → n ≡ n + 0
more_none n = omega arith

more_one : (a b k : ℕ) → a ≡ b + 1 → a + k ≡ b + suc k
more_one a b k e = omega (arith, e)

events_after : (done : List Action) (n : Nodes) → (nodes_after done n).ends.event ≡ n.ends.event + length done
unfolding nodes_after
events_after [] n = more_none n.ends.event
events_after (x ∷ rest) n =
    let next = (step x n).nodes in
    events_after rest next ∙ more_one next.ends.event n.ends.event (length rest) (step_event x n)

pub events_are : (done : List Action) (w : State) (t : Tallied) → Drilled done w t → w.seen.event ≡ length done
events_are done w t d =
    let here = d.stands.stands.ends.event_is in
    let after = events_after done start in
    let first : start.ends.event ≡ 0 = refl in
    omega (arith, here, after, first)

-- ---- the lines of a loop

-- the lines up to a place, and the one there
take_there : (xs : List Action) (place : ℕ) (a : Action) → slice_get xs place ≡ Some a → take (place + 1) xs ≡ take place xs ++ (a ∷ [])
take_there xs place a e =
    take_more xs place a (slice_get_within xs place a e)
    ∙ ap (λ (x : Action). take place xs ++ (x ∷ [])) (get_or_from_slice_get xs place a a e)

-- before the first turn of a loop
pub drilled_start : (done events : List Action) (w : State) (t : Tallied) → Drilled done w t → Drilled (done ++ take 0 events) w t
drilled_start done events w t d = subst (λ (xs : List Action). Drilled xs w t) (sym (append-nil done)) d

-- after the last one
pub drilled_end : (done events : List Action) (place : ℕ) (w : State) (t : Tallied) → length events ≤ place → Drilled (done ++ take place events) w t → Drilled (done ++ events) w t
drilled_end done events place w t all d =
    subst (λ (xs : List Action). Drilled (done ++ xs) w t) (take_all place events all) d

-- one line more may be run
pub few_there : (done events : List Action) (place : ℕ) (w : State) (t : Tallied) → Drilled (done ++ take place events) w t → length done ≤ 2 ^ 32 → place ≤ length events → length events ≤ 2 ^ 32 → w.seen.event + 1 < 2 ^ 64
few_there done events place w t d few within short =
    let count = events_are (done ++ take place events) w t d in
    let lines = length-append done (take place events) in
    let taken = length-take-le place events within in
    omega (arith, count, lines, taken, few, within, short)

pub drilled_more : (done events : List Action) (place : ℕ) (a : Action) (w : State) (t : Tallied) → Drilled ((done ++ take place events) ++ (a ∷ [])) w t → slice_get events place ≡ Some a → Drilled (done ++ take (place + 1) events) w t
drilled_more done events place a w t d here =
    subst (λ (xs : List Action). Drilled xs w t) (append_assoc done (take place events) (a ∷ []) ∙ ap (λ (xs : List Action). done ++ xs) (sym (take_there events place a here))) d

-- the line at a place is one that a script may have
pub fits_there : (events : List Action) (place : ℕ) (a : Action) → All IsAction events → slice_get events place ≡ Some a → IsAction a
fits_there events place a all here =
    subst IsAction (get_or_from_slice_get events place a a here) (all place a (slice_get_within events place a here))
