use Rattle.std.proofs.Common.{◌≡◌, ◌+◌, ◌≤◌, ◌++◌, ◌∷◌, List, ℕ, Some, length}
use Rattle.std.proofs.Common.{drop, sym, ap, ◌∙◌, arith, append_assoc, suc, add-one}
use Rattle.std.proofs.Common.{drop-cons}
use Rattle.std.proofs.Math.ListN.{drop_of_length-le}
use Rattle.std.specs.Prelude.{slice_get}
use Rattle.std.specs.List.{flat_map}
use Rattle.std.proofs.lemmas.List.{append-nil}
use Rattle.std.proofs.lemmas.Option.{slice_get_within, get_or_from_slice_get}
use Rattle.script_spec.specs.Script.{Action}
use Rattle.script_spec.specs.Reading.{reading}
use Rattle.script_spec.specs.Canonical.{action_text, header_text, canonical}
use Rattle.script_laws.proofs.Canonical.{canonical_written}
use Rattle.script_laws.proofs.Scripts.{reading-Writes}
use Rattle.replay_script.specs.Events.{action_of, header_of}
use Rattle.replay_script.proofs.printing.print.Goals as goal

pub loop-place-init : goal.loop-place-init
unfolding canonical
loop-place-init c =
    ap (λ xs. xs ++ flat_map action_text c.args.script.now.actions)
    (c.in_ok-put_header.ensures.appended
    ∙ ap (λ xs. xs ++ header_text (header_of c.header.result.now)) c.new-text.ensures.items
    ∙ ap header_text c.header.ensures.value)

-- one line more
one_more : (actions : List Action) (place : ℕ) (action : Action) (text more whole : List ℕ)
    → slice_get actions place ≡ Some action → more ≡ text ++ action_text action
    → text ++ flat_map action_text (drop place actions) ≡ whole
    → more ++ flat_map action_text (drop (place + 1) actions) ≡ whole
one_more actions place action text more whole found is so_far =
    let first : drop place actions ≡ action ∷ drop (place + 1) actions =
    drop-cons actions place action (slice_get_within actions place action found)
    ∙ ap (λ x. x ∷ drop (suc place) actions)
    (get_or_from_slice_get actions place action action found)
    ∙ ap (λ n. action ∷ drop n actions) (sym (add-one place)) in
    ap (λ xs. xs ++ flat_map action_text (drop (place + 1) actions)) is
    ∙ append_assoc text (action_text action) (flat_map action_text (drop (place + 1) actions))
    ∙ ap (λ left. text ++ flat_map action_text left) (sym first) ∙ so_far

-- no line is left
all_printed : (actions : List Action) (place : ℕ) (text whole : List ℕ) → length actions ≤ place
    → text ++ flat_map action_text (drop place actions) ≡ whole → text ≡ whole
all_printed actions place text whole past so_far =
    sym (append-nil text)
    ∙ ap (λ left. text ++ flat_map action_text left) (sym (drop_of_length-le actions past))
    ∙ so_far

pub loop-place-preserved : goal.loop-place-preserved
loop-place-preserved c =
    one_more c.args.script.now.actions c.loop-place.place (action_of c.event.result.now)
    c.loop-place.text.items c.put_event.new.out.items (canonical c.args.script.now)
    c.event.ensures.value c.in_ok-put_event.ensures.appended c.loop-place.invariant

pub returns-clause-back : goal.returns-clause-back
returns-clause-back c =
    let script = c.args.script.now in
    let past : length script.actions ≤ c.loop-place.place =
    omega (arith, c.len-place-end.ensures.value, c.loop-place-test.false) in
    let text =
    all_printed script.actions c.loop-place.place c.loop-place.text.items (canonical script)
    past c.loop-place.invariant in
    ap reading text
    ∙ reading-Writes script (canonical script) (canonical_written script c.header.ensures.whole)
