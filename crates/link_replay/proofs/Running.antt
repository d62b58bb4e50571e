-- What a run has written after some of its events.
use Rattle.std.proofs.Common.{◌≡◌, false, ℕ, zero, suc, ◌+◌, List, [], ◌∷◌, ◌++◌, length, drop, Option, Some, slice_get, refl, sym, ◌∙◌, ap, subst, append_assoc, arith}
use Rattle.std.proofs.lemmas.List.{append-nil}
use Rattle.std.specs.Io.KnownBytes.{Appends}
use Rattle.omci_core.proofs.Streams.{Appends-none, Appends-then}
use Rattle.script_spec.specs.Script.{Script, Action}
use Rattle.unit_spec.specs.Onu.{onu_started}
use Rattle.world_spec.specs.Nodes.{Nodes, step, first_nodes, nodes_after}
use Rattle.world_spec.specs.Trace.{turn_text, trace_from, trace}
use Rattle.link_replay.specs.Seen.{State, Stands, WorldStands, life_text}
use Rattle.link_replay.proofs.Flows.{step_event}
use Rattle.whole_writes.specs.Writing.{WritesFront}
use Rattle.trace_lines.specs.Writing.{WritesSome}

-- the events from a place on, where one is there
drop_at : (actions : List Action) (place : ℕ) (a : Action) → slice_get actions place ≡ Some a → drop place actions ≡ a ∷ drop (place + 1) actions
drop_at [] place a e = absurd (cc)
drop_at (x ∷ rest) zero a e = let same : x ≡ a = cc in ap (λ y. y ∷ rest) same
drop_at (x ∷ rest) (suc place) a e =
    let next : suc (place + 1) ≡ suc place + 1 = omega arith in
    drop_at rest place a e ∙ ap (λ k. a ∷ drop k (x ∷ rest)) next

-- after some events: the nodes that the world stands for, what was written, and that with the lines held and the trace of the rest
-- it is the whole trace
pub record RunSoFar (s : Script) (place : ℕ) (now : State) (held : List ℕ) (before after : Option (List ℕ)) : Type 0 where
  pub nodes : Nodes
  pub stands : WorldStands now nodes
  pub event : nodes.ends.event ≡ place
  pub count : now.seen.event ≡ place
  pub done : List ℕ
  pub added : Appends before after done
  pub whole : (done ++ held) ++ trace_from (drop place s.actions) nodes ≡ trace s
  pub rest : nodes_after (drop place s.actions) nodes ≡ nodes_after s.actions (first_nodes s.header)

-- before the first event the unit's start line is held
pub run_starts : (s : Script) (now : State) (lines held : List ℕ) (before : Option (List ℕ)) → WorldStands now (first_nodes s.header) → lines ≡ []
    → ((n : Nodes) → Stands now.seen n → held ≡ lines ++ life_text n.ends.event n.ends.lives n.ends.unit) → RunSoFar s 0 now held before before
unfolding trace onu_started
run_starts s now lines held before stands lines_is held_is =
    let n = first_nodes s.header in
    let held' = held_is n stands.stands ∙ ap (λ t. t ++ life_text n.ends.event n.ends.lives n.ends.unit) lines_is in
    record {
      nodes = n;
      stands = stands;
      event = refl;
      count = stands.stands.ends.event_is;
      done = [];
      added = Appends-none before;
      whole = ap (λ z. z ++ trace_from s.actions n) held';
      rest = refl;
    }

nodes_next : (a : Action) (rest : List Action) (n : Nodes) → nodes_after rest (step a n).nodes ≡ nodes_after (a ∷ rest) n
unfolding nodes_after
nodes_next a rest n = refl

nodes_end : (n : Nodes) → nodes_after [] n ≡ n
unfolding nodes_after
nodes_end n = refl

-- what one event writes and leaves held follows what was written before it
pub run_goes_on : (s : Script) (place : ℕ) (a : Action) (now next : State) (held held' : List ℕ) (before middle after : Option (List ℕ)) → RunSoFar s place now held before middle → slice_get s.actions place ≡ Some a → ((n : Nodes) → Stands now.seen n → WorldStands next (step a n).nodes) → ((n : Nodes) → Stands now.seen n → WritesSome (held ++ turn_text n (step a n)) middle after held') → RunSoFar s (place + 1) next held' before after
unfolding trace_from
run_goes_on s place a now next held held' before middle after so_far here stands writes =
    let n = so_far.nodes in
    let now' = so_far.stands.stands in
    let next' = stands n now' in
    let some = writes n now' in
    let lines = turn_text n (step a n) in
    let rest = drop (place + 1) s.actions in
    record {
      nodes = (step a n).nodes;
      stands = next';
      event = step_event a n ∙ ap (λ k. k + 1) so_far.event;
      count = next'.stands.ends.event_is ∙ step_event a n ∙ ap (λ k. k + 1) so_far.event;
      done = so_far.done ++ some.done;
      added = Appends-then before middle after so_far.done some.done so_far.added some.added;
      whole =
          ap (λ z. z ++ trace_from rest (step a n).nodes) (append_assoc so_far.done some.done held' ∙ ap (λ z. so_far.done ++ z) (sym some.parts) ∙ sym (append_assoc so_far.done held lines))
          ∙ append_assoc (so_far.done ++ held) lines (trace_from rest (step a n).nodes)
          ∙ ap (λ actions. (so_far.done ++ held) ++ trace_from actions n) (sym (drop_at s.actions place a here))
          ∙ so_far.whole;
      rest = nodes_next a rest n ∙ ap (λ actions. nodes_after actions n) (sym (drop_at s.actions place a here)) ∙ so_far.rest;
    }

-- a front of what is held and of the next event's lines is a front of the trace
pub run_breaks_off : (s : Script) (place : ℕ) (a : Action) (now : State) (held : List ℕ) (before middle after : Option (List ℕ)) → RunSoFar s place now held before middle → slice_get s.actions place ≡ Some a → ((n : Nodes) → Stands now.seen n → WritesFront (held ++ turn_text n (step a n)) middle after) → WritesFront (trace s) before after
unfolding trace_from
run_breaks_off s place a now held before middle after so_far here fronts =
    let n = so_far.nodes in
    let front = fronts n so_far.stands.stands in
    let lines = turn_text n (step a n) in
    let rest = trace_from (drop (place + 1) s.actions) (step a n).nodes in (
      so_far.done ++ front.0,
      (
        front.1.0 ++ rest,
        append_assoc so_far.done front.0 (front.1.0 ++ rest)
            ∙ ap (λ z. so_far.done ++ z) (sym (append_assoc front.0 front.1.0 rest) ∙ ap (λ z. z ++ rest) front.1.1 ∙ append_assoc held lines rest)
            ∙ sym (append_assoc so_far.done held (lines ++ rest))
            ∙ ap (λ actions. (so_far.done ++ held) ++ trace_from actions n) (sym (drop_at s.actions place a here))
            ∙ so_far.whole,
      ),
      Appends-then before middle after so_far.done front.0 so_far.added front.2,
    )

no_more : (actions : List Action) → drop (length actions) actions ≡ []
no_more [] = refl
no_more (x ∷ rest) = no_more rest

-- at the end what is held is the rest of the trace
pub run_ends : (s : Script) (now : State) (held : List ℕ) (before middle after : Option (List ℕ)) → RunSoFar s (length s.actions) now held before middle → Appends middle after held → Appends before after (trace s)
unfolding trace_from
run_ends s now held before middle after so_far added =
    let whole = sym (ap (λ actions. (so_far.done ++ held) ++ trace_from actions so_far.nodes) (no_more s.actions) ∙ append-nil (so_far.done ++ held)) ∙ so_far.whole in
    subst (λ text. Appends before after text) whole (Appends-then before middle after so_far.done held so_far.added added)

-- and a front of it gives a front of the trace
pub run_ends_early : (s : Script) (now : State) (held : List ℕ) (before middle after : Option (List ℕ)) → RunSoFar s (length s.actions) now held before middle → WritesFront held middle after → WritesFront (trace s) before after
unfolding trace_from
run_ends_early s now held before middle after so_far front =
    let whole = sym (ap (λ actions. (so_far.done ++ held) ++ trace_from actions so_far.nodes) (no_more s.actions) ∙ append-nil (so_far.done ++ held)) ∙ so_far.whole in (
      so_far.done ++ front.0,
      (front.1.0, append_assoc so_far.done front.0 front.1.0 ∙ ap (λ z. so_far.done ++ z) front.1.1 ∙ whole),
      Appends-then before middle after so_far.done front.0 so_far.added front.2,
    )

-- at the end the world stands for the nodes after all events
pub run_stands : (s : Script) (now : State) (held : List ℕ) (before after : Option (List ℕ)) → RunSoFar s (length s.actions) now held before after → WorldStands now (nodes_after s.actions (first_nodes s.header))
run_stands s now held before after so_far =
    subst (λ (n : Nodes). WorldStands now n)
    (sym (nodes_end so_far.nodes) ∙ ap (λ actions. nodes_after actions so_far.nodes) (sym (no_more s.actions)) ∙ so_far.rest) so_far.stands

-- nothing that was written is a front of any text
pub nothing_written : (text : List ℕ) (before : Option (List ℕ)) → WritesFront text before before
nothing_written text before = ([], (text, refl), Appends-none before)
