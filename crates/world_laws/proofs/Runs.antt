-- The history of a script is that of some list of moves, so it keeps both laws.
use Rattle.std.proofs.Common.{◌-◌, List, [], ◌∷◌, ◌++◌, None, refl, sym, subst}
use Rattle.std.proofs.lemmas.List.Elements.{All-head, All-tail}
use Rattle.std.specs.List.{All}
use Rattle.tci_spec.specs.Tci.{IsNumber}
use Rattle.script_spec.specs.Script.{Header, Action, NoiseUnit, NoiseOlt, StartOlt, IsAction}
use Rattle.manager_spec.specs.Manager.{manager_started}
use Rattle.unit_spec.specs.Onu.{onu_started}
use Rattle.history_spec.specs.History.{Once, Answered}
use Rattle.moves_spec.specs.Channel.{Channel, first_channel}
use Rattle.moves_spec.specs.Moves.{Move, after_moves}
use Rattle.moves_laws.proofs.Numbers.{number_at_first}
use Rattle.moves_laws.proofs.Runs.{runs_once, runs_answered}
use Rattle.omci_types.specs.declared.Boot.TheVariants.{PowerUp}
use Rattle.world_spec.specs.Ends.{factory_slots}
use Rattle.world_spec.specs.Nodes.{Nodes, first_nodes, step, nodes_after}
use Rattle.world_spec.specs.History.{Told, first_told, tell_all, told_after, history_of}
use Rattle.world_laws.proofs.Likeness.{some_manager, some_unit, after_both}
use Rattle.world_laws.proofs.Turns.{Rests}
use Rattle.world_laws.proofs.Reading.{no_baseline}
use Rattle.world_laws.proofs.Lines.{IsFair, turn_follows}

abbrev pub AllFair : List Action → Type 0
AllFair [] = Unit {0}
AllFair (a ∷ rest) = IsFair a × AllFair rest

-- the ranges of a script's lines
fair : (a : Action) → IsAction a → IsFair a
fair (StartOlt low high) h =
    (record { some = h.0.0; most = h.0.1 }, record { some = h.1.0.0; most = h.1.0.1 })
fair (NoiseUnit bytes) h = no_baseline bytes h.0.0
fair (NoiseOlt bytes) h = no_baseline bytes h.0.0
fair _ h = tt

pub all_fair : (actions : List Action) → All IsAction actions → AllFair actions
all_fair [] h = tt
all_fair (a ∷ rest) h =
    (fair a (All-head IsAction a rest h), all_fair rest (All-tail IsAction a rest h))

-- a script is moves
pub script_follows : (actions : List Action) (n : Nodes) (t : Told) (p : Channel) → Rests n t p
    → AllFair actions
    → (ms : List Move) × Rests (nodes_after actions n) (told_after actions n t) (after_moves ms p)
unfolding nodes_after told_after
script_follows [] n t p h f = ([], h)
script_follows (a ∷ rest) n t p h f =
    let one = turn_follows a n t p h f.0 in
    let more = script_follows rest (step a n).nodes (tell_all (step a n).happenings t)
    (after_moves one.0 p) one.1 f.1 in (
      one.0 ++ more.0,
      subst (λ q. Rests (nodes_after rest (step a n).nodes)
          (told_after rest (step a n).nodes (tell_all (step a n).happenings t)) q)
          (sym (after_both one.0 more.0 p)) more.1,
    )

pub first_rests : (h : Header) → IsNumber h.low → IsNumber h.high → Rests (first_nodes h) first_told
    (first_channel (h.low - 1) (h.high - 1))
unfolding onu_started
first_rests h a b = record {
  packets = tt;
  ways = record { down_low = refl; down_high = refl; up_low = refl; up_high = refl };
  lives_are = refl;
  drawn = refl;
  history = refl;
  unit_is = some_unit (onu_started PowerUp h.room (factory_slots h.factory)) None None
      (record { is_low = tt; is_high = tt });
  manager_is = some_manager 0 0 (manager_started h.low h.high) _ _ (record {
    is_low = record { priority = refl; proved_is = refl; out = sym (number_at_first h.low a) };
    is_high = record { priority = refl; proved_is = refl; out = sym (number_at_first h.high b) };
  });
}

pub history_once : (h : Header) (actions : List Action) → IsNumber h.low → IsNumber h.high
    → All IsAction actions → Once (history_of h actions)
history_once h actions a b f =
    let run = script_follows actions (first_nodes h) first_told _ (first_rests h a b)
    (all_fair actions f) in
    subst Once (sym run.1.history) (runs_once (h.low - 1) (h.high - 1) run.0)

pub history_answered : (h : Header) (actions : List Action) → IsNumber h.low → IsNumber h.high
    → All IsAction actions → Answered (history_of h actions)
history_answered h actions a b f =
    let run = script_follows actions (first_nodes h) first_told _ (first_rests h a b)
    (all_fair actions f) in
    subst Answered (sym run.1.history) (runs_answered (h.low - 1) (h.high - 1) run.0)
