use Rattle.std.proofs.Common.{sym, ◌∙◌, ap, subst}
use Rattle.replay_script.specs.Events.{action_of}
use Rattle.link_replay.specs.Seen.{Seen, Stands, EndsStand}
use Rattle.world_spec.specs.Nodes.{next_event}
use Rattle.link_replay.proofs.Flows.{counted_there, counted_stands, acted_nodes, acted_lines}
use Rattle.link_replay.proofs.machine.Machine.turn.Goals as goal

pub returns-clause-nodes : goal.returns-clause-nodes
returns-clause-nodes c n s =
    let there = subst (λ (w : Seen). Stands w n) (sym c.self.view_is) s in
    acted_nodes (action_of c.args.event.now) n _ c.act.new.self c.args.out.now c.act.new.out there.held
    (c.in_ok-act.ensures.follows (next_event n).ends (counted_stands _ n there) n.link there.held)

pub returns-clause-lines : goal.returns-clause-lines
returns-clause-lines c n s =
    let there = subst (λ (w : Seen). Stands w n) (sym c.self.view_is) s in
    acted_lines (action_of c.args.event.now) n _ c.act.new.self c.args.out.now c.act.new.out there.held
    (c.in_ok-act.ensures.follows (next_event n).ends (counted_stands _ n there) n.link there.held)
