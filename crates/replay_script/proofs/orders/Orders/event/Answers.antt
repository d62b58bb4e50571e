use Rattle.std.proofs.Common.{◌<◌, sym, ap, ◌∙◌, subst, arith, map, length}
use Rattle.std.proofs.Math.ListN.{get_or-map}
use Rattle.script_spec.specs.declared.Document.TheVariants as documents
use Rattle.script_spec.specs.Script.{Orders, IsAction, HasAction}
use Rattle.replay_script.specs.Events.{action_of}
use Rattle.replay_script.proofs.orders.Orders.event.Goals as goal

pub returns-clause-ranges : goal.returns-clause-ranges
returns-clause-ranges c =
    let event = c.index.result.now in
    let inside : c.args.place < length (map action_of c.self.inside.events.items) =
    omega (arith, ap (λ (o : Orders). length o.actions) c.self.view_is) in
    subst IsAction
    (get_or-map action_of c.self.inside.events.items c.args.place event
    ∙ ap action_of (sym c.index.ensures))
    (c.self.invariant.actions c.args.place (action_of event) inside)

pub returns-clause-manager : goal.returns-clause-manager
returns-clause-manager c =
    let event = c.index.result.now in
    let inside : c.args.place < length (map action_of c.self.inside.events.items) =
    omega (arith, ap (λ (o : Orders). length o.actions) c.self.view_is) in
    subst (HasAction documents.Orders)
    (get_or-map action_of c.self.inside.events.items c.args.place event
    ∙ ap action_of (sym c.index.ensures))
    (c.self.invariant.manager c.args.place (action_of event) inside)
