use Rattle.std.proofs.Common.{◌≡◌, Some, IfSome, sym, ◌∙◌, ap, subst, refl}
use Rattle.link_spec.specs.Held.{held_allowed}
use Rattle.link_spec.specs.Link.{is_down}
use Rattle.olt_manager.specs.State as manager
use Rattle.link_replay.proofs.Deliveries.{on_ok, came_down, came_up, unit_is_off, manager_is_off, off_here, off_mapped, on_here, on_mapped}
use Rattle.link_replay.proofs.machine.Machine.deliver.Goals as goal

pub returns-in_ok-to_unit : goal.returns-in_ok-to_unit
returns-in_ok-to_unit c =
    let there = sym c.allowed.ensures.value ∙ c.if-not-allowed.false in
    record {
      follows = came_down c.args.number _ _ c.args.self.now c.to_unit.new.self c.take.new.self c.bytes.result.now c.args.out.now c.to_unit.new.out
          c.self.view_is refl there (subst (λ b. IfSome (held_allowed c.args.number c.self.inside.link) (λ s. b ≡ is_down s.direction)) c.if-down.true c.down.ensures.value)
          (on_here c.self.inside.agent c.is_none.result (sym c.is_none.ensures) c.if-is_none.false) c.take.ensures.lanes
          (ap (λ b. Some b) c.bytes.ensures.value ∙ c.take.ensures.packet (c.take.ensures.taken ∙ there)) c.in_ok-to_unit.ensures.follows;
    }

pub returns-in_ok-to_manager : goal.returns-in_ok-to_manager
returns-in_ok-to_manager c =
    let there = sym c.allowed.ensures.value ∙ c.if-not-allowed.false in
    record {
      follows = came_up c.args.number _ _ c.args.self.now c.to_manager.new.self c.take-else-down.new.self c.bytes-else-down.result.now c.args.out.now c.to_manager.new.out
          c.self.view_is refl there (subst (λ b. IfSome (held_allowed c.args.number c.self.inside.link) (λ s. b ≡ is_down s.direction)) c.if-down.false c.down.ensures.value)
          (on_mapped (λ (a : manager.State). a.manager) c.self.inside.manager c.is_none-else-down.result (sym c.is_none-else-down.ensures) c.if-is_none-2.false) c.take-else-down.ensures.lanes
          (ap (λ b. Some b) c.bytes-else-down.ensures.value ∙ c.take-else-down.ensures.packet (c.take-else-down.ensures.taken ∙ there)) c.in_ok-to_manager.ensures.follows;
    }

pub returns-then-is_none : goal.returns-then-is_none
returns-then-is_none c = record {
  follows = on_ok c.show-then-is_none.result _ _ (unit_is_off c.args.number _ c.args.self.now c.args.out.now c.show-then-is_none.new.out c.self.view_is
      (subst (λ b. IfSome (held_allowed c.args.number c.self.inside.link) (λ s. b ≡ is_down s.direction)) c.if-down.true c.down.ensures.value)
      (off_here c.self.inside.agent c.is_none.result (sym c.is_none.ensures) c.if-is_none.true)) c.show-then-is_none.ensures.line;
}

pub returns-then-is_none-2 : goal.returns-then-is_none-2
returns-then-is_none-2 c = record {
  follows = on_ok c.show-then-is_none-2.result _ _ (manager_is_off c.args.number _ c.args.self.now c.args.out.now c.show-then-is_none-2.new.out c.self.view_is
      (subst (λ b. IfSome (held_allowed c.args.number c.self.inside.link) (λ s. b ≡ is_down s.direction)) c.if-down.false c.down.ensures.value)
      (off_mapped (λ (a : manager.State). a.manager) c.self.inside.manager c.is_none-else-down.result (sym c.is_none-else-down.ensures) c.if-is_none-2.true)) c.show-then-is_none-2.ensures.line;
}
