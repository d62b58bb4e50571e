use Rattle.std.proofs.Common.{◌∙◌, ap, sym, refl, Some}
use Rattle.link_replay.proofs.Deliveries.{on_here, off_here, on_ok}
use Rattle.link_replay.proofs.Powers.{not_down, down_to_none, cut_in_followed, down_allowed, down_seen}
use Rattle.link_replay.proofs.machine.Machine.cut_in.Goals as goal

pub returns-then-not-comes_down : goal.returns-then-not-comes_down
returns-then-not-comes_down c = record {
  follows = on_ok c.show.result _ _ (not_down c.args.call c.args.pick c.args.number c.args.self.now c.args.out.now c.show.new.out (sym c.comes_down.ensures.value ∙ c.if-not-comes_down.true)) c.show.ensures.line;
}

pub returns-then-is_none : goal.returns-then-is_none
returns-then-is_none c = record {
  follows = on_ok c.show-then-is_none.result _ _ (down_to_none c.args.call c.args.pick c.args.number _ c.args.self.now c.args.out.now c.show-then-is_none.new.out c.self.view_is (off_here c.self.inside.agent c.is_none.result (sym c.is_none.ensures) c.if-is_none.true)) c.show-then-is_none.ensures.line;
}

pub returns : goal.returns
returns c =
    let down = down_seen c.args.number _ c.args.self.now c.self.view_is (sym c.comes_down.ensures.value ∙ c.if-not-comes_down.false) in
    record {
      follows = cut_in_followed c.args.call c.args.pick c.args.number _ _ c.args.self.now c.cut_amid.new.self c.take.new.self c.bytes.result.now c.args.out.now c.show-2.new.out
          c.self.view_is refl down (on_here c.self.inside.agent c.is_none.result (sym c.is_none.ensures) c.if-is_none.false) c.take.ensures.lanes
          (ap (λ b. Some b) c.bytes.ensures.value ∙ c.take.ensures.packet (c.take.ensures.taken ∙ down_allowed _ down))
          c.in_ok-cut_amid.ensures.stands c.in_ok-cut_amid.ensures.held c.in_ok-show.ensures.line;
    }
