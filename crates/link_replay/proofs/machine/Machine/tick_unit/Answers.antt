use Rattle.std.proofs.Common.{sym, ◌∙◌}
use Rattle.link_replay.proofs.Powers.{ticked, restarted}
use Rattle.link_replay.proofs.machine.Machine.tick_unit.Goals as goal

pub returns-in_default-leaving : goal.returns-in_default-leaving
returns-in_default-leaving c = record {
  follows = ticked _ c.args.self.now c.in-Some.agent c.tick.new.self c.args.out.now c.self.view_is c.in-Some.is (sym c.leaving.ensures.value ∙ c.in_default-leaving.is) c.tick.ensures.ticked c.tick.ensures.images;
}

pub returns : goal.returns
returns c = record {
  follows = restarted c.in-Some-leaving.boot _ c.args.self.now c.stop_unit.new.self c.wake.new.self c.in-Some.agent c.args.out.now c.wake.new.out c.self.view_is c.in-Some.is
      (sym c.leaving.ensures.value ∙ c.in-Some-leaving.is) c.stop_unit.ensures.off c.stop_unit.ensures.held c.in_ok-wake.ensures.follows;
}
