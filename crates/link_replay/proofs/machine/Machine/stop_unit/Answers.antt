use Rattle.std.proofs.Common.{refl, sym, ◌∙◌}
use Rattle.link_replay.proofs.Powers.{stopped_there, placed}
use Rattle.link_replay.proofs.machine.Machine.stop_unit.Goals as goal

pub returns-clause-off : goal.returns-clause-off
returns-clause-off c e u s on =
    stopped_there _ c.args.self.now _ c.in-Some.agent c.stop.result e u c.self.view_is (sym c.take.ensures.value ∙ c.in-Some.is) c.stop.ensures.disk
    (placed c.self.inside.event c.self.inside.lives c.self.inside.length _ c.self.inside.link c.take.new.self c.stop.result c.stop.result c.take.ensures.after refl) s on
