use Rattle.link_lanes.proofs.Steps.{emptied_is_link}
use Rattle.link_lanes.proofs.lanes.Lanes.empty.Goals as goal

pub invariant_of-self : goal.invariant_of-self
invariant_of-self c =
    emptied_is_link c.self.inside.latest c.self.inside.ways c.from-self-inside.result c.self.inside.fresh_down c.self.inside.fresh_up c.sent.result
    c.self.invariant c.sent.ensures.value c.from-self-inside.ensures.value
