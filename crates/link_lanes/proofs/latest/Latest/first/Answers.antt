use Rattle.link_lanes.proofs.Rings.{first_is}
use Rattle.link_lanes.proofs.latest.Latest.first.Goals as goal

pub returns : goal.returns
returns c = record { value = first_is c.self.inside.fronts c.self.inside.rests c.self.inside.sent c.len.result c.args.self.now c.self.view_is c.len.ensures.len }
