use Rattle.std.proofs.Common.{◌∙◌, sym}
use Rattle.link_lanes.proofs.Rings.{last-length}
use Rattle.link_lanes.proofs.latest.Latest.len.Goals as goal

pub returns : goal.returns
returns c = record { value = c.len.ensures.len ∙ sym (last-length c.self.inside.fronts c.self.inside.rests c.self.inside.sent c.args.self.now c.self.view_is) }
