use Rattle.std.proofs.Common.{◌≡◌, ap, refl, arith}
use Rattle.link_lanes.proofs.Rings.{last-length, rests_fit, added_is_latest_for, added_view}
use Rattle.link_lanes.proofs.latest.Latest.add.Goals as goal

pub push_rest-requires-clause-room : goal.push_rest-requires-clause-room
push_rest-requires-clause-room c =
    let size = last-length c.self.inside.fronts c.self.inside.rests c.self.inside.sent c.args.self.now c.self.view_is in
    rests_fit c.self.inside.fronts c.self.inside.rests c.self.inside.sent c.self.inside.rests_sent c.self.invariant (omega (arith, c.requires.room))

pub invariant_of-self : goal.invariant_of-self
invariant_of-self c =
    let size = last-length c.self.inside.fronts c.self.inside.rests c.self.inside.sent c.args.self.now c.self.view_is in
    let count : c.self.inside.sent ≡ c.args.self.now.count = ap (λ l. l.count) c.self.view_is in
    added_is_latest_for c.self.inside.fronts c.push_back.new.self c.self.inside.rests c.push_rest.new.rests c.self.inside.sent c.self.inside.rests_sent c.push_rest.result _ c.args.bytes.now
    c.push_back.ensures.items c.self.invariant (omega (arith, c.requires.room)) (omega (arith, c.requires.countable)) c.push_rest.ensures.added (record {
      least = c.requires.some;
      most = c.requires.most;
      size = refl;
      cut = c.front_of.ensures.value;
      place = refl;
    })

pub returns : goal.returns
returns c =
    let size = last-length c.self.inside.fronts c.self.inside.rests c.self.inside.sent c.args.self.now c.self.view_is in
    record {
      value =
          added_view c.self.inside.fronts c.push_back.new.self c.self.inside.rests c.push_rest.new.rests c.self.inside.sent c.self.inside.rests_sent c.push_rest.result _ c.args.bytes.now c.args.self.now
          c.self.view_is c.push_back.ensures.items c.self.invariant (omega (arith, c.requires.room)) c.push_rest.ensures.added (record {
            least = c.requires.some;
            most = c.requires.most;
            size = refl;
            cut = c.front_of.ensures.value;
            place = refl;
          });
    }
