use Rattle.std.proofs.Common.{◌-◌, take, length, ap, ◌∙◌, replicate, List, ℕ}
use Rattle.std.proofs.lemmas.List.{take_at}
use Rattle.link_lanes.specs.declared.latest.TheConstants.{FRONT_LENGTH, REST_LENGTH}
use Rattle.link_lanes.proofs.latest.rest_of.Goals as goal

pub returns : goal.returns
returns c =
    let n = length c.args.bytes.now - FRONT_LENGTH in
    let zeros : List ℕ = replicate (REST_LENGTH - length c.tail.result.now) 0 in
    record { value = ap (take n) c.filled.ensures.value ∙ take_at c.tail.result.now zeros n c.tail.ensures.size ∙ c.tail.ensures.value }
