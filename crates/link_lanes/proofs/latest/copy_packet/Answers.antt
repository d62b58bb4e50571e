use Rattle.std.proofs.Common.{◌++◌, ◌∙◌, arith}
use Rattle.std.proofs.lemmas.Bool.{lt-ltb}
use Rattle.link_lanes.proofs.Rings.{long_bytes, absent}
use Rattle.link_lanes.specs.declared.latest.TheConstants.{FRONT_LENGTH}
use Rattle.link_lanes.proofs.latest.copy_packet.Goals as goal

pub returns-in-Some : goal.returns-in-Some
returns-in-Some c = record {
  value =
      c.append.ensures.appended ∙ (λ i. c.put-2.ensures.replaced i ++ c.part.ensures.value i)
      ∙ long_bytes c.args.front.now c.args.rests.now.items c.args.place c.in-Some.rest.now
      (omega (arith, c.if-length-lt-FRONT_LENGTH.false, c.if-length-eq-FRONT_LENGTH.false)) c.in-Some.ensures;
}

pub returns-in_default : goal.returns-in_default
returns-in_default c =
    absurd (absent c.args.rests.now.items c.args.place c.in_default.ensures
    (c.requires.rest (lt-ltb FRONT_LENGTH c.args.front.now.length (omega (arith, c.if-length-lt-FRONT_LENGTH.false, c.if-length-eq-FRONT_LENGTH.false)))))
