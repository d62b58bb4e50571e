use Rattle.std.proofs.Common.{◌+◌, ◌≤◌, length, sym, ap, ◌∙◌, arith}
use Rattle.extended_contents.specs.Members.{member_size}
use Rattle.extended_contents.proofs.Members.{next_need, cut_need, no_need}
use Rattle.extended_contents.proofs.needs.members_need.Goals as goal

pub returns-then-contents-place : goal.returns-then-contents-place
returns-then-contents-place c = record {
  value =
      cut_need (member_size c.args.member) c.args.contents.now c.loop-place.place c.member_size-size.result (c.member_size-size.ensures.value ∙ ap (member_size c.args.member) c.bytes_from.ensures.value)
      c.loop-place-test.true (omega (arith, c.if-contents-place.true)) ∙ c.loop-place.invariant.1;
}

pub loop-place-preserved : goal.loop-place-preserved
loop-place-preserved c =
    let fits : c.loop-place.place + c.member_size-size.result ≤ length c.args.contents.now = omega (arith, c.if-contents-place.false, c.loop-place-test.true) in (
      fits,
      next_need (member_size c.args.member) c.args.contents.now c.loop-place.place c.member_size-size.result (c.member_size-size.ensures.value ∙ ap (member_size c.args.member) c.bytes_from.ensures.value)
          c.member_size-size.ensures.some fits ∙ c.loop-place.invariant.1,
    )

pub returns : goal.returns
returns c = record {
  value = sym (no_need (member_size c.args.member) c.loop-place.place c.args.contents.now c.loop-place.place c.loop-place-test.false) ∙ c.loop-place.invariant.1;
}
