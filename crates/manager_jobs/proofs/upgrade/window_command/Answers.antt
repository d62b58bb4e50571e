-- The sections of the window are handed over one after the other.
use Rattle.std.proofs.Common.{◌≡◌, ◌+◌, ◌≤◌, ◌∙◌, ap, arith, Some}
use Rattle.omci_types.specs.declared.EntityId.{EntityId}
use Rattle.lane_spec.specs.Command.{window_command}
use Rattle.window_spec.specs.Outgoing.{window_count}
use Rattle.olt_lanes.specs.Sections.{earlier_of, last_of}
use Rattle.manager_jobs.specs.Stages.{order_of}
use Rattle.manager_jobs.proofs.Sections.{one_cut, all_cut, window_is}
use Rattle.manager_jobs.proofs.upgrade.window_command.Goals as goal

pub loop-number-preserved : goal.loop-number-preserved
loop-number-preserved c =
    let o = c.args.outbox.now in
    one_cut o c.loop-number.number (o.first + c.loop-number.number) c.loop-number.sections
    c.push.new.self c.section.result c.section.ensures.section c.section.ensures.value
    c.in_ok-push.ensures.ok c.loop-number.invariant

pub returns : goal.returns
returns c =
    let o = c.args.outbox.now in
    let sections = c.loop-number.sections in
    let count = c.sections-number-end.ensures in
    let all : c.loop-number.number ≡ window_count o =
    omega (arith, count.value, c.loop-number-test.false, c.loop-number.auto.number-end) in
    let some : 1 ≤ window_count o = omega (arith, count.value, count.some) in
    record {
      value = c.window.ensures.value
          ∙ ap (λ (e : EntityId). window_command e (earlier_of (Some sections)) (last_of sections))
          c.image_entity.ensures.value
          ∙ window_is (order_of c.args.order.now) o sections
          (all_cut o c.loop-number.number sections all c.loop-number.invariant) some;
    }
