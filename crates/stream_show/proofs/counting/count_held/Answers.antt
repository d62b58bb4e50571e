use Rattle.std.proofs.Common.{◌≡◌, sym, subst, refl, None, Err}
use Rattle.extended_spec.specs.Frames.{any_fault_of}
use Rattle.stream_show.specs.Runs.{CountsHeld}
use Rattle.stream_show.proofs.Frames.{whole_at, fit_at, faulty_at, message_at, less_held, within_held, whole_some}
use Rattle.stream_show.proofs.Gathering.{count_first, count_next, count_faulty, count_refused}
use Rattle.stream_show.proofs.counting.count_held.Goals as goal

pub returns-in-Faulty : goal.returns-in-Faulty
returns-in-Faulty c = record {
  counted =
      subst (λ e. CountsHeld (Err e) c.args.buffer.now c.loop-fault.buffer c.args.counts.now c.loop-fault.counts) (sym c.refused_at.ensures.value)
      (count_faulty c.args.buffer.now c.loop-fault.buffer c.args.counts.now c.loop-fault.counts c.in-Faulty.fault c.loop-fault.buffer.at c.stream_reason.result c.loop-fault.invariant
      (faulty_at c.loop-fault.buffer.held c.held.result.now c.in-Faulty.fault c.held.ensures.value c.in-Faulty.ensures.value)
      refl c.stream_reason.ensures.value);
}

pub front_message_fault-fault-requires : goal.front_message_fault-fault-requires
front_message_fault-fault-requires c =
    let whole = whole_at c.loop-fault.buffer.held c.held.result.now c.in-Whole.count c.held.ensures.value c.in-Whole.ensures.value in
    record { sound = subst (λ z. any_fault_of z ≡ None) (sym c.held-in-Whole.ensures.value) whole.none }

pub returns-in-Some : goal.returns-in-Some
returns-in-Some c =
    let whole = whole_at c.loop-fault.buffer.held c.held.result.now c.in-Whole.count c.held.ensures.value c.in-Whole.ensures.value in
    let message = message_at c.loop-fault.buffer.held c.held-in-Whole.result.now c.front_message_fault-fault.result c.held-in-Whole.ensures.value c.front_message_fault-fault.ensures.value in
    record {
      counted =
          subst (λ e. CountsHeld (Err e) c.args.buffer.now c.loop-fault.buffer c.args.counts.now c.count_one.new.counts) (sym c.refused_at-in-Some.ensures.value)
          (count_refused c.args.buffer.now c.loop-fault.buffer c.args.counts.now c.loop-fault.counts c.count_one.new.counts c.count_one.new.counts c.in-Whole.count c.loop-fault.buffer.at c.in-Some.reason c.front_message_fault-fault.result c.loop-fault.invariant whole message c.in-Some.ensures.one refl);
    }

pub pass-requires : goal.pass-requires
pass-requires c =
    let whole = whole_at c.loop-fault.buffer.held c.held.result.now c.in-Whole.count c.held.ensures.value c.in-Whole.ensures.value in
    let fit = fit_at c.loop-fault.buffer.held c.held.result.now c.held.ensures.value c.in-Whole.ensures.fit in
    within_held c.loop-fault.buffer.held c.in-Whole.count fit whole

pub loop-fault-smaller : goal.loop-fault-smaller
loop-fault-smaller c =
    let whole = whole_at c.loop-fault.buffer.held c.held.result.now c.in-Whole.count c.held.ensures.value c.in-Whole.ensures.value in
    let fit = fit_at c.loop-fault.buffer.held c.held.result.now c.held.ensures.value c.in-Whole.ensures.fit in
    less_held c.loop-fault.buffer c.pass.new.self c.in-Whole.count c.pass.ensures.after (whole_some c.loop-fault.buffer.held c.in-Whole.count fit whole) (within_held c.loop-fault.buffer.held c.in-Whole.count fit whole)

pub loop-fault-preserved : goal.loop-fault-preserved
loop-fault-preserved c =
    let whole = whole_at c.loop-fault.buffer.held c.held.result.now c.in-Whole.count c.held.ensures.value c.in-Whole.ensures.value in
    let fit = fit_at c.loop-fault.buffer.held c.held.result.now c.held.ensures.value c.in-Whole.ensures.fit in
    let message = message_at c.loop-fault.buffer.held c.held-in-Whole.result.now c.front_message_fault-fault.result c.held-in-Whole.ensures.value c.front_message_fault-fault.ensures.value in
    count_next c.args.buffer.now c.loop-fault.buffer c.pass.new.self c.args.counts.now c.loop-fault.counts c.count_one.new.counts c.in-Whole.count c.front_message_fault-fault.result c.loop-fault.invariant fit whole message c.pass.ensures.after c.in-None.ensures.one
