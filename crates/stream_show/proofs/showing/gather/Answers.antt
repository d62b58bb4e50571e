use Rattle.std.proofs.Common.{◌≡◌, rules, sym, subst, None, Err}
use Rattle.extended_spec.specs.Frames.{any_fault_of}
use Rattle.stream_show.specs.Runs.{GathersHeld}
use Rattle.stream_show.proofs.Frames.{whole_at, fit_at, line_at, less_held, within_held, whole_some}
use Rattle.stream_show.proofs.Gathering.{gather_first, gather_next, gather_broken}
use Rattle.stream_show.proofs.showing.gather.Goals as goal

pub loop-count-init : goal.loop-count-init
loop-count-init g c = gather_first c.args.buffer.now (g.K.Sink.written c.args.sink.now) c.args.lines.now.items (g.K.Sink.faults c.args.sink.now) c.requires.empty

pub push_line-requires : goal.push_line-requires
push_line-requires g c =
    let whole = whole_at c.loop-count.buffer.held c.held.result.now c.in-Whole.count c.held.ensures.value c.in-Whole.ensures.value in
    record { sound = subst (λ z. any_fault_of z ≡ None) (sym c.held-in-Whole.ensures.value) whole.none }

pub pass-requires : goal.pass-requires
pass-requires g c =
    let whole = whole_at c.loop-count.buffer.held c.held.result.now c.in-Whole.count c.held.ensures.value c.in-Whole.ensures.value in
    within_held c.loop-count.buffer.held c.in-Whole.count (fit_at c.loop-count.buffer.held c.held.result.now c.held.ensures.value c.in-Whole.ensures.fit) whole

pub loop-count-smaller : goal.loop-count-smaller
loop-count-smaller g c =
    let whole = whole_at c.loop-count.buffer.held c.held.result.now c.in-Whole.count c.held.ensures.value c.in-Whole.ensures.value in
    let fit = fit_at c.loop-count.buffer.held c.held.result.now c.held.ensures.value c.in-Whole.ensures.fit in
    less_held c.loop-count.buffer c.pass.new.self c.in-Whole.count c.pass.ensures.after (whole_some c.loop-count.buffer.held c.in-Whole.count fit whole) (within_held c.loop-count.buffer.held c.in-Whole.count fit whole)

pub loop-count-preserved : goal.loop-count-preserved
loop-count-preserved g c =
    let whole = whole_at c.loop-count.buffer.held c.held.result.now c.in-Whole.count c.held.ensures.value c.in-Whole.ensures.value in
    let fit = fit_at c.loop-count.buffer.held c.held.result.now c.held.ensures.value c.in-Whole.ensures.fit in
    gather_next c.args.buffer.now c.loop-count.buffer c.pass.new.self _ _ _ c.loop-count.lines.items c.push_line.new.lines.items c.write_enough.new.lines.items _ _ _ c.in-Whole.count c.loop-count.invariant fit whole
    (line_at c.loop-count.buffer.held c.held-in-Whole.result.now c.loop-count.lines.items c.push_line.new.lines.items c.held-in-Whole.ensures.value c.in_ok-push_line-in-Whole.ensures.line)
    c.pass.ensures.after
    c.in_ok-write_enough-in-Whole.ensures.written

pub returns-in_err-write_enough-in-Whole : goal.returns-in_err-write_enough-in-Whole
returns-in_err-write_enough-in-Whole g c =
    let whole = whole_at c.loop-count.buffer.held c.held.result.now c.in-Whole.count c.held.ensures.value c.in-Whole.ensures.value in
    let fit = fit_at c.loop-count.buffer.held c.held.result.now c.held.ensures.value c.in-Whole.ensures.fit in
    let value : c.from_residual-in_err-write_enough-in-Whole.result ≡ Err c.in_err-write_enough-in-Whole.field-0.0 = search rules in
    record {
      gathered =
          subst (λ r. GathersHeld r c.args.buffer.now c.pass.new.self c.write_enough.new.lines.items (g.K.Sink.written c.args.sink.now) (g.K.Sink.written c.write_enough.new.sink) (g.K.Sink.faults c.args.sink.now) (g.K.Sink.faults c.write_enough.new.sink)) (sym value)
          (gather_broken c.args.buffer.now c.loop-count.buffer c.pass.new.self _ _ _ c.loop-count.lines.items c.push_line.new.lines.items c.write_enough.new.lines.items c.write_enough.new.lines.items _ _ _ c.in-Whole.count c.in_err-write_enough-in-Whole.field-0.0 c.loop-count.invariant fit whole
          (line_at c.loop-count.buffer.held c.held-in-Whole.result.now c.loop-count.lines.items c.push_line.new.lines.items c.held-in-Whole.ensures.value c.in_ok-push_line-in-Whole.ensures.line)
          c.pass.ensures.after
          c.in_err-write_enough-in-Whole.ensures.written);
    }
