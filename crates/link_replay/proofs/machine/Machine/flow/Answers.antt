use Rattle.std.proofs.Common.{◌≡◌, suc, ◌+◌, ◌-◌, subst, arith}
use Rattle.link_replay.proofs.Flows.{FlowSoFar, flow_begins, flow_goes_on, flow_stops, flow_ends}
use Rattle.link_replay.proofs.machine.Machine.flow.Goals as goal

pub loop-done-init : goal.loop-done-init
loop-done-init c =
    let all : c.args.times ≡ c.args.times - 0 = omega arith in
    subst (λ k. FlowSoFar c.args.times k c.args.self.now c.args.self.now c.args.out.now c.args.out.now) all (flow_begins c.args.times c.args.self.now c.args.out.now)

pub loop-done-preserved : goal.loop-done-preserved
loop-done-preserved c =
    let left : c.args.times - c.loop-done._done ≡ suc (c.args.times - (c.loop-done._done + 1)) = omega arith in
    flow_goes_on c.args.times (c.args.times - (c.loop-done._done + 1)) c.in-Some.number c.args.self.now c.loop-done.self c.deliver.new.self c.args.out.now c.loop-done.out c.deliver.new.out
    (subst (λ k. FlowSoFar c.args.times k c.args.self.now c.loop-done.self c.args.out.now c.loop-done.out) left c.loop-done.invariant)
    c.in-Some.ensures.value c.in_ok-deliver-in-Some.ensures.follows

pub returns-in-None : goal.returns-in-None
returns-in-None c =
    record { follows = flow_stops c.args.times (c.args.times - c.loop-done._done) c.args.self.now c.loop-done.self c.args.out.now c.loop-done.out c.loop-done.invariant c.in-None.ensures.value }

pub returns : goal.returns
returns c =
    let done : c.args.times - c.loop-done._done ≡ 0 = omega arith in
    record { follows = flow_ends c.args.times c.args.self.now c.loop-done.self c.args.out.now c.loop-done.out (subst (λ k. FlowSoFar c.args.times k c.args.self.now c.loop-done.self c.args.out.now c.loop-done.out) done c.loop-done.invariant) }
