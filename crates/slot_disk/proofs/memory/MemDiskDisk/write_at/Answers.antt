use Rattle.std.proofs.Common.{◌≡◌, ◌+◌, nat_le, true, false, ap, length, subst, sym, ◌∙◌, refl}
use Rattle.std.proofs.lemmas.Bool.{leb-true}
use Rattle.slot_spec.specs.Rig.{trap_is_met, fuse_is_met}
use Rattle.slot_disk.specs.Memory.{MemState, IsDisk, after_begin, after_finish, after_fault}
use Rattle.slot_disk.proofs.States.{done_moments, done_makes, done_written, begun_moments, begun_makes, fault_moments}
use Rattle.slot_disk.proofs.memory.MemDiskDisk.write_at.Goals as goal

pub returns-then-not-stops-clause-moments : goal.returns-then-not-stops-clause-moments
returns-then-not-stops-clause-moments c =
    let m = c.args.self.now in
    let disk : IsDisk m = subst IsDisk c.self.view_is c.self.invariant in
    let inside : nat_le (c.args.at + length c.args.from.now) (length m.bytes) ≡ true = ap (λ (s : MemState). nat_le (c.args.at + length c.args.from.now) (length s.bytes)) (sym c.step.ensures.state) ∙ sym c.holds.ensures.inside ∙ c.if-not-holds.false in
    let is = c.finish.ensures.state ∙ ap (after_finish c.args.at c.args.from.now) (c.begin.ensures.state ∙ ap (after_begin c.args.at c.args.from.now) c.step.ensures.state) in
    done_moments m c.args.at c.args.from.now disk (leb-true _ _ inside) c.finish.new.self is

pub returns-then-not-stops-clause-rig : goal.returns-then-not-stops-clause-rig
returns-then-not-stops-clause-rig c =
    let m = c.args.self.now in
    let disk : IsDisk m = subst IsDisk c.self.view_is c.self.invariant in
    let inside : nat_le (c.args.at + length c.args.from.now) (length m.bytes) ≡ true = ap (λ (s : MemState). nat_le (c.args.at + length c.args.from.now) (length s.bytes)) (sym c.step.ensures.state) ∙ sym c.holds.ensures.inside ∙ c.if-not-holds.false in
    let is = c.finish.ensures.state ∙ ap (after_finish c.args.at c.args.from.now) (c.begin.ensures.state ∙ ap (after_begin c.args.at c.args.from.now) c.step.ensures.state) in
    let goes : trap_is_met m.trap ≡ false = ap (λ (s : MemState). trap_is_met s.trap) (sym c.self.view_is) ∙ sym c.is_met-stops.ensures.met ∙ c.if-not-stops.true in
    done_makes m c.args.at c.args.from.now disk (leb-true _ _ inside) c.finish.new.self false is goes inside refl

pub returns-then-not-stops-clause-written : goal.returns-then-not-stops-clause-written
returns-then-not-stops-clause-written c = λ bytes reads.
    let m = c.args.self.now in
    let disk : IsDisk m = subst IsDisk c.self.view_is c.self.invariant in
    let inside : nat_le (c.args.at + length c.args.from.now) (length m.bytes) ≡ true = ap (λ (s : MemState). nat_le (c.args.at + length c.args.from.now) (length s.bytes)) (sym c.step.ensures.state) ∙ sym c.holds.ensures.inside ∙ c.if-not-holds.false in
    let is = c.finish.ensures.state ∙ ap (after_finish c.args.at c.args.from.now) (c.begin.ensures.state ∙ ap (after_begin c.args.at c.args.from.now) c.step.ensures.state) in
    done_written m c.args.at c.args.from.now disk (leb-true _ _ inside) c.finish.new.self bytes is reads

pub returns-then-fuse-clause-moments : goal.returns-then-fuse-clause-moments
returns-then-fuse-clause-moments c =
    let m = c.args.self.now in
    let disk : IsDisk m = subst IsDisk c.self.view_is c.self.invariant in
    let inside : nat_le (c.args.at + length c.args.from.now) (length m.bytes) ≡ true = ap (λ (s : MemState). nat_le (c.args.at + length c.args.from.now) (length s.bytes)) (sym c.step.ensures.state) ∙ sym c.holds.ensures.inside ∙ c.if-not-holds.false in
    let is = c.count_fault-then-fuse.ensures.state ∙ ap after_fault (c.begin-then-fuse.ensures.state ∙ ap (after_begin c.args.at c.args.from.now) c.step.ensures.state) in
    begun_moments m c.args.at c.args.from.now disk (leb-true _ _ inside) c.count_fault-then-fuse.new.self is

pub returns-then-fuse-clause-rig : goal.returns-then-fuse-clause-rig
returns-then-fuse-clause-rig c =
    let m = c.args.self.now in
    let disk : IsDisk m = subst IsDisk c.self.view_is c.self.invariant in
    let inside : nat_le (c.args.at + length c.args.from.now) (length m.bytes) ≡ true = ap (λ (s : MemState). nat_le (c.args.at + length c.args.from.now) (length s.bytes)) (sym c.step.ensures.state) ∙ sym c.holds.ensures.inside ∙ c.if-not-holds.false in
    let is = c.count_fault-then-fuse.ensures.state ∙ ap after_fault (c.begin-then-fuse.ensures.state ∙ ap (after_begin c.args.at c.args.from.now) c.step.ensures.state) in
    let stops : trap_is_met m.trap ≡ true = ap (λ (s : MemState). trap_is_met s.trap) (sym c.self.view_is) ∙ sym c.is_met-stops.ensures.met ∙ c.if-not-stops.false in
    let fuse : fuse_is_met m.trap ≡ true = ap (λ (s : MemState). fuse_is_met s.trap) (sym c.self.view_is) ∙ sym c.meets_fuse-fuse.ensures.met ∙ c.if-fuse.true in
    begun_makes m c.args.at c.args.from.now disk (leb-true _ _ inside) c.count_fault-then-fuse.new.self true is stops fuse inside refl

pub returns-then-not-holds-clause-moments : goal.returns-then-not-holds-clause-moments
returns-then-not-holds-clause-moments c = fault_moments c.args.self.now c.count_fault.new.self c.args.at (length c.args.from.now) (c.count_fault.ensures.state ∙ ap after_fault c.step.ensures.state)

pub returns-clause-moments : goal.returns-clause-moments
returns-clause-moments c = fault_moments c.args.self.now c.count_fault-2.new.self c.args.at (length c.args.from.now) (c.count_fault-2.ensures.state ∙ ap after_fault c.step.ensures.state)
