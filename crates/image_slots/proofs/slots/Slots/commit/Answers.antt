use Rattle.std.proofs.Common.{◌≡◌, ◌==◌, true, false, inl, IsSome, sym, ◌∙◌, rules}
use Rattle.std.specs.Option.{is_some}
use Rattle.std.proofs.lemmas.Bool.{eq-eqb, ne_eqb}
use Rattle.slot_spec.specs.Layout.{StandsAt, GatesHold}
use Rattle.slot_spec.specs.Header.{view_at}
use Rattle.slot_laws.proofs.Moments.{moments_none}
use Rattle.slot_laws.proofs.Commit.{commit_kept, commit_settled, commit_moments, image-some}
use Rattle.slot_laws.proofs.Calls.{none_left}
use Rattle.slot_laws.proofs.Outcomes.{commit_left, commit_left_gates}
use Rattle.slot_laws.proofs.Rigs.{rig_stands}
use Rattle.image_slots.proofs.slots.Slots.commit.Goals as goal

-- the slot isn't valid: no call
pub returns-then-is_none-clause-outcome : goal.returns-then-is_none-clause-outcome
returns-then-is_none-clause-outcome g c = λ r s is settled.
    let none : is_some (view_at c.args.slot c.args.self.header) ≡ false = search rules in
    rw none (r, is, none_left (StandsAt c.args.self.header.room) s _ r (rig_stands g.D.Disk.seen g.D.Disk.may_leave g.D.Disk.rig g.met.D.Disk.rig_reads g.met.D.Disk.cut_counts c.args.self.disk c.args.self.header s r is settled))

pub returns-then-is_none-clause-gates : goal.returns-then-is_none-clause-gates
returns-then-is_none-clause-gates g c = λ r s is settled gates.
    let none : is_some (view_at c.args.slot c.args.self.header) ≡ false = search rules in
    rw none (r, is, none_left GatesHold s _ r gates)

-- the slot is the committed one: no call
pub returns-then-slot-slots-clause-moments : goal.returns-then-slot-slots-clause-moments
returns-then-slot-slots-clause-moments g c = rw (← c.slots.view_is) (λ s settled.
    let same : (c.args.slot == c.slots.inside.header.committed) ≡ true = eq-eqb c.args.slot c.slots.inside.header.committed c.if-slot-slots.true in
    let some : IsSome (view_at c.args.slot c.slots.inside.header) = search rules in
    rw (some, same) (moments_none g.D.Disk.clock g.D.Disk.left_since g.D.Disk.may_leave c.slots.inside.disk _ (g.met.D.Disk.only_now c.slots.inside.disk) (λ image left. inl (settled.crash image left).stands)))

pub returns-then-slot-slots-clause-settled : goal.returns-then-slot-slots-clause-settled
returns-then-slot-slots-clause-settled g c = rw (← c.slots.view_is) (λ s settled. commit_kept g.D.Disk.seen g.D.Disk.may_leave c.slots.inside.disk c.slots.inside.header s c.args.slot c.if-slot-slots.true settled)

pub returns-then-slot-slots-clause-outcome : goal.returns-then-slot-slots-clause-outcome
returns-then-slot-slots-clause-outcome g c = rw (← c.slots.view_is) (λ r s is settled.
    let h = c.slots.inside.header in
    let same : (c.args.slot == h.committed) ≡ true = eq-eqb c.args.slot h.committed c.if-slot-slots.true in
    let some : IsSome (view_at c.args.slot h) = search rules in
    rw (some, same) (r, is, none_left (StandsAt h.room) s _ r (rig_stands g.D.Disk.seen g.D.Disk.may_leave g.D.Disk.rig g.met.D.Disk.rig_reads g.met.D.Disk.cut_counts c.slots.inside.disk h s r is settled)))

pub returns-then-slot-slots-clause-gates : goal.returns-then-slot-slots-clause-gates
returns-then-slot-slots-clause-gates g c = rw (← c.slots.view_is) (λ r s is settled gates.
    let h = c.slots.inside.header in
    let same : (c.args.slot == h.committed) ≡ true = eq-eqb c.args.slot h.committed c.if-slot-slots.true in
    let some : IsSome (view_at c.args.slot h) = search rules in
    rw (some, same) (r, is, none_left GatesHold s _ r gates))

-- the commit byte is written
pub returns-in-Ok-clause-moments : goal.returns-in-Ok-clause-moments
returns-in-Ok-clause-moments g c = rw (← c.slots.view_is) (λ s settled.
    let h = c.slots.inside.header in
    let differs : (c.args.slot == h.committed) ≡ false = ne_eqb c.args.slot h.committed c.if-slot-slots.false in
    let some : IsSome (view_at c.args.slot h) = search rules in
    rw (some, differs) (commit_moments g.D.Disk.seen g.D.Disk.may_leave g.D.Disk.clock g.D.Disk.left_since c.slots.inside.disk c.store_commit.new.disk h s c.args.slot c.requires.slot c.if-slot-slots.false some settled c.store_commit.ensures.moments))

pub returns-in-Ok-clause-settled : goal.returns-in-Ok-clause-settled
returns-in-Ok-clause-settled g c = rw (← c.slots.view_is) (λ s settled. commit_settled g.D.Disk.seen g.D.Disk.may_leave c.slots.inside.disk c.store_commit.new.disk c.slots.inside.header s c.args.slot c.requires.slot (search rules) settled (c.in-Ok.ensures.written settled.bytes settled.reads))

pub returns-in-Ok-clause-outcome : goal.returns-in-Ok-clause-outcome
returns-in-Ok-clause-outcome g c = rw (← c.slots.view_is) (λ r s is settled.
    let h = c.slots.inside.header in
    let differs : (c.args.slot == h.committed) ≡ false = ne_eqb c.args.slot h.committed c.if-slot-slots.false in
    let some : IsSome (view_at c.args.slot h) = search rules in
    let stands = rig_stands g.D.Disk.seen g.D.Disk.may_leave g.D.Disk.rig g.met.D.Disk.rig_reads g.met.D.Disk.cut_counts c.slots.inside.disk h s r is settled in
    rw (some, differs) (_, (c.in-Ok.ensures.rig r is).0, commit_left h.room c.args.slot s r c.requires.slot (λ e. c.if-slot-slots.false (e ∙ sym settled.shows.committed_is)) (image-some c.args.slot h s settled.bytes settled.shows some) stands))

pub returns-in-Ok-clause-gates : goal.returns-in-Ok-clause-gates
returns-in-Ok-clause-gates g c = rw (← c.slots.view_is) (λ r s is settled gates.
    let h = c.slots.inside.header in
    let differs : (c.args.slot == h.committed) ≡ false = ne_eqb c.args.slot h.committed c.if-slot-slots.false in
    let some : IsSome (view_at c.args.slot h) = search rules in
    let stands = rig_stands g.D.Disk.seen g.D.Disk.may_leave g.D.Disk.rig g.met.D.Disk.rig_reads g.met.D.Disk.cut_counts c.slots.inside.disk h s r is settled in
    rw (some, differs) (_, (c.in-Ok.ensures.rig r is).0, commit_left_gates h.room c.args.slot s r c.requires.slot (λ e. c.if-slot-slots.false (e ∙ sym settled.shows.committed_is)) (image-some c.args.slot h s settled.bytes settled.shows some) stands gates))

pub returns-in-Err-clause-moments : goal.returns-in-Err-clause-moments
returns-in-Err-clause-moments g c = rw (← c.slots.view_is) (λ s settled.
    let h = c.slots.inside.header in
    let differs : (c.args.slot == h.committed) ≡ false = ne_eqb c.args.slot h.committed c.if-slot-slots.false in
    let some : IsSome (view_at c.args.slot h) = search rules in
    rw (some, differs) (commit_moments g.D.Disk.seen g.D.Disk.may_leave g.D.Disk.clock g.D.Disk.left_since c.slots.inside.disk c.store_commit.new.disk h s c.args.slot c.requires.slot c.if-slot-slots.false some settled c.store_commit.ensures.moments))

pub returns-in-Err-clause-outcome : goal.returns-in-Err-clause-outcome
returns-in-Err-clause-outcome g c = rw (← c.slots.view_is) (λ r s is settled.
    let h = c.slots.inside.header in
    let differs : (c.args.slot == h.committed) ≡ false = ne_eqb c.args.slot h.committed c.if-slot-slots.false in
    let some : IsSome (view_at c.args.slot h) = search rules in
    let stands = rig_stands g.D.Disk.seen g.D.Disk.may_leave g.D.Disk.rig g.met.D.Disk.rig_reads g.met.D.Disk.cut_counts c.slots.inside.disk h s r is settled in
    rw (some, differs) (_, (c.in-Err.ensures.rig r is).0, commit_left h.room c.args.slot s r c.requires.slot (λ e. c.if-slot-slots.false (e ∙ sym settled.shows.committed_is)) (image-some c.args.slot h s settled.bytes settled.shows some) stands))

pub returns-in-Err-clause-gates : goal.returns-in-Err-clause-gates
returns-in-Err-clause-gates g c = rw (← c.slots.view_is) (λ r s is settled gates.
    let h = c.slots.inside.header in
    let differs : (c.args.slot == h.committed) ≡ false = ne_eqb c.args.slot h.committed c.if-slot-slots.false in
    let some : IsSome (view_at c.args.slot h) = search rules in
    let stands = rig_stands g.D.Disk.seen g.D.Disk.may_leave g.D.Disk.rig g.met.D.Disk.rig_reads g.met.D.Disk.cut_counts c.slots.inside.disk h s r is settled in
    rw (some, differs) (_, (c.in-Err.ensures.rig r is).0, commit_left_gates h.room c.args.slot s r c.requires.slot (λ e. c.if-slot-slots.false (e ∙ sym settled.shows.committed_is)) (image-some c.args.slot h s settled.bytes settled.shows some) stands gates))
