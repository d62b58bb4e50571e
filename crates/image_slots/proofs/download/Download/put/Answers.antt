use Rattle.std.proofs.Common.{◌≡◌, ◌+◌, [], ◌∷◌, length, nat_le, true, arith}
use Rattle.std.proofs.lemmas.Bool.{le-leb}
use Rattle.slot_spec.specs.Layout.{image_place, StandsAt, GatesHold}
use Rattle.slot_spec.specs.Rig.{Write}
use Rattle.slot_laws.proofs.Moments.{length_kept}
use Rattle.slot_laws.proofs.Fill.{put_filling, put_moments}
use Rattle.slot_laws.proofs.Calls.{none_left}
use Rattle.slot_laws.proofs.Outcomes.{put_left, put_left_gates, piece_inside}
use Rattle.slot_laws.proofs.Rigs.{rig_shows, rig_stands}
use Rattle.image_slots.specs.Answers.{put_calls}
use Rattle.image_slots.proofs.download.Download.put.Goals as goal

-- the piece ends past the size: no call
pub returns-then-more-from-clause-outcome : goal.returns-then-more-from-clause-outcome
returns-then-more-from-clause-outcome g c = rw (← c.download.view_is) (λ r s put is filling loaded.
    let d = c.download.inside in
    (r, is, none_left (StandsAt d.header.room) s _ r (rig_stands g.D.Disk.seen g.D.Disk.may_leave g.D.Disk.rig g.met.D.Disk.rig_reads g.met.D.Disk.cut_counts d.disk d.header s r is filling.settled)))

pub returns-then-more-from-clause-gates : goal.returns-then-more-from-clause-gates
returns-then-more-from-clause-gates g c = rw (← c.download.view_is) (λ r s put is filling loaded gates. (r, is, none_left GatesHold s _ r gates))

-- the piece is written
pub returns-in-Ok-clause-moments : goal.returns-in-Ok-clause-moments
returns-in-Ok-clause-moments g c = rw (← c.download.view_is) (λ s put filling loaded.
    let d = c.download.inside in
    let moments = rw (c.image_at.ensures.place, c.from-2.ensures, loaded.have) at c.write_at.ensures.moments in
    put_moments g.D.Disk.seen g.D.Disk.may_leave g.D.Disk.clock g.D.Disk.left_since d.disk c.write_at.new.self d.header d.target s put (length c.args.piece.now) c.download.invariant.target filling (omega (arith, loaded.have, loaded.fits)) moments)

pub returns-in-Ok-clause-filling : goal.returns-in-Ok-clause-filling
returns-in-Ok-clause-filling g c = rw (← c.download.view_is) (λ s put filling loaded.
    let d = c.download.inside in
    let moments = rw (c.image_at.ensures.place, c.from-2.ensures, loaded.have) at c.write_at.ensures.moments in
    let written = rw (c.image_at.ensures.place, c.from-2.ensures, loaded.have) at (c.in-Ok.ensures.written filling.settled.bytes filling.settled.reads) in
    put_filling g.D.Disk.seen g.D.Disk.may_leave d.disk c.write_at.new.self d.header d.target s put c.args.piece.now written.0 c.download.invariant.target filling (omega (arith, loaded.have, loaded.fits)) written.1 written.2 moments.now)

pub returns-in-Ok-clause-rig : goal.returns-in-Ok-clause-rig
returns-in-Ok-clause-rig g c = rw (← c.download.view_is) (λ r is.
    let d = c.download.inside in
    let within : nat_le (d.have + length c.args.piece.now) d.size ≡ true = le-leb (d.have + length c.args.piece.now) d.size (omega arith) in
    let calls : put_calls c.args.piece.now d.header.room d.target d.have d.size ≡ Write (image_place d.header.room d.target + d.have) c.args.piece.now ∷ [] = rw within in
    rw calls ((rw (c.image_at.ensures.place, c.from-2.ensures) at c.in-Ok.ensures.rig) r is))

pub returns-in-Ok-clause-outcome : goal.returns-in-Ok-clause-outcome
returns-in-Ok-clause-outcome g c = rw (← c.download.view_is) (λ r s put is filling loaded.
    let d = c.download.inside in
    let shows = rig_shows g.D.Disk.seen g.D.Disk.may_leave g.D.Disk.rig g.met.D.Disk.rig_reads g.met.D.Disk.cut_counts d.disk d.header s r is filling.settled in
    let made = (rw (c.image_at.ensures.place, c.from-2.ensures) at c.in-Ok.ensures.rig) r is in
    (_, made.0, put_left d.header d.target s r c.download.invariant.target filling.shut filling.other shows d.have c.args.piece.now (omega (arith, loaded.fits))))

pub returns-in-Ok-clause-gates : goal.returns-in-Ok-clause-gates
returns-in-Ok-clause-gates g c = rw (← c.download.view_is) (λ r s put is filling loaded gates.
    let d = c.download.inside in
    let shows = rig_shows g.D.Disk.seen g.D.Disk.may_leave g.D.Disk.rig g.met.D.Disk.rig_reads g.met.D.Disk.cut_counts d.disk d.header s r is filling.settled in
    let made = (rw (c.image_at.ensures.place, c.from-2.ensures) at c.in-Ok.ensures.rig) r is in
    (_, made.0, put_left_gates d.header d.target s r c.download.invariant.target filling.shut filling.other shows d.have c.args.piece.now (omega (arith, loaded.fits)) gates))

pub returns-in-Ok-clause-length : goal.returns-in-Ok-clause-length
returns-in-Ok-clause-length g c = rw (← c.download.view_is) (λ s put size filling loaded long.
    let d = c.download.inside in
    let settled = filling.settled in
    let same : length settled.bytes ≡ size = long settled.bytes (g.met.D.Disk.leaves_seen d.disk settled.bytes settled.reads) in
    let moments = rw (c.image_at.ensures.place, c.from-2.ensures) at c.write_at.ensures.moments in
    length_kept g.D.Disk.may_leave d.disk c.write_at.new.self (image_place d.header.room d.target + d.have) (length c.args.piece.now) size
    (piece_inside d.header d.target c.download.invariant.target d.have c.args.piece.now (omega (arith, loaded.fits)) size (omega (arith, same, settled.shows.stands.long))) long moments.now)

pub returns-in-Err-clause-moments : goal.returns-in-Err-clause-moments
returns-in-Err-clause-moments g c = rw (← c.download.view_is) (λ s put filling loaded.
    let d = c.download.inside in
    let moments = rw (c.image_at.ensures.place, c.from-2.ensures, loaded.have) at c.write_at.ensures.moments in
    put_moments g.D.Disk.seen g.D.Disk.may_leave g.D.Disk.clock g.D.Disk.left_since d.disk c.write_at.new.self d.header d.target s put (length c.args.piece.now) c.download.invariant.target filling (omega (arith, loaded.have, loaded.fits)) moments)

pub returns-in-Err-clause-rig : goal.returns-in-Err-clause-rig
returns-in-Err-clause-rig g c = rw (← c.download.view_is) (λ r is.
    let d = c.download.inside in
    let within : nat_le (d.have + length c.args.piece.now) d.size ≡ true = le-leb (d.have + length c.args.piece.now) d.size (omega arith) in
    let calls : put_calls c.args.piece.now d.header.room d.target d.have d.size ≡ Write (image_place d.header.room d.target + d.have) c.args.piece.now ∷ [] = rw within in
    rw calls ((rw (c.image_at.ensures.place, c.from-2.ensures) at c.in-Err.ensures.rig) r is))

pub returns-in-Err-clause-outcome : goal.returns-in-Err-clause-outcome
returns-in-Err-clause-outcome g c = rw (← c.download.view_is) (λ r s put is filling loaded.
    let d = c.download.inside in
    let shows = rig_shows g.D.Disk.seen g.D.Disk.may_leave g.D.Disk.rig g.met.D.Disk.rig_reads g.met.D.Disk.cut_counts d.disk d.header s r is filling.settled in
    let made = (rw (c.image_at.ensures.place, c.from-2.ensures) at c.in-Err.ensures.rig) r is in
    (_, made.0, put_left d.header d.target s r c.download.invariant.target filling.shut filling.other shows d.have c.args.piece.now (omega (arith, loaded.fits))))

pub returns-in-Err-clause-gates : goal.returns-in-Err-clause-gates
returns-in-Err-clause-gates g c = rw (← c.download.view_is) (λ r s put is filling loaded gates.
    let d = c.download.inside in
    let shows = rig_shows g.D.Disk.seen g.D.Disk.may_leave g.D.Disk.rig g.met.D.Disk.rig_reads g.met.D.Disk.cut_counts d.disk d.header s r is filling.settled in
    let made = (rw (c.image_at.ensures.place, c.from-2.ensures) at c.in-Err.ensures.rig) r is in
    (_, made.0, put_left_gates d.header d.target s r c.download.invariant.target filling.shut filling.other shows d.have c.args.piece.now (omega (arith, loaded.fits)) gates))

pub returns-in-Err-clause-length : goal.returns-in-Err-clause-length
returns-in-Err-clause-length g c = rw (← c.download.view_is) (λ s put size filling loaded long.
    let d = c.download.inside in
    let settled = filling.settled in
    let same : length settled.bytes ≡ size = long settled.bytes (g.met.D.Disk.leaves_seen d.disk settled.bytes settled.reads) in
    let moments = rw (c.image_at.ensures.place, c.from-2.ensures) at c.write_at.ensures.moments in
    length_kept g.D.Disk.may_leave d.disk c.write_at.new.self (image_place d.header.room d.target + d.have) (length c.args.piece.now) size
    (piece_inside d.header d.target c.download.invariant.target d.have c.args.piece.now (omega (arith, loaded.fits)) size (omega (arith, same, settled.shows.stands.long))) long moments.now)
