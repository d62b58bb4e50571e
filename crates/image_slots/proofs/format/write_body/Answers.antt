use Rattle.std.proofs.Common.{refl, drop}
use Rattle.std.proofs.lemmas.Result.{err_from_is_err_and}
use Rattle.slot_laws.proofs.Calls.{makes-then, makes-stopped}
use Rattle.image_slots.specs.Formats.{body_calls}
use Rattle.image_slots.proofs.Formatting.{body_after}
use Rattle.image_slots.proofs.format.write_body.Goals as goal

pub returns-clause-body : goal.returns-clause-body
returns-clause-body g c = λ was told.
    let b1 = c.in_ok-write_at.ensures.written was told in
    let b2 = c.in_ok-write_at-2.ensures.written b1.0 b1.1 in
    let b3 = c.in_ok-write_at-3.ensures.written b2.0 b2.1 in
    let b4 = c.in_ok-write_at-4.ensures.written b3.0 b3.1 in
    let b5 = c.in_ok-write_at-5.ensures.written b4.0 b4.1 in
    let b6 = c.in_ok-write_at-6.ensures.written b5.0 b5.1 in
    let b7 = c.in_ok-write_at-7.ensures.written b6.0 b6.1 in
    let w1 = rw c.to_be_bytes.ensures at b1.2 in
    let w7 = rw c.from.ensures at b7.2 in (
      b7.0,
      b7.1,
      body_after c.args.room c.args.entry.now c.args.image.now was b7.0 c.requires.some c.requires.content c.requires.fits c.told-entry
          (b1.0, w1, (b2.0, b2.2, (b3.0, b3.2, (b4.0, b4.2, (b5.0, b5.2, (b6.0, b6.2, (b7.0, w7, refl))))))),
    )

pub returns-clause-rig : goal.returns-clause-rig
returns-clause-rig g c = makes-then _ _ _ _ _ _ (rw c.to_be_bytes.ensures at c.in_ok-write_at.ensures.rig) (makes-then _ _ _ _ _ _ c.in_ok-write_at-2.ensures.rig (makes-then _ _ _ _ _ _ c.in_ok-write_at-3.ensures.rig (makes-then _ _ _ _ _ _ c.in_ok-write_at-4.ensures.rig (makes-then _ _ _ _ _ _ c.in_ok-write_at-5.ensures.rig (makes-then _ _ _ _ _ _ c.in_ok-write_at-6.ensures.rig (rw c.from.ensures at c.in_ok-write_at-7.ensures.rig))))))

-- a write that fails is the last call
pub returns-in_err-write_at-clause-rig : goal.returns-in_err-write_at-clause-rig
returns-in_err-write_at-clause-rig g c = rw (err_from_is_err_and c.from_residual.result c.from_residual.ensures.1).1 (makes-stopped _ (drop 1 (body_calls c.args.room c.args.entry.now c.args.image.now)) _ _ ((rw c.to_be_bytes.ensures at c.in_err-write_at.ensures.rig)))

pub returns-in_err-write_at-2-clause-rig : goal.returns-in_err-write_at-2-clause-rig
returns-in_err-write_at-2-clause-rig g c = rw (err_from_is_err_and c.from_residual-in_err-write_at-2.result c.from_residual-in_err-write_at-2.ensures.1).1 (makes-stopped _ (drop 2 (body_calls c.args.room c.args.entry.now c.args.image.now)) _ _ (makes-then _ _ _ _ _ _ (rw c.to_be_bytes.ensures at c.in_ok-write_at.ensures.rig) c.in_err-write_at-2.ensures.rig))

pub returns-in_err-write_at-3-clause-rig : goal.returns-in_err-write_at-3-clause-rig
returns-in_err-write_at-3-clause-rig g c = rw (err_from_is_err_and c.from_residual-in_err-write_at-3.result c.from_residual-in_err-write_at-3.ensures.1).1 (makes-stopped _ (drop 3 (body_calls c.args.room c.args.entry.now c.args.image.now)) _ _ (makes-then _ _ _ _ _ _ (rw c.to_be_bytes.ensures at c.in_ok-write_at.ensures.rig) (makes-then _ _ _ _ _ _ c.in_ok-write_at-2.ensures.rig c.in_err-write_at-3.ensures.rig)))

pub returns-in_err-write_at-4-clause-rig : goal.returns-in_err-write_at-4-clause-rig
returns-in_err-write_at-4-clause-rig g c = rw (err_from_is_err_and c.from_residual-in_err-write_at-4.result c.from_residual-in_err-write_at-4.ensures.1).1 (makes-stopped _ (drop 4 (body_calls c.args.room c.args.entry.now c.args.image.now)) _ _ (makes-then _ _ _ _ _ _ (rw c.to_be_bytes.ensures at c.in_ok-write_at.ensures.rig) (makes-then _ _ _ _ _ _ c.in_ok-write_at-2.ensures.rig (makes-then _ _ _ _ _ _ c.in_ok-write_at-3.ensures.rig c.in_err-write_at-4.ensures.rig))))

pub returns-in_err-write_at-5-clause-rig : goal.returns-in_err-write_at-5-clause-rig
returns-in_err-write_at-5-clause-rig g c = rw (err_from_is_err_and c.from_residual-in_err-write_at-5.result c.from_residual-in_err-write_at-5.ensures.1).1 (makes-stopped _ (drop 5 (body_calls c.args.room c.args.entry.now c.args.image.now)) _ _ (makes-then _ _ _ _ _ _ (rw c.to_be_bytes.ensures at c.in_ok-write_at.ensures.rig) (makes-then _ _ _ _ _ _ c.in_ok-write_at-2.ensures.rig (makes-then _ _ _ _ _ _ c.in_ok-write_at-3.ensures.rig (makes-then _ _ _ _ _ _ c.in_ok-write_at-4.ensures.rig c.in_err-write_at-5.ensures.rig)))))

pub returns-in_err-write_at-6-clause-rig : goal.returns-in_err-write_at-6-clause-rig
returns-in_err-write_at-6-clause-rig g c = rw (err_from_is_err_and c.from_residual-in_err-write_at-6.result c.from_residual-in_err-write_at-6.ensures.1).1 (makes-stopped _ (drop 6 (body_calls c.args.room c.args.entry.now c.args.image.now)) _ _ (makes-then _ _ _ _ _ _ (rw c.to_be_bytes.ensures at c.in_ok-write_at.ensures.rig) (makes-then _ _ _ _ _ _ c.in_ok-write_at-2.ensures.rig (makes-then _ _ _ _ _ _ c.in_ok-write_at-3.ensures.rig (makes-then _ _ _ _ _ _ c.in_ok-write_at-4.ensures.rig (makes-then _ _ _ _ _ _ c.in_ok-write_at-5.ensures.rig c.in_err-write_at-6.ensures.rig))))))

pub returns-in_err-write_at-7-clause-rig : goal.returns-in_err-write_at-7-clause-rig
returns-in_err-write_at-7-clause-rig g c = rw (err_from_is_err_and c.from_residual-in_err-write_at-7.result c.from_residual-in_err-write_at-7.ensures.1).1 (makes-then _ _ _ _ _ _ (rw c.to_be_bytes.ensures at c.in_ok-write_at.ensures.rig) (makes-then _ _ _ _ _ _ c.in_ok-write_at-2.ensures.rig (makes-then _ _ _ _ _ _ c.in_ok-write_at-3.ensures.rig (makes-then _ _ _ _ _ _ c.in_ok-write_at-4.ensures.rig (makes-then _ _ _ _ _ _ c.in_ok-write_at-5.ensures.rig (makes-then _ _ _ _ _ _ c.in_ok-write_at-6.ensures.rig (rw c.from.ensures at c.in_err-write_at-7.ensures.rig)))))))
