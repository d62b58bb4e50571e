use Rattle.std.proofs.Common.{◌∙◌}
use Rattle.std.proofs.lemmas.Result.{err_from_is_err_and}
use Rattle.slot_laws.proofs.Calls.{makes-then, makes-stopped}
use Rattle.image_slots.proofs.Formatting.{formatted_after}
use Rattle.image_slots.proofs.format.lay_out.Goals as goal

pub returns-clause-formatted : goal.returns-clause-formatted
returns-clause-formatted g c = λ was told.
    let cleared = c.in_ok-write_through.ensures.written was told in
    let body = c.in_ok-write_body.ensures.body cleared.now cleared.reads in
    let stored = c.in_ok-write_through-2.ensures.written body.0 (c.sync.ensures.seen ∙ body.1) in
    record {
      now = stored.now;
      reads = stored.reads;
      formatted = formatted_after c.args.room c.args.entry.now c.args.image.now was cleared.now body.0 stored.now c.requires.some c.requires.fits cleared.written.torn body.2 stored.written;
      only = stored.only;
    }

pub returns-clause-rig : goal.returns-clause-rig
returns-clause-rig g c = makes-then _ _ _ _ _ _ c.in_ok-write_through.ensures.rig (makes-then _ _ _ _ _ _ c.in_ok-write_body.ensures.rig (makes-then _ _ _ _ _ _ c.in_ok-sync.ensures.rig c.in_ok-write_through-2.ensures.rig))

pub returns-in_err-write_through-clause-rig : goal.returns-in_err-write_through-clause-rig
returns-in_err-write_through-clause-rig g c = rw (err_from_is_err_and c.from_residual.result c.from_residual.ensures.1).1 (makes-stopped _ _ _ _ c.in_err-write_through.ensures.rig)

pub returns-in_err-write_body-clause-rig : goal.returns-in_err-write_body-clause-rig
returns-in_err-write_body-clause-rig g c = rw (err_from_is_err_and c.from_residual-in_err-write_body.result c.from_residual-in_err-write_body.ensures.1).1 (makes-then _ _ _ _ _ _ c.in_ok-write_through.ensures.rig (makes-stopped _ _ _ _ c.in_err-write_body.ensures.rig))

pub returns-in_err-sync-clause-rig : goal.returns-in_err-sync-clause-rig
returns-in_err-sync-clause-rig g c = rw (err_from_is_err_and c.from_residual-in_err-sync.result c.from_residual-in_err-sync.ensures.1).1 (makes-then _ _ _ _ _ _ c.in_ok-write_through.ensures.rig (makes-then _ _ _ _ _ _ c.in_ok-write_body.ensures.rig (makes-stopped _ _ _ _ c.in_err-sync.ensures.rig)))

pub returns-in_err-write_through-2-clause-rig : goal.returns-in_err-write_through-2-clause-rig
returns-in_err-write_through-2-clause-rig g c = rw (err_from_is_err_and c.from_residual-in_err-write_through-2.result c.from_residual-in_err-write_through-2.ensures.1).1 (makes-then _ _ _ _ _ _ c.in_ok-write_through.ensures.rig (makes-then _ _ _ _ _ _ c.in_ok-write_body.ensures.rig (makes-then _ _ _ _ _ _ c.in_ok-sync.ensures.rig c.in_err-write_through-2.ensures.rig)))
