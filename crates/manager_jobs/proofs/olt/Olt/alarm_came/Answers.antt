-- A notice that was not lost leaves the rows of an audit as they are.
use Rattle.std.proofs.Common.{sym, ◌∙◌}
use Rattle.manager_jobs.proofs.Rows.{job_unaudited, job_repeat, job_taken}
use Rattle.manager_jobs.proofs.olt.Olt.alarm_came.Goals as goal

pub invariant_of-self-in-Unaudited : goal.invariant_of-self-in-Unaudited
invariant_of-self-in-Unaudited c =
    job_unaudited c.self.inside.job c.args.entity c.args.bitmap c.args.number c.self.inside.table
    c.take.new.self c.in_ok-take.ensures.table
    (sym c.in-Unaudited.is ∙ c.in_ok-take.ensures.answer) c.self.invariant

pub invariant_of-self-in-Repeat : goal.invariant_of-self-in-Repeat
invariant_of-self-in-Repeat c =
    job_repeat c.self.inside.job c.args.entity c.args.bitmap c.args.number c.self.inside.table
    c.take.new.self c.in_ok-take.ensures.table
    (sym c.in-Repeat.is ∙ c.in_ok-take.ensures.answer) c.self.invariant

pub invariant_of-self-in-Taken : goal.invariant_of-self-in-Taken
invariant_of-self-in-Taken c =
    job_taken c.self.inside.job c.args.entity c.args.bitmap c.args.number c.self.inside.table
    c.take.new.self c.in_ok-take.ensures.table
    (sym c.in-Taken.is ∙ c.in_ok-take.ensures.answer) c.self.invariant
