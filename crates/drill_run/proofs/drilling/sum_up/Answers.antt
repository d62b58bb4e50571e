use Rattle.drill_run.proofs.Summing.{drill_ends, drill_told}
use Rattle.drill_run.proofs.drilling.sum_up.Goals as goal

pub returns-clause-ended : goal.returns-clause-ended
returns-clause-ended c =
    drill_ends c.args.number c.run_all.new.world c.in_ok-tally.tally c.in_ok-tally.ensures.drilled

pub returns-clause-text : goal.returns-clause-text
returns-clause-text c =
    drill_told c.args.number c.events.result c.counts.result c.new-line.result.items c.push_counts.new.out.items c.run_all.new.world c.in_ok-tally.tally c.in_ok-tally.ensures.drilled c.events.ensures.value c.counts.ensures.value c.new-line.ensures.items c.in_ok-push_counts.ensures.text
