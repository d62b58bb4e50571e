use Rattle.world_laws.proofs.WorkedCopies.{copy_traces, copy_histories}
use Rattle.world_laws.proofs.worked_resynchronisations.Goals as goal

pub returns-clause-resynchronised : goal.returns-clause-resynchronised
returns-clause-resynchronised c = copy_traces.resynchronised-is

pub returns-clause-created_and_checked : goal.returns-clause-created_and_checked
returns-clause-created_and_checked c = copy_traces.created_and_checked-is

pub returns-clause-counter_goes_round : goal.returns-clause-counter_goes_round
returns-clause-counter_goes_round c = copy_traces.counter_goes_round-is

pub returns-clause-values_too_wide : goal.returns-clause-values_too_wide
returns-clause-values_too_wide c = copy_traces.values_too_wide-is

pub returns-clause-set_refused : goal.returns-clause-set_refused
returns-clause-set_refused c = copy_traces.set_refused-is

pub returns-clause-deleted_absent : goal.returns-clause-deleted_absent
returns-clause-deleted_absent c = copy_traces.deleted_absent-is

pub returns-clause-change_in_the_way : goal.returns-clause-change_in_the_way
returns-clause-change_in_the_way c = copy_traces.change_in_the_way-is

pub returns-clause-restarted_meanwhile : goal.returns-clause-restarted_meanwhile
returns-clause-restarted_meanwhile c = copy_traces.restarted_meanwhile-is

pub returns-clause-refusals_in_order : goal.returns-clause-refusals_in_order
returns-clause-refusals_in_order c = copy_traces.refusals_in_order-is

pub returns-clause-created_and_checked_history : goal.returns-clause-created_and_checked_history
returns-clause-created_and_checked_history c = copy_histories.created_and_checked-is

pub returns-clause-restarted_meanwhile_history : goal.returns-clause-restarted_meanwhile_history
returns-clause-restarted_meanwhile_history c = copy_histories.restarted_meanwhile-is
