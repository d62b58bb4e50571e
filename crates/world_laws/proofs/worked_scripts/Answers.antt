use Rattle.world_laws.proofs.Worked.{traces, histories}
use Rattle.world_laws.proofs.worked_scripts.Goals as goal

pub returns-clause-probe_and_get : goal.returns-clause-probe_and_get
returns-clause-probe_and_get c = traces.probe_and_get-is

pub returns-clause-unproven : goal.returns-clause-unproven
returns-clause-unproven c = traces.unproven-is

pub returns-clause-occupied : goal.returns-clause-occupied
returns-clause-occupied c = traces.occupied-is

pub returns-clause-second_change : goal.returns-clause-second_change
returns-clause-second_change c = traces.second_change-is

pub returns-clause-reply_again : goal.returns-clause-reply_again
returns-clause-reply_again c = traces.reply_again-is

pub returns-clause-kept_reply : goal.returns-clause-kept_reply
returns-clause-kept_reply c = traces.kept_reply-is

pub returns-clause-two_kept : goal.returns-clause-two_kept
returns-clause-two_kept c = traces.two_kept-is

pub returns-clause-below_floor : goal.returns-clause-below_floor
returns-clause-below_floor c = traces.below_floor-is

pub returns-clause-given_up : goal.returns-clause-given_up
returns-clause-given_up c = traces.given_up-is

pub returns-clause-no_frames : goal.returns-clause-no_frames
returns-clause-no_frames c = traces.no_frames-is

pub returns-clause-unit_restarted : goal.returns-clause-unit_restarted
returns-clause-unit_restarted c = traces.unit_restarted-is

pub returns-clause-manager_restarted : goal.returns-clause-manager_restarted
returns-clause-manager_restarted c = traces.manager_restarted-is

pub returns-clause-number_comes_round : goal.returns-clause-number_comes_round
returns-clause-number_comes_round c = traces.number_comes_round-is

pub returns-clause-kept_reply_history : goal.returns-clause-kept_reply_history
returns-clause-kept_reply_history c = histories.kept_reply-is

pub returns-clause-given_up_history : goal.returns-clause-given_up_history
returns-clause-given_up_history c = histories.given_up-is

pub returns-clause-unit_restarted_history : goal.returns-clause-unit_restarted_history
returns-clause-unit_restarted_history c = histories.unit_restarted-is

pub returns-clause-manager_restarted_history : goal.returns-clause-manager_restarted_history
returns-clause-manager_restarted_history c = histories.manager_restarted-is
