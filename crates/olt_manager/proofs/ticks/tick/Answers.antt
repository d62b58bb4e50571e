-- Both lanes and the job send packets of frames alone.
use Rattle.manager_jobs.proofs.Sent.{ticked_whole}
use Rattle.olt_manager.proofs.ticks.tick.Goals as goal

pub returns-clause-whole : goal.returns-clause-whole
returns-clause-whole c =
    ticked_whole c.args.olt.now c.tick_lane.new.olt c.tick_lane-2.new.olt
    c.in_ok-tick_lane.ensures.manager c.in_ok-tick_lane-2.ensures.manager
    c.in_ok-tick_lane.ensures.whole c.in_ok-tick_lane-2.ensures.whole
    c.in_ok-job_resumes.ensures.whole
