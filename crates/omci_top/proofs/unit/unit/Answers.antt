use Rattle.std.proofs.Common.{ap, sym, ◌∙◌}
use Rattle.omci_top.proofs.UnitLemmas.{unit_write_fault, unit_write_kept, unit_link_fault, unit_link_kept, unit_disk_fault, unit_runs_of, unit_refuses_of}
use Rattle.omci_top.proofs.unit.unit.Goals as goal

pub returns-clause-answers : goal.returns-clause-answers
returns-clause-answers g c = record {
  ended = c.run_unit-ended.result.status;
  status_is = c.status_of.ensures.value;
  cause = c.run_unit-ended.ensures.cause;
  disk_cause = c.run_unit-ended.ensures.disk_cause;
  ends = c.run_unit-ended.ensures.ends;
  bare = λ bytes told other.
      let bare = c.run_unit-ended.ensures.bare bytes told other in (
        bare.0,
        ap g.L.Link.left bare.1,
        ap g.L.Link.sent bare.1,
        ap g.K.Sink.written bare.2,
      );
}

pub returns-clause-write_fault : goal.returns-clause-write_fault
returns-clause-write_fault g c = λ is.
    unit_write_fault _ _ _ _ c.run_unit-ended.result.status c.run_unit-ended.ensures.cause (sym c.status_of.ensures.value ∙ is)

pub returns-clause-write_kept : goal.returns-clause-write_kept
returns-clause-write_kept g c = λ other.
    unit_write_kept _ _ _ _ c.run_unit-ended.result.status c.run_unit-ended.ensures.cause (λ is. other (c.status_of.ensures.value ∙ is))

pub returns-clause-link_fault : goal.returns-clause-link_fault
returns-clause-link_fault g c = λ is.
    unit_link_fault _ _ _ _ c.run_unit-ended.result.status c.run_unit-ended.ensures.cause (sym c.status_of.ensures.value ∙ is)

pub returns-clause-link_kept : goal.returns-clause-link_kept
returns-clause-link_kept g c = λ other.
    unit_link_kept _ _ _ _ c.run_unit-ended.result.status c.run_unit-ended.ensures.cause (λ is. other (c.status_of.ensures.value ∙ is))

pub returns-clause-disk_fault : goal.returns-clause-disk_fault
returns-clause-disk_fault g c = λ is.
    unit_disk_fault _ _ c.run_unit-ended.result.status c.run_unit-ended.ensures.disk_cause (sym c.status_of.ensures.value ∙ is)

pub returns-clause-runs : goal.returns-clause-runs
returns-clause-runs g c = λ room slots bytes told stands calm_sink calm_link calm_disk some.
    c.status_of.ensures.value
    ∙ unit_runs_of _ _ _ _ g.D.Disk.seen g.D.Disk.may_leave g.D.Disk.clock g.D.Disk.left_since g.D.Disk.faults c.run_unit-ended.result.status room slots _ _ _ _ _ _ _ _ _
    (c.run_unit-ended.ensures.ends room slots bytes told stands) c.run_unit-ended.ensures.cause c.run_unit-ended.ensures.disk_cause
    calm_sink calm_link calm_disk (λ is. some (c.status_of.ensures.value ∙ is))

pub returns-clause-refuses : goal.returns-clause-refuses
returns-clause-refuses g c = λ bytes told other calm some.
    c.status_of.ensures.value
    ∙ unit_refuses_of _ _ c.run_unit-ended.result.status
    (c.run_unit-ended.ensures.bare bytes told other).0 c.run_unit-ended.ensures.disk_cause calm
    (λ is. some (c.status_of.ensures.value ∙ is))
