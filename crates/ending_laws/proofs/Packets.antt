-- A packet ends what is outstanding in its lane, or leaves it alone.
use Rattle.std.proofs.Common.{◌≡◌, ℕ, Bool, true, false, ◌||◌, List, [], ◌∷◌, Option, Some, None, ◌⊎◌, inl, inr, refl, sym, ap, subst, ◌∙◌}
use Rattle.omci_types.specs.declared.Frame.{Frame}
use Rattle.omci_types.specs.declared.Priority.{Priority}
use Rattle.omci_types.specs.declared.Priority.TheVariants.{Low, High}
use Rattle.tci_spec.specs.Tci.{priority_of}
use Rattle.frame_spec.specs.Baseline.{packet_frame}
use Rattle.lane_spec.specs.declared.Purpose.{Purpose}
use Rattle.lane_spec.specs.declared.Purpose.TheVariants as purpose
use Rattle.lane_spec.specs.Command.{Command, is_probe}
use Rattle.lane_spec.specs.Lane.{Lane, Waiting, end_command}
use Rattle.manager_spec.specs.declared.Report.TheVariants as report
use Rattle.manager_spec.specs.Manager.{Manager, Outcome, lane_in, with_lane, and_then}
use Rattle.manager_spec.specs.Jobs.{job_goes_on}
use Rattle.manager_spec.specs.Steps.{taken_as, after_packet}
use Rattle.world_laws.proofs.Manager.{freed_lane, meant_by, taken_by, IsTaken, untaken, hearing_is}
use Rattle.world_laws.proofs.Keeping.{IsTaking, taking_is, IsBeside, is_beside, job_reports}
use Rattle.ending_spec.specs.Moves.{Replied, is_told}
use Rattle.ending_spec.specs.Commands.{same_lane, reports_end, ends_command}
use Rattle.ending_laws.proofs.Told.{reports_stay, told_last, reported_told, replied_told}
use Rattle.ending_laws.proofs.Lanes.{TellsCommand, IsSound, Goes, lane_sound, with_sound, same_sound, lane_same, idle_is, goes_same, goes_then}
use Rattle.ending_laws.proofs.Calls.{Steady}
use Rattle.ending_laws.proofs.Seconds.{other_with, job_steady}

same_lane_is : (l : Priority) → same_lane l l ≡ true
same_lane_is Low = refl
same_lane_is High = refl

replied_is : (l : Priority) (tci : ℕ)
    → is_told (λ k. ends_command l tci (Replied k)) (l ∷ []) ≡ true
replied_is Low tci = refl
replied_is High tci = refl

-- the end of a command is told that is answered, whatever it was sent for
meant_tells : (why : Purpose) (l : Priority) (c : Command) (f : Frame) (m : Manager) (tci : ℕ)
    → TellsCommand l tci (taken_as why l c f m)
meant_tells purpose.Probe l c f m tci =
    reported_told (ends_command l tci) (taken_as purpose.Probe l c f m)
    (told_last (reports_end l tci) m.reports (report.Proved l) (same_lane_is l))
meant_tells purpose.Submission l c f m tci =
    replied_told (ends_command l tci) (taken_as purpose.Submission l c f m) (replied_is l tci)
meant_tells purpose.Check l c f m tci =
    replied_told (ends_command l tci) (taken_as purpose.Check l c f m) (replied_is l tci)
meant_tells purpose.Job l c f m tci =
    replied_told (ends_command l tci) (taken_as purpose.Job l c f m) (replied_is l tci)

module _ (l : Priority) (f : Frame) (w : Waiting) (m : Manager) where
  abbrev freed : Manager
  freed = freed_lane l w m

  abbrev meant : Outcome
  meant = meant_by l f w m

  taking : IsTaking (is_probe w.command.purpose) f l freed meant
  taking = taking_is w.command.purpose l w.command f freed

  meant_goes : (lane : Priority) → (lane ≡ l) ⊎ (lane_in lane freed ≡ lane_in lane m)
      → Goes lane 0 m meant
  meant_goes lane (inl same) = λ u e. inl (subst (λ k. TellsCommand k u.tci meant) (sym same)
      (meant_tells w.command.purpose l w.command f freed u.tci))
  meant_goes lane (inr same) =
      goes_same lane m meant (lane_same lane freed meant.manager taking.same ∙ same)

  taken_steady : Steady m (taken_by l f w m)
  taken_steady = record {
    sound = λ h. (job_steady meant.manager).sound (same_sound freed meant.manager taking.same
        (with_sound l (end_command w (lane_in l m)) m h
        (idle_is l (end_command w (lane_in l m)) (lane_sound l m h).priority refl)));
    goes = λ lane. goes_then lane 0 0 m meant job_goes_on
        (reports_stay meant.manager (job_goes_on meant.manager).manager
        (job_reports meant.manager))
        (meant_goes lane (other_with l (end_command w (lane_in l m)) m lane))
        ((job_steady meant.manager).goes lane);
  }

beside_steady : (m : Manager) (o : Outcome) → IsBeside m o → Steady m o
beside_steady m o k = record {
  sound = same_sound m o.manager k.keeps.same;
  goes = λ lane. goes_same lane m o (lane_same lane m o.manager k.keeps.same);
}

heard_steady : (bytes : List ℕ) (m : Manager) (o : Outcome)
    → (o ≡ untaken (packet_frame bytes) m) ⊎ IsTaken bytes m o → Steady m o
heard_steady bytes m o (inl e) = beside_steady m o (is_beside (packet_frame bytes) m o e)
heard_steady bytes m o (inr k) =
    subst (Steady m) (sym k.is) (taken_steady (priority_of k.frame.tci) k.frame k.waiting m)

pub packet_steady : (bytes : List ℕ) (m : Manager) → Steady m (after_packet bytes m)
packet_steady bytes m = heard_steady bytes m (after_packet bytes m) (hearing_is bytes m)
