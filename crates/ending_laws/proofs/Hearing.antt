-- A packet answers what is outstanding in its lane, or is none of its reply.
use Rattle.std.proofs.Common.{◌≡◌, ℕ, Bool, true, false, List, Option, Some, None, ◌⊎◌, inl, inr, refl, sym, ap, ◌∙◌}
use Rattle.omci_types.specs.declared.Frame.{Frame}
use Rattle.omci_types.specs.declared.Priority.{Priority}
use Rattle.tci_spec.specs.Tci.{priority_of}
use Rattle.frame_spec.specs.Baseline.{packet_frame}
use Rattle.lane_spec.specs.Command.{answers}
use Rattle.lane_spec.specs.Lane.{Lane, Waiting, end_command, reply_by, reply_to, lane_reply}
use Rattle.manager_spec.specs.Manager.{Manager, Outcome, lane_in, with_lane, and_then}
use Rattle.manager_spec.specs.Jobs.{job_goes_on}
use Rattle.manager_spec.specs.Steps.{taken_as, take_if, frame_came, for_frame, after_packet}
use Rattle.world_laws.proofs.Manager.{taken_by, untaken}

-- the frame answers that command, and is taken
pub record Answered (lane : Priority) (f : Frame) (m : Manager) (o : Outcome) : Type 0 where
  pub waiting : Waiting
  pub waits : (lane_in lane m).outstanding ≡ Some waiting
  pub does : answers waiting.tci waiting.command f ≡ true
  pub is : o ≡ taken_by lane f waiting m

abbrev Heard : Priority → Frame → Manager → Outcome → Type 0
Heard lane f m o = (o ≡ untaken (Some f) m) ⊎ Answered lane f m o

answer_by : (b : Bool) (lane : Priority) (f : Frame) (w : Waiting) (m : Manager)
    → (lane_in lane m).outstanding ≡ Some w → answers w.tci w.command f ≡ b
    → Heard lane f m (take_if (reply_by b w (lane_in lane m)).taken (Some w) lane f m)
unfolding lane_reply
answer_by false lane f w m out e = inl refl
answer_by true lane f w m out e = inr (record {
  waiting = w;
  waits = out;
  does = e;
  is = ap (λ (l : Lane). and_then
      (taken_as w.command.purpose lane w.command f (with_lane lane l m)) job_goes_on)
      (ap (λ o. (reply_to o f (lane_in lane m)).lane) out
      ∙ ap (λ b. (reply_by b w (lane_in lane m)).lane) e);
})

came_by : (o : Option Waiting) (lane : Priority) (f : Frame) (m : Manager)
    → (lane_in lane m).outstanding ≡ o
    → Heard lane f m (take_if (reply_to o f (lane_in lane m)).taken o lane f m)
came_by None lane f m out = inl refl
came_by (Some w) lane f m out = answer_by (answers w.tci w.command f) lane f w m out refl

came : (lane : Priority) (f : Frame) (m : Manager) → Heard lane f m (frame_came lane f m)
unfolding lane_reply
came lane f m = came_by (lane_in lane m).outstanding lane f m refl

-- what a packet of these bytes comes to
pub record Answers (bytes : List ℕ) (m : Manager) (o : Outcome) : Type 0 where
  pub frame : Frame
  pub read : packet_frame bytes ≡ Some frame
  pub lane : Priority
  pub answered : Answered lane frame m o

for_frame_is : (x : Option Frame) (bytes : List ℕ) (m : Manager) → packet_frame bytes ≡ x
    → (for_frame x m ≡ untaken x m) ⊎ Answers bytes m (for_frame x m)
for_frame_is None bytes m e = inl refl
for_frame_is (Some f) bytes m e = by (came (priority_of f.tci) f m)
  where
    by : Heard (priority_of f.tci) f m (frame_came (priority_of f.tci) f m)
        → (for_frame (Some f) m ≡ untaken (Some f) m) ⊎ Answers bytes m (for_frame (Some f) m)
    by (inl not) = inl not
    by (inr a) = inr (record {
      frame = f;
      read = e;
      lane = priority_of f.tci;
      answered = a;
    })

pub heard : (bytes : List ℕ) (m : Manager)
    → (after_packet bytes m ≡ untaken (packet_frame bytes) m)
    ⊎ Answers bytes m (after_packet bytes m)
unfolding after_packet
heard bytes m = for_frame_is (packet_frame bytes) bytes m refl
