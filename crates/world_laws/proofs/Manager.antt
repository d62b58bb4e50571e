-- What the manager may make of a packet, by the TCI that stands in it.
use Rattle.std.proofs.Common.{◌≡◌, ◌≢◌, ℕ, Bool, true, false, eqb, ◌||◌, List, Option, Some, None, ◌⊎◌, inl, inr, refl, sym, ap, ◌∙◌}
use Rattle.std.proofs.lemmas.Bool.{eqb-true, and_parts}
use Rattle.omci_types.specs.declared.Frame.{Frame}
use Rattle.omci_types.specs.declared.Priority.{Priority}
use Rattle.tci_spec.specs.Tci.{priority_of, packet_tci}
use Rattle.frame_spec.specs.Baseline.{fault_of, packet_frame}
use Rattle.lane_spec.specs.Command.{command_frame, is_probe, is_response, answers}
use Rattle.lane_spec.specs.Lane.{Lane, Waiting, Replied, end_command, reply_by, reply_to, lane_reply}
use Rattle.manager_spec.specs.Manager.{Manager, Outcome, lane_in, with_lane, and_then}
use Rattle.message_spec.specs.Reading.{message_of}
use Rattle.manager_spec.specs.Jobs.{job_goes_on}
use Rattle.manager_spec.specs.Steps.{taken_as, packet_dropped, not_taken, take_if, frame_came, for_frame, after_packet}
use Rattle.world_laws.proofs.Reading.{tci_read, noise_read}

-- a frame is the reply to the command that is outstanding in a lane
pub record Replies (f : Frame) (l : Lane) (r : Replied) : Type 0 where
  pub waiting : Waiting
  pub waits : l.outstanding ≡ Some waiting
  pub same : f.tci ≡ waiting.tci
  pub is : r ≡ record { lane = end_command waiting l; taken = true }

reply_by_is : (b : Bool) (f : Frame) (w : Waiting) (l : Lane) → answers w.tci w.command f ≡ b
    → l.outstanding ≡ Some w
    → ((reply_by b w l).taken ≡ false) ⊎ Replies f l (reply_by b w l)
reply_by_is true f w l t e = inr (record {
  waiting = w;
  waits = e;
  same = eqb-true f.tci w.tci
      (and_parts (eqb f.tci w.tci)
      (is_probe w.command.purpose || is_response (command_frame w.tci w.command) f) t).0;
  is = refl;
})
reply_by_is false f w l t e = inl refl

reply_to_is : (o : Option Waiting) (f : Frame) (l : Lane) → l.outstanding ≡ o
    → ((reply_to o f l).taken ≡ false) ⊎ Replies f l (reply_to o f l)
reply_to_is None f l e = inl refl
reply_to_is (Some w) f l e = reply_by_is _ f w l refl e

lane_reply_is : (f : Frame) (l : Lane) → ((lane_reply f l).taken ≡ false)
    ⊎ Replies f l (lane_reply f l)
unfolding lane_reply
lane_reply_is f l = reply_to_is l.outstanding f l refl

-- the manager with its lane free again
abbrev pub freed_lane : Priority → Waiting → Manager → Manager
freed_lane lane w m = with_lane lane (end_command w (lane_in lane m)) m

-- what the reply means, before the job goes on
abbrev pub meant_by : Priority → Frame → Waiting → Manager → Outcome
meant_by lane f w m = taken_as w.command.purpose lane w.command f (freed_lane lane w m)

-- what comes of it that the frame is taken as the reply to that command
abbrev pub taken_by : Priority → Frame → Waiting → Manager → Outcome
taken_by lane f w m = and_then (meant_by lane f w m) job_goes_on

-- what comes of a packet that is no reply that a lane waits for
abbrev pub untaken : Option Frame → Manager → Outcome
untaken None m = packet_dropped m
untaken (Some f) m = not_taken (message_of f) f m

-- a frame is taken
record IsTakenAs (f : Frame) (m : Manager) (o : Outcome) : Type 0 where
  waiting : Waiting
  waits : (lane_in (priority_of f.tci) m).outstanding ≡ Some waiting
  same : f.tci ≡ waiting.tci
  is : o ≡ taken_by (priority_of f.tci) f waiting m

frame_came_is : (f : Frame) (m : Manager)
    → (frame_came (priority_of f.tci) f m ≡ untaken (Some f) m)
    ⊎ IsTakenAs f m (frame_came (priority_of f.tci) f m)
frame_came_is f m = go (lane_reply_is f (lane_in lane m))
  where
    lane : Priority
    lane = priority_of f.tci

    go : ((lane_reply f (lane_in lane m)).taken ≡ false) ⊎ Replies f (lane_in lane m)
        (lane_reply f (lane_in lane m))
        → (frame_came lane f m ≡ untaken (Some f) m) ⊎ IsTakenAs f m (frame_came lane f m)
    go (inl drops) = inl (ap (λ b. take_if b (lane_in lane m).outstanding lane f m) drops)
    go (inr r) = inr (record {
      waiting = r.waiting;
      waits = r.waits;
      same = r.same;
      is = ap (λ b. take_if b (lane_in lane m).outstanding lane f m) (ap (λ x. x.taken) r.is)
          ∙ ap (λ (o : Option Waiting). take_if true o lane f m) r.waits
          ∙ ap (λ (l : Lane). and_then
          (taken_as r.waiting.command.purpose lane r.waiting.command f (with_lane lane l m))
          job_goes_on) (ap (λ x. x.lane) r.is);
    })

-- a packet is taken: this is its frame, and the command that it answers
pub record IsTaken (bytes : List ℕ) (m : Manager) (o : Outcome) : Type 0 where
  pub frame : Frame
  pub read : packet_frame bytes ≡ Some frame
  pub tci_is : frame.tci ≡ packet_tci bytes
  pub waiting : Waiting
  pub waits : (lane_in (priority_of frame.tci) m).outstanding ≡ Some waiting
  pub same : frame.tci ≡ waiting.tci
  pub is : o ≡ taken_by (priority_of frame.tci) frame waiting m

with_packet : (bytes : List ℕ) (f : Frame) (m : Manager) (o : Outcome)
    → packet_frame bytes ≡ Some f → (o ≡ untaken (Some f) m) ⊎ IsTakenAs f m o
    → (o ≡ untaken (packet_frame bytes) m) ⊎ IsTaken bytes m o
with_packet bytes f m o e (inl not) = inl (not ∙ ap (λ x. untaken x m) (sym e))
with_packet bytes f m o e (inr k) = inr (record {
  frame = f;
  read = e;
  tci_is = tci_read bytes f e;
  waiting = k.waiting;
  waits = k.waits;
  same = k.same;
  is = k.is;
})

for_frame_is : (o : Option Frame) (bytes : List ℕ) (m : Manager) → packet_frame bytes ≡ o
    → (for_frame o m ≡ untaken (packet_frame bytes) m) ⊎ IsTaken bytes m (for_frame o m)
for_frame_is None bytes m e = inl (ap (λ x. untaken x m) (sym e))
for_frame_is (Some f) bytes m e = with_packet bytes f m (for_frame (Some f) m) e
    (frame_came_is f m)

-- a packet ends the wait of a lane, or answers nothing
pub hearing_is : (bytes : List ℕ) (m : Manager)
    → (after_packet bytes m ≡ untaken (packet_frame bytes) m)
    ⊎ IsTaken bytes m (after_packet bytes m)
unfolding after_packet
hearing_is bytes m = for_frame_is (packet_frame bytes) bytes m refl

-- noise is dropped
pub noise_heard : (bytes : List ℕ) (m : Manager) → fault_of bytes ≢ None → after_packet bytes m
    ≡ packet_dropped m
unfolding after_packet
noise_heard bytes m h = ap (λ o. for_frame o m) (noise_read bytes h)
