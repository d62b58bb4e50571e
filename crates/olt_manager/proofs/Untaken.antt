-- A frame that a lane doesn't take leaves the lanes as they are, and nothing is sent on it.
use Rattle.std.proofs.Common.{◌≡◌, ℕ, Bool, true, false, List, [], ◌++◌, refl, sym, ap, ◌∙◌}
use Rattle.std.proofs.Common.{Option, Some, None, Result, Ok, Err}
use Rattle.std.proofs.lemmas.List.{append-nil}
use Rattle.omci_types.specs.declared.EntityId.{EntityId}
use Rattle.omci_types.specs.declared.Frame.{Frame}
use Rattle.omci_types.specs.declared.Priority.{Priority}
use Rattle.omci_types.specs.declared.Priority.TheVariants.{Low, High}
use Rattle.message_spec.specs.declared.Message.{Message}
use Rattle.message_spec.specs.declared.Message.TheVariants.{Asked, Answered, Told}
use Rattle.message_spec.specs.declared.Notice.TheVariants as notices
use Rattle.message_spec.specs.declared.ContentsFault.{ContentsFault}
use Rattle.message_spec.specs.Reading.{message_of}
use Rattle.alarm_spec.specs.declared.TakenAlarm.{TakenAlarm}
use Rattle.alarm_spec.specs.declared.TakenAlarm.TheVariants.{Unaudited, Repeat, Gap}
use Rattle.alarm_spec.specs.declared.TakenAlarm.TheVariants.{Overflow, Taken}
use Rattle.alarm_spec.specs.Table.{take_answer}
use Rattle.lane_spec.specs.Command.{answers}
use Rattle.lane_spec.specs.Lane.{Lane, Waiting, lane_reply, reply_to, reply_by}
use Rattle.manager_spec.specs.Manager.{Manager, Sending, lane_in, with_lane, packets_of}
use Rattle.manager_spec.specs.Audit.{alarm_as, alarm_came}
use Rattle.manager_spec.specs.Steps.{not_taken, take_if, frame_came}

untaken_lane : (f : Frame) (l : Lane) → (lane_reply f l).taken ≡ false → (lane_reply f l).lane ≡ l
unfolding lane_reply
untaken_lane f l e = from l.outstanding e
  where
    by : (b : Bool) (w : Waiting) → (reply_by b w l).taken ≡ false → (reply_by b w l).lane ≡ l
    by true w e = absurd (cc)
    by false w e = refl

    from : (o : Option Waiting) → (reply_to o f l).taken ≡ false → (reply_to o f l).lane ≡ l
    from None e = refl
    from (Some w) e = by (answers w.tci w.command f) w e

same_lane : (p : Priority) (m : Manager) → with_lane p (lane_in p m) m ≡ m
same_lane Low m = refl
same_lane High m = refl

pub untaken : (p : Priority) (f : Frame) (m : Manager)
    → (lane_reply f (lane_in p m)).taken ≡ false
    → with_lane p (lane_reply f (lane_in p m)).lane m ≡ m
untaken p f m e = ap (λ l. with_lane p l m) (untaken_lane f (lane_in p m) e) ∙ same_lane p m

-- what is not taken sends nothing

unanswered_alarm : (answer : TakenAlarm) (one : EntityId) (bitmap : List ℕ) (number : ℕ)
    (m : Manager)
    → (alarm_as answer one bitmap number m).sendings ≡ []
unanswered_alarm Unaudited one bitmap number m = refl
unanswered_alarm Repeat one bitmap number m = refl
unanswered_alarm (Gap want have) one bitmap number m = refl
unanswered_alarm Overflow one bitmap number m = refl
unanswered_alarm Taken one bitmap number m = refl

unanswered_message : (r : Result Message ContentsFault) (f : Frame) (m : Manager)
    → (not_taken r f m).sendings ≡ []
unfolding alarm_came
unanswered_message (Ok (Told tci one (notices.Alarm bitmap number))) f m =
    unanswered_alarm (take_answer number m.table) one bitmap number _
unanswered_message (Ok (Told tci one (notices.Change mask values))) f m = refl
unanswered_message (Ok (Asked tci one r)) f m = refl
unanswered_message (Ok (Answered tci one r)) f m = refl
unanswered_message (Err fault) f m = refl

unanswered : (p : Priority) (f : Frame) (m : Manager)
    → (lane_reply f (lane_in p m)).taken ≡ false
    → (frame_came p f m).sendings ≡ []
unanswered p f m e =
    ap (λ b. (take_if b (lane_in p m).outstanding p f m).sendings) e
    ∙ unanswered_message (message_of f) f m

pub sent_for_nothing : (p : Priority) (f : Frame) (m : Manager) (out : List (List ℕ))
    → (lane_reply f (lane_in p m)).taken ≡ false
    → out ≡ out ++ packets_of (frame_came p f m).sendings
sent_for_nothing p f m out e =
    sym (ap (λ (s : List Sending). out ++ packets_of s) (unanswered p f m e) ∙ append-nil out)
