-- A request's TCI differs from that of the request before it.
use Rattle.std.proofs.Common.{◌≡◌, ℕ, zero, suc, ◌≤◌, true, false, List, []}
use Rattle.std.proofs.Common.{◌∷◌, Some, None, refl, ap, ◌∙◌, arith}
use Rattle.std.specs.Prelude.{if◌then◌else◌, ◌==◌, ◌&&◌, is_some}
use Rattle.std.proofs.lemmas.Grind.{common_steps}
use Rattle.omci_types.specs.declared.Frame.{Frame}
use Rattle.omci_types.specs.declared.Priority.TheVariants.{Low, High}
use Rattle.tci_spec.specs.Tci.{is_low, priority_of, number_after}
use Rattle.meter_spec.specs.declared.Command.{Command}
use Rattle.meter_spec.specs.declared.Command.TheVariants.{Create, Delete, Get, GetCurrent}
use Rattle.meter_spec.specs.declared.Command.TheVariants.{SynchronizeTime}
use Rattle.meter_spec.specs.Events.{History, Asked, Grown, command_of, last_tci, is_tci}
use Rattle.meter_spec.specs.Events.{is_repeat, carried}
use Rattle.meter_spec.specs.Replies.{reply_to}
use Rattle.meter_spec.specs.Meter.{monitor_of, kept, answer, answer_by, with_ticks}
use Rattle.meter_lines_spec.specs.declared.MeterLine.{MeterLine}
use Rattle.meter_lines_spec.specs.declared.MeterLine.TheVariants as lines
use Rattle.meter_lines_spec.specs.Replies.{request, after, tci_after}
use Rattle.meter_laws.specs.Carried.{IsCarriedOut, IsRun, AreCarriedOut}

-- the next request of the low priority has a number that the last one hadn't
pub record IsFresh (tci : ℕ) (h : History) : Type 0 where
  pub low : is_low tci ≡ true
  pub most : tci ≤ 32767
  pub other : is_tci tci (last_tci Low h) ≡ false

command_is : (tci : ℕ) (command : Command) (i m : ℕ)
    → command_of (request tci command i m) ≡ Some command
unfolding command_of request
command_is tci Create i m = refl
command_is tci Delete i m = refl
command_is tci Get i m = refl
command_is tci GetCurrent i m = refl
command_is tci SynchronizeTime i m = refl

tci_is : (tci : ℕ) (command : Command) (i m : ℕ) → (request tci command i m).tci ≡ tci
unfolding request
tci_is tci command i m = refl

instance_is : (tci : ℕ) (command : Command) (i m : ℕ)
    → (request tci command i m).entity.instance ≡ i
unfolding request
instance_is tci command i m = refl

no_repeat_of : (f : Frame) (h : History) → is_low f.tci ≡ true
    → is_tci f.tci (last_tci Low h) ≡ false → is_repeat f h ≡ false
unfolding is_repeat
no_repeat_of f h low other =
    ap (λ b. is_tci f.tci (last_tci (if b then Low else High) h)) low ∙ other

no_repeat : (tci : ℕ) (command : Command) (i m : ℕ) (h : History) → IsFresh tci h
    → is_repeat (request tci command i m) h ≡ false
no_repeat tci command i m h fresh =
    no_repeat_of (request tci command i m) h
    (ap is_low (tci_is tci command i m) ∙ fresh.low)
    (ap (λ t. is_tci t (last_tci Low h)) (tci_is tci command i m) ∙ fresh.other)

carried_of : (f : Frame) (command : Command) (h : History) → is_repeat f h ≡ false
    → command_of f ≡ Some command → carried f h ≡ Some command
unfolding carried
carried_of f command h new asks =
    ap (λ b. if b then None else command_of f) new ∙ asks

answer_of : (f : Frame) (command : Command) (i : ℕ) (h : History) → is_repeat f h ≡ false
    → command_of f ≡ Some command → f.entity.instance ≡ i
    → answer f h ≡ Some (reply_to command f (monitor_of i h))
unfolding answer
answer_of f command i h new asks names =
    ap (λ c. answer_by c (is_repeat f h) (kept (priority_of f.tci) h) f
    (monitor_of f.entity.instance h)) asks
    ∙ ap (λ b. answer_by (Some command) b (kept (priority_of f.tci) h) f
    (monitor_of f.entity.instance h)) new
    ∙ ap (λ j. Some (reply_to command f (monitor_of j h))) names

is_carried : (tci : ℕ) (command : Command) (i m : ℕ) (h : History) → IsFresh tci h
    → IsCarriedOut tci command i m h
is_carried tci command i m h fresh = record {
  now =
      carried_of (request tci command i m) command h (no_repeat tci command i m h fresh)
      (command_is tci command i m);
  reply =
      answer_of (request tci command i m) command i h (no_repeat tci command i m h fresh)
      (command_is tci command i m) (instance_is tci command i m);
}

-- ---- the events of a line

last_of : (f : Frame) (command : Command) (h : History) → is_low f.tci ≡ true
    → command_of f ≡ Some command → last_tci Low (Asked f ∷ h) ≡ Some f.tci
unfolding last_tci
last_of f command h low asks =
    ap (λ c. if is_some c && is_low f.tci then Some f.tci else last_tci Low h) asks
    ∙ ap (λ b. if b then Some f.tci else last_tci Low h) low

last_counted : (i a n : ℕ) (h : History) → last_tci Low (Grown i a n ∷ h) ≡ last_tci Low h
unfolding last_tci
last_counted i a n h = refl

last_passed : (n : ℕ) (h : History) → last_tci Low (with_ticks n h) ≡ last_tci Low h
unfolding last_tci with_ticks
last_passed zero h = refl
last_passed (suc n) h = last_passed n h

low_is : (tci : ℕ) → tci ≤ 32767 → is_low tci ≡ true
low_is tci le = grind (arith, common_steps, le)

next_most : (tci : ℕ) → tci ≤ 32767 → number_after tci ≤ 32767
next_most tci le = grind (arith, common_steps, le)

next_other : (tci : ℕ) → tci ≤ 32767 → (tci == number_after tci) ≡ false
next_other tci le = grind (arith, common_steps, le)

same_fresh : (tci : ℕ) (h later : History) → last_tci Low later ≡ last_tci Low h → IsFresh tci h
    → IsFresh tci later
same_fresh tci h later same fresh = record {
  low = fresh.low;
  most = fresh.most;
  other = ap (is_tci tci) same ∙ fresh.other;
}

stays_fresh : (tci : ℕ) (line : MeterLine) (h : History) → IsFresh tci h
    → IsFresh (tci_after tci line) (after tci line h)
stays_fresh tci (lines.Request command i m) h fresh =
    let last : last_tci Low (Asked (request tci command i m) ∷ h) ≡ Some tci =
    last_of (request tci command i m) command h
    (ap is_low (tci_is tci command i m) ∙ fresh.low) (command_is tci command i m)
    ∙ ap (λ (t : ℕ). Some t) (tci_is tci command i m) in
    record {
      low = low_is (number_after tci) (next_most tci fresh.most);
      most = next_most tci fresh.most;
      other = ap (is_tci (number_after tci)) last ∙ next_other tci fresh.most;
    }
stays_fresh tci (lines.Count i a n) h fresh =
    same_fresh tci h (Grown i a n ∷ h) (last_counted i a n h) fresh
stays_fresh tci (lines.Pass ticks) h fresh =
    same_fresh tci h (with_ticks ticks h) (last_passed ticks h) fresh

is_run : (tci : ℕ) (line : MeterLine) (h : History) → IsFresh tci h → IsRun tci line h
is_run tci (lines.Request command i m) h fresh = is_carried tci command i m h fresh
is_run tci (lines.Count i a n) h fresh = tt
is_run tci (lines.Pass ticks) h fresh = tt

pub all_carried : (tci : ℕ) (later : List MeterLine) (h : History) → IsFresh tci h
    → AreCarriedOut tci later h
unfolding AreCarriedOut
all_carried tci [] h fresh = tt
all_carried tci (line ∷ later) h fresh = (
  is_run tci line h fresh,
  all_carried (tci_after tci line) later (after tci line h) (stays_fresh tci line h fresh),
)

pub first_fresh : IsFresh 1 []
unfolding last_tci
first_fresh = record { low = refl; most = omega arith; other = refl }
