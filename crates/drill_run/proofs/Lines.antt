-- The lines of the drill: each is one that a script may have, and they are few.
use Rattle.std.proofs.Common.{◌≡◌, ◌+◌, ◌*◌, ◌/◌, ◌%◌, ◌≤◌, ◌<◌, ◌==◌, ℕ, zero, suc, Bool, true, false, if◌then◌else◌, List, [], ◌∷◌, ◌++◌, length, refl, sym, ◌∙◌, ap, arith}
use Rattle.std.specs.List.{All}
use Rattle.std.proofs.lemmas.List.{length-append}
use Rattle.std.proofs.lemmas.List.Elements.{All-nil, All-cons, All-append}
use Rattle.omci_types.specs.declared.Priority.TheVariants.{Low, High}
use Rattle.script_spec.specs.Fields.{AreBytes, IsBytes}
use Rattle.script_spec.specs.Script.{Action, IsAction, Create, Set, Delete, Get, Flow, Tick, Alarm, Audit, Resync, CutUnit, StartUnit, IsHeader}
use Rattle.drill_spec.specs.declared.StepKind.{StepKind}
use Rattle.drill_spec.specs.declared.StepKind.TheVariants as kind
use Rattle.drill_spec.specs.declared.TheConstants.{STEPS, FLOW_BOTH, FLOW_ONE, FLOW_AUDIT, FLOW_RESYNC, FIRST_FLOW, STEPS_TO_A_CUT, FIRST_ATTRIBUTE}
use Rattle.drill_spec.specs.Drill.{state_after, drawn, kind_of, profile, port, high_byte, both_bytes, lines_of_kind, step_lines, cut_lines, lines_after, first_lines, lines_until, drill_header, state_before}

abbrev NoByteMore : ℕ → Type 0
NoByteMore b = b < 256

one_byte : (a : ℕ) → a < 256 → IsBytes (a ∷ [])
one_byte a lt = All-cons NoByteMore a [] lt (All-nil NoByteMore)

two_bytes : (a b : ℕ) → a < 256 → b < 256 → IsBytes (a ∷ b ∷ [])
two_bytes a b lt gt = All-cons NoByteMore a (b ∷ []) lt (one_byte b gt)

-- ---- numbers within their bounds

pub at_least_none : (n : ℕ) → 0 ≤ n
at_least_none n = omega arith

class_few : 272 ≤ 65535
class_few = omega arith

port_class_few : 11 ≤ 65535
port_class_few = omega arith

port_few : 257 ≤ 65535
port_few = omega arith

mask_few : 32768 ≤ 65535
mask_few = omega arith

instance_few : (draw : ℕ) → draw % 512 ≤ 65535
instance_few draw = omega arith

high_few : (draw : ℕ) → draw < 65536 → draw / 256 < 256
high_few draw lt = omega (arith, lt)

low_few : (draw : ℕ) → draw % 256 < 256
low_few draw = omega arith

one_of_room : 1 ≤ 4096
one_of_room = omega arith

one_of_bitmap : 1 ≤ 28
one_of_bitmap = omega arith

two_of_create : 2 ≤ 32
two_of_create = omega arith

two_of_set : 2 ≤ 30
two_of_set = omega arith

some_room : 1 ≤ 4096
some_room = omega arith

most_room : 4096 ≤ 1048576
most_room = omega arith

one_is_some : 1 ≤ 1
one_is_some = omega arith

one_is_low : 1 ≤ 32767
one_is_low = omega arith

-- the drill's header is one
pub header_fits : IsHeader drill_header
header_fits = record {
  room_some = some_room;
  room_most = most_room;
  low_some = one_is_some;
  low_most = one_is_low;
  high_some = one_is_some;
  high_most = one_is_low;
  factory_some = one_is_some;
  factory_fits = record { few = one_of_room; bytes = one_byte 255 (omega arith) };
}

-- ---- ranges

flow_fits : (times : ℕ) → 1 ≤ times → times ≤ 65536 → IsAction (Flow times)
flow_fits times some few = ((some, few), tt)

flow_one : IsAction (Flow FLOW_ONE)
flow_one = flow_fits 1 (omega arith) (omega arith)

flow_both : IsAction (Flow FLOW_BOTH)
flow_both = flow_fits 2 (omega arith) (omega arith)

flow_audit : IsAction (Flow FLOW_AUDIT)
flow_audit = flow_fits 20 (omega arith) (omega arith)

flow_resync : IsAction (Flow FLOW_RESYNC)
flow_resync = flow_fits 2000 (omega arith) (omega arith)

flow_first : IsAction (Flow FIRST_FLOW)
flow_first = flow_fits 100 (omega arith) (omega arith)

create_fits : (draw : ℕ) → draw < 65536 → IsAction (Create Low (profile draw) (both_bytes draw))
create_fits draw lt = (
  tt,
  (
    (at_least_none 272, class_few),
    (
      (at_least_none (draw % 512), instance_few draw),
      ((at_least_none 2, record { few = two_of_create; bytes = two_bytes (draw / 256) (draw % 256) (high_few draw lt) (low_few draw) }), tt),
    ),
  ),
)

set_fits : (draw : ℕ) → draw < 65536 → IsAction (Set Low (profile draw) FIRST_ATTRIBUTE (both_bytes draw))
set_fits draw lt = (
  tt,
  (
    (at_least_none 272, class_few),
    (
      (at_least_none (draw % 512), instance_few draw),
      (
        mask_few,
        ((at_least_none 2, record { few = two_of_set; bytes = two_bytes (draw / 256) (draw % 256) (high_few draw lt) (low_few draw) }), tt),
      ),
    ),
  ),
)

delete_fits : (draw : ℕ) → IsAction (Delete Low (profile draw))
delete_fits draw =
    (tt, ((at_least_none 272, class_few), ((at_least_none (draw % 512), instance_few draw), tt)))

get_fits : (draw : ℕ) → IsAction (Get High (profile draw) FIRST_ATTRIBUTE)
get_fits draw =
    (tt, ((at_least_none 272, class_few), ((at_least_none (draw % 512), instance_few draw), (mask_few, tt))))

alarm_fits : (draw : ℕ) → draw < 65536 → IsAction (Alarm port (high_byte draw))
alarm_fits draw lt = (
  (at_least_none 11, port_class_few),
  (
    (at_least_none 257, port_few),
    ((at_least_none 1, record { few = one_of_bitmap; bytes = one_byte (draw / 256) (high_few draw lt) }), tt),
  ),
)

two_fit : (a b : Action) → IsAction a → IsAction b → All IsAction (a ∷ b ∷ [])
two_fit a b x y = All-cons IsAction a (b ∷ []) x (All-cons IsAction b [] y (All-nil IsAction))

one_fits : (a : Action) → IsAction a → All IsAction (a ∷ [])
one_fits a x = All-cons IsAction a [] x (All-nil IsAction)

kind_fits : (k : StepKind) (draw : ℕ) → draw < 65536 → All IsAction (lines_of_kind k draw)
unfolding lines_of_kind
kind_fits kind.Create draw lt =
    two_fit (Create Low (profile draw) (both_bytes draw)) (Flow FLOW_BOTH) (create_fits draw lt) flow_both
kind_fits kind.Set draw lt =
    two_fit (Set Low (profile draw) FIRST_ATTRIBUTE (both_bytes draw)) (Flow FLOW_ONE) (set_fits draw lt) flow_one
kind_fits kind.Delete draw lt = two_fit (Delete Low (profile draw)) (Flow FLOW_BOTH) (delete_fits draw) flow_both
kind_fits kind.Get draw lt =
    two_fit (Get High (profile draw) FIRST_ATTRIBUTE) (Flow FLOW_BOTH) (get_fits draw) flow_both
kind_fits kind.Flow draw lt = one_fits (Flow FLOW_ONE) flow_one
kind_fits kind.Tick draw lt = one_fits Tick tt
kind_fits kind.Alarm draw lt = two_fit (Alarm port (high_byte draw)) (Flow FLOW_ONE) (alarm_fits draw lt) flow_one
kind_fits kind.Audit draw lt = two_fit Audit (Flow FLOW_AUDIT) tt flow_audit
kind_fits kind.Resync draw lt = two_fit Resync (Flow FLOW_RESYNC) tt flow_resync

drawn_few : (state : ℕ) → drawn (state_after state) < 65536
unfolding drawn state_after
drawn_few state = omega arith

pub step_fits : (state : ℕ) → All IsAction (step_lines state)
unfolding step_lines
step_fits state = kind_fits (kind_of (drawn (state_after state))) (drawn (state_after (state_after state))) (drawn_few (state_after state))

cut_fits : All IsAction cut_lines
cut_fits =
    All-cons IsAction CutUnit (StartUnit ∷ Resync ∷ Flow FLOW_RESYNC ∷ []) tt
    (All-cons IsAction StartUnit (Resync ∷ Flow FLOW_RESYNC ∷ []) tt
    (two_fit Resync (Flow FLOW_RESYNC) tt flow_resync))

either_fits : (t : Bool) → All IsAction (if t then cut_lines else [])
either_fits true = cut_fits
either_fits false = All-nil IsAction

pub after_fits : (steps : ℕ) → All IsAction (lines_after steps)
unfolding lines_after
after_fits steps = either_fits (steps % STEPS_TO_A_CUT == 0)

pub first_fit : All IsAction first_lines
first_fit = two_fit Resync (Flow FIRST_FLOW) tt flow_first

pub both_fit : (state steps : ℕ) → All IsAction (step_lines state ++ lines_after steps)
both_fit state steps = All-append IsAction (step_lines state) (lines_after steps) (step_fits state) (after_fits steps)

-- ---- numbers of lines

one_of_two : 1 ≤ 2
one_of_two = omega arith

two_of_two : 2 ≤ 2
two_of_two = omega arith

four_of_four : 4 ≤ 4
four_of_four = omega arith

kind_few : (k : StepKind) (draw : ℕ) → length (lines_of_kind k draw) ≤ 2
unfolding lines_of_kind
kind_few kind.Create draw = two_of_two
kind_few kind.Set draw = two_of_two
kind_few kind.Delete draw = two_of_two
kind_few kind.Get draw = two_of_two
kind_few kind.Flow draw = one_of_two
kind_few kind.Tick draw = one_of_two
kind_few kind.Alarm draw = two_of_two
kind_few kind.Audit draw = two_of_two
kind_few kind.Resync draw = two_of_two

either_few : (t : Bool) → length (if t then cut_lines else []) ≤ 4
either_few true = four_of_four
either_few false = at_least_none 4

after_few : (steps : ℕ) → length (lines_after steps) ≤ 4
unfolding lines_after
after_few steps = either_few (steps % STEPS_TO_A_CUT == 0)

step_few : (state : ℕ) → length (step_lines state) ≤ 2
unfolding step_lines
step_few state = kind_few (kind_of (drawn (state_after state))) (drawn (state_after (state_after state)))

-- at most six lines with a step
pub both_few : (state steps : ℕ) → length (step_lines state ++ lines_after steps) ≤ 6
both_few state steps =
    let lines = length-append (step_lines state) (lines_after steps) in
    let a = step_few state in
    let b = after_few steps in
    omega (arith, lines, a, b)

first_few : length first_lines ≤ 2 + 6 * 0
first_few = two_of_two

pub until_few : (number steps : ℕ) → length (lines_until number steps) ≤ 2 + 6 * steps
unfolding lines_until
until_few number zero = first_few
until_few number (suc steps) =
    let before = until_few number steps in
    let now = both_few (state_before number steps) (suc steps) in
    let joined : length (lines_until number (suc steps)) ≡ length (lines_until number steps) + length (step_lines (state_before number steps) ++ lines_after (suc steps)) = length-append (lines_until number steps) (step_lines (state_before number steps) ++ lines_after (suc steps)) in
    omega (arith, before, now, joined)
