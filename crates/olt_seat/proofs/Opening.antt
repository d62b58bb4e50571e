-- What stands before a turn, and what the link gives in it.
use Rattle.std.proofs.Common.{◌≡◌, ℕ, ◌+◌, ◌<◌, ◌≤◌, true, false, nat_le, List, [], ◌∷◌, length, drop, zero, suc, Option, Some, slice_get, refl, sym, ◌∙◌, ap, subst, append-nil, arith}
use Rattle.std.proofs.lemmas.Bool.Decides.{nat_tests}
use Rattle.script_spec.specs.Script.{Action}
use Rattle.world_spec.specs.Happenings.{next_after_all}
use Rattle.world_spec.specs.Ends.{Ends, Step}
use Rattle.world_spec.specs.Trace.{lines_text}
use Rattle.turn_spec.specs.OltTurns.{OltState, OltRun, Gives, opening_by, opening_idle, opening, turned, led, broken_off, after_step, ordered, is_idle, packets_in}
use Rattle.olt_seat.specs.Seat.{Seat, seat_ends, state_of, SendsFront, Plays, Opens, StaysOver, opening_packets}
use Rattle.olt_seat.proofs.Playing.{nothing_added}

-- ---- tests

all_taken : (turns turn : ℕ) → turns ≤ turn → nat_le turns turn ≡ true
all_taken turns turn le = grind (arith, nat_tests, le)

not_all : (turns turn : ℕ) → turn < turns → nat_le turns turn ≡ false
not_all turns turn lt = grind (arith, nat_tests, lt)

none_left : (actions : List Action) (given : ℕ) → length actions ≤ given → drop given actions ≡ []
none_left [] zero le = refl
none_left [] (suc given) le = refl
none_left (a ∷ rest) zero le = absurd (omega arith)
none_left (a ∷ rest) (suc given) le = none_left rest given (omega arith)

next_left : (actions : List Action) (given : ℕ) (a : Action) → slice_get actions given ≡ Some a → drop given actions ≡ a ∷ drop (given + 1) actions
next_left [] given a e = absurd (cc)
next_left (x ∷ rest) zero a e = let same : x ≡ a = cc in ap (λ y. y ∷ rest) same
next_left (x ∷ rest) (suc given) a e =
    let next : suc (given + 1) ≡ suc given + 1 = omega arith in
    next_left rest given a e ∙ ap (λ k. a ∷ drop k (x ∷ rest)) next

-- ---- the run is over

pub led_none : (r : OltRun) → r ≡ led [] [] r
led_none r = refl

-- as many turns as there may be were taken
pub over_taken : (actions : List Action) (turns : ℕ) (v w : Seat) (text : List ℕ) (a b : Option (List (List ℕ))) → v ≡ w → turns ≤ v.turn → b ≡ a
    → StaysOver turns (state_of actions w) (state_of actions w) text text a b
over_taken actions turns v w text a b seen le sent =
    subst (λ (x : Seat). StaysOver turns (state_of actions x) (state_of actions x) text text a b) seen
    (record {
      over = ap (λ t. opening_by t (is_idle v.manager) (drop v.given actions)) (all_taken turns v.turn le);
      kept = refl;
      lines = refl;
      sent = sent;
    })

-- the manager waits for nothing, and no order is left
pub over_idle : (actions : List Action) (turns : ℕ) (v w : Seat) (text : List ℕ) (a b : Option (List (List ℕ))) → v ≡ w
    → v.turn < turns → is_idle v.manager ≡ true → length actions ≤ v.given → b ≡ a
    → StaysOver turns (state_of actions w) (state_of actions w) text text a b
over_idle actions turns v w text a b seen lt idle none sent =
    subst (λ (x : Seat). StaysOver turns (state_of actions x) (state_of actions x) text text a b) seen
    (record {
      over =
          ap (λ t. opening_by t (is_idle v.manager) (drop v.given actions)) (not_all turns v.turn lt)
          ∙ ap (λ i. opening_by false i (drop v.given actions)) idle
          ∙ ap (λ left. opening_idle left) (none_left actions v.given none);
      kept = refl;
      lines = refl;
      sent = sent;
    })

-- ---- the turn is begun

-- the manager still waits
pub opens_waits : (actions : List Action) (turns : ℕ) (v w new : Seat) (text : List ℕ) (a b : Option (List (List ℕ))) → v ≡ w
    → v.turn < turns → is_idle v.manager ≡ false → new ≡ record v { turn = v.turn + 1 } → b ≡ a
    → Opens turns (state_of actions w) (state_of actions new) text text a b
opens_waits actions turns v w new text a b seen lt busy new_is sent =
    subst (λ (x : Seat). Opens turns (state_of actions x) (state_of actions new) text text a b) seen
    (record {
      packets = [];
      text = [];
      sent = sent ∙ nothing_added a;
      lines = sym (append-nil text);
      rest = λ listens.
          ap (λ o. turned o listens (state_of actions v))
          (ap (λ t. opening_by t (is_idle v.manager) (drop v.given actions)) (not_all turns v.turn lt)
          ∙ ap (λ i. opening_by false i (drop v.given actions)) busy)
          ∙ ap (λ (x : Seat). listens (state_of actions x)) (sym new_is)
          ∙ led_none (listens (state_of actions new));
    })

-- what stands before a turn in which an order is given
opening_gives : (actions : List Action) (turns : ℕ) (w : Seat) (order : Action) → w.turn < turns → is_idle w.manager ≡ true → slice_get actions w.given ≡ Some order
    → opening turns (state_of actions w) ≡ Gives order (drop (w.given + 1) actions)
opening_gives actions turns w order lt idle here =
    ap (λ t. opening_by t (is_idle w.manager) (drop w.given actions)) (not_all turns w.turn lt)
    ∙ ap (λ i. opening_by false i (drop w.given actions)) idle
    ∙ ap (λ left. opening_idle left) (next_left actions w.given order here)

-- the seat of a turn that is begun and whose order counts as given
abbrev pub begun : Seat → Seat
begun w = record { manager = w.manager; turn = w.turn + 1; sent = w.sent; given = w.given + 1 }

-- the state after a step that was played
pub state_after : (actions : List Action) (step : Step) (v new : Seat) (before after : List ℕ) (a b : Option (List (List ℕ))) → Plays step v new before after a b
    → after_step step (drop v.given actions) (state_of actions v) ≡ state_of actions new
state_after actions step v new before after a b p =
    ap (λ (e : Ends). record { ends = e; sent = next_after_all step.happenings v.sent; orders = drop v.given actions }) (sym p.ends)
    ∙ ap (λ n. record { ends = seat_ends new; sent = n; orders = drop v.given actions }) (sym p.count)
    ∙ ap (λ k. record { ends = seat_ends new; sent = new.sent; orders = drop k actions }) (sym p.given)

-- an order is given
pub opens_gives : (actions : List Action) (turns : ℕ) (v w new : Seat) (order : Action) (before after : List ℕ) (a b : Option (List (List ℕ)))
    → v ≡ w → v.turn < turns → is_idle v.manager ≡ true → slice_get actions v.given ≡ Some order
    → Plays (ordered order (seat_ends (begun v))) (begun v) new before after a b
    → Opens turns (state_of actions w) (state_of actions new) before after a b
opens_gives actions turns v w new order before after a b seen lt idle here p =
    let step = ordered order (seat_ends (begun v)) in
    let packets = packets_in step.happenings in
    let text = lines_text (v.turn + 1) v.sent step.happenings in
    subst (λ (x : Seat). Opens turns (state_of actions x) (state_of actions new) before after a b) seen
    (record {
      packets = packets;
      text = text;
      sent = p.packets;
      lines = p.text;
      rest = λ listens.
          ap (λ o. turned o listens (state_of actions v)) (opening_gives actions turns v order lt idle here)
          ∙ ap (λ (x : OltState). led packets text (listens x))
          (state_after actions step (begun v) new before after a b p);
    })

-- where a fault breaks that off
pub opens_part : (actions : List Action) (turns : ℕ) (v w : Seat) (order : Action) (a b : Option (List (List ℕ)))
    → v ≡ w → v.turn < turns → is_idle v.manager ≡ true → slice_get actions v.given ≡ Some order
    → SendsFront (packets_in (ordered order (seat_ends (begun v))).happenings) a b
    → SendsFront (opening_packets turns (state_of actions w)) a b
opens_part actions turns v w order a b seen lt idle here part =
    let step = ordered order (seat_ends (begun v)) in
    subst (λ (x : Seat). SendsFront (opening_packets turns (state_of actions x)) a b) seen
    (subst (λ ps. SendsFront ps a b)
    (sym (append-nil (packets_in step.happenings))
    ∙ ap (λ o. (turned o (λ listening. broken_off) (state_of actions v)).packets) (sym (opening_gives actions turns v order lt idle here)))
    part)
