-- What one turn and several come to.
use Rattle.std.proofs.Common.{◌≡◌, ℕ, ◌+◌, ◌-◌, ◌<◌, ◌≤◌, Bool, true, false, not, List, [], ◌∷◌, ◌++◌, length, drop, Option, refl, sym, ◌∙◌, ap, subst, append_assoc, append-nil, arith}
use Rattle.std.specs.Io.KnownBytes.{Appends}
use Rattle.omci_core.proofs.Streams.{Appends-none, Appends-then}
use Rattle.script_spec.specs.Script.{Action, Orders}
use Rattle.world_spec.specs.Trace.{lines_text}
use Rattle.turn_spec.specs.Arrivals.{Arrival, Came, Quiet, Closed}
use Rattle.turn_spec.specs.OltTurns.{OltState, OltRun, Over, opening, turned, led, at_end, broken_off, goes_on, after_step, after_arrival, heard, arrived, packets_in, left_text, olt_run_from, olt_run, olt_first}
use Rattle.omci_link.specs.Arrivals.{left_after}
use Rattle.whole_writes.specs.Writing.{WritesFront}
use Rattle.olt_seat.specs.Seat.{Seat, seat_ends, state_of, packets_after, SendsFront, TookAll, is_closed, Plays, Hears, HearsInPart, packets_heard, Opens, StaysOver, opening_packets}
use Rattle.olt_turns.specs.Running.{HasRun, HasRunInPart, rest_of, Ran, RanInPart}
use Rattle.olt_seat.proofs.Playing.{nothing_added, sends_nothing_of, packets_then, front_then, front_longer, front_all}
use Rattle.olt_seat.proofs.Opening.{led_none, state_after}

-- ---- what a run is made of

run_none : (turns : ℕ) (st : OltState) → olt_run_from turns [] st ≡ turned (opening turns st) (λ listening. broken_off) st
unfolding olt_run_from
run_none turns st = refl

run_one : (turns : ℕ) (arrival : Arrival) (later : List Arrival) (st : OltState)
    → olt_run_from turns (arrival ∷ later) st ≡ turned (opening turns st) (heard arrival (olt_run_from turns later)) st
unfolding olt_run_from
run_one turns arrival later st = refl

-- the rest of a run that is led by some and then by others
led_twice : (ps qs : List (List ℕ)) (t u : List ℕ) (r : OltRun) → led ps t (led qs u r) ≡ led (ps ++ qs) (t ++ u) r
led_twice ps qs t u r =
    ap (λ x. record { packets = x; text = t ++ (u ++ r.text); ended = r.ended }) (sym (append_assoc ps qs r.packets))
    ∙ ap (λ x. record { packets = (ps ++ qs) ++ r.packets; text = x; ended = r.ended }) (sym (append_assoc t u r.text))

-- ---- fronts of texts

pub writes_nothing : (text : List ℕ) (before : Option (List ℕ)) → WritesFront text before before
writes_nothing text before = ([], (text, refl), Appends-none before)

text_then : (t u : List ℕ) (a b c : Option (List ℕ)) → Appends a b t → WritesFront u b c → WritesFront (t ++ u) a c
text_then t u a b c first second = (
  t ++ second.0,
  (second.1.0, append_assoc t second.0 second.1.0 ∙ ap (λ z. t ++ z) second.1.1),
  Appends-then a b c t second.0 first second.2,
)

text_longer : (t u : List ℕ) (a b : Option (List ℕ)) → WritesFront t a b → WritesFront (t ++ u) a b
text_longer t u a b front = (
  front.0,
  (front.1.0 ++ u, sym (append_assoc front.0 front.1.0 u) ∙ ap (λ z. z ++ u) front.1.1),
  front.2,
)

-- ---- what was taken

pub took_then : (xs ys : List Arrival) (a b c : Option (List Arrival)) → TookAll xs a b → TookAll ys b c → TookAll (xs ++ ys) a c
took_then [] ys a b c first second = subst (λ l. TookAll ys l c) first second
took_then (x ∷ xs) ys a b c first second = (first.0, took_then xs ys (left_after a) b c first.1 second)

-- ---- several turns

-- no turn was taken yet
pub ran_begins : (turns : ℕ) (st now : OltState) (l l' : Option (List Arrival)) (a a' : Option (List (List ℕ))) (k : Option (List ℕ))
    → now ≡ st → l' ≡ l → a' ≡ a → Ran turns st now true l l' a a' k k
ran_begins turns st now l l' a a' k same left_is sent_is = record {
  taken = [];
  took = left_is;
  packets = [];
  sent = sent_is ∙ nothing_added a;
  text = [];
  written = Appends-none k;
  rest = λ more. ap (λ s. olt_run_from turns more s) (sym same) ∙ led_none (olt_run_from turns more now);
}

-- how many turns may still come
abbrev pub turns_left : (goes_on : Bool) → ℕ → ℕ
turns_left true n = n + 1
turns_left false n = 0

pub fewer_left : (goes_on was : Bool) (turns turn next : ℕ) → was ≡ true → (goes_on ≡ true → (next ≡ turn + 1) × (next ≤ turns))
    → turns_left goes_on (turns - next) < turns_left was (turns - turn)
fewer_left goes_on false turns turn next is grows = absurd (cc)
fewer_left true true turns turn next is grows = let more = grows refl in omega (arith, more.0, more.1)
fewer_left false true turns turn next is grows = omega arith

-- some turns and then others
pub ran_then : (turns : ℕ) (st mid now : OltState) (was goes_on : Bool) (l l' l'' : Option (List Arrival)) (a a' a'' : Option (List (List ℕ))) (k k' k'' : Option (List ℕ))
    → was ≡ true → Ran turns st mid was l l' a a' k k' → Ran turns mid now goes_on l' l'' a' a'' k' k'' → Ran turns st now goes_on l l'' a a'' k k''
ran_then turns st mid now was goes_on l l' l'' a a' a'' k k' k'' is first second = record {
  taken = first.taken ++ second.taken;
  took = took_then first.taken second.taken l l' l'' first.took second.took;
  packets = first.packets ++ second.packets;
  sent = packets_then first.packets second.packets a a' a'' first.sent second.sent;
  text = first.text ++ second.text;
  written = Appends-then k k' k'' first.text second.text first.written second.written;
  rest = λ more.
      ap (λ xs. olt_run_from turns xs st) (append_assoc first.taken second.taken more)
      ∙ first.rest (second.taken ++ more)
      ∙ ap (λ g. led first.packets first.text (rest_of g turns (second.taken ++ more) mid)) is
      ∙ ap (λ r. led first.packets first.text r) (second.rest more)
      ∙ led_twice first.packets second.packets first.text second.text (rest_of goes_on turns more now);
}

-- and a part of others
pub ran_in_part : (turns : ℕ) (st mid : OltState) (was : Bool) (l l' l'' : Option (List Arrival)) (a a' a'' : Option (List (List ℕ))) (k k' k'' : Option (List ℕ))
    → was ≡ true → Ran turns st mid was l l' a a' k k' → RanInPart turns mid l' l'' a' a'' k' k'' → RanInPart turns st l l'' a a'' k k''
ran_in_part turns st mid was l l' l'' a a' a'' k k' k'' is first second =
    let whole = first.rest second.taken
    ∙ ap (λ g. led first.packets first.text (rest_of g turns second.taken mid)) is in
    record {
      taken = first.taken ++ second.taken;
      took = took_then first.taken second.taken l l' l'' first.took second.took;
      sent = subst (λ ps. SendsFront ps a a'') (sym (ap (λ (r : OltRun). r.packets) whole))
          (front_then first.packets (olt_run_from turns second.taken mid).packets a a' a'' first.sent second.sent);
      written = subst (λ t. WritesFront t k k'') (sym (ap (λ (r : OltRun). r.text) whole))
          (text_then first.text (olt_run_from turns second.taken mid).text k k' k'' first.written second.written);
    }

-- ---- one turn

over_by : (turns : ℕ) (st : OltState) (more : List Arrival) → opening turns st ≡ Over → olt_run_from turns more st ≡ at_end st
over_by turns st [] over = run_none turns st ∙ ap (λ o. turned o (λ listening. broken_off) st) over
over_by turns st (arrival ∷ later) over =
    run_one turns arrival later st ∙ ap (λ o. turned o (heard arrival (olt_run_from turns later)) st) over

-- the run is over before it
pub turn_over : (turns : ℕ) (st now : OltState) (before after : List ℕ) (l l' : Option (List Arrival)) (a a' : Option (List (List ℕ))) (k : Option (List ℕ))
    → StaysOver turns st now before after a a' → l' ≡ l → Ran turns st now false l l' a a' k k
turn_over turns st now before after l l' a a' k over left_is = record {
  taken = [];
  took = left_is;
  packets = [];
  sent = over.sent ∙ nothing_added a;
  text = [];
  written = Appends-none k;
  rest = λ more. over_by turns st more over.over ∙ ap (λ s. led [] [] (at_end s)) (sym over.kept);
}

-- a fault breaks it off in what stands before it
pub opening_part : (turns : ℕ) (st : OltState) (l l' : Option (List Arrival)) (a a' : Option (List (List ℕ))) (k : Option (List ℕ))
    → SendsFront (opening_packets turns st) a a' → l' ≡ l → RanInPart turns st l l' a a' k k
opening_part turns st l l' a a' k part left_is = record {
  taken = [];
  took = left_is;
  sent = subst (λ (r : OltRun). SendsFront r.packets a a') (sym (run_none turns st)) part;
  written = writes_nothing (olt_run_from turns [] st).text k;
}

-- the turn's arrival and what follows it, where the seat is at that state
heard_is : (actions : List Action) (arrival : Arrival) (v new : Seat) (before after : List ℕ) (a b : Option (List (List ℕ))) (rest : OltState → OltRun)
    → Plays (arrived arrival (seat_ends v)) v new before after a b
    → heard arrival rest (state_of actions v)
    ≡ led (packets_in (arrived arrival (seat_ends v)).happenings) (lines_text v.turn v.sent (arrived arrival (seat_ends v)).happenings)
    (after_arrival arrival rest (state_of actions new))
heard_is actions arrival v new before after a b rest p =
    let step = arrived arrival (seat_ends v) in
    ap (λ (s : OltState). led (packets_in step.happenings) (lines_text v.turn v.sent step.happenings) (after_arrival arrival rest s))
    (state_after actions step v new before after a b p)

-- after the link's end the last line comes, and else more turns
after_is : (arrival : Arrival) (goes_on : Bool) (turns : ℕ) (more : List Arrival) (s : OltState) → goes_on ≡ not (is_closed arrival)
    → after_arrival arrival (olt_run_from turns more) s ≡ rest_of goes_on turns more s
after_is (Came bytes) goes_on turns more s is = ap (λ g. rest_of g turns more s) (sym is)
after_is Quiet goes_on turns more s is = ap (λ g. rest_of g turns more s) (sym is)
after_is Closed goes_on turns more s is = ap (λ g. rest_of g turns more s) (sym is)

-- the whole run from a turn on whose order was given and whose arrival was handed over
turn_is : (actions : List Action) (turns : ℕ) (w v new : Seat) (lines lines' lines'' : List ℕ) (a a' a'' : Option (List (List ℕ))) (arrival : Arrival) (later : List Arrival)
    → (opens : Opens turns (state_of actions w) (state_of actions v) lines lines' a a')
    → Plays (arrived arrival (seat_ends v)) v new lines' lines'' a' a''
    → olt_run_from turns (arrival ∷ later) (state_of actions w)
    ≡ led (opens.packets ++ packets_in (arrived arrival (seat_ends v)).happenings)
    (opens.text ++ lines_text v.turn v.sent (arrived arrival (seat_ends v)).happenings)
    (after_arrival arrival (olt_run_from turns later) (state_of actions new))
turn_is actions turns w v new lines lines' lines'' a a' a'' arrival later opens plays =
    let step = arrived arrival (seat_ends v) in
    let rest = olt_run_from turns later in
    run_one turns arrival later (state_of actions w)
    ∙ opens.rest (heard arrival rest)
    ∙ ap (λ r. led opens.packets opens.text r) (heard_is actions arrival v new lines' lines'' a' a'' rest plays)
    ∙ led_twice opens.packets (packets_in step.happenings) opens.text (lines_text v.turn v.sent step.happenings)
    (after_arrival arrival rest (state_of actions new))

-- the lines of a turn, of which there were none before it
turn_lines : (lines lines' lines'' t u : List ℕ) → lines ≡ [] → lines' ≡ lines ++ t → lines'' ≡ lines' ++ u → lines'' ≡ t ++ u
turn_lines lines lines' lines'' t u none first second =
    second ∙ ap (λ z. z ++ u) first ∙ ap (λ z. (z ++ t) ++ u) none

-- a whole turn, whose lines are written at its end
pub turn_ran : (actions : List Action) (turns : ℕ) (w v new : Seat) (lines lines' lines'' : List ℕ) (l l' : Option (List Arrival)) (a a' a'' : Option (List (List ℕ))) (k k' : Option (List ℕ)) (closed goes_on : Bool)
    → lines ≡ [] → Opens turns (state_of actions w) (state_of actions v) lines lines' a a'
    → Hears v new lines' lines'' l l' a' a'' closed → goes_on ≡ not closed → Appends k k' lines''
    → Ran turns (state_of actions w) (state_of actions new) goes_on l l' a a'' k k'
turn_ran actions turns w v new lines lines' lines'' l l' a a' a'' k k' closed goes_on none opens hears more_is added =
    let step = arrived hears.arrival (seat_ends v) in
    let packets = packets_in step.happenings in
    let text = lines_text v.turn v.sent step.happenings in
    record {
      taken = hears.arrival ∷ [];
      took = (hears.first, hears.left);
      packets = opens.packets ++ packets;
      sent = packets_then opens.packets packets a a' a'' opens.sent hears.plays.packets;
      text = opens.text ++ text;
      written = subst (λ t. Appends k k' t) (turn_lines lines lines' lines'' opens.text text none opens.lines hears.plays.text) added;
      rest = λ more.
          turn_is actions turns w v new lines lines' lines'' a a' a'' hears.arrival more opens hears.plays
          ∙ ap (λ r. led (opens.packets ++ packets) (opens.text ++ text) r)
          (after_is hears.arrival goes_on turns more (state_of actions new) (more_is ∙ ap (λ c. not c) hears.closed_is));
    }

-- its lines weren't all written
pub turn_unwritten : (actions : List Action) (turns : ℕ) (w v new : Seat) (lines lines' lines'' : List ℕ) (l l' : Option (List Arrival)) (a a' a'' : Option (List (List ℕ))) (k k' : Option (List ℕ)) (closed : Bool)
    → lines ≡ [] → Opens turns (state_of actions w) (state_of actions v) lines lines' a a'
    → Hears v new lines' lines'' l l' a' a'' closed → WritesFront lines'' k k'
    → RanInPart turns (state_of actions w) l l' a a'' k k'
turn_unwritten actions turns w v new lines lines' lines'' l l' a a' a'' k k' closed none opens hears front =
    let step = arrived hears.arrival (seat_ends v) in
    let packets = packets_in step.happenings in
    let text = lines_text v.turn v.sent step.happenings in
    let rest = after_arrival hears.arrival (olt_run_from turns []) (state_of actions new) in
    let whole = turn_is actions turns w v new lines lines' lines'' a a' a'' hears.arrival [] opens hears.plays in
    record {
      taken = hears.arrival ∷ [];
      took = (hears.first, hears.left);
      sent = subst (λ (r : OltRun). SendsFront r.packets a a'') (sym whole)
          (front_longer (opens.packets ++ packets) rest.packets a a''
          (front_all (opens.packets ++ packets) a a'' (packets_then opens.packets packets a a' a'' opens.sent hears.plays.packets)));
      written = subst (λ (r : OltRun). WritesFront r.text k k') (sym whole)
          (text_longer (opens.text ++ text) rest.text k k'
          (subst (λ t. WritesFront t k k') (turn_lines lines lines' lines'' opens.text text none opens.lines hears.plays.text) front));
    }

-- a fault breaks off what comes after the order
pub turn_part : (actions : List Action) (turns : ℕ) (w v : Seat) (lines lines' : List ℕ) (l l' : Option (List Arrival)) (a a' a'' : Option (List (List ℕ))) (k : Option (List ℕ))
    → Opens turns (state_of actions w) (state_of actions v) lines lines' a a' → HearsInPart v l l' a' a''
    → RanInPart turns (state_of actions w) l l' a a'' k k
turn_part actions turns w v lines lines' l l' a a' a'' k opens part = record {
  taken = part.taken;
  took = part.took;
  sent = front_then_rest part.taken part.one part.sent;
  written = writes_nothing (olt_run_from turns part.taken (state_of actions w)).text k;
}
  where
    front_then_rest : (taken : List Arrival) → length taken ≤ 1 → SendsFront (packets_heard (seat_ends v) taken) a' a''
        → SendsFront (olt_run_from turns taken (state_of actions w)).packets a a''
    front_then_rest [] one sent =
        subst (λ (r : OltRun). SendsFront r.packets a a'')
        (sym (run_none turns (state_of actions w) ∙ opens.rest (λ listening. broken_off)))
        (front_then opens.packets [] a a' a'' opens.sent sent)
    front_then_rest (arrival ∷ []) one sent =
        let step = arrived arrival (seat_ends v) in
        let more = after_arrival arrival (olt_run_from turns []) (after_step step (drop v.given actions) (state_of actions v)) in
        subst (λ (r : OltRun). SendsFront r.packets a a'')
        (sym (run_one turns arrival [] (state_of actions w) ∙ opens.rest (heard arrival (olt_run_from turns []))))
        (front_then opens.packets (packets_in step.happenings ++ more.packets) a a' a'' opens.sent
        (front_longer (packets_in step.happenings) more.packets a' a'' sent))
    front_then_rest (arrival ∷ other ∷ later) one sent = absurd (omega (arith, one))

-- ---- the whole run

-- the last line was written
pub run_ended : (turns : ℕ) (orders : Orders) (st now : OltState) (was : Bool) (l l' : Option (List Arrival)) (a a' : Option (List (List ℕ))) (k k' k'' : Option (List ℕ)) (last : List ℕ)
    → st ≡ olt_first orders → was ≡ false → Ran turns st now was l l' a a' k k' → last ≡ left_text now → Appends k' k'' last
    → HasRun turns orders l l' a a' k k''
run_ended turns orders st now was l l' a a' k k' k'' last first is ran last_is added =
    let whole : olt_run turns orders ran.taken ≡ led ran.packets ran.text (at_end now) =
    ap (λ s. olt_run_from turns ran.taken s) (sym first)
    ∙ ap (λ xs. olt_run_from turns xs st) (sym (append-nil ran.taken)) ∙ ran.rest []
    ∙ ap (λ g. led ran.packets ran.text (rest_of g turns [] now)) is in
    record {
      taken = ran.taken;
      took = ran.took;
      ended = ap (λ (r : OltRun). r.ended) whole;
      sent = ran.sent ∙ ap (λ ps. packets_after ps a) (sym (ap (λ (r : OltRun). r.packets) whole ∙ append-nil ran.packets));
      written = subst (λ t. Appends k k'' t)
          (ap (λ t. ran.text ++ t) last_is ∙ sym (ap (λ (r : OltRun). r.text) whole))
          (Appends-then k k' k'' ran.text last ran.written added);
    }

-- it wasn't, or not whole
pub run_unended : (turns : ℕ) (orders : Orders) (st now : OltState) (was : Bool) (l l' : Option (List Arrival)) (a a' : Option (List (List ℕ))) (k k' k'' : Option (List ℕ))
    → st ≡ olt_first orders → was ≡ false → Ran turns st now was l l' a a' k k' → WritesFront (left_text now) k' k''
    → HasRunInPart turns orders l l' a a' k k''
run_unended turns orders st now was l l' a a' k k' k'' first is ran front =
    let whole : olt_run turns orders ran.taken ≡ led ran.packets ran.text (at_end now) =
    ap (λ s. olt_run_from turns ran.taken s) (sym first)
    ∙ ap (λ xs. olt_run_from turns xs st) (sym (append-nil ran.taken)) ∙ ran.rest []
    ∙ ap (λ g. led ran.packets ran.text (rest_of g turns [] now)) is in
    record {
      taken = ran.taken;
      took = ran.took;
      sent = front_all (olt_run turns orders ran.taken).packets a a'
          (ran.sent ∙ ap (λ ps. packets_after ps a) (sym (ap (λ (r : OltRun). r.packets) whole ∙ append-nil ran.packets)));
      written = subst (λ t. WritesFront t k k'') (sym (ap (λ (r : OltRun). r.text) whole))
          (text_then ran.text (left_text now) k k' k'' ran.written front);
    }

-- a fault breaks a turn off
pub run_part : (turns : ℕ) (orders : Orders) (st : OltState) (l l' : Option (List Arrival)) (a a' : Option (List (List ℕ))) (k k' : Option (List ℕ))
    → st ≡ olt_first orders → RanInPart turns st l l' a a' k k' → HasRunInPart turns orders l l' a a' k k'
run_part turns orders st l l' a a' k k' first part = record {
  taken = part.taken;
  took = part.took;
  sent = subst (λ s. SendsFront (olt_run_from turns part.taken s).packets a a') first part.sent;
  written = subst (λ s. WritesFront (olt_run_from turns part.taken s).text k k') first part.written;
}

-- nothing was done yet
pub run_begun : (turns : ℕ) (orders : Orders) (l l' : Option (List Arrival)) (a a' : Option (List (List ℕ))) (k : Option (List ℕ))
    → l' ≡ l → a' ≡ a → HasRunInPart turns orders l l' a a' k k
run_begun turns orders l l' a a' k left_is sent_is = record {
  taken = [];
  took = left_is;
  sent = subst (λ b. SendsFront (olt_run turns orders []).packets a b) (sym sent_is) (sends_nothing_of (olt_run turns orders []).packets a);
  written = writes_nothing (olt_run turns orders []).text k;
}
