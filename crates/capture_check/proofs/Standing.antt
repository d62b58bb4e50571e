-- What is known after some lines is what they say.
use Rattle.std.proofs.Common.{◌≡◌, ◌≢◌, ℕ, suc, ◌+◌, ◌<◌, ◌≤◌, Bool, true, false, Option, Some, None, nat_le, ◌==◌, not, is_some, List, length, get_or, slice_get, slice_set, refl, sym, ap, subst, ◌∙◌, inl, inr, arith, eq-eqb, ne_eqb}
use Rattle.std.specs.Prelude.{if◌then◌else◌}
use Rattle.std.proofs.lemmas.Bool.{cases_eq}
use Rattle.std.proofs.lemmas.List.{length-set, length-replicate, get_or-replicate, get_or-set_same, get_or-set_other}
use Rattle.std.proofs.lemmas.Option.{slice_get-get_or}
use Rattle.omci_types.specs.declared.Frame.{Frame}
use Rattle.tci_spec.specs.Tci.{is_low}
use Rattle.capture_spec.specs.declared.TheConstants.{TCIS}
use Rattle.capture_spec.specs.declared.Breach.{Breach}
use Rattle.capture_spec.specs.declared.CaptureItem.{CaptureItem}
use Rattle.capture_spec.specs.declared.CaptureItem.TheVariants.{Down, Up, Start}
use Rattle.capture_spec.specs.Places.{first_place, last_place, count_places}
use Rattle.capture_spec.specs.Runs.{Lines, item_of, request_in, reply_in, is_start, request_at, reply_at, starts, has_tci, asks, answers, wants_reply, is_one_run, asked_before, first_with_ar}
use Rattle.capture_spec.specs.declared.Verdict.TheVariants as verdicts
use Rattle.capture_spec.specs.Breaches.{verdict, verdict_by, breach_verdict, line_number, unasked, unfit, answered_otherwise, asked_otherwise, breach_at, begins_run, runs, replies, request_unlike}
use Rattle.capture_check.specs.declared.checker.Run.{Run}
use Rattle.capture_check.specs.Steps.{Known, nothing_known, run_in, last_of, live_run, live, continued_run, continued, asked_run, answered_run, with_last, asked, with_reply, answered, started, reply_breach, request_breach, found_in, taken_in, Fits}
use Rattle.capture_check.proofs.Searches.{first_found, first_next_out, IsLast, last_some, last_next_in, last_next_out, count_next, count_le, or_else_none}
use Rattle.capture_check.proofs.Running.{after_start, asks_in, belongs, belongs_none, belongs_never, since_is}
use Rattle.capture_check.proofs.Latest.{latest_run, run_of, run_with, span_begin, stays, heard, with_heard, IsAsked, goes_on_with, asked_is, asked_latest}

pub record Stands (lines : Lines) (n : ℕ) (s : Known) : Type 0 where
  pub len : length s.table ≡ TCIS
  pub latest : (t : ℕ) → t < TCIS → get_or s.table t None ≡ latest_run lines t n
  pub since : s.since ≡ span_begin lines n
  pub low : s.low ≡ last_place n (λ k. asks_in lines true k)
  pub high : s.high ≡ last_place n (λ k. asks_in lines false k)
  pub run_count : s.runs ≡ runs lines n
  pub reply_count : s.replies ≡ replies lines n

pub nothing_stands : (lines : Lines) → Stands lines 0 nothing_known
unfolding nothing_known latest_run last_place span_begin runs replies count_places
nothing_stands lines = record {
  len = length-replicate {A = Option Run} TCIS None;
  latest = λ t lt. get_or-replicate {A = Option Run} TCIS t None None lt;
  since = refl;
  low = refl;
  high = refl;
  run_count = refl;
  reply_count = refl;
}

-- ---- what is known, said by the lines

run_in_is : (lines : Lines) (n : ℕ) (s : Known) (t : ℕ) → Stands lines n s → t < TCIS → run_in (slice_get s.table t) ≡ latest_run lines t n
run_in_is lines n s t st lt = ap run_in (slice_get-get_or s.table t None (subst (λ l. t < l) (sym st.len) lt)) ∙ st.latest t lt

last_by : (b : Bool) (lines : Lines) (n : ℕ) (s : Known) → Stands lines n s → (if b then s.low else s.high) ≡ last_place n (λ k. asks_in lines b k)
last_by true lines n s st = st.low
last_by false lines n s st = st.high

live_is : (lines : Lines) (n : ℕ) (s : Known) (t : ℕ) → Stands lines n s → t < TCIS → live t s ≡ live_run (span_begin lines n) (latest_run lines t n)
unfolding live
live_is lines n s t st lt = ap (live_run s.since) (run_in_is lines n s t st lt) ∙ ap (λ m. live_run m (latest_run lines t n)) st.since

continued_is : (lines : Lines) (n : ℕ) (s : Known) (t : ℕ) → Stands lines n s → t < TCIS → continued t s ≡ goes_on_with lines t n (latest_run lines t n)
unfolding continued
continued_is lines n s t st lt = ap (continued_run (last_of t s)) (live_is lines n s t st lt) ∙ ap (λ o. continued_run o (live_run (span_begin lines n) (latest_run lines t n))) (last_by (is_low t) lines n s st)

-- ---- what stands at a place

requests : (lines : Lines) (n : ℕ) (i : Option CaptureItem) → item_of (slice_get lines n) ≡ i → request_at lines n ≡ request_in i
unfolding request_at
requests lines n i is = ap request_in is

replied : (lines : Lines) (n : ℕ) (i : Option CaptureItem) → item_of (slice_get lines n) ≡ i → reply_at lines n ≡ reply_in i
unfolding reply_at
replied lines n i is = ap reply_in is

start_is : (lines : Lines) (n : ℕ) (i : Option CaptureItem) → item_of (slice_get lines n) ≡ i → starts lines n ≡ is_start i
unfolding starts
start_is lines n i is = ap is_start is

asks_is : (lines : Lines) (t n : ℕ) (o : Option Frame) → request_at lines n ≡ o → asks lines t n ≡ has_tci t o
unfolding asks
asks_is lines t n o is = ap (has_tci t) is

answers_is : (lines : Lines) (t n : ℕ) (o : Option Frame) → reply_at lines n ≡ o → answers lines t n ≡ has_tci t o
unfolding answers
answers_is lines t n o is = ap (has_tci t) is

abbrev pub in_priority : Bool → Option Frame → Bool
in_priority low (Some frame) = if low then is_low frame.tci else not (is_low frame.tci)
in_priority low None = false

asks_in_is : (lines : Lines) (low : Bool) (n : ℕ) (o : Option Frame) → request_at lines n ≡ o → asks_in lines low n ≡ in_priority low o
unfolding asks_in
asks_in_is lines low n None is = rw is refl
asks_in_is lines low n (Some f) is = rw is refl

-- ---- a request

abbrev pub begins_by : Lines → ℕ → Option Frame → Bool
begins_by lines place (Some request) = not (is_some (first_place place (λ k. is_one_run lines request.tci k place)))
begins_by lines place None = false

begins_is : (lines : Lines) (n : ℕ) (o : Option Frame) → request_at lines n ≡ o → begins_run lines n ≡ begins_by lines n o
unfolding begins_run
begins_is lines n None is = rw is refl
begins_is lines n (Some f) is = rw is refl

runs_next : (lines : Lines) (n : ℕ) (b : Bool) → begins_run lines n ≡ b → runs lines (suc n) ≡ runs lines n + (if b then 1 else 0)
unfolding runs
runs_next lines n b is = count_next n (λ k. begins_run lines k) ∙ ap (λ t. count_places n (λ k. begins_run lines k) + (if t then 1 else 0)) is

replies_next : (lines : Lines) (n : ℕ) (o : Option Frame) → reply_at lines n ≡ o → replies lines (suc n) ≡ replies lines n + (if is_some o then 1 else 0)
unfolding replies
replies_next lines n o is = count_next n (λ k. is_some (reply_at lines k)) ∙ ap (λ (t : Option Frame). count_places n (λ k. is_some (reply_at lines k)) + (if is_some t then 1 else 0)) is

span_stays : (lines : Lines) (n : ℕ) → starts lines n ≡ false → span_begin lines (suc n) ≡ span_begin lines n
unfolding span_begin
span_stays lines n out = ap after_start (last_next_out n (λ k. starts lines k) out)

plus_none : (x : ℕ) → x + 0 ≡ x
plus_none x = omega arith

counted_run : (b : Bool) (x : ℕ) → x + (if b then 0 else 1) ≡ x + (if not b then 1 else 0)
counted_run true x = refl
counted_run false x = refl

last_if : (n : ℕ) (p : ℕ → Bool) (b : Bool) → p n ≡ b → last_place (suc n) p ≡ (if b then Some n else last_place n p)
unfolding last_place
last_if n p b is = ap (λ t. if t then Some n else last_place n p) is

not_if : (b : Bool) (n : ℕ) (o : Option ℕ) → (if b then o else Some n) ≡ (if not b then Some n else o)
not_if true n o = refl
not_if false n o = refl

is_asked : (lines : Lines) (n : ℕ) (f : Frame) → item_of (slice_get lines n) ≡ Some (Down f) → IsAsked lines f.tci n (wants_reply f)
is_asked lines n f is = record {
  asked = asks_is lines f.tci n (Some f) (requests lines n (Some (Down f)) is) ∙ eq-eqb f.tci f.tci refl;
  silent = answers_is lines f.tci n None (replied lines n (Some (Down f)) is);
  ar = rw (requests lines n (Some (Down f)) is) refl;
}

asked_table : (lines : Lines) (n : ℕ) (s : Known) (f : Frame) → Stands lines n s → item_of (slice_get lines n) ≡ Some (Down f) → f.tci < TCIS → (t : ℕ) → t < TCIS → get_or (slice_set s.table f.tci (Some (asked_run (wants_reply f) n (continued f.tci s)))) t None ≡ latest_run lines t (suc n)
asked_table lines n s f st is fits t lt =
    let said = asked_is lines f.tci n (wants_reply f) (is_asked lines n f is) in
    elim (cases_eq t f.tci) as (λ _. get_or (slice_set s.table f.tci (Some (asked_run (wants_reply f) n (continued f.tci s)))) t None ≡ latest_run lines t (suc n)) [
      | inl same ↦ subst (λ j. get_or (slice_set s.table f.tci (Some (asked_run (wants_reply f) n (continued f.tci s)))) j None ≡ latest_run lines j (suc n)) (sym same)
          (get_or-set_same s.table f.tci (Some (asked_run (wants_reply f) n (continued f.tci s))) None (subst (λ l. f.tci < l) (sym st.len) fits)
          ∙ ap (λ (r : Option Run). Some (asked_run (wants_reply f) n r)) (continued_is lines n s f.tci st fits)
          ∙ ap (λ (r : Run). Some r) (sym said.next)
          ∙ sym (asked_latest lines f.tci n (is_asked lines n f is).asked))
      | inr differ ↦ get_or-set_other s.table f.tci t (Some (asked_run (wants_reply f) n (continued f.tci s))) None differ
          ∙ st.latest t lt
          ∙ sym (stays lines t n (asks_is lines t n (Some f) (requests lines n (Some (Down f)) is) ∙ ne_eqb f.tci t (λ e. differ (sym e))) (answers_is lines t n None (replied lines n (Some (Down f)) is)))
    ]

pub asked_stands : (lines : Lines) (n : ℕ) (s : Known) (f : Frame) → Stands lines n s → item_of (slice_get lines n) ≡ Some (Down f) → f.tci < TCIS → Stands lines (suc n) (asked n f s)
unfolding asked with_last
asked_stands lines n s f st is fits =
    let said = asked_is lines f.tci n (wants_reply f) (is_asked lines n f is) in
    let here = requests lines n (Some (Down f)) is in
    record {
      len = length-set s.table f.tci (Some (asked_run (wants_reply f) n (continued f.tci s))) ∙ st.len;
      latest = asked_table lines n s f st is fits;
      since = st.since ∙ sym (span_stays lines n (start_is lines n (Some (Down f)) is));
      low = ap (λ o. if is_low f.tci then Some n else o) st.low ∙ sym (last_if n (λ k. asks_in lines true k) (is_low f.tci) (asks_in_is lines true n (Some f) here));
      high = ap (λ o. if is_low f.tci then o else Some n) st.high ∙ not_if (is_low f.tci) n (last_place n (λ k. asks_in lines false k)) ∙ sym (last_if n (λ k. asks_in lines false k) (not (is_low f.tci)) (asks_in_is lines false n (Some f) here));
      run_count = ap (λ x. x + (if is_some (continued f.tci s) then 0 else 1)) st.run_count
          ∙ counted_run (is_some (continued f.tci s)) (runs lines n)
          ∙ ap (λ b. runs lines n + (if not b then 1 else 0)) (ap is_some (continued_is lines n s f.tci st fits) ∙ sym said.begins)
          ∙ sym (runs_next lines n (begins_by lines n (Some f)) (begins_is lines n (Some f) here));
      reply_count = st.reply_count ∙ sym (replies_next lines n None (replied lines n (Some (Down f)) is) ∙ plus_none (replies lines n));
    }

-- ---- a reply

up_reply : (f : Frame) → (f.tci == 0) ≡ false → reply_in (Some (Up f)) ≡ Some f
up_reply f out = ap (λ b. if b then None else Some f) out

up_notice : (f : Frame) → (f.tci == 0) ≡ true → reply_in (Some (Up f)) ≡ None
up_notice f is = ap (λ b. if b then None else Some f) is

with_reply_at : (table : List (Option Run)) (tci n : ℕ) (run : Option Run) → tci < length table → get_or (with_reply tci n run table) tci None ≡ with_heard n run (get_or table tci None)
with_reply_at table tci n (Some run) lt = get_or-set_same table tci (Some (answered_run n run)) None lt
with_reply_at table tci n None lt = refl

with_reply_other : (table : List (Option Run)) (tci n : ℕ) (run : Option Run) (t : ℕ) → t ≢ tci → get_or (with_reply tci n run table) t None ≡ get_or table t None
with_reply_other table tci n (Some run) t differ = get_or-set_other table tci t (Some (answered_run n run)) None differ
with_reply_other table tci n None t differ = refl

with_reply_len : (table : List (Option Run)) (tci n : ℕ) (run : Option Run) → length (with_reply tci n run table) ≡ length table
with_reply_len table tci n (Some run) = length-set table tci (Some (answered_run n run))
with_reply_len table tci n None = refl

no_request : (lines : Lines) (n : ℕ) (o : Option CaptureItem) → item_of (slice_get lines n) ≡ o → request_in o ≡ None → (low : Bool) → last_place (suc n) (λ k. asks_in lines low k) ≡ last_place n (λ k. asks_in lines low k)
no_request lines n o is none low = last_next_out n (λ k. asks_in lines low k) (asks_in_is lines low n None (requests lines n o is ∙ none))

no_begin : (lines : Lines) (n : ℕ) (o : Option CaptureItem) → item_of (slice_get lines n) ≡ o → request_in o ≡ None → runs lines (suc n) ≡ runs lines n
no_begin lines n o is none = runs_next lines n false (begins_is lines n None (requests lines n o is ∙ none)) ∙ plus_none (runs lines n)

answered_table : (lines : Lines) (n : ℕ) (s : Known) (f : Frame) → Stands lines n s → item_of (slice_get lines n) ≡ Some (Up f) → (f.tci == 0) ≡ false → f.tci < TCIS → (t : ℕ) → t < TCIS → get_or (with_reply f.tci n (live f.tci s) s.table) t None ≡ latest_run lines t (suc n)
answered_table lines n s f st is reply fits t lt =
    let here = replied lines n (Some (Up f)) is ∙ up_reply f reply in
    elim (cases_eq t f.tci) as (λ _. get_or (with_reply f.tci n (live f.tci s) s.table) t None ≡ latest_run lines t (suc n)) [
      | inl same ↦ subst (λ j. get_or (with_reply f.tci n (live f.tci s) s.table) j None ≡ latest_run lines j (suc n)) (sym same)
          (with_reply_at s.table f.tci n (live f.tci s) (subst (λ l. f.tci < l) (sym st.len) fits)
          ∙ ap (λ r. with_heard n r (get_or s.table f.tci None)) (live_is lines n s f.tci st fits)
          ∙ ap (λ r. with_heard n (live_run (span_begin lines n) (latest_run lines f.tci n)) r) (st.latest f.tci fits)
          ∙ sym (heard lines f.tci n (asks_is lines f.tci n None (requests lines n (Some (Up f)) is)) (answers_is lines f.tci n (Some f) here ∙ eq-eqb f.tci f.tci refl)))
      | inr differ ↦ with_reply_other s.table f.tci n (live f.tci s) t differ
          ∙ st.latest t lt
          ∙ sym (stays lines t n (asks_is lines t n None (requests lines n (Some (Up f)) is)) (answers_is lines t n (Some f) here ∙ ne_eqb f.tci t (λ e. differ (sym e))))
    ]

pub answered_stands : (lines : Lines) (n : ℕ) (s : Known) (f : Frame) → Stands lines n s → item_of (slice_get lines n) ≡ Some (Up f) → (f.tci == 0) ≡ false → f.tci < TCIS → Stands lines (suc n) (answered n f s)
unfolding answered
answered_stands lines n s f st is reply fits = record {
  len = with_reply_len s.table f.tci n (live f.tci s) ∙ st.len;
  latest = answered_table lines n s f st is reply fits;
  since = st.since ∙ sym (span_stays lines n (start_is lines n (Some (Up f)) is));
  low = st.low ∙ sym (no_request lines n (Some (Up f)) is refl true);
  high = st.high ∙ sym (no_request lines n (Some (Up f)) is refl false);
  run_count = st.run_count ∙ sym (no_begin lines n (Some (Up f)) is refl);
  reply_count = ap (λ x. x + 1) st.reply_count ∙ sym (replies_next lines n (Some f) (replied lines n (Some (Up f)) is ∙ up_reply f reply));
}

-- ---- a notice, and a start

quiet_table : (lines : Lines) (n : ℕ) (s : Known) (o : Option CaptureItem) → Stands lines n s → item_of (slice_get lines n) ≡ o → request_in o ≡ None → reply_in o ≡ None → (t : ℕ) → t < TCIS → get_or s.table t None ≡ latest_run lines t (suc n)
quiet_table lines n s o st is request reply t lt = st.latest t lt
    ∙ sym (stays lines t n (asks_is lines t n None (requests lines n o is ∙ request)) (answers_is lines t n None (replied lines n o is ∙ reply)))

quiet_count : (lines : Lines) (n : ℕ) (o : Option CaptureItem) → item_of (slice_get lines n) ≡ o → reply_in o ≡ None → replies lines (suc n) ≡ replies lines n
quiet_count lines n o is reply = replies_next lines n None (replied lines n o is ∙ reply) ∙ plus_none (replies lines n)

pub notice_stands : (lines : Lines) (n : ℕ) (s : Known) (o : Option CaptureItem) → Stands lines n s → item_of (slice_get lines n) ≡ o → request_in o ≡ None → reply_in o ≡ None → is_start o ≡ false → Stands lines (suc n) s
notice_stands lines n s o st is request reply start = record {
  len = st.len;
  latest = quiet_table lines n s o st is request reply;
  since = st.since ∙ sym (span_stays lines n (start_is lines n o is ∙ start));
  low = st.low ∙ sym (no_request lines n o is request true);
  high = st.high ∙ sym (no_request lines n o is request false);
  run_count = st.run_count ∙ sym (no_begin lines n o is request);
  reply_count = st.reply_count ∙ sym (quiet_count lines n o is reply);
}

span_starts : (lines : Lines) (n : ℕ) → starts lines n ≡ true → span_begin lines (suc n) ≡ suc n
unfolding span_begin
span_starts lines n is = ap after_start (last_next_in n (λ k. starts lines k) is)

next : (n : ℕ) → n + 1 ≡ suc n
next n = omega arith

pub started_stands : (lines : Lines) (n : ℕ) (s : Known) → Stands lines n s → item_of (slice_get lines n) ≡ Some Start → Stands lines (suc n) (started n s)
started_stands lines n s st is = record {
  len = st.len;
  latest = quiet_table lines n s (Some Start) st is refl refl;
  since = next n ∙ sym (span_starts lines n (start_is lines n (Some Start) is));
  low = st.low ∙ sym (no_request lines n (Some Start) is refl true);
  high = st.high ∙ sym (no_request lines n (Some Start) is refl false);
  run_count = st.run_count ∙ sym (no_begin lines n (Some Start) is refl);
  reply_count = st.reply_count ∙ sym (quiet_count lines n (Some Start) is refl);
}

up_stands : (b : Bool) (lines : Lines) (n : ℕ) (s : Known) (f : Frame) → (f.tci == 0) ≡ b → Stands lines n s → item_of (slice_get lines n) ≡ Some (Up f) → f.tci < TCIS → Stands lines (suc n) (if b then s else answered n f s)
up_stands true lines n s f e st is fits = notice_stands lines n s (Some (Up f)) st is refl (up_notice f e) refl
up_stands false lines n s f e st is fits = answered_stands lines n s f st is e fits

-- one more line
pub taken_stands : (lines : Lines) (n : ℕ) (s : Known) (i : CaptureItem) → Stands lines n s → item_of (slice_get lines n) ≡ Some i → Fits (Some i) → Stands lines (suc n) (taken_in n (Some i) s)
taken_stands lines n s (Down f) st is fits = asked_stands lines n s f st is fits
taken_stands lines n s (Up f) st is fits = up_stands (f.tci == 0) lines n s f refl st is fits
taken_stands lines n s Start st is fits = started_stands lines n s st is

-- ---- breaches

quiet_reply : (lines : Lines) (n : ℕ) → reply_at lines n ≡ None → breach_at lines n ≡ asked_otherwise lines n
unfolding breach_at unasked unfit answered_otherwise
quiet_reply lines n none = rw none refl

quiet_request : (lines : Lines) (n : ℕ) → request_at lines n ≡ None → asked_otherwise lines n ≡ None
unfolding asked_otherwise
quiet_request lines n none = rw none refl

asked_breach : (lines : Lines) (n : ℕ) (f : Frame) → request_at lines n ≡ Some f → asked_otherwise lines n ≡ (if wants_reply f then request_unlike lines f (first_with_ar lines f.tci n n) else None)
unfolding asked_otherwise
asked_breach lines n f is = rw is refl

found_request : (lines : Lines) (n : ℕ) (s : Known) (f : Frame) → Stands lines n s → item_of (slice_get lines n) ≡ Some (Down f) → f.tci < TCIS → found_in lines (Some (Down f)) s ≡ breach_at lines n
found_request lines n s f st is fits =
    let said = asked_is lines f.tci n (wants_reply f) (is_asked lines n f is) in
    ap (request_breach lines f) (continued_is lines n s f.tci st fits)
    ∙ ap (λ o. if wants_reply f then request_unlike lines f o else None) (sym said.before)
    ∙ sym (quiet_reply lines n (replied lines n (Some (Down f)) is) ∙ asked_breach lines n f (requests lines n (Some (Down f)) is))

-- what a reply is, by the request to which it belongs
abbrev pub answered_breach : Lines → ℕ → Frame → Option ℕ → Option Breach
answered_breach lines n f (Some m) = reply_breach lines f (run_of lines f.tci n (Some m))
answered_breach lines n f None = Some (record { kind = 1; earlier = 0 })

reply_kinds : (lines : Lines) (n : ℕ) (f : Frame) (o : Option ℕ) → reply_at lines n ≡ Some f → asked_otherwise lines n ≡ None → asked_before lines f.tci n ≡ o → breach_at lines n ≡ answered_breach lines n f o
unfolding breach_at unasked unfit answered_otherwise run_with
reply_kinds lines n f None is quiet e = rw (is, e) refl
reply_kinds lines n f (Some m) is quiet e = rw (is, e, quiet, or_else_none) refl

live_belongs : (b : Bool) (lines : Lines) (n m : ℕ) (f : Frame) → IsLast n (λ k. asks lines f.tci k) m → nat_le (span_begin lines n) m ≡ b → reply_breach lines f (if b then run_of lines f.tci n (Some m) else None) ≡ answered_breach lines n f (asked_before lines f.tci n)
unfolding span_begin
live_belongs true lines n m f last is = ap (answered_breach lines n f) (sym (belongs lines f.tci m n last (since_is lines m n last.below ∙ is)))
live_belongs false lines n m f last is = ap (answered_breach lines n f) (sym (belongs_none lines f.tci m n last (since_is lines m n last.below ∙ is)))

live_breach : (lines : Lines) (n : ℕ) (f : Frame) (o : Option ℕ) → last_place n (λ k. asks lines f.tci k) ≡ o → reply_breach lines f (live_run (span_begin lines n) (run_of lines f.tci n o)) ≡ answered_breach lines n f (asked_before lines f.tci n)
unfolding run_with
live_breach lines n f None e = ap (answered_breach lines n f) (sym (belongs_never lines f.tci n e))
live_breach lines n f (Some m) e = live_belongs (nat_le (span_begin lines n) m) lines n m f (last_some n (λ k. asks lines f.tci k) m e) refl

latest_breach : (lines : Lines) (n : ℕ) (f : Frame) → reply_breach lines f (live_run (span_begin lines n) (latest_run lines f.tci n)) ≡ answered_breach lines n f (asked_before lines f.tci n)
unfolding latest_run
latest_breach lines n f = live_breach lines n f (last_place n (λ k. asks lines f.tci k)) refl

found_up : (b : Bool) (lines : Lines) (n : ℕ) (s : Known) (f : Frame) → (f.tci == 0) ≡ b → Stands lines n s → item_of (slice_get lines n) ≡ Some (Up f) → f.tci < TCIS → (if b then None else reply_breach lines f (live f.tci s)) ≡ breach_at lines n
found_up true lines n s f e st is fits = sym (quiet_reply lines n (replied lines n (Some (Up f)) is ∙ up_notice f e) ∙ quiet_request lines n (requests lines n (Some (Up f)) is))
found_up false lines n s f e st is fits =
    ap (reply_breach lines f) (live_is lines n s f.tci st fits) ∙ latest_breach lines n f
    ∙ sym (reply_kinds lines n f (asked_before lines f.tci n) (replied lines n (Some (Up f)) is ∙ up_reply f e) (quiet_request lines n (requests lines n (Some (Up f)) is)) refl)

pub found_is : (lines : Lines) (n : ℕ) (s : Known) (i : CaptureItem) → Stands lines n s → item_of (slice_get lines n) ≡ Some i → Fits (Some i) → found_in lines (Some i) s ≡ breach_at lines n
found_is lines n s (Down f) st is fits = found_request lines n s f st is fits
found_is lines n s (Up f) st is fits = found_up (f.tci == 0) lines n s f refl st is fits
found_is lines n s Start st is fits = sym (quiet_reply lines n (replied lines n (Some Start) is) ∙ quiet_request lines n (requests lines n (Some Start) is))

-- so many lines give no more runs or replies
pub few_runs : (lines : Lines) (n : ℕ) (s : Known) → Stands lines n s → s.runs ≤ n
unfolding runs
few_runs lines n s st = subst (λ x. x ≤ n) (sym st.run_count) (count_le n (λ k. begins_run lines k))

pub few_replies : (lines : Lines) (n : ℕ) (s : Known) → Stands lines n s → s.replies ≤ n
unfolding replies
few_replies lines n s st = subst (λ x. x ≤ n) (sym st.reply_count) (count_le n (λ k. is_some (reply_at lines k)))

-- ---- the verdict

abbrev pub no_breach : Lines → ℕ → Type 0
no_breach lines n = first_place n (λ k. is_some (breach_at lines k)) ≡ None

pub no_breach_yet : (lines : Lines) → no_breach lines 0
unfolding first_place
no_breach_yet lines = refl

pub no_breach_next : (lines : Lines) (n : ℕ) → no_breach lines n → breach_at lines n ≡ None → no_breach lines (n + 1)
no_breach_next lines n none here = subst (λ j. no_breach lines j) (sym (next n)) (first_next_out n (λ k. is_some (breach_at lines k)) (ap is_some here) ∙ none)

pub stands_next : (lines : Lines) (n : ℕ) (s : Known) (i : CaptureItem) → Stands lines n s → item_of (slice_get lines n) ≡ Some i → Fits (Some i) → Stands lines (n + 1) (taken_in n (Some i) s)
stands_next lines n s i st is fits = subst (λ j. Stands lines j (taken_in n (Some i) s)) (sym (next n)) (taken_stands lines n s i st is fits)

pub verdict_found : (lines : Lines) (n : ℕ) (b : Breach) → no_breach lines n → breach_at lines n ≡ Some b → n < length lines → verdicts.Breach (line_number lines n) b.kind b.earlier ≡ verdict lines
unfolding verdict
verdict_found lines n b none here lt = sym (ap (verdict_by lines) (first_found (length lines) n (λ k. is_some (breach_at lines k)) none (ap is_some here) lt) ∙ ap (breach_verdict lines n) here)

pub verdict_ok : (lines : Lines) (n : ℕ) (s : Known) → Stands lines n s → no_breach lines n → n ≡ length lines → verdicts.Ok s.runs s.replies ≡ verdict lines
unfolding verdict
verdict_ok lines n s st none end =
    ap (λ x. verdicts.Ok x s.replies) st.run_count ∙ ap (verdicts.Ok (runs lines n)) st.reply_count
    ∙ ap (λ j. verdicts.Ok (runs lines j) (replies lines j)) end
    ∙ sym (ap (verdict_by lines) (subst (λ j. no_breach lines j) end none))
