-- The latest run of a TCI, as the lines before a place tell it, and what one more line does to it.
use Rattle.std.proofs.Common.{◌≡◌, ℕ, suc, ◌<◌, ◌≤◌, Bool, true, false, Option, Some, None, nat_le, ◌&&◌, is_some, refl, sym, ap, subst, ◌∙◌, inl, inr, arith, true≢false}
use Rattle.std.specs.Prelude.{if◌then◌else◌}
use Rattle.std.proofs.lemmas.Bool.{cases_lt, and_from, and_parts, and_left, and_right}
use Rattle.tci_spec.specs.Tci.{is_low}
use Rattle.capture_spec.specs.Places.{or_else, first_place, last_place}
use Rattle.capture_spec.specs.Runs.{Lines, request_at, starts, asks, answers, is_one_span, is_one_run, asked_before, is_of_run, or_itself, first_request, has_ar, first_with_ar, first_reply}
use Rattle.capture_check.specs.declared.checker.Run.{Run}
use Rattle.capture_check.specs.Steps.{is_place, live_run, continued_run, asked_run, answered_run, with_ar_of}
use Rattle.capture_check.proofs.Searches.{IsLast, last_some, last_none, last_next_in, last_next_out, first_same, first_never, first_beyond, first_next, first_next_in, first_next_out}
use Rattle.capture_check.proofs.Running.{after_start, since_is, is_own_run, not_asked, goes_on, breaks_off, belongs, belongs_none, asks_in, continues}

-- the run whose latest request stands at a place, by the replies before another place
unfoldable pub run_with : Lines → (tci place request : ℕ) → Run
run_with lines tci place request = record {
  latest = request;
  first = first_request lines tci request;
  with_ar = first_with_ar lines tci request (suc request);
  reply = first_reply lines tci request place;
}

abbrev pub run_of : Lines → (tci place : ℕ) → Option ℕ → Option Run
run_of lines tci place (Some request) = Some (run_with lines tci place request)
run_of lines tci place None = None

-- the latest run of a TCI before a place
unfoldable pub latest_run : Lines → (tci place : ℕ) → Option Run
latest_run lines tci place = run_of lines tci place (last_place place (λ k. asks lines tci k))

-- the place after the last start before a place
unfoldable pub span_begin : Lines → ℕ → ℕ
span_begin lines place = after_start (last_place place (λ k. starts lines k))

run_same : (latest later first other : ℕ) (with_ar one reply two : Option ℕ) → latest ≡ later → first ≡ other → with_ar ≡ one → reply ≡ two → ◌≡◌ {A = Run} (record { latest = latest; first = first; with_ar = with_ar; reply = reply }) (record { latest = later; first = other; with_ar = one; reply = two })
run_same latest later first other with_ar one reply two a b c d = cc

-- ---- a line that is no request and no reply of this TCI

reply_stays : (lines : Lines) (tci n m : ℕ) → answers lines tci n ≡ false → first_reply lines tci m (suc n) ≡ first_reply lines tci m n
unfolding first_reply
reply_stays lines tci n m out = first_next_out n (λ k. answers lines tci k && is_of_run lines tci m (asked_before lines tci k))
    (and_left (answers lines tci n) (is_of_run lines tci m (asked_before lines tci n)) out)

run_stays : (lines : Lines) (tci n : ℕ) (o : Option ℕ) → answers lines tci n ≡ false → run_of lines tci (suc n) o ≡ run_of lines tci n o
unfolding run_with
run_stays lines tci n None out = refl
run_stays lines tci n (Some m) out = ap (λ (r : Option ℕ). Some (record { latest = m; first = first_request lines tci m; with_ar = first_with_ar lines tci m (suc m); reply = r })) (reply_stays lines tci n m out)

pub stays : (lines : Lines) (tci n : ℕ) → asks lines tci n ≡ false → answers lines tci n ≡ false → latest_run lines tci (suc n) ≡ latest_run lines tci n
unfolding latest_run
stays lines tci n unasked out = ap (run_of lines tci (suc n)) (last_next_out n (λ k. asks lines tci k) unasked) ∙ run_stays lines tci n (last_place n (λ k. asks lines tci k)) out

-- ---- a reply

abbrev pub with_heard : ℕ → Option Run → Option Run → Option Run
with_heard n (Some run) other = Some (answered_run n run)
with_heard n None other = other

heard_span : (b : Bool) (lines : Lines) (tci n m : ℕ) → IsLast n (λ k. asks lines tci k) m → is_one_span lines m n ≡ b → asks lines tci m ≡ true → answers lines tci n ≡ true → run_of lines tci (suc n) (Some m) ≡ with_heard n (if b then run_of lines tci n (Some m) else None) (run_of lines tci n (Some m))
unfolding run_with first_reply
heard_span true lines tci n m last span asked is = ap (λ (r : Option ℕ). Some (record { latest = m; first = first_request lines tci m; with_ar = first_with_ar lines tci m (suc m); reply = r }))
    (first_next_in n (λ k. answers lines tci k && is_of_run lines tci m (asked_before lines tci k))
    (and_from (answers lines tci n) (is_of_run lines tci m (asked_before lines tci n)) is (ap (is_of_run lines tci m) (belongs lines tci m n last span) ∙ is_own_run lines tci m asked)))
heard_span false lines tci n m last span asked is = ap (λ (r : Option ℕ). Some (record { latest = m; first = first_request lines tci m; with_ar = first_with_ar lines tci m (suc m); reply = r }))
    (first_next_out n (λ k. answers lines tci k && is_of_run lines tci m (asked_before lines tci k))
    (and_right (answers lines tci n) (is_of_run lines tci m (asked_before lines tci n)) (ap (is_of_run lines tci m) (belongs_none lines tci m n last span))))

live_if : (lines : Lines) (tci n m : ℕ) → m < n → live_run (span_begin lines n) (run_of lines tci n (Some m)) ≡ (if is_one_span lines m n then run_of lines tci n (Some m) else None)
unfolding run_with span_begin
live_if lines tci n m lt = ap (λ b. if b then run_of lines tci n (Some m) else None) (sym (since_is lines m n lt))

heard_by : (lines : Lines) (tci n : ℕ) (o : Option ℕ) → last_place n (λ k. asks lines tci k) ≡ o → answers lines tci n ≡ true → run_of lines tci (suc n) o ≡ with_heard n (live_run (span_begin lines n) (run_of lines tci n o)) (run_of lines tci n o)
heard_by lines tci n None e is = refl
heard_by lines tci n (Some m) e is =
    let last = last_some n (λ k. asks lines tci k) m e in
    heard_span (is_one_span lines m n) lines tci n m last refl last.has is
    ∙ ap (λ r. with_heard n r (run_of lines tci n (Some m))) (sym (live_if lines tci n m last.below))

pub heard : (lines : Lines) (tci n : ℕ) → asks lines tci n ≡ false → answers lines tci n ≡ true → latest_run lines tci (suc n) ≡ with_heard n (live_run (span_begin lines n) (latest_run lines tci n)) (latest_run lines tci n)
unfolding latest_run
heard lines tci n unasked is = ap (run_of lines tci (suc n)) (last_next_out n (λ k. asks lines tci k) unasked) ∙ heard_by lines tci n (last_place n (λ k. asks lines tci k)) refl is

-- ---- a request

pub record IsAsked (lines : Lines) (tci n : ℕ) (wants : Bool) : Type 0 where
  pub asked : asks lines tci n ≡ true
  pub silent : answers lines tci n ≡ false
  pub ar : has_ar (request_at lines n) ≡ wants

-- what the run with which a request goes on says of it
pub record Asked (lines : Lines) (tci n : ℕ) (wants : Bool) (run : Option Run) : Type 0 where
  pub next : run_with lines tci (suc n) n ≡ asked_run wants n run
  pub begins : is_some (first_place n (λ k. is_one_run lines tci k n)) ≡ is_some run
  pub before : first_with_ar lines tci n n ≡ with_ar_of run

and_wants : (a b wants : Bool) → a ≡ wants → b ≡ true → (a && b) ≡ wants
and_wants true true wants is own = is
and_wants true false wants is own = absurd (true≢false (sym own))
and_wants false b wants is own = is

pub record Before (lines : Lines) (tci i k : ℕ) : Type 0 where
  pub lower : i < k
  pub asked : asks lines tci i ≡ true

earlier : (lines : Lines) (tci k i : ℕ) → asked_before lines tci k ≡ Some i → Before lines tci i k
unfolding asked_before
earlier lines tci k i e =
    let last = last_some k (λ j. asks lines tci j && is_one_span lines j k) i e in
    record { lower = last.below; asked = (and_parts (asks lines tci i) (is_one_span lines i k) last.has).0 }

none_of_run : (lines : Lines) (tci n k : ℕ) (o : Option ℕ) → asked_before lines tci k ≡ o → ((i : ℕ) → i < n → is_one_run lines tci i n ≡ false) → k ≤ n → is_of_run lines tci n o ≡ false
none_of_run lines tci n k None e none le = refl
none_of_run lines tci n k (Some i) e none le = none i (omega (arith, (earlier lines tci k i e).lower))

own_ar : (lines : Lines) (tci n : ℕ) (wants : Bool) → IsAsked lines tci n wants → (has_ar (request_at lines n) && is_one_run lines tci n n) ≡ wants
own_ar lines tci n wants is = and_wants (has_ar (request_at lines n)) (is_one_run lines tci n n) wants is.ar (is_own_run lines tci n is.asked)

pub asked_begins : (lines : Lines) (tci n : ℕ) (wants : Bool) → IsAsked lines tci n wants → ((i : ℕ) → i < n → is_one_run lines tci i n ≡ false) → Asked lines tci n wants None
unfolding run_with first_request first_with_ar first_reply
asked_begins lines tci n wants is none =
    let no_run : first_place n (λ k. is_one_run lines tci k n) ≡ None = first_never n (λ k. is_one_run lines tci k n) none in
    let no_ar : first_place n (λ k. has_ar (request_at lines k) && is_one_run lines tci k n) ≡ None = first_never n (λ k. has_ar (request_at lines k) && is_one_run lines tci k n) (λ k lt. and_right (has_ar (request_at lines k)) (is_one_run lines tci k n) (none k lt)) in
    record {
      next = run_same _ _ _ _ _ _ _ _ refl
          (ap (λ o. or_itself o n) no_run)
          (first_next n (λ k. has_ar (request_at lines k) && is_one_run lines tci k n)
          ∙ ap (λ o. or_else o (if has_ar (request_at lines n) && is_one_run lines tci n n then Some n else None)) no_ar
          ∙ ap (λ b. if b then Some n else None) (own_ar lines tci n wants is))
          (first_never (suc n) (λ k. answers lines tci k && is_of_run lines tci n (asked_before lines tci k))
          (λ k lt. and_right (answers lines tci k) (is_of_run lines tci n (asked_before lines tci k)) (none_of_run lines tci n k (asked_before lines tci k) refl none (omega arith))));
      begins = ap is_some no_run;
      before = no_ar;
    }

itself_else : (o : Option ℕ) (m n : ℕ) → or_itself (or_else o (Some m)) n ≡ or_itself o m
itself_else (Some k) m n = refl
itself_else None m n = refl

some_else : (o : Option ℕ) (m : ℕ) → is_some (or_else o (Some m)) ≡ true
some_else (Some k) m = refl
some_else None m = refl

of_run_same : (lines : Lines) (tci m n k : ℕ) (o : Option ℕ) → IsLast n (λ k. asks lines tci k) m → is_one_run lines tci m n ≡ true → asked_before lines tci k ≡ o → k < n → is_of_run lines tci n o ≡ is_of_run lines tci m o
of_run_same lines tci m n k None last is e lt = refl
of_run_same lines tci m n k (Some i) last is e lt =
    let b = earlier lines tci k i e in
    let under : i < k = b.lower in
    elim (cases_lt m i) as (λ _. is_one_run lines tci i n ≡ is_one_run lines tci i m) [
      | inl above ↦ absurd (true≢false (sym b.asked ∙ last.after i above (omega arith)))
      | inr le ↦ goes_on lines tci m n i last.below is le
    ]

pub asked_goes : (lines : Lines) (tci n m : ℕ) (wants : Bool) → IsAsked lines tci n wants → IsLast n (λ k. asks lines tci k) m → is_one_run lines tci m n ≡ true → Asked lines tci n wants (Some (run_with lines tci n m))
unfolding run_with first_request first_with_ar first_reply
asked_goes lines tci n m wants is last run =
    let one : first_place n (λ k. is_one_run lines tci k n) ≡ or_else (first_place m (λ k. is_one_run lines tci k m)) (Some m) =
    first_beyond n (suc m) (λ k. is_one_run lines tci k n) last.below (λ k le lt. not_asked lines tci k n (last.after k le lt))
    ∙ first_next_in m (λ k. is_one_run lines tci k n) run
    ∙ ap (λ o. or_else o (Some m)) (first_same m (λ k. is_one_run lines tci k n) (λ k. is_one_run lines tci k m) (λ k lt. goes_on lines tci m n k last.below run (omega arith))) in
    let ar : first_place n (λ k. has_ar (request_at lines k) && is_one_run lines tci k n) ≡ first_place (suc m) (λ k. has_ar (request_at lines k) && is_one_run lines tci k m) =
    first_beyond n (suc m) (λ k. has_ar (request_at lines k) && is_one_run lines tci k n) last.below (λ k le lt. and_right (has_ar (request_at lines k)) (is_one_run lines tci k n) (not_asked lines tci k n (last.after k le lt)))
    ∙ first_same (suc m) (λ k. has_ar (request_at lines k) && is_one_run lines tci k n) (λ k. has_ar (request_at lines k) && is_one_run lines tci k m) (λ k lt. ap (λ b. has_ar (request_at lines k) && b) (goes_on lines tci m n k last.below run (omega arith))) in
    record {
      next = run_same _ _ _ _ _ _ _ _ refl
          (ap (λ o. or_itself o n) one ∙ itself_else (first_place m (λ k. is_one_run lines tci k m)) m n)
          (first_next n (λ k. has_ar (request_at lines k) && is_one_run lines tci k n)
          ∙ ap (λ o. or_else o (if has_ar (request_at lines n) && is_one_run lines tci n n then Some n else None)) ar
          ∙ ap (λ b. or_else (first_place (suc m) (λ k. has_ar (request_at lines k) && is_one_run lines tci k m)) (if b then Some n else None)) (own_ar lines tci n wants is))
          (first_next_out n (λ k. answers lines tci k && is_of_run lines tci n (asked_before lines tci k)) (and_left (answers lines tci n) (is_of_run lines tci n (asked_before lines tci n)) is.silent)
          ∙ first_same n (λ k. answers lines tci k && is_of_run lines tci n (asked_before lines tci k)) (λ k. answers lines tci k && is_of_run lines tci m (asked_before lines tci k))
          (λ k lt. ap (λ b. answers lines tci k && b) (of_run_same lines tci m n k (asked_before lines tci k) last run refl lt)));
      begins = ap is_some one ∙ some_else (first_place m (λ k. is_one_run lines tci k m)) m;
      before = ar;
    }

-- the run with which a request goes on, from the latest run of its TCI
abbrev pub goes_on_with : Lines → (tci n : ℕ) → Option Run → Option Run
goes_on_with lines tci n run = continued_run (last_place n (λ k. asks_in lines (is_low tci) k)) (live_run (span_begin lines n) run)

asked_if : (b : Bool) (lines : Lines) (tci n m : ℕ) (wants : Bool) → is_one_run lines tci m n ≡ b → IsAsked lines tci n wants → IsLast n (λ k. asks lines tci k) m → Asked lines tci n wants (if b then run_of lines tci n (Some m) else None)
asked_if true lines tci n m wants run is last = asked_goes lines tci n m wants is last run
asked_if false lines tci n m wants run is last = asked_begins lines tci n wants is (λ i lt. elim (cases_lt m i) as (λ _. is_one_run lines tci i n ≡ false) [
  | inl above ↦ not_asked lines tci i n (last.after i above lt)
  | inr le ↦ breaks_off lines tci m n i last.has run le
])

both_tests : (since : ℕ) (last : Option ℕ) (run : Run) (b c : Bool) → nat_le since run.latest ≡ b → is_place run.latest last ≡ c → continued_run last (if b then Some run else None) ≡ (if b && c then Some run else None)
both_tests since last run true c e d = ap (λ t. if t then Some run else None) d
both_tests since last run false c e d = refl

goes_if : (lines : Lines) (tci n m : ℕ) → IsLast n (λ k. asks lines tci k) m → asks lines tci n ≡ true → goes_on_with lines tci n (run_of lines tci n (Some m)) ≡ (if is_one_run lines tci m n then run_of lines tci n (Some m) else None)
unfolding run_with span_begin
goes_if lines tci n m last asked =
    both_tests (after_start (last_place n (λ k. starts lines k))) (last_place n (λ k. asks_in lines (is_low tci) k)) (run_with lines tci n m)
    (nat_le (after_start (last_place n (λ k. starts lines k))) m) (is_place m (last_place n (λ k. asks_in lines (is_low tci) k))) refl refl
    ∙ ap (λ b. if b then run_of lines tci n (Some m) else None) (sym (continues lines tci m n last asked))

asked_by : (lines : Lines) (tci n : ℕ) (wants : Bool) (o : Option ℕ) → last_place n (λ k. asks lines tci k) ≡ o → IsAsked lines tci n wants → Asked lines tci n wants (goes_on_with lines tci n (run_of lines tci n o))
asked_by lines tci n wants None e is = asked_begins lines tci n wants is (λ i lt. not_asked lines tci i n (last_none n (λ k. asks lines tci k) e i lt))
asked_by lines tci n wants (Some m) e is =
    let last = last_some n (λ k. asks lines tci k) m e in
    subst (λ r. Asked lines tci n wants r) (sym (goes_if lines tci n m last is.asked)) (asked_if (is_one_run lines tci m n) lines tci n m wants refl is last)

pub asked_is : (lines : Lines) (tci n : ℕ) (wants : Bool) → IsAsked lines tci n wants → Asked lines tci n wants (goes_on_with lines tci n (latest_run lines tci n))
unfolding latest_run
asked_is lines tci n wants is = asked_by lines tci n wants (last_place n (λ k. asks lines tci k)) refl is

pub asked_latest : (lines : Lines) (tci n : ℕ) → asks lines tci n ≡ true → latest_run lines tci (suc n) ≡ Some (run_with lines tci (suc n) n)
unfolding latest_run
asked_latest lines tci n asked = ap (run_of lines tci (suc n)) (last_next_in n (λ k. asks lines tci k) asked)
