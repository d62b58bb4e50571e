-- Requests of one run.
use Rattle.std.proofs.Common.{◌≡◌, ℕ, suc, ◌<◌, ◌≤◌, Bool, true, false, Option, Some, None, nat_le, ◌&&◌, not, refl, sym, ap, subst, ◌∙◌, inl, inr, arith, true≢false, le-leb, leb-true, eqb-true, eq-eqb}
use Rattle.std.specs.Prelude.{if◌then◌else◌}
use Rattle.std.proofs.lemmas.Bool.{cases_eq, cases_lt, and_from, and_parts, and_left, and_right, false_from_ne_true, not-true, not_from_false}
use Rattle.omci_types.specs.declared.Frame.{Frame}
use Rattle.tci_spec.specs.Tci.{is_low}
use Rattle.capture_spec.specs.Places.{any_between, last_place}
use Rattle.capture_spec.specs.Runs.{Lines, request_at, starts, asks, asks_another, has_tci, has_other_tci, is_one_span, is_one_run, asked_before}
use Rattle.capture_check.specs.Steps.{is_place}
use Rattle.capture_check.proofs.Searches.{same_bool, none_each, none_between, IsLast, last_some, last_none, last_never, last_is}

-- ---- spans

pub span_each : (lines : Lines) (i j : ℕ) → is_one_span lines i j ≡ true → (k : ℕ) → i ≤ k → k < j → starts lines k ≡ false
unfolding is_one_span
span_each lines i j is = none_each i j (λ k. starts lines k) (not-true (any_between i j (λ k. starts lines k)) is)

pub is_span : (lines : Lines) (i j : ℕ) → ((k : ℕ) → i ≤ k → k < j → starts lines k ≡ false) → is_one_span lines i j ≡ true
unfolding is_one_span
is_span lines i j each = not_from_false (any_between i j (λ k. starts lines k)) (none_between i j (λ k. starts lines k) each)

-- the place after the last start
abbrev pub after_start : Option ℕ → ℕ
after_start (Some start) = suc start
after_start None = 0

since_by : (lines : Lines) (m n : ℕ) (o : Option ℕ) → last_place n (λ k. starts lines k) ≡ o → m < n → is_one_span lines m n ≡ nat_le (after_start o) m
since_by lines m n None e lt = is_span lines m n (λ k le less. last_none n (λ k. starts lines k) e k less) ∙ sym (le-leb 0 m (omega arith))
since_by lines m n (Some start) e lt =
    let last = last_some n (λ k. starts lines k) start e in
    same_bool (is_one_span lines m n) (nat_le (suc start) m)
    (λ is. elim (cases_lt start m) as (λ _. nat_le (suc start) m ≡ true) [
      | inl after ↦ le-leb (suc start) m (omega arith)
      | inr before ↦ absurd (true≢false (sym last.has ∙ span_each lines m n is start before last.below))
    ])
    (λ le. is_span lines m n (λ k from less. last.after k (omega (arith, leb-true (suc start) m le)) less))

pub since_is : (lines : Lines) (m n : ℕ) → m < n → is_one_span lines m n ≡ nat_le (after_start (last_place n (λ k. starts lines k))) m
since_is lines m n lt = since_by lines m n (last_place n (λ k. starts lines k)) refl lt

-- ---- runs

pub record OneRun (lines : Lines) (tci i j : ℕ) : Type 0 where
  pub earlier : asks lines tci i ≡ true
  pub later : asks lines tci j ≡ true
  pub span : (k : ℕ) → i ≤ k → k < j → starts lines k ≡ false
  pub alone : (k : ℕ) → i ≤ k → k < j → asks_another lines tci k ≡ false

run_parts : (a b c d : Bool) → (a && b && c && d) ≡ true → (a ≡ true) × ((b ≡ true) × ((c ≡ true) × (d ≡ true)))
run_parts true true true true e = (refl, (refl, (refl, refl)))
run_parts true true true false e = absurd (true≢false (sym e))
run_parts true true false d e = absurd (true≢false (sym e))
run_parts true false c d e = absurd (true≢false (sym e))
run_parts false b c d e = absurd (true≢false (sym e))

run_from : (a b c d : Bool) → a ≡ true → b ≡ true → c ≡ true → d ≡ true → (a && b && c && d) ≡ true
run_from true true true true p q r s = refl
run_from true true true false p q r s = s
run_from true true false d p q r s = r
run_from true false c d p q r s = q
run_from false b c d p q r s = p

pub one_run : (lines : Lines) (tci i j : ℕ) → is_one_run lines tci i j ≡ true → OneRun lines tci i j
unfolding is_one_run
one_run lines tci i j is =
    let parts = run_parts (asks lines tci i) (asks lines tci j) (is_one_span lines i j) (not (any_between i j (λ k. asks_another lines tci k))) is in
    record {
      earlier = parts.0;
      later = parts.1.0;
      span = span_each lines i j parts.1.1.0;
      alone = none_each i j (λ k. asks_another lines tci k) (not-true (any_between i j (λ k. asks_another lines tci k)) parts.1.1.1);
    }

pub is_run : (lines : Lines) (tci i j : ℕ) → OneRun lines tci i j → is_one_run lines tci i j ≡ true
unfolding is_one_run
is_run lines tci i j run = run_from (asks lines tci i) (asks lines tci j) (is_one_span lines i j) (not (any_between i j (λ k. asks_another lines tci k)))
    run.earlier run.later (is_span lines i j run.span)
    (not_from_false (any_between i j (λ k. asks_another lines tci k)) (none_between i j (λ k. asks_another lines tci k) run.alone))

-- a request is of its own run
pub is_own_run : (lines : Lines) (tci m : ℕ) → asks lines tci m ≡ true → is_one_run lines tci m m ≡ true
is_own_run lines tci m is = is_run lines tci m m (record { earlier = is; later = is; span = λ k le lt. absurd (omega arith); alone = λ k le lt. absurd (omega arith) })

-- a line that is no such request is of no run
pub not_asked : (lines : Lines) (tci i j : ℕ) → asks lines tci i ≡ false → is_one_run lines tci i j ≡ false
not_asked lines tci i j out = false_from_ne_true (is_one_run lines tci i j) (λ is. true≢false (sym (one_run lines tci i j is).earlier ∙ out))

-- where the latest request is of the run of a request, an earlier one is of the run of one exactly
-- where it is of the run of the other
pub goes_on : (lines : Lines) (tci m n i : ℕ) → m < n → is_one_run lines tci m n ≡ true → i ≤ m → is_one_run lines tci i n ≡ is_one_run lines tci i m
goes_on lines tci m n i lt is le =
    let run = one_run lines tci m n is in
    same_bool (is_one_run lines tci i n) (is_one_run lines tci i m)
    (λ whole. let w = one_run lines tci i n whole in
    is_run lines tci i m (record { earlier = w.earlier; later = run.earlier; span = λ k from less. w.span k from (omega arith); alone = λ k from less. w.alone k from (omega arith) }))
    (λ front. let f = one_run lines tci i m front in
    is_run lines tci i n (record {
      earlier = f.earlier;
      later = run.later;
      span = λ k from less. elim (cases_lt k m) as (λ _. starts lines k ≡ false) [
        | inl before ↦ f.span k from before
        | inr after ↦ run.span k after less
      ];
      alone = λ k from less. elim (cases_lt k m) as (λ _. asks_another lines tci k ≡ false) [
        | inl before ↦ f.alone k from before
        | inr after ↦ run.alone k after less
      ];
    }))

-- where it isn't, no earlier one is
pub breaks_off : (lines : Lines) (tci m n i : ℕ) → asks lines tci m ≡ true → is_one_run lines tci m n ≡ false → i ≤ m → is_one_run lines tci i n ≡ false
breaks_off lines tci m n i asked out le = false_from_ne_true (is_one_run lines tci i n) (λ whole.
    let w = one_run lines tci i n whole in
    true≢false (sym (is_run lines tci m n (record { earlier = asked; later = w.later; span = λ k from less. w.span k (omega arith) less; alone = λ k from less. w.alone k (omega arith) less })) ∙ out))

-- ---- the request to which a reply belongs

pub belongs : (lines : Lines) (tci m n : ℕ) → IsLast n (λ k. asks lines tci k) m → is_one_span lines m n ≡ true → asked_before lines tci n ≡ Some m
unfolding asked_before
belongs lines tci m n last is = last_is n (λ k. asks lines tci k && is_one_span lines k n) m last.below (and_from (asks lines tci m) (is_one_span lines m n) last.has is)
    (λ k after less. and_left (asks lines tci k) (is_one_span lines k n) (last.after k after less))

pub belongs_none : (lines : Lines) (tci m n : ℕ) → IsLast n (λ k. asks lines tci k) m → is_one_span lines m n ≡ false → asked_before lines tci n ≡ None
unfolding asked_before
belongs_none lines tci m n last out = last_never n (λ k. asks lines tci k && is_one_span lines k n) (λ k less.
    elim (cases_lt m k) as (λ _. (asks lines tci k && is_one_span lines k n) ≡ false) [
      | inl after ↦ and_left (asks lines tci k) (is_one_span lines k n) (last.after k after less)
      | inr before ↦ and_right (asks lines tci k) (is_one_span lines k n) (false_from_ne_true (is_one_span lines k n) (λ is.
          true≢false (sym (is_span lines m n (λ l from lt. span_each lines k n is l (omega arith) lt)) ∙ out)))
    ])

pub belongs_never : (lines : Lines) (tci n : ℕ) → last_place n (λ k. asks lines tci k) ≡ None → asked_before lines tci n ≡ None
unfolding asked_before
belongs_never lines tci n none = last_never n (λ k. asks lines tci k && is_one_span lines k n) (λ k less.
    and_left (asks lines tci k) (is_one_span lines k n) (last_none n (λ k. asks lines tci k) none k less))

-- ---- the last request of a priority

abbrev in_priority : Bool → Option Frame → Bool
in_priority low (Some frame) = if low then is_low frame.tci else not (is_low frame.tci)
in_priority low None = false

unfoldable pub asks_in : Lines → Bool → ℕ → Bool
asks_in lines low place = in_priority low (request_at lines place)

own : (low : Bool) → (if low then low else not low) ≡ true
own true = refl
own false = refl

in_own : (tci : ℕ) (o : Option Frame) → has_tci tci o ≡ true → in_priority (is_low tci) o ≡ true
in_own tci None is = absurd (true≢false (sym is))
in_own tci (Some frame) is = subst (λ (t : ℕ). (if is_low tci then is_low t else not (is_low t)) ≡ true) (sym (eqb-true frame.tci tci is)) (own (is_low tci))

other_is : (tci : ℕ) (o : Option Frame) → has_other_tci tci o ≡ (in_priority (is_low tci) o && not (has_tci tci o))
other_is tci None = refl
other_is tci (Some frame) = refl

pub asks_in_own : (lines : Lines) (tci k : ℕ) → asks lines tci k ≡ true → asks_in lines (is_low tci) k ≡ true
unfolding asks asks_in
asks_in_own lines tci k is = in_own tci (request_at lines k) is

another_is : (lines : Lines) (tci k : ℕ) → asks_another lines tci k ≡ (asks_in lines (is_low tci) k && not (asks lines tci k))
unfolding asks asks_in asks_another
another_is lines tci k = other_is tci (request_at lines k)

not_another : (lines : Lines) (tci k : ℕ) → asks_in lines (is_low tci) k ≡ false → asks_another lines tci k ≡ false
not_another lines tci k out = another_is lines tci k ∙ and_left (asks_in lines (is_low tci) k) (not (asks lines tci k)) out

itself_no_other : (lines : Lines) (tci k : ℕ) → asks lines tci k ≡ true → asks_another lines tci k ≡ false
itself_no_other lines tci k is = another_is lines tci k ∙ and_right (asks_in lines (is_low tci) k) (not (asks lines tci k)) (ap not is)

out_of_both : (a b : Bool) → (a && not b) ≡ false → b ≡ false → a ≡ false
out_of_both true b e out = absurd (true≢false (sym (ap not out) ∙ e))
out_of_both false b e out = refl

is_place_some : (m : ℕ) (o : Option ℕ) → is_place m o ≡ true → o ≡ Some m
is_place_some m None is = absurd (true≢false (sym is))
is_place_some m (Some q) is = ap (λ (j : ℕ). Some j) (eqb-true q m is)

-- The latest request of a TCI is of the run of the next one exactly where it is of its span and no
-- other request of the priority came after it.
pub continues : (lines : Lines) (tci m n : ℕ) → IsLast n (λ k. asks lines tci k) m → asks lines tci n ≡ true → is_one_run lines tci m n ≡ (nat_le (after_start (last_place n (λ k. starts lines k))) m && is_place m (last_place n (λ k. asks_in lines (is_low tci) k)))
continues lines tci m n last asked =
    let low = is_low tci in
    let since = after_start (last_place n (λ k. starts lines k)) in
    same_bool (is_one_run lines tci m n) (nat_le since m && is_place m (last_place n (λ k. asks_in lines low k)))
    (λ is. let run = one_run lines tci m n is in
    let found : last_place n (λ k. asks_in lines low k) ≡ Some m = last_is n (λ k. asks_in lines low k) m last.below (asks_in_own lines tci m last.has)
    (λ k after less. out_of_both (asks_in lines low k) (asks lines tci k) (sym (another_is lines tci k) ∙ run.alone k (omega arith) less) (last.after k after less)) in
    and_from (nat_le since m) (is_place m (last_place n (λ k. asks_in lines low k)))
    (sym (since_is lines m n last.below) ∙ is_span lines m n run.span)
    (ap (is_place m) found ∙ eq-eqb m m refl))
    (λ both. let parts = and_parts (nat_le since m) (is_place m (last_place n (λ k. asks_in lines low k))) both in
    let of_all = last_some n (λ k. asks_in lines low k) m (is_place_some m (last_place n (λ k. asks_in lines low k)) parts.1) in
    is_run lines tci m n (record {
      earlier = last.has;
      later = asked;
      span = span_each lines m n (since_is lines m n last.below ∙ parts.0);
      alone = λ k from less. elim (cases_eq k m) as (λ _. asks_another lines tci k ≡ false) [
        | inl same ↦ subst (λ j. asks_another lines tci j ≡ false) (sym same) (itself_no_other lines tci m last.has)
        | inr differ ↦ not_another lines tci k (of_all.after k (omega arith) less)
      ];
    }))
