-- Where no line is a breach, the replies of a run are all the same.
use Rattle.std.proofs.Common.{◌≡◌, ℕ, zero, suc, ◌<◌, ◌≤◌, ◌⊎◌, Bool, true, false, List, length, Option, Some, None, ◌&&◌, ◌==◌, is_some, bytes_eq, refl, sym, ap, subst, ◌∙◌, inl, inr, arith, true≢false, eqb-true}
use Rattle.std.specs.Prelude.{if◌then◌else◌}
use Rattle.std.proofs.lemmas.Bool.{cases_eq, cases_lt, and_from, and_parts}
use Rattle.std.proofs.lemmas.Slice.Eq.{bytes_eq-Decides}
use Rattle.omci_types.specs.declared.Frame.{Frame}
use Rattle.capture_spec.specs.declared.Breach.{Breach}
use Rattle.capture_spec.specs.declared.Verdict.TheVariants as verdicts
use Rattle.capture_spec.specs.Places.{or_else, first_place}
use Rattle.capture_spec.specs.Runs.{Lines, reply_at, asks, answers, has_tci, is_one_span, is_one_run, asked_before, is_of_run, first_reply}
use Rattle.capture_spec.specs.Breaches.{is_same, unless, reply_unlike, other_by, other_reply, unasked, unfit, answered_otherwise, asked_otherwise, breach_at, breach_verdict, verdict_by, verdict, line_number}
use Rattle.capture_spec.specs.Once.{AnsweredOnce}
use Rattle.capture_check.proofs.Searches.{last_some, first_same}
use Rattle.capture_check.proofs.Running.{goes_on, span_each, is_span}

-- ---- first places

some_or : (b : Bool) (n m : ℕ) → (if b then Some n else None) ≡ Some m → (n ≡ m) × (b ≡ true)
some_or true n m e = (ap zeroed e, refl)
  where
    zeroed : Option ℕ → ℕ
    zeroed (Some k) = k
    zeroed None = 0
some_or false n m e = absurd (none_some e)
  where
    none_some : ◌≡◌ {A = Option ℕ} None (Some m) → ⊥
    none_some h = cc

else_cases : (o other : Option ℕ) (m : ℕ) → or_else o other ≡ Some m → (o ≡ Some m) ⊎ ((o ≡ None) × (other ≡ Some m))
else_cases (Some k) other m e = inl e
else_cases None other m e = inr (refl, e)

else_none : {A : Type 0} (o other : Option A) → or_else o other ≡ None → (o ≡ None) × (other ≡ None)
else_none (Some x) other e = absurd (some_none e)
  where
    some_none : Some x ≡ None → ⊥
    some_none h = cc
else_none None other e = (refl, e)

not_if : (b : Bool) (n : ℕ) → (if b then Some n else None) ≡ None → b ≡ false
not_if true n e = absurd (some_none e)
  where
    some_none : ◌≡◌ {A = Option ℕ} (Some n) None → ⊥
    some_none h = cc
not_if false n e = refl

first_none : (n : ℕ) (p : ℕ → Bool) → first_place n p ≡ None → (k : ℕ) → k < n → p k ≡ false
unfolding first_place
first_none zero p e k lt = absurd (omega arith)
first_none (suc n) p e k lt = elim (cases_eq k n) as (λ _. p k ≡ false) [
  | inl same ↦ subst (λ j. p j ≡ false) (sym same) (not_if (p n) n (else_none (first_place n p) (if p n then Some n else None) e).1)
  | inr differ ↦ first_none n p (else_none (first_place n p) (if p n then Some n else None) e).0 k (omega arith)
]

pub record IsFirst (n : ℕ) (p : ℕ → Bool) (m : ℕ) : Type 0 where
  pub below : m < n
  pub has : p m ≡ true
  pub before : (k : ℕ) → k < m → p k ≡ false

first_some : (n : ℕ) (p : ℕ → Bool) (m : ℕ) → first_place n p ≡ Some m → IsFirst n p m
unfolding first_place
first_some zero p m e = absurd (none_some e)
  where
    none_some : ◌≡◌ {A = Option ℕ} None (Some m) → ⊥
    none_some h = cc
first_some (suc n) p m e = elim (else_cases (first_place n p) (if p n then Some n else None) m e) as (λ _. IsFirst (suc n) p m) [
  | inl before ↦ let f = first_some n p m before in record { below = omega (arith, f.below); has = f.has; before = f.before }
  | inr here ↦ let parts = some_or (p n) n m here.1 in let same : n ≡ m = parts.0 in record { below = omega arith; has = subst (λ j. p j ≡ true) same parts.1; before = λ k lt. first_none n p here.0 k (omega arith) }
]

first_within : (n : ℕ) (p : ℕ → Bool) (m k : ℕ) → first_place n p ≡ Some m → m < k → k ≤ n → first_place k p ≡ Some m
unfolding first_place
first_within zero p m k e lt le = absurd (omega arith)
first_within (suc n) p m k e lt le = elim (cases_eq k (suc n)) as (λ _. first_place k p ≡ Some m) [
  | inl same ↦ subst (λ j. first_place j p ≡ Some m) (sym same) e
  | inr differ ↦ elim (else_cases (first_place n p) (if p n then Some n else None) m e) as (λ _. first_place k p ≡ Some m) [
    | inl before ↦ first_within n p m k before lt (omega arith)
    | inr here ↦ let same : n ≡ m = (some_or (p n) n m here.1).0 in absurd (omega arith)
  ]
]

-- ---- the same frames

frame_same : (tci t kind k class c instance i : ℕ) (contents other : List ℕ) → tci ≡ t → kind ≡ k → class ≡ c → instance ≡ i → contents ≡ other → ◌≡◌ {A = Frame} (record { tci = tci; kind = kind; entity = record { class = class; instance = instance }; contents = contents }) (record { tci = t; kind = k; entity = record { class = c; instance = i }; contents = other })
frame_same tci t kind k class c instance i contents other p q r s u = cc

five : (a b c d e : Bool) → (a && b && c && d && e) ≡ true → (a ≡ true) × ((b ≡ true) × ((c ≡ true) × ((d ≡ true) × (e ≡ true))))
five true true true true true is = (refl, (refl, (refl, (refl, refl))))
five true true true true false is = absurd (true≢false (sym is))
five true true true false e is = absurd (true≢false (sym is))
five true true false d e is = absurd (true≢false (sym is))
five true false c d e is = absurd (true≢false (sym is))
five false b c d e is = absurd (true≢false (sym is))

same_frames : (f g : Frame) → is_same f (Some g) ≡ true → f ≡ g
same_frames f g is =
    let parts = five (f.tci == g.tci) (f.kind == g.kind) (f.entity.class == g.entity.class) (f.entity.instance == g.entity.instance) (bytes_eq f.contents g.contents) is in
    frame_same f.tci g.tci f.kind g.kind f.entity.class g.entity.class f.entity.instance g.entity.instance f.contents g.contents
    (eqb-true f.tci g.tci parts.0) (eqb-true f.kind g.kind parts.1.0) (eqb-true f.entity.class g.entity.class parts.1.1.0)
    (eqb-true f.entity.instance g.entity.instance parts.1.1.1.0) ((bytes_eq-Decides f.contents g.contents).0 parts.1.1.1.1)

-- ---- replies that are no breach

pub record Answer (lines : Lines) (tci place : ℕ) : Type 0 where
  pub frame : Frame
  pub here : reply_at lines place ≡ Some frame
  pub is : frame.tci ≡ tci

answer_by : (lines : Lines) (tci place : ℕ) (o : Option Frame) → reply_at lines place ≡ o → has_tci tci o ≡ true → Answer lines tci place
answer_by lines tci place None e is = absurd (true≢false (sym is))
answer_by lines tci place (Some f) e is = record { frame = f; here = e; is = eqb-true f.tci tci is }

answer : (lines : Lines) (tci place : ℕ) → answers lines tci place ≡ true → Answer lines tci place
unfolding answers
answer lines tci place is = answer_by lines tci place (reply_at lines place) refl is

unless_true : (b : Bool) (kind earlier : ℕ) → unless b kind earlier ≡ None → b ≡ true
unless_true true kind earlier e = refl
unless_true false kind earlier e = absurd (some_none e)
  where
    some_none : ◌≡◌ {A = Option Breach} (Some (record { kind = kind; earlier = earlier })) None → ⊥
    some_none h = cc

third_none : (lines : Lines) (place : ℕ) → breach_at lines place ≡ None → answered_otherwise lines place ≡ None
unfolding breach_at
third_none lines place e =
    let rest = (else_none (unasked lines place) (or_else (unfit lines place) (or_else (answered_otherwise lines place) (asked_otherwise lines place))) e).1 in
    let later = (else_none (unfit lines place) (or_else (answered_otherwise lines place) (asked_otherwise lines place)) rest).1 in
    (else_none (answered_otherwise lines place) (asked_otherwise lines place) later).0

-- a reply that is no breach is the first one of its run
like_first : (lines : Lines) (tci place asked first : ℕ) → breach_at lines place ≡ None → answers lines tci place ≡ true → asked_before lines tci place ≡ Some asked → first_reply lines tci asked place ≡ Some first → answers lines tci first ≡ true → reply_at lines place ≡ reply_at lines first
unfolding answered_otherwise
like_first lines tci place asked first clean is belongs at there =
    let a = answer lines tci place is in
    let b = answer lines tci first there in
    let before : asked_before lines a.frame.tci place ≡ Some asked = ap (λ t. asked_before lines t place) a.is ∙ belongs in
    let earlier : first_reply lines a.frame.tci asked place ≡ Some first = ap (λ t. first_reply lines t asked place) a.is ∙ at in
    let said : other_reply lines place (reply_at lines place) ≡ unless (is_same a.frame (reply_at lines first)) 3 (line_number lines first) =
    ap (other_reply lines place) a.here ∙ ap (other_by lines place a.frame) before ∙ ap (reply_unlike lines a.frame) earlier in
    let same : is_same a.frame (reply_at lines first) ≡ true = unless_true (is_same a.frame (reply_at lines first)) 3 (line_number lines first) (sym said ∙ third_none lines place clean) in
    a.here ∙ ap (λ (f : Frame). Some f) (same_frames a.frame b.frame (ap (is_same a.frame) (sym b.here) ∙ same)) ∙ sym b.here

-- ---- two replies of one run

under : (lines : Lines) (tci k place c asked : ℕ) → k < place → asked_before lines tci k ≡ Some c → asked_before lines tci place ≡ Some asked → c ≤ asked
unfolding asked_before
under lines tci k place c asked lt before belongs =
    let of_k = last_some k (λ j. asks lines tci j && is_one_span lines j k) c before in
    let of_place = last_some place (λ j. asks lines tci j && is_one_span lines j place) asked belongs in
    let lower : c < k = of_k.below in
    let span : is_one_span lines asked place ≡ true = (and_parts (asks lines tci asked) (is_one_span lines asked place) of_place.has).1 in
    elim (cases_lt asked c) as (λ _. c ≤ asked) [
      | inl above ↦ absurd (true≢false (sym (and_from (asks lines tci c) (is_one_span lines c place) (and_parts (asks lines tci c) (is_one_span lines c k) of_k.has).0
          (is_span lines c place (λ l from less. span_each lines asked place span l (omega arith) less))) ∙ of_place.after c above (omega arith)))
      | inr le ↦ le
    ]

of_same : (lines : Lines) (tci k first asked again : ℕ) (o : Option ℕ) → asked_before lines tci k ≡ o → k < first → asked_before lines tci first ≡ Some asked → asked ≤ again → is_one_run lines tci asked again ≡ true → is_of_run lines tci again o ≡ is_of_run lines tci asked o
of_same lines tci k first asked again None e lt belongs le run = refl
of_same lines tci k first asked again (Some c) e lt belongs le run = elim (cases_eq asked again) as (λ _. is_one_run lines tci c again ≡ is_one_run lines tci c asked) [
  | inl same ↦ ap (is_one_run lines tci c) (sym same)
  | inr differ ↦ goes_on lines tci asked again c (omega arith) run (under lines tci k first c asked lt e belongs)
]

-- the first reply of the run, by where it stands
by_first : (lines : Lines) (tci first second asked again : ℕ) (o : Option ℕ) → ((k : ℕ) → k < length lines → breach_at lines k ≡ None) → first < second → second < length lines → answers lines tci first ≡ true → answers lines tci second ≡ true → asked_before lines tci first ≡ Some asked → asked_before lines tci second ≡ Some again → is_one_run lines tci asked again ≡ true → first_place second (λ k. answers lines tci k && is_of_run lines tci again (asked_before lines tci k)) ≡ o → reply_at lines first ≡ reply_at lines second
unfolding first_reply
by_first lines tci first second asked again None clean lt end is later of_first of_second run e =
    absurd (true≢false (sym (and_from (answers lines tci first) (is_of_run lines tci again (asked_before lines tci first)) is (ap (is_of_run lines tci again) of_first ∙ run))
    ∙ first_none second (λ k. answers lines tci k && is_of_run lines tci again (asked_before lines tci k)) e first lt))
by_first lines tci first second asked again (Some q) clean lt end is later of_first of_second run e =
    let p : ℕ → Bool = λ k. answers lines tci k && is_of_run lines tci again (asked_before lines tci k) in
    let f = first_some second p q e in
    let there : answers lines tci q ≡ true = (and_parts (answers lines tci q) (is_of_run lines tci again (asked_before lines tci q)) f.has).0 in
    let like : reply_at lines second ≡ reply_at lines q = like_first lines tci second again q (clean second end) later of_second e there in
    elim (cases_eq q first) as (λ _. reply_at lines first ≡ reply_at lines second) [
      | inl same ↦ ap (reply_at lines) (sym same) ∙ sym like
      | inr differ ↦ elim (cases_lt q first) as (λ _. reply_at lines first ≡ reply_at lines second) [
        | inl before ↦ like_first lines tci first asked q (clean first (omega arith)) is of_first
            (sym (first_same first p (λ k. answers lines tci k && is_of_run lines tci asked (asked_before lines tci k))
            (λ k less. ap (λ b. answers lines tci k && b) (of_same lines tci k first asked again (asked_before lines tci k) refl less of_first (under lines tci first second asked again lt of_first of_second) run)))
            ∙ first_within second p q first e before (omega arith)) there ∙ sym like
        | inr after ↦ absurd (true≢false (sym (and_from (answers lines tci first) (is_of_run lines tci again (asked_before lines tci first)) is (ap (is_of_run lines tci again) of_first ∙ run))
            ∙ f.before first (omega arith)))
      ]
    ]

pub answered_once : (lines : Lines) → ((k : ℕ) → k < length lines → breach_at lines k ≡ None) → AnsweredOnce lines
answered_once lines clean = record {
  once = λ tci first second asked again le end is later of_first of_second run. elim (cases_eq first second) as (λ _. reply_at lines first ≡ reply_at lines second) [
    | inl same ↦ ap (reply_at lines) same
    | inr differ ↦ by_first lines tci first second asked again (first_place second (λ k. answers lines tci k && is_of_run lines tci again (asked_before lines tci k))) clean (omega arith) end is later of_first of_second run refl
  ];
}

-- ---- the verdict

none_of : (o : Option Breach) → is_some o ≡ false → o ≡ None
none_of None e = refl
none_of (Some b) e = absurd (true≢false e)

breach_not_ok : (lines : Lines) (place count number : ℕ) (o : Option Breach) → breach_at lines place ≡ o → is_some o ≡ true → breach_verdict lines place o ≡ verdicts.Ok count number → ⊥
breach_not_ok lines place count number None e is said = true≢false (sym is)
breach_not_ok lines place count number (Some b) e is said = cc

ok_clean : (lines : Lines) (count number : ℕ) (o : Option ℕ) → first_place (length lines) (λ k. is_some (breach_at lines k)) ≡ o → verdict_by lines o ≡ verdicts.Ok count number → (k : ℕ) → k < length lines → breach_at lines k ≡ None
ok_clean lines count number None e said k lt = none_of (breach_at lines k) (first_none (length lines) (λ k. is_some (breach_at lines k)) e k lt)
ok_clean lines count number (Some place) e said k lt = absurd (breach_not_ok lines place count number (breach_at lines place) refl (first_some (length lines) (λ k. is_some (breach_at lines k)) place e).has said)

pub ok_once : (lines : Lines) (count number : ℕ) → verdict lines ≡ verdicts.Ok count number → AnsweredOnce lines
unfolding verdict
ok_once lines count number said = answered_once lines (ok_clean lines count number (first_place (length lines) (λ k. is_some (breach_at lines k))) refl said)
