-- A unit and a manager step by step.
use Rattle.std.proofs.Common.{◌≡◌, ℕ, suc, ◌+◌, ◌<◌, Bool, true, false, cond, List, [], ◌∷◌, ◌++◌, length, take, Option, Some, None, is_some, option_map, refl, sym, ap, subst, ◌∙◌, arith}
use Rattle.std.specs.Prelude.{◌==◌, ◌&&◌, not, nat_le, slice_get, IfSome, unwrap_or}
use Rattle.std.proofs.lemmas.Bool.Decides.{nat_tests}
use Rattle.std.proofs.lemmas.List.{take_all}
use Rattle.omci_types.specs.declared.EntityId.{EntityId}
use Rattle.alarm_spec.specs.declared.TheConstants.{MOST_WAITING}
use Rattle.alarm_spec.specs.declared.TakenAlarm.{TakenAlarm}
use Rattle.alarm_spec.specs.declared.TakenAlarm.TheVariants.{Unaudited, Repeat, Gap, Overflow, Taken}
use Rattle.alarm_spec.specs.Alarms.{Alarm, Alarms, with_bitmap, after, row_of, row_at, IsWhole}
use Rattle.alarm_spec.specs.Log.{Log, alarm_number_after, unless_same, is_same, change, after_snapshot}
use Rattle.alarm_spec.specs.Table.{Table, first_answer, is_full, is_repeat, wanted, take_answer, taken_as, with_last, noticed, after_take, begun, gathered, row_fault, after_row, finished}
use Rattle.alarm_laws.specs.Steps.{after_changes, told, notices_of, take_given, after_notices, IsInStep, Audits}
use Rattle.alarm_laws.proofs.Answers.{next_is_no_repeat, right_is}
use Rattle.alarm_laws.proofs.Rows.{Next, next_row, good_row, after_good}

pub after_append : (alarms : Alarms) (front back : List Alarm) → after alarms (front ++ back) ≡ after (after alarms front) back
after_append alarms [] back = refl
after_append alarms (one ∷ rest) back = after_append (with_bitmap one.0 one.1 alarms) rest back

told_same : (b : Bool) (one : EntityId) (bitmap : List ℕ) (log : Log) → after log.alarms (told one (unless_same b one bitmap log).notice) ≡ (unless_same b one bitmap log).log.alarms
told_same true one bitmap log = refl
told_same false one bitmap log = refl

told_map : (one : EntityId) (bitmap : List ℕ) (log : Log) → after log.alarms (told one (change one bitmap log).notice) ≡ (change one bitmap log).log.alarms
unfolding change
told_map one bitmap log = told_same (is_same one bitmap log) one bitmap log

pub notices_map : (changes : List Alarm) (log : Log) → after log.alarms (notices_of changes log) ≡ (after_changes changes log).alarms
notices_map [] log = refl
notices_map (one ∷ rest) log =
    let next : Log = (change one.0 one.1 log).log in
    after_append log.alarms (told one.0 (change one.0 one.1 log).notice) (notices_of rest next)
    ∙ ap (λ (a : Alarms). after a (notices_of rest next)) (told_map one.0 one.1 log)
    ∙ notices_map rest next

-- a notice with the number that is wanted is taken where it has room
all_pass : (known repeated right full : Bool) (gap : TakenAlarm) → known ≡ true → repeated ≡ false → right ≡ true → full ≡ false → first_answer ((not known, Unaudited) ∷ (repeated, Repeat) ∷ (not right, gap) ∷ (full, Overflow) ∷ []) ≡ Taken
all_pass known repeated right full gap k r w f =
    ap (λ b. cond (not b) Unaudited (cond repeated Repeat (cond (not right) gap (cond full Overflow Taken)))) k
    ∙ ap (λ b. cond b Repeat (cond (not right) gap (cond full Overflow Taken))) r
    ∙ ap (λ b. cond (not b) gap (cond full Overflow Taken)) w
    ∙ ap (λ b. cond b Overflow Taken) f

pub taken_when : (number : ℕ) (t : Table) → t.audited ≡ true → number ≡ wanted t → is_full t ≡ false → take_answer number t ≡ Taken
unfolding take_answer
taken_when number t audited is room =
    all_pass t.audited (is_repeat number t) (number == wanted t) (is_full t) (Gap (wanted t) number) audited (next_is_no_repeat number t.last is) (right_is number (wanted t) is) room

pub after_taken : (one : EntityId) (bitmap : List ℕ) (number : ℕ) (t : Table) → t.audited ≡ true → number ≡ wanted t → is_full t ≡ false → after_take one bitmap number t ≡ with_last number (noticed t.gathering (one, bitmap) t)
unfolding after_take
after_taken one bitmap number t audited is room = ap (λ a. taken_as a (one, bitmap) number t) (taken_when number t audited is room)

-- in step
step_by : (b : Bool) (one : EntityId) (bitmap : List ℕ) (log : Log) (t : Table) → IsInStep log t → IsInStep (unless_same b one bitmap log).log (take_given one (unless_same b one bitmap log).notice t)
step_by true one bitmap log t h = h
step_by false one bitmap log t h =
    let number : ℕ = alarm_number_after log.number in
    let room : is_full t ≡ false = ap (λ (o : Option Alarms). is_some o && nat_le MOST_WAITING (length t.waiting)) h.no_gathering in
    let taken : after_take one bitmap number t ≡ record t { rows = with_bitmap one bitmap t.rows; last = number } =
    after_taken one bitmap number t h.audited (ap alarm_number_after (sym h.last)) room ∙ ap (λ (o : Option Alarms). with_last number (noticed o (one, bitmap) t)) h.no_gathering in
    subst (λ (u : Table). IsInStep (record { alarms = with_bitmap one bitmap log.alarms; number = number }) u) (sym taken)
    (record { audited = h.audited; last = refl; no_gathering = h.no_gathering; rows = ap (with_bitmap one bitmap) h.rows })

pub step : (one : EntityId) (bitmap : List ℕ) (log : Log) (t : Table) → IsInStep log t → IsInStep (change one bitmap log).log (take_given one (change one bitmap log).notice t)
unfolding change
step one bitmap log t h = step_by (is_same one bitmap log) one bitmap log t h

pub steps : (changes : List Alarm) (log : Log) (t : Table) → IsInStep log t → IsInStep (after_changes changes log) (after_notices changes log t)
steps [] log t h = h
steps (one ∷ rest) log t h = steps rest (change one.0 one.1 log).log (take_given one.0 (change one.0 one.1 log).notice t) (step one.0 one.1 log t h)

-- an audit
pub audit_begins : (log : Log) (t : Table) → Audits log.alarms 0 (after_snapshot log) (begun t)
unfolding begun
audit_begins log t = record { audited = refl; last = refl; gathering = refl; waiting = refl }

no_room_left : (n : ℕ) → n < MOST_WAITING → nat_le MOST_WAITING n ≡ false
no_room_left n lt = grind (arith, nat_tests, lt)

noticed_by : (b : Bool) (snapshot : Alarms) (read : ℕ) (one : EntityId) (bitmap : List ℕ) (log : Log) (t : Table) → Audits snapshot read log t → length t.waiting < MOST_WAITING → Audits snapshot read (unless_same b one bitmap log).log (take_given one (unless_same b one bitmap log).notice t)
noticed_by true snapshot read one bitmap log t h lt = h
noticed_by false snapshot read one bitmap log t h lt =
    let number : ℕ = alarm_number_after log.number in
    let room : is_full t ≡ false = ap (λ (o : Option Alarms). is_some o && nat_le MOST_WAITING (length t.waiting)) h.gathering ∙ no_room_left (length t.waiting) lt in
    let taken : after_take one bitmap number t ≡ record t { waiting = t.waiting ++ (one, bitmap) ∷ []; last = number } =
    after_taken one bitmap number t h.audited (ap alarm_number_after (sym h.last)) room ∙ ap (λ (o : Option Alarms). with_last number (noticed o (one, bitmap) t)) h.gathering in
    subst (λ (u : Table). Audits snapshot read (record { alarms = with_bitmap one bitmap log.alarms; number = number }) u) (sym taken)
    (record { audited = h.audited; last = refl; gathering = h.gathering; waiting = after_append snapshot t.waiting ((one, bitmap) ∷ []) ∙ ap (with_bitmap one bitmap) h.waiting })

pub audit_notices : (snapshot : Alarms) (read : ℕ) (one : EntityId) (bitmap : List ℕ) (log : Log) (t : Table) → Audits snapshot read log t → length t.waiting < MOST_WAITING → Audits snapshot read (change one bitmap log).log (take_given one (change one bitmap log).notice t)
unfolding change
audit_notices snapshot read one bitmap log t h lt = noticed_by (is_same one bitmap log) snapshot read one bitmap log t h lt

read_rows : (read : ℕ) (snapshot : Alarms) (log : Log) (t : Table) → Audits snapshot read log t → gathered t ≡ take read snapshot
read_rows read snapshot log t h = ap (λ (o : Option Alarms). unwrap_or o []) h.gathering

read_one : (snapshot : Alarms) (read : ℕ) (log : Log) (t : Table) → Audits snapshot read log t → (o : Option Alarm) → IfSome o (Next snapshot read)
    → IfSome (option_map row_of o) (λ row. (row_fault row (gathered t) ≡ None) × Audits snapshot (suc read) log (after_row row t))
read_one snapshot read log t h None next = tt
read_one snapshot read log t h (Some one) next =
    let has : gathered t ≡ take read snapshot = read_rows read snapshot log t h in (
      ap (row_fault (row_of one)) has ∙ good_row (take read snapshot) one next.raised next.under,
      subst (λ (u : Table). Audits snapshot (suc read) log u) (sym (after_good (take read snapshot) one t next.raised next.under has))
          (record { audited = h.audited; last = h.last; gathering = ap (λ (l : Alarms). Some l) (sym next.more); waiting = h.waiting }),
    )

pub audit_reads : (snapshot : Alarms) (read : ℕ) (log : Log) (t : Table) → IsWhole snapshot → Audits snapshot read log t
    → IfSome (row_at read snapshot) (λ row. (row_fault row (gathered t) ≡ None) × Audits snapshot (read + 1) log (after_row row t))
unfolding row_at
audit_reads snapshot read log t whole h =
    subst (λ n. IfSome (option_map row_of (slice_get snapshot read)) (λ row. (row_fault row (gathered t) ≡ None) × Audits snapshot n log (after_row row t))) {x = suc read} {y = read + 1} (omega arith)
    (read_one snapshot read log t h (slice_get snapshot read) (next_row snapshot read whole.ascending whole.raised))

pub audit_ends : (snapshot : Alarms) (log : Log) (t : Table) → Audits snapshot (length snapshot) log t → IsInStep log (finished t)
unfolding finished
audit_ends snapshot log t h = record {
  audited = h.audited;
  last = h.last;
  no_gathering = refl;
  rows = ap (λ (g : Alarms). after g t.waiting) (read_rows (length snapshot) snapshot log t h ∙ take_all (length snapshot) snapshot (omega arith)) ∙ h.waiting;
}
