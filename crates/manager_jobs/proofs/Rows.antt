-- The table while an audit reads its rows, and that what a row comes to doesn't hang on the job.
use Rattle.std.proofs.Common.{◌≡◌, ℕ, ◌+◌, ◌<◌, ◌≤◌, refl, sym, ap, subst, ◌∙◌, arith}
use Rattle.std.proofs.Common.{Bool, true, false, nat_le, is_some}
use Rattle.std.proofs.Common.{List, [], ◌∷◌, ◌++◌, length, Option, Some, None}
use Rattle.std.proofs.lemmas.List.{length-append}
use Rattle.omci_types.specs.declared.EntityId.{EntityId}
use Rattle.omci_types.specs.declared.Frame.{Frame}
use Rattle.message_spec.specs.declared.Response.{Response}
use Rattle.message_spec.specs.declared.Response.TheVariants as response
use Rattle.alarm_spec.specs.declared.TheConstants.{MOST_WAITING}
use Rattle.alarm_spec.specs.declared.BadRow.{BadRow}
use Rattle.alarm_spec.specs.declared.BadRow.TheVariants as bad
use Rattle.alarm_spec.specs.declared.TakenAlarm.TheVariants.{Unaudited, Repeat, Taken}
use Rattle.alarm_spec.specs.Alarms.{Alarm, Alarms, with_bitmap, with_alarm, after}
use Rattle.alarm_spec.specs.Alarms.{entity_in, bitmap_in}
use Rattle.alarm_spec.specs.Table.{Table, take_answer, taken_as, after_take, noticed, with_last}
use Rattle.alarm_spec.specs.Table.{is_gathering, is_full, begun, gathered, row_fault, with_row}
use Rattle.alarm_spec.specs.Table.{unless_bad, after_row, finished}
use Rattle.alarm_laws.proofs.Maps.{length_with_bitmap}
use Rattle.alarm_laws.proofs.Answers.{answer_tested, room_says}
use Rattle.manager_spec.specs.Manager.{Stage, AskingAlarms, GatheringRows, Manager}
use Rattle.manager_spec.specs.Resync.{with_job}
use Rattle.manager_spec.specs.Audit.{with_table, rows_unless_all, rows_on, audit_begun}
use Rattle.manager_spec.specs.Audit.{row_by, row_came}
use Rattle.manager_spec.specs.Steps.{alarms_by, row_by_reply, job_by}
use Rattle.manager_jobs.specs.declared.stage.Stage as code
use Rattle.manager_jobs.specs.declared.stage.Stage.TheVariants as stage
use Rattle.manager_jobs.specs.Stages.{IsReading, IsJob}
use Rattle.manager_jobs.proofs.Gathered.{length_inserted}

-- ---- how many rows there are

length_after : (rows : Alarms) (notices : List Alarm)
    → length (after rows notices) ≤ length rows + length notices
length_after rows [] = omega arith
length_after rows (one ∷ rest) =
    omega
    (arith, length_with_bitmap one.0 one.1 rows, length_after (with_bitmap one.0 one.1 rows) rest)

-- the table after an audit has fewer rows than a report can tell
pub rows_fit : (t n : Table) (k : ℕ)
    → IsReading 65535 t → n ≡ finished t → k ≡ length n.rows → k ≤ 65790
unfolding finished
rows_fit t n k reading e is =
    let most : length (after (gathered t) t.waiting) ≤ length (gathered t) + length t.waiting =
    length_after (gathered t) t.waiting in
    let few : length (gathered t) ≤ 65535 = reading.few in
    let waiting : length t.waiting ≤ 255 = reading.waiting in
    let count : k ≡ length (after (gathered t) t.waiting) = is ∙ ap (λ t. length t.rows) e in
    omega (arith, most, few, waiting, count)

-- ---- the table while rows are read

pub reading_begun : (t n : Table) → n ≡ begun t → IsReading 0 n
unfolding begun
reading_begun t n e =
    subst (λ n. IsReading 0 n) (sym e)
    (record { gathering = refl; few = omega arith; waiting = omega arith })

pub reading_row : (row : List ℕ) (next : ℕ) (t n : Table)
    → IsReading next t
    → row_fault row (gathered t) ≡ None
    → n ≡ after_row row t
    → IsReading (next + 1) n
unfolding after_row with_row with_alarm
reading_row row next t n reading good e =
    let more : length (with_row row (gathered t)) ≤ length (gathered t) + 1 =
    length_inserted (gathered t) (entity_in row) (bitmap_in row) in
    let few : length (gathered t) ≤ next = reading.few in
    subst (λ n. IsReading (next + 1) n)
    (sym (e ∙ ap (λ bad. unless_bad bad (with_row row (gathered t)) t) good))
    (record {
      gathering = refl;
      few = omega (arith, more, few);
      waiting = reading.waiting;
    })

reading_noticed : (g : Option Alarms) (one : Alarm) (number next : ℕ) (t : Table)
    → g ≡ t.gathering
    → length t.waiting < MOST_WAITING
    → IsReading next t
    → IsReading next (with_last number (noticed g one t))
reading_noticed None one number next t e room reading = absurd (none e reading.gathering)
  where
    none : {A : Type 0} {o : Option A} → None ≡ o → is_some o ≡ true → ⊥
    none refl is = cc
reading_noticed (Some rows) one number next t e room reading =
    let longer : length (t.waiting ++ one ∷ []) ≡ length t.waiting + 1 =
    length-append t.waiting (one ∷ []) in
    record {
      gathering = reading.gathering;
      few = reading.few;
      waiting = omega (arith, longer, room);
    }

reading_taken : (one : EntityId) (bitmap : List ℕ) (number next : ℕ) (t : Table)
    → take_answer number t ≡ Taken
    → IsReading next t
    → IsReading next (after_take one bitmap number t)
unfolding after_take
reading_taken one bitmap number next t taken reading =
    let full : is_full t ≡ false = ((answer_tested number t).taken.0 taken).3 in
    let room : length t.waiting < MOST_WAITING =
    room_says (is_gathering t) (length t.waiting) full reading.gathering in
    subst (λ answer. IsReading next (taken_as answer (one, bitmap) number t)) (sym taken)
    (reading_noticed t.gathering (one, bitmap) number next t refl room reading)

-- ---- the job's rows after a notice that was not lost

pub job_unaudited : (job : Option code.Stage) (one : EntityId) (bitmap : List ℕ) (number : ℕ)
    (t n : Table)
    → n ≡ after_take one bitmap number t
    → Unaudited ≡ take_answer number t
    → IsJob job t
    → IsJob job n
unfolding after_take
job_unaudited job one bitmap number t n e is h =
    subst (λ n. IsJob job n)
    (sym (e ∙ ap (λ answer. taken_as answer (one, bitmap) number t) (sym is))) h

pub job_repeat : (job : Option code.Stage) (one : EntityId) (bitmap : List ℕ) (number : ℕ)
    (t n : Table)
    → n ≡ after_take one bitmap number t
    → Repeat ≡ take_answer number t
    → IsJob job t
    → IsJob job n
unfolding after_take
job_repeat job one bitmap number t n e is h =
    subst (λ n. IsJob job n)
    (sym (e ∙ ap (λ answer. taken_as answer (one, bitmap) number t) (sym is))) h

pub job_taken : (job : Option code.Stage) (one : EntityId) (bitmap : List ℕ) (number : ℕ)
    (t n : Table)
    → n ≡ after_take one bitmap number t
    → Taken ≡ take_answer number t
    → IsJob job t
    → IsJob job n
job_taken None one bitmap number t n e is h = tt
job_taken (Some (stage.Probing high low)) one bitmap number t n e is h = tt
job_taken (Some stage.Asking) one bitmap number t n e is h = tt
job_taken (Some (stage.Gathering gather next)) one bitmap number t n e is h = h
job_taken (Some stage.AskingAlarms) one bitmap number t n e is h = tt
job_taken (Some (stage.GatheringRows expected next)) one bitmap number t n e is h =
    let kept = reading_taken one bitmap number next t (sym is) h.1 in
    (h.0, subst (λ n. IsReading next n) (sym e) kept)
job_taken (Some (stage.StartingImage order asked image)) one bitmap number t n e is h = h
job_taken (Some (stage.SendingImage order outbox resent)) one bitmap number t n e is h = h
job_taken (Some (stage.EndingImage order outbox busy)) one bitmap number t n e is h = h
job_taken (Some (stage.DelayingEnd order outbox busy)) one bitmap number t n e is h = h

-- ---- the job that runs is replaced

rows_anyhow : (job : Option Stage) (expected next : ℕ) (m : Manager)
    → rows_on expected next (with_job job m) ≡ rows_on expected next m
unfolding rows_on
rows_anyhow job expected next m = by (nat_le expected next)
  where
    by : (all : Bool)
        → rows_unless_all all expected next (with_job job m) ≡ rows_unless_all all expected next m
    by true = refl
    by false = refl

row_anyhow : (job : Option Stage) (expected next : ℕ) (row : List ℕ) (m : Manager)
    → row_came expected next row (with_job job m) ≡ row_came expected next row m
row_anyhow job expected next row m = by (row_fault row (gathered m.table))
  where
    by : (o : Option BadRow)
        → row_by o expected next row (with_job job m) ≡ row_by o expected next row m
    by None = rows_anyhow job expected (next + 1) (with_table (after_row row m.table) m)
    by (Some bad.Empty) = refl
    by (Some (bad.Repeated one)) = refl

-- the reply that says how many rows there are, where the job was taken out before
pub alarms_came : (m n : Manager) (reply : Option Response) (f : Frame) (count : ℕ)
    → m.job ≡ Some AskingAlarms
    → reply ≡ Some (response.Alarms count)
    → n ≡ audit_begun count (with_job None m)
    → n ≡ job_by m.job reply f m
alarms_came m n reply f count job is e =
    e ∙ rows_anyhow None count 0 (with_table (begun m.table) m)
    ∙ sym (ap (λ o. job_by o reply f m) job ∙ ap (λ o. alarms_by o f m) is)

-- the reply with a row, where the job was taken out before
pub next_row_came : (m n : Manager) (reply : Option Response) (f : Frame)
    (expected next : ℕ) (row : List ℕ)
    → m.job ≡ Some (GatheringRows expected next)
    → reply ≡ Some (response.AlarmsNext row)
    → n ≡ row_came expected next row (with_job None m)
    → n ≡ job_by m.job reply f m
next_row_came m n reply f expected next row job is e =
    e ∙ row_anyhow None expected next row m
    ∙ sym
    (ap (λ o. job_by o reply f m) job
    ∙ ap (λ o. row_by_reply o expected next f m) is)
