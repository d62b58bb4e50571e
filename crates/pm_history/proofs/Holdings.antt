-- What one more event does to a monitor.
use Rattle.std.proofs.Common.{◌≡◌, ◌≢◌, ℕ, ◌+◌, ◌-◌, ◌<◌, ◌≤◌, min, true, false, List, ◌∷◌, refl, sym, ap, ◌∙◌, arith}
use Rattle.std.proofs.lemmas.Grind.{common_steps}
use Rattle.meter_spec.specs.declared.Monitor.{Monitor}
use Rattle.meter_spec.specs.Events.{Event, History, Grown, Ticked, creates, synchronizes}
use Rattle.meter_spec.specs.Marks.{is_mark, ticks_in, count_in, most, current, sum, interval, tick_marks}
use Rattle.meter_spec.specs.Meter.{setting, setting_in, monitor_with}
use Rattle.pm_history.specs.Steps.{fresh, marked, synchronized, grown}
use Rattle.pm_history.proofs.Sums.{current_step, current_marked, current_created, interval_same, interval_marked, interval_begun, interval_created}
use Rattle.pm_history.proofs.Rows.{row_same, row_zero, row_at, row_set}

current_most : (i a : ℕ) (h : History) → min most (current i a h + 0) ≡ current i a h
unfolding current sum
current_most i a h = omega arith

count_here : (i a n : ℕ) → count_in i a (Grown i a n) ≡ n
count_here i a n = grind (arith, common_steps)

pub count_else : (i a b n : ℕ) → a ≢ b → count_in i b (Grown i a n) ≡ 0
count_else i a b n differ = grind (arith, common_steps, differ)

-- two monitors with equal fields
monitor_same : (number other : ℕ) (setting one running row finished past : List ℕ) → number ≡ other → setting ≡ one → running ≡ row → finished ≡ past → ◌≡◌ {A = Monitor} (record { number = number; setting = setting; running = running; finished = finished }) (record { number = other; setting = one; running = row; finished = past })
monitor_same number other setting one running row finished past a b c d = cc

-- an event that is no mark, creates no such monitor and counts nothing there
pub with_same : (i : ℕ) (e : Event) (h : History) → is_mark e h ≡ false → creates i e h ≡ false → synchronizes e h ≡ false → ((a : ℕ) → 3 ≤ a → a < 17 → count_in i a e ≡ 0) → monitor_with i (e ∷ h) ≡ monitor_with i h
unfolding monitor_with tick_marks setting
with_same i e h unmarked other untimed none =
    monitor_same _ _ _ _ _ _ _ _ (grind (arith, unmarked, other, untimed)) (grind (arith, other))
    (row_same 14 3 (λ a. current i a (e ∷ h)) (λ a. current i a h) (λ a le lt. current_step i a e h unmarked other ∙ ap (λ n. min most (current i a h + n)) (none a le lt) ∙ current_most i a h))
    (row_same 14 3 (λ a. interval i a (e ∷ h)) (λ a. interval i a h) (λ a le lt. interval_same i a e h unmarked other))

-- a tick that is a mark
pub with_marked : (i : ℕ) (h : History) → is_mark Ticked h ≡ true → creates i Ticked h ≡ false → synchronizes Ticked h ≡ false → monitor_with i (Ticked ∷ h) ≡ marked 1 (monitor_with i h)
unfolding monitor_with tick_marks setting marked
with_marked i h is other untimed =
    monitor_same _ _ _ _ _ _ _ _ (grind (arith, is, other, untimed)) (grind (arith, other))
    (row_zero 14 3 (λ a. current i a (Ticked ∷ h)) (λ a le lt. current_marked i a Ticked h is))
    (row_same 14 3 (λ a. interval i a (Ticked ∷ h)) (λ a. current i a h) (λ a le lt. interval_marked i a h is other))

-- a synchronize time
pub with_timed : (i : ℕ) (e : Event) (h : History) → is_mark e h ≡ true → ticks_in e ≡ 0 → creates i e h ≡ false → synchronizes e h ≡ true → monitor_with i (e ∷ h) ≡ synchronized (monitor_with i h)
unfolding monitor_with tick_marks setting
with_timed i e h is none other timed =
    monitor_same _ _ _ _ _ _ _ _ (grind (arith, timed)) (grind (arith, other))
    (row_zero 14 3 (λ a. current i a (e ∷ h)) (λ a le lt. current_marked i a e h is))
    (row_zero 14 3 (λ a. interval i a (e ∷ h)) (λ a le lt. interval_begun i a e h is none))

-- its creation
pub with_created : (i : ℕ) (e : Event) (h : History) → creates i e h ≡ true → monitor_with i (e ∷ h) ≡ fresh (setting_in e)
unfolding monitor_with tick_marks setting
with_created i e h made =
    monitor_same _ _ _ _ _ _ _ _ (grind (arith, made)) (grind (arith, made))
    (row_zero 14 3 (λ a. current i a (e ∷ h)) (λ a le lt. current_created i a e h made))
    (row_zero 14 3 (λ a. interval i a (e ∷ h)) (λ a le lt. interval_created i a e h made))

pub unmarked_count : (i a n : ℕ) (h : History) → is_mark (Grown i a n) h ≡ false
unfolding is_mark
unmarked_count i a n h = refl

pub made_by_none : (i j a n : ℕ) (h : History) → creates i (Grown j a n) h ≡ false
unfolding creates
made_by_none i j a n h = refl

pub timed_by_none : (j a n : ℕ) (h : History) → synchronizes (Grown j a n) h ≡ false
unfolding synchronizes
timed_by_none j a n h = refl

-- a count for a counter of it
pub with_grown : (i a n : ℕ) (h : History) → 3 ≤ a → a < 17 → monitor_with i (Grown i a n ∷ h) ≡ grown (a - 3) n (monitor_with i h)
unfolding monitor_with tick_marks setting grown
with_grown i a n h le lt =
    let same : 3 + (a - 3) ≡ a = omega arith in
    monitor_same _ _ _ _ _ _ _ _
    (grind (arith, unmarked_count i a n h, made_by_none i i a n h, timed_by_none i a n h))
    (grind (arith, made_by_none i i a n h))
    (sym (row_set 14 3 (a - 3) _ (λ b. current i b h) (λ b. current i b (Grown i a n ∷ h)) (omega arith)
    (ap (λ b. current i b (Grown i a n ∷ h)) same ∙ current_step i a (Grown i a n) h (unmarked_count i a n h) (made_by_none i i a n h)
    ∙ ap (λ m. min most (current i a h + m)) (count_here i a n) ∙ ap (λ m. min most (m + n)) (sym (row_at 14 3 (a - 3) (λ b. current i b h) (omega arith) ∙ ap (λ b. current i b h) same)))
    (λ b le_b lt_b differ. current_step i b (Grown i a n) h (unmarked_count i a n h) (made_by_none i i a n h)
    ∙ ap (λ m. min most (current i b h + m)) (count_else i a b n (λ is. differ (sym is ∙ sym same))) ∙ current_most i b h)))
    (row_same 14 3 (λ b. interval i b (Grown i a n ∷ h)) (λ b. interval i b h) (λ b le_b lt_b. interval_same i b (Grown i a n) h (unmarked_count i a n h) (made_by_none i i a n h)))
