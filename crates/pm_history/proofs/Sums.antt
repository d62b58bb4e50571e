-- What one more event does to the marks and to the sums.
use Rattle.std.proofs.Common.{◌≡◌, ℕ, suc, ◌+◌, ◌<◌, ◌≤◌, min, true, false, [], ◌∷◌, length, refl, arith}
use Rattle.std.proofs.lemmas.Grind.{common_steps}
use Rattle.meter_spec.specs.Events.{Event, History, Asked, Grown, Ticked, creates}
use Rattle.meter_spec.specs.Marks.{is_mark, ticks_in, ticks_since_mark, last_mark, mark_before, is_tick_mark, count_in, counts, most, sum, current, interval}

pub ticks_lt : (h : History) → ticks_since_mark h < 900
unfolding ticks_since_mark
ticks_lt [] = omega arith
ticks_lt (Asked f ∷ before) = grind (arith, ticks_lt before)
ticks_lt (Grown i a n ∷ before) = grind (arith, ticks_lt before)
ticks_lt (Ticked ∷ before) = grind (arith, common_steps, ticks_lt before)

pub last_mark_le : (h : History) → last_mark h ≤ length h
unfolding last_mark
last_mark_le [] = omega arith
last_mark_le (e ∷ before) = grind (arith, last_mark_le before)

-- nothing counts from a place on that is past the end
nothing_from : (i a from to : ℕ) (h : History) → length h ≤ from → counts i a from to h ≡ 0
unfolding counts
nothing_from i a from to [] le = refl
nothing_from i a from to (e ∷ before) le = grind (arith, common_steps, nothing_from i a from to before (omega arith))

-- up to a place past the end counts as much as up to the end
counts_to : (i a from to other : ℕ) (h : History) → length h ≤ to → length h ≤ other → counts i a from to h ≡ counts i a from other h
unfolding counts
counts_to i a from to other [] le le_other = refl
counts_to i a from to other (e ∷ before) le le_other = grind (arith, common_steps, counts_to i a from to other before (omega arith) (omega arith))

counts_step : (i a from to : ℕ) (e : Event) (h : History) → creates i e h ≡ false → from ≤ length h → length h < to → counts i a from to (e ∷ h) ≡ counts i a from (length h) h + count_in i a e
unfolding counts
counts_step i a from to e h other le lt = grind (arith, common_steps, other, counts_to i a from to (length h) h (omega arith) (omega arith))

counts_past : (i a from to : ℕ) (e : Event) (h : History) → creates i e h ≡ false → to ≤ length h → counts i a from to (e ∷ h) ≡ counts i a from to h
unfolding counts
counts_past i a from to e h other le = grind (arith, common_steps, other)

counts_created : (i a from to : ℕ) (e : Event) (h : History) → creates i e h ≡ true → counts i a from to (e ∷ h) ≡ 0
unfolding counts
counts_created i a from to e h made = grind (arith, made)

pub current_step : (i a : ℕ) (e : Event) (h : History) → is_mark e h ≡ false → creates i e h ≡ false → current i a (e ∷ h) ≡ min most (current i a h + count_in i a e)
unfolding current sum last_mark
current_step i a e h unmarked other = rw unmarked (rw (counts_step i a (last_mark h) (suc (length h)) e h other (last_mark_le h) (omega arith)) (grind arith))

pub current_marked : (i a : ℕ) (e : Event) (h : History) → is_mark e h ≡ true → current i a (e ∷ h) ≡ 0
unfolding current sum last_mark
current_marked i a e h marked = rw marked (rw (nothing_from i a (suc (length h)) (suc (length h)) (e ∷ h) (omega arith)) refl)

pub current_created : (i a : ℕ) (e : Event) (h : History) → creates i e h ≡ true → current i a (e ∷ h) ≡ 0
unfolding current sum
current_created i a e h made = rw (counts_created i a (last_mark (e ∷ h)) (suc (length h)) e h made) refl

pub interval_same : (i a : ℕ) (e : Event) (h : History) → is_mark e h ≡ false → creates i e h ≡ false → interval i a (e ∷ h) ≡ interval i a h
unfolding interval sum last_mark mark_before is_tick_mark
interval_same i a e h unmarked other = rw unmarked (rw (counts_past i a (mark_before h) (last_mark h) e h other (last_mark_le h)) refl)

pub interval_marked : (i a : ℕ) (h : History) → is_mark Ticked h ≡ true → creates i Ticked h ≡ false → interval i a (Ticked ∷ h) ≡ current i a h
unfolding interval current sum last_mark mark_before is_tick_mark
interval_marked i a h marked other = rw marked (rw (counts_step i a (last_mark h) (suc (length h)) Ticked h other (last_mark_le h) (omega arith)) (grind arith))

pub interval_begun : (i a : ℕ) (e : Event) (h : History) → is_mark e h ≡ true → ticks_in e ≡ 0 → interval i a (e ∷ h) ≡ 0
unfolding interval is_tick_mark
interval_begun i a e h marked none = rw marked (rw none refl)

pub interval_created : (i a : ℕ) (e : Event) (h : History) → creates i e h ≡ true → interval i a (e ∷ h) ≡ 0
unfolding interval sum
interval_created i a e h made = rw (counts_created i a (mark_before (e ∷ h)) (last_mark (e ∷ h)) e h made) (grind arith)
