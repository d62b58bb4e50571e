-- What a frame does to the counters.
use Rattle.std.proofs.Common.{◌≡◌, ◌≢◌, ℕ, Bool, true, false, ◌∷◌, take, Option, Some, None, refl, sym, ap, subst, ◌∙◌, inl, inr, arith}
use Rattle.std.specs.Prelude.{if◌then◌else◌, ◌==◌, ◌&&◌, not, is_some}
use Rattle.std.specs.Option.{option_map}
use Rattle.std.proofs.lemmas.Bool.{cases_eq}
use Rattle.std.proofs.lemmas.Grind.{common_steps}
use Rattle.omci_types.specs.declared.Frame.{Frame}
use Rattle.omci_types.specs.declared.Priority.{Priority}
use Rattle.omci_types.specs.declared.Priority.TheVariants.{Low, High}
use Rattle.tci_spec.specs.Tci.{is_low, priority_of}
use Rattle.meter_spec.specs.declared.Monitor.{Monitor}
use Rattle.meter_spec.specs.declared.Command.{Command}
use Rattle.meter_spec.specs.declared.Command.TheVariants.{Create, Delete, Get, GetCurrent, SynchronizeTime}
use Rattle.meter_spec.specs.Events.{History, Asked, command_of, is_repeat, carried, creates, synchronizes, is_there, is_there_after, is_created_by, is_synchronized_by, is_monitor}
use Rattle.meter_spec.specs.Marks.{is_mark, ticks_since_mark}
use Rattle.meter_spec.specs.Replies.{reply_to}
use Rattle.meter_spec.specs.Meter.{Meter, monitor_with, monitor_of, kept, kept_by, meter_of}
use Rattle.pm_history.specs.Steps.{fresh, synchronized, synchronized_all, kept_for, keep_in, with_reply, with_monitor, with_monitors, monitor_at, carried_out, changed, created, deleted, timed, after_found, after_asked, asked}
use Rattle.pm_history.proofs.Holdings.{with_timed, with_created}
use Rattle.pm_history.proofs.Fours.{four, four_same, put_four}
use Rattle.pm_history.proofs.Passing.{meter_same, mapped}
use Rattle.pm_history.proofs.Counting.{found, of_same, none_of, some_of, there_some, is_monitor_there}
use Rattle.pm_history.proofs.Asking.{has_kept, tci_in, kept_for_meter, reply_is, reply_tci}

there_is : (j : ℕ) (f : Frame) (h : History) (c : Option Command) → carried f h ≡ c → is_there j (Asked f ∷ h) ≡ is_there_after c (f.entity.instance == j) (is_monitor j) (is_there j h)
unfolding is_there
there_is j f h c is = ap (λ x. is_there_after x (f.entity.instance == j) (is_monitor j) (is_there j h)) is

creates_is : (j : ℕ) (f : Frame) (h : History) (c : Option Command) → carried f h ≡ c → creates j (Asked f) h ≡ is_created_by c (f.entity.instance == j) (is_monitor j) (is_there j h)
unfolding creates
creates_is j f h c is = ap (λ x. is_created_by x (f.entity.instance == j) (is_monitor j) (is_there j h)) is

timed_is : (f : Frame) (h : History) (c : Option Command) → carried f h ≡ c → synchronizes (Asked f) h ≡ is_synchronized_by c f.entity.instance
unfolding synchronizes
timed_is f h c is = ap (λ x. is_synchronized_by x f.entity.instance) is

mark_is : (f : Frame) (h : History) → is_mark (Asked f) h ≡ synchronizes (Asked f) h
unfolding is_mark
mark_is f h = refl

ticks_same : (f : Frame) (h : History) → synchronizes (Asked f) h ≡ false → ticks_since_mark h ≡ ticks_since_mark (Asked f ∷ h)
unfolding ticks_since_mark
ticks_same f h untimed = rw untimed (omega arith)

ticks_begun : (f : Frame) (h : History) → synchronizes (Asked f) h ≡ true → 0 ≡ ticks_since_mark (Asked f ∷ h)
unfolding ticks_since_mark
ticks_begun f h timed = rw timed refl

kept_is : (p : Priority) (f : Frame) (h : History) (c : Option Command) → carried f h ≡ c → kept p (Asked f ∷ h) ≡ kept_by p (Asked f) c (monitor_of f.entity.instance h) (kept p h)
unfolding kept
kept_is p f h c is = ap (λ x. kept_by p (Asked f) x (monitor_of f.entity.instance h) (kept p h)) is

untouched : (j : ℕ) (f : Frame) (h : History) → creates j (Asked f) h ≡ false → synchronizes (Asked f) h ≡ false → is_there j (Asked f ∷ h) ≡ is_there j h → monitor_of j h ≡ monitor_of j (Asked f ∷ h)
untouched j f h other untimed there = sym (of_same j (Asked f) h (mark_is f h ∙ untimed) other untimed (λ a le lt. refl) there)

-- nothing is carried out
pub uncarried : (f : Frame) (h : History) → carried f h ≡ None → meter_of h ≡ meter_of (Asked f ∷ h)
unfolding meter_of
uncarried f h is = meter_same _ _ _ _ _ _ _ _
    (four_same (λ j. monitor_of j h) (λ j. monitor_of j (Asked f ∷ h)) (λ j. untouched j f h (creates_is j f h None is) (timed_is f h None is) (there_is j f h None is)))
    (ticks_same f h (timed_is f h None is)) (sym (kept_is Low f h None is)) (sym (kept_is High f h None is))

-- a command is carried out: the counters are those after it, with its reply kept
finish_case : (low : Bool) (c : Command) (f : Frame) (h : History) (s : Meter) → is_low f.tci ≡ low → s.monitors ≡ four (λ j. monitor_of j (Asked f ∷ h)) → s.ticks ≡ ticks_since_mark (Asked f ∷ h) → s.low ≡ kept Low h → s.high ≡ kept High h → carried f h ≡ Some c → keep_in (if low then Low else High) (reply_to c f (monitor_of f.entity.instance h)) s ≡ meter_of (Asked f ∷ h)
unfolding meter_of
finish_case true c f h s is monitors ticks low high command = meter_same _ _ _ _ _ _ _ _ monitors ticks
    (sym (kept_is Low f h (Some c) command ∙ ap (λ b. if b then Some (reply_to c f (monitor_of f.entity.instance h)) else kept Low h) is))
    (high ∙ sym (kept_is High f h (Some c) command ∙ ap (λ b. if not b then Some (reply_to c f (monitor_of f.entity.instance h)) else kept High h) is))
finish_case false c f h s is monitors ticks low high command = meter_same _ _ _ _ _ _ _ _ monitors ticks
    (low ∙ sym (kept_is Low f h (Some c) command ∙ ap (λ b. if b then Some (reply_to c f (monitor_of f.entity.instance h)) else kept Low h) is))
    (sym (kept_is High f h (Some c) command ∙ ap (λ b. if not b then Some (reply_to c f (monitor_of f.entity.instance h)) else kept High h) is))

finish : (c : Command) (f : Frame) (h : History) (s : Meter) → s.monitors ≡ four (λ j. monitor_of j (Asked f ∷ h)) → s.ticks ≡ ticks_since_mark (Asked f ∷ h) → s.low ≡ kept Low h → s.high ≡ kept High h → carried f h ≡ Some c → with_reply (reply_to c f (monitor_of f.entity.instance h)) s ≡ meter_of (Asked f ∷ h)
unfolding with_reply
finish c f h s monitors ticks low high command =
    ap (λ tci. keep_in (priority_of tci) (reply_to c f (monitor_of f.entity.instance h)) s) (reply_tci c f (monitor_of f.entity.instance h))
    ∙ ap (λ b. keep_in (if b then Low else High) (reply_to c f (monitor_of f.entity.instance h)) s) refl
    ∙ finish_case (is_low f.tci) c f h s refl monitors ticks low high command

same_step : (c : Command) (f : Frame) (h : History) → carried f h ≡ Some c → ((j : ℕ) → creates j (Asked f) h ≡ false) → synchronizes (Asked f) h ≡ false → ((j : ℕ) → is_there j (Asked f ∷ h) ≡ is_there j h) → with_reply (reply_to c f (monitor_of f.entity.instance h)) (meter_of h) ≡ meter_of (Asked f ∷ h)
unfolding meter_of
same_step c f h command other untimed there = finish c f h (meter_of h)
    (four_same (λ j. monitor_of j h) (λ j. monitor_of j (Asked f ∷ h)) (λ j. untouched j f h (other j) untimed (there j)))
    (ticks_same f h untimed) refl refl command

names : (i j : ℕ) → j ≡ i → (i == j) ≡ true
names i j e = grind (arith, common_steps, e)

names_not : (i j : ℕ) → j ≢ i → (i == j) ≡ false
names_not i j e = grind (arith, common_steps, e)

-- ---- one step for each command

get_step : (f : Frame) (h : History) → carried f h ≡ Some Get → with_reply (reply_to Get f (monitor_of f.entity.instance h)) (meter_of h) ≡ meter_of (Asked f ∷ h)
get_step f h is = same_step Get f h is (λ j. creates_is j f h (Some Get) is) (timed_is f h (Some Get) is) (λ j. there_is j f h (Some Get) is)

current_step : (f : Frame) (h : History) → carried f h ≡ Some GetCurrent → with_reply (reply_to GetCurrent f (monitor_of f.entity.instance h)) (meter_of h) ≡ meter_of (Asked f ∷ h)
current_step f h is = same_step GetCurrent f h is (λ j. creates_is j f h (Some GetCurrent) is) (timed_is f h (Some GetCurrent) is) (λ j. there_is j f h (Some GetCurrent) is)

there_deleted : (f : Frame) (h : History) → carried f h ≡ Some Delete → is_there f.entity.instance (Asked f ∷ h) ≡ false
there_deleted f h is = there_is f.entity.instance f h (Some Delete) is ∙ ap (λ b. is_there_after (Some Delete) b (is_monitor f.entity.instance) (is_there f.entity.instance h)) (names f.entity.instance f.entity.instance refl)

there_else : (c : Command) (j : ℕ) (f : Frame) (h : History) → carried f h ≡ Some c → j ≢ f.entity.instance → is_there j (Asked f ∷ h) ≡ is_there j h
there_else c j f h is differ = there_is j f h (Some c) is ∙ ap (λ b. is_there_after (Some c) b (is_monitor j) (is_there j h)) (names_not f.entity.instance j differ) ∙ unnamed c (is_monitor j) (is_there j h)
  where
    unnamed : (c : Command) (may was : Bool) → is_there_after (Some c) false may was ≡ was
    unnamed Create may was = refl
    unnamed Delete may was = refl
    unnamed Get may was = refl
    unnamed GetCurrent may was = refl
    unnamed SynchronizeTime may was = refl

creates_else : (c : Command) (j : ℕ) (f : Frame) (h : History) → carried f h ≡ Some c → j ≢ f.entity.instance → creates j (Asked f) h ≡ false
creates_else c j f h is differ = creates_is j f h (Some c) is ∙ ap (λ b. is_created_by (Some c) b (is_monitor j) (is_there j h)) (names_not f.entity.instance j differ) ∙ unnamed c (is_monitor j) (is_there j h)
  where
    unnamed : (c : Command) (may was : Bool) → is_created_by (Some c) false may was ≡ false
    unnamed Create may was = refl
    unnamed Delete may was = refl
    unnamed Get may was = refl
    unnamed GetCurrent may was = refl
    unnamed SynchronizeTime may was = refl

there_test : (i : ℕ) (h : History) → is_some (monitor_at i (meter_of h).monitors) ≡ is_there i h
there_test i h = ap (λ (m : Option Monitor). is_some m) (found i h) ∙ there_some i h

delete_case : (b : Bool) (f : Frame) (h : History) → carried f h ≡ Some Delete → is_there f.entity.instance h ≡ b → with_reply (reply_to Delete f (monitor_of f.entity.instance h)) (if b then with_monitors (with_monitor f.entity.instance None (meter_of h).monitors) (meter_of h) else meter_of h) ≡ meter_of (Asked f ∷ h)
unfolding meter_of
delete_case true f h is there = finish Delete f h _
    (put_four f.entity.instance None (λ j. monitor_of j h) (λ j. monitor_of j (Asked f ∷ h)) (is_monitor_there (is_monitor f.entity.instance) f.entity.instance h refl there)
    (none_of f.entity.instance (Asked f ∷ h) (there_deleted f h is))
    (λ j differ. sym (untouched j f h (creates_else Delete j f h is differ) (timed_is f h (Some Delete) is) (there_else Delete j f h is differ))))
    (ticks_same f h (timed_is f h (Some Delete) is)) refl refl is
delete_case false f h is there = same_step Delete f h is (λ j. creates_is j f h (Some Delete) is) (timed_is f h (Some Delete) is) (λ j. elim (cases_eq j f.entity.instance) as (λ _. is_there j (Asked f ∷ h) ≡ is_there j h) [
  | inl same ↦ subst (λ k. is_there k (Asked f ∷ h) ≡ is_there k h) (sym same) (there_deleted f h is ∙ sym there)
  | inr differ ↦ there_else Delete j f h is differ
])

delete_step : (f : Frame) (h : History) → carried f h ≡ Some Delete → with_reply (reply_to Delete f (monitor_of f.entity.instance h)) (deleted f.entity.instance (meter_of h)) ≡ meter_of (Asked f ∷ h)
unfolding deleted
delete_step f h is = ap (λ b. with_reply (reply_to Delete f (monitor_of f.entity.instance h)) (if b then with_monitors (with_monitor f.entity.instance None (meter_of h).monitors) (meter_of h) else meter_of h)) (there_test f.entity.instance h)
    ∙ delete_case (is_there f.entity.instance h) f h is refl

there_created : (f : Frame) (h : History) → carried f h ≡ Some Create → is_there f.entity.instance (Asked f ∷ h) ≡ is_monitor f.entity.instance
there_created f h is = there_is f.entity.instance f h (Some Create) is ∙ ap (λ b. is_there_after (Some Create) b (is_monitor f.entity.instance) (is_there f.entity.instance h)) (names f.entity.instance f.entity.instance refl)

creates_named : (f : Frame) (h : History) → carried f h ≡ Some Create → creates f.entity.instance (Asked f) h ≡ (is_monitor f.entity.instance && not (is_there f.entity.instance h))
creates_named f h is = creates_is f.entity.instance f h (Some Create) is ∙ ap (λ b. is_created_by (Some Create) b (is_monitor f.entity.instance) (is_there f.entity.instance h)) (names f.entity.instance f.entity.instance refl)

may_be : (may was : Bool) → (may && not was) ≡ true → may ≡ true
may_be true was e = refl
may_be false was e = e

as_was : (may was : Bool) → (may && not was) ≡ false → (was ≡ true → may ≡ true) → may ≡ was
as_was true true e if_was = refl
as_was true false e if_was = e
as_was false true e if_was = if_was refl
as_was false false e if_was = refl

create_case : (b : Bool) (f : Frame) (h : History) → carried f h ≡ Some Create → (is_monitor f.entity.instance && not (is_there f.entity.instance h)) ≡ b → with_reply (reply_to Create f (monitor_of f.entity.instance h)) (if b then with_monitors (with_monitor f.entity.instance (Some (fresh (take 2 f.contents))) (meter_of h).monitors) (meter_of h) else meter_of h) ≡ meter_of (Asked f ∷ h)
unfolding meter_of
create_case true f h is test =
    let may : is_monitor f.entity.instance ≡ true = may_be (is_monitor f.entity.instance) (is_there f.entity.instance h) test in
    finish Create f h _
    (put_four f.entity.instance (Some (fresh (take 2 f.contents))) (λ j. monitor_of j h) (λ j. monitor_of j (Asked f ∷ h)) may
    (some_of f.entity.instance (Asked f ∷ h) (there_created f h is ∙ may) ∙ ap (λ (m : Monitor). Some m) (with_created f.entity.instance (Asked f) h (creates_named f h is ∙ test)))
    (λ j differ. sym (untouched j f h (creates_else Create j f h is differ) (timed_is f h (Some Create) is) (there_else Create j f h is differ))))
    (ticks_same f h (timed_is f h (Some Create) is)) refl refl is
create_case false f h is test = same_step Create f h is
    (λ j. elim (cases_eq j f.entity.instance) as (λ _. creates j (Asked f) h ≡ false) [
      | inl same ↦ subst (λ k. creates k (Asked f) h ≡ false) (sym same) (creates_named f h is ∙ test)
      | inr differ ↦ creates_else Create j f h is differ
    ])
    (timed_is f h (Some Create) is)
    (λ j. elim (cases_eq j f.entity.instance) as (λ _. is_there j (Asked f ∷ h) ≡ is_there j h) [
      | inl same ↦ subst (λ k. is_there k (Asked f ∷ h) ≡ is_there k h) (sym same) (there_created f h is ∙ as_was (is_monitor f.entity.instance) (is_there f.entity.instance h) test (is_monitor_there (is_monitor f.entity.instance) f.entity.instance h refl))
      | inr differ ↦ there_else Create j f h is differ
    ])

create_step : (f : Frame) (h : History) → carried f h ≡ Some Create → with_reply (reply_to Create f (monitor_of f.entity.instance h)) (created f (meter_of h)) ≡ meter_of (Asked f ∷ h)
unfolding created
create_step f h is = ap (λ b. with_reply (reply_to Create f (monitor_of f.entity.instance h)) (if is_monitor f.entity.instance && not b then with_monitors (with_monitor f.entity.instance (Some (fresh (take 2 f.contents))) (meter_of h).monitors) (meter_of h) else meter_of h)) (there_test f.entity.instance h)
    ∙ create_case (is_monitor f.entity.instance && not (is_there f.entity.instance h)) f h is refl

of_timed : (j : ℕ) (f : Frame) (h : History) → carried f h ≡ Some SynchronizeTime → synchronizes (Asked f) h ≡ true → option_map synchronized (monitor_of j h) ≡ monitor_of j (Asked f ∷ h)
unfolding monitor_of
of_timed j f h is timed_so =
    sym (mapped (is_there j h) synchronized (monitor_with j h) (monitor_with j (Asked f ∷ h)) (with_timed j (Asked f) h (mark_is f h ∙ timed_so) refl (creates_is j f h (Some SynchronizeTime) is) timed_so))
    ∙ ap (λ b. if b then Some (monitor_with j (Asked f ∷ h)) else None) (sym (there_is j f h (Some SynchronizeTime) is))

time_case : (b : Bool) (f : Frame) (h : History) → carried f h ≡ Some SynchronizeTime → (f.entity.instance == 0) ≡ b → with_reply (reply_to SynchronizeTime f (monitor_of f.entity.instance h)) (if b then record { monitors = synchronized_all (meter_of h).monitors; ticks = 0; low = (meter_of h).low; high = (meter_of h).high } else meter_of h) ≡ meter_of (Asked f ∷ h)
unfolding meter_of synchronized_all
time_case true f h is test =
    let timed_so : synchronizes (Asked f) h ≡ true = timed_is f h (Some SynchronizeTime) is ∙ test in
    finish SynchronizeTime f h _
    (four_same (λ j. option_map synchronized (monitor_of j h)) (λ j. monitor_of j (Asked f ∷ h)) (λ j. of_timed j f h is timed_so))
    (ticks_begun f h timed_so) refl refl is
time_case false f h is test = same_step SynchronizeTime f h is (λ j. creates_is j f h (Some SynchronizeTime) is) (timed_is f h (Some SynchronizeTime) is ∙ test) (λ j. there_is j f h (Some SynchronizeTime) is)

time_step : (f : Frame) (h : History) → carried f h ≡ Some SynchronizeTime → with_reply (reply_to SynchronizeTime f (monitor_of f.entity.instance h)) (timed f.entity.instance (meter_of h)) ≡ meter_of (Asked f ∷ h)
unfolding timed
time_step f h is = time_case (f.entity.instance == 0) f h is refl

command_step : (c : Command) (f : Frame) (h : History) → carried f h ≡ Some c → with_reply (reply_to c f (monitor_of f.entity.instance h)) (changed c f (meter_of h)) ≡ meter_of (Asked f ∷ h)
command_step Create f h is = create_step f h is
command_step Delete f h is = delete_step f h is
command_step Get f h is = get_step f h is
command_step GetCurrent f h is = current_step f h is
command_step SynchronizeTime f h is = time_step f h is

carried_step : (c : Command) (f : Frame) (h : History) → carried f h ≡ Some c → carried_out c f (meter_of h) ≡ meter_of (Asked f ∷ h)
unfolding carried_out
carried_step c f h is = ap (λ (r : Frame). with_reply r (changed c f (meter_of h))) (reply_is c f h) ∙ command_step c f h is

asked_case : (again : Bool) (command : Option Command) (f : Frame) (h : History) (was : Option Frame) → carried f h ≡ (if again then None else command) → (again ≡ true → is_some was ≡ true) → kept_for f.tci (meter_of h) ≡ (if again then was else None) → after_asked command f (meter_of h) ≡ meter_of (Asked f ∷ h)
asked_case true None f h was is has kept_is = uncarried f h is
asked_case false None f h was is has kept_is = uncarried f h is
asked_case true (Some c) f h (Some r) is has kept_is = ap (λ k. after_found k c f (meter_of h)) kept_is ∙ uncarried f h is
asked_case true (Some c) f h None is has kept_is = absurd (false_true (has refl))
  where
    false_true : false ≡ true → ⊥
    false_true e = cc
asked_case false (Some c) f h was is has kept_is = ap (λ k. after_found k c f (meter_of h)) kept_is ∙ carried_step c f h is

some_tci : (was : Option Frame) (tci : ℕ) → tci_in was ≡ Some tci → is_some was ≡ true
some_tci None tci e = absurd cc
some_tci (Some f) tci e = refl

carried_is : (f : Frame) (h : History) → carried f h ≡ (if is_repeat f h then None else command_of f)
unfolding carried
carried_is f h = refl

pub asked_stands : (f : Frame) (h : History) → asked f (meter_of h) ≡ meter_of (Asked f ∷ h)
unfolding asked
asked_stands f h = asked_case (is_repeat f h) (command_of f) f h (kept (priority_of f.tci) h) (carried_is f h) (λ again. some_tci (kept (priority_of f.tci) h) f.tci (has_kept f h again)) (kept_for_meter f h)
