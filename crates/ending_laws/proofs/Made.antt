-- A step of both ends is moves of its manager, and what they tell happens in it.
use Rattle.std.proofs.Common.{◌≡◌, ℕ, ◌+◌, ◌||◌, Bool, true, false, List, [], ◌∷◌, ◌++◌, Option, Some, None, ◌⊎◌, inl, inr, refl, sym, ap, subst, ◌∙◌, arith}
use Rattle.std.proofs.lemmas.Option.{same_Some}
use Rattle.std.specs.Prelude.{map}
use Rattle.std.specs.List.{flat_map}
use Rattle.omci_types.specs.declared.Priority.{Priority}
use Rattle.manager_spec.specs.declared.Refusal.{Refusal}
use Rattle.manager_spec.specs.declared.Report.{Report}
use Rattle.manager_spec.specs.Manager.{Manager, Outcome}
use Rattle.manager_spec.specs.Submitting.{Submission, unless_refused}
use Rattle.world_spec.specs.Happenings.{Happening, ReplyTaken, NoticeTaken, Reported as WasReported}
use Rattle.world_spec.specs.Ends.{Ends, Step, preceded, sends, download_told, stage_in, result_told, report_told, manager_did, submission_step, submission, manager_got, manager_ticks}
use Rattle.world_spec.specs.Nodes.{Nodes, nodes_after_step, goes_on}
use Rattle.ending_spec.specs.Moves.{Move, Packet, Second, Telling, Replied, Reported, outcome_of, after_move, after_moves, seconds_of, seconds_in, told_by, is_told, AnyTells}
use Rattle.ending_spec.specs.Scripts.{tells}
use Rattle.ending_laws.proofs.Told.{or_right, or_left, or_cases, told_left, told_right, told_of, told_parts}

pub record Made (m : Manager) (seconds : ℕ) (s : Step) : Type 0 where
  pub moves : List Move
  pub manager : s.ends.manager ≡ Some (after_moves moves m)
  pub passed : seconds_in moves ≡ seconds
  pub told : (such : Telling → Bool) → AnyTells such moves m
      → is_told (tells such) s.happenings ≡ true

-- a step that leaves the manager alone
pub still_made : (m : Manager) (s : Step) → s.ends.manager ≡ Some m → Made m 0 s
still_made m s e = record {
  moves = [];
  manager = e;
  passed = refl;
  told = λ such t. absurd t;
}

-- ---- what the manager does by itself

reports_told : (such : Telling → Bool) (m : Manager) (rs : List Report)
    → is_told (λ r. such (Reported r)) rs ≡ true
    → is_told (tells such) (flat_map (report_told m) rs) ≡ true
reports_told such m [] e = absurd (cc)
reports_told such m (r ∷ rs) e = parts (or_cases (such (Reported r)) _ e) (λ h. reports_told such m rs h)
  where
    parts : (such (Reported r) ≡ true) ⊎ (is_told (λ r. such (Reported r)) rs ≡ true)
        → (is_told (λ r. such (Reported r)) rs ≡ true
        → is_told (tells such) (flat_map (report_told m) rs) ≡ true)
        → is_told (tells such) (flat_map (report_told m) (r ∷ rs)) ≡ true
    parts (inl h) rest = told_left (tells such) (report_told m r) (flat_map (report_told m) rs)
        (or_left (such (Reported r)) (is_told (tells such) (result_told r m)) h)
    parts (inr h) rest =
        told_right (tells such) (report_told m r) (flat_map (report_told m) rs) (rest h)

-- the first of five lists, or the third, is told of in all of them
module _ (p : Happening → Bool) (a b c d e : List Happening) where
  front_told : is_told p (a ++ b ++ c) ≡ true → is_told p (a ++ b ++ c ++ d ++ e) ≡ true
  front_told h = told_left p (a ++ b ++ c ++ d) e (told_left p (a ++ b ++ c) d h)

  replies_told : is_told p a ≡ true → is_told p (a ++ b ++ c ++ d ++ e) ≡ true
  replies_told h = front_told (told_left p (a ++ b) c (told_left p a b h))

  third_told : is_told p c ≡ true → is_told p (a ++ b ++ c ++ d ++ e) ≡ true
  third_told h = front_told (told_right p (a ++ b) c h)

did_tells : (such : Telling → Bool) (o : Outcome) (e : Ends) → is_told such (told_by o) ≡ true
    → is_told (tells such) (manager_did o e).happenings ≡ true
did_tells such o e t = parts (told_parts such o t)
  where
    parts : (is_told (λ l. such (Replied l)) o.taken ≡ true)
        ⊎ (is_told (λ r. such (Reported r)) o.manager.reports ≡ true)
        → is_told (tells such) (manager_did o e).happenings ≡ true
    parts (inl h) =
        replies_told (tells such) (map ReplyTaken o.taken) (map NoticeTaken o.noticed)
        (flat_map (report_told o.manager) o.manager.reports) (flat_map sends o.sendings)
        (flat_map (download_told (stage_in e.manager)) o.manager.reports)
        (told_of ReplyTaken (tells such) o.taken ∙ h)
    parts (inr h) =
        third_told (tells such) (map ReplyTaken o.taken) (map NoticeTaken o.noticed)
        (flat_map (report_told o.manager) o.manager.reports) (flat_map sends o.sendings)
        (flat_map (download_told (stage_in e.manager)) o.manager.reports)
        (reports_told such o.manager o.manager.reports h)

one_more : (n : ℕ) → n + 0 ≡ n
one_more n = omega arith

pub did_made : (v : Move) (m : Manager) (first : List Happening) (e : Ends)
    → Made m (seconds_of v) (preceded first (manager_did (outcome_of v m) e))
did_made v m first e = record {
  moves = v ∷ [];
  manager = refl;
  passed = one_more (seconds_of v);
  told = λ such t. told_right (tells such) first (manager_did (outcome_of v m) e).happenings
      (did_tells such (outcome_of v m) e (only such t));
}
  where
    only : (such : Telling → Bool) → AnyTells such (v ∷ []) m
        → is_told such (told_by (outcome_of v m)) ≡ true
    only such (inl t) = t
    only such (inr t) = absurd t

did_alone : (v : Move) (m : Manager) (e : Ends)
    → Made m (seconds_of v) (manager_did (outcome_of v m) e)
did_alone v m e = let k = did_made v m [] e in record {
  moves = k.moves;
  manager = k.manager;
  passed = k.passed;
  told = k.told;
}

-- a call of a caller, which may be refused
refused_made : (r : Option Refusal) (o : Outcome) (v : Move) (m : Manager) (e : Ends)
    → e.manager ≡ Some m → seconds_of v ≡ 0 → (unless_refused r o m).outcome ≡ outcome_of v m
    → Made m 0 (submission_step (unless_refused r o m) e)
refused_made None o v m e k none is =
    subst (λ n. Made m n (manager_did o e)) none
    (subst (λ q. Made m (seconds_of v) (manager_did q e)) (sym is) (did_alone v m e))
refused_made (Some refusal) o v m e k none is =
    still_made m (submission_step (unless_refused (Some refusal) o m) e) k

-- what is submitted is unless refused
pub record IsCall (call : Manager → Submission) (v : Move) : Type 0 where
  pub refusal : Manager → Option Refusal
  pub outcome : Manager → Outcome
  pub is : (m : Manager) → call m ≡ unless_refused (refusal m) (outcome m) m
  pub moves : (m : Manager) → outcome_of v m ≡ (call m).outcome
  pub passes : seconds_of v ≡ 0

pub call_made : (call : Manager → Submission) (v : Move) (m : Manager) (o : Option Manager)
    (e : Ends) → IsCall call v → o ≡ Some m → e.manager ≡ Some m
    → Made m 0 (submission call o e)
call_made call v m None e c on k = absurd (cc)
call_made call v m (Some x) e c on k =
    subst (λ q. Made m 0 (submission_step (call q) e)) (sym (same_Some x m on))
    (subst (λ q. Made m 0 (submission_step q e)) (sym (c.is m))
    (refused_made (c.refusal m) (c.outcome m) v m e k c.passes
    (ap (λ q. q.outcome) (sym (c.is m)) ∙ sym (c.moves m))))

-- bytes come
pub got_made : (first : List Happening) (bytes : List ℕ) (m : Manager) (o : Option Manager)
    (e : Ends) → o ≡ Some m → Made m 0 (manager_got first bytes o e)
got_made first bytes m None e on = absurd (cc)
got_made first bytes m (Some x) e on =
    subst (λ q. Made q 0 (manager_got first bytes (Some x) e)) (same_Some x m on)
    (did_made (Packet bytes) x first e)

-- a second passes
pub ticks_made : (m : Manager) (o : Option Manager) (e : Ends) → o ≡ Some m
    → Made m 1 (manager_ticks o e)
ticks_made m None e on = absurd (cc)
ticks_made m (Some x) e on =
    subst (λ q. Made q 1 (manager_ticks (Some x) e)) (same_Some x m on) (did_alone Second x e)

-- ---- one step and another

pub after_both : (xs ys : List Move) (m : Manager)
    → after_moves (xs ++ ys) m ≡ after_moves ys (after_moves xs m)
after_both [] ys m = refl
after_both (v ∷ xs) ys m = after_both xs ys (after_move v m)

add_assoc : (a b d e : ℕ) → b ≡ d + e → a + b ≡ a + d + e
add_assoc a b d e k = omega (arith, k)

none_before : (n : ℕ) → n ≡ 0 + n
none_before n = omega arith

seconds_both : (xs ys : List Move) → seconds_in (xs ++ ys) ≡ seconds_in xs + seconds_in ys
seconds_both [] ys = none_before (seconds_in ys)
seconds_both (v ∷ xs) ys =
    add_assoc (seconds_of v) (seconds_in (xs ++ ys)) (seconds_in xs) (seconds_in ys)
    (seconds_both xs ys)

tells_both : (such : Telling → Bool) (xs ys : List Move) (m : Manager)
    → AnyTells such (xs ++ ys) m
    → AnyTells such xs m ⊎ AnyTells such ys (after_moves xs m)
tells_both such [] ys m t = inr t
tells_both such (v ∷ xs) ys m (inl t) = inl (inl t)
tells_both such (v ∷ xs) ys m (inr t) = later (tells_both such xs ys (after_move v m) t)
  where
    later : AnyTells such xs (after_move v m) ⊎ AnyTells such ys (after_moves (v ∷ xs) m)
        → AnyTells such (v ∷ xs) m ⊎ AnyTells such ys (after_moves (v ∷ xs) m)
    later (inl k) = inl (inr k)
    later (inr k) = inr k

-- what happens in a step and then in another
pub both_made : (m n : Manager) (k j : ℕ) (s t : Step) (moves : List Move) → n ≡ after_moves moves m
    → seconds_in moves ≡ k
    → ((such : Telling → Bool) → AnyTells such moves m → is_told (tells such) s.happenings ≡ true)
    → Made n j t
    → Made m (k + j) (record { ends = t.ends; happenings = s.happenings ++ t.happenings })
both_made m n k j s t moves is passed told next = record {
  moves = moves ++ next.moves;
  manager = next.manager
      ∙ ap (λ x. Some x) (ap (after_moves next.moves) is ∙ sym (after_both moves next.moves m));
  passed = seconds_both moves next.moves ∙ ap (λ x. x + seconds_in next.moves) passed
      ∙ ap (λ x. k + x) next.passed;
  told = λ such g. parts such (tells_both such moves next.moves m g);
}
  where
    parts : (such : Telling → Bool)
        → AnyTells such moves m ⊎ AnyTells such next.moves (after_moves moves m)
        → is_told (tells such) (s.happenings ++ t.happenings) ≡ true
    parts such (inl g) = told_left (tells such) s.happenings t.happenings (told such g)
    parts such (inr g) = told_right (tells such) s.happenings t.happenings
        (next.told such (subst (AnyTells such next.moves) (sym is) g))
