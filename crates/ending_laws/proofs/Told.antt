-- What is told of one step and of another.
use Rattle.std.proofs.Common.{◌≡◌, ◌||◌, Bool, true, false, List, [], ◌∷◌, ◌++◌, ◌⊎◌, inl, inr, refl, sym, ap, subst, ◌∙◌}
use Rattle.std.specs.Prelude.{map}
use Rattle.omci_types.specs.declared.Priority.{Priority}
use Rattle.manager_spec.specs.declared.Report.{Report}
use Rattle.manager_spec.specs.Manager.{Manager, Outcome, and_then}
use Rattle.ending_spec.specs.Moves.{Telling, Replied, Reported, told_by, is_told}

or_more : (b c d : Bool) → (c ≡ true → d ≡ true) → (b || c) ≡ true → (b || d) ≡ true
or_more true c d f e = refl
or_more false c d f e = f e

pub or_right : (b c : Bool) → c ≡ true → (b || c) ≡ true
or_right true c e = refl
or_right false c e = e

pub or_cases : (b c : Bool) → (b || c) ≡ true → (b ≡ true) ⊎ (c ≡ true)
or_cases true c e = inl refl
or_cases false c e = inr e

pub or_left : (b c : Bool) → b ≡ true → (b || c) ≡ true
or_left true c e = refl
or_left false c e = absurd (cc)

module _ {X : Type 0} (such : X → Bool) where
  pub told_left : (xs ys : List X) → is_told such xs ≡ true → is_told such (xs ++ ys) ≡ true
  told_left [] ys e = absurd (cc)
  told_left (x ∷ xs) ys e = or_more (such x) (is_told such xs) (is_told such (xs ++ ys)) (told_left xs ys) e

  pub told_right : (xs ys : List X) → is_told such ys ≡ true → is_told such (xs ++ ys) ≡ true
  told_right [] ys e = e
  told_right (x ∷ xs) ys e = or_right (such x) (is_told such (xs ++ ys)) (told_right xs ys e)

  pub told_cases : (xs ys : List X) → is_told such (xs ++ ys) ≡ true
      → (is_told such xs ≡ true) ⊎ (is_told such ys ≡ true)
  told_cases [] ys e = inr e
  told_cases (x ∷ xs) ys e = front (or_cases (such x) (is_told such (xs ++ ys)) e)
      (λ h. told_cases xs ys h)
    where
      back : (is_told such xs ≡ true) ⊎ (is_told such ys ≡ true)
          → (is_told such (x ∷ xs) ≡ true) ⊎ (is_told such ys ≡ true)
      back (inl h) = inl (or_right (such x) (is_told such xs) h)
      back (inr h) = inr h

      front : (such x ≡ true) ⊎ (is_told such (xs ++ ys) ≡ true)
          → (is_told such (xs ++ ys) ≡ true
          → (is_told such xs ≡ true) ⊎ (is_told such ys ≡ true))
          → (is_told such (x ∷ xs) ≡ true) ⊎ (is_told such ys ≡ true)
      front (inl h) rest = inl (or_left (such x) (is_told such xs) h)
      front (inr h) rest = back (rest h)

  pub told_last : (xs : List X) (x : X) → such x ≡ true → is_told such (xs ++ x ∷ []) ≡ true
  told_last xs x e = told_right xs (x ∷ []) (or_left (such x) false e)

pub told_of : {X Y : Type 0} (f : X → Y) (such : Y → Bool) (xs : List X)
    → is_told such (map f xs) ≡ is_told (λ x. such (f x)) xs
told_of f such [] = refl
told_of f such (x ∷ xs) = ap (λ b. such (f x) || b) (told_of f such xs)

-- all reports stay
abbrev pub KeepsReports : Manager → Manager → Type 0
KeepsReports m n = (such : Report → Bool) → is_told such m.reports ≡ true
    → is_told such n.reports ≡ true

pub reports_stay : (m n : Manager) → n.reports ≡ m.reports → KeepsReports m n
reports_stay m n e = λ such t. ap (is_told such) e ∙ t

pub reports_grow : (m n : Manager) (added : List Report) → n.reports ≡ m.reports ++ added
    → KeepsReports m n
reports_grow m n added e = λ such t. ap (is_told such) e ∙ told_left such m.reports added t

-- a report, or a reply, is told by an outcome
pub reported_told : (such : Telling → Bool) (o : Outcome)
    → is_told (λ r. such (Reported r)) o.manager.reports ≡ true → is_told such (told_by o) ≡ true
reported_told such o e =
    told_right such (map Replied o.taken) (map Reported o.manager.reports)
    (told_of Reported such o.manager.reports ∙ e)

pub replied_told : (such : Telling → Bool) (o : Outcome)
    → is_told (λ l. such (Replied l)) o.taken ≡ true → is_told such (told_by o) ≡ true
replied_told such o e =
    told_left such (map Replied o.taken) (map Reported o.manager.reports)
    (told_of Replied such o.taken ∙ e)

pub told_parts : (such : Telling → Bool) (o : Outcome) → is_told such (told_by o) ≡ true
    → (is_told (λ l. such (Replied l)) o.taken ≡ true)
    ⊎ (is_told (λ r. such (Reported r)) o.manager.reports ≡ true)
told_parts such o e = parts (told_cases such (map Replied o.taken) (map Reported o.manager.reports) e)
  where
    parts : (is_told such (map Replied o.taken) ≡ true)
        ⊎ (is_told such (map Reported o.manager.reports) ≡ true)
        → (is_told (λ l. such (Replied l)) o.taken ≡ true)
        ⊎ (is_told (λ r. such (Reported r)) o.manager.reports ≡ true)
    parts (inl h) = inl (sym (told_of Replied such o.taken) ∙ h)
    parts (inr h) = inr (sym (told_of Reported such o.manager.reports) ∙ h)

module _ (such : Telling → Bool) (a : Outcome) (f : Manager → Outcome) where
  -- what the first of two steps tells
  pub first_told : KeepsReports a.manager (f a.manager).manager → is_told such (told_by a) ≡ true
      → is_told such (told_by (and_then a f)) ≡ true
  first_told keeps e = parts (told_parts such a e)
    where
      parts : (is_told (λ l. such (Replied l)) a.taken ≡ true)
          ⊎ (is_told (λ r. such (Reported r)) a.manager.reports ≡ true)
          → is_told such (told_by (and_then a f)) ≡ true
      parts (inl h) = replied_told such (and_then a f)
          (told_left (λ l. such (Replied l)) a.taken (f a.manager).taken h)
      parts (inr h) = reported_told such (and_then a f) (keeps (λ r. such (Reported r)) h)

  -- and the second
  pub second_told : is_told such (told_by (f a.manager)) ≡ true
      → is_told such (told_by (and_then a f)) ≡ true
  second_told e = parts (told_parts such (f a.manager) e)
    where
      parts : (is_told (λ l. such (Replied l)) (f a.manager).taken ≡ true)
          ⊎ (is_told (λ r. such (Reported r)) (f a.manager).manager.reports ≡ true)
          → is_told such (told_by (and_then a f)) ≡ true
      parts (inl h) = replied_told such (and_then a f)
          (told_right (λ l. such (Replied l)) a.taken (f a.manager).taken h)
      parts (inr h) = reported_told such (and_then a f) h
