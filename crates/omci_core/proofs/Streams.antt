-- How the calls of a source and of a sink follow one another: what several reads took, and what
-- several writes added.
use Rattle.std.proofs.Common.{◌≡◌, ℕ, List, [], ◌++◌, Option, None, Some, refl, sym, ◌∙◌, ap, append_assoc, append-nil}
use Rattle.std.specs.Io.KnownBytes.{Keeps, Appends, Consumes, IsAtEnd}

-- a call that took nothing
pub Consumes-none : (a : Option (List ℕ)) → Consumes a a []
Consumes-none None = tt
Consumes-none (Some l) = refl

-- one read after another
pub Consumes-then : (a b c : Option (List ℕ)) (xs ys : List ℕ) → Consumes a b xs → Consumes b c ys → Consumes a c (xs ++ ys)
Consumes-then None b c xs ys p q = tt
Consumes-then (Some l) None c xs ys p q = elim p [ ]
Consumes-then (Some l) (Some m) None xs ys p q = elim q [ ]
Consumes-then (Some l) (Some m) (Some n) xs ys p q = p ∙ ap (λ z. xs ++ z) q ∙ sym (append_assoc xs ys n)

-- a read that failed after others
pub Consumes-kept : (a b c : Option (List ℕ)) (xs : List ℕ) → Consumes a b xs → Keeps b c → Consumes a c xs
Consumes-kept None b c xs p q = tt
Consumes-kept (Some l) None c xs p q = elim p [ ]
Consumes-kept (Some l) (Some m) None xs p q = elim q [ ]
Consumes-kept (Some l) (Some m) (Some n) xs p q = p ∙ ap (λ z. xs ++ z) (sym q)

-- what was read up to the end is all that the source had
pub Consumes-whole : (l : List ℕ) (b : Option (List ℕ)) (xs : List ℕ) → Consumes (Some l) b xs → IsAtEnd b → xs ≡ l
Consumes-whole l None xs p q = elim p [ ]
Consumes-whole l (Some m) xs p q = sym (p ∙ ap (λ z. xs ++ z) q ∙ append-nil xs)

-- a call that added nothing
pub Appends-none : (a : Option (List ℕ)) → Appends a a []
Appends-none None = tt
Appends-none (Some l) = sym (append-nil l)

-- one write after another
pub Appends-then : (a b c : Option (List ℕ)) (xs ys : List ℕ) → Appends a b xs → Appends b c ys → Appends a c (xs ++ ys)
Appends-then None b c xs ys p q = tt
Appends-then (Some l) None c xs ys p q = elim p [ ]
Appends-then (Some l) (Some m) None xs ys p q = elim q [ ]
Appends-then (Some l) (Some m) (Some n) xs ys p q = q ∙ ap (λ z. z ++ ys) p ∙ append_assoc l xs ys

-- a write that failed after others
pub Appends-kept : (a b c : Option (List ℕ)) (xs : List ℕ) → Appends a b xs → Keeps b c → Appends a c xs
Appends-kept None b c xs p q = tt
Appends-kept (Some l) None c xs p q = elim p [ ]
Appends-kept (Some l) (Some m) None xs p q = elim q [ ]
Appends-kept (Some l) (Some m) (Some n) xs p q = q ∙ p

-- nothing added is all kept
pub Appends-nothing : (a b : Option (List ℕ)) → Appends a b [] → Keeps a b
Appends-nothing None b p = tt
Appends-nothing (Some l) None p = elim p [ ]
Appends-nothing (Some l) (Some m) p = p ∙ append-nil l

-- a call that kept what is told
pub Keeps-none : (a : Option (List ℕ)) → Keeps a a
Keeps-none None = tt
Keeps-none (Some l) = refl

-- one call that kept it after another
pub Keeps-then : (a b c : Option (List ℕ)) → Keeps a b → Keeps b c → Keeps a c
Keeps-then None b c p q = tt
Keeps-then (Some l) None c p q = elim p [ ]
Keeps-then (Some l) (Some m) None p q = elim q [ ]
Keeps-then (Some l) (Some m) (Some n) p q = q ∙ p
