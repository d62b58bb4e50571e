-- From reading to the grammar and the first fault, for a script and for orders.
use Rattle.std.proofs.Common.{◌≡◌, ℕ, List, inl, inr, Option, Some, Result, Ok, Err, sym, ap, ◌∙◌}
use Rattle.std.proofs.Common.{refl}
use Rattle.std.specs.Prelude.{IfOk, IfErr}
use Rattle.script_laws.proofs.Steps.{ok_same}
use Rattle.line_words.specs.declared.refusal.ScriptRefusal.{ScriptRefusal}
use Rattle.line_words.specs.declared.refusal.ScriptRefusal.TheVariants.{Fault, NoMemory}
use Rattle.line_words.specs.Answers.{GivesScript, ReadsOnly, IsFaultOf, RefusesOnly}

-- an answer that is what reading gives, unless memory ran out
abbrev pub IsReading : {A : Type 0} → Result A ScriptRefusal → Result A (ℕ × ℕ) → Type 0
IsReading answer read = GivesScript (λ whole. whole) answer read

never : {A E : Type 0} {x : A} {e : E} → ◌≡◌ {A = Result A E} (Ok x) (Err e) → ⊥
never h = cc

err_same : {A E : Type 0} {x y : E} → ◌≡◌ {A = Result A E} (Err x) (Err y) → x ≡ y
err_same h = cc

module _ {A : Type 0} (reading : List ℕ → Result A (ℕ × ℕ)) where
  -- what is said of each thing that is read holds of the answer
  pub of_read : (Holds : A → List ℕ → Type 0)
      → ((whole : A) (bytes : List ℕ) → reading bytes ≡ Ok whole → Holds whole bytes)
      → (answer : Result A ScriptRefusal) (bytes : List ℕ) → IsReading answer (reading bytes)
      → IfOk answer (λ whole. Holds whole bytes)
  of_read Holds law (Ok whole) bytes h = law whole bytes h
  of_read Holds law (Err refusal) bytes h = tt

  pub only : (Wrote : A → List ℕ → Type 0)
      → ((whole : A) (bytes : List ℕ) → Wrote whole bytes → reading bytes ≡ Ok whole)
      → (answer : Result A ScriptRefusal) (bytes : List ℕ) → IsReading answer (reading bytes)
      → ReadsOnly Wrote answer bytes
  only Wrote law (Ok whole) bytes h = λ other w. inl (ap Ok (ok_same (sym h ∙ law other bytes w)))
  only Wrote law (Err NoMemory) bytes h = λ other w. inr refl
  only Wrote law (Err (Fault line reason)) bytes h =
      λ other w. absurd (never (sym (law other bytes w) ∙ h))

  pub refused : (first : List ℕ → Option (ℕ × ℕ))
      → ((bytes : List ℕ) (f : ℕ × ℕ) → reading bytes ≡ Err f → first bytes ≡ Some f)
      → (answer : Result A ScriptRefusal) (bytes : List ℕ) → IsReading answer (reading bytes)
      → IfErr answer (λ refusal. IsFaultOf first refusal bytes)
  refused first law (Ok whole) bytes h = tt
  refused first law (Err NoMemory) bytes h = tt
  refused first law (Err (Fault line reason)) bytes h = law bytes (line, reason) h

  pub faulty : (first : List ℕ → Option (ℕ × ℕ))
      → ((bytes : List ℕ) (f : ℕ × ℕ) → first bytes ≡ Some f → reading bytes ≡ Err f)
      → (answer : Result A ScriptRefusal) (bytes : List ℕ) → IsReading answer (reading bytes)
      → RefusesOnly first answer bytes
  faulty first law (Ok whole) bytes h =
      λ line reason f. absurd (never (sym h ∙ law bytes (line, reason) f))
  faulty first law (Err NoMemory) bytes h = λ line reason f. inr refl
  faulty first law (Err (Fault at why)) bytes h = λ line reason f.
      let same : (at, why) ≡ (line, reason) = err_same (sym h ∙ law bytes (line, reason) f) in
      inl (ap (λ (p : ℕ × ℕ). Err (Fault p.0 p.1)) same)
