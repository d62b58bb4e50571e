use Rattle.std.proofs.Common.{◌≡◌, ◌≢◌, ◌++◌, ◌∷◌, [], List, ℕ, Option, Some, None, Bor, inl, inr}
use Rattle.std.proofs.Common.{refl, subst, sym}
use Rattle.std.specs.Prelude.{MatchOption, unwrap_or}
use Rattle.std.proofs.lemmas.Slice.Eq.{strip_suffix_is}
use Rattle.std.proofs.lemmas.Bool.Decides.{Decides-eqb}
use Rattle.line_words.specs.Answers.{IsTextOf}
use Rattle.line_words.proofs.lines.without_return.Goals as goal

-- the text without the return, or the line itself where no return ends it
stripped : (line : Bor (List ℕ)) (found : Option (Bor (List ℕ)))
    → MatchOption found ((front : List ℕ) → line.now ≢ front ++ 13 ∷ [])
    (λ text. line.now ≡ text.now ++ 13 ∷ []) → IsTextOf line.now (unwrap_or found line).now
stripped line None whole = inr (refl, whole)
stripped line (Some text) return = inl return

pub returns : goal.returns
returns c =
    let is =
    stripped c.args.line c.strip_suffix.result
    (strip_suffix_is Decides-eqb c.args.line.now (13 ∷ []) c.strip_suffix.result
    c.strip_suffix.ensures.cases) in
    record {
      text =
          subst (λ (text : Bor (List ℕ)). IsTextOf c.args.line.now text.now)
          (sym c.unwrap_or.ensures) is;
    }
