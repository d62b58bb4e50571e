-- The lines from the first one on that isn't passed over.
use Rattle.std.proofs.Common.{◌≡◌, ℕ, ◌+◌, List, [], ◌∷◌, refl, true, false, length, arith}
use Rattle.script_spec.specs.Text.{lines_of, is_passed_over, opening}

pub passed_line : (line : ℕ) (text : List ℕ) (lines : List (List ℕ)) → is_passed_over text ≡ true
    → opening line (text ∷ lines) ≡ opening (line + 1) lines
unfolding opening
passed_line line text lines passed = rw passed refl

pub plain_line : (line : ℕ) (text : List ℕ) (lines : List (List ℕ)) → is_passed_over text ≡ false
    → opening line (text ∷ lines) ≡ (line, text ∷ lines)
unfolding opening
plain_line line text lines plain = rw plain refl

pub no_line : (line : ℕ) → opening line [] ≡ (line, [])
unfolding opening
no_line line = refl

-- no line is left of no bytes
pub lines_of-empty : (bytes : List ℕ) → length bytes ≡ 0 → lines_of bytes ≡ []
unfolding lines_of
lines_of-empty [] e = refl
lines_of-empty (b ∷ bytes) e = absurd (omega arith)
