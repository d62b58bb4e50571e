use Rattle.std.proofs.Common.{ℕ, ◌<◌, zero, suc, List, [], ◌∷◌, get_or, refl, ◌∙◌, arith}
use Rattle.aal5_crc.proofs.Mixing.{sum_is}
use Rattle.aal5_crc.proofs.mixed.Goals as goal

are_bytes : (a b c d : ℕ) → a < 256 → b < 256 → c < 256 → d < 256 → (i : ℕ) → get_or (a ∷ b ∷ c ∷ d ∷ []) i 0 < 256
are_bytes a b c d la lb lc ld zero = la
are_bytes a b c d la lb lc ld (suc zero) = lb
are_bytes a b c d la lb lc ld (suc (suc zero)) = lc
are_bytes a b c d la lb lc ld (suc (suc (suc zero))) = ld
are_bytes a b c d la lb lc ld (suc (suc (suc (suc i)))) = omega arith

pub returns : goal.returns
returns c =
    let bytes = c.args.bytes.now in
    let below = λ (i : ℕ). c.type_inv.bytes i in
    record {
      bytes = c.to_be_bytes.ensures
          ∙ sum_is c.args.register c.from_be_bytes.result (get_or bytes 0 0 ∷ get_or bytes 1 0 ∷ get_or bytes 2 0 ∷ get_or bytes 3 0 ∷ []) refl
          (are_bytes (get_or bytes 0 0) (get_or bytes 1 0) (get_or bytes 2 0) (get_or bytes 3 0)
          (omega (arith, below 0)) (omega (arith, below 1)) (omega (arith, below 2)) (omega (arith, below 3)))
          c.from_be_bytes.ensures;
    }
