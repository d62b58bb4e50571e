use Rattle.std.proofs.Common.{◌≡◌, ℕ, ◌+◌, ◌-◌, List, length, take, drop, ap, sym, ◌∙◌, arith}
use Rattle.std.proofs.lemmas.List.{take_all}
use Rattle.frame_spec.specs.Checksum.{bits_of, message_bits}
use Rattle.aal5_crc.specs.Register.{after_bits}
use Rattle.aal5_crc.proofs.Steps.{after_bits-several}
use Rattle.aal5_crc.proofs.after_rest.Goals as goal

pub returns : goal.returns
returns c =
    let bytes = c.args.bytes.now in
    let left = length bytes - 4 in
    let whole : take (4 + left) bytes ≡ bytes = take_all (4 + left) bytes (omega arith) in
    record {
      bits = c.after_each-2.ensures.bits
          ∙ ap (λ (l : List ℕ). after_bits l (message_bits (take left (drop 4 bytes)))) c.after_half-register.ensures.bits
          ∙ sym (after_bits-several (bits_of 32 c.args.register) 4 left bytes)
          ∙ ap (λ (l : List ℕ). after_bits (bits_of 32 c.args.register) (message_bits l)) whole;
    }
