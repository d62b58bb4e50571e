use Rattle.std.proofs.Common.{◌≡◌, ℕ, ◌+◌, ◌-◌, List, length, take, drop, ap, sym, ◌∙◌, arith}
use Rattle.std.proofs.lemmas.List.{take_all}
use Rattle.frame_spec.specs.Checksum.{bits_of, message_bits}
use Rattle.aal5_crc.specs.Register.{after_bits}
use Rattle.aal5_crc.proofs.Steps.{after_bits-none, after_bits-several}
use Rattle.aal5_crc.proofs.advanced.Goals as goal

pub loop-place-init : goal.loop-place-init
loop-place-init c = record { within = omega arith; so_far = sym (after_bits-none (bits_of 32 c.args.register)) }

pub loop-place-preserved : goal.loop-place-preserved
loop-place-preserved c =
    let bytes = c.args.bytes.now in
    let place = c.loop-place.place in
    let eight : place + 8 - place ≡ 8 = omega arith in
    record {
      within = omega arith;
      so_far = c.after_block-register.ensures.bits
          ∙ ap (λ (n : ℕ). after_bits (bits_of 32 c.loop-place.register) (message_bits (take n (drop place bytes)))) eight
          ∙ ap (λ (l : List ℕ). after_bits l (message_bits (take 8 (drop place bytes)))) c.loop-place.invariant.so_far
          ∙ sym (after_bits-several (bits_of 32 c.args.register) place 8 bytes);
    }

pub returns : goal.returns
returns c =
    let bytes = c.args.bytes.now in
    let place = c.loop-place.place in
    let left = length bytes - place in
    let whole : take (place + left) bytes ≡ bytes = take_all (place + left) bytes (omega arith) in
    record {
      bits = c.after_rest.ensures.bits
          ∙ ap (λ (l : List ℕ). after_bits l (message_bits (take left (drop place bytes)))) c.loop-place.invariant.so_far
          ∙ sym (after_bits-several (bits_of 32 c.args.register) place left bytes)
          ∙ ap (λ (l : List ℕ). after_bits (bits_of 32 c.args.register) (message_bits l)) whole;
    }
