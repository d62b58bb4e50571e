-- Bytes stand for one room and one pair of slots.
use Rattle.std.proofs.Common.{◌≡◌, ℕ, ◌^◌, ◌≤◌, ◌<◌, List, length, take, Option, Some, None, refl, sym, ◌∙◌, ap, subst, arith}
use Rattle.std.proofs.lemmas.Nat.{from_be_bytes-to_be_bytes_4}
use Rattle.std.specs.Int.{from_be_bytes, w32}
use Rattle.slot_spec.specs.Slots.{SlotPair}
use Rattle.slot_spec.specs.Layout.{entry, given_length, IsLength, SlotStands, StandsAt}
use Rattle.slot_laws.proofs.Header.{entry-length}

pub one_room : (a b : ℕ) (bytes : List ℕ) (s t : SlotPair) → StandsAt a bytes s → StandsAt b bytes t → a ≡ b
one_room a b bytes s t one two =
    sym (from_be_bytes-to_be_bytes_4 a (omega (arith, one.room_fits)))
    ∙ ap (λ (l : List ℕ). from_be_bytes w32 l) (sym one.room_is ∙ two.room_is)
    ∙ from_be_bytes-to_be_bytes_4 b (omega (arith, two.room_fits))

given-entry : (image : List ℕ) → length image < 2 ^ 32 → given_length (entry image) ≡ length image
unfolding given_length
given-entry image fits = entry-length image fits

one_image : (room : ℕ) (gate given content : List ℕ) (a b : Option (List ℕ)) → room ≤ 16777216 → SlotStands room gate given content a → SlotStands room gate given content b → a ≡ b
one_image room gate given content None None small one two = refl
one_image room gate given content None (Some b) small one two =
    absurd (one two.opened (subst (λ (n : ℕ). IsLength room n) (sym (ap given_length two.entered ∙ given-entry b (omega (arith, two.within, small)))) two.within))
one_image room gate given content (Some a) None small one two =
    absurd (two one.opened (subst (λ (n : ℕ). IsLength room n) (sym (ap given_length one.entered ∙ given-entry a (omega (arith, one.within, small)))) one.within))
one_image room gate given content (Some a) (Some b) small one two =
    let long : length a ≡ length b = sym (given-entry a (omega (arith, one.within, small))) ∙ ap given_length (sym one.entered ∙ two.entered) ∙ given-entry b (omega (arith, two.within, small)) in
    ap (λ (l : List ℕ). Some l) (sym one.content_is ∙ ap (λ (n : ℕ). take n content) long ∙ two.content_is)

pub one_pair : (room : ℕ) (bytes : List ℕ) (s t : SlotPair) → StandsAt room bytes s → StandsAt room bytes t → s ≡ t
one_pair room bytes s t one two =
    let small : room ≤ 16777216 = one.room_fits.1 in
    let first = one_image room _ _ _ s.first t.first small one.first two.first in
    let second = one_image room _ _ _ s.second t.second small one.second two.second in
    let committed = sym one.committed_is ∙ two.committed_is in
    λ i. record { first = first i; second = second i; committed = committed i }
