-- A number comes again only after 32,767 places, and a packet that may come isn't so old.
use Rattle.std.proofs.Common.{◌≡◌, ◌≢◌, ℕ, ◌+◌, ◌-◌, ◌<◌, ◌≤◌, arith}
use Rattle.std.proofs.lemmas.Bool.Decides.{nat_tests}
use Rattle.tci_spec.specs.Tci.{IsNumber, number_after}
use Rattle.frame_spec.specs.declared.TheConstants.{LAST_NUMBER}
use Rattle.link_spec.specs.declared.TheConstants.{WINDOW}
use Rattle.moves_spec.specs.Channel.{Transaction, place_number}
use Rattle.moves_laws.proofs.Parts.{Past}

pub apart : (a b : ℕ) → a < b → b < a + LAST_NUMBER → place_number a ≢ place_number b
unfolding place_number
apart a b lt le e = omega arith

-- a request that may come and is of a command that ended has another number than the lane's
pub past_request : (place since i count : ℕ) (c : Transaction) → since ≤ count → count ≤ i + WINDOW
    → Past place since i c 0 → place_number c.place ≢ place_number place
past_request place since i count c begun within p = apart c.place place p.ended
    (omega (arith, p.far))

-- so has a reply
pub past_reply : (place since j count : ℕ) (c : Transaction) → since ≤ count → count ≤ j + WINDOW
    → Past place since j c WINDOW → place_number c.place ≢ place_number place
past_reply place since j count c begun within p = apart c.place place p.ended (omega (arith, p.far))

-- the next place has the number after it
pub number_next : (place : ℕ) → number_after (place_number place) ≡ place_number (place + 1)
unfolding place_number
number_next place = grind (arith, nat_tests)

-- every number is that of a place
pub number_at_first : (n : ℕ) → IsNumber n → place_number (n - 1) ≡ n
unfolding place_number
number_at_first n h = omega (arith, h.some, h.most)

pub place_is_number : (place : ℕ) → IsNumber (place_number place)
unfolding place_number
place_is_number place = record { some = omega arith; most = omega arith }
