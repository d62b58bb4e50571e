-- What a turn hears.
use Rattle.std.proofs.Common.{◌≡◌, ℕ, List, [], ◌∷◌, take, Option, refl, sym, ◌∙◌, subst, arith}
use Rattle.turn_spec.specs.Arrivals.{Arrival, Came}
use Rattle.turn_spec.specs.OltTurns.{arrived, packets_in}
use Rattle.omci_link.specs.Arrivals.{IsFirst, left_after, arrived as answered}
use Rattle.omci_link.specs.declared.arrival.Arrival as answer
use Rattle.omci_link.specs.declared.arrival.Arrival.TheVariants as answers
use Rattle.olt_seat.specs.Seat.{Seat, seat_ends, SendsFront, is_closed, Plays, Hears, HearsInPart}
use Rattle.olt_seat.proofs.Playing.{sends_nothing_of}

-- ---- what the link gives

-- a packet's bytes stand at the buffer's front
pub first_came : (a : answer.Arrival) (count : ℕ) (buffer bytes : List ℕ) (l : Option (List Arrival))
    → IsFirst l (answered a buffer) → a ≡ answers.Packet count → bytes ≡ take count buffer → IsFirst l (Came bytes)
first_came a count buffer bytes l first is bytes_is =
    subst (λ xs. IsFirst l (Came xs)) (sym bytes_is) (subst (λ x. IsFirst l (answered x buffer)) is first)

-- nothing was taken
pub heard_nothing : (w : Seat) (l l' : Option (List Arrival)) (a a' : Option (List (List ℕ))) → l' ≡ l → a' ≡ a → HearsInPart w l l' a a'
heard_nothing w l l' a a' left_is sent_is = record {
  taken = [];
  one = omega arith;
  took = left_is;
  sent = subst (λ b. SendsFront [] a b) (sym sent_is) (sends_nothing_of [] a);
}

-- a fault broke off what came of it
pub heard_in_part : (w : Seat) (arrival : Arrival) (l l' l'' : Option (List Arrival)) (a a' a'' : Option (List (List ℕ)))
    → IsFirst l arrival → l' ≡ left_after l → l'' ≡ l' → a' ≡ a
    → SendsFront (packets_in (arrived arrival (seat_ends w)).happenings) a' a'' → HearsInPart w l l'' a a''
heard_in_part w arrival l l' l'' a a' a'' first left_is same sent_is part = record {
  taken = arrival ∷ [];
  one = omega arith;
  took = (first, same ∙ left_is);
  sent = subst (λ b. SendsFront (packets_in (arrived arrival (seat_ends w)).happenings) b a'') sent_is part;
}

-- its step was made
pub heard_whole : (w new : Seat) (before after : List ℕ) (arrival : Arrival) (l l' l'' : Option (List Arrival)) (a a' a'' : Option (List (List ℕ)))
    → IsFirst l arrival → l' ≡ left_after l → l'' ≡ l' → a' ≡ a
    → Plays (arrived arrival (seat_ends w)) w new before after a' a'' → Hears w new before after l l'' a a'' (is_closed arrival)
heard_whole w new before after arrival l l' l'' a a' a'' first left_is same sent_is plays = record {
  arrival = arrival;
  first = first;
  left = same ∙ left_is;
  plays = subst (λ b. Plays (arrived arrival (seat_ends w)) w new before after b a'') sent_is plays;
  closed_is = refl;
}
