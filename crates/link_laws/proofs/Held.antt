-- What is held of a link answers as the link does, and its steps follow the link's.
use Rattle.std.proofs.Common.{◌≡◌, ℕ, ◌+◌, ◌-◌, ◌<◌, Bool, true, false, cond, nat_le, [], ◌∷◌, length, drop, Option, Some, None, refl, sym, ap, ◌∙◌, arith, length-append, zero-add}
use Rattle.std.specs.Prelude.{slice_get}
use Rattle.std.proofs.lemmas.Bool.{leb-true, leb-false}
use Rattle.circular_buffer.specs.Buffer.{keep_last}
use Rattle.circular_buffer.proofs.Places.{slice_get-drop}
use Rattle.link_spec.specs.declared.TheConstants.{WINDOW}
use Rattle.link_spec.specs.Link.{Sent, Ways, Link, count, empty_link, sent_on, way_of, if_may_come, allowed_one, allowed, delivered_on, carried_on, link_after, first_fresh, fresh, emptied}
use Rattle.link_spec.specs.Held.{held_of, nothing_held, held_sent, held_allowed, held_delivered, held_carried, held_after, held_fresh, held_emptied}
use Rattle.link_laws.proofs.Lists.{keep_last-more, before_last}
use Rattle.link_laws.proofs.Fresh.{old_comes_not, skip_old}

pub held_of-empty : held_of empty_link ≡ nothing_held
unfolding held_of
held_of-empty = refl

pub held_of-sent : (s : Sent) (l : Link) → held_of (sent_on s l) ≡ held_sent s (held_of l)
unfolding held_of held_sent
held_of-sent s l = λ i. record {
  count = length-append l.packets (s ∷ []) i;
  last = keep_last-more WINDOW l.packets s i;
  ways = l.ways;
}

pub held_of-delivered : (number : ℕ) (s : Sent) (l : Link) → held_of (delivered_on number s l) ≡ held_delivered number s (held_of l)
unfolding held_of
held_of-delivered number s l = refl

pub held_of-emptied : (l : Link) → held_of (emptied l) ≡ held_emptied (held_of l)
unfolding held_of
held_of-emptied l = refl

-- a packet that is too old may not come
forgotten : (number : ℕ) (packet : Option Sent) (ways : Ways) (count : ℕ) → number + WINDOW < count → allowed_one number packet ways count ≡ None
forgotten number None ways count old = refl
forgotten number (Some s) ways count old = ap (λ b. if_may_come b s) (old_comes_not number (way_of s ways) count old)

held_one : (b : Bool) (here packet : Option Sent) (number : ℕ) (ways : Ways) (count : ℕ)
    → (b ≡ true → here ≡ packet) → (b ≡ false → number + WINDOW < count)
    → allowed_one number (cond b here None) ways count ≡ allowed_one number packet ways count
held_one true here packet number ways count is old = ap (λ p. allowed_one number p ways count) (is refl)
held_one false here packet number ways count is old = sym (forgotten number packet ways count (old refl))

held_at : (number : ℕ) (l : Link) (d : ℕ) → d ≡ length l.packets - WINDOW
    → allowed_one number (cond (nat_le d number) (slice_get (keep_last WINDOW l.packets) (number - d)) None) l.ways (count l)
    ≡ allowed_one number (slice_get l.packets number) l.ways (count l)
held_at number l d is =
    held_one (nat_le d number) (slice_get (keep_last WINDOW l.packets) (number - d)) (slice_get l.packets number) number l.ways (count l)
    (λ held. let within = leb-true d number held in
    let place : number ≡ length l.packets - WINDOW + (number - d) = omega arith in
    slice_get-drop (length l.packets - WINDOW) l.packets (number - d) number place)
    (λ gone. let before = leb-false d number gone in omega arith)

pub held_of-allowed : (number : ℕ) (l : Link) → held_allowed number (held_of l) ≡ allowed number l
unfolding held_of held_allowed allowed
held_of-allowed number l = held_at number l (length l.packets - length (keep_last WINDOW l.packets)) (before_last WINDOW l.packets)

carried : (number : ℕ) (packet : Option Sent) (l : Link) → held_of (carried_on number packet l) ≡ held_carried number packet (held_of l)
carried number None l = refl
carried number (Some s) l = held_of-delivered number s l

pub held_of-after : (number : ℕ) (l : Link) → held_of (link_after number l) ≡ held_after number (held_of l)
unfolding link_after held_after
held_of-after number l =
    carried number (allowed number l) l ∙ ap (λ packet. held_carried number packet (held_of l)) (sym (held_of-allowed number l))

pub held_of-fresh : (u m : Bool) (l : Link) → held_fresh u m (held_of l) ≡ fresh u m l
unfolding held_of held_fresh fresh
held_of-fresh u m l =
    let d = length l.packets - WINDOW in
    ap (λ k. first_fresh u m k (drop d l.packets) l.ways (count l)) (before_last WINDOW l.packets ∙ sym (zero-add d))
    ∙ skip_old u m 0 d l.packets l.ways (count l) (omega arith) (omega arith)
