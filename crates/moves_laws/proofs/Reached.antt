-- What the invariant says of what may happen next.
use Rattle.std.proofs.Common.{◌≡◌, ℕ, ◌≤◌, true, false, List, Some, slice_get, ⊎_elim, refl, sym, ap, subst}
use Rattle.omci_types.specs.declared.Priority.{Priority}
use Rattle.omci_types.specs.declared.Priority.TheVariants.{Low, High}
use Rattle.history_spec.specs.History.{WasCarried, LastReply}
use Rattle.moves_spec.specs.Channel.{Transaction, place_number, RequestOf, ReplyTo, Outstanding, Channel, lane_view}
use Rattle.moves_spec.specs.Moves.{with_floor_down, with_floor_up}
use Rattle.moves_laws.specs.Facts.{IsReached, MayGoDown, MayBeCarriedOut, MayGoUp, MayBeTaken, IsAwaited, KeepsNumber}
use Rattle.moves_laws.proofs.Parts.{Asks, Replies, SoundLane, SoundChannel}
use Rattle.moves_laws.proofs.Serving.{Comes, carry_once}
use Rattle.moves_laws.proofs.Ending.{Takes, taken_own, taken_last, taken_kept, taken_carried}
use Rattle.moves_laws.proofs.Others.{lane_lowered_down, lane_lowered_up}
use Rattle.moves_laws.proofs.Steps.{may_floor, may_within}
use Rattle.moves_laws.proofs.Runs.{lane_of, channel_after}

pub channel_of : (w : Channel) → IsReached w → SoundChannel w
channel_of w r = subst SoundChannel r.is (channel_after r.low r.high r.moves)

pub shared_of : (l : Priority) (w : Channel) → (lane_view l w).shared ≡ w.shared
shared_of Low w = refl
shared_of High w = refl

asks_of : (l : Priority) (w : Channel) (i : ℕ) (c : Transaction)
    → slice_get w.shared.packets i ≡ Some (RequestOf l c)
    → Asks l (lane_view l w).shared.packets i c
asks_of l w i c e = subst (λ s. Asks l s.packets i c) (sym (shared_of l w)) e

replies_of : (l : Priority) (w : Channel) (j : ℕ) (c : Transaction) (r : List ℕ)
    → slice_get w.shared.packets j ≡ Some (ReplyTo l c r)
    → Replies l (lane_view l w).shared.packets j c r
replies_of l w j c r e = subst (λ s. Replies l s.packets j c r) (sym (shared_of l w)) e

-- a request that may come is one that has come, once the floor has risen to it
comes_of : (l : Priority) (w : Channel) (i : ℕ) (c : Transaction) → MayGoDown l w i c
    → Comes l (with_floor_down i (lane_view l w)) i c
comes_of l w i c m = record {
  request = asks_of l w i c m.request;
  at_floor = refl;
  within = may_within (lane_view l w).lane.floor_down i _ m.may;
}

takes_of : (l : Priority) (w : Channel) (j : ℕ) (c : Transaction) (r : List ℕ) (o : Outstanding)
    → MayBeTaken l w j c r o → Takes l (with_floor_up j (lane_view l w)) j c r o
takes_of l w j c r o m = record {
  reply = replies_of l w j c r m.comes.reply;
  at_floor = refl;
  within = may_within (lane_view l w).lane.floor_up j _ m.comes.may;
  waits = m.waits;
  same = m.same;
}

raised_down : (l : Priority) (w : Channel) (i : ℕ) (c : Transaction) → MayGoDown l w i c
    → SoundChannel w → SoundLane l (with_floor_down i (lane_view l w))
raised_down l w i c m h = lane_lowered_down l (lane_view l w) i (may_floor _ i _ m.may)
    (lane_of l w h)

raised_up : (l : Priority) (w : Channel) (j : ℕ) (c : Transaction) (r : List ℕ) → MayGoUp l w j c r
    → SoundChannel w → SoundLane l (with_floor_up j (lane_view l w))
raised_up l w j c r m h = lane_lowered_up l (lane_view l w) j (may_floor _ j _ m.may)
    (lane_of l w h)

-- what is carried out was not carried out in this life
pub carried_fresh : (l : Priority) (w : Channel) (i : ℕ) (c : Transaction) → SoundChannel w
    → MayBeCarriedOut l w i c → WasCarried w.shared.life c.id w.shared.history → ⊥
carried_fresh l w i c h m was =
    carry_once l (with_floor_down i (lane_view l w)) i c (comes_of l w i c m.comes)
    (record { differs = m.differs }) (raised_down l w i c m.comes h)
    (subst (λ s. WasCarried s.life c.id s.history) (sym (shared_of l w)) was)

-- in a proved lane the outstanding command alone can be carried out
pub carried_awaited : (l : Priority) (w : Channel) (i : ℕ) (c : Transaction) → SoundChannel w
    → (lane_view l w).lane.proved ≡ true → MayBeCarriedOut l w i c → IsAwaited l w c
carried_awaited l w i c h proved m =
    ⊎_elim (λ p. record { outstanding = p.0; waits = p.1; same = sym p.2 })
    (λ p. absurd (m.differs p.0 p.1 p.2))
    ((lane_of l w h).proved.quiet i c proved (asks_of l w i c m.comes.request)
    (may_floor _ i _ m.comes.may))

pub taken_is_own : (l : Priority) (w : Channel) (j : ℕ) (c : Transaction) (r : List ℕ)
    (o : Outstanding) → SoundChannel w → MayBeTaken l w j c r o → c ≡ o.transaction
taken_is_own l w j c r o h m =
    (taken_own l (with_floor_up j (lane_view l w)) j c r o (takes_of l w j c r o m)
    (raised_up l w j c r m.comes h).places).0

pub taken_is_kept : (l : Priority) (w : Channel) (j : ℕ) (c : Transaction) (r : List ℕ)
    (o : Outstanding) → SoundChannel w → MayBeTaken l w j c r o → KeepsNumber l w c
taken_is_kept l w j c r o h m =
    let v = with_floor_up j (lane_view l w) in
    let lane = raised_up l w j c r m.comes h in
    let k = taken_kept l v j c r o (takes_of l w j c r o m) lane in
    record {
      kept = k.0;
      is = k.1;
      same =
          (let a = k.2 in let b = ap place_number (lane.places.shape o m.waits) in let d = m.same in
          cc);
    }

pub taken_was_carried : (l : Priority) (w : Channel) (j : ℕ) (c : Transaction) (r : List ℕ)
    (o : Outstanding) → SoundChannel w → MayBeTaken l w j c r o → c.probe ≡ false
    → WasCarried w.shared.life c.id w.shared.history
taken_was_carried l w j c r o h m b =
    let v = with_floor_up j (lane_view l w) in
    let own = taken_is_own l w j c r o h m in
    let was = taken_carried l v j c r o (takes_of l w j c r o m)
    (subst (λ x. x.probe ≡ false) own b) (raised_up l w j c r m.comes h) in
    subst (λ x. WasCarried w.shared.life x.id w.shared.history) (sym own)
    (subst (λ s. WasCarried s.life o.transaction.id s.history) (shared_of l w) was)

pub taken_is_last : (l : Priority) (w : Channel) (j : ℕ) (c : Transaction) (r : List ℕ)
    (o : Outstanding) → SoundChannel w → MayBeTaken l w j c r o → c.probe ≡ false
    → LastReply c.id r w.shared.history
taken_is_last l w j c r o h m b =
    let v = with_floor_up j (lane_view l w) in
    let own = taken_is_own l w j c r o h m in
    let last = taken_last l v j c r o (takes_of l w j c r o m) (subst (λ x. x.probe ≡ false) own b)
    (raised_up l w j c r m.comes h) in
    subst (λ x. LastReply x.id r w.shared.history) (sym own)
    (subst (λ s. LastReply o.transaction.id r s.history) (shared_of l w) last)

-- no request that may come is older than a reply that may come
pub reply_before_request : (l : Priority) (w : Channel) (j i : ℕ) (c d : Transaction) (r : List ℕ)
    → SoundChannel w → MayGoUp l w j c r → MayGoDown l w i d → c.id ≤ d.id
reply_before_request l w j i c d r h up down =
    ((lane_of l w h).replies.below j i c d r (replies_of l w j c r up.reply)
    (may_floor _ j _ up.may) (asks_of l w i d down.request) (may_floor _ i _ down.may)).le
