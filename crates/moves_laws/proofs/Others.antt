-- Floors rise, an end starts, and what happens in the other lane.
use Rattle.std.proofs.Common.{◌≡◌, ◌≢◌, ℕ, ◌+◌, ◌≤◌, List, [], ◌∷◌, ◌++◌, length, slice_get, inr, ⊎_elim, ap, arith, length-append}
use Rattle.std.proofs.lemmas.Option.{slice_get_within}
use Rattle.omci_types.specs.declared.Priority.{Priority}
use Rattle.mib_spec.specs.Database.{Database}
use Rattle.history_spec.specs.History.{Remark, CarriedOut, TookReply, Remarked}
use Rattle.moves_spec.specs.Channel.{Transaction, LinkPacket, RequestOf, ReplyTo, View}
use Rattle.moves_spec.specs.Moves.{with_packet, with_requests, with_floor_down, with_floor_up, with_unit_start, with_manager_start, with_written}
use Rattle.moves_laws.proofs.Parts.{Asks, Replies, Owner, SoundLane}
use Rattle.moves_laws.proofs.Lists.{got, still, nothing}

pub lane_lowered_down : (l : Priority) (v : View) (i : ℕ) → v.lane.floor_down ≤ i → SoundLane l v
    → SoundLane l (with_floor_down i v)
lane_lowered_down l v i up h = record {
  order = h.order;
  held = record {
    below = λ k j c e f le. h.held.below k j c e f (omega arith);
    newest = h.held.newest;
    fresh = h.held.fresh;
    made = h.held.made;
    carried = h.held.carried;
    past = h.held.past;
    known = h.held.known;
  };
  places = record {
    begun = h.places.begun;
    shape = h.places.shape;
    cost = h.places.cost;
    requests = λ j c e le. h.places.requests j c e (omega arith);
    replies = h.places.replies;
  };
  replies = record {
    below = λ j k d c r e le f lf. h.replies.below j k d c r e le f (omega arith);
    newest = h.replies.newest;
    fresh = h.replies.fresh;
  };
  proved = record {
    unproven = h.proved.unproven;
    kept = h.proved.kept;
    quiet = λ j c pr e le. h.proved.quiet j c pr e (omega arith);
    answered = h.proved.answered;
    reply = h.proved.reply;
    kept_reply = h.proved.kept_reply;
  };
}

pub lane_lowered_up : (l : Priority) (v : View) (i : ℕ) → v.lane.floor_up ≤ i → SoundLane l v
    → SoundLane l (with_floor_up i v)
lane_lowered_up l v i up h = record {
  order = h.order;
  held = h.held;
  places = record {
    begun = h.places.begun;
    shape = h.places.shape;
    cost = h.places.cost;
    requests = h.places.requests;
    replies = λ j c r e le. h.places.replies j c r e (omega arith);
  };
  replies = record {
    below = λ j k d c r e le f lf. h.replies.below j k d c r e (omega arith) f lf;
    newest = λ j d r o e le f. h.replies.newest j d r o e (omega arith) f;
    fresh = λ j d r e le. h.replies.fresh j d r e (omega arith);
  };
  proved = record {
    unproven = h.proved.unproven;
    kept = h.proved.kept;
    quiet = h.proved.quiet;
    answered = λ o j r w e le. h.proved.answered o j r w e (omega arith);
    reply = λ o j r w b e le. h.proved.reply o j r w b e (omega arith);
    kept_reply = h.proved.kept_reply;
  };
}

-- nothing that was sent before a start may come after it

pub lane_unit_start : (l : Priority) (v : View) → SoundLane l v → SoundLane l (with_unit_start v)
lane_unit_start l v h = record {
  order = h.order;
  held = record {
    below = λ k i c e f le. absurd (cc);
    newest = λ k o e f. absurd (cc);
    fresh = λ k e. absurd (cc);
    made = λ k e. absurd (cc);
    carried = λ id was own. absurd (omega (arith, h.held.past _ id was));
    past = λ life id was. omega (arith, h.held.past life id was);
    known = h.held.known;
  };
  places = record {
    begun = h.places.begun;
    shape = h.places.shape;
    cost = h.places.cost;
    requests = λ i c e le. absurd (nothing v.shared.packets i e le);
    replies = λ j c r e le. absurd (nothing v.shared.packets j e le);
  };
  replies = record {
    below = λ j i d c r e le f lf. absurd (nothing v.shared.packets j e le);
    newest = λ j d r o e le f. absurd (nothing v.shared.packets j e le);
    fresh = λ j d r e le. absurd (nothing v.shared.packets j e le);
  };
  proved = record {
    unproven = h.proved.unproven;
    kept = λ k e f. absurd (cc);
    quiet = λ i c pr e le. absurd (nothing v.shared.packets i e le);
    answered = λ o j r w e le. absurd (nothing v.shared.packets j e le);
    reply = λ o j r w b e le. absurd (nothing v.shared.packets j e le);
    kept_reply = λ o k w b e f. absurd (cc);
  };
}

pub lane_manager_start : (l : Priority) (v : View) (place : ℕ) → SoundLane l v
    → SoundLane l (with_manager_start place v)
lane_manager_start l v place h = record {
  order = record {
    sorted = h.order.sorted;
    owner = h.order.owner;
    newest = λ i c o e f. absurd (cc);
    waiting_owner = λ o e. absurd (cc);
  };
  held = record {
    below = λ k i c e f le. absurd (nothing v.shared.packets i f le);
    newest = λ k o e f. absurd (cc);
    fresh = h.held.fresh;
    made = h.held.made;
    carried = h.held.carried;
    past = h.held.past;
    known = h.held.known;
  };
  places = record {
    begun = omega arith;
    shape = λ o e. absurd (cc);
    cost = λ o e. absurd (cc);
    requests = λ i c e le. absurd (nothing v.shared.packets i e le);
    replies = λ j c r e le. absurd (nothing v.shared.packets j e le);
  };
  replies = record {
    below = λ j i d c r e le f lf. absurd (nothing v.shared.packets j e le);
    newest = λ j d r o e le f. absurd (nothing v.shared.packets j e le);
    fresh = λ j d r e le. absurd (nothing v.shared.packets j e le);
  };
  proved = record {
    unproven = λ o e f. absurd (cc);
    kept = λ k e f. absurd (cc);
    quiet = λ i c pr e le. absurd (nothing v.shared.packets i e le);
    answered = λ o j r w e le. absurd (nothing v.shared.packets j e le);
    reply = λ o j r w b e le. absurd (nothing v.shared.packets j e le);
    kept_reply = λ o k w b e f. absurd (cc);
  };
}

-- a packet that is none of this lane
pub record Foreign (l : Priority) (x : LinkPacket) : Type 0 where
  pub no_request : (c : Transaction) → x ≢ RequestOf l c
  pub no_reply : (c : Transaction) (r : List ℕ) → x ≢ ReplyTo l c r

pub lane_beside : (l : Priority) (v : View) (x : LinkPacket) → Foreign l x → SoundLane l v
    → SoundLane l (with_packet x v)
lane_beside l v x n h =
    let asks : (i : ℕ) (c : Transaction) → Asks l (v.shared.packets ++ x ∷ []) i c
    → Asks l v.shared.packets i c =
    λ i c e. ⊎_elim (λ f. f) (λ g. absurd (n.no_request c g.1)) (got v.shared.packets x i _ e) in
    let replies : (j : ℕ) (c : Transaction) (r : List ℕ) → Replies l (v.shared.packets ++ x ∷ []) j c r
    → Replies l v.shared.packets j c r =
    λ j c r e. ⊎_elim (λ f. f) (λ g. absurd (n.no_reply c r g.1)) (got v.shared.packets x j _ e) in
    record {
      order = record {
        sorted = λ i j c d e f le. h.order.sorted i j c d (asks i c e) (asks j d f) le;
        owner = λ i c e. h.order.owner i c (asks i c e);
        newest = λ i c o e f. h.order.newest i c o (asks i c e) f;
        waiting_owner = h.order.waiting_owner;
      };
      held = record {
        below = λ k i c e f le. h.held.below k i c e (asks i c f) le;
        newest = h.held.newest;
        fresh = h.held.fresh;
        made = h.held.made;
        carried = h.held.carried;
        past = h.held.past;
        known = h.held.known;
      };
      places = record {
        begun = omega (arith, length-append v.shared.packets (x ∷ []), h.places.begun);
        shape = h.places.shape;
        cost = λ o e. omega (arith, length-append v.shared.packets (x ∷ []), h.places.cost o e);
        requests = λ i c e le. h.places.requests i c (asks i c e) le;
        replies = λ j c r e le. h.places.replies j c r (replies j c r e) le;
      };
      replies = record {
        below = λ j i d c r e le f lf. h.replies.below j i d c r (replies j d r e) le
            (asks i c f) lf;
        newest = λ j d r o e le f. h.replies.newest j d r o (replies j d r e) le f;
        fresh = λ j d r e le. h.replies.fresh j d r (replies j d r e) le;
      };
      proved = record {
        unproven = h.proved.unproven;
        kept = h.proved.kept;
        quiet = λ i c pr e le. h.proved.quiet i c pr (asks i c e) le;
        answered = λ o j r w e le. h.proved.answered o j r w (replies j o.transaction r e) le;
        reply = λ o j r w b e le. h.proved.reply o j r w b (replies j o.transaction r e) le;
        kept_reply = h.proved.kept_reply;
      };
    }

pub lane_beside_all : (l m : Priority) (c : Transaction) (packets : List (List ℕ)) (v : View)
    → Foreign l (RequestOf m c) → SoundLane l v
    → SoundLane l (with_requests m c packets v)
lane_beside_all l m c [] v n h = h
lane_beside_all l m c (p ∷ rest) v n h = lane_beside_all l m c rest
    (with_packet (RequestOf m c) v) n (lane_beside l v (RequestOf m c) n h)

-- a command of the other lane is drawn
abbrev pub more_drawn : Priority → View → View
more_drawn m v = record v { shared = record v.shared { draws = v.shared.draws ++ m ∷ [] } }

more_draws : (m : Priority) (v : View)
    → length (v.shared.draws ++ m ∷ []) ≡ length v.shared.draws + 1
more_draws m v = length-append v.shared.draws (m ∷ [])

owner_before : (l m : Priority) (draws : List Priority) (id : ℕ) → m ≢ l
    → Owner l (draws ++ m ∷ []) id → Owner l draws id
owner_before l m draws id ne e = ⊎_elim (λ f. f) (λ g. absurd (ne g.1)) (got draws m id l e)

pub lane_more_drawn : (l m : Priority) (v : View) → m ≢ l → SoundLane l v
    → SoundLane l (more_drawn m v)
lane_more_drawn l m v ne h = record {
  order = record {
    sorted = h.order.sorted;
    owner = λ i c e. still v.shared.draws _ c.id l (h.order.owner i c e);
    newest = h.order.newest;
    waiting_owner = λ o e. still v.shared.draws _ o.transaction.id l (h.order.waiting_owner o e);
  };
  held = record {
    below = h.held.below;
    newest = h.held.newest;
    fresh = λ k e. omega (arith, h.held.fresh k e, more_draws m v);
    made = h.held.made;
    carried = λ id was own. h.held.carried id was (owner_before l m v.shared.draws id ne own);
    past = h.held.past;
    known = λ life id was. omega (arith, h.held.known life id was, more_draws m v);
  };
  places = h.places;
  replies = record {
    below = h.replies.below;
    newest = h.replies.newest;
    fresh = λ j d r e le. omega (arith, h.replies.fresh j d r e le, more_draws m v);
  };
  proved = h.proved;
}

-- the history grows by an entry of no carrying out

pub lane_took : (l : Priority) (v : View) (id : ℕ) (r : List ℕ) → SoundLane l v
    → SoundLane l (with_written (TookReply id r) v)
lane_took l v id r h = record {
  order = h.order;
  held = record {
    below = h.held.below;
    newest = h.held.newest;
    fresh = h.held.fresh;
    made = h.held.made;
    carried = h.held.carried;
    past = h.held.past;
    known = h.held.known;
  };
  places = h.places;
  replies = h.replies;
  proved = record {
    unproven = h.proved.unproven;
    kept = h.proved.kept;
    quiet = h.proved.quiet;
    answered = h.proved.answered;
    reply = h.proved.reply;
    kept_reply = h.proved.kept_reply;
  };
}

pub lane_noted : (l : Priority) (v : View) (n : Remark) → SoundLane l v
    → SoundLane l (with_written (Remarked n) v)
lane_noted l v n h = record {
  order = h.order;
  held = record {
    below = h.held.below;
    newest = h.held.newest;
    fresh = h.held.fresh;
    made = h.held.made;
    carried = h.held.carried;
    past = h.held.past;
    known = h.held.known;
  };
  places = h.places;
  replies = h.replies;
  proved = record {
    unproven = h.proved.unproven;
    kept = h.proved.kept;
    quiet = h.proved.quiet;
    answered = h.proved.answered;
    reply = h.proved.reply;
    kept_reply = h.proved.kept_reply;
  };
}

-- a command of the other lane is carried out

two_owners : (l m : Priority) (draws : List Priority) (i j : ℕ) → m ≢ l → Owner m draws i
    → Owner l draws j → i ≢ j
two_owners l m draws i j ne a b e = ne (let f = ap (λ x. slice_get draws x) e in cc)

pub lane_carried_beside : (l m : Priority) (v : View) (c : Transaction) (r : List ℕ)
    (before : Database) → m ≢ l → Owner m v.shared.draws c.id → SoundLane l v
    → SoundLane l (with_written (CarriedOut v.shared.life c.id r before) v)
lane_carried_beside l m v c r before ne own h = record {
  order = h.order;
  held = record {
    below = h.held.below;
    newest = h.held.newest;
    fresh = h.held.fresh;
    made = λ k e. inr (h.held.made k e);
    carried = λ id was mine. ⊎_elim
        (λ e. absurd (two_owners l m v.shared.draws c.id id ne own mine e.1))
        (λ old. h.held.carried id old mine) was;
    past = λ life id was. ⊎_elim (λ e. omega arith) (λ old. h.held.past life id old) was;
    known = λ life id was. ⊎_elim (λ e. omega (arith, slice_get_within v.shared.draws c.id m own))
        (λ old. h.held.known life id old) was;
  };
  places = h.places;
  replies = h.replies;
  proved = record {
    unproven = h.proved.unproven;
    kept = h.proved.kept;
    quiet = h.proved.quiet;
    answered = h.proved.answered;
    reply = λ o j q w b e le. inr (
      two_owners l m v.shared.draws c.id o.transaction.id ne own (h.order.waiting_owner o w),
      h.proved.reply o j q w b e le,
    );
    kept_reply = λ o k w b e f. inr (
      two_owners l m v.shared.draws c.id o.transaction.id ne own (h.order.waiting_owner o w),
      h.proved.kept_reply o k w b e f,
    );
  };
}
