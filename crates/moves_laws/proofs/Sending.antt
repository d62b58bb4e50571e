-- The packets of the outstanding command go onto the link.
use Rattle.std.proofs.Common.{◌≡◌, ℕ, ◌+◌, ◌≤◌, Bool, List, [], ◌∷◌, ◌++◌, length, Option, Some, inl, inr, ⊎_elim, refl, ap, ◌∙◌, arith, length-append}
use Rattle.std.proofs.lemmas.Option.{slice_get_within}
use Rattle.omci_types.specs.declared.Priority.{Priority}
use Rattle.history_spec.specs.History.{Entry}
use Rattle.link_spec.specs.declared.TheConstants.{WINDOW}
use Rattle.moves_spec.specs.Channel.{Transaction, LinkPacket, RequestOf, KeptReply, Outstanding, View}
use Rattle.moves_spec.specs.Moves.{with_packet, with_requests, with_sent}
use Rattle.moves_laws.proofs.Parts.{OrderPart, HeldPart, Placed, Apart, Harmless, PlacesPart, RepliesPart, ProvedPart, SoundLane}
use Rattle.moves_laws.proofs.Lists.{got}

order_sent : (l : Priority) (packets : List LinkPacket) (draws : List Priority)
    (waits : Option Outstanding) (o : Outstanding) → waits ≡ Some o
    → OrderPart l packets draws waits
    → OrderPart l (packets ++ RequestOf l o.transaction ∷ []) draws waits
order_sent l packets draws waits o w h = record {
  sorted = λ i j c d e f le. grind (arith, got, slice_get_within, h.sorted, h.newest);
  owner = λ i c e. grind (arith, got, h.owner, h.waiting_owner);
  newest = λ i c p e f. grind (arith, got, h.newest);
  waiting_owner = h.waiting_owner;
}

held_sent : (l : Priority) (packets : List LinkPacket) (draws : List Priority) (now : ℕ)
    (history : List Entry) (down : ℕ) (keeps : Option KeptReply)
    (waits : Option Outstanding) (o : Outstanding) → waits ≡ Some o
    → HeldPart l packets draws now history down keeps waits
    → HeldPart l (packets ++ RequestOf l o.transaction ∷ []) draws now history down keeps waits
held_sent l packets draws now history down keeps waits o w h = record {
  below = λ k i c e f le. grind (arith, got, h.below, h.newest);
  newest = h.newest;
  fresh = h.fresh;
  made = h.made;
  carried = h.carried;
  past = h.past;
  known = h.known;
}

places_sent : (l : Priority) (packets : List LinkPacket) (down up : ℕ) (waits : Option Outstanding)
    (place since : ℕ) (o : Outstanding) → waits ≡ Some o
    → PlacesPart l packets down up waits place since
    → PlacesPart l (packets ++ RequestOf l o.transaction ∷ []) down up waits place since
places_sent l packets down up waits place since o w h = record {
  begun = grind (arith, length-append, h.begun);
  shape = h.shape;
  cost = λ p e. grind (arith, length-append, h.cost);
  requests = λ i c e le. ⊎_elim (λ f. h.requests i c f le)
      (λ g. inr (record { outstanding = o; is = w; same = cc; from = grind (arith, h.begun) }))
      (got packets _ i _ e);
  replies = λ j c r e le. ⊎_elim (λ f. h.replies j c r f le) (λ g. absurd (cc))
      (got packets _ j _ e);
}

replies_sent : (l : Priority) (packets : List LinkPacket) (draws : List Priority) (down up : ℕ)
    (waits : Option Outstanding) (o : Outstanding) → waits ≡ Some o
    → RepliesPart l packets draws down up waits
    → RepliesPart l (packets ++ RequestOf l o.transaction ∷ []) draws down up waits
replies_sent l packets draws down up waits o w h = record {
  below = λ j i d c r e le f lf. grind (arith, got, h.below, h.newest);
  newest = λ j d r p e le f. grind (arith, got, h.newest);
  fresh = λ j d r e le. grind (arith, got, h.fresh);
}

proved_sent : (l : Priority) (packets : List LinkPacket) (history : List Entry) (down up : ℕ)
    (keeps : Option KeptReply) (is_proved : Bool) (place : ℕ)
    (waits : Option Outstanding) (o : Outstanding) → waits ≡ Some o
    → ProvedPart l packets history down up keeps is_proved place waits
    → ProvedPart l
    (packets ++ RequestOf l o.transaction ∷ []) history down up keeps is_proved place waits
proved_sent l packets history down up keeps is_proved place waits o w h = record {
  unproven = h.unproven;
  kept = h.kept;
  quiet = λ i c pr e le. ⊎_elim (λ f. h.quiet i c pr f le) (λ g. inl (o, w, (cc)))
      (got packets _ i _ e);
  answered = λ p j r e f le. grind (arith, got, h.answered);
  reply = λ p j r e b f le. grind (arith, got, h.reply);
  kept_reply = h.kept_reply;
}

lane_sent : (l : Priority) (v : View) (o : Outstanding) → v.lane.outstanding ≡ Some o
    → SoundLane l v
    → SoundLane l (with_packet (RequestOf l o.transaction) v)
lane_sent l v o w h = record {
  order = order_sent l _ _ _ o w h.order;
  held = held_sent l _ _ _ _ _ _ _ o w h.held;
  places = places_sent l _ _ _ _ _ _ o w h.places;
  replies = replies_sent l _ _ _ _ _ o w h.replies;
  proved = proved_sent l _ _ _ _ _ _ _ _ o w h.proved;
}

-- all packets of one time
requests_length : (l : Priority) (c : Transaction) (packets : List (List ℕ)) (v : View)
    → length (with_requests l c packets v).shared.packets ≡ length v.shared.packets + length packets
requests_length l c [] v = omega arith
requests_length l c (p ∷ rest) v =
    omega (
      arith,
      requests_length l c rest (with_packet (RequestOf l c) v),
      length-append v.shared.packets (RequestOf l c ∷ []),
    )

lane_sent_all : (l : Priority) (packets : List (List ℕ)) (v : View) (o : Outstanding)
    → v.lane.outstanding ≡ Some o → SoundLane l v
    → SoundLane l (with_requests l o.transaction packets v)
lane_sent_all l [] v o w h = h
lane_sent_all l (p ∷ rest) v o w h = lane_sent_all l rest
    (with_packet (RequestOf l o.transaction) v) o w (lane_sent l v o w h)

-- they change nothing but the packets
lane_stays : (l : Priority) (c : Transaction) (packets : List (List ℕ)) (v : View)
    → (with_requests l c packets v).lane ≡ v.lane
lane_stays l c [] v = refl
lane_stays l c (p ∷ rest) v = lane_stays l c rest (with_packet (RequestOf l c) v)

-- they are counted once they are there

placed_counted : (waits : Option Outstanding) (o : Outstanding) → waits ≡ Some o
    → (count place since i : ℕ) (c : Transaction) (n m : ℕ)
    → Placed waits place since i c n m
    → Placed (Some (record o { sent = o.sent + count })) place since i c n m
placed_counted waits o w count place since i c n m (inl p) = inl p
placed_counted waits o w count place since i c n m (inr p) =
    inr (record {
      outstanding = record o { sent = o.sent + count };
      is = refl;
      same =
          (let e = p.is in let f = p.same in cc);
      from = p.from;
    })

apart_counted : (waits : Option Outstanding) (o : Outstanding) → waits ≡ Some o
    → (count place : ℕ) (k : KeptReply)
    → Apart waits place k → Apart (Some (record o { sent = o.sent + count })) place k
apart_counted waits o w count place k (inl p) = inl p
apart_counted waits o w count place k (inr p) = inr
    (record o { sent = o.sent + count }, refl, (let e = p.1 in let f = p.2 in cc))

harmless_counted : (waits : Option Outstanding) (o : Outstanding) → waits ≡ Some o
    → (count : ℕ) (keeps : Option KeptReply) (c : Transaction)
    → Harmless waits keeps c → Harmless (Some (record o { sent = o.sent + count })) keeps c
harmless_counted waits o w count keeps c (inl p) = inl
    (record o { sent = o.sent + count }, refl, (let e = p.1 in let f = p.2 in cc))
harmless_counted waits o w count keeps c (inr p) = inr p

lane_counted : (l : Priority) (v : View) (o : Outstanding) (count : ℕ) → v.lane.outstanding ≡ Some o
    → v.lane.since + o.sent + count ≤ length v.shared.packets → SoundLane l v
    → SoundLane l (with_sent count o v)
lane_counted l v o count w more h = record {
  order = record {
    sorted = h.order.sorted;
    owner = h.order.owner;
    newest = λ i c p e f. grind (arith, h.order.newest);
    waiting_owner = λ p e. grind (arith, h.order.waiting_owner);
  };
  held = record {
    below = h.held.below;
    newest = λ k p e f. grind (arith, h.held.newest);
    fresh = h.held.fresh;
    made = h.held.made;
    carried = h.held.carried;
    past = h.held.past;
    known = h.held.known;
  };
  places = record {
    begun = h.places.begun;
    shape = λ p e. grind (arith, h.places.shape);
    cost = λ p e. grind (arith, h.places.cost);
    requests = λ i c e le. placed_counted v.lane.outstanding o w count _ _ i c 0 0
        (h.places.requests i c e le);
    replies = λ j c r e le. placed_counted v.lane.outstanding o w count _ _ j c WINDOW 1
        (h.places.replies j c r e le);
  };
  replies = record {
    below = h.replies.below;
    newest = λ j d r p e le f. grind (arith, h.replies.newest);
    fresh = h.replies.fresh;
  };
  proved = record {
    unproven = λ p e f. grind (arith, h.proved.unproven);
    kept = λ k e f. apart_counted v.lane.outstanding o w count _ k (h.proved.kept k e f);
    quiet = λ i c pr e le. harmless_counted v.lane.outstanding o w count _ c
        (h.proved.quiet i c pr e le);
    answered = λ p j r e f le. grind (arith, h.proved.answered);
    reply = λ p j r e b f le. grind (arith, h.proved.reply);
    kept_reply = λ p k e b f g. grind (arith, h.proved.kept_reply);
  };
}

-- the outstanding command is sent
pub lane_after_send : (l : Priority) (v : View) (o : Outstanding) → v.lane.outstanding ≡ Some o
    → SoundLane l v
    → SoundLane l
    (with_sent (length o.transaction.packets) o
    (with_requests l o.transaction o.transaction.packets v))
lane_after_send l v o w h =
    let same = lane_stays l o.transaction o.transaction.packets v in
    let more = requests_length l o.transaction o.transaction.packets v in
    let since = ap (λ x. x.since) same in
    lane_counted l (with_requests l o.transaction o.transaction.packets v) o
    (length o.transaction.packets) (ap (λ x. x.outstanding) same ∙ w)
    (omega (arith, more, since, h.places.cost o w)) (lane_sent_all l o.transaction.packets v o w h)
