-- A command ends, and another is drawn.
use Rattle.std.proofs.Common.{◌≡◌, ◌≢◌, ℕ, ◌+◌, ◌<◌, ◌≤◌, Bool, true, false, List, [], ◌∷◌, ◌++◌, length, Option, Some, None, inl, inr, ⊎_elim, refl, sym, ap, subst, ◌∙◌, arith, length-append}
use Rattle.std.proofs.lemmas.Option.{slice_get_within, same_Some}
use Rattle.omci_types.specs.declared.Priority.{Priority}
use Rattle.history_spec.specs.History.{WasCarried, LastReply}
use Rattle.link_spec.specs.declared.TheConstants.{WINDOW}
use Rattle.moves_spec.specs.Channel.{Transaction, place_number, KeptReply, Outstanding, View}
use Rattle.moves_spec.specs.Moves.{drawn_transaction, outstanding_of, with_draw, with_end}
use Rattle.moves_laws.proofs.Parts.{Asks, Replies, Owner, Before, Placed, Apart, Harmless, PlacesIn, SoundLane}
use Rattle.moves_laws.proofs.Lists.{got, still, added}
use Rattle.moves_laws.proofs.Numbers.{apart, past_reply}
use Rattle.moves_laws.proofs.Serving.{waits_proved}

-- the reply at j has come to the manager, and has the number of the outstanding command
pub record Takes (l : Priority) (v : View) (j : ℕ) (c : Transaction) (r : List ℕ)
    (o : Outstanding) : Type 0 where
  pub reply : Replies l v.shared.packets j c r
  pub at_floor : v.lane.floor_up ≡ j
  pub within : length v.shared.packets ≤ j + WINDOW
  pub waits : v.lane.outstanding ≡ Some o
  pub same : place_number c.place ≡ place_number o.transaction.place

-- so it is of that command, which cost a request and a reply
taken_placed : (l : Priority) (v : View) (j : ℕ) (c : Transaction) (r : List ℕ) (o : Outstanding)
    → Takes l v j c r o → PlacesIn l v
    → Placed v.lane.outstanding v.lane.place v.lane.since j c WINDOW 1
    → (c ≡ o.transaction) × (v.lane.since + 2 ≤ length v.shared.packets)
taken_placed l v j c r o t h (inl p) =
    absurd (past_reply v.lane.place v.lane.since j (length v.shared.packets) c h.begun t.within p
    (let s = t.same in let m = ap place_number (h.shape o t.waits) in cc))
taken_placed l v j c r o t h (inr p) = (
  (let a = p.is in let b = p.same in let w = t.waits in cc),
  omega (arith, p.from, slice_get_within v.shared.packets j _ t.reply),
)

pub taken_own : (l : Priority) (v : View) (j : ℕ) (c : Transaction) (r : List ℕ) (o : Outstanding)
    → Takes l v j c r o → PlacesIn l v
    → (c ≡ o.transaction) × (v.lane.since + 2 ≤ length v.shared.packets)
taken_own l v j c r o t h = taken_placed l v j c r o t h
    (h.replies j c r t.reply (omega (arith, t.at_floor)))

-- the same reply, as one to the outstanding command
taken_as_own : (l : Priority) (v : View) (j : ℕ) (c : Transaction) (r : List ℕ) (o : Outstanding)
    → Takes l v j c r o → PlacesIn l v → Replies l v.shared.packets j o.transaction r
taken_as_own l v j c r o t h = subst (λ x. Replies l v.shared.packets j x r)
    (taken_own l v j c r o t h).0 t.reply

-- the outstanding command ends, two packets or more after it was drawn

placed_ended : (waits : Option Outstanding) (o : Outstanding) (place since count i : ℕ)
    (c : Transaction) (n m : ℕ) → waits ≡ Some o → o.transaction.place ≡ place
    → since + 2 ≤ count → i < count → Placed waits place since i c n m
    → Placed None (place + 1) count i c n m
placed_ended waits o place since count i c n m w s more lt (inl p) = inl
    (record { ended = omega (arith, p.ended); far = omega (arith, p.far) })
placed_ended waits o place since count i c n m w s more lt (inr p) =
    let e : c.place ≡ place = let a = p.is in let b = p.same in cc in
    inl (record { ended = omega arith; far = omega arith })

lane_ended : (l : Priority) (v : View) (proved : Bool) (o : Outstanding)
    → v.lane.outstanding ≡ Some o → v.lane.since + 2 ≤ length v.shared.packets
    → ((k : KeptReply) → proved ≡ true → v.lane.kept ≡ Some k → place_number k.transaction.place ≢ place_number (v.lane.place + 1))
    → ((i : ℕ) (c : Transaction) → proved ≡ true → Asks l v.shared.packets i c
    → v.lane.floor_down ≤ i → Harmless None v.lane.kept c)
    → SoundLane l v → SoundLane l (with_end proved v)
lane_ended l v proved o w more kept quiet h = record {
  order = record {
    sorted = h.order.sorted;
    owner = h.order.owner;
    newest = λ i c p e f. absurd (cc);
    waiting_owner = λ p e. absurd (cc);
  };
  held = record {
    below = h.held.below;
    newest = λ k p e f. absurd (cc);
    fresh = h.held.fresh;
    made = h.held.made;
    carried = h.held.carried;
    past = h.held.past;
    known = h.held.known;
  };
  places = record {
    begun = omega arith;
    shape = λ p e. absurd (cc);
    cost = λ p e. absurd (cc);
    requests = λ i c e le. placed_ended v.lane.outstanding o _ _ _ i c 0 0 w
        (h.places.shape o w) more
        (slice_get_within v.shared.packets i _ e) (h.places.requests i c e le);
    replies = λ j c r e le. placed_ended v.lane.outstanding o _ _ _ j c WINDOW 1 w
        (h.places.shape o w) more
        (slice_get_within v.shared.packets j _ e) (h.places.replies j c r e le);
  };
  replies = record {
    below = h.replies.below;
    newest = λ j d r p e le f. absurd (cc);
    fresh = h.replies.fresh;
  };
  proved = record {
    unproven = λ p e f. absurd (cc);
    kept = λ k e f. inl (kept k e f);
    quiet = quiet;
    answered = λ p j r e f le. absurd (cc);
    reply = λ p j r e b f le. absurd (cc);
    kept_reply = λ p k e b f g. absurd (cc);
  };
}

-- it was given up, after two packets of it
pub lane_given_up : (l : Priority) (v : View) (o : Outstanding) → v.lane.outstanding ≡ Some o
    → 2 ≤ o.sent → SoundLane l v → SoundLane l (with_end false v)
lane_given_up l v o w more h =
    lane_ended l v false o w (omega (arith, h.places.cost o w)) (λ k e f. absurd (cc))
    (λ i c e f le. absurd (cc)) h

-- its reply was taken: what the unit keeps has its number
pub taken_kept : (l : Priority) (v : View) (j : ℕ) (c : Transaction) (r : List ℕ) (o : Outstanding)
    → Takes l v j c r o → SoundLane l v
    → (k : KeptReply) × (v.lane.kept ≡ Some k)
    × (place_number k.transaction.place ≡ place_number v.lane.place)
taken_kept l v j c r o t h =
    h.proved.answered o j r t.waits (taken_as_own l v j c r o t h.places)
    (omega (arith, t.at_floor))

-- which isn't the next number
taken_apart : (l : Priority) (v : View) (j : ℕ) (c : Transaction) (r : List ℕ) (o : Outstanding)
    → Takes l v j c r o → SoundLane l v → (k : KeptReply) → v.lane.kept ≡ Some k
    → place_number k.transaction.place ≢ place_number (v.lane.place + 1)
taken_apart l v j c r o t h k f bad =
    let a = taken_kept l v j c r o t h in
    let same : a.0 ≡ k = let g = a.1 in cc in
    let n : place_number k.transaction.place ≡ place_number v.lane.place = let g = a.2 in cc in
    apart v.lane.place (v.lane.place + 1) (omega arith) (omega arith) (sym n ∙ bad)

-- and the requests that may still come are that command's
taken_harmless : (l : Priority) (v : View) (j : ℕ) (c : Transaction) (r : List ℕ) (o : Outstanding)
    → Takes l v j c r o → SoundLane l v → (i : ℕ) (d : Transaction)
    → Asks l v.shared.packets i d → v.lane.floor_down ≤ i → Harmless None v.lane.kept d
taken_harmless l v j c r o t h i d f le =
    let a = taken_kept l v j c r o t h in
    let reply = taken_as_own l v j c r o t h.places in
    let up = h.replies.below j i o.transaction d r reply (omega (arith, t.at_floor)) f le in
    let down = h.order.newest i d o f t.waits in
    let one : o.transaction ≡ d = up.same (omega (arith, up.le, down.le)) in
    let place = ap place_number (h.places.shape o t.waits) in
    inr (a.0, a.1, a.2 ∙ sym place ∙ ap (λ x. place_number x.place) one)

pub lane_taken : (l : Priority) (v : View) (j : ℕ) (c : Transaction) (r : List ℕ) (o : Outstanding)
    (proved : Bool) → Takes l v j c r o → SoundLane l v → SoundLane l (with_end proved v)
lane_taken l v j c r o proved t h =
    lane_ended l v proved o t.waits (taken_own l v j c r o t h.places).1
    (λ k e f. taken_apart l v j c r o t h k f)
    (λ i d e f le. taken_harmless l v j c r o t h i d f le) h

-- and it was the reply of the command's last carrying out, in this life
pub taken_last : (l : Priority) (v : View) (j : ℕ) (c : Transaction) (r : List ℕ) (o : Outstanding)
    → Takes l v j c r o → o.transaction.probe ≡ false → SoundLane l v
    → LastReply o.transaction.id r v.shared.history
taken_last l v j c r o t b h = h.proved.reply o j r t.waits b (taken_as_own l v j c r o t h.places)
    (omega (arith, t.at_floor))

pub taken_carried : (l : Priority) (v : View) (j : ℕ) (c : Transaction) (r : List ℕ)
    (o : Outstanding) → Takes l v j c r o → o.transaction.probe ≡ false → SoundLane l v
    → WasCarried v.shared.life o.transaction.id v.shared.history
taken_carried l v j c r o t b h =
    let k = taken_kept l v j c r o t h in
    let one : k.0.transaction ≡ o.transaction = ⊎_elim (λ n. absurd (n k.2))
    (λ p. let d = p.1 in let e = p.2 in let w = t.waits in cc)
    (h.proved.kept k.0 (waits_proved l v o h t.waits b) k.1) in
    subst (λ x. WasCarried v.shared.life x v.shared.history) (ap (λ c. c.id) one)
    (h.held.made k.0 k.1)

-- a command is drawn

placed_drawn : (waits after : Option Outstanding) (place since count i : ℕ) (c : Transaction)
    (n m : ℕ) → waits ≡ None → since ≤ count
    → Placed waits place since i c n m → Placed after place count i c n m
placed_drawn waits after place since count i c n m w b (inl p) = inl
    (record { ended = p.ended; far = omega (arith, p.far) })
placed_drawn waits after place since count i c n m w b (inr p) = absurd (let e = p.is in cc)

apart_drawn : (waits after : Option Outstanding) (place : ℕ) (k : KeptReply) → waits ≡ None
    → Apart waits place k → Apart after place k
apart_drawn waits after place k w (inl n) = inl n
apart_drawn waits after place k w (inr p) = absurd (let e = p.1 in cc)

drawn_is : (c : Transaction) (p : Outstanding) → Some (outstanding_of c) ≡ Some p
    → (c ≡ p.transaction) × (0 ≡ p.sent)
drawn_is c p e = let g = same_Some _ p e in (ap (λ x. x.transaction) g, ap (λ x. x.sent) g)

-- it is younger than every command before
drawn_after : (d : Transaction) (p : Outstanding) (c : Transaction)
    → Some (outstanding_of d) ≡ Some p → c.id < d.id → Before c p.transaction
drawn_after d p c e lt =
    subst (λ x. Before c x) (drawn_is d p e).0
    (record { le = omega arith; same = λ q. absurd (omega arith) })

drawn_other : (d : Transaction) (p : Outstanding) (c : Transaction)
    → Some (outstanding_of d) ≡ Some p → c.id < d.id → c ≡ p.transaction → ⊥
drawn_other d p c e lt same =
    let a = ap (λ x. x.id) (drawn_is d p e).0 in let b = ap (λ x. x.id) same in omega arith

-- in a lane that isn't proved a probe alone is drawn
pub lane_drawn : (l : Priority) (v : View) (probe : Bool) (packets : List (List ℕ))
    → v.lane.outstanding ≡ None → (v.lane.proved ≡ false → probe ≡ true) → SoundLane l v
    → SoundLane l (with_draw l probe packets v)
lane_drawn l v probe packets w allowed h =
    let new = drawn_transaction probe packets v in
    let more = length-append v.shared.draws (l ∷ []) in
    record {
      order = record {
        sorted = h.order.sorted;
        owner = λ i c e. still v.shared.draws _ c.id l (h.order.owner i c e);
        newest = λ i c p e f. drawn_after new p c f
            (slice_get_within v.shared.draws c.id l (h.order.owner i c e));
        waiting_owner = λ p e. subst (λ x. Owner l (v.shared.draws ++ l ∷ []) x)
            (ap (λ x. x.id) (drawn_is new p e).0) (added v.shared.draws l);
      };
      held = record {
        below = h.held.below;
        newest = λ k p e f. drawn_after new p k.transaction f (h.held.fresh k e);
        fresh = λ k e. omega (arith, h.held.fresh k e, more);
        made = h.held.made;
        carried = λ id was own. ⊎_elim (λ f. h.held.carried id was f)
            (λ g. absurd (omega (arith, g.0, h.held.known _ id was)))
            (got v.shared.draws l id l own);
        past = h.held.past;
        known = λ life id was. omega (arith, h.held.known life id was, more);
      };
      places = record {
        begun = omega arith;
        shape = λ p e. sym (ap (λ x. x.place) (drawn_is new p e).0);
        cost = λ p e. omega (arith, (drawn_is new p e).1);
        requests = λ i c e le. placed_drawn v.lane.outstanding _ _ _ _ i c 0 0 w h.places.begun
            (h.places.requests i c e le);
        replies = λ j c r e le. placed_drawn v.lane.outstanding _ _ _ _ j c WINDOW 1 w h.places.begun (h.places.replies j c r e le);
      };
      replies = record {
        below = h.replies.below;
        newest = λ j d r p e le f. drawn_after new p d f (h.replies.fresh j d r e le);
        fresh = λ j d r e le. omega (arith, h.replies.fresh j d r e le, more);
      };
      proved = record {
        unproven = λ p e f. let a = allowed e in
            let g = ap (λ x. x.probe) (drawn_is new p f).0 in cc;
        kept = λ k e f. apart_drawn v.lane.outstanding _ _ k w (h.proved.kept k e f);
        quiet = λ i c pr e le. ⊎_elim (λ q. absurd (let x = q.1 in cc)) (λ q. inr q)
            (h.proved.quiet i c pr e le);
        answered = λ p j r e f le. absurd
            (drawn_other new p p.transaction e (h.replies.fresh j p.transaction r f le) refl);
        reply = λ p j r e b f le. absurd
            (drawn_other new p p.transaction e (h.replies.fresh j p.transaction r f le) refl);
        kept_reply = λ p k e b f q. absurd (drawn_other new p k.transaction e (h.held.fresh k f) q);
      };
    }
