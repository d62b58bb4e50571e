-- The unit serves a request: it carries the request out, or answers by what it keeps.
use Rattle.std.proofs.Common.{◌≡◌, ◌≢◌, ℕ, ◌+◌, ◌≤◌, Bool, true, false, List, length, Option, Some, inl, inr, ⊎_elim, refl, sym, ap, subst, arith, length-append}
use Rattle.std.proofs.lemmas.Option.{slice_get_within}
use Rattle.omci_types.specs.declared.Priority.{Priority}
use Rattle.history_spec.specs.History.{WasCarried, LastReply}
use Rattle.link_spec.specs.declared.TheConstants.{WINDOW}
use Rattle.moves_spec.specs.Channel.{Transaction, place_number, ReplyTo, KeptReply, Outstanding, View}
use Rattle.moves_spec.specs.Moves.{Execution, with_packet, with_execution}
use Rattle.moves_laws.proofs.Parts.{Asks, Replies, Placed, Apart, Harmless, OrderIn, HeldIn, PlacesIn, ProvedIn, SoundLane}
use Rattle.moves_laws.proofs.Lists.{got}
use Rattle.moves_laws.proofs.Numbers.{past_request}

-- the request at i has come to the unit
pub record Comes (l : Priority) (v : View) (i : ℕ) (c : Transaction) : Type 0 where
  pub request : Asks l v.shared.packets i c
  pub at_floor : v.lane.floor_down ≡ i
  pub within : length v.shared.packets ≤ i + WINDOW

-- the unit doesn't keep the command's number
pub record Unkept (keeps : Option KeptReply) (c : Transaction) : Type 0 where
  pub differs : (k : KeptReply) → keeps ≡ Some k
      → place_number k.transaction.place ≢ place_number c.place

-- so the command wasn't carried out in this life
pub carry_once : (l : Priority) (v : View) (i : ℕ) (c : Transaction) → Comes l v i c
    → Unkept v.lane.kept c → SoundLane l v
    → WasCarried v.shared.life c.id v.shared.history → ⊥
carry_once l v i c s u h was =
    let k = h.held.carried c.id was (h.order.owner i c s.request) in
    let b = h.held.below k.0 i c k.1 s.request (omega (arith, s.at_floor)) in
    let e : k.0.transaction ≡ c = b.same (omega (arith, b.le, k.2)) in
    u.differs k.0 k.1 (ap (λ x. place_number x.place) e)

abbrev kept_of : Transaction → Execution → KeptReply
kept_of c a = record { transaction = c; reply = a.reply }

held_carried : (l : Priority) (v : View) (i : ℕ) (c : Transaction) (a : Execution) → Comes l v i c
    → OrderIn l v → HeldIn l v → HeldIn l (with_execution c a v)
held_carried l v i c a s o h = record {
  below = λ k j d e f le. grind (arith, o.sorted, s.request, s.at_floor);
  newest = λ k w e f. grind (arith, o.newest, s.request);
  fresh = λ k e. (let b = slice_get_within v.shared.draws c.id l (o.owner i c s.request) in
      let g : c ≡ k.transaction = cc in let n = ap (λ x. x.id) g in omega arith);
  made = λ k e. inl (refl, (let g : c ≡ k.transaction = cc in ap (λ x. x.id) g));
  carried = λ id was own. (
    kept_of c a,
    refl,
    ⊎_elim (λ e. omega arith) (λ old.
        let k = h.carried id old own in
        let b = h.below k.0 i c k.1 s.request (omega (arith, s.at_floor)) in
        omega (arith, b.le, k.2)) was,
  );
  past = λ life id was. ⊎_elim (λ e. omega arith) (λ old. h.past life id old) was;
  known = λ life id was. ⊎_elim
      (λ e. omega (arith, slice_get_within v.shared.draws c.id l (o.owner i c s.request)))
      (λ old. h.known life id old) was;
}

-- Where a reply to the outstanding command may come, the unit keeps that command's number. An unkept request would be older
-- than that reply, or the same command's.
carry_none : (l : Priority) (v : View) (i : ℕ) (c : Transaction) (o : Outstanding) (j : ℕ)
    (r : List ℕ) → Comes l v i c → Unkept v.lane.kept c → SoundLane l v
    → v.lane.outstanding ≡ Some o → Replies l v.shared.packets j o.transaction r
    → v.lane.floor_up ≤ j → ⊥
carry_none l v i c o j r s u h w f le =
    let k = h.proved.answered o j r w f le in
    let above = h.replies.below j i o.transaction c r f le s.request (omega (arith, s.at_floor)) in
    let newest = h.order.newest i c o s.request w in
    let e : o.transaction ≡ c = above.same (omega (arith, above.le, newest.le)) in
    let shape = h.places.shape o w in
    let n : place_number o.transaction.place ≡ place_number c.place = ap
    (λ x. place_number x.place) e in
    u.differs k.0 k.1 (let a = k.2 in let b = ap place_number shape in cc)

apart_carried : (l : Priority) (v : View) (i : ℕ) (c : Transaction) (a : Execution) → Comes l v i c
    → PlacesIn l v
    → Placed v.lane.outstanding v.lane.place v.lane.since i c 0 0
    → Apart v.lane.outstanding v.lane.place (kept_of c a)
apart_carried l v i c a s h (inl p) = inl
    (past_request v.lane.place v.lane.since i (length v.shared.packets) c h.begun s.within p)
apart_carried l v i c a s h (inr p) = inr (p.outstanding, p.is, p.same)

harmless_carried : (l : Priority) (v : View) (i : ℕ) (c : Transaction) (a : Execution)
    → Comes l v i c → Unkept v.lane.kept c → SoundLane l v
    → (j : ℕ) (d : Transaction) → Asks l v.shared.packets j d → v.lane.floor_down ≤ j
    → Harmless v.lane.outstanding v.lane.kept c → Harmless v.lane.outstanding (Some (kept_of c a)) d
harmless_carried l v i c a s u h j d e le (inl p) =
    let up = h.order.sorted i j c d s.request e (omega (arith, s.at_floor)) in
    let down = h.order.newest j d p.0 e p.1 in
    let one : c.id ≡ p.0.transaction.id = ap (λ x. x.id) p.2 in
    inl (p.0, p.1, down.same (omega (arith, up.le, down.le)))
harmless_carried l v i c a s u h j d e le (inr p) = absurd (u.differs p.0 p.1 p.2)

proved_carried : (l : Priority) (v : View) (i : ℕ) (c : Transaction) (a : Execution) → Comes l v i c
    → Unkept v.lane.kept c → SoundLane l v → ProvedIn l (with_execution c a v)
proved_carried l v i c a s u h =
    let kept = apart_carried l v i c a s h.places
    (h.places.requests i c s.request (omega (arith, s.at_floor))) in
    record {
      unproven = h.proved.unproven;
      kept = λ k e f. let g : kept_of c a ≡ k = cc in subst
          (λ x. Apart v.lane.outstanding v.lane.place x) g kept;
      quiet = λ j d pr e le. harmless_carried l v i c a s u h j d e (omega arith)
          (h.proved.quiet i c pr s.request (omega (arith, s.at_floor)));
      answered = λ o j r w f le. absurd (carry_none l v i c o j r s u h w f le);
      reply = λ o j r w b f le. absurd (carry_none l v i c o j r s u h w f le);
      kept_reply = λ o k w b e f. inl
          ((let g : c ≡ k.transaction = cc in cc), (let g : a.reply ≡ k.reply = cc in g));
    }

pub lane_carried : (l : Priority) (v : View) (i : ℕ) (c : Transaction) (a : Execution)
    → Comes l v i c → Unkept v.lane.kept c → SoundLane l v → SoundLane l (with_execution c a v)
lane_carried l v i c a s u h = record {
  order = h.order;
  held = held_carried l v i c a s h.order h.held;
  places = h.places;
  replies = h.replies;
  proved = proved_carried l v i c a s u h;
}

-- the reply that the unit keeps under the number of the command
pub record KeepsReply (keeps : Option KeptReply) (c : Transaction) (r : List ℕ) : Type 0 where
  pub kept : KeptReply
  pub is : keeps ≡ Some kept
  pub same : place_number kept.transaction.place ≡ place_number c.place
  pub reply : kept.reply ≡ r

-- its packet stands at most a window past the request
placed_reply : (l : Priority) (v : View) (i : ℕ) (c : Transaction) → Comes l v i c
    → Placed v.lane.outstanding v.lane.place v.lane.since i c 0 0
    → Placed v.lane.outstanding v.lane.place v.lane.since (length v.shared.packets) c WINDOW 1
placed_reply l v i c s (inl p) = inl
    (record { ended = p.ended; far = omega (arith, p.far, s.within) })
placed_reply l v i c s (inr p) =
    inr (record {
      outstanding = p.outstanding;
      is = p.is;
      same = p.same;
      from = omega
          (arith, p.from, slice_get_within v.shared.packets i _ s.request);
    })

-- and where the outstanding command is no probe and its own, it is that of the last carrying out
last_reply : (l : Priority) (v : View) (c : Transaction) (r : List ℕ) (o : Outstanding)
    (t : KeepsReply v.lane.kept c r) → SoundLane l v
    → v.lane.outstanding ≡ Some o → o.transaction.probe ≡ false → c ≡ o.transaction
    → Apart v.lane.outstanding v.lane.place t.kept → LastReply o.transaction.id r v.shared.history
last_reply l v c r o t h w b e (inl n) = absurd
    (n (let s = t.same in let f = ap (λ x. place_number x.place) e in let g = ap place_number
    (h.places.shape o w) in cc))
last_reply l v c r o t h w b e (inr p) =
    subst (λ x. LastReply o.transaction.id x v.shared.history) t.reply
    (h.proved.kept_reply o t.kept w b t.is (let f = p.1 in let g = p.2 in cc))

-- a lane that waits for another command than a probe is proved
pub waits_proved : (l : Priority) (v : View) (o : Outstanding) → SoundLane l v
    → v.lane.outstanding ≡ Some o → o.transaction.probe ≡ false → v.lane.proved ≡ true
waits_proved l v o h w b = go v.lane.proved refl
  where
    go : (x : Bool) → v.lane.proved ≡ x → x ≡ true
    go true e = refl
    go false e = let p = h.proved.unproven o e w in cc

-- the packet at the new end is this reply
placed_at : (l : Priority) (v : View) (j : ℕ) (c d : Transaction) (r q : List ℕ)
    → Placed v.lane.outstanding v.lane.place v.lane.since (length v.shared.packets) c WINDOW 1
    → (j ≡ length v.shared.packets) × (ReplyTo l c r ≡ ReplyTo l d q)
    → Placed v.lane.outstanding v.lane.place v.lane.since j d WINDOW 1
placed_at l v j c d r q placed g =
    let same : c ≡ d = let e = g.1 in cc in
    subst (λ n. Placed v.lane.outstanding v.lane.place v.lane.since n d WINDOW 1) (sym g.0)
    (subst (λ x. Placed v.lane.outstanding v.lane.place v.lane.since
    (length v.shared.packets) x WINDOW 1) same placed)

reply_at_end : (l : Priority) (v : View) (c : Transaction) (r : List ℕ) (o : Outstanding)
    → KeepsReply v.lane.kept c r → SoundLane l v → v.lane.outstanding ≡ Some o
    → o.transaction.probe ≡ false → (q : List ℕ) → ReplyTo l c r ≡ ReplyTo l o.transaction q
    → LastReply o.transaction.id q v.shared.history
reply_at_end l v c r o t h w b q g =
    let own : c ≡ o.transaction = cc in
    let same : r ≡ q = cc in
    subst (λ x. LastReply o.transaction.id x v.shared.history) same
    (last_reply l v c r o t h w b own (h.proved.kept t.kept (waits_proved l v o h w b) t.is))

pub lane_replied : (l : Priority) (v : View) (i : ℕ) (c : Transaction) (r : List ℕ) → Comes l v i c
    → KeepsReply v.lane.kept c r → SoundLane l v
    → SoundLane l (with_packet (ReplyTo l c r) v)
lane_replied l v i c r s t h =
    let placed = placed_reply l v i c s
    (h.places.requests i c s.request (omega (arith, s.at_floor))) in
    record {
      order = record {
        sorted = λ i j c d e f le. grind (arith, got, h.order.sorted);
        owner = λ i c e. grind (arith, got, h.order.owner);
        newest = λ i c p e f. grind (arith, got, h.order.newest);
        waiting_owner = h.order.waiting_owner;
      };
      held = record {
        below = λ k j d e f le. grind (arith, got, h.held.below);
        newest = h.held.newest;
        fresh = h.held.fresh;
        made = h.held.made;
        carried = h.held.carried;
        past = h.held.past;
        known = h.held.known;
      };
      places = record {
        begun = grind (arith, length-append, h.places.begun);
        shape = h.places.shape;
        cost = λ p e. grind (arith, length-append, h.places.cost);
        requests = λ j d e le. ⊎_elim (λ f. h.places.requests j d f le) (λ g. absurd (cc))
            (got v.shared.packets _ j _ e);
        replies = λ j d q e le. ⊎_elim (λ f. h.places.replies j d q f le)
            (λ g. placed_at l v j c d r q placed g)
            (got v.shared.packets _ j _ e);
      };
      replies = record {
        below = λ j k d b q e le f lf. grind
            (arith, got, h.replies.below, h.order.sorted, s.request, s.at_floor, slice_get_within);
        newest = λ j d q p e le f. grind (arith, got, h.replies.newest, h.order.newest, s.request);
        fresh = λ j d q e le. (let n = slice_get_within v.shared.draws c.id l
            (h.order.owner i c s.request) in grind (arith, got, h.replies.fresh));
      };
      proved = record {
        unproven = h.proved.unproven;
        kept = h.proved.kept;
        quiet = λ j d pr e le. ⊎_elim (λ f. h.proved.quiet j d pr f le) (λ g. absurd (cc))
            (got v.shared.packets _ j _ e);
        answered = λ p j q e f le. ⊎_elim (λ g. h.proved.answered p j q e g le)
            (λ g. (
              t.kept,
              t.is,
              (let a : c ≡ p.transaction = cc in let n = ap
                  (λ x. place_number x.place) a in let m = ap place_number (h.places.shape p e) in
                  let k = t.same in cc),
            ))
            (got v.shared.packets _ j _ f);
        reply = λ p j q e b f le. ⊎_elim (λ g. h.proved.reply p j q e b g le)
            (λ g. reply_at_end l v c r p t h e b q g.1)
            (got v.shared.packets _ j _ f);
        kept_reply = h.proved.kept_reply;
      };
    }
