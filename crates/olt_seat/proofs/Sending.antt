-- How far the sending of packets has come.
use Rattle.std.proofs.Common.{◌≡◌, ℕ, zero, suc, ◌+◌, List, [], ◌∷◌, ◌++◌, length, drop, Option, Some, slice_get, refl, sym, ◌∙◌, ap, subst, append_assoc, append-nil, arith}
use Rattle.frame_spec.specs.Baseline.{frame_of}
use Rattle.link_spec.specs.declared.Direction.TheVariants.{Down}
use Rattle.world_spec.specs.declared.Effect.TheVariants as effect
use Rattle.world_spec.specs.Trace.{line_text}
use Rattle.olt_seat.specs.Seat.{Seat, packets_after, SendsFront, downs_text}
use Rattle.olt_seat.proofs.Playing.{nothing_added, packets_then, front_then, front_longer}

-- the packets that are left, with what was sent and written so far, are all of them
pub record SentSoFar (first now : Seat) (packets left : List (List ℕ)) (before text : List ℕ) (a b : Option (List (List ℕ))) : Type 0 where
  pub manager : now.manager ≡ first.manager
  pub turn : now.turn ≡ first.turn
  pub given : now.given ≡ first.given
  pub count : now.sent + length left ≡ first.sent + length packets
  pub lines : text ++ downs_text first.turn now.sent left ≡ before ++ downs_text first.turn first.sent packets
  pub done : List (List ℕ)
  pub parts : done ++ left ≡ packets
  pub added : b ≡ packets_after done a

pub sent_begins : (first : Seat) (packets : List (List ℕ)) (before : List ℕ) (a : Option (List (List ℕ))) → SentSoFar first first packets packets before before a a
sent_begins first packets before a = record {
  manager = refl;
  turn = refl;
  given = refl;
  count = refl;
  lines = refl;
  done = [];
  parts = refl;
  added = nothing_added a;
}

drop_at : (packets : List (List ℕ)) (place : ℕ) (p : List ℕ) → slice_get packets place ≡ Some p → drop place packets ≡ p ∷ drop (place + 1) packets
drop_at [] place p e = absurd (cc)
drop_at (x ∷ rest) zero p e = let same : x ≡ p = cc in ap (λ y. y ∷ rest) same
drop_at (x ∷ rest) (suc place) p e =
    let next : suc (place + 1) ≡ suc place + 1 = omega arith in
    drop_at rest place p e ∙ ap (λ k. p ∷ drop k (x ∷ rest)) next

pub sent_one : (first now after : Seat) (packets : List (List ℕ)) (place : ℕ) (p : List ℕ) (before text more : List ℕ) (a b c : Option (List (List ℕ)))
    → SentSoFar first now packets (drop place packets) before text a b → slice_get packets place ≡ Some p
    → after ≡ record now { sent = now.sent + 1 }
    → more ≡ text ++ line_text now.turn (effect.PacketSent now.sent Down (frame_of p))
    → c ≡ packets_after (p ∷ []) b
    → SentSoFar first after packets (drop (place + 1) packets) before more a c
sent_one first now after packets place p before text more a b c so_far here after_is more_is sent =
    let rest = drop (place + 1) packets in
    let cut = drop_at packets place p here in
    let line = line_text first.turn (effect.PacketSent now.sent Down (frame_of p)) in
    let longer : length (drop place packets) ≡ suc (length rest) = ap (λ ps. length ps) cut in
    let counts : after.sent ≡ now.sent + 1 = ap (λ (x : Seat). x.sent) after_is in
    record {
      manager = ap (λ (x : Seat). x.manager) after_is ∙ so_far.manager;
      turn = ap (λ (x : Seat). x.turn) after_is ∙ so_far.turn;
      given = ap (λ (x : Seat). x.given) after_is ∙ so_far.given;
      count = omega (arith, counts, longer, so_far.count);
      lines =
          ap (λ t. t ++ downs_text first.turn after.sent rest)
          (more_is ∙ ap (λ n. text ++ line_text n (effect.PacketSent now.sent Down (frame_of p))) so_far.turn)
          ∙ append_assoc text line (downs_text first.turn after.sent rest)
          ∙ ap (λ n. text ++ (line ++ downs_text first.turn n rest)) counts
          ∙ ap (λ ps. text ++ downs_text first.turn now.sent ps) (sym cut)
          ∙ so_far.lines;
      done = so_far.done ++ p ∷ [];
      parts = append_assoc so_far.done (p ∷ []) rest ∙ ap (λ ps. so_far.done ++ ps) (sym cut) ∙ so_far.parts;
      added = packets_then so_far.done (p ∷ []) a b c so_far.added sent;
    }

-- a fault at a packet
pub sent_part : (first now : Seat) (packets : List (List ℕ)) (place : ℕ) (p : List ℕ) (before text : List ℕ) (a b c : Option (List (List ℕ)))
    → SentSoFar first now packets (drop place packets) before text a b → slice_get packets place ≡ Some p
    → SendsFront (p ∷ []) b c → SendsFront packets a c
sent_part first now packets place p before text a b c so_far here part =
    let cut = drop_at packets place p here in
    subst (λ ps. SendsFront ps a c) (ap (λ ps. so_far.done ++ ps) (sym cut) ∙ so_far.parts)
    (front_then so_far.done (p ∷ drop (place + 1) packets) a b c so_far.added
    (front_longer (p ∷ []) (drop (place + 1) packets) b c part))

no_more : (packets : List (List ℕ)) → drop (length packets) packets ≡ []
no_more [] = refl
no_more (x ∷ rest) = no_more rest

-- at the end
pub record SentAll (first now : Seat) (packets : List (List ℕ)) (before text : List ℕ) (a b : Option (List (List ℕ))) : Type 0 where
  pub seat : now ≡ record first { sent = first.sent + length packets }
  pub lines : text ≡ before ++ downs_text first.turn first.sent packets
  pub sent : b ≡ packets_after packets a

same_seat : (now first : Seat) (count : ℕ) → now.manager ≡ first.manager → now.turn ≡ first.turn → now.sent ≡ count → now.given ≡ first.given
    → now ≡ record first { sent = count }
same_seat now first count manager turn sent given =
    ap (λ m. record { manager = m; turn = now.turn; sent = now.sent; given = now.given }) manager
    ∙ ap (λ t. record { manager = first.manager; turn = t; sent = now.sent; given = now.given }) turn
    ∙ ap (λ n. record { manager = first.manager; turn = first.turn; sent = n; given = now.given }) sent
    ∙ ap (λ k. record { manager = first.manager; turn = first.turn; sent = count; given = k }) given

pub sent_all : (first now : Seat) (packets : List (List ℕ)) (place : ℕ) (before text : List ℕ) (a b : Option (List (List ℕ)))
    → SentSoFar first now packets (drop place packets) before text a b → place ≡ length packets → SentAll first now packets before text a b
sent_all first now packets place before text a b so_far end =
    let none : drop place packets ≡ [] = ap (λ k. drop k packets) end ∙ no_more packets in
    let short : length (drop place packets) ≡ 0 = ap (λ ps. length ps) none in
    record {
      seat = same_seat now first (first.sent + length packets) so_far.manager so_far.turn (omega (arith, short, so_far.count)) so_far.given;
      lines = sym (append-nil text) ∙ ap (λ ps. text ++ downs_text first.turn now.sent ps) (sym none) ∙ so_far.lines;
      sent = so_far.added ∙ ap (λ ps. packets_after ps a) (sym (append-nil so_far.done) ∙ ap (λ ps. so_far.done ++ ps) (sym none) ∙ so_far.parts);
    }
