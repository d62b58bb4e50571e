-- How far the loop over packets has come.
use Rattle.std.proofs.Common.{◌≡◌, ℕ, zero, suc, ◌+◌, List, [], ◌∷◌, ◌++◌, length, drop, Some, slice_get, refl, sym, ◌∙◌, ap, append_assoc, arith}
use Rattle.frame_spec.specs.Baseline.{frame_of}
use Rattle.link_spec.specs.declared.Direction.TheVariants.{Down}
use Rattle.link_spec.specs.Held.{Held, held_sent}
use Rattle.world_spec.specs.declared.Effect.TheVariants as effect
use Rattle.world_spec.specs.Trace.{line_text}
use Rattle.link_replay.specs.Seen.{Seen, with_downs, downs_text, down}

-- the elements from a place on, where one is there
pub drop_at : {A : Type 0} (xs : List A) (place : ℕ) (x : A) → slice_get xs place ≡ Some x → drop place xs ≡ x ∷ drop (place + 1) xs
drop_at [] place x e = absurd (cc)
drop_at (y ∷ rest) zero x e = let same : y ≡ x = cc in ap (λ z. z ∷ rest) same
drop_at (y ∷ rest) (suc place) x e =
    let next : suc (place + 1) ≡ suc place + 1 = omega arith in
    drop_at rest place x e ∙ ap (λ k. x ∷ drop k (y ∷ rest)) next

-- ---- packets that go down

pub record DownsSoFar (first now : Seen) (packets left : List (List ℕ)) (before text : List ℕ) : Type 0 where
  pub event : now.event ≡ first.event
  pub lives : now.lives ≡ first.lives
  pub size : now.length ≡ first.length
  pub unit : now.unit ≡ first.unit
  pub disk : now.disk ≡ first.disk
  pub manager : now.manager ≡ first.manager
  pub held : with_downs left now.held ≡ with_downs packets first.held
  pub lines : text ++ downs_text first.event now.held.count left ≡ before ++ downs_text first.event first.held.count packets
  pub count : now.held.count + length left ≡ first.held.count + length packets

pub downs_begin : (first : Seen) (packets : List (List ℕ)) (before : List ℕ) → DownsSoFar first first packets packets before before
downs_begin first packets before = record { event = refl; lives = refl; size = refl; unit = refl; disk = refl; manager = refl; held = refl; lines = refl; count = refl }

sent_one : (p : List ℕ) (h : Held) → (held_sent (down p) h).count ≡ h.count + 1
unfolding held_sent
sent_one p h = refl

downs_next : (event next : ℕ) (p : List ℕ) (ps : List (List ℕ)) → line_text event (effect.PacketSent next Down (frame_of p)) ++ downs_text event (next + 1) ps ≡ downs_text event next (p ∷ ps)
downs_next event next p ps = refl

pub down_sent : (first now after : Seen) (packets : List (List ℕ)) (place : ℕ) (p : List ℕ) (before text more : List ℕ) → DownsSoFar first now packets (drop place packets) before text → slice_get packets place ≡ Some p → after ≡ record now { held = held_sent (down p) now.held } → more ≡ text ++ line_text now.event (effect.PacketSent now.held.count Down (frame_of p)) → DownsSoFar first after packets (drop (place + 1) packets) before more
down_sent first now after packets place p before text more so_far here sent written =
    let rest = drop (place + 1) packets in
    let cut = drop_at packets place p here in
    let counts : after.held.count ≡ now.held.count + 1 = ap (λ (w : Seen). w.held.count) sent ∙ sent_one p now.held in
    let line = line_text first.event (effect.PacketSent now.held.count Down (frame_of p)) in
    record {
      event = ap (λ (w : Seen). w.event) sent ∙ so_far.event;
      lives = ap (λ (w : Seen). w.lives) sent ∙ so_far.lives;
      size = ap (λ (w : Seen). w.length) sent ∙ so_far.size;
      unit = ap (λ (w : Seen). w.unit) sent ∙ so_far.unit;
      disk = ap (λ (w : Seen). w.disk) sent ∙ so_far.disk;
      manager = ap (λ (w : Seen). w.manager) sent ∙ so_far.manager;
      held = ap (λ (w : Seen). with_downs rest w.held) sent ∙ ap (λ ps. with_downs ps now.held) (sym cut) ∙ so_far.held;
      lines =
          ap (λ t. t ++ downs_text first.event after.held.count rest) (written ∙ ap (λ n. text ++ line_text n (effect.PacketSent now.held.count Down (frame_of p))) so_far.event)
          ∙ append_assoc text line (downs_text first.event after.held.count rest)
          ∙ ap (λ n. text ++ (line ++ downs_text first.event n rest)) counts
          ∙ ap (λ t. text ++ t) (downs_next first.event now.held.count p rest ∙ ap (downs_text first.event now.held.count) (sym cut))
          ∙ so_far.lines;
      count =
          let longer : length (drop place packets) ≡ suc (length rest) = ap length cut in
          omega (arith, counts, longer, so_far.count);
    }
