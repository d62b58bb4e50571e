-- A window's packets are those of its sections.
use Rattle.std.proofs.Common.{◌≡◌, ℕ, zero, suc, ◌+◌, ◌-◌, ◌<◌, ◌≤◌, true, false, List}
use Rattle.std.proofs.Common.{length, slice_get, Some, refl, sym, ap, subst, ◌∙◌, arith}
use Rattle.omci_types.specs.declared.EntityId.{EntityId}
use Rattle.lane_spec.specs.Command.{command_frame, section_packet, with_sections, command_packets}
use Rattle.window_spec.specs.Outgoing.{Outgoing, section_at, sections_from, window_count}
use Rattle.window_laws.proofs.Sections.{count_length}
use Rattle.manager_spec.specs.Manager.{Order}
use Rattle.manager_spec.specs.Upgrade.{image_entity, image_window}
use Rattle.download_laws.specs.Sending.{AreSent}

section_there : (count first place : ℕ) (image : List ℕ) → place < count
    → slice_get (sections_from count first image) place ≡ Some (section_at (first + place) image)
section_there zero first place image below = absurd (omega (arith, below))
section_there (suc count) first zero image below =
    let same : first ≡ first + 0 = omega arith in
    ap (λ (k : ℕ). Some (section_at k image)) same
section_there (suc count) first (suc place) image below =
    let same : first + 1 + place ≡ first + suc place = omega arith in
    section_there count (first + 1) place image (omega (arith, below))
    ∙ ap (λ (k : ℕ). Some (section_at k image)) same

module _ (o : Outgoing) (tci : ℕ) (one : EntityId) where
  -- sections before the last one, and what is sent after them
  before_last : (count place at : ℕ) (packets : List (List ℕ)) → place + count < window_count o
      → at ≡ o.first + place → AreSent o tci one packets
      → AreSent o tci one (with_sections tci one place (sections_from count at o.image) packets)
  unfolding section_packet
  before_last zero place at packets below is sent = sent
  before_last (suc count) place at packets below is sent = (
    record {
      number = place;
      bytes = section_at at o.image;
      last = false;
      is = refl;
      section = record {
        there = section_there (window_count o) o.first place o.image (omega (arith, below))
            ∙ ap (λ (k : ℕ). Some (section_at k o.image)) (sym is);
        ends = λ e. absurd (cc);
      };
    },
    before_last count (place + 1) (at + 1) packets (omega (arith, below)) (omega (arith, is)) sent,
  )

pub window_sent : (order : Order) (o : Outgoing) (tci : ℕ) → 1 ≤ window_count o
    → AreSent o tci (image_entity order.slot) (command_packets tci (image_window order o))
unfolding image_window command_frame
window_sent order o tci some =
    let earlier = window_count o - 1 in
    let long = count_length earlier o.first o.image in
    before_last o tci (image_entity order.slot) earlier 0 o.first _ (omega (arith, some))
    (omega arith) (
      record {
        number = length (sections_from earlier o.first o.image);
        bytes = section_at (o.first + earlier) o.image;
        last = true;
        is = refl;
        section = record {
          there = subst (λ (k : ℕ). slice_get (sections_from (window_count o) o.first o.image) k
              ≡ Some (section_at (o.first + earlier) o.image)) (sym long)
              (section_there (window_count o) o.first earlier o.image (omega (arith, some)));
          ends = λ e. omega (arith, some, long);
        };
      },
      tt,
    )
