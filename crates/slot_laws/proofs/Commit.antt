-- The commit byte: what a crash leaves while it is written, and what stands once it is.
use Rattle.std.proofs.Common.{◌≡◌, ◌≢◌, inl, inr, ℕ, zero, suc, ◌%◌, ◌<◌, List, [], ◌∷◌, get_or, Option, Some, None, IsSome, refl, sym, ◌∙◌, ap, subst, arith}
use Rattle.std.proofs.lemmas.Bool.{cases_eq}
use Rattle.omci_types.specs.declared.SlotView.{SlotView}
use Rattle.slot_spec.specs.declared.SlotHeader.{SlotHeader}
use Rattle.slot_spec.specs.declared.DiskHeader.{DiskHeader}
use Rattle.std.specs.Option.{option_map}
use Rattle.slot_laws.proofs.Fields.{field_kept, get_or-field}
use Rattle.slot_laws.proofs.Kept.{SlotKept, slot_kept, slot_stands}
use Rattle.slot_laws.proofs.Moments.{moments_weaker}
use Rattle.slot_spec.specs.Crash.{field, Torn, TornFrom, Written, Moments}
use Rattle.slot_spec.specs.Slots.{SlotPair, image_at, with_committed, mid, Commit}
use Rattle.slot_spec.specs.Layout.{gate_place, StandsAt, StandsAmong}
use Rattle.slot_spec.specs.Header.{view_of, view_at}
use Rattle.slot_spec.specs.Owner.{ShowsSlot, Shows, Settled, Stored}

pub image_at-with_committed : (slot k : ℕ) (s : SlotPair) → image_at slot (with_committed k s) ≡ image_at slot s
image_at-with_committed zero k s = refl
image_at-with_committed (suc _) k s = refl

module _ (room : ℕ) (s : SlotPair) (old new : List ℕ) (stands : StandsAt room old s) (torn : Torn 512 1 old new) where
  first_kept : SlotKept room 0 old new
  first_kept = slot_kept 512 1 room 0 old new torn (omega arith) stands.long (inr (omega arith)) (inr (omega arith)) (inr (omega arith))

  second_kept : SlotKept room 1 old new
  second_kept = slot_kept 512 1 room 1 old new torn (omega arith) stands.long (inr (omega arith)) (inr (omega arith)) (inr (omega arith))

  pub recommitted : (k : ℕ) → get_or new 512 0 % 2 ≡ k → IsSome (image_at k s) → StandsAt room new (with_committed k s)
  recommitted k is some = record {
    magic_is = field_kept 512 1 old new 0 8 torn (omega (arith, stands.long)) (inl (omega arith)) ∙ stands.magic_is;
    room_is = field_kept 512 1 old new 8 4 torn (omega (arith, stands.long)) (inl (omega arith)) ∙ stands.room_is;
    room_fits = stands.room_fits;
    long = omega (arith, stands.long, torn.no_shorter);
    committed_is = is;
    bootable = subst (λ (o : Option (List ℕ)). IsSome o) (sym (image_at-with_committed k k s)) some;
    first = slot_stands room 0 old new s.first first_kept stands.first;
    second = slot_stands room 1 old new s.second second_kept stands.second;
  }

  pub gate_kept : (slot : ℕ) → field (gate_place slot) 1 new ≡ field (gate_place slot) 1 old
  gate_kept zero = field_kept 512 1 old new 1024 1 torn (omega (arith, stands.long)) (inr (omega arith))
  gate_kept (suc _) = field_kept 512 1 old new 1536 1 torn (omega (arith, stands.long)) (inr (omega arith))

  -- a byte that a crash leaves half written names one of the two
  pub torn_commit : (slot : ℕ) → slot < 2 → slot ≢ s.committed → IsSome (image_at slot s) → StandsAmong room (mid (Commit slot) s) new
  torn_commit slot below other some = elim (cases_eq (get_or new 512 0 % 2) s.committed) [
    | inl same ↦ inl (recommitted s.committed same stands.bootable)
    | inr differs ↦ inr (inl (recommitted slot (omega (arith, stands.committed_is, below)) some))
  ]

pub written_commit : (room : ℕ) (s : SlotPair) (old new : List ℕ) (slot : ℕ) → StandsAt room old s → Written 512 (slot ∷ []) old new → slot < 2 → IsSome (image_at slot s) → StandsAt room new (with_committed slot s)
written_commit room s old new slot stands written below some =
    let byte : get_or new 512 0 ≡ slot = sym (get_or-field 512 1 new 0 (omega arith)) ∙ ap (λ (l : List ℕ). get_or l 0 0) written.there in
    recommitted room s old new stands written.torn slot (omega (arith, byte)) some

some_from_view : (view : Option SlotView) (image : Option (List ℕ)) → view ≡ option_map view_of image → IsSome view → IsSome image
some_from_view view None is some = subst (λ (o : Option SlotView). IsSome o) is some
some_from_view view (Some image) is some = refl

pub image-some : (slot : ℕ) (header : DiskHeader) (s : SlotPair) (bytes : List ℕ) → Shows header s bytes → IsSome (view_at slot header) → IsSome (image_at slot s)
image-some zero header s bytes shows some = some_from_view header.first.view s.first shows.first.view_is some
image-some (suc _) header s bytes shows some = some_from_view header.second.view s.second shows.second.view_is some

-- what is known of a slot is right while its gate stays
pub shows_slot_kept : (slot : ℕ) (known : SlotHeader) (image : Option (List ℕ)) (old new : List ℕ) → field (gate_place slot) 1 new ≡ field (gate_place slot) 1 old → ShowsSlot slot known image old → ShowsSlot slot known image new
shows_slot_kept slot known image old new same knows = record {
  view_is = knows.view_is;
  open_is = (λ e. same ∙ knows.open_is.0 e, λ o. knows.open_is.1 (sym same ∙ o));
}

module _ {D : Type 0} (seen : D → Option (List ℕ)) (may_leave : D → List ℕ → Type 0) where
  -- a write on the disk that shows the slots
  pub settled_by : (disk : D) (header : DiskHeader) (s : SlotPair) (now : List ℕ) → seen disk ≡ Some now → ((image : List ℕ) → may_leave disk image → image ≡ now) → Shows header s now → Settled seen may_leave disk header s
  settled_by disk header s now reads only shows = record {
    bytes = now;
    reads = reads;
    shows = shows;
    crash = λ image left. subst (λ (b : List ℕ). Shows header s b) (sym (only image left)) shows;
  }

  pub commit_kept : (disk : D) (header : DiskHeader) (s : SlotPair) (slot : ℕ) → slot ≡ header.committed → Settled seen may_leave disk header s → Settled seen may_leave disk header (with_committed slot s)
  commit_kept disk header s slot same settled = subst (λ (k : ℕ). Settled seen may_leave disk header (with_committed k s)) (sym (same ∙ settled.shows.committed_is)) settled

  pub commit_settled : (old new : D) (header : DiskHeader) (s : SlotPair) (slot : ℕ) → slot < 2 → IsSome (view_at slot header) → (settled : Settled seen may_leave old header s) → Stored seen may_leave 512 (slot ∷ []) settled.bytes new → Settled seen may_leave new (record header { committed = slot }) (with_committed slot s)
  commit_settled old new header s slot below some settled stored =
      let shows = settled.shows in
      let torn = stored.written.torn in
      settled_by new (record header { committed = slot }) (with_committed slot s) stored.now stored.reads stored.only record {
        stands = written_commit header.room s settled.bytes stored.now slot shows.stands stored.written below (image-some slot header s settled.bytes shows some);
        committed_is = refl;
        first = shows_slot_kept 0 header.first s.first settled.bytes stored.now (gate_kept header.room s settled.bytes stored.now shows.stands torn 0) shows.first;
        second = shows_slot_kept 1 header.second s.second settled.bytes stored.now (gate_kept header.room s settled.bytes stored.now shows.stands torn 1) shows.second;
      }

  module _ (clock : D → ℕ) (left_since : D → ℕ → List ℕ → Type 0) where
    pub commit_moments : (old new : D) (header : DiskHeader) (s : SlotPair) (slot : ℕ) → slot < 2 → slot ≢ header.committed → IsSome (view_at slot header) → Settled seen may_leave old header s → Moments clock left_since may_leave old new (TornFrom 512 1 (may_leave old)) → Moments clock left_since may_leave old new (StandsAmong header.room (mid (Commit slot) s))
    commit_moments old new header s slot below other some settled moments =
        moments_weaker clock left_since may_leave old new (TornFrom 512 1 (may_leave old)) (StandsAmong header.room (mid (Commit slot) s)) moments (λ image torn.
        torn_commit header.room s torn.0 image (settled.crash torn.0 torn.1).stands torn.2 slot below (λ e. other (e ∙ sym settled.shows.committed_is)) (image-some slot header s settled.bytes settled.shows some))
