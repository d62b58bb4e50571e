-- A slot's gate: what a crash leaves while it is closed or opened, and what stands once it is.
use Rattle.std.proofs.Common.{◌≡◌, ◌≢◌, inl, inr, ℕ, zero, suc, ◌+◌, ◌*◌, ◌%◌, ◌≤◌, ◌<◌, true, false, List, [], ◌∷◌, length, get_or, take, Option, Some, None, refl, sym, ◌∙◌, ap, subst, arith}
use Rattle.std.proofs.lemmas.Bool.{cases_eq}
use Rattle.std.proofs.lemmas.List.{drop_more}
use Rattle.slot_spec.specs.declared.SlotHeader.{SlotHeader}
use Rattle.slot_spec.specs.declared.DiskHeader.{DiskHeader}
use Rattle.slot_laws.proofs.Fields.{field_kept, get_or-field}
use Rattle.slot_laws.proofs.Kept.{SlotKept, HeadKept, other_slot, slot_kept, head_kept, slot_stands, stands_with}
use Rattle.slot_laws.proofs.Moments.{moments_weaker}
use Rattle.slot_laws.proofs.Commit.{shows_slot_kept, settled_by}
use Rattle.slot_spec.specs.Crash.{field, Torn, TornFrom, Written, Moments}
use Rattle.slot_spec.specs.Slots.{SlotPair, image_at, with_image, mid, Clear, Seal}
use Rattle.slot_spec.specs.Layout.{gate_place, entry_place, image_place, entry, IsLength, SlotIn, StandsAt, StandsAmong, IsOpen}
use Rattle.slot_spec.specs.Header.{slot_header, with_slot_header, shut_header}
use Rattle.slot_spec.specs.Owner.{ShowsSlot, Shows, Settled, Stored, Filling}

pub field_one : (at : ℕ) (bytes : List ℕ) → at + 1 ≤ length bytes → field at 1 bytes ≡ get_or bytes at 0 ∷ []
field_one at bytes inside = ap (λ (l : List ℕ). take 1 l) (drop_more bytes at 0 (omega arith))

pub with_image_same : (slot : ℕ) (s : SlotPair) → image_at slot s ≡ None → with_image slot None s ≡ s
with_image_same zero s none = ap (λ (o : Option (List ℕ)). record { first = o; second = s.second; committed = s.committed }) (sym none)
with_image_same (suc _) s none = ap (λ (o : Option (List ℕ)). record { first = s.first; second = o; committed = s.committed }) (sym none)

pub gate_inside : (slot size : ℕ) → 4096 ≤ size → gate_place slot + 1 ≤ size
gate_inside zero size long = omega arith
gate_inside (suc _) size long = omega arith

module _ (room slot : ℕ) (old new : List ℕ) (below : slot < 2) (long : 4096 + 2 * room ≤ length old) (torn : Torn (gate_place slot) 1 old new) where
  pub gate_head : HeadKept old new
  gate_head = head_kept (gate_place slot) 1 old new torn (behind slot) (omega (arith, long))
    where
      behind : (k : ℕ) → 513 ≤ gate_place k
      behind zero = omega arith
      behind (suc _) = omega arith

-- the other slot stays, and so do this one's entry and content
pub gate_other : (room slot : ℕ) (old new : List ℕ) → 4096 + 2 * room ≤ length old → Torn (gate_place slot) 1 old new → SlotKept room (other_slot slot) old new
gate_other room zero old new long torn = slot_kept 1024 1 room 1 old new torn (omega arith) long (inr (omega arith)) (inr (omega arith)) (inr (omega arith))
gate_other room (suc _) old new long torn = slot_kept 1536 1 room 0 old new torn (omega arith) long (inl (omega arith)) (inr (omega arith)) (inr (omega arith))

pub gate_entry : (slot : ℕ) (old new : List ℕ) → 4096 ≤ length old → Torn (gate_place slot) 1 old new → field (entry_place slot) 22 new ≡ field (entry_place slot) 22 old
gate_entry zero old new long torn = field_kept 1024 1 old new 2048 22 torn (omega arith) (inr (omega arith))
gate_entry (suc _) old new long torn = field_kept 1536 1 old new 2560 22 torn (omega arith) (inr (omega arith))

pub gate_content : (room slot : ℕ) (old new : List ℕ) → 4096 + 2 * room ≤ length old → Torn (gate_place slot) 1 old new → field (image_place room slot) room new ≡ field (image_place room slot) room old
gate_content room zero old new long torn = field_kept 1024 1 old new 4096 room torn (omega (arith, long)) (inr (omega arith))
gate_content room (suc _) old new long torn = field_kept 1536 1 old new (4096 + room) room torn (omega (arith, long)) (inr (omega arith))

pub stands_same : (room slot : ℕ) (old new : List ℕ) (s : SlotPair) → HeadKept old new → SlotKept room slot old new → SlotKept room (other_slot slot) old new → slot < 2 → StandsAt room old s → StandsAt room new s
stands_same room zero old new s head this other below stands = record {
  magic_is = head.magic ∙ stands.magic_is;
  room_is = head.room ∙ stands.room_is;
  room_fits = stands.room_fits;
  long = omega (arith, stands.long, head.long);
  committed_is = ap (λ (n : ℕ). n % 2) head.commit ∙ stands.committed_is;
  bootable = stands.bootable;
  first = slot_stands room 0 old new s.first this stands.first;
  second = slot_stands room 1 old new s.second other stands.second;
}
stands_same room (suc (suc _)) old new s head this other below stands = absurd (omega arith)
stands_same room (suc zero) old new s head this other below stands = record {
  magic_is = head.magic ∙ stands.magic_is;
  room_is = head.room ∙ stands.room_is;
  room_fits = stands.room_fits;
  long = omega (arith, stands.long, head.long);
  committed_is = ap (λ (n : ℕ). n % 2) head.commit ∙ stands.committed_is;
  bootable = stands.bootable;
  first = slot_stands room 0 old new s.first other stands.first;
  second = slot_stands room 1 old new s.second this stands.second;
}

-- a slot whose gate isn't open has no image
pub none_from_shut : (room slot : ℕ) (bytes : List ℕ) → (IsOpen slot bytes → ⊥) → SlotIn room bytes slot None
none_from_shut room slot bytes shut = λ opened within. shut opened

pub not_open : (slot : ℕ) (bytes : List ℕ) → 4096 ≤ length bytes → get_or bytes (gate_place slot) 0 ≢ 165 → IsOpen slot bytes → ⊥
not_open slot bytes long differs opened = differs (ap (λ (l : List ℕ). get_or l 0 0) (sym (field_one (gate_place slot) bytes (gate_inside slot (length bytes) long)) ∙ opened))

pub is_open : (slot : ℕ) (bytes : List ℕ) → 4096 ≤ length bytes → get_or bytes (gate_place slot) 0 ≡ 165 → IsOpen slot bytes
is_open slot bytes long same = field_one (gate_place slot) bytes (gate_inside slot (length bytes) long) ∙ ap (λ (n : ℕ). n ∷ []) same

-- an open gate half closed: the slot is as it was, or it has no image
pub torn_clear : (room slot : ℕ) (s : SlotPair) (old new : List ℕ) → slot < 2 → slot ≢ s.committed → StandsAt room old s → IsOpen slot old → Torn (gate_place slot) 1 old new → StandsAmong room (mid (Clear slot) s) new
torn_clear room slot s old new below other stands opened torn =
    let long = stands.long in
    let long_new : 4096 ≤ length new = omega (arith, long, torn.no_shorter) in
    elim (cases_eq (get_or new (gate_place slot) 0) 165) [
      | inl same ↦ inl (stands_same room slot old new s (gate_head room slot old new below long torn)
          record { gate = is_open slot new long_new same ∙ sym opened; entry = gate_entry slot old new (omega (arith, long)) torn; content = gate_content room slot old new long torn }
          (gate_other room slot old new long torn) below stands)
      | inr differs ↦ inr (inl (stands_with room slot old new None s below other (gate_head room slot old new below long torn) (gate_other room slot old new long torn)
          (none_from_shut room slot new (not_open slot new long_new differs)) stands))
    ]

-- what is to stand behind the gate before it opens
pub record Prepared (room slot : ℕ) (image bytes : List ℕ) : Type 0 where
  pub within : IsLength room (length image)
  pub entered : field (entry_place slot) 22 bytes ≡ entry image
  pub there : take (length image) (field (image_place room slot) room bytes) ≡ image

pub opened_image : (room slot : ℕ) (image old new : List ℕ) → Prepared room slot image old → 4096 + 2 * room ≤ length old → Torn (gate_place slot) 1 old new → IsOpen slot new → SlotIn room new slot (Some image)
opened_image room slot image old new prepared long torn opened = record {
  opened = opened;
  within = prepared.within;
  entered = gate_entry slot old new (omega (arith, long)) torn ∙ prepared.entered;
  content_is = ap (λ (l : List ℕ). take (length image) l) (gate_content room slot old new long torn) ∙ prepared.there;
}

-- a closed gate half opened: the slot has no image, or the whole one
pub torn_seal : (room slot : ℕ) (s : SlotPair) (image old new : List ℕ) → slot < 2 → slot ≢ s.committed → image_at slot s ≡ None → StandsAt room old s → Prepared room slot image old → Torn (gate_place slot) 1 old new → StandsAmong room (mid (Seal slot image) s) new
torn_seal room slot s image old new below other none stands prepared torn =
    let long = stands.long in
    let long_new : 4096 ≤ length new = omega (arith, long, torn.no_shorter) in
    elim (cases_eq (get_or new (gate_place slot) 0) 165) [
      | inl same ↦ inr (inl (stands_with room slot old new (Some image) s below other (gate_head room slot old new below long torn) (gate_other room slot old new long torn)
          (opened_image room slot image old new prepared long torn (is_open slot new long_new same)) stands))
      | inr differs ↦ inl (subst (λ (t : SlotPair). StandsAt room new t) (with_image_same slot s none) (stands_with room slot old new None s below other (gate_head room slot old new below long torn) (gate_other room slot old new long torn)
          (none_from_shut room slot new (not_open slot new long_new differs)) stands))
    ]

-- what is known, after a gate was written
pub shows_with : (header : DiskHeader) (slot : ℕ) (known : SlotHeader) (image : Option (List ℕ)) (s : SlotPair) (old new : List ℕ) → slot < 2 → Shows header s old → Torn (gate_place slot) 1 old new → StandsAt header.room new (with_image slot image s) → ShowsSlot slot known image new → Shows (with_slot_header slot known header) (with_image slot image s) new
shows_with header zero known image s old new below shows torn stands knows = record {
  stands = stands;
  committed_is = shows.committed_is;
  first = knows;
  second = shows_slot_kept 1 header.second s.second old new (gate_other header.room 0 old new shows.stands.long torn).gate shows.second;
}
shows_with header (suc zero) known image s old new below shows torn stands knows = record {
  stands = stands;
  committed_is = shows.committed_is;
  first = shows_slot_kept 0 header.first s.first old new (gate_other header.room 1 old new shows.stands.long torn).gate shows.first;
  second = knows;
}
shows_with header (suc (suc _)) known image s old new below shows torn stands knows = absurd (omega arith)

pub shows_slot_at : (slot : ℕ) (header : DiskHeader) (s : SlotPair) (bytes : List ℕ) → slot < 2 → Shows header s bytes → ShowsSlot slot (slot_header slot header) (image_at slot s) bytes
shows_slot_at zero header s bytes below shows = shows.first
shows_slot_at (suc zero) header s bytes below shows = shows.second
shows_slot_at (suc (suc _)) header s bytes below shows = absurd (omega arith)

-- a slot whose gate isn't known as open has no image
none_behind : (slot room : ℕ) (bytes : List ℕ) (image : Option (List ℕ)) → (IsOpen slot bytes → ⊥) → SlotIn room bytes slot image → image ≡ None
none_behind slot room bytes None shut stands = refl
none_behind slot room bytes (Some image) shut stands = absurd (shut stands.opened)

pub not_open_known : (slot : ℕ) (known : SlotHeader) (image : Option (List ℕ)) (bytes : List ℕ) → ShowsSlot slot known image bytes → known.opened ≡ false → IsOpen slot bytes → ⊥
not_open_known slot known image bytes knows shut opened = let is : known.opened ≡ true = knows.open_is.1 opened in cc (is, shut)

slot_in : (slot room : ℕ) (s : SlotPair) (bytes : List ℕ) → slot < 2 → StandsAt room bytes s → SlotIn room bytes slot (image_at slot s)
slot_in zero room s bytes below stands = stands.first
slot_in (suc zero) room s bytes below stands = stands.second
slot_in (suc (suc _)) room s bytes below stands = absurd (omega arith)

pub image_none : (slot : ℕ) (header : DiskHeader) (s : SlotPair) (bytes : List ℕ) → slot < 2 → Shows header s bytes → (slot_header slot header).opened ≡ false → image_at slot s ≡ None
image_none slot header s bytes below shows shut =
    none_behind slot header.room bytes (image_at slot s) (not_open_known slot (slot_header slot header) (image_at slot s) bytes (shows_slot_at slot header s bytes below shows) shut) (slot_in slot header.room s bytes below shows.stands)

pub shows_slot_shut : (slot : ℕ) (bytes : List ℕ) → (IsOpen slot bytes → ⊥) → ShowsSlot slot shut_header None bytes
shows_slot_shut slot bytes shut = record { view_is = refl; open_is = (λ (e : false ≡ true). cc, λ o. absurd (shut o)) }

pub committed_kept : (slot : ℕ) (known : SlotHeader) (header : DiskHeader) → (with_slot_header slot known header).committed ≡ header.committed
committed_kept zero known header = refl
committed_kept (suc _) known header = refl

pub room_kept : (slot : ℕ) (known : SlotHeader) (header : DiskHeader) → (with_slot_header slot known header).room ≡ header.room
room_kept zero known header = refl
room_kept (suc _) known header = refl

pub slot_header-with_slot_header : (slot : ℕ) (known : SlotHeader) (header : DiskHeader) → slot_header slot (with_slot_header slot known header) ≡ known
slot_header-with_slot_header zero known header = refl
slot_header-with_slot_header (suc _) known header = refl

pub written_byte : (at byte : ℕ) (old new : List ℕ) → Written at (byte ∷ []) old new → get_or new at 0 ≡ byte
written_byte at byte old new written = sym (get_or-field at 1 new 0 (omega arith) ∙ ap (λ (n : ℕ). get_or new n 0) (omega arith)) ∙ ap (λ (l : List ℕ). get_or l 0 0) written.there

pub clear_shows : (header : DiskHeader) (slot : ℕ) (s : SlotPair) (old new : List ℕ) → slot < 2 → slot ≢ s.committed → Shows header s old → Written (gate_place slot) (0 ∷ []) old new → Shows (with_slot_header slot shut_header header) (with_image slot None s) new
clear_shows header slot s old new below other shows written =
    let long = shows.stands.long in
    let torn = written.torn in
    let shut : IsOpen slot new → ⊥ = not_open slot new (omega (arith, long, torn.no_shorter)) (λ e. zero_differs (sym (written_byte (gate_place slot) 0 old new written) ∙ e)) in
    shows_with header slot shut_header None s old new below shows torn
    (stands_with header.room slot old new None s below other (gate_head header.room slot old new below long torn) (gate_other header.room slot old new long torn) (none_from_shut header.room slot new shut) shows.stands)
    (shows_slot_shut slot new shut)
  where
    zero_differs : ◌≡◌ {A = ℕ} 0 165 → ⊥
    zero_differs e = omega arith

-- a gate that is closed already
pub clear_same : (header : DiskHeader) (slot : ℕ) (s : SlotPair) (bytes : List ℕ) → slot < 2 → Shows header s bytes → (slot_header slot header).opened ≡ false → Shows (with_slot_header slot shut_header header) (with_image slot None s) bytes
clear_same header zero s bytes below shows shut =
    let none = image_none 0 header s bytes below shows shut in
    record {
      stands = subst (λ (t : SlotPair). StandsAt header.room bytes t) (sym (with_image_same 0 s none)) shows.stands;
      committed_is = shows.committed_is;
      first = shows_slot_shut 0 bytes (not_open_known 0 header.first s.first bytes shows.first shut);
      second = shows.second;
    }
clear_same header (suc zero) s bytes below shows shut =
    let none = image_none 1 header s bytes below shows shut in
    record {
      stands = subst (λ (t : SlotPair). StandsAt header.room bytes t) (sym (with_image_same 1 s none)) shows.stands;
      committed_is = shows.committed_is;
      first = shows.first;
      second = shows_slot_shut 1 bytes (not_open_known 1 header.second s.second bytes shows.second shut);
    }
clear_same header (suc (suc _)) s bytes below shows shut = absurd (omega arith)

module _ {D : Type 0} (seen : D → Option (List ℕ)) (may_leave : D → List ℕ → Type 0) where
  -- a slot whose gate is closed is ready to be with_byte
  ready : (disk : D) (header : DiskHeader) (slot : ℕ) (s : SlotPair) → slot ≢ header.committed → Settled seen may_leave disk (with_slot_header slot shut_header header) s → Filling seen may_leave disk (with_slot_header slot shut_header header) slot s []
  ready disk header slot s other settled = record {
    settled = settled;
    shut = ap (λ (k : SlotHeader). k.opened) (slot_header-with_slot_header slot shut_header header);
    other = λ e. other (e ∙ committed_kept slot shut_header header);
    fits = omega arith;
    stands_there = refl;
  }

  pub begin_written : (old new : D) (header : DiskHeader) (slot : ℕ) (s : SlotPair) → slot < 2 → slot ≢ header.committed → (settled : Settled seen may_leave old header s) → Stored seen may_leave (gate_place slot) (0 ∷ []) settled.bytes new → Filling seen may_leave new (with_slot_header slot shut_header header) slot (with_image slot None s) []
  begin_written old new header slot s below other settled stored =
      ready new header slot (with_image slot None s) other (settled_by seen may_leave new (with_slot_header slot shut_header header) (with_image slot None s) stored.now stored.reads stored.only
      (clear_shows header slot s settled.bytes stored.now below (λ e. other (e ∙ sym settled.shows.committed_is)) settled.shows stored.written))

  pub begin_same : (disk : D) (header : DiskHeader) (slot : ℕ) (s : SlotPair) → slot < 2 → slot ≢ header.committed → (slot_header slot header).opened ≡ false → Settled seen may_leave disk header s → Filling seen may_leave disk (with_slot_header slot shut_header header) slot (with_image slot None s) []
  begin_same disk header slot s below other shut settled =
      ready disk header slot (with_image slot None s) other record {
        bytes = settled.bytes;
        reads = settled.reads;
        shows = clear_same header slot s settled.bytes below settled.shows shut;
        crash = λ image left. clear_same header slot s image below (settled.crash image left) shut;
      }

  module _ (clock : D → ℕ) (left_since : D → ℕ → List ℕ → Type 0) where
    pub begin_moments : (old new : D) (header : DiskHeader) (slot : ℕ) (s : SlotPair) → slot < 2 → slot ≢ header.committed → (slot_header slot header).opened ≡ true → Settled seen may_leave old header s → Moments clock left_since may_leave old new (TornFrom (gate_place slot) 1 (may_leave old)) → Moments clock left_since may_leave old new (StandsAmong header.room (mid (Clear slot) s))
    begin_moments old new header slot s below other opened settled moments =
        moments_weaker clock left_since may_leave old new (TornFrom (gate_place slot) 1 (may_leave old)) (StandsAmong header.room (mid (Clear slot) s)) moments (λ image torn.
        let shows = settled.crash torn.0 torn.1 in
        torn_clear header.room slot s torn.0 image below (λ e. other (e ∙ sym settled.shows.committed_is)) shows.stands ((shows_slot_at slot header s torn.0 below shows).open_is.0 opened) torn.2)

pub open_known : (slot : ℕ) (known : SlotHeader) (image : Option (List ℕ)) (bytes : List ℕ) → ShowsSlot slot known image bytes → known.opened ≡ true → IsOpen slot bytes
open_known slot known image bytes knows opened = knows.open_is.0 opened
