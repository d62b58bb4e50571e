-- An image is put behind a closed gate, piece by piece, and the slot is sealed.
use Rattle.std.proofs.Common.{◌≡◌, ◌≢◌, inl, inr, ℕ, zero, suc, ◌+◌, ◌*◌, ◌≤◌, ◌<◌, true, false, List, [], ◌∷◌, ◌++◌, length, take, drop, Option, Some, None, refl, sym, ◌∙◌, ap, subst, replicate, arith, length-append, length-take}
use Rattle.std.proofs.Math.Seq.{take-add}
use Rattle.std.proofs.lemmas.List.{drop-drop, take-take, length-replicate}
use Rattle.std.specs.Int.{to_be_bytes, w32}
use Rattle.frame_spec.specs.Checksum.{crc}
use Rattle.slot_spec.specs.declared.DiskHeader.{DiskHeader}
use Rattle.slot_laws.proofs.Fields.{field_kept}
use Rattle.slot_laws.proofs.Kept.{SlotKept, HeadKept, other_slot, slot_kept, head_kept, stands_with}
use Rattle.slot_laws.proofs.Moments.{moments_weaker, moments_then}
use Rattle.slot_laws.proofs.Commit.{shows_slot_kept, settled_by}
use Rattle.slot_laws.proofs.Gate.{gate_head, gate_other, with_image_same, none_from_shut, not_open_known, image_none, shows_with, Prepared, torn_seal, opened_image, written_byte, is_open}
use Rattle.slot_spec.specs.Crash.{field, Torn, TornFrom, Written, Moments}
use Rattle.slot_spec.specs.Slots.{SlotPair, with_image, mid, Keep, Seal}
use Rattle.slot_spec.specs.Layout.{gate_place, entry_place, image_place, entry, version, IsLength, StandsAt, StandsAmong, IsOpen}
use Rattle.slot_spec.specs.Header.{view_of, slot_header, with_slot_header}
use Rattle.slot_spec.specs.Owner.{Shows, Settled, Stored, Filling}

-- what a write behind a closed gate keeps: the gate itself, and all of the other slot
pub record Behind (room slot : ℕ) (old new : List ℕ) : Type 0 where
  pub head : HeadKept old new
  pub gate : field (gate_place slot) 1 new ≡ field (gate_place slot) 1 old
  pub other : SlotKept room (other_slot slot) old new

-- a range of the slot's content
pub content_behind : (room slot at count : ℕ) (old new : List ℕ) → slot < 2 → 4096 + 2 * room ≤ length old → image_place room slot ≤ at → at + count ≤ image_place room slot + room → Torn at count old new → Behind room slot old new
content_behind room zero at count old new below long from to torn = record {
  head = head_kept at count old new torn (omega arith) (omega (arith, long));
  gate = field_kept at count old new 1024 1 torn (omega (arith, long)) (inl (omega arith));
  other = slot_kept at count room 1 old new torn (omega arith) long (inl (omega arith)) (inl (omega arith)) (inr (omega arith));
}
content_behind room (suc zero) at count old new below long from to torn = record {
  head = head_kept at count old new torn (omega arith) (omega (arith, long));
  gate = field_kept at count old new 1536 1 torn (omega (arith, long)) (inl (omega arith));
  other = slot_kept at count room 0 old new torn (omega arith) long (inl (omega arith)) (inl (omega arith)) (inl (omega arith));
}
content_behind room (suc (suc _)) at count old new below long from to torn = absurd (omega arith)

-- the slot's entry
pub entry_behind : (room slot : ℕ) (old new : List ℕ) → slot < 2 → 4096 + 2 * room ≤ length old → Torn (entry_place slot) 22 old new → Behind room slot old new
entry_behind room zero old new below long torn = record {
  head = head_kept 2048 22 old new torn (omega arith) (omega (arith, long));
  gate = field_kept 2048 22 old new 1024 1 torn (omega (arith, long)) (inl (omega arith));
  other = slot_kept 2048 22 room 1 old new torn (omega arith) long (inl (omega arith)) (inr (omega arith)) (inr (omega arith));
}
entry_behind room (suc zero) old new below long torn = record {
  head = head_kept 2560 22 old new torn (omega arith) (omega (arith, long));
  gate = field_kept 2560 22 old new 1536 1 torn (omega (arith, long)) (inl (omega arith));
  other = slot_kept 2560 22 room 0 old new torn (omega arith) long (inl (omega arith)) (inl (omega arith)) (inr (omega arith));
}
entry_behind room (suc (suc _)) old new below long torn = absurd (omega arith)

-- so bytes that show the slots still do
pub behind_shows : (header : DiskHeader) (slot : ℕ) (s : SlotPair) (old new : List ℕ) → slot < 2 → slot ≢ header.committed → (slot_header slot header).opened ≡ false → Shows header s old → Behind header.room slot old new → Shows header s new
behind_shows header zero s old new below other shut shows behind =
    let none = image_none 0 header s old below shows shut in
    let closed = not_open_known 0 header.first s.first old shows.first shut in
    record {
      stands = subst (λ (t : SlotPair). StandsAt header.room new t) (with_image_same 0 s none)
          (stands_with header.room 0 old new None s below (λ e. other (e ∙ sym shows.committed_is)) behind.head behind.other (none_from_shut header.room 0 new (λ o. closed (sym behind.gate ∙ o))) shows.stands);
      committed_is = shows.committed_is;
      first = shows_slot_kept 0 header.first s.first old new behind.gate shows.first;
      second = shows_slot_kept 1 header.second s.second old new behind.other.gate shows.second;
    }
behind_shows header (suc zero) s old new below other shut shows behind =
    let none = image_none 1 header s old below shows shut in
    let closed = not_open_known 1 header.second s.second old shows.second shut in
    record {
      stands = subst (λ (t : SlotPair). StandsAt header.room new t) (with_image_same 1 s none)
          (stands_with header.room 1 old new None s below (λ e. other (e ∙ sym shows.committed_is)) behind.head behind.other (none_from_shut header.room 1 new (λ o. closed (sym behind.gate ∙ o))) shows.stands);
      committed_is = shows.committed_is;
      first = shows_slot_kept 0 header.first s.first old new behind.other.gate shows.first;
      second = shows_slot_kept 1 header.second s.second old new behind.gate shows.second;
    }
behind_shows header (suc (suc _)) s old new below other shut shows behind = absurd (omega arith)

image_inside : (room slot size : ℕ) → slot < 2 → 4096 + 2 * room ≤ size → image_place room slot + room ≤ size
image_inside room zero size below long = omega arith
image_inside room (suc zero) size below long = omega arith
image_inside room (suc (suc _)) size below long = absurd (omega arith)

-- one more piece stands behind those that were put
pub one_more_piece : (at : ℕ) (put piece old new : List ℕ) → at + length put ≤ length old → field at (length put) old ≡ put → Written (at + length put) piece old new → field at (length (put ++ piece)) new ≡ put ++ piece
one_more_piece at put piece old new inside stands written =
    ap (λ (n : ℕ). take n (drop at new)) (length-append put piece)
    ∙ take-add (length put) (length piece) (drop at new)
    ∙ ap (λ (l : List ℕ). l ++ take (length piece) (drop (length put) (drop at new))) (field_kept (at + length put) (length piece) old new at (length put) written.torn inside (inl (omega arith)) ∙ stands)
    ∙ ap (λ (l : List ℕ). put ++ take (length piece) l) (drop-drop (length put) at new)
    ∙ ap (λ (l : List ℕ). put ++ l) written.there

pub entry_content : (room slot : ℕ) (old new : List ℕ) → slot < 2 → 4096 + 2 * room ≤ length old → Torn (entry_place slot) 22 old new → field (image_place room slot) room new ≡ field (image_place room slot) room old
entry_content room zero old new below long torn = field_kept 2048 22 old new 4096 room torn (omega (arith, long)) (inr (omega arith))
entry_content room (suc zero) old new below long torn = field_kept 2560 22 old new (4096 + room) room torn (omega (arith, long)) (inr (omega arith))
entry_content room (suc (suc _)) old new below long torn = absurd (omega arith)

pub length-version : (image : List ℕ) → length (version image) ≡ 14
unfolding version
length-version image = omega (arith, length-take 14 (image ++ replicate 14 0), length-append image (replicate 14 0), length-replicate {A = ℕ} 14 0)

pub length-entry : (image : List ℕ) → length (entry image) ≡ 22
unfolding entry
length-entry image = omega (arith, length-version image)

pub entry_is : (bytes : List ℕ) (size check : ℕ) (first image : List ℕ) → bytes ≡ to_be_bytes w32 size ++ to_be_bytes w32 check ++ first → size ≡ length image → check ≡ crc image → first ≡ version image → bytes ≡ entry image
unfolding entry
entry_is bytes size check first image is a b c = is ∙ ap (λ (n : ℕ). to_be_bytes w32 n ++ to_be_bytes w32 check ++ first) a ∙ ap (λ (n : ℕ). to_be_bytes w32 (length image) ++ to_be_bytes w32 n ++ first) b ∙ ap (λ (l : List ℕ). to_be_bytes w32 (length image) ++ to_be_bytes w32 (crc image) ++ l) c

-- once the entry stands before a closed gate, all is ready for it to open
pub entry_prepared : (room slot : ℕ) (image old new : List ℕ) → slot < 2 → IsLength room (length image) → 4096 + 2 * room ≤ length old → Written (entry_place slot) (entry image) old new → field (image_place room slot) (length image) old ≡ image → Prepared room slot image new
entry_prepared room slot image old new below within long written there =
    let torn = subst (λ (n : ℕ). Torn (entry_place slot) n old new) (length-entry image) written.torn in
    record {
      within = within;
      entered = ap (λ (n : ℕ). field (entry_place slot) n new) (sym (length-entry image)) ∙ written.there;
      there = ap (λ (l : List ℕ). take (length image) l) (entry_content room slot old new below long torn) ∙ take-take (length image) room (drop (image_place room slot) old) within.1 ∙ there;
    }

module _ {D : Type 0} (seen : D → Option (List ℕ)) (may_leave : D → List ℕ → Type 0) where
  pub put_filling : (old new : D) (header : DiskHeader) (slot : ℕ) (s : SlotPair) (put piece now : List ℕ) → slot < 2 → (filling : Filling seen may_leave old header slot s put) → length put + length piece ≤ header.room
      → seen new ≡ Some now → Written (image_place header.room slot + length put) piece filling.settled.bytes now
      → ((image : List ℕ) → may_leave new image → TornFrom (image_place header.room slot + length put) (length piece) (may_leave old) image)
      → Filling seen may_leave new header slot s (put ++ piece)
  put_filling old new header slot s put piece now below filling fits reads written torn =
      let settled = filling.settled in
      let at = image_place header.room slot + length put in
      let behind = λ (a b : List ℕ) (shows : Shows header s a) (t : Torn at (length piece) a b). behind_shows header slot s a b below filling.other filling.shut shows
      (content_behind header.room slot at (length piece) a b below shows.stands.long (omega arith) (omega (arith, fits)) t) in
      record {
        settled = record {
          bytes = now;
          reads = reads;
          shows = behind settled.bytes now settled.shows written.torn;
          crash = λ image left. let from = torn image left in behind from.0 image (settled.crash from.0 from.1) from.2;
        };
        shut = filling.shut;
        other = filling.other;
        fits = omega (arith, fits, length-append put piece);
        stands_there = one_more_piece (image_place header.room slot) put piece settled.bytes now (omega (arith, image_inside header.room slot (length settled.bytes) below settled.shows.stands.long, filling.fits)) filling.stands_there written;
      }

  -- the entry stands on the disk, the whole image too, and the gate is still closed
  pub record Entered (disk : D) (header : DiskHeader) (slot : ℕ) (s : SlotPair) (image : List ℕ) : Type 0 where
    pub now : List ℕ
    pub reads : seen disk ≡ Some now
    pub only : (bytes : List ℕ) → may_leave disk bytes → bytes ≡ now
    pub shows : Shows header s now
    pub prepared : Prepared header.room slot image now
    pub shut : (slot_header slot header).opened ≡ false
    pub other : slot ≢ header.committed

  pub entered : (old new : D) (header : DiskHeader) (slot : ℕ) (s : SlotPair) (image : List ℕ) → slot < 2 → 1 ≤ length image → (filling : Filling seen may_leave old header slot s image) → Stored seen may_leave (entry_place slot) (entry image) filling.settled.bytes new → Entered new header slot s image
  entered old new header slot s image below some filling stored =
      let settled = filling.settled in
      let torn = subst (λ (n : ℕ). Torn (entry_place slot) n settled.bytes stored.now) (length-entry image) stored.written.torn in
      let long = settled.shows.stands.long in
      record {
        now = stored.now;
        reads = stored.reads;
        only = stored.only;
        shows = behind_shows header slot s settled.bytes stored.now below filling.other filling.shut settled.shows (entry_behind header.room slot settled.bytes stored.now below long torn);
        prepared = entry_prepared header.room slot image settled.bytes stored.now below (some, filling.fits) long stored.written filling.stands_there;
        shut = filling.shut;
        other = filling.other;
      }

  pub seal_settled : (old new : D) (header : DiskHeader) (slot : ℕ) (s : SlotPair) (image : List ℕ) → slot < 2 → (e : Entered old header slot s image) → Stored seen may_leave (gate_place slot) (165 ∷ []) e.now new
      → Settled seen may_leave new (with_slot_header slot (record { opened = true; view = Some (view_of image) }) header) (with_image slot (Some image) s)
  seal_settled old new header slot s image below e stored =
      let long = e.shows.stands.long in
      let torn = stored.written.torn in
      let opened : IsOpen slot stored.now = is_open slot stored.now (omega (arith, long, torn.no_shorter)) (written_byte (gate_place slot) 165 e.now stored.now stored.written) in
      settled_by seen may_leave new (with_slot_header slot (record { opened = true; view = Some (view_of image) }) header) (with_image slot (Some image) s) stored.now stored.reads stored.only
      (shows_with header slot (record { opened = true; view = Some (view_of image) }) (Some image) s e.now stored.now below e.shows torn
      (stands_with header.room slot e.now stored.now (Some image) s below (λ q. e.other (q ∙ sym e.shows.committed_is)) (gate_head header.room slot e.now stored.now below long torn) (gate_other header.room slot e.now stored.now long torn)
      (opened_image header.room slot image e.now stored.now e.prepared long torn opened) e.shows.stands)
      record { view_is = refl; open_is = (λ _. opened, λ _. refl) })

  module _ (clock : D → ℕ) (left_since : D → ℕ → List ℕ → Type 0) where
    pub put_moments : (old new : D) (header : DiskHeader) (slot : ℕ) (s : SlotPair) (put : List ℕ) (count : ℕ) → slot < 2 → Filling seen may_leave old header slot s put → length put + count ≤ header.room
        → Moments clock left_since may_leave old new (TornFrom (image_place header.room slot + length put) count (may_leave old)) → Moments clock left_since may_leave old new (StandsAmong header.room (mid Keep s))
    put_moments old new header slot s put count below filling fits moments =
        moments_weaker clock left_since may_leave old new (TornFrom (image_place header.room slot + length put) count (may_leave old)) (StandsAmong header.room (mid Keep s)) moments (λ image torn.
        let shows = filling.settled.crash torn.0 torn.1 in
        inl (behind_shows header slot s torn.0 image below filling.other filling.shut shows
        (content_behind header.room slot (image_place header.room slot + length put) count torn.0 image below shows.stands.long (omega arith) (omega (arith, fits)) torn.2)).stands)

    pub entry_moments : (old new : D) (header : DiskHeader) (slot : ℕ) (s : SlotPair) (image : List ℕ) → slot < 2 → Filling seen may_leave old header slot s image
        → Moments clock left_since may_leave old new (TornFrom (entry_place slot) 22 (may_leave old)) → Moments clock left_since may_leave old new (StandsAmong header.room (mid (Seal slot image) s))
    entry_moments old new header slot s image below filling moments =
        moments_weaker clock left_since may_leave old new (TornFrom (entry_place slot) 22 (may_leave old)) (StandsAmong header.room (mid (Seal slot image) s)) moments (λ bytes torn.
        let shows = filling.settled.crash torn.0 torn.1 in
        inl (behind_shows header slot s torn.0 bytes below filling.other filling.shut shows (entry_behind header.room slot torn.0 bytes below shows.stands.long torn.2)).stands)

    pub seal_moments : (old middle new : D) (header : DiskHeader) (slot : ℕ) (s : SlotPair) (image : List ℕ) → slot < 2 → Entered middle header slot s image → Moments clock left_since may_leave old middle (StandsAmong header.room (mid (Seal slot image) s))
        → Moments clock left_since may_leave middle new (TornFrom (gate_place slot) 1 (may_leave middle)) → Moments clock left_since may_leave old new (StandsAmong header.room (mid (Seal slot image) s))
    seal_moments old middle new header slot s image below e before moments =
        let P = StandsAmong header.room (mid (Seal slot image) s) in
        moments_then clock left_since may_leave old middle new P before (moments_weaker clock left_since may_leave middle new (TornFrom (gate_place slot) 1 (may_leave middle)) P moments (λ bytes torn.
        let from : Torn (gate_place slot) 1 e.now bytes = subst (λ (b : List ℕ). Torn (gate_place slot) 1 b bytes) (e.only torn.0 torn.1) torn.2 in
        torn_seal header.room slot s image e.now bytes below (λ q. e.other (q ∙ sym e.shows.committed_is)) (image_none slot header s e.now below e.shows e.shut) e.shows.stands e.prepared from))
