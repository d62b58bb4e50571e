-- What a request leaves of a disk that can be made to fail, by the trap's number: the slots that
-- its deciding write gives, and an image behind each open gate.
use Rattle.std.proofs.Common.{◌≡◌, ◌≢◌, inl, inr, ℕ, zero, suc, ◌+◌, ◌*◌, ◌%◌, ◌<◌, ◌≤◌, true, false, List, [], ◌∷◌, ◌++◌, length, replicate, Some, None, IsSome, refl, sym, ◌∙◌, ap, subst, arith}
use Rattle.std.proofs.lemmas.Bool.{cases_eq, le-leb, eq-eqb, ne_eqb}
use Rattle.std.proofs.lemmas.List.{length-replicate}
use Rattle.slot_spec.specs.declared.Pick.{Pick}
use Rattle.slot_spec.specs.declared.Pick.TheVariants.{Old, New, Byte}
use Rattle.slot_spec.specs.declared.DiskHeader.{DiskHeader}
use Rattle.slot_spec.specs.Crash.{field, Torn, Written}
use Rattle.slot_spec.specs.Slots.{SlotPair, Keep, Clear as ClearSlot, Seal, Commit, image_at, with_image, with_committed}
use Rattle.slot_spec.specs.Layout.{gate_place, entry_place, image_place, entry, IsOpen, StandsAt, GatesHold}
use Rattle.slot_spec.specs.Rig.{Rigged, Write, Sync, with_bytes, cut_with_bytes, in_disk, after_calls, trap_after, RigHolds}
use Rattle.slot_spec.specs.Outcome.{reach, slots_pending, LeftAs}
use Rattle.slot_spec.specs.Header.{slot_header}
use Rattle.slot_spec.specs.Owner.{Shows}
use Rattle.slot_laws.proofs.Splice.{with_bytes_written}
use Rattle.slot_laws.proofs.Kept.{stands_with}
use Rattle.slot_laws.proofs.Commit.{recommitted, gate_kept}
use Rattle.slot_laws.proofs.Gate.{stands_same, gate_head, gate_other, gate_entry, gate_content, gate_inside, none_from_shut, not_open, is_open, opened_image, Prepared, written_byte, with_image_same, image_none}
use Rattle.slot_laws.proofs.Fill.{Behind, entry_behind, content_behind, behind_shows, length-entry, entry_prepared}
use Rattle.slot_laws.proofs.Gates.{gates_same, gates_with, gates_behind, gates_open}
use Rattle.slot_laws.proofs.Calls.{one_left, two_left_as, four_left_as}

-- a commit: its write is the commit byte
module _ (room slot : ℕ) (s : SlotPair) (r : Rigged) (below : slot < 2) (other : slot ≢ s.committed) (some : IsSome (image_at slot s)) (stands : RigHolds (StandsAt room) s r) where
  commit_written : (b : ℕ) (old : List ℕ) → StandsAt room old s → Written 512 (b ∷ []) old (with_bytes 512 (b ∷ []) old)
  commit_written b old stands-old = with_bytes_written 512 (b ∷ []) old (omega (arith, stands-old.long))

  -- the lowest bit of a byte names one of the two, and both have an image
  either : (b : ℕ) → IsSome (image_at (b % 2) s)
  either b = elim (cases_eq (b % 2) slot) [
    | inl same ↦ subst (λ (k : ℕ). IsSome (image_at k s)) (sym same) some
    | inr differs ↦ let is : b % 2 ≡ s.committed = omega (arith, stands.reads.committed_is, below) in subst (λ (k : ℕ). IsSome (image_at k s)) (sym is) stands.reads.bootable
  ]

  commit_stands : (b k : ℕ) (old : List ℕ) → b % 2 ≡ k → IsSome (image_at k s) → StandsAt room old s → StandsAt room (with_bytes 512 (b ∷ []) old) (with_committed k s)
  commit_stands b k old is image stands-old =
      let written = commit_written b old stands-old in
      recommitted room s old (with_bytes 512 (b ∷ []) old) stands-old written.torn k (ap (λ (n : ℕ). n % 2) (written_byte 512 b old (with_bytes 512 (b ∷ []) old) written) ∙ is) image

  commit_gates : (b k : ℕ) (old : List ℕ) → StandsAt room old s → GatesHold old s → GatesHold (with_bytes 512 (b ∷ []) old) (with_committed k s)
  commit_gates b k old stands-old gates =
      let torn = (commit_written b old stands-old).torn in
      gates_same old (with_bytes 512 (b ∷ []) old) s (with_committed k s) (gate_kept room s old _ stands-old torn 0) (gate_kept room s old _ stands-old torn 1) (λ i. i) (λ i. i) gates

  commit_inside : in_disk 512 1 r ≡ true
  commit_inside = le-leb 513 (length r.bytes) (omega (arith, stands.reads.long))

  pub commit_left : LeftAs (StandsAt room) (reach 1 r.trap) (Commit slot) s (after_calls (Write 512 (slot ∷ []) ∷ Sync ∷ []) r)
  commit_left = two_left_as (StandsAt room) s (Commit slot) 512 (slot ∷ []) r commit_inside stands pending (commit_stands slot slot r.bytes (omega (arith, below)) some stands.reads)
    where
      pending : (pick : Pick) → StandsAt room (cut_with_bytes 512 (slot ∷ []) r.cut pick) (slots_pending (Commit slot) s pick)
      pending Old = stands.cuts Old
      pending New = commit_stands slot slot (r.cut New) (omega (arith, below)) some (stands.cuts New)
      pending (Byte b) = commit_stands b (b % 2) (r.cut (Byte b)) refl (either b) (stands.cuts (Byte b))

  pub commit_left_gates : RigHolds GatesHold s r → LeftAs GatesHold (reach 1 r.trap) (Commit slot) s (after_calls (Write 512 (slot ∷ []) ∷ Sync ∷ []) r)
  commit_left_gates gates = two_left_as GatesHold s (Commit slot) 512 (slot ∷ []) r commit_inside gates pending (commit_gates slot slot r.bytes stands.reads gates.reads)
    where
      pending : (pick : Pick) → GatesHold (cut_with_bytes 512 (slot ∷ []) r.cut pick) (slots_pending (Commit slot) s pick)
      pending Old = gates.cuts Old
      pending New = commit_gates slot slot (r.cut New) (stands.cuts New) (gates.cuts New)
      pending (Byte b) = commit_gates b (b % 2) (r.cut (Byte b)) (stands.cuts (Byte b)) (gates.cuts (Byte b))

-- a gate's byte
module _ (room slot : ℕ) (s : SlotPair) (below : slot < 2) (other : slot ≢ s.committed) (old : List ℕ) (b : ℕ) (stands : StandsAt room old s) where
  abbrev new : List ℕ
  new = with_bytes (gate_place slot) (b ∷ []) old

  gate_written : Written (gate_place slot) (b ∷ []) old new
  gate_written = with_bytes_written (gate_place slot) (b ∷ []) old (gate_inside slot (length old) (omega (arith, stands.long)))

  long_new : 4096 ≤ length new
  long_new = omega (arith, stands.long, gate_written.torn.no_shorter)

  gate_shut : b ≢ 165 → IsOpen slot new → ⊥
  gate_shut differs = not_open slot new long_new (λ e. differs (sym (written_byte (gate_place slot) b old new gate_written) ∙ e))

  gate_open : b ≡ 165 → IsOpen slot new
  gate_open same = is_open slot new long_new (written_byte (gate_place slot) b old new gate_written ∙ same)

  -- closed: the slot has no image
  none_stands : b ≢ 165 → StandsAt room new (with_image slot None s)
  none_stands differs = stands_with room slot old new None s below other (gate_head room slot old new below stands.long gate_written.torn) (gate_other room slot old new stands.long gate_written.torn) (none_from_shut room slot new (gate_shut differs)) stands

  none_gates : b ≢ 165 → GatesHold old s → GatesHold new (with_image slot None s)
  none_gates differs gates = gates_with slot None s old new below (gate_other room slot old new stands.long gate_written.torn).gate (λ opened. absurd (gate_shut differs opened)) gates

  -- open as it was: the slot is as it was
  open_stands : b ≡ 165 → IsOpen slot old → StandsAt room new s
  open_stands same opened = stands_same room slot old new s (gate_head room slot old new below stands.long gate_written.torn)
      record { gate = gate_open same ∙ sym opened; entry = gate_entry slot old new (omega (arith, stands.long)) gate_written.torn; content = gate_content room slot old new stands.long gate_written.torn }
      (gate_other room slot old new stands.long gate_written.torn) below stands

  open_gates : b ≡ 165 → IsOpen slot old → GatesHold old s → GatesHold new s
  open_gates same opened gates = gates_open slot s old new below (gate_other room slot old new stands.long gate_written.torn).gate opened (gate_open same) gates

  -- opened over what stands behind it: the slot has the whole image
  whole_stands : (image : List ℕ) → b ≡ 165 → Prepared room slot image old → StandsAt room new (with_image slot (Some image) s)
  whole_stands image same prepared = stands_with room slot old new (Some image) s below other (gate_head room slot old new below stands.long gate_written.torn) (gate_other room slot old new stands.long gate_written.torn) (opened_image room slot image old new prepared stands.long gate_written.torn (gate_open same)) stands

  whole_gates : (image : List ℕ) → GatesHold old s → GatesHold new (with_image slot (Some image) s)
  whole_gates image gates = gates_with slot (Some image) s old new below (gate_other room slot old new stands.long gate_written.torn).gate (λ opened. refl) gates

zero_is_shut : ◌≢◌ {A = ℕ} 0 165
zero_is_shut e = omega arith

-- the begin of a download over an open gate: its write closes the gate
module _ (room slot : ℕ) (s : SlotPair) (r : Rigged) (below : slot < 2) (other : slot ≢ s.committed) (stands : RigHolds (StandsAt room) s r) (opened : (pick : Pick) → IsOpen slot (r.cut pick)) where
  begin_inside : in_disk (gate_place slot) 1 r ≡ true
  begin_inside = le-leb (gate_place slot + 1) (length r.bytes) (gate_inside slot (length r.bytes) (omega (arith, stands.reads.long)))

  pub begin_left : LeftAs (StandsAt room) (reach 1 r.trap) (ClearSlot slot) s (after_calls (Write (gate_place slot) (0 ∷ []) ∷ Sync ∷ []) r)
  begin_left = two_left_as (StandsAt room) s (ClearSlot slot) (gate_place slot) (0 ∷ []) r begin_inside stands pending (none_stands room slot s below other r.bytes 0 stands.reads zero_is_shut)
    where
      pending : (pick : Pick) → StandsAt room (cut_with_bytes (gate_place slot) (0 ∷ []) r.cut pick) (slots_pending (ClearSlot slot) s pick)
      pending Old = stands.cuts Old
      pending New = none_stands room slot s below other (r.cut New) 0 (stands.cuts New) zero_is_shut
      pending (Byte b) = elim (cases_eq b 165) [
        | inl same ↦ rw (eq-eqb b 165 same) (open_stands room slot s below other (r.cut (Byte b)) b (stands.cuts (Byte b)) same (opened (Byte b)))
        | inr differs ↦ rw (ne_eqb b 165 differs) (none_stands room slot s below other (r.cut (Byte b)) b (stands.cuts (Byte b)) differs)
      ]

  pub begin_left_gates : RigHolds GatesHold s r → LeftAs GatesHold (reach 1 r.trap) (ClearSlot slot) s (after_calls (Write (gate_place slot) (0 ∷ []) ∷ Sync ∷ []) r)
  begin_left_gates gates = two_left_as GatesHold s (ClearSlot slot) (gate_place slot) (0 ∷ []) r begin_inside gates pending (none_gates room slot s below other r.bytes 0 stands.reads zero_is_shut gates.reads)
    where
      pending : (pick : Pick) → GatesHold (cut_with_bytes (gate_place slot) (0 ∷ []) r.cut pick) (slots_pending (ClearSlot slot) s pick)
      pending Old = gates.cuts Old
      pending New = none_gates room slot s below other (r.cut New) 0 (stands.cuts New) zero_is_shut (gates.cuts New)
      pending (Byte b) = elim (cases_eq b 165) [
        | inl same ↦ rw (eq-eqb b 165 same) (open_gates room slot s below other (r.cut (Byte b)) b (stands.cuts (Byte b)) same (opened (Byte b)) (gates.cuts (Byte b)))
        | inr differs ↦ rw (ne_eqb b 165 differs) (none_gates room slot s below other (r.cut (Byte b)) b (stands.cuts (Byte b)) differs (gates.cuts (Byte b)))
      ]

-- a write behind a closed gate, of a piece of the image or of the entry: the slots stay
module _ (header : DiskHeader) (slot : ℕ) (s : SlotPair) (r : Rigged) (below : slot < 2) (shut : (slot_header slot header).opened ≡ false) (other : slot ≢ header.committed) (shows : RigHolds (λ bytes t. Shows header t bytes) s r)
    (at : ℕ) (new : List ℕ) (inside : (size : ℕ) → 4096 + 2 * header.room ≤ size → at + length new ≤ size) (behind : (old torn : List ℕ) → 4096 + 2 * header.room ≤ length old → Torn at (length new) old torn → Behind header.room slot old torn) where
  -- as many other bytes too
  put_behind : (bytes old : List ℕ) → length bytes ≡ length new → Shows header s old → Behind header.room slot old (with_bytes at bytes old)
  put_behind bytes old many shows-old =
      let written = with_bytes_written at bytes old (subst (λ (n : ℕ). at + n ≤ length old) (sym many) (inside (length old) shows-old.stands.long)) in
      behind old (with_bytes at bytes old) shows-old.stands.long (subst (λ (n : ℕ). Torn at n old (with_bytes at bytes old)) many written.torn)

  pub put_shows : (bytes old : List ℕ) → length bytes ≡ length new → Shows header s old → Shows header s (with_bytes at bytes old)
  put_shows bytes old many shows-old = behind_shows header slot s old (with_bytes at bytes old) below other shut shows-old (put_behind bytes old many shows-old)

  put_gates : (bytes old : List ℕ) → length bytes ≡ length new → Shows header s old → GatesHold old s → GatesHold (with_bytes at bytes old) s
  put_gates bytes old many shows-old gates = gates_behind header.room slot s old (with_bytes at bytes old) below (put_behind bytes old many shows-old) gates

  pub put_pending : (pick : Pick) → StandsAt header.room (cut_with_bytes at new r.cut pick) s
  put_pending Old = (shows.cuts Old).stands
  put_pending New = (put_shows new (r.cut New) refl (shows.cuts New)).stands
  put_pending (Byte b) = (put_shows (replicate (length new) b) (r.cut (Byte b)) (length-replicate (length new) b) (shows.cuts (Byte b))).stands

  pub put_pending_gates : RigHolds GatesHold s r → (pick : Pick) → GatesHold (cut_with_bytes at new r.cut pick) s
  put_pending_gates gates Old = gates.cuts Old
  put_pending_gates gates New = put_gates new (r.cut New) refl (shows.cuts New) (gates.cuts New)
  put_pending_gates gates (Byte b) = put_gates (replicate (length new) b) (r.cut (Byte b)) (length-replicate (length new) b) (shows.cuts (Byte b)) (gates.cuts (Byte b))

  pub put_done_gates : RigHolds GatesHold s r → GatesHold (with_bytes at new r.bytes) s
  put_done_gates gates = put_gates new r.bytes refl shows.reads gates.reads

  pub put_stands : RigHolds (StandsAt header.room) s r
  put_stands = record { reads = shows.reads.stands; cuts = λ pick. (shows.cuts pick).stands }

-- a piece that lies in its slot lies in the disk
pub piece_inside : (header : DiskHeader) (slot : ℕ) → slot < 2 → (have : ℕ) (piece : List ℕ) → have + length piece ≤ header.room → (size : ℕ) → 4096 + 2 * header.room ≤ size → (image_place header.room slot + have) + length piece ≤ size
piece_inside header zero below have piece fits size long = omega (arith, long, fits)
piece_inside header (suc zero) below have piece fits size long = omega (arith, long, fits)
piece_inside header (suc (suc _)) below have piece fits size long = absurd (omega arith)

pub entry_inside_disk : (slot size : ℕ) → 4096 ≤ size → entry_place slot + 22 ≤ size
entry_inside_disk zero size long = omega arith
entry_inside_disk (suc _) size long = omega arith

-- a put: none of its writes decides anything
module _ (header : DiskHeader) (slot : ℕ) (s : SlotPair) (r : Rigged) (below : slot < 2) (shut : (slot_header slot header).opened ≡ false) (other : slot ≢ header.committed) (shows : RigHolds (λ bytes t. Shows header t bytes) s r)
    (have : ℕ) (piece : List ℕ) (fits : have + length piece ≤ header.room) where
  piece_behind : (old torn : List ℕ) → 4096 + 2 * header.room ≤ length old → Torn (image_place header.room slot + have) (length piece) old torn → Behind header.room slot old torn
  piece_behind old torn long is = content_behind header.room slot (image_place header.room slot + have) (length piece) old torn below long (omega arith) (omega (arith, fits)) is

  pub put_left : LeftAs (StandsAt header.room) (reach 0 r.trap) Keep s (after_calls (Write (image_place header.room slot + have) piece ∷ []) r)
  put_left = one_left (StandsAt header.room) s (reach 0 r.trap) (image_place header.room slot + have) piece r
      (put_stands header slot s r below shut other shows (image_place header.room slot + have) piece (piece_inside header slot below have piece fits) piece_behind)
      (put_pending header slot s r below shut other shows (image_place header.room slot + have) piece (piece_inside header slot below have piece fits) piece_behind)
      (put_shows header slot s r below shut other shows (image_place header.room slot + have) piece (piece_inside header slot below have piece fits) piece_behind piece r.bytes refl shows.reads).stands

  pub put_left_gates : RigHolds GatesHold s r → LeftAs GatesHold (reach 0 r.trap) Keep s (after_calls (Write (image_place header.room slot + have) piece ∷ []) r)
  put_left_gates gates = one_left GatesHold s (reach 0 r.trap) (image_place header.room slot + have) piece r gates
      (put_pending_gates header slot s r below shut other shows (image_place header.room slot + have) piece (piece_inside header slot below have piece fits) piece_behind gates)
      (put_done_gates header slot s r below shut other shows (image_place header.room slot + have) piece (piece_inside header slot below have piece fits) piece_behind gates)

-- a seal: the entry is written behind the closed gate, and then the gate decides
module _ (header : DiskHeader) (slot : ℕ) (s : SlotPair) (image : List ℕ) (r : Rigged) (below : slot < 2) (shut : (slot_header slot header).opened ≡ false) (other : slot ≢ header.committed) (shows : RigHolds (λ bytes t. Shows header t bytes) s r)
    (some : 1 ≤ length image) (fits : length image ≤ header.room) (there : field (image_place header.room slot) (length image) r.bytes ≡ image) where
  apart : slot ≢ s.committed
  apart e = other (e ∙ sym shows.reads.committed_is)

  entry_inside : (size : ℕ) → 4096 + 2 * header.room ≤ size → entry_place slot + length (entry image) ≤ size
  entry_inside size long = subst (λ (n : ℕ). entry_place slot + n ≤ size) (sym (length-entry image)) (entry_inside_disk slot size (omega (arith, long)))

  entry_is_behind : (old torn : List ℕ) → 4096 + 2 * header.room ≤ length old → Torn (entry_place slot) (length (entry image)) old torn → Behind header.room slot old torn
  entry_is_behind old torn long is = entry_behind header.room slot old torn below long (subst (λ (n : ℕ). Torn (entry_place slot) n old torn) (length-entry image) is)

  abbrev middle : List ℕ
  middle = with_bytes (entry_place slot) (entry image) r.bytes

  middle_shows : Shows header s middle
  middle_shows = put_shows header slot s r below shut other shows (entry_place slot) (entry image) entry_inside entry_is_behind (entry image) r.bytes refl shows.reads

  prepared : Prepared header.room slot image middle
  prepared = entry_prepared header.room slot image r.bytes middle below (some, fits) shows.reads.stands.long (with_bytes_written (entry_place slot) (entry image) r.bytes (entry_inside (length r.bytes) shows.reads.stands.long)) there

  none_yet : image_at slot s ≡ None
  none_yet = image_none slot header s r.bytes below shows.reads shut

  first_inside : in_disk (entry_place slot) (length (entry image)) r ≡ true
  first_inside = le-leb (entry_place slot + length (entry image)) (length r.bytes) (entry_inside (length r.bytes) shows.reads.stands.long)

  next_inside : in_disk (gate_place slot) 1 (record { bytes = middle; cut = λ pick. middle; trap = trap_after (trap_after r.trap) }) ≡ true
  next_inside = le-leb (gate_place slot + 1) (length middle) (gate_inside slot (length middle) (omega (arith, middle_shows.stands.long)))

  pub seal_left : LeftAs (StandsAt header.room) (reach 3 r.trap) (Seal slot image) s (after_calls ((Write (entry_place slot) (entry image) ∷ Sync ∷ []) ++ (Write (gate_place slot) (165 ∷ []) ∷ Sync ∷ [])) r)
  seal_left = four_left_as (StandsAt header.room) s (Seal slot image) (entry_place slot) (entry image) (gate_place slot) (165 ∷ []) r first_inside next_inside
      (put_stands header slot s r below shut other shows (entry_place slot) (entry image) entry_inside entry_is_behind)
      (put_pending header slot s r below shut other shows (entry_place slot) (entry image) entry_inside entry_is_behind)
      middle_shows.stands deciding
      (whole_stands header.room slot s below apart middle 165 middle_shows.stands image refl prepared)
    where
      deciding : (pick : Pick) → StandsAt header.room (cut_with_bytes (gate_place slot) (165 ∷ []) (λ pick. middle) pick) (slots_pending (Seal slot image) s pick)
      deciding Old = middle_shows.stands
      deciding New = whole_stands header.room slot s below apart middle 165 middle_shows.stands image refl prepared
      deciding (Byte b) = elim (cases_eq b 165) [
        | inl same ↦ rw (eq-eqb b 165 same) (whole_stands header.room slot s below apart middle b middle_shows.stands image same prepared)
        | inr differs ↦ rw (ne_eqb b 165 differs) (subst (λ (t : SlotPair). StandsAt header.room (with_bytes (gate_place slot) (b ∷ []) middle) t) (with_image_same slot s none_yet) (none_stands header.room slot s below apart middle b middle_shows.stands differs))
      ]

  pub seal_left_gates : RigHolds GatesHold s r → LeftAs GatesHold (reach 3 r.trap) (Seal slot image) s (after_calls ((Write (entry_place slot) (entry image) ∷ Sync ∷ []) ++ (Write (gate_place slot) (165 ∷ []) ∷ Sync ∷ [])) r)
  seal_left_gates gates = four_left_as GatesHold s (Seal slot image) (entry_place slot) (entry image) (gate_place slot) (165 ∷ []) r first_inside next_inside gates
      (put_pending_gates header slot s r below shut other shows (entry_place slot) (entry image) entry_inside entry_is_behind gates)
      middle_gates deciding
      (whole_gates header.room slot s below apart middle 165 middle_shows.stands image middle_gates)
    where
      middle_gates : GatesHold middle s
      middle_gates = put_done_gates header slot s r below shut other shows (entry_place slot) (entry image) entry_inside entry_is_behind gates

      deciding : (pick : Pick) → GatesHold (cut_with_bytes (gate_place slot) (165 ∷ []) (λ pick. middle) pick) (slots_pending (Seal slot image) s pick)
      deciding Old = middle_gates
      deciding New = whole_gates header.room slot s below apart middle 165 middle_shows.stands image middle_gates
      deciding (Byte b) = elim (cases_eq b 165) [
        | inl same ↦ rw (eq-eqb b 165 same) (whole_gates header.room slot s below apart middle b middle_shows.stands image middle_gates)
        | inr differs ↦ rw (ne_eqb b 165 differs) (subst (λ (t : SlotPair). GatesHold (with_bytes (gate_place slot) (b ∷ []) middle) t) (with_image_same slot s none_yet) (none_gates header.room slot s below apart middle b middle_shows.stands differs middle_gates))
      ]
