-- What a write leaves as it is of bytes that stand for slots.
use Rattle.std.proofs.Common.{◌≡◌, ◌≢◌, inl, ℕ, zero, suc, ◌+◌, ◌*◌, ◌%◌, ◌≤◌, ◌<◌, List, length, get_or, Option, IsSome, refl, sym, ◌∙◌, ap, subst, arith}
use Rattle.slot_laws.proofs.Fields.{Apart, field_kept}
use Rattle.slot_spec.specs.Crash.{field, Torn}
use Rattle.slot_spec.specs.Slots.{SlotPair, image_at, with_image}
use Rattle.slot_spec.specs.Layout.{gate_place, entry_place, image_place, SlotStands, SlotIn, StandsAt}

-- the parts of a slot are as they were
pub record SlotKept (room slot : ℕ) (old new : List ℕ) : Type 0 where
  pub gate : field (gate_place slot) 1 new ≡ field (gate_place slot) 1 old
  pub entry : field (entry_place slot) 22 new ≡ field (entry_place slot) 22 old
  pub content : field (image_place room slot) room new ≡ field (image_place room slot) room old

-- so are those before the slots
pub record HeadKept (old new : List ℕ) : Type 0 where
  pub magic : field 0 8 new ≡ field 0 8 old
  pub room : field 8 4 new ≡ field 8 4 old
  pub commit : get_or new 512 0 ≡ get_or old 512 0
  pub long : length old ≤ length new

pub slot_stands : (room slot : ℕ) (old new : List ℕ) (image : Option (List ℕ)) → SlotKept room slot old new → SlotIn room old slot image → SlotIn room new slot image
slot_stands room slot old new image kept stands =
    subst (λ g. SlotStands room g (field (entry_place slot) 22 new) (field (image_place room slot) room new) image) (sym kept.gate)
    (subst (λ e. SlotStands room (field (gate_place slot) 1 old) e (field (image_place room slot) room new) image) (sym kept.entry)
    (subst (λ c. SlotStands room (field (gate_place slot) 1 old) (field (entry_place slot) 22 old) c image) (sym kept.content) stands))

-- the other one of the two
abbrev pub other_slot : ℕ → ℕ
other_slot zero = 1
other_slot (suc _) = 0

image_at-other : (target committed : ℕ) (image : Option (List ℕ)) (s : SlotPair) → target < 2 → committed < 2 → target ≢ committed → image_at committed (with_image target image s) ≡ image_at committed s
image_at-other zero zero image s t c differ = absurd (differ refl)
image_at-other zero (suc _) image s t c differ = refl
image_at-other (suc _) zero image s t c differ = refl
image_at-other (suc a) (suc b) image s t c differ = let same : suc a ≡ suc b = omega arith in absurd (differ same)

-- everything but a slot that isn't committed is as it was
pub stands_with : (room target : ℕ) (old new : List ℕ) (image : Option (List ℕ)) (s : SlotPair) → target < 2 → target ≢ s.committed → HeadKept old new → SlotKept room (other_slot target) old new → SlotIn room new target image → StandsAt room old s → StandsAt room new (with_image target image s)
stands_with room zero old new image s below differ head kept stands-target stands = record {
  magic_is = head.magic ∙ stands.magic_is;
  room_is = head.room ∙ stands.room_is;
  room_fits = stands.room_fits;
  long = omega (arith, stands.long, head.long);
  committed_is = ap (λ (n : ℕ). n % 2) head.commit ∙ stands.committed_is;
  bootable = subst (λ (o : Option (List ℕ)). IsSome o) (sym (image_at-other 0 s.committed image s below (omega (arith, stands.committed_is)) differ)) stands.bootable;
  first = stands-target;
  second = slot_stands room 1 old new s.second kept stands.second;
}
stands_with room (suc t) old new image s below differ head kept stands-target stands = record {
  magic_is = head.magic ∙ stands.magic_is;
  room_is = head.room ∙ stands.room_is;
  room_fits = stands.room_fits;
  long = omega (arith, stands.long, head.long);
  committed_is = ap (λ (n : ℕ). n % 2) head.commit ∙ stands.committed_is;
  bootable = subst (λ (o : Option (List ℕ)). IsSome o) (sym (image_at-other (suc t) s.committed image s below (omega (arith, stands.committed_is)) differ)) stands.bootable;
  first = slot_stands room 0 old new s.first kept stands.first;
  second = stands-target;
}

-- a write behind the commit byte
pub head_kept : (at count : ℕ) (old new : List ℕ) → Torn at count old new → 513 ≤ at → 4096 ≤ length old → HeadKept old new
head_kept at count old new torn behind long = record {
  magic = field_kept at count old new 0 8 torn (omega arith) (inl (omega arith));
  room = field_kept at count old new 8 4 torn (omega arith) (inl (omega arith));
  commit = torn.elsewhere 512 (omega arith) (inl (omega arith));
  long = torn.no_shorter;
}

-- a write that meets no part of a slot
pub slot_kept : (at count room slot : ℕ) (old new : List ℕ) → Torn at count old new → slot < 2 → 4096 + 2 * room ≤ length old → Apart at count (gate_place slot) 1 → Apart at count (entry_place slot) 22 → Apart at count (image_place room slot) room → SlotKept room slot old new
slot_kept at count room zero old new torn below long gate entry content = record {
  gate = field_kept at count old new 1024 1 torn (omega (arith, long)) gate;
  entry = field_kept at count old new 2048 22 torn (omega (arith, long)) entry;
  content = field_kept at count old new 4096 room torn (omega (arith, long)) content;
}
slot_kept at count room (suc slot) old new torn below long gate entry content = record {
  gate = field_kept at count old new 1536 1 torn (omega (arith, long)) gate;
  entry = field_kept at count old new 2560 22 torn (omega (arith, long)) entry;
  content = field_kept at count old new (4096 + room) room torn (omega (arith, long)) content;
}
