-- What a format's writes leave, one after the other.
use Rattle.std.proofs.Common.{◌≡◌, inl, inr, ℕ, ◌+◌, ◌-◌, ◌*◌, ◌%◌, ◌≤◌, max, Bool, true, false, if◌then◌else◌, List, [], ◌∷◌, ◌++◌, length, replicate, drop, get_or, Option, Some, None, IsSome, refl, sym, ◌∙◌, ap, subst, arith, length-take, length-drop}
use Rattle.std.proofs.lemmas.Bool.{false≢true, cases_Bool}
use Rattle.std.proofs.lemmas.List.{take-take}
use Rattle.std.specs.Int.{to_be_bytes, w32}
use Rattle.slot_spec.specs.declared.Trap.TheVariants.{Clear}
use Rattle.slot_spec.specs.declared.DiskHeader.{DiskHeader}
use Rattle.slot_spec.specs.Crash.{field, Torn, Written}
use Rattle.slot_spec.specs.Layout.{magic, entry, IsLength, IsOpen, GatesHold, version}
use Rattle.slot_spec.specs.Rig.{Rigged, Call, Read, Write, Sync, call_fails, after_call, trap_after, after_calls, calls_fail, Makes, RigHolds}
use Rattle.slot_spec.specs.Header.{view_of}
use Rattle.slot_spec.specs.Owner.{Shows, Settled}
use Rattle.slot_laws.proofs.Fields.{field_kept, get_or-field}
use Rattle.slot_laws.proofs.Commit.{settled_by}
use Rattle.image_slots.specs.Formats.{FormattedBody, Formatted, FormattedDisk, FormatLeaves, formatted_slots}

-- these bytes stand at a place
pub record At (place : ℕ) (bytes disk : List ℕ) : Type 0 where
  pub is : field place (length bytes) disk ≡ bytes
  pub inside : place + length bytes ≤ length disk

-- bytes that are written at a place
pub record Part : Type 0 where
  pub place : ℕ
  pub bytes : List ℕ

-- writes one after the other
abbrev pub Wrote : List Part → List ℕ → List ℕ → Type 0
Wrote [] old new = new ≡ old
Wrote (part ∷ rest) old new = (middle : List ℕ) × Written part.place part.bytes old middle × Wrote rest middle new

-- all of them behind a place
abbrev pub AllBehind : ℕ → List Part → Type 0
AllBehind end [] = Unit {0}
AllBehind end (part ∷ rest) = (end ≤ part.place) × AllBehind end rest

-- all of them before one
abbrev pub AllWithin : ℕ → List Part → Type 0
AllWithin end [] = Unit {0}
AllWithin end (part ∷ rest) = (part.place + length part.bytes ≤ end) × AllWithin end rest

stored_at : (place : ℕ) (bytes old new : List ℕ) → Written place bytes old new → 1 ≤ length bytes → At place bytes new
stored_at place bytes old new written some = record {
  is = written.there;
  inside = omega (arith, ap (λ (l : List ℕ). length l) written.there, length-take (length bytes) (drop place new), length-drop place new);
}

kept_through : (rest : List Part) (place : ℕ) (bytes old new : List ℕ) → Wrote rest old new → AllBehind (place + length bytes) rest → At place bytes old → At place bytes new
kept_through [] place bytes old new same behind there = subst (λ (b : List ℕ). At place bytes b) (sym same) there
kept_through (part ∷ rest) place bytes old new wrote behind there =
    kept_through rest place bytes wrote.0 new wrote.2 behind.1 record {
      is = field_kept part.place (length part.bytes) old wrote.0 place (length bytes) wrote.1.torn there.inside (inl behind.0) ∙ there.is;
      inside = omega (arith, there.inside, wrote.1.torn.no_shorter);
    }

-- the first of them, through the others
first_through : (part : Part) (rest : List Part) (old new : List ℕ) → Wrote (part ∷ rest) old new → 1 ≤ length part.bytes → AllBehind (part.place + length part.bytes) rest → At part.place part.bytes new
first_through part rest old new wrote some behind = kept_through rest part.place part.bytes wrote.0 new wrote.2 behind (stored_at part.place part.bytes old wrote.0 wrote.1 some)

-- the disk grows where one of them ends past it, and no further
length_through : (parts : List Part) (end : ℕ) (old new : List ℕ) → Wrote parts old new → AllWithin end parts → (length old ≤ length new) × (length new ≤ max (length old) end)
length_through [] end old new same within = (omega (arith, ap (λ (l : List ℕ). length l) same), omega (arith, ap (λ (l : List ℕ). length l) same))
length_through (part ∷ rest) end old new wrote within =
    let later = length_through rest end wrote.0 new wrote.2 within.1 in
    (omega (arith, wrote.1.torn.no_shorter, later.0), omega (arith, wrote.1.torn.no_longer, within.0, later.1))

abbrev pub body_parts : ℕ → List ℕ → List ℕ → List Part
body_parts room entry_of image =
    record { place = 8; bytes = to_be_bytes w32 room } ∷ record { place = 512; bytes = 0 ∷ [] } ∷ record { place = 1024; bytes = 165 ∷ [] } ∷ record { place = 1536; bytes = 0 ∷ [] } ∷ record { place = 2048; bytes = entry_of }
    ∷ record { place = 4096; bytes = image } ∷ record { place = 4096 + 2 * room - 1; bytes = 0 ∷ [] } ∷ []

abbrev tail_of : List Part → List Part
tail_of [] = []
tail_of (part ∷ rest) = rest

pub body_after : (room : ℕ) (entry_of image old new : List ℕ) → 1 ≤ room → 1 ≤ length image → length image ≤ room → length entry_of ≡ 22 → Wrote (body_parts room entry_of image) old new → FormattedBody room entry_of image old new
body_after room entry_of image old new some_room some fits whole w1 =
    let w2 = w1.2 in
    let w3 = w2.2 in
    let w4 = w3.2 in
    let w5 = w4.2 in
    let w6 = w5.2 in
    let w7 = w6.2 in
    let unit : Unit {0} = record {} in
    let last = first_through (record { place = 4096 + 2 * room - 1; bytes = 0 ∷ [] }) [] w6.0 new w7 (omega arith) unit in
    let within : AllWithin (4096 + 2 * room) (body_parts room entry_of image) = (omega arith, (omega arith, (omega arith, (omega arith, (omega (arith, whole), (omega (arith, fits), (omega (arith, some_room), unit))))))) in
    let all = length_through (body_parts room entry_of image) (4096 + 2 * room) old new w1 within in
    let p2 = tail_of (body_parts room entry_of image) in
    let p3 = tail_of p2 in
    let p4 = tail_of p3 in
    let p5 = tail_of p4 in
    let p6 = tail_of p5 in
    let p7 = tail_of p6 in
    let after_room : AllBehind 12 p2 = (omega arith, (omega arith, (omega arith, (omega arith, (omega arith, (omega (arith, some_room), unit)))))) in
    let after_commit : AllBehind 513 p3 = (omega arith, (omega arith, (omega arith, (omega arith, (omega (arith, some_room), unit))))) in
    let after_first : AllBehind 1025 p4 = (omega arith, (omega arith, (omega arith, (omega (arith, some_room), unit)))) in
    let after_second : AllBehind 1537 p5 = (omega arith, (omega arith, (omega (arith, some_room), unit))) in
    let after_entry : AllBehind (2048 + length entry_of) p6 = (omega (arith, whole), (omega (arith, whole, some_room), unit)) in
    let after_image : AllBehind (4096 + length image) p7 = (omega (arith, fits, some_room), unit) in
    record {
      room_is = (first_through _ p2 old new w1 (omega arith) after_room).is;
      committed = (first_through _ p3 w1.0 new w2 (omega arith) after_commit).is;
      first_gate = (first_through _ p4 w2.0 new w3 (omega arith) after_first).is;
      second_gate = (first_through _ p5 w3.0 new w4 (omega arith) after_second).is;
      entry_is = ap (λ (n : ℕ). field 2048 n new) (sym whole) ∙ (first_through _ p6 w4.0 new w5 (omega (arith, whole)) after_entry).is;
      image_is = (first_through _ p7 w5.0 new w6 some after_image).is;
      long = omega (arith, last.inside, all.0, all.1, some_room);
    }

-- the magic was taken away before the rest was written, and stands again after it
pub formatted_after : (room : ℕ) (entry_of image was cleared old new : List ℕ) → 1 ≤ room → length image ≤ room → Torn 0 8 was cleared → FormattedBody room entry_of image cleared old → Written 0 magic old new → Formatted room entry_of image was new
formatted_after room entry_of image was cleared old new some fits torn body written =
    let long = body.long in
    let kept = λ (place n : ℕ) (inside : place + n ≤ length old) (behind : 8 ≤ place). field_kept 0 8 old new place n written.torn inside (inr (omega arith)) in
    record {
      magic_is = written.there;
      body = record {
        room_is = kept 8 4 (omega arith) (omega arith) ∙ body.room_is;
        committed = kept 512 1 (omega arith) (omega arith) ∙ body.committed;
        first_gate = kept 1024 1 (omega arith) (omega arith) ∙ body.first_gate;
        second_gate = kept 1536 1 (omega arith) (omega arith) ∙ body.second_gate;
        entry_is = kept 2048 22 (omega arith) (omega arith) ∙ body.entry_is;
        image_is = kept 4096 (length image) (omega (arith, fits)) (omega arith) ∙ body.image_is;
        long = omega (arith, long, torn.no_shorter, torn.no_longer, written.torn.no_shorter, written.torn.no_longer);
      };
    }

zero_is_shut : ◌≡◌ {A = ℕ} 0 165 → ⊥
zero_is_shut e = omega arith

-- formatted bytes show one image, committed
pub formatted_shows : (room : ℕ) (image was bytes : List ℕ) → IsLength 16777216 room → IsLength room (length image) → Formatted room (entry image) image was bytes
    → Shows (record { room = room; committed = 0; first = record { opened = true; view = Some (view_of image) }; second = record { opened = false; view = None } }) (formatted_slots image) bytes
formatted_shows room image was bytes room_fits fits formatted =
    let body = formatted.body in
    let shut : IsOpen 1 bytes → ⊥ = λ opened. zero_is_shut (ap (λ (l : List ℕ). get_or l 0 0) (sym body.second_gate ∙ opened)) in
    record {
      stands = record {
        magic_is = formatted.magic_is;
        room_is = body.room_is;
        room_fits = room_fits;
        long = omega (arith, body.long);
        committed_is = ap (λ (n : ℕ). n % 2) (sym (get_or-field 512 1 bytes 0 (omega arith)) ∙ ap (λ (l : List ℕ). get_or l 0 0) body.committed);
        bootable = refl;
        first = record {
          opened = body.first_gate;
          within = fits;
          entered = body.entry_is;
          content_is = take-take (length image) room (drop 4096 bytes) fits.1 ∙ body.image_is;
        };
        second = λ opened within. shut opened;
      };
      committed_is = refl;
      first = record { view_is = refl; open_is = (λ _. body.first_gate, λ _. refl) };
      second = record { view_is = refl; open_is = (λ (e : false ≡ true). absurd (false≢true e), λ opened. absurd (shut opened)) };
    }

-- slot 0 has an image, and slot 1's gate is closed
pub formatted_gates : (header : DiskHeader) (image bytes : List ℕ) → header.second.opened ≡ false → Shows header (formatted_slots image) bytes → GatesHold bytes (formatted_slots image)
formatted_gates header image bytes shut shows = record { first_gate = λ opened. refl; second_gate = λ opened. absurd (false≢true (sym shut ∙ shows.second.open_is.1 opened)) }

-- so the disk is settled
pub formatted_settled : {D : Type 0} (seen : D → Option (List ℕ)) (may_leave : D → List ℕ → Type 0) (disk : D) (room : ℕ) (image was entry_of : List ℕ) → IsLength 16777216 room → IsLength room (length image) → entry_of ≡ entry image → FormattedDisk seen may_leave room entry_of image was disk
    → Settled seen may_leave disk (record { room = room; committed = 0; first = record { opened = true; view = Some (view_of image) }; second = record { opened = false; view = None } }) (formatted_slots image)
formatted_settled seen may_leave disk room image was entry_of room_fits fits is laid =
    settled_by seen may_leave disk _ (formatted_slots image) laid.now laid.reads laid.only
    (formatted_shows room image was laid.now room_fits fits (subst (λ (e : List ℕ). Formatted room e image was laid.now) is laid.formatted))

-- and over a rig all that it holds stands for the slots
pub formatted_leaves : (header : DiskHeader) (image : List ℕ) (r after : Rigged) → header.second.opened ≡ false → (r.trap ≡ Clear → after.trap ≡ Clear) → RigHolds (λ bytes t. Shows header t bytes) (formatted_slots image) after → FormatLeaves header.room image r after
formatted_leaves header image r after shut clear shows = record {
  stands = record { reads = shows.reads.stands; cuts = λ pick. (shows.cuts pick).stands };
  gates = record { reads = formatted_gates header image after.bytes shut shows.reads; cuts = λ pick. formatted_gates header image (after.cut pick) shut (shows.cuts pick) };
  clear = clear;
}

pub some_of : {X : Type 0} (o : Option X) → IsSome o → (x : X) × (o ≡ Some x)
some_of None some = absurd (false≢true some)
some_of (Some x) some = (x, refl)

no_version : replicate 14 0 ≡ version []
unfolding version
no_version = refl

-- the version of an image that comes whole
pub whole_version : (first image : List ℕ) → ((put : List ℕ) → 0 ≡ length put → replicate 14 0 ≡ version put → first ≡ version (put ++ image)) → first ≡ version image
whole_version first image after = after [] refl no_version

-- without a trap none comes
clear_call : (call : Call) (r : Rigged) → r.trap ≡ Clear → (after_call call r).trap ≡ Clear
clear_call (Read at count) r clear = ap trap_after clear
clear_call (Write at new) r clear = ap trap_after clear
clear_call Sync r clear = ap trap_after clear

pub clear_calls : (calls : List Call) (r : Rigged) → r.trap ≡ Clear → (after_calls calls r).trap ≡ Clear
unfolding after_calls
clear_calls [] r clear = clear
clear_calls (call ∷ calls) r clear = elim (cases_Bool (call_fails call r)) [
  | inl fails ↦ ap (λ (b : Bool). (if b then after_call call r else after_calls calls (after_call call r)).trap) fails ∙ clear_call call r clear
  | inr goes ↦ ap (λ (b : Bool). (if b then after_call call r else after_calls calls (after_call call r)).trap) goes ∙ clear_calls calls (after_call call r) (clear_call call r clear)
]

-- where no call is made
pub makes-none : (rig : Option Rigged) → Makes [] rig rig false
unfolding after_calls calls_fail
makes-none rig = λ r is. (is, refl)
