-- What is so of a unit's store, and of the slots of a unit that is off, by the history so far; and
-- that what a packet comes to keeps it so, and a cut amid it.
use Rattle.std.proofs.Common.{◌≡◌, ◌≢◌, ℕ, ◌<◌, Bool, true, false, List, ◌++◌}
use Rattle.std.proofs.Common.{Option, Some, None, Ok, Err, sym, ap, subst, inl, inr}
use Rattle.std.specs.Prelude.{Result}
use Rattle.omci_types.specs.declared.EntityId.{EntityId}
use Rattle.omci_types.specs.declared.Frame.{Frame}
use Rattle.omci_types.specs.declared.Boot.{Boot}
use Rattle.message_spec.specs.declared.Message.{Message}
use Rattle.message_spec.specs.declared.Message.TheVariants.{Asked, Answered, Told}
use Rattle.message_spec.specs.declared.Request.{Request}
use Rattle.message_spec.specs.declared.Request.TheVariants as request
use Rattle.message_spec.specs.declared.ContentsFault.{ContentsFault}
use Rattle.message_spec.specs.declared.ContentsFault.TheVariants.{UnknownType, Bits}
use Rattle.message_spec.specs.Reading.{message_of}
use Rattle.frame_spec.specs.Baseline.{packet_frame}
use Rattle.retry_spec.specs.Kept.{kept_for}
use Rattle.slot_spec.specs.declared.Pick.{Pick}
use Rattle.slot_spec.specs.declared.Trap.TheVariants.{Fuse}
use Rattle.slot_spec.specs.Slots.{SlotPair, Change, after_change}
use Rattle.slot_spec.specs.Slots as change
use Rattle.slot_spec.specs.Outcome.{outcome}
use Rattle.slot_laws.proofs.Either.{outcome_either}
use Rattle.store_spec.specs.History.{StoreEntry, Ledger, with_entries, ledger}
use Rattle.store_spec.specs.State.{StoreState, store_started}
use Rattle.store_spec.specs.Deeds.{Deed, Ignore, Refuse, RefuseWindow, GiveUp, Begin, Hold, Put}
use Rattle.store_spec.specs.Deeds.{Seal, Activate, Commit, Recommit, deed}
use Rattle.store_spec.specs.Effects.{change_of, store_after, entries_before, entries_by}
use Rattle.store_laws.specs.Explained.{ExplainedBy, StoreExplained}
use Rattle.store_laws.specs.Deeds.{IsSound, Fits, Meets}
use Rattle.store_laws.proofs.Steps.{meets, around, explained_after, sound_after, sound_started}
use Rattle.store_laws.proofs.Boots.{ledger-append}
use Rattle.unit_spec.specs.Onu.{Onu, Reception, Answer, answer, not_supported, keep_reply}
use Rattle.unit_spec.specs.Onu.{unless_leaving, unless_kept, take_request, asks_nothing}
use Rattle.unit_spec.specs.Onu.{image_deed, hold_section, hold_unless_kept, take_section}
use Rattle.unit_spec.specs.Onu.{unless_quiet, has_request_bits, if_request, for_message, for_frame}
use Rattle.unit_spec.specs.Onu.{onu_received, deed_unless_leaving, deed_unless_kept, message_deed}
use Rattle.unit_spec.specs.Onu.{frame_deed, packet_deed}

-- the store of a unit that is on
pub record StoreGood (s0 : SlotPair) (h : List StoreEntry) (m : StoreState) : Type 0 where
  pub sound : IsSound m
  pub explained : StoreExplained (ledger s0 h) m

-- the slots of one that is off
pub record SlotsGood (s0 : SlotPair) (h : List StoreEntry) (s : SlotPair) : Type 0 where
  pub below : s.committed < 2
  pub explained : ExplainedBy (ledger s0 h) s

abbrev pub UnitGood : SlotPair → List StoreEntry → Option Onu → SlotPair → Type 0
UnitGood s0 h None s = SlotsGood s0 h s
UnitGood s0 h (Some u) s = StoreGood s0 h u.store

-- a unit starts with such slots
pub started_good : (s0 : SlotPair) (h : List StoreEntry) (boot : Boot) (s : SlotPair)
    → SlotsGood s0 h s → StoreGood s0 h (store_started boot s)
started_good s0 h boot s g = record {
  sound = sound_started boot s g.below;
  explained = record { sure = g.explained; doubtful = g.explained };
}

-- and leaves such slots where its power goes
pub left_good : (s0 : SlotPair) (h : List StoreEntry) (m : StoreState) → StoreGood s0 h m
    → SlotsGood s0 h m.slots
left_good s0 h m g = record { below = g.sound.below; explained = g.explained.sure }

-- ---- a request

pub deed_good : (fails : Bool) (room tci : ℕ) (one : EntityId) (r : Request) (s0 : SlotPair)
    (h : List StoreEntry) (m : StoreState) → StoreGood s0 h m
    → StoreGood s0 (entries_by fails (deed room tci one r m) ++ h)
    (store_after fails (deed room tci one r m) m)
deed_good fails room tci one r s0 h m g =
    let d = deed room tci one r m in
    let k = meets one m g.sound room tci r in
    record {
      sound = sound_after m fails d g.sound k;
      explained =
          subst (λ (l : Ledger). StoreExplained l (store_after fails d m))
          (sym (ledger-append s0 (entries_by fails d) h))
          (explained_after (ledger s0 h) m fails d g.sound k g.explained);
    }

module _ (fails : Bool) (s0 : SlotPair) (h : List StoreEntry) where
  abbrev pub ReceptionGood : Reception → Type 0
  ReceptionGood r = StoreGood s0 (r.stored ++ h) r.unit.store

  abbrev AnswerGood : Answer → Type 0
  AnswerGood a = StoreGood s0 (a.stored ++ h) a.unit.store

  image_good : (f : Frame) (r : Request) (u : Onu) → StoreGood s0 h u.store
      → StoreGood s0 (entries_by fails (image_deed f r u) ++ h)
      (store_after fails (image_deed f r u) u.store)
  image_good f r u g = deed_good fails u.room f.tci f.entity r s0 h u.store g

  answer_good : (f : Frame) (r : Request) (u : Onu) → StoreGood s0 h u.store
      → AnswerGood (answer fails f r u)
  unfolding answer
  answer_good f (request.Create values) u g = g
  answer_good f request.Delete u g = g
  answer_good f (request.Set mask values) u g = g
  answer_good f (request.Get mask) u g = g
  answer_good f request.Reset u g = g
  answer_good f (request.Alarms mode) u g = g
  answer_good f (request.AlarmsNext number) u g = g
  answer_good f request.Upload u g = g
  answer_good f (request.UploadNext number) u g = g
  answer_good f (request.Start window size targets target) u g =
      image_good f (request.Start window size targets target) u g
  answer_good f (request.Section number bytes last) u g =
      image_good f (request.Section number bytes last) u g
  answer_good f (request.End crc size targets target) u g =
      image_good f (request.End crc size targets target) u g
  answer_good f (request.Activate flags) u g = image_good f (request.Activate flags) u g
  answer_good f request.Commit u g = image_good f request.Commit u g
  answer_good f (request.Reboot flags) u g = g

  leaving_good : (leaving : Option Boot) (r : Reception) (u : Onu) → StoreGood s0 h u.store
      → ReceptionGood r → ReceptionGood (unless_leaving leaving r u)
  leaving_good None r u g k = k
  leaving_good (Some boot) r u g k = g

  kept_good : (kept : Option (List ℕ)) (tci : ℕ) (a : Answer) (u : Onu) → StoreGood s0 h u.store
      → AnswerGood a → ReceptionGood (unless_kept kept tci a u)
  kept_good (Some reply) tci a u g k = g
  kept_good None tci a u g k = leaving_good u.leaving (keep_reply tci a) u g k

  request_good : (f : Frame) (a : Answer) (u : Onu) → StoreGood s0 h u.store → AnswerGood a
      → ReceptionGood (take_request f a u)
  unfolding take_request
  request_good f a u g k = kept_good (kept_for f.tci u.kept) f.tci a u g k

  hold_good : (kept : Option (List ℕ)) (f : Frame) (r : Request) (u : Onu)
      → StoreGood s0 h u.store
      → ReceptionGood (hold_unless_kept kept fails (image_deed f r u) f.entity.instance u)
  hold_good (Some reply) f r u g = g
  hold_good None f r u g = leaving_good u.leaving
      (hold_section fails (image_deed f r u) f.entity.instance u) u g (image_good f r u g)

  quiet_good : (quiet : Bool) (f : Frame) (r : Request) (u : Onu) → StoreGood s0 h u.store
      → ReceptionGood (unless_quiet quiet fails f r u)
  unfolding take_section
  quiet_good true f r u g = hold_good (kept_for f.tci u.kept) f r u g
  quiet_good false f r u g = request_good f (answer fails f r u) u g (answer_good f r u g)

  unknown_good : (is_request : Bool) (f : Frame) (u : Onu) → StoreGood s0 h u.store
      → ReceptionGood (if_request is_request f u)
  unknown_good true f u g = request_good f (not_supported f u) u g g
  unknown_good false f u g = g

  message_good : (m : Result Message ContentsFault) (f : Frame) (u : Onu)
      → StoreGood s0 h u.store → ReceptionGood (for_message fails m f u)
  message_good (Ok (Asked tci entity r)) f u g = quiet_good (asks_nothing r) f r u g
  message_good (Ok (Answered tci entity r)) f u g = g
  message_good (Ok (Told tci entity notice)) f u g = g
  message_good (Err (UnknownType number)) f u g = unknown_good (has_request_bits f.kind) f u g
  message_good (Err (Bits kind)) f u g = g

  frame_good : (f : Option Frame) (u : Onu) → StoreGood s0 h u.store
      → ReceptionGood (for_frame fails f u)
  frame_good None u g = g
  frame_good (Some f) u g = message_good (message_of f) f u g

  pub received_good : (bytes : List ℕ) (u : Onu) → StoreGood s0 h u.store
      → ReceptionGood (onu_received fails bytes u)
  unfolding onu_received
  received_good bytes u g = frame_good (packet_frame bytes) u g

-- ---- a cut amid a request

ignore_meets : (m : StoreState) → Meets m Ignore
ignore_meets m = record { fits = tt; calm = inr tt }

deed_leaving : (leaving : Option Boot) (d : Deed) (m : StoreState) → Meets m d
    → Meets m (deed_unless_leaving leaving d)
deed_leaving None d m k = k
deed_leaving (Some boot) d m k = ignore_meets m

deed_kept : (kept : Option (List ℕ)) (leaving : Option Boot) (d : Deed) (m : StoreState)
    → Meets m d → Meets m (deed_unless_kept kept leaving d)
deed_kept None leaving d m k = deed_leaving leaving d m k
deed_kept (Some reply) leaving d m k = ignore_meets m

message_meets : (x : Result Message ContentsFault) (f : Frame) (u : Onu) → IsSound u.store
    → Meets u.store (message_deed x f u)
message_meets (Ok (Asked tci entity r)) f u sound =
    deed_kept (kept_for f.tci u.kept) u.leaving (image_deed f r u) u.store
    (meets f.entity u.store sound u.room f.tci r)
message_meets (Ok (Answered tci entity r)) f u sound = ignore_meets u.store
message_meets (Ok (Told tci entity notice)) f u sound = ignore_meets u.store
message_meets (Err fault) f u sound = ignore_meets u.store

frame_meets : (f : Option Frame) (u : Onu) → IsSound u.store → Meets u.store (frame_deed f u)
frame_meets None u sound = ignore_meets u.store
frame_meets (Some f) u sound = message_meets (message_of f) f u sound

pub packet_meets : (bytes : List ℕ) (u : Onu) → IsSound u.store
    → Meets u.store (packet_deed bytes u)
unfolding packet_deed
packet_meets bytes u sound = frame_meets (packet_frame bytes) u sound

abbrev slot_in : Change → ℕ
slot_in change.Keep = 0
slot_in (change.Clear target) = 0
slot_in (change.Seal target image) = 0
slot_in (change.Commit slot) = slot

-- a commit is of the other slot
commits_other : (s : SlotPair) (d : Deed) → Fits s d → (slot : ℕ)
    → change_of d ≡ change.Commit slot → (slot < 2) × (slot ≢ s.committed)
commits_other s Ignore fits slot e = absurd (cc)
commits_other s (Refuse code) fits slot e = absurd (cc)
commits_other s (RefuseWindow code) fits slot e = absurd (cc)
commits_other s (GiveUp code) fits slot e = absurd (cc)
commits_other s (Begin target size granted) fits slot e = absurd (cc)
commits_other s (Hold window) fits slot e = absurd (cc)
commits_other s (Put bytes) fits slot e = absurd (cc)
commits_other s (Seal target image) fits slot e = absurd (cc)
commits_other s (Activate leaves) fits slot e = absurd (cc)
commits_other s (Commit k) fits slot e =
    subst (λ (x : ℕ). (x < 2) × (x ≢ s.committed)) (ap slot_in e) (fits.0, fits.1)
commits_other s (Recommit k) fits slot e = absurd (cc)

-- what the papers explain once the deed has begun is explained by the history with its entries
begun : (d : Deed) (s0 : SlotPair) (h : List StoreEntry) (s : SlotPair)
    → ExplainedBy (with_entries (entries_before d) (ledger s0 h)) s
    → ExplainedBy (ledger s0 (entries_before d ++ h)) s
begun d s0 h s e =
    subst (λ (l : Ledger). ExplainedBy l s) (sym (ledger-append s0 (entries_before d) h)) e

pub cut_good : (call : ℕ) (pick : Pick) (d : Deed) (s0 : SlotPair) (h : List StoreEntry)
    (m : StoreState) → StoreGood s0 h m → Meets m d
    → SlotsGood s0 (entries_before d ++ h)
    (outcome (change_of d) m.slots (Fuse call pick) pick)
cut_good call pick d s0 h m g k =
    let a = around (ledger s0 h) m.slots d g.sound.below k.fits g.explained.sure in
    let either = outcome_either (change_of d) m.slots (Fuse call pick) pick g.sound.below
    (commits_other m.slots d k.fits) in
    elim either [
      | inl same ↦ subst (SlotsGood s0 (entries_before d ++ h)) (sym same)
          (record { below = g.sound.below; explained = begun d s0 h m.slots a.before })
      | inr made ↦ subst (SlotsGood s0 (entries_before d ++ h)) (sym made) (record {
        below = (sound_after m false d g.sound k).below;
        explained = begun d s0 h (after_change (change_of d) m.slots) a.made;
      })
    ]
