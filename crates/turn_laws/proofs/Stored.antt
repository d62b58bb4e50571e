-- The entries that a packet has for the history are those of its deed of the store; so what a crash
-- leaves amid it is explained by some older part of the history with them.
use Rattle.std.proofs.Common.{◌≡◌, ℕ, Bool, true, false, if◌then◌else◌, List, [], ◌++◌, Option, Some}
use Rattle.std.proofs.Common.{None, Ok, Err, refl, sym, subst, ◌∙◌}
use Rattle.std.specs.Prelude.{Result, ◌==◌}
use Rattle.omci_types.specs.declared.Boot.{Boot}
use Rattle.omci_types.specs.declared.Frame.{Frame}
use Rattle.message_spec.specs.declared.Message.{Message}
use Rattle.message_spec.specs.declared.Message.TheVariants.{Asked, Answered, Told}
use Rattle.message_spec.specs.declared.Request.{Request}
use Rattle.message_spec.specs.declared.Request.TheVariants as request
use Rattle.message_spec.specs.declared.ContentsFault.{ContentsFault}
use Rattle.message_spec.specs.declared.ContentsFault.TheVariants.{UnknownType, Bits}
use Rattle.message_spec.specs.Reading.{message_of}
use Rattle.frame_spec.specs.Baseline.{packet_frame}
use Rattle.retry_spec.specs.Kept.{kept_for}
use Rattle.slot_spec.specs.Slots.{SlotPair, mid}
use Rattle.slot_spec.specs.Layout.{StandsAmong}
use Rattle.store_spec.specs.History.{StoreEntry, BootsEver, ledger}
use Rattle.store_spec.specs.Deeds.{Deed, Ignore, image_code, deed}
use Rattle.store_spec.specs.Effects.{change_of, entries_by}
use Rattle.store_laws.proofs.Steps.{around}
use Rattle.store_laws.proofs.Boots.{boots_around, ever_around}
use Rattle.boot_laws.proofs.Keeping.{StoreGood, packet_meets}
use Rattle.unit_spec.specs.Onu.{Onu, Reception, Answer, answer, not_supported, keep_reply}
use Rattle.unit_spec.specs.Onu.{unless_leaving, unless_kept, take_request, asks_nothing}
use Rattle.unit_spec.specs.Onu.{image_deed, hold_section, hold_unless_kept, take_section}
use Rattle.unit_spec.specs.Onu.{unless_quiet, has_request_bits, if_request, for_message, for_frame}
use Rattle.unit_spec.specs.Onu.{onu_received, deed_unless_leaving, deed_unless_kept, message_deed}
use Rattle.unit_spec.specs.Onu.{frame_deed, packet_deed}

if_same : (b : Bool) (d : Deed) → (if b then d else d) ≡ d
if_same true d = refl
if_same false d = refl

module _ (fails : Bool) where
  quiet : [] ≡ entries_by fails Ignore
  quiet = by fails
    where
      by : (b : Bool) → [] ≡ entries_by b Ignore
      by true = refl
      by false = refl

  -- a request that asks nothing of the store has no entry
  nothing : (d : Deed) → d ≡ Ignore → [] ≡ entries_by fails d
  nothing d is = subst (λ (x : Deed). [] ≡ entries_by fails x) (sym is) quiet

  answer_stored : (f : Frame) (r : Request) (u : Onu)
      → (answer fails f r u).stored ≡ entries_by fails (image_deed f r u)
  unfolding answer deed
  answer_stored f (request.Create values) u =
      nothing (image_deed f (request.Create values) u)
      (if_same (image_code f.entity u.store.broken == 0) Ignore)
  answer_stored f request.Delete u =
      nothing (image_deed f request.Delete u)
      (if_same (image_code f.entity u.store.broken == 0) Ignore)
  answer_stored f (request.Set mask values) u =
      nothing (image_deed f (request.Set mask values) u)
      (if_same (image_code f.entity u.store.broken == 0) Ignore)
  answer_stored f (request.Get mask) u =
      nothing (image_deed f (request.Get mask) u)
      (if_same (image_code f.entity u.store.broken == 0) Ignore)
  answer_stored f request.Reset u =
      nothing (image_deed f request.Reset u)
      (if_same (image_code f.entity u.store.broken == 0) Ignore)
  answer_stored f (request.Alarms mode) u =
      nothing (image_deed f (request.Alarms mode) u)
      (if_same (image_code f.entity u.store.broken == 0) Ignore)
  answer_stored f (request.AlarmsNext number) u =
      nothing (image_deed f (request.AlarmsNext number) u)
      (if_same (image_code f.entity u.store.broken == 0) Ignore)
  answer_stored f request.Upload u =
      nothing (image_deed f request.Upload u)
      (if_same (image_code f.entity u.store.broken == 0) Ignore)
  answer_stored f (request.UploadNext number) u =
      nothing (image_deed f (request.UploadNext number) u)
      (if_same (image_code f.entity u.store.broken == 0) Ignore)
  answer_stored f (request.Reboot flags) u =
      nothing (image_deed f (request.Reboot flags) u)
      (if_same (image_code f.entity u.store.broken == 0) Ignore)
  answer_stored f (request.Start window size targets target) u = refl
  answer_stored f (request.Section number bytes last) u = refl
  answer_stored f (request.End crc size targets target) u = refl
  answer_stored f (request.Activate flags) u = refl
  answer_stored f request.Commit u = refl

  leaving_stored : (leaving : Option Boot) (r : Reception) (d : Deed) (u : Onu)
      → r.stored ≡ entries_by fails d
      → (unless_leaving leaving r u).stored ≡ entries_by fails (deed_unless_leaving leaving d)
  leaving_stored None r d u same = same
  leaving_stored (Some boot) r d u same = quiet

  kept_stored : (kept : Option (List ℕ)) (tci : ℕ) (a : Answer) (d : Deed) (u : Onu)
      → a.stored ≡ entries_by fails d
      → (unless_kept kept tci a u).stored ≡ entries_by fails (deed_unless_kept kept u.leaving d)
  kept_stored (Some reply) tci a d u same = quiet
  kept_stored None tci a d u same = leaving_stored u.leaving (keep_reply tci a) d u same

  hold_stored : (kept : Option (List ℕ)) (f : Frame) (r : Request) (u : Onu)
      → (hold_unless_kept kept fails (image_deed f r u) f.entity.instance u).stored
      ≡ entries_by fails (deed_unless_kept kept u.leaving (image_deed f r u))
  hold_stored (Some reply) f r u = quiet
  hold_stored None f r u = leaving_stored u.leaving
      (hold_section fails (image_deed f r u) f.entity.instance u) (image_deed f r u) u refl

  quiet_stored : (asks_none : Bool) (f : Frame) (r : Request) (u : Onu)
      → (unless_quiet asks_none fails f r u).stored
      ≡ entries_by fails (deed_unless_kept (kept_for f.tci u.kept) u.leaving (image_deed f r u))
  unfolding take_section take_request
  quiet_stored true f r u = hold_stored (kept_for f.tci u.kept) f r u
  quiet_stored false f r u =
      kept_stored (kept_for f.tci u.kept) f.tci (answer fails f r u) (image_deed f r u) u
      (answer_stored f r u)

  -- a frame of an unknown type has none either
  refused_leaving : (leaving : Option Boot) (r : Reception) (u : Onu) → r.stored ≡ []
      → (unless_leaving leaving r u).stored ≡ []
  refused_leaving None r u same = same
  refused_leaving (Some boot) r u same = refl

  refused_stored : (kept : Option (List ℕ)) (f : Frame) (u : Onu)
      → (unless_kept kept f.tci (not_supported f u) u).stored ≡ []
  refused_stored (Some reply) f u = refl
  refused_stored None f u = refused_leaving u.leaving (keep_reply f.tci (not_supported f u)) u refl

  unknown_stored : (is_request : Bool) (f : Frame) (u : Onu)
      → (if_request is_request f u).stored ≡ []
  unfolding take_request
  unknown_stored true f u = refused_stored (kept_for f.tci u.kept) f u
  unknown_stored false f u = refl

  message_stored : (m : Result Message ContentsFault) (f : Frame) (u : Onu)
      → (for_message fails m f u).stored ≡ entries_by fails (message_deed m f u)
  message_stored (Ok (Asked tci entity r)) f u = quiet_stored (asks_nothing r) f r u
  message_stored (Ok (Answered tci entity r)) f u = quiet
  message_stored (Ok (Told tci entity notice)) f u = quiet
  message_stored (Err (UnknownType number)) f u =
      unknown_stored (has_request_bits f.kind) f u ∙ quiet
  message_stored (Err (Bits kind)) f u = quiet

  frame_stored : (f : Option Frame) (u : Onu)
      → (for_frame fails f u).stored ≡ entries_by fails (frame_deed f u)
  frame_stored None u = quiet
  frame_stored (Some f) u = message_stored (message_of f) f u

  pub received_stored : (bytes : List ℕ) (u : Onu)
      → (onu_received fails bytes u).stored ≡ entries_by fails (packet_deed bytes u)
  unfolding onu_received packet_deed
  received_stored bytes u = frame_stored (packet_frame bytes) u

-- what may be there while a packet is taken was there at some time of the history
pub packet_inside : (room : ℕ) (s0 : SlotPair) (h : List StoreEntry) (fails : Bool)
    (bytes : List ℕ) (u : Onu) (image : List ℕ) → StoreGood s0 h u.store
    → StandsAmong room (mid (change_of (packet_deed bytes u)) u.store.slots) image
    → BootsEver room s0 ((onu_received fails bytes u).stored ++ h) image
packet_inside room s0 h fails bytes u image g among =
    let d = packet_deed bytes u in
    subst (λ (e : List StoreEntry). BootsEver room s0 (e ++ h) image)
    (sym (received_stored fails bytes u))
    (ever_around room s0 h fails d image
    (boots_around room s0 h u.store.slots d image
    (around (ledger s0 h) u.store.slots d g.sound.below (packet_meets bytes u g.sound).fits
    g.explained.sure) among))
