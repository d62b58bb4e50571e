-- What the unit may make of a packet, by the TCI that stands in it alone.
use Rattle.std.proofs.Common.{◌≡◌, ◌≢◌, ℕ, Bool, true, false, List, Option, Some, None, Result, Ok, Err, ◌⊎◌, inl, inr, refl, ap, ◌∙◌, arith}
use Rattle.omci_types.specs.declared.Frame.{Frame}
use Rattle.message_spec.specs.declared.Message.{Message}
use Rattle.message_spec.specs.declared.Message.TheVariants.{Asked, Answered, Told}
use Rattle.message_spec.specs.declared.Request.{Request}
use Rattle.message_spec.specs.declared.Request.TheVariants as request
use Rattle.message_spec.specs.declared.ContentsFault.{ContentsFault}
use Rattle.message_spec.specs.declared.ContentsFault.TheVariants.{UnknownType, Bits}
use Rattle.message_spec.specs.Reading.{plain, message_of}
use Rattle.frame_spec.specs.Baseline.{fault_of, packet_frame}
use Rattle.message_spec.specs.declared.Notice.{Notice}
use Rattle.omci_types.specs.declared.EntityId.{EntityId}
use Rattle.mib_spec.specs.Database.{Database}
use Rattle.mib_spec.specs.Requests.{sense_outcome}
use Rattle.mib_spec.specs.declared.Sensed.{Sensed}
use Rattle.mib_spec.specs.declared.Sensed.TheVariants as sensed
use Rattle.alarm_spec.specs.Log.{change}
use Rattle.unit_spec.specs.declared.Noticed.TheVariants as noticed
use Rattle.unit_spec.specs.Noticing.{Noticing, notice_packet, notice_unless_leaving, sensed_as, onu_sensed, told_by, alarm_if, may_alarm, onu_alarmed}
use Rattle.tci_spec.specs.Tci.{packet_tci}
use Rattle.omci_types.specs.declared.Boot.{Boot}
use Rattle.store_spec.specs.declared.Handled.{Handled}
use Rattle.store_spec.specs.declared.Handled.TheVariants as handled
use Rattle.store_spec.specs.Deeds.{Deed, Ignore, Refuse, RefuseWindow, GiveUp, Begin, Hold, Put, Seal, Activate, Commit, Recommit}
use Rattle.store_spec.specs.Effects.{handled_by}
use Rattle.unit_spec.specs.declared.Did.TheVariants as did
use Rattle.unit_spec.specs.Images.{quiet_did}
use Rattle.unit_spec.specs.Onu.{Onu, Reception, Answer, answer, image_deed, image_handled, not_supported, take_request, drop_packet, asks_nothing, hold_section, hold_unless_kept, unless_leaving, take_section, unless_quiet, has_request_bits, if_request, for_message, for_frame, onu_received}
use Rattle.retry_spec.specs.Kept.{kept_for}
use Rattle.world_laws.proofs.Tcis.{tci_spelled}
use Rattle.world_laws.proofs.Reading.{tci_read, noise_read}

-- a packet with this TCI is taken as a request, whose answer has the same TCI
pub record IsAsked (tci : ℕ) (u : Onu) (r : Reception) : Type 0 where
  pub frame : Frame
  pub answer : Answer
  pub same : frame.tci ≡ tci
  pub reply : answer.reply.tci ≡ tci
  pub kept : answer.unit.kept ≡ u.kept
  pub is : r ≡ take_request frame answer u

-- every answer has its request's TCI
answer_tci : (f : Frame) (r : Request) (u : Onu) → (answer false f r u).reply.tci ≡ f.tci
unfolding answer plain
answer_tci f (request.Create values) u = refl
answer_tci f _ u = refl

-- and leaves the kept replies alone
answer_kept : (f : Frame) (r : Request) (u : Onu) → (answer false f r u).unit.kept ≡ u.kept
unfolding answer
answer_kept f (request.Create values) u = refl
answer_kept f _ u = refl

-- the packet is dropped, or is a section that is held: no reply is given, and the kept ones stay
pub record IsSilent (u : Onu) (r : Reception) : Type 0 where
  pub kept : r.unit.kept ≡ u.kept
  pub did_is : (r.did ≡ did.Dropped) ⊎ (r.did ≡ did.Held)

drops : (u : Onu) → IsSilent u (drop_packet u)
drops u = record { kept = refl; did_is = inl refl }

quiet_is : (h : Handled) → (quiet_did h ≡ did.Dropped) ⊎ (quiet_did h ≡ did.Held)
quiet_is handled.Held = inr refl
quiet_is handled.Dropped = inl refl
quiet_is (handled.Answered code grows leaves) = inl refl

holds : (d : Deed) (slot : ℕ) (u : Onu) → IsSilent u (hold_section false d slot u)
holds d slot u = record { kept = refl; did_is = quiet_is (handled_by false d) }

silent_unless : (leaving : Option Boot) (r : Reception) (u : Onu) → IsSilent u r
    → IsSilent u (unless_leaving leaving r u)
silent_unless None r u s = s
silent_unless (Some boot) r u s = drops u

held_by : (kept : Option (List ℕ)) (d : Deed) (slot : ℕ) (u : Onu)
    → IsSilent u (hold_unless_kept kept false d slot u)
held_by (Some reply) d slot u = drops u
held_by None d slot u = silent_unless u.leaving (hold_section false d slot u) u (holds d slot u)

section_is : (f : Frame) (r : Request) (u : Onu) → IsSilent u (take_section false f r u)
unfolding take_section
section_is f r u = held_by (kept_for f.tci u.kept) (image_deed f r u) f.entity.instance u

unless_quiet_is : (quiet : Bool) (f : Frame) (r : Request) (u : Onu) (tci : ℕ) → f.tci ≡ tci
    → IsSilent u (unless_quiet quiet false f r u) ⊎ IsAsked tci u (unless_quiet quiet false f r u)
unless_quiet_is true f r u tci e = inl (section_is f r u)
unless_quiet_is false f r u tci e = inr (record {
  frame = f;
  answer = answer false f r u;
  same = e;
  reply = answer_tci f r u ∙ e;
  kept = answer_kept f r u;
  is = refl;
})

if_request_is : (bits : Bool) (f : Frame) (u : Onu) (tci : ℕ) → f.tci ≡ tci
    → IsSilent u (if_request bits f u) ⊎ IsAsked tci u (if_request bits f u)
if_request_is true f u tci e = inr (record {
  frame = f;
  answer = not_supported f u;
  same = e;
  reply = e;
  kept = refl;
  is = refl;
})
if_request_is false f u tci e = inl (drops u)

for_message_is : (m : Result Message ContentsFault) (f : Frame) (u : Onu) (tci : ℕ) → f.tci ≡ tci
    → IsSilent u (for_message false m f u) ⊎ IsAsked tci u (for_message false m f u)
for_message_is (Ok (Asked t entity r)) f u tci e = unless_quiet_is (asks_nothing r) f r u tci e
for_message_is (Ok (Answered t entity r)) f u tci e = inl (drops u)
for_message_is (Ok (Told t entity notice)) f u tci e = inl (drops u)
for_message_is (Err (UnknownType number)) f u tci e = if_request_is (has_request_bits f.kind) f u
    tci e
for_message_is (Err (Bits kind)) f u tci e = inl (drops u)

for_frame_is : (o : Option Frame) (bytes : List ℕ) (u : Onu) → packet_frame bytes ≡ o
    → IsSilent u (for_frame false o u) ⊎ IsAsked (packet_tci bytes) u (for_frame false o u)
for_frame_is None bytes u e = inl (drops u)
for_frame_is (Some f) bytes u e = for_message_is (message_of f) f u (packet_tci bytes)
    (tci_read bytes f e)

-- a packet is dropped, is held, or is a request with its TCI
pub reception_is : (bytes : List ℕ) (u : Onu)
    → IsSilent u (onu_received false bytes u)
    ⊎ IsAsked (packet_tci bytes) u (onu_received false bytes u)
unfolding onu_received
reception_is bytes u = for_frame_is (packet_frame bytes) bytes u refl

-- noise is dropped
pub noise_received : (bytes : List ℕ) (u : Onu) → fault_of bytes ≢ None
    → onu_received false bytes u ≡ drop_packet u
unfolding onu_received
noise_received bytes u h = ap (λ o. for_frame false o u) (noise_read bytes h)

-- ---- what the unit notices by itself

-- it leaves the kept replies alone, and its notice has the TCI 0
pub record IsNoticing (u : Onu) (n : Noticing) : Type 0 where
  pub kept : n.unit.kept ≡ u.kept
  pub tci : n.noticed ≡ noticed.Sent → packet_tci n.packet ≡ 0

notice_tci : (one : EntityId) (notice : Notice) → packet_tci (notice_packet one notice) ≡ 0
unfolding plain
notice_tci one notice = tci_spelled (plain (Told 0 one notice)) (omega arith)

sensed_by : (o : Sensed) (one : EntityId) (number : ℕ) (value : List ℕ) (db : Database) (u : Onu)
    → IsNoticing u (sensed_as o one number value db u)
sensed_by sensed.NotAllowed one number value db u =
    record { kept = refl; tci = λ e. absurd (cc) }
sensed_by sensed.Same one number value db u = record { kept = refl; tci = λ e. absurd (cc) }
sensed_by sensed.Changed one number value db u =
    record { kept = refl; tci = λ e. notice_tci one _ }

unless_leaves : (leaving : Option Boot) (n : Noticing) (u : Onu) → IsNoticing u n
    → IsNoticing u (notice_unless_leaving leaving n u)
unless_leaves None n u k = k
unless_leaves (Some boot) n u k = record { kept = refl; tci = λ e. absurd (cc) }

pub sensed_is : (one : EntityId) (number : ℕ) (value : List ℕ) (u : Onu)
    → IsNoticing u (onu_sensed one number value u)
unfolding onu_sensed
sensed_is one number value u =
    let o = sense_outcome one number value u.database in
    unless_leaves u.leaving _ u (sensed_by o.0 one number value o.1 u)

told_is : (o : Option Notice) (one : EntityId) (u v : Onu) → v.kept ≡ u.kept
    → IsNoticing u (told_by o one v)
told_is None one u v e = record { kept = e; tci = λ f. absurd (cc) }
told_is (Some notice) one u v e = record { kept = e; tci = λ f. notice_tci one notice }

alarmed_by : (b : Bool) (one : EntityId) (bitmap : List ℕ) (u : Onu)
    → IsNoticing u (alarm_if b one bitmap u)
alarmed_by false one bitmap u = record { kept = refl; tci = λ e. absurd (cc) }
alarmed_by true one bitmap u =
    let c = change one bitmap u.log in told_is c.notice one u (record u { log = c.log }) refl

pub alarmed_is : (one : EntityId) (bitmap : List ℕ) (u : Onu)
    → IsNoticing u (onu_alarmed one bitmap u)
unfolding onu_alarmed
alarmed_is one bitmap u =
    unless_leaves u.leaving _ u (alarmed_by (may_alarm one u.database) one bitmap u)
