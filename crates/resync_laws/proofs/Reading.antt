-- What an end reads of a packet that the other made.
use Rattle.std.proofs.Common.{◌≡◌, ◌≢◌, ℕ, ◌+◌, ◌<◌, ◌^◌, Bool, true, false, cond, List, [], ◌++◌, length, take, drop, replicate, Option, Some, None, Ok, refl, sym, ap, subst, ◌∙◌, arith, append_assoc, ◌==◌, length-drop}
use Rattle.std.proofs.lemmas.Option.{same_Some}
use Rattle.std.proofs.lemmas.Bool.{eqb-true, false≢true}
use Rattle.std.proofs.lemmas.List.{take_at, append-nil, length-take-le}
use Rattle.std.proofs.lemmas.Nat.{from_be_bytes-to_be_bytes_2}
use Rattle.std.specs.Int.{from_be_bytes, to_be_bytes, w16, w32}
use Rattle.omci_types.specs.declared.EntityId.{EntityId}
use Rattle.omci_types.specs.declared.Frame.{Frame}
use Rattle.tci_spec.specs.Tci.{packet_tci}
use Rattle.frame_spec.specs.declared.FrameFault.{FrameFault}
use Rattle.frame_spec.specs.declared.TheConstants.{BASELINE_TRAILER}
use Rattle.frame_spec.specs.Checksum.{crc}
use Rattle.frame_spec.specs.Baseline.{checked_bytes, spelling, number_at, frame_of, fault_of, frame_unless, packet_frame}
use Rattle.message_spec.specs.declared.Message.TheVariants.{Asked, Answered}
use Rattle.message_spec.specs.declared.Request.{Request}
use Rattle.message_spec.specs.declared.Request.TheVariants as request
use Rattle.message_spec.specs.declared.Response.TheVariants as response
use Rattle.message_spec.specs.declared.Action.TheVariants as action
use Rattle.message_spec.specs.declared.Kind.{Kind}
use Rattle.message_spec.specs.declared.Kind.TheVariants as kinds
use Rattle.message_spec.specs.Fields.{values_at, put, padding}
use Rattle.message_spec.specs.Types.{type_numbered, kind_of, layout}
use Rattle.message_spec.specs.Reading.{plain, message_of, message_typed, message_with}
use Rattle.manager_spec.specs.Steps.{response_in, response_of}

-- ---- frames

-- a packet that is one frame has 48 bytes
pub record IsOneFrame (bytes : List ℕ) (f : Frame) : Type 0 where
  pub is : f ≡ frame_of bytes
  pub len : length bytes ≡ 48

whole_frame : (b : Bool) (bytes : List ℕ) (f : Frame) → (length bytes == 48) ≡ b
    → cond b (Some (frame_of bytes)) None ≡ Some f → IsOneFrame bytes f
whole_frame true bytes f t e =
    record { is = sym (same_Some (frame_of bytes) f e); len = eqb-true (length bytes) 48 t }
whole_frame false bytes f t e = absurd (cc)

unless_frame : (fault : Option FrameFault) (bytes : List ℕ) (f : Frame)
    → frame_unless fault bytes ≡ Some f → IsOneFrame bytes f
unfolding frame_unless
unless_frame None bytes f e = whole_frame (length bytes == 48) bytes f refl e
unless_frame (Some fault) bytes f e = absurd (cc)

pub frame_is : (bytes : List ℕ) (f : Frame) → packet_frame bytes ≡ Some f → IsOneFrame bytes f
unfolding packet_frame
frame_is bytes f e = unless_frame (fault_of bytes) bytes f e

no_frame : (fault : Option FrameFault) (bytes : List ℕ) → fault ≢ None
    → frame_unless fault bytes ≡ None
unfolding frame_unless
no_frame None bytes h = absurd (h refl)
no_frame (Some fault) bytes h = refl

-- bytes with a fault are no frame
pub noise_read : (bytes : List ℕ) → fault_of bytes ≢ None → packet_frame bytes ≡ None
unfolding packet_frame
noise_read bytes h = no_frame (fault_of bytes) bytes h

tci_of_frame : (bytes : List ℕ) → (frame_of bytes).tci ≡ packet_tci bytes
unfolding frame_of number_at
tci_of_frame bytes = refl

pub tci_read : (bytes : List ℕ) (f : Frame) → packet_frame bytes ≡ Some f
    → f.tci ≡ packet_tci bytes
tci_read bytes f e = ap (λ (g : Frame). g.tci) (frame_is bytes f e).is ∙ tci_of_frame bytes

pub contents_long : (bytes : List ℕ) (f : Frame) → IsOneFrame bytes f → length f.contents ≡ 32
unfolding frame_of
contents_long bytes f h =
    ap (λ (g : Frame). length g.contents) h.is
    ∙ length-take-le 32 (drop 8 bytes) (let l = h.len in rw length-drop (omega (arith, l)))

-- what is spelled is read
kind_read : (h : Frame) → (frame_of (spelling h)).kind ≡ h.kind
unfolding frame_of spelling checked_bytes
kind_read h = refl

instance_read : (h : Frame) → (frame_of (spelling h)).entity.instance < 2 ^ 16
unfolding frame_of spelling checked_bytes number_at
instance_read h = omega arith

contents_read : (h : Frame) → length h.contents ≡ 32 → (frame_of (spelling h)).contents ≡ h.contents
unfolding frame_of spelling checked_bytes
contents_read h len =
    let check : List ℕ = to_be_bytes w32 (crc (checked_bytes h)) in
    ap (take 32) (append_assoc h.contents BASELINE_TRAILER check)
    ∙ take_at h.contents (BASELINE_TRAILER ++ check) 32 len

-- the frame of a packet that spells one
pub record IsReadOf (h g : Frame) : Type 0 where
  pub kind : g.kind ≡ h.kind
  pub contents : length h.contents ≡ 32 → g.contents ≡ h.contents
  pub long : length g.contents ≡ 32
  pub instance : g.entity.instance < 2 ^ 16

pub read_of : (h g : Frame) → packet_frame (spelling h) ≡ Some g → IsReadOf h g
read_of h g e =
    let one = frame_is (spelling h) g e in
    record {
      kind = ap (λ (f : Frame). f.kind) one.is ∙ kind_read h;
      contents = λ len. ap (λ (f : Frame). f.contents) one.is ∙ contents_read h len;
      long = contents_long (spelling h) g one;
      instance = subst (λ (f : Frame). f.entity.instance < 2 ^ 16) (sym one.is) (instance_read h);
    }

-- ---- messages

pub message_read : (h g : Frame) → IsReadOf h g → (k : Kind) → kind_of h.kind ≡ Ok k
    → message_of g ≡ Ok (message_with k g.tci g.entity (values_at (layout k) g.contents))
unfolding message_of
message_read h g r k e = ap (λ n. message_typed g (kind_of n)) r.kind ∙ ap (message_typed g) e

-- the responses of an upload
pub upload_read : (h : Frame) (tci : ℕ) (entity : EntityId) (count : ℕ) (g : Frame)
    → h ≡ plain (Answered tci entity (response.Upload count)) → count < 2 ^ 16
    → packet_frame (spelling h) ≡ Some g → response_of g ≡ Some (response.Upload count)
unfolding response_of plain kind_of type_numbered put padding
upload_read h tci entity count g is small e =
    let m : Frame = plain (Answered tci entity (response.Upload count)) in
    let r : IsReadOf m g = subst (λ x. IsReadOf x g) is (read_of h g e) in
    ap response_in (message_read m g r (kinds.Response action.Upload) refl)
    ∙ ap (λ (c : List ℕ). Some (response.Upload (from_be_bytes w16 (take 2 c)))) (r.contents refl)
    ∙ ap (λ n. Some (response.Upload n)) (from_be_bytes-to_be_bytes_2 count small)

pub next_read : (h : Frame) (tci : ℕ) (entity : EntityId) (piece : List ℕ) (g : Frame)
    → h ≡ plain (Answered tci entity (response.UploadNext piece)) → length piece ≡ 32
    → packet_frame (spelling h) ≡ Some g → response_of g ≡ Some (response.UploadNext piece)
unfolding response_of plain kind_of type_numbered put padding
next_read h tci entity piece g is len e =
    let m : Frame = plain (Answered tci entity (response.UploadNext piece)) in
    let r : IsReadOf m g = subst (λ x. IsReadOf x g) is (read_of h g e) in
    let whole : m.contents ≡ piece = ap (λ n. piece ++ drop (0 + n) (replicate 32 0)) len ∙ append-nil piece in
    ap response_in (message_read m g r (kinds.Response action.UploadNext) refl)
    ∙ ap (λ (c : List ℕ). Some (response.UploadNext (take 32 c))) (r.contents (ap length whole ∙ len) ∙ whole)
    ∙ ap (λ (c : List ℕ). Some (response.UploadNext c)) (ap (take 32) (sym (append-nil piece)) ∙ take_at piece [] 32 len)

-- the requests of an upload
pub upload_asked : (tci : ℕ) (entity : EntityId) (g : Frame)
    → packet_frame (spelling (plain (Asked tci entity request.Upload))) ≡ Some g
    → message_of g ≡ Ok (Asked g.tci g.entity request.Upload)
unfolding plain kind_of type_numbered
upload_asked tci entity g e =
    let m : Frame = plain (Asked tci entity request.Upload) in
    message_read m g (read_of m g e) (kinds.Request action.Upload) refl

pub next_asked : (tci : ℕ) (entity : EntityId) (number : ℕ) (g : Frame) → number < 2 ^ 16
    → packet_frame (spelling (plain (Asked tci entity (request.UploadNext number)))) ≡ Some g
    → message_of g ≡ Ok (Asked g.tci g.entity (request.UploadNext number))
unfolding plain kind_of type_numbered put padding
next_asked tci entity number g small e =
    let m : Frame = plain (Asked tci entity (request.UploadNext number)) in
    let r = read_of m g e in
    message_read m g r (kinds.Request action.UploadNext) refl
    ∙ ap (λ (c : List ℕ). Ok (Asked g.tci g.entity (request.UploadNext (from_be_bytes w16 (take 2 c))))) (r.contents refl)
    ∙ ap (λ n. Ok (Asked g.tci g.entity (request.UploadNext n))) (from_be_bytes-to_be_bytes_2 number small)

-- ---- requests that ask for no snapshot

-- whether a request is one of those that a caller submits
abbrev pub is_plain : Request → Bool
is_plain (request.Create values) = true
is_plain request.Delete = true
is_plain (request.Set mask values) = true
is_plain (request.Get mask) = true
is_plain request.Reset = true
is_plain (request.Alarms mode) = false
is_plain (request.AlarmsNext number) = false
is_plain request.Upload = false
is_plain (request.UploadNext number) = false
is_plain (request.Start window size targets target) = false
is_plain (request.Section number bytes last) = false
is_plain (request.End crc size targets target) = false
is_plain (request.Activate flags) = true
is_plain request.Commit = true
is_plain (request.Reboot flags) = true

-- a frame is read as such a request
pub record IsPlainly (g : Frame) : Type 0 where
  pub asked : Request
  pub is : message_of g ≡ Ok (Asked g.tci g.entity asked)
  pub plainly : is_plain asked ≡ true

pub plain_asked : (tci : ℕ) (entity : EntityId) (r : Request) (g : Frame) → is_plain r ≡ true
    → packet_frame (spelling (plain (Asked tci entity r))) ≡ Some g → IsPlainly g
unfolding plain kind_of type_numbered
plain_asked tci entity (request.Create values) g p e =
    record { asked = _; is = message_read _ g (read_of _ g e) (kinds.Request action.Create) refl; plainly = refl }
plain_asked tci entity request.Delete g p e =
    record { asked = _; is = message_read _ g (read_of _ g e) (kinds.Request action.Delete) refl; plainly = refl }
plain_asked tci entity (request.Set mask values) g p e =
    record { asked = _; is = message_read _ g (read_of _ g e) (kinds.Request action.Set) refl; plainly = refl }
plain_asked tci entity (request.Get mask) g p e =
    record { asked = _; is = message_read _ g (read_of _ g e) (kinds.Request action.Get) refl; plainly = refl }
plain_asked tci entity request.Reset g p e =
    record { asked = _; is = message_read _ g (read_of _ g e) (kinds.Request action.Reset) refl; plainly = refl }
plain_asked tci entity (request.Alarms mode) g p e = absurd (false≢true p)
plain_asked tci entity (request.AlarmsNext number) g p e = absurd (false≢true p)
plain_asked tci entity request.Upload g p e = absurd (false≢true p)
plain_asked tci entity (request.UploadNext number) g p e = absurd (false≢true p)
plain_asked tci entity (request.Start window size targets target) g p e = absurd (false≢true p)
plain_asked tci entity (request.Section number bytes last) g p e = absurd (false≢true p)
plain_asked tci entity (request.End crc size targets target) g p e = absurd (false≢true p)
plain_asked tci entity (request.Activate flags) g p e =
    record { asked = _; is = message_read _ g (read_of _ g e) (kinds.Request action.Activate) refl; plainly = refl }
plain_asked tci entity request.Commit g p e =
    record { asked = _; is = message_read _ g (read_of _ g e) (kinds.Request action.Commit) refl; plainly = refl }
plain_asked tci entity (request.Reboot flags) g p e =
    record { asked = _; is = message_read _ g (read_of _ g e) (kinds.Request action.Reboot) refl; plainly = refl }
