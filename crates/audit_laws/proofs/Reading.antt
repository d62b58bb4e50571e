-- What an end reads of an audit's packet that the other made.
use Rattle.std.proofs.Common.{false}
use Rattle.std.proofs.Common.{◌≡◌, ℕ, ◌+◌, ◌<◌, ◌^◌, true, List, [], ◌++◌, length, take, drop, replicate, Some, None, Ok, refl, sym, ap, subst, ◌∙◌}
use Rattle.std.proofs.lemmas.Bool.{false≢true}
use Rattle.std.proofs.lemmas.List.{take_at, append-nil}
use Rattle.std.proofs.lemmas.Nat.{from_be_bytes-to_be_bytes_2}
use Rattle.std.specs.Int.{from_be_bytes, w16}
use Rattle.omci_types.specs.declared.EntityId.{EntityId}
use Rattle.omci_types.specs.declared.Frame.{Frame}
use Rattle.frame_spec.specs.Baseline.{spelling, packet_frame}
use Rattle.message_spec.specs.declared.Message.TheVariants.{Asked, Answered}
use Rattle.message_spec.specs.declared.Request.{Request}
use Rattle.message_spec.specs.declared.Request.TheVariants as request
use Rattle.message_spec.specs.declared.Response.TheVariants as response
use Rattle.message_spec.specs.declared.Action.TheVariants as action
use Rattle.message_spec.specs.declared.Kind.TheVariants as kinds
use Rattle.message_spec.specs.Fields.{put, padding}
use Rattle.message_spec.specs.Types.{type_numbered, kind_of}
use Rattle.message_spec.specs.Reading.{plain, message_of}
use Rattle.manager_spec.specs.Steps.{response_in, response_of}
use Rattle.unit_spec.specs.Images.{reboot_code}
use Rattle.unit_spec.specs.Onu.{Onu, Reception, Answer, image_deed, answer, get_alarms, alarms_next}
use Rattle.resync_laws.proofs.Reading.{IsReadOf, read_of, message_read, is_plain, plain_asked}
use Rattle.resync_laws.proofs.Unit.{IsQuietNote, quiet_deed, quiet_reboot, Carries, same_asked}

-- ---- responses

pub alarms_read : (h : Frame) (tci : ℕ) (entity : EntityId) (count : ℕ) (g : Frame)
    → h ≡ plain (Answered tci entity (response.Alarms count)) → count < 2 ^ 16
    → packet_frame (spelling h) ≡ Some g → response_of g ≡ Some (response.Alarms count)
unfolding response_of plain kind_of type_numbered put padding
alarms_read h tci entity count g is small e =
    let m : Frame = plain (Answered tci entity (response.Alarms count)) in
    let r : IsReadOf m g = subst (λ x. IsReadOf x g) is (read_of h g e) in
    ap response_in (message_read m g r (kinds.Response action.Alarms) refl)
    ∙ ap (λ (c : List ℕ). Some (response.Alarms (from_be_bytes w16 (take 2 c)))) (r.contents refl)
    ∙ ap (λ n. Some (response.Alarms n)) (from_be_bytes-to_be_bytes_2 count small)

pub row_read : (h : Frame) (tci : ℕ) (entity : EntityId) (row : List ℕ) (g : Frame)
    → h ≡ plain (Answered tci entity (response.AlarmsNext row)) → length row ≡ 32
    → packet_frame (spelling h) ≡ Some g → response_of g ≡ Some (response.AlarmsNext row)
unfolding response_of plain kind_of type_numbered put padding
row_read h tci entity row g is len e =
    let m : Frame = plain (Answered tci entity (response.AlarmsNext row)) in
    let r : IsReadOf m g = subst (λ x. IsReadOf x g) is (read_of h g e) in
    let whole : m.contents ≡ row =
    ap (λ n. row ++ drop (0 + n) (replicate 32 0)) len ∙ append-nil row in
    ap response_in (message_read m g r (kinds.Response action.AlarmsNext) refl)
    ∙ ap (λ (c : List ℕ). Some (response.AlarmsNext (take 32 c)))
    (r.contents (ap length whole ∙ len) ∙ whole)
    ∙ ap (λ (c : List ℕ). Some (response.AlarmsNext c))
    (ap (take 32) (sym (append-nil row)) ∙ take_at row [] 32 len)

-- ---- requests

-- whatever mode is read
pub record IsAlarmsAsked (g : Frame) : Type 0 where
  pub mode : ℕ
  pub is : message_of g ≡ Ok (Asked g.tci g.entity (request.Alarms mode))

alarms_asked : (tci : ℕ) (entity : EntityId) (mode : ℕ) (g : Frame)
    → packet_frame (spelling (plain (Asked tci entity (request.Alarms mode)))) ≡ Some g
    → IsAlarmsAsked g
unfolding plain kind_of type_numbered
alarms_asked tci entity mode g e =
    let m : Frame = plain (Asked tci entity (request.Alarms mode)) in
    record { mode = _; is = message_read m g (read_of m g e) (kinds.Request action.Alarms) refl }

row_asked : (tci : ℕ) (entity : EntityId) (number : ℕ) (g : Frame) → number < 2 ^ 16
    → packet_frame (spelling (plain (Asked tci entity (request.AlarmsNext number)))) ≡ Some g
    → message_of g ≡ Ok (Asked g.tci g.entity (request.AlarmsNext number))
unfolding plain kind_of type_numbered put padding
row_asked tci entity number g small e =
    let m : Frame = plain (Asked tci entity (request.AlarmsNext number)) in
    let r = read_of m g e in
    message_read m g r (kinds.Request action.AlarmsNext) refl
    ∙ ap (λ (c : List ℕ). Ok (Asked g.tci g.entity
    (request.AlarmsNext (from_be_bytes w16 (take 2 c))))) (r.contents refl)
    ∙ ap (λ n. Ok (Asked g.tci g.entity (request.AlarmsNext n)))
    (from_be_bytes-to_be_bytes_2 number small)

-- ---- what the unit answers to them

pub carries_alarms : (tci : ℕ) (entity : EntityId) (mode : ℕ) (bytes : List ℕ) (u : Onu)
    (r : Reception) → bytes ≡ spelling (plain (Asked tci entity (request.Alarms mode)))
    → (c : Carries bytes u r) → c.answer ≡ get_alarms c.frame u
unfolding answer
carries_alarms tci entity mode bytes u r made c =
    let a = alarms_asked tci entity mode c.frame (ap packet_frame (sym made) ∙ c.read) in
    same_asked c.frame u c.answer c.frame.tci c.frame.entity (request.Alarms a.mode) a.is c.from

pub carries_row : (tci : ℕ) (entity : EntityId) (number : ℕ) (bytes : List ℕ) (u : Onu)
    (r : Reception) → bytes ≡ spelling (plain (Asked tci entity (request.AlarmsNext number)))
    → number < 2 ^ 16 → (c : Carries bytes u r) → c.answer ≡ alarms_next c.frame number u
unfolding answer
carries_row tci entity number bytes u r made small c =
    same_asked c.frame u c.answer c.frame.tci c.frame.entity (request.AlarmsNext number)
    (row_asked tci entity number c.frame small (ap packet_frame (sym made) ∙ c.read)) c.from

-- a caller's request leaves alone the alarms that were put by
pub record IsAside (u : Onu) (a : Answer) : Type 0 where
  pub alarms : a.unit.alarm_snapshot ≡ u.alarm_snapshot
  pub note : IsQuietNote a.note

plain_aside : (f : Frame) (r : Request) (u : Onu) → is_plain r ≡ true
    → IsAside u (answer false f r u)
unfolding answer
plain_aside f (request.Create values) u p = record { alarms = refl; note = tt }
plain_aside f request.Delete u p = record { alarms = refl; note = tt }
plain_aside f (request.Set mask values) u p = record { alarms = refl; note = tt }
plain_aside f (request.Get mask) u p = record { alarms = refl; note = tt }
plain_aside f request.Reset u p = record { alarms = refl; note = tt }
plain_aside f (request.Alarms mode) u p = absurd (false≢true p)
plain_aside f (request.AlarmsNext number) u p = absurd (false≢true p)
plain_aside f request.Upload u p = absurd (false≢true p)
plain_aside f (request.UploadNext number) u p = absurd (false≢true p)
plain_aside f (request.Start window size targets target) u p = absurd (false≢true p)
plain_aside f (request.Section number bytes last) u p = absurd (false≢true p)
plain_aside f (request.End crc size targets target) u p = absurd (false≢true p)
plain_aside f (request.Activate flags) u p =
    record { alarms = refl; note = quiet_deed (image_deed f (request.Activate flags) u) f.entity.instance }
plain_aside f request.Commit u p =
    record { alarms = refl; note = quiet_deed (image_deed f request.Commit u) f.entity.instance }
plain_aside f (request.Reboot flags) u p =
    record { alarms = refl; note = quiet_reboot (reboot_code f.entity) }

pub carries_aside : (tci : ℕ) (entity : EntityId) (q : Request) (bytes : List ℕ) (u : Onu)
    (r : Reception) → bytes ≡ spelling (plain (Asked tci entity q)) → is_plain q ≡ true
    → (c : Carries bytes u r) → IsAside u c.answer
carries_aside tci entity q bytes u r made p c =
    let g = plain_asked tci entity q c.frame p (ap packet_frame (sym made) ∙ c.read) in
    subst (IsAside u)
    (sym (same_asked c.frame u c.answer c.frame.tci c.frame.entity g.asked g.is c.from))
    (plain_aside c.frame g.asked u g.plainly)
