-- What the unit reads of a command's packet, and the manager of a change's reply.
use Rattle.std.proofs.Common.{◌≡◌, ℕ, zero, suc, ◌-◌, ◌<◌, ◌≤◌, ◌^◌, Bool, true, false, List, []}
use Rattle.std.proofs.Common.{◌∷◌, ◌++◌, length, replicate, eqb, ◌||◌, Option, Some, Result, Ok, refl, sym, ap, subst}
use Rattle.std.proofs.Common.{◌∙◌, ◌+◌, arith, slice_index, length-append, ◌⊎◌, inl, inr, ⊎_elim}
use Rattle.std.proofs.lemmas.Bool.{and_parts, false≢true, eqb-true}
use Rattle.std.specs.Prelude.{slice_index_or}
use Rattle.std.specs.List.{Contains}
use Rattle.std.proofs.lemmas.Option.{same_Some}
use Rattle.std.proofs.lemmas.List.{length-replicate}
use Rattle.omci_types.specs.declared.EntityId.{EntityId}
use Rattle.omci_types.specs.declared.Frame.{Frame}
use Rattle.frame_spec.specs.Baseline.{IsBytes, IsFrame, spelling, packet_frame}
use Rattle.frame_spec.specs.Widths.{filled}
use Rattle.frame_laws.proofs.Reading.{packet_frame-spelling}
use Rattle.message_spec.specs.declared.Message.{Message}
use Rattle.message_spec.specs.declared.Message.TheVariants.{Asked}
use Rattle.message_spec.specs.declared.Request.{Request}
use Rattle.message_spec.specs.declared.Request.TheVariants as request
use Rattle.message_spec.specs.declared.Response.{Response}
use Rattle.message_spec.specs.declared.Response.TheVariants as response
use Rattle.message_spec.specs.declared.Action.TheVariants as action
use Rattle.message_spec.specs.declared.ContentsFault.{ContentsFault}
use Rattle.message_spec.specs.declared.Kind.{Kind}
use Rattle.message_spec.specs.declared.Kind.TheVariants as kinds
use Rattle.message_spec.specs.Fields.{values_at, put, padding}
use Rattle.message_spec.specs.Types.{type_numbered, kind_of, layout}
use Rattle.message_spec.specs.Reading.{plain, message_of, message_typed, message_with, IsMessage}
use Rattle.message_spec.specs.Reading.{IsFrameInRange}
use Rattle.message_laws.proofs.Reading.{written_is_read, plain_in_range}
use Rattle.lane_spec.specs.Command.{Command, command_frame, section_packet, with_sections, command_packets}
use Rattle.lane_spec.specs.Command.{is_changing, is_probe, is_response, answers}
use Rattle.lane_spec.specs.declared.Purpose.TheVariants as purpose
use Rattle.omci_types.specs.declared.Code.{Code}
use Rattle.manager_spec.specs.Steps.{response_in, response_of, code_of}
use Rattle.unit_spec.specs.Onu.{response_frame, code}
use Rattle.resync_laws.proofs.Reading.{IsReadOf, read_of}

-- ---- packets that ask for a change

-- the packet is read as a request that changes what the unit holds
pub record Changes (bytes : List ℕ) : Type 0 where
  pub frame : Frame
  pub tci : ℕ
  pub entity : EntityId
  pub request : Request
  pub read : packet_frame bytes ≡ Some frame
  pub is : message_of frame ≡ Ok (Asked tci entity request)
  pub changing : is_changing request ≡ true

-- the frame is read as a request, which changes something or doesn't
record AsksLike (g : Frame) (changing : Bool) : Type 0 where
  asked : Request
  is : message_of g ≡ Ok (Asked g.tci g.entity asked)
  same : is_changing asked ≡ changing

pub message_read : (h g : Frame) → IsReadOf h g → (k : Kind) → kind_of h.kind ≡ Ok k
    → message_of g ≡ Ok (message_with k g.tci g.entity (values_at (layout k) g.contents))
unfolding message_of
message_read h g r k e = ap (λ n. message_typed g (kind_of n)) r.kind ∙ ap (message_typed g) e

asks_like : (tci : ℕ) (entity : EntityId) (q : Request) (g : Frame)
    → packet_frame (spelling (plain (Asked tci entity q))) ≡ Some g → AsksLike g (is_changing q)
unfolding plain kind_of type_numbered
asks_like tci entity (request.Section number bytes true) g e =
    record { asked = _; is = message_read _ g (read_of _ g e) _ refl; same = refl }
asks_like tci entity (request.Section number bytes false) g e =
    record { asked = _; is = message_read _ g (read_of _ g e) _ refl; same = refl }
asks_like tci entity _ g e =
    record { asked = _; is = message_read _ g (read_of _ g e) _ refl; same = refl }

pub asked_of : Message → Request
asked_of (Asked tci entity r) = r
asked_of _ = request.Reset

same_request : (tci tci' : ℕ) (entity entity' : EntityId) (q r : Request) (f : Frame)
    → message_of f ≡ Ok (Asked tci entity q) → message_of f ≡ Ok (Asked tci' entity' r) → q ≡ r
unfolding asked_of
same_request tci tci' entity entity' q r f a b =
    ap asked_of (same_Ok (Asked tci entity q) (Asked tci' entity' r) (sym a ∙ b))
  where
    same_Ok : (x y : Message) → ◌≡◌ {A = Result Message ContentsFault} (Ok x) (Ok y) → x ≡ y
    same_Ok x y e = cc

spelled : (tci : ℕ) (c : Command)
    → spelling (command_frame tci c) ≡ spelling (plain (Asked tci c.entity c.request))
unfolding command_frame
spelled tci c = refl

-- a command's packet asks for a change where the command does
pub changes_of : (tci : ℕ) (c : Command) → Changes (spelling (command_frame tci c))
    → is_changing c.request ≡ true
changes_of tci c h =
    let k = asks_like tci c.entity c.request h.frame
    (ap packet_frame (sym (spelled tci c)) ∙ h.read) in
    sym k.same ∙ ap is_changing (same_request _ _ _ _ k.asked h.request h.frame k.is h.is)
    ∙ h.changing

-- what is among one and more is the one, or among the others
pub among_or : (x : List ℕ) (xs : List (List ℕ)) (y : List ℕ) → Contains (x ∷ xs) y
    → (y ≡ x) ⊎ Contains xs y
among_or x xs y h = go h.0 h.1 h.2
  where
    go : (k : ℕ) → k < length (x ∷ xs) → slice_index_or (x ∷ xs) k y ≡ y
        → (y ≡ x) ⊎ Contains xs y
    go zero lt e = inl (sym e)
    go (suc k) lt e = inr (k, omega (arith, lt), e)

pub none_among : {A : Type 0} (y : List ℕ) → Contains [] y → A
none_among y h = let lt = h.1 in absurd (omega (arith, lt))

section_spelled : (tci : ℕ) (one : EntityId) (number : ℕ) (bytes : List ℕ)
    → section_packet tci one number bytes
    ≡ spelling (plain (Asked tci one (request.Section number bytes false)))
unfolding section_packet
section_spelled tci one number bytes = refl

-- a section that isn't its window's last asks for no change
section_mild : {A : Type 0} (tci : ℕ) (one : EntityId) (number : ℕ) (bytes : List ℕ)
    → Changes (section_packet tci one number bytes) → A
section_mild tci one number bytes h =
    let k = asks_like tci one (request.Section number bytes false) h.frame
    (ap packet_frame (sym (section_spelled tci one number bytes)) ∙ h.read) in
    absurd (false≢true (sym k.same
    ∙ ap is_changing (same_request _ _ _ _ k.asked h.request h.frame k.is h.is) ∙ h.changing))

sections_change : {A : Type 0} (tci : ℕ) (one : EntityId) (number : ℕ)
    (sections packets : List (List ℕ)) (bytes : List ℕ) → (Contains packets bytes → A)
    → Contains (with_sections tci one number sections packets) bytes → Changes bytes → A
sections_change tci one number [] packets bytes f h c = f h
sections_change tci one number (first ∷ rest) packets bytes f h c =
    ⊎_elim
    (λ (e : bytes ≡ section_packet tci one number first).
    section_mild tci one number first (subst Changes e c))
    (λ k. sections_change tci one (number + 1) rest packets bytes f k c)
    (among_or (section_packet tci one number first)
    (with_sections tci one (number + 1) rest packets) bytes h)

-- a packet of a command asks for a change where the command does
pub packets_change : (tci : ℕ) (c : Command) (bytes : List ℕ)
    → Contains (command_packets tci c) bytes → Changes bytes → is_changing c.request ≡ true
packets_change tci c bytes h ch =
    sections_change tci c.entity 0 c.earlier (spelling (command_frame tci c) ∷ []) bytes
    (λ k. ⊎_elim
    (λ (e : bytes ≡ spelling (command_frame tci c)). changes_of tci c (subst Changes e ch))
    (λ n. none_among bytes n) (among_or (spelling (command_frame tci c)) [] bytes k)) h ch

-- a command without earlier sections has one packet
pub only_packet : (tci : ℕ) (c : Command) (bytes : List ℕ) → c.earlier ≡ []
    → Contains (command_packets tci c) bytes → bytes ≡ spelling (command_frame tci c)
only_packet tci c bytes single h =
    ⊎_elim (λ (e : bytes ≡ spelling (command_frame tci c)). e) (λ n. none_among bytes n)
    (among_or (spelling (command_frame tci c)) [] bytes
    (subst (λ e. Contains (with_sections tci c.entity 0 e (spelling (command_frame tci c) ∷ [])) bytes)
    single h))

-- ---- requests of a download that count

-- a start is 1 and an end is 2
abbrev pub form : Request → ℕ
form (request.Start window size targets target) = 1
form (request.End check size targets target) = 2
form _ = 0

-- the frame is read as a request of that form
pub record AsksForm (g : Frame) (n : ℕ) : Type 0 where
  pub asked : Request
  pub is : message_of g ≡ Ok (Asked g.tci g.entity asked)
  pub same : form asked ≡ n

asks_form : (tci : ℕ) (entity : EntityId) (q : Request) (g : Frame)
    → packet_frame (spelling (plain (Asked tci entity q))) ≡ Some g → AsksForm g (form q)
unfolding plain kind_of type_numbered
asks_form tci entity (request.Section number bytes true) g e =
    record { asked = _; is = message_read _ g (read_of _ g e) _ refl; same = refl }
asks_form tci entity (request.Section number bytes false) g e =
    record { asked = _; is = message_read _ g (read_of _ g e) _ refl; same = refl }
asks_form tci entity _ g e =
    record { asked = _; is = message_read _ g (read_of _ g e) _ refl; same = refl }

pub command_form : (tci : ℕ) (c : Command) (f : Frame) (tci' : ℕ) (entity : EntityId) (q : Request)
    → packet_frame (spelling (command_frame tci c)) ≡ Some f
    → message_of f ≡ Ok (Asked tci' entity q) → form q ≡ form c.request
command_form tci c f tci' entity q e m =
    let k = asks_form tci c.entity c.request f (ap packet_frame (sym (spelled tci c)) ∙ e) in
    ap form (same_request tci' f.tci entity f.entity q k.asked f m k.is) ∙ k.same

-- what it reads as isn't of an unknown type
pub command_asked : (tci : ℕ) (c : Command) (f : Frame)
    → packet_frame (spelling (command_frame tci c)) ≡ Some f → AsksForm f (form c.request)
command_asked tci c f e =
    asks_form tci c.entity c.request f (ap packet_frame (sym (spelled tci c)) ∙ e)

-- ---- a message in its ranges is read as it was written

frame_of_range : (f : Frame) → IsFrameInRange f → IsFrame f
frame_of_range f h = record {
  tci_fits = h.tci;
  kind_fits = h.kind;
  class_fits = h.class;
  instance_fits = h.instance;
  contents_whole = h.len;
  contents_fit = h.bytes;
}

plain_frame_read : (m : Message) (f : Frame) → IsMessage m
    → packet_frame (spelling (plain m)) ≡ Some f
    → f ≡ plain m
plain_frame_read m f h e =
    same_Some f (plain m) (sym e ∙ packet_frame-spelling (plain m)
    (frame_of_range (plain m) (plain_in_range m h)))

-- the command's message is in its ranges
abbrev pub IsExact : ℕ → Command → Type 0
IsExact tci c = IsMessage (Asked tci c.entity c.request)

-- the frame of an exact command
pub record IsAsked (c : Command) (f : Frame) (tci : ℕ) : Type 0 where
  pub entity : f.entity ≡ c.entity
  pub is : message_of f ≡ Ok (Asked tci c.entity c.request)

pub exact_read : (tci : ℕ) (c : Command) (f : Frame) → IsExact tci c
    → packet_frame (spelling (command_frame tci c)) ≡ Some f → IsAsked c f tci
unfolding plain
exact_read tci c f h e =
    let m : Message = Asked tci c.entity c.request in
    let same = plain_frame_read m f h (ap packet_frame (sym (spelled tci c)) ∙ e) in
    record {
      entity = ap (λ (x : Frame). x.entity) same;
      is = ap message_of same ∙ written_is_read m h;
    }

pub exact_request : (tci : ℕ) (c : Command) (f : Frame) (tci' : ℕ) (entity : EntityId) (q : Request)
    → IsExact tci c → packet_frame (spelling (command_frame tci c)) ≡ Some f
    → message_of f ≡ Ok (Asked tci' entity q) → q ≡ c.request
exact_request tci c f tci' entity q h e m =
    let k = exact_read tci c f h e in same_request tci' tci entity c.entity q c.request f m k.is

-- ---- what a caller submits is exact

zeros_bytes : (n : ℕ) → IsBytes (replicate n 0)
zeros_bytes zero place = omega arith
zeros_bytes (suc n) zero = omega arith
zeros_bytes (suc n) (suc place) = zeros_bytes n place

filled_by : (n : ℕ) (values : List ℕ) → IsBytes values → IsBytes (values ++ replicate n 0)
filled_by n [] h place = zeros_bytes n place
filled_by n (v ∷ values) h zero = h 0
filled_by n (v ∷ values) h (suc place) = filled_by n values (λ i. h (suc i)) place

filled_bytes : (width : ℕ) (values : List ℕ) → IsBytes values → IsBytes (filled width values)
filled_bytes width values h = filled_by (width - length values) values h

filled_long : (width : ℕ) (values : List ℕ) → length values ≤ width
    → length (filled width values) ≡ width
filled_long width values h =
    let a = length-append values (replicate (width - length values) 0) in
    let b = length-replicate {A = ℕ} (width - length values) 0 in
    omega (arith, a, b, h)

-- an entity's numbers fit
pub record IsEntity (one : EntityId) : Type 0 where
  pub class : one.class < 2 ^ 16
  pub instance : one.instance < 2 ^ 16

pub create_exact : (tci : ℕ) (c : Command) (values : List ℕ)
    → c.request ≡ request.Create (filled 32 values)
    → tci < 2 ^ 16 → IsEntity c.entity → length values ≤ 32 → IsBytes values → IsExact tci c
create_exact tci c values is fits e few bytes =
    subst (λ r. IsMessage (Asked tci c.entity r)) (sym is) (record {
      tci = fits;
      class = e.class;
      instance = e.instance;
      values = ((filled_long 32 values few, filled_bytes 32 values bytes), tt);
    })

pub set_exact : (tci : ℕ) (c : Command) (mask : ℕ) (values : List ℕ)
    → c.request ≡ request.Set mask (filled 30 values) → tci < 2 ^ 16 → IsEntity c.entity
    → mask < 2 ^ 16 → length values ≤ 30 → IsBytes values → IsExact tci c
set_exact tci c mask values is fits e small few bytes =
    subst (λ r. IsMessage (Asked tci c.entity r)) (sym is) (record {
      tci = fits;
      class = e.class;
      instance = e.instance;
      values = (small, ((filled_long 30 values few, filled_bytes 30 values bytes), tt));
    })

pub delete_exact : (tci : ℕ) (c : Command) → c.request ≡ request.Delete → tci < 2 ^ 16
    → IsEntity c.entity → IsExact tci c
delete_exact tci c is fits e =
    subst (λ r. IsMessage (Asked tci c.entity r)) (sym is) (record {
      tci = fits;
      class = e.class;
      instance = e.instance;
      values = tt;
    })

pub commit_exact : (tci : ℕ) (c : Command) → c.request ≡ request.Commit → tci < 2 ^ 16
    → IsEntity c.entity → IsExact tci c
commit_exact tci c is fits e =
    subst (λ r. IsMessage (Asked tci c.entity r)) (sym is) (record {
      tci = fits;
      class = e.class;
      instance = e.instance;
      values = tt;
    })

pub activate_exact : (tci : ℕ) (c : Command) → c.request ≡ request.Activate 0 → tci < 2 ^ 16
    → IsEntity c.entity → IsExact tci c
activate_exact tci c is fits e =
    subst (λ r. IsMessage (Asked tci c.entity r)) (sym is) (record {
      tci = fits;
      class = e.class;
      instance = e.instance;
      values = (omega arith, tt);
    })

pub reboot_exact : (tci : ℕ) (c : Command) → c.request ≡ request.Reboot 0 → tci < 2 ^ 16
    → IsEntity c.entity → IsExact tci c
reboot_exact tci c is fits e =
    subst (λ r. IsMessage (Asked tci c.entity r)) (sym is) (record {
      tci = fits;
      class = e.class;
      instance = e.instance;
      values = (omega arith, tt);
    })

pub reset_exact : (tci : ℕ) (c : Command) → c.request ≡ request.Reset → tci < 2 ^ 16
    → IsEntity c.entity → IsExact tci c
reset_exact tci c is fits e =
    subst (λ r. IsMessage (Asked tci c.entity r)) (sym is) (record {
      tci = fits;
      class = e.class;
      instance = e.instance;
      values = tt;
    })

-- ---- the code of a change's reply

-- the frame is read as a response with this code
pub record HasCode (g : Frame) (n : ℕ) : Type 0 where
  pub response : Response
  pub is : response_of g ≡ Some response
  pub code : code_of response ≡ n

pub create_code : (f : Frame) (n : ℕ) (g : Frame)
    → packet_frame (spelling (response_frame f (response.Create (code n) 0))) ≡ Some g → HasCode g n
unfolding response_of plain kind_of type_numbered put padding
create_code f n g e =
    let m : Frame = response_frame f (response.Create (code n) 0) in
    let r : IsReadOf m g = read_of m g e in
    record {
      response = _;
      is = ap response_in (message_read m g r (kinds.Response action.Create) refl);
      code = ap (λ (c : List ℕ). slice_index c 0) (r.contents refl);
    }

pub delete_code : (f : Frame) (n : ℕ) (g : Frame)
    → packet_frame (spelling (response_frame f (response.Delete (code n)))) ≡ Some g → HasCode g n
unfolding response_of plain kind_of type_numbered put padding
delete_code f n g e =
    let m : Frame = response_frame f (response.Delete (code n)) in
    let r : IsReadOf m g = read_of m g e in
    record {
      response = _;
      is = ap response_in (message_read m g r (kinds.Response action.Delete) refl);
      code = ap (λ (c : List ℕ). slice_index c 0) (r.contents refl);
    }

pub commit_code : (f : Frame) (n : ℕ) (g : Frame)
    → packet_frame (spelling (response_frame f (response.Commit (code n)))) ≡ Some g → HasCode g n
unfolding response_of plain kind_of type_numbered put padding
commit_code f n g e =
    let m : Frame = response_frame f (response.Commit (code n)) in
    let r : IsReadOf m g = read_of m g e in
    record {
      response = _;
      is = ap response_in (message_read m g r (kinds.Response action.Commit) refl);
      code = ap (λ (c : List ℕ). slice_index c 0) (r.contents refl);
    }

pub start_code : (f : Frame) (n window : ℕ) (g : Frame)
    → packet_frame (spelling (response_frame f (response.Start (code n) window))) ≡ Some g
    → HasCode g n
unfolding response_of plain kind_of type_numbered put padding
start_code f n window g e =
    let m : Frame = response_frame f (response.Start (code n) window) in
    let r : IsReadOf m g = read_of m g e in
    record {
      response = _;
      is = ap response_in (message_read m g r (kinds.Response action.Start) refl);
      code = ap (λ (c : List ℕ). slice_index c 0) (r.contents refl);
    }

pub end_code : (f : Frame) (n : ℕ) (g : Frame)
    → packet_frame (spelling (response_frame f (response.End (code n)))) ≡ Some g → HasCode g n
unfolding response_of plain kind_of type_numbered put padding
end_code f n g e =
    let m : Frame = response_frame f (response.End (code n)) in
    let r : IsReadOf m g = read_of m g e in
    record {
      response = _;
      is = ap response_in (message_read m g r (kinds.Response action.End) refl);
      code = ap (λ (c : List ℕ). slice_index c 0) (r.contents refl);
    }

pub set_code : (f : Frame) (n unsupported failed : ℕ) (g : Frame)
    → packet_frame (spelling (response_frame f (response.Set (code n) unsupported failed))) ≡ Some g
    → HasCode g n
unfolding response_of plain kind_of type_numbered put padding
set_code f n unsupported failed g e =
    let m : Frame = response_frame f (response.Set (code n) unsupported failed) in
    let r : IsReadOf m g = read_of m g e in
    record {
      response = _;
      is = ap response_in (message_read m g r (kinds.Response action.Set) refl);
      code = ap (λ (c : List ℕ). slice_index c 0) (r.contents refl);
    }

-- ---- what answers a request

-- a response to no start and no end
abbrev pub IsOther : Option Response → Type 0
IsOther (Some (response.Start code granted)) = ⊥
IsOther (Some (response.End code)) = ⊥
IsOther _ = Unit {0}

-- a response to a start, or to an end
abbrev pub AnswersForm : ℕ → Option Response → Type 0
AnswersForm (suc zero) o = (code : Code) × (granted : ℕ) × (o ≡ Some (response.Start code granted))
AnswersForm (suc (suc zero)) o = (code : Code) × (o ≡ Some (response.End code))
AnswersForm _ o = IsOther o

responds : (f : Frame) (k : Kind) → kind_of f.kind ≡ Ok k
    → message_of f ≡ Ok (message_with k f.tci f.entity (values_at (layout k) f.contents))
unfolding message_of
responds f k e = ap (message_typed f) e

response_kind : (f : Frame) (n : ℕ) (k : Kind) → f.kind + 32 ≡ n + 32 → kind_of n ≡ Ok k
    → kind_of f.kind ≡ Ok k
response_kind f n k e h =
    let same : f.kind ≡ n = omega (arith, e) in ap kind_of same ∙ h

answers_by : (f : Frame) (n : ℕ) (k : Kind) (q : ℕ) → f.kind + 32 ≡ n + 32 → kind_of n ≡ Ok k
    → AnswersForm q
    (response_in (Ok (message_with k f.tci f.entity (values_at (layout k) f.contents))))
    → AnswersForm q (response_of f)
unfolding response_of
answers_by f n k q e h a =
    subst (AnswersForm q)
    (ap response_in (sym (responds f k (response_kind f n k e h)))) a

answers_kind : (tci : ℕ) (entity : EntityId) (r : Request) (f : Frame)
    → f.kind + 32 ≡ (plain (Asked tci entity r)).kind → AnswersForm (form r) (response_of f)
unfolding plain kind_of type_numbered
answers_kind tci entity (request.Create values) f e =
    answers_by f 36 (kinds.Response action.Create) 0 e refl tt
answers_kind tci entity request.Delete f e =
    answers_by f 38 (kinds.Response action.Delete) 0 e refl tt
answers_kind tci entity (request.Set mask values) f e =
    answers_by f 40 (kinds.Response action.Set) 0 e refl tt
answers_kind tci entity (request.Get mask) f e =
    answers_by f 41 (kinds.Response action.Get) 0 e refl tt
answers_kind tci entity request.Reset f e =
    answers_by f 47 (kinds.Response action.Reset) 0 e refl tt
answers_kind tci entity (request.Alarms mode) f e =
    answers_by f 43 (kinds.Response action.Alarms) 0 e refl tt
answers_kind tci entity (request.AlarmsNext number) f e =
    answers_by f 44 (kinds.Response action.AlarmsNext) 0 e refl tt
answers_kind tci entity request.Upload f e =
    answers_by f 45 (kinds.Response action.Upload) 0 e refl tt
answers_kind tci entity (request.UploadNext number) f e =
    answers_by f 46 (kinds.Response action.UploadNext) 0 e refl tt
answers_kind tci entity (request.Start window size targets target) f e =
    answers_by f 51 (kinds.Response action.Start) 1 e refl (_, _, refl)
answers_kind tci entity (request.Section number bytes true) f e =
    answers_by f 52 (kinds.Response action.Section) 0 e refl tt
answers_kind tci entity (request.Section number bytes false) f e = absurd (omega (arith, e))
answers_kind tci entity (request.End check size targets target) f e =
    answers_by f 53 (kinds.Response action.End) 2 e refl (_, refl)
answers_kind tci entity (request.Activate flags) f e =
    answers_by f 54 (kinds.Response action.Activate) 0 e refl tt
answers_kind tci entity request.Commit f e =
    answers_by f 55 (kinds.Response action.Commit) 0 e refl tt
answers_kind tci entity (request.Reboot flags) f e =
    answers_by f 57 (kinds.Response action.Reboot) 0 e refl tt

-- the frame that answers a command of the job
pub answers_form : (tci : ℕ) (c : Command) (f : Frame) → c.purpose ≡ purpose.Job
    → answers tci c f ≡ true → AnswersForm (form c.request) (response_of f)
unfolding command_frame
answers_form tci c f p h =
    let both = and_parts (eqb f.tci tci) _ h in
    let is : is_response (command_frame tci c) f ≡ true =
    ap (λ x. is_probe x || is_response (command_frame tci c) f) (sym p) ∙ both.1 in
    let kind = and_parts (eqb (f.kind + 32) (command_frame tci c).kind) _ is in
    answers_kind tci c.entity c.request f (eqb-true (f.kind + 32) (command_frame tci c).kind kind.0)
