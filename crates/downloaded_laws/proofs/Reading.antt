-- What an end reads of a download's packets that the other made.
use Rattle.std.proofs.Common.{◌≡◌, ℕ, zero, suc, ◌+◌, ◌-◌, ◌*◌, ◌<◌, ◌≤◌, ◌^◌, Bool, true, false, List, [], ◌∷◌, ◌++◌, length, take, drop, replicate, slice_get, slice_index, Some, Ok, ◌⊎◌, inl, inr, refl, sym, ap, subst, ◌∙◌, arith}
use Rattle.std.proofs.lemmas.Option.{same_Some}
use Rattle.std.specs.Prelude.{slice_index_or}
use Rattle.std.specs.List.{Contains}
use Rattle.omci_types.specs.declared.Code.{Code}
use Rattle.omci_types.specs.declared.EntityId.{EntityId}
use Rattle.omci_types.specs.declared.Frame.{Frame}
use Rattle.frame_spec.specs.Baseline.{IsBytes, IsFrame, spelling, packet_frame}
use Rattle.frame_spec.specs.Widths.{filled}
use Rattle.frame_laws.proofs.Reading.{packet_frame-spelling}
use Rattle.message_spec.specs.declared.Message.{Message}
use Rattle.message_spec.specs.declared.Message.TheVariants.{Asked}
use Rattle.message_spec.specs.declared.Request.{Request}
use Rattle.message_spec.specs.declared.Request.TheVariants as request
use Rattle.message_spec.specs.declared.Response.TheVariants as response
use Rattle.message_spec.specs.declared.Action.TheVariants as action
use Rattle.message_spec.specs.declared.Kind.TheVariants as kinds
use Rattle.message_spec.specs.Fields.{put, padding}
use Rattle.message_spec.specs.Types.{type_numbered, kind_of}
use Rattle.message_spec.specs.Reading.{plain, message_of, IsMessage, IsFrameInRange}
use Rattle.message_laws.proofs.Reading.{written_is_read, plain_in_range}
use Rattle.window_spec.specs.declared.TheConstants.{SECTION_BYTES}
use Rattle.window_spec.specs.Outgoing.{Outgoing, section_at, sections_from, window_count}
use Rattle.window_laws.proofs.Sections.{section_length}
use Rattle.manager_spec.specs.Manager.{Order}
use Rattle.manager_spec.specs.Upgrade.{image_entity}
use Rattle.manager_spec.specs.Steps.{response_in, response_of}
use Rattle.unit_spec.specs.Onu.{response_frame, code}
use Rattle.download_laws.specs.Carrying.{IsSectionOf}
use Rattle.resync_laws.proofs.Reading.{IsReadOf, read_of, message_read}

-- ---- a message in its ranges is read as it was written

frame_of_range : (f : Frame) → IsFrameInRange f → IsFrame f
frame_of_range f h = record {
  tci_fits = h.tci;
  kind_fits = h.kind;
  class_fits = h.class;
  instance_fits = h.instance;
  contents_whole = h.len;
  contents_fit = h.bytes;
}

-- the frame is read as this request for this entity
pub record IsReadAs (f : Frame) (tci : ℕ) (entity : EntityId) (q : Request) : Type 0 where
  pub entity_is : f.entity ≡ entity
  pub is : message_of f ≡ Ok (Asked tci entity q)

pub exact_read : (tci : ℕ) (entity : EntityId) (q : Request) (bytes : List ℕ) (f : Frame)
    → IsMessage (Asked tci entity q) → bytes ≡ spelling (plain (Asked tci entity q))
    → packet_frame bytes ≡ Some f → IsReadAs f tci entity q
unfolding plain
exact_read tci entity q bytes f h made e =
    let m : Message = Asked tci entity q in
    let same : f ≡ plain m = same_Some f (plain m) (sym e ∙ ap packet_frame made
    ∙ packet_frame-spelling (plain m) (frame_of_range (plain m) (plain_in_range m h))) in
    record {
      entity_is = ap (λ (x : Frame). x.entity) same;
      is = ap message_of same ∙ written_is_read m h;
    }

-- ---- bytes of an image

bytes_taken : (n : ℕ) (bytes : List ℕ) → IsBytes bytes → IsBytes (take n bytes)
bytes_taken zero bytes h place = omega arith
bytes_taken (suc n) [] h place = omega arith
bytes_taken (suc n) (b ∷ bytes) h zero = h 0
bytes_taken (suc n) (b ∷ bytes) h (suc place) = bytes_taken n bytes (λ i. h (suc i)) place

bytes_dropped : (n : ℕ) (bytes : List ℕ) → IsBytes bytes → IsBytes (drop n bytes)
bytes_dropped zero bytes h place = h place
bytes_dropped (suc n) [] h place = omega arith
bytes_dropped (suc n) (b ∷ bytes) h place = bytes_dropped n bytes (λ i. h (suc i)) place

zeros_bytes : (n : ℕ) → IsBytes (replicate n 0)
zeros_bytes zero place = omega arith
zeros_bytes (suc n) zero = omega arith
zeros_bytes (suc n) (suc place) = zeros_bytes n place

followed_bytes : (n : ℕ) (bytes : List ℕ) → IsBytes bytes → IsBytes (bytes ++ replicate n 0)
followed_bytes n [] h place = zeros_bytes n place
followed_bytes n (b ∷ bytes) h zero = h 0
followed_bytes n (b ∷ bytes) h (suc place) = followed_bytes n bytes (λ i. h (suc i)) place

section_bytes : (place : ℕ) (image : List ℕ) → IsBytes image → IsBytes (section_at place image)
unfolding section_at
section_bytes place image h =
    let left = drop (SECTION_BYTES * place) image in
    bytes_taken SECTION_BYTES (filled SECTION_BYTES left)
    (followed_bytes (SECTION_BYTES - length left) left
    (bytes_dropped (SECTION_BYTES * place) image h))

-- what is known of a section in a list of them
pub record IsSectionIn (count number : ℕ) (bytes : List ℕ) : Type 0 where
  pub below : number < count
  pub long : length bytes ≡ SECTION_BYTES
  pub bytes_fit : IsBytes bytes

pub section_in : (count place number : ℕ) (image bytes : List ℕ) → IsBytes image
    → slice_get (sections_from count place image) number ≡ Some bytes
    → IsSectionIn count number bytes
section_in zero place number image bytes h e = absurd (cc)
section_in (suc count) place zero image bytes h e =
    subst (IsSectionIn (suc count) 0) (same_Some (section_at place image) bytes e)
    (record {
      below = omega arith;
      long = section_length place image;
      bytes_fit = section_bytes place image h;
    })
section_in (suc count) place (suc number) image bytes h e =
    let k = section_in count (place + 1) number image bytes h e in
    let lt = k.below in
    record { below = omega (arith, lt); long = k.long; bytes_fit = k.bytes_fit }

-- ---- an order, and its commands

-- a slot and a check value that a line of a script may have, and an image
pub record IsOrder (order : Order) (image : List ℕ) : Type 0 where
  pub slot : order.slot ≤ 1
  pub check : order.check < 2 ^ 32
  pub some : 1 ≤ length image
  pub most : length image ≤ 16777216
  pub bytes : IsBytes image

pub start_exact : (tci asked : ℕ) (order : Order) (image : List ℕ) → tci ≤ 32767
    → IsOrder order image → 1 ≤ asked → asked ≤ 256
    → IsMessage (Asked tci (image_entity order.slot)
    (request.Start asked (length image) 1 order.slot))
start_exact tci asked order image low h some most =
    let slot = h.slot in let fits = h.most in
    record {
      tci = omega (arith, low);
      class = omega arith;
      instance = omega (arith, slot);
      values = ((some, most), (omega (arith, fits), (omega arith, (omega (arith, slot), tt))));
    }

pub end_exact : (tci : ℕ) (order : Order) (image : List ℕ) → tci ≤ 32767 → IsOrder order image
    → IsMessage (Asked tci (image_entity order.slot)
    (request.End order.check (length image) 1 order.slot))
end_exact tci order image low h =
    let slot = h.slot in let fits = h.most in
    record {
      tci = omega (arith, low);
      class = omega arith;
      instance = omega (arith, slot);
      values = (h.check, (omega (arith, fits), (omega arith, (omega (arith, slot), tt))));
    }

pub section_exact : (tci : ℕ) (order : Order) (o : Outgoing) (number : ℕ) (bytes : List ℕ)
    (last : Bool) → tci ≤ 32767 → IsOrder order o.image → o.most ≤ 256
    → IsSectionOf o number bytes last
    → IsMessage (Asked tci (image_entity order.slot) (request.Section number bytes last))
section_exact tci order o number bytes true low h most is =
    let slot = h.slot in
    let k = section_in (window_count o) o.first number o.image bytes h.bytes is.there in
    let lt = k.below in
    record {
      tci = omega (arith, low);
      class = omega arith;
      instance = omega (arith, slot);
      values = (omega (arith, lt, most), ((k.long, k.bytes_fit), tt));
    }
section_exact tci order o number bytes false low h most is =
    let slot = h.slot in
    let k = section_in (window_count o) o.first number o.image bytes h.bytes is.there in
    let lt = k.below in
    record {
      tci = omega (arith, low);
      class = omega arith;
      instance = omega (arith, slot);
      values = (omega (arith, lt, most), ((k.long, k.bytes_fit), tt));
    }

-- ---- replies

-- the frame is read as the response to a start, with this code
pub record GrantsSo (g : Frame) (n : ℕ) : Type 0 where
  pub given : Code
  pub granted : ℕ
  pub is : response_of g ≡ Some (response.Start given granted)
  pub code_is : given.0 ≡ n
  pub some : 1 ≤ granted

pub start_read : (f : Frame) (n window : ℕ) (g : Frame)
    → packet_frame (spelling (response_frame f (response.Start (code n) window))) ≡ Some g
    → GrantsSo g n
unfolding response_of plain kind_of type_numbered put padding
start_read f n window g e =
    let m : Frame = response_frame f (response.Start (code n) window) in
    let r : IsReadOf m g = read_of m g e in
    record {
      given = _;
      granted = slice_index g.contents 1 + 1;
      is = ap response_in (message_read m g r (kinds.Response action.Start) refl);
      code_is = ap (λ (c : List ℕ). slice_index c 0) (r.contents refl);
      some = omega arith;
    }

-- to a window
pub record AnswersSo (g : Frame) (n : ℕ) : Type 0 where
  pub given : Code
  pub number : ℕ
  pub is : response_of g ≡ Some (response.Section given number)
  pub code_is : given.0 ≡ n

pub section_read : (f : Frame) (n number : ℕ) (g : Frame)
    → packet_frame (spelling (response_frame f (response.Section (code n) number))) ≡ Some g
    → AnswersSo g n
unfolding response_of plain kind_of type_numbered put padding
section_read f n number g e =
    let m : Frame = response_frame f (response.Section (code n) number) in
    let r : IsReadOf m g = read_of m g e in
    record {
      given = _;
      number = slice_index g.contents 1;
      is = ap response_in (message_read m g r (kinds.Response action.Section) refl);
      code_is = ap (λ (c : List ℕ). slice_index c 0) (r.contents refl);
    }

-- to an end
pub record EndsSo (g : Frame) (n : ℕ) : Type 0 where
  pub given : Code
  pub is : response_of g ≡ Some (response.End given)
  pub code_is : given.0 ≡ n

pub end_read : (f : Frame) (n : ℕ) (g : Frame)
    → packet_frame (spelling (response_frame f (response.End (code n)))) ≡ Some g → EndsSo g n
unfolding response_of plain kind_of type_numbered put padding
end_read f n g e =
    let m : Frame = response_frame f (response.End (code n)) in
    let r : IsReadOf m g = read_of m g e in
    record {
      given = _;
      is = ap response_in (message_read m g r (kinds.Response action.End) refl);
      code_is = ap (λ (c : List ℕ). slice_index c 0) (r.contents refl);
    }

-- ---- packets of a command

pub among_or : (x : List ℕ) (xs : List (List ℕ)) (y : List ℕ) → Contains (x ∷ xs) y
    → (y ≡ x) ⊎ Contains xs y
among_or x xs y h = go h.0 h.1 h.2
  where
    go : (k : ℕ) → k < length (x ∷ xs) → slice_index_or (x ∷ xs) k y ≡ y
        → (y ≡ x) ⊎ Contains xs y
    go zero lt e = inl (sym e)
    go (suc k) lt e = inr (k, omega (arith, lt), e)

pub none_among : {A : Type 0} (y : List ℕ) → Contains [] y → A
none_among y h = let lt = h.1 in absurd (omega (arith, lt))
