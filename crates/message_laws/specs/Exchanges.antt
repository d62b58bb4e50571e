-- Frames of ordinary exchanges, with the message and the text of each.
use Rattle.std.specs.Prelude.{◌≡◌, ℕ, true, false, List, [], ◌∷◌, ◌++◌, codes, replicate, Ok, Err}
use Rattle.omci_types.specs.declared.EntityId.{EntityId}
use Rattle.omci_types.specs.declared.Frame.{Frame}
use Rattle.message_spec.specs.declared.Message.{Message}
use Rattle.message_spec.specs.declared.Message.TheVariants.{Asked, Answered, Told}
use Rattle.message_spec.specs.declared.Request.TheVariants as requests
use Rattle.message_spec.specs.declared.Response.TheVariants as responses
use Rattle.message_spec.specs.declared.Notice.TheVariants as notices
use Rattle.message_spec.specs.declared.ContentsFault.{ContentsFault}
use Rattle.message_spec.specs.declared.ContentsFault.TheVariants.{UnknownType, Bits}
use Rattle.message_spec.specs.Reading.{message_of, plain}
use Rattle.message_spec.specs.Text.{message_text}

abbrev pub entity : ℕ → ℕ → EntityId
entity class instance = record { class = class; instance = instance }

abbrev pub frame : ℕ → ℕ → EntityId → List ℕ → Frame
frame tci kind id contents = record { tci = tci; kind = kind; entity = id; contents = contents }

-- a frame is the plain one of its message, is read as it, and has this text
pub record IsRow (f : Frame) (m : Message) (text : List ℕ) : Type 0 where
  pub read : message_of f ≡ Ok m
  pub written : plain m ≡ f
  pub spelled : message_text f ≡ text

-- a frame is no message, and has this text
pub record IsFault (f : Frame) (fault : ContentsFault) (text : List ℕ) : Type 0 where
  pub read : message_of f ≡ Err fault
  pub spelled : message_text f ≡ text

abbrev pub Exchanges : Type 0
Exchanges =
    IsRow (frame 1 0x49 (entity 2 0) (0x80 ∷ replicate 31 0))
    (Asked 1 (entity 2 0) (requests.Get 0x8000)) (codes "0001 0a get 2 0 80")
    × IsRow (frame 0x8001 0x29 (entity 2 0) (0 ∷ 0x80 ∷ replicate 30 0))
    (Answered 0x8001 (entity 2 0) (responses.Get (record { 0 = 0 }) 0x8000 (replicate 25 0) 0
    0)) (codes "8001 0a get-r 2 0 0080")
    × IsRow (frame 0x10 0x44 (entity 272 5) (0 ∷ 0x30 ∷ replicate 30 0))
    (Asked 0x10 (entity 272 5) (requests.Create (0 ∷ 0x30 ∷ replicate 30 0)))
    (codes "0010 0a create 272 5 0030")
    × IsRow (frame 0x10 0x24 (entity 272 5) (replicate 32 0))
    (Answered 0x10 (entity 272 5) (responses.Create (record { 0 = 0 }) 0))
    (codes "0010 0a create-r 272 5 -")
    × IsRow (frame 0x10 0x28 (entity 11 257) (9 ∷ 0 ∷ 0 ∷ 4 ∷ replicate 28 0))
    (Answered 0x10 (entity 11 257) (responses.Set (record { 0 = 9 }) 0 0x400))
    (codes "0010 0a set-r 11 257 09000004")
    × IsRow (frame 0 0x11 (entity 11 257) (0x40 ∷ 0 ∷ 0x2f ∷ replicate 29 0))
    (Told 0 (entity 11 257) (notices.Change 0x4000 (0x2f ∷ replicate 29 0)))
    (codes "0000 0a change 11 257 40002f")
    × IsRow (frame 0 0x10 (entity 11 257) ((0x80 ∷ replicate 30 0) ++ 1 ∷ [])) (Told 0 (entity 11 257) (notices.Alarm (0x80 ∷ replicate 27 0) 1)) (codes "0000 0a alarm 11 257 8000000000000000000000000000000000000000000000000000000000000001")
    × IsRow (frame 2 0x53 (entity 7 1) (1 ∷ 0 ∷ 0 ∷ 0 ∷ 0x3f ∷ 1 ∷ 0 ∷ 1 ∷ replicate 24 0))
    (Asked 2 (entity 7 1) (requests.Start 2 63 1 1))
    (codes "0002 0a start 7 1 010000003f010001")
    × IsRow (frame 2 0x33 (entity 7 1) (0 ∷ 1 ∷ replicate 30 0))
    (Answered 2 (entity 7 1) (responses.Start (record { 0 = 0 }) 2))
    (codes "0002 0a start-r 7 1 0001")
    × IsRow (frame 3 0x14 (entity 7 1) (replicate 32 0))
    (Asked 3 (entity 7 1) (requests.Section 0 (replicate 31 0) false))
    (codes "0003 0a section 7 1 -")
    × IsRow (frame 3 0x54 (entity 7 1) (1 ∷ replicate 31 0))
    (Asked 3 (entity 7 1) (requests.Section 1 (replicate 31 0) true))
    (codes "0003 0a section-ar 7 1 01")
    × IsFault (frame 1 0x47 (entity 2 0) (replicate 32 0)) (UnknownType 7)
    (codes "0001 0a type-47 2 0 -")
    × IsFault (frame 1 0xe9 (entity 2 0) (replicate 32 0)) (Bits 0xe9)
    (codes "0001 0a type-e9 2 0 -")
    × IsFault (frame 1 0x50 (entity 2 0) (replicate 32 0)) (Bits 0x50)
    (codes "0001 0a type-50 2 0 -")
