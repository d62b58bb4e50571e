-- Streams of frames, for any set of frames: what bytes show at their front, and what a reader
-- holds. Frames are of a type F, faults of a type X; places in a stream count from 0.
use Rattle.std.specs.Prelude.{◌≡◌, ℕ, ◌+◌, ◌-◌, ◌^◌, min, List, [], ◌∷◌, ◌++◌, length, take, drop, All}
use Rattle.std.specs.List.{flat_map}
use Rattle.frame_spec.specs.Baseline.{IsBytes}

-- What bytes show at their front.
pub data Front (F X : Type 0) : Type 0 where
  -- they begin with this frame, which has so many bytes
  Whole : F → ℕ → Front F X
  -- they begin with no whole frame, and more bytes may make one of them
  Open : Front F X
  -- no bytes after them make a frame of them
  Faulty : X → Front F X

-- the bytes begin with these
abbrev pub BeginsWith : List ℕ → List ℕ → Type 0
BeginsWith front bytes = take (length front) bytes ≡ front

-- the bytes are the spellings of these frames, one after the other, and then the rest, which begins
-- with no frame
pub record IsStream {F : Type 0} (IsFrame : F → Type 0) (spell : F → List ℕ) (bytes : List ℕ)
    (frames : List F) (rest : List ℕ) : Type 0 where
  pub spelled : bytes ≡ flat_map spell frames ++ rest
  pub valid : All IsFrame frames
  pub no_more : (frame : F) → IsFrame frame → BeginsWith (spell frame) rest → ⊥

-- What a reader holds: the bytes that belong to no frame taken yet, and the place of the first one.
pub record Reader : Type 0 where
  pub at : ℕ
  pub held : List ℕ

-- a reader at the begin of a stream
abbrev pub first_reader : Reader
first_reader = record { at = 0; held = [] }

-- the place so many bytes on, which stops at the last value of a `u64`
abbrev pub place_after : ℕ → ℕ → ℕ
place_after at count = min (at + count) (2 ^ 64 - 1)

-- a reader after it took these bytes
abbrev pub with_bytes : List ℕ → Reader → Reader
with_bytes bytes reader = record { at = reader.at; held = reader.held ++ bytes }

-- So many bytes of a piece a reader takes that has room for `room` bytes: as many as fit, and none
-- where the bytes held show a fault.
unfoldable pub bytes_taken : {F X : Type 0} → Front F X → ℕ → Reader → List ℕ → ℕ
bytes_taken (Whole frame count) room reader piece = min (length piece) (room - length reader.held)
bytes_taken Open room reader piece = min (length piece) (room - length reader.held)
bytes_taken (Faulty fault) room reader piece = 0

-- a reader after a piece was offered to it
abbrev pub after_feed : {F X : Type 0} → (List ℕ → Front F X) → ℕ → List ℕ → Reader → Reader
after_feed front room piece reader =
    with_bytes (take (bytes_taken (front reader.held) room reader piece) piece) reader

-- a reader after it was asked for a frame: a whole frame's bytes are held no longer
unfoldable pub after_take : {F X : Type 0} → Front F X → Reader → Reader
after_take (Whole frame count) reader = record {
  at = place_after reader.at count;
  held = drop count reader.held;
}
after_take Open reader = reader
after_take (Faulty fault) reader = reader

-- the frame that a reader gives when it is asked for one
abbrev pub frames_given : {F X : Type 0} → Front F X → List F
frames_given (Whole frame count) = frame ∷ []
frames_given Open = []
frames_given (Faulty fault) = []

-- What is done with a reader: a piece is offered to it, or it is asked for a frame.
pub data Call : Type 0 where
  Feed : List ℕ → Call
  Take : Call

-- What came of some calls: the bytes that the reader took, the frames that it gave, and the reader.
pub record Course (F : Type 0) : Type 0 where
  pub bytes : List ℕ
  pub frames : List F
  pub reader : Reader

abbrev pub first_course : {F : Type 0} → Course F
first_course = record { bytes = []; frames = []; reader = first_reader }

-- one call more
abbrev pub after_call : {F X : Type 0} → (List ℕ → Front F X) → ℕ → Call → Course F → Course F
after_call front room (Feed piece) c = record {
  bytes = c.bytes ++ take (bytes_taken (front c.reader.held) room c.reader piece) piece;
  frames = c.frames;
  reader = after_feed front room piece c.reader;
}
after_call front room Take c = record {
  bytes = c.bytes;
  frames = c.frames ++ frames_given (front c.reader.held);
  reader = after_take (front c.reader.held) c.reader;
}

-- some calls more, one after the other
unfoldable pub after_calls : {F X : Type 0} → (List ℕ → Front F X) → ℕ → List Call → Course F
    → Course F
after_calls front room [] c = c
after_calls front room (call ∷ calls) c =
    after_calls front room calls (after_call front room call c)

-- a call that offers bytes
abbrev pub IsCall : Call → Type 0
IsCall (Feed piece) = IsBytes piece
IsCall Take = Unit {0}
