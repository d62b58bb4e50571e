-- What makes frames a set of which streams can be read, and what holds of a reader's calls.
use Rattle.std.specs.Prelude.{◌≡◌, ℕ, ◌^◌, ◌-◌, min, List, ◌++◌, length, take, All}
use Rattle.std.specs.List.{flat_map}
use Rattle.frame_spec.specs.Baseline.{IsBytes}
use Rattle.stream_spec.specs.Streams.{Front, Whole, BeginsWith, Course}

-- what bytes show at their front is the frame with whose spelling they begin
pub record IsSet {F X : Type 0} (IsFrame : F → Type 0) (spell : F → List ℕ) (front : List ℕ
    → Front F X) : Type 0 where
  pub whole : (bytes : List ℕ) (frame : F) (count : ℕ) → IsBytes bytes → front bytes
      ≡ Whole frame count →
      IsFrame frame × (take count bytes ≡ spell frame) × (count ≡ length (spell frame))
  pub found : (bytes : List ℕ) (frame : F) → IsFrame frame → BeginsWith (spell frame) bytes
      → front bytes ≡ Whole frame (length (spell frame))

-- The bytes that a reader took are the spellings of the frames that it gave, and then the bytes
-- that it holds; its place is that of the first byte held.
pub record IsCourse {F : Type 0} (IsFrame : F → Type 0) (spell : F → List ℕ) (course : Course F)
    : Type 0 where
  pub spelled : course.bytes ≡ flat_map spell course.frames ++ course.reader.held
  pub valid : All IsFrame course.frames
  pub fit : IsBytes course.reader.held
  pub place : course.reader.at ≡ min (length (flat_map spell course.frames)) (2 ^ 64 - 1)
