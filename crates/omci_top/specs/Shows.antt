-- What each answer of `show` and of `check` says of the source and of the sink.
use Rattle.std.specs.Prelude.{ℕ, ◌≡◌, ◌⊎◌, Bool, false, List, [], ◌++◌, length, take, nat_le, Option, Some, None, All}
use Rattle.std.specs.Io.KnownBytes.{Appends}
use Rattle.omci_core.specs.Causes.{Rose}
use Rattle.stream_spec.specs.Streams.{Open, IsStream}
use Rattle.extended_spec.specs.Frames.{Any, IsAny, any_spelling}
use Rattle.extended_spec.specs.Streams.{any_front}
use Rattle.whole_writes.specs.Writing.{WritesFront}
use Rattle.show_spec.specs.Shown.{Passes, reason_at, frame_bytes, frame_lines, none_refused, no_message_refused, unknown_count, count_text}
use Rattle.stream_show.specs.Runs.{Sees, SeesPast, RefusesAt}
use Rattle.omci_top.specs.Streams.{ReadsWhole}
use Rattle.omci_top.specs.Texts.{input_text}
use Rattle.omci_top.specs.declared.status.Status.{Status}
use Rattle.omci_top.specs.declared.status.Status.TheVariants.{Done, Usage, Input, ReadFault, WriteFault, DiskFault, LinkFault, NoUnit, TooLong, NoMemory, TooLarge}
use Rattle.omci_top.specs.declared.streams.TheConstants.{LARGEST_INPUT}

-- the source was read to its end, and its bytes are the stream of these frames, of which none is
-- refused
pub record ReadsFrames (refused : Any → Option ℕ) (left_before left_now : Option (List ℕ))
    (frames : List Any) : Type 0 where
  pub input : List ℕ
  pub read : ReadsWhole LARGEST_INPUT left_before left_now input
  pub stream : IsStream IsAny any_spelling input frames []
  pub passed : All (λ frame. refused frame ≡ None) frames

-- of the stream's first 16,777,216 bytes some were read, and they begin with these frames, of which
-- none is refused
abbrev pub SeesFrames : (refused : Any → Option ℕ) (left_before left_now : Option (List ℕ))
    (frames : List Any) (rest : List ℕ) → Type 0
SeesFrames refused left_before left_now frames rest = Sees refused LARGEST_INPUT left_before left_now
    frames rest

-- the frame after these is refused at this place for this reason
pub record FindsFault (refused : Any → Option ℕ) (left_before left_now : Option (List ℕ))
    (frames : List Any) (place reason : ℕ) : Type 0 where
  pub rest : List ℕ
  pub seen : SeesFrames refused left_before left_now frames rest
  pub at : RefusesAt refused left_now frames rest place reason

-- ---- show

-- what `show` writes of these frames: their lines, and the line of the fault after them
abbrev pub fault_lines : (frames : List Any) (place reason : ℕ) → List ℕ
fault_lines frames place reason = frame_lines frames ++ input_text place reason

-- some frames were read, and a front of their lines was written; or of the lines of the frames
-- before a fault and of its own
pub record BreaksOffShow (left_before left_now written_before written_now : Option (List ℕ))
    : Type 0 where
  pub frames : List Any
  pub rest : List ℕ
  pub seen : SeesFrames none_refused left_before left_now frames rest
  pub front : WritesFront (frame_lines frames) written_before written_now
      ⊎ ((place : ℕ) × (reason : ℕ) × FindsFault none_refused left_before left_now frames place
      reason × WritesFront (fault_lines frames place reason) written_before written_now)

-- What showing a stream comes to, by its answer. A command line that is `show` isn't answered by
-- Usage.
abbrev pub AnswersShow : Status
    → (left_before left_now written_before written_now : Option (List ℕ))
    (read_before read_now write_before write_now : ℕ) → Type 0
AnswersShow Done left_before left_now written_before written_now read_before read_now write_before
    write_now =
    ((frames : List Any) × ReadsFrames none_refused left_before left_now frames
    × Appends written_before written_now (frame_lines frames))
    × (read_now ≡ read_before) × (write_now ≡ write_before)
AnswersShow Usage left_before left_now written_before written_now read_before read_now write_before
    write_now = ⊥
AnswersShow (Input place reason) left_before left_now written_before written_now read_before
    read_now write_before write_now =
    ((frames : List Any) × FindsFault none_refused left_before left_now frames place reason
    × Appends written_before written_now (fault_lines frames place reason))
    × (read_now ≡ read_before) × (write_now ≡ write_before)
AnswersShow ReadFault left_before left_now written_before written_now read_before read_now
    write_before write_now =
    ((frames : List Any) × (rest : List ℕ) × SeesFrames none_refused left_before left_now frames
    rest × Appends written_before written_now (frame_lines frames))
    × Rose read_before read_now × (write_now ≡ write_before)
AnswersShow WriteFault left_before left_now written_before written_now read_before read_now
    write_before write_now =
    BreaksOffShow left_before left_now written_before written_now × (read_now ≡ read_before)
    × Rose write_before write_now
AnswersShow DiskFault left_before left_now written_before written_now read_before read_now
    write_before write_now = ⊥
AnswersShow LinkFault left_before left_now written_before written_now read_before read_now
    write_before write_now = ⊥
AnswersShow NoUnit left_before left_now written_before written_now read_before read_now write_before
    write_now = ⊥
AnswersShow TooLong left_before left_now written_before written_now read_before read_now
    write_before write_now =
    ((frames : List Any) × (rest : List ℕ) × SeesPast none_refused LARGEST_INPUT left_before left_now
    frames rest × Appends written_before written_now (frame_lines frames))
    × (read_now ≡ read_before) × (write_now ≡ write_before)
AnswersShow NoMemory left_before left_now written_before written_now read_before read_now
    write_before write_now =
    BreaksOffShow left_before left_now written_before written_now × (read_now ≡ read_before)
    × (write_now ≡ write_before)
AnswersShow TooLarge left_before left_now written_before written_now read_before read_now
    write_before write_now = ⊥

-- ---- check

-- what `check` writes of these frames
abbrev pub frame_counts : List Any → List ℕ
frame_counts frames = count_text (length frames) (unknown_count frames)

-- nothing was written; or a front of the counts of all frames, or of the line of a fault
abbrev pub BreaksOffCheck : (left_before left_now written_before written_now : Option (List ℕ))
    → Type 0
BreaksOffCheck left_before left_now written_before written_now =
    ((frames : List Any) × ReadsFrames no_message_refused left_before left_now frames
    × WritesFront (frame_counts frames) written_before written_now)
    ⊎ ((frames : List Any) × (place : ℕ) × (reason : ℕ)
    × FindsFault no_message_refused left_before left_now frames place reason
    × WritesFront (input_text place reason) written_before written_now)

-- What checking a stream comes to, by its answer. A command line that is `check` isn't answered by
-- Usage.
abbrev pub AnswersCheck : Status
    → (left_before left_now written_before written_now : Option (List ℕ))
    (read_before read_now write_before write_now : ℕ) → Type 0
AnswersCheck Done left_before left_now written_before written_now read_before read_now write_before
    write_now =
    ((frames : List Any) × ReadsFrames no_message_refused left_before left_now frames
    × Appends written_before written_now (frame_counts frames))
    × (read_now ≡ read_before) × (write_now ≡ write_before)
AnswersCheck Usage left_before left_now written_before written_now read_before read_now write_before
    write_now = ⊥
AnswersCheck (Input place reason) left_before left_now written_before written_now read_before
    read_now write_before write_now =
    ((frames : List Any) × FindsFault no_message_refused left_before left_now frames place reason
    × Appends written_before written_now (input_text place reason))
    × (read_now ≡ read_before) × (write_now ≡ write_before)
AnswersCheck ReadFault left_before left_now written_before written_now read_before read_now
    write_before write_now =
    ((frames : List Any) × (rest : List ℕ)
    × SeesFrames no_message_refused left_before left_now frames rest)
    × Rose read_before read_now × (write_now ≡ write_before)
AnswersCheck WriteFault left_before left_now written_before written_now read_before read_now
    write_before write_now =
    BreaksOffCheck left_before left_now written_before written_now × (read_now ≡ read_before)
    × Rose write_before write_now
AnswersCheck DiskFault left_before left_now written_before written_now read_before read_now
    write_before write_now = ⊥
AnswersCheck LinkFault left_before left_now written_before written_now read_before read_now
    write_before write_now = ⊥
AnswersCheck NoUnit left_before left_now written_before written_now read_before read_now
    write_before write_now = ⊥
AnswersCheck TooLong left_before left_now written_before written_now read_before read_now
    write_before write_now =
    ((frames : List Any) × (rest : List ℕ)
    × SeesPast no_message_refused LARGEST_INPUT left_before left_now frames rest)
    × (read_now ≡ read_before) × (write_now ≡ write_before)
AnswersCheck NoMemory left_before left_now written_before written_now read_before read_now
    write_before write_now =
    (Appends written_before written_now []
    ⊎ BreaksOffCheck left_before left_now written_before written_now)
    × (read_now ≡ read_before) × (write_now ≡ write_before)
AnswersCheck TooLarge left_before left_now written_before written_now read_before read_now
    write_before write_now = ⊥

-- ---- what a stream owes

-- The frames of a stream's first 16,777,216 bytes that aren't refused, and then what is.
pub record HasFault (refused : Any → Option ℕ) (bytes : List ℕ) (frames : List Any)
    (place reason : ℕ) : Type 0 where
  pub rest : List ℕ
  pub passes : Passes refused (take LARGEST_INPUT bytes) frames rest
  pub at : place ≡ length (frame_bytes frames)
  pub why : reason_at refused (nat_le (length bytes) LARGEST_INPUT) rest ≡ Some reason

-- The frames of a stream's first 16,777,216 bytes, of which none is refused, nor what follows them
-- there.
pub record HasNoFault (refused : Any → Option ℕ) (bytes : List ℕ) (frames : List Any) : Type 0 where
  pub rest : List ℕ
  pub passes : Passes refused (take LARGEST_INPUT bytes) frames rest
  pub nothing : any_front rest ≡ Open
