-- What reading a stream comes to: the frames that were passed, what ended the reading, and what was
-- written of it.
use Rattle.std.specs.Prelude.{◌≡◌, ℕ, ◌+◌, ◌-◌, ◌^◌, ◌<◌, ◌≤◌, min, Bool, true, false, List, [], ◌++◌, length, Option, Some, None, Result, Ok, Err, IfOk}
use Rattle.std.specs.Result.{result_err}
use Rattle.std.specs.Io.KnownBytes.{Appends, Consumes, IsAtEnd, Keeps}
use Rattle.omci_core.specs.Causes.{Rose}
use Rattle.frame_spec.specs.Baseline.{IsBytes}
use Rattle.stream_spec.specs.Streams.{Open, Faulty, Reader}
use Rattle.extended_spec.specs.declared.AnyFault.{AnyFault}
use Rattle.extended_spec.specs.declared.LongFault.{LongFault}
use Rattle.extended_spec.specs.Frames.{Any}
use Rattle.extended_spec.specs.Streams.{any_front}
use Rattle.whole_writes.specs.Writing.{WritesFront}
use Rattle.show_spec.specs.Shown.{Passes, reason_at, frame_bytes, frame_lines, none_refused, no_message_refused, message_reason, is_unknown_type, one_if, unknown_count}
use Rattle.stream_show.specs.Buffer.{Fills}
use Rattle.stream_show.specs.declared.ends.StreamEnd.{StreamEnd}
use Rattle.stream_show.specs.declared.ends.StreamEnd.TheVariants.{Refused, Read, Write, TooLong, NoMemory}
use Rattle.stream_show.specs.declared.counting.Counts.{Counts}

-- ---- a whole stream

-- The bytes that were read are not more than the limit. They are those of these frames, of which
-- none is refused, and then the rest.
pub record Sees (refused : Any → Option ℕ) (limit : ℕ) (left_before left_now : Option (List ℕ))
    (frames : List Any) (rest : List ℕ) : Type 0 where
  pub bytes : List ℕ
  pub read : Consumes left_before left_now bytes
  pub few : length bytes ≤ limit
  pub fit : IsBytes bytes
  pub passes : Passes refused bytes frames rest

-- More bytes than the limit were read. Those up to the limit are those of these frames and then the
-- rest, in which nothing is refused.
pub record SeesPast (refused : Any → Option ℕ) (limit : ℕ) (left_before left_now : Option (List ℕ))
    (frames : List Any) (rest : List ℕ) : Type 0 where
  pub bytes : List ℕ
  pub more : List ℕ
  pub read : Consumes left_before left_now (bytes ++ more)
  pub full : length bytes ≡ limit
  pub past : 0 < length more
  pub fit : IsBytes bytes
  pub passes : Passes refused bytes frames rest
  pub nothing : any_front rest ≡ Open

-- The frame that begins after these frames is refused, or the stream ends within it.
pub record RefusesAt (refused : Any → Option ℕ) (left_now : Option (List ℕ)) (frames : List Any)
    (rest : List ℕ) (place reason : ℕ) : Type 0 where
  pub at : place ≡ length (frame_bytes frames)
  pub ended : Bool
  pub at_end : ended ≡ true → IsAtEnd left_now
  pub why : reason_at refused ended rest ≡ Some reason

-- What reading a stream to its end comes to, or to what ends it before: these frames were passed,
-- and this was not.
abbrev pub Comes : (refused : Any → Option ℕ) (limit : ℕ) → Option StreamEnd
    → (frames : List Any) (rest : List ℕ) (left_before left_now : Option (List ℕ))
    (faults_before faults_now : ℕ) → Type 0
Comes refused limit None frames rest left_before left_now faults_before faults_now =
    Sees refused limit left_before left_now frames rest × (rest ≡ []) × IsAtEnd left_now
    × (faults_now ≡ faults_before)
Comes refused limit (Some (Refused place reason)) frames rest left_before left_now faults_before
    faults_now =
    Sees refused limit left_before left_now frames rest
    × RefusesAt refused left_now frames rest place reason × (faults_now ≡ faults_before)
Comes refused limit (Some Read) frames rest left_before left_now faults_before faults_now =
    Sees refused limit left_before left_now frames rest × Rose faults_before faults_now
Comes refused limit (Some Write) frames rest left_before left_now faults_before faults_now =
    Sees refused limit left_before left_now frames rest × (faults_now ≡ faults_before)
Comes refused limit (Some TooLong) frames rest left_before left_now faults_before faults_now =
    SeesPast refused limit left_before left_now frames rest × (faults_now ≡ faults_before)
Comes refused limit (Some NoMemory) frames rest left_before left_now faults_before faults_now =
    Sees refused limit left_before left_now frames rest × (faults_now ≡ faults_before)

-- What is written of the frames that were passed: their lines, or a front of these.
abbrev pub WritesOf : Option StreamEnd
    → (frames : List Any) (before now : Option (List ℕ)) (faults_before faults_now : ℕ) → Type 0
WritesOf None frames before now faults_before faults_now = Appends before now (frame_lines frames)
    × (faults_now ≡ faults_before)
WritesOf (Some (Refused place reason)) frames before now faults_before faults_now =
    Appends before now (frame_lines frames) × (faults_now ≡ faults_before)
WritesOf (Some Read) frames before now faults_before faults_now =
    Appends before now (frame_lines frames) × (faults_now ≡ faults_before)
WritesOf (Some Write) frames before now faults_before faults_now =
    WritesFront (frame_lines frames) before now × Rose faults_before faults_now
WritesOf (Some TooLong) frames before now faults_before faults_now =
    Appends before now (frame_lines frames) × (faults_now ≡ faults_before)
WritesOf (Some NoMemory) frames before now faults_before faults_now =
    WritesFront (frame_lines frames) before now × (faults_now ≡ faults_before)

-- what showing a stream comes to
pub record Shows (limit : ℕ) (end : Option StreamEnd)
    (left_before left_now written_before written_now : Option (List ℕ))
    (read_before read_now write_before write_now : ℕ) : Type 0 where
  pub frames : List Any
  pub rest : List ℕ
  pub comes : Comes none_refused limit end frames rest left_before left_now read_before read_now
  pub writes : WritesOf end frames written_before written_now write_before write_now

-- what counting the frames of a stream comes to; the sink isn't called
pub record CountsTo (limit : ℕ) (result : Result Counts StreamEnd)
    (left_before left_now : Option (List ℕ)) (faults_before faults_now : ℕ) : Type 0 where
  pub frames : List Any
  pub rest : List ℕ
  pub comes : Comes no_message_refused limit (result_err result) frames rest left_before left_now
      faults_before faults_now
  pub all : IfOk result (λ counts. counts.frames ≡ length frames)
  pub unknown : IfOk result (λ counts. counts.unknown ≡ unknown_count frames)

-- ---- one piece

-- What the end of the stream comes to, by the bytes that are held.
abbrev pub EndsAt : Result ℕ StreamEnd → Reader → Type 0
EndsAt (Ok count) held = (count ≡ 0) × (held.held ≡ [])
EndsAt (Err (Refused place reason)) held = (place ≡ held.at)
    × ((refused : Any → Option ℕ) → reason_at refused true held.held ≡ Some reason)
EndsAt (Err _) held = ⊥

-- What the next piece of a stream comes to, where the bytes that are held show nothing yet.
abbrev pub NextPiece : Result ℕ StreamEnd
    → (left : ℕ) (before now : Reader) (left_before left_now : Option (List ℕ))
    (faults_before faults_now : ℕ) → Type 0
NextPiece (Ok count) left before now left_before left_now faults_before faults_now =
    Fills left_before left_now before now count left × (count ≡ 0 → now.held ≡ [])
    × (faults_now ≡ faults_before)
NextPiece (Err (Refused place reason)) left before now left_before left_now faults_before
    faults_now =
    Consumes left_before left_now [] × IsAtEnd left_now × (place ≡ before.at)
    × ((refused : Any → Option ℕ) → reason_at refused true before.held ≡ Some reason)
    × (faults_now ≡ faults_before)
NextPiece (Err Read) left before now left_before left_now faults_before faults_now =
    Consumes left_before left_now [] × Rose faults_before faults_now
NextPiece (Err Write) left before now left_before left_now faults_before faults_now = ⊥
NextPiece (Err TooLong) left before now left_before left_now faults_before faults_now =
    (left ≡ 0) × ((piece : List ℕ) × Consumes left_before left_now piece × (0 < length piece))
    × (faults_now ≡ faults_before)
NextPiece (Err NoMemory) left before now left_before left_now faults_before faults_now = ⊥

-- a number has grown by so much; it stops at the last value of a `u64`
abbrev pub Grows : (before now more : ℕ) → Type 0
Grows before now more = (whole : ℕ) → before ≡ min whole (2 ^ 64 - 1) → now
    ≡ min (whole + more) (2 ^ 64 - 1)

-- of the bytes that were held, these frames were passed
pub record PassesHeld (refused : Any → Option ℕ) (before now : Reader) (frames : List Any) : Type 0
  where
    pub passes : Passes refused before.held frames now.held
    pub at : Grows before.at now.at (length (frame_bytes frames))

-- What showing the bytes that are held comes to.
abbrev pub Held : Option StreamEnd → (now : Reader) → Type 0
Held None now = any_front now.held ≡ Open
Held (Some (Refused place reason)) now = (place ≡ now.at)
    × (reason_at none_refused false now.held ≡ Some reason)
Held (Some Read) now = ⊥
Held (Some Write) now = Unit {0}
Held (Some TooLong) now = ⊥
Held (Some NoMemory) now = Unit {0}

pub record ShowsHeld (end : Option StreamEnd) (before now : Reader)
    (written_before written_now : Option (List ℕ)) (faults_before faults_now : ℕ) : Type 0 where
  pub frames : List Any
  pub passes : PassesHeld none_refused before now frames
  pub held : Held end now
  pub writes : WritesOf end frames written_before written_now faults_before faults_now

-- of the lines of these frames, those at the front were written, and these are held
pub record Gathers (frames : List Any) (before now : Option (List ℕ)) (lines : List ℕ) : Type 0
  where
    pub done : List ℕ
    pub parts : frame_lines frames ≡ done ++ lines
    pub added : Appends before now done

-- What writing the gathered lines comes to: those at the front were written, and these are still
-- gathered; or a front of them was written.
abbrev pub WritesLines : Option StreamEnd
    → (lines_before lines_now : List ℕ) (before now : Option (List ℕ))
    (faults_before faults_now : ℕ) → Type 0
WritesLines None lines_before lines_now before now faults_before faults_now =
    ((done : List ℕ) × (lines_before ≡ done ++ lines_now) × Appends before now done)
    × (faults_now ≡ faults_before)
WritesLines (Some Write) lines_before lines_now before now faults_before faults_now =
    WritesFront lines_before before now × Rose faults_before faults_now
WritesLines (Some _) lines_before lines_now before now faults_before faults_now = ⊥

-- what the bytes that are held show after the frames were passed
abbrev pub ShowsThen : Option AnyFault → Reader → Type 0
ShowsThen None now = any_front now.held ≡ Open
ShowsThen (Some fault) now = any_front now.held ≡ Faulty fault

-- what gathering the lines of the frames that are held comes to
abbrev pub Gathered : Result (Option AnyFault) StreamEnd
    → (frames : List Any) (now : Reader) (lines : List ℕ) (before written : Option (List ℕ))
    (faults_before faults_now : ℕ) → Type 0
Gathered (Ok fault) frames now lines before written faults_before faults_now =
    ShowsThen fault now × Gathers frames before written lines × (faults_now ≡ faults_before)
Gathered (Err Write) frames now lines before written faults_before faults_now =
    WritesFront (frame_lines frames) before written × Rose faults_before faults_now
Gathered (Err NoMemory) frames now lines before written faults_before faults_now =
    WritesFront (frame_lines frames) before written × (faults_now ≡ faults_before)
Gathered (Err _) frames now lines before written faults_before faults_now = ⊥

pub record GathersHeld (result : Result (Option AnyFault) StreamEnd) (before now : Reader)
    (lines : List ℕ) (written_before written_now : Option (List ℕ)) (faults_before faults_now : ℕ)
    : Type 0 where
  pub frames : List Any
  pub passes : PassesHeld none_refused before now frames
  pub gathered : Gathered result frames now lines written_before written_now faults_before
      faults_now

-- ---- counting

-- What counting one frame comes to, by why it is no message: the reason why it is refused, or it is
-- counted.
abbrev pub CountsOne : Option LongFault → Option ℕ → (before now : Counts) → Type 0
CountsOne fault reason before now =
    (reason ≡ message_reason fault)
    × (reason ≡ None → Grows before.frames now.frames 1
    × Grows before.unknown now.unknown (one_if (is_unknown_type fault)))

-- What counting the frames that are held comes to.
abbrev pub CountedHeld : Result Unit StreamEnd
    → (frames : List Any) (now : Reader) (before counts : Counts) → Type 0
CountedHeld (Ok done) frames now before counts =
    (any_front now.held ≡ Open) × Grows before.frames counts.frames (length frames)
    × Grows before.unknown counts.unknown (unknown_count frames)
CountedHeld (Err (Refused place reason)) frames now before counts =
    (place ≡ now.at) × (reason_at no_message_refused false now.held ≡ Some reason)
CountedHeld (Err _) frames now before counts = ⊥

pub record CountsHeld (result : Result Unit StreamEnd) (before now : Reader)
    (counts_before counts_now : Counts) : Type 0 where
  pub frames : List Any
  pub passes : PassesHeld no_message_refused before now frames
  pub counted : CountedHeld result frames now counts_before counts_now
