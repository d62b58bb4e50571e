-- How a stream is read piece by piece: what was read so far, and what each end makes of it.
use Rattle.std.proofs.Common.{◌≡◌, ℕ, ◌+◌, ◌-◌, ◌^◌, ◌≤◌, ◌<◌, Bool, true, false, min, List, [], ◌∷◌, ◌++◌, length, Option, Some, None, Ok, Err, refl, sym, ap, subst, ◌∙◌, append_assoc, arith, length-append}
use Rattle.std.specs.Prelude.{Result}
use Rattle.std.specs.Io.KnownBytes.{Appends, Consumes, IsAtEnd, Keeps}
use Rattle.std.proofs.lemmas.List.{append-nil}
use Rattle.std.proofs.lemmas.Grind.{flat_map-append}
use Rattle.omci_core.specs.Causes.{Rose}
use Rattle.omci_core.proofs.Streams.{Consumes-none, Consumes-then, Appends-none, Appends-then}
use Rattle.frame_spec.specs.Baseline.{IsBytes, fault_of}
use Rattle.stream_laws.proofs.Courses.{IsBytes-append}
use Rattle.stream_spec.specs.Streams.{Open, Reader, first_reader}
use Rattle.extended_spec.specs.Frames.{Any, any_spelling, any_fault_of, is_extended}
use Rattle.extended_spec.specs.Streams.{any_front}
use Rattle.whole_writes.specs.Writing.{WritesFront}
use Rattle.show_spec.specs.Shown.{Passes, reason_at, frame_bytes, frame_line, frame_lines, none_refused}
use Rattle.stream_show.specs.declared.ends.StreamEnd.{StreamEnd}
use Rattle.stream_show.specs.declared.ends.StreamEnd.TheVariants.{Refused, Read, Write, TooLong, NoMemory}
use Rattle.stream_show.specs.Buffer.{Fills}
use Rattle.stream_show.specs.Runs.{Sees, SeesPast, RefusesAt, Comes, WritesOf, Shows, NextPiece, PassesHeld, ShowsHeld}
use Rattle.stream_show.proofs.Frames.{nothing_passed, passes_more, passes_then}

-- so much was read and passed, and what is held shows nothing yet
pub record ReadSoFar (refused : Any → Option ℕ) (limit left : ℕ) (before now : Option (List ℕ)) (r : Reader) (frames : List Any) : Type 0 where
  pub bytes : List ℕ
  pub read : Consumes before now bytes
  pub total : length bytes + left ≡ limit
  pub fit : IsBytes bytes
  pub passes : Passes refused bytes frames r.held
  pub at : r.at ≡ min (length (frame_bytes frames)) (2 ^ 64 - 1)
  pub nothing : any_front r.held ≡ Open

-- so much was read and passed
pub record ReadThen (refused : Any → Option ℕ) (limit left : ℕ) (before now : Option (List ℕ)) (r : Reader) (frames : List Any) : Type 0 where
  pub bytes : List ℕ
  pub read : Consumes before now bytes
  pub total : length bytes + left ≡ limit
  pub fit : IsBytes bytes
  pub passes : Passes refused bytes frames r.held
  pub at : r.at ≡ min (length (frame_bytes frames)) (2 ^ 64 - 1)

pub nothing_shown : any_front [] ≡ Open
unfolding any_front any_fault_of is_extended fault_of
nothing_shown = refl

pub read_first : (refused : Any → Option ℕ) (limit : ℕ) (left : Option (List ℕ)) → ReadSoFar refused limit limit left left first_reader []
read_first refused limit left = record {
  bytes = [];
  read = Consumes-none left;
  total = omega arith;
  fit = λ i. omega arith;
  passes = nothing_passed refused [];
  at = refl;
  nothing = nothing_shown;
}

-- a piece more was read, and frames of it passed
pub read_next : (refused : Any → Option ℕ) (limit left count : ℕ) (before middle now : Option (List ℕ)) (r filled s : Reader) (frames more : List Any) →
    ReadSoFar refused limit left before middle r frames → Fills middle now r filled count left → PassesHeld refused filled s more → ReadThen refused limit (left - count) before now s (frames ++ more)
read_next refused limit left count before middle now r filled s frames more so_far fills passed =
    let held : filled.held ≡ r.held ++ fills.piece = ap (λ (x : Reader). x.held) fills.after in
    let at : filled.at ≡ r.at = ap (λ (x : Reader). x.at) fills.after in
    let first = passes_more refused so_far.bytes r.held fills.piece frames so_far.passes in
    let then = subst (λ (z : List ℕ). Passes refused z more s.held) held passed.passes in
    let long : length (frame_bytes (frames ++ more)) ≡ length (frame_bytes frames) + length (frame_bytes more) =
    ap (λ (z : List ℕ). length z) (flat_map-append any_spelling frames more) ∙ length-append (frame_bytes frames) (frame_bytes more) in
    record {
      bytes = so_far.bytes ++ fills.piece;
      read = Consumes-then before middle now so_far.bytes fills.piece so_far.read fills.read.taken;
      total = omega (arith, so_far.total, fills.read.long, fills.read.few, length-append so_far.bytes fills.piece);
      fit = IsBytes-append so_far.bytes fills.piece so_far.fit fills.read.fit;
      passes = passes_then refused (so_far.bytes ++ fills.piece) (r.held ++ fills.piece) s.held frames more first then;
      at = passed.at (length (frame_bytes frames)) (at ∙ so_far.at) ∙ ap (λ (n : ℕ). min n (2 ^ 64 - 1)) (sym long);
    }

pub read_open : (refused : Any → Option ℕ) (limit left : ℕ) (before now : Option (List ℕ)) (r : Reader) (frames : List Any) →
    ReadThen refused limit left before now r frames → any_front r.held ≡ Open → ReadSoFar refused limit left before now r frames
read_open refused limit left before now r frames then nothing = record {
  bytes = then.bytes;
  read = then.read;
  total = then.total;
  fit = then.fit;
  passes = then.passes;
  at = then.at;
  nothing = nothing;
}

pub read_closed : (refused : Any → Option ℕ) (limit left : ℕ) (before now : Option (List ℕ)) (r : Reader) (frames : List Any) →
    ReadSoFar refused limit left before now r frames → ReadThen refused limit left before now r frames
read_closed refused limit left before now r frames so_far = record {
  bytes = so_far.bytes;
  read = so_far.read;
  total = so_far.total;
  fit = so_far.fit;
  passes = so_far.passes;
  at = so_far.at;
}

pub sees_of : (refused : Any → Option ℕ) (limit left : ℕ) (before now : Option (List ℕ)) (r : Reader) (frames : List Any) →
    ReadThen refused limit left before now r frames → Sees refused limit before now frames r.held
sees_of refused limit left before now r frames then = record {
  bytes = then.bytes;
  read = then.read;
  few = omega (arith, then.total);
  fit = then.fit;
  passes = then.passes;
}

-- the place of what is held, where a place has room for the limit
pub place_of : (refused : Any → Option ℕ) (limit left : ℕ) (before now : Option (List ℕ)) (r : Reader) (frames : List Any) →
    ReadThen refused limit left before now r frames → limit < 2 ^ 64 → r.at ≡ length (frame_bytes frames)
place_of refused limit left before now r frames then bound =
    let parts : length then.bytes ≡ length (frame_bytes frames) + length r.held =
    ap (λ (z : List ℕ). length z) then.passes.spelled ∙ length-append (frame_bytes frames) r.held in
    omega (arith, then.at, then.total, parts, bound)

-- nothing more was read
pub read_kept : (refused : Any → Option ℕ) (limit left : ℕ) (before middle now : Option (List ℕ)) (r : Reader) (frames : List Any) →
    ReadThen refused limit left before middle r frames → Consumes middle now [] → ReadThen refused limit left before now r frames
read_kept refused limit left before middle now r frames then none = record {
  bytes = then.bytes;
  read = subst (λ (z : List ℕ). Consumes before now z) (append-nil then.bytes) (Consumes-then before middle now then.bytes [] then.read none);
  total = then.total;
  fit = then.fit;
  passes = then.passes;
  at = then.at;
}

-- what comes where the next piece is none
pub comes_next : (refused : Any → Option ℕ) (limit left : ℕ) (before middle now : Option (List ℕ)) (r s : Reader) (frames : List Any) (f g : ℕ) (e : StreamEnd) →
    ReadSoFar refused limit left before middle r frames → limit < 2 ^ 64 → NextPiece (Err e) left r s middle now f g → Comes refused limit (Some e) frames r.held before now f g
comes_next refused limit left before middle now r s frames f g (Refused place reason) so_far bound next =
    let then = read_kept refused limit left before middle now r frames (read_closed refused limit left before middle r frames so_far) next.0 in (
      sees_of refused limit left before now r frames then,
      record {
        at = next.2 ∙ place_of refused limit left before now r frames then bound;
        ended = true;
        at_end = λ same. next.1;
        why = next.3 refused;
      },
      next.4,
    )
comes_next refused limit left before middle now r s frames f g Read so_far bound next =
    (sees_of refused limit left before now r frames (read_kept refused limit left before middle now r frames (read_closed refused limit left before middle r frames so_far) next.0), next.1)
comes_next refused limit left before middle now r s frames f g Write so_far bound next = elim next [ ]
comes_next refused limit left before middle now r s frames f g TooLong so_far bound next = (
  record {
    bytes = so_far.bytes;
    more = next.1.0;
    read = Consumes-then before middle now so_far.bytes next.1.0 so_far.read next.1.1;
    full = omega (arith, so_far.total, next.0);
    past = next.1.2;
    fit = so_far.fit;
    passes = so_far.passes;
    nothing = so_far.nothing;
  },
  next.2,
)
comes_next refused limit left before middle now r s frames f g NoMemory so_far bound next = elim next [ ]

-- what comes where the stream is at its end
pub comes_end : (refused : Any → Option ℕ) (limit left count : ℕ) (before middle now : Option (List ℕ)) (r s : Reader) (frames : List Any) (f g : ℕ) →
    ReadSoFar refused limit left before middle r frames → NextPiece (Ok count) left r s middle now f g → count ≡ 0 → Comes refused limit None frames s.held before now f g
comes_end refused limit left count before middle now r s frames f g so_far next none =
    let fills = next.0 in
    let empty : fills.piece ≡ [] = no_bytes fills.piece (fills.read.long ∙ none) in
    let first = passes_more refused so_far.bytes r.held fills.piece frames so_far.passes in
    let held : s.held ≡ r.held ++ fills.piece = ap (λ (x : Reader). x.held) fills.after in (
      record {
        bytes = so_far.bytes ++ fills.piece;
        read = Consumes-then before middle now so_far.bytes fills.piece so_far.read fills.read.taken;
        few = omega (arith, so_far.total, fills.read.long, none, length-append so_far.bytes fills.piece);
        fit = IsBytes-append so_far.bytes fills.piece so_far.fit fills.read.fit;
        passes = subst (λ (z : List ℕ). Passes refused (so_far.bytes ++ fills.piece) frames z) (sym held) first;
      },
      next.1 none,
      fills.read.ended none,
      next.2,
    )
  where
    no_bytes : (piece : List ℕ) → length piece ≡ 0 → piece ≡ []
    no_bytes [] long = refl
    no_bytes (byte ∷ piece) long = absurd (omega (arith, long))

-- ---- what is written

pub written_then : (before middle now : Option (List ℕ)) (frames more : List Any) → Appends before middle (frame_lines frames) → Appends middle now (frame_lines more) → Appends before now (frame_lines (frames ++ more))
written_then before middle now frames more first then =
    subst (λ (z : List ℕ). Appends before now z) (sym (flat_map-append frame_line frames more)) (Appends-then before middle now (frame_lines frames) (frame_lines more) first then)

pub front_then : (before middle now : Option (List ℕ)) (frames more : List Any) → Appends before middle (frame_lines frames) → WritesFront (frame_lines more) middle now → WritesFront (frame_lines (frames ++ more)) before now
front_then before middle now frames more first then = (
  frame_lines frames ++ then.0,
  (then.1.0, append_assoc (frame_lines frames) then.0 then.1.0 ∙ ap (λ (z : List ℕ). frame_lines frames ++ z) then.1.1 ∙ sym (flat_map-append frame_line frames more)),
  Appends-then before middle now (frame_lines frames) then.0 first then.2,
)

pub writes_then : (e : Option StreamEnd) (before middle now : Option (List ℕ)) (frames more : List Any) (f g h : ℕ) → Appends before middle (frame_lines frames) → g ≡ f → WritesOf e more middle now g h → WritesOf e (frames ++ more) before now f h
writes_then None before middle now frames more f g h first same then = (written_then before middle now frames more first then.0, then.1 ∙ same)
writes_then (Some (Refused place reason)) before middle now frames more f g h first same then = (written_then before middle now frames more first then.0, then.1 ∙ same)
writes_then (Some Read) before middle now frames more f g h first same then = (written_then before middle now frames more first then.0, then.1 ∙ same)
writes_then (Some Write) before middle now frames more f g h first same then = (front_then before middle now frames more first then.0, subst (λ (n : ℕ). Rose n h) same then.1)
writes_then (Some TooLong) before middle now frames more f g h first same then = (written_then before middle now frames more first then.0, then.1 ∙ same)
writes_then (Some NoMemory) before middle now frames more f g h first same then = (front_then before middle now frames more first then.0, then.1 ∙ same)

-- all lines of the frames passed are written, and then reading ends otherwise than by a write
pub writes_all : (e : StreamEnd) (before now : Option (List ℕ)) (frames : List Any) (f g : ℕ) → Appends before now (frame_lines frames) → g ≡ f → (e ≡ Write → ⊥) → WritesOf (Some e) frames before now f g
writes_all (Refused place reason) before now frames f g all same not = (all, same)
writes_all Read before now frames f g all same not = (all, same)
writes_all Write before now frames f g all same not = absurd (not refl)
writes_all TooLong before now frames f g all same not = (all, same)
writes_all NoMemory before now frames f g all same not = ((frame_lines frames, ([], append-nil (frame_lines frames)), all), same)

pub next_is_no_write : (left : ℕ) (r s : Reader) (middle now : Option (List ℕ)) (f g : ℕ) (e : StreamEnd) → NextPiece (Err e) left r s middle now f g → e ≡ Write → ⊥
next_is_no_write left r s middle now f g (Refused place reason) next same = cc
next_is_no_write left r s middle now f g Read next same = cc
next_is_no_write left r s middle now f g Write next same = elim next [ ]
next_is_no_write left r s middle now f g TooLong next same = cc
next_is_no_write left r s middle now f g NoMemory next same = cc
