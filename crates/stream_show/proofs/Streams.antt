-- Showing a stream, and counting its frames, piece after piece.
use Rattle.std.proofs.Common.{◌≡◌, ℕ, ◌+◌, ◌-◌, ◌^◌, ◌≤◌, ◌<◌, Bool, true, false, min, List, [], ◌∷◌, ◌++◌, length, Option, Some, None, Ok, Err, refl, sym, ap, subst, ◌∙◌, arith, length-append}
use Rattle.std.specs.Prelude.{Result}
use Rattle.std.specs.Io.KnownBytes.{Appends, IsAtEnd}
use Rattle.std.proofs.lemmas.Grind.{flat_map-append}
use Rattle.omci_core.specs.Causes.{Rose}
use Rattle.omci_core.proofs.Streams.{Consumes-none, Appends-none}
use Rattle.stream_show.proofs.Frames.{nothing_passed}
use Rattle.stream_spec.specs.Streams.{Open, Reader, first_reader}
use Rattle.extended_spec.specs.Frames.{Any}
use Rattle.extended_spec.specs.Streams.{any_front}
use Rattle.show_spec.specs.Shown.{Passes, reason_at, frame_bytes, frame_lines, none_refused, no_message_refused, unknown_count}
use Rattle.stream_show.specs.declared.ends.StreamEnd.{StreamEnd}
use Rattle.stream_show.specs.declared.ends.StreamEnd.TheVariants.{Refused, Read, Write, TooLong, NoMemory}
use Rattle.stream_show.specs.declared.counting.Counts.{Counts}
use Rattle.stream_show.specs.Runs.{Sees, RefusesAt, Comes, WritesOf, Shows, CountsTo, NextPiece, PassesHeld, ShowsHeld, CountsHeld, Grows}
use Rattle.stream_show.proofs.Reading.{ReadSoFar, ReadThen, read_first, read_next, read_open, sees_of, place_of, comes_next, comes_end, written_then, writes_then, writes_all, next_is_no_write}
use Rattle.stream_show.proofs.CountLemmas.{grows_then, unknown_then, few_frames, few_unknown, count_is}

-- what comes where the frame at the front of what is held is refused
refused_of : (refused : Any → Option ℕ) (limit left : ℕ) (before now : Option (List ℕ)) (r : Reader) (frames : List Any) (place reason f g : ℕ) →
    ReadThen refused limit left before now r frames → limit < 2 ^ 64 → place ≡ r.at → reason_at refused false r.held ≡ Some reason → g ≡ f → Comes refused limit (Some (Refused place reason)) frames r.held before now f g
refused_of refused limit left before now r frames place reason f g then bound at why same = (
  sees_of refused limit left before now r frames then,
  record {
    at = at ∙ place_of refused limit left before now r frames then bound;
    ended = false;
    at_end = λ wrong. cc;
    why = why;
  },
  same,
)

-- the count of faults at the begin
comes_from : (refused : Any → Option ℕ) (limit : ℕ) (e : Option StreamEnd) (frames : List Any) (rest : List ℕ) (before now : Option (List ℕ)) (f g h : ℕ) → g ≡ f → Comes refused limit e frames rest before now g h → Comes refused limit e frames rest before now f h
comes_from refused limit e frames rest before now f g h same comes = subst (λ (n : ℕ). Comes refused limit e frames rest before now n h) same comes

-- ---- showing

pub record ShowSoFar (limit left : ℕ) (left_before left_now : Option (List ℕ)) (r : Reader) (written_before written_now : Option (List ℕ)) (read_before read_now write_before write_now : ℕ) : Type 0 where
  pub frames : List Any
  pub reads : ReadSoFar none_refused limit left left_before left_now r frames
  pub read_same : read_now ≡ read_before
  pub written : Appends written_before written_now (frame_lines frames)
  pub write_same : write_now ≡ write_before

pub show_first : (limit : ℕ) (l w : Option (List ℕ)) (f k : ℕ) → ShowSoFar limit limit l l first_reader w w f f k k
show_first limit l w f k = record {
  frames = [];
  reads = read_first none_refused limit l;
  read_same = refl;
  written = Appends-none w;
  write_same = refl;
}

pub show_unread : (limit : ℕ) (l w : Option (List ℕ)) (f k : ℕ) → Shows limit (Some NoMemory) l l w w f f k k
show_unread limit l w f k = record {
  frames = [];
  rest = [];
  comes = (
    record {
      bytes = [];
      read = Consumes-none l;
      few = omega arith;
      fit = λ i. omega arith;
      passes = nothing_passed none_refused [];
    },
    refl,
  );
  writes = (([], ([], refl), Appends-none w), refl);
}

module _ (limit left count : ℕ) (l m n w v u : Option (List ℕ)) (r s t : Reader) (f g h k i j : ℕ) where
  pub show_next : ShowSoFar limit left l m r w v f g k i → NextPiece (Ok count) left r s m n g h → ShowsHeld None s t v u i j → ShowSoFar limit (left - count) l n t w u f h k j
  show_next so_far next shown =
      let then = read_next none_refused limit left count l m n r s t so_far.frames shown.frames so_far.reads next.0 shown.passes in
      record {
        frames = so_far.frames ++ shown.frames;
        reads = read_open none_refused limit (left - count) l n t (so_far.frames ++ shown.frames) then shown.held;
        read_same = next.2 ∙ so_far.read_same;
        written = written_then w v u so_far.frames shown.frames so_far.written shown.writes.0;
        write_same = shown.writes.1 ∙ so_far.write_same;
      }

  pub show_lost : (e : StreamEnd) → ShowSoFar limit left l m r w v f g k i → limit < 2 ^ 64 → NextPiece (Err e) left r s m n g h → Shows limit (Some e) l n w v f h k i
  show_lost e so_far bound next = record {
    frames = so_far.frames;
    rest = r.held;
    comes = comes_from none_refused limit (Some e) so_far.frames r.held l n f g h so_far.read_same (comes_next none_refused limit left l m n r s so_far.frames g h e so_far.reads bound next);
    writes = writes_all e w v so_far.frames k i so_far.written so_far.write_same (next_is_no_write left r s m n g h e next);
  }

  pub show_end : ShowSoFar limit left l m r w v f g k i → NextPiece (Ok count) left r s m n g h → count ≡ 0 → Shows limit None l n w v f h k i
  show_end so_far next none = record {
    frames = so_far.frames;
    rest = s.held;
    comes = comes_from none_refused limit None so_far.frames s.held l n f g h so_far.read_same (comes_end none_refused limit left count l m n r s so_far.frames g h so_far.reads next none);
    writes = (so_far.written, so_far.write_same);
  }

  pub show_broken : (e : StreamEnd) → ShowSoFar limit left l m r w v f g k i → limit < 2 ^ 64 → NextPiece (Ok count) left r s m n g h → ShowsHeld (Some e) s t v u i j → Shows limit (Some e) l n w u f h k j
  show_broken (Refused place reason) so_far bound next shown =
      let then = read_next none_refused limit left count l m n r s t so_far.frames shown.frames so_far.reads next.0 shown.passes in
      record {
        frames = so_far.frames ++ shown.frames;
        rest = t.held;
        comes = refused_of none_refused limit (left - count) l n t (so_far.frames ++ shown.frames) place reason f h then bound shown.held.0 shown.held.1 (next.2 ∙ so_far.read_same);
        writes = writes_then (Some (Refused place reason)) w v u so_far.frames shown.frames k i j so_far.written so_far.write_same shown.writes;
      }
  show_broken Read so_far bound next shown = elim shown.held [ ]
  show_broken Write so_far bound next shown =
      let then = read_next none_refused limit left count l m n r s t so_far.frames shown.frames so_far.reads next.0 shown.passes in
      record {
        frames = so_far.frames ++ shown.frames;
        rest = t.held;
        comes = (sees_of none_refused limit (left - count) l n t (so_far.frames ++ shown.frames) then, next.2 ∙ so_far.read_same);
        writes = writes_then (Some Write) w v u so_far.frames shown.frames k i j so_far.written so_far.write_same shown.writes;
      }
  show_broken TooLong so_far bound next shown = elim shown.held [ ]
  show_broken NoMemory so_far bound next shown =
      let then = read_next none_refused limit left count l m n r s t so_far.frames shown.frames so_far.reads next.0 shown.passes in
      record {
        frames = so_far.frames ++ shown.frames;
        rest = t.held;
        comes = (sees_of none_refused limit (left - count) l n t (so_far.frames ++ shown.frames) then, next.2 ∙ so_far.read_same);
        writes = writes_then (Some NoMemory) w v u so_far.frames shown.frames k i j so_far.written so_far.write_same shown.writes;
      }

-- ---- counting

pub record CheckSoFar (limit left : ℕ) (left_before left_now : Option (List ℕ)) (r : Reader) (counts : Counts) (faults_before faults_now : ℕ) : Type 0 where
  pub frames : List Any
  pub reads : ReadSoFar no_message_refused limit left left_before left_now r frames
  pub same : faults_now ≡ faults_before
  pub all : Grows 0 counts.frames (length frames)
  pub unknown : Grows 0 counts.unknown (unknown_count frames)

pub check_first : (limit : ℕ) (l : Option (List ℕ)) (f : ℕ) → CheckSoFar limit limit l l first_reader (record { frames = 0; unknown = 0 }) f f
check_first limit l f = record {
  frames = [];
  reads = read_first no_message_refused limit l;
  same = refl;
  all = grown;
  unknown = grown;
}
  where
    grown : (whole : ℕ) → 0 ≡ min whole (2 ^ 64 - 1) → 0 ≡ min (whole + 0) (2 ^ 64 - 1)
    grown whole is = omega (arith, is)

pub check_unread : (limit : ℕ) (l : Option (List ℕ)) (f : ℕ) → CountsTo limit (Err NoMemory) l l f f
check_unread limit l f = record {
  frames = [];
  rest = [];
  comes = (
    record {
      bytes = [];
      read = Consumes-none l;
      few = omega arith;
      fit = λ i. omega arith;
      passes = nothing_passed no_message_refused [];
    },
    refl,
  );
  all = tt;
  unknown = tt;
}

module _ (limit left count : ℕ) (l m n : Option (List ℕ)) (r s t : Reader) (a b : Counts) (f g h : ℕ) where
  pub check_next : CheckSoFar limit left l m r a f g → NextPiece (Ok count) left r s m n g h → CountsHeld (Ok tt) s t a b → CheckSoFar limit (left - count) l n t b f h
  check_next so_far next counted =
      let then = read_next no_message_refused limit left count l m n r s t so_far.frames counted.frames so_far.reads next.0 counted.passes in
      record {
        frames = so_far.frames ++ counted.frames;
        reads = read_open no_message_refused limit (left - count) l n t (so_far.frames ++ counted.frames) then counted.counted.0;
        same = next.2 ∙ so_far.same;
        all = subst (λ (x : ℕ). Grows 0 b.frames x) (sym (length-append so_far.frames counted.frames)) (grows_then 0 a.frames b.frames (length so_far.frames) (length counted.frames) so_far.all counted.counted.1);
        unknown = subst (λ (x : ℕ). Grows 0 b.unknown x) (sym (unknown_then so_far.frames counted.frames)) (grows_then 0 a.unknown b.unknown (unknown_count so_far.frames) (unknown_count counted.frames) so_far.unknown counted.counted.2);
      }

  pub check_lost : (e : StreamEnd) → CheckSoFar limit left l m r a f g → limit < 2 ^ 64 → NextPiece (Err e) left r s m n g h → CountsTo limit (Err e) l n f h
  check_lost e so_far bound next = record {
    frames = so_far.frames;
    rest = r.held;
    comes = comes_from no_message_refused limit (Some e) so_far.frames r.held l n f g h so_far.same (comes_next no_message_refused limit left l m n r s so_far.frames g h e so_far.reads bound next);
    all = tt;
    unknown = tt;
  }

  pub check_end : CheckSoFar limit left l m r a f g → limit < 2 ^ 64 → NextPiece (Ok count) left r s m n g h → count ≡ 0 → CountsTo limit (Ok a) l n f h
  check_end so_far bound next none =
      let comes = comes_end no_message_refused limit left count l m n r s so_far.frames g h so_far.reads next none in
      let parts : length comes.0.bytes ≡ length (frame_bytes so_far.frames) + length s.held =
      ap (λ (z : List ℕ). length z) comes.0.passes.spelled ∙ length-append (frame_bytes so_far.frames) s.held in
      let few : length so_far.frames ≤ limit = omega (arith, few_frames so_far.frames comes.0.passes.valid, parts, comes.0.few) in
      record {
        frames = so_far.frames;
        rest = s.held;
        comes = comes_from no_message_refused limit None so_far.frames s.held l n f g h so_far.same comes;
        all = count_is a.frames (length so_far.frames) limit so_far.all few bound;
        unknown = count_is a.unknown (unknown_count so_far.frames) limit so_far.unknown (omega (arith, few, few_unknown so_far.frames)) bound;
      }

  pub check_broken : (e : StreamEnd) → CheckSoFar limit left l m r a f g → limit < 2 ^ 64 → NextPiece (Ok count) left r s m n g h → CountsHeld (Err e) s t a b → CountsTo limit (Err e) l n f h
  check_broken (Refused place reason) so_far bound next counted =
      let then = read_next no_message_refused limit left count l m n r s t so_far.frames counted.frames so_far.reads next.0 counted.passes in
      record {
        frames = so_far.frames ++ counted.frames;
        rest = t.held;
        comes = refused_of no_message_refused limit (left - count) l n t (so_far.frames ++ counted.frames) place reason f h then bound counted.counted.0 counted.counted.1 (next.2 ∙ so_far.same);
        all = tt;
        unknown = tt;
      }
  check_broken Read so_far bound next counted = elim counted.counted [ ]
  check_broken Write so_far bound next counted = elim counted.counted [ ]
  check_broken TooLong so_far bound next counted = elim counted.counted [ ]
  check_broken NoMemory so_far bound next counted = elim counted.counted [ ]

-- counting answers no fault of a sink
pub next_no_write : (left : ℕ) (r s : Reader) (m n : Option (List ℕ)) (f g : ℕ) (e : StreamEnd) → NextPiece (Err e) left r s m n f g → e ≡ Write → ⊥
next_no_write left r s m n f g e next same = next_is_no_write left r s m n f g e next same

pub held_no_write : (s t : Reader) (a b : Counts) (e : StreamEnd) → CountsHeld (Err e) s t a b → e ≡ Write → ⊥
held_no_write s t a b (Refused place reason) counted same = cc
held_no_write s t a b Read counted same = elim counted.counted [ ]
held_no_write s t a b Write counted same = elim counted.counted [ ]
held_no_write s t a b TooLong counted same = elim counted.counted [ ]
held_no_write s t a b NoMemory counted same = elim counted.counted [ ]
