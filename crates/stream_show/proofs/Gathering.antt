-- Passing the frames that are held: gathering their lines, and counting them.
use Rattle.std.proofs.Common.{◌≡◌, ℕ, ◌+◌, ◌-◌, ◌^◌, ◌≤◌, ◌<◌, Bool, true, false, min, List, [], ◌∷◌, ◌++◌, length, take, drop, Option, Some, None, Ok, Err, refl, sym, ap, subst, ◌∙◌, append_assoc, arith}
use Rattle.std.specs.Prelude.{Result}
use Rattle.std.specs.Result.{result_err}
use Rattle.std.specs.Io.KnownBytes.{Appends}
use Rattle.omci_core.specs.Causes.{Rose}
use Rattle.omci_core.proofs.Streams.{Appends-none, Appends-then}
use Rattle.frame_spec.specs.Baseline.{IsBytes}
use Rattle.stream_spec.specs.Streams.{Open, Faulty, Whole, Reader, place_after}
use Rattle.extended_spec.specs.declared.AnyFault.{AnyFault}
use Rattle.extended_spec.specs.declared.LongFault.{LongFault}
use Rattle.extended_spec.specs.Frames.{Any, any_of}
use Rattle.extended_spec.specs.Messages.{any_message_fault}
use Rattle.extended_spec.specs.Streams.{any_front}
use Rattle.whole_writes.specs.Writing.{WritesFront}
use Rattle.show_spec.specs.Shown.{frame_line, frame_lines, none_refused, no_message_refused, message_reason, is_unknown_type, one_if, stream_reason, reason_by, reason_at, unknown_count}
use Rattle.stream_show.specs.declared.ends.StreamEnd.{StreamEnd}
use Rattle.stream_show.specs.declared.ends.StreamEnd.TheVariants.{Refused, Read, Write, TooLong, NoMemory}
use Rattle.stream_show.specs.declared.counting.Counts.{Counts}
use Rattle.stream_show.specs.Runs.{PassesHeld, Gathers, WritesLines, GathersHeld, ShowsHeld, Held, WritesOf, CountsOne, CountsHeld, CountedHeld, Grows}
use Rattle.stream_show.proofs.Frames.{IsWhole, held_same, held_next, lines_next}
use Rattle.stream_show.proofs.CountLemmas.{grows_none, grows_then, length_next, unknown_next}

-- ---- lines

-- these frames were passed, and their lines are written or gathered
pub record GatherSoFar (before now : Reader) (written_before written_now : Option (List ℕ)) (lines : List ℕ) (faults_before faults_now : ℕ) : Type 0 where
  pub frames : List Any
  pub passes : PassesHeld none_refused before now frames
  pub gathers : Gathers frames written_before written_now lines
  pub same : faults_now ≡ faults_before

-- a reader after a frame of so many bytes was passed
abbrev pub passed_on : Reader → ℕ → Reader
passed_on r count = record { at = place_after r.at count; held = drop count r.held }

pub gather_first : (r : Reader) (w : Option (List ℕ)) (lines : List ℕ) (f : ℕ) → lines ≡ [] → GatherSoFar r r w w lines f f
gather_first r w lines f empty = record {
  frames = [];
  passes = held_same none_refused r;
  gathers = record { done = []; parts = sym empty; added = Appends-none w };
  same = refl;
}

-- the line of one frame more is gathered
line_more : (frames : List Any) (frame : Any) (w v : Option (List ℕ)) (lines : List ℕ) → Gathers frames w v lines → Gathers (frames ++ frame ∷ []) w v (lines ++ frame_line frame)
line_more frames frame w v lines so_far = record {
  done = so_far.done;
  parts = lines_next frames frame ∙ ap (λ (z : List ℕ). z ++ frame_line frame) so_far.parts ∙ append_assoc so_far.done lines (frame_line frame);
  added = so_far.added;
}

-- some gathered lines are written
lines_less : (frames : List Any) (w v u : Option (List ℕ)) (lines rest done : List ℕ) → Gathers frames w v lines → lines ≡ done ++ rest → Appends v u done → Gathers frames w u rest
lines_less frames w v u lines rest done so_far parts added = record {
  done = so_far.done ++ done;
  parts = so_far.parts ∙ ap (λ (z : List ℕ). so_far.done ++ z) parts ∙ sym (append_assoc so_far.done done rest);
  added = Appends-then w v u so_far.done done so_far.added added;
}

-- of the gathered lines a front is written
lines_front : (frames : List Any) (w v u : Option (List ℕ)) (lines : List ℕ) → Gathers frames w v lines → WritesFront lines v u → WritesFront (frame_lines frames) w u
lines_front frames w v u lines so_far then = (
  so_far.done ++ then.0,
  (then.1.0, append_assoc so_far.done then.0 then.1.0 ∙ ap (λ (z : List ℕ). so_far.done ++ z) then.1.1 ∙ sym so_far.parts),
  Appends-then w v u so_far.done then.0 so_far.added then.2,
)

-- what was written is a front of all lines
written_front : (frames : List Any) (w v : Option (List ℕ)) (lines : List ℕ) → Gathers frames w v lines → WritesFront (frame_lines frames) w v
written_front frames w v lines so_far = (so_far.done, (lines, sym so_far.parts), so_far.added)

pub gather_next : (before r s : Reader) (w v u : Option (List ℕ)) (lines more rest : List ℕ) (f g h count : ℕ) →
    GatherSoFar before r w v lines f g → IsBytes r.held → IsWhole r.held count → more ≡ lines ++ frame_line (any_of r.held) → s ≡ passed_on r count → WritesLines None more rest v u g h →
    GatherSoFar before s w u rest f h
gather_next before r s w v u lines more rest f g h count so_far fit whole line after writes =
    subst (λ (x : Reader). GatherSoFar before x w u rest f h) (sym after) (
    let frames : List Any = so_far.frames ++ any_of r.held ∷ [] in
    let gathered : Gathers frames w v more = subst (λ (z : List ℕ). Gathers frames w v z) (sym line) (line_more so_far.frames (any_of r.held) w v lines so_far.gathers) in
    record {
      frames = frames;
      passes = held_next none_refused before r so_far.frames count so_far.passes fit whole refl;
      gathers = lines_less frames w v u more rest writes.0.0 gathered writes.0.1 writes.0.2;
      same = writes.1 ∙ so_far.same;
    })

pub gather_broken : (before r s : Reader) (w v u : Option (List ℕ)) (lines more rest now : List ℕ) (f g h count : ℕ) (e : StreamEnd) →
    GatherSoFar before r w v lines f g → IsBytes r.held → IsWhole r.held count → more ≡ lines ++ frame_line (any_of r.held) → s ≡ passed_on r count → WritesLines (Some e) more rest v u g h →
    GathersHeld (Err e) before s now w u f h
gather_broken before r s w v u lines more rest now f g h count (Refused place reason) so_far fit whole line after writes = elim writes [ ]
gather_broken before r s w v u lines more rest now f g h count Read so_far fit whole line after writes = elim writes [ ]
gather_broken before r s w v u lines more rest now f g h count Write so_far fit whole line after writes =
    subst (λ (x : Reader). GathersHeld (Err Write) before x now w u f h) (sym after) (
    let frames : List Any = so_far.frames ++ any_of r.held ∷ [] in
    let gathered : Gathers frames w v more = subst (λ (z : List ℕ). Gathers frames w v z) (sym line) (line_more so_far.frames (any_of r.held) w v lines so_far.gathers) in
    record {
      frames = frames;
      passes = held_next none_refused before r so_far.frames count so_far.passes fit whole refl;
      gathered = (lines_front frames w v u more gathered writes.0, subst (λ (n : ℕ). Rose n h) so_far.same writes.1);
    })
gather_broken before r s w v u lines more rest now f g h count TooLong so_far fit whole line after writes = elim writes [ ]
gather_broken before r s w v u lines more rest now f g h count NoMemory so_far fit whole line after writes = elim writes [ ]

pub gather_lost : (before r : Reader) (w v : Option (List ℕ)) (lines now : List ℕ) (f g : ℕ) → GatherSoFar before r w v lines f g → GathersHeld (Err NoMemory) before r now w v f g
gather_lost before r w v lines now f g so_far = record {
  frames = so_far.frames;
  passes = so_far.passes;
  gathered = (written_front so_far.frames w v lines so_far.gathers, so_far.same);
}

pub gather_open : (before r : Reader) (w v : Option (List ℕ)) (lines : List ℕ) (f g : ℕ) → GatherSoFar before r w v lines f g → any_front r.held ≡ Open → GathersHeld (Ok None) before r lines w v f g
gather_open before r w v lines f g so_far nothing = record {
  frames = so_far.frames;
  passes = so_far.passes;
  gathered = (nothing, so_far.gathers, so_far.same);
}

pub gather_faulty : (before r : Reader) (w v : Option (List ℕ)) (lines : List ℕ) (f g : ℕ) (fault : AnyFault) → GatherSoFar before r w v lines f g → any_front r.held ≡ Faulty fault → GathersHeld (Ok (Some fault)) before r lines w v f g
gather_faulty before r w v lines f g fault so_far shown = record {
  frames = so_far.frames;
  passes = so_far.passes;
  gathered = (shown, so_far.gathers, so_far.same);
}

-- ---- all lines that are held

fault_reason : (refused : Any → Option ℕ) (ended : Bool) (rest : List ℕ) (fault : AnyFault) → any_front rest ≡ Faulty fault → reason_at refused ended rest ≡ Some (stream_reason fault)
unfolding reason_at
fault_reason refused ended rest fault shown = ap (reason_by refused ended rest) shown

frame_reason : (refused : Any → Option ℕ) (ended : Bool) (rest : List ℕ) (count reason : ℕ) → IsWhole rest count → refused (any_of rest) ≡ Some reason → reason_at refused ended rest ≡ Some reason
unfolding reason_at
frame_reason refused ended rest count reason whole is = ap (reason_by refused ended rest) whole.front ∙ is

pub held_lost : (e : StreamEnd) (before r : Reader) (lines : List ℕ) (w v : Option (List ℕ)) (f g : ℕ) → GathersHeld (Err e) before r lines w v f g → ShowsHeld (Some e) before r w v f g
held_lost (Refused place reason) before r lines w v f g all = elim all.gathered [ ]
held_lost Read before r lines w v f g all = elim all.gathered [ ]
held_lost Write before r lines w v f g all = record { frames = all.frames; passes = all.passes; held = tt; writes = all.gathered }
held_lost TooLong before r lines w v f g all = elim all.gathered [ ]
held_lost NoMemory before r lines w v f g all = record { frames = all.frames; passes = all.passes; held = tt; writes = all.gathered }

pub held_broken : (e : StreamEnd) (fault : Option AnyFault) (before r : Reader) (lines rest : List ℕ) (w v u : Option (List ℕ)) (f g h : ℕ) →
    GathersHeld (Ok fault) before r lines w v f g → WritesLines (Some e) lines rest v u g h → ShowsHeld (Some e) before r w u f h
held_broken (Refused place reason) fault before r lines rest w v u f g h all writes = elim writes [ ]
held_broken Read fault before r lines rest w v u f g h all writes = elim writes [ ]
held_broken Write fault before r lines rest w v u f g h all writes = record {
  frames = all.frames;
  passes = all.passes;
  held = tt;
  writes = (lines_front all.frames w v u lines all.gathered.1 writes.0, subst (λ (n : ℕ). Rose n h) all.gathered.2 writes.1);
}
held_broken TooLong fault before r lines rest w v u f g h all writes = elim writes [ ]
held_broken NoMemory fault before r lines rest w v u f g h all writes = elim writes [ ]

-- all gathered lines are written
all_lines : (frames : List Any) (w v u : Option (List ℕ)) (lines rest : List ℕ) (g h : ℕ) → Gathers frames w v lines → WritesLines None lines rest v u g h → rest ≡ [] → Appends w u (frame_lines frames)
all_lines frames w v u lines rest g h so_far writes empty =
    let less = lines_less frames w v u lines rest writes.0.0 so_far writes.0.1 writes.0.2 in
    subst (λ (z : List ℕ). Appends w u z) (sym (less.parts ∙ ap (λ (z : List ℕ). less.done ++ z) empty ∙ append_nil less.done)) less.added
  where
    append_nil : (xs : List ℕ) → xs ++ [] ≡ xs
    append_nil [] = refl
    append_nil (x ∷ xs) = ap (λ (z : List ℕ). x ∷ z) (append_nil xs)

pub held_shown : (before r : Reader) (lines rest : List ℕ) (w v u : Option (List ℕ)) (f g h : ℕ) →
    GathersHeld (Ok None) before r lines w v f g → WritesLines None lines rest v u g h → rest ≡ [] → ShowsHeld None before r w u f h
held_shown before r lines rest w v u f g h all writes empty = record {
  frames = all.frames;
  passes = all.passes;
  held = all.gathered.0;
  writes = (all_lines all.frames w v u lines rest g h all.gathered.1 writes empty, writes.1 ∙ all.gathered.2);
}

pub held_refused : (fault : AnyFault) (place reason : ℕ) (before r : Reader) (lines rest : List ℕ) (w v u : Option (List ℕ)) (f g h : ℕ) →
    GathersHeld (Ok (Some fault)) before r lines w v f g → WritesLines None lines rest v u g h → rest ≡ [] → place ≡ r.at → reason ≡ stream_reason fault → ShowsHeld (Some (Refused place reason)) before r w u f h
held_refused fault place reason before r lines rest w v u f g h all writes empty at is = record {
  frames = all.frames;
  passes = all.passes;
  held = (at, fault_reason none_refused false r.held fault all.gathered.0 ∙ ap (λ (n : ℕ). Some n) (sym is));
  writes = (all_lines all.frames w v u lines rest g h all.gathered.1 writes empty, writes.1 ∙ all.gathered.2);
}

-- ---- counting

pub record CountSoFar (before now : Reader) (counts_before counts : Counts) : Type 0 where
  pub frames : List Any
  pub passes : PassesHeld no_message_refused before now frames
  pub all : Grows counts_before.frames counts.frames (length frames)
  pub unknown : Grows counts_before.unknown counts.unknown (unknown_count frames)

pub count_first : (r : Reader) (counts : Counts) → CountSoFar r r counts counts
count_first r counts = record {
  frames = [];
  passes = held_same no_message_refused r;
  all = grows_none counts.frames;
  unknown = grows_none counts.unknown;
}

message_of_frame : (frame : Any) (fault : Option LongFault) (reason : Option ℕ) → fault ≡ any_message_fault frame → reason ≡ message_reason fault → no_message_refused frame ≡ reason
unfolding no_message_refused
message_of_frame frame fault reason of is = sym (is ∙ ap message_reason of)

pub count_next : (before r s : Reader) (a b c : Counts) (count : ℕ) (fault : Option LongFault) → CountSoFar before r a b → IsBytes r.held → IsWhole r.held count → fault ≡ any_message_fault (any_of r.held) → s ≡ passed_on r count → CountsOne fault None b c →
    CountSoFar before s a c
count_next before r s a b c count fault so_far fit whole of after one =
    subst (λ (x : Reader). CountSoFar before x a c) (sym after) (
    let frame : Any = any_of r.held in
    let grown = one.1 refl in
    let known : Grows b.unknown c.unknown (one_if (is_unknown_type (any_message_fault frame))) = subst (λ (x : Option LongFault). Grows b.unknown c.unknown (one_if (is_unknown_type x))) of grown.1 in
    record {
      frames = so_far.frames ++ frame ∷ [];
      passes = held_next no_message_refused before r so_far.frames count so_far.passes fit whole (message_of_frame frame fault None of one.0);
      all = subst (λ (n : ℕ). Grows a.frames c.frames n) (sym (length_next so_far.frames frame)) (grows_then a.frames b.frames c.frames (length so_far.frames) 1 so_far.all grown.0);
      unknown = subst (λ (n : ℕ). Grows a.unknown c.unknown n) (sym (unknown_next so_far.frames frame)) (grows_then a.unknown b.unknown c.unknown (unknown_count so_far.frames) (one_if (is_unknown_type (any_message_fault frame))) so_far.unknown known);
    })

pub count_open : (before r : Reader) (a b : Counts) → CountSoFar before r a b → any_front r.held ≡ Open → CountsHeld (Ok tt) before r a b
count_open before r a b so_far nothing = record { frames = so_far.frames; passes = so_far.passes; counted = (nothing, so_far.all, so_far.unknown) }

pub count_faulty : (before r : Reader) (a b : Counts) (fault : AnyFault) (place reason : ℕ) → CountSoFar before r a b → any_front r.held ≡ Faulty fault → place ≡ r.at → reason ≡ stream_reason fault → CountsHeld (Err (Refused place reason)) before r a b
count_faulty before r a b fault place reason so_far shown at is = record {
  frames = so_far.frames;
  passes = so_far.passes;
  counted = (at, fault_reason no_message_refused false r.held fault shown ∙ ap (λ (n : ℕ). Some n) (sym is));
}

pub count_refused : (before r : Reader) (a b c d : Counts) (count place reason : ℕ) (fault : Option LongFault) → CountSoFar before r a b → IsWhole r.held count → fault ≡ any_message_fault (any_of r.held) → CountsOne fault (Some reason) b c → place ≡ r.at → CountsHeld (Err (Refused place reason)) before r a d
count_refused before r a b c d count place reason fault so_far whole of one at = record {
  frames = so_far.frames;
  passes = so_far.passes;
  counted = (at, frame_reason no_message_refused false r.held count reason whole (message_of_frame (any_of r.held) fault (Some reason) of one.0));
}
