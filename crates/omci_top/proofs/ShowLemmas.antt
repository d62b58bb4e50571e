-- What showing and checking a stream comes to, and what the top call says of it.
use Rattle.std.proofs.Common.{◌≡◌, ◌≢◌, ℕ, ◌<◌, ◌≤◌, ◌⊎◌, inl, inr, Bool, true, false, List, [], ◌∷◌, ◌++◌, length, take, nat_le, Option, Some, None, Ok, Err, refl, sym, ◌∙◌, ap, subst, arith, append_assoc}
use Rattle.std.specs.Prelude.{All, Result}
use Rattle.std.specs.Io.KnownBytes.{Appends, Consumes, IsAtEnd}
use Rattle.std.proofs.lemmas.Bool.{leb-true}
use Rattle.omci_core.specs.Causes.{Rose}
use Rattle.omci_core.proofs.Streams.{Appends-none, Appends-then, Consumes-whole}
use Rattle.stream_spec.specs.Streams.{Open, IsStream}
use Rattle.extended_spec.specs.Frames.{Any, IsAny, any_spelling}
use Rattle.extended_spec.specs.Streams.{any_front}
use Rattle.whole_writes.specs.Writing.{WritesFront}
use Rattle.show_spec.specs.Shown.{Passes, open_reason, reason_by, reason_at, frame_bytes, frame_lines, none_refused, no_message_refused, unknown_count, count_text}
use Rattle.stream_show.specs.declared.ends.StreamEnd.{StreamEnd}
use Rattle.stream_show.specs.declared.ends.StreamEnd.TheVariants as ends
use Rattle.stream_show.specs.declared.counting.Counts.{Counts}
use Rattle.stream_show.specs.Runs.{Sees, SeesPast, RefusesAt, Shows, CountsTo}
use Rattle.stream_show.proofs.Stops.{Stops, stops_open, stops_refused, nothing_at_end, empty_stream, take_all, found, ended_with, past_with}
use Rattle.omci_top.specs.Streams.{ReadsWhole}
use Rattle.omci_top.specs.Texts.{input_text}
use Rattle.omci_top.specs.Answers.{Ran, Told}
use Rattle.omci_top.specs.Shows.{ReadsFrames, FindsFault, fault_lines, AnswersShow, AnswersCheck, frame_counts, HasFault, HasNoFault}
use Rattle.omci_top.specs.declared.status.Status.{Status}
use Rattle.omci_top.specs.declared.status.Status.TheVariants.{Done, Usage, Input, ReadFault, WriteFault, DiskFault, LinkFault, NoUnit, TooLong, NoMemory, TooLarge}

reads_frames : (refused : Any → Option ℕ) (lb ln : Option (List ℕ)) (frames : List Any) (rest : List ℕ) → Sees refused 16777216 lb ln frames rest → rest ≡ [] → IsAtEnd ln → ReadsFrames refused lb ln frames
reads_frames refused lb ln frames rest seen empty at_end =
    let passes : Passes refused seen.bytes frames [] = subst (λ (z : List ℕ). Passes refused seen.bytes frames z) empty seen.passes in
    record {
      input = seen.bytes;
      read = record { taken = seen.read; ended = at_end; bound = seen.few };
      stream = empty_stream refused seen.bytes frames passes;
      passed = seen.passes.passed;
    }

-- ---- show

lines_then : (wb w wn : Option (List ℕ)) (lines text : List ℕ) → Appends wb w lines → WritesFront text w wn → WritesFront (lines ++ text) wb wn
lines_then wb w wn lines text first then = (
  lines ++ then.0,
  (then.1.0, append_assoc lines then.0 then.1.0 ∙ ap (λ (z : List ℕ). lines ++ z) then.1.1),
  Appends-then wb w wn lines then.0 first then.2,
)

module _ (lb ln wb w wn : Option (List ℕ)) (rb rn kb k kn : ℕ) where
  pub show_done : Shows 16777216 None lb ln wb wn rb rn kb kn → AnswersShow Done lb ln wb wn rb rn kb kn
  show_done all = ((all.frames, reads_frames none_refused lb ln all.frames all.rest all.comes.0 all.comes.1 all.comes.2, all.writes.0), all.comes.3, all.writes.1)

  pub show_told : (s : Status) (place reason : ℕ) → Shows 16777216 (Some (ends.Refused place reason)) lb ln wb w rb rn kb k → Told s place reason w wn k kn → AnswersShow s lb ln wb wn rb rn kb kn
  show_told Done place reason all told = elim told [ ]
  show_told Usage place reason all told = elim told [ ]
  show_told (Input line why) place reason all told =
      let base : AnswersShow (Input place reason) lb ln wb wn rb rn kb kn = (
        (
          all.frames,
          record { rest = all.rest; seen = all.comes.0; at = all.comes.1 },
          Appends-then wb w wn (frame_lines all.frames) (input_text place reason) all.writes.0 told.2,
        ),
        all.comes.2,
        told.3 ∙ all.writes.1,
      ) in
      subst (λ (p : ℕ). AnswersShow (Input p why) lb ln wb wn rb rn kb kn) (sym told.0) (subst (λ (q : ℕ). AnswersShow (Input place q) lb ln wb wn rb rn kb kn) (sym told.1) base)
  show_told ReadFault place reason all told = elim told [ ]
  show_told WriteFault place reason all told = (
    record {
      frames = all.frames;
      rest = all.rest;
      seen = all.comes.0;
      front = inr (place, reason, record { rest = all.rest; seen = all.comes.0; at = all.comes.1 }, lines_then wb w wn (frame_lines all.frames) (input_text place reason) all.writes.0 told.0);
    },
    all.comes.2,
    subst (λ (n : ℕ). Rose n kn) all.writes.1 told.1,
  )
  show_told DiskFault place reason all told = elim told [ ]
  show_told LinkFault place reason all told = elim told [ ]
  show_told NoUnit place reason all told = elim told [ ]
  show_told TooLong place reason all told = elim told [ ]
  show_told NoMemory place reason all told = (
    record {
      frames = all.frames;
      rest = all.rest;
      seen = all.comes.0;
      front = inr (place, reason, record { rest = all.rest; seen = all.comes.0; at = all.comes.1 }, lines_then wb w wn (frame_lines all.frames) (input_text place reason) all.writes.0 told.0);
    },
    all.comes.2,
    told.1 ∙ all.writes.1,
  )
  show_told TooLarge place reason all told = elim told [ ]

  pub show_read : Shows 16777216 (Some ends.Read) lb ln wb wn rb rn kb kn → AnswersShow ReadFault lb ln wb wn rb rn kb kn
  show_read all = ((all.frames, all.rest, all.comes.0, all.writes.0), all.comes.1, all.writes.1)

  pub show_write : Shows 16777216 (Some ends.Write) lb ln wb wn rb rn kb kn → AnswersShow WriteFault lb ln wb wn rb rn kb kn
  show_write all = (record { frames = all.frames; rest = all.rest; seen = all.comes.0; front = inl all.writes.0 }, all.comes.1, all.writes.1)

  pub show_long : Shows 16777216 (Some ends.TooLong) lb ln wb wn rb rn kb kn → AnswersShow TooLong lb ln wb wn rb rn kb kn
  show_long all = ((all.frames, all.rest, all.comes.0, all.writes.0), all.comes.1, all.writes.1)

  pub show_memory : Shows 16777216 (Some ends.NoMemory) lb ln wb wn rb rn kb kn → AnswersShow NoMemory lb ln wb wn rb rn kb kn
  show_memory all = (record { frames = all.frames; rest = all.rest; seen = all.comes.0; front = inl all.writes.0 }, all.comes.1, all.writes.1)

-- ---- check

module _ (lb ln wb wn : Option (List ℕ)) (rb rn kb kn : ℕ) where
  pub check_ran : (s : Status) (counts : Counts) → CountsTo 16777216 (Ok counts) lb ln rb rn → Ran s (count_text counts.frames counts.unknown) wb wn kb kn → AnswersCheck s lb ln wb wn rb rn kb kn
  check_ran Done counts all ran =
      let same : count_text counts.frames counts.unknown ≡ frame_counts all.frames = ap (λ (n : ℕ). count_text n counts.unknown) all.all ∙ ap (count_text (length all.frames)) all.unknown in
      ((all.frames, reads_frames no_message_refused lb ln all.frames all.rest all.comes.0 all.comes.1 all.comes.2, subst (λ (z : List ℕ). Appends wb wn z) same ran.0), all.comes.3, ran.1)
  check_ran Usage counts all ran = elim ran [ ]
  check_ran (Input place reason) counts all ran = elim ran [ ]
  check_ran ReadFault counts all ran = elim ran [ ]
  check_ran WriteFault counts all ran =
      let same : count_text counts.frames counts.unknown ≡ frame_counts all.frames = ap (λ (n : ℕ). count_text n counts.unknown) all.all ∙ ap (count_text (length all.frames)) all.unknown in
      (inl (all.frames, reads_frames no_message_refused lb ln all.frames all.rest all.comes.0 all.comes.1 all.comes.2, subst (λ (z : List ℕ). WritesFront z wb wn) same ran.0), all.comes.3, ran.1)
  check_ran DiskFault counts all ran = elim ran [ ]
  check_ran LinkFault counts all ran = elim ran [ ]
  check_ran NoUnit counts all ran = elim ran [ ]
  check_ran TooLong counts all ran = elim ran [ ]
  check_ran NoMemory counts all ran =
      let same : count_text counts.frames counts.unknown ≡ frame_counts all.frames = ap (λ (n : ℕ). count_text n counts.unknown) all.all ∙ ap (count_text (length all.frames)) all.unknown in
      (inr (inl (all.frames, reads_frames no_message_refused lb ln all.frames all.rest all.comes.0 all.comes.1 all.comes.2, subst (λ (z : List ℕ). WritesFront z wb wn) same ran.0)), all.comes.3, ran.1)
  check_ran TooLarge counts all ran = elim ran [ ]

  pub check_told : (s : Status) (place reason : ℕ) → CountsTo 16777216 (Err (ends.Refused place reason)) lb ln rb rn → Told s place reason wb wn kb kn → AnswersCheck s lb ln wb wn rb rn kb kn
  check_told Done place reason all told = elim told [ ]
  check_told Usage place reason all told = elim told [ ]
  check_told (Input line why) place reason all told =
      let base : AnswersCheck (Input place reason) lb ln wb wn rb rn kb kn = (
        (all.frames, record { rest = all.rest; seen = all.comes.0; at = all.comes.1 }, told.2),
        all.comes.2,
        told.3,
      ) in
      subst (λ (p : ℕ). AnswersCheck (Input p why) lb ln wb wn rb rn kb kn) (sym told.0) (subst (λ (q : ℕ). AnswersCheck (Input place q) lb ln wb wn rb rn kb kn) (sym told.1) base)
  check_told ReadFault place reason all told = elim told [ ]
  check_told WriteFault place reason all told =
      (inr (all.frames, place, reason, record { rest = all.rest; seen = all.comes.0; at = all.comes.1 }, told.0), all.comes.2, told.1)
  check_told DiskFault place reason all told = elim told [ ]
  check_told LinkFault place reason all told = elim told [ ]
  check_told NoUnit place reason all told = elim told [ ]
  check_told TooLong place reason all told = elim told [ ]
  check_told NoMemory place reason all told =
      (inr (inr (all.frames, place, reason, record { rest = all.rest; seen = all.comes.0; at = all.comes.1 }, told.0)), all.comes.2, told.1)
  check_told TooLarge place reason all told = elim told [ ]

module _ (lb ln w : Option (List ℕ)) (rb rn k : ℕ) where
  pub check_read : CountsTo 16777216 (Err ends.Read) lb ln rb rn → AnswersCheck ReadFault lb ln w w rb rn k k
  check_read all = ((all.frames, all.rest, all.comes.0), all.comes.1, refl)

  pub check_long : CountsTo 16777216 (Err ends.TooLong) lb ln rb rn → AnswersCheck TooLong lb ln w w rb rn k k
  check_long all = ((all.frames, all.rest, all.comes.0), all.comes.1, refl)

  pub check_memory : CountsTo 16777216 (Err ends.NoMemory) lb ln rb rn → AnswersCheck NoMemory lb ln w w rb rn k k
  check_memory all = (inl (Appends-none w), all.comes.1, refl)

-- ---- what a stream owes

other_place : (o : Option ℕ) (reason : ℕ) → o ≡ None → o ≡ Some reason → ⊥
other_place o reason is other = cc

same_reason : (o : Option ℕ) (p q : ℕ) → o ≡ Some p → o ≡ Some q → p ≡ q
same_reason o p q is other = cc

past_not : (b : Bool) (n : ℕ) → 16777216 < n → nat_le n 16777216 ≡ b → b ≡ false
past_not true n long is = absurd (omega (arith, long, leb-true n 16777216 is))
past_not false n long is = refl

open_past : (refused : Any → Option ℕ) (n : ℕ) (rest : List ℕ) → 16777216 < n → any_front rest ≡ Open → reason_at refused (nat_le n 16777216) rest ≡ None
unfolding reason_at
open_past refused n rest long is = ap (λ (b : Bool). reason_by refused b rest (any_front rest)) (past_not (nat_le n 16777216) n long refl) ∙ ap (reason_by refused false rest) is

module _ (refused : Any → Option ℕ) (bytes : List ℕ) (lb ln : Option (List ℕ)) where
  seen_in : (frames : List Any) (rest : List ℕ) → lb ≡ Some bytes → Sees refused 16777216 lb ln frames rest → Sees refused 16777216 (Some bytes) ln frames rest
  seen_in frames rest told seen = subst (λ (o : Option (List ℕ)). Sees refused 16777216 o ln frames rest) told seen

  past_in : (frames : List Any) (rest : List ℕ) → lb ≡ Some bytes → SeesPast refused 16777216 lb ln frames rest → SeesPast refused 16777216 (Some bytes) ln frames rest
  past_in frames rest told seen = subst (λ (o : Option (List ℕ)). SeesPast refused 16777216 o ln frames rest) told seen

  whole_of : (frames : List Any) → lb ≡ Some bytes → (reads : ReadsFrames refused lb ln frames) → reads.input ≡ bytes
  whole_of frames told reads = Consumes-whole bytes ln reads.input (subst (λ (o : Option (List ℕ)). Consumes o ln reads.input) told reads.read.taken) reads.read.ended

  passes_of : (frames : List Any) → (reads : ReadsFrames refused lb ln frames) → Passes refused reads.input frames []
  passes_of frames reads = record { spelled = reads.stream.spelled; valid = reads.stream.valid; passed = reads.passed }

  -- frames read to the stream's end, though a fault is in it
  whole_or_fault : (frames gs : List Any) (place reason : ℕ) → lb ≡ Some bytes → ReadsFrames refused lb ln frames → HasFault refused bytes gs place reason → ⊥
  whole_or_fault frames gs place reason told reads has =
      let facts = ended_with refused 16777216 bytes reads.input frames gs has.rest (whole_of frames told reads) reads.read.bound (passes_of frames reads) (nothing_at_end refused).1 has.passes (stops_refused refused (nat_le (length bytes) 16777216) has.rest reason has.why) in
      other_place (reason_at refused (nat_le (length bytes) 16777216) has.rest) reason (ap (reason_at refused (nat_le (length bytes) 16777216)) facts.0 ∙ (nothing_at_end refused).0 (nat_le (length bytes) 16777216)) has.why

  whole_or_past : (frames : List Any) → lb ≡ Some bytes → ReadsFrames refused lb ln frames → 16777216 < length bytes → ⊥
  whole_or_past frames told reads long = omega (arith, long, subst (λ (z : List ℕ). length z ≤ 16777216) (whole_of frames told reads) reads.read.bound)

  fault_or_whole : (frames gs : List Any) (place reason : ℕ) → lb ≡ Some bytes → FindsFault refused lb ln frames place reason → length bytes ≤ 16777216 → Passes refused bytes gs [] → ⊥
  fault_or_whole frames gs place reason told finds few passes =
      let mine : Passes refused (take 16777216 bytes) gs [] = subst (λ (z : List ℕ). Passes refused z gs []) (sym (take_all 16777216 bytes few)) passes in
      let facts = found refused 16777216 bytes ln frames gs finds.rest [] place reason (seen_in frames finds.rest told finds.seen) finds.at mine (nothing_at_end refused).1 in
      other_place (reason_at refused (nat_le (length bytes) 16777216) []) reason ((nothing_at_end refused).0 (nat_le (length bytes) 16777216)) facts.why

  fault_is_fault : (frames gs : List Any) (place reason at why : ℕ) → lb ≡ Some bytes → FindsFault refused lb ln frames at why → HasFault refused bytes gs place reason → (at ≡ place) × (why ≡ reason)
  fault_is_fault frames gs place reason at why told finds has =
      let facts = found refused 16777216 bytes ln frames gs finds.rest has.rest at why (seen_in frames finds.rest told finds.seen) finds.at has.passes (stops_refused refused (nat_le (length bytes) 16777216) has.rest reason has.why) in
      (finds.at.at ∙ ap (λ (fs : List Any). length (frame_bytes fs)) facts.same ∙ sym has.at, same_reason (reason_at refused (nat_le (length bytes) 16777216) has.rest) why reason facts.why has.why)

  fault_or_past : (frames gs : List Any) (at why : ℕ) → lb ≡ Some bytes → FindsFault refused lb ln frames at why → 16777216 < length bytes → HasNoFault refused bytes gs → ⊥
  fault_or_past frames gs at why told finds long has =
      let facts = found refused 16777216 bytes ln frames gs finds.rest has.rest at why (seen_in frames finds.rest told finds.seen) finds.at has.passes (stops_open refused has.rest has.nothing) in
      other_place (reason_at refused (nat_le (length bytes) 16777216) has.rest) why (open_past refused (length bytes) has.rest long has.nothing) facts.why

  past_or_whole : (frames gs : List Any) (rest : List ℕ) → lb ≡ Some bytes → SeesPast refused 16777216 lb ln frames rest → length bytes ≤ 16777216 → Passes refused bytes gs [] → ⊥
  past_or_whole frames gs rest told seen few passes =
      let mine : Passes refused (take 16777216 bytes) gs [] = subst (λ (z : List ℕ). Passes refused z gs []) (sym (take_all 16777216 bytes few)) passes in
      omega (arith, few, (past_with refused 16777216 bytes ln frames gs rest [] (past_in frames rest told seen) mine (nothing_at_end refused).1).0)

  past_or_fault : (frames gs : List Any) (rest : List ℕ) (place reason : ℕ) → lb ≡ Some bytes → SeesPast refused 16777216 lb ln frames rest → HasFault refused bytes gs place reason → ⊥
  past_or_fault frames gs rest place reason told seen has =
      let facts = past_with refused 16777216 bytes ln frames gs rest has.rest (past_in frames rest told seen) has.passes (stops_refused refused (nat_le (length bytes) 16777216) has.rest reason has.why) in
      other_place (reason_at refused (nat_le (length bytes) 16777216) has.rest) reason (open_past refused (length bytes) has.rest facts.0 facts.1) has.why

module _ (bytes : List ℕ) (lb ln wb wn : Option (List ℕ)) (rb rn kb kn : ℕ) where
  pub show_runs_of : (s : Status) → AnswersShow s lb ln wb wn rb rn kb kn → (frames : List Any) → lb ≡ Some bytes → length bytes ≤ 16777216 → Passes none_refused bytes frames [] → ¬ Rose rb rn → ¬ Rose kb kn → s ≢ NoMemory → s ≡ Done
  show_runs_of Done a frames told few passes calm_source calm_sink some = refl
  show_runs_of Usage a frames told few passes calm_source calm_sink some = elim a [ ]
  show_runs_of (Input place reason) a frames told few passes calm_source calm_sink some = absurd (fault_or_whole none_refused bytes lb ln a.0.0 frames place reason told a.0.1 few passes)
  show_runs_of ReadFault a frames told few passes calm_source calm_sink some = absurd (calm_source a.1)
  show_runs_of WriteFault a frames told few passes calm_source calm_sink some = absurd (calm_sink a.2)
  show_runs_of DiskFault a frames told few passes calm_source calm_sink some = elim a [ ]
  show_runs_of LinkFault a frames told few passes calm_source calm_sink some = elim a [ ]
  show_runs_of NoUnit a frames told few passes calm_source calm_sink some = elim a [ ]
  show_runs_of TooLong a frames told few passes calm_source calm_sink some = absurd (past_or_whole none_refused bytes lb ln a.0.0 frames a.0.1 told a.0.2 few passes)
  show_runs_of NoMemory a frames told few passes calm_source calm_sink some = absurd (some refl)
  show_runs_of TooLarge a frames told few passes calm_source calm_sink some = elim a [ ]

  same_input : (p q r s : ℕ) → (p ≡ r) × (q ≡ s) → Input p q ≡ Input r s
  same_input p q r s is = ap (λ (n : ℕ). Input n q) is.0 ∙ ap (λ (n : ℕ). Input r n) is.1

  pub show_refuses_of : (s : Status) → AnswersShow s lb ln wb wn rb rn kb kn → (frames : List Any) (place reason : ℕ) → lb ≡ Some bytes → HasFault none_refused bytes frames place reason → ¬ Rose rb rn → ¬ Rose kb kn → s ≢ NoMemory → s ≡ Input place reason
  show_refuses_of Done a frames place reason told has calm_source calm_sink some = absurd (whole_or_fault none_refused bytes lb ln a.0.0 frames place reason told a.0.1 has)
  show_refuses_of Usage a frames place reason told has calm_source calm_sink some = elim a [ ]
  show_refuses_of (Input at why) a frames place reason told has calm_source calm_sink some = same_input at why place reason (fault_is_fault none_refused bytes lb ln a.0.0 frames place reason at why told a.0.1 has)
  show_refuses_of ReadFault a frames place reason told has calm_source calm_sink some = absurd (calm_source a.1)
  show_refuses_of WriteFault a frames place reason told has calm_source calm_sink some = absurd (calm_sink a.2)
  show_refuses_of DiskFault a frames place reason told has calm_source calm_sink some = elim a [ ]
  show_refuses_of LinkFault a frames place reason told has calm_source calm_sink some = elim a [ ]
  show_refuses_of NoUnit a frames place reason told has calm_source calm_sink some = elim a [ ]
  show_refuses_of TooLong a frames place reason told has calm_source calm_sink some = absurd (past_or_fault none_refused bytes lb ln a.0.0 frames a.0.1 place reason told a.0.2 has)
  show_refuses_of NoMemory a frames place reason told has calm_source calm_sink some = absurd (some refl)
  show_refuses_of TooLarge a frames place reason told has calm_source calm_sink some = elim a [ ]

  pub show_stops_of : (s : Status) → AnswersShow s lb ln wb wn rb rn kb kn → (frames : List Any) → lb ≡ Some bytes → 16777216 < length bytes → HasNoFault none_refused bytes frames → ¬ Rose rb rn → ¬ Rose kb kn → s ≢ NoMemory → s ≡ TooLong
  show_stops_of Done a frames told long has calm_source calm_sink some = absurd (whole_or_past none_refused bytes lb ln a.0.0 told a.0.1 long)
  show_stops_of Usage a frames told long has calm_source calm_sink some = elim a [ ]
  show_stops_of (Input at why) a frames told long has calm_source calm_sink some = absurd (fault_or_past none_refused bytes lb ln a.0.0 frames at why told a.0.1 long has)
  show_stops_of ReadFault a frames told long has calm_source calm_sink some = absurd (calm_source a.1)
  show_stops_of WriteFault a frames told long has calm_source calm_sink some = absurd (calm_sink a.2)
  show_stops_of DiskFault a frames told long has calm_source calm_sink some = elim a [ ]
  show_stops_of LinkFault a frames told long has calm_source calm_sink some = elim a [ ]
  show_stops_of NoUnit a frames told long has calm_source calm_sink some = elim a [ ]
  show_stops_of TooLong a frames told long has calm_source calm_sink some = refl
  show_stops_of NoMemory a frames told long has calm_source calm_sink some = absurd (some refl)
  show_stops_of TooLarge a frames told long has calm_source calm_sink some = elim a [ ]

  pub check_runs_of : (s : Status) → AnswersCheck s lb ln wb wn rb rn kb kn → (frames : List Any) → lb ≡ Some bytes → length bytes ≤ 16777216 → Passes no_message_refused bytes frames [] → ¬ Rose rb rn → ¬ Rose kb kn → s ≢ NoMemory → s ≡ Done
  check_runs_of Done a frames told few passes calm_source calm_sink some = refl
  check_runs_of Usage a frames told few passes calm_source calm_sink some = elim a [ ]
  check_runs_of (Input place reason) a frames told few passes calm_source calm_sink some = absurd (fault_or_whole no_message_refused bytes lb ln a.0.0 frames place reason told a.0.1 few passes)
  check_runs_of ReadFault a frames told few passes calm_source calm_sink some = absurd (calm_source a.1)
  check_runs_of WriteFault a frames told few passes calm_source calm_sink some = absurd (calm_sink a.2)
  check_runs_of DiskFault a frames told few passes calm_source calm_sink some = elim a [ ]
  check_runs_of LinkFault a frames told few passes calm_source calm_sink some = elim a [ ]
  check_runs_of NoUnit a frames told few passes calm_source calm_sink some = elim a [ ]
  check_runs_of TooLong a frames told few passes calm_source calm_sink some = absurd (past_or_whole no_message_refused bytes lb ln a.0.0 frames a.0.1 told a.0.2 few passes)
  check_runs_of NoMemory a frames told few passes calm_source calm_sink some = absurd (some refl)
  check_runs_of TooLarge a frames told few passes calm_source calm_sink some = elim a [ ]

  pub check_refuses_of : (s : Status) → AnswersCheck s lb ln wb wn rb rn kb kn → (frames : List Any) (place reason : ℕ) → lb ≡ Some bytes → HasFault no_message_refused bytes frames place reason → ¬ Rose rb rn → ¬ Rose kb kn → s ≢ NoMemory → s ≡ Input place reason
  check_refuses_of Done a frames place reason told has calm_source calm_sink some = absurd (whole_or_fault no_message_refused bytes lb ln a.0.0 frames place reason told a.0.1 has)
  check_refuses_of Usage a frames place reason told has calm_source calm_sink some = elim a [ ]
  check_refuses_of (Input at why) a frames place reason told has calm_source calm_sink some = same_input at why place reason (fault_is_fault no_message_refused bytes lb ln a.0.0 frames place reason at why told a.0.1 has)
  check_refuses_of ReadFault a frames place reason told has calm_source calm_sink some = absurd (calm_source a.1)
  check_refuses_of WriteFault a frames place reason told has calm_source calm_sink some = absurd (calm_sink a.2)
  check_refuses_of DiskFault a frames place reason told has calm_source calm_sink some = elim a [ ]
  check_refuses_of LinkFault a frames place reason told has calm_source calm_sink some = elim a [ ]
  check_refuses_of NoUnit a frames place reason told has calm_source calm_sink some = elim a [ ]
  check_refuses_of TooLong a frames place reason told has calm_source calm_sink some = absurd (past_or_fault no_message_refused bytes lb ln a.0.0 frames a.0.1 place reason told a.0.2 has)
  check_refuses_of NoMemory a frames place reason told has calm_source calm_sink some = absurd (some refl)
  check_refuses_of TooLarge a frames place reason told has calm_source calm_sink some = elim a [ ]

  pub check_stops_of : (s : Status) → AnswersCheck s lb ln wb wn rb rn kb kn → (frames : List Any) → lb ≡ Some bytes → 16777216 < length bytes → HasNoFault no_message_refused bytes frames → ¬ Rose rb rn → ¬ Rose kb kn → s ≢ NoMemory → s ≡ TooLong
  check_stops_of Done a frames told long has calm_source calm_sink some = absurd (whole_or_past no_message_refused bytes lb ln a.0.0 told a.0.1 long)
  check_stops_of Usage a frames told long has calm_source calm_sink some = elim a [ ]
  check_stops_of (Input at why) a frames told long has calm_source calm_sink some = absurd (fault_or_past no_message_refused bytes lb ln a.0.0 frames at why told a.0.1 long has)
  check_stops_of ReadFault a frames told long has calm_source calm_sink some = absurd (calm_source a.1)
  check_stops_of WriteFault a frames told long has calm_source calm_sink some = absurd (calm_sink a.2)
  check_stops_of DiskFault a frames told long has calm_source calm_sink some = elim a [ ]
  check_stops_of LinkFault a frames told long has calm_source calm_sink some = elim a [ ]
  check_stops_of NoUnit a frames told long has calm_source calm_sink some = elim a [ ]
  check_stops_of TooLong a frames told long has calm_source calm_sink some = refl
  check_stops_of NoMemory a frames told long has calm_source calm_sink some = absurd (some refl)
  check_stops_of TooLarge a frames told long has calm_source calm_sink some = elim a [ ]
