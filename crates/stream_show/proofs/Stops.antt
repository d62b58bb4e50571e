-- A stream has one list of frames that are passed, and one thing that ends it.
use Rattle.std.proofs.Common.{◌≡◌, ℕ, zero, suc, ◌+◌, ◌-◌, ◌≤◌, ◌<◌, Bool, true, false, List, [], ◌∷◌, ◌++◌, length, take, drop, nat_le, Option, Some, None, refl, sym, ap, subst, ◌∙◌, append_assoc, arith, length-append}
use Rattle.std.specs.Prelude.{All}
use Rattle.std.specs.Io.KnownBytes.{Consumes, IsAtEnd}
use Rattle.std.proofs.lemmas.Bool.{le-leb}
use Rattle.std.proofs.lemmas.List.{take-append-le, length-take}
use Rattle.omci_core.proofs.Streams.{Consumes-whole}
use Rattle.frame_spec.specs.Baseline.{IsBytes}
use Rattle.stream_spec.specs.Streams.{Front, Whole, Open, Faulty, BeginsWith, IsStream}
use Rattle.stream_laws.specs.Sets.{IsSet}
use Rattle.stream_laws.proofs.Courses.{IsBytes-drop}
use Rattle.stream_laws.proofs.Unique.{unique}
use Rattle.extended_spec.specs.declared.AnyFault.{AnyFault}
use Rattle.extended_spec.specs.Frames.{Any, IsAny, any_spelling}
use Rattle.extended_spec.specs.Streams.{any_front}
use Rattle.extended_laws.proofs.Sets.{set}
use Rattle.extended_laws.proofs.Stands.{any_fault_stands}
use Rattle.show_spec.specs.Shown.{Passes, stream_reason, open_reason, reason_by, reason_at, frame_bytes}
use Rattle.stream_show.specs.Runs.{Sees, SeesPast, RefusesAt}
use Rattle.stream_show.proofs.Frames.{passes_more}
use Rattle.stream_show.proofs.Reading.{nothing_shown}

-- ---- frames that are passed are a set of which streams can be read

abbrev pub IsPassed : (Any → Option ℕ) → Any → Type 0
IsPassed refused frame = IsAny frame × (refused frame ≡ None)

abbrev whole_or : Option ℕ → Any → ℕ → Front Any ℕ
whole_or None frame count = Whole frame count
whole_or (Some reason) frame count = Faulty reason

-- a frame that is refused counts as a fault
abbrev passed_by : (Any → Option ℕ) → Front Any AnyFault → Front Any ℕ
passed_by refused (Whole frame count) = whole_or (refused frame) frame count
passed_by refused Open = Open
passed_by refused (Faulty fault) = Faulty (stream_reason fault)

whole_is : (reason : Option ℕ) (f g : Any) (n m : ℕ) → whole_or reason f n ≡ Whole g m → (reason ≡ None) × (f ≡ g) × (n ≡ m)
whole_is None f g n m is = (refl, cc, cc)
whole_is (Some reason) f g n m is = cc

whole_by : (refused : Any → Option ℕ) (shown : Front Any AnyFault) (frame : Any) (count : ℕ) → passed_by refused shown ≡ Whole frame count → (shown ≡ Whole frame count) × (refused frame ≡ None)
whole_by refused (Whole f n) frame count is =
    let facts = whole_is (refused f) f frame n count is in
    (ap (λ (g : Any). Whole g n) facts.1 ∙ ap (λ (m : ℕ). Whole frame m) facts.2, ap refused (sym facts.1) ∙ facts.0)
whole_by refused Open frame count is = cc
whole_by refused (Faulty fault) frame count is = cc

passed_whole : (refused : Any → Option ℕ) (bytes : List ℕ) (frame : Any) (count : ℕ) → IsBytes bytes → passed_by refused (any_front bytes) ≡ Whole frame count →
    IsPassed refused frame × (take count bytes ≡ any_spelling frame) × (count ≡ length (any_spelling frame))
passed_whole refused bytes frame count fit is =
    let facts = whole_by refused (any_front bytes) frame count is in
    let whole = set.whole bytes frame count fit facts.0 in
    ((whole.0, facts.1), whole.1, whole.2)

passed_found : (refused : Any → Option ℕ) (bytes : List ℕ) (frame : Any) → IsPassed refused frame → BeginsWith (any_spelling frame) bytes → passed_by refused (any_front bytes) ≡ Whole frame (length (any_spelling frame))
passed_found refused bytes frame valid begins =
    ap (passed_by refused) (set.found bytes frame valid.0 begins)
    ∙ ap (λ (o : Option ℕ). whole_or o frame (length (any_spelling frame))) valid.1

passed_set : (refused : Any → Option ℕ) → IsSet (IsPassed refused) any_spelling (λ bytes. passed_by refused (any_front bytes))
passed_set refused = record { whole = passed_whole refused; found = passed_found refused }

-- ---- what stops a stream

-- no frame that is passed stands at the front
abbrev pub Stops : (Any → Option ℕ) → List ℕ → Type 0
Stops refused rest = (frame : Any) → IsPassed refused frame → BeginsWith (any_spelling frame) rest → ⊥

open_is_not : (shown : Front Any AnyFault) (frame : Any) (count : ℕ) → shown ≡ Open → shown ≡ Whole frame count → ⊥
open_is_not shown frame count is other = cc

pub stops_open : (refused : Any → Option ℕ) (rest : List ℕ) → any_front rest ≡ Open → Stops refused rest
stops_open refused rest is frame valid begins = open_is_not (any_front rest) frame (length (any_spelling frame)) is (set.found rest frame valid.0 begins)

none_or : (o : Option ℕ) (reason : ℕ) → o ≡ None → o ≡ Some reason → ⊥
none_or o reason is other = cc

reason_whole : (refused : Any → Option ℕ) (ended : Bool) (rest : List ℕ) (frame : Any) (count : ℕ) → any_front rest ≡ Whole frame count → reason_at refused ended rest ≡ refused frame
unfolding reason_at
reason_whole refused ended rest frame count is = ap (reason_by refused ended rest) is

pub stops_refused : (refused : Any → Option ℕ) (ended : Bool) (rest : List ℕ) (reason : ℕ) → reason_at refused ended rest ≡ Some reason → Stops refused rest
stops_refused refused ended rest reason is frame valid begins =
    none_or (refused frame) reason valid.1 (sym (reason_whole refused ended rest frame (length (any_spelling frame)) (set.found rest frame valid.0 begins)) ∙ is)

stream_of : (refused : Any → Option ℕ) (bytes : List ℕ) (frames : List Any) (rest : List ℕ) → Passes refused bytes frames rest → Stops refused rest → IsStream (IsPassed refused) any_spelling bytes frames rest
stream_of refused bytes frames rest passes stops = record {
  spelled = passes.spelled;
  valid = λ k d within. (passes.valid k d within, passes.passed k d within);
  no_more = stops;
}

-- frames and rest are the only ones
pub passes_once : (refused : Any → Option ℕ) (bytes : List ℕ) (fs gs : List Any) (r s : List ℕ) → Passes refused bytes fs r → Passes refused bytes gs s → Stops refused r → Stops refused s → (fs ≡ gs) × (r ≡ s)
passes_once refused bytes fs gs r s one other stops ends =
    unique (IsPassed refused) any_spelling (λ b. passed_by refused (any_front b)) (passed_set refused) bytes fs gs r s (stream_of refused bytes fs r one stops) (stream_of refused bytes gs s other ends)

-- where no byte is left nothing is refused, and no frame stands there
pub nothing_at_end : (refused : Any → Option ℕ) → ((ended : Bool) → reason_at refused ended [] ≡ None) × Stops refused []
unfolding reason_at
nothing_at_end refused = (λ ended. ap (reason_by refused ended []) nothing_shown ∙ none_left ended, stops_open refused [] nothing_shown)
  where
    none_left : (ended : Bool) → open_reason ended [] ≡ None
    none_left true = refl
    none_left false = refl

-- frames with nothing after them are a stream
pub empty_stream : (refused : Any → Option ℕ) (bytes : List ℕ) (frames : List Any) → Passes refused bytes frames [] → IsStream IsAny any_spelling bytes frames []
empty_stream refused bytes frames passes = record {
  spelled = passes.spelled;
  valid = passes.valid;
  no_more = λ frame valid begins. open_is_not (any_front []) frame (length (any_spelling frame)) nothing_shown (set.found [] frame valid begins);
}

-- ---- what stops a stream stops it, whatever follows

begins_more : (front bytes more : List ℕ) → BeginsWith front bytes → BeginsWith front (bytes ++ more)
begins_more front bytes more is =
    let few : length front ≤ length bytes = omega (arith, ap (λ (z : List ℕ). length z) is, length-take (length front) bytes) in
    take-append-le (length front) bytes more few ∙ is

reason_stays : (refused : Any → Option ℕ) (ended : Bool) (rest more : List ℕ) (reason : ℕ) (shown : Front Any AnyFault) → IsBytes rest → any_front rest ≡ shown → reason_by refused false rest shown ≡ Some reason → reason_at refused ended (rest ++ more) ≡ Some reason
unfolding reason_at
reason_stays refused ended rest more reason (Whole frame count) fit is why =
    let facts = set.whole rest frame count fit is in
    let begins : BeginsWith (any_spelling frame) rest = ap (λ (n : ℕ). take n rest) (sym facts.2) ∙ facts.1 in
    ap (reason_by refused ended (rest ++ more)) (set.found (rest ++ more) frame facts.0 (begins_more (any_spelling frame) rest more begins)) ∙ why
reason_stays refused ended rest more reason Open fit is why = cc
reason_stays refused ended rest more reason (Faulty fault) fit is why = ap (reason_by refused ended (rest ++ more)) (any_fault_stands rest more fault is) ∙ why

pub reason_more : (refused : Any → Option ℕ) (ended : Bool) (rest more : List ℕ) (reason : ℕ) → IsBytes rest → reason_at refused false rest ≡ Some reason → reason_at refused ended (rest ++ more) ≡ Some reason
unfolding reason_at
reason_more refused ended rest more reason fit why = reason_stays refused ended rest more reason (any_front rest) fit refl why

after_front : (front rest : List ℕ) → drop (length front) (front ++ rest) ≡ rest
after_front [] rest = refl
after_front (x ∷ front) rest = after_front front rest

rest_fits : (refused : Any → Option ℕ) (bytes : List ℕ) (frames : List Any) (rest : List ℕ) → IsBytes bytes → Passes refused bytes frames rest → IsBytes rest
rest_fits refused bytes frames rest fit passes =
    subst (λ (z : List ℕ). IsBytes z) (ap (drop (length (frame_bytes frames))) passes.spelled ∙ after_front (frame_bytes frames) rest) (IsBytes-drop (length (frame_bytes frames)) bytes fit)

-- ---- what is found in a stream whose bytes are known

take_none : (n : ℕ) → take {A = ℕ} n [] ≡ []
take_none zero = refl
take_none (suc n) = refl

-- the bytes up to a limit
pub take_all : (n : ℕ) (bytes : List ℕ) → length bytes ≤ n → take n bytes ≡ bytes
take_all n [] few = take_none n
take_all zero (x ∷ bytes) few = absurd (omega (arith, few))
take_all (suc n) (x ∷ bytes) few = ap (λ (z : List ℕ). x ∷ z) (take_all n bytes (omega (arith, few)))

take_more : (n : ℕ) (bytes more : List ℕ) → length bytes ≤ n → take n (bytes ++ more) ≡ bytes ++ take (n - length bytes) more
take_more n [] more few = let same : n ≡ n - 0 = omega arith in ap (λ (m : ℕ). take m more) same
take_more zero (x ∷ bytes) more few = absurd (omega (arith, few))
take_more (suc n) (x ∷ bytes) more few =
    let same : n - length bytes ≡ suc n - suc (length bytes) = omega arith in
    ap (λ (z : List ℕ). x ∷ z) (take_more n bytes more (omega (arith, few))) ∙ ap (λ (m : ℕ). x ∷ (bytes ++ take m more)) same

consumed : (all bytes : List ℕ) (now : Option (List ℕ)) → Consumes (Some all) now bytes → (later : List ℕ) × (all ≡ bytes ++ later)
consumed all bytes None read = elim read [ ]
consumed all bytes (Some later) read = (later, read)

pub record IsFound (refused : Any → Option ℕ) (limit : ℕ) (all : List ℕ) (frames gs : List Any) (rs : List ℕ) (reason : ℕ) : Type 0 where
  pub same : frames ≡ gs
  pub why : reason_at refused (nat_le (length all) limit) rs ≡ Some reason

found_at_end : (refused : Any → Option ℕ) (limit : ℕ) (all : List ℕ) (now : Option (List ℕ)) (frames gs : List Any) (rest rs : List ℕ) (reason : ℕ) →
    Sees refused limit (Some all) now frames rest → IsAtEnd now → reason_at refused true rest ≡ Some reason → Passes refused (take limit all) gs rs → Stops refused rs → IsFound refused limit all frames gs rs reason
found_at_end refused limit all now frames gs rest rs reason seen at_end why passes stops =
    let whole : seen.bytes ≡ all = Consumes-whole all now seen.bytes seen.read at_end in
    let few : length all ≤ limit = subst (λ (z : List ℕ). length z ≤ limit) whole seen.few in
    let mine : Passes refused (take limit all) frames rest = subst (λ (z : List ℕ). Passes refused z frames rest) (whole ∙ sym (take_all limit all few)) seen.passes in
    let once = passes_once refused (take limit all) frames gs rest rs mine passes (stops_refused refused true rest reason why) stops in
    record {
      same = once.0;
      why = ap (λ (b : Bool). reason_at refused b rs) (le-leb (length all) limit few) ∙ ap (reason_at refused true) (sym once.1) ∙ why;
    }

found_before : (refused : Any → Option ℕ) (limit : ℕ) (all : List ℕ) (now : Option (List ℕ)) (frames gs : List Any) (rest rs : List ℕ) (reason : ℕ) →
    Sees refused limit (Some all) now frames rest → reason_at refused false rest ≡ Some reason → Passes refused (take limit all) gs rs → Stops refused rs → IsFound refused limit all frames gs rs reason
found_before refused limit all now frames gs rest rs reason seen why passes stops =
    let split = consumed all seen.bytes now seen.read in
    let more : List ℕ = take (limit - length seen.bytes) split.0 in
    let parts : take limit all ≡ seen.bytes ++ more = ap (take limit) split.1 ∙ take_more limit seen.bytes split.0 seen.few in
    let mine : Passes refused (take limit all) frames (rest ++ more) = subst (λ (z : List ℕ). Passes refused z frames (rest ++ more)) (sym parts) (passes_more refused seen.bytes rest more frames seen.passes) in
    let fit = rest_fits refused seen.bytes frames rest seen.fit seen.passes in
    let still : (ended : Bool) → reason_at refused ended (rest ++ more) ≡ Some reason = λ ended. reason_more refused ended rest more reason fit why in
    let once = passes_once refused (take limit all) frames gs (rest ++ more) rs mine passes (stops_refused refused true (rest ++ more) reason (still true)) stops in
    record {
      same = once.0;
      why = ap (reason_at refused (nat_le (length all) limit)) (sym once.1) ∙ still (nat_le (length all) limit);
    }

found_by : (refused : Any → Option ℕ) (limit : ℕ) (all : List ℕ) (now : Option (List ℕ)) (frames gs : List Any) (rest rs : List ℕ) (reason : ℕ) (ended : Bool) →
    Sees refused limit (Some all) now frames rest → (ended ≡ true → IsAtEnd now) → reason_at refused ended rest ≡ Some reason → Passes refused (take limit all) gs rs → Stops refused rs → IsFound refused limit all frames gs rs reason
found_by refused limit all now frames gs rest rs reason true seen at_end why passes stops = found_at_end refused limit all now frames gs rest rs reason seen (at_end refl) why passes stops
found_by refused limit all now frames gs rest rs reason false seen at_end why passes stops = found_before refused limit all now frames gs rest rs reason seen why passes stops

-- what was found is what is there
pub found : (refused : Any → Option ℕ) (limit : ℕ) (all : List ℕ) (now : Option (List ℕ)) (frames gs : List Any) (rest rs : List ℕ) (place reason : ℕ) →
    Sees refused limit (Some all) now frames rest → RefusesAt refused now frames rest place reason → Passes refused (take limit all) gs rs → Stops refused rs → IsFound refused limit all frames gs rs reason
found refused limit all now frames gs rest rs place reason seen at passes stops = found_by refused limit all now frames gs rest rs reason at.ended seen at.at_end at.why passes stops

-- a stream that was read to its end, with nothing after its frames
pub ended_with : (refused : Any → Option ℕ) (limit : ℕ) (all bytes : List ℕ) (frames gs : List Any) (rs : List ℕ) →
    bytes ≡ all → length bytes ≤ limit → Passes refused bytes frames [] → Stops refused [] → Passes refused (take limit all) gs rs → Stops refused rs → (rs ≡ []) × (nat_le (length all) limit ≡ true) × (frames ≡ gs)
ended_with refused limit all bytes frames gs rs whole few mine nothing passes stops =
    let short : length all ≤ limit = subst (λ (z : List ℕ). length z ≤ limit) whole few in
    let same : Passes refused (take limit all) frames [] = subst (λ (z : List ℕ). Passes refused z frames []) (whole ∙ sym (take_all limit all short)) mine in
    let once = passes_once refused (take limit all) frames gs [] rs same passes nothing stops in
    (sym once.1, le-leb (length all) limit short, once.0)

-- a stream that has more bytes than the limit, and nothing refused up to there
pub past_with : (refused : Any → Option ℕ) (limit : ℕ) (all : List ℕ) (now : Option (List ℕ)) (frames gs : List Any) (rest rs : List ℕ) →
    SeesPast refused limit (Some all) now frames rest → Passes refused (take limit all) gs rs → Stops refused rs → (limit < length all) × (any_front rs ≡ Open) × (frames ≡ gs)
past_with refused limit all now frames gs rest rs seen passes stops =
    let split = consumed all (seen.bytes ++ seen.more) now seen.read in
    let long : length all ≡ length seen.bytes + length seen.more + length split.0 =
    ap (λ (z : List ℕ). length z) split.1 ∙ length-append (seen.bytes ++ seen.more) split.0 ∙ ap (λ (n : ℕ). n + length split.0) (length-append seen.bytes seen.more) in
    let front : take limit all ≡ seen.bytes =
    ap (take limit) (split.1 ∙ append_assoc seen.bytes seen.more split.0) ∙ take-append-le limit seen.bytes (seen.more ++ split.0) (omega (arith, seen.full)) ∙ take_all limit seen.bytes (omega (arith, seen.full)) in
    let mine : Passes refused (take limit all) frames rest = subst (λ (z : List ℕ). Passes refused z frames rest) (sym front) seen.passes in
    let once = passes_once refused (take limit all) frames gs rest rs mine passes (stops_open refused rest seen.nothing) stops in
    (omega (arith, long, seen.full, seen.past), ap any_front (sym once.1) ∙ seen.nothing, once.0)
