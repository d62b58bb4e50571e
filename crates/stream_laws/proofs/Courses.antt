-- What a reader gives and holds, over any set of frames.
use Rattle.std.proofs.Common.{◌≡◌, ℕ, zero, suc, ◌+◌, ◌-◌, ◌^◌, ◌<◌, min, List, [], ◌∷◌, ◌++◌, length, take, drop, refl, sym, ap, subst, ◌∙◌, append_assoc, arith, length-append, take-append-drop}
use Rattle.std.specs.Prelude.{All}
use Rattle.std.specs.List.{flat_map}
use Rattle.std.proofs.lemmas.List.{get_or-drop, append-nil}
use Rattle.std.proofs.lemmas.List.Elements.{All-append, All-cons, All-head, All-tail}
use Rattle.std.proofs.lemmas.Grind.{flat_map-append}
use Rattle.frame_spec.specs.Baseline.{IsBytes}
use Rattle.stream_spec.specs.Streams.{Front, Whole, Open, Faulty, IsStream, place_after, bytes_taken, after_take, frames_given, Call, Feed, Take, IsCall, Course, first_course, after_call, after_calls}
use Rattle.stream_laws.specs.Sets.{IsSet, IsCourse}

pub IsBytes-append : (a b : List ℕ) → IsBytes a → IsBytes b → IsBytes (a ++ b)
IsBytes-append [] b fit_a fit_b i = fit_b i
IsBytes-append (x ∷ a) b fit_a fit_b zero = fit_a zero
IsBytes-append (x ∷ a) b fit_a fit_b (suc i) = IsBytes-append a b (λ j. fit_a (suc j)) fit_b i

pub IsBytes-take : (count : ℕ) (bytes : List ℕ) → IsBytes bytes → IsBytes (take count bytes)
IsBytes-take zero bytes fit i = omega arith
IsBytes-take (suc count) [] fit i = fit i
IsBytes-take (suc count) (x ∷ bytes) fit zero = fit zero
IsBytes-take (suc count) (x ∷ bytes) fit (suc i) = IsBytes-take count bytes (λ j. fit (suc j)) i

pub IsBytes-drop : (count : ℕ) (bytes : List ℕ) → IsBytes bytes → IsBytes (drop count bytes)
IsBytes-drop count bytes fit i = subst (λ (byte : ℕ). byte < 256) (sym (get_or-drop count bytes i 0)) (fit (count + i))

none_below : (k : ℕ) → k < 0 → ⊥
none_below k h = omega (arith, h)

no_elements : {F : Type 0} (P : F → Type 0) → All P []
no_elements P k d within = absurd (none_below k within)

flat_one : {F : Type 0} (spell : F → List ℕ) (frames : List F) (frame : F) → flat_map spell (frames ++ frame ∷ []) ≡ flat_map spell frames ++ spell frame
flat_one spell frames frame = flat_map-append spell frames (frame ∷ []) ∙ ap (λ (z : List ℕ). flat_map spell frames ++ z) (append-nil (spell frame))

-- the bytes that a reader takes belong to those that it holds
fed : {F X : Type 0} (IsFrame : F → Type 0) (spell : F → List ℕ) (front : List ℕ → Front F X) (room : ℕ) (piece : List ℕ) (c : Course F) →
    IsBytes piece → IsCourse IsFrame spell c → IsCourse IsFrame spell (after_call front room (Feed piece) c)
fed IsFrame spell front room piece c fit so_far =
    let new : List ℕ = take (bytes_taken (front c.reader.held) room c.reader piece) piece in
    record {
      spelled = ap (λ (z : List ℕ). z ++ new) so_far.spelled ∙ append_assoc (flat_map spell c.frames) c.reader.held new;
      valid = so_far.valid;
      fit = IsBytes-append c.reader.held new so_far.fit (IsBytes-take (bytes_taken (front c.reader.held) room c.reader piece) piece fit);
      place = so_far.place;
    }

place_on : (at length count : ℕ) → at ≡ min length (2 ^ 64 - 1) → place_after at count ≡ min (length + count) (2 ^ 64 - 1)
place_on at length count is = omega (arith, is)

-- a frame that is given was held
given : {F X : Type 0} (IsFrame : F → Type 0) (spell : F → List ℕ) (front : List ℕ → Front F X) (set : IsSet IsFrame spell front) (c : Course F) (shown : Front F X) →
    front c.reader.held ≡ shown → IsCourse IsFrame spell c →
    IsCourse IsFrame spell (record { bytes = c.bytes; frames = c.frames ++ frames_given shown; reader = after_take shown c.reader })
unfolding after_take
given IsFrame spell front set c (Whole frame count) is so_far =
    let facts = set.whole c.reader.held frame count so_far.fit is in
    let parts : flat_map spell c.frames ++ c.reader.held ≡ (flat_map spell c.frames ++ spell frame) ++ drop count c.reader.held =
    ap (λ (z : List ℕ). flat_map spell c.frames ++ z) (sym (take-append-drop count c.reader.held))
    ∙ sym (append_assoc (flat_map spell c.frames) (take count c.reader.held) (drop count c.reader.held))
    ∙ ap (λ (z : List ℕ). (flat_map spell c.frames ++ z) ++ drop count c.reader.held) facts.1 in
    let longer : length (flat_map spell (c.frames ++ frame ∷ [])) ≡ length (flat_map spell c.frames) + count =
    ap (λ (z : List ℕ). length z) (flat_one spell c.frames frame) ∙ length-append (flat_map spell c.frames) (spell frame) ∙ ap (λ (n : ℕ). length (flat_map spell c.frames) + n) (sym facts.2) in
    record {
      spelled = so_far.spelled ∙ parts ∙ ap (λ (z : List ℕ). z ++ drop count c.reader.held) (sym (flat_one spell c.frames frame));
      valid = All-append IsFrame c.frames (frame ∷ []) so_far.valid (All-cons IsFrame frame [] facts.0 (no_elements IsFrame));
      fit = IsBytes-drop count c.reader.held so_far.fit;
      place = place_on c.reader.at (length (flat_map spell c.frames)) count so_far.place ∙ ap (λ (n : ℕ). min n (2 ^ 64 - 1)) (sym longer);
    }
given IsFrame spell front set c Open is so_far = subst (λ (frames : List _). IsCourse IsFrame spell (record { bytes = c.bytes; frames = frames; reader = c.reader })) (sym (append-nil c.frames)) so_far
given IsFrame spell front set c (Faulty fault) is so_far = subst (λ (frames : List _). IsCourse IsFrame spell (record { bytes = c.bytes; frames = frames; reader = c.reader })) (sym (append-nil c.frames)) so_far

one_call : {F X : Type 0} (IsFrame : F → Type 0) (spell : F → List ℕ) (front : List ℕ → Front F X) (set : IsSet IsFrame spell front) (room : ℕ) (call : Call) (c : Course F) →
    IsCall call → IsCourse IsFrame spell c → IsCourse IsFrame spell (after_call front room call c)
one_call IsFrame spell front set room (Feed piece) c fit so_far = fed IsFrame spell front room piece c fit so_far
one_call IsFrame spell front set room Take c fit so_far = given IsFrame spell front set c (front c.reader.held) refl so_far

pub all_calls : {F X : Type 0} (IsFrame : F → Type 0) (spell : F → List ℕ) (front : List ℕ → Front F X) (set : IsSet IsFrame spell front) (room : ℕ) (calls : List Call) (c : Course F) →
    All IsCall calls → IsCourse IsFrame spell c → IsCourse IsFrame spell (after_calls front room calls c)
unfolding after_calls
all_calls IsFrame spell front set room [] c fit so_far = so_far
all_calls IsFrame spell front set room (call ∷ calls) c fit so_far =
    all_calls IsFrame spell front set room calls (after_call front room call c) (All-tail IsCall call calls fit) (one_call IsFrame spell front set room call c (All-head IsCall call calls fit) so_far)

pub first_is : {F : Type 0} (IsFrame : F → Type 0) (spell : F → List ℕ) → IsCourse IsFrame spell first_course
first_is IsFrame spell = record { spelled = refl; valid = no_elements IsFrame; fit = λ i. omega arith; place = refl }

-- a course that holds no whole frame is a stream
pub stream_of : {F X : Type 0} (IsFrame : F → Type 0) (spell : F → List ℕ) (front : List ℕ → Front F X) (set : IsSet IsFrame spell front) (c : Course F) →
    IsCourse IsFrame spell c → ((frame : F) (count : ℕ) → front c.reader.held ≡ Whole frame count → ⊥) → IsStream IsFrame spell c.bytes c.frames c.reader.held
stream_of IsFrame spell front set c so_far none = record {
  spelled = so_far.spelled;
  valid = so_far.valid;
  no_more = λ frame valid begins. none frame (length (spell frame)) (set.found c.reader.held frame valid begins);
}
