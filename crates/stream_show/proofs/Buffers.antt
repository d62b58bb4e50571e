-- The bytes that are held, where some of them are passed and where more are read.
use Rattle.std.proofs.Common.{◌≡◌, ℕ, ◌+◌, ◌-◌, ◌≤◌, ◌<◌, List, [], ◌∷◌, ◌++◌, length, take, drop, Option, Some, None, Ok, Err, refl, sym, ap, subst, ◌∙◌, arith, take-add, Bool, true, false, min}
use Rattle.std.specs.Prelude.{Result}
use Rattle.std.specs.Io.KnownBytes.{Consumes, IsAtEnd}
use Rattle.std.proofs.lemmas.List.{drop-take, drop-drop, append-nil}
use Rattle.stream_spec.specs.Streams.{Open, Reader}
use Rattle.extended_spec.specs.Frames.{Any}
use Rattle.extended_spec.specs.Streams.{any_front}
use Rattle.show_spec.specs.Shown.{open_reason, reason_by, reason_at}
use Rattle.stream_show.specs.declared.ends.StreamEnd.{StreamEnd}
use Rattle.stream_show.specs.declared.ends.StreamEnd.TheVariants.{Refused, Read, Write, TooLong, NoMemory}
use Rattle.stream_show.specs.Buffer.{ReadsPiece, Fills}
use Rattle.stream_show.specs.Runs.{EndsAt, NextPiece}

twice : (count start : ℕ) (items : List ℕ) → drop count (drop start items) ≡ drop (start + count) items
twice count start items =
    let same : count + start ≡ start + count = omega arith in
    grind (arith, same, drop-drop count start items, drop-drop start count items)

pub passed_view : (start len count : ℕ) (items : List ℕ) → count ≤ len → take (len - count) (drop (start + count) items) ≡ drop count (take len (drop start items))
passed_view start len count items few =
    let split : len ≡ count + (len - count) = omega (arith, few) in
    sym (ap (λ (n : ℕ). drop count (take n (drop start items))) split ∙ drop-take count (len - count) (drop start items) ∙ ap (take (len - count)) (twice count start items))

pub held_same_after : (start len : ℕ) (middle new : List ℕ) → take (start + len) new ≡ take (start + len) middle → take len (drop start new) ≡ take len (drop start middle)
held_same_after start len middle new front = sym (drop-take start len new) ∙ ap (drop start) front ∙ drop-take start len middle

pub filled_view : (start len count : ℕ) (new : List ℕ) → take (len + count) (drop start new) ≡ take len (drop start new) ++ take count (drop (start + len) new)
filled_view start len count new =
    take-add len count (drop start new) ∙ ap (λ (z : List ℕ). take len (drop start new) ++ take count z) (twice len start new)

pub fills_of : (before now : Option (List ℕ)) (r : Reader) (at first start len count less most : ℕ) (old new stored : List ℕ) →
    r ≡ record { at = at; held = take len (drop first old) } → take len (drop start new) ≡ take len (drop first old) → stored ≡ new → ReadsPiece before now (take count (drop (start + len) new)) count less → less ≤ most →
    Fills before now r (record { at = at; held = take (len + count) (drop start stored) }) count most
fills_of before now r at first start len count less most old new stored view same is read few = record {
  piece = take count (drop (start + len) new);
  read = record { taken = read.taken; long = read.long; few = omega (arith, read.few, few); fit = read.fit; ended = read.ended };
  after =
      ap (λ (z : List ℕ). record { at = at; held = z })
      (ap (λ (z : List ℕ). take (len + count) (drop start z)) is ∙ filled_view start len count new ∙ ap (λ (z : List ℕ). z ++ take count (drop (start + len) new)) same)
      ∙ ap (λ (x : Reader). record { at = x.at; held = x.held ++ take count (drop (start + len) new) }) (sym view);
}

-- ---- the stream's end

refused_by : (refused : Any → Option ℕ) (rest : List ℕ) → any_front rest ≡ Open → reason_at refused true rest ≡ open_reason true rest
unfolding reason_at
refused_by refused rest is = ap (reason_by refused true rest) is

short_of : (rest : List ℕ) → 0 < length rest → open_reason true rest ≡ Some 12
short_of [] some = absurd (omega (arith, some))
short_of (byte ∷ rest) some = refl

pub open_refused : (rest : List ℕ) → any_front rest ≡ Open → 0 < length rest → (refused : Any → Option ℕ) → reason_at refused true rest ≡ Some 12
open_refused rest is some refused = refused_by refused rest is ∙ short_of rest some

pub ends_short : (r : Reader) (e : StreamEnd) → e ≡ Refused r.at 12 → any_front r.held ≡ Open → 0 < length r.held → EndsAt (Err e) r
ends_short r e same is some = subst (λ (x : StreamEnd). EndsAt (Err x) r) (sym same) (refl, open_refused r.held is some)

no_bytes : (piece : List ℕ) → length piece ≡ 0 → piece ≡ []
no_bytes [] long = refl
no_bytes (byte ∷ piece) long = absurd (omega (arith, long))

-- nothing was read
pub empty_fill : (before now : Option (List ℕ)) (r s : Reader) (most : ℕ) → Fills before now r s 0 most → s ≡ r
empty_fill before now r s most fills =
    fills.after ∙ ap (λ (z : List ℕ). record { at = r.at; held = r.held ++ z }) (no_bytes fills.piece fills.read.long) ∙ ap (λ (z : List ℕ). record { at = r.at; held = z }) (append-nil r.held)

empty_taken : (before now : Option (List ℕ)) (r s : Reader) (most : ℕ) → Fills before now r s 0 most → Consumes before now []
empty_taken before now r s most fills = subst (λ (z : List ℕ). Consumes before now z) (no_bytes fills.piece fills.read.long) fills.read.taken

pub next_of_end : (result : Result ℕ StreamEnd) (left most : ℕ) (r s : Reader) (before now : Option (List ℕ)) (f g : ℕ) →
    EndsAt result s → Fills before now r s 0 most → g ≡ f → NextPiece result left r s before now f g
next_of_end (Ok count) left most r s before now f g ends fills same = (
  record {
    piece = fills.piece;
    read = record {
      taken = fills.read.taken;
      long = fills.read.long ∙ sym ends.0;
      few = omega (arith, ends.0);
      fit = fills.read.fit;
      ended = λ none. fills.read.ended refl;
    };
    after = fills.after;
  },
  (λ none. ends.1),
  same,
)
next_of_end (Err (Refused place reason)) left most r s before now f g ends fills same = (
  empty_taken before now r s most fills,
  fills.read.ended refl,
  ends.0 ∙ ap (λ (x : Reader). x.at) (empty_fill before now r s most fills),
  (λ refused. ap (λ (x : Reader). reason_at refused true x.held) (sym (empty_fill before now r s most fills)) ∙ ends.1 refused),
  same,
)
next_of_end (Err Read) left most r s before now f g ends fills same = elim ends [ ]
next_of_end (Err Write) left most r s before now f g ends fills same = elim ends [ ]
next_of_end (Err TooLong) left most r s before now f g ends fills same = elim ends [ ]
next_of_end (Err NoMemory) left most r s before now f g ends fills same = elim ends [ ]
