-- The lines of bytes, and what the grammar says of a line and its end.
use Rattle.std.proofs.Common.{◌≡◌, ◌≢◌, ℕ, ◌==◌, ◌&&◌, true, false, List, [], ◌∷◌, ◌++◌, inl, inr}
use Rattle.std.proofs.Common.{length, refl, sym, ap, ◌∙◌, subst, arith, length-append}
use Rattle.std.specs.List.{All}
use Rattle.std.proofs.lemmas.Bool.{ne_eqb, eq-eqb, eqb-true, and_left, and_parts, and_right}
use Rattle.std.proofs.lemmas.Bool.{and_from, cases_Bool, cases_eq, false≢true}
use Rattle.std.proofs.lemmas.List.Elements.{All-nil, All-cons, All-head, All-tail}
use Rattle.script_spec.specs.Text.{lines_of, lines_with, starts_with_feed}
use Rattle.script_spec.specs.Grammar.{BeginsWithLine, LineEnd, Ends, feed, return_and_feed}
use Rattle.script_spec.specs.Grammar.{end_of_input}

abbrev pub NotFeed : ℕ → Type 0
NotFeed b = b ≢ 10

-- no line feed stands in a text
abbrev pub IsOneLine : List ℕ → Type 0
IsOneLine text = All NotFeed text

-- no carriage return stands at the end of a text
abbrev pub NoReturn : List ℕ → Type 0
NoReturn text = (front : List ℕ) → text ≢ front ++ (13 ∷ [])

-- a byte that ends no line stands at the front of the first line after it
lines_with-inside : (b : ℕ) (rest text : List ℕ) (lines : List (List ℕ)) → b ≢ 10
    → (b == 13 && starts_with_feed rest) ≡ false
    → lines_with b rest (text ∷ lines) ≡ (b ∷ text) ∷ lines
lines_with-inside b rest text lines plain out = rw (ne_eqb b 10 plain, out) refl

-- the same where nothing follows
lines_with-last : (b : ℕ) → b ≢ 10 → lines_with b [] [] ≡ (b ∷ []) ∷ []
lines_with-last b plain = rw (ne_eqb b 10 plain, and_right (b == 13) false refl) refl

-- a text, a line feed and a rest
pub lines_of-feed : (text rest : List ℕ) → IsOneLine text → NoReturn text
    → lines_of (text ++ (10 ∷ rest)) ≡ text ∷ lines_of rest
unfolding lines_of
lines_of-feed [] rest plain out = refl
lines_of-feed (b ∷ []) rest plain out =
    lines_with-inside b (10 ∷ rest) [] (lines_of rest) (All-head NotFeed b [] plain)
    (and_left (b == 13) true (ne_eqb b 13 (λ e. out [] (ap (λ x. x ∷ []) e))))
lines_of-feed (b ∷ c ∷ text) rest plain out =
    let inner = All-tail NotFeed b (c ∷ text) plain in
    ap (λ lines. lines_with b (c ∷ (text ++ (10 ∷ rest))) lines)
    (lines_of-feed (c ∷ text) rest inner (λ front e. out (b ∷ front) (ap (λ x. b ∷ x) e)))
    ∙ lines_with-inside b (c ∷ (text ++ (10 ∷ rest))) (c ∷ text) (lines_of rest)
    (All-head NotFeed b (c ∷ text) plain)
    (and_right (b == 13) (c == 10) (ne_eqb c 10 (All-head NotFeed c text inner)))

-- a text, a carriage return, a line feed and a rest
pub lines_of-return : (text rest : List ℕ) → IsOneLine text
    → lines_of (text ++ (13 ∷ 10 ∷ rest)) ≡ text ∷ lines_of rest
unfolding lines_of
lines_of-return [] rest plain = refl
lines_of-return (b ∷ []) rest plain =
    lines_with-inside b (13 ∷ 10 ∷ rest) [] (lines_of rest) (All-head NotFeed b [] plain)
    (and_right (b == 13) false refl)
lines_of-return (b ∷ c ∷ text) rest plain =
    let inner = All-tail NotFeed b (c ∷ text) plain in
    ap (λ lines. lines_with b (c ∷ (text ++ (13 ∷ 10 ∷ rest))) lines)
    (lines_of-return (c ∷ text) rest inner)
    ∙ lines_with-inside b (c ∷ (text ++ (13 ∷ 10 ∷ rest))) (c ∷ text) (lines_of rest)
    (All-head NotFeed b (c ∷ text) plain)
    (and_right (b == 13) (c == 10) (ne_eqb c 10 (All-head NotFeed c text inner)))

-- a text that no line feed follows
pub lines_of-last : (text : List ℕ) → IsOneLine text → text ≢ [] → lines_of text ≡ text ∷ []
unfolding lines_of
lines_of-last [] plain some = absurd (some refl)
lines_of-last (b ∷ []) plain some = lines_with-last b (All-head NotFeed b [] plain)
lines_of-last (b ∷ c ∷ text) plain some =
    let inner = All-tail NotFeed b (c ∷ text) plain in
    ap (λ lines. lines_with b (c ∷ text) lines) (lines_of-last (c ∷ text) inner (λ e. cc))
    ∙ lines_with-inside b (c ∷ text) (c ∷ text) [] (All-head NotFeed b (c ∷ text) plain)
    (and_right (b == 13) (c == 10) (ne_eqb c 10 (All-head NotFeed c text inner)))

pub no_lines : lines_of [] ≡ []
unfolding lines_of
no_lines = refl

by_end : (end : LineEnd) (bytes text rest : List ℕ) → IsOneLine text → Ends end bytes text rest
    → lines_of bytes ≡ text ∷ lines_of rest
by_end feed bytes text rest plain whole =
    ap lines_of whole.0 ∙ lines_of-feed text rest plain whole.1
by_end return_and_feed bytes text rest plain whole =
    ap lines_of whole ∙ lines_of-return text rest plain
by_end end_of_input bytes text rest plain whole =
    ap lines_of whole.0 ∙ lines_of-last text plain whole.2
    ∙ ap (λ lines. text ∷ lines) (sym (ap lines_of whole.1 ∙ no_lines))

-- a line of the grammar is the first line of the bytes
pub lines_of-line : {bytes text rest : List ℕ} → BeginsWithLine bytes text rest
    → lines_of bytes ≡ text ∷ lines_of rest
lines_of-line {bytes} {text} {rest} line = by_end line.end bytes text rest line.one_line line.whole

-- ---- the other way

-- the first line of some bytes, by the grammar
abbrev pub HasLine : List ℕ → Type 0
HasLine bytes = (text rest : List ℕ) × BeginsWithLine bytes text rest

-- a byte that is no part of the line's end makes no text end in a carriage return
front_alone : (b : ℕ) (bytes rest : List ℕ) → bytes ≡ 10 ∷ rest
    → (b == 13 && starts_with_feed bytes) ≡ false → NoReturn (b ∷ [])
front_alone b bytes rest is out [] e =
    let return : b ≡ 13 = cc in
    false≢true
    (sym out
    ∙ and_from (b == 13) (starts_with_feed bytes) (eq-eqb b 13 return) (ap starts_with_feed is))
front_alone b bytes rest is out (c ∷ front) e =
    absurd (omega (arith, ap length e, length-append front (13 ∷ [])))

front_of_more : (b c : ℕ) (text : List ℕ) → NoReturn (c ∷ text) → NoReturn (b ∷ c ∷ text)
front_of_more b c text out [] e = cc
front_of_more b c text out (d ∷ front) e = out front cc

-- a byte in front of a line is in its text, unless it is a part of the line's end
add_front : (b : ℕ) (bytes : List ℕ) → b ≢ 10 → (b == 13 && starts_with_feed bytes) ≡ false
    → (end : LineEnd) (text rest : List ℕ) → IsOneLine text → Ends end bytes text rest
    → BeginsWithLine (b ∷ bytes) (b ∷ text) rest
add_front b bytes plain out feed [] rest one whole = record {
  one_line = All-cons NotFeed b [] plain one;
  end = feed;
  whole = (ap (λ x. b ∷ x) whole.0, front_alone b bytes rest whole.0 out);
}
add_front b bytes plain out feed (c ∷ text) rest one whole = record {
  one_line = All-cons NotFeed b (c ∷ text) plain one;
  end = feed;
  whole = (ap (λ x. b ∷ x) whole.0, front_of_more b c text whole.1);
}
add_front b bytes plain out return_and_feed text rest one whole = record {
  one_line = All-cons NotFeed b text plain one;
  end = return_and_feed;
  whole = ap (λ x. b ∷ x) whole;
}
add_front b bytes plain out end_of_input text rest one whole = record {
  one_line = All-cons NotFeed b text plain one;
  end = end_of_input;
  whole = (ap (λ x. b ∷ x) whole.0, whole.1, λ e. cc);
}

no_return : NoReturn []
no_return [] e = cc
no_return (c ∷ front) e = cc

-- a line feed ends an empty line
feed_first : (b : ℕ) (bytes : List ℕ) → b ≡ 10 → BeginsWithLine (b ∷ bytes) [] bytes
feed_first b bytes is = record {
  one_line = All-nil NotFeed;
  end = feed;
  whole = (ap (λ x. x ∷ bytes) is, no_return);
}

-- bytes that aren't empty have a first line
pub has_line : (b : ℕ) (bytes : List ℕ) → HasLine (b ∷ bytes)
has_line b [] =
    elim (cases_eq b 10) [
      | inl is ↦ ([], [], feed_first b [] is)
      | inr plain ↦ (
        b ∷ [],
        [],
        record {
          one_line = All-cons NotFeed b [] plain (All-nil NotFeed);
          end = end_of_input;
          whole = (refl, refl, λ e. cc);
        },
      )
    ]
has_line b (c ∷ bytes) =
    elim (cases_eq b 10) [
      | inl is ↦ ([], c ∷ bytes, feed_first b (c ∷ bytes) is)
      | inr plain ↦
          elim (cases_Bool (b == 13 && starts_with_feed (c ∷ bytes))) [
            | inl both ↦
                let parts = and_parts (b == 13) (c == 10) both in (
                  [],
                  bytes,
                  record {
                    one_line = All-nil NotFeed;
                    end = return_and_feed;
                    whole =
                        ap (λ x. x ∷ c ∷ bytes) (eqb-true b 13 parts.0)
                        ∙ ap (λ x. 13 ∷ x ∷ bytes) (eqb-true c 10 parts.1);
                  },
                )
            | inr out ↦
                let inner = has_line c bytes in (
                  b ∷ inner.0,
                  inner.1,
                  add_front b (c ∷ bytes) plain out inner.2.end inner.0 inner.1 inner.2.one_line
                      inner.2.whole,
                )
          ]
    ]

-- the first of the lines of some bytes is a line of the grammar, and the others are the lines of
-- what follows it
pub line_from_lines : (bytes text : List ℕ) (lines : List (List ℕ)) → lines_of bytes ≡ text ∷ lines
    → (rest : List ℕ) × BeginsWithLine bytes text rest × (lines ≡ lines_of rest)
line_from_lines [] text lines e = absurd (different text lines (sym no_lines ∙ e))
  where
    different : (text : List ℕ) (lines : List (List ℕ)) → [] ≡ text ∷ lines → ⊥
    different text lines e = cc
line_from_lines (b ∷ bytes) text lines e =
    let found = has_line b bytes in
    let both : found.0 ∷ lines_of found.1 ≡ text ∷ lines = sym (lines_of-line found.2) ∙ e in
    let same : found.0 ≡ text = cc in
    let others : lines ≡ lines_of found.1 = cc in
    (found.1, subst (λ t. BeginsWithLine (b ∷ bytes) t found.1) same found.2, others)
