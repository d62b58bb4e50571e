-- What holds of each row of the table of lines. Each fact computes at every kind of line.
use Rattle.std.proofs.Common.{◌≡◌, ℕ, ◌==◌, ◌&&◌, not, Bool, true, false, cond, List, [], ◌∷◌, ◌++◌}
use Rattle.std.proofs.Common.{Option, Some, None, refl, sym, ap, ◌∙◌}
use Rattle.std.specs.List.{All, list_all, join_with_byte}
use Rattle.std.specs.Str.{bytes_eq}
use Rattle.std.proofs.lemmas.Bool.{and_parts}
use Rattle.std.proofs.lemmas.Slice.Eq.{bytes_eq-Decides}
use Rattle.std.proofs.lemmas.List.Elements.{All-cons}
use Rattle.script_spec.specs.declared.Line.{Line}
use Rattle.script_spec.specs.declared.Line.TheVariants.{Probe as probe}
use Rattle.script_spec.specs.Fields.{Value, AllFit}
use Rattle.script_spec.specs.Script.{Action, Probe, row, said, says, action_with, all_lines}
use Rattle.script_spec.specs.Text.{words_of, after_name, is_passed_over}
use Rattle.script_spec.specs.Reading.{line_named, or_among, named_among}
use Rattle.script_laws.proofs.Words.{IsOneWord, words_of-joined}
use Rattle.script_laws.proofs.Forms.{plain_by_test}
use Rattle.script_laws.proofs.Fields.{all_formed, all_same}

-- ---- an action and its line

-- the line of a line's action says the same, by what is in its values
said_formed : (line : Line) (values : List Value)
    → said (action_with line values) ≡ says line (all_formed (row line).fields values)
said_formed probe values = refl
said_formed _ values = refl

pub said_again : (line : Line) (values : List Value) → AllFit (row line).fields values
    → said (action_with line values) ≡ says line values
said_again line values fit =
    said_formed line values ∙ ap (says line) (all_same (row line).fields values fit)

-- the action of an action's line is the action
pub action_again : (action : Action) → action_with (said action).line (said action).values ≡ action
action_again (Probe lane) = refl
action_again _ = refl

-- ---- names

-- a line is found by its name
pub named_again : (line : Line) (words : List (List ℕ))
    → line_named ((row line).name ++ words) ≡ Some (line, words)
unfolding line_named
named_again probe words = refl
named_again _ words = refl

pub after_name-is : (name words rest : List (List ℕ)) → after_name name words ≡ Some rest
    → words ≡ name ++ rest
after_name-is [] words rest h = cc
after_name-is (first ∷ name) [] rest h = cc
after_name-is (first ∷ name) (word ∷ words) rest h =
    by_test (after_name-is name words rest) (bytes_eq word first) refl h
  where
    by_test : (after_name name words ≡ Some rest → words ≡ name ++ rest) → (b : Bool)
        → bytes_eq word first ≡ b → cond b (after_name name words) None ≡ Some rest
        → word ∷ words ≡ first ∷ (name ++ rest)
    by_test more true e h =
        ap (λ w. w ∷ words) ((bytes_eq-Decides word first).0 e) ∙ ap (λ ws. first ∷ ws) (more h)
    by_test more false e h = cc

among_is : (lines : List Line) (words : List (List ℕ)) (found : Line × List (List ℕ))
    → named_among lines words ≡ Some found → words ≡ (row found.0).name ++ found.1
among_is [] words found h = cc
among_is (line ∷ lines) words found h =
    by_name (among_is lines words found) (after_name (row line).name words) refl h
  where
    by_name : (named_among lines words ≡ Some found → words ≡ (row found.0).name ++ found.1)
        → (o : Option (List (List ℕ))) → after_name (row line).name words ≡ o
        → or_among line o (named_among lines words) ≡ Some found
        → words ≡ (row found.0).name ++ found.1
    by_name more (Some rest) e h =
        let same : (line, rest) ≡ found = cc in
        after_name-is (row line).name words rest e
        ∙ ap (λ (f : Line × List (List ℕ)). (row f.0).name ++ f.1) same
    by_name more None e h = more h

-- the words begin with the name of the line that is found
pub named_is : (words : List (List ℕ)) (found : Line × List (List ℕ))
    → line_named words ≡ Some found → words ≡ (row found.0).name ++ found.1
unfolding line_named
named_is words found h = among_is all_lines words found h

-- ---- names in a text

-- words without spaces, the first of which doesn't begin a comment
abbrev pub is_name : List (List ℕ) → Bool
is_name ((b ∷ word) ∷ words) =
    not (b == 35) && list_all (λ c. not (c == 32)) (b ∷ word)
    && list_all (λ w. list_all (λ c. not (c == 32)) w) words
is_name _ = false

pub row_named : (line : Line) → is_name (row line).name ≡ true
row_named probe = refl
row_named _ = refl

plain_words : (names words : List (List ℕ))
    → list_all (λ w. list_all (λ c. not (c == 32)) w) names ≡ true → All IsOneWord words
    → All IsOneWord (names ++ words)
plain_words [] words h plain = plain
plain_words (name ∷ names) words h plain =
    let parts =
    and_parts (list_all (λ c. not (c == 32)) name)
    (list_all (λ w. list_all (λ c. not (c == 32)) w) names) h in
    All-cons IsOneWord name (names ++ words) (plain_by_test name parts.0)
    (plain_words names words parts.1 plain)

-- the words of a text that begins with a name
pub named_words : (name words : List (List ℕ)) → is_name name ≡ true → All IsOneWord words
    → words_of (join_with_byte 32 (name ++ words)) ≡ name ++ words
named_words [] words h plain = cc
named_words ([] ∷ names) words h plain = cc
named_words ((b ∷ word) ∷ names) words h plain =
    let p =
    and_parts (not (b == 35) && list_all (λ c. not (c == 32)) (b ∷ word))
    (list_all (λ w. list_all (λ c. not (c == 32)) w) names) h in
    let q = and_parts (not (b == 35)) (list_all (λ c. not (c == 32)) (b ∷ word)) p.0 in
    words_of-joined (b ∷ word) (names ++ words) (plain_by_test (b ∷ word) q.1)
    (plain_words names words p.1 plain)

-- a text that begins with a name is not passed over
pub named_counts : (name words : List (List ℕ)) → is_name name ≡ true
    → is_passed_over (join_with_byte 32 (name ++ words)) ≡ false
named_counts [] words h = cc
named_counts ([] ∷ names) words h = cc
named_counts ((b ∷ word) ∷ names) words h =
    let p =
    and_parts (not (b == 35) && list_all (λ c. not (c == 32)) (b ∷ word))
    (list_all (λ w. list_all (λ c. not (c == 32)) w) names) h in
    let q = and_parts (not (b == 35)) (list_all (λ c. not (c == 32)) (b ∷ word)) p.0 in
    first_byte (names ++ words) ∙ not_true (b == 35) q.0
  where
    first_byte : (words : List (List ℕ))
        → is_passed_over (join_with_byte 32 ((b ∷ word) ∷ words)) ≡ (b == 35)
    first_byte [] = refl
    first_byte (next ∷ words) = refl

    not_true : (c : Bool) → not c ≡ true → c ≡ false
    not_true true e = sym e
    not_true false e = refl
