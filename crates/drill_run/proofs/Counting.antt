-- What is tallied byte by byte are the counts of a text's lines.
use Rattle.std.proofs.Common.{◌≡◌, ◌+◌, ◌<◌, ◌==◌, ℕ, Bool, true, false, if◌then◌else◌, List, [], ◌∷◌, ◌++◌, length, take, get_or, codes, refl, sym, ◌∙◌, ap, arith}
use Rattle.std.proofs.lemmas.List.{take_more}
use Rattle.std.specs.Str.{bytes_eq}
use Rattle.drill_spec.specs.declared.Counts.{Counts}
use Rattle.drill_spec.specs.Summary.{lines_from, word_of, one_if, lines_with, counts_in, counts_of}
use Rattle.drill_run.specs.declared.place.Place.{Place}
use Rattle.drill_run.specs.declared.place.Place.TheVariants as place
use Rattle.drill_run.specs.Tallied.{Tallied, no_counts, no_tally, place_after_space, word_in, line_counted, byte_tallied, text_tallied}
use Rattle.drill_run.proofs.Words.{front_place, place_space, word_space, place_other, word_first, same_word}

-- where the bytes end, the first bytes of the word, and the counts
abbrev tally : Place → List ℕ → Counts → Tallied
tally p w c = record { place = p; word = w; counts = c }

-- the tally of a front of a line, after lines with these counts
abbrev pub tally_of : List ℕ → Counts → Tallied
tally_of p c = record { place = front_place p; word = take 8 (word_of p); counts = c }

same_counts : (x y : Counts) → x.sent ≡ y.sent → x.carried ≡ y.carried → x.kept ≡ y.kept → x.took ≡ y.took → x.synced ≡ y.synced → x.refused ≡ y.refused → x ≡ y
same_counts x y sent carried kept took synced refused =
    ap (λ n. record x { sent = n }) sent
    ∙ ap (λ n. record x { sent = y.sent; carried = n }) carried
    ∙ ap (λ n. record x { sent = y.sent; carried = y.carried; kept = n }) kept
    ∙ ap (λ n. record x { sent = y.sent; carried = y.carried; kept = y.kept; took = n }) took
    ∙ ap (λ n. record x { sent = y.sent; carried = y.carried; kept = y.kept; took = y.took; synced = n }) synced
    ∙ ap (λ n. record { sent = y.sent; carried = y.carried; kept = y.kept; took = y.took; synced = y.synced; refused = n }) refused

-- these counts, and those
abbrev pub sum : Counts → Counts → Counts
sum c d =
    record {
      sent = c.sent + d.sent;
      carried = c.carried + d.carried;
      kept = c.kept + d.kept;
      took = c.took + d.took;
      synced = c.synced + d.synced;
      refused = c.refused + d.refused;
    }

no_more : (n : ℕ) → n ≡ n + 0
no_more n = omega arith

none_more : (c : Counts) → c ≡ sum c (counts_in [])
none_more c =
    same_counts c (sum c (counts_in [])) (no_more c.sent) (no_more c.carried) (no_more c.kept) (no_more c.took) (no_more c.synced) (no_more c.refused)

-- one field: the line's word by its first bytes
one_more : (n : ℕ) (w k : List ℕ) (rest size : ℕ) → length k ≡ size → size < 8 → (n + one_if (bytes_eq (take 8 w) k)) + rest ≡ n + (one_if (bytes_eq w k) + rest)
one_more n w k rest size is few =
    let same : one_if (bytes_eq (take 8 w) k) ≡ one_if (bytes_eq w k) = ap one_if (same_word 8 w k (omega (arith, is, few))) in
    omega (arith, same)

line_more : (line : List ℕ) (lines : List (List ℕ)) (c : Counts) → sum (line_counted (take 8 (word_of line)) c) (counts_in lines) ≡ sum c (counts_in (line ∷ lines))
unfolding line_counted
line_more line lines c =
    same_counts (sum (line_counted (take 8 (word_of line)) c) (counts_in lines)) (sum c (counts_in (line ∷ lines)))
    (one_more c.sent (word_of line) (codes "sent") (lines_with (codes "sent") lines) 4 refl (omega arith))
    (one_more c.carried (word_of line) (codes "carried") (lines_with (codes "carried") lines) 7 refl (omega arith))
    (one_more c.kept (word_of line) (codes "kept") (lines_with (codes "kept") lines) 4 refl (omega arith))
    (one_more c.took (word_of line) (codes "took") (lines_with (codes "took") lines) 4 refl (omega arith))
    (one_more c.synced (word_of line) (codes "synced") (lines_with (codes "synced") lines) 6 refl (omega arith))
    (one_more c.refused (word_of line) (codes "refused") (lines_with (codes "refused") lines) 7 refl (omega arith))

-- the tally after a byte more, by what byte it is
abbrev stepped : (t u : Bool) (b : ℕ) (p : List ℕ) (c : Counts) → Tallied
stepped t u b p c =
    if t then record { place = place.Number; word = []; counts = line_counted (take 8 (word_of p)) c }
    else if u then record { place = place_after_space (front_place p); word = take 8 (word_of p); counts = c }
    else record { place = front_place p; word = word_in (front_place p) b (take 8 (word_of p)); counts = c }

by_byte : (t u : Bool) (b : ℕ) (rest p : List ℕ) (c : Counts) → (b == 10) ≡ t → (b == 32) ≡ u
    → ((q : List ℕ) (d : Counts) → (text_tallied rest (tally_of q d)).counts ≡ sum d (counts_in (lines_from q rest)))
    → (text_tallied rest (stepped t u b p c)).counts ≡ sum c (counts_in (if t then p ∷ lines_from [] rest else lines_from (p ++ (b ∷ [])) rest))
by_byte true u b rest p c feed space later =
    later [] (line_counted (take 8 (word_of p)) c) ∙ line_more p (lines_from [] rest) c
by_byte false true b rest p c feed space later =
    ap (λ (x : Tallied). (text_tallied rest x).counts)
    (ap (λ (z : Place). tally z (take 8 (word_of p)) c) (sym (place_space b space p))
    ∙ ap (λ (z : List ℕ). tally (front_place (p ++ (b ∷ []))) (take 8 z) c) (sym (word_space b space p)))
    ∙ later (p ++ (b ∷ [])) c
by_byte false false b rest p c feed space later =
    ap (λ (x : Tallied). (text_tallied rest x).counts)
    (ap (λ (z : List ℕ). tally (front_place p) z c) (sym (word_first b space p))
    ∙ ap (λ (z : Place). tally z (take 8 (word_of (p ++ (b ∷ [])))) c) (sym (place_other b space p)))
    ∙ later (p ++ (b ∷ [])) c

tallied_lines : (text p : List ℕ) (c : Counts) → (text_tallied text (tally_of p c)).counts ≡ sum c (counts_in (lines_from p text))
unfolding text_tallied byte_tallied
tallied_lines [] p c = none_more c
tallied_lines (b ∷ rest) p c = by_byte (b == 10) (b == 32) b rest p c refl refl (tallied_lines rest)

none_first : (n : ℕ) → 0 + n ≡ n
none_first n = omega arith

none_before : (c : Counts) → sum no_counts c ≡ c
none_before c =
    same_counts (sum no_counts c) c (none_first c.sent) (none_first c.carried) (none_first c.kept) (none_first c.took) (none_first c.synced) (none_first c.refused)

-- the tally of a whole text has the counts of its lines
pub tallied_is : (text : List ℕ) → (text_tallied text no_tally).counts ≡ counts_of text
unfolding counts_of
tallied_is text = tallied_lines text [] no_counts ∙ none_before (counts_in (lines_from [] text))

-- one text after another
pub tallied_both : (xs ys : List ℕ) (t : Tallied) → text_tallied (xs ++ ys) t ≡ text_tallied ys (text_tallied xs t)
unfolding text_tallied
tallied_both [] ys t = refl
tallied_both (b ∷ xs) ys t = tallied_both xs ys (byte_tallied b t)

pub tallied_none : (t : Tallied) → t ≡ text_tallied [] t
unfolding text_tallied
tallied_none t = refl

-- one byte more of a text
pub tallied_more : (text : List ℕ) (place : ℕ) (t : Tallied) → place < length text → text_tallied (take (place + 1) text) t ≡ byte_tallied (get_or text place 0) (text_tallied (take place text) t)
unfolding text_tallied
tallied_more text place t within =
    ap (λ (xs : List ℕ). text_tallied xs t) (take_more text place 0 within)
    ∙ tallied_both (take place text) (get_or text place 0 ∷ []) t
