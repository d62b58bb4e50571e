-- The lines of a text are counted as its bytes come, one after the other.
use Rattle.std.specs.Prelude.{ℕ, ◌+◌, ◌==◌, nat_lt, if◌then◌else◌, List, [], ◌∷◌, ◌++◌, length, codes}
use Rattle.std.specs.Str.{bytes_eq}
use Rattle.drill_spec.specs.declared.Counts.{Counts}
use Rattle.drill_spec.specs.Summary.{one_if}
use Rattle.drill_run.specs.declared.place.Place.{Place}
use Rattle.drill_run.specs.declared.place.Place.TheVariants as place
use Rattle.drill_run.specs.declared.word.TheConstants.{WORD_BYTES}

-- where the bytes end that came of a line, the first bytes of its word, and the counts of the lines
-- before it
pub record Tallied : Type 0 where
  pub place : Place
  pub word : List ℕ
  pub counts : Counts

abbrev pub no_counts : Counts
no_counts = record { sent = 0; carried = 0; kept = 0; took = 0; synced = 0; refused = 0 }

-- before the first byte
abbrev pub no_tally : Tallied
no_tally = record { place = place.Number; word = []; counts = no_counts }

-- a byte more of a word, of which no more bytes are kept than any kind of line has in its word
unfoldable pub word_with : ℕ → List ℕ → List ℕ
word_with byte word = if nat_lt (length word) WORD_BYTES then word ++ (byte ∷ []) else word

-- a line more, which has that word
unfoldable pub line_counted : List ℕ → Counts → Counts
line_counted word c =
    record {
      sent = c.sent + one_if (bytes_eq word (codes "sent"));
      carried = c.carried + one_if (bytes_eq word (codes "carried"));
      kept = c.kept + one_if (bytes_eq word (codes "kept"));
      took = c.took + one_if (bytes_eq word (codes "took"));
      synced = c.synced + one_if (bytes_eq word (codes "synced"));
      refused = c.refused + one_if (bytes_eq word (codes "refused"));
    }

abbrev pub place_after_space : Place → Place
place_after_space place.Number = place.Word
place_after_space place.Word = place.After
place_after_space place.After = place.After

-- the word after a byte that ends neither line nor word
abbrev pub word_in : Place → ℕ → List ℕ → List ℕ
word_in place.Number byte word = word
word_in place.Word byte word = word_with byte word
word_in place.After byte word = word

-- a byte more
unfoldable pub byte_tallied : ℕ → Tallied → Tallied
byte_tallied byte t =
    if byte == 10 then record {
      place = place.Number;
      word = [];
      counts = line_counted t.word t.counts;
    }
    else if byte == 32 then record t { place = place_after_space t.place }
    else record t { word = word_in t.place byte t.word }

-- all bytes of a text
unfoldable pub text_tallied : List ℕ → Tallied → Tallied
text_tallied [] t = t
text_tallied (byte ∷ rest) t = text_tallied rest (byte_tallied byte t)
