-- How many lines of a trace are of which kind, and the one line that sums a run up; what a run ends
-- in.
use Rattle.std.specs.Prelude.{ℕ, ◌+◌, ◌==◌, Bool, true, false, if◌then◌else◌, List, [], ◌∷◌, ◌++◌, length, codes}
use Rattle.std.specs.Fmt.{decimal}
use Rattle.std.specs.Str.{bytes_eq}
use Rattle.script_spec.specs.Script.{Script}
use Rattle.world_spec.specs.Nodes.{Nodes, first_nodes, nodes_after}
use Rattle.world_spec.specs.Trace.{trace}
use Rattle.drill_spec.specs.declared.Counts.{Counts}
use Rattle.drill_spec.specs.Drill.{drill}

-- ---- lines and their words

-- the lines of a text, without their line feeds, where `front` was read of the first one; what
-- stands after the last line feed is no line
abbrev pub lines_from : (front text : List ℕ) → List (List ℕ)
lines_from front [] = []
lines_from front (byte ∷ rest) =
    if byte == 10 then front ∷ lines_from [] rest else lines_from (front ++ (byte ∷ [])) rest

-- what stands after the first space
abbrev pub after_space : List ℕ → List ℕ
after_space [] = []
after_space (byte ∷ rest) = if byte == 32 then rest else after_space rest

-- what stands before the first space, and all where there is none
abbrev pub until_space : List ℕ → List ℕ
until_space [] = []
until_space (byte ∷ rest) = if byte == 32 then [] else byte ∷ until_space rest

-- the word after the event's number
abbrev pub word_of : List ℕ → List ℕ
word_of line = until_space (after_space line)

abbrev pub one_if : Bool → ℕ
one_if true = 1
one_if false = 0

-- how many of some lines have that word after the event's number
abbrev pub lines_with : (word : List ℕ) → List (List ℕ) → ℕ
lines_with word [] = 0
lines_with word (line ∷ lines) = one_if (bytes_eq (word_of line) word) + lines_with word lines

-- ---- the summary

-- the counts of some lines
abbrev pub counts_in : List (List ℕ) → Counts
counts_in lines =
    record {
      sent = lines_with (codes "sent") lines;
      carried = lines_with (codes "carried") lines;
      kept = lines_with (codes "kept") lines;
      took = lines_with (codes "took") lines;
      synced = lines_with (codes "synced") lines;
      refused = lines_with (codes "refused") lines;
    }

-- the counts of a text's lines
unfoldable pub counts_of : List ℕ → Counts
counts_of text = counts_in (lines_from [] text)

-- a number after a word
abbrev pub number_text : (word : List ℕ) → ℕ → List ℕ
number_text word number = word ++ decimal number

-- the line of a drill with that number and so many events, whose trace has these counts
unfoldable pub counts_text : (number events : ℕ) → Counts → List ℕ
counts_text number events counts =
    number_text (codes "drill ") number
    ++ number_text (codes " events ") events
    ++ number_text (codes " sent ") counts.sent
    ++ number_text (codes " carried ") counts.carried
    ++ number_text (codes " kept ") counts.kept
    ++ number_text (codes " took ") counts.took
    ++ number_text (codes " synced ") counts.synced
    ++ number_text (codes " refused ") counts.refused
    ++ codes "\n"

-- the line that sums up a script with that number
unfoldable pub script_summary : ℕ → Script → List ℕ
script_summary number script =
    counts_text number (length script.actions) (counts_of (trace script))

-- the one line that the drill with that number writes
unfoldable pub drill_summary : ℕ → List ℕ
drill_summary number = script_summary number (drill number)

-- the nodes after all lines of the drill with that number
unfoldable pub drill_nodes : ℕ → Nodes
drill_nodes number = nodes_after (drill number).actions (first_nodes (drill number).header)
