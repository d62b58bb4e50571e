-- A line's text: the words that reading finds in it, and the words of which the grammar makes it.
use Rattle.std.proofs.Common.{◌≡◌, ℕ, true, false, cond, List, [], ◌∷◌, ◌++◌, length, inl, inr}
use Rattle.std.proofs.Common.{Option, Some, None, Ok, refl, sym, ap, ◌∙◌, subst}
use Rattle.std.specs.List.{join_with_byte}
use Rattle.std.proofs.lemmas.Bool.{eqb-true}
use Rattle.script_spec.specs.declared.Document.{Document}
use Rattle.script_spec.specs.declared.Line.{Line}
use Rattle.script_spec.specs.declared.TheConstants.{WORD_FAULT}
use Rattle.script_spec.specs.Fields.{Value, Number, Bytes, number_in}
use Rattle.script_spec.specs.Script.{Action, Row, row, has, said, Said, says, action_with}
use Rattle.script_spec.specs.Script.{HasAction, Header}
use Rattle.script_spec.specs.Script.{header_name, header_row, header_values, header_with}
use Rattle.script_spec.specs.Script.{header_size, room_field, fields_after_room, IsAction, IsHeader}
use Rattle.script_spec.specs.Script.{OrdersHeader, orders_row, orders_values, orders_header_with}
use Rattle.script_spec.specs.Script.{IsOrdersHeader}
use Rattle.script_spec.specs.Text.{words_of, after_name, is_passed_over}
use Rattle.script_spec.specs.Grammar.{SpellEach, SpellsLine, SpellsAction, SpellsHeader}
use Rattle.script_spec.specs.Grammar.{SpellsOrdersHeader, IsPassedOver}
use Rattle.script_spec.specs.Reading.{◌>>=◌, or_reason, field_at, values_at, counted, line_named}
use Rattle.script_spec.specs.Reading.{known_in, line_at, action_at, line_action, header_at}
use Rattle.script_spec.specs.Reading.{orders_header_at}
use Rattle.script_laws.proofs.Words.{joined-words_of}
use Rattle.script_laws.proofs.Steps.{bind_ok, ok_same, or_reason_ok, chosen_some}
use Rattle.script_laws.proofs.Fields.{counted_ok, counted_again, values_spell, values_spelled}
use Rattle.script_laws.proofs.Fields.{field_again, spell_length, each_fits, each_plain, all_same}
use Rattle.script_laws.proofs.Table.{said_again, action_again, named_again, named_is, after_name-is}
use Rattle.script_laws.proofs.Table.{row_named, is_name, named_words, named_counts}

-- ---- words of a row

-- the words of a row: its name, and then those of the values
abbrev pub SpellsWords : Row → List Value → List (List ℕ) → Type 0
SpellsWords line values words =
    (rest : List (List ℕ)) × (words ≡ line.name ++ rest) × SpellEach line.fields values rest

text_of_words : (line : Row) (values : List Value) (text : List ℕ)
    → SpellsWords line values (words_of text) → SpellsLine line values text
text_of_words line values text s =
    (s.0, sym (joined-words_of text) ∙ ap (join_with_byte 32) s.1, s.2)

words_of_text : (line : Row) (values : List Value) (text : List ℕ) → is_name line.name ≡ true
    → (s : SpellsLine line values text) → words_of text ≡ line.name ++ s.0
words_of_text line values text named s =
    ap words_of s.1 ∙ named_words line.name s.0 named (each_plain line.fields values s.0 s.2)

counts : (line : Row) (values : List Value) (text : List ℕ) → is_name line.name ≡ true
    → SpellsLine line values text → is_passed_over text ≡ false
counts line values text named s = ap is_passed_over s.1 ∙ named_counts line.name s.0 named

-- ---- lines of events

abbrev SaysWords : Said → List (List ℕ) → Type 0
SaysWords s words = SpellsWords (row s.line) s.values words

-- what was read after a line's name
action_spells : (line : Line) (words : List (List ℕ)) (action : Action)
    → action_at line words ≡ Ok action
    → (values : List Value) × SpellEach (row line).fields values words
    × (action_with line values ≡ action)
unfolding action_at
action_spells line words action h =
    let parts = bind_ok (counted (length (row line).fields) words) _ action h in
    let size = counted_ok (length (row line).fields) words parts.0 parts.1 in
    let values = bind_ok (values_at (row line).fields parts.0) _ action parts.2 in (
      values.0,
      values_spell (row line).fields words values.0 size.1
          (ap (values_at (row line).fields) (sym size.0) ∙ values.1),
      ok_same values.2,
    )

-- a line that the document has
known_is : (document : Document) (o : Option (Line × List (List ℕ))) (found : Line × List (List ℕ))
    → known_in document o ≡ Some found → (o ≡ Some found) × (has document found.0 ≡ true)
known_is document (Some other) found h =
    let is = chosen_some (has document other.0) other found h in
    (ap Some is.1, subst (λ (f : Line × List (List ℕ)). has document f.0 ≡ true) is.1 is.0)
known_is document None found h = cc

known_again : (document : Document) (line : Line) (rest : List (List ℕ))
    → has document line ≡ true → known_in document (Some (line, rest)) ≡ Some (line, rest)
known_again document line rest h = ap (λ b. cond b (Some (line, rest)) None) h

-- the document has a kind of line, and the words are one of it
abbrev SaysKnown : Document → Said → List (List ℕ) → Type 0
SaysKnown document s words = SaysWords s words × (has document s.line ≡ true)

line_spells : (document : Document) (words : List (List ℕ)) (action : Action)
    → line_action document words ≡ Ok action → SaysKnown document (said action) words
unfolding line_action
line_spells document words action h =
    let found = bind_ok (line_at document words) _ action h in
    let line = found.0.0 in
    let known =
    known_is document (line_named words) found.0
    (or_reason_ok WORD_FAULT (known_in document (line_named words)) found.0 found.1) in
    let named = named_is words found.0 known.0 in
    let a = action_spells line found.0.1 action found.2 in
    let fits = each_fits (row line).fields a.0 found.0.1 a.1 in
    let whole : SaysKnown document (says line a.0) words = ((found.0.1, named, a.1), known.1) in
    subst (λ (b : Action). SaysKnown document (said b) words) a.2
    (subst (λ s. SaysKnown document s words) (sym (said_again line a.0 fits)) whole)

line_spelled : (document : Document) (action : Action) (rest : List (List ℕ))
    → HasAction document action
    → SpellEach (row (said action).line).fields (said action).values rest
    → line_action document ((row (said action).line).name ++ rest) ≡ Ok action
unfolding line_action action_at
line_spelled document action rest kind s =
    let line = (said action).line in
    let fields = (row line).fields in
    ap (λ o. or_reason WORD_FAULT (known_in document o) >>= λ found. action_at found.0 found.1)
    (named_again line rest)
    ∙ ap (λ o. or_reason WORD_FAULT o >>= λ found. action_at found.0 found.1)
    (known_again document line rest kind)
    ∙ ap (λ r. r >>= λ parts. values_at fields parts >>= λ values. Ok (action_with line values))
    (counted_again (length fields) rest (spell_length fields (said action).values rest s))
    ∙ ap (λ r. r >>= λ values. Ok (action_with line values))
    (values_spelled fields (said action).values rest s) ∙ ap Ok (action_again action)

-- what was read of a text is what the grammar says of it
pub text_spells : (document : Document) (text : List ℕ) (action : Action)
    → line_action document (words_of text) ≡ Ok action
    → SpellsAction action text × HasAction document action
text_spells document text action h =
    let s = line_spells document (words_of text) action h in
    (text_of_words (row (said action).line) (said action).values text s.0, s.1)

pub text_spelled : (document : Document) (text : List ℕ) (action : Action)
    → SpellsAction action text → HasAction document action
    → line_action document (words_of text) ≡ Ok action
text_spelled document text action s kind =
    ap (line_action document)
    (words_of_text (row (said action).line) (said action).values text
    (row_named (said action).line) s) ∙ line_spelled document action s.0 kind s.2

-- the values of an action's text are in their ranges
pub text_range : (text : List ℕ) (action : Action) → SpellsAction action text → IsAction action
text_range text action s = each_fits (row (said action).line).fields (said action).values s.0 s.2

-- ---- headers

pub header_spells : (words : List (List ℕ)) (header : Header) → header_at words ≡ Ok header
    → SpellsWords (header_row header.room) (header_values header) words
unfolding header_at
header_spells words header h =
    let after = bind_ok (or_reason WORD_FAULT (after_name header_name words)) _ header h in
    let parts = bind_ok (counted header_size after.0) _ header after.2 in
    let size = counted_ok header_size after.0 parts.0 parts.1 in
    let room = bind_ok (field_at room_field parts.0) _ header parts.2 in
    let fields = fields_after_room (number_in room.0.0) in
    let values = bind_ok (values_at fields room.0.1) _ header room.2 in
    let all = room.0.0 ∷ values.0 in
    let read : values_at (room_field ∷ fields) parts.0 ≡ Ok all =
    ap (λ r. r >>= λ v. values_at fields v.1 >>= λ vs. Ok (v.0 ∷ vs)) room.1
    ∙ ap (λ r. r >>= λ vs. Ok (room.0.0 ∷ vs)) values.1 in
    let each =
    values_spell (room_field ∷ fields) after.0 all size.1
    (ap (values_at (room_field ∷ fields)) (sym size.0) ∙ read) in
    let same =
    all_same (room_field ∷ fields) all (each_fits (room_field ∷ fields) all after.0 each) in
    let named =
    after_name-is header_name words after.0
    (or_reason_ok WORD_FAULT (after_name header_name words) after.0 after.1) in
    subst (λ (hd : Header). SpellsWords (header_row hd.room) (header_values hd) words)
    (ok_same values.2)
    (after.0, named, subst (λ vs. SpellEach (room_field ∷ fields) vs after.0) (sym same) each)

-- the room, and then the fields after it
after_header : (header : Header) (words : List (List ℕ))
    → SpellEach (header_row header.room).fields (header_values header) words
    → (field_at room_field words >>= λ room. values_at (fields_after_room (number_in room.0)) room.1
    >>= λ values. Ok (header_with (room.0 ∷ values))) ≡ Ok header
after_header header [] s = absurd s
after_header header (word ∷ words) s =
    ap (λ r. r >>= λ room. values_at (fields_after_room (number_in room.0)) room.1 >>= λ values.
    Ok (header_with (room.0 ∷ values)))
    (field_again room_field (Number header.room) word words s.0)
    ∙ ap (λ r. r >>= λ values. Ok (header_with (Number header.room ∷ values)))
    (values_spelled (fields_after_room header.room)
    (Number header.low ∷ Number header.high ∷ Bytes header.factory ∷ []) words s.1)

pub header_spelled : (header : Header) (words : List (List ℕ))
    → SpellEach (header_row header.room).fields (header_values header) words
    → header_at (header_name ++ words) ≡ Ok header
unfolding header_at
header_spelled header words s =
    ap (λ r. r >>= λ parts. field_at room_field parts >>= λ room.
    values_at (fields_after_room (number_in room.0)) room.1 >>= λ values.
    Ok (header_with (room.0 ∷ values)))
    (counted_again header_size words
    (spell_length (header_row header.room).fields (header_values header) words s))
    ∙ after_header header words s

pub text_header : (text : List ℕ) (header : Header) → header_at (words_of text) ≡ Ok header
    → SpellsHeader header text
text_header text header h =
    text_of_words (header_row header.room) (header_values header) text
    (header_spells (words_of text) header h)

pub header_text : (text : List ℕ) (header : Header) → SpellsHeader header text
    → header_at (words_of text) ≡ Ok header
header_text text header s =
    ap header_at (words_of_text (header_row header.room) (header_values header) text refl s)
    ∙ header_spelled header s.0 s.2

pub header_range : (text : List ℕ) (header : Header) → SpellsHeader header text → IsHeader header
header_range text header s =
    let h = each_fits (header_row header.room).fields (header_values header) s.0 s.2 in
    record {
      room_some = h.0.0;
      room_most = h.0.1;
      low_some = h.1.0.0;
      low_most = h.1.0.1;
      high_some = h.1.1.0.0;
      high_most = h.1.1.0.1;
      factory_some = h.1.1.1.0.0;
      factory_fits = h.1.1.1.0.1;
    }

-- ---- headers of orders

orders_spells : (words : List (List ℕ)) (header : OrdersHeader)
    → orders_header_at words ≡ Ok header → SpellsWords orders_row (orders_values header) words
unfolding orders_header_at
orders_spells words header h =
    let fields = orders_row.fields in
    let after = bind_ok (or_reason WORD_FAULT (after_name orders_row.name words)) _ header h in
    let parts = bind_ok (counted (length fields) after.0) _ header after.2 in
    let size = counted_ok (length fields) after.0 parts.0 parts.1 in
    let values = bind_ok (values_at fields parts.0) _ header parts.2 in
    let each =
    values_spell fields after.0 values.0 size.1 (ap (values_at fields) (sym size.0) ∙ values.1) in
    let same = all_same fields values.0 (each_fits fields values.0 after.0 each) in
    let named =
    after_name-is orders_row.name words after.0
    (or_reason_ok WORD_FAULT (after_name orders_row.name words) after.0 after.1) in
    subst (λ (hd : OrdersHeader). SpellsWords orders_row (orders_values hd) words)
    (ok_same values.2)
    (after.0, named, subst (λ vs. SpellEach fields vs after.0) (sym same) each)

orders_spelled : (header : OrdersHeader) (words : List (List ℕ))
    → SpellEach orders_row.fields (orders_values header) words
    → orders_header_at (orders_row.name ++ words) ≡ Ok header
unfolding orders_header_at
orders_spelled header words s =
    let fields = orders_row.fields in
    ap (λ r. r >>= λ parts. values_at fields parts >>= λ values. Ok (orders_header_with values))
    (counted_again (length fields) words (spell_length fields (orders_values header) words s))
    ∙ ap (λ r. r >>= λ values. Ok (orders_header_with values))
    (values_spelled fields (orders_values header) words s)

pub text_orders : (text : List ℕ) (header : OrdersHeader)
    → orders_header_at (words_of text) ≡ Ok header → SpellsOrdersHeader header text
text_orders text header h =
    text_of_words orders_row (orders_values header) text (orders_spells (words_of text) header h)

pub orders_text : (text : List ℕ) (header : OrdersHeader) → SpellsOrdersHeader header text
    → orders_header_at (words_of text) ≡ Ok header
orders_text text header s =
    ap orders_header_at (words_of_text orders_row (orders_values header) text refl s)
    ∙ orders_spelled header s.0 s.2

pub orders_header_range : (text : List ℕ) (header : OrdersHeader) → SpellsOrdersHeader header text
    → IsOrdersHeader header
orders_header_range text header s =
    let h = each_fits orders_row.fields (orders_values header) s.0 s.2 in
    record { low_some = h.0.0; low_most = h.0.1; high_some = h.1.0.0; high_most = h.1.0.1 }

-- ---- lines that are passed over

pub passed_true : (text : List ℕ) → IsPassedOver text → is_passed_over text ≡ true
passed_true text (inl none) = ap is_passed_over none
passed_true text (inr comment) = ap is_passed_over comment.1

pub passed_is : (text : List ℕ) → is_passed_over text ≡ true → IsPassedOver text
passed_is [] h = inl refl
passed_is (b ∷ text) h = inr (text, ap (λ c. c ∷ text) (eqb-true b 35 h))

pub action_not_passed : (text : List ℕ) (action : Action) → SpellsAction action text
    → is_passed_over text ≡ false
action_not_passed text action s =
    counts (row (said action).line) (said action).values text (row_named (said action).line) s

pub header_not_passed : (text : List ℕ) (header : Header) → SpellsHeader header text
    → is_passed_over text ≡ false
header_not_passed text header s = counts (header_row header.room) (header_values header) text refl s

pub orders_not_passed : (text : List ℕ) (header : OrdersHeader) → SpellsOrdersHeader header text
    → is_passed_over text ≡ false
orders_not_passed text header s = counts orders_row (orders_values header) text refl s
