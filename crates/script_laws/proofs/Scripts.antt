-- Reading a script, or orders, gives what the grammar says of the bytes.
use Rattle.std.proofs.Common.{◌≡◌, ℕ, ◌+◌, Bool, true, false, cond, List, [], ◌∷◌, ◌⊎◌, inl, inr}
use Rattle.std.proofs.Common.{Option, Some, None, Result, Ok, refl, sym, ap, ◌∙◌, subst}
use Rattle.script_spec.specs.declared.Document.{Document}
use Rattle.script_spec.specs.declared.Document.TheVariants as documents
use Rattle.script_spec.specs.Script.{Action, HasAction, Script, IsScript, Orders, IsOrders}
use Rattle.script_spec.specs.Text.{lines_of, words_of, is_passed_over, opening}
use Rattle.script_spec.specs.Grammar.{BeginsWithLine, IsPassedOver, SpellsAction, WritesActions}
use Rattle.script_spec.specs.Grammar.{no_line, passed_line, action_line, Opens, first_line}
use Rattle.script_spec.specs.Grammar.{later_line, Writes, WritesOrders}
use Rattle.script_spec.specs.Reading.{◌>>=◌, line_action, header_at, orders_header_at, event_at}
use Rattle.script_spec.specs.Reading.{on_line, as_header, events_reading, with_action, read_from}
use Rattle.script_spec.specs.Reading.{whole_reading, script_of, reading, orders_of, orders_reading}
use Rattle.script_laws.proofs.Steps.{bind_ok, ok_same}
use Rattle.script_laws.proofs.Lines.{has_line, lines_of-line, line_from_lines, no_lines}
use Rattle.script_laws.proofs.Ranges.{on_line_ok, as_header_ok, read_actions_range}
use Rattle.script_laws.proofs.Ranges.{read_actions_kinds}
use Rattle.script_laws.proofs.Texts.{text_spells, text_spelled, text_header, header_text}
use Rattle.script_laws.proofs.Texts.{header_range, text_orders, orders_text, orders_header_range}
use Rattle.script_laws.proofs.Texts.{passed_true, passed_is, action_not_passed, header_not_passed}
use Rattle.script_laws.proofs.Texts.{orders_not_passed}

-- ---- one line

event_passed : (document : Document) (text : List ℕ) → is_passed_over text ≡ true
    → event_at document text ≡ Ok None
unfolding event_at
event_passed document text passed = rw passed refl

event_read : (document : Document) (text : List ℕ) (action : Action) → is_passed_over text ≡ false
    → line_action document (words_of text) ≡ Ok action → event_at document text ≡ Ok (Some action)
unfolding event_at
event_read document text action plain h = rw (plain, h) refl

-- a line of an event asks for nothing and is passed over, or its text is that of an action of a
-- kind that the document has
abbrev EventCases : Document → List ℕ → Option Action → Type 0
EventCases document text found =
    ((found ≡ None) × IsPassedOver text)
    ⊎ ((action : Action) × (found ≡ Some action) × SpellsAction action text
    × HasAction document action)

event_cases : (document : Document) (text : List ℕ) (found : Option Action)
    → event_at document text ≡ Ok found → EventCases document text found
unfolding event_at
event_cases document text found h = by_test (is_passed_over text) refl h
  where
    by_test : (b : Bool) → is_passed_over text ≡ b
        → cond b (Ok None) (line_action document (words_of text) >>= λ a. Ok (Some a)) ≡ Ok found
        → EventCases document text found
    by_test true e h = inl (sym (ok_same h), passed_is text e)
    by_test false e h =
        let a = bind_ok (line_action document (words_of text)) _ found h in
        let s = text_spells document text a.0 a.1 in
        inr (a.0, sym (ok_same a.2), s.0, s.1)

-- ---- from the grammar to reading

pub read_actions : {document : Document} {actions : List Action} {bytes : List ℕ}
    → WritesActions document actions bytes → (line : ℕ)
    → events_reading document line (lines_of bytes) ≡ Ok actions
unfolding events_reading
read_actions (no_line document) line = ap (events_reading document line) no_lines
read_actions (passed_line document text bytes rest actions begins over more) line =
    ap (events_reading document line) (lines_of-line begins)
    ∙ ap (λ read. on_line line read >>= λ a.
    events_reading document (line + 1) (lines_of rest) >>= λ later. Ok (with_action a later))
    (event_passed document text (passed_true text over))
    ∙ ap (λ read. read >>= λ later. Ok later) (read_actions more (line + 1))
read_actions (action_line document text bytes rest action actions begins spells kind more) line =
    ap (events_reading document line) (lines_of-line begins)
    ∙ ap (λ read. on_line line read >>= λ a.
    events_reading document (line + 1) (lines_of rest) >>= λ later. Ok (with_action a later))
    (event_read document text action (action_not_passed text action spells)
    (text_spelled document text action spells kind))
    ∙ ap (λ read. read >>= λ later. Ok (action ∷ later)) (read_actions more (line + 1))

-- the line that bytes open with is the first one that isn't passed over
opening_of : {bytes text rest : List ℕ} → Opens bytes text rest → is_passed_over text ≡ false
    → (line : ℕ)
    → (first : ℕ) × (opening line (lines_of bytes) ≡ (first, text ∷ lines_of rest))
unfolding opening
opening_of (first_line bytes text rest begins) plain line = (
  line,
  ap (opening line) (lines_of-line begins)
      ∙ ap (λ b. cond b (opening (line + 1) (lines_of rest)) (line, text ∷ lines_of rest)) plain,
)
opening_of (later_line passed bytes left text rest begins over more) plain line =
    let later = opening_of more plain (line + 1) in (
      later.0,
      ap (opening line) (lines_of-line begins)
          ∙ ap (λ b. cond b (opening (line + 1) (lines_of left)) (line, passed ∷ lines_of left))
          (passed_true passed over)
          ∙ later.1,
    )

module _ {A B : Type 0} (head : List (List ℕ) → Result A ℕ) (made : A → List Action → B)
    (document : Document) where
  -- what is written is read
  whole_read : (bytes text rest : List ℕ) (header : A) (actions : List Action)
      → Opens bytes text rest → is_passed_over text ≡ false → head (words_of text) ≡ Ok header
      → WritesActions document actions rest
      → whole_reading head made document bytes ≡ Ok (made header actions)
  whole_read bytes text rest header actions opens plain headed written =
      let first = opening_of opens plain 1 in
      ap (λ (o : ℕ × List (List ℕ)). read_from head made document o.0 o.1) first.1
      ∙ ap (λ read. as_header first.0 read >>= λ h.
      events_reading document (first.0 + 1) (lines_of rest) >>= λ later. Ok (made h later)) headed
      ∙ ap (λ read. read >>= λ later. Ok (made header later)) (read_actions written (first.0 + 1))

-- what is written is read
pub reading-Writes : (script : Script) (bytes : List ℕ) → Writes script bytes
    → reading bytes ≡ Ok script
unfolding reading
reading-Writes script bytes w =
    whole_read header_at script_of documents.Script bytes w.text w.rest script.header script.actions
    w.opens (header_not_passed w.text script.header w.header)
    (header_text w.text script.header w.header) w.actions

pub orders_reading-Writes : (orders : Orders) (bytes : List ℕ) → WritesOrders orders bytes
    → orders_reading bytes ≡ Ok orders
unfolding orders_reading
orders_reading-Writes orders bytes w =
    whole_read orders_header_at orders_of documents.Orders bytes w.text w.rest orders.header
    orders.actions w.opens (orders_not_passed w.text orders.header w.header)
    (orders_text w.text orders.header w.header) w.actions

-- ---- from reading to the grammar

-- bytes without lines are no bytes
no_bytes : (bytes : List ℕ) → lines_of bytes ≡ [] → bytes ≡ []
no_bytes [] e = refl
no_bytes (b ∷ bytes) e =
    let line = has_line b bytes in
    let both : line.0 ∷ lines_of line.1 ≡ [] = sym (lines_of-line line.2) ∙ e in
    cc

actions_written : (document : Document) (texts : List (List ℕ)) (bytes : List ℕ) (line : ℕ)
    (actions : List Action) → lines_of bytes ≡ texts
    → events_reading document line texts ≡ Ok actions → WritesActions document actions bytes
unfolding events_reading
actions_written document [] bytes line actions e h =
    subst (λ bs. WritesActions document actions bs) (sym (no_bytes bytes e))
    (subst (λ written. WritesActions document written []) (ok_same h) (no_line document))
actions_written document (text ∷ texts) bytes line actions e h =
    let first = line_from_lines bytes text texts e in
    let found = bind_ok (on_line line (event_at document text)) _ actions h in
    let others = bind_ok (events_reading document (line + 1) texts) _ actions found.2 in
    let more =
    actions_written document texts first.0 (line + 1) others.0 (sym first.2) others.1 in
    let is : with_action found.0 others.0 ≡ actions = ok_same others.2 in
    elim (event_cases document text found.0
    (on_line_ok line (event_at document text) found.0 found.1)) [
      | inl over ↦
          subst (λ written. WritesActions document written bytes)
          (sym (ap (λ o. with_action o others.0) over.0) ∙ is)
          (passed_line document text bytes first.0 others.0 first.1 over.1 more)
      | inr action ↦
          subst (λ written. WritesActions document written bytes)
          (sym (ap (λ o. with_action o others.0) action.1) ∙ is)
          (action_line document text bytes first.0 action.0 others.0 first.1 action.2 action.3
          more)
    ]

-- the first line that isn't passed over is the one that bytes open with
abbrev OpensWith : List ℕ → List ℕ → List (List ℕ) → Type 0
OpensWith bytes text later = (rest : List ℕ) × Opens bytes text rest × (later ≡ lines_of rest)

opens_with : (texts : List (List ℕ)) (bytes : List ℕ) (line first : ℕ) (text : List ℕ)
    (later : List (List ℕ)) → lines_of bytes ≡ texts → opening line texts ≡ (first, text ∷ later)
    → OpensWith bytes text later
unfolding opening
opens_with [] bytes line first text later e h =
    absurd (none text later (ap (λ (o : ℕ × List (List ℕ)). o.1) h))
  where
    none : (text : List ℕ) (later : List (List ℕ)) → [] ≡ text ∷ later → ⊥
    none text later e = cc
opens_with (begun ∷ texts) bytes line first text later e h =
    let line_is = line_from_lines bytes begun texts e in
    by_test line_is.0 line_is.1 line_is.2
    (opens_with texts line_is.0 (line + 1) first text later (sym line_is.2)) (is_passed_over begun)
    refl h
  where
    by_test : (left : List ℕ) → BeginsWithLine bytes begun left → texts ≡ lines_of left
        → (opening (line + 1) texts ≡ (first, text ∷ later) → OpensWith left text later)
        → (b : Bool) → is_passed_over begun ≡ b
        → cond b (opening (line + 1) texts) (line, begun ∷ texts) ≡ (first, text ∷ later)
        → OpensWith bytes text later
    by_test left begins is more true over h =
        let found = more h in (
          found.0,
          later_line begun bytes left text found.0 begins (passed_is begun over) found.1,
          found.2,
        )
    by_test left begins is more false plain h =
        let lines : begun ∷ texts ≡ text ∷ later = ap (λ (o : ℕ × List (List ℕ)). o.1) h in
        let same : begun ≡ text = cc in
        let others : texts ≡ later = cc in (
          left,
          subst (λ t. Opens bytes t left) same (first_line bytes begun left begins),
          sym others ∙ is,
        )

module _ {A B : Type 0} (head : List (List ℕ) → Result A ℕ) (made : A → List Action → B)
    (document : Document) where
  -- what bytes consist of that were read
  pub record IsRead (bytes : List ℕ) (whole : B) : Type 0 where
    pub line : ℕ
    pub text : List ℕ
    pub rest : List ℕ
    pub header : A
    pub actions : List Action
    pub opens : Opens bytes text rest
    pub headed : head (words_of text) ≡ Ok header
    pub events : events_reading document line (lines_of rest) ≡ Ok actions
    pub is : made header actions ≡ whole

  read_parts : (bytes : List ℕ) (whole : B) (line : ℕ) (texts : List (List ℕ))
      → opening 1 (lines_of bytes) ≡ (line, texts)
      → read_from head made document line texts ≡ Ok whole → IsRead bytes whole
  read_parts bytes whole line [] e h = cc
  read_parts bytes whole line (text ∷ texts) e h =
      let opens = opens_with (lines_of bytes) bytes 1 line text texts refl e in
      let header = bind_ok (as_header line (head (words_of text))) _ whole h in
      let actions = bind_ok (events_reading document (line + 1) texts) _ whole header.2 in
      record {
        line = line + 1;
        text = text;
        rest = opens.0;
        header = header.0;
        actions = actions.0;
        opens = opens.1;
        headed = as_header_ok line (head (words_of text)) header.0 header.1;
        events = ap (events_reading document (line + 1)) (sym opens.2) ∙ actions.1;
        is = ok_same actions.2;
      }

  whole_parts : (bytes : List ℕ) (whole : B) → whole_reading head made document bytes ≡ Ok whole
      → IsRead bytes whole
  whole_parts bytes whole h =
      read_parts bytes whole (opening 1 (lines_of bytes)).0 (opening 1 (lines_of bytes)).1 refl h

script_parts : (bytes : List ℕ) (script : Script) → reading bytes ≡ Ok script
    → IsRead header_at script_of documents.Script bytes script
unfolding reading
script_parts bytes script h = whole_parts header_at script_of documents.Script bytes script h

orders_parts : (bytes : List ℕ) (orders : Orders) → orders_reading bytes ≡ Ok orders
    → IsRead orders_header_at orders_of documents.Orders bytes orders
unfolding orders_reading
orders_parts bytes orders h =
    whole_parts orders_header_at orders_of documents.Orders bytes orders h

-- what is read is written so
pub Writes-reading : (script : Script) (bytes : List ℕ) → reading bytes ≡ Ok script
    → Writes script bytes
Writes-reading script bytes h =
    let p = script_parts bytes script h in
    subst (λ (s : Script). Writes s bytes) p.is
    (record {
      text = p.text;
      rest = p.rest;
      opens = p.opens;
      header = text_header p.text p.header p.headed;
      actions =
          actions_written documents.Script (lines_of p.rest) p.rest p.line p.actions refl p.events;
    })

pub WritesOrders-reading : (orders : Orders) (bytes : List ℕ) → orders_reading bytes ≡ Ok orders
    → WritesOrders orders bytes
WritesOrders-reading orders bytes h =
    let p = orders_parts bytes orders h in
    subst (λ (o : Orders). WritesOrders o bytes) p.is
    (record {
      text = p.text;
      rest = p.rest;
      opens = p.opens;
      header = text_orders p.text p.header p.headed;
      actions =
          actions_written documents.Orders (lines_of p.rest) p.rest p.line p.actions refl p.events;
    })

-- ---- ranges

-- what is read lies in its ranges
pub reading_range : (bytes : List ℕ) (script : Script) → reading bytes ≡ Ok script → IsScript script
reading_range bytes script h =
    let p = script_parts bytes script h in
    subst IsScript p.is
    (record {
      header = header_range p.text p.header (text_header p.text p.header p.headed);
      actions =
          read_actions_range documents.Script p.line (lines_of p.rest) p.actions p.events;
    })

pub orders_range : (bytes : List ℕ) (orders : Orders) → orders_reading bytes ≡ Ok orders
    → IsOrders orders
orders_range bytes orders h =
    let p = orders_parts bytes orders h in
    subst IsOrders p.is
    (record {
      header = orders_header_range p.text p.header (text_orders p.text p.header p.headed);
      actions =
          read_actions_range documents.Orders p.line (lines_of p.rest) p.actions p.events;
      manager =
          read_actions_kinds documents.Orders p.line (lines_of p.rest) p.actions p.events;
    })
