-- The first fault by the grammar's words is the fault at which reading stops.
use Rattle.std.proofs.Common.{◌≡◌, ℕ, ◌+◌, Bool, true, false, cond, List, [], ◌∷◌, ◌++◌, length}
use Rattle.std.proofs.Common.{Option, Some, None, Result, Ok, Err, refl, sym, ap, ◌∙◌, subst}
use Rattle.std.specs.Prelude.{is_none}
use Rattle.std.specs.Result.{result_err}
use Rattle.script_spec.specs.declared.Document.{Document}
use Rattle.script_spec.specs.declared.Document.TheVariants as documents
use Rattle.script_spec.specs.declared.Line.{Line}
use Rattle.script_spec.specs.declared.TheConstants.{WORD_FAULT, HEADER_FAULT}
use Rattle.script_spec.specs.Script.{Action, row, action_with, Header, header_name, header_row}
use Rattle.script_spec.specs.Script.{header_values, header_with, Script, OrdersHeader, orders_row}
use Rattle.script_spec.specs.Script.{orders_header_with, Orders}
use Rattle.script_spec.specs.Text.{lines_of, words_of, after_name, is_passed_over, decimal_value}
use Rattle.script_spec.specs.Text.{opening}
use Rattle.script_spec.specs.Grammar.{SpellEach}
use Rattle.script_spec.specs.Fault.{first_of, words_fault, named_fault, line_fault, are_header}
use Rattle.script_spec.specs.Fault.{is_header, are_orders_header, is_orders_header, at_line}
use Rattle.script_spec.specs.Fault.{event_fault, events_fault, fault_from, first_fault, fault}
use Rattle.script_spec.specs.Fault.{orders_fault}
use Rattle.script_spec.specs.Reading.{◌>>=◌, or_reason, counted, values_at, line_named, known_in}
use Rattle.script_spec.specs.Reading.{action_at, line_action, header_at, orders_header_at, on_line}
use Rattle.script_spec.specs.Reading.{as_header, event_at, events_reading, read_from}
use Rattle.script_spec.specs.Reading.{whole_reading, script_of, reading, orders_of}
use Rattle.script_spec.specs.Reading.{orders_reading, with_action}
use Rattle.script_laws.proofs.Fields.{values_spell, values_spelled, spell_length, each_fits}
use Rattle.script_laws.proofs.Fields.{all_same, words_fault-values, size_from_fault}
use Rattle.script_laws.proofs.Fields.{counted_fault-values}
use Rattle.script_laws.proofs.Table.{after_name-is}
use Rattle.script_laws.proofs.Texts.{header_spells, header_spelled}

-- ---- lines of events

action_fault : (line : Line) (words : List (List ℕ))
    → named_fault (Some (line, words)) ≡ result_err (action_at line words)
unfolding action_at
action_fault line words = counted_fault-values (row line).fields words (action_with line)

line_fault-reading : (document : Document) (words : List (List ℕ))
    → line_fault document words ≡ result_err (line_action document words)
unfolding line_fault line_action
line_fault-reading document words = by_line (known_in document (line_named words))
  where
    by_line : (o : Option (Line × List (List ℕ)))
        → named_fault o ≡ result_err (or_reason WORD_FAULT o >>= λ found. action_at found.0 found.1)
    by_line (Some found) = action_fault found.0 found.1
    by_line None = refl

-- ---- headers

none_from : (o : Option ℕ) → is_none o ≡ true → o ≡ None
none_from None h = refl
none_from (Some reason) h = cc

no_err : {A : Type 0} (r : Result A ℕ) → result_err r ≡ None → (x : A) × (r ≡ Ok x)
no_err (Ok x) h = (x, refl)
no_err (Err e) h = cc

-- words after a header's name that have no fault are those of a header
header_found : (room : List ℕ) (rest : List (List ℕ))
    → words_fault (header_row (decimal_value room)).fields (room ∷ rest) ≡ None
    → (header : Header) × (header_at (header_name ++ (room ∷ rest)) ≡ Ok header)
header_found room rest none =
    let fields = (header_row (decimal_value room)).fields in
    let size = size_from_fault fields (room ∷ rest) none in
    let values =
    no_err (values_at fields (room ∷ rest))
    (sym (words_fault-values fields (room ∷ rest) size) ∙ none) in
    let each = values_spell fields (room ∷ rest) values.0 size values.1 in
    let same = all_same fields values.0 (each_fits fields values.0 (room ∷ rest) each) in
    let header = header_with values.0 in
    let spelled : SpellEach fields (header_values header) (room ∷ rest) =
    subst (λ vs. SpellEach fields vs (room ∷ rest)) (sym same) each in (
      header,
      header_spelled header (room ∷ rest)
          (subst (λ r. SpellEach (header_row r).fields (header_values header) (room ∷ rest))
          spelled.0.text.value spelled),
    )

header_there : (words : List (List ℕ)) → is_header words ≡ true
    → (header : Header) × (header_at words ≡ Ok header)
unfolding is_header
header_there words h = by_name (after_name header_name words) refl h
  where
    by_name : (o : Option (List (List ℕ))) → after_name header_name words ≡ o → are_header o ≡ true
        → (header : Header) × (header_at words ≡ Ok header)
    by_name (Some (room ∷ rest)) e h =
        let found =
        header_found room rest
        (none_from (words_fault (header_row (decimal_value room)).fields (room ∷ rest)) h) in
        (found.0, ap header_at (after_name-is header_name words (room ∷ rest) e) ∙ found.1)
    by_name _ e h = cc

header_counts : (header : Header) (words : List (List ℕ))
    → SpellEach (header_row header.room).fields (header_values header) words
    → are_header (Some words) ≡ true
header_counts header [] s = absurd s
header_counts header (room ∷ rest) s =
    let fields = (header_row header.room).fields in
    let values = header_values header in
    let none : words_fault fields (room ∷ rest) ≡ None =
    words_fault-values fields (room ∷ rest) (spell_length fields values (room ∷ rest) s)
    ∙ ap result_err (values_spelled fields values (room ∷ rest) s) in
    ap (λ r. is_none (words_fault (header_row r).fields (room ∷ rest))) s.0.text.value
    ∙ ap is_none none

header_back : (words : List (List ℕ)) (header : Header) → header_at words ≡ Ok header
    → is_header words ≡ true
unfolding is_header
header_back words header h =
    let s = header_spells words header h in
    ap (λ ws. are_header (after_name header_name ws)) s.1 ∙ header_counts header s.0 s.2

-- ---- headers of orders

-- words are those of a header of orders where reading them has no fault
orders_test : (words : List (List ℕ))
    → is_orders_header words ≡ is_none (result_err (orders_header_at words))
unfolding is_orders_header orders_header_at
orders_test words = by_name (after_name orders_row.name words)
  where
    by_name : (o : Option (List (List ℕ)))
        → are_orders_header o
        ≡ is_none
        (result_err
        (or_reason WORD_FAULT o >>= λ after. counted (length orders_row.fields) after >>= λ parts.
        values_at orders_row.fields parts >>= λ values. Ok (orders_header_with values)))
    by_name (Some words) =
        ap is_none (counted_fault-values orders_row.fields words orders_header_with)
    by_name None = refl

orders_there : (words : List (List ℕ)) → is_orders_header words ≡ true
    → (header : OrdersHeader) × (orders_header_at words ≡ Ok header)
orders_there words h =
    no_err (orders_header_at words)
    (none_from (result_err (orders_header_at words)) (sym (orders_test words) ∙ h))

orders_back : (words : List (List ℕ)) (header : OrdersHeader) → orders_header_at words ≡ Ok header
    → is_orders_header words ≡ true
orders_back words header h = orders_test words ∙ ap (λ r. is_none (result_err r)) h

-- ---- lines

with_action_err : {E : Type 0} (a : Option Action) (r : Result (List Action) E)
    → result_err (r >>= λ later. Ok (with_action a later)) ≡ result_err r
with_action_err a (Ok later) = refl
with_action_err a (Err e) = refl

event_fault-reading : (document : Document) (text : List ℕ)
    → event_fault document text ≡ result_err (event_at document text)
unfolding event_at
event_fault-reading document text = by_test (is_passed_over text)
  where
    kept : (r : Result Action ℕ) → result_err r ≡ result_err (r >>= λ action. Ok (Some action))
    kept (Ok action) = refl
    kept (Err e) = refl

    by_test : (b : Bool)
        → cond b None (line_fault document (words_of text))
        ≡ result_err
        (cond b (Ok None) (line_action document (words_of text) >>= λ action. Ok (Some action)))
    by_test true = refl
    by_test false =
        line_fault-reading document (words_of text) ∙ kept (line_action document (words_of text))

-- one line before others
line_before : (line : ℕ) (found : Result (Option Action) ℕ) (others : Result (List Action) (ℕ × ℕ))
    → first_of (at_line line (result_err found)) (result_err others)
    ≡ result_err (on_line line found >>= λ a. others >>= λ later. Ok (with_action a later))
line_before line (Ok a) others = sym (with_action_err a others)
line_before line (Err reason) others = refl

events_fault-reading : (document : Document) (line : ℕ) (texts : List (List ℕ))
    → events_fault document line texts ≡ result_err (events_reading document line texts)
unfolding events_fault events_reading
events_fault-reading document line [] = refl
events_fault-reading document line (text ∷ texts) =
    ap (λ o. first_of (at_line line o) (events_fault document (line + 1) texts))
    (event_fault-reading document text)
    ∙ ap (λ o. first_of (at_line line (result_err (event_at document text))) o)
    (events_fault-reading document (line + 1) texts)
    ∙ line_before line (event_at document text) (events_reading document (line + 1) texts)

-- ---- the whole

module _ {A B : Type 0} (is_head : List (List ℕ) → Bool) (head : List (List ℕ) → Result A ℕ)
    (made : A → List Action → B) (document : Document)
    (there : (words : List (List ℕ)) → is_head words ≡ true
    → (header : A) × (head words ≡ Ok header))
    (back : (words : List (List ℕ)) (header : A) → head words ≡ Ok header
    → is_head words ≡ true) where
  made_err : (header : A) (read : Result (List Action) (ℕ × ℕ))
      → result_err read ≡ result_err (read >>= λ actions. Ok (made header actions))
  made_err header (Ok actions) = refl
  made_err header (Err e) = refl

  -- a header's line before others
  header_before : (line : ℕ) (texts : List (List ℕ)) (b : Bool) (read : Result A ℕ)
      → (b ≡ true → (header : A) × (read ≡ Ok header))
      → ((header : A) → read ≡ Ok header → b ≡ true)
      → cond b (events_fault document (line + 1) texts) (Some (line, HEADER_FAULT))
      ≡ result_err
      (as_header line read >>= λ header. events_reading document (line + 1) texts >>= λ actions.
      Ok (made header actions))
  header_before line texts true (Ok header) there back =
      events_fault-reading document (line + 1) texts
      ∙ made_err header (events_reading document (line + 1) texts)
  header_before line texts true (Err reason) there back = absurd (missing (there refl).1)
    where
      missing : {header : A} → Err reason ≡ Ok header → ⊥
      missing e = cc
  header_before line texts false (Ok header) there back = absurd (wrong (back header refl))
    where
      wrong : false ≡ true → ⊥
      wrong e = cc
  header_before line texts false (Err reason) there back = refl

  from_opening : (line : ℕ) (texts : List (List ℕ))
      → fault_from is_head document line texts
      ≡ result_err (read_from head made document line texts)
  from_opening line [] = refl
  from_opening line (text ∷ texts) =
      header_before line texts (is_head (words_of text)) (head (words_of text))
      (there (words_of text)) (back (words_of text))

  first_fault-reading : (bytes : List ℕ)
      → first_fault is_head document bytes ≡ result_err (whole_reading head made document bytes)
  first_fault-reading bytes =
      from_opening (opening 1 (lines_of bytes)).0 (opening 1 (lines_of bytes)).1

-- where reading stops
stops : {B : Type 0} (r : Result B (ℕ × ℕ)) (f : ℕ × ℕ) → result_err r ≡ Some f → r ≡ Err f
stops (Ok whole) f e = cc
stops (Err g) f e = ap Err cc

-- the first fault is where reading stops
pub fault-reading : (bytes : List ℕ) → fault bytes ≡ result_err (reading bytes)
unfolding fault reading
fault-reading bytes =
    first_fault-reading is_header header_at script_of documents.Script header_there header_back
    bytes

pub fault_from_reading : (bytes : List ℕ) (f : ℕ × ℕ) → reading bytes ≡ Err f → fault bytes ≡ Some f
fault_from_reading bytes f h = fault-reading bytes ∙ ap result_err h

pub reading_from_fault : (bytes : List ℕ) (f : ℕ × ℕ) → fault bytes ≡ Some f → reading bytes ≡ Err f
reading_from_fault bytes f h = stops (reading bytes) f (sym (fault-reading bytes) ∙ h)

pub no_fault_from_reading : (bytes : List ℕ) (script : Script) → reading bytes ≡ Ok script
    → fault bytes ≡ None
no_fault_from_reading bytes script h = fault-reading bytes ∙ ap result_err h

-- the same of orders
pub orders_fault-reading : (bytes : List ℕ)
    → orders_fault bytes ≡ result_err (orders_reading bytes)
unfolding orders_fault orders_reading
orders_fault-reading bytes =
    first_fault-reading is_orders_header orders_header_at orders_of documents.Orders orders_there
    orders_back bytes

pub orders_fault_from_reading : (bytes : List ℕ) (f : ℕ × ℕ) → orders_reading bytes ≡ Err f
    → orders_fault bytes ≡ Some f
orders_fault_from_reading bytes f h = orders_fault-reading bytes ∙ ap result_err h

pub orders_reading_from_fault : (bytes : List ℕ) (f : ℕ × ℕ) → orders_fault bytes ≡ Some f
    → orders_reading bytes ≡ Err f
orders_reading_from_fault bytes f h =
    stops (orders_reading bytes) f (sym (orders_fault-reading bytes) ∙ h)

pub no_orders_fault : (bytes : List ℕ) (orders : Orders) → orders_reading bytes ≡ Ok orders
    → orders_fault bytes ≡ None
no_orders_fault bytes orders h = orders_fault-reading bytes ∙ ap result_err h
