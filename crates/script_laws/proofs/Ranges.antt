-- What was read lies in its ranges.
use Rattle.std.proofs.Common.{◌≡◌, ℕ, ◌+◌, Bool, true, false, cond, List, [], ◌∷◌, Option, Some}
use Rattle.std.proofs.Common.{None, Result, Ok, Err, ap, ◌∙◌, subst}
use Rattle.std.specs.List.{All}
use Rattle.std.proofs.lemmas.List.Elements.{All-nil, All-cons, All-weaker}
use Rattle.script_spec.specs.declared.Document.{Document}
use Rattle.script_spec.specs.Script.{Action, HasAction, Header, IsAction, IsHeader, OrdersHeader}
use Rattle.script_spec.specs.Script.{IsOrdersHeader}
use Rattle.script_spec.specs.Text.{words_of, is_passed_over}
use Rattle.script_spec.specs.Reading.{◌>>=◌, line_action, event_at, on_line, as_header, header_at}
use Rattle.script_spec.specs.Reading.{orders_header_at, events_reading, with_action}
use Rattle.script_laws.proofs.Steps.{bind_ok}
use Rattle.script_laws.proofs.Texts.{text_spells, text_range, text_header, header_range}
use Rattle.script_laws.proofs.Texts.{text_orders, orders_header_range}

pub on_line_ok : {A : Type 0} (line : ℕ) (r : Result A ℕ) (x : A) → on_line line r ≡ Ok x → r ≡ Ok x
on_line_ok line (Ok y) x h = ap Ok cc
on_line_ok line (Err reason) x h = cc

pub as_header_ok : {A : Type 0} (line : ℕ) (r : Result A ℕ) (x : A) → as_header line r ≡ Ok x
    → r ≡ Ok x
as_header_ok line (Ok y) x h = ap Ok cc
as_header_ok line (Err reason) x h = cc

pub read_header_range : (line : ℕ) (text : List ℕ) (header : Header)
    → as_header line (header_at (words_of text)) ≡ Ok header → IsHeader header
read_header_range line text header h =
    header_range text header
    (text_header text header (as_header_ok line (header_at (words_of text)) header h))

pub read_orders_header_range : (line : ℕ) (text : List ℕ) (header : OrdersHeader)
    → as_header line (orders_header_at (words_of text)) ≡ Ok header → IsOrdersHeader header
read_orders_header_range line text header h =
    orders_header_range text header
    (text_orders text header (as_header_ok line (orders_header_at (words_of text)) header h))

-- each value is in its range, and the document has lines of the action's kind
abbrev pub IsActionOf : Document → Action → Type 0
IsActionOf document action = IsAction action × HasAction document action

-- the action of an event's line is in range
event_range : (document : Document) (text : List ℕ) (action : Action)
    → event_at document text ≡ Ok (Some action) → IsActionOf document action
unfolding event_at
event_range document text action h = by_test (is_passed_over text) h
  where
    by_test : (b : Bool)
        → cond b (Ok None) (line_action document (words_of text) >>= λ a. Ok (Some a))
        ≡ Ok (Some action) → IsActionOf document action
    by_test true h = cc
    by_test false h =
        let a = bind_ok (line_action document (words_of text)) _ (Some action) h in
        let same : a.0 ≡ action = cc in
        let s = text_spells document text action (a.1 ∙ ap Ok same) in
        (text_range text action s.0, s.1)

with_action_range : (document : Document) (text : List ℕ) (found : Option Action)
    (actions : List Action) → event_at document text ≡ Ok found
    → All (IsActionOf document) actions → All (IsActionOf document) (with_action found actions)
with_action_range document text None actions h each = each
with_action_range document text (Some action) actions h each =
    All-cons (IsActionOf document) action actions (event_range document text action h) each

read_actions_of : (document : Document) (line : ℕ) (texts : List (List ℕ)) (actions : List Action)
    → events_reading document line texts ≡ Ok actions → All (IsActionOf document) actions
unfolding events_reading
read_actions_of document line [] actions h =
    let none : [] ≡ actions = cc in
    subst (All (IsActionOf document)) none (All-nil (IsActionOf document))
read_actions_of document line (text ∷ texts) actions h =
    let found = bind_ok (on_line line (event_at document text)) _ actions h in
    let others = bind_ok (events_reading document (line + 1) texts) _ actions found.2 in
    let is : with_action found.0 others.0 ≡ actions = cc in
    subst (All (IsActionOf document)) is
    (with_action_range document text found.0 others.0
    (on_line_ok line (event_at document text) found.0 found.1)
    (read_actions_of document (line + 1) texts others.0 others.1))

pub read_actions_range : (document : Document) (line : ℕ) (texts : List (List ℕ))
    (actions : List Action) → events_reading document line texts ≡ Ok actions
    → All IsAction actions
read_actions_range document line texts actions h =
    All-weaker (IsActionOf document) IsAction (λ action is. is.0) actions
    (read_actions_of document line texts actions h)

pub read_actions_kinds : (document : Document) (line : ℕ) (texts : List (List ℕ))
    (actions : List Action) → events_reading document line texts ≡ Ok actions
    → All (HasAction document) actions
read_actions_kinds document line texts actions h =
    All-weaker (IsActionOf document) (HasAction document) (λ action is. is.1) actions
    (read_actions_of document line texts actions h)
