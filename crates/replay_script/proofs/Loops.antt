-- The loop over the lines of events: the actions so far, and what reading the lines that are left
-- gives.
use Rattle.std.proofs.Common.{◌≡◌, ℕ, ◌+◌, List, [], ◌∷◌, ◌++◌, Option, Some, None, Result, Ok, Err}
use Rattle.std.proofs.Common.{refl, sym, ap, ◌∙◌, append_assoc, true, false, length, arith}
use Rattle.std.proofs.lemmas.List.{append-nil}
use Rattle.std.specs.Option.{option_to_list}
use Rattle.script_spec.specs.declared.Document.{Document}
use Rattle.script_spec.specs.Script.{Action}
use Rattle.script_spec.specs.Reading.{◌>>=◌, on_line, as_header, line_action, event_at}
use Rattle.script_spec.specs.Reading.{events_reading, read_from, whole_reading, with_action}
use Rattle.script_spec.specs.Text.{lines_of, words_of, is_passed_over, opening}

-- the actions so far, in front of those that reading gives
abbrev pub with_front : List Action → Result (List Action) (ℕ × ℕ) → Result (List Action) (ℕ × ℕ)
with_front front read = read >>= λ actions. Ok (front ++ actions)

-- nothing is read so far
pub begins : (read : Result (List Action) (ℕ × ℕ)) → with_front [] read ≡ read
begins (Ok actions) = refl
begins (Err e) = refl

with_action-front : (front actions : List Action) (action : Option Action)
    → (front ++ option_to_list action) ++ actions ≡ front ++ with_action action actions
with_action-front front actions None = append_assoc front [] actions
with_action-front front actions (Some action) = append_assoc front (action ∷ []) actions

-- one line more
pub goes_on : (document : Document) (front : List Action) (line : ℕ) (text : List ℕ)
    (lines : List (List ℕ)) (action : Option Action)
    → on_line line (event_at document text) ≡ Ok action
    → with_front (front ++ option_to_list action) (events_reading document (line + 1) lines)
    ≡ with_front front (events_reading document line (text ∷ lines))
unfolding events_reading
goes_on document front line text lines action is =
    moved front (events_reading document (line + 1) lines) action
    ∙ ap (λ read.
    with_front front
    (read >>= λ a.
    events_reading document (line + 1) lines >>= λ actions. Ok (with_action a actions)))
    (sym is)
  where
    moved : (front : List Action) (read : Result (List Action) (ℕ × ℕ)) (action : Option Action)
        → with_front (front ++ option_to_list action) read
        ≡ with_front front (read >>= λ actions. Ok (with_action action actions))
    moved front (Ok actions) action = ap Ok (with_action-front front actions action)
    moved front (Err e) action = refl

-- a line with a fault
pub fails : (document : Document) (front : List Action) (line : ℕ) (text : List ℕ)
    (lines : List (List ℕ)) (fault : ℕ × ℕ) → on_line line (event_at document text) ≡ Err fault
    → with_front front (events_reading document line (text ∷ lines)) ≡ Err fault
unfolding events_reading
fails document front line text lines fault is =
    ap (λ read.
    with_front front
    (read >>= λ a.
    events_reading document (line + 1) lines >>= λ actions. Ok (with_action a actions))) is

-- no line is left
pub ends : (document : Document) (front : List Action) (line : ℕ)
    → with_front front (events_reading document line []) ≡ Ok front
unfolding events_reading
ends document front line = ap Ok (append-nil front)

-- ---- one line

pub passed_event : (document : Document) (line : ℕ) (text : List ℕ) → is_passed_over text ≡ true
    → on_line line (event_at document text) ≡ Ok None
unfolding event_at
passed_event document line text passed = rw passed refl

event_is : (document : Document) (text : List ℕ) → is_passed_over text ≡ false
    → event_at document text
    ≡ (line_action document (words_of text) >>= λ action. Ok (Some action))
unfolding event_at
event_is document text plain = rw plain refl

some_action : (line : ℕ) (read : Result Action ℕ) (action : Action) → on_line line read ≡ Ok action
    → on_line line (read >>= λ a. Ok (Some a)) ≡ Ok (Some action)
some_action line (Ok a) action e = ap (λ x. Ok (Some x)) cc
some_action line (Err reason) action e = cc

no_action : (line : ℕ) (read : Result Action ℕ) (fault : ℕ × ℕ) → on_line line read ≡ Err fault
    → on_line line (read >>= λ a. Ok (Some a)) ≡ Err fault
no_action line (Ok a) fault e = cc
no_action line (Err reason) fault e = ap Err cc

pub some_event : (document : Document) (line : ℕ) (text : List ℕ) (action : Action)
    → is_passed_over text ≡ false
    → on_line line (line_action document (words_of text)) ≡ Ok action
    → on_line line (event_at document text) ≡ Ok (Some action)
some_event document line text action plain read =
    ap (on_line line) (event_is document text plain)
    ∙ some_action line (line_action document (words_of text)) action read

pub no_event : (document : Document) (line : ℕ) (text : List ℕ) (fault : ℕ × ℕ)
    → is_passed_over text ≡ false
    → on_line line (line_action document (words_of text)) ≡ Err fault
    → on_line line (event_at document text) ≡ Err fault
no_event document line text fault plain read =
    ap (on_line line) (event_is document text plain)
    ∙ no_action line (line_action document (words_of text)) fault read

-- ---- the header's line

module _ {A B : Type 0} (head : List (List ℕ) → Result A ℕ) (made : A → List Action → B)
    (document : Document) (bytes : List ℕ) where
  pub no_opening : (line : ℕ) → opening 1 (lines_of bytes) ≡ (line, [])
      → whole_reading head made document bytes ≡ Err (line, 4)
  no_opening line is = ap (λ (o : ℕ × List (List ℕ)). read_from head made document o.0 o.1) is

  from_header : (line : ℕ) (text : List ℕ) (lines : List (List ℕ))
      → opening 1 (lines_of bytes) ≡ (line, text ∷ lines)
      → whole_reading head made document bytes
      ≡ (as_header line (head (words_of text)) >>= λ header.
      events_reading document (line + 1) lines >>= λ actions. Ok (made header actions))
  from_header line text lines is =
      ap (λ (o : ℕ × List (List ℕ)). read_from head made document o.0 o.1) is

  pub no_header : (line : ℕ) (text : List ℕ) (lines : List (List ℕ)) (fault : ℕ × ℕ)
      → opening 1 (lines_of bytes) ≡ (line, text ∷ lines)
      → as_header line (head (words_of text)) ≡ Err fault
      → whole_reading head made document bytes ≡ Err fault
  no_header line text lines fault opens is =
      from_header line text lines opens
      ∙ ap (λ read. read >>= λ header.
      events_reading document (line + 1) lines >>= λ actions. Ok (made header actions)) is

  after_header : (line : ℕ) (text : List ℕ) (lines : List (List ℕ)) (header : A)
      → opening 1 (lines_of bytes) ≡ (line, text ∷ lines)
      → as_header line (head (words_of text)) ≡ Ok header
      → whole_reading head made document bytes
      ≡ (events_reading document (line + 1) lines >>= λ actions. Ok (made header actions))
  after_header line text lines header opens is =
      from_header line text lines opens
      ∙ ap (λ read. read >>= λ header.
      events_reading document (line + 1) lines >>= λ actions. Ok (made header actions)) is

  pub no_events : (line : ℕ) (text : List ℕ) (lines : List (List ℕ)) (header : A) (fault : ℕ × ℕ)
      → opening 1 (lines_of bytes) ≡ (line, text ∷ lines)
      → as_header line (head (words_of text)) ≡ Ok header
      → events_reading document (line + 1) lines ≡ Err fault
      → whole_reading head made document bytes ≡ Err fault
  no_events line text lines header fault opens is events =
      after_header line text lines header opens is
      ∙ ap (λ read. read >>= λ actions. Ok (made header actions)) events

  pub whole : (line : ℕ) (text : List ℕ) (lines : List (List ℕ)) (header : A)
      (actions : List Action) → opening 1 (lines_of bytes) ≡ (line, text ∷ lines)
      → as_header line (head (words_of text)) ≡ Ok header
      → events_reading document (line + 1) lines ≡ Ok actions
      → whole_reading head made document bytes ≡ Ok (made header actions)
  whole line text lines header actions opens is events =
      after_header line text lines header opens is
      ∙ ap (λ read. read >>= λ actions. Ok (made header actions)) events
