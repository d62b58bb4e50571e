-- The loop over the lines of a capture: the lines so far, and what reading those that are left
-- gives.
use Rattle.std.proofs.Common.{◌≡◌, ℕ, ◌+◌, List, [], ◌∷◌, ◌++◌, Option, Some, None, Result, Ok, Err}
use Rattle.std.proofs.Common.{refl, sym, ap, ◌∙◌, append_assoc, true, false}
use Rattle.std.proofs.lemmas.List.{append-nil}
use Rattle.capture_spec.specs.declared.CaptureItem.{CaptureItem}
use Rattle.capture_spec.specs.Runs.{Lines}
use Rattle.capture_spec.specs.Input.{item_at, item_in, line_with, lines_reading, header_at}
use Rattle.capture_spec.specs.Input.{capture_from, capture_reading}
use Rattle.script_spec.specs.Reading.{◌>>=◌, on_line, as_header}
use Rattle.script_spec.specs.Text.{lines_of, words_of, is_passed_over, opening}

-- the lines so far, in front of those that reading gives
abbrev pub with_front : Lines → Result Lines (ℕ × ℕ) → Result Lines (ℕ × ℕ)
with_front front read = read >>= λ lines. Ok (front ++ lines)

-- nothing is read so far
pub begins : (read : Result Lines (ℕ × ℕ)) → with_front [] read ≡ read
begins (Ok lines) = refl
begins (Err e) = refl

-- one line more
pub goes_on : (front : Lines) (line : ℕ) (text : List ℕ) (texts : List (List ℕ))
    (item : Option CaptureItem) → on_line line (item_in text) ≡ Ok item
    → with_front (front ++ line_with line item) (lines_reading (line + 1) texts)
    ≡ with_front front (lines_reading line (text ∷ texts))
unfolding lines_reading
goes_on front line text texts item is =
    moved front (lines_reading (line + 1) texts) (line_with line item)
    ∙ ap (λ read.
    with_front front
    (read >>= λ i. lines_reading (line + 1) texts >>= λ lines. Ok (line_with line i ++ lines)))
    (sym is)
  where
    moved : (front : Lines) (read : Result Lines (ℕ × ℕ)) (one : Lines)
        → with_front (front ++ one) read
        ≡ with_front front (read >>= λ lines. Ok (one ++ lines))
    moved front (Ok lines) one = ap Ok (append_assoc front one lines)
    moved front (Err e) one = refl

-- a line with a fault
pub fails : (front : Lines) (line : ℕ) (text : List ℕ) (texts : List (List ℕ)) (fault : ℕ × ℕ)
    → on_line line (item_in text) ≡ Err fault
    → with_front front (lines_reading line (text ∷ texts)) ≡ Err fault
unfolding lines_reading
fails front line text texts fault is =
    ap (λ read.
    with_front front
    (read >>= λ i. lines_reading (line + 1) texts >>= λ lines. Ok (line_with line i ++ lines))) is

-- no line is left
pub ends : (front : Lines) (line : ℕ) → with_front front (lines_reading line []) ≡ Ok front
unfolding lines_reading
ends front line = ap Ok (append-nil front)

-- ---- one line

pub passed_item : (line : ℕ) (text : List ℕ) → is_passed_over text ≡ true
    → on_line line (item_in text) ≡ Ok None
unfolding item_in
passed_item line text passed = rw passed refl

item_is : (text : List ℕ) → is_passed_over text ≡ false
    → item_in text ≡ (item_at (words_of text) >>= λ item. Ok (Some item))
unfolding item_in
item_is text plain = rw plain refl

some_item_of : (line : ℕ) (read : Result CaptureItem ℕ) (item : CaptureItem)
    → on_line line read ≡ Ok item → on_line line (read >>= λ i. Ok (Some i)) ≡ Ok (Some item)
some_item_of line (Ok i) item e = ap (λ x. Ok (Some x)) cc
some_item_of line (Err reason) item e = cc

no_item_of : (line : ℕ) (read : Result CaptureItem ℕ) (fault : ℕ × ℕ)
    → on_line line read ≡ Err fault → on_line line (read >>= λ i. Ok (Some i)) ≡ Err fault
no_item_of line (Ok i) fault e = cc
no_item_of line (Err reason) fault e = ap Err cc

pub some_item : (line : ℕ) (text : List ℕ) (item : CaptureItem) → is_passed_over text ≡ false
    → on_line line (item_at (words_of text)) ≡ Ok item
    → on_line line (item_in text) ≡ Ok (Some item)
some_item line text item plain read =
    ap (on_line line) (item_is text plain) ∙ some_item_of line (item_at (words_of text)) item read

pub no_item : (line : ℕ) (text : List ℕ) (fault : ℕ × ℕ) → is_passed_over text ≡ false
    → on_line line (item_at (words_of text)) ≡ Err fault
    → on_line line (item_in text) ≡ Err fault
no_item line text fault plain read =
    ap (on_line line) (item_is text plain) ∙ no_item_of line (item_at (words_of text)) fault read

-- ---- the header's line

pub no_opening : (bytes : List ℕ) (line : ℕ) → opening 1 (lines_of bytes) ≡ (line, [])
    → capture_reading bytes ≡ Err (line, 4)
unfolding capture_reading
no_opening bytes line is = ap (λ (o : ℕ × List (List ℕ)). capture_from o.0 o.1) is

from_header : (bytes : List ℕ) (line : ℕ) (text : List ℕ) (texts : List (List ℕ))
    → opening 1 (lines_of bytes) ≡ (line, text ∷ texts)
    → capture_reading bytes
    ≡ (as_header line (header_at (words_of text)) >>= λ header. lines_reading (line + 1) texts)
unfolding capture_reading
from_header bytes line text texts is = ap (λ (o : ℕ × List (List ℕ)). capture_from o.0 o.1) is

pub no_header : (bytes : List ℕ) (line : ℕ) (text : List ℕ) (texts : List (List ℕ))
    (fault : ℕ × ℕ) → opening 1 (lines_of bytes) ≡ (line, text ∷ texts)
    → as_header line (header_at (words_of text)) ≡ Err fault → capture_reading bytes ≡ Err fault
no_header bytes line text texts fault opens is =
    from_header bytes line text texts opens
    ∙ ap (λ read. read >>= λ header. lines_reading (line + 1) texts) is

pub after_header : (bytes : List ℕ) (line : ℕ) (text : List ℕ) (texts : List (List ℕ))
    (header : List (List ℕ)) → opening 1 (lines_of bytes) ≡ (line, text ∷ texts)
    → as_header line (header_at (words_of text)) ≡ Ok header
    → capture_reading bytes ≡ lines_reading (line + 1) texts
after_header bytes line text texts header opens is =
    from_header bytes line text texts opens
    ∙ ap (λ read. read >>= λ header. lines_reading (line + 1) texts) is
