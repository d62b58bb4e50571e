-- The run over the lines: what is written so far, and what is written of the lines that are left.
use Rattle.std.proofs.Common.{◌≡◌, ℕ, ◌+◌, ◌<◌, ◌≤◌, List, [], ◌∷◌, ◌++◌, length, drop, get_or}
use Rattle.std.proofs.Common.{refl, sym, ap, ◌∙◌, append_assoc, drop-cons, add-one}
use Rattle.std.proofs.Math.ListN.{drop_of_length-le}
use Rattle.std.proofs.lemmas.List.{append-nil}
use Rattle.meter_spec.specs.Events.{History}
use Rattle.meter_spec.specs.Meter.{Meter, meter_of}
use Rattle.meter_lines_spec.specs.declared.MeterLine.{MeterLine}
use Rattle.meter_lines_spec.specs.Replies.{after, tci_after, line_text, lines_text}

-- The counters stand for some events, and what is written so far, with what is written of the lines
-- that are left after these events, is the whole.
pub record RunSoFar (pm : Meter) (event tci : ℕ) (out : List ℕ) (left : List MeterLine)
    (whole : List ℕ) : Type 0 where
  pub events : History
  pub stands : pm ≡ meter_of events
  pub rest : out ++ lines_text (event + 1) tci left events ≡ whole

text_more : (event tci : ℕ) (line : MeterLine) (later : List MeterLine) (h : History)
    → lines_text event tci (line ∷ later) h
    ≡ line_text event tci line h
    ++ lines_text (event + 1) (tci_after tci line) later (after tci line h)
unfolding lines_text
text_more event tci line later h = refl

-- one line more
pub goes_on : (pm pm_now : Meter) (event tci tci_now : ℕ) (out out_now : List ℕ)
    (lines : List MeterLine) (place : ℕ) (other : MeterLine) (whole : List ℕ)
    → place < length lines → RunSoFar pm event tci out (drop place lines) whole
    → ((h : History) → pm ≡ meter_of h → pm_now ≡ meter_of (after tci (get_or lines place other) h))
    → ((h : History) → pm ≡ meter_of h
    → out_now ≡ out ++ line_text (event + 1) tci (get_or lines place other) h)
    → tci_now ≡ tci_after tci (get_or lines place other)
    → RunSoFar pm_now (event + 1) tci_now out_now (drop (place + 1) lines) whole
goes_on pm pm_now event tci tci_now out out_now lines place other whole lt so_far stands text next =
    let h = so_far.events in
    let line = get_or lines place other in
    let later = drop (place + 1) lines in
    let first : drop place lines ≡ line ∷ later =
    drop-cons lines place other lt ∙ ap (λ n. line ∷ drop n lines) (sym (add-one place)) in
    let behind = lines_text (event + 1 + 1) (tci_after tci line) later (after tci line h) in
    record {
      events = after tci line h;
      stands = stands h so_far.stands;
      rest =
          ap (λ t. out_now ++ lines_text (event + 1 + 1) t later (after tci line h)) next
          ∙ ap (λ xs. xs ++ behind) (text h so_far.stands)
          ∙ append_assoc out (line_text (event + 1) tci line h) behind
          ∙ ap (λ xs. out ++ xs) (sym (text_more (event + 1) tci line later h))
          ∙ ap (λ left. out ++ lines_text (event + 1) tci left h) (sym first) ∙ so_far.rest;
    }

text_none : (event tci : ℕ) (h : History) → lines_text event tci [] h ≡ []
unfolding lines_text
text_none event tci h = refl

-- no line is left
pub ends : (pm : Meter) (event tci : ℕ) (out : List ℕ) (lines : List MeterLine) (place : ℕ)
    (whole : List ℕ) → length lines ≤ place → RunSoFar pm event tci out (drop place lines) whole
    → out ≡ whole
ends pm event tci out lines place whole past so_far =
    sym (append-nil out)
    ∙ ap (λ xs. out ++ xs) (sym (text_none (event + 1) tci so_far.events))
    ∙ ap (λ left. out ++ lines_text (event + 1) tci left so_far.events)
    (sym (drop_of_length-le lines past)) ∙ so_far.rest
