-- What is held are a window's first sections; a window that is sent in order arrives whole.
use Rattle.std.proofs.Common.{◌≡◌, ℕ, zero, suc, ◌+◌, ◌≤◌, Bool, true, false, List, [], ◌∷◌, ◌++◌, length, take, refl, sym, ap, ◌∙◌, arith, append_assoc, append-nil, length-append}
use Rattle.std.specs.Prelude.{◌==◌, ◌||◌}
use Rattle.std.specs.List.{flat_map, concat}
use Rattle.std.proofs.lemmas.List.{take-take}
use Rattle.std.proofs.lemmas.Grind.{flat_map-append}
use Rattle.std.proofs.lemmas.Bool.Decides.{Decides-eqb}
use Rattle.window_spec.specs.declared.Fit.{Fit}
use Rattle.window_spec.specs.declared.Fit.TheVariants.{Begins, Extends, Apart}
use Rattle.window_spec.specs.Incoming.{Section, section, Window, no_window, tci_after, is_next_tci, fit, with_section, window_by, after_section, answer_by, answer, after_sections, cut_window}
use Rattle.window_laws.specs.Gathering.{last_tci, window_of, held_by, held_with, held_of, AreNext, AreWindow}
use Rattle.window_laws.specs.Sending.{numbered}
use Rattle.window_laws.proofs.Fitting.{fit_begins, fit_extends, begin_tells, extend_tells, answer_of, after_of}

-- a window from its three parts
pub same_window : (m n t u : ℕ) (bytes more : List ℕ) → m ≡ n → t ≡ u → bytes ≡ more → ◌≡◌ {A = Window} (record { sections = m; tci = t; bytes = bytes }) (record { sections = n; tci = u; bytes = more })
same_window m n t u bytes more sections tci content = λ i. record { sections = sections i; tci = tci i; bytes = content i }

last_of_append : (tci : ℕ) (held : List Section) (s : Section) → last_tci tci (held ++ s ∷ []) ≡ s.tci
last_of_append tci [] s = refl
last_of_append tci (one ∷ rest) s = last_of_append one.tci rest s

-- a section more is the same of what is held and of the sections that are held
held_step : (f : Fit) (s : Section) (held : List Section) → window_by f s (window_of held) ≡ window_of (held_by f s held)
held_step Begins s held = same_window 1 1 s.tci s.tci s.bytes (s.bytes ++ []) refl refl (sym (append-nil s.bytes))
held_step Extends s held =
    same_window
    (length held + 1)
    (length (held ++ s ∷ []))
    s.tci
    (last_tci 0 (held ++ s ∷ []))
    (flat_map (λ x. x.bytes) held ++ s.bytes)
    (flat_map (λ x. x.bytes) (held ++ s ∷ []))
    (sym (length-append held (s ∷ [])))
    (sym (last_of_append 0 held s))
    (ap (λ b. flat_map (λ x. x.bytes) held ++ b) (sym (append-nil s.bytes)) ∙ sym (flat_map-append (λ (x : Section). x.bytes) held (s ∷ [])))
held_step Apart s held = refl

after_held : (s : Section) (held : List Section) → after_section s (window_of held) ≡ window_of (held_with s held)
unfolding after_section
after_held s held = held_step (fit s (window_of held)) s held

pub after_all : (came held : List Section) → after_sections came (window_of held) ≡ window_of (held_of came held)
after_all [] held = refl
after_all (s ∷ rest) held = ap (λ w. after_sections rest w) (after_held s held) ∙ after_all rest (held_with s held)

-- the sections that are held have no gap
next_append : (number tci : ℕ) (held : List Section) (s : Section) → AreNext number tci held → s.number ≡ number + length held → is_next_tci (last_tci tci held) s.tci ≡ true → AreNext number tci (held ++ s ∷ [])
next_append number tci [] s h is next = (omega (arith, is), (next, tt))
next_append number tci (one ∷ rest) s h is next = (h.0, (h.1.0, next_append (number + 1) one.tci rest s h.1.1 (omega (arith, is)) next))

gapless_extended : (s : Section) (held : List Section) → fit s (window_of held) ≡ Extends → AreWindow held → AreWindow (held ++ s ∷ [])
gapless_extended s [] e h = let t = extend_tells s (window_of []) e in absurd (t.0 t.1.0)
gapless_extended s (one ∷ rest) e h =
    let t = extend_tells s (window_of (one ∷ rest)) e in
    (h.0, next_append 1 one.tci rest s h.1 (omega (arith, t.1.0)) t.1.1)

gapless_by : (f : Fit) (s : Section) (held : List Section) → fit s (window_of held) ≡ f → AreWindow held → AreWindow (held_by f s held)
gapless_by Begins s held e h = (begin_tells s (window_of held) e, tt)
gapless_by Extends s held e h = gapless_extended s held e h
gapless_by Apart s held e h = h

pub gapless : (came held : List Section) → AreWindow held → AreWindow (held_of came held)
gapless [] held h = h
gapless (s ∷ rest) held h = gapless rest (held_with s held) (gapless_by (fit s (window_of held)) s held refl h)

-- the next section of a window under the same TCI
same_tci : (tci : ℕ) → is_next_tci tci tci ≡ true
same_tci tci = ap (λ b. b || (tci == tci_after tci)) ((Decides-eqb tci tci).1 refl)

next_fits : (tci number : ℕ) (bytes : List ℕ) (w : Window) → 1 ≤ number → w.sections ≡ number → w.tci ≡ tci → fit (section tci number bytes) w ≡ Extends
next_fits tci number bytes w some sections same =
    fit_extends (section tci number bytes) w (λ (e : number ≡ 0). absurd (omega (arith, some, e))) (sym sections) (ap (λ t. is_next_tci t tci) same ∙ same_tci tci)

rest_arrives : (tci number : ℕ) (rest : List (List ℕ)) (w : Window) → 1 ≤ number → w.sections ≡ number → w.tci ≡ tci → after_sections (numbered tci number rest) w ≡ record { sections = number + length rest; tci = tci; bytes = w.bytes ++ concat rest }
rest_arrives tci number [] w some sections same =
    same_window w.sections (number + 0) w.tci tci w.bytes (w.bytes ++ []) (omega (arith, sections)) same (sym (append-nil w.bytes))
rest_arrives tci number (bytes ∷ rest) w some sections same =
    let s : Section = section tci number bytes in
    ap (λ x. after_sections (numbered tci (number + 1) rest) x) (after_of Extends s w (next_fits tci number bytes w some sections same))
    ∙ rest_arrives tci (number + 1) rest (with_section s w) (omega (arith, some)) (omega (arith, sections)) refl
    ∙ same_window
    (number + 1 + length rest)
    (number + length (bytes ∷ rest))
    tci
    tci
    (w.bytes ++ bytes ++ concat rest)
    (w.bytes ++ concat (bytes ∷ rest))
    (omega arith)
    refl
    (append_assoc w.bytes bytes (concat rest))

pub arrives : (tci : ℕ) (sections : List (List ℕ)) (w : Window) → 1 ≤ length sections → after_sections (numbered tci 0 sections) w ≡ record { sections = length sections; tci = tci; bytes = concat sections }
arrives tci [] w some = absurd (omega (arith, some))
arrives tci (bytes ∷ rest) w some =
    let s : Section = section tci 0 bytes in
    ap (λ x. after_sections (numbered tci 1 rest) x) (after_of Begins s w (fit_begins s w refl))
    ∙ rest_arrives tci 1 rest (with_section s no_window) (omega arith) refl refl
    ∙ same_window (1 + length rest) (length (bytes ∷ rest)) tci tci (bytes ++ concat rest) (concat (bytes ∷ rest)) (omega arith) refl refl

-- the last of them is answered so
fits_then : (tci : ℕ) (before : List (List ℕ)) (bytes : List ℕ) (w : Window) → (f : Fit) × (fit (section tci (length before) bytes) (after_sections (numbered tci 0 before) w) ≡ f) × ((last : Bool) → answer_by f last (window_by f (section tci (length before) bytes) (after_sections (numbered tci 0 before) w)).sections ≡ answer_by Begins last (length before + 1))
fits_then tci [] bytes w = (Begins, fit_begins (section tci 0 bytes) w refl, λ last. refl)
fits_then tci (one ∷ more) bytes w =
    let before : List (List ℕ) = one ∷ more in
    let s : Section = section tci (length before) bytes in
    let is = arrives tci before w (omega arith) in (
      Extends,
      next_fits tci (length before) bytes (after_sections (numbered tci 0 before) w) (omega arith) (ap (λ x. x.sections) is) (ap (λ x. x.tci) is),
      λ last. (same_answer last (after_sections (numbered tci 0 before) w).sections ∙ ap (λ n. answer_by Begins last (n + 1)) (ap (λ x. x.sections) is)),
    )
  where
    same_answer : (last : Bool) (n : ℕ) → answer_by Extends last (n + 1) ≡ answer_by Begins last (n + 1)
    same_answer true n = refl
    same_answer false n = refl

pub next_answer : (tci : ℕ) (before : List (List ℕ)) (bytes : List ℕ) (last : Bool) (w : Window) → answer (section tci (length before) bytes) last (after_sections (numbered tci 0 before) w) ≡ answer_by Begins last (length before + 1)
next_answer tci before bytes last w =
    let h = fits_then tci before bytes w in
    answer_of h.0 (section tci (length before) bytes) last (after_sections (numbered tci 0 before) w) h.1 ∙ h.2 last

-- what is held may be cut
take_front : (n : ℕ) (xs ys : List ℕ) → take n (take n xs ++ ys) ≡ take n (xs ++ ys)
take_front zero xs ys = refl
take_front (suc n) [] ys = refl
take_front (suc n) (x ∷ xs) ys = ap (λ zs. x ∷ zs) (take_front n xs ys)

cut_by : (f : Fit) (room : ℕ) (s : Section) (w : Window) → cut_window room (window_by f s (cut_window room w)) ≡ cut_window room (window_by f s w)
cut_by Begins room s w = refl
cut_by Extends room s w =
    same_window (w.sections + 1) (w.sections + 1) s.tci s.tci (take room (take room w.bytes ++ s.bytes)) (take room (w.bytes ++ s.bytes)) refl refl (take_front room w.bytes s.bytes)
cut_by Apart room s w =
    same_window w.sections w.sections w.tci w.tci (take room (take room w.bytes)) (take room w.bytes) refl refl (take-take room room w.bytes (omega arith))

count_by : (f : Fit) (room : ℕ) (s : Section) (w : Window) → (window_by f s (cut_window room w)).sections ≡ (window_by f s w).sections
count_by Begins room s w = refl
count_by Extends room s w = refl
count_by Apart room s w = refl

pub cut_after : (room : ℕ) (s : Section) (w : Window) → cut_window room (after_section s (cut_window room w)) ≡ cut_window room (after_section s w)
unfolding after_section fit
cut_after room s w = cut_by (fit s w) room s w

pub cut_answer : (room : ℕ) (s : Section) (last : Bool) (w : Window) → answer s last (cut_window room w) ≡ answer s last w
unfolding answer after_section fit
cut_answer room s last w = ap (λ n. answer_by (fit s w) last n) (count_by (fit s w) room s w)
