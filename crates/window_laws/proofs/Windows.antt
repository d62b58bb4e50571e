-- An image in windows.
use Rattle.std.proofs.Common.{◌≡◌, ℕ, ◌+◌, ◌-◌, ◌*◌, ◌<◌, ◌≤◌, Bool, true, false, ◌++◌, length, take, refl, sym, ap, ◌∙◌, arith, take-add}
use Rattle.std.specs.Prelude.{nat_le, if◌then◌else◌}
use Rattle.std.specs.List.{concat}
use Rattle.std.proofs.lemmas.List.{take_all}
use Rattle.std.proofs.lemmas.Bool.Decides.{nat_tests}
use Rattle.window_spec.specs.declared.TheConstants.{SECTION_BYTES}
use Rattle.window_spec.specs.Outgoing.{Outgoing, section_count, sections_from, sections_of, sections_left, window_count, window_sections, sections_before, is_last, after_window}
use Rattle.window_laws.proofs.Sections.{sections_join, cut_bytes, count_reaches}

-- what the test of the last window says
last_says : (left most : ℕ) → nat_le left most ≡ true → left ≤ most
last_says left most e = grind (arith, nat_tests)

more_says : (left most : ℕ) → nat_le left most ≡ false → most < left
more_says left most e = grind (arith, nat_tests)

-- the next window, by that test
next_by : (last : Bool) (o : Outgoing) → last ≡ false → (if last then o else record o { first = o.first + o.most }) ≡ record o { first = o.first + o.most }
next_by true o e = grind (arith, e)
next_by false o e = refl

next_is : (o : Outgoing) → is_last o ≡ false → after_window o ≡ record o { first = o.first + o.most }
unfolding after_window
next_is o more = next_by (is_last o) o more

-- the sections before the window and so many more
windows_join : (o : Outgoing) (count : ℕ) → sections_from (o.first + count) 0 o.image ≡ sections_before o ++ sections_from count o.first o.image
windows_join o count =
    let e : 0 + o.first ≡ o.first = omega arith in
    sections_join o.first count 0 o.image ∙ ap (λ p. sections_before o ++ sections_from count p o.image) e

pub next_window : (o : Outgoing) → is_last o ≡ false → sections_before (after_window o) ≡ sections_before o ++ window_sections o
next_window o more =
    let count : o.most ≡ window_count o = omega (arith, more_says (sections_left o) o.most more) in
    ap (λ x. sections_before x) (next_is o more)
    ∙ windows_join o o.most
    ∙ ap (λ n. sections_before o ++ sections_from n o.first o.image) count

last_count : (o : Outgoing) → is_last o ≡ true → o.first ≤ section_count o.image → o.first + window_count o ≡ section_count o.image
last_count o last within = omega (arith, last_says (sections_left o) o.most last, within)

pub last_window : (o : Outgoing) → is_last o ≡ true → o.first ≤ section_count o.image → sections_before o ++ window_sections o ≡ sections_of o.image
last_window o last within =
    sym (windows_join o (window_count o)) ∙ ap (λ n. sections_from n 0 o.image) (last_count o last within)

pub window_within : (o : Outgoing) → o.first < section_count o.image → (after_window o).first < section_count o.image
unfolding after_window
window_within o within = by (is_last o) refl
  where
    by : (last : Bool) → is_last o ≡ last → (if last then o else record o { first = o.first + o.most }).first < section_count o.image
    by true e = within
    by false e = omega (arith, more_says (sections_left o) o.most e)

pub window_joined : (o : Outgoing) → take (SECTION_BYTES * o.first) o.image ++ take (length o.image - SECTION_BYTES * o.first) (concat (window_sections o)) ≡ take (SECTION_BYTES * (o.first + window_count o)) o.image
window_joined o =
    let e : SECTION_BYTES * o.first + SECTION_BYTES * window_count o ≡ SECTION_BYTES * (o.first + window_count o) = omega arith in
    ap (λ xs. take (SECTION_BYTES * o.first) o.image ++ xs) (cut_bytes (window_count o) o.first o.image)
    ∙ sym (take-add (SECTION_BYTES * o.first) (SECTION_BYTES * window_count o) o.image)
    ∙ ap (λ n. take n o.image) e

pub window_ends : (o : Outgoing) → is_last o ≡ true → o.first ≤ section_count o.image → take (SECTION_BYTES * (o.first + window_count o)) o.image ≡ o.image
window_ends o last within =
    take_all (SECTION_BYTES * (o.first + window_count o)) o.image (omega (arith, last_count o last within, count_reaches o.image))
