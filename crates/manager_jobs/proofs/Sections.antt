-- The sections of a window as they are handed to its command.
use Rattle.std.proofs.Common.{◌≡◌, ℕ, zero, suc, ◌+◌, ◌-◌, ◌<◌, ◌≤◌, refl, sym, ap, subst, ◌∙◌, arith}
use Rattle.std.proofs.Common.{Bool, true, false, if◌then◌else◌}
use Rattle.std.proofs.Common.{List, [], ◌∷◌, ◌++◌, length, take, Some}
use Rattle.std.specs.Prelude.{get_or, slice_get}
use Rattle.std.specs.List.{All}
use Rattle.std.proofs.lemmas.List.{take_at, take_more, take_all}
use Rattle.std.proofs.lemmas.List.Elements.{All-nil, All-push}
use Rattle.lane_spec.specs.Command.{window_command}
use Rattle.window_spec.specs.Outgoing.{Outgoing, section_at, sections_from, window_count}
use Rattle.window_spec.specs.Outgoing.{window_sections, is_last, after_window}
use Rattle.window_laws.proofs.Sections.{count_length, section_got, section_length, sections_join}
use Rattle.olt_lanes.specs.Sections.{earlier_of, last_of}
use Rattle.manager_spec.specs.Manager.{Order}
use Rattle.manager_spec.specs.Upgrade.{image_entity, window_after, image_window}

got : {X : Type 0} (xs : List X) (number : ℕ) (x d : X)
    → slice_get xs number ≡ Some x → (number < length xs) × (get_or xs number d ≡ x)
got [] number x d e = absurd (cc)
got (y ∷ xs) zero x d e = (omega arith, cc)
got (y ∷ xs) (suc number) x d e =
    let rest = got xs number x d e in
    (omega (arith, rest.0), rest.1)

-- ---- the window that is sent

pub image_stays : (o : Outgoing) → (after_window o).image ≡ o.image
unfolding after_window
image_stays o = by (is_last o)
  where
    by : (b : Bool) → (if b then o else record o { first = o.first + o.most }).image ≡ o.image
    by true = refl
    by false = refl

pub last_stays : (o : Outgoing) → is_last o ≡ true → after_window o ≡ o
unfolding after_window
last_stays o last = ap (λ b. if b then o else record o { first = o.first + o.most }) last

-- ---- the sections of a window

-- so many sections of the window are handed over
pub record CutSoFar (o : Outgoing) (number : ℕ) (sections : List (List ℕ)) : Type 0 where
  pub cut : sections ≡ take number (window_sections o)
  pub whole : All (λ section. length section ≡ 31) sections

pub none_cut : (o : Outgoing) (sections : List (List ℕ)) → sections ≡ [] → CutSoFar o 0 sections
none_cut o sections none =
    record {
      cut = none;
      whole = subst (λ ss. All (λ section. length section ≡ 31) ss) (sym none)
          (All-nil (λ section. length section ≡ 31));
    }

pub one_cut : (o : Outgoing) (number place : ℕ) (sections new : List (List ℕ)) (bytes : List ℕ)
    → slice_get (window_sections o) number ≡ Some bytes
    → bytes ≡ section_at place o.image
    → new ≡ sections ++ bytes ∷ []
    → CutSoFar o number sections
    → CutSoFar o (number + 1) new
one_cut o number place sections new bytes is cut added so_far =
    let long : length bytes ≡ 31 = ap (λ (b : List ℕ). length b) cut ∙ section_length place o.image in
    let at = got (window_sections o) number bytes [] is in
    record {
      cut = added ∙ ap (λ ss. ss ++ bytes ∷ []) so_far.cut
          ∙ sym
          (take_more (window_sections o) number [] at.0
          ∙ ap (λ b. take number (window_sections o) ++ b ∷ []) at.1);
      whole = subst (λ ss. All (λ section. length section ≡ 31) ss) (sym added)
          (All-push (λ section. length section ≡ 31) sections bytes so_far.whole long);
    }

pub all_cut : (o : Outgoing) (number : ℕ) (sections : List (List ℕ))
    → number ≡ window_count o
    → CutSoFar o number sections
    → sections ≡ window_sections o
all_cut o number sections e so_far =
    so_far.cut
    ∙ take_all number (window_sections o)
    (omega (arith, e, count_length (window_count o) o.first o.image))

-- all but the last of so many sections, and the last one
cut_front : (count place : ℕ) (image : List ℕ)
    → earlier_of (Some (sections_from (suc count) place image)) ≡ sections_from count place image
cut_front count place image =
    let long : length (sections_from (suc count) place image) ≡ suc count =
    count_length (suc count) place image in
    let less : length (sections_from (suc count) place image) - 1 ≡ count = omega (arith, long) in
    let more : suc count ≡ count + 1 = omega arith in
    ap (λ n. take n (sections_from (suc count) place image)) less
    ∙ ap (λ n. take count (sections_from n place image)) more
    ∙ ap (λ ss. take count ss) (sections_join count 1 place image)
    ∙ take_at (sections_from count place image) (sections_from 1 (place + count) image) count
    (count_length count place image)

cut_last : (count place : ℕ) (image : List ℕ)
    → last_of (sections_from (suc count) place image) ≡ section_at (place + count) image
cut_last count place image =
    let long : length (sections_from (suc count) place image) ≡ suc count =
    count_length (suc count) place image in
    let less : length (sections_from (suc count) place image) - 1 ≡ count = omega (arith, long) in
    ap (λ n. get_or (sections_from (suc count) place image) n []) less
    ∙ (got (sections_from (suc count) place image) count (section_at (place + count) image) []
    (section_got (suc count) place count image (omega arith))).1

-- the command of these sections is the window's
pub window_is : (order : Order) (o : Outgoing) (sections : List (List ℕ))
    → sections ≡ window_sections o
    → 1 ≤ window_count o
    → window_command (image_entity order.slot) (earlier_of (Some sections)) (last_of sections)
    ≡ image_window order o
unfolding image_window
window_is order o sections e some =
    ap (λ ss. window_command (image_entity order.slot) (earlier_of (Some ss)) (last_of ss)) e
    ∙ by (window_count o) some
  where
    by : (count : ℕ) → 1 ≤ count
        → window_command (image_entity order.slot)
        (earlier_of (Some (sections_from count o.first o.image)))
        (last_of (sections_from count o.first o.image))
        ≡ window_after (count - 1) order o
    by zero le = absurd (omega (arith, le))
    by (suc count) le =
        ap (λ ss. window_command (image_entity order.slot) ss
        (last_of (sections_from (suc count) o.first o.image))) (cut_front count o.first o.image)
        ∙ ap (λ s. window_command (image_entity order.slot) (sections_from count o.first o.image) s)
        (cut_last count o.first o.image)
        ∙ ap (λ n. window_after n order o) less
      where
        less : count ≡ suc count - 1
        less = omega arith
