-- What a download has of an image, request by request.
use Rattle.std.proofs.Common.{◌≡◌, ℕ, zero, suc, ◌+◌, ◌-◌, ◌*◌, ◌≤◌, Bool, true, false, List}
use Rattle.std.proofs.Common.{[], ◌∷◌, ◌++◌, length, take, slice_get, Option, Some, refl, sym, ap}
use Rattle.std.proofs.Common.{subst, ◌∙◌, inl, inr, arith, append_assoc, append-nil, length-take}
use Rattle.std.proofs.Common.{take_all, take-take}
use Rattle.std.proofs.lemmas.Bool.{cases_Bool, eqb-false}
use Rattle.std.proofs.lemmas.Bool.Decides.{nat_tests}
use Rattle.std.specs.Prelude.{◌==◌, ◌<◌, IfSome, if◌then◌else◌, nat_le}
use Rattle.std.specs.List.{concat}
use Rattle.omci_types.specs.declared.EntityId.{EntityId}
use Rattle.message_spec.specs.declared.Request.TheVariants as request
use Rattle.window_spec.specs.declared.TheConstants.{SECTION_BYTES}
use Rattle.window_spec.specs.declared.Fit.{Fit}
use Rattle.window_spec.specs.declared.Fit.TheVariants.{Begins, Extends, Apart}
use Rattle.window_spec.specs.declared.Arrived.{Arrived}
use Rattle.window_spec.specs.declared.Arrived.TheVariants as arrived
use Rattle.window_spec.specs.Incoming.{Section, Window, section, no_window, fit, window_by}
use Rattle.window_spec.specs.Incoming.{answer}
use Rattle.window_spec.specs.Outgoing.{Outgoing, new_outgoing, section_count, window_count}
use Rattle.window_spec.specs.Outgoing.{window_sections, is_last, after_window, sections_left}
use Rattle.window_laws.proofs.Fitting.{begin_tells, extend_tells, answer_of, after_of}
use Rattle.window_laws.proofs.Sections.{count_length}
use Rattle.window_laws.proofs.Windows.{window_joined, window_ends}
use Rattle.store_spec.specs.State.{Loading, StoreState, bytes_left, window_after}
use Rattle.store_spec.specs.Deeds.{Deed, Refuse, RefuseWindow, GiveUp, Begin, Put}
use Rattle.store_spec.specs.Deeds.{Seal, image_code, unless_refused}
use Rattle.store_spec.specs.Deeds.{ignore, window_code, seal_code, on_download, put_deed, hold_by}
use Rattle.store_spec.specs.Deeds.{hold_deed, seal_deed, slot_deed, refuse, deed}
use Rattle.store_spec.specs.Effects.{download_after, answered, handled_done}
use Rattle.store_spec.specs.declared.Handled.{Handled}
use Rattle.store_spec.specs.declared.Handled.TheVariants.{Dropped, Held, Answered}
use Rattle.download_laws.specs.Carrying.{HasBefore, HasAll, IsSectionOf, Carried}

-- ---- lists

take_none : (n : ℕ) → ◌≡◌ {A = List ℕ} (take n []) []
take_none zero = refl
take_none (suc n) = refl

take_front : (n : ℕ) (xs ys : List ℕ) → take n (take n xs ++ ys) ≡ take n (xs ++ ys)
take_front zero xs ys = refl
take_front (suc n) [] ys = refl
take_front (suc n) (x ∷ xs) ys = ap (λ zs. x ∷ zs) (take_front n xs ys)

-- one section more
one_more : (ws : List (List ℕ)) (n : ℕ) (x : List ℕ) → slice_get ws n ≡ Some x
    → concat (take (n + 1) ws) ≡ concat (take n ws) ++ x
one_more [] n x is = absurd cc
one_more (y ∷ ys) zero x is = let same : y ≡ x = cc in append-nil y ∙ same
one_more (y ∷ ys) (suc n) x is =
    let step : suc n + 1 ≡ suc (n + 1) = omega arith in
    ap (λ (k : ℕ). concat (take k (y ∷ ys))) step
    ∙ ap (λ (z : List ℕ). y ++ z) (one_more ys n x is)
    ∙ sym (append_assoc y (concat (take n ys)) x)

-- ---- a download begins, and goes on with the next window

pub begun_has : (image : List ℕ) (most slot granted : ℕ) (before : Option Loading)
    → IfSome (download_after (Begin slot (length image) granted) before)
    (HasBefore (new_outgoing image most))
begun_has image most slot granted before = record {
  size = refl;
  put = refl;
  held = sym (take_none (length image - SECTION_BYTES * 0));
}

nothing_held : (o : Outgoing) (l : Loading) → l.size ≡ length o.image
    → l.put ≡ take (SECTION_BYTES * o.first) o.image → l.window ≡ no_window → HasBefore o l
nothing_held o l size put none = record {
  size = size;
  put = put;
  held = ap (λ (w : Window). w.bytes) none
      ∙ sym (take_none (length o.image - SECTION_BYTES * o.first))
      ∙ ap (λ (w : Window). take (length o.image - SECTION_BYTES * o.first)
      (concat (take w.sections (window_sections o)))) (sym none);
}

more_says : (left most : ℕ) → nat_le left most ≡ false → most < left
more_says left most e = grind (arith, nat_tests)

next_by : (last : Bool) (o : Outgoing) → last ≡ false
    → (if last then o else record o { first = o.first + o.most })
    ≡ record o { first = o.first + o.most }
next_by true o e = grind (arith, e)
next_by false o e = refl

next_is : (o : Outgoing) → is_last o ≡ false
    → after_window o ≡ record o { first = o.first + o.most }
unfolding after_window
next_is o more = next_by (is_last o) o more

pub next_has : (o : Outgoing) (l : Loading) → HasAll o l → is_last o ≡ false
    → HasBefore (after_window o) l
next_has o l h more =
    let count : window_count o ≡ o.most = omega (arith, more_says (sections_left o) o.most more) in
    subst (λ (p : Outgoing). HasBefore p l) (sym (next_is o more))
    (nothing_held (record o { first = o.first + o.most }) l h.size
    (h.put ∙ ap (λ (k : ℕ). take (SECTION_BYTES * (o.first + k)) o.image) count) h.none)

pub whole_is : (o : Outgoing) (l : Loading) → HasAll o l → is_last o ≡ true
    → o.first ≤ section_count o.image → l.put ≡ o.image
whole_is o l h last within = h.put ∙ window_ends o last within

-- ---- by a code

unless_case : (P : Deed → Type 0) (refusing : ℕ → Deed) (code : ℕ) (d : Deed)
    → ((code == 0) ≡ false → P (refusing code)) → ((code == 0) ≡ true → P d)
    → P (unless_refused refusing code d)
unless_case P refusing code d refused passed = elim (cases_Bool (code == 0)) [
  | inl is ↦ subst (λ (b : Bool). P (if b then d else refusing code)) (sym is) (passed is)
  | inr is ↦ subst (λ (b : Bool). P (if b then d else refusing code)) (sym is) (refused is)
]

on_case : (P : Deed → Type 0) (refusing : ℕ → Deed) (slot : ℕ) (d : Option Loading) (l : Loading)
    (go : Loading → Deed) → d ≡ Some l → P (refusing 3) → P (go l)
    → P (on_download refusing slot d go)
on_case P refusing slot d l go is refused done =
    subst (λ (x : Option Loading). P (on_download refusing slot x go)) (sym is) (by (slot == l.target))
  where
    by : (b : Bool) → P (if b then go l else refusing 3)
    by true = done
    by false = refused

-- ---- a section

-- a window with a section missing is refused
not_broken : (granted size have : ℕ) → (window_code granted size have arrived.Broken == 0) ≡ true
    → ⊥
unfolding window_code
not_broken granted size have e = absurd (cc)

module _ (o : Outgoing) (l : Loading) (b : HasBefore o l) (s : Section)
    (there : slice_get (window_sections o) s.number ≡ Some s.bytes) where
  room : ℕ
  room = length o.image - SECTION_BYTES * o.first

  left_is : bytes_left l ≡ length o.image - SECTION_BYTES * o.first
  left_is = let put = ap (λ (xs : List ℕ). length xs) b.put
      ∙ length-take (SECTION_BYTES * o.first) o.image in
      omega (arith, b.size, put)

  -- what is held then
  held_by_fit : (f : Fit) → fit s l.window ≡ f
      → take (length o.image - SECTION_BYTES * o.first) (window_by f s l.window).bytes
      ≡ take (length o.image - SECTION_BYTES * o.first)
      (concat (take (window_by f s l.window).sections (window_sections o)))
  held_by_fit Begins is =
      let zero_is = begin_tells s l.window is in
      ap (λ (xs : List ℕ). take (length o.image - SECTION_BYTES * o.first) xs)
      (sym (one_more (window_sections o) 0 s.bytes
      (subst (λ (k : ℕ). slice_get (window_sections o) k ≡ Some s.bytes) zero_is there)))
  held_by_fit Extends is =
      let next = (extend_tells s l.window is).1.0 in
      let n = l.window.sections in
      ap (λ (xs : List ℕ). take (length o.image - SECTION_BYTES * o.first) (xs ++ s.bytes)) b.held
      ∙ take_front (length o.image - SECTION_BYTES * o.first)
      (concat (take n (window_sections o))) s.bytes
      ∙ ap (λ (xs : List ℕ). take (length o.image - SECTION_BYTES * o.first) xs)
      (sym (one_more (window_sections o) n s.bytes
      (subst (λ (k : ℕ). slice_get (window_sections o) k ≡ Some s.bytes) next there)))
  held_by_fit Apart is =
      ap (λ (xs : List ℕ). take (length o.image - SECTION_BYTES * o.first) xs) b.held
      ∙ take-take (length o.image - SECTION_BYTES * o.first)
      (length o.image - SECTION_BYTES * o.first)
      (concat (take l.window.sections (window_sections o))) (omega arith)

  window_has : (window_after s l).bytes ≡ take (length o.image - SECTION_BYTES * o.first)
      (concat (take (window_after s l).sections (window_sections o)))
  window_has =
      subst (λ (w : Window). take (bytes_left l) w.bytes
      ≡ take (length o.image - SECTION_BYTES * o.first)
      (concat (take w.sections (window_sections o))))
      (sym (after_of (fit s l.window) s l.window refl))
      (ap (λ (k : ℕ). take k (window_by (fit s l.window) s l.window).bytes) left_is
      ∙ held_by_fit (fit s l.window) refl)

  -- a section without AR
  hold_carries : (a : Arrived) → Carried o (hold_by a s l) l
  hold_carries arrived.Held = record { size = b.size; put = b.put; held = window_has }
  hold_carries arrived.Ignored = b
  hold_carries arrived.Broken = b
  hold_carries (arrived.Whole sections) = b

  -- one with AR, where its window passes its tests
  count_by_fit : (f : Fit) → fit s l.window ≡ f
      → (window_code l.granted l.size (length l.put) (answer s true l.window) == 0) ≡ true
      → (window_by f s l.window).sections ≡ s.number + 1
  count_by_fit Begins is passed = ap (λ (k : ℕ). k + 1) (sym (begin_tells s l.window is))
  count_by_fit Extends is passed =
      ap (λ (k : ℕ). k + 1) (sym (extend_tells s l.window is).1.0)
  count_by_fit Apart is passed = absurd (not_broken l.granted l.size (length l.put) (ap
      (λ (a : Arrived). window_code l.granted l.size (length l.put) a == 0)
      (sym (answer_of Apart s true l.window is)) ∙ passed))

  put_carries : window_count o ≡ s.number + 1
      → (window_code l.granted l.size (length l.put) (answer s true l.window) == 0) ≡ true
      → HasAll o (record l { put = l.put ++ (window_after s l).bytes; window = no_window })
  put_carries ends passed =
      let ws = window_sections o in
      let count : (window_after s l).sections ≡ s.number + 1 =
      ap (λ (w : Window). w.sections) (after_of (fit s l.window) s l.window refl)
      ∙ count_by_fit (fit s l.window) refl passed in
      let long = count_length (window_count o) o.first o.image in
      let all : take (window_after s l).sections ws ≡ ws =
      take_all (window_after s l).sections ws (omega (arith, count, ends, long)) in
      record {
        size = b.size;
        put =
            ap (λ (xs : List ℕ). l.put ++ xs) (window_has
            ∙ ap (λ (xs : List (List ℕ)). take (length o.image - SECTION_BYTES * o.first)
            (concat xs)) all)
            ∙ ap (λ (xs : List ℕ). xs ++ take (length o.image - SECTION_BYTES * o.first)
            (concat ws)) b.put
            ∙ window_joined o;
        none = refl;
      }

  refused_has : HasBefore o (record l { window = no_window })
  refused_has = nothing_held o (record l { window = no_window }) b.size b.put refl

pub section_carries : (o : Outgoing) (room tci : ℕ) (one : EntityId) (number : ℕ)
    (bytes : List ℕ) (last : Bool) (m : StoreState) (l : Loading) → m.download ≡ Some l
    → HasBefore o l → IsSectionOf o number bytes last
    → Carried o (deed room tci one (request.Section number bytes last) m) l
unfolding deed
section_carries o room tci one number bytes true m l is b k =
    let s = section tci number bytes in
    let none = refused_has o l b s k.there in
    unless_case (λ d. Carried o d l) (refuse (request.Section number bytes true))
    (image_code one m.broken) (slot_deed room tci one.instance (request.Section number bytes true) m)
    (λ code. none)
    (λ whole. on_case (λ d. Carried o d l) RefuseWindow one.instance m.download l
    (λ x. put_deed s x) is none
    (unless_case (λ d. Carried o d l) RefuseWindow
    (window_code l.granted l.size (length l.put) (answer s true l.window))
    (Put (l.put ++ (window_after s l).bytes)) (λ code. none)
    (λ passed. put_carries o l b s k.there (k.ends refl) passed)))
section_carries o room tci one number bytes false m l is b k =
    let s = section tci number bytes in
    unless_case (λ d. Carried o d l) (refuse (request.Section number bytes false))
    (image_code one m.broken)
    (slot_deed room tci one.instance (request.Section number bytes false) m) (λ code. b)
    (λ whole. on_case (λ d. Carried o d l) ignore one.instance m.download l
    (λ x. hold_deed s x) is b
    (hold_carries o l b s k.there (answer s false l.window)))

-- ---- the end

-- a deed that is answered with code 0 has P
abbrev Done : (Deed → Type 0) → Deed → Type 0
Done P d = (grows leaves : Bool) → handled_done d ≡ answered 0 grows leaves → P d

abbrev code_in : Handled → ℕ
code_in Dropped = 0
code_in Held = 0
code_in (Answered code grows leaves) = code.0

-- another code is none
other_code : (code : ℕ) (grows leaves : Bool) → (code == 0) ≡ false
    → answered code false false ≡ answered 0 grows leaves → ⊥
other_code code grows leaves other is =
    eqb-false code 0 other (ap code_in is)

refuses : (P : Deed → Type 0) (code : ℕ) → (code == 0) ≡ false → Done P (Refuse code)
refuses P code other grows leaves is = absurd (other_code code grows leaves other is)

refuses_window : (P : Deed → Type 0) (code : ℕ) → (code == 0) ≡ false → Done P (RefuseWindow code)
refuses_window P code other grows leaves is = absurd (other_code code grows leaves other is)

gives_up : (P : Deed → Type 0) (code : ℕ) → (code == 0) ≡ false → Done P (GiveUp code)
gives_up P code other grows leaves is = absurd (other_code code grows leaves other is)

pub taken_has : (o : Outgoing) (room tci : ℕ) (one : EntityId) (number : ℕ) (bytes : List ℕ)
    (m : StoreState) (l : Loading) (grows leaves : Bool) → m.download ≡ Some l → HasBefore o l
    → IsSectionOf o number bytes true
    → handled_done (deed room tci one (request.Section number bytes true) m)
    ≡ answered 0 grows leaves
    → IfSome (download_after (deed room tci one (request.Section number bytes true) m) (Some l))
    (HasAll o)
unfolding deed
taken_has o room tci one number bytes m l grows leaves is b k done =
    let s = section tci number bytes in
    let P = λ (d : Deed). IfSome (download_after d (Some l)) (HasAll o) in
    unless_case (Done P) (refuse (request.Section number bytes true)) (image_code one m.broken)
    (slot_deed room tci one.instance (request.Section number bytes true) m)
    (λ other. refuses_window P (image_code one m.broken) other)
    (λ whole. on_case (Done P) RefuseWindow one.instance m.download l (λ x. put_deed s x) is
    (refuses_window P 3 refl)
    (unless_case (Done P) RefuseWindow
    (window_code l.granted l.size (length l.put) (answer s true l.window))
    (Put (l.put ++ (window_after s l).bytes))
    (λ other. refuses_window P
    (window_code l.granted l.size (length l.put) (answer s true l.window)) other)
    (λ passed g v e. put_carries o l b s k.there (k.ends refl) passed))) grows leaves done

-- where a deed is a seal, it is of these bytes, into this slot
abbrev SealsOnly : ℕ → List ℕ → Deed → Type 0
SealsOnly target put (Seal slot image) = (slot ≡ target) × (image ≡ put)
SealsOnly target put _ = Unit {0}

seals_only : (room tci : ℕ) (one : EntityId) (check size targets target : ℕ) (m : StoreState)
    (l : Loading) → m.download ≡ Some l
    → SealsOnly l.target l.put (deed room tci one (request.End check size targets target) m)
unfolding deed
seals_only room tci one check size targets target m l is =
    let P = SealsOnly l.target l.put in
    unless_case P (refuse (request.End check size targets target)) (image_code one m.broken)
    (slot_deed room tci one.instance (request.End check size targets target) m) (λ other. tt)
    (λ whole. on_case P Refuse one.instance m.download l (λ x. seal_deed check size x) is tt
    (unless_case P GiveUp (seal_code check size l.size l.put) (Seal l.target l.put)
    (λ other. tt) (λ passed. (refl, refl))))

pub sealed_is : (room tci : ℕ) (one : EntityId) (check size targets target : ℕ) (m : StoreState)
    (l : Loading) (slot : ℕ) (image : List ℕ) → m.download ≡ Some l
    → deed room tci one (request.End check size targets target) m ≡ Seal slot image
    → (slot ≡ l.target) × (image ≡ l.put)
sealed_is room tci one check size targets target m l slot image is sealed =
    subst (SealsOnly l.target l.put) sealed
    (seals_only room tci one check size targets target m l is)

pub ended_is : (room tci : ℕ) (one : EntityId) (check size targets target : ℕ) (m : StoreState)
    (l : Loading) (grows leaves : Bool) → m.download ≡ Some l
    → handled_done (deed room tci one (request.End check size targets target) m)
    ≡ answered 0 grows leaves
    → deed room tci one (request.End check size targets target) m ≡ Seal l.target l.put
unfolding deed
ended_is room tci one check size targets target m l grows leaves is done =
    let P = λ (d : Deed). d ≡ Seal l.target l.put in
    unless_case (Done P) (refuse (request.End check size targets target))
    (image_code one m.broken)
    (slot_deed room tci one.instance (request.End check size targets target) m)
    (λ other. refuses P (image_code one m.broken) other)
    (λ whole. on_case (Done P) Refuse one.instance m.download l (λ x. seal_deed check size x) is
    (refuses P 3 refl)
    (unless_case (Done P) GiveUp (seal_code check size l.size l.put) (Seal l.target l.put)
    (λ other. gives_up P (seal_code check size l.size l.put) other)
    (λ passed g v e. refl))) grows leaves done
