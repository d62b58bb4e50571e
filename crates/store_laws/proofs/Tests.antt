-- What a request comes to, by what its tests find.
use Rattle.std.proofs.Common.{◌≡◌, ◌≢◌, inl, inr, ℕ, zero, suc, ◌+◌, ◌-◌, ◌*◌, ◌==◌, ◌||◌}
use Rattle.std.proofs.Common.{◌≤◌, ◌<◌, not, nat_lt, Bool, true, false}
use Rattle.std.proofs.Common.{List, [], ◌∷◌, ◌++◌, length, take, Option, Some, None, IsSome}
use Rattle.std.proofs.Common.{refl, sym, ◌∙◌, ap, arith}
use Rattle.std.proofs.lemmas.Bool.{cases_eq, eq-eqb, ne_eqb, false≢true, leb-false}
use Rattle.std.proofs.lemmas.Bool.{eqb-false}
use Rattle.std.proofs.lemmas.List.{take_all}
use Rattle.std.specs.Option.{is_some, option_map}
use Rattle.omci_types.specs.declared.EntityId.{EntityId}
use Rattle.omci_types.specs.declared.SlotView.{SlotView}
use Rattle.message_spec.specs.declared.Request.{Request}
use Rattle.frame_spec.specs.Checksum.{crc}
use Rattle.slot_spec.specs.declared.DiskHeader.{DiskHeader}
use Rattle.slot_spec.specs.Slots.{SlotPair, image_at}
use Rattle.slot_spec.specs.Header.{view_of, view_at, slot_header}
use Rattle.slot_spec.specs.Owner.{Shows}
use Rattle.slot_laws.proofs.Gate.{image_none}
use Rattle.store_laws.proofs.Steps.{image_code_passed}
use Rattle.window_spec.specs.declared.Arrived.{Arrived}
use Rattle.window_spec.specs.declared.Arrived.TheVariants as arrived
use Rattle.window_spec.specs.Incoming.{Section, Window, no_window, fit, window_by, after_section}
use Rattle.window_spec.specs.Incoming.{answer, answer_by, cut_window}
use Rattle.window_spec.specs.declared.Fit.{Fit}
use Rattle.window_spec.specs.declared.Fit.TheVariants.{Begins, Extends, Apart}
use Rattle.window_laws.proofs.Gathering.{cut_after, cut_answer}
use Rattle.mib_spec.specs.Requests.{first_code}
use Rattle.store_spec.specs.State.{Loading, StoreState, loading_of, has_image, window_after}
use Rattle.store_spec.specs.Deeds.{Deed, Refuse, RefuseWindow, GiveUp, Hold, Put, Seal}
use Rattle.store_spec.specs.Deeds.{Commit, Recommit, Ignore, deed, slot_deed, refuse}
use Rattle.store_spec.specs.Deeds.{unless_refused, image_code, start_code, is_in_use, is_past}
use Rattle.store_spec.specs.Deeds.{window_code, seal_code, on_download, put_deed}
use Rattle.store_spec.specs.Deeds.{hold_by, hold_deed, seal_deed, Activate, activate_deed}
use Rattle.store_spec.specs.Deeds.{commit_deed}

-- a test that is passed, and one that is not
pub passed : (refuse : ℕ → Deed) (code : ℕ) (d : Deed) → code ≡ 0 → unless_refused refuse code d ≡ d
passed refuse code d is = rw (eq-eqb code 0 is) refl

pub refused_by : (refuse : ℕ → Deed) (code given : ℕ) (d : Deed) → code ≡ given
    → (given == 0) ≡ false → unless_refused refuse code d ≡ refuse given
refused_by refuse code given d is fails = rw (is, fails) refl

-- the tests that each request begins with
pub deed_passed : (room tci : ℕ) (one : EntityId) (r : Request) (m : StoreState) (broken : Bool)
    → m.broken ≡ broken → image_code one broken ≡ 0
    → deed room tci one r m ≡ slot_deed room tci one.instance r m
unfolding deed
deed_passed room tci one r m broken is passes =
    passed (refuse r) (image_code one m.broken) (slot_deed room tci one.instance r m)
    (ap (λ (b : Bool). image_code one b) is ∙ passes)

pub deed_refused : (room tci : ℕ) (one : EntityId) (r : Request) (m : StoreState) (broken : Bool)
    (code : ℕ) → m.broken ≡ broken → image_code one broken ≡ code → (code == 0) ≡ false
    → deed room tci one r m ≡ refuse r code
unfolding deed
deed_refused room tci one r m broken code is refused fails =
    refused_by (refuse r) (image_code one m.broken) code (slot_deed room tci one.instance r m)
    (ap (λ (b : Bool). image_code one b) is ∙ refused) fails

-- whether a download runs, and into this slot
pub no_download : (refuse : ℕ → Deed) (slot : ℕ) (d : Option Loading) (go : Loading → Deed)
    → d ≡ None → on_download refuse slot d go ≡ refuse 1
no_download refuse slot d go none = ap (λ (o : Option Loading). on_download refuse slot o go) none

pub this_download : (refuse : ℕ → Deed) (slot : ℕ) (d : Option Loading) (l : Loading)
    (go : Loading → Deed) → d ≡ Some l → slot ≡ l.target → on_download refuse slot d go ≡ go l
this_download refuse slot d l go is same =
    ap (λ (o : Option Loading). on_download refuse slot o go) is ∙ by
  where
    by : on_download refuse slot (Some l) go ≡ go l
    by = rw (eq-eqb slot l.target same) refl

pub other_download : (refuse : ℕ → Deed) (slot : ℕ) (d : Option Loading) (l : Loading)
    (go : Loading → Deed) → d ≡ Some l → slot ≢ l.target → on_download refuse slot d go ≡ refuse 3
other_download refuse slot d l go is other =
    ap (λ (o : Option Loading). on_download refuse slot o go) is ∙ by
  where
    by : on_download refuse slot (Some l) go ≡ refuse 3
    by = rw (ne_eqb slot l.target other) refl

-- start: what its tests say of the slot and of the size
start_by : (targets in_use small : Bool)
    → first_code ((targets, 2) ∷ (in_use, 3) ∷ (small, 3) ∷ []) ≡ 0 → (in_use ≡ false)
    × (small ≡ false)
start_by true in_use small is = absurd (omega (arith, is))
start_by false true small is = absurd (omega (arith, is))
start_by false false true is = absurd (omega (arith, is))
start_by false false false is = (refl, refl)

not_or : (a b : Bool) → (a || b) ≡ false → (a ≡ false) × (b ≡ false)
not_or true b is = absurd (false≢true (sym is))
not_or false b is = (refl, is)

pub start_finds : (slot active committed room targets size : ℕ)
    → start_code (is_in_use slot active committed) room targets size ≡ 0 → (slot ≢ committed)
    × (1 ≤ size) × (size ≤ room)
unfolding start_code
start_finds slot active committed room targets size is =
    let found = start_by (nat_lt 1 targets) (is_in_use slot active committed)
    (size == 0 || nat_lt room size) is in
    let used = not_or (slot == active) (slot == committed) found.0 in
    let sized = not_or (size == 0) (nat_lt room size) found.1 in
    let some = eqb-false size 0 sized.0 in
    let fits = leb-false (suc room) size sized.1 in
    (eqb-false slot committed used.1, omega (arith, some), omega (arith, fits))

-- a window that passes its tests ends within the image
window_by_code : (granted past : Bool) → first_code ((granted, 3) ∷ (past, 3) ∷ []) ≡ 0
    → past ≡ false
window_by_code true past is = absurd (omega (arith, is))
window_by_code false true is = absurd (omega (arith, is))
window_by_code false false is = refl

pub window_within : (granted size have : ℕ) (a : Arrived) → window_code granted size have a ≡ 0
    → have ≤ size
unfolding window_code
window_within granted size have (arrived.Whole sections) is =
    let within = leb-false size (have + 31 * (sections - 1))
    (window_by_code (nat_lt granted sections) (is_past size have sections) is) in
    omega (arith, within)
window_within granted size have arrived.Broken is = absurd (omega (arith, is))
window_within granted size have arrived.Held is = absurd (omega (arith, is))
window_within granted size have arrived.Ignored is = absurd (omega (arith, is))

-- what is held may be cut where the image ends
module _ (target size granted : ℕ) (put : List ℕ) (s : Section) (w : Window) where
  pub window_is : window_after s (loading_of target size granted put w) ≡ cut_window
      (size - length put) (after_section s w)
  window_is = cut_after (size - length put) s w

  pub put_refused : (have code : ℕ) (a : Arrived) → have ≡ length put → a ≡ answer s true w
      → window_code granted size have a ≡ code → (code == 0) ≡ false
      → put_deed s (loading_of target size granted put w) ≡ RefuseWindow code
  put_refused have code a long is refused fails =
      refused_by RefuseWindow _ code _ (ap
      (λ (x : Arrived). window_code granted size (length put) x)
      (cut_answer (size - length put) s true w ∙ sym is)
      ∙ ap (λ (n : ℕ). window_code granted size n a) (sym long) ∙ refused) fails

  pub put_passed : (have : ℕ) (a : Arrived) (bytes : List ℕ) → have ≡ length put
      → a ≡ answer s true w → bytes ≡ (after_section s w).bytes
      → window_code granted size have a ≡ 0
      → put_deed s (loading_of target size granted put w) ≡ Put (put ++ take (size - have) bytes)
  put_passed have a bytes long is held passes =
      passed RefuseWindow _ _ (ap (λ (x : Arrived). window_code granted size (length put) x)
      (cut_answer (size - length put) s true w ∙ sym is)
      ∙ ap (λ (n : ℕ). window_code granted size n a) (sym long) ∙ passes)
      ∙ ap (λ (x : Window). Put (put ++ x.bytes)) window_is
      ∙ ap (λ (x : List ℕ). Put (put ++ take (size - length put) x)) (sym held)
      ∙ ap (λ (n : ℕ). Put (put ++ take (size - n) bytes)) (sym long)

  held_by : (a : Arrived) → a ≡ arrived.Held
      → hold_by a s (loading_of target size granted put w) ≡ Hold
      (window_after s (loading_of target size granted put w))
  held_by a is = ap (λ (x : Arrived). hold_by x s (loading_of target size granted put w)) is

  pub hold_held : answer s false w ≡ arrived.Held
      → hold_deed s (loading_of target size granted put w) ≡ Hold
      (cut_window (size - length put) (after_section s w))
  hold_held is = held_by _ (cut_answer (size - length put) s false w ∙ is) ∙ ap (λ (x : Window). Hold x) window_is

  dropped_by : (a : Arrived) → a ≢ arrived.Held
      → hold_by a s (loading_of target size granted put w) ≡ Ignore
  dropped_by arrived.Held other = absurd (other refl)
  dropped_by arrived.Ignored other = refl
  dropped_by arrived.Broken other = refl
  dropped_by (arrived.Whole n) other = refl

  pub hold_dropped : answer s false w ≢ arrived.Held
      → hold_deed s (loading_of target size granted put w) ≡ Ignore
  hold_dropped other = dropped_by _ (λ is. other
      (sym (cut_answer (size - length put) s false w) ∙ is))

-- a section that isn't held changes nothing
pub dropped_same : (s : Section) (w : Window) → answer s false w ≢ arrived.Held
    → after_section s w ≡ w
unfolding answer after_section
dropped_same s w other = by (fit s w) other
  where
    by : (f : Fit) → answer_by f false (window_by f s w).sections ≢ arrived.Held
        → window_by f s w ≡ w
    by Begins other = absurd (other refl)
    by Extends other = absurd (other refl)
    by Apart other = refl

-- nothing is held of a window, however it is cut
pub cut_none : (count : ℕ) → cut_window count no_window ≡ no_window
cut_none count = ap (λ (b : List ℕ). record no_window { bytes = b })
    (take_all count [] (omega arith))

-- end: the tests of the image
module _ (check given target size granted : ℕ) (put : List ℕ) (w : Window) where
  pub seal_passed : length put ≡ size → given ≡ length put → check ≡ crc put
      → seal_deed check given (loading_of target size granted put w) ≡ Seal target put
  unfolding seal_code
  seal_passed whole asked checks = rw (
    eq-eqb (length put) size whole,
    eq-eqb given (length put) asked,
    eq-eqb (crc put) check
        (sym checks),
  ) refl

  pub seal_size : (length put ≡ size → given ≡ length put → ⊥)
      → seal_deed check given (loading_of target size granted put w) ≡ GiveUp 3
  unfolding seal_code
  seal_size differs = elim (cases_eq (length put) size) [
    | inr apart ↦ rw (ne_eqb (length put) size apart) refl
    | inl whole ↦ rw (eq-eqb (length put) size whole, ne_eqb given (length put) (differs whole))
        refl
  ]

  pub seal_check : crc put ≢ check → length put ≡ size → given ≡ length put
      → seal_deed check given (loading_of target size granted put w) ≡ GiveUp 1
  unfolding seal_code
  seal_check differs whole asked = rw (
    eq-eqb (length put) size whole,
    eq-eqb given (length put) asked,
    ne_eqb
        (crc put) check differs,
  ) refl

-- commit: whether the slot has an image, and is the committed one
pub commit_none : (slot : ℕ) (s : SlotPair) → is_some (image_at slot s) ≡ false
    → commit_deed slot s ≡ Refuse 3
commit_none slot s none = rw none refl

pub commit_same : (slot : ℕ) (s : SlotPair) → is_some (image_at slot s) ≡ true → slot ≡ s.committed
    → commit_deed slot s ≡ Recommit slot
commit_same slot s some same = rw (some, eq-eqb slot s.committed same) refl

pub commit_other : (slot : ℕ) (s : SlotPair) → is_some (image_at slot s) ≡ true → slot ≢ s.committed
    → commit_deed slot s ≡ Commit slot
commit_other slot s some other = rw (some, ne_eqb slot s.committed other) refl

-- whether a slot has an image, by what its header says
pub valid_is : (slot : ℕ) (header : DiskHeader) (s : SlotPair) (bytes : List ℕ)
    → Shows header s bytes → is_some (image_at slot s) ≡ is_some (view_at slot header)
valid_is zero header s bytes shows =
    by s.first ∙ sym (ap (λ (o : Option SlotView). is_some o) shows.first.view_is)
  where
    by : (o : Option (List ℕ)) → is_some o ≡ is_some (option_map view_of o)
    by None = refl
    by (Some i) = refl
valid_is (suc _) header s bytes shows =
    by s.second ∙ sym (ap (λ (o : Option SlotView). is_some o) shows.second.view_is)
  where
    by : (o : Option (List ℕ)) → is_some o ≡ is_some (option_map view_of o)
    by None = refl
    by (Some i) = refl

-- activate: whether the slot has an image
pub activate_some : (slot : ℕ) (m : StoreState) → has_image slot m.slots ≡ true
    → activate_deed slot m ≡ Activate (not (slot == m.active))
activate_some slot m some = rw some refl

pub activate_none : (slot : ℕ) (m : StoreState) → has_image slot m.slots ≡ false
    → activate_deed slot m ≡ Refuse 3
activate_none slot m none = rw none refl

-- a store whose first tests a request passes is whole
pub whole_passed : (one : EntityId) (broken : Bool) → image_code one broken ≡ 0 → broken ≡ false
whole_passed one broken is = (image_code_passed one broken (eq-eqb (image_code one broken) 0 is)).1

-- where one slot has no image, the other is the committed one
empty_first : (slot k : ℕ) (s : SlotPair) → slot < 2 → k < 2 → s.first ≡ None
    → is_some (image_at slot s) ≡ true → IsSome (image_at k s) → slot ≡ k
empty_first zero k s below low none some there =
    absurd (false≢true (sym (ap (λ (o : Option (List ℕ)). is_some o) none) ∙ some))
empty_first (suc zero) zero s below low none some there =
    absurd (false≢true (sym (ap (λ (o : Option (List ℕ)). is_some o) none) ∙ there))
empty_first (suc zero) (suc zero) s below low none some there = refl
empty_first (suc zero) (suc (suc _)) s below low none some there = absurd (omega (arith, low))
empty_first (suc (suc _)) k s below low none some there = absurd (omega (arith, below))

empty_second : (slot k : ℕ) (s : SlotPair) → slot < 2 → k < 2 → s.second ≡ None
    → is_some (image_at slot s) ≡ true → IsSome (image_at k s) → slot ≡ k
empty_second zero zero s below low none some there = refl
empty_second zero (suc k) s below low none some there =
    absurd (false≢true (sym (ap (λ (o : Option (List ℕ)). is_some o) none) ∙ there))
empty_second (suc slot) k s below low none some there =
    absurd (false≢true (sym (ap (λ (o : Option (List ℕ)). is_some o) none) ∙ some))

pub loading_commits : (slot target : ℕ) (header : DiskHeader) (s : SlotPair) (bytes : List ℕ)
    → slot < 2 → Shows header s bytes → (slot_header target header).opened ≡ false
    → is_some (image_at slot s) ≡ true → slot ≡ s.committed
loading_commits slot zero header s bytes below shows shut some =
    empty_first slot s.committed s below (omega (arith, shows.stands.committed_is))
    (image_none 0 header s bytes (omega arith) shows shut) some shows.stands.bootable
loading_commits slot (suc _) header s bytes below shows shut some =
    empty_second slot s.committed s below (omega (arith, shows.stands.committed_is))
    (image_none 1 header s bytes (omega arith) shows shut) some shows.stands.bootable
