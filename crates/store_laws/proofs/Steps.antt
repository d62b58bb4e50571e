-- What a request comes to fits the store, and keeps it sound and explained.
use Rattle.std.proofs.Common.{◌≡◌, ◌≢◌, ◌⊎◌, ℕ, zero, suc, ◌<◌, ◌==◌, ◌&&◌, ◌||◌, not, nat_le}
use Rattle.std.proofs.Common.{nat_lt, if◌then◌else◌, Bool, true, false, List, [], ◌∷◌, ◌++◌}
use Rattle.std.proofs.Common.{Option, Some, None, IsSome, refl, sym, ◌∙◌, ap, subst, arith, inl}
use Rattle.std.proofs.Common.{inr}
use Rattle.std.proofs.lemmas.Bool.{cases_Bool, true≢false, false≢true, eqb-true}
use Rattle.std.proofs.lemmas.Bool.{eqb-false, leb-false, ltb-true}
use Rattle.omci_types.specs.declared.Boot.{Boot}
use Rattle.omci_types.specs.declared.Boot.TheVariants.{PowerUp, Activated}
use Rattle.omci_types.specs.declared.EntityId.{EntityId}
use Rattle.message_spec.specs.declared.Request.{Request}
use Rattle.message_spec.specs.declared.Request.TheVariants as request
use Rattle.mib_spec.specs.Requests.{first_code, is_class}
use Rattle.frame_spec.specs.Checksum.{crc}
use Rattle.slot_spec.specs.Slots.{SlotPair, Keep, image_at, with_image, after_change}
use Rattle.window_spec.specs.declared.Arrived.{Arrived}
use Rattle.window_spec.specs.declared.Arrived.TheVariants as arrived
use Rattle.window_spec.specs.Incoming.{section, Section, answer, no_window}
use Rattle.window_spec.specs.declared.TheConstants.{IMAGE_CLASS}
use Rattle.store_spec.specs.History.{Ledger, with_entries}
use Rattle.store_spec.specs.State.{Loading, StoreState, has_image, store_started}
use Rattle.store_spec.specs.Deeds.{Deed, slot_deed, refuse, Ignore, Refuse, RefuseWindow, GiveUp}
use Rattle.store_spec.specs.Deeds.{Begin, Hold, Put, Seal, Activate, Commit, Recommit, deed}
use Rattle.store_spec.specs.Deeds.{unless_refused, ignore, image_code, start_code, is_in_use}
use Rattle.store_spec.specs.Deeds.{on_download, start_deed, put_deed, hold_by, hold_deed, seal_code}
use Rattle.store_spec.specs.Deeds.{seal_deed, valid_code, commit_deed}
use Rattle.store_spec.specs.Effects.{change_of, with_window, with_bytes_put, download_after}
use Rattle.store_spec.specs.Effects.{store_done, store_after, entries_before}
use Rattle.store_spec.specs.Effects.{entries_behind, entries_by}
use Rattle.store_laws.specs.Explained.{ExplainedBy, StoreExplained}
use Rattle.store_laws.specs.Deeds.{LoadsSpare, IsSound, Fits, IsIdle, Meets, Around}
use Rattle.store_laws.proofs.Papers.{explained_without, explained_check, explained_image}
use Rattle.store_laws.proofs.Papers.{explained_begun, explained_other, explained_committed}

-- ---- the tests

-- a test that is passed
abbrev unless_by : Bool → (ℕ → Deed) → ℕ → Deed → Deed
unless_by passed refuse code d = if passed then d else refuse code

-- whatever a code is, the deed has P
unless_case : (P : Deed → Type 0) (refuse : ℕ → Deed) (code : ℕ) (d : Deed) → P (refuse code)
    → ((code == 0) ≡ true → P d) → P (unless_refused refuse code d)
unless_case P refuse code d refused passed = elim (cases_Bool (code == 0)) [
  | inl is ↦ subst (λ (b : Bool). P (unless_by b refuse code d)) (sym is) (passed is)
  | inr is ↦ subst (λ (b : Bool). P (unless_by b refuse code d)) (sym is) refused
]

-- the entity's tests, by their answers
abbrev image_by : (class image instance broken : Bool) → ℕ
image_by class image instance broken =
    first_code ((not class, 4) ∷ (not image, 2) ∷ (instance, 5) ∷ (broken, 1) ∷ [])

image_passed : (class image instance broken : Bool)
    → (image_by class image instance broken == 0) ≡ true → (instance ≡ false) × (broken ≡ false)
image_passed false image instance broken is = absurd (false≢true is)
image_passed true false instance broken is = absurd (false≢true is)
image_passed true true true broken is = absurd (false≢true is)
image_passed true true false true is = absurd (false≢true is)
image_passed true true false false is = (refl, refl)

pub image_code_passed : (one : EntityId) (broken : Bool) → (image_code one broken == 0) ≡ true
    → (one.instance < 2) × (broken ≡ false)
unfolding image_code
image_code_passed one broken is =
    let p = image_passed (is_class one.class) (one.class == IMAGE_CLASS)
    (nat_le 2 one.instance) broken is in
    (leb-false 2 one.instance p.0, p.1)

abbrev start_by : (targets in_use size : Bool) → ℕ
start_by targets in_use size = first_code ((targets, 2) ∷ (in_use, 3) ∷ (size, 3) ∷ [])

start_passed : (targets in_use size : Bool) → (start_by targets in_use size == 0) ≡ true
    → (targets ≡ false) × (in_use ≡ false) × (size ≡ false)
start_passed true in_use size is = absurd (false≢true is)
start_passed false true size is = absurd (false≢true is)
start_passed false false true is = absurd (false≢true is)
start_passed false false false is = (refl, refl, refl)

pub start_code_passed : (in_use : Bool) (room targets size : ℕ)
    → (start_code in_use room targets size == 0) ≡ true → (in_use ≡ false)
    × ((size == 0 || nat_lt room size) ≡ false)
unfolding start_code
start_code_passed in_use room targets size is =
    let p = start_passed (nat_lt 1 targets) in_use (size == 0 || nat_lt room size) is in
    (p.1, p.2)

not_or : (a b : Bool) → (a || b) ≡ false → (a ≡ false) × (b ≡ false)
not_or true b is = absurd (true≢false is)
not_or false b is = (refl, is)

pub not_in_use : (slot active committed : ℕ) → is_in_use slot active committed ≡ false
    → slot ≢ committed
not_in_use slot active committed is =
    eqb-false slot committed (not_or (slot == active) (slot == committed) is).1

pub valid_passed : (valid : Bool) → (valid_code valid == 0) ≡ true → valid ≡ true
valid_passed true is = refl
valid_passed false is = absurd (false≢true is)

-- ---- what a request comes to fits the slots

fits_download : (s : SlotPair) (refuse : ℕ → Deed) (slot : ℕ) (d : Option Loading)
    (deed : Loading → Deed) → ((code : ℕ) → Fits s (refuse code))
    → ((l : Loading) → LoadsSpare s (Some l) → Fits s (deed l)) → LoadsSpare s d
    → Fits s (on_download refuse slot d deed)
fits_download s refuse slot None deed refused go spare = refused 1
fits_download s refuse slot (Some l) deed refused go spare = elim (cases_Bool (slot == l.target)) [
  | inl is ↦ rw is (go l spare)
  | inr is ↦ rw is (refused 3)
]

fits_start : (room slot window size targets : ℕ) (m : StoreState) → slot < 2
    → Fits m.slots (start_deed room slot window size targets m)
fits_start room slot window size targets m below =
    unless_case (Fits m.slots) Refuse (start_code
    (is_in_use slot m.active m.slots.committed) room targets size) (Begin slot size _) tt
    (λ is. (
      below,
      not_in_use slot m.active m.slots.committed
          (start_code_passed (is_in_use slot m.active m.slots.committed) room targets size is).0,
    ))

fits_hold : (s : SlotPair) (a : Arrived) (one : Section) (l : Loading) → Fits s (hold_by a one l)
fits_hold s arrived.Held one l = tt
fits_hold s arrived.Ignored one l = tt
fits_hold s arrived.Broken one l = tt
fits_hold s (arrived.Whole n) one l = tt

fits_commit : (slot : ℕ) (s : SlotPair) → slot < 2 → Fits s (commit_deed slot s)
fits_commit slot s below = unless_case (Fits s) Refuse (valid_code (has_image slot s))
    (if slot == s.committed then Recommit slot else Commit slot) tt
    (λ is. by (valid_passed (has_image slot s) is))
  where
    by : has_image slot s ≡ true → Fits s
        (if slot == s.committed then Recommit slot else Commit slot)
    by some = elim (cases_Bool (slot == s.committed)) [
      | inl same ↦ rw same (eqb-true slot s.committed same)
      | inr differs ↦ rw differs (below, eqb-false slot s.committed differs, some)
    ]

-- a deed that a whole store comes to
whole_meets : (m : StoreState) (d : Deed) → IsSound m → m.broken ≡ false → Fits m.slots d
    → Meets m d
whole_meets m d sound whole fits = record { fits = fits; calm = inl (whole, sound.sure whole) }

-- what a request for a slot comes to fits the slots
fits_slot : (room tci slot : ℕ) (r : Request) (m : StoreState) → slot < 2
    → LoadsSpare m.slots m.download → Fits m.slots (slot_deed room tci slot r m)
fits_slot room tci slot (request.Start window size targets target) m below spare =
    fits_start room slot window size targets m below
fits_slot room tci slot (request.Section number bytes true) m below spare =
    fits_download m.slots RefuseWindow slot m.download (λ l. put_deed (section tci number bytes) l)
    (λ code. tt)
    (λ l spare. unless_case (Fits m.slots) RefuseWindow _ (Put _) tt (λ is. tt)) spare
fits_slot room tci slot (request.Section number bytes false) m below spare =
    fits_download m.slots ignore slot m.download (λ l. hold_deed (section tci number bytes) l)
    (λ code. tt)
    (λ l spare. fits_hold m.slots (answer (section tci number bytes) false l.window)
    (section tci number bytes) l) spare
fits_slot room tci slot (request.End check size targets target) m below spare =
    fits_download m.slots Refuse slot m.download (λ l. seal_deed check size l) (λ code. tt)
    (λ l spare. unless_case (Fits m.slots) GiveUp (seal_code check size l.size l.put)
    (Seal l.target l.put) tt (λ is. spare)) spare
fits_slot room tci slot (request.Activate flags) m below spare =
    unless_case (Fits m.slots) Refuse (valid_code (has_image slot m.slots)) (Activate _) tt
    (λ is. tt)
fits_slot room tci slot request.Commit m below spare = fits_commit slot m.slots below
fits_slot room tci slot (request.Create values) m below spare = tt
fits_slot room tci slot request.Delete m below spare = tt
fits_slot room tci slot (request.Set mask values) m below spare = tt
fits_slot room tci slot (request.Get mask) m below spare = tt
fits_slot room tci slot (request.Alarms mode) m below spare = tt
fits_slot room tci slot (request.AlarmsNext number) m below spare = tt
fits_slot room tci slot request.Upload m below spare = tt
fits_slot room tci slot (request.UploadNext number) m below spare = tt
fits_slot room tci slot request.Reset m below spare = tt
fits_slot room tci slot (request.Reboot flags) m below spare = tt

-- a refusal is idle
refuse_meets : (m : StoreState) (r : Request) (code : ℕ) → Meets m (refuse r code)
refuse_meets m (request.Start window size targets target) code = record { fits = tt; calm = inr tt }
refuse_meets m (request.Section number bytes true) code = record { fits = tt; calm = inr tt }
refuse_meets m (request.Section number bytes false) code = record { fits = tt; calm = inr tt }
refuse_meets m (request.End check size targets target) code = record { fits = tt; calm = inr tt }
refuse_meets m (request.Activate flags) code = record { fits = tt; calm = inr tt }
refuse_meets m request.Commit code = record { fits = tt; calm = inr tt }
refuse_meets m (request.Create values) code = record { fits = tt; calm = inr tt }
refuse_meets m request.Delete code = record { fits = tt; calm = inr tt }
refuse_meets m (request.Set mask values) code = record { fits = tt; calm = inr tt }
refuse_meets m (request.Get mask) code = record { fits = tt; calm = inr tt }
refuse_meets m (request.Alarms mode) code = record { fits = tt; calm = inr tt }
refuse_meets m (request.AlarmsNext number) code = record { fits = tt; calm = inr tt }
refuse_meets m request.Upload code = record { fits = tt; calm = inr tt }
refuse_meets m (request.UploadNext number) code = record { fits = tt; calm = inr tt }
refuse_meets m request.Reset code = record { fits = tt; calm = inr tt }
refuse_meets m (request.Reboot flags) code = record { fits = tt; calm = inr tt }

pub meets : (one : EntityId) (m : StoreState) → IsSound m → (room tci : ℕ) (r : Request)
    → Meets m (deed room tci one r m)
unfolding deed
meets one m sound room tci r = unless_case (Meets m) (refuse r) (image_code one m.broken)
    (slot_deed room tci one.instance r m) (refuse_meets m r (image_code one m.broken))
    (λ is. let p = image_code_passed one m.broken is in
    whole_meets m _ sound p.1 (fits_slot room tci one.instance r m p.0 sound.spare))

-- ---- a deed keeps the papers

pub around : (l : Ledger) (s : SlotPair) (d : Deed) → s.committed < 2 → Fits s d → ExplainedBy l s
    → Around l s d
around l s Ignore low fits e = record { before = e; made = e; behind = e }
around l s (Refuse code) low fits e = record { before = e; made = e; behind = e }
around l s (RefuseWindow code) low fits e = record { before = e; made = e; behind = e }
around l s (GiveUp code) low fits e = record { before = e; made = e; behind = e }
around l s (Begin slot size granted) low fits e = let cleared =
    explained_without l s slot fits.0 low fits.1 e in
    record { before = e; made = cleared; behind = cleared }
around l s (Hold window) low fits e = record { before = e; made = e; behind = e }
around l s (Put bytes) low fits e = record { before = e; made = e; behind = e }
around l s (Seal slot image) low fits e =
    let made = explained_image l s image (crc image) e slot fits.below fits.other fits.empty refl in
    record {
      before = explained_check l s image
          (crc image) e slot fits.below fits.other fits.empty;
      made = made;
      behind = made;
    }
around l s (Activate leaves) low fits e = record { before = e; made = e; behind = e }
around l s (Commit slot) low fits e =
    let made = explained_other l s e slot fits.2 in
    record {
      before = explained_begun l s e slot;
      made = made;
      behind =
          explained_committed _ _ made slot refl;
    }
around l s (Recommit slot) low fits e =
    record { before = e; made = e; behind = explained_committed l s e slot fits }

calm_doubt : (l : Ledger) (m : StoreState) (d : Deed) → ((m.broken ≡ false) × (m.doubt ≡ Keep))
    ⊎ IsIdle d → StoreExplained l m → ExplainedBy
    (with_entries (entries_behind d ++ entries_before d) l) (after_change (change_of d) m.slots)
    → ExplainedBy (with_entries (entries_behind d ++ entries_before d) l)
    (after_change m.doubt (after_change (change_of d) m.slots))
calm_doubt l m d (inl whole) e behind = rw whole.1 behind
calm_doubt l m Ignore (inr idle) e behind = e.doubtful
calm_doubt l m (Refuse code) (inr idle) e behind = e.doubtful
calm_doubt l m (RefuseWindow code) (inr idle) e behind = e.doubtful
calm_doubt l m (GiveUp code) (inr idle) e behind = absurd idle
calm_doubt l m (Begin slot size granted) (inr idle) e behind = absurd idle
calm_doubt l m (Hold window) (inr idle) e behind = absurd idle
calm_doubt l m (Put bytes) (inr idle) e behind = absurd idle
calm_doubt l m (Seal slot image) (inr idle) e behind = absurd idle
calm_doubt l m (Activate leaves) (inr idle) e behind = absurd idle
calm_doubt l m (Commit slot) (inr idle) e behind = absurd idle
calm_doubt l m (Recommit slot) (inr idle) e behind = absurd idle

pub explained_after : (l : Ledger) (m : StoreState) (fails : Bool) (d : Deed) → IsSound m
    → Meets m d → StoreExplained l m → StoreExplained (with_entries (entries_by fails d) l)
    (store_after fails d m)
explained_after l m true d sound fitting e = let a =
    around l m.slots d sound.below fitting.fits e.sure in
    record { sure = a.before; doubtful = a.made }
explained_after l m false d sound fitting e = let a =
    around l m.slots d sound.below fitting.fits e.sure in
    record { sure = a.behind; doubtful = calm_doubt l m d fitting.calm e a.behind }

-- ---- and keeps the store sound

committed-with_image : (slot : ℕ) (image : Option (List ℕ)) (s : SlotPair)
    → (with_image slot image s).committed ≡ s.committed
committed-with_image zero image s = refl
committed-with_image (suc _) image s = refl

image_at-with_image : (slot : ℕ) (image : Option (List ℕ)) (s : SlotPair)
    → image_at slot (with_image slot image s) ≡ image
image_at-with_image zero image s = refl
image_at-with_image (suc _) image s = refl

below_after : (s : SlotPair) (d : Deed) → s.committed < 2 → Fits s d
    → (after_change (change_of d) s).committed < 2
below_after s Ignore low fits = low
below_after s (Refuse code) low fits = low
below_after s (RefuseWindow code) low fits = low
below_after s (GiveUp code) low fits = low
below_after s (Begin slot size granted) low fits =
    omega (arith, low, committed-with_image slot None s)
below_after s (Hold window) low fits = low
below_after s (Put bytes) low fits = low
below_after s (Seal slot image) low fits =
    omega (arith, low, committed-with_image slot (Some image) s)
below_after s (Activate leaves) low fits = low
below_after s (Commit slot) low fits = fits.0
below_after s (Recommit slot) low fits = low

spare_window : (s : SlotPair) (window : _) (d : Option Loading) → LoadsSpare s d
    → LoadsSpare s (with_window window d)
spare_window s window None spare = tt
spare_window s window (Some l) spare = spare

spare_put : (s : SlotPair) (bytes : List ℕ) (d : Option Loading) → LoadsSpare s d
    → LoadsSpare s (with_bytes_put bytes d)
spare_put s bytes None spare = tt
spare_put s bytes (Some l) spare = spare

-- no download runs where the other slot has an image
spare_committed : (s : SlotPair) (slot : ℕ) (d : Option Loading) → s.committed < 2
    → Fits s (Commit slot) → LoadsSpare s d
    → LoadsSpare (after_change (change_of (Commit slot)) s) d
spare_committed s slot None low fits spare = tt
spare_committed s slot (Some l) low fits spare =
    let same : slot ≡ l.target = omega (arith, low, fits.0, fits.1, spare.below, spare.other) in
    absurd (false≢true (subst (λ (o : Option (List ℕ)). IsSome o)
    (ap (λ (k : ℕ). image_at k s) same ∙ spare.empty) fits.2))

spare_after : (m : StoreState) (d : Deed) → IsSound m → Fits m.slots d
    → LoadsSpare (store_done d m).slots (store_done d m).download
spare_after m Ignore sound fits = sound.spare
spare_after m (Refuse code) sound fits = sound.spare
spare_after m (RefuseWindow code) sound fits = spare_window m.slots _ m.download sound.spare
spare_after m (GiveUp code) sound fits = tt
spare_after m (Begin slot size granted) sound fits =
    record {
      below = fits.0;
      other = λ e. fits.1
          (e ∙ committed-with_image slot None m.slots);
      empty = image_at-with_image slot None m.slots;
    }
spare_after m (Hold window) sound fits = spare_window m.slots window m.download sound.spare
spare_after m (Put bytes) sound fits = spare_put m.slots bytes m.download sound.spare
spare_after m (Seal slot image) sound fits = tt
spare_after m (Activate leaves) sound fits = sound.spare
spare_after m (Commit slot) sound fits =
    spare_committed m.slots slot m.download sound.below fits sound.spare
spare_after m (Recommit slot) sound fits = sound.spare

below_doubt : (m : StoreState) (d : Deed) → IsSound m → Meets m d
    → (after_change (change_of d) m.slots).committed < 2
    → (after_change m.doubt (after_change (change_of d) m.slots)).committed < 2
below_doubt m d sound fitting done = by d fitting.calm done
  where
    by : (d : Deed) → ((m.broken ≡ false) × (m.doubt ≡ Keep)) ⊎ IsIdle d
        → (after_change (change_of d) m.slots).committed < 2
        → (after_change m.doubt (after_change (change_of d) m.slots)).committed < 2
    by d (inl whole) done = rw whole.1 done
    by Ignore (inr idle) done = sound.below_made
    by (Refuse code) (inr idle) done = sound.below_made
    by (RefuseWindow code) (inr idle) done = sound.below_made
    by (GiveUp code) (inr idle) done = absurd idle
    by (Begin slot size granted) (inr idle) done = absurd idle
    by (Hold window) (inr idle) done = absurd idle
    by (Put bytes) (inr idle) done = absurd idle
    by (Seal slot image) (inr idle) done = absurd idle
    by (Activate leaves) (inr idle) done = absurd idle
    by (Commit slot) (inr idle) done = absurd idle
    by (Recommit slot) (inr idle) done = absurd idle

quiet_after : (m : StoreState) (d : Deed) → IsSound m → Meets m d → m.broken ≡ true
    → (store_done d m).download ≡ None
quiet_after m d sound fitting broken = by d fitting.calm
  where
    by : (d : Deed) → ((m.broken ≡ false) × (m.doubt ≡ Keep)) ⊎ IsIdle d
        → download_after d m.download ≡ None
    by d (inl whole) = absurd (true≢false (sym broken ∙ whole.0))
    by Ignore (inr idle) = sound.quiet broken
    by (Refuse code) (inr idle) = sound.quiet broken
    by (RefuseWindow code) (inr idle) =
        ap (λ (o : Option Loading). with_window no_window o) (sound.quiet broken)
    by (GiveUp code) (inr idle) = absurd idle
    by (Begin slot size granted) (inr idle) = absurd idle
    by (Hold window) (inr idle) = absurd idle
    by (Put bytes) (inr idle) = absurd idle
    by (Seal slot image) (inr idle) = absurd idle
    by (Activate leaves) (inr idle) = absurd idle
    by (Commit slot) (inr idle) = absurd idle
    by (Recommit slot) (inr idle) = absurd idle

pub sound_after : (m : StoreState) (fails : Bool) (d : Deed) → IsSound m → Meets m d
    → IsSound (store_after fails d m)
sound_after m true d sound fitting = record {
  sure = λ e. absurd (true≢false e);
  below = sound.below;
  below_made = below_after m.slots d sound.below fitting.fits;
  active = sound.active;
  spare = tt;
  quiet = λ e. refl;
}
sound_after m false d sound fitting = record {
  sure = sound.sure;
  below = below_after m.slots d sound.below fitting.fits;
  below_made = below_doubt m d sound fitting (below_after m.slots d sound.below fitting.fits);
  active = sound.active;
  spare = spare_after m d sound fitting.fits;
  quiet = quiet_after m d sound fitting;
}

-- a unit that starts
below_run : (k committed : ℕ) (valid : Bool) → committed < 2
    → (if nat_lt k 2 && valid then k else committed) < 2
below_run k committed valid below = elim (cases_Bool (nat_lt k 2 && valid)) [
  | inl is ↦ rw is (ltb-true k 2 (and_first (nat_lt k 2) valid is))
  | inr is ↦ rw is below
]
  where
    and_first : (a b : Bool) → (a && b) ≡ true → a ≡ true
    and_first true b is = refl
    and_first false b is = is

pub sound_started : (boot : Boot) (s : SlotPair) → s.committed < 2 → IsSound (store_started boot s)
sound_started PowerUp s below = record {
  sure = λ e. refl;
  below = below;
  below_made =
      below;
  active = below;
  spare = tt;
  quiet = λ e. refl;
}
sound_started (Activated slot) s below =
    record {
      sure = λ e. refl;
      below = below;
      below_made = below;
      active =
          below_run slot s.committed (has_image slot s) below;
      spare = tt;
      quiet = λ e. refl;
    }
