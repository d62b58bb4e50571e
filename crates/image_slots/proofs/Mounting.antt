-- What a mount comes to, by what it read.
use Rattle.std.proofs.Common.{◌≡◌, ℕ, ◌≤◌, Bool, if◌then◌else◌, List, [], ◌∷◌, length, take, get_or, inl, inr, Option, Some, Result, Ok, Err, IfOk, IfErr, MatchResult, refl, sym, ◌∙◌, ap, subst, arith}
use Rattle.std.proofs.lemmas.Bool.{both_ways, cases_Bool, le-leb}
use Rattle.std.proofs.lemmas.List.{get_or-take}
use Rattle.slot_spec.specs.Slots.{SlotPair}
use Rattle.slot_spec.specs.Layout.{StandsAt, gate_place, entry_place}
use Rattle.slot_spec.specs.Rig.{Rigged, Read, Sync, trap_is_met, after_call, after_calls}
use Rattle.slot_spec.specs.Header.{number_at, disk_header_in, has_unit, view_at}
use Rattle.slot_spec.specs.Owner.{Settled, Shows}
use Rattle.slot_laws.proofs.Calls.{one_call}
use Rattle.slot_laws.proofs.Commit.{settled_by}
use Rattle.slot_laws.proofs.Header.{header_shows, header-front, unit-front, unit_there, committed_view, field-front, number-front, gate_fits, entry_fits}
use Rattle.image_slots.specs.declared.slots.Slots.{Slots}
use Rattle.image_slots.specs.declared.mount.MountRefusal.{MountRefusal}
use Rattle.image_slots.specs.declared.mount.MountRefusal.TheVariants.{NoUnit, Fault, NoImage}
use Rattle.image_slots.specs.Mounts.{mount_disk, MountFinds, HeadRefused, MountRefused, IsMountFault, MountLeaves}

-- what stands in the first 4,096 bytes stands in the disk
pub front_finds : {D : Type 0} (size : ℕ) (head bytes : List ℕ) (slots : Slots D) → head ≡ take 4096 bytes → MountFinds size head slots → MountFinds size bytes slots
front_finds size head bytes slots front found =
    (sym (ap (λ (x : List ℕ). has_unit size x) front ∙ unit-front size bytes) ∙ found.0, found.1 ∙ ap disk_header_in front ∙ header-front bytes, found.2)

pub front_refuses : {D : Type 0} (size : ℕ) (head bytes : List ℕ) (refusal : MountRefusal D) → head ≡ take 4096 bytes → HeadRefused size head refusal → MountRefused size bytes refusal
front_refuses size head bytes (NoUnit disk length magic room) front refused =
    (sym (ap (λ (x : List ℕ). has_unit size x) front ∙ unit-front size bytes) ∙ refused.0, refused.1, refused.2 ∙ ap (λ (x : List ℕ). take 8 x) front ∙ field-front 4096 0 8 bytes (omega arith), refused.3 ∙ ap (λ (x : List ℕ). number_at 8 x) front ∙ number-front 8 bytes (omega arith))
front_refuses size head bytes (Fault disk) front refused = absurd refused
front_refuses size head bytes (NoImage disk slot gate given) front refused =
    let header : disk_header_in head ≡ disk_header_in bytes = ap disk_header_in front ∙ header-front bytes in (
      sym (ap (λ (x : List ℕ). has_unit size x) front ∙ unit-front size bytes) ∙ refused.0,
      refused.1 ∙ ap (λ h. h.committed) header,
      ap (λ h. view_at slot h) (sym header) ∙ refused.2,
      refused.3 ∙ ap (λ (x : List ℕ). get_or x (gate_place slot) 0) front ∙ get_or-take 4096 bytes (gate_place slot) 0 (gate_fits slot),
      refused.4 ∙ ap (λ (x : List ℕ). number_at (entry_place slot) x) front ∙ number-front (entry_place slot) bytes (omega (arith, entry_fits slot)),
    )

module _ {D : Type 0} (seen : D → Option (List ℕ)) (may_leave : D → List ℕ → Type 0) where
  pub mount_answers : (disk : D) (size room : ℕ) (head bytes : List ℕ) (s : SlotPair) (r : Result (Slots D) (MountRefusal D)) → head ≡ take 4096 bytes → size ≡ length bytes → StandsAt room bytes s
      → mount_disk r ≡ disk → IfOk r (MountFinds size head) → IfErr r (HeadRefused size head) → seen disk ≡ Some bytes → ((image : List ℕ) → may_leave disk image → image ≡ bytes)
      → MatchResult r (λ slots. Settled seen may_leave slots.disk slots.header s) IsMountFault
  mount_answers disk size room head bytes s (Ok slots) front long stands same found refused reads only =
      let shows : Shows slots.header s bytes = subst (λ h. Shows h s bytes) (sym (found.1 ∙ ap disk_header_in front ∙ header-front bytes)) (header_shows room bytes s stands) in
      subst (λ d. Settled seen may_leave d slots.header s) (sym same) (settled_by seen may_leave disk slots.header s bytes reads only shows)
  mount_answers disk size room head bytes s (Err (NoUnit d l m r)) front long stands same found refused reads only =
      both_ways (has_unit size head) refused.0 (ap (λ (x : List ℕ). has_unit size x) front ∙ unit-front size bytes ∙ unit_there room size bytes s stands long)
  mount_answers disk size room head bytes s (Err (Fault d)) front long stands same found refused reads only = absurd refused
  mount_answers disk size room head bytes s (Err (NoImage d slot gate given)) front long stands same found refused reads only =
      let shows : Shows (disk_header_in head) s bytes = subst (λ h. Shows h s bytes) (sym (ap disk_header_in front ∙ header-front bytes)) (header_shows room bytes s stands) in
      committed_view (disk_header_in head) s bytes shows (sym (ap (λ (n : ℕ). view_at n (disk_header_in head)) refused.1) ∙ refused.2)

-- the two calls of a mount
pub mount_left : (size : ℕ) (r : Rigged) → 4096 ≤ size → MountLeaves size r (after_calls (Sync ∷ Read 0 4096 ∷ []) r)
unfolding after_calls
mount_left size r long = elim (cases_Bool (trap_is_met r.trap)) [
  | inl met ↦
      let is : after_calls (Sync ∷ Read 0 4096 ∷ []) r ≡ after_call Sync r = ap (λ (b : Bool). if b then after_call Sync r else after_calls (Read 0 4096 ∷ []) (after_call Sync r)) met in
      subst (λ q. MountLeaves size r q) (sym is) record { reads = refl; cuts = λ pick. rw (met, le-leb 4096 size long) refl }
  | inr goes ↦
      let is : after_calls (Sync ∷ Read 0 4096 ∷ []) r ≡ after_call (Read 0 4096) (after_call Sync r) = ap (λ (b : Bool). if b then after_call Sync r else after_calls (Read 0 4096 ∷ []) (after_call Sync r)) goes ∙ one_call (Read 0 4096) (after_call Sync r) in
      subst (λ q. MountLeaves size r q) (sym is) record { reads = refl; cuts = λ pick. rw (goes, le-leb 4096 size long) refl }
]
