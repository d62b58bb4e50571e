-- Bytes that stand for explained slots boot.
use Rattle.std.proofs.Common.{◌≡◌, ◌⊎◌, ℕ, Bool, true, false, List, []}
use Rattle.std.proofs.Common.{◌∷◌, ◌++◌, refl, sym, ◌∙◌, ap, subst, inl, inr}
use Rattle.std.proofs.lemmas.List.{append_assoc}
use Rattle.slot_spec.specs.Slots.{SlotPair, Change, Keep, after_change, mid}
use Rattle.slot_spec.specs.Slots as change
use Rattle.slot_spec.specs.Layout.{StandsAt, StandsAmong}
use Rattle.store_spec.specs.History.{StoreEntry, Ledger, with_entry, with_entries}
use Rattle.store_spec.specs.History.{ledger, BootableBy, Boots, BootsEver}
use Rattle.store_spec.specs.State.{StoreState}
use Rattle.omci_types.specs.declared.EntityId.{EntityId}
use Rattle.message_spec.specs.declared.Request.{Request}
use Rattle.store_spec.specs.Deeds.{Deed, deed}
use Rattle.store_spec.specs.Effects.{change_of, entries_before, entries_behind, entries_by}
use Rattle.store_laws.specs.Explained.{ExplainedBy, StoreExplained}
use Rattle.store_laws.specs.Deeds.{Around, IsSound}
use Rattle.store_laws.proofs.Steps.{around, meets}
use Rattle.store_laws.proofs.Papers.{bootable}

-- the papers after some entries more
pub ledger-append : (s0 : SlotPair) (newer older : List StoreEntry)
    → ledger s0 (newer ++ older) ≡ with_entries newer (ledger s0 older)
ledger-append s0 [] older = refl
ledger-append s0 (entry ∷ newer) older =
    ap (λ (l : Ledger). with_entry entry l) (ledger-append s0 newer older)

-- slots of which each is explained
pub among_boots : (room : ℕ) (l : Ledger) (c : Change) (s : SlotPair) (bytes : List ℕ)
    → ExplainedBy l s → ExplainedBy l (after_change c s) → StandsAmong room (mid c s) bytes
    → (t : SlotPair) × StandsAt room bytes t × BootableBy l t
among_boots room l Keep s bytes before made (inl a) = (s, a, bootable l s before)
among_boots room l Keep s bytes before made (inr b) = absurd b
among_boots room l (change.Clear t) s bytes before made (inl a) = (s, a, bootable l s before)
among_boots room l (change.Clear t) s bytes before made (inr (inl b)) = (_, b, bootable l _ made)
among_boots room l (change.Clear t) s bytes before made (inr (inr b)) = absurd b
among_boots room l (change.Seal t i) s bytes before made (inl a) = (s, a, bootable l s before)
among_boots room l (change.Seal t i) s bytes before made (inr (inl b)) = (_, b, bootable l _ made)
among_boots room l (change.Seal t i) s bytes before made (inr (inr b)) = absurd b
among_boots room l (change.Commit k) s bytes before made (inl a) = (s, a, bootable l s before)
among_boots room l (change.Commit k) s bytes before made (inr (inl b)) = (_, b, bootable l _ made)
among_boots room l (change.Commit k) s bytes before made (inr (inr b)) = absurd b

pub boots_now : (room : ℕ) (s0 : SlotPair) (h : List StoreEntry) (m : StoreState) (bytes : List ℕ)
    → StoreExplained (ledger s0 h) m → StandsAmong room (mid m.doubt m.slots) bytes
    → Boots room s0 h bytes
boots_now room s0 h m bytes e among =
    among_boots room (ledger s0 h) m.doubt m.slots bytes e.sure e.doubtful among

pub boots_around : (room : ℕ) (s0 : SlotPair) (h : List StoreEntry) (s : SlotPair) (d : Deed)
    (bytes : List ℕ) → Around (ledger s0 h) s d → StandsAmong room (mid (change_of d) s) bytes
    → Boots room s0 (entries_before d ++ h) bytes
boots_around room s0 h s d bytes a among =
    let b = among_boots room (with_entries (entries_before d) (ledger s0 h))
    (change_of d) s bytes a.before a.made among in
    subst (λ (l : Ledger). (t : SlotPair) × StandsAt room bytes t × BootableBy l t)
    (sym (ledger-append s0 (entries_before d) h)) b

-- what was there at some time of a history was there at some time of a longer one
pub ever_more : (room : ℕ) (s0 : SlotPair) (e h : List StoreEntry) (bytes : List ℕ)
    → BootsEver room s0 h bytes → BootsEver room s0 (e ++ h) bytes
ever_more room s0 e h bytes b = record {
  newer = e ++ b.newer;
  older = b.older;
  whole =
      ap (λ (x : List StoreEntry). e ++ x) b.whole ∙ sym (append_assoc e b.newer b.older);
  boots =
      b.boots;
}

pub ever_now : (room : ℕ) (s0 : SlotPair) (h : List StoreEntry) (bytes : List ℕ)
    → Boots room s0 h bytes → BootsEver room s0 h bytes
ever_now room s0 h bytes b = record { newer = []; older = h; whole = refl; boots = b }

pub ever_around : (room : ℕ) (s0 : SlotPair) (h : List StoreEntry) (fails : Bool) (d : Deed)
    (bytes : List ℕ) → Boots room s0 (entries_before d ++ h) bytes
    → BootsEver room s0 (entries_by fails d ++ h) bytes
ever_around room s0 h true d bytes b = ever_now room s0 (entries_before d ++ h) bytes b
ever_around room s0 h false d bytes b =
    record {
      newer = entries_behind d;
      older = entries_before d ++ h;
      whole =
          append_assoc (entries_behind d) (entries_before d) h;
      boots = b;
    }

-- what may be there while a request is carried out was there at some time of the history
pub ever_inside : (room tci : ℕ) (one : EntityId) (request : Request) (fails : Bool) (s0 : SlotPair)
    (h : List StoreEntry) (m : StoreState) (bytes : List ℕ) → IsSound m
    → StoreExplained (ledger s0 h) m
    → StandsAmong room (mid (change_of (deed room tci one request m)) m.slots) bytes
    ⊎ StandsAmong room (mid m.doubt m.slots) bytes
    → BootsEver room s0 (entries_by fails (deed room tci one request m) ++ h) bytes
ever_inside room tci one request fails s0 h m bytes sound explained (inl among) =
    let d = deed room tci one request m in
    ever_around room s0 h fails d bytes
    (boots_around room s0 h m.slots d bytes
    (around (ledger s0 h) m.slots d sound.below
    (meets one m sound room tci request).fits explained.sure) among)
ever_inside room tci one request fails s0 h m bytes sound explained (inr among) =
    ever_more room s0 (entries_by fails (deed room tci one request m)) h bytes
    (ever_now room s0 h bytes (boots_now room s0 h m bytes explained among))
