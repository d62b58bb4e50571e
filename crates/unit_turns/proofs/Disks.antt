-- What a disk reads as and what a crash leaves of it, by the state of the store that stands for it.
use Rattle.std.proofs.Common.{◌≡◌, ◌⊎◌, inl, inr, ℕ, Bool, true, false, List}
use Rattle.std.proofs.Common.{Option, Some, None, IsSome, refl, sym, ◌∙◌, subst}
use Rattle.std.proofs.lemmas.Bool.{false≢true}
use Rattle.slot_spec.specs.Slots.{SlotPair, Change, Keep, after_change, mid}
use Rattle.slot_spec.specs.Slots as change
use Rattle.slot_spec.specs.Layout.{StandsAt, StandsAmong}
use Rattle.window_spec.specs.Incoming.{Window}
use Rattle.store_spec.specs.State.{StoreState}
use Rattle.store_laws.specs.Deeds.{IsSound}
use Rattle.image_store.specs.declared.state.State.{State as Form}
use Rattle.image_store.specs.declared.state.State.TheVariants as form
use Rattle.image_store.specs.Stands.{StateStands, state_disk}
use Rattle.turn_spec.specs.UnitTurns.{slots_found}

-- of two slots, one stands
pub among_either : (room : ℕ) (c : Change) (s : SlotPair) (bytes : List ℕ)
    → StandsAmong room (mid c s) bytes
    → StandsAt room bytes s ⊎ StandsAt room bytes (after_change c s)
among_either room Keep s bytes (inl a) = inl a
among_either room Keep s bytes (inr b) = absurd b
among_either room (change.Clear t) s bytes (inl a) = inl a
among_either room (change.Clear t) s bytes (inr (inl b)) = inr b
among_either room (change.Clear t) s bytes (inr (inr b)) = absurd b
among_either room (change.Seal t i) s bytes (inl a) = inl a
among_either room (change.Seal t i) s bytes (inr (inl b)) = inr b
among_either room (change.Seal t i) s bytes (inr (inr b)) = absurd b
among_either room (change.Commit k) s bytes (inl a) = inl a
among_either room (change.Commit k) s bytes (inr (inl b)) = inr b
among_either room (change.Commit k) s bytes (inr (inr b)) = absurd b

some_is : {A : Type 0} (o : Option A) → IsSome o → (x : A) × (o ≡ Some x)
some_is (Some x) some = (x, refl)
some_is None some = absurd (false≢true some)

-- a start finds one of them
found : (room : ℕ) (m : StoreState) (bytes : List ℕ)
    → StandsAt room bytes m.slots ⊎ StandsAt room bytes (after_change m.doubt m.slots)
    → (made : Bool) × StandsAt room bytes (slots_found made m)
found room m bytes (inl a) = (false, a)
found room m bytes (inr b) = (true, b)

-- bytes, and that a disk reads as them
pub record ReadsAs {D : Type 0} (seen : D → Option (List ℕ)) (room : ℕ) (disk : D)
    (m : StoreState) : Type 0 where
  pub bytes : List ℕ
  pub reads : seen disk ≡ Some bytes
  pub made : Bool
  pub stands : StandsAt room bytes (slots_found made m)

module _ {D : Type 0} (seen : D → Option (List ℕ)) (may_leave : D → List ℕ → Type 0)
    (room active granted : ℕ) (window : Window) where
  -- in a whole store each crash leaves its slots
  pub state_whole : (state : Form D) (m : StoreState)
      → StateStands seen may_leave room active granted window state m → m.broken ≡ false
      → (image : List ℕ) → may_leave (state_disk state) image → StandsAt room image m.slots
  state_whole (form.Whole slots) m stands whole image left =
      subst (λ (n : ℕ). StandsAt n image m.slots) stands.0.room_is
      (stands.0.settled.crash image left).stands
  state_whole (form.Filling download) m stands whole image left =
      subst (λ (n : ℕ). StandsAt n image m.slots) stands.room_is
      (stands.filling.settled.crash image left).stands
  state_whole (form.Broken broken software) m stands whole image left =
      absurd (false≢true (sym whole ∙ stands.0.broken_is))

  quiet : (m : StoreState) (image : List ℕ) → IsSound m → m.broken ≡ false
      → StandsAt room image m.slots → StandsAmong room (mid m.doubt m.slots) image
  quiet m image sound whole there =
      subst (λ (c : Change). StandsAmong room (mid c m.slots) image) (sym (sound.sure whole))
      (inl there)

  -- in any, its slots or those that the request in doubt makes
  pub state_crash : (state : Form D) (m : StoreState)
      → StateStands seen may_leave room active granted window state m → IsSound m
      → (image : List ℕ) → may_leave (state_disk state) image
      → StandsAmong room (mid m.doubt m.slots) image
  state_crash (form.Whole slots) m stands sound image left =
      quiet m image sound stands.0.whole
      (state_whole (form.Whole slots) m stands stands.0.whole image left)
  state_crash (form.Filling download) m stands sound image left =
      quiet m image sound stands.whole
      (state_whole (form.Filling download) m stands stands.whole image left)
  state_crash (form.Broken broken software) m stands sound image left = stands.0.crash image left

  -- and what it reads as stands for those that a start finds
  pub state_reads : (state : Form D) (m : StoreState)
      → StateStands seen may_leave room active granted window state m
      → ((disk : D) (bytes : List ℕ) → seen disk ≡ Some bytes → may_leave disk bytes)
      → ReadsAs seen room (state_disk state) m
  state_reads (form.Whole slots) m stands leaves_seen =
      let settled = stands.0.settled in
      record {
        bytes = settled.bytes;
        reads = settled.reads;
        made = false;
        stands = subst (λ (n : ℕ). StandsAt n settled.bytes m.slots) stands.0.room_is
            settled.shows.stands;
      }
  state_reads (form.Filling download) m stands leaves_seen =
      let settled = stands.filling.settled in
      record {
        bytes = settled.bytes;
        reads = settled.reads;
        made = false;
        stands = subst (λ (n : ℕ). StandsAt n settled.bytes m.slots) stands.room_is
            settled.shows.stands;
      }
  state_reads (form.Broken broken software) m stands leaves_seen =
      let told = some_is (seen broken.disk) stands.0.told in
      let either = among_either room m.doubt m.slots told.0
      (stands.0.crash told.0 (leaves_seen broken.disk told.0 told.1)) in
      record {
        bytes = told.0;
        reads = told.1;
        made = (found room m told.0 either).0;
        stands = (found room m told.0 either).1;
      }
