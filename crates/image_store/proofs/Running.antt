-- The slot that a unit runs.
use Rattle.std.proofs.Common.{◌≡◌, ℕ, ◌<◌, ◌≤◌, ◌&&◌, if◌then◌else◌, Bool, true, false, nat_lt}
use Rattle.std.proofs.Common.{List, Option, Some, None, refl, sym, ◌∙◌, ap}
use Rattle.std.proofs.lemmas.Bool.{lt-ltb, le-ltb}
use Rattle.std.specs.Option.{is_some, option_map}
use Rattle.omci_types.specs.declared.Boot.{Boot}
use Rattle.omci_types.specs.declared.Boot.TheVariants.{Activated}
use Rattle.omci_types.specs.declared.SlotView.{SlotView}
use Rattle.slot_spec.specs.Slots.{SlotPair, image_at}
use Rattle.slot_spec.specs.Header.{view_of}
use Rattle.store_spec.specs.State.{has_image, slot_to_run}

-- a slot has an image where one is shown
shown : (o : Option (List ℕ)) → is_some (option_map view_of o) ≡ is_some o
shown None = refl
shown (Some i) = refl

module _ (slot : ℕ) (boot : Boot) (s : SlotPair) where
  image_is : (view : Option SlotView) (some : Bool) → view ≡ option_map view_of (image_at slot s)
      → is_some view ≡ some → has_image slot s ≡ some
  image_is view some shows is = sym (shown (image_at slot s))
      ∙ ap (λ (o : Option SlotView). is_some o) (sym shows) ∙ is

  by : (below valid a b : Bool) → below ≡ a → valid ≡ b
      → (if below && valid then slot else s.committed) ≡ (if a && b then slot else s.committed)
  by below valid a b x y = rw (x, y) refl

  neither : (a : Bool) → (if a && false then slot else s.committed) ≡ s.committed
  neither true = refl
  neither false = refl

  runs : (a b : Bool) → boot ≡ Activated slot → nat_lt slot 2 ≡ a → has_image slot s ≡ b
      → slot_to_run boot s ≡ (if a && b then slot else s.committed)
  runs a b is below valid = ap (λ (x : Boot). slot_to_run x s) is
      ∙ by (nat_lt slot 2) (has_image slot s) a b below valid

  pub runs_activated : (view : Option SlotView) → boot ≡ Activated slot → slot < 2
      → view ≡ option_map view_of (image_at slot s) → is_some view ≡ true
      → slot ≡ slot_to_run boot s
  runs_activated view is below shows some =
      sym (runs true true is (lt-ltb slot 2 below) (image_is view true shows some))

  pub runs_committed : (view : Option SlotView) → boot ≡ Activated slot
      → view ≡ option_map view_of (image_at slot s) → is_some view ≡ false
      → s.committed ≡ slot_to_run boot s
  runs_committed view is shows none =
      sym (runs (nat_lt slot 2) false is refl (image_is view false shows none)
      ∙ neither (nat_lt slot 2))

  pub runs_other : boot ≡ Activated slot → 2 ≤ slot → s.committed ≡ slot_to_run boot s
  runs_other is past = sym (runs false (has_image slot s) is (le-ltb slot 2 past) refl)
