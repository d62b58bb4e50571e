use Rattle.std.proofs.Common.{◌≡◌, refl, ap, List, Option, Some, None}
use Rattle.capture_check.specs.declared.checker.Run.{Run}
use Rattle.capture_check.specs.Steps.{Known, nothing_known}
use Rattle.capture_check.proofs.checker.Checker.new.Goals as goal

abbrev known : List (Option Run) → Known
known table = record { table = table; since = 0; low = None; high = None; runs = 0; replies = 0 }

only_none : (P : Option Run → Type 0) → ((x : Run) → P (Some x) → ⊥) → (y : Option Run) → P y → y ≡ None
only_none P never None e = refl
only_none P never (Some x) e = absurd (never x e)

-- what holds where each clone of None is None
where_none : {X : Type 0} (P : Option Run → Type 0) → (((y : Option Run) → P y → y ≡ None) → X) → ((x : Run) → P (Some x) → ⊥) → X
where_none P holds never = holds (λ y e. only_none P never y e)

pub returns : goal.returns
unfolding nothing_known
returns c = ap known (where_none _ c.in_ok-vec.ensures.items_if_clones_equal (λ x e. e))
