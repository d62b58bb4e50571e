-- One attribute of a loop over a class.
use Rattle.std.specs.Prelude.{◌≡◌, ℕ, ◌+◌, Bool, List, ◌∷◌, drop}
use Rattle.class_spec.specs.Classes.{Attribute}
use Rattle.mib_store.specs.declared.layout.Step.{Step}

-- the step is about the attribute in this place
pub record IsStep (attributes : List Attribute) (passes : Attribute → Bool) (place : ℕ)
    (step : Step) : Type 0 where
  pub one : Attribute
  pub rest : drop place attributes ≡ one ∷ drop (place + 1) attributes
  pub width : step.width ≡ one.width
  pub picked : step.picked ≡ passes one
