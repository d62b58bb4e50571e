-- The steps of the code as those of the rule, and the bytes of a create as the code makes them.
use Rattle.std.specs.Prelude.{ℕ, List, [], ◌∷◌, ◌++◌, take, drop, map, replicate, if◌then◌else◌}
use Rattle.class_spec.specs.Classes.{Attribute}
use Rattle.class_spec.specs.Masks.{has}
use Rattle.plan_spec.specs.Steps.{Step, Delete, Create, Set}
use Rattle.plan_reconcile.specs.declared.steps.PlanStep.{PlanStep}
use Rattle.plan_reconcile.specs.declared.steps.PlanStep.TheVariants as made

abbrev pub step_as : PlanStep → Step
step_as (made.Delete one) = Delete one
step_as (made.Create one values) = Create one values
step_as (made.Set one mask values) = Set one mask.0 values

abbrev pub steps_of : List PlanStep → List Step
steps_of steps = map step_as steps

-- the values that a create sets, cut from the bytes where the mask names them, and zeros for the
-- others
abbrev pub made_bytes : List Attribute → ℕ → List ℕ → List ℕ
made_bytes [] mask bytes = []
made_bytes (one ∷ rest) mask bytes =
    (if one.created then (if has mask one.number then take one.width bytes
    else replicate one.width 0) else [])
    ++ made_bytes rest mask (if has mask one.number then drop one.width bytes else bytes)
