-- How the answer of `plan` stands to the rule.
use Rattle.std.specs.Prelude.{◌≡◌, ℕ, ◌-◌, ◌^◌, min, List, Result, Err}
use Rattle.plan_spec.specs.declared.PlanFault.{PlanFault}
use Rattle.plan_spec.specs.declared.PlanFault.TheVariants as fault
use Rattle.plan_spec.specs.Steps.{Step}
use Rattle.plan_reconcile.specs.declared.reconcile.PlanRefusal.{PlanRefusal}
use Rattle.plan_reconcile.specs.declared.reconcile.PlanRefusal.TheVariants as refused

-- a count past the last number of the machine is answered by that number
abbrev pub counted : ℕ → ℕ
counted count = min count (2 ^ 64 - 1)

-- the refusal of a plan, unless memory ran out
abbrev pub Refuses : Result (List Step) PlanFault → PlanRefusal → Type 0
Refuses planned (refused.NotMade one) = planned ≡ Err (fault.NotMade one)
Refuses planned (refused.TooMany count) =
    (all : ℕ) × (planned ≡ Err (fault.TooMany all)) × (count ≡ counted all)
Refuses planned refused.NoMemory = Unit {0}
