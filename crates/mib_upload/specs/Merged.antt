-- The values of a part, and those of a part with other values laid over it.
use Rattle.std.specs.Prelude.{◌≡◌, ℕ, ◌+◌, ◌||◌, Bool, List, [], ◌∷◌, ◌++◌, take, drop, if◌then◌else◌}
use Rattle.class_spec.specs.Classes.{Attribute}
use Rattle.class_spec.specs.Masks.{has, bit_of}
use Rattle.mib_spec.specs.Database.{Values}
use Rattle.mib_upload.specs.declared.part.Chosen.{Chosen}
use Rattle.mib_upload.specs.declared.part.Chosen.TheVariants.{Created, Named}
use Rattle.mib_upload.specs.declared.part.Step.{Step}

-- whether a value is given for the attribute
abbrev pub picks : Chosen → Attribute → Bool
picks Created one = one.created
picks (Named mask) one = has mask.0 one.number

-- whether the part with other values laid over it has the attribute
abbrev pub picks_or : Chosen → ℕ → Attribute → Bool
picks_or chosen old one = picks chosen one || has old one.number

-- the given value, or else the one that was there
abbrev pub value_of : Bool → Bool → ℕ → List ℕ → List ℕ → List ℕ
value_of picked had width given old = if picked then take width given
    else if had then take width old else []

-- the bytes of the part with the given values laid over the old ones
abbrev pub merged_bytes : (Attribute → Bool) → List Attribute → List ℕ → ℕ → List ℕ → List ℕ
merged_bytes passes [] given mask old = []
merged_bytes passes (one ∷ rest) given mask old =
    value_of (passes one) (has mask one.number) one.width given old
    ++ merged_bytes passes rest (if passes one then drop one.width given else given) mask
    (if has mask one.number then drop one.width old else old)

-- the values of that part
abbrev pub merged_values : (Attribute → Bool) → List Attribute → List ℕ → ℕ → List ℕ → Values
merged_values passes [] given mask old = []
merged_values passes (one ∷ rest) given mask old =
    (if passes one || has mask one.number then (
      one.number,
      value_of (passes one) (has mask one.number) one.width given old,
    ) ∷ [] else [])
    ++ merged_values passes rest (if passes one then drop one.width given else given) mask
    (if has mask one.number then drop one.width old else old)

-- the step is about the attribute in this place
pub record IsStep (attributes : List Attribute) (passes : Attribute → Bool) (mask place : ℕ)
    (step : Step) : Type 0 where
  pub one : Attribute
  pub rest : drop place attributes ≡ one ∷ drop (place + 1) attributes
  pub bit : step.bit ≡ bit_of one.number
  pub width : step.width ≡ one.width
  pub picked : step.picked ≡ passes one
  pub had : step.had ≡ has mask one.number
