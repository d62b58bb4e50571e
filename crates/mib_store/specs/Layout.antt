-- The values of an entity as bytes that stand one after the other in attribute order.
use Rattle.std.specs.Prelude.{ℕ, ◌==◌, Bool, List, [], ◌∷◌, ◌++◌, take, drop, if◌then◌else◌}
use Rattle.class_spec.specs.Classes.{Attribute}
use Rattle.class_spec.specs.Masks.{has}
use Rattle.mib_spec.specs.Database.{Values}
use Rattle.mib_store.specs.declared.layout.Chosen.{Chosen}
use Rattle.mib_store.specs.declared.layout.Chosen.TheVariants.{Created, Named, Only}

-- whether a call is about the attribute
abbrev pub picks : Chosen → Attribute → Bool
picks Created one = one.created
picks (Named mask) one = has mask.0 one.number
picks (Only number) one = one.number == number

-- the values that stand in the bytes
abbrev pub cut : List Attribute → List ℕ → Values
cut [] bytes = []
cut (one ∷ rest) bytes = (one.number, take one.width bytes) ∷ cut rest (drop one.width bytes)

-- the bytes of the values that pass
abbrev pub chosen_bytes : (Attribute → Bool) → List Attribute → List ℕ → List ℕ
chosen_bytes passes [] bytes = []
chosen_bytes passes (one ∷ rest) bytes = (if passes one then take one.width bytes else [])
    ++ chosen_bytes passes rest (drop one.width bytes)

-- the bytes with the values that pass cut from the given ones
abbrev pub with_chosen : (Attribute → Bool) → List Attribute → List ℕ → List ℕ → List ℕ
with_chosen passes [] given bytes = bytes
with_chosen passes (one ∷ rest) given bytes =
    (if passes one then take one.width given else take one.width bytes)
    ++ with_chosen passes rest (if passes one then drop one.width given else given)
    (drop one.width bytes)
