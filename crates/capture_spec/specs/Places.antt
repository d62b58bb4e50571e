-- Places of a list, counted from 0, that have a property: whether there is one, the first, the
-- last, and how many.
use Rattle.std.specs.Prelude.{ℕ, zero, suc, ◌+◌, nat_le, Bool, false, ◌&&◌, ◌||◌, if◌then◌else◌}
use Rattle.std.specs.Prelude.{Option, Some, None}

-- Whether a place from one up to before another has the property.
unfoldable pub any_between : (from to : ℕ) → (ℕ → Bool) → Bool
any_between from zero p = false
any_between from (suc to) p = nat_le from to && p to || any_between from to p

abbrev pub or_else : {A : Type 0} → Option A → Option A → Option A
or_else (Some x) other = Some x
or_else None other = other

-- The first place below a number that has the property.
unfoldable pub first_place : ℕ → (ℕ → Bool) → Option ℕ
first_place zero p = None
first_place (suc n) p = or_else (first_place n p) (if p n then Some n else None)

-- The last place below a number that has the property.
unfoldable pub last_place : ℕ → (ℕ → Bool) → Option ℕ
last_place zero p = None
last_place (suc n) p = if p n then Some n else last_place n p

-- How many places below a number have the property.
unfoldable pub count_places : ℕ → (ℕ → Bool) → ℕ
count_places zero p = 0
count_places (suc n) p = count_places n p + (if p n then 1 else 0)
