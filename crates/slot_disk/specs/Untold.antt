-- The laws of a disk that tells nothing.
use Rattle.std.specs.Prelude.{◌≡◌, ℕ, List, Option, Some, None}
use Rattle.slot_spec.specs.Rig.{Rigged}

pub untold_reads : (r : Rigged) → ◌≡◌ {A = Option Rigged} None (Some r)
    → ◌≡◌ {A = Option (List ℕ)} None (Some r.bytes)
untold_reads r is = cc

pub untold_cut : (r : Rigged) → ◌≡◌ {A = Option Rigged} None (Some r) → ⊥
untold_cut r is = cc

pub untold_seen : (bytes : List ℕ) → ◌≡◌ {A = Option (List ℕ)} None (Some bytes) → ⊥
untold_seen bytes is = cc
