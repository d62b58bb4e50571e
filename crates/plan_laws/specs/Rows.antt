-- Copies and values of the worked rows.
use Rattle.std.specs.Prelude.{ℕ, List, [], ◌∷◌, ◌++◌, replicate, map}
use Rattle.class_spec.specs.declared.TheConstants.{ONU_DATA}
use Rattle.mib_spec.specs.Database.{entity, Values}
use Rattle.upload_spec.specs.Pieces.{Copy}

-- ONU data alone, its counter 0
abbrev pub counter_alone : Copy
counter_alone = (ONU_DATA, (1, 0 ∷ []) ∷ []) ∷ []

-- and a GAL Ethernet profile, with this second byte
abbrev pub gal : ℕ → ℕ → Copy
gal instance byte = counter_alone ++ (entity 272 instance, (1, 0 ∷ byte ∷ []) ∷ []) ∷ []

abbrev pub gal_more : Copy
gal_more = gal 1 48 ++ (entity 272 2, (1, 0 ∷ 9 ∷ []) ∷ []) ∷ []

-- and a T-CONT
abbrev pub t_cont : Copy
t_cont = counter_alone
    ++ (entity 262 32769, (1, 0 ∷ 255 ∷ []) ∷ (2, 0 ∷ []) ∷ (3, 1 ∷ []) ∷ []) ∷ []

-- the values of a whole 802.1p mapper
abbrev pub mapper : List ℕ
mapper = replicate 18 7 ++ 8 ∷ [] ++ replicate 24 9 ++ 10 ∷ 11 ∷ []

-- and an 802.1p mapper of which nothing is known
abbrev pub bridge : Copy
bridge = counter_alone ++ (entity 130 5, []) ∷ []
