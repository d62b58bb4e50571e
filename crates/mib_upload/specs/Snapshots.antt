-- The entries of a snapshot as a database.
use Rattle.std.specs.Prelude.{◌≡◌, ℕ, ◌+◌, ◌<◌, ◌≤◌, List, [], ◌∷◌, length, map, slice_index_or}
use Rattle.omci_types.specs.declared.EntityId.{EntityId}
use Rattle.mib_spec.specs.Database.{Database, Managed, counter}
use Rattle.mib_spec.specs.declared.TheConstants.{MOST_ENTITIES}
use Rattle.upload_spec.specs.Pieces.{pieces_of, pieces, without_makers}
use Rattle.mib_store.specs.Entries.{held_in}
use Rattle.mib_upload.specs.declared.taken.Taken.{Taken}

-- an entry as the database has it
abbrev pub taken_as : Taken → EntityId × Managed
taken_as taken = held_in taken.entity taken.values

abbrev pub database_of : List Taken → Database
database_of entries = map taken_as entries

-- each entry knows the number of its first piece
abbrev pub AreNumbered : ℕ → List Taken → Type 0
AreNumbered number [] = Unit {0}
AreNumbered number (taken ∷ rest) =
    (taken.first ≡ number)
    × AreNumbered (number + length (pieces_of taken.entity (taken_as taken).1.values)) rest

pub record IsSnapshot (entries : List Taken) (count counted : ℕ) : Type 0 where
  pub numbered : AreNumbered 0 entries
  pub few : length entries ≤ MOST_ENTITIES
  pub all : count ≡ length (pieces (without_makers (database_of entries)))
  pub counter : counted ≡ counter (database_of entries)

-- an entry for reading past the end
abbrev pub no_taken : Taken
no_taken = record { entity = record { class = 0; instance = 0 }; first = 0; values = [] }

abbrev pub taken_at : List Taken → ℕ → Taken
taken_at entries at = slice_index_or entries at no_taken

-- the last entry whose first piece isn't after this number
pub record IsHolder (entries : List Taken) (number at : ℕ) : Type 0 where
  pub in_range : at < length entries
  pub begun : (taken_at entries at).first ≤ number
  pub later : (k : ℕ) → at < k → k < length entries → number < (taken_at entries k).first
