-- Stores worked by hand: over a disk with the one-byte image `ff` committed in slot 0, the two-byte
-- image `ffff` is taken into slot 1.
use Rattle.std.specs.Prelude.{ℕ, Bool, true, false, List, [], ◌∷◌, ◌++◌, replicate, Some, None}
use Rattle.omci_types.specs.declared.Boot.TheVariants.{PowerUp}
use Rattle.omci_types.specs.declared.EntityId.{EntityId}
use Rattle.message_spec.specs.declared.Request.{Request}
use Rattle.message_spec.specs.declared.Request.TheVariants as request
use Rattle.slot_spec.specs.Slots.{SlotPair}
use Rattle.store_spec.specs.declared.Handled.{Handled}
use Rattle.store_spec.specs.History.{StoreEntry}
use Rattle.store_spec.specs.State.{StoreState, store_started}
use Rattle.store_spec.specs.Deeds.{deed}
use Rattle.store_spec.specs.Effects.{store_after, handled_by, answered, entries_by}

-- a request as it comes, and whether a device call fails in it
pub record Asked : Type 0 where
  pub tci : ℕ
  pub entity : EntityId
  pub request : Request
  pub fails : Bool

abbrev pub image_of : ℕ → EntityId
image_of slot = record { class = 7; instance = slot }

-- a request for slot 1
abbrev pub ask : ℕ → Request → Asked
ask tci request = record { tci = tci; entity = image_of 1; request = request; fails = false }

-- the store after some requests, what it answers, and its history
abbrev pub after : List Asked → StoreState → StoreState
after [] m = m
after (a ∷ rest) m = after rest (store_after a.fails (deed 4096 a.tci a.entity a.request m) m)

abbrev pub answers : List Asked → StoreState → List Handled
answers [] m = []
answers (a ∷ rest) m =
    let d = deed 4096 a.tci a.entity a.request m in
    handled_by a.fails d ∷ answers rest (store_after a.fails d m)

abbrev pub history : List Asked → StoreState → List StoreEntry
history [] m = []
history (a ∷ rest) m =
    let d = deed 4096 a.tci a.entity a.request m in
    history rest (store_after a.fails d m) ++ entries_by a.fails d

abbrev pub flashed : SlotPair
flashed = record { first = Some (255 ∷ []); second = None; committed = 0 }

abbrev pub new_store : StoreState
new_store = store_started PowerUp flashed

-- a section of these bytes and zeros
abbrev pub two_bytes : List ℕ
two_bytes = 255 ∷ 255 ∷ replicate 29 0

abbrev pub zeros : List ℕ
zeros = replicate 31 0

abbrev pub start : (window size : ℕ) → Request
start window size = request.Start window size 1 1

abbrev pub section : (number : ℕ) → List ℕ → Bool → Request
section number bytes last = request.Section number bytes last

abbrev pub end : (check size : ℕ) → Request
end check size = request.End check size 1 1

-- the whole way of an image
abbrev pub download : List Asked
download =
    ask 1 (start 40 2) ∷
    ask 2 (section 0 two_bytes true) ∷
    ask 3 (end 65535 2) ∷
    ask 4 (request.Activate 0) ∷
    ask 5 request.Commit ∷
    []

abbrev pub commit : Asked
commit = ask 6 request.Commit

-- the slots after it
abbrev pub with_second : SlotPair
with_second = record { first = Some (255 ∷ []); second = Some (255 ∷ 255 ∷ []); committed = 1 }

-- starts of another entity
abbrev pub of_entity : EntityId → Asked → Asked
of_entity one a = record a { entity = one }

abbrev pub wrong_entities : List Asked
wrong_entities =
    of_entity (record { class = 8; instance = 0 }) (ask 1 (start 1 1)) ∷
    of_entity (record { class = 2; instance = 0 }) (ask 2 (start 1 1)) ∷
    of_entity (image_of 2) (ask 3 (start 1 1)) ∷
    of_entity (image_of 0) (ask 4 (start 1 1)) ∷
    []

-- for two circuit packs, of no byte, of one byte past the room
abbrev pub wrong_starts : List Asked
wrong_starts = ask 5 (request.Start 1 1 2 1) ∷ ask 6 (start 1 0) ∷ ask 7 (start 1 4097) ∷ []

-- requests where no download runs and slot 1 has no image
abbrev pub without_download : List Asked
without_download =
    ask 1 (section 0 zeros false) ∷
    ask 1 (section 0 zeros true) ∷
    ask 2 (end 0 0) ∷
    ask 3 (request.Activate 0) ∷
    ask 4 request.Commit ∷
    ask 5 (request.Reboot 0) ∷
    []

-- two sections where one is granted; then each of two, and one past the end
abbrev pub too_many_sections : List Asked
too_many_sections =
    ask 1 (start 1 33) ∷
    ask 2 (section 0 zeros false) ∷
    ask 2 (section 1 zeros true) ∷
    ask 3 (section 1 zeros true) ∷
    ask 4 (section 0 zeros true) ∷
    ask 5 (section 0 zeros true) ∷
    ask 6 (section 0 zeros true) ∷
    []

-- a second section where the first has the whole image
abbrev pub past_the_size : List Asked
past_the_size =
    ask 1 (start 2 31) ∷
    ask 2 (section 0 zeros false) ∷
    ask 2 (section 2 zeros false) ∷
    ask 2 (section 1 zeros true) ∷
    []

-- a section with AR for the other slot, which lets go of what is held
abbrev pub other_target : List Asked
other_target =
    ask 1 (start 2 31) ∷
    ask 2 (section 0 zeros false) ∷
    of_entity (image_of 0) (ask 3 (section 0 zeros true)) ∷
    ask 2 (section 1 zeros true) ∷
    []

-- an end before the whole image is there, and one with another check value; then once more
abbrev pub wrong_size : List Asked
wrong_size =
    ask 1 (start 2 3) ∷
    ask 2 (section 0 two_bytes true) ∷
    ask 3 (end 65535 2) ∷
    ask 4 (end 65535 2) ∷
    []

abbrev pub wrong_check : List Asked
wrong_check =
    ask 1 (start 2 2) ∷
    ask 2 (section 0 two_bytes true) ∷
    ask 3 (end 65534 2) ∷
    ask 4 (end 65535 2) ∷
    []

-- a commit of the committed slot, a start in which a device call fails, and starts of the broken
-- store
abbrev pub failed_start : List Asked
failed_start =
    of_entity (image_of 0) commit ∷
    record (ask 7 (start 1 1)) { fails = true } ∷
    ask 8 (request.Start 1 1 2 1) ∷
    of_entity (record { class = 8; instance = 0 }) (ask 9 (start 1 1)) ∷
    []

-- the code of a request that changes nothing
abbrev pub refused : ℕ → Handled
refused code = answered code false false

-- a request that is carried out, and grows the counter
abbrev pub carried : Handled
carried = answered 0 true false

-- a section that is taken
abbrev pub taken : Handled
taken = answered 0 false false
