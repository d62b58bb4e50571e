-- The pieces of a whole copy: how many there are, and how long each is.
use Rattle.std.proofs.Common.{◌≡◌, ℕ, zero, suc, ◌+◌, ◌-◌, ◌*◌, ◌<◌, ◌≤◌, ◌^◌, Bool, true, false, List, [], ◌∷◌, ◌++◌, length, map, replicate, slice_get, Some, refl, sym, ap, ◌∙◌, arith, nat_le, length-append, append_assoc}
use Rattle.std.proofs.lemmas.Option.{same_Some}
use Rattle.std.proofs.lemmas.Bool.Decides.{nat_tests}
use Rattle.std.proofs.lemmas.List.{length-replicate, append-nil}
use Rattle.std.specs.List.{flat_map}
use Rattle.omci_types.specs.declared.EntityId.{EntityId}
use Rattle.class_spec.specs.Classes.{Attribute}
use Rattle.mib_spec.specs.Database.{Database, Values, bytes_of}
use Rattle.upload_spec.specs.declared.TheConstants.{PIECE_ROOM, PIECE_BYTES}
use Rattle.upload_spec.specs.Pieces.{Copy, fits, current, ended, groups_from, groups, piece_of, pieces_of, pieces, piece_at, without_makers}
use Rattle.upload_laws.specs.Shaped.{IsShaped, IsWholeEntry, IsWhole}
use Rattle.upload_laws.proofs.Runs.{shaped_length}
use Rattle.resync_laws.specs.Databases.{IsWholeDatabase}
use Rattle.resync_laws.proofs.Tables.{AreNarrow, class_is}
use Rattle.resync_laws.proofs.Whole.{makers_length}

-- ---- how many

groups_few : (values group : Values) → length (groups_from group values) ≤ length values + 1
groups_few [] group = omega arith
groups_few (one ∷ rest) group =
    go (fits group one) (groups_few rest (group ++ one ∷ [])) (groups_few rest (one ∷ []))
  where
    go : (b : Bool) → length (groups_from (group ++ one ∷ []) rest) ≤ length rest + 1
        → length (groups_from (one ∷ []) rest) ≤ length rest + 1
        → length (ended b group ++ groups_from (current b group one) rest)
        ≤ length (one ∷ rest) + 1
    go true joined alone = omega (arith, joined)
    go false joined alone = omega (arith, alone)

map_length : {A B : Type 0} (f : A → B) (xs : List A) → length (map f xs) ≡ length xs
map_length f [] = refl
map_length f (x ∷ xs) = omega (arith, map_length f xs)

entry_few : (one : EntityId) (values : Values) → IsWholeEntry one values
    → length (pieces_of one values) ≤ 14
entry_few one values h =
    let a = map_length (piece_of one) (groups values) in
    let b = groups_few values [] in
    let c = shaped_length h.row.attributes values h.shaped in
    let d = (class_is one.class h.row h.is).few in
    omega (arith, a, b, c, d)

pub pieces_few : (copy : Copy) → IsWhole copy → length (pieces copy) ≤ 14 * length copy
unfolding pieces
pieces_few [] h = omega arith
pieces_few (one ∷ rest) h =
    let a = entry_few one.0 one.1 h.0 in
    let b = pieces_few rest h.2 in
    let c = length-append (pieces_of one.0 one.1) (flat_map (λ (e : EntityId × Values). pieces_of e.0 e.1) rest) in
    omega (arith, a, b, c)

-- their number goes into two bytes
pub pieces_counted : (database : Database) → IsWholeDatabase database
    → length (pieces (without_makers database)) < 2 ^ 16
pieces_counted database h =
    let a = pieces_few (without_makers database) h.whole in
    let b = makers_length database in
    omega (arith, a, b, h.few)

-- ---- how long

abbrev AllShort : List Values → Type 0
AllShort [] = Unit {0}
AllShort (group ∷ rest) = (length (bytes_of group) ≤ PIECE_ROOM) × AllShort rest

abbrev AllFit : Values → Type 0
AllFit [] = Unit {0}
AllFit (one ∷ rest) = (length one.1 ≤ PIECE_ROOM) × AllFit rest

shaped_fit : (attributes : List Attribute) (values : Values) → IsShaped attributes values
    → AreNarrow attributes → AllFit values
shaped_fit [] [] s n = tt
shaped_fit [] (v ∷ vs) s n = absurd s
shaped_fit (one ∷ rest) [] s n = absurd s
shaped_fit (one ∷ rest) (v ∷ vs) s n = (omega (arith, s.1, n.0), shaped_fit rest vs s.2 n.1)

bytes_append : (a b : Values) → bytes_of (a ++ b) ≡ bytes_of a ++ bytes_of b
bytes_append [] b = refl
bytes_append (one ∷ rest) b =
    ap (λ l. one.1 ++ l) (bytes_append rest b)
    ∙ sym (append_assoc one.1 (bytes_of rest) (bytes_of b))

groups_short : (values group : Values) → length (bytes_of group) ≤ PIECE_ROOM → AllFit values
    → AllShort (groups_from group values)
groups_short [] group short h = (short, tt)
groups_short (one ∷ rest) group short h =
    go (fits group one) refl (λ s. groups_short rest (group ++ one ∷ []) s h.1)
    (λ s. groups_short rest (one ∷ []) s h.1)
  where
    joined : length (bytes_of (group ++ one ∷ [])) ≡ length (bytes_of group) + length one.1
    joined =
        ap length (bytes_append group (one ∷ []) ∙ ap (λ l. bytes_of group ++ l) (append-nil one.1))
        ∙ length-append (bytes_of group) one.1

    alone : length (bytes_of (one ∷ [])) ≡ length one.1
    alone = ap length (append-nil one.1)

    go : (b : Bool) → nat_le (length (bytes_of group) + length one.1) PIECE_ROOM ≡ b
        → (length (bytes_of (group ++ one ∷ [])) ≤ PIECE_ROOM
        → AllShort (groups_from (group ++ one ∷ []) rest))
        → (length (bytes_of (one ∷ [])) ≤ PIECE_ROOM → AllShort (groups_from (one ∷ []) rest))
        → AllShort (ended b group ++ groups_from (current b group one) rest)
    go true is j a =
        let room : length (bytes_of group) + length one.1 ≤ PIECE_ROOM = grind (arith, nat_tests) in
        j (omega (arith, joined, room))
    go false is j a = (short, a (omega (arith, alone, h.0)))

abbrev AllLong : List (List ℕ) → Type 0
AllLong [] = Unit {0}
AllLong (piece ∷ rest) = (length piece ≡ PIECE_BYTES) × AllLong rest

piece_long : (one : EntityId) (group : Values) → length (bytes_of group) ≤ PIECE_ROOM
    → length (piece_of one group) ≡ PIECE_BYTES
unfolding piece_of
piece_long one group short =
    let a = length-append (bytes_of group) (replicate (PIECE_ROOM - length (bytes_of group)) 0) in
    let b = length-replicate {A = ℕ} (PIECE_ROOM - length (bytes_of group)) 0 in
    omega (arith, a, b, short)

all_long : (one : EntityId) (groups : List Values) → AllShort groups
    → AllLong (map (piece_of one) groups)
all_long one [] h = tt
all_long one (group ∷ rest) h = (piece_long one group h.0, all_long one rest h.1)

long_append : (a b : List (List ℕ)) → AllLong a → AllLong b → AllLong (a ++ b)
long_append [] b h k = k
long_append (x ∷ a) b h k = (h.0, long_append a b h.1 k)

pieces_long : (copy : Copy) → IsWhole copy → AllLong (pieces copy)
unfolding pieces
pieces_long [] h = tt
pieces_long (one ∷ rest) h =
    let k = class_is one.0.class h.0.row h.0.is in
    let fit = shaped_fit h.0.row.attributes one.1 h.0.shaped k.narrow in
    long_append (pieces_of one.0 one.1) _ (all_long one.0 (groups one.1) (groups_short one.1 [] (omega arith) fit)) (pieces_long rest h.2)

long_at : (ps : List (List ℕ)) (i : ℕ) (piece : List ℕ) → AllLong ps → slice_get ps i ≡ Some piece
    → length piece ≡ PIECE_BYTES
long_at [] i piece h e = absurd (cc)
long_at (p ∷ ps) zero piece h e = ap length (sym (same_Some p piece e)) ∙ h.0
long_at (p ∷ ps) (suc i) piece h e = long_at ps i piece h.1 e

-- a piece has 32 bytes
pub piece_whole : (copy : Copy) (number : ℕ) (piece : List ℕ) → IsWhole copy
    → piece_at number copy ≡ Some piece → length piece ≡ PIECE_BYTES
unfolding piece_at
piece_whole copy number piece h e = long_at (pieces copy) number piece (pieces_long copy h) e
