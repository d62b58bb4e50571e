-- Pieces that come one after the other give the copy that they were cut from.
use Rattle.std.proofs.Common.{◌≡◌, ℕ, zero, suc, ◌+◌, ◌<◌, ◌≤◌, Bool, true, false, cond, not, List, [], ◌∷◌, ◌++◌, length, take, replicate, slice_get, Option, Some, None, refl, sym, ap, ◌∙◌, arith, nat_lt, bytes_eq, take_all}
use Rattle.std.proofs.lemmas.Option.{same_Some}
use Rattle.omci_types.specs.declared.EntityId.{EntityId}
use Rattle.class_spec.specs.Masks.{width_of}
use Rattle.mib_spec.specs.Requests.{is_class, of_class}
use Rattle.upload_spec.specs.declared.TheConstants.{PIECE_BYTES, PIECE_ROOM}
use Rattle.upload_spec.specs.declared.PieceFault.{PieceFault}
use Rattle.upload_spec.specs.declared.PieceFault.TheVariants as fault
use Rattle.upload_spec.specs.Pieces.{Copy, entity_in, mask_in, pieces, piece_at}
use Rattle.upload_spec.specs.Copies.{with_overlay, piece_values, with_piece, joined_to, join, first_repeated, repeated_fault, attributes_of, copied_values, piece_fault}
use Rattle.upload_laws.specs.Shaped.{IsWhole}
use Rattle.upload_laws.proofs.Joins.{pieces_joined}

-- ---- the first pieces, joined

joined_front : (copy : Copy) (front back : List (List ℕ))
    → joined_to copy (front ++ back) ≡ joined_to (joined_to copy front) back
joined_front copy [] back = refl
joined_front copy (piece ∷ rest) back = joined_front (with_piece piece copy) rest back

take_one_more : (ps : List (List ℕ)) (number : ℕ) (piece : List ℕ)
    → slice_get ps number ≡ Some piece → take (number + 1) ps ≡ take number ps ++ piece ∷ []
take_one_more [] number piece e = absurd (cc)
take_one_more (p ∷ ps) zero piece e = ap (λ (q : List ℕ). q ∷ []) (same_Some p piece e)
take_one_more (p ∷ ps) (suc number) piece e =
    let a : suc number + 1 ≡ suc (number + 1) = omega arith in
    ap (λ n. take n (p ∷ ps)) a ∙ ap (λ (l : List (List ℕ)). p ∷ l) (take_one_more ps number piece e)

-- the copy that the first so many pieces make
abbrev pub front_of : ℕ → Copy → Copy
front_of number database = join (take number (pieces database))

pub front_more : (number : ℕ) (piece : List ℕ) (database : Copy)
    → piece_at number database ≡ Some piece
    → with_piece piece (front_of number database) ≡ front_of (number + 1) database
unfolding piece_at join
front_more number piece database e =
    sym (joined_front [] (take number (pieces database)) (piece ∷ []))
    ∙ ap (joined_to []) (sym (take_one_more (pieces database) number piece e))

pub front_none : (database : Copy) → front_of 0 database ≡ []
unfolding join
front_none database = refl

pub front_all : (number : ℕ) (database : Copy) → IsWhole database
    → length (pieces database) ≤ number → front_of number database ≡ database
front_all number database whole enough =
    ap join (take_all number (pieces database) enough) ∙ pieces_joined database whole

-- a piece of that number is there
found_below : (ps : List (List ℕ)) (number : ℕ) → number < length ps
    → (piece : List ℕ) × (slice_get ps number ≡ Some piece)
found_below [] number lt = absurd (omega arith)
found_below (p ∷ ps) zero lt = (p, refl)
found_below (p ∷ ps) (suc number) lt = found_below ps number (omega (arith, lt))

pub piece_found : (number : ℕ) (database : Copy) → number < length (pieces database)
    → (piece : List ℕ) × (piece_at number database ≡ Some piece)
unfolding piece_at
piece_found number database lt = found_below (pieces database) number lt

-- ---- faults

-- zeros are the empty piece
pub zeros_empty : (copy : Copy) → piece_fault (replicate 32 0) copy ≡ Some fault.Empty
unfolding piece_fault
zeros_empty copy = refl

repeated_known : (one : EntityId) (o : Option ℕ) (class : ℕ)
    → repeated_fault one o ≡ Some (fault.ClassUnknown class) → ⊥
repeated_known one None class e = absurd (cc)
repeated_known one (Some number) class e = absurd (cc)

-- a piece of an unknown class adds nothing
pub unknown_same : (piece : List ℕ) (copy : Copy) (class : ℕ)
    → piece_fault piece copy ≡ Some (fault.ClassUnknown class) → with_piece piece copy ≡ copy
unfolding piece_fault with_piece
unknown_same piece copy class e =
    go (bytes_eq piece (replicate PIECE_BYTES 0)) (is_class (entity_in piece).class)
    (nat_lt PIECE_ROOM (of_class width_of (entity_in piece).class (mask_in piece))) e
  where
    rest : Option PieceFault
    rest = repeated_fault (entity_in piece) (first_repeated (attributes_of (entity_in piece).class) (mask_in piece) (copied_values (entity_in piece) copy))

    go : (zeros known long : Bool)
        → cond zeros (Some fault.Empty) (cond (not known) (Some (fault.ClassUnknown (entity_in piece).class)) (cond long (Some (fault.Truncated (entity_in piece))) rest))
        ≡ Some (fault.ClassUnknown class)
        → cond known (with_overlay (entity_in piece) (piece_values piece) copy) copy ≡ copy
    go true known long f = absurd (cc)
    go false false long f = refl
    go false true true f = absurd (cc)
    go false true false f = absurd (repeated_known (entity_in piece) _ class f)
