-- The sections of a window, and the packets in which they are sent.
use Rattle.std.proofs.Common.{◌≡◌, ℕ, zero, suc, ◌+◌, ◌-◌, ◌<◌, ◌≤◌, refl, sym, ap, subst, ◌∙◌, arith}
use Rattle.std.proofs.Common.{List, [], ◌∷◌, ◌++◌, length, take, drop, replicate, Some}
use Rattle.std.specs.Prelude.{get_or, slice_get, Result, Ok, Err, OnErr}
use Rattle.std.specs.List.{All}
use Rattle.std.proofs.lemmas.List.{take_at, take_more, append_assoc, append-nil, take-append-drop}
use Rattle.std.proofs.lemmas.List.{length-take}
use Rattle.std.proofs.lemmas.List.Elements.{All-nil, All-push}
use Rattle.frame_spec.specs.Widths.{front_filled}
use Rattle.omci_types.specs.declared.EntityId.{EntityId}
use Rattle.lane_spec.specs.Command.{section_packet, with_sections}
use Rattle.olt_lanes.specs.Sections.{AreSections, last_of, AddsFront}

-- ---- a section of a window

-- what stands in a place
got : {X : Type 0} (xs : List X) (number : ℕ) (x d : X)
    → slice_get xs number ≡ Some x → (number < length xs) × (get_or xs number d ≡ x)
got [] number x d e = absurd (cc)
got (y ∷ xs) zero x d e = (omega arith, cc)
got (y ∷ xs) (suc number) x d e =
    let rest = got xs number x d e in
    (omega (arith, rest.0), rest.1)

-- bytes of that width aren't filled
front_whole : (width : ℕ) (bytes : List ℕ) → length bytes ≡ width → front_filled width bytes ≡ bytes
front_whole width bytes long = take_at bytes (replicate (width - length bytes) 0) width long

pub section_kept : (sections : List (List ℕ)) (number : ℕ) (word bytes : List ℕ)
    → AreSections sections
    → slice_get sections number ≡ Some word
    → bytes ≡ front_filled 31 word
    → slice_get sections number ≡ Some bytes
section_kept sections number word bytes are is filled =
    let place = got sections number word [] is in
    let long : length word ≡ 31 =
    subst (λ (w : List ℕ). length w ≡ 31) place.1 (are.whole number [] place.0) in
    is ∙ ap (λ (w : List ℕ). Some w) (sym (filled ∙ front_whole 31 word long))

pub last_is : (sections : List (List ℕ)) (bytes : List ℕ)
    → slice_get sections (length sections - 1) ≡ Some bytes
    → last_of sections ≡ bytes
last_is sections bytes is = (got sections (length sections - 1) bytes [] is).1

-- ---- the packets of sections

-- what holds anyhow holds where the call failed
pub on_err : {A E P : Type 0} (r : Result A E) → P → OnErr r P
on_err (Ok x) p = tt
on_err (Err e) p = p

-- the packets of some sections, and then those of the sections after them
pub sections_join : (tci : ℕ) (entity : EntityId) (number : ℕ) (xs ys packets : List (List ℕ))
    → with_sections tci entity number (xs ++ ys) packets
    ≡ with_sections tci entity number xs [] ++ with_sections tci entity (number + length xs) ys packets
sections_join tci entity number [] ys packets =
    let e : number ≡ number + 0 = omega arith in
    ap (λ n. with_sections tci entity n ys packets) e
sections_join tci entity number (x ∷ xs) ys packets =
    let e : number + 1 + length xs ≡ number + suc (length xs) = omega arith in
    ap (λ ps. section_packet tci entity number x ∷ ps)
    (sections_join tci entity (number + 1) xs ys packets
    ∙ ap (λ n. with_sections tci entity (number + 1) xs [] ++ with_sections tci entity n ys packets) e)

-- so many sections were sent, each in a packet of 48 bytes
pub record SentSoFar (tci : ℕ) (entity : EntityId) (sections : List (List ℕ)) (number : ℕ)
    (old out : List (List ℕ)) : Type 0 where
  pub added : out ≡ old ++ with_sections tci entity 0 (take number sections) []
  pub whole : All (λ packet. length packet ≡ 48)
      (with_sections tci entity 0 (take number sections) [])

pub none_sent : (tci : ℕ) (entity : EntityId) (sections old : List (List ℕ))
    → SentSoFar tci entity sections 0 old old
none_sent tci entity sections old =
    record { added = sym (append-nil old); whole = All-nil (λ packet. length packet ≡ 48) }

pub one_sent : (tci : ℕ) (entity : EntityId) (sections : List (List ℕ)) (number : ℕ)
    (bytes : List ℕ) (old out new : List (List ℕ))
    → slice_get sections number ≡ Some bytes
    → new ≡ out ++ section_packet tci entity number bytes ∷ []
    → length (section_packet tci entity number bytes) ≡ 48
    → SentSoFar tci entity sections number old out
    → SentSoFar tci entity sections (number + 1) old new
one_sent tci entity sections number bytes old out new is put long so_far =
    record {
      added = put
          ∙ ap (λ ps. ps ++ packet ∷ []) so_far.added
          ∙ append_assoc old sent (packet ∷ [])
          ∙ ap (λ ps. old ++ ps) (sym more);
      whole = subst (λ ps. All (λ packet. length packet ≡ 48) ps) (sym more)
          (All-push (λ packet. length packet ≡ 48) sent packet so_far.whole long);
    }
  where
    packet : List ℕ
    packet = section_packet tci entity number bytes

    sent : List (List ℕ)
    sent = with_sections tci entity 0 (take number sections) []

    more : with_sections tci entity 0 (take (number + 1) sections) [] ≡ sent ++ packet ∷ []
    more =
        let place = got sections number bytes [] is in
        let short = length-take number sections in
        let count : 0 + length (take number sections) ≡ number = omega (arith, short, place.0) in
        ap (λ xs. with_sections tci entity 0 xs [])
        (take_more sections number [] place.0 ∙ ap (λ b. take number sections ++ b ∷ []) place.1)
        ∙ sections_join tci entity 0 (take number sections) (bytes ∷ []) []
        ∙ ap (λ n. sent ++ section_packet tci entity n bytes ∷ []) count

-- the packets of the sections that were sent are the first of all
pub front_sent : (tci : ℕ) (entity : EntityId) (sections : List (List ℕ)) (most number : ℕ)
    (old out : List (List ℕ))
    → number ≤ most
    → SentSoFar tci entity sections number old out
    → AddsFront (with_sections tci entity 0 (take most sections) []) old out
front_sent tci entity sections most number old out le so_far =
    record {
      added = with_sections tci entity 0 (take number sections) [];
      rest = _;
      are =
          ap (λ xs. with_sections tci entity 0 xs [])
          (sym (take-append-drop number (take most sections))
          ∙ ap (λ xs. xs ++ drop number (take most sections)) (shorter number most sections le))
          ∙ sections_join tci entity 0 (take number sections) (drop number (take most sections)) [];
      now = so_far.added;
    }
  where
    shorter : {X : Type 0} (n m : ℕ) (xs : List X) → n ≤ m → take n (take m xs) ≡ take n xs
    shorter zero m xs le = refl
    shorter (suc n) zero xs le = absurd (omega (arith, le))
    shorter (suc n) (suc m) [] le = refl
    shorter (suc n) (suc m) (x ∷ xs) le = ap (λ ys. x ∷ ys) (shorter n m xs (omega (arith, le)))

-- ---- the packets of a command

-- the last packet comes after those of the sections before
pub packets_join : (tci : ℕ) (entity : EntityId) (earlier : List (List ℕ)) (last : List ℕ)
    → with_sections tci entity 0 earlier (last ∷ [])
    ≡ with_sections tci entity 0 earlier [] ++ last ∷ []
packets_join tci entity earlier last =
    ap (λ xs. with_sections tci entity 0 xs (last ∷ [])) (sym (append-nil earlier))
    ∙ sections_join tci entity 0 earlier [] (last ∷ [])

pub command_sent : (tci : ℕ) (entity : EntityId) (earlier old middle new : List (List ℕ))
    (last : List ℕ)
    → middle ≡ old ++ with_sections tci entity 0 earlier []
    → new ≡ middle ++ last ∷ []
    → new ≡ old ++ with_sections tci entity 0 earlier (last ∷ [])
command_sent tci entity earlier old middle new last before now =
    now ∙ ap (λ ps. ps ++ last ∷ []) before
    ∙ append_assoc old (with_sections tci entity 0 earlier []) (last ∷ [])
    ∙ ap (λ ps. old ++ ps) (sym (packets_join tci entity earlier last))

pub command_whole : (tci : ℕ) (entity : EntityId) (earlier : List (List ℕ)) (last : List ℕ)
    → All (λ packet. length packet ≡ 48) (with_sections tci entity 0 earlier [])
    → length last ≡ 48
    → All (λ packet. length packet ≡ 48) (with_sections tci entity 0 earlier (last ∷ []))
command_whole tci entity earlier last before long =
    subst (λ ps. All (λ packet. length packet ≡ 48) ps) (sym (packets_join tci entity earlier last))
    (All-push (λ packet. length packet ≡ 48) (with_sections tci entity 0 earlier []) last before long)

-- no further packet was added
pub no_more_sent : (tci : ℕ) (entity : EntityId) (earlier old new : List (List ℕ)) (last : List ℕ)
    → AddsFront (with_sections tci entity 0 earlier []) old new
    → AddsFront (with_sections tci entity 0 earlier (last ∷ [])) old new
no_more_sent tci entity earlier old new last front =
    record {
      added = front.added;
      rest = front.rest ++ last ∷ [];
      are = packets_join tci entity earlier last
          ∙ ap (λ ps. ps ++ last ∷ []) front.are
          ∙ append_assoc front.added front.rest (last ∷ []);
      now = front.now;
    }

pub last_not_sent : (tci : ℕ) (entity : EntityId) (earlier old new : List (List ℕ)) (last : List ℕ)
    → new ≡ old ++ with_sections tci entity 0 earlier []
    → AddsFront (with_sections tci entity 0 earlier (last ∷ [])) old new
last_not_sent tci entity earlier old new last sent =
    record {
      added = with_sections tci entity 0 earlier [];
      rest = last ∷ [];
      are = packets_join tci entity earlier last;
      now = sent;
    }
