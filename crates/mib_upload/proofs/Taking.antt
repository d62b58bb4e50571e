-- The entries of a snapshot while they are taken, one by one.
use Rattle.std.proofs.Common.{◌≡◌, ℕ, suc, ◌+◌, ◌*◌, ◌<◌, ◌≤◌, List, [], ◌∷◌, ◌++◌, length, take, refl, sym, ap, ◌∙◌, arith}
use Rattle.std.specs.Prelude.{slice_index_or}
use Rattle.std.specs.List.{flat_map}
use Rattle.std.proofs.lemmas.List.{append-nil, length-append, length-map, length-take-le, map-append, take_all}
use Rattle.std.proofs.lemmas.Grind.{flat_map-append}
use Rattle.std.proofs.Math.Seq.{take-suc}
use Rattle.omci_types.specs.declared.EntityId.{EntityId}
use Rattle.mib_spec.specs.Database.{Database, Managed, Values}
use Rattle.upload_spec.specs.Pieces.{pieces_of, pieces, without_makers}
use Rattle.mib_upload.specs.declared.taken.Taken.{Taken}
use Rattle.mib_upload.specs.Snapshots.{taken_as, database_of, AreNumbered}

-- the entries so far, of a database
pub record TakenSoFar (database : Database) (place : ℕ) (entries : List Taken) (count : ℕ) : Type 0 where
  pub held : database_of entries ≡ take place database
  pub numbered : AreNumbered 0 entries
  pub pieces_are : count ≡ length (pieces (without_makers (database_of entries)))
  pub small : count ≤ 2 * place

abbrev own : Taken → List (List ℕ)
own taken = pieces_of taken.entity (taken_as taken).1.values

abbrev values_only : EntityId × Managed → EntityId × Values
values_only one = (one.0, one.1.values)

abbrev pieces_one : EntityId × Values → List (List ℕ)
pieces_one one = pieces_of one.0 one.1

pub takes_none : (database : Database) → TakenSoFar database 0 [] 0
unfolding pieces
takes_none database = record { held = refl; numbered = tt; pieces_are = refl; small = omega arith }

numbered_more : (entries : List Taken) (start : ℕ) (taken : Taken) → AreNumbered start entries → taken.first ≡ start + length (flat_map pieces_one (without_makers (database_of entries))) → AreNumbered start (entries ++ taken ∷ [])
numbered_more [] start taken h is = (omega (arith, is), tt)
numbered_more (e ∷ es) start taken h is =
    (h.0, numbered_more es (start + length (own e)) taken h.1 (omega (arith, is, length-append (own e) (flat_map pieces_one (without_makers (database_of es))))))

database_more : (entries : List Taken) (taken : Taken) → database_of (entries ++ taken ∷ []) ≡ database_of entries ++ taken_as taken ∷ []
database_more entries taken = map-append taken_as entries (taken ∷ [])

count_more : (entries : List Taken) (taken : Taken) → length (pieces (without_makers (database_of (entries ++ taken ∷ [])))) ≡ length (pieces (without_makers (database_of entries))) + length (own taken)
unfolding pieces
count_more entries taken =
    let split : flat_map pieces_one (without_makers (database_of (entries ++ taken ∷ []))) ≡ flat_map pieces_one (without_makers (database_of entries)) ++ flat_map pieces_one (values_only (taken_as taken) ∷ []) =
    ap (λ (d : Database). flat_map pieces_one (without_makers d)) (database_more entries taken) ∙ ap (flat_map pieces_one) (map-append values_only (database_of entries) (taken_as taken ∷ []))
    ∙ flat_map-append pieces_one (without_makers (database_of entries)) (values_only (taken_as taken) ∷ []) in
    let last : flat_map pieces_one (values_only (taken_as taken) ∷ []) ≡ own taken = append-nil (own taken) in
    ap length split ∙ length-append (flat_map pieces_one (without_makers (database_of entries))) (flat_map pieces_one (values_only (taken_as taken) ∷ [])) ∙ ap (λ (l : List (List ℕ)). length (flat_map pieces_one (without_makers (database_of entries))) + length l) last

pub takes_next : (database : Database) (place : ℕ) (entries : List Taken) (count more : ℕ) (taken : Taken) → place < length database → ((other : EntityId × Managed) → slice_index_or database place other ≡ taken_as taken) → taken.first ≡ count → more ≡ length (own taken) → more ≤ 2
    → TakenSoFar database place entries count → TakenSoFar database (place + 1) (entries ++ taken ∷ []) (count + more)
unfolding pieces
takes_next database place entries count more taken lt held first more_is few so = record {
  held =
      let next : suc place ≡ place + 1 = omega arith in
      database_more entries taken ∙ ap (λ (d : Database). d ++ taken_as taken ∷ []) so.held ∙ ap (λ (one : EntityId × Managed). take place database ++ one ∷ []) (sym (held (taken_as taken))) ∙ sym (take-suc database place (taken_as taken) lt) ∙ ap (λ k. take k database) next;
  numbered = numbered_more entries 0 taken so.numbered (omega (arith, first, so.pieces_are));
  pieces_are = omega (arith, so.pieces_are, more_is, count_more entries taken);
  small = omega (arith, so.small, few);
}

pub took_all : (database : Database) (place : ℕ) (entries : List Taken) (count : ℕ) → length database ≤ place → TakenSoFar database place entries count → database_of entries ≡ database
took_all database place entries count le so = so.held ∙ take_all place database le

pub took_so_many : (database : Database) (place : ℕ) (entries : List Taken) (count : ℕ) → place ≤ length database → TakenSoFar database place entries count → length entries ≡ place
took_so_many database place entries count le so = sym (length-map entries taken_as) ∙ ap length so.held ∙ length-take-le place database le
