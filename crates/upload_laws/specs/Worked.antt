-- The first database with one image of one byte, and its pieces.
use Rattle.std.specs.Prelude.{ℕ, List, [], ◌∷◌, ◌++◌, replicate, Some, None, codes}
use Rattle.omci_types.specs.declared.Software.{Software}
use Rattle.mib_spec.specs.Database.{first}
use Rattle.upload_spec.specs.Pieces.{Copy, without_makers}

abbrev pub one_image : Software
one_image = record {
  first = Some (record {
    length = 1;
    crc = 255;
    version = 255 ∷ replicate 13 0;
  });
  second = None;
  committed = 0;
  active = 0;
}

abbrev pub first_copy : Copy
first_copy = without_makers (first one_image)

abbrev pub ethernet_piece : ℕ → List ℕ
ethernet_piece low = 0 ∷ 11 ∷ 1 ∷ low ∷ 255 ∷ 224 ∷ replicate 7 0 ++ 5 ∷ 238 ∷ replicate 17 0

abbrev pub t_cont_piece : ℕ → List ℕ
t_cont_piece low = 1 ∷ 6 ∷ 128 ∷ low ∷ 224 ∷ 0 ∷ 0 ∷ 255 ∷ 0 ∷ 1 ∷ replicate 22 0

abbrev pub first_pieces : List (List ℕ)
first_pieces =
    (0 ∷ 2 ∷ 0 ∷ 0 ∷ 128 ∷ 0 ∷ replicate 26 0) ∷
    (0 ∷ 7 ∷ 0 ∷ 0 ∷ 240 ∷ 0 ∷ 255 ∷ replicate 13 0 ++ 1 ∷ 1 ∷ 1 ∷ replicate 9 0) ∷
    (0 ∷ 7 ∷ 0 ∷ 1 ∷ 240 ∷ 0 ∷ replicate 26 0) ∷
    ethernet_piece 1 ∷
    ethernet_piece 2 ∷
    ethernet_piece 3 ∷
    ethernet_piece 4 ∷
    (1 ∷ 0 ∷ 0 ∷ 0 ∷ 224 ∷ 0 ∷ codes "OMC1" ++ replicate 14 0 ++ codes "OMC1"
    ++ (0 ∷ 0 ∷ 0 ∷ 1 ∷ [])) ∷
    (1 ∷ 0 ∷ 0 ∷ 0 ∷ 31 ∷ 0 ∷ replicate 26 0) ∷
    (1 ∷ 1 ∷ 0 ∷ 0 ∷ 248 ∷ 0 ∷ replicate 20 0 ++ 160 ∷ 0 ∷ 0 ∷ 1 ∷ 1 ∷ 0 ∷ []) ∷
    (1 ∷ 1 ∷ 0 ∷ 0 ∷ 7 ∷ 128 ∷ replicate 26 0) ∷
    t_cont_piece 1 ∷
    t_cont_piece 2 ∷
    []
