-- The fields written one after the other are the spelling.
use Rattle.std.proofs.Common.{◌≡◌, ℕ, List, [], ◌∷◌, ◌++◌, take, ap, ◌∙◌}
use Rattle.std.specs.Int.{to_be_bytes, w16, w32}
use Rattle.omci_types.specs.declared.Frame.{Frame}
use Rattle.frame_spec.specs.Checksum.{crc}
use Rattle.frame_spec.specs.declared.TheConstants.{BASELINE_DEVICE, BASELINE_TRAILER}
use Rattle.frame_spec.specs.Baseline.{checked_bytes, spelling}

pub spelled : (frame : Frame) (start tci kind class instance contents trailer whole : List ℕ) →
    take 2 tci ≡ take 0 start ++ to_be_bytes w16 frame.tci →
    take 4 kind ≡ take 2 tci ++ frame.kind ∷ BASELINE_DEVICE ∷ [] →
    take 6 class ≡ take 4 kind ++ to_be_bytes w16 frame.entity.class →
    take 8 instance ≡ take 6 class ++ to_be_bytes w16 frame.entity.instance →
    take 40 contents ≡ take 8 instance ++ frame.contents →
    take 44 trailer ≡ take 40 contents ++ BASELINE_TRAILER →
    whole ≡ take 44 trailer ++ to_be_bytes w32 (crc (take 44 trailer)) →
    whole ≡ spelling frame
unfolding spelling checked_bytes
spelled frame start tci kind class instance contents trailer whole e1 e2 e3 e4 e5 e6 e7 =
    let front : take 44 trailer ≡ checked_bytes frame =
    e6 ∙ ap (λ (l : List ℕ). l ++ BASELINE_TRAILER)
    (e5 ∙ ap (λ (l : List ℕ). l ++ frame.contents)
    (e4 ∙ ap (λ (l : List ℕ). l ++ to_be_bytes w16 frame.entity.instance)
    (e3 ∙ ap (λ (l : List ℕ). l ++ to_be_bytes w16 frame.entity.class)
    (e2 ∙ ap (λ (l : List ℕ). l ++ frame.kind ∷ BASELINE_DEVICE ∷ []) e1)))) in
    e7 ∙ ap (λ (l : List ℕ). l ++ to_be_bytes w32 (crc l)) front
