-- Bytes are the stream of one list of frames at most, over any set of frames.
use Rattle.std.proofs.Common.{◌≡◌, ℕ, List, [], ◌∷◌, ◌++◌, length, drop, refl, sym, ap, subst, ◌∙◌, append_assoc}
use Rattle.std.specs.Prelude.{All}
use Rattle.std.specs.List.{flat_map}
use Rattle.std.proofs.lemmas.List.Elements.{All-head, All-tail}
use Rattle.stream_spec.specs.Streams.{Front, Whole, BeginsWith, IsStream}
use Rattle.stream_laws.specs.Sets.{IsSet}

pub begins_with : (front rest : List ℕ) → BeginsWith front (front ++ rest)
begins_with [] rest = refl
begins_with (x ∷ front) rest = ap (λ (z : List ℕ). x ∷ z) (begins_with front rest)

after_front : (front rest : List ℕ) → drop (length front) (front ++ rest) ≡ rest
after_front [] rest = refl
after_front (x ∷ front) rest = after_front front rest

same_whole : {F X : Type 0} (shown : Front F X) (f g : F) (n m : ℕ) → shown ≡ Whole f n → shown ≡ Whole g m → f ≡ g
same_whole shown f g n m e h = cc

abbrev NoMore : {F : Type 0} (IsFrame : F → Type 0) (spell : F → List ℕ) (rest : List ℕ) → Type 0
NoMore {F = F} IsFrame spell rest = (frame : F) → IsFrame frame → BeginsWith (spell frame) rest → ⊥

-- a frame begins bytes of which no frame stands at the front
never : {F : Type 0} (IsFrame : F → Type 0) (spell : F → List ℕ) (frame : F) (rest more : List ℕ) → IsFrame frame → NoMore IsFrame spell rest → rest ≡ spell frame ++ more → ⊥
never IsFrame spell frame rest more valid none is = none frame valid (subst (λ (z : List ℕ). BeginsWith (spell frame) z) (sym is) (begins_with (spell frame) more))

first_same : {F X : Type 0} (IsFrame : F → Type 0) (spell : F → List ℕ) (front : List ℕ → Front F X) (set : IsSet IsFrame spell front) (f g : F) (a b : List ℕ) →
    IsFrame f → IsFrame g → spell f ++ a ≡ spell g ++ b → f ≡ g
first_same IsFrame spell front set f g a b valid_f valid_g is =
    same_whole (front (spell f ++ a)) f g (length (spell f)) (length (spell g))
    (set.found (spell f ++ a) f valid_f (begins_with (spell f) a)) (ap front is ∙ set.found (spell g ++ b) g valid_g (begins_with (spell g) b))

rest_same : (front a b : List ℕ) → front ++ a ≡ front ++ b → a ≡ b
rest_same front a b is = sym (after_front front a) ∙ ap (drop (length front)) is ∙ after_front front b

one_reading : {F X : Type 0} (IsFrame : F → Type 0) (spell : F → List ℕ) (front : List ℕ → Front F X) (set : IsSet IsFrame spell front) (fs gs : List F) (r s : List ℕ) →
    All IsFrame fs → All IsFrame gs → NoMore IsFrame spell r → NoMore IsFrame spell s → flat_map spell fs ++ r ≡ flat_map spell gs ++ s → (fs ≡ gs) × (r ≡ s)
one_reading IsFrame spell front set [] [] r s valid_f valid_g none_r none_s is = (refl, is)
one_reading IsFrame spell front set [] (g ∷ gs) r s valid_f valid_g none_r none_s is =
    absurd (never IsFrame spell g r (flat_map spell gs ++ s) (All-head IsFrame g gs valid_g) none_r (is ∙ append_assoc (spell g) (flat_map spell gs) s))
one_reading IsFrame spell front set (f ∷ fs) [] r s valid_f valid_g none_r none_s is =
    absurd (never IsFrame spell f s (flat_map spell fs ++ r) (All-head IsFrame f fs valid_f) none_s (sym is ∙ append_assoc (spell f) (flat_map spell fs) r))
one_reading IsFrame spell front set (f ∷ fs) (g ∷ gs) r s valid_f valid_g none_r none_s is =
    let parts : spell f ++ (flat_map spell fs ++ r) ≡ spell g ++ (flat_map spell gs ++ s) =
    sym (append_assoc (spell f) (flat_map spell fs) r) ∙ is ∙ append_assoc (spell g) (flat_map spell gs) s in
    let same : f ≡ g = first_same IsFrame spell front set f g (flat_map spell fs ++ r) (flat_map spell gs ++ s) (All-head IsFrame f fs valid_f) (All-head IsFrame g gs valid_g) parts in
    let rests : flat_map spell fs ++ r ≡ flat_map spell gs ++ s =
    rest_same (spell f) (flat_map spell fs ++ r) (flat_map spell gs ++ s) (parts ∙ ap (λ h. spell h ++ (flat_map spell gs ++ s)) (sym same)) in
    let others = one_reading IsFrame spell front set fs gs r s (All-tail IsFrame f fs valid_f) (All-tail IsFrame g gs valid_g) none_r none_s rests in
    (ap (λ h. h ∷ fs) same ∙ ap (λ hs. g ∷ hs) others.0, others.1)

pub unique : {F X : Type 0} (IsFrame : F → Type 0) (spell : F → List ℕ) (front : List ℕ → Front F X) (set : IsSet IsFrame spell front) (bytes : List ℕ) (fs gs : List F) (r s : List ℕ) →
    IsStream IsFrame spell bytes fs r → IsStream IsFrame spell bytes gs s → (fs ≡ gs) × (r ≡ s)
unique IsFrame spell front set bytes fs gs r s one other =
    one_reading IsFrame spell front set fs gs r s one.valid other.valid one.no_more other.no_more (sym one.spelled ∙ other.spelled)
