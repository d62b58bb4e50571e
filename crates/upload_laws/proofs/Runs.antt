-- Values that stand one after the other: named by their mask, looked up, and overlaid.
use Rattle.std.proofs.Common.{◌≡◌, ℕ, zero, suc, ◌+◌, ◌<◌, ◌≤◌, true, false, cond, List, [], ◌∷◌, ◌++◌, length, take, drop, Option, Some, None, refl, sym, ap, subst, ◌∙◌, append_assoc, arith}
use Rattle.std.specs.Prelude.{◌==◌}
use Rattle.std.proofs.lemmas.Bool.Decides.{nat_tests}
use Rattle.std.proofs.lemmas.List.{take_at, drop_at, append-nil}
use Rattle.class_spec.specs.Classes.{Attribute}
use Rattle.class_spec.specs.Masks.{has}
use Rattle.mib_spec.specs.Database.{Values, bytes_of, value_at}
use Rattle.upload_spec.specs.Pieces.{values_named}
use Rattle.upload_spec.specs.Copies.{overlay, numbered_value, first_some}
use Rattle.upload_laws.specs.Shaped.{IsShaped, IsNumberedFrom}
use Rattle.upload_laws.proofs.Masks.{IsRun}

-- what comes after some values is shaped as the attributes after theirs
pub later_shaped : (attributes : List Attribute) (front back : Values) → IsShaped attributes (front ++ back) → IsShaped (drop (length front) attributes) back
later_shaped attributes [] back h = h
later_shaped [] (v ∷ vs) back h = absurd h
later_shaped (a ∷ later) (v ∷ vs) back h = later_shaped later vs back h.2

pub later_numbered : (attributes : List Attribute) (number count : ℕ) → IsNumberedFrom number attributes → IsNumberedFrom (number + count) (drop count attributes)
later_numbered attributes number zero h = subst (λ n. IsNumberedFrom n attributes) {x = number} {y = number + 0} (omega arith) h
later_numbered [] number (suc count) h = tt
later_numbered (a ∷ later) number (suc count) h = subst (λ n. IsNumberedFrom n (drop count later)) (omega arith) (later_numbered later (number + 1) count h.1)

pub front_numbered : (attributes : List Attribute) (number count : ℕ) → IsNumberedFrom number attributes → IsNumberedFrom number (take count attributes)
front_numbered attributes number zero h = tt
front_numbered [] number (suc count) h = tt
front_numbered (a ∷ later) number (suc count) h = (h.0, front_numbered later (number + 1) count h.1)

pub shaped_length : (attributes : List Attribute) (values : Values) → IsShaped attributes values → length values ≡ length attributes
shaped_length [] [] h = refl
shaped_length [] (v ∷ vs) h = absurd h
shaped_length (a ∷ later) [] h = absurd h
shaped_length (a ∷ later) (v ∷ vs) h = ap suc (shaped_length later vs h.2)

pub shaped_run : (attributes : List Attribute) (number : ℕ) (values : Values) → IsNumberedFrom number attributes → IsShaped attributes values → IsRun number values
shaped_run [] number [] n h = tt
shaped_run [] number (v ∷ vs) n h = absurd h
shaped_run (a ∷ later) number [] n h = absurd h
shaped_run (a ∷ later) number (v ∷ vs) n h = (h.0 ∙ n.0, shaped_run later (number + 1) vs n.1 h.2)

pub run_front : (number : ℕ) (front back : Values) → IsRun number (front ++ back) → IsRun number front
run_front number [] back h = tt
run_front number (v ∷ vs) back h = (h.0, run_front (number + 1) vs back h.1)

pub run_back : (number : ℕ) (front back : Values) → IsRun number (front ++ back) → IsRun (number + length front) back
run_back number [] back h = subst (λ n. IsRun n back) {x = number} {y = number + 0} (omega arith) h
run_back number (v ∷ vs) back h = subst (λ n. IsRun n back) (omega arith) (run_back (number + 1) vs back h.1)

-- attributes that the mask doesn't name are passed over
pub named_skip : (front back : List Attribute) (number mask : ℕ) (bytes : List ℕ) → IsNumberedFrom number front → ((n : ℕ) → number ≤ n → n < number + length front → has mask n ≡ false) → values_named (front ++ back) mask bytes ≡ values_named back mask bytes
named_skip [] back number mask bytes n h = refl
named_skip (a ∷ later) back number mask bytes n h =
    let off : has mask a.number ≡ false = ap (has mask) n.0 ∙ h number (omega arith) (omega arith) in
    ap (λ b. cond b ((a.number, take a.width bytes) ∷ []) [] ++ values_named (later ++ back) mask (cond b (drop a.width bytes) bytes)) off
    ∙ named_skip later back (number + 1) mask bytes n.1 (λ k low high. h k (omega (arith, low)) (omega (arith, high)))

-- those that it names are cut from the bytes, one after the other
pub named_run : (attributes : List Attribute) (number mask : ℕ) (group rest : Values) (zeros : List ℕ) → IsNumberedFrom number attributes → IsShaped attributes (group ++ rest)
    → ((n : ℕ) → number ≤ n → n < number + length group → has mask n ≡ true) → ((n : ℕ) → number + length group ≤ n → n < number + length attributes → has mask n ≡ false)
    → values_named attributes mask (bytes_of group ++ zeros) ≡ group
named_run attributes number mask [] rest zeros n s on off =
    ap (λ (l : List Attribute). values_named l mask zeros) (sym (append-nil attributes)) ∙ named_skip attributes [] number mask zeros n (λ k low high. off k (omega (arith, low)) high)
named_run [] number mask (v ∷ vs) rest zeros n s on off = absurd s
named_run (a ∷ later) number mask (v ∷ vs) rest zeros n s on off =
    let here : has mask a.number ≡ true = ap (has mask) n.0 ∙ on number (omega arith) (omega arith) in
    let bytes : List ℕ = (v.1 ++ bytes_of vs) ++ zeros in
    let split : bytes ≡ v.1 ++ (bytes_of vs ++ zeros) = append_assoc v.1 (bytes_of vs) zeros in
    let head : take a.width bytes ≡ v.1 = ap (take a.width) split ∙ take_at v.1 (bytes_of vs ++ zeros) a.width s.1 in
    let tail : drop a.width bytes ≡ bytes_of vs ++ zeros = ap (drop a.width) split ∙ drop_at v.1 (bytes_of vs ++ zeros) a.width s.1 in
    ap (λ b. cond b ((a.number, take a.width bytes) ∷ []) [] ++ values_named later mask (cond b (drop a.width bytes) bytes)) here
    ∙ ap (λ (x : List ℕ). (a.number, x) ∷ values_named later mask (drop a.width bytes)) head
    ∙ ap (λ (m : ℕ). (m, v.1) ∷ values_named later mask (drop a.width bytes)) (sym s.0)
    ∙ ap (λ (x : List ℕ). v ∷ values_named later mask x) tail
    ∙ ap (λ (vs' : Values). v ∷ vs') (named_run later (number + 1) mask vs rest zeros n.1 s.2 (λ k low high. on k (omega (arith, low)) (omega (arith, high))) (λ k low high. off k (omega (arith, low)) (omega (arith, high))))

-- what a run has under a number outside of it
pub none_below : (number : ℕ) (values : Values) (n : ℕ) → IsRun number values → n < number → value_at n values ≡ None
none_below number [] n h lt = refl
none_below number (v ∷ vs) n h lt =
    let other : (v.0 == n) ≡ false = grind (arith, nat_tests, h.0, lt) in
    ap (λ b. cond b (Some v.1) (value_at n vs)) other ∙ none_below (number + 1) vs n h.1 (omega (arith, lt))

pub none_above : (number : ℕ) (values : Values) (n : ℕ) → IsRun number values → number + length values ≤ n → value_at n values ≡ None
none_above number [] n h le = refl
none_above number (v ∷ vs) n h le =
    let other : (v.0 == n) ≡ false = grind (arith, nat_tests, h.0, le) in
    ap (λ b. cond b (Some v.1) (value_at n vs)) other ∙ none_above (number + 1) vs n h.1 (omega (arith, le))

-- overlaid on what comes before them, they come after it
pub overlay_skip : (attributes : List Attribute) (number : ℕ) (v : ℕ × List ℕ) (old new : Values) → IsNumberedFrom number attributes → v.0 < number → overlay attributes (v ∷ old) new ≡ overlay attributes old new
overlay_skip [] number v old new n lt = refl
overlay_skip (a ∷ later) number v old new n lt =
    let other : (v.0 == a.number) ≡ false = grind (arith, nat_tests, n.0, lt) in
    ap (λ b. numbered_value a.number (first_some (value_at a.number new) (cond b (Some v.1) (value_at a.number old))) ++ overlay later (v ∷ old) new) other
    ∙ ap (λ (vs : Values). numbered_value a.number (first_some (value_at a.number new) (value_at a.number old)) ++ vs) (overlay_skip later (number + 1) v old new n.1 (omega (arith, lt)))

pub overlay_skip_new : (attributes : List Attribute) (number : ℕ) (v : ℕ × List ℕ) (old new : Values) → IsNumberedFrom number attributes → v.0 < number → overlay attributes old (v ∷ new) ≡ overlay attributes old new
overlay_skip_new [] number v old new n lt = refl
overlay_skip_new (a ∷ later) number v old new n lt =
    let other : (v.0 == a.number) ≡ false = grind (arith, nat_tests, n.0, lt) in
    ap (λ b. numbered_value a.number (first_some (cond b (Some v.1) (value_at a.number new)) (value_at a.number old)) ++ overlay later old (v ∷ new)) other
    ∙ ap (λ (vs : Values). numbered_value a.number (first_some (value_at a.number new) (value_at a.number old)) ++ vs) (overlay_skip_new later (number + 1) v old new n.1 (omega (arith, lt)))

pub overlay_none : (attributes : List Attribute) → overlay attributes [] [] ≡ []
overlay_none [] = refl
overlay_none (a ∷ later) = overlay_none later

pub overlay_new : (attributes : List Attribute) (number : ℕ) (group rest : Values) → IsNumberedFrom number attributes → IsShaped attributes (group ++ rest) → overlay attributes [] group ≡ group
overlay_new attributes number [] rest n s = overlay_none attributes
overlay_new [] number (v ∷ vs) rest n s = absurd s
overlay_new (a ∷ later) number (v ∷ vs) rest n s =
    let here : (v.0 == a.number) ≡ true = grind (arith, nat_tests, s.0) in
    ap (λ b. numbered_value a.number (first_some (cond b (Some v.1) (value_at a.number vs)) None) ++ overlay later [] (v ∷ vs)) here
    ∙ ap (λ (m : ℕ). (m, v.1) ∷ overlay later [] (v ∷ vs)) (sym s.0)
    ∙ ap (λ (l : Values). v ∷ l) (overlay_skip_new later (number + 1) v [] vs n.1 (omega (arith, s.0, n.0)) ∙ overlay_new later (number + 1) vs rest n.1 s.2)

pub overlay_after : (attributes : List Attribute) (number : ℕ) (front group rest : Values) → IsNumberedFrom number attributes → IsShaped attributes (front ++ (group ++ rest)) → IsRun (number + length front) group → overlay attributes front group ≡ front ++ group
overlay_after attributes number [] group rest n s r = overlay_new attributes number group rest n s
overlay_after [] number (v ∷ vs) group rest n s r = absurd s
overlay_after (a ∷ later) number (v ∷ vs) group rest n s r =
    let here : (v.0 == a.number) ≡ true = grind (arith, nat_tests, s.0) in
    let off : value_at a.number group ≡ None = none_below (number + length (v ∷ vs)) group a.number r (omega (arith, n.0)) in
    ap (λ (o : Option (List ℕ)). numbered_value a.number (first_some o (cond (v.0 == a.number) (Some v.1) (value_at a.number vs))) ++ overlay later (v ∷ vs) group) off
    ∙ ap (λ b. numbered_value a.number (cond b (Some v.1) (value_at a.number vs)) ++ overlay later (v ∷ vs) group) here
    ∙ ap (λ (m : ℕ). (m, v.1) ∷ overlay later (v ∷ vs) group) (sym s.0)
    ∙ ap (λ (l : Values). v ∷ l) (overlay_skip later (number + 1) v vs group n.1 (omega (arith, s.0, n.0)) ∙ overlay_after later (number + 1) vs group rest n.1 s.2 (subst (λ m. IsRun m group) (omega arith) r))
