-- Reading and spelling of extended frames undo each other.
use Rattle.std.proofs.Common.{◌≡◌, ℕ, ◌+◌, ◌≤◌, ◌<◌, ◌^◌, Bool, true, false, ◌&&◌, List, [], ◌∷◌, ◌++◌, length, take, drop, get_or, None, refl, ap, sym, ◌∙◌, subst, arith}
use Rattle.std.proofs.Math.Seq.{take-add}
use Rattle.std.proofs.lemmas.List.{append_assoc, take_at, drop_at, length-append, length-take, length-drop, take-append-drop, drop-drop}
use Rattle.std.proofs.lemmas.Bool.{le-leb, eq-eqb, eqb-true}
use Rattle.std.proofs.lemmas.Nat.{be_bytes_2, be_bytes_4, from_be_bytes-to_be_bytes_2, from_be_bytes-to_be_bytes_4}
use Rattle.std.specs.Int.{to_be_bytes, from_be_bytes, w16, w32}
use Rattle.frame_spec.specs.Checksum.{crc}
use Rattle.frame_spec.specs.Baseline.{IsBytes, number_at}
use Rattle.frame_laws.proofs.Lengths.{crc-lt}
use Rattle.frame_laws.proofs.Places.{pair_at}
use Rattle.stream_laws.proofs.Courses.{IsBytes-take, IsBytes-drop}
use Rattle.extended_spec.specs.Frames.{Long, IsLong, long_checked, long_spelling, length_at, long_of, long_given, long_computed, long_fault_of, long_bytes, is_extended}
use Rattle.extended_laws.proofs.Sound.{IsLongSound, long_fault_of-sound}

pub length-long_checked : (f : Long) → length (long_checked f) ≡ 10 + length f.contents
unfolding long_checked
length-long_checked f = omega arith

pub length-long_spelling : (f : Long) → length (long_spelling f) ≡ 14 + length f.contents
unfolding long_spelling
length-long_spelling f = omega (arith, length-append (long_checked f) (to_be_bytes w32 (crc (long_checked f))), length-long_checked f)

-- what is read of a spelling that other bytes follow
pub record IsReadAs (f : Long) (bytes : List ℕ) : Type 0 where
  pub device : get_or bytes 3 0 ≡ 11
  pub count : length_at bytes ≡ length f.contents
  pub fields : long_of bytes ≡ f
  pub given : long_given bytes ≡ crc (long_checked f)
  pub computed : long_computed bytes ≡ crc (long_checked f)

same_long : (tci kind class instance : ℕ) (contents : List ℕ) (f : Long) → tci ≡ f.tci → kind ≡ f.kind → class ≡ f.entity.class → instance ≡ f.entity.instance → contents ≡ f.contents →
    record { tci = tci; kind = kind; entity = record { class = class; instance = instance }; contents = contents } ≡ f
same_long tci kind class instance contents f e1 e2 e3 e4 e5 =
    let long : ℕ → ℕ → ℕ → ℕ → List ℕ → Long = λ t k c i b. record { tci = t; kind = k; entity = record { class = c; instance = i }; contents = b } in
    ap (λ (t : ℕ). long t kind class instance contents) e1 ∙ ap (λ (k : ℕ). long f.tci k class instance contents) e2
    ∙ ap (λ (c : ℕ). long f.tci f.kind c instance contents) e3 ∙ ap (λ (i : ℕ). long f.tci f.kind f.entity.class i contents) e4
    ∙ ap (λ (b : List ℕ). long f.tci f.kind f.entity.class f.entity.instance b) e5

pub read_as : (f : Long) (rest : List ℕ) → IsLong f → IsReadAs f (long_checked f ++ (to_be_bytes w32 (crc (long_checked f)) ++ rest))
unfolding long_checked long_of long_given long_computed length_at number_at
read_as f rest fits =
    let n : ℕ = from_be_bytes w16 (to_be_bytes w16 (length f.contents)) in
    let check : List ℕ = to_be_bytes w32 (crc (long_checked f)) in
    let bytes : List ℕ = long_checked f ++ (check ++ rest) in
    let count : n ≡ length f.contents = from_be_bytes-to_be_bytes_2 (length f.contents) (omega (arith, fits.contents_few)) in
    let contents : take n (f.contents ++ (check ++ rest)) ≡ f.contents = take_at f.contents (check ++ rest) n (sym count) in
    let after : drop n (f.contents ++ (check ++ rest)) ≡ check ++ rest = drop_at f.contents (check ++ rest) n (sym count) in
    let front : take 4 (check ++ rest) ≡ check = take_at check rest 4 refl in
    record {
      device = refl;
      count = count;
      fields =
          same_long _ _ _ _ _ f (from_be_bytes-to_be_bytes_2 f.tci fits.tci_fits) refl (from_be_bytes-to_be_bytes_2 f.entity.class fits.class_fits)
          (from_be_bytes-to_be_bytes_2 f.entity.instance fits.instance_fits) contents;
      given =
          ap (λ (z : List ℕ). from_be_bytes w32 (take 4 z)) (sym (drop-drop n 10 bytes) ∙ after)
          ∙ ap (λ (z : List ℕ). from_be_bytes w32 z) front ∙ from_be_bytes-to_be_bytes_4 (crc (long_checked f)) (crc-lt (long_checked f));
      computed = ap crc (take-add 10 n bytes ∙ ap (λ (z : List ℕ). take 10 bytes ++ z) contents);
    }

-- bytes that begin with a spelling are the spelling and others
begins_is : (front bytes : List ℕ) → take (length front) bytes ≡ front → bytes ≡ front ++ drop (length front) bytes
begins_is front bytes begins = sym (take-append-drop (length front) bytes) ∙ ap (λ (z : List ℕ). z ++ drop (length front) bytes) begins

both : (a b : Bool) → a ≡ true → b ≡ true → (a && b) ≡ true
both true true first second = refl
both true false first second = cc
both false b first second = cc

pub record IsFound (f : Long) (bytes : List ℕ) : Type 0 where
  pub extended : is_extended bytes ≡ true
  pub none : long_fault_of bytes ≡ None
  pub fields : long_of bytes ≡ f
  pub count : long_bytes bytes ≡ length (long_spelling f)

found_with : (f : Long) (rest : List ℕ) → IsLong f → IsFound f (long_checked f ++ (to_be_bytes w32 (crc (long_checked f)) ++ rest))
unfolding is_extended
found_with f rest fits =
    let check : List ℕ = to_be_bytes w32 (crc (long_checked f)) in
    let bytes : List ℕ = long_checked f ++ (check ++ rest) in
    let read = read_as f rest fits in
    let long : length bytes ≡ 10 + length f.contents + (4 + length rest) =
    omega (arith, length-append (long_checked f) (check ++ rest), length-long_checked f, length-append check rest) in
    let sound : IsLongSound bytes =
    record {
      header = omega (arith, long);
      few = omega (arith, read.count, fits.contents_few);
      whole = omega (arith, long, read.count);
      check = read.given ∙ sym read.computed;
    } in
    record {
      extended = both _ _ (le-leb 4 (length bytes) (omega (arith, long))) (eq-eqb (get_or bytes 3 0) 11 read.device);
      none = long_fault_of-sound bytes sound;
      fields = read.fields;
      count = omega (arith, read.count, length-long_spelling f);
    }

pub found : (f : Long) (bytes : List ℕ) → IsLong f → take (length (long_spelling f)) bytes ≡ long_spelling f → IsFound f bytes
unfolding long_spelling
found f bytes fits begins =
    let rest : List ℕ = drop (length (long_spelling f)) bytes in
    let is : bytes ≡ long_checked f ++ (to_be_bytes w32 (crc (long_checked f)) ++ rest) =
    begins_is (long_spelling f) bytes begins ∙ append_assoc (long_checked f) (to_be_bytes w32 (crc (long_checked f))) rest in
    subst (λ (b : List ℕ). IsFound f b) (sym is) (found_with f rest fits)

-- ---- what is read is spelled

number_bytes : (place : ℕ) (bytes : List ℕ) → IsBytes bytes → place + 2 ≤ length bytes → take 2 (drop place bytes) ≡ to_be_bytes w16 (number_at place bytes)
unfolding number_at
number_bytes place bytes fit there =
    let pair : List ℕ = take 2 (drop place bytes) in
    let whole : length pair ≡ 2 = omega (arith, length-take 2 (drop place bytes), length-drop place bytes) in
    sym (be_bytes_2 pair (from_be_bytes w16 pair) whole (IsBytes-take 2 (drop place bytes) (IsBytes-drop place bytes fit)) refl)

number_fits : (place : ℕ) (bytes : List ℕ) → IsBytes bytes → place + 2 ≤ length bytes → number_at place bytes < 2 ^ 16
unfolding number_at
number_fits place bytes fit there =
    let fits = IsBytes-take 2 (drop place bytes) (IsBytes-drop place bytes fit) in
    let whole : length (take 2 (drop place bytes)) ≡ 2 = omega (arith, length-take 2 (drop place bytes), length-drop place bytes) in
    omega (arith, fits 0, fits 1)

-- ten bytes are five pairs
five_pairs : (bytes : List ℕ) → take 10 bytes ≡ take 2 bytes ++ (take 2 (drop 2 bytes) ++ (take 2 (drop 4 bytes) ++ (take 2 (drop 6 bytes) ++ take 2 (drop 8 bytes))))
five_pairs bytes =
    take-add 2 8 bytes
    ∙ ap (λ (z : List ℕ). take 2 bytes ++ z) (take-add 2 6 (drop 2 bytes)
    ∙ ap (λ (z : List ℕ). take 2 (drop 2 bytes) ++ z) (ap (take 6) (drop-drop 2 2 bytes) ∙ take-add 2 4 (drop 4 bytes)
    ∙ ap (λ (z : List ℕ). take 2 (drop 4 bytes) ++ z) (ap (take 4) (drop-drop 2 4 bytes) ∙ take-add 2 2 (drop 6 bytes)
    ∙ ap (λ (z : List ℕ). take 2 (drop 6 bytes) ++ take 2 z) (drop-drop 2 6 bytes))))

checked_of : (tci kind class instance count : ℕ) (contents : List ℕ) → count ≡ length contents →
    (to_be_bytes w16 tci ++ ((kind ∷ 11 ∷ []) ++ (to_be_bytes w16 class ++ (to_be_bytes w16 instance ++ to_be_bytes w16 count)))) ++ contents
    ≡ long_checked (record { tci = tci; kind = kind; entity = record { class = class; instance = instance }; contents = contents })
unfolding long_checked
checked_of tci kind class instance count contents same =
    ap (λ (n : ℕ). (to_be_bytes w16 tci ++ ((kind ∷ 11 ∷ []) ++ (to_be_bytes w16 class ++ (to_be_bytes w16 instance ++ to_be_bytes w16 n)))) ++ contents) same

checked_front : (bytes : List ℕ) → IsBytes bytes → get_or bytes 3 0 ≡ 11 → 10 + length_at bytes ≤ length bytes → take (10 + length_at bytes) bytes ≡ long_checked (long_of bytes)
unfolding long_of length_at
checked_front bytes fit device whole =
    let n : ℕ = number_at 8 bytes in
    let contents : List ℕ = take n (drop 10 bytes) in
    let long : n ≡ length contents = omega (arith, length-take n (drop 10 bytes), length-drop 10 bytes, whole) in
    let kind : take 2 (drop 2 bytes) ≡ get_or bytes 2 0 ∷ 11 ∷ [] = pair_at 2 bytes (omega (arith, whole)) ∙ ap (λ (d : ℕ). get_or bytes 2 0 ∷ d ∷ []) device in
    let tci : take 2 bytes ≡ to_be_bytes w16 (number_at 0 bytes) = number_bytes 0 bytes fit (omega (arith, whole)) in
    let class : take 2 (drop 4 bytes) ≡ to_be_bytes w16 (number_at 4 bytes) = number_bytes 4 bytes fit (omega (arith, whole)) in
    let instance : take 2 (drop 6 bytes) ≡ to_be_bytes w16 (number_at 6 bytes) = number_bytes 6 bytes fit (omega (arith, whole)) in
    let count : take 2 (drop 8 bytes) ≡ to_be_bytes w16 n = number_bytes 8 bytes fit (omega (arith, whole)) in
    let header : take 10 bytes ≡ to_be_bytes w16 (number_at 0 bytes) ++ ((get_or bytes 2 0 ∷ 11 ∷ []) ++ (to_be_bytes w16 (number_at 4 bytes) ++ (to_be_bytes w16 (number_at 6 bytes) ++ to_be_bytes w16 n))) =
    five_pairs bytes
    ∙ ap (λ (z : List ℕ). z ++ (take 2 (drop 2 bytes) ++ (take 2 (drop 4 bytes) ++ (take 2 (drop 6 bytes) ++ take 2 (drop 8 bytes))))) tci
    ∙ ap (λ (z : List ℕ). to_be_bytes w16 (number_at 0 bytes) ++ (z ++ (take 2 (drop 4 bytes) ++ (take 2 (drop 6 bytes) ++ take 2 (drop 8 bytes))))) kind
    ∙ ap (λ (z : List ℕ). to_be_bytes w16 (number_at 0 bytes) ++ ((get_or bytes 2 0 ∷ 11 ∷ []) ++ (z ++ (take 2 (drop 6 bytes) ++ take 2 (drop 8 bytes))))) class
    ∙ ap (λ (z : List ℕ). to_be_bytes w16 (number_at 0 bytes) ++ ((get_or bytes 2 0 ∷ 11 ∷ []) ++ (to_be_bytes w16 (number_at 4 bytes) ++ (z ++ take 2 (drop 8 bytes))))) instance
    ∙ ap (λ (z : List ℕ). to_be_bytes w16 (number_at 0 bytes) ++ ((get_or bytes 2 0 ∷ 11 ∷ []) ++ (to_be_bytes w16 (number_at 4 bytes) ++ (to_be_bytes w16 (number_at 6 bytes) ++ z)))) count in
    take-add 10 n bytes ∙ ap (λ (z : List ℕ). z ++ contents) header ∙ checked_of (number_at 0 bytes) (get_or bytes 2 0) (number_at 4 bytes) (number_at 6 bytes) n contents long

pub record IsSpelled (bytes : List ℕ) : Type 0 where
  pub valid : IsLong (long_of bytes)
  pub spelled : take (long_bytes bytes) bytes ≡ long_spelling (long_of bytes)
  pub whole : long_bytes bytes ≤ length bytes

device_is : (a b : Bool) → (a && b) ≡ true → b ≡ true
device_is true b both = both
device_is false b both = cc

valid_of : (bytes : List ℕ) → IsBytes bytes → IsLongSound bytes → IsLong (long_of bytes)
unfolding long_of length_at
valid_of bytes fit sound = record {
  tci_fits = number_fits 0 bytes fit (omega (arith, sound.header));
  kind_fits = fit 2;
  class_fits = number_fits 4 bytes fit (omega (arith, sound.header));
  instance_fits = number_fits 6 bytes fit (omega (arith, sound.header));
  contents_few = omega (arith, sound.few, length-take (number_at 8 bytes) (drop 10 bytes));
  contents_fit = IsBytes-take (number_at 8 bytes) (drop 10 bytes) (IsBytes-drop 10 bytes fit);
}

pub spelled : (bytes : List ℕ) → IsBytes bytes → is_extended bytes ≡ true → IsLongSound bytes → IsSpelled bytes
unfolding is_extended long_spelling long_given long_computed
spelled bytes fit extended sound =
    let n : ℕ = length_at bytes in
    let device : get_or bytes 3 0 ≡ 11 = eqb-true (get_or bytes 3 0) 11 (device_is _ _ extended) in
    let front : take (10 + n) bytes ≡ long_checked (long_of bytes) = checked_front bytes fit device (omega (arith, sound.whole)) in
    let four : List ℕ = take 4 (drop (10 + n) bytes) in
    let four_long : length four ≡ 4 = omega (arith, length-take 4 (drop (10 + n) bytes), length-drop (10 + n) bytes, sound.whole) in
    let check : to_be_bytes w32 (crc (take (10 + n) bytes)) ≡ four =
    be_bytes_4 four (crc (take (10 + n) bytes)) four_long (IsBytes-take 4 (drop (10 + n) bytes) (IsBytes-drop (10 + n) bytes fit)) (sym sound.check) in
    record {
      valid = valid_of bytes fit sound;
      spelled =
          take-add (10 + n) 4 bytes ∙ ap (λ (z : List ℕ). z ++ four) front
          ∙ ap (λ (z : List ℕ). long_checked (long_of bytes) ++ z) (sym check ∙ ap (λ (z : List ℕ). to_be_bytes w32 (crc z)) front);
      whole = sound.whole;
    }
