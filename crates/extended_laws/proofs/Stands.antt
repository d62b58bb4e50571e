-- A fault that bytes show stands, whatever bytes follow them; and bytes that show nothing yet are few.
use Rattle.std.proofs.Common.{◌≡◌, ℕ, ◌+◌, ◌≤◌, ◌<◌, ◌⊎◌, inl, inr, Bool, true, false, cond, not, ◌&&◌, ◌==◌, List, ◌++◌, length, take, drop, get_or, Option, Some, None, nat_eq, nat_lt, nat_le, refl, sym, ap, subst, ◌∙◌, arith, length-append}
use Rattle.std.proofs.lemmas.Bool.{ltb-false, ltb-true, le-ltb, leb-true, le-leb, cond-false, cond-true}
use Rattle.std.proofs.lemmas.List.{drop-append-le, take-append-le, length-drop}
use Rattle.std.proofs.Math.ListN.{get_or-append}
use Rattle.std.specs.Int.{from_be_bytes, w16, w32}
use Rattle.frame_spec.specs.declared.FrameFault.{FrameFault}
use Rattle.frame_spec.specs.declared.FrameFault.TheVariants as baseline
use Rattle.frame_spec.specs.Checksum.{crc}
use Rattle.frame_spec.specs.Baseline.{fault_of, number_at, trailer_at, given_check, computed_check}
use Rattle.stream_spec.specs.Streams.{Front, Whole, Open, Faulty}
use Rattle.stream_spec.specs.Baseline.{front_by, front_of}
use Rattle.stream_laws.proofs.Baseline.{fault_stands}
use Rattle.extended_spec.specs.declared.AnyFault.{AnyFault}
use Rattle.extended_spec.specs.declared.AnyFault.TheVariants.{Device, Short, Trailer, Check, Length, NoMemory}
use Rattle.extended_spec.specs.Frames.{Any, length_at, long_given, long_computed, long_fault_of, as_any, is_extended, fault_in, any_fault_of}
use Rattle.extended_spec.specs.Streams.{any_front_by, any_front}
use Rattle.extended_laws.proofs.Sound.{long_no_memory}

-- ---- what a fault or the want of one says of bytes with the extended set's device

-- the tests of a long frame, one after the other
abbrev chosen : (a b c d : Bool) (have given check computed : ℕ) → Option AnyFault
chosen a b c d have given check computed =
    cond a (Some (Short have)) (cond b (Some (Length given)) (cond c (Some (Short have)) (cond d (Some (Check check computed)) None)))

pub record IsLengthFault (a b : Bool) (given found : ℕ) : Type 0 where
  pub header : a ≡ false
  pub many : b ≡ true
  pub same : given ≡ found

length_facts : (a b c d : Bool) (have given check computed found : ℕ) → chosen a b c d have given check computed ≡ Some (Length found) → IsLengthFault a b given found
length_facts true b c d have given check computed found is = cc
length_facts false true c d have given check computed found is = record { header = refl; many = refl; same = cc }
length_facts false false true d have given check computed found is = cc
length_facts false false false true have given check computed found is = cc
length_facts false false false false have given check computed found is = cc

pub record IsCheckFault (a b c d : Bool) (check computed found other : ℕ) : Type 0 where
  pub header : a ≡ false
  pub few : b ≡ false
  pub whole : c ≡ false
  pub wrong : d ≡ true
  pub check_same : check ≡ found
  pub computed_same : computed ≡ other

check_facts : (a b c d : Bool) (have given check computed found other : ℕ) → chosen a b c d have given check computed ≡ Some (Check found other) → IsCheckFault a b c d check computed found other
check_facts true b c d have given check computed found other is = cc
check_facts false true c d have given check computed found other is = cc
check_facts false false true d have given check computed found other is = cc
check_facts false false false true have given check computed found other is = record { header = refl; few = refl; whole = refl; wrong = refl; check_same = cc; computed_same = cc }
check_facts false false false false have given check computed found other is = cc

no_device : (a b c d : Bool) (have given check computed byte : ℕ) → chosen a b c d have given check computed ≡ Some (Device byte) → ⊥
no_device true b c d have given check computed byte is = cc
no_device false true c d have given check computed byte is = cc
no_device false false true d have given check computed byte is = cc
no_device false false false true have given check computed byte is = cc
no_device false false false false have given check computed byte is = cc

no_trailer : (a b c d : Bool) (have given check computed : ℕ) (trailer : List ℕ) → chosen a b c d have given check computed ≡ Some (Trailer trailer) → ⊥
no_trailer true b c d have given check computed trailer is = cc
no_trailer false true c d have given check computed trailer is = cc
no_trailer false false true d have given check computed trailer is = cc
no_trailer false false false true have given check computed trailer is = cc
no_trailer false false false false have given check computed trailer is = cc

short_facts : (a b c d : Bool) (have given check computed found : ℕ) → chosen a b c d have given check computed ≡ Some (Short found) → (a ≡ true) ⊎ ((b ≡ false) × (c ≡ true))
short_facts true b c d have given check computed found is = inl refl
short_facts false true c d have given check computed found is = cc
short_facts false false true d have given check computed found is = inr (refl, refl)
short_facts false false false true have given check computed found is = cc
short_facts false false false false have given check computed found is = cc

-- ---- bytes that follow

within : (count place : ℕ) (bytes more : List ℕ) → place + count ≤ length bytes → take count (drop place (bytes ++ more)) ≡ take count (drop place bytes)
within count place bytes more fits =
    ap (take count) (drop-append-le place bytes more (omega (arith, fits)))
    ∙ take-append-le count (drop place bytes) more (omega (arith, fits, length-drop place bytes))

length_same : (bytes more : List ℕ) → 10 ≤ length bytes → length_at (bytes ++ more) ≡ length_at bytes
unfolding length_at number_at
length_same bytes more there = ap (from_be_bytes w16) (within 2 8 bytes more there)

given_same : (bytes more : List ℕ) → 10 + length_at bytes + 4 ≤ length bytes → long_given (bytes ++ more) ≡ long_given bytes
unfolding long_given
given_same bytes more whole =
    ap (λ (n : ℕ). from_be_bytes w32 (take 4 (drop (10 + n) (bytes ++ more)))) (length_same bytes more (omega (arith, whole)))
    ∙ ap (from_be_bytes w32) (within 4 (10 + length_at bytes) bytes more whole)

computed_same : (bytes more : List ℕ) → 10 + length_at bytes + 4 ≤ length bytes → long_computed (bytes ++ more) ≡ long_computed bytes
unfolding long_computed
computed_same bytes more whole =
    ap (λ (n : ℕ). crc (take (10 + n) (bytes ++ more))) (length_same bytes more (omega (arith, whole)))
    ∙ ap crc (take-append-le (10 + length_at bytes) bytes more (omega (arith, whole)))

not_less : (a b : ℕ) → b ≤ a → nat_lt a b ≡ false
not_less a b h = le-ltb a b h

longer : (bytes more : List ℕ) (n : ℕ) → n ≤ length bytes → n ≤ length (bytes ++ more)
longer bytes more n h = omega (arith, h, length-append bytes more)

long_length_stands : (bytes more : List ℕ) (given : ℕ) → long_fault_of bytes ≡ Some (Length given) → long_fault_of (bytes ++ more) ≡ Some (Length given)
unfolding long_fault_of
long_length_stands bytes more given is =
    let facts = length_facts (nat_lt (length bytes) 10) (nat_lt 1966 (length_at bytes)) (nat_lt (length bytes) (10 + length_at bytes + 4)) (not (nat_eq (long_given bytes) (long_computed bytes)))
    (length bytes) (length_at bytes) (long_given bytes) (long_computed bytes) given is in
    let there : 10 ≤ length bytes = ltb-false (length bytes) 10 facts.header in
    let same = length_same bytes more there in
    cond-false _ _ _ (not_less (length (bytes ++ more)) 10 (longer bytes more 10 there))
    ∙ cond-true _ _ _ (ap (nat_lt 1966) same ∙ facts.many)
    ∙ ap (λ (n : ℕ). Some (Length n)) (same ∙ facts.same)

long_check_stands : (bytes more : List ℕ) (given computed : ℕ) → long_fault_of bytes ≡ Some (Check given computed) → long_fault_of (bytes ++ more) ≡ Some (Check given computed)
unfolding long_fault_of
long_check_stands bytes more given computed is =
    let facts = check_facts (nat_lt (length bytes) 10) (nat_lt 1966 (length_at bytes)) (nat_lt (length bytes) (10 + length_at bytes + 4)) (not (nat_eq (long_given bytes) (long_computed bytes)))
    (length bytes) (length_at bytes) (long_given bytes) (long_computed bytes) given computed is in
    let there : 10 ≤ length bytes = ltb-false (length bytes) 10 facts.header in
    let whole : 10 + length_at bytes + 4 ≤ length bytes = ltb-false (length bytes) (10 + length_at bytes + 4) facts.whole in
    let same = length_same bytes more there in
    let fault : ℕ → ℕ → Option AnyFault = λ x y. Some (Check x y) in
    cond-false _ _ _ (not_less (length (bytes ++ more)) 10 (longer bytes more 10 there))
    ∙ cond-false _ _ _ (ap (nat_lt 1966) same ∙ facts.few)
    ∙ cond-false _ _ _ (ap (λ (n : ℕ). nat_lt (length (bytes ++ more)) (10 + n + 4)) same ∙ not_less (length (bytes ++ more)) (10 + length_at bytes + 4) (longer bytes more (10 + length_at bytes + 4) whole))
    ∙ cond-true _ _ _ (ap (λ (n : ℕ). not (nat_eq n (long_computed (bytes ++ more)))) (given_same bytes more whole) ∙ ap (λ (n : ℕ). not (nat_eq (long_given bytes) n)) (computed_same bytes more whole) ∙ facts.wrong)
    ∙ ap (λ (n : ℕ). fault n (long_computed (bytes ++ more))) (given_same bytes more whole ∙ facts.check_same)
    ∙ ap (fault given) (computed_same bytes more whole ∙ facts.computed_same)

-- ---- the device stays

both_true : (a b : Bool) → a ≡ true → b ≡ true → a ≡ b
both_true a b x y = x ∙ sym y

extended_stays : (bytes more : List ℕ) → 4 ≤ length bytes → is_extended (bytes ++ more) ≡ is_extended bytes
unfolding is_extended
extended_stays bytes more there =
    ap (λ (byte : ℕ). nat_le 4 (length (bytes ++ more)) && (byte == 11)) (get_or-append bytes more 0 3 (omega (arith, there)))
    ∙ ap (λ (b : Bool). b && (get_or bytes 3 0 == 11))
    (both_true (nat_le 4 (length (bytes ++ more))) (nat_le 4 (length bytes)) (le-leb 4 (length (bytes ++ more)) (longer bytes more 4 there)) (le-leb 4 (length bytes) there))

there_by : (a : Bool) (byte : ℕ) → (a && (byte == 11)) ≡ true → a ≡ true
there_by true byte is = refl
there_by false byte is = cc

there_if_extended : (bytes : List ℕ) → is_extended bytes ≡ true → 4 ≤ length bytes
unfolding is_extended
there_if_extended bytes is = leb-true 4 (length bytes) (there_by (nat_le 4 (length bytes)) (get_or bytes 3 0) is)

-- ---- bytes with the extended set's device

faulty_by : (of : Option AnyFault) (bytes : List ℕ) (fault : AnyFault) → any_front_by of bytes ≡ Faulty fault → of ≡ Some fault
faulty_by None bytes fault is = cc
faulty_by (Some (Device byte)) bytes fault is = cc
faulty_by (Some (Short have)) bytes fault is = cc
faulty_by (Some (Trailer trailer)) bytes fault is = cc
faulty_by (Some (Check given computed)) bytes fault is = cc
faulty_by (Some (Length given)) bytes fault is = cc
faulty_by (Some NoMemory) bytes fault is = cc

long_no_device : (bytes : List ℕ) (byte : ℕ) → long_fault_of bytes ≡ Some (Device byte) → ⊥
unfolding long_fault_of
long_no_device bytes byte is =
    no_device (nat_lt (length bytes) 10) (nat_lt 1966 (length_at bytes)) (nat_lt (length bytes) (10 + length_at bytes + 4)) (not (nat_eq (long_given bytes) (long_computed bytes)))
    (length bytes) (length_at bytes) (long_given bytes) (long_computed bytes) byte is

long_no_trailer : (bytes trailer : List ℕ) → long_fault_of bytes ≡ Some (Trailer trailer) → ⊥
unfolding long_fault_of
long_no_trailer bytes trailer is =
    no_trailer (nat_lt (length bytes) 10) (nat_lt 1966 (length_at bytes)) (nat_lt (length bytes) (10 + length_at bytes + 4)) (not (nat_eq (long_given bytes) (long_computed bytes)))
    (length bytes) (length_at bytes) (long_given bytes) (long_computed bytes) trailer is

long_stands : (bytes more : List ℕ) (fault : AnyFault) → long_fault_of bytes ≡ Some fault → any_front_by (Some fault) bytes ≡ Faulty fault → long_fault_of (bytes ++ more) ≡ Some fault
long_stands bytes more (Device byte) is shown = absurd (long_no_device bytes byte is)
long_stands bytes more (Short have) is shown = cc
long_stands bytes more (Trailer trailer) is shown = absurd (long_no_trailer bytes trailer is)
long_stands bytes more (Check given computed) is shown = long_check_stands bytes more given computed is
long_stands bytes more (Length given) is shown = long_length_stands bytes more given is
long_stands bytes more NoMemory is shown = absurd (long_no_memory bytes is)

-- ---- bytes with another device

baseline_by : (of : Option FrameFault) (bytes : List ℕ) (fault : FrameFault) → front_by of bytes ≡ Faulty fault → of ≡ Some fault
baseline_by None bytes fault is = cc
baseline_by (Some (baseline.Device byte)) bytes fault is = cc
baseline_by (Some (baseline.Short have)) bytes fault is = cc
baseline_by (Some (baseline.Trailer trailer)) bytes fault is = cc
baseline_by (Some (baseline.Check given computed)) bytes fault is = cc

baseline_stays : (bytes more : List ℕ) (fault : FrameFault) → fault_of bytes ≡ Some fault → front_by (Some fault) bytes ≡ Faulty fault → fault_of (bytes ++ more) ≡ Some fault
unfolding front_of
baseline_stays bytes more fault is shown =
    baseline_by (fault_of (bytes ++ more)) (bytes ++ more) fault
    (fault_stands bytes more fault (ap (λ (o : Option FrameFault). front_by o bytes) is ∙ shown))

baseline_stands : (of : Option FrameFault) (bytes more : List ℕ) (fault : AnyFault) → fault_of bytes ≡ of → as_any of ≡ Some fault → any_front_by (Some fault) bytes ≡ Faulty fault → as_any (fault_of (bytes ++ more)) ≡ Some fault
baseline_stands None bytes more fault is any shown = cc
baseline_stands (Some (baseline.Device byte)) bytes more fault is any shown = ap as_any (baseline_stays bytes more (baseline.Device byte) is refl) ∙ any
baseline_stands (Some (baseline.Short have)) bytes more fault is any shown = absurd (not_short have bytes fault any shown)
  where
    not_short : (have : ℕ) (bytes : List ℕ) (fault : AnyFault) → ◌≡◌ {A = Option AnyFault} (Some (Short have)) (Some fault) → any_front_by (Some fault) bytes ≡ Faulty fault → ⊥
    not_short have bytes fault same shown = let back : any_front_by (Some (Short have)) bytes ≡ Faulty fault = ap (λ (o : Option AnyFault). any_front_by o bytes) same ∙ shown in cc
baseline_stands (Some (baseline.Trailer trailer)) bytes more fault is any shown = ap as_any (baseline_stays bytes more (baseline.Trailer trailer) is refl) ∙ any
baseline_stands (Some (baseline.Check given computed)) bytes more fault is any shown = ap as_any (baseline_stays bytes more (baseline.Check given computed) is refl) ∙ any

-- the tests of a baseline frame, up to that of the length
first_tests : (a b : Bool) (byte have : ℕ) (rest : Option FrameFault) (fault : AnyFault) (bytes : List ℕ) → as_any (cond a (Some (baseline.Device byte)) (cond b (Some (baseline.Short have)) rest)) ≡ Some fault → any_front_by (Some fault) bytes ≡ Faulty fault → (a ≡ true) ⊎ (b ≡ false)
first_tests true b byte have rest fault bytes is shown = inl refl
first_tests false false byte have rest fault bytes is shown = inr refl
first_tests false true byte have rest fault bytes is shown =
    let back : any_front_by (Some (Short have)) bytes ≡ Faulty fault = ap (λ (o : Option AnyFault). any_front_by o bytes) is ∙ shown in cc

left_by : (a b : Bool) → (a && b) ≡ true → a ≡ true
left_by true b is = refl
left_by false b is = cc

there_either : (bytes : List ℕ) (test : Bool) → ((nat_le 4 (length bytes) && test) ≡ true) ⊎ (nat_lt (length bytes) 48 ≡ false) → 4 ≤ length bytes
there_either bytes test (inl is) = leb-true 4 (length bytes) (left_by (nat_le 4 (length bytes)) test is)
there_either bytes test (inr is) = omega (arith, ltb-false (length bytes) 48 is)

there_if_baseline : (bytes : List ℕ) (fault : AnyFault) → as_any (fault_of bytes) ≡ Some fault → any_front_by (Some fault) bytes ≡ Faulty fault → 4 ≤ length bytes
unfolding fault_of
there_if_baseline bytes fault is shown = there_either bytes (not (get_or bytes 3 0 == 10)) (first_tests _ _ _ _ _ fault bytes is shown)

-- ---- either set

stands_in : (extended : Bool) (bytes more : List ℕ) (fault : AnyFault) → is_extended bytes ≡ extended → fault_in extended bytes ≡ Some fault → any_front_by (Some fault) bytes ≡ Faulty fault →
    (is_extended (bytes ++ more) ≡ extended) × (fault_in extended (bytes ++ more) ≡ Some fault)
stands_in true bytes more fault is faulty shown = (extended_stays bytes more (there_if_extended bytes is) ∙ is, long_stands bytes more fault faulty shown)
stands_in false bytes more fault is faulty shown = (extended_stays bytes more (there_if_baseline bytes fault faulty shown) ∙ is, baseline_stands (fault_of bytes) bytes more fault refl faulty shown)

front_of_fault : (bytes other : List ℕ) (fault : AnyFault) → any_front_by (Some fault) bytes ≡ Faulty fault → any_front_by (Some fault) other ≡ Faulty fault
front_of_fault bytes other (Device byte) shown = refl
front_of_fault bytes other (Short have) shown = cc
front_of_fault bytes other (Trailer trailer) shown = refl
front_of_fault bytes other (Check given computed) shown = refl
front_of_fault bytes other (Length given) shown = refl
front_of_fault bytes other NoMemory shown = refl

pub any_fault_stands : (bytes more : List ℕ) (fault : AnyFault) → any_front bytes ≡ Faulty fault → any_front (bytes ++ more) ≡ Faulty fault
unfolding any_front any_fault_of
any_fault_stands bytes more fault is =
    let first : any_fault_of bytes ≡ Some fault = faulty_by (any_fault_of bytes) bytes fault is in
    let shown : any_front_by (Some fault) bytes ≡ Faulty fault = ap (λ (o : Option AnyFault). any_front_by o bytes) (sym first) ∙ is in
    let facts = stands_in (is_extended bytes) bytes more fault refl first shown in
    ap (λ (b : Bool). any_front_by (fault_in b (bytes ++ more)) (bytes ++ more)) facts.0
    ∙ ap (λ (o : Option AnyFault). any_front_by o (bytes ++ more)) facts.1
    ∙ front_of_fault bytes (bytes ++ more) fault shown

-- ---- bytes that show nothing yet are few

open_by : (of : Option AnyFault) (bytes : List ℕ) → any_front_by of bytes ≡ Open → (have : ℕ) × (of ≡ Some (Short have))
open_by None bytes is = cc
open_by (Some (Device byte)) bytes is = cc
open_by (Some (Short have)) bytes is = (have, refl)
open_by (Some (Trailer trailer)) bytes is = cc
open_by (Some (Check given computed)) bytes is = cc
open_by (Some (Length given)) bytes is = cc
open_by (Some NoMemory) bytes is = cc

few_either : (count given : ℕ) → (nat_lt count 10 ≡ true) ⊎ ((nat_lt 1966 given ≡ false) × (nat_lt count (10 + given + 4) ≡ true)) → count < 1980
few_either count given (inl is) = omega (arith, ltb-true count 10 is)
few_either count given (inr is) = omega (arith, ltb-false 1966 given is.0, ltb-true count (10 + given + 4) is.1)

long_few : (bytes : List ℕ) (have : ℕ) → long_fault_of bytes ≡ Some (Short have) → length bytes < 1980
unfolding long_fault_of
long_few bytes have is =
    few_either (length bytes) (length_at bytes)
    (short_facts (nat_lt (length bytes) 10) (nat_lt 1966 (length_at bytes)) (nat_lt (length bytes) (10 + length_at bytes + 4)) (not (nat_eq (long_given bytes) (long_computed bytes)))
    (length bytes) (length_at bytes) (long_given bytes) (long_computed bytes) have is)

baseline_short : (a b c d : Bool) (byte have check computed found : ℕ) (trailer : List ℕ) → as_any (cond a (Some (baseline.Device byte)) (cond b (Some (baseline.Short have)) (cond c (Some (baseline.Trailer trailer)) (cond d (Some (baseline.Check check computed)) None)))) ≡ Some (Short found) → b ≡ true
baseline_short true b c d byte have check computed found trailer is = cc
baseline_short false true c d byte have check computed found trailer is = refl
baseline_short false false true d byte have check computed found trailer is = cc
baseline_short false false false true byte have check computed found trailer is = cc
baseline_short false false false false byte have check computed found trailer is = cc

baseline_few : (bytes : List ℕ) (have : ℕ) → as_any (fault_of bytes) ≡ Some (Short have) → length bytes < 1980
unfolding fault_of
baseline_few bytes have is = omega (arith, ltb-true (length bytes) 48 (baseline_short _ _ _ _ _ _ _ _ have _ is))

few_in : (extended : Bool) (bytes : List ℕ) (have : ℕ) → fault_in extended bytes ≡ Some (Short have) → length bytes < 1980
few_in true bytes have is = long_few bytes have is
few_in false bytes have is = baseline_few bytes have is

pub open_few : (bytes : List ℕ) → any_front bytes ≡ Open → length bytes < 1980
unfolding any_front any_fault_of
open_few bytes is =
    let short = open_by (any_fault_of bytes) bytes is in
    few_in (is_extended bytes) bytes short.0 short.1
