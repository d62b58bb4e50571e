-- Each fault is answered exactly where its condition holds.
use Rattle.std.proofs.Common.{◌≡◌, ◌≢◌, ℕ, ◌≤◌, ◌<◌, ◌↔◌, Bool, true, false, cond, not, ◌&&◌, List, length, get_or, eqb, leb, Option, Some, None, Ok, Err, refl, ap, sym, ◌∙◌, arith, inl, inr}
use Rattle.std.proofs.lemmas.Bool.{and_parts, and_left, and_right, and_from, leb-true, le-leb, lt-leb, ltb-true, ltb-false, lt-ltb, le-ltb, eqb-true, eqb-false, eq-eqb, ne_eqb, not-true, not-false, not_from_true, not_from_false, cond-true, cond-false, false_from_ne_true, both_ways, cases_lt}
use Rattle.std.proofs.lemmas.Slice.Eq.{bytes_eq-Decides}
use Rattle.std.specs.Result.{result_ok}
use Rattle.std.specs.Str.{bytes_eq}
use Rattle.frame_spec.specs.declared.FrameFault.{FrameFault}
use Rattle.frame_spec.specs.declared.FrameFault.TheVariants.{Device, Short, Trailer, Check}
use Rattle.frame_spec.specs.declared.TheConstants.{BASELINE_TRAILER}
use Rattle.frame_spec.specs.Baseline.{trailer_at, given_check, computed_check, frame_of, fault_of, answer_of, decoded, frame_unless, packet_frame}
use Rattle.frame_laws.specs.Faults.{IsDeviceFault, IsShortFault, IsTrailerFault, IsCheckFault}
use Rattle.frame_laws.proofs.Sound.{device_of}

-- ---- the order of the four tests

abbrev chosen : Bool → Bool → Bool → Bool → ℕ → ℕ → List ℕ → ℕ → ℕ → Option FrameFault
chosen a b c d byte have trailer given computed =
    cond a (Some (Device byte)) (cond b (Some (Short have)) (cond c (Some (Trailer trailer)) (cond d (Some (Check given computed)) None)))

device_chosen : (a b c d : Bool) (byte have : ℕ) (trailer : List ℕ) (given computed : ℕ) (x : ℕ) → chosen a b c d byte have trailer given computed ≡ Some (Device x) → (a ≡ true) × (byte ≡ x)
device_chosen true b c d byte have trailer given computed x e = (refl, cc)
device_chosen false true c d byte have trailer given computed x e = cc
device_chosen false false true d byte have trailer given computed x e = cc
device_chosen false false false true byte have trailer given computed x e = cc
device_chosen false false false false byte have trailer given computed x e = cc

short_chosen : (a b c d : Bool) (byte have : ℕ) (trailer : List ℕ) (given computed : ℕ) (x : ℕ) → chosen a b c d byte have trailer given computed ≡ Some (Short x) → (a ≡ false) × (b ≡ true) × (have ≡ x)
short_chosen true b c d byte have trailer given computed x e = cc
short_chosen false true c d byte have trailer given computed x e = (refl, refl, cc)
short_chosen false false true d byte have trailer given computed x e = cc
short_chosen false false false true byte have trailer given computed x e = cc
short_chosen false false false false byte have trailer given computed x e = cc

trailer_chosen : (a b c d : Bool) (byte have : ℕ) (trailer : List ℕ) (given computed : ℕ) (x : List ℕ) → chosen a b c d byte have trailer given computed ≡ Some (Trailer x) → (a ≡ false) × (b ≡ false) × (c ≡ true) × (trailer ≡ x)
trailer_chosen true b c d byte have trailer given computed x e = cc
trailer_chosen false true c d byte have trailer given computed x e = cc
trailer_chosen false false true d byte have trailer given computed x e = (refl, refl, refl, cc)
trailer_chosen false false false true byte have trailer given computed x e = cc
trailer_chosen false false false false byte have trailer given computed x e = cc

check_chosen : (a b c d : Bool) (byte have : ℕ) (trailer : List ℕ) (given computed : ℕ) (x y : ℕ) → chosen a b c d byte have trailer given computed ≡ Some (Check x y) → (a ≡ false) × (b ≡ false) × (c ≡ false) × (d ≡ true) × (given ≡ x) × (computed ≡ y)
check_chosen true b c d byte have trailer given computed x y e = cc
check_chosen false true c d byte have trailer given computed x y e = cc
check_chosen false false true d byte have trailer given computed x y e = cc
check_chosen false false false true byte have trailer given computed x y e = (refl, refl, refl, refl, cc, cc)
check_chosen false false false false byte have trailer given computed x y e = cc

-- ---- what each test says

device_right : (bytes : List ℕ) → (leb 4 (length bytes) && not (eqb (get_or bytes 3 0) 10)) ≡ false → 4 ≤ length bytes → get_or bytes 3 0 ≡ 10
device_right bytes known there = eqb-true (get_or bytes 3 0) 10 (device_of _ _ (le-leb 4 (length bytes) there) known)

device_wrong : (bytes : List ℕ) → (4 ≤ length bytes → get_or bytes 3 0 ≡ 10) → (leb 4 (length bytes) && not (eqb (get_or bytes 3 0) 10)) ≡ false
device_wrong bytes known =
    elim (cases_lt (length bytes) 4) [
      | inl short ↦ and_left _ _ (lt-leb 4 (length bytes) short)
      | inr there ↦ and_right _ _ (not_from_true _ (eq-eqb (get_or bytes 3 0) 10 (known there)))
    ]

trailer_right : (bytes : List ℕ) → not (bytes_eq (trailer_at bytes) BASELINE_TRAILER) ≡ false → trailer_at bytes ≡ BASELINE_TRAILER
trailer_right bytes known = (bytes_eq-Decides (trailer_at bytes) BASELINE_TRAILER).0 (not-false _ known)

trailer_wrong : (bytes : List ℕ) → trailer_at bytes ≢ BASELINE_TRAILER → not (bytes_eq (trailer_at bytes) BASELINE_TRAILER) ≡ true
trailer_wrong bytes known = not_from_false _ (false_from_ne_true _ (λ e. known ((bytes_eq-Decides (trailer_at bytes) BASELINE_TRAILER).0 e)))

-- ---- the faults

device_fault : (bytes : List ℕ) (byte : ℕ) → fault_of bytes ≡ Some (Device byte) → IsDeviceFault bytes byte
unfolding fault_of
device_fault bytes byte e =
    let found = device_chosen _ _ _ _ _ _ _ _ _ byte e in
    let parts = and_parts (leb 4 (length bytes)) (not (eqb (get_or bytes 3 0) 10)) found.0 in
    record {
      there = leb-true 4 (length bytes) parts.0;
      value = found.1;
      wrong = λ same. eqb-false (get_or bytes 3 0) 10 (not-true _ parts.1) (found.1 ∙ same);
    }

fault_from_device : (bytes : List ℕ) (byte : ℕ) → IsDeviceFault bytes byte → fault_of bytes ≡ Some (Device byte)
unfolding fault_of
fault_from_device bytes byte fault =
    cond-true _ _ _ (and_from _ _ (le-leb 4 (length bytes) fault.there) (not_from_false _ (ne_eqb (get_or bytes 3 0) 10 (λ same. fault.wrong (sym fault.value ∙ same)))))
    ∙ ap (λ (x : ℕ). Some (Device x)) fault.value

short_fault : (bytes : List ℕ) (have : ℕ) → fault_of bytes ≡ Some (Short have) → IsShortFault bytes have
unfolding fault_of
short_fault bytes have e =
    let found = short_chosen _ _ _ _ _ _ _ _ _ have e in
    let less : length bytes < 48 = ltb-true (length bytes) 48 found.1 in
    record { device = device_right bytes found.0; value = found.2; wrong = omega (arith, found.2) }

fault_from_short : (bytes : List ℕ) (have : ℕ) → IsShortFault bytes have → fault_of bytes ≡ Some (Short have)
unfolding fault_of
fault_from_short bytes have fault =
    cond-false _ _ _ (device_wrong bytes fault.device)
    ∙ cond-true _ _ _ (lt-ltb (length bytes) 48 (omega (arith, fault.value, fault.wrong)))
    ∙ ap (λ (x : ℕ). Some (Short x)) fault.value

trailer_fault : (bytes trailer : List ℕ) → fault_of bytes ≡ Some (Trailer trailer) → IsTrailerFault bytes trailer
unfolding fault_of
trailer_fault bytes trailer e =
    let found = trailer_chosen _ _ _ _ _ _ _ _ _ trailer e in
    let whole : 48 ≤ length bytes = ltb-false (length bytes) 48 found.1 in
    record {
      device = device_right bytes found.0 (omega arith);
      whole = whole;
      value = found.3;
      wrong = λ same. both_ways _ (not-true _ found.2) ((bytes_eq-Decides (trailer_at bytes) BASELINE_TRAILER).1 (found.3 ∙ same));
    }

fault_from_trailer : (bytes trailer : List ℕ) → IsTrailerFault bytes trailer → fault_of bytes ≡ Some (Trailer trailer)
unfolding fault_of
fault_from_trailer bytes trailer fault =
    cond-false _ _ _ (device_wrong bytes (λ there. fault.device))
    ∙ cond-false _ _ _ (le-ltb (length bytes) 48 fault.whole)
    ∙ cond-true _ _ _ (trailer_wrong bytes (λ same. fault.wrong (sym fault.value ∙ same)))
    ∙ ap (λ (x : List ℕ). Some (Trailer x)) fault.value

check_fault : (bytes : List ℕ) (given computed : ℕ) → fault_of bytes ≡ Some (Check given computed) → IsCheckFault bytes given computed
unfolding fault_of
check_fault bytes given computed e =
    let found = check_chosen _ _ _ _ _ _ _ _ _ given computed e in
    let whole : 48 ≤ length bytes = ltb-false (length bytes) 48 found.1 in
    record {
      device = device_right bytes found.0 (omega arith);
      whole = whole;
      trailer = trailer_right bytes found.2;
      given_value = found.4;
      computed_value = found.5;
      wrong = λ same. eqb-false (given_check bytes) (computed_check bytes) (not-true _ found.3) (found.4 ∙ same ∙ sym found.5);
    }

fault_from_check : (bytes : List ℕ) (given computed : ℕ) → IsCheckFault bytes given computed → fault_of bytes ≡ Some (Check given computed)
unfolding fault_of
fault_from_check bytes given computed fault =
    cond-false _ _ _ (device_wrong bytes (λ there. fault.device))
    ∙ cond-false _ _ _ (le-ltb (length bytes) 48 fault.whole)
    ∙ cond-false _ _ _ (not_from_true _ ((bytes_eq-Decides (trailer_at bytes) BASELINE_TRAILER).1 fault.trailer))
    ∙ cond-true _ _ _ (not_from_false _ (ne_eqb (given_check bytes) (computed_check bytes) (λ same. fault.wrong (sym fault.given_value ∙ same ∙ fault.computed_value))))
    ∙ ap (λ (x : ℕ). Some (Check x (computed_check bytes))) fault.given_value
    ∙ ap (λ (x : ℕ). Some (Check given x)) fault.computed_value

-- ---- what decoding answers

answer_of-err : (found : Option FrameFault) (bytes : List ℕ) (fault : FrameFault) → answer_of found bytes ≡ Err fault → found ≡ Some fault
unfolding answer_of
answer_of-err None bytes fault e = cc
answer_of-err (Some other) bytes fault e = cc

fault-from_decoded : (bytes : List ℕ) (fault : FrameFault) → decoded bytes ≡ Err fault → fault_of bytes ≡ Some fault
unfolding decoded
fault-from_decoded bytes fault e = answer_of-err (fault_of bytes) bytes fault e

pub decoded-from_fault : (bytes : List ℕ) (fault : FrameFault) → fault_of bytes ≡ Some fault → decoded bytes ≡ Err fault
unfolding decoded answer_of
decoded-from_fault bytes fault e = ap (λ (o : Option FrameFault). answer_of o bytes) e

pub decoded-from_none : (bytes : List ℕ) → fault_of bytes ≡ None → decoded bytes ≡ Ok (frame_of bytes)
unfolding decoded answer_of
decoded-from_none bytes e = ap (λ (o : Option FrameFault). answer_of o bytes) e

-- A packet of a frame's length is read as its front is.
packet_frame-answer : (found : Option FrameFault) (bytes : List ℕ) → length bytes ≡ 48 → frame_unless found bytes ≡ result_ok (answer_of found bytes)
unfolding frame_unless answer_of
packet_frame-answer None bytes whole = cond-true _ _ _ (eq-eqb (length bytes) 48 whole)
packet_frame-answer (Some fault) bytes whole = refl

pub packet_frame-whole : (bytes : List ℕ) → length bytes ≡ 48 → packet_frame bytes ≡ result_ok (decoded bytes)
unfolding packet_frame decoded
packet_frame-whole bytes whole = packet_frame-answer (fault_of bytes) bytes whole

packet_frame-none : (found : Option FrameFault) (bytes : List ℕ) → length bytes ≢ 48 → frame_unless found bytes ≡ None
unfolding frame_unless
packet_frame-none None bytes other = cond-false _ _ _ (ne_eqb (length bytes) 48 other)
packet_frame-none (Some fault) bytes other = refl

pub packet_frame-other : (bytes : List ℕ) → length bytes ≢ 48 → packet_frame bytes ≡ None
unfolding packet_frame
packet_frame-other bytes other = packet_frame-none (fault_of bytes) bytes other

pub decoded-device : (bytes : List ℕ) (byte : ℕ) → (decoded bytes ≡ Err (Device byte)) ↔ IsDeviceFault bytes byte
decoded-device bytes byte = (λ e. device_fault bytes byte (fault-from_decoded bytes _ e), λ fault. decoded-from_fault bytes _ (fault_from_device bytes byte fault))

pub decoded-short : (bytes : List ℕ) (have : ℕ) → (decoded bytes ≡ Err (Short have)) ↔ IsShortFault bytes have
decoded-short bytes have = (λ e. short_fault bytes have (fault-from_decoded bytes _ e), λ fault. decoded-from_fault bytes _ (fault_from_short bytes have fault))

pub decoded-trailer : (bytes trailer : List ℕ) → (decoded bytes ≡ Err (Trailer trailer)) ↔ IsTrailerFault bytes trailer
decoded-trailer bytes trailer = (λ e. trailer_fault bytes trailer (fault-from_decoded bytes _ e), λ fault. decoded-from_fault bytes _ (fault_from_trailer bytes trailer fault))

pub decoded-check : (bytes : List ℕ) (given computed : ℕ) → (decoded bytes ≡ Err (Check given computed)) ↔ IsCheckFault bytes given computed
decoded-check bytes given computed = (λ e. check_fault bytes given computed (fault-from_decoded bytes _ e), λ fault. decoded-from_fault bytes _ (fault_from_check bytes given computed fault))
