-- TCIs: of which lane they are, and where they stand in a packet.
use Rattle.std.proofs.Common.{◌≡◌, ℕ, ◌+◌, ◌<◌, ◌≤◌, ◌^◌, true, false, cond, ap, arith}
use Rattle.std.proofs.lemmas.Nat.{from_be_bytes-to_be_bytes_2}
use Rattle.std.proofs.lemmas.Bool.Decides.{nat_tests}
use Rattle.omci_types.specs.declared.Priority.{Priority}
use Rattle.omci_types.specs.declared.Priority.TheVariants.{Low, High}
use Rattle.omci_types.specs.declared.Frame.{Frame}
use Rattle.frame_spec.specs.declared.TheConstants.{FIRST_HIGH_TCI}
use Rattle.tci_spec.specs.Tci.{IsNumber, is_low, priority_of, tci_of, packet_tci}
use Rattle.frame_spec.specs.Baseline.{checked_bytes, spelling}

low_is : (tci : ℕ) → tci < FIRST_HIGH_TCI → is_low tci ≡ true
low_is tci h = grind (arith, nat_tests)

high_is : (tci : ℕ) → FIRST_HIGH_TCI ≤ tci → is_low tci ≡ false
high_is tci h = grind (arith, nat_tests)

-- a command's TCI is of its lane
pub lane_of_tci : (l : Priority) (n : ℕ) → IsNumber n → priority_of (tci_of l n) ≡ l
lane_of_tci Low n h = ap (λ b. cond b Low High) (low_is n (omega (arith, h.most)))
lane_of_tci High n h = ap (λ b. cond b Low High) (high_is (n + FIRST_HIGH_TCI) (omega (arith)))

-- and is of its number alone
pub same_number : (l : Priority) (m n : ℕ) → tci_of l m ≡ tci_of l n → m ≡ n
same_number Low m n e = e
same_number High m n e = omega arith

pub tci_fits : (l : Priority) (n : ℕ) → IsNumber n → tci_of l n < 2 ^ 16
tci_fits Low n h = omega (arith, h.most)
tci_fits High n h = omega (arith, h.most)

-- a frame's spelling begins with its TCI
pub tci_spelled : (f : Frame) → f.tci < 2 ^ 16 → packet_tci (spelling f) ≡ f.tci
unfolding spelling checked_bytes
tci_spelled f fits = from_be_bytes-to_be_bytes_2 f.tci fits

-- a command's TCI isn't 0, which a notice's is
pub some_tci : (l : Priority) (n : ℕ) → IsNumber n → tci_of l n ≡ 0 → ⊥
some_tci Low n h e = omega (arith, h.some)
some_tci High n h e = omega arith
