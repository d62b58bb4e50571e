-- What an end reads of a packet: its TCI. No law of frames or messages is needed.
use Rattle.std.proofs.Common.{◌≡◌, ℕ, ◌==◌, ◌&&◌, not, nat_le, Bool, true, false, cond, List, length}
use Rattle.std.proofs.Common.{Option, Some, None, ◌≢◌, refl, sym, ap, ◌∙◌, inl, inr, arith}
use Rattle.std.specs.Prelude.{slice_index}
use Rattle.std.proofs.lemmas.Bool.{ne_eqb, cases_eq, and_from, and_left, and_right}
use Rattle.omci_types.specs.declared.Frame.{Frame}
use Rattle.tci_spec.specs.Tci.{packet_tci}
use Rattle.frame_spec.specs.declared.FrameFault.{FrameFault}
use Rattle.frame_spec.specs.declared.FrameFault.TheVariants.{Device}
use Rattle.frame_spec.specs.Baseline.{number_at, frame_of, fault_of, frame_unless, packet_frame}
use Rattle.extended_spec.specs.Frames.{as_any, fault_in, is_extended, any_fault_of}

tci_of_frame : (bytes : List ℕ) → (frame_of bytes).tci ≡ packet_tci bytes
unfolding frame_of number_at
tci_of_frame bytes = refl

whole_frame : (b : Bool) (bytes : List ℕ) (f : Frame) → cond b (Some (frame_of bytes)) None ≡ Some f
    → f ≡ frame_of bytes
whole_frame true bytes f e = cc
whole_frame false bytes f e = absurd (cc)

unless_frame : (fault : Option FrameFault) (bytes : List ℕ) (f : Frame) → frame_unless fault bytes
    ≡ Some f → f ≡ frame_of bytes
unfolding frame_unless
unless_frame None bytes f e = whole_frame _ bytes f e
unless_frame (Some fault) bytes f e = absurd (cc)

-- the frame of a packet has the packet's TCI
pub tci_read : (bytes : List ℕ) (f : Frame) → packet_frame bytes ≡ Some f → f.tci ≡ packet_tci bytes
unfolding packet_frame
tci_read bytes f e = ap (λ (g : Frame). g.tci) (unless_frame (fault_of bytes) bytes f e)
    ∙ tci_of_frame bytes

no_frame : (fault : Option FrameFault) (bytes : List ℕ) → fault ≢ None → frame_unless fault bytes
    ≡ None
unfolding frame_unless
no_frame None bytes h = absurd (h refl)
no_frame (Some fault) bytes h = refl

-- bytes with a fault are no frame
pub noise_read : (bytes : List ℕ) → fault_of bytes ≢ None → packet_frame bytes ≡ None
unfolding packet_frame
noise_read bytes h = no_frame (fault_of bytes) bytes h

-- ---- noise

some_fault : {fault : FrameFault} → Some fault ≡ None → ⊥
some_fault e = cc

-- where the first test of a baseline frame finds no fault, the device isn't that of the extended set
other_device : (there : Bool) (device : ℕ) (later : Option FrameFault)
    → cond (there && not (device == 10)) (Some (Device device)) later ≡ None
    → (there && (device == 11)) ≡ false
other_device false device later e = and_left false (device == 11) refl
other_device true device later e =
    elim (cases_eq device 11) [
      | inl is ↦
          let wrong : (true && not (device == 10)) ≡ true =
          and_from true (not (device == 10)) refl
          (ap not (ne_eqb device 10 (λ ten. absurd (omega (arith, is, ten))))) in
          absurd (some_fault (sym (ap (λ b. cond b (Some (Device device)) later) wrong) ∙ e))
      | inr other ↦ and_right true (device == 11) (ne_eqb device 11 other)
    ]

not_extended : (bytes : List ℕ) → fault_of bytes ≡ None → is_extended bytes ≡ false
unfolding fault_of is_extended
not_extended bytes e = other_device (nat_le 4 (length bytes)) (slice_index bytes 3) _ e

-- bytes with a fault as a frame of either set have one as a baseline frame
pub no_baseline : (bytes : List ℕ) → any_fault_of bytes ≢ None → fault_of bytes ≢ None
unfolding any_fault_of
no_baseline bytes noise e =
    noise (ap (λ b. fault_in b bytes) (not_extended bytes e) ∙ ap as_any e)
