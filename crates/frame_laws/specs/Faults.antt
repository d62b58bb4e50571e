-- When bytes have each of the four faults of a baseline frame. A fault is answered only where those
-- before it are not there. Places in a list count from 0: byte 1 of the standard is at place 0.
use Rattle.std.specs.Prelude.{◌≡◌, ◌≢◌, ℕ, ◌<◌, ◌≤◌, List, length, slice_index}
use Rattle.frame_spec.specs.declared.TheConstants.{FRAME_BYTES, BASELINE_DEVICE, BASELINE_TRAILER}
use Rattle.frame_spec.specs.Baseline.{trailer_at, given_check, computed_check}

-- byte 4 is there, and isn't the device identifier
pub record IsDeviceFault (bytes : List ℕ) (byte : ℕ) : Type 0 where
  pub there : 4 ≤ length bytes
  pub value : slice_index bytes 3 ≡ byte
  pub wrong : byte ≢ BASELINE_DEVICE

-- fewer than 48 bytes are there
pub record IsShortFault (bytes : List ℕ) (have : ℕ) : Type 0 where
  pub device : 4 ≤ length bytes → slice_index bytes 3 ≡ BASELINE_DEVICE
  pub value : length bytes ≡ have
  pub wrong : have < FRAME_BYTES

-- bytes 41 to 44 aren't the trailer
pub record IsTrailerFault (bytes trailer : List ℕ) : Type 0 where
  pub device : slice_index bytes 3 ≡ BASELINE_DEVICE
  pub whole : FRAME_BYTES ≤ length bytes
  pub value : trailer_at bytes ≡ trailer
  pub wrong : trailer ≢ BASELINE_TRAILER

-- bytes 45 to 48 aren't the check value of bytes 1 to 44
pub record IsCheckFault (bytes : List ℕ) (given computed : ℕ) : Type 0 where
  pub device : slice_index bytes 3 ≡ BASELINE_DEVICE
  pub whole : FRAME_BYTES ≤ length bytes
  pub trailer : trailer_at bytes ≡ BASELINE_TRAILER
  pub given_value : given_check bytes ≡ given
  pub computed_value : computed_check bytes ≡ computed
  pub wrong : given ≢ computed
