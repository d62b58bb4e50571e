-- The fields of a line: the forms that a word may have, and what it then says.
use Rattle.std.specs.Prelude.{◌≢◌, ◌≤◌, ◌<◌, ◌^◌, ℕ, List, [], ◌∷◌, length, Option, Some, None}
use Rattle.std.specs.List.{All}
use Rattle.omci_types.specs.declared.Priority.{Priority}
use Rattle.omci_types.specs.declared.Priority.TheVariants.{Low}
use Rattle.slot_spec.specs.declared.Pick.{Pick}
use Rattle.slot_spec.specs.declared.Pick.TheVariants.{Old, New, Byte}
use Rattle.extended_spec.specs.Frames.{any_fault_of}
use Rattle.script_spec.specs.declared.TheConstants.{MAX_MASK}

-- what a word says
pub data Value : Type 0 where
  Lane : Priority → Value
  Number : ℕ → Value
  Bytes : List ℕ → Value
  Check : Option ℕ → Value
  PickOf : Pick → Value

abbrev pub lane_in : Value → Priority
lane_in (Lane lane) = lane
lane_in _ = Low

abbrev pub number_in : Value → ℕ
number_in (Number n) = n
number_in _ = 0

abbrev pub bytes_in : Value → List ℕ
bytes_in (Bytes bytes) = bytes
bytes_in _ = []

abbrev pub check_in : Value → Option ℕ
check_in (Check check) = check
check_in _ = None

abbrev pub pick_in : Value → Pick
pick_in (PickOf pick) = pick
pick_in _ = Old

-- The form of a word. A number and bytes come with the least and the most that their place allows.
pub data Form : Type 0 where
  -- `low` or `high`
  LaneName : Form
  -- decimal digits of a number
  Decimal : ℕ → ℕ → Form
  -- four hex digits
  MaskDigits : Form
  -- eight hex digits of a check value, or `-`
  CheckDigits : Form
  -- `old`, `new`, or two hex digits
  PickName : Form
  -- two hex digits for each byte
  HexBytes : ℕ → ℕ → Form
  -- the same, of at most so many bytes, which don't decode as a frame of either message set
  NoiseBytes : ℕ → Form

-- each element is a byte
abbrev pub IsBytes : List ℕ → Type 0
IsBytes bytes = All (λ b. b < 256) bytes

-- bytes, and at most so many
pub record AreBytes (most : ℕ) (values : List ℕ) : Type 0 where
  pub few : length values ≤ most
  pub bytes : IsBytes values

-- bytes that have a fault as a frame of either message set
abbrev pub IsNoise : List ℕ → Type 0
IsNoise bytes = any_fault_of bytes ≢ None

-- a check value, where there is one, has 4 bytes
abbrev pub FitsCheck : Option ℕ → Type 0
FitsCheck None = Unit {0}
FitsCheck (Some check) = check < 2 ^ 32

-- what a pick names is a byte, where it names one
abbrev pub FitsPick : Pick → Type 0
FitsPick Old = Unit {0}
FitsPick New = Unit {0}
FitsPick (Byte b) = b < 256

-- the value is one of this form
abbrev pub Fits : Form → Value → Type 0
Fits LaneName (Lane lane) = Unit {0}
Fits (Decimal lowest highest) (Number n) = (lowest ≤ n) × (n ≤ highest)
Fits MaskDigits (Number n) = n ≤ MAX_MASK
Fits CheckDigits (Check check) = FitsCheck check
Fits PickName (PickOf pick) = FitsPick pick
Fits (HexBytes fewest most) (Bytes bytes) = (fewest ≤ length bytes) × AreBytes most bytes
Fits (NoiseBytes most) (Bytes bytes) = IsNoise bytes × AreBytes most bytes
Fits _ _ = ⊥

-- each field has its value, which fits it
abbrev pub AllFit : List Form → List Value → Type 0
AllFit [] [] = Unit {0}
AllFit (form ∷ forms) (value ∷ values) = Fits form value × AllFit forms values
AllFit _ _ = ⊥
