-- A field of a message's contents: where it stands, what its bytes say, and how it is spelled.
use Rattle.std.specs.Prelude.{◌≡◌, ℕ, zero, suc, ◌+◌, ◌-◌, ◌^◌, ◌<◌, ◌≤◌, List, [], ◌∷◌, length, take, drop, slice_index, replicate}
use Rattle.std.specs.Int.{w16, w32, from_be_bytes, to_be_bytes}
use Rattle.frame_spec.specs.declared.TheConstants.{CONTENTS_BYTES}
use Rattle.frame_spec.specs.Widths.{with_bytes_at}
use Rattle.message_spec.specs.declared.TheConstants.{FIRST_CONTENTS_BYTE, MAX_WINDOW}

-- what a field holds
pub data Value : Type 0 where
  Number : ℕ → Value
  Bytes : List ℕ → Value

abbrev pub number_in : Value → ℕ
number_in (Number n) = n
number_in (Bytes bytes) = 0

abbrev pub bytes_in : Value → List ℕ
bytes_in (Number n) = []
bytes_in (Bytes bytes) = bytes

-- The form of a field. A number has its highest byte first.
pub data Form : Type 0 where
  -- a number of one byte
  OneByte : Form
  -- a number of two bytes
  TwoBytes : Form
  -- a number of four bytes
  FourBytes : Form
  -- a window of 1 to 256 sections: one byte, which is one less
  WindowByte : Form
  -- so many bytes, as they are
  ByteRow : ℕ → Form

-- so many bytes does a field of this form have
abbrev pub width : Form → ℕ
width OneByte = 1
width TwoBytes = 2
width FourBytes = 4
width WindowByte = 1
width (ByteRow n) = n

-- A field of the contents, which are bytes 9 to 40 of a message: the number of its first byte, and
-- its form.
pub record Field : Type 0 where
  pub first : ℕ
  pub form : Form

abbrev pub field : ℕ → Form → Field
field first form = record { first = first; form = form }

-- where a field begins in the contents
abbrev pub place : Field → ℕ
place f = f.first - FIRST_CONTENTS_BYTE

-- what the contents say at a place, in a form
abbrev pub value_at : Form → ℕ → List ℕ → Value
value_at OneByte at contents = Number (slice_index contents at)
value_at TwoBytes at contents = Number (from_be_bytes w16 (take 2 (drop at contents)))
value_at FourBytes at contents = Number (from_be_bytes w32 (take 4 (drop at contents)))
value_at WindowByte at contents = Number (slice_index contents at + 1)
value_at (ByteRow n) at contents = Bytes (take n (drop at contents))

-- what the contents say in some fields
abbrev pub values_at : List Field → List ℕ → List Value
values_at [] contents = []
values_at (f ∷ fields) contents = value_at f.form (place f) contents ∷ values_at fields contents

-- the bytes of a value in a form
abbrev pub value_bytes : Form → Value → List ℕ
value_bytes OneByte v = number_in v ∷ []
value_bytes TwoBytes v = to_be_bytes w16 (number_in v)
value_bytes FourBytes v = to_be_bytes w32 (number_in v)
value_bytes WindowByte v = (number_in v - 1) ∷ []
value_bytes (ByteRow n) v = bytes_in v

-- some bytes in the place of those that stood there
unfoldable pub put : ℕ → List ℕ → List ℕ → List ℕ
put at bytes contents = with_bytes_at at bytes contents

-- the values written into their fields, one after the other
abbrev pub put_values : List Field → List Value → List ℕ → List ℕ
put_values [] values contents = contents
put_values (f ∷ fields) [] contents = contents
put_values (f ∷ fields) (v ∷ values) contents =
    put_values fields values (put (place f) (value_bytes f.form v) contents)

-- contents of padding alone
unfoldable pub padding : List ℕ
padding = replicate CONTENTS_BYTES 0

-- each is a byte
abbrev pub AreBytes : List ℕ → Type 0
AreBytes bytes = (i : ℕ) → slice_index bytes i < 256

-- the value fits the form
abbrev pub Fits : Form → Value → Type 0
Fits OneByte (Number n) = n < 256
Fits TwoBytes (Number n) = n < 2 ^ 16
Fits FourBytes (Number n) = n < 2 ^ 32
Fits WindowByte (Number n) = (1 ≤ n) × (n ≤ MAX_WINDOW)
Fits (ByteRow k) (Bytes bytes) = (length bytes ≡ k) × AreBytes bytes
Fits _ _ = ⊥

-- each field has its value, which fits it
abbrev pub AllFit : List Field → List Value → Type 0
AllFit [] [] = Unit {0}
AllFit (f ∷ fields) (v ∷ values) = Fits f.form v × AllFit fields values
AllFit _ _ = ⊥

-- the value at a place among some values
abbrev pub nth_value : ℕ → List Value → Value
nth_value n [] = Bytes []
nth_value zero (v ∷ values) = v
nth_value (suc n) (v ∷ values) = nth_value n values

abbrev pub nth_number : ℕ → List Value → ℕ
nth_number n values = number_in (nth_value n values)

abbrev pub nth_bytes : ℕ → List Value → List ℕ
nth_bytes n values = bytes_in (nth_value n values)
