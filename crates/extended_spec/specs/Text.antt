-- The text of an extended frame, and of a frame of either set.
use Rattle.std.specs.Prelude.{ℕ, List, ◌++◌, codes, decimal}
use Rattle.std.specs.Int.{w16, to_be_bytes}
use Rattle.hex.specs.Hex.{encode_lower}
use Rattle.message_spec.specs.Text.{kind_text, hex_or_dash, message_text}
use Rattle.extended_spec.specs.Frames.{Long, Any, Baseline, Extended}

-- as of a baseline frame, with the device `0b` and all bytes of the contents
unfoldable pub long_text : Long → List ℕ
long_text f =
    encode_lower (to_be_bytes w16 f.tci) ++ codes " 0b "
    ++ kind_text f.kind ++ codes " "
    ++ decimal f.entity.class ++ codes " "
    ++ decimal f.entity.instance ++ codes " "
    ++ hex_or_dash f.contents

abbrev pub any_text : Any → List ℕ
any_text (Baseline frame) = message_text frame
any_text (Extended frame) = long_text frame
