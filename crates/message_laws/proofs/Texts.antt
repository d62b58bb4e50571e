-- How long texts are.
use Rattle.std.proofs.Common.{◌≡◌, ℕ, zero, suc, ◌+◌, ◌≤◌, List, [], ◌∷◌, ◌++◌, length, codes, decimal, Result, Ok, Err, refl, arith, length-append}
use Rattle.std.specs.Int.{w16, to_be_bytes}
use Rattle.std.proofs.lemmas.Fmt.{length-decimal-le}
use Rattle.hex.specs.Hex.{encode_lower, lower_digits}
use Rattle.hex.proofs.HexLemmas.{length-encode_with}
use Rattle.omci_types.specs.declared.Frame.{Frame}
use Rattle.message_spec.specs.declared.Action.{Action}
use Rattle.message_spec.specs.declared.Action.TheVariants.{Create, Delete, Set, Get, Alarms, AlarmsNext, Upload, UploadNext, Reset, Start, Section, End, Activate, Commit, Reboot}
use Rattle.message_spec.specs.declared.Kind.{Kind}
use Rattle.message_spec.specs.declared.Kind.TheVariants as kinds
use Rattle.message_spec.specs.declared.ContentsFault.{ContentsFault}
use Rattle.message_spec.specs.declared.TheConstants.{MAX_TEXT_BYTES}
use Rattle.message_spec.specs.Types.{row, kind_of}
use Rattle.message_spec.specs.Reading.{IsFrameInRange}
use Rattle.message_spec.specs.Text.{request_name, name_or_number, kind_text, before_cut, cut, hex_or_dash, contents_text, message_text}

short_name : (a : Action) → length (row a).name ≤ 11
short_name Create = omega arith
short_name Delete = omega arith
short_name Set = omega arith
short_name Get = omega arith
short_name Alarms = omega arith
short_name AlarmsNext = omega arith
short_name Upload = omega arith
short_name UploadNext = omega arith
short_name Reset = omega arith
short_name Start = omega arith
short_name Section = omega arith
short_name End = omega arith
short_name Activate = omega arith
short_name Commit = omega arith
short_name Reboot = omega arith

short_request : (a : Action) → length (request_name a) ≤ 11
short_request Create = omega arith
short_request Delete = omega arith
short_request Set = omega arith
short_request Get = omega arith
short_request Alarms = omega arith
short_request AlarmsNext = omega arith
short_request Upload = omega arith
short_request UploadNext = omega arith
short_request Reset = omega arith
short_request Start = omega arith
short_request Section = omega arith
short_request End = omega arith
short_request Activate = omega arith
short_request Commit = omega arith
short_request Reboot = omega arith

short_kind : (byte : ℕ) (kind : Result Kind ContentsFault) → length (name_or_number byte kind) ≤ 13
short_kind byte (Ok (kinds.Request a)) = omega (arith, short_request a)
short_kind byte (Ok kinds.UnansweredSection) = omega arith
short_kind byte (Ok (kinds.Response a)) = omega (arith, short_name a, length-append (row a).name (codes "-r"))
short_kind byte (Ok kinds.Alarm) = omega arith
short_kind byte (Ok kinds.Change) = omega arith
short_kind byte (Err fault) = omega (arith, length-append (codes "type-") (encode_lower (byte ∷ [])), length-encode_with lower_digits (byte ∷ []))

before_cut_length : (byte : ℕ) (rest : List ℕ) → length (before_cut byte rest) ≤ 1 + length rest
before_cut_length zero [] = omega arith
before_cut_length zero (next ∷ rest) = omega arith
before_cut_length (suc byte) rest = omega arith

cut_length : (bytes : List ℕ) → length (cut bytes) ≤ length bytes
unfolding cut
cut_length [] = omega arith
cut_length (byte ∷ bytes) = omega (arith, before_cut_length byte (cut bytes), cut_length bytes)

digits_length : (bytes : List ℕ) → length bytes ≤ 32 → length (hex_or_dash bytes) ≤ 64
digits_length [] within = omega arith
digits_length (byte ∷ bytes) within = omega (arith, within, length-encode_with lower_digits (byte ∷ bytes))

contents_length : (bytes : List ℕ) → length bytes ≤ 32 → length (contents_text bytes) ≤ 64
unfolding contents_text
contents_length bytes within = digits_length (cut bytes) (omega (arith, within, cut_length bytes))

-- the lengths of nine parts together
parts_length : (a b c d e f g h i : List ℕ) → length a ≡ 4 → length b ≡ 4 → length c ≤ 13 → length d ≡ 1 → length e ≤ 5 → length f ≡ 1 → length g ≤ 5 → length h ≡ 1 → length i ≤ 64 →
    length (a ++ b ++ c ++ d ++ e ++ f ++ g ++ h ++ i) ≤ 98
parts_length a b c d e f g h i la lb lc ld le lf lg lh li = simp length-append (omega (arith, la, lb, lc, ld, le, lf, lg, lh, li))

pub text_length : (f : Frame) → IsFrameInRange f → length (message_text f) ≤ MAX_TEXT_BYTES
unfolding message_text kind_text
text_length f fits =
    parts_length (encode_lower (to_be_bytes w16 f.tci)) (codes " 0a ") (name_or_number f.kind (kind_of f.kind)) (codes " ") (decimal f.entity.class) (codes " ") (decimal f.entity.instance) (codes " ") (contents_text f.contents)
    (length-encode_with lower_digits (to_be_bytes w16 f.tci)) refl (short_kind f.kind (kind_of f.kind)) refl
    (length-decimal-le 5 f.entity.class (omega arith) (omega (arith, fits.class)) (omega (arith, fits.class))) refl
    (length-decimal-le 5 f.entity.instance (omega arith) (omega (arith, fits.instance)) (omega (arith, fits.instance))) refl
    (contents_length f.contents (omega (arith, fits.len)))
