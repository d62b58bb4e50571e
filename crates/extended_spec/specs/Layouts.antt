-- The contents of an extended frame: the fields of the baseline table in their order and without
-- padding, but for those that take the rest of the contents and for lists of pieces and of rows.
use Rattle.std.specs.Prelude.{◌≡◌, ℕ, zero, suc, ◌+◌, ◌-◌, ◌<◌, ◌^◌, Bool, true, false, List, [], ◌∷◌, ◌++◌, length, take, drop, if◌then◌else◌, nat_lt, Option, Some, None, All}
use Rattle.std.specs.List.{flat_map}
use Rattle.std.specs.Int.{w16, to_be_bytes}
use Rattle.omci_types.specs.declared.EntityId.{EntityId}
use Rattle.frame_spec.specs.Baseline.{number_at}
use Rattle.message_spec.specs.declared.Action.{Action}
use Rattle.message_spec.specs.declared.Action.TheVariants.{Create, Set, Get, AlarmsNext, UploadNext, Section}
use Rattle.message_spec.specs.declared.Kind.{Kind}
use Rattle.message_spec.specs.declared.Kind.TheVariants as kinds
use Rattle.message_spec.specs.Fields.{Value, Bytes, bytes_in, Form, OneByte, TwoBytes, width, Field, value_at, value_bytes, AreBytes, Fits}
use Rattle.message_spec.specs.Types.{layout}
use Rattle.extended_spec.specs.declared.TheConstants.{BITMAP_BYTES, ROW_BYTES, PIECE_HEADER_BYTES}

-- a piece of the database: an entity, a mask of attributes, and their values one after the other
pub record Piece : Type 0 where
  pub entity : EntityId
  pub mask : ℕ
  pub values : List ℕ

-- a row of the alarm table: an entity and its bitmap
pub record AlarmRow : Type 0 where
  pub entity : EntityId
  pub bitmap : List ℕ

-- what a field holds
pub data LongValue : Type 0 where
  Plain : Value → LongValue
  PieceList : List Piece → LongValue
  RowList : List AlarmRow → LongValue

-- The form of a field: as in a baseline message, the rest of the contents, or a list to their end.
pub data LongForm : Type 0 where
  Fixed : Form → LongForm
  Rest : LongForm
  Pieces : LongForm
  Rows : LongForm

-- the forms of some fields of the baseline table
abbrev pub forms_of : List Field → List LongForm
forms_of [] = []
forms_of (f ∷ fields) = Fixed f.form ∷ forms_of fields

-- The forms of a kind's contents: those of the baseline table, but for these kinds.
abbrev pub long_layout : Kind → List LongForm
-- values
long_layout (kinds.Request Create) = Rest ∷ []
-- mask, values
long_layout (kinds.Request Set) = Fixed TwoBytes ∷ Rest ∷ []
-- number, bytes
long_layout (kinds.Request Section) = Fixed OneByte ∷ Rest ∷ []
long_layout kinds.UnansweredSection = Fixed OneByte ∷ Rest ∷ []
-- code, mask, unsupported, failed, values
long_layout (kinds.Response Get) = Fixed OneByte ∷ Fixed TwoBytes ∷ Fixed TwoBytes ∷ Fixed TwoBytes
    ∷ Rest ∷ []
-- rows
long_layout (kinds.Response AlarmsNext) = Rows ∷ []
-- pieces
long_layout (kinds.Response UploadNext) = Pieces ∷ []
-- mask, values
long_layout kinds.Change = Fixed TwoBytes ∷ Rest ∷ []
long_layout kind = forms_of (layout kind)

-- ---- pieces and rows

-- a piece's bytes: the width of its values, class, instance, mask and values
unfoldable pub piece_bytes : Piece → List ℕ
piece_bytes p =
    to_be_bytes w16 (length p.values)
    ++ to_be_bytes w16 p.entity.class
    ++ to_be_bytes w16 p.entity.instance
    ++ to_be_bytes w16 p.mask
    ++ p.values

-- a row's bytes: class, instance and bitmap
unfoldable pub row_bytes : AlarmRow → List ℕ
row_bytes r = to_be_bytes w16 r.entity.class ++ to_be_bytes w16 r.entity.instance ++ r.bitmap

-- So many bytes has the piece that the bytes begin with. Where not even its width is there, it
-- counts as one without values.
unfoldable pub piece_size : List ℕ → ℕ
piece_size bytes = if nat_lt (length bytes) 2 then PIECE_HEADER_BYTES else PIECE_HEADER_BYTES
    + number_at 0 bytes

unfoldable pub piece_of : List ℕ → Piece
piece_of bytes = record {
  entity = record { class = number_at 2 bytes; instance = number_at 4 bytes };
  mask = number_at 6 bytes;
  values = take (number_at 0 bytes) (drop PIECE_HEADER_BYTES bytes);
}

abbrev pub row_size : List ℕ → ℕ
row_size bytes = ROW_BYTES

unfoldable pub row_of : List ℕ → AlarmRow
row_of bytes = record {
  entity = record { class = number_at 0 bytes; instance = number_at 2 bytes };
  bitmap = take BITMAP_BYTES (drop 4 bytes);
}

-- What stands one after the other in bytes, each with its own size: what begins after so many bytes
-- that are passed over, and all that follows it.
unfoldable pub each_after : {A : Type 0} → (List ℕ → ℕ) → (List ℕ → A) → ℕ → List ℕ → List A
each_after size one passed [] = []
each_after size one zero (byte ∷ rest) = one (byte ∷ rest)
    ∷ each_after size one (size (byte ∷ rest) - 1) rest
each_after size one (suc passed) (byte ∷ rest) = each_after size one passed rest

abbrev pub pieces_in : List ℕ → List Piece
pieces_in bytes = each_after piece_size piece_of 0 bytes

abbrev pub rows_in : List ℕ → List AlarmRow
rows_in bytes = each_after row_size row_of 0 bytes

-- the number of bytes that would be there if what begins here were whole, where it isn't
abbrev pub cut_or : Bool → ℕ → Option ℕ → Option ℕ
cut_or true need further = Some need
cut_or false need further = further

-- Where the last of what stands one after the other is cut, the bytes that would be there if it
-- were whole. So many bytes stand before these, and so many of these are passed over.
unfoldable pub need_after : (List ℕ → ℕ) → ℕ → ℕ → List ℕ → Option ℕ
need_after size before passed [] = None
need_after size before zero (byte ∷ rest) =
    cut_or (nat_lt (length (byte ∷ rest)) (size (byte ∷ rest))) (before + size (byte ∷ rest))
    (need_after size (before + size (byte ∷ rest)) (size (byte ∷ rest) - 1) rest)
need_after size before (suc passed) (byte ∷ rest) = need_after size before passed rest

-- ---- fields

-- the bytes of the fields of fixed width together
abbrev pub fixed_width : List LongForm → ℕ
fixed_width [] = 0
fixed_width (Fixed form ∷ forms) = width form + fixed_width forms
fixed_width (Rest ∷ forms) = fixed_width forms
fixed_width (Pieces ∷ forms) = fixed_width forms
fixed_width (Rows ∷ forms) = fixed_width forms

-- the bytes that a list at the end would need, where its last member is cut
abbrev pub list_need : List LongForm → ℕ → List ℕ → Option ℕ
list_need [] before bytes = None
list_need (Fixed form ∷ forms) before bytes =
    list_need forms (before + width form) (drop (width form) bytes)
list_need (Rest ∷ forms) before bytes = None
list_need (Pieces ∷ forms) before bytes = need_after piece_size before 0 bytes
list_need (Rows ∷ forms) before bytes = need_after row_size before 0 bytes

-- the bytes that contents would need, where they end before the fields do
unfoldable pub need_of : List LongForm → List ℕ → Option ℕ
need_of forms bytes = cut_or (nat_lt (length bytes) (fixed_width forms)) (fixed_width forms)
    (list_need forms 0 bytes)

-- what the contents say in some fields, one after the other
abbrev pub long_values : List LongForm → List ℕ → List LongValue
long_values [] bytes = []
long_values (Fixed form ∷ forms) bytes = Plain (value_at form 0 bytes)
    ∷ long_values forms (drop (width form) bytes)
long_values (Rest ∷ forms) bytes = Plain (Bytes bytes) ∷ []
long_values (Pieces ∷ forms) bytes = PieceList (pieces_in bytes) ∷ []
long_values (Rows ∷ forms) bytes = RowList (rows_in bytes) ∷ []

-- the bytes of a value in a form
abbrev pub long_value_bytes : LongForm → LongValue → List ℕ
long_value_bytes (Fixed form) (Plain v) = value_bytes form v
long_value_bytes Rest (Plain v) = bytes_in v
long_value_bytes Pieces (PieceList pieces) = flat_map piece_bytes pieces
long_value_bytes Rows (RowList rows) = flat_map row_bytes rows
long_value_bytes _ _ = []

-- the contents with these values, one after the other
abbrev pub long_contents : List LongForm → List LongValue → List ℕ
long_contents [] values = []
long_contents (form ∷ forms) [] = []
long_contents (form ∷ forms) (v ∷ values) = long_value_bytes form v ++ long_contents forms values

-- ---- ranges

pub record IsPiece (p : Piece) : Type 0 where
  pub class : p.entity.class < 2 ^ 16
  pub instance : p.entity.instance < 2 ^ 16
  pub mask : p.mask < 2 ^ 16
  pub width : length p.values < 2 ^ 16
  pub bytes : AreBytes p.values

pub record IsRow (r : AlarmRow) : Type 0 where
  pub class : r.entity.class < 2 ^ 16
  pub instance : r.entity.instance < 2 ^ 16
  pub len : length r.bitmap ≡ BITMAP_BYTES
  pub bytes : AreBytes r.bitmap

-- the value fits the form
abbrev pub LongFits : LongForm → LongValue → Type 0
LongFits (Fixed form) (Plain v) = Fits form v
LongFits Rest (Plain (Bytes bytes)) = AreBytes bytes
LongFits Pieces (PieceList pieces) = All IsPiece pieces
LongFits Rows (RowList rows) = All IsRow rows
LongFits _ _ = ⊥

-- each field has its value, which fits it
abbrev pub AllLongFit : List LongForm → List LongValue → Type 0
AllLongFit [] [] = Unit {0}
AllLongFit (form ∷ forms) (v ∷ values) = LongFits form v × AllLongFit forms values
AllLongFit _ _ = ⊥
