-- The managed entity classes (ITU-T G.988, clause 9, in this profile): who makes each, and its
-- attributes in order.
use Rattle.std.specs.Prelude.{ℕ, ◌+◌, ◌==◌, Bool, true, false, List, [], ◌∷◌, if◌then◌else◌, Option, Some, None}
use Rattle.class_spec.specs.declared.Maker.{Maker}
use Rattle.class_spec.specs.declared.Maker.TheVariants.{Unit as by_unit, Manager as by_manager}

-- an attribute: its number, its width in bytes, whether it may be written, and whether a create
-- sets it
pub record Attribute : Type 0 where
  pub number : ℕ
  pub width : ℕ
  pub written : Bool
  pub created : Bool

-- a class: its number, who makes its instances, and its attributes, numbered from 1 on
pub record Row : Type 0 where
  pub number : ℕ
  pub maker : Maker
  pub attributes : List Attribute

-- what the table says of an attribute: its width, and whether it may be written and is set by
-- create
pub record Shape : Type 0 where
  pub width : ℕ
  pub written : Bool
  pub created : Bool

-- an attribute that may only be read
abbrev pub r : ℕ → Shape
r width = record { width = width; written = false; created = false }

-- an attribute that may be written
abbrev pub w : ℕ → Shape
w width = record { width = width; written = true; created = false }

-- an attribute that may be written and is set by create
abbrev pub c : ℕ → Shape
c width = record { width = width; written = true; created = true }

-- the attributes of these shapes, the first with this number
abbrev pub attributes_from : ℕ → List Shape → List Attribute
attributes_from number [] = []
attributes_from number (shape ∷ shapes) =
    record {
      number = number;
      width = shape.width;
      written = shape.written;
      created = shape.created;
    } ∷ attributes_from (number + 1) shapes

abbrev pub row : ℕ → Maker → List Shape → Row
row number maker shapes = record {
  number = number;
  maker = maker;
  attributes = attributes_from 1 shapes;
}

-- ONU data, software image, PPTP Ethernet UNI, MAC bridge service profile, MAC bridge port
-- configuration data, VLAN tagging filter data, 802.1p mapper service profile, ONU-G, ONU2-G,
-- T-CONT, GEM interworking termination point, GEM port network CTP, GAL Ethernet profile
unfoldable pub class_table : List Row
class_table =
    row 2 by_unit (w 1 ∷ []) ∷
    row 7 by_unit (r 14 ∷ r 1 ∷ r 1 ∷ r 1 ∷ []) ∷
    row 11 by_unit (w 1 ∷ r 1 ∷ w 1 ∷ w 1 ∷ w 1 ∷ r 1 ∷ r 1 ∷ w 2 ∷ w 1 ∷ w 2 ∷ w 1 ∷ []) ∷
    row 45 by_manager (c 1 ∷ c 1 ∷ c 1 ∷ c 2 ∷ c 2 ∷ c 2 ∷ c 2 ∷ c 1 ∷ c 1 ∷ c 4 ∷ []) ∷
    row 47 by_manager (c 2 ∷ c 1 ∷ c 1 ∷ c 2 ∷ c 2 ∷ c 2 ∷ c 1 ∷ c 1 ∷ c 1 ∷ r 6 ∷ w 2 ∷ w 2 ∷ c 1
    ∷ []) ∷
    row 84 by_manager (c 24 ∷ c 1 ∷ c 1 ∷ []) ∷
    row 130 by_manager (c 2 ∷ c 2 ∷ c 2 ∷ c 2 ∷ c 2 ∷ c 2 ∷ c 2 ∷ c 2 ∷ c 2 ∷ c 1 ∷ w 24 ∷ c 1 ∷ c 1
    ∷ []) ∷
    row 256 by_unit (r 4 ∷ r 14 ∷ r 8 ∷ r 1 ∷ r 1 ∷ w 1 ∷ w 1 ∷ r 1 ∷ []) ∷
    row 257 by_unit (r 20 ∷ r 1 ∷ r 2 ∷ r 1 ∷ w 1 ∷ r 2 ∷ r 1 ∷ r 1 ∷ r 2 ∷ []) ∷
    row 262 by_unit (w 2 ∷ r 1 ∷ w 1 ∷ []) ∷
    row 266 by_manager (c 2 ∷ c 1 ∷ c 2 ∷ c 2 ∷ r 1 ∷ r 1 ∷ c 2 ∷ w 1 ∷ []) ∷
    row 268 by_manager (c 2 ∷ c 2 ∷ c 1 ∷ c 2 ∷ c 2 ∷ r 1 ∷ c 2 ∷ r 1 ∷ []) ∷
    row 272 by_manager (c 2 ∷ []) ∷
    []

-- the first of these rows that has the number
abbrev pub row_in : List Row → ℕ → Option Row
row_in [] number = None
row_in (one ∷ rows) number = if one.number == number then Some one else row_in rows number

-- the class of this number, where there is one
unfoldable pub class_row : ℕ → Option Row
class_row number = row_in class_table number

-- the attribute of this number, where the list has one
abbrev pub attribute_in : List Attribute → ℕ → Option Attribute
attribute_in [] number = None
attribute_in (one ∷ rest) number = if one.number == number then Some one
    else attribute_in rest number
