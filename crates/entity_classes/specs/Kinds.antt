-- The kinds of the code, as rows of the class table.
use Rattle.std.specs.Prelude.{◌≡◌, ℕ, ◌==◌, Option, Some, None, if◌then◌else◌, refl, []}
use Rattle.class_spec.specs.declared.Maker.TheVariants.{Unit as by_unit}
use Rattle.class_spec.specs.Classes.{Row, class_row, class_table}
use Rattle.entity_classes.specs.declared.kinds.Kind.{Kind}
use Rattle.entity_classes.specs.declared.kinds.Kind.TheVariants.{OnuData, SoftwareImage, EthernetUni, BridgeService, BridgePort, VlanFilter, Mapper, OnuG, Onu2G, TCont, GemInterworking, GemPort, GalEthernet}

-- the number of the class
abbrev pub number_of : Kind → ℕ
number_of OnuData = 2
number_of SoftwareImage = 7
number_of EthernetUni = 11
number_of BridgeService = 45
number_of BridgePort = 47
number_of VlanFilter = 84
number_of Mapper = 130
number_of OnuG = 256
number_of Onu2G = 257
number_of TCont = 262
number_of GemInterworking = 266
number_of GemPort = 268
number_of GalEthernet = 272

-- the kind of the number, for a number of the table
unfoldable pub kind_of : ℕ → Kind
kind_of number =
    if number == 2 then OnuData
    else if number == 7 then SoftwareImage
    else if number == 11 then EthernetUni
    else if number == 45 then BridgeService
    else if number == 47 then BridgePort
    else if number == 84 then VlanFilter
    else if number == 130 then Mapper
    else if number == 256 then OnuG
    else if number == 257 then Onu2G
    else if number == 262 then TCont
    else if number == 266 then GemInterworking
    else if number == 268 then GemPort
    else GalEthernet

abbrev pub found_row : Option Row → Row
found_row (Some row) = row
found_row None = record { number = 0; maker = by_unit; attributes = [] }

-- the row of the class table
unfoldable pub row_of : Kind → Row
row_of kind = found_row (class_row (number_of kind))

-- a row gives its kind back
pub kind_of-row_of : (kind : Kind) → kind_of (row_of kind).number ≡ kind
unfolding kind_of row_of class_row class_table
kind_of-row_of OnuData = refl
kind_of-row_of SoftwareImage = refl
kind_of-row_of EthernetUni = refl
kind_of-row_of BridgeService = refl
kind_of-row_of BridgePort = refl
kind_of-row_of VlanFilter = refl
kind_of-row_of Mapper = refl
kind_of-row_of OnuG = refl
kind_of-row_of Onu2G = refl
kind_of-row_of TCont = refl
kind_of-row_of GemInterworking = refl
kind_of-row_of GemPort = refl
kind_of-row_of GalEthernet = refl
