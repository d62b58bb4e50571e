-- What a script says: a header, and what each line after it asks for, by one table of the kinds of
-- lines. Orders have a header of their own, and only the lines that are a manager's.
use Rattle.std.specs.Prelude.{◌≡◌, ◌≤◌, ℕ, zero, suc, Bool, true, false, List, [], ◌∷◌, length}
use Rattle.std.specs.Prelude.{codes, Option}
use Rattle.std.specs.List.{All}
use Rattle.omci_types.specs.declared.Priority.{Priority}
use Rattle.omci_types.specs.declared.EntityId.{EntityId}
use Rattle.slot_spec.specs.declared.Pick.{Pick}
use Rattle.frame_spec.specs.declared.TheConstants.{LAST_NUMBER}
use Rattle.script_spec.specs.declared.TheConstants.{LAST_PACKET, MAX_ID, MAX_CREATE, MAX_SET}
use Rattle.script_spec.specs.declared.TheConstants.{MAX_ATTRIBUTE, MAX_SENSED, MAX_BITMAP}
use Rattle.script_spec.specs.declared.TheConstants.{MAX_FLOW, MAX_NOISE, MAX_ROOM, MAX_SLOT}
use Rattle.script_spec.specs.declared.TheConstants.{MAX_ASKED, MAX_IMAGE, MAX_CALL}
use Rattle.script_spec.specs.declared.Document.{Document}
use Rattle.script_spec.specs.declared.Document.TheVariants as documents
use Rattle.script_spec.specs.declared.Line.{Line}
use Rattle.script_spec.specs.declared.Line.TheVariants as lines
use Rattle.script_spec.specs.Fields.{Value, Lane, Number, Bytes, Check as CheckValue, PickOf, Form}
use Rattle.script_spec.specs.Fields.{lane_in, number_in, bytes_in, check_in, pick_in, LaneName}
use Rattle.script_spec.specs.Fields.{Decimal, MaskDigits, CheckDigits, PickName, HexBytes}
use Rattle.script_spec.specs.Fields.{NoiseBytes, AreBytes, AllFit}

-- What one line of a script asks for. Bytes are kept as they were written, not filled.
pub data Action : Type 0 where
  -- the manager's commands
  Probe : Priority → Action
  Reset : Priority → Action
  Get : Priority → EntityId → ℕ → Action
  Create : Priority → EntityId → List ℕ → Action
  Set : Priority → EntityId → ℕ → List ℕ → Action
  Delete : Priority → EntityId → Action
  -- its commands for a software image, named by its slot, and for the whole unit
  Activate : Priority → ℕ → Action
  Commit : Priority → ℕ → Action
  Reboot : Priority → Action
  -- the manager's resynchronisation, its audit of the alarms, and its comparison of both counters
  Resync : Action
  Audit : Action
  Check : Action
  -- its download of an image into a slot: how many sections it asks for in a window, and the check
  -- value that it gives in the place of the image's own
  Image : (slot window : ℕ) (check : Option ℕ) (image : List ℕ) → Action
  -- the link
  Deliver : ℕ → Action
  Flow : ℕ → Action
  -- it delivers a packet, and the power of the unit goes at a device call
  CutIn : (packet call : ℕ) → Pick → Action
  NoiseUnit : List ℕ → Action
  NoiseOlt : List ℕ → Action
  -- one second
  Tick : Action
  -- the unit measures an attribute's value, or notices an entity's alarms
  Sense : EntityId → ℕ → List ℕ → Action
  Alarm : EntityId → List ℕ → Action
  -- power, and the first numbers of the manager's two lanes
  CutUnit : Action
  CutOlt : Action
  StartUnit : Action
  StartOlt : ℕ → ℕ → Action

-- ---- the table of lines

-- A kind of line: the words that it begins with, the forms of the words after them, and whether
-- orders have it.
pub record Row : Type 0 where
  pub name : List (List ℕ)
  pub fields : List Form
  pub ordered : Bool

-- a line that scripts alone have, or a header
abbrev pub line : List (List ℕ) → List Form → Row
line name fields = record { name = name; fields = fields; ordered = false }

-- a line of the manager's, which orders have too
abbrev pub order : List (List ℕ) → List Form → Row
order name fields = record { name = name; fields = fields; ordered = true }

-- a class, and an instance
abbrev pub id : Form
id = Decimal 0 MAX_ID

-- the number of an image slot
abbrev pub slot : Form
slot = Decimal 0 MAX_SLOT

-- the number of a lane's first command
abbrev pub lane_number : Form
lane_number = Decimal 1 LAST_NUMBER

abbrev pub row : Line → Row
row lines.Probe = order (codes "probe" ∷ []) (LaneName ∷ [])
row lines.Reset = order (codes "reset" ∷ []) (LaneName ∷ [])
row lines.Get = order (codes "get" ∷ []) (LaneName ∷ id ∷ id ∷ MaskDigits ∷ [])
row lines.Create = order (codes "create" ∷ []) (LaneName ∷ id ∷ id ∷ HexBytes 0 MAX_CREATE ∷ [])
row lines.Set = order (codes "set" ∷ []) (LaneName ∷ id ∷ id ∷ MaskDigits ∷ HexBytes 0 MAX_SET ∷ [])
row lines.Delete = order (codes "delete" ∷ []) (LaneName ∷ id ∷ id ∷ [])
row lines.Activate = order (codes "activate" ∷ []) (LaneName ∷ slot ∷ [])
row lines.Commit = order (codes "commit" ∷ []) (LaneName ∷ slot ∷ [])
row lines.Reboot = order (codes "reboot" ∷ []) (LaneName ∷ [])
row lines.Resync = order (codes "resync" ∷ []) []
row lines.Audit = order (codes "audit" ∷ []) []
row lines.Check = order (codes "check" ∷ []) []
row lines.Image =
    order (codes "image" ∷ [])
    (slot ∷ Decimal 1 MAX_ASKED ∷ CheckDigits ∷ HexBytes 1 MAX_IMAGE ∷ [])
row lines.Deliver = line (codes "deliver" ∷ []) (Decimal 0 LAST_PACKET ∷ [])
row lines.Flow = line (codes "flow" ∷ []) (Decimal 1 MAX_FLOW ∷ [])
row lines.CutIn =
    line (codes "cutin" ∷ []) (Decimal 0 LAST_PACKET ∷ Decimal 1 MAX_CALL ∷ PickName ∷ [])
row lines.NoiseUnit = line (codes "noise" ∷ codes "unit" ∷ []) (NoiseBytes MAX_NOISE ∷ [])
row lines.NoiseOlt = line (codes "noise" ∷ codes "olt" ∷ []) (NoiseBytes MAX_NOISE ∷ [])
row lines.Tick = line (codes "tick" ∷ []) []
row lines.Sense =
    line (codes "sense" ∷ []) (id ∷ id ∷ Decimal 1 MAX_ATTRIBUTE ∷ HexBytes 1 MAX_SENSED ∷ [])
row lines.Alarm = line (codes "alarm" ∷ []) (id ∷ id ∷ HexBytes 0 MAX_BITMAP ∷ [])
row lines.CutUnit = line (codes "cut" ∷ codes "unit" ∷ []) []
row lines.CutOlt = line (codes "cut" ∷ codes "olt" ∷ []) []
row lines.StartUnit = line (codes "start" ∷ codes "unit" ∷ []) []
row lines.StartOlt = line (codes "start" ∷ codes "olt" ∷ []) (lane_number ∷ lane_number ∷ [])

-- all the kinds of lines
abbrev pub all_lines : List Line
all_lines =
    lines.Probe ∷ lines.Reset ∷ lines.Get ∷ lines.Create ∷ lines.Set ∷ lines.Delete
    ∷ lines.Activate ∷ lines.Commit ∷ lines.Reboot ∷ lines.Resync ∷ lines.Audit ∷ lines.Check
    ∷ lines.Image ∷ lines.Deliver ∷ lines.Flow ∷ lines.CutIn ∷ lines.NoiseUnit ∷ lines.NoiseOlt
    ∷ lines.Tick ∷ lines.Sense ∷ lines.Alarm ∷ lines.CutUnit ∷ lines.CutOlt ∷ lines.StartUnit
    ∷ lines.StartOlt ∷ []

-- whether a document has lines of this kind
abbrev pub has : Document → Line → Bool
has documents.Script line = true
has documents.Orders line = (row line).ordered

-- ---- an action and its line

-- a kind of line, and what its words after the name say
pub record Said : Type 0 where
  pub line : Line
  pub values : List Value

abbrev pub says : Line → List Value → Said
says line values = record { line = line; values = values }

-- what the line of an action says
abbrev pub said : Action → Said
said (Probe lane) = says lines.Probe (Lane lane ∷ [])
said (Reset lane) = says lines.Reset (Lane lane ∷ [])
said (Get lane entity mask) =
    says lines.Get (Lane lane ∷ Number entity.class ∷ Number entity.instance ∷ Number mask ∷ [])
said (Create lane entity values) =
    says lines.Create (Lane lane ∷ Number entity.class ∷ Number entity.instance ∷ Bytes values ∷ [])
said (Set lane entity mask values) =
    says lines.Set
    (Lane lane ∷ Number entity.class ∷ Number entity.instance ∷ Number mask ∷ Bytes values ∷ [])
said (Delete lane entity) =
    says lines.Delete (Lane lane ∷ Number entity.class ∷ Number entity.instance ∷ [])
said (Activate lane slot) = says lines.Activate (Lane lane ∷ Number slot ∷ [])
said (Commit lane slot) = says lines.Commit (Lane lane ∷ Number slot ∷ [])
said (Reboot lane) = says lines.Reboot (Lane lane ∷ [])
said Resync = says lines.Resync []
said Audit = says lines.Audit []
said Check = says lines.Check []
said (Image slot window check image) =
    says lines.Image (Number slot ∷ Number window ∷ CheckValue check ∷ Bytes image ∷ [])
said (Deliver packet) = says lines.Deliver (Number packet ∷ [])
said (Flow times) = says lines.Flow (Number times ∷ [])
said (CutIn packet call pick) =
    says lines.CutIn (Number packet ∷ Number call ∷ PickOf pick ∷ [])
said (NoiseUnit bytes) = says lines.NoiseUnit (Bytes bytes ∷ [])
said (NoiseOlt bytes) = says lines.NoiseOlt (Bytes bytes ∷ [])
said Tick = says lines.Tick []
said (Sense entity number value) =
    says lines.Sense
    (Number entity.class ∷ Number entity.instance ∷ Number number ∷ Bytes value ∷ [])
said (Alarm entity bitmap) =
    says lines.Alarm (Number entity.class ∷ Number entity.instance ∷ Bytes bitmap ∷ [])
said CutUnit = says lines.CutUnit []
said CutOlt = says lines.CutOlt []
said StartUnit = says lines.StartUnit []
said (StartOlt low high) = says lines.StartOlt (Number low ∷ Number high ∷ [])

abbrev pub first_value : List Value → Value
first_value [] = Bytes []
first_value (value ∷ values) = value

abbrev pub later_values : List Value → List Value
later_values [] = []
later_values (value ∷ values) = values

-- the value at a place, from 0
abbrev pub value_at : ℕ → List Value → Value
value_at zero values = first_value values
value_at (suc place) values = value_at place (later_values values)

abbrev pub lane_at : ℕ → List Value → Priority
lane_at place values = lane_in (value_at place values)

abbrev pub number_at : ℕ → List Value → ℕ
number_at place values = number_in (value_at place values)

abbrev pub bytes_at : ℕ → List Value → List ℕ
bytes_at place values = bytes_in (value_at place values)

abbrev pub check_at : ℕ → List Value → Option ℕ
check_at place values = check_in (value_at place values)

abbrev pub pick_at : ℕ → List Value → Pick
pick_at place values = pick_in (value_at place values)

-- the entity whose class stands at a place, with its instance after it
abbrev pub entity_at : ℕ → List Value → EntityId
entity_at place values =
    record { class = number_at place values; instance = number_at (suc place) values }

-- the action of a line that says these values
abbrev pub action_with : Line → List Value → Action
action_with lines.Probe v = Probe (lane_at 0 v)
action_with lines.Reset v = Reset (lane_at 0 v)
action_with lines.Get v = Get (lane_at 0 v) (entity_at 1 v) (number_at 3 v)
action_with lines.Create v = Create (lane_at 0 v) (entity_at 1 v) (bytes_at 3 v)
action_with lines.Set v = Set (lane_at 0 v) (entity_at 1 v) (number_at 3 v) (bytes_at 4 v)
action_with lines.Delete v = Delete (lane_at 0 v) (entity_at 1 v)
action_with lines.Activate v = Activate (lane_at 0 v) (number_at 1 v)
action_with lines.Commit v = Commit (lane_at 0 v) (number_at 1 v)
action_with lines.Reboot v = Reboot (lane_at 0 v)
action_with lines.Resync v = Resync
action_with lines.Audit v = Audit
action_with lines.Check v = Check
action_with lines.Image v = Image (number_at 0 v) (number_at 1 v) (check_at 2 v) (bytes_at 3 v)
action_with lines.Deliver v = Deliver (number_at 0 v)
action_with lines.Flow v = Flow (number_at 0 v)
action_with lines.CutIn v = CutIn (number_at 0 v) (number_at 1 v) (pick_at 2 v)
action_with lines.NoiseUnit v = NoiseUnit (bytes_at 0 v)
action_with lines.NoiseOlt v = NoiseOlt (bytes_at 0 v)
action_with lines.Tick v = Tick
action_with lines.Sense v = Sense (entity_at 0 v) (number_at 2 v) (bytes_at 3 v)
action_with lines.Alarm v = Alarm (entity_at 0 v) (bytes_at 2 v)
action_with lines.CutUnit v = CutUnit
action_with lines.CutOlt v = CutOlt
action_with lines.StartUnit v = StartUnit
action_with lines.StartOlt v = StartOlt (number_at 0 v) (number_at 1 v)

-- each value is one that the line's row allows
abbrev pub IsAction : Action → Type 0
IsAction action = AllFit (row (said action).line).fields (said action).values

-- the document has lines of the action's kind
abbrev pub HasAction : Document → Action → Type 0
HasAction document action = has document (said action).line ≡ true

-- ---- the header, and the whole

-- The room of an image slot in bytes, the first numbers of the two lanes, and the image that the
-- unit leaves the factory with.
pub record Header : Type 0 where
  pub room : ℕ
  pub low : ℕ
  pub high : ℕ
  pub factory : List ℕ

-- the words that a header begins with
abbrev pub header_name : List (List ℕ)
header_name = codes "omci" ∷ codes "1" ∷ []

abbrev pub room_field : Form
room_field = Decimal 1 MAX_ROOM

-- the fields after the room; the image has to fit it
abbrev pub fields_after_room : ℕ → List Form
fields_after_room room = lane_number ∷ lane_number ∷ HexBytes 1 room ∷ []

-- the header's row, where the image slots have this room
abbrev pub header_row : ℕ → Row
header_row room = line header_name (room_field ∷ fields_after_room room)

-- how many words stand after a header's name
abbrev pub header_size : ℕ
header_size = length (header_row 0).fields

abbrev pub header_values : Header → List Value
header_values header =
    Number header.room ∷ Number header.low ∷ Number header.high ∷ Bytes header.factory ∷ []

abbrev pub header_with : List Value → Header
header_with v =
    record {
      room = number_at 0 v;
      low = number_at 1 v;
      high = number_at 2 v;
      factory = bytes_at 3 v;
    }

pub record Script : Type 0 where
  pub header : Header
  pub actions : List Action

pub record IsHeader (header : Header) : Type 0 where
  pub room_some : 1 ≤ header.room
  pub room_most : header.room ≤ MAX_ROOM
  pub low_some : 1 ≤ header.low
  pub low_most : header.low ≤ LAST_NUMBER
  pub high_some : 1 ≤ header.high
  pub high_most : header.high ≤ LAST_NUMBER
  pub factory_some : 1 ≤ length header.factory
  pub factory_fits : AreBytes header.room header.factory

pub record IsScript (script : Script) : Type 0 where
  pub header : IsHeader script.header
  pub actions : All IsAction script.actions

-- ---- orders

-- the first numbers of the manager's two lanes
pub record OrdersHeader : Type 0 where
  pub low : ℕ
  pub high : ℕ

-- the row of a header of orders, and its values
abbrev pub orders_row : Row
orders_row = line (codes "orders" ∷ codes "1" ∷ []) (lane_number ∷ lane_number ∷ [])

abbrev pub orders_values : OrdersHeader → List Value
orders_values header = Number header.low ∷ Number header.high ∷ []

abbrev pub orders_header_with : List Value → OrdersHeader
orders_header_with v = record { low = number_at 0 v; high = number_at 1 v }

-- orders: a header, and what each line after it asks for
pub record Orders : Type 0 where
  pub header : OrdersHeader
  pub actions : List Action

-- each number is in its range
pub record IsOrdersHeader (header : OrdersHeader) : Type 0 where
  pub low_some : 1 ≤ header.low
  pub low_most : header.low ≤ LAST_NUMBER
  pub high_some : 1 ≤ header.high
  pub high_most : header.high ≤ LAST_NUMBER

-- each number and all bytes are in their ranges, and each action is one that orders have
pub record IsOrders (orders : Orders) : Type 0 where
  pub header : IsOrdersHeader orders.header
  pub actions : All IsAction orders.actions
  pub manager : All (HasAction documents.Orders) orders.actions
