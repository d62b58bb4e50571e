-- Scripts worked by hand, and their traces. Each has the header `omci 1 4096 1 1 ff`, but the last
-- one has `omci 1 4096 32767 1 ff`.
use Rattle.std.specs.Prelude.{ℕ, List, [], ◌∷◌, ◌++◌, codes}
use Rattle.std.specs.List.{flat_map}
use Rattle.omci_types.specs.declared.EntityId.{EntityId}
use Rattle.omci_types.specs.declared.Priority.TheVariants.{Low, High}
use Rattle.history_spec.specs.History.{Entry, CarriedOut, TookReply, Remarked}
use Rattle.script_spec.specs.Script.{Header, Script, Probe, Reset, Get, Deliver, Flow, NoiseUnit, NoiseOlt, Tick, CutUnit, CutOlt, StartUnit, StartOlt}
use Rattle.world_spec.specs.History.{history_of}

abbrev pub header : Header
header = record { room = 4096; low = 1; high = 1; factory = 255 ∷ [] }

abbrev pub last_number : Header
last_number = record { room = 4096; low = 32767; high = 1; factory = 255 ∷ [] }

abbrev pub entity : ℕ → ℕ → EntityId
entity class instance = record { class = class; instance = instance }

abbrev pub onu_data : EntityId
onu_data = entity 2 0

-- a line of a trace
abbrev pub line : List ℕ → List ℕ
line text = text ++ (10 ∷ [])

-- the header's line, which each of the traces begins with
abbrev pub unit_line : List ℕ
unit_line = line (codes "0 unit 1 0 0 1:000000ff -")

-- a probe and a get
unfoldable pub probe_and_get : Script
probe_and_get = record {
  header = header;
  actions =
      Probe Low ∷ Deliver 0 ∷ Deliver 1 ∷ Get Low onu_data 32768 ∷ Deliver 2 ∷ Deliver 3 ∷ [];
}

unfoldable pub probe_and_get_trace : List ℕ
probe_and_get_trace =
    unit_line
    ++ line (codes "1 sent 0 down 0001 0a get 2 0 80")
    ++ line (codes "2 carried 1")
    ++ line (codes "2 sent 1 up 0001 0a get-r 2 0 0080")
    ++ line (codes "3 proved low")
    ++ line (codes "4 sent 2 down 0002 0a get 2 0 80")
    ++ line (codes "5 carried 1")
    ++ line (codes "5 sent 3 up 0002 0a get-r 2 0 0080")
    ++ line (codes "6 took 0002 0a get-r 2 0 0080")

-- a lane that isn't proved takes no command
unfoldable pub unproven : Script
unproven = record { header = header; actions = Get Low onu_data 32768 ∷ [] }

unfoldable pub unproven_trace : List ℕ
unproven_trace =
    unit_line
    ++ line (codes "1 refused unproven low")

-- a lane takes one command at a time
unfoldable pub occupied : Script
occupied = record { header = header; actions = Probe Low ∷ Probe Low ∷ [] }

unfoldable pub occupied_trace : List ℕ
occupied_trace =
    unit_line
    ++ line (codes "1 sent 0 down 0001 0a get 2 0 80")
    ++ line (codes "2 refused occupied 0001")

-- the lanes take one change at a time
unfoldable pub second_change : Script
second_change = record {
  header = header;
  actions =
      Probe Low ∷ Probe High ∷ Flow 4 ∷ Reset Low ∷ Reset High ∷ [];
}

unfoldable pub second_change_trace : List ℕ
second_change_trace =
    unit_line
    ++ line (codes "1 sent 0 down 0001 0a get 2 0 80")
    ++ line (codes "2 sent 1 down 8001 0a get 2 0 80")
    ++ line (codes "3 carried 1")
    ++ line (codes "3 sent 2 up 0001 0a get-r 2 0 0080")
    ++ line (codes "3 carried 1")
    ++ line (codes "3 sent 3 up 8001 0a get-r 2 0 0080")
    ++ line (codes "3 proved low")
    ++ line (codes "3 proved high")
    ++ line (codes "4 sent 4 down 0002 0a reset 2 0 -")
    ++ line (codes "5 refused change 0002")

-- a reply that comes again, and a packet that isn't there
unfoldable pub reply_again : Script
reply_again = record {
  header = header;
  actions =
      Probe Low ∷ Deliver 0 ∷ Deliver 1 ∷ Deliver 1 ∷ Deliver 9 ∷ [];
}

unfoldable pub reply_again_trace : List ℕ
reply_again_trace =
    unit_line
    ++ line (codes "1 sent 0 down 0001 0a get 2 0 80")
    ++ line (codes "2 carried 1")
    ++ line (codes "2 sent 1 up 0001 0a get-r 2 0 0080")
    ++ line (codes "3 proved low")
    ++ line (codes "4 dropped")
    ++ line (codes "5 not enabled")

-- a request that comes again is answered by the kept reply
unfoldable pub kept_reply : Script
kept_reply = record {
  header = header;
  actions =
      Probe Low ∷ Deliver 0 ∷ Deliver 0 ∷ Deliver 1 ∷ Deliver 2 ∷ Deliver 9 ∷ [];
}

unfoldable pub kept_reply_trace : List ℕ
kept_reply_trace =
    unit_line
    ++ line (codes "1 sent 0 down 0001 0a get 2 0 80")
    ++ line (codes "2 carried 1")
    ++ line (codes "2 sent 1 up 0001 0a get-r 2 0 0080")
    ++ line (codes "3 kept")
    ++ line (codes "3 sent 2 up 0001 0a get-r 2 0 0080")
    ++ line (codes "4 proved low")
    ++ line (codes "5 dropped")
    ++ line (codes "6 not enabled")

-- each priority has a kept reply of its own
unfoldable pub two_kept : Script
two_kept = record {
  header = header;
  actions = Probe Low ∷ Probe High ∷ Deliver 0 ∷ Deliver 1 ∷ Deliver 0 ∷ [];
}

unfoldable pub two_kept_trace : List ℕ
two_kept_trace =
    unit_line
    ++ line (codes "1 sent 0 down 0001 0a get 2 0 80")
    ++ line (codes "2 sent 1 down 8001 0a get 2 0 80")
    ++ line (codes "3 carried 1")
    ++ line (codes "3 sent 2 up 0001 0a get-r 2 0 0080")
    ++ line (codes "4 carried 1")
    ++ line (codes "4 sent 3 up 8001 0a get-r 2 0 0080")
    ++ line (codes "5 kept")
    ++ line (codes "5 sent 4 up 0001 0a get-r 2 0 0080")

-- a request and a reply below their floors
unfoldable pub below_floor : Script
below_floor = record {
  header = header;
  actions =
      Probe Low ∷ Deliver 0 ∷ Deliver 1 ∷ Get Low onu_data 32768 ∷ Deliver 2 ∷ Deliver 0
      ∷ Deliver 3 ∷ Deliver 1 ∷ [];
}

unfoldable pub below_floor_trace : List ℕ
below_floor_trace =
    unit_line
    ++ line (codes "1 sent 0 down 0001 0a get 2 0 80")
    ++ line (codes "2 carried 1")
    ++ line (codes "2 sent 1 up 0001 0a get-r 2 0 0080")
    ++ line (codes "3 proved low")
    ++ line (codes "4 sent 2 down 0002 0a get 2 0 80")
    ++ line (codes "5 carried 1")
    ++ line (codes "5 sent 3 up 0002 0a get-r 2 0 0080")
    ++ line (codes "6 not enabled")
    ++ line (codes "7 took 0002 0a get-r 2 0 0080")
    ++ line (codes "8 not enabled")

-- a probe is sent three times and given up, and then its requests come in disorder
unfoldable pub given_up : Script
given_up = record {
  header = header;
  actions =
      Probe High ∷ Tick ∷ Tick ∷ Tick ∷ Deliver 1 ∷ Deliver 3 ∷ Deliver 0 ∷ Deliver 2
      ∷ Deliver 9 ∷ [];
}

unfoldable pub given_up_trace : List ℕ
given_up_trace =
    unit_line
    ++ line (codes "1 sent 0 down 8001 0a get 2 0 80")
    ++ line (codes "2 sent 1 down 8001 0a get 2 0 80")
    ++ line (codes "3 sent 2 down 8001 0a get 2 0 80")
    ++ line (codes "4 gave up 8001")
    ++ line (codes "5 carried 1")
    ++ line (codes "5 sent 3 up 8001 0a get-r 2 0 0080")
    ++ line (codes "6 dropped")
    ++ line (codes "7 not enabled")
    ++ line (codes "8 kept")
    ++ line (codes "8 sent 4 up 8001 0a get-r 2 0 0080")
    ++ line (codes "9 not enabled")

-- bytes that are no frame
unfoldable pub no_frames : Script
no_frames = record { header = header; actions = NoiseUnit (0 ∷ []) ∷ NoiseOlt (0 ∷ []) ∷ [] }

unfoldable pub no_frames_trace : List ℕ
no_frames_trace =
    unit_line
    ++ line (codes "1 dropped")
    ++ line (codes "2 dropped")

-- a get that was on its way when the unit lost its power is carried out in its next life
unfoldable pub unit_restarted : Script
unit_restarted = record {
  header = header;
  actions =
      Probe Low ∷ Flow 2 ∷ Get Low onu_data 32768 ∷ CutUnit ∷ Deliver 2 ∷ StartUnit ∷ Deliver 2
      ∷ Tick ∷ Tick ∷ Tick ∷ Flow 2 ∷ [];
}

unfoldable pub unit_restarted_trace : List ℕ
unit_restarted_trace =
    unit_line
    ++ line (codes "1 sent 0 down 0001 0a get 2 0 80")
    ++ line (codes "2 carried 1")
    ++ line (codes "2 sent 1 up 0001 0a get-r 2 0 0080")
    ++ line (codes "2 proved low")
    ++ line (codes "3 sent 2 down 0002 0a get 2 0 80")
    ++ line (codes "5 not enabled")
    ++ line (codes "6 unit 2 0 0 1:000000ff -")
    ++ line (codes "7 not enabled")
    ++ line (codes "10 sent 3 down 0002 0a get 2 0 80")
    ++ line (codes "11 carried 2")
    ++ line (codes "11 sent 4 up 0002 0a get-r 2 0 0080")
    ++ line (codes "11 took 0002 0a get-r 2 0 0080")

-- a manager starts under a number whose reply the unit keeps: its probe is answered by that
unfoldable pub manager_restarted : Script
manager_restarted = record {
  header = header;
  actions =
      Probe Low ∷ Flow 2 ∷ Reset Low ∷ Flow 2 ∷ CutOlt ∷ StartOlt 2 1 ∷ Probe Low ∷ Flow 2
      ∷ Reset Low ∷ Flow 2 ∷ [];
}

unfoldable pub manager_restarted_trace : List ℕ
manager_restarted_trace =
    unit_line
    ++ line (codes "1 sent 0 down 0001 0a get 2 0 80")
    ++ line (codes "2 carried 1")
    ++ line (codes "2 sent 1 up 0001 0a get-r 2 0 0080")
    ++ line (codes "2 proved low")
    ++ line (codes "3 sent 2 down 0002 0a reset 2 0 -")
    ++ line (codes "4 carried 1")
    ++ line (codes "4 sent 3 up 0002 0a reset-r 2 0 -")
    ++ line (codes "4 took 0002 0a reset-r 2 0 -")
    ++ line (codes "7 sent 4 down 0002 0a get 2 0 80")
    ++ line (codes "8 kept")
    ++ line (codes "8 sent 5 up 0002 0a reset-r 2 0 -")
    ++ line (codes "8 proved low")
    ++ line (codes "9 sent 6 down 0003 0a reset 2 0 -")
    ++ line (codes "10 carried 1")
    ++ line (codes "10 sent 7 up 0003 0a reset-r 2 0 -")
    ++ line (codes "10 took 0003 0a reset-r 2 0 -")

-- the number after 32,767 is 1
unfoldable pub number_comes_round : Script
number_comes_round = record {
  header = last_number;
  actions =
      Probe Low ∷ Flow 2 ∷ Get Low onu_data 32768 ∷ [];
}

unfoldable pub number_comes_round_trace : List ℕ
number_comes_round_trace =
    unit_line
    ++ line (codes "1 sent 0 down 7fff 0a get 2 0 80")
    ++ line (codes "2 carried 1")
    ++ line (codes "2 sent 1 up 7fff 0a get-r 2 0 0080")
    ++ line (codes "2 proved low")
    ++ line (codes "3 sent 2 down 0001 0a get 2 0 80")

-- the command of an entry
abbrev pub command_of : Entry → List ℕ
command_of (CarriedOut life command reply before) = command ∷ []
command_of (TookReply command reply) = command ∷ []
command_of (Remarked remark) = []

-- the commands of the entries of a script's history, newest first
abbrev pub commands_in : Script → List ℕ
commands_in s = flat_map command_of (history_of s.header s.actions)
