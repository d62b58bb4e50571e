-- Scripts with a resynchronisation, worked by hand, and their traces. Each has the header
-- `omci 1 4096 1 1 ff`.
use Rattle.std.specs.Prelude.{ℕ, List, [], ◌∷◌, ◌++◌, codes}
use Rattle.omci_types.specs.declared.Priority.TheVariants.{Low, High}
use Rattle.script_spec.specs.Script.{Script, Action, Probe, Get, Create, Set, Delete, Resync, Check, Deliver, Flow, Tick, CutUnit, StartUnit}
use Rattle.world_laws.specs.Worked.{header, entity, onu_data, line, unit_line}

-- a resynchronisation after which the manager is in step: 32 packets were sent
abbrev pub synced : List Action → List Action
synced rest = Resync ∷ Flow 100 ∷ rest

-- both lanes are probed, and the unit puts its database by
abbrev pub asked_trace : List ℕ
asked_trace =
    unit_line
    ++ line (codes "1 sent 0 down 8001 0a get 2 0 80")
    ++ line (codes "1 sent 1 down 0001 0a get 2 0 80")
    ++ line (codes "2 carried 1")
    ++ line (codes "2 sent 2 up 8001 0a get-r 2 0 0080")
    ++ line (codes "2 carried 1")
    ++ line (codes "2 sent 3 up 0001 0a get-r 2 0 0080")
    ++ line (codes "2 proved high")
    ++ line (codes "2 proved low")
    ++ line (codes "2 sent 4 down 0002 0a upload 2 0 -")
    ++ line (codes "2 carried 1")
    ++ line (codes "2 snapshot 11 0")
    ++ line (codes "2 sent 5 up 0002 0a upload-r 2 0 000d")

-- the pieces of the first database
abbrev pub pieces_trace : List ℕ
pieces_trace =
    asked_trace
    ++ line (codes "2 sent 6 down 0003 0a upload-next 2 0 -")
    ++ line (codes "2 carried 1")
    ++ line (codes "2 sent 7 up 0003 0a upload-next-r 2 0 0002000080")
    ++ line (codes "2 sent 8 down 0004 0a upload-next 2 0 0001")
    ++ line (codes "2 carried 1")
    ++ line (codes "2 sent 9 up 0004 0a upload-next-r 2 0 "
    ++ codes "00070000f000ff00000000000000000000000000010101")
    ++ line (codes "2 sent 10 down 0005 0a upload-next 2 0 0002")
    ++ line (codes "2 carried 1")
    ++ line (codes "2 sent 11 up 0005 0a upload-next-r 2 0 00070001f0")
    ++ line (codes "2 sent 12 down 0006 0a upload-next 2 0 0003")
    ++ line (codes "2 carried 1")
    ++ line (codes "2 sent 13 up 0006 0a upload-next-r 2 0 000b0101ffe00000000000000005ee")
    ++ line (codes "2 sent 14 down 0007 0a upload-next 2 0 0004")
    ++ line (codes "2 carried 1")
    ++ line (codes "2 sent 15 up 0007 0a upload-next-r 2 0 000b0102ffe00000000000000005ee")
    ++ line (codes "2 sent 16 down 0008 0a upload-next 2 0 0005")
    ++ line (codes "2 carried 1")
    ++ line (codes "2 sent 17 up 0008 0a upload-next-r 2 0 000b0103ffe00000000000000005ee")
    ++ line (codes "2 sent 18 down 0009 0a upload-next 2 0 0006")
    ++ line (codes "2 carried 1")
    ++ line (codes "2 sent 19 up 0009 0a upload-next-r 2 0 000b0104ffe00000000000000005ee")
    ++ line (codes "2 sent 20 down 000a 0a upload-next 2 0 0007")
    ++ line (codes "2 carried 1")
    ++ line (codes "2 sent 21 up 000a 0a upload-next-r 2 0 "
    ++ codes "01000000e0004f4d433100000000000000000000000000004f4d433100000001")
    ++ line (codes "2 sent 22 down 000b 0a upload-next 2 0 0008")
    ++ line (codes "2 carried 1")
    ++ line (codes "2 sent 23 up 000b 0a upload-next-r 2 0 010000001f")
    ++ line (codes "2 sent 24 down 000c 0a upload-next 2 0 0009")
    ++ line (codes "2 carried 1")
    ++ line (codes "2 sent 25 up 000c 0a upload-next-r 2 0 "
    ++ codes "01010000f8000000000000000000000000000000000000000000a000000101")
    ++ line (codes "2 sent 26 down 000d 0a upload-next 2 0 000a")
    ++ line (codes "2 carried 1")
    ++ line (codes "2 sent 27 up 000d 0a upload-next-r 2 0 010100000780")
    ++ line (codes "2 sent 28 down 000e 0a upload-next 2 0 000b")
    ++ line (codes "2 carried 1")
    ++ line (codes "2 sent 29 up 000e 0a upload-next-r 2 0 01068001e00000ff0001")
    ++ line (codes "2 sent 30 down 000f 0a upload-next 2 0 000c")
    ++ line (codes "2 carried 1")
    ++ line (codes "2 sent 31 up 000f 0a upload-next-r 2 0 01068002e00000ff0001")

-- and the copy that they give
unfoldable pub synced_trace : List ℕ
synced_trace =
    pieces_trace
    ++ line (codes "2 synced 11 0")
    ++ line (codes "2 copy 2 0 8000 00")
    ++ line (codes "2 copy 7 0 f000 ff00000000000000000000000000010101")
    ++ line (codes "2 copy 7 1 f000 0000000000000000000000000000000000")
    ++ line (codes "2 copy 11 257 ffe0 0000000000000005ee00000000")
    ++ line (codes "2 copy 11 258 ffe0 0000000000000005ee00000000")
    ++ line (codes "2 copy 11 259 ffe0 0000000000000005ee00000000")
    ++ line (codes "2 copy 11 260 ffe0 0000000000000005ee00000000")
    ++ line (codes "2 copy 256 0 ff00 "
    ++ codes "4f4d433100000000000000000000000000004f4d4331000000010000000000")
    ++ line (codes "2 copy 257 0 ff80 "
    ++ codes "0000000000000000000000000000000000000000a000000101000000000000")
    ++ line (codes "2 copy 262 32769 e000 00ff0001")
    ++ line (codes "2 copy 262 32770 e000 00ff0001")
    ++ line (codes "2 phase in")

-- it alone
unfoldable pub resynchronised : Script
resynchronised = record { header = header; actions = synced [] }

-- a create whose reply is lost, so that it comes again and is not carried out again, and a check
unfoldable pub created_and_checked : Script
created_and_checked = record {
  header = header;
  actions =
      synced
      (Create Low (entity 272 5) (0 ∷ 48 ∷ []) ∷ Deliver 32 ∷ Tick ∷ Tick ∷ Tick ∷ Deliver 34
      ∷ Deliver 35 ∷ Check ∷ Flow 2 ∷ []);
}

unfoldable pub created_and_checked_trace : List ℕ
created_and_checked_trace =
    synced_trace
    ++ line (codes "3 sent 32 down 0010 0a create 272 5 0030")
    ++ line (codes "4 carried 1")
    ++ line (codes "4 sent 33 up 0010 0a create-r 272 5 -")
    ++ line (codes "7 sent 34 down 0010 0a create 272 5 0030")
    ++ line (codes "8 kept")
    ++ line (codes "8 sent 35 up 0010 0a create-r 272 5 -")
    ++ line (codes "9 took 0010 0a create-r 272 5 -")
    ++ line (codes "10 sent 36 down 0011 0a get 2 0 80")
    ++ line (codes "11 carried 1")
    ++ line (codes "11 sent 37 up 0011 0a get-r 2 0 00800001")
    ++ line (codes "11 checked 1 1")

-- the counter after 255 is 1, in the unit and in the copy
unfoldable pub counter_goes_round : Script
counter_goes_round = record {
  header = header;
  actions =
      synced
      (Set Low onu_data 32768 (255 ∷ []) ∷ Flow 2 ∷ Set Low (entity 256 0) 1024 (1 ∷ []) ∷ Flow 2
      ∷ Check ∷ Flow 2 ∷ []);
}

unfoldable pub counter_goes_round_trace : List ℕ
counter_goes_round_trace =
    synced_trace
    ++ line (codes "3 sent 32 down 0010 0a set 2 0 8000ff")
    ++ line (codes "4 carried 1")
    ++ line (codes "4 sent 33 up 0010 0a set-r 2 0 -")
    ++ line (codes "4 took 0010 0a set-r 2 0 -")
    ++ line (codes "5 sent 34 down 0011 0a set 256 0 040001")
    ++ line (codes "6 carried 1")
    ++ line (codes "6 sent 35 up 0011 0a set-r 256 0 -")
    ++ line (codes "6 took 0011 0a set-r 256 0 -")
    ++ line (codes "7 sent 36 down 0012 0a get 2 0 80")
    ++ line (codes "8 carried 1")
    ++ line (codes "8 sent 37 up 0012 0a get-r 2 0 00800001")
    ++ line (codes "8 checked 1 1")

-- a get of more values than a response holds
unfoldable pub values_too_wide : Script
values_too_wide = record {
  header = header;
  actions =
      synced
      (Create Low (entity 84 1) [] ∷ Flow 2 ∷ Get Low (entity 84 1) 57344 ∷ Flow 2 ∷ []);
}

unfoldable pub values_too_wide_trace : List ℕ
values_too_wide_trace =
    synced_trace
    ++ line (codes "3 sent 32 down 0010 0a create 84 1 -")
    ++ line (codes "4 carried 1")
    ++ line (codes "4 sent 33 up 0010 0a create-r 84 1 -")
    ++ line (codes "4 took 0010 0a create-r 84 1 -")
    ++ line (codes "5 sent 34 down 0011 0a get 84 1 e0")
    ++ line (codes "6 carried 1")
    ++ line (codes "6 sent 35 up 0011 0a get-r 84 1 03")
    ++ line (codes "6 took 0011 0a get-r 84 1 03")

-- a set of attributes that may not be written leaves both counters alone
unfoldable pub set_refused : Script
set_refused = record {
  header = header;
  actions =
      synced
      (Set Low (entity 11 257) 3328 (1 ∷ 1 ∷ 6 ∷ 0 ∷ []) ∷ Flow 2 ∷ Check ∷ Flow 2 ∷ []);
}

unfoldable pub set_refused_trace : List ℕ
set_refused_trace =
    synced_trace
    ++ line (codes "3 sent 32 down 0010 0a set 11 257 0d00010106")
    ++ line (codes "4 carried 1")
    ++ line (codes "4 sent 33 up 0010 0a set-r 11 257 09000004")
    ++ line (codes "4 took 0010 0a set-r 11 257 09000004")
    ++ line (codes "5 sent 34 down 0011 0a get 2 0 80")
    ++ line (codes "6 carried 1")
    ++ line (codes "6 sent 35 up 0011 0a get-r 2 0 0080")
    ++ line (codes "6 checked 0 0")

-- a delete of what isn't there
unfoldable pub deleted_absent : Script
deleted_absent = record {
  header = header;
  actions =
      synced (Delete Low (entity 272 9) ∷ Flow 2 ∷ []);
}

unfoldable pub deleted_absent_trace : List ℕ
deleted_absent_trace =
    synced_trace
    ++ line (codes "3 sent 32 down 0010 0a delete 272 9 -")
    ++ line (codes "4 carried 1")
    ++ line (codes "4 sent 33 up 0010 0a delete-r 272 9 05")
    ++ line (codes "4 took 0010 0a delete-r 272 9 05")

-- the other lane takes a get beside a change, and no second change
unfoldable pub change_in_the_way : Script
change_in_the_way = record {
  header = header;
  actions =
      synced
      (Create Low (entity 272 5) (0 ∷ 48 ∷ []) ∷ Set High (entity 256 0) 1024 (1 ∷ [])
      ∷ Get High onu_data 32768 ∷ []);
}

unfoldable pub change_in_the_way_trace : List ℕ
change_in_the_way_trace =
    synced_trace
    ++ line (codes "3 sent 32 down 0010 0a create 272 5 0030")
    ++ line (codes "4 refused change 0010")
    ++ line (codes "5 sent 33 down 8002 0a get 2 0 80")

-- the unit starts again amid an upload, and has nothing put by
unfoldable pub restarted_meanwhile : Script
restarted_meanwhile = record {
  header = header;
  actions =
      Resync ∷ Flow 10 ∷ CutUnit ∷ StartUnit ∷ Tick ∷ Tick ∷ Tick ∷ Deliver 11 ∷ Deliver 12 ∷ [];
}

unfoldable pub restarted_meanwhile_trace : List ℕ
restarted_meanwhile_trace =
    asked_trace
    ++ line (codes "2 sent 6 down 0003 0a upload-next 2 0 -")
    ++ line (codes "2 carried 1")
    ++ line (codes "2 sent 7 up 0003 0a upload-next-r 2 0 0002000080")
    ++ line (codes "2 sent 8 down 0004 0a upload-next 2 0 0001")
    ++ line (codes "2 carried 1")
    ++ line (codes "2 sent 9 up 0004 0a upload-next-r 2 0 "
    ++ codes "00070000f000ff00000000000000000000000000010101")
    ++ line (codes "2 sent 10 down 0005 0a upload-next 2 0 0002")
    ++ line (codes "4 unit 2 0 0 1:000000ff -")
    ++ line (codes "7 sent 11 down 0005 0a upload-next 2 0 0002")
    ++ line (codes "8 carried 2")
    ++ line (codes "8 sent 12 up 0005 0a upload-next-r 2 0 -")
    ++ line (codes "9 resync failed empty")

-- why commands are refused, in the order in which it is tested
unfoldable pub refusals_in_order : Script
refusals_in_order = record {
  header = header;
  actions =
      Create Low (entity 272 5) (0 ∷ 48 ∷ []) ∷ Probe Low ∷ Get Low onu_data 32768 ∷ Flow 2
      ∷ Create Low (entity 272 5) (0 ∷ 48 ∷ []) ∷ Get Low onu_data 32768
      ∷ Get Low onu_data 32768 ∷ Resync ∷ Flow 2 ∷ Resync ∷ Check ∷ Flow 4 ∷ Probe High ∷ [];
}

unfoldable pub refusals_in_order_trace : List ℕ
refusals_in_order_trace =
    unit_line
    ++ line (codes "1 refused unproven low")
    ++ line (codes "2 sent 0 down 0001 0a get 2 0 80")
    ++ line (codes "3 refused unproven low")
    ++ line (codes "4 carried 1")
    ++ line (codes "4 sent 1 up 0001 0a get-r 2 0 0080")
    ++ line (codes "4 proved low")
    ++ line (codes "5 refused out-of-step new")
    ++ line (codes "6 sent 2 down 0002 0a get 2 0 80")
    ++ line (codes "7 refused occupied 0002")
    ++ line (codes "8 refused occupied 0002")
    ++ line (codes "9 carried 1")
    ++ line (codes "9 sent 3 up 0002 0a get-r 2 0 0080")
    ++ line (codes "9 took 0002 0a get-r 2 0 0080")
    ++ line (codes "10 sent 4 down 8001 0a get 2 0 80")
    ++ line (codes "10 sent 5 down 0003 0a get 2 0 80")
    ++ line (codes "11 refused occupied 0003")
    ++ line (codes "12 carried 1")
    ++ line (codes "12 sent 6 up 8001 0a get-r 2 0 0080")
    ++ line (codes "12 carried 1")
    ++ line (codes "12 sent 7 up 0003 0a get-r 2 0 0080")
    ++ line (codes "12 proved high")
    ++ line (codes "12 proved low")
    ++ line (codes "12 sent 8 down 0004 0a upload 2 0 -")
    ++ line (codes "13 refused job resync")
