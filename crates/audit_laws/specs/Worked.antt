-- Scripts with an audit, worked by hand, and their traces. Each has the header
-- `omci 1 4096 1 1 ff`.
use Rattle.std.specs.Prelude.{ℕ, List, [], ◌∷◌, ◌++◌, codes}
use Rattle.omci_types.specs.declared.Priority.TheVariants.{Low, High}
use Rattle.script_spec.specs.Script.{Script, Action, Probe, Audit, Flow, Alarm}
use Rattle.world_laws.specs.Worked.{header, entity, line, unit_line}

-- the low lane is proved, and an alarm is told before any audit: 3 packets were sent
abbrev pub alarmed : List Action → List Action
alarmed rest = Probe Low ∷ Flow 2 ∷ Alarm (entity 11 257) (128 ∷ []) ∷ Flow 1 ∷ rest

-- thirty zero bytes
abbrev pub zeros_text : List ℕ
zeros_text = codes "000000000000000000000000000000000000000000000000000000000000"

abbrev pub alarmed_trace : List ℕ
alarmed_trace =
    unit_line
    ++ line (codes "1 sent 0 down 0001 0a get 2 0 80")
    ++ line (codes "2 carried 1")
    ++ line (codes "2 sent 1 up 0001 0a get-r 2 0 0080")
    ++ line (codes "2 proved low")
    ++ line (codes "3 sent 2 up 0000 0a alarm 11 257 80" ++ zeros_text ++ codes "01")
    ++ line (codes "4 unaudited 1")

-- the alarm is in the unit's snapshot, and so in the table
unfoldable pub audited : Script
audited = record { header = header; actions = alarmed (Audit ∷ Flow 4 ∷ []) }

unfoldable pub audited_trace : List ℕ
audited_trace =
    alarmed_trace
    ++ line (codes "5 sent 3 down 0002 0a alarms 2 0 -")
    ++ line (codes "6 carried 1")
    ++ line (codes "6 alarms 1")
    ++ line (codes "6 sent 4 up 0002 0a alarms-r 2 0 0001")
    ++ line (codes "6 sent 5 down 0003 0a alarms-next 2 0 -")
    ++ line (codes "6 carried 1")
    ++ line (codes "6 sent 6 up 0003 0a alarms-next-r 2 0 000b010180")
    ++ line (codes "6 audited 1")
    ++ line (codes "6 row 11 257 80")

-- an alarm that is told while the rows are gathered waits, and is in the table after them
unfoldable pub noticed : Script
noticed = record {
  header = header;
  actions = alarmed (Audit ∷ Flow 2 ∷ Alarm (entity 11 258) (64 ∷ []) ∷ Flow 3 ∷ []);
}

unfoldable pub noticed_trace : List ℕ
noticed_trace =
    alarmed_trace
    ++ line (codes "5 sent 3 down 0002 0a alarms 2 0 -")
    ++ line (codes "6 carried 1")
    ++ line (codes "6 alarms 1")
    ++ line (codes "6 sent 4 up 0002 0a alarms-r 2 0 0001")
    ++ line (codes "6 sent 5 down 0003 0a alarms-next 2 0 -")
    ++ line (codes "7 sent 6 up 0000 0a alarm 11 258 40" ++ zeros_text ++ codes "01")
    ++ line (codes "8 carried 1")
    ++ line (codes "8 sent 7 up 0003 0a alarms-next-r 2 0 000b010180")
    ++ line (codes "8 notice 1")
    ++ line (codes "8 audited 2")
    ++ line (codes "8 row 11 257 80")
    ++ line (codes "8 row 11 258 40")

-- beside an audit no other job and no check begins
unfoldable pub job_in_the_way : Script
job_in_the_way = record {
  header = header;
  actions = alarmed (Audit ∷ Audit ∷ Probe High ∷ []);
}

unfoldable pub job_in_the_way_trace : List ℕ
job_in_the_way_trace =
    alarmed_trace
    ++ line (codes "5 sent 3 down 0002 0a alarms 2 0 -")
    ++ line (codes "6 refused occupied 0002")
    ++ line (codes "7 refused job audit")
