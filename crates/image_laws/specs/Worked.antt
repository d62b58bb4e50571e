-- Scripts with downloads of software images, worked by hand, and their traces. Each has the header
-- `omci 1 4096 1 1 ff`.
use Rattle.std.specs.Prelude.{ℕ, List, [], ◌∷◌, ◌++◌, codes, replicate, Some, None}
use Rattle.omci_types.specs.declared.EntityId.{EntityId}
use Rattle.omci_types.specs.declared.Priority.TheVariants.{Low}
use Rattle.slot_spec.specs.declared.Pick.TheVariants.{Old, New, Byte}
use Rattle.script_spec.specs.Script.{Header, Script, Probe, Get, Activate, Commit, Image, Deliver, Flow, CutIn, Tick, CutUnit, StartUnit}

abbrev pub header : Header
header = record { room = 4096; low = 1; high = 1; factory = 255 ∷ [] }

abbrev pub onu_data : EntityId
onu_data = record { class = 2; instance = 0 }

-- a line of a trace
abbrev pub line : List ℕ → List ℕ
line text = text ++ (10 ∷ [])

-- the header's line, which each of the traces begins with
abbrev pub unit_line : List ℕ
unit_line = line (codes "0 unit 1 0 0 1:000000ff -")

-- an image of 63 bytes: three sections, the last one of a byte
unfoldable pub image : List ℕ
image = 255 ∷ 255 ∷ 255 ∷ 255 ∷ (replicate 58 0 ++ 1 ∷ [])

-- an image of two bytes
abbrev pub two_bytes : List ℕ
two_bytes = 255 ∷ 255 ∷ []

-- A download in two windows, of which a section comes again: the held window is let go with its
-- reply, and the reply is kept.
unfoldable pub windows_sent : Script
windows_sent = record {
  header = header;
  actions =
      Probe Low ∷ Flow 2 ∷ Image 1 2 None image ∷ Flow 1 ∷ Flow 1 ∷ Flow 3 ∷ Deliver 5 ∷ Flow 100
      ∷ [];
}

unfoldable pub windows_sent_trace : List ℕ
windows_sent_trace =
    unit_line
    ++ line (codes "1 sent 0 down 0001 0a get 2 0 80")
    ++ line (codes "2 carried 1")
    ++ line (codes "2 sent 1 up 0001 0a get-r 2 0 0080")
    ++ line (codes "2 proved low")
    ++ line (codes "3 sent 2 down 0002 0a start 7 1 010000003f010001")
    ++ line (codes "4 carried 1")
    ++ line (codes "4 sent 3 up 0002 0a start-r 7 1 0001")
    ++ line (codes "5 sent 4 down 0003 0a section 7 1 00ffffffff")
    ++ line (codes "5 sent 5 down 0003 0a section-ar 7 1 01")
    ++ line (codes "6 held")
    ++ line (codes "6 carried 1")
    ++ line (codes "6 sent 6 up 0003 0a section-r 7 1 0001")
    ++ line (codes "6 sent 7 down 0004 0a section-ar 7 1 0001")
    ++ line (codes "7 kept")
    ++ line (codes "7 sent 8 up 0003 0a section-r 7 1 0001")
    ++ line (codes "8 carried 1")
    ++ line (codes "8 sent 9 up 0004 0a section-r 7 1 -")
    ++ line (codes "8 dropped")
    ++ line (codes "8 sent 10 down 0005 0a end 7 1 fb3ee2480000003f010001")
    ++ line (codes "8 carried 1")
    ++ line (codes "8 sealed 1 63 fb3ee248")
    ++ line (codes "8 sent 11 up 0005 0a end-r 7 1 -")
    ++ line (codes "8 image done 1")

-- A check value that isn't the image's: the end is refused, and the slot holds nothing.
unfoldable pub wrong_check : Script
wrong_check = record {
  header = header;
  actions =
      Probe Low ∷ Flow 2 ∷ Image 1 1 (Some 0) two_bytes ∷ Flow 100 ∷ Commit Low 1 ∷ Flow 2 ∷ CutUnit
      ∷ StartUnit ∷ [];
}

unfoldable pub wrong_check_trace : List ℕ
wrong_check_trace =
    unit_line
    ++ line (codes "1 sent 0 down 0001 0a get 2 0 80")
    ++ line (codes "2 carried 1")
    ++ line (codes "2 sent 1 up 0001 0a get-r 2 0 0080")
    ++ line (codes "2 proved low")
    ++ line (codes "3 sent 2 down 0002 0a start 7 1 0000000002010001")
    ++ line (codes "4 carried 1")
    ++ line (codes "4 sent 3 up 0002 0a start-r 7 1 -")
    ++ line (codes "4 sent 4 down 0003 0a section-ar 7 1 00ffff")
    ++ line (codes "4 carried 1")
    ++ line (codes "4 sent 5 up 0003 0a section-r 7 1 -")
    ++ line (codes "4 sent 6 down 0004 0a end 7 1 0000000000000002010001")
    ++ line (codes "4 carried 1")
    ++ line (codes "4 sent 7 up 0004 0a end-r 7 1 01")
    ++ line (codes "4 image failed code 1")
    ++ line (codes "5 sent 8 down 0005 0a commit 7 1 -")
    ++ line (codes "6 carried 1")
    ++ line (codes "6 sent 9 up 0005 0a commit-r 7 1 03")
    ++ line (codes "6 took 0005 0a commit-r 7 1 03")
    ++ line (codes "8 unit 2 0 0 1:000000ff -")

-- A cut in the write of a commit, which leaves the old byte.
unfoldable pub cut_before : Script
cut_before = record {
  header = header;
  actions =
      Probe Low ∷ Flow 2 ∷ Image 1 1 None two_bytes ∷ Flow 100 ∷ Commit Low 1 ∷ CutIn 8 1 Old
      ∷ StartUnit ∷ [];
}

unfoldable pub cut_before_trace : List ℕ
cut_before_trace =
    unit_line
    ++ line (codes "1 sent 0 down 0001 0a get 2 0 80")
    ++ line (codes "2 carried 1")
    ++ line (codes "2 sent 1 up 0001 0a get-r 2 0 0080")
    ++ line (codes "2 proved low")
    ++ line (codes "3 sent 2 down 0002 0a start 7 1 0000000002010001")
    ++ line (codes "4 carried 1")
    ++ line (codes "4 sent 3 up 0002 0a start-r 7 1 -")
    ++ line (codes "4 sent 4 down 0003 0a section-ar 7 1 00ffff")
    ++ line (codes "4 carried 1")
    ++ line (codes "4 sent 5 up 0003 0a section-r 7 1 -")
    ++ line (codes "4 sent 6 down 0004 0a end 7 1 0000ffff00000002010001")
    ++ line (codes "4 carried 1")
    ++ line (codes "4 sealed 1 2 0000ffff")
    ++ line (codes "4 sent 7 up 0004 0a end-r 7 1 -")
    ++ line (codes "4 image done 1")
    ++ line (codes "5 sent 8 down 0005 0a commit 7 1 -")
    ++ line (codes "6 cut")
    ++ line (codes "7 unit 2 0 0 1:000000ff 2:0000ffff")

-- The same, which leaves the new byte.
unfoldable pub cut_behind : Script
cut_behind = record {
  header = header;
  actions =
      Probe Low ∷ Flow 2 ∷ Image 1 1 None two_bytes ∷ Flow 100 ∷ Commit Low 1 ∷ CutIn 8 1 New
      ∷ StartUnit ∷ [];
}

unfoldable pub cut_behind_trace : List ℕ
cut_behind_trace =
    unit_line
    ++ line (codes "1 sent 0 down 0001 0a get 2 0 80")
    ++ line (codes "2 carried 1")
    ++ line (codes "2 sent 1 up 0001 0a get-r 2 0 0080")
    ++ line (codes "2 proved low")
    ++ line (codes "3 sent 2 down 0002 0a start 7 1 0000000002010001")
    ++ line (codes "4 carried 1")
    ++ line (codes "4 sent 3 up 0002 0a start-r 7 1 -")
    ++ line (codes "4 sent 4 down 0003 0a section-ar 7 1 00ffff")
    ++ line (codes "4 carried 1")
    ++ line (codes "4 sent 5 up 0003 0a section-r 7 1 -")
    ++ line (codes "4 sent 6 down 0004 0a end 7 1 0000ffff00000002010001")
    ++ line (codes "4 carried 1")
    ++ line (codes "4 sealed 1 2 0000ffff")
    ++ line (codes "4 sent 7 up 0004 0a end-r 7 1 -")
    ++ line (codes "4 image done 1")
    ++ line (codes "5 sent 8 down 0005 0a commit 7 1 -")
    ++ line (codes "6 cut")
    ++ line (codes "7 unit 2 1 1 1:000000ff 2:0000ffff")

-- A cut past the last device call of a commit: it stands.
unfoldable pub cut_after : Script
cut_after = record {
  header = header;
  actions =
      Probe Low ∷ Flow 2 ∷ Image 1 1 None two_bytes ∷ Flow 100 ∷ Commit Low 1 ∷ CutIn 8 3 Old
      ∷ StartUnit ∷ [];
}

unfoldable pub cut_after_trace : List ℕ
cut_after_trace =
    unit_line
    ++ line (codes "1 sent 0 down 0001 0a get 2 0 80")
    ++ line (codes "2 carried 1")
    ++ line (codes "2 sent 1 up 0001 0a get-r 2 0 0080")
    ++ line (codes "2 proved low")
    ++ line (codes "3 sent 2 down 0002 0a start 7 1 0000000002010001")
    ++ line (codes "4 carried 1")
    ++ line (codes "4 sent 3 up 0002 0a start-r 7 1 -")
    ++ line (codes "4 sent 4 down 0003 0a section-ar 7 1 00ffff")
    ++ line (codes "4 carried 1")
    ++ line (codes "4 sent 5 up 0003 0a section-r 7 1 -")
    ++ line (codes "4 sent 6 down 0004 0a end 7 1 0000ffff00000002010001")
    ++ line (codes "4 carried 1")
    ++ line (codes "4 sealed 1 2 0000ffff")
    ++ line (codes "4 sent 7 up 0004 0a end-r 7 1 -")
    ++ line (codes "4 image done 1")
    ++ line (codes "5 sent 8 down 0005 0a commit 7 1 -")
    ++ line (codes "6 cut")
    ++ line (codes "7 unit 2 1 1 1:000000ff 2:0000ffff")

-- A cut in the write of a commit, which leaves a byte whose lowest bit is 0.
unfoldable pub cut_to_byte : Script
cut_to_byte = record {
  header = header;
  actions =
      Probe Low ∷ Flow 2 ∷ Image 1 1 None two_bytes ∷ Flow 100 ∷ Commit Low 1 ∷ CutIn 8 1 (Byte 164)
      ∷ StartUnit ∷ [];
}

unfoldable pub cut_to_byte_trace : List ℕ
cut_to_byte_trace =
    unit_line
    ++ line (codes "1 sent 0 down 0001 0a get 2 0 80")
    ++ line (codes "2 carried 1")
    ++ line (codes "2 sent 1 up 0001 0a get-r 2 0 0080")
    ++ line (codes "2 proved low")
    ++ line (codes "3 sent 2 down 0002 0a start 7 1 0000000002010001")
    ++ line (codes "4 carried 1")
    ++ line (codes "4 sent 3 up 0002 0a start-r 7 1 -")
    ++ line (codes "4 sent 4 down 0003 0a section-ar 7 1 00ffff")
    ++ line (codes "4 carried 1")
    ++ line (codes "4 sent 5 up 0003 0a section-r 7 1 -")
    ++ line (codes "4 sent 6 down 0004 0a end 7 1 0000ffff00000002010001")
    ++ line (codes "4 carried 1")
    ++ line (codes "4 sealed 1 2 0000ffff")
    ++ line (codes "4 sent 7 up 0004 0a end-r 7 1 -")
    ++ line (codes "4 image done 1")
    ++ line (codes "5 sent 8 down 0005 0a commit 7 1 -")
    ++ line (codes "6 cut")
    ++ line (codes "7 unit 2 0 0 1:000000ff 2:0000ffff")

-- A commit that was carried out stands after a cut.
unfoldable pub committed_and_cut : Script
committed_and_cut = record {
  header = header;
  actions =
      Probe Low ∷ Flow 2 ∷ Image 1 1 None two_bytes ∷ Flow 100 ∷ Commit Low 1 ∷ Flow 2 ∷ CutUnit
      ∷ StartUnit ∷ [];
}

unfoldable pub committed_and_cut_trace : List ℕ
committed_and_cut_trace =
    unit_line
    ++ line (codes "1 sent 0 down 0001 0a get 2 0 80")
    ++ line (codes "2 carried 1")
    ++ line (codes "2 sent 1 up 0001 0a get-r 2 0 0080")
    ++ line (codes "2 proved low")
    ++ line (codes "3 sent 2 down 0002 0a start 7 1 0000000002010001")
    ++ line (codes "4 carried 1")
    ++ line (codes "4 sent 3 up 0002 0a start-r 7 1 -")
    ++ line (codes "4 sent 4 down 0003 0a section-ar 7 1 00ffff")
    ++ line (codes "4 carried 1")
    ++ line (codes "4 sent 5 up 0003 0a section-r 7 1 -")
    ++ line (codes "4 sent 6 down 0004 0a end 7 1 0000ffff00000002010001")
    ++ line (codes "4 carried 1")
    ++ line (codes "4 sealed 1 2 0000ffff")
    ++ line (codes "4 sent 7 up 0004 0a end-r 7 1 -")
    ++ line (codes "4 image done 1")
    ++ line (codes "5 sent 8 down 0005 0a commit 7 1 -")
    ++ line (codes "6 carried 1")
    ++ line (codes "6 committed 1")
    ++ line (codes "6 sent 9 up 0005 0a commit-r 7 1 -")
    ++ line (codes "6 took 0005 0a commit-r 7 1 -")
    ++ line (codes "8 unit 2 1 1 1:000000ff 2:0000ffff")

-- An activated slot runs from the next second on, and no longer once the power was cut.
unfoldable pub activated : Script
activated = record {
  header = header;
  actions =
      Probe Low ∷ Flow 2 ∷ Image 1 1 None two_bytes ∷ Flow 100 ∷ Activate Low 1 ∷ Flow 2
      ∷ Get Low onu_data 32768 ∷ Deliver 10 ∷ Tick ∷ Tick ∷ Tick ∷ Flow 2 ∷ CutUnit ∷ StartUnit
      ∷ [];
}

unfoldable pub activated_trace : List ℕ
activated_trace =
    unit_line
    ++ line (codes "1 sent 0 down 0001 0a get 2 0 80")
    ++ line (codes "2 carried 1")
    ++ line (codes "2 sent 1 up 0001 0a get-r 2 0 0080")
    ++ line (codes "2 proved low")
    ++ line (codes "3 sent 2 down 0002 0a start 7 1 0000000002010001")
    ++ line (codes "4 carried 1")
    ++ line (codes "4 sent 3 up 0002 0a start-r 7 1 -")
    ++ line (codes "4 sent 4 down 0003 0a section-ar 7 1 00ffff")
    ++ line (codes "4 carried 1")
    ++ line (codes "4 sent 5 up 0003 0a section-r 7 1 -")
    ++ line (codes "4 sent 6 down 0004 0a end 7 1 0000ffff00000002010001")
    ++ line (codes "4 carried 1")
    ++ line (codes "4 sealed 1 2 0000ffff")
    ++ line (codes "4 sent 7 up 0004 0a end-r 7 1 -")
    ++ line (codes "4 image done 1")
    ++ line (codes "5 sent 8 down 0005 0a activate 7 1 -")
    ++ line (codes "6 carried 1")
    ++ line (codes "6 leaving activate 1")
    ++ line (codes "6 sent 9 up 0005 0a activate-r 7 1 -")
    ++ line (codes "6 took 0005 0a activate-r 7 1 -")
    ++ line (codes "7 sent 10 down 0006 0a get 2 0 80")
    ++ line (codes "8 dropped")
    ++ line (codes "9 unit 2 1 0 1:000000ff 2:0000ffff")
    ++ line (codes "11 sent 11 down 0006 0a get 2 0 80")
    ++ line (codes "12 carried 2")
    ++ line (codes "12 sent 12 up 0006 0a get-r 2 0 0080")
    ++ line (codes "12 took 0006 0a get-r 2 0 0080")
    ++ line (codes "14 unit 3 0 0 1:000000ff 2:0000ffff")
