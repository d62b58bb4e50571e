-- Rows worked by hand: what scripts say, and where they are refused.
use Rattle.std.proofs.Common.{◌≡◌, ℕ, List, [], ◌∷◌, ◌++◌, Some, None, Ok, refl}
use Rattle.std.specs.Prelude.{codes}
use Rattle.omci_types.specs.declared.Priority.TheVariants.{Low, High}
use Rattle.frame_spec.specs.Baseline.{fault_of, trailer_at, number_at, given_check}
use Rattle.frame_spec.specs.Baseline.{computed_check}
use Rattle.frame_spec.specs.Checksum.{bits_of, number_of, inverted_bit, inverted, add_to_front}
use Rattle.frame_spec.specs.Checksum.{generator, without_first, divide, message_bits, dividend, crc}
use Rattle.extended_spec.specs.Frames.{length_at, long_given, long_computed, long_fault_of}
use Rattle.extended_spec.specs.Frames.{is_extended, any_fault_of}
use Rattle.slot_spec.specs.declared.Pick.TheVariants.{Old, New, Byte}
use Rattle.script_spec.specs.Script.{Probe, Get, Set, Activate, Commit, Reboot, Resync, Image, Flow}
use Rattle.script_spec.specs.Script.{CutIn, NoiseUnit, NoiseOlt, Tick, CutUnit, CutOlt, StartUnit}
use Rattle.script_spec.specs.Script.{StartOlt}
use Rattle.script_spec.specs.Text.{lines_of, words_of, opening, decimal_value, hex_bytes, mask_of}
use Rattle.script_spec.specs.Text.{check_of, byte_of}
use Rattle.script_spec.specs.Fault.{fault, orders_fault, events_fault, line_fault, is_header}
use Rattle.script_spec.specs.Fault.{is_orders_header}
use Rattle.script_spec.specs.Reading.{reading, orders_reading, events_reading, event_at}
use Rattle.script_spec.specs.Reading.{line_action, line_named, field_at, action_at, header_at}
use Rattle.script_spec.specs.Reading.{orders_header_at}
use Rattle.script_spec.specs.Canonical.{canonical, line_text}
use Rattle.std.specs.Fmt.{digits}
use Rattle.hex.specs.Hex.{decode_pairs, encode_with}

abbrev line : List ℕ → List ℕ
line text = text ++ (10 ∷ [])

-- a header, with upper-case hex and a carriage return
abbrev header : List ℕ
header = codes "omci 1 0016 1 32767 00fF" ++ (13 ∷ 10 ∷ [])

reads_lines : reading
    (header ++ line (codes "# a note") ++ line (codes "get low 2 0 8000") ++ line []
    ++ codes "flow 65536") ≡ Ok (record {
      header = record { room = 16; low = 1; high = 32767; factory = 0 ∷ 255 ∷ [] };
      actions = Get Low (record { class = 2; instance = 0 }) 32768 ∷ Flow 65536 ∷ [];
    })
unfolding reading opening events_reading event_at line_action line_named field_at action_at
    header_at lines_of words_of decimal_value hex_bytes mask_of decode_pairs
reads_lines = refl

-- lines of one word, of two, and of a name of two words
reads_names : reading
    (header ++ line (codes "probe high") ++ line (codes "tick") ++ line (codes "cut unit")
    ++ line (codes "start unit") ++ line (codes "cut olt") ++ line (codes "start olt 007 32767")
    ++ line (codes "set high 272 5 8000 0A")) ≡ Ok (record {
      header = record { room = 16; low = 1; high = 32767; factory = 0 ∷ 255 ∷ [] };
      actions =
          Probe High ∷ Tick ∷ CutUnit ∷ StartUnit ∷ CutOlt ∷ StartOlt 7 32767
          ∷ Set High (record { class = 272; instance = 5 }) 32768 (10 ∷ []) ∷ [];
    })
unfolding reading opening events_reading event_at line_action line_named field_at action_at
    header_at lines_of words_of decimal_value hex_bytes mask_of decode_pairs
reads_names = refl

reads_noise : reading (header ++ line (codes "noise unit 00") ++ line (codes "noise olt -"))
    ≡ Ok (record {
      header = record { room = 16; low = 1; high = 32767; factory = 0 ∷ 255 ∷ [] };
      actions = NoiseUnit (0 ∷ []) ∷ NoiseOlt [] ∷ [];
    })
unfolding reading opening events_reading event_at line_action line_named field_at action_at
    header_at lines_of words_of decimal_value hex_bytes mask_of decode_pairs any_fault_of
    is_extended fault_of trailer_at given_check computed_check bits_of number_of inverted_bit
    inverted add_to_front generator without_first divide message_bits dividend crc
reads_noise = refl

-- images, with a check value and without one, and what a cut gives to each byte
reads_images : reading
    (header ++ line (codes "image 1 1 - ffff") ++ line (codes "image 0 0256 00ffF1A0 00")
    ++ line (codes "activate high 1") ++ line (codes "commit low 00") ++ line (codes "reboot high")
    ++ line (codes "cutin 6 1000 old") ++ line (codes "cutin 0 1 new")
    ++ line (codes "cutin 7 01 a5")) ≡ Ok (record {
      header = record { room = 16; low = 1; high = 32767; factory = 0 ∷ 255 ∷ [] };
      actions =
          Image 1 1 None (255 ∷ 255 ∷ []) ∷ Image 0 256 (Some 0x00FFF1A0) (0 ∷ [])
          ∷ Activate High 1 ∷ Commit Low 0 ∷ Reboot High ∷ CutIn 6 1000 Old ∷ CutIn 0 1 New
          ∷ CutIn 7 1 (Byte 0xA5) ∷ [];
    })
unfolding reading opening events_reading event_at line_action line_named field_at action_at
    header_at lines_of words_of decimal_value hex_bytes check_of byte_of decode_pairs
reads_images = refl

no_input : fault [] ≡ Some (1, 4)
unfolding fault opening lines_of
no_input = refl

-- a number of two digits where four are wanted, in the third line
short_mask : fault (header ++ line (codes "# a note") ++ line (codes "get low 2 0 80"))
    ≡ Some (3, 3)
unfolding fault opening events_fault line_fault line_named is_header lines_of words_of
    decimal_value
short_mask = refl

-- a carriage return in the middle of a line, and the words after it
return_inside : fault (header ++ codes "flow" ++ line (13 ∷ codes " 1")) ≡ Some (2, 1)
unfolding fault opening events_fault line_fault line_named is_header lines_of words_of
    decimal_value
return_inside = refl

-- a carriage return at the end of the input is no part of the line's end
return_last : fault (header ++ codes "flow 1" ++ (13 ∷ [])) ≡ Some (2, 2)
unfolding fault opening events_fault line_fault line_named is_header lines_of words_of
    decimal_value
return_last = refl

valid : fault (header ++ codes "create low 272 5 -") ≡ None
unfolding fault opening events_fault line_fault line_named is_header lines_of words_of
    decimal_value
valid = refl

-- neither end of the channel
no_end : fault (header ++ line (codes "cut onu")) ≡ Some (2, 1)
unfolding fault opening events_fault line_fault line_named is_header lines_of words_of
    decimal_value
no_end = refl

-- The manager's start has two numbers, the unit's has none; the count of words comes before the
-- numbers.
unit_with_numbers : fault (header ++ line (codes "start olt 1 1") ++ line (codes "start unit 1 1"))
    ≡ Some (3, 1)
unfolding fault opening events_fault line_fault line_named is_header lines_of words_of
    decimal_value
unit_with_numbers = refl

olt_without_number : fault (header ++ line (codes "start olt 0")) ≡ Some (2, 1)
unfolding fault opening events_fault line_fault line_named is_header lines_of words_of
    decimal_value
olt_without_number = refl

olt_from_zero : fault (header ++ line (codes "start olt 1 0")) ≡ Some (2, 2)
unfolding fault opening events_fault line_fault line_named is_header lines_of words_of
    decimal_value
olt_from_zero = refl

-- a request to get ONU data, with its check value: noise that decodes
whole_frame : fault (header ++ line (codes "noise unit 0001490a000200008000000000000000"
    ++ codes "0000000000000000000000000000000000000000000000000000002886d7d0d6"))
    ≡ Some (2, 5)
unfolding fault opening events_fault line_fault line_named is_header lines_of words_of
    decimal_value hex_bytes decode_pairs any_fault_of is_extended fault_of trailer_at given_check
    computed_check bits_of number_of inverted_bit inverted add_to_front generator without_first
    divide message_bits dividend crc
whole_frame = refl

-- the same with another last byte
broken_frame : fault (header ++ line (codes "noise unit 0001490a000200008000000000000000"
    ++ codes "0000000000000000000000000000000000000000000000000000002886d7d0d7"))
    ≡ None
unfolding fault opening events_fault line_fault line_named is_header lines_of words_of
    decimal_value hex_bytes decode_pairs any_fault_of is_extended fault_of trailer_at given_check
    computed_check bits_of number_of inverted_bit inverted add_to_front generator without_first
    divide message_bits dividend crc
broken_frame = refl

-- an extended request to get ONU data, with its check value: noise that decodes too
whole_long_frame : fault
    (header ++ line (codes "noise olt 0001490b0002000000028000" ++ codes "a7c4e70f"))
    ≡ Some (2, 5)
unfolding fault opening events_fault line_fault line_named is_header lines_of words_of decimal_value
    hex_bytes decode_pairs any_fault_of is_extended long_fault_of length_at number_at long_given
    long_computed bits_of number_of inverted_bit inverted add_to_front generator without_first
    divide message_bits dividend crc
whole_long_frame = refl

-- the same without its last byte
short_long_frame : fault
    (header ++ line (codes "noise olt 0001490b0002000000028000" ++ codes "a7c4e7")) ≡ None
unfolding fault opening events_fault line_fault line_named is_header lines_of words_of decimal_value
    hex_bytes decode_pairs any_fault_of is_extended long_fault_of length_at number_at
short_long_frame = refl

-- whole bytes come first, and then whether they decode
half_byte : fault (header ++ line (codes "noise unit 0")) ≡ Some (2, 3)
unfolding fault opening events_fault line_fault line_named is_header lines_of words_of
    decimal_value
half_byte = refl

-- there are two slots
third_slot : fault (header ++ line (codes "commit low 1") ++ line (codes "activate low 2"))
    ≡ Some (3, 2)
unfolding fault opening events_fault line_fault line_named is_header lines_of words_of
    decimal_value
third_slot = refl

-- no section in a window, before an image of no byte
no_section : fault (header ++ line (codes "image 0 0 - -")) ≡ Some (2, 2)
unfolding fault opening events_fault line_fault line_named is_header lines_of words_of
    decimal_value
no_section = refl

long_window : fault (header ++ line (codes "image 0 257 - 00")) ≡ Some (2, 2)
unfolding fault opening events_fault line_fault line_named is_header lines_of words_of
    decimal_value
long_window = refl

short_check : fault (header ++ line (codes "image 0 256 0ffff1a 00")) ≡ Some (2, 3)
unfolding fault opening events_fault line_fault line_named is_header lines_of words_of
    decimal_value
short_check = refl

no_image : fault (header ++ line (codes "image 0 256 00fff1a0 -")) ≡ Some (2, 3)
unfolding fault opening events_fault line_fault line_named is_header lines_of words_of
    decimal_value
no_image = refl

-- device calls are counted from 1, and a line cuts the power at the 1,000th at most
call_zero : fault (header ++ line (codes "cutin 0 0 old")) ≡ Some (2, 2)
unfolding fault opening events_fault line_fault line_named is_header lines_of words_of
    decimal_value
call_zero = refl

late_call : fault (header ++ line (codes "cutin 0 1001 old")) ≡ Some (2, 2)
unfolding fault opening events_fault line_fault line_named is_header lines_of words_of
    decimal_value
late_call = refl

-- what is no name of a pick has to be one byte
unknown_pick : fault (header ++ line (codes "cutin 0 1 OLD")) ≡ Some (2, 3)
unfolding fault opening events_fault line_fault line_named is_header lines_of words_of
    decimal_value
unknown_pick = refl

two_bytes_picked : fault (header ++ line (codes "cutin 0 1 a5a5")) ≡ Some (2, 3)
unfolding fault opening events_fault line_fault line_named is_header lines_of words_of
    decimal_value
two_bytes_picked = refl

no_byte_picked : fault (header ++ line (codes "cutin 0 1 -")) ≡ Some (2, 3)
unfolding fault opening events_fault line_fault line_named is_header lines_of words_of
    decimal_value
no_byte_picked = refl

-- zeros in front are gone, hex is in lower case, and each line has its line feed
prints_lines : canonical (record {
  header = record { room = 16; low = 1; high = 32767; factory = 0 ∷ 255 ∷ [] };
  actions =
      Set High (record { class = 272; instance = 5 }) 32779 [] ∷ NoiseUnit (0xAB ∷ []) ∷ Tick
      ∷ StartOlt 7 32767 ∷ [];
}) ≡ line (codes "omci 1 16 1 32767 00ff") ++ line (codes "set high 272 5 800b -")
    ++ line (codes "noise unit ab") ++ line (codes "tick") ++ line (codes "start olt 7 32767")
unfolding canonical line_text digits encode_with
prints_lines = refl

prints_images : canonical (record {
  header = record { room = 16; low = 1; high = 32767; factory = 0 ∷ 255 ∷ [] };
  actions =
      Image 1 256 None (0xAB ∷ []) ∷ Image 0 1 (Some 0xFF) (0 ∷ []) ∷ Activate Low 0
      ∷ Commit High 1 ∷ Reboot Low ∷ CutIn 12 1000 Old ∷ CutIn 0 1 New ∷ CutIn 0 1 (Byte 10) ∷ [];
}) ≡ line (codes "omci 1 16 1 32767 00ff") ++ line (codes "image 1 256 - ab")
    ++ line (codes "image 0 1 000000ff 00") ++ line (codes "activate low 0")
    ++ line (codes "commit high 1") ++ line (codes "reboot low") ++ line (codes "cutin 12 1000 old")
    ++ line (codes "cutin 0 1 new") ++ line (codes "cutin 0 1 0a")
unfolding canonical line_text digits encode_with
prints_images = refl

-- ---- orders

reads_orders : orders_reading
    (line (codes "# a note") ++ line (codes "orders 1 01 32767") ++ line []
    ++ line (codes "probe low") ++ codes "set high 272 5 8000 0A" ++ (13 ∷ 10 ∷ [])
    ++ codes "resync") ≡ Ok (record {
      header = record { low = 1; high = 32767 };
      actions =
          Probe Low ∷ Set High (record { class = 272; instance = 5 }) 32768 (10 ∷ []) ∷ Resync ∷ [];
    })
unfolding orders_reading opening events_reading event_at line_action line_named field_at action_at
    orders_header_at lines_of words_of decimal_value hex_bytes mask_of decode_pairs
reads_orders = refl

-- the manager's lines of images are orders
reads_image_orders : orders_reading
    (line (codes "orders 1 1 1") ++ line (codes "image 1 4 - 00") ++ line (codes "commit low 1")
    ++ line (codes "activate low 1") ++ line (codes "reboot high")) ≡ Ok (record {
      header = record { low = 1; high = 1 };
      actions =
          Image 1 4 None (0 ∷ []) ∷ Commit Low 1 ∷ Activate Low 1 ∷ Reboot High ∷ [];
    })
unfolding orders_reading opening events_reading event_at line_action line_named field_at action_at
    orders_header_at lines_of words_of decimal_value hex_bytes check_of decode_pairs
reads_image_orders = refl

no_orders : orders_fault (line []) ≡ Some (2, 4)
unfolding orders_fault opening lines_of
no_orders = refl

-- a script's header is none of orders
header_of_a_script : orders_fault (header ++ line (codes "probe low")) ≡ Some (1, 4)
unfolding orders_fault opening events_fault is_orders_header lines_of words_of decimal_value
header_of_a_script = refl

third_number : orders_fault (line (codes "orders 1 1 1 1")) ≡ Some (1, 4)
unfolding orders_fault opening events_fault is_orders_header lines_of words_of decimal_value
third_number = refl

-- a line that scripts alone have is an unknown word, before its other words are looked at
tick_in_orders : orders_fault (line (codes "orders 1 1 1") ++ line (codes "check")
    ++ line (codes "tick")) ≡ Some (3, 1)
unfolding orders_fault opening events_fault line_fault line_named is_orders_header lines_of words_of
    decimal_value
tick_in_orders = refl

delivery_in_orders : orders_fault (line (codes "orders 1 1 1") ++ line (codes "deliver x"))
    ≡ Some (2, 1)
unfolding orders_fault opening events_fault line_fault line_named is_orders_header lines_of words_of
    decimal_value
delivery_in_orders = refl

cut_in_orders : orders_fault (line (codes "orders 1 1 1") ++ line (codes "cutin 0 1 old"))
    ≡ Some (2, 1)
unfolding orders_fault opening events_fault line_fault line_named is_orders_header lines_of words_of
    decimal_value
cut_in_orders = refl

number_in_orders : orders_fault (line (codes "orders 1 1 1") ++ line (codes "delete low 65536 0"))
    ≡ Some (2, 2)
unfolding orders_fault opening events_fault line_fault line_named is_orders_header lines_of words_of
    decimal_value
number_in_orders = refl
