-- The runs that were worked by hand compute: the definitions are evaluated, check values included.
use Rattle.std.proofs.Common.{◌≡◌, ◌++◌, [], ◌∷◌, refl}
use Rattle.std.specs.Prelude.{codes}
use Rattle.std.specs.Fmt.{digits}
use Rattle.hex.specs.Hex.{encode_with}
use Rattle.frame_spec.specs.Checksum.{crc, dividend, divide, without_first, generator, add_to_front}
use Rattle.frame_spec.specs.Checksum.{inverted, inverted_bit, bits_of, number_of, message_bits}
use Rattle.frame_spec.specs.Baseline.{checked_bytes, spelling, number_at, frame_of, trailer_at}
use Rattle.frame_spec.specs.Baseline.{given_check, computed_check, fault_of, frame_unless}
use Rattle.frame_spec.specs.Baseline.{packet_frame}
use Rattle.message_spec.specs.Fields.{padding, put}
use Rattle.message_spec.specs.Reading.{plain, message_of}
use Rattle.message_spec.specs.Types.{type_numbered, kind_of}
use Rattle.message_spec.specs.Text.{kind_text, cut, contents_text, message_text}
use Rattle.class_spec.specs.Classes.{class_table, class_row}
use Rattle.class_spec.specs.Masks.{known_mask, unknown_mask, fixed_mask, width_of}
use Rattle.mib_spec.specs.Database.{managed_of, zeros_of, values_of, with_values, counter}
use Rattle.mib_spec.specs.Database.{with_counter, image_values, with_software, ethernet, onu_g}
use Rattle.mib_spec.specs.Database.{onu2_g, t_cont, first_with, first}
use Rattle.mib_spec.specs.Requests.{get_code, get_outcome_in}
use Rattle.retry_spec.specs.Kept.{kept_for, kept_with}
use Rattle.slot_spec.specs.Layout.{version}
use Rattle.unit_spec.specs.Images.{reboot_code}
use Rattle.unit_spec.specs.Onu.{onu_started, answer, take_request, onu_received, onu_ticked}
use Rattle.world_spec.specs.Trace.{effect_text, line_text}
use Rattle.turn_laws.specs.Worked.{probed, rebooted, texts, line}

pub record Worked : Type 0 where
  pub probe_text-is : probed.text ≡ line (codes "0 unit 1 0 0 1:000000ff -")
  pub probe_sent-is : texts probed ≡ codes "0001 0a get-r 2 0 0080" ∷ []
  pub probe_turns-is : probed.turns ≡ 3
  pub reboot_text-is : rebooted.text ≡ line (codes "0 unit 1 0 0 1:000000ff -")
      ++ line (codes "2 unit 2 0 0 1:000000ff -")
  pub reboot_sent-is : texts rebooted ≡ codes "0001 0a reboot-r 256 0 -" ∷ []

pub worked : Worked
unfolding probed rebooted digits encode_with crc dividend divide without_first generator
    add_to_front inverted inverted_bit bits_of number_of message_bits checked_bytes spelling
    number_at frame_of trailer_at given_check computed_check fault_of frame_unless packet_frame
    padding put plain message_of type_numbered kind_of kind_text cut contents_text message_text
    class_table class_row known_mask unknown_mask fixed_mask width_of managed_of zeros_of values_of
    with_values counter with_counter image_values with_software ethernet onu_g onu2_g t_cont
    first_with first get_code get_outcome_in reboot_code kept_for kept_with version onu_started answer
    take_request onu_received onu_ticked effect_text line_text
worked = record {
  probe_text-is = refl;
  probe_sent-is = refl;
  probe_turns-is = refl;
  reboot_text-is = refl;
  reboot_sent-is = refl;
}
