use Rattle.std.proofs.Common.{refl}
use Rattle.frame_spec.specs.Checksum.{crc, number_of, inverted, divide, dividend, message_bits}
use Rattle.frame_spec.specs.Checksum.{bits_of, without_first, inverted_bit}
use Rattle.class_spec.specs.Classes.{class_row, class_table}
use Rattle.window_spec.specs.Incoming.{fit, after_section, answer}
use Rattle.store_spec.specs.Deeds.{image_code, start_code, window_code, seal_code, deed}
use Rattle.store_laws.proofs.worked_rows.Goals as goal

pub returns-clause-whole : goal.returns-clause-whole
unfolding number_of inverted divide dividend message_bits bits_of without_first inverted_bit crc
    class_row class_table fit after_section answer image_code start_code window_code seal_code deed
returns-clause-whole c = refl

pub returns-clause-slots : goal.returns-clause-slots
unfolding number_of inverted divide dividend message_bits bits_of without_first inverted_bit crc
    class_row class_table fit after_section answer image_code start_code window_code seal_code deed
returns-clause-slots c = refl

pub returns-clause-history : goal.returns-clause-history
unfolding number_of inverted divide dividend message_bits bits_of without_first inverted_bit crc
    class_row class_table fit after_section answer image_code start_code window_code seal_code deed
returns-clause-history c = refl

pub returns-clause-again : goal.returns-clause-again
unfolding number_of inverted divide dividend message_bits bits_of without_first inverted_bit crc
    class_row class_table fit after_section answer image_code start_code window_code seal_code deed
returns-clause-again c = refl

pub returns-clause-recommit : goal.returns-clause-recommit
unfolding number_of inverted divide dividend message_bits bits_of without_first inverted_bit crc
    class_row class_table fit after_section answer image_code start_code window_code seal_code deed
returns-clause-recommit c = refl

pub returns-clause-entities : goal.returns-clause-entities
unfolding crc class_row class_table fit after_section answer image_code start_code window_code
    seal_code deed
returns-clause-entities c = refl

pub returns-clause-starts : goal.returns-clause-starts
unfolding crc class_row class_table fit after_section answer image_code start_code window_code
    seal_code deed
returns-clause-starts c = refl

pub returns-clause-no_download : goal.returns-clause-no_download
unfolding crc class_row class_table fit after_section answer image_code start_code window_code
    seal_code deed
returns-clause-no_download c = refl

pub returns-clause-windows : goal.returns-clause-windows
unfolding crc class_row class_table fit after_section answer image_code start_code window_code
    seal_code deed
returns-clause-windows c = refl

pub returns-clause-past : goal.returns-clause-past
unfolding crc class_row class_table fit after_section answer image_code start_code window_code
    seal_code deed
returns-clause-past c = refl

pub returns-clause-other_slot : goal.returns-clause-other_slot
unfolding crc class_row class_table fit after_section answer image_code start_code window_code
    seal_code deed
returns-clause-other_slot c = refl

pub returns-clause-sizes : goal.returns-clause-sizes
unfolding crc class_row class_table fit after_section answer image_code start_code window_code
    seal_code deed
returns-clause-sizes c = refl

pub returns-clause-checks : goal.returns-clause-checks
unfolding number_of inverted divide dividend message_bits bits_of without_first inverted_bit crc
    class_row class_table fit after_section answer image_code start_code window_code seal_code deed
returns-clause-checks c = refl

pub returns-clause-fault : goal.returns-clause-fault
unfolding crc class_row class_table fit after_section answer image_code start_code window_code
    seal_code deed
returns-clause-fault c = refl

pub returns-clause-doubt : goal.returns-clause-doubt
unfolding crc class_row class_table fit after_section answer image_code start_code window_code
    seal_code deed
returns-clause-doubt c = refl
