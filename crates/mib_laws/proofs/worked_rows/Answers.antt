use Rattle.std.proofs.Common.{refl}
use Rattle.class_spec.specs.Classes.{class_table, class_row}
use Rattle.class_spec.specs.Masks.{known_mask, unknown_mask, fixed_mask, width_of, place_of}
use Rattle.mib_spec.specs.Database.{managed_of, counter, with_counter, with_entity, with_values, values_of, zeros_of, image_values, first, first_with, ethernet, onu_g, onu2_g, t_cont, with_counter_grown}
use Rattle.mib_spec.specs.Requests.{create_outcome, create_code, new_entity, delete_outcome, delete_code, set_outcome, set_code, set_effect, get_outcome_in, get_code, reset, sense_outcome, may_sense, is_sensed}
use Rattle.mib_laws.proofs.worked_rows.Goals as goal

pub returns-clause-classes : goal.returns-clause-classes
unfolding class_table width_of
returns-clause-classes c = refl

pub returns-clause-third_attribute : goal.returns-clause-third_attribute
unfolding class_row class_table place_of
returns-clause-third_attribute c = refl

pub returns-clause-eleven : goal.returns-clause-eleven
unfolding first first_with
returns-clause-eleven c = refl

pub returns-clause-image : goal.returns-clause-image
unfolding first first_with managed_of values_of zeros_of image_values class_row class_table ethernet onu_g onu2_g t_cont
returns-clause-image c = refl

pub returns-clause-set_is_refused : goal.returns-clause-set_is_refused
unfolding set_outcome set_code set_effect known_mask unknown_mask fixed_mask width_of first first_with managed_of values_of zeros_of image_values class_row class_table ethernet onu_g onu2_g t_cont
returns-clause-set_is_refused c = refl

pub returns-clause-get_is_too_wide : goal.returns-clause-get_is_too_wide
unfolding create_outcome create_code new_entity with_counter_grown counter with_counter with_values with_entity get_outcome_in get_code known_mask unknown_mask fixed_mask width_of first first_with managed_of values_of zeros_of image_values class_row class_table ethernet onu_g onu2_g t_cont
returns-clause-get_is_too_wide c = refl

pub returns-clause-create_grows : goal.returns-clause-create_grows
unfolding create_outcome create_code new_entity with_counter_grown counter with_counter with_values with_entity first first_with managed_of values_of zeros_of image_values class_row class_table ethernet onu_g onu2_g t_cont
returns-clause-create_grows c = refl

pub returns-clause-counter_is_read : goal.returns-clause-counter_is_read
unfolding create_outcome create_code new_entity with_counter_grown counter with_counter with_values with_entity get_outcome_in get_code known_mask unknown_mask fixed_mask width_of first first_with managed_of values_of zeros_of image_values class_row class_table ethernet onu_g onu2_g t_cont
returns-clause-counter_is_read c = refl

pub returns-clause-sets_are_counted : goal.returns-clause-sets_are_counted
unfolding set_outcome set_code set_effect with_counter_grown counter with_counter with_values known_mask unknown_mask fixed_mask width_of first first_with managed_of values_of zeros_of image_values class_row class_table ethernet onu_g onu2_g t_cont
returns-clause-sets_are_counted c = refl

pub returns-clause-reset_is_first : goal.returns-clause-reset_is_first
unfolding reset create_outcome create_code new_entity with_counter_grown counter with_counter with_values with_entity first first_with managed_of values_of zeros_of image_values class_row class_table ethernet onu_g onu2_g t_cont
returns-clause-reset_is_first c = refl

pub returns-clause-absent_is_kept : goal.returns-clause-absent_is_kept
unfolding delete_outcome delete_code first first_with managed_of values_of zeros_of image_values class_row class_table ethernet onu_g onu2_g t_cont
returns-clause-absent_is_kept c = refl

pub returns-clause-unit_deletes : goal.returns-clause-unit_deletes
unfolding delete_outcome delete_code first first_with managed_of values_of zeros_of image_values class_row class_table ethernet onu_g onu2_g t_cont
returns-clause-unit_deletes c = refl

pub returns-clause-twice : goal.returns-clause-twice
unfolding create_outcome create_code new_entity with_counter_grown counter with_counter with_values with_entity first first_with managed_of values_of zeros_of image_values class_row class_table ethernet onu_g onu2_g t_cont
returns-clause-twice c = refl

pub returns-clause-unit_creates : goal.returns-clause-unit_creates
unfolding create_outcome create_code new_entity with_counter_grown counter with_counter with_values with_entity first first_with managed_of values_of zeros_of image_values class_row class_table ethernet onu_g onu2_g t_cont
returns-clause-unit_creates c = refl

pub returns-clause-no_class : goal.returns-clause-no_class
unfolding create_outcome create_code new_entity with_counter_grown counter with_counter with_values with_entity first first_with managed_of values_of zeros_of image_values class_row class_table ethernet onu_g onu2_g t_cont
returns-clause-no_class c = refl

pub returns-clause-measured : goal.returns-clause-measured
unfolding sense_outcome may_sense is_sensed first first_with managed_of values_of zeros_of image_values class_row class_table ethernet onu_g onu2_g t_cont
returns-clause-measured c = refl

pub returns-clause-measured_is_read : goal.returns-clause-measured_is_read
unfolding sense_outcome may_sense is_sensed with_values get_outcome_in get_code known_mask unknown_mask fixed_mask width_of first first_with managed_of values_of zeros_of image_values class_row class_table ethernet onu_g onu2_g t_cont
returns-clause-measured_is_read c = refl
