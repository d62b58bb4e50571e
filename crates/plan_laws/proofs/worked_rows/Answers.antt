use Rattle.std.proofs.Common.{refl}
use Rattle.class_spec.specs.Classes.{class_table, class_row}
use Rattle.class_spec.specs.Masks.{known_mask, unknown_mask, fixed_mask, width_of}
use Rattle.upload_spec.specs.Copies.{copied, with_copied}
use Rattle.plan_spec.specs.Wanting.{wanted_fault, with_wanted}
use Rattle.plan_spec.specs.Steps.{planned, steps, deletes, entity_steps, create_of, sets, set_of, told_of, standing}
use Rattle.plan_laws.proofs.worked_rows.Goals as goal

pub returns-clause-another : goal.returns-clause-another
unfolding planned steps deletes entity_steps create_of sets set_of told_of standing wanted_fault with_wanted copied with_copied class_row class_table known_mask unknown_mask fixed_mask width_of
returns-clause-another c = refl

pub returns-clause-same : goal.returns-clause-same
unfolding planned steps deletes entity_steps create_of sets set_of told_of standing wanted_fault with_wanted copied with_copied class_row class_table known_mask unknown_mask fixed_mask width_of
returns-clause-same c = refl

pub returns-clause-differs : goal.returns-clause-differs
unfolding planned steps deletes entity_steps create_of sets set_of told_of standing wanted_fault with_wanted copied with_copied class_row class_table known_mask unknown_mask fixed_mask width_of
returns-clause-differs c = refl

pub returns-clause-not_made : goal.returns-clause-not_made
unfolding planned steps deletes entity_steps create_of sets set_of told_of standing wanted_fault with_wanted copied with_copied class_row class_table known_mask unknown_mask fixed_mask width_of
returns-clause-not_made c = refl

pub returns-clause-least_is_not_made : goal.returns-clause-least_is_not_made
unfolding planned steps deletes entity_steps create_of sets set_of told_of standing wanted_fault with_wanted copied with_copied class_row class_table known_mask unknown_mask fixed_mask width_of
returns-clause-least_is_not_made c = refl

pub returns-clause-ascending : goal.returns-clause-ascending
unfolding planned steps deletes entity_steps create_of sets set_of told_of standing wanted_fault with_wanted copied with_copied class_row class_table known_mask unknown_mask fixed_mask width_of
returns-clause-ascending c = refl

pub returns-clause-unnamed_stays : goal.returns-clause-unnamed_stays
unfolding planned steps deletes entity_steps create_of sets set_of told_of standing wanted_fault with_wanted copied with_copied class_row class_table known_mask unknown_mask fixed_mask width_of
returns-clause-unnamed_stays c = refl

pub returns-clause-two_sets : goal.returns-clause-two_sets
unfolding planned steps deletes entity_steps create_of sets set_of told_of standing wanted_fault with_wanted copied with_copied class_row class_table known_mask unknown_mask fixed_mask width_of
returns-clause-two_sets c = refl

pub returns-clause-greedy : goal.returns-clause-greedy
unfolding planned steps deletes entity_steps create_of sets set_of told_of standing wanted_fault with_wanted copied with_copied class_row class_table known_mask unknown_mask fixed_mask width_of
returns-clause-greedy c = refl

pub returns-clause-unknown : goal.returns-clause-unknown
unfolding planned steps deletes entity_steps create_of sets set_of told_of standing wanted_fault with_wanted copied with_copied class_row class_table known_mask unknown_mask fixed_mask width_of
returns-clause-unknown c = refl

pub returns-clause-counter : goal.returns-clause-counter
unfolding planned steps deletes entity_steps create_of sets set_of told_of standing wanted_fault with_wanted copied with_copied class_row class_table known_mask unknown_mask fixed_mask width_of
returns-clause-counter c = refl

pub returns-clause-read_only : goal.returns-clause-read_only
unfolding planned steps deletes entity_steps create_of sets set_of told_of standing wanted_fault with_wanted copied with_copied class_row class_table known_mask unknown_mask fixed_mask width_of
returns-clause-read_only c = refl

pub returns-clause-width : goal.returns-clause-width
unfolding planned steps deletes entity_steps create_of sets set_of told_of standing wanted_fault with_wanted copied with_copied class_row class_table known_mask unknown_mask fixed_mask width_of
returns-clause-width c = refl

pub returns-clause-repeated : goal.returns-clause-repeated
unfolding planned steps deletes entity_steps create_of sets set_of told_of standing wanted_fault with_wanted copied with_copied class_row class_table known_mask unknown_mask fixed_mask width_of
returns-clause-repeated c = refl

pub returns-clause-good : goal.returns-clause-good
unfolding planned steps deletes entity_steps create_of sets set_of told_of standing wanted_fault with_wanted copied with_copied class_row class_table known_mask unknown_mask fixed_mask width_of
returns-clause-good c = refl
