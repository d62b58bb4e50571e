use Rattle.std.proofs.Common.{refl}
use Rattle.class_spec.specs.Classes.{class_table, class_row}
use Rattle.mib_spec.specs.Database.{image_values, first, first_with, ethernet, onu_g, onu2_g, t_cont, zeros_of}
use Rattle.upload_spec.specs.Pieces.{piece_of, pieces}
use Rattle.upload_spec.specs.Copies.{copied, copied_values, with_copied, with_piece, join, copied_counter, copy_counter}
use Rattle.upload_laws.proofs.worked_upload.Goals as goal

pub returns-clause-pieces : goal.returns-clause-pieces
unfolding first first_with image_values zeros_of class_row class_table ethernet onu_g onu2_g t_cont piece_of pieces
returns-clause-pieces c = refl

pub returns-clause-joined : goal.returns-clause-joined
unfolding first first_with image_values zeros_of class_row class_table ethernet onu_g onu2_g t_cont copied copied_values with_copied with_piece join
returns-clause-joined c = refl

pub returns-clause-counter : goal.returns-clause-counter
unfolding first first_with image_values zeros_of class_row class_table ethernet onu_g onu2_g t_cont copied copied_values copied_counter copy_counter
returns-clause-counter c = refl
