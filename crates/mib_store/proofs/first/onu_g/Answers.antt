use Rattle.std.proofs.Common.{refl}
use Rattle.class_spec.specs.Classes.{class_row, class_table}
use Rattle.mib_spec.specs.Database.{onu_g, zeros_of}
use Rattle.mib_store.specs.Entries.{values_in}
use Rattle.mib_store.proofs.first.onu_g.Goals as goal

pub returns : goal.returns
unfolding values_in class_row class_table onu_g zeros_of
returns c = rw (c.copy_from_slice.ensures.after, c.copy_from_slice-2.ensures.after) refl
