use Rattle.std.proofs.Common.{refl}
use Rattle.alarm_spec.specs.Alarms.{bitmap_found, with_alarm, without_alarm, with_bitmap, row_of, row_at}
use Rattle.alarm_spec.specs.Log.{change}
use Rattle.alarm_spec.specs.Table.{take_answer, after_take, begun, row_fault, with_row, after_row, finished}
use Rattle.alarm_laws.proofs.worked_rows.Goals as goal

pub returns-clause-all_numbers : goal.returns-clause-all_numbers
unfolding bitmap_found with_alarm without_alarm with_bitmap take_answer after_take begun finished
returns-clause-all_numbers c = refl

pub returns-clause-after_the_last : goal.returns-clause-after_the_last
unfolding bitmap_found with_alarm without_alarm with_bitmap take_answer after_take begun finished
returns-clause-after_the_last c = refl

pub returns-clause-anew : goal.returns-clause-anew
unfolding bitmap_found with_alarm without_alarm with_bitmap take_answer after_take begun finished
returns-clause-anew c = refl

pub returns-clause-unaudited_at_first : goal.returns-clause-unaudited_at_first
unfolding take_answer after_take
returns-clause-unaudited_at_first c = refl

pub returns-clause-zero : goal.returns-clause-zero
unfolding take_answer after_take begun finished
returns-clause-zero c = refl

pub returns-clause-overflow : goal.returns-clause-overflow
unfolding bitmap_found with_alarm without_alarm with_bitmap take_answer after_take begun finished
returns-clause-overflow c = refl

pub returns-clause-change : goal.returns-clause-change
unfolding bitmap_found with_alarm without_alarm with_bitmap change
returns-clause-change c = refl

pub returns-clause-same : goal.returns-clause-same
unfolding bitmap_found with_alarm without_alarm with_bitmap change
returns-clause-same c = refl

pub returns-clause-clear : goal.returns-clause-clear
unfolding bitmap_found with_alarm without_alarm with_bitmap change
returns-clause-clear c = refl

pub returns-clause-row : goal.returns-clause-row
unfolding row_of row_at
returns-clause-row c = refl

pub returns-clause-no_row : goal.returns-clause-no_row
unfolding row_of row_at
returns-clause-no_row c = refl

pub returns-clause-audit : goal.returns-clause-audit
unfolding bitmap_found with_alarm without_alarm with_bitmap begun row_fault with_row after_row finished
returns-clause-audit c = refl

pub returns-clause-empty : goal.returns-clause-empty
unfolding bitmap_found row_fault
returns-clause-empty c = refl

pub returns-clause-repeated : goal.returns-clause-repeated
unfolding bitmap_found row_fault
returns-clause-repeated c = refl

pub returns-clause-notice_waits : goal.returns-clause-notice_waits
unfolding bitmap_found with_alarm without_alarm with_bitmap take_answer after_take begun row_fault with_row after_row finished
returns-clause-notice_waits c = refl
