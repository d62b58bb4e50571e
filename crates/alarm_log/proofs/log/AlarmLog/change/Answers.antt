use Rattle.std.proofs.Common.{sym, ap, subst, length, arith}
use Rattle.alarm_spec.specs.Alarms.{Alarms, IsWhole}
use Rattle.alarm_spec.specs.Log.{Log}
use Rattle.alarm_laws.proofs.Maps.{ascending_with_bitmap, raised_with_bitmap, length_with_bitmap}
use Rattle.alarm_log.proofs.log.AlarmLog.change.Goals as goal

pub invariant_of-self-2 : goal.invariant_of-self-2
invariant_of-self-2 c =
    let told = c.in_ok-tell.ensures in
    let whole : IsWhole c.self.inside.rows = c.self.invariant.0 in (
      subst (λ (es : Alarms). IsWhole es) (sym told.ok) (record {
        ascending = ascending_with_bitmap c.args.entity c.args.bitmap c.self.inside.rows whole.ascending;
        raised = raised_with_bitmap c.args.entity c.args.bitmap c.self.inside.rows (λ raised. record { class = told.numbers.0; instance = told.numbers.1; bytes = told.bytes; raised = raised }) whole.raised;
      }),
      omega (arith, ap length told.ok, length_with_bitmap c.args.entity c.args.bitmap c.self.inside.rows, ap (λ (l : Log). length l.alarms) c.self.view_is, c.requires),
    )
