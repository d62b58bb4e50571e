use Rattle.std.proofs.Common.{◌≡◌, Result, Ok, Err, OnOk, OnErr, subst, sym, arith}
use Rattle.alarm_spec.specs.Log.{Log, change}
use Rattle.unit_laws.specs.Own.{AreOwn}
use Rattle.unit_laws.proofs.Own.{own_after, seven_at_most}
use Rattle.onu_agent.proofs.alarms.Alarms.change.Goals as goal

pub change-requires : goal.change-requires
change-requires c = omega (arith, seven_at_most c.self.inside.log.alarms c.self.invariant)

pub invariant_of-self : goal.invariant_of-self
invariant_of-self c = from c.change.result c.change.ensures.log c.change.ensures.err
  where
    own : AreOwn c.self.inside.log.alarms
    own = c.self.invariant

    from : {T E : Type 0} (r : Result T E) → OnOk r (c.change.new.self ≡ (change c.args.entity c.args.bitmap c.self.inside.log).log) → OnErr r (c.change.new.self ≡ c.self.inside.log) → AreOwn c.change.new.self.alarms
    from (Ok notice) changed same = subst (λ (l : Log). AreOwn l.alarms) (sym changed) (own_after c.args.entity c.args.bitmap c.self.inside.log c.requires.may own)
    from (Err fault) changed same = subst (λ (l : Log). AreOwn l.alarms) (sym same) own
