use Rattle.std.proofs.Common.{ℕ, List, length, subst, ap, ◌∙◌, arith}
use Rattle.image_slots.proofs.Mounting.{mount_answers, mount_left, front_finds, front_refuses}
use Rattle.image_slots.proofs.Results.{IfOk-more, IfErr-more, OnOk-always}
use Rattle.image_slots.proofs.slots.Slots.mount.Goals as goal

pub returns-in-Ok-clause-settled : goal.returns-in-Ok-clause-settled
returns-in-Ok-clause-settled g c = λ room s bytes reads long stands.
    mount_answers g.D.Disk.seen g.D.Disk.may_leave c.settle.new.disk c.args.size room c.settle.new.head bytes s c.slots_of.result (c.in-Ok.ensures.front bytes reads) long stands
    c.slots_of.ensures.disk c.slots_of.ensures.found c.slots_of.ensures.refused (c.settle.ensures.seen ∙ reads) (c.in-Ok.ensures.only bytes reads)

pub returns-in-Ok-clause-length : goal.returns-in-Ok-clause-length
returns-in-Ok-clause-length g c = λ bytes reads. OnOk-always c.slots_of.result _ (λ image left.
    ap (λ (l : List ℕ). length l) (c.in-Ok.ensures.only bytes reads image (subst (λ d. g.D.Disk.may_leave d image) c.slots_of.ensures.disk left)))

pub returns-in-Ok-clause-outcome : goal.returns-in-Ok-clause-outcome
returns-in-Ok-clause-outcome g c = λ r is. (_, ap g.D.Disk.rig c.slots_of.ensures.disk ∙ (c.in-Ok.ensures.rig r is).0, mount_left c.args.size r (omega arith))

pub returns-in-Ok-clause-found : goal.returns-in-Ok-clause-found
returns-in-Ok-clause-found g c = λ bytes reads. IfOk-more c.slots_of.result _ _ c.slots_of.ensures.found (λ slots found. front_finds c.args.size c.settle.new.head bytes slots (c.in-Ok.ensures.front bytes reads) found)

pub returns-in-Ok-clause-refused : goal.returns-in-Ok-clause-refused
returns-in-Ok-clause-refused g c = λ bytes reads long. IfErr-more c.slots_of.result _ _ c.slots_of.ensures.refused (λ refusal refused. front_refuses c.args.size c.settle.new.head bytes refusal (c.in-Ok.ensures.front bytes reads) refused)

pub returns-in-Err-clause-outcome : goal.returns-in-Err-clause-outcome
returns-in-Err-clause-outcome g c = λ r is. (_, (c.in-Err.ensures.rig r is).0, mount_left c.args.size r (omega arith))
