use Rattle.std.proofs.Common.{refl}
use Rattle.store_spec.specs.Deeds.{Ignore}
use Rattle.image_store.proofs.Carrying.{still}
use Rattle.image_store.proofs.requests.ignored.Goals as goal

pub returns-clause-carried : goal.returns-clause-carried
returns-clause-carried g c = λ room active granted held m s. still g.D.Disk.seen g.D.Disk.may_leave g.D.Disk.clock g.D.Disk.left_since g.D.Disk.rig g.D.Disk.faults g.met.D.Disk.rig_reads g.met.D.Disk.cut_counts g.met.D.Disk.only_now room active granted granted held held c.args.state _ Ignore m s s refl refl
