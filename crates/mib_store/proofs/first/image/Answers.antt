use Rattle.std.proofs.Common.{[]}
use Rattle.mib_store.proofs.Start.{image_is}
use Rattle.mib_store.proofs.first.image.Goals as goal

pub returns : goal.returns
returns c = image_is c.args.version.now [] c.put.new.into c.put-2.new.into _ _ _ c.args.committed c.args.active c.args.valid c.told-version c.put.ensures.front c.put-2.ensures.front c.flag.ensures c.flag-2.ensures c.flag-3.ensures
