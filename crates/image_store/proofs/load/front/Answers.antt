use Rattle.std.proofs.Common.{sym, arith}
use Rattle.std.proofs.lemmas.List.{take_all}
use Rattle.image_store.proofs.load.front.Goals as goal

pub returns-then-bytes-most : goal.returns-then-bytes-most
returns-then-bytes-most c = record { value = sym (take_all c.args.most c.args.bytes.now (omega (arith, c.if-bytes-most.true))) }
