use Rattle.std.proofs.Common.{◌∙◌, ◌<◌, length, rules, arith}
use Rattle.placed_list.proofs.Storage.{lodged_as, lodged_at}
use Rattle.placed_list.proofs.lodge.Goals as goal

pub returns-then-count-len-clause-ok : goal.returns-then-count-len-clause-ok
returns-then-count-len-clause-ok g c =
    lodged_as _ c.args.items.now.items c.append.new.items.items c.args.order.now.items c.append.new.order.items c.args.count c.args.item c.requires.index (c.if-count-len.true ∙ c.len.ensures ∙ search rules) c.append.ensures.items c.append.ensures.order

pub returns-clause-ok : goal.returns-clause-ok
returns-clause-ok g c =
    let lt : c.args.count < length c.args.items.now.items = omega (arith, c.requires.index.used, c.if-count-len.false) in
    lodged_at c.args.items.now.items c.args.order.now.items c.args.count c.index.result.now c.args.item c.requires.index lt (search rules)
