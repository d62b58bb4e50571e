use Rattle.std.proofs.Common.{◌+◌, ◌-◌, length, arith}
use Rattle.omci_contents.proofs.Digits.{no_row, row_after, rest_if_ok, IsFront-same, IsFront-append}
use Rattle.omci_contents.proofs.append.push_hex.Goals as goal

pub loop-place-init : goal.loop-place-init
loop-place-init c = (omega arith, no_row c.args.out.now.items c.args.bytes.now, IsFront-same c.args.out.now.items)

pub loop-place-preserved : goal.loop-place-preserved
loop-place-preserved c =
    let joined =
    row_after c.args.out.now.items c.loop-place.out.items c.push_hex_row.new.out.items c.args.bytes.now c.loop-place.place 32 (c.loop-place.place + 32 - c.loop-place.place)
    (omega arith) c.loop-place.invariant.1 c.in_ok-push_hex_row.ensures.text in
    (omega arith, joined, IsFront-append c.args.out.now.items c.push_hex_row.new.out.items _ joined)

pub returns-clause-text : goal.returns-clause-text
returns-clause-text c =
    rest_if_ok _ c.push_hex_row-2.result c.args.out.now.items c.loop-place.out.items c.push_hex_row-2.new.out.items c.args.bytes.now c.loop-place.place (length c.args.bytes.now - c.loop-place.place)
    (omega arith) c.loop-place.invariant.1 c.push_hex_row-2.ensures.text
