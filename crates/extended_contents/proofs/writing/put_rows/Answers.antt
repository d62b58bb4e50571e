use Rattle.extended_spec.specs.Layouts.{row_bytes}
use Rattle.extended_contents.proofs.Members.{next_put}
use Rattle.extended_contents.proofs.writing.put_rows.Goals as goal

pub loop-place-preserved : goal.loop-place-preserved
loop-place-preserved c =
    next_put row_bytes c.args.rows.now c.loop-place.place c.entry.result.now c.args.out.now.items c.loop-place.out.items c.put_row.new.out.items c.entry.ensures.value c.loop-place.invariant c.in_ok-put_row.ensures.put
