use Rattle.std.proofs.Common.{◌≡◌, length, arith}
use Rattle.extended_spec.specs.Layouts.{row_bytes}
use Rattle.extended_laws.proofs.Contents.{length-row_bytes}
use Rattle.extended_contents.proofs.Members.{no_room, less_room}
use Rattle.extended_contents.proofs.room.rows_fit.Goals as goal

pub returns-then-size-room : goal.returns-then-size-room
returns-then-size-room c =
    let long : length (row_bytes c.entry.result.now) ≡ 32 = omega (arith, length-row_bytes c.entry.result.now, c.both.ensures.width) in
    record {
      value = (
        λ no. absurd cc,
        λ fits. absurd (no_room row_bytes c.args.rows.now c.loop-place.place c.entry.result.now 32 c.loop-place.room c.entry.ensures.value long c.if-size-room.true c.loop-place.invariant fits),
      );
    }

pub loop-place-preserved : goal.loop-place-preserved
loop-place-preserved c =
    let long : length (row_bytes c.entry.result.now) ≡ 32 = omega (arith, length-row_bytes c.entry.result.now, c.both.ensures.width) in
    less_room row_bytes c.args.rows.now c.loop-place.place c.entry.result.now 32 c.loop-place.room c.entry.ensures.value long c.if-size-room.false c.loop-place.invariant
