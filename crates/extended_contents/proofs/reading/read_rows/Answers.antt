use Rattle.std.proofs.Common.{List, ℕ, [], ◌∷◌, ◌++◌, ap, refl, ◌∙◌, arith, length-drop}
use Rattle.extended_spec.specs.Layouts.{row_size, row_of, rows_in}
use Rattle.extended_contents.proofs.Members.{row_at, next_need, next_member, no_member}
use Rattle.extended_contents.proofs.reading.read_rows.Goals as goal

pub read_row-requires : goal.read_row-requires
read_row-requires c =
    let fits = row_at c.args.contents.now c.loop-place.place c.loop-place-test.true c.loop-place.invariant.1 in
    rw c.bytes_from.ensures.value (omega (arith, fits, length-drop c.loop-place.place c.args.contents.now))

pub loop-place-preserved : goal.loop-place-preserved
loop-place-preserved c =
    let fits = row_at c.args.contents.now c.loop-place.place c.loop-place-test.true c.loop-place.invariant.1 in
    let added = c.in_ok-read_row.ensures.read ∙ ap (λ (b : List ℕ). c.loop-place.rows ++ row_of b ∷ []) c.bytes_from.ensures.value in (
      fits,
      next_need row_size c.args.contents.now c.loop-place.place 32 refl (omega arith) fits ∙ c.loop-place.invariant.1,
      next_member row_size row_of c.args.contents.now c.loop-place.place 32 c.loop-place.rows c.read_row.new.rows refl (omega arith) fits added ∙ c.loop-place.invariant.2,
    )

pub returns : goal.returns
returns c = record {
  value = no_member row_size row_of c.args.contents.now c.loop-place.place c.loop-place.rows (rows_in c.args.contents.now) c.loop-place-test.false c.loop-place.invariant.2;
}
