use Rattle.std.proofs.Common.{◌≡◌, ◌+◌, ap, sym, ◌∙◌, length, take, arith}
use Rattle.std.specs.Prelude.{slice_index_or}
use Rattle.omci_types.specs.declared.EntityId.{EntityId}
use Rattle.mib_store.specs.Entries.{held_in, width_in}
use Rattle.mib_upload.proofs.Carried.{width_narrow, held_longer, no_managed}
use Rattle.mib_upload.proofs.taken.take_entity.Goals as goal

pub put-requires : goal.put-requires
put-requires c =
    let one : EntityId = (slice_index_or c.args.mib.now c.args.place no_managed).0 in
    omega (arith, c.values.ensures.width no_managed, width_narrow one.class)

pub returns-clause-held : goal.returns-clause-held
returns-clause-held c other =
    let is = c.entity.ensures other in
    let none : length c.values.result.now ≡ 0 + length c.values.result.now = omega arith in
    c.values.ensures.held other ∙ ap (λ (e : EntityId). held_in e c.values.result.now) (sym is)
    ∙ held_longer c.entity.result c.values.result.now c.put.new.into (c.values.ensures.width other ∙ ap (λ (e : EntityId). width_in e.class) (sym is)) (ap (λ k. take k c.put.new.into) none ∙ c.put.ensures.front)
