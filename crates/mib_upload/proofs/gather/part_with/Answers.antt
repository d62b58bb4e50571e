use Rattle.std.proofs.Common.{◌≡◌, ◌∙◌, ap, sym, refl, Some, None, length, arith}
use Rattle.std.proofs.lemmas.List.{length-drop}
use Rattle.class_spec.specs.Classes.{class_row}
use Rattle.class_spec.specs.Masks.{width_of}
use Rattle.omci_types.specs.declared.EntityId.{EntityId}
use Rattle.mib_upload.specs.declared.part.Chosen.TheVariants.{Named}
use Rattle.mib_upload.specs.Merged.{picks_or}
use Rattle.mib_upload.specs.Parts.{copy_of}
use Rattle.mib_upload.proofs.Joined.{empty_fault, unknown_fault, truncated_fault, last_fault, joined, known_part, repeated_is, is_there, is_not_there, width_is}
use Rattle.mib_upload.proofs.gather.part_with.Goals as goal

pub returns-then-eq-clause-fault : goal.returns-then-eq-clause-fault
returns-then-eq-clause-fault c = record { first = _; is = empty_fault c.args.piece.now (copy_of c.args.parts.now) (sym c.eq.ensures ∙ c.if-eq.true); same = refl }

pub returns-in_default-clause-fault : goal.returns-in_default-clause-fault
returns-in_default-clause-fault c = record {
  first = _;
  is = unknown_fault c.args.piece.now (copy_of c.args.parts.now) c.entity_in-entity.result _ c.entity_in-entity.ensures refl (sym c.eq.ensures ∙ c.if-eq.false) (is_not_there c.entity_in-entity.result.class (sym c.in_default.ensures.row));
  same = refl;
}

pub returns-then-width-gt-PIECE_ROOM-clause-fault : goal.returns-then-width-gt-PIECE_ROOM-clause-fault
returns-then-width-gt-PIECE_ROOM-clause-fault c =
    let row : class_row c.entity_in-entity.result.class ≡ Some c.in-Some.class = sym c.in-Some.ensures.row in
    record {
      first = _;
      is = truncated_fault c.args.piece.now (copy_of c.args.parts.now) c.entity_in-entity.result c.mask_in-mask.result.0 c.entity_in-entity.ensures c.mask_in-mask.ensures (sym c.eq.ensures ∙ c.if-eq.false) (is_there c.entity_in-entity.result.class c.in-Some.class row)
          (omega (arith, c.if-width-gt-PIECE_ROOM.true, c.width.ensures, width_is c.entity_in-entity.result.class c.mask_in-mask.result.0 c.in-Some.class row));
      same = refl;
    }

pub returns-in-Some-first_repeated-clause-fault : goal.returns-in-Some-first_repeated-clause-fault
returns-in-Some-first_repeated-clause-fault c =
    let row : class_row c.entity_in-entity.result.class ≡ Some c.in-Some.class = sym c.in-Some.ensures.row in
    record {
      first = _;
      is = last_fault c.args.piece.now (copy_of c.args.parts.now) c.entity_in-entity.result c.mask_in-mask.result.0 c.entity_in-entity.ensures c.mask_in-mask.ensures (sym c.eq.ensures ∙ c.if-eq.false) (is_there c.entity_in-entity.result.class c.in-Some.class row)
          (omega (arith, c.if-width-gt-PIECE_ROOM.false, c.width.ensures, width_is c.entity_in-entity.result.class c.mask_in-mask.result.0 c.in-Some.class row))
          (Some c.in-Some-first_repeated.attribute)
          (repeated_is (copy_of c.args.parts.now) c.entity_in-entity.result c.in-Some.class c.mask_in-mask.result.0 c.part_of-old.result (Some c.in-Some-first_repeated.attribute) row c.part_of-old.ensures.entity c.part_of-old.ensures.values (sym c.in-Some-first_repeated.is ∙ c.first_repeated.ensures));
      same = refl;
    }

pub overlay-requires : goal.overlay-requires
unfolding width_of
overlay-requires c =
    omega (arith, c.if-width-gt-PIECE_ROOM.false, c.width.ensures, ap length c.bytes_in-given.ensures, length-drop 6 c.args.piece.now, c.told-piece)

pub returns-clause-joins : goal.returns-clause-joins
returns-clause-joins c =
    let row : class_row c.entity_in-entity.result.class ≡ Some c.in-Some.class = sym c.in-Some.ensures.row in
    let here = c.overlay.ensures.entity ∙ c.part_of-old.ensures.entity in
    record {
      good = last_fault c.args.piece.now (copy_of c.args.parts.now) c.entity_in-entity.result c.mask_in-mask.result.0 c.entity_in-entity.ensures c.mask_in-mask.ensures (sym c.eq.ensures ∙ c.if-eq.false) (is_there c.entity_in-entity.result.class c.in-Some.class row)
          (omega (arith, c.if-width-gt-PIECE_ROOM.false, c.width.ensures, width_is c.entity_in-entity.result.class c.mask_in-mask.result.0 c.in-Some.class row))
          None
          (repeated_is (copy_of c.args.parts.now) c.entity_in-entity.result c.in-Some.class c.mask_in-mask.result.0 c.part_of-old.result None row c.part_of-old.ensures.entity c.part_of-old.ensures.values (sym c.in_default-first_repeated.is ∙ c.first_repeated.ensures));
      known = known_part c.overlay.result c.in-Some.class (picks_or (Named c.mask_in-mask.result) c.part_of-old.result.mask.0) (ap (λ (e : EntityId). class_row e.class) here ∙ row) c.in-Some.ensures.rule c.overlay.ensures.mask;
      joined = joined c.args.piece.now (copy_of c.args.parts.now) c.entity_in-entity.result c.mask_in-mask.result.0 c.entity_in-entity.ensures c.mask_in-mask.ensures c.in-Some.class c.bytes_in-given.result c.part_of-old.result c.overlay.result c.bytes_in-given.ensures row c.in-Some.ensures.rule
          c.part_of-old.ensures.entity c.part_of-old.ensures.values c.overlay.ensures.entity c.overlay.ensures.values;
    }
