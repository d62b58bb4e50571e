use Rattle.std.proofs.Common.{◌≡◌, sym, ◌∙◌, false, arith}
use Rattle.std.proofs.lemmas.List.{length-map}
use Rattle.mib_spec.specs.Database.{is_by_unit}
use Rattle.mib_store.specs.Entries.{database_of, held_of}
use Rattle.mib_store.proofs.Codes.{create_unknown, create_unit, create_there, create_full, create_done, unit_made_by}
use Rattle.mib_store.proofs.admit.admit_create.Goals as goal

pub returns-in_default-clause-refused : goal.returns-in_default-clause-refused
returns-in_default-clause-refused c = create_unknown c.args.entity (database_of c.args.table.now) (sym c.in_default.ensures.row)

pub returns-then-is_unit_made-clause-refused : goal.returns-then-is_unit_made-clause-refused
returns-then-is_unit_made-clause-refused c = create_unit c.args.entity (database_of c.args.table.now) c.in-Some.class (sym c.in-Some.ensures.row) (sym c.is_unit_made.ensures ∙ c.if-is_unit_made.true)

pub returns-in-Ok-clause-refused : goal.returns-in-Ok-clause-refused
returns-in-Ok-clause-refused c = create_there c.args.entity (database_of c.args.table.now) c.in-Some.class (sym c.in-Some.ensures.row) (sym c.is_unit_made.ensures ∙ c.if-is_unit_made.false) _ c.in-Ok.ensures.found.is_held

pub returns-then-len-ge-MOST_ENTITIES-clause-refused : goal.returns-then-len-ge-MOST_ENTITIES-clause-refused
returns-then-len-ge-MOST_ENTITIES-clause-refused c =
    let full = c.if-len-ge-MOST_ENTITIES.true in
    create_full c.args.entity (database_of c.args.table.now) c.in-Some.class (sym c.in-Some.ensures.row) (sym c.is_unit_made.ensures ∙ c.if-is_unit_made.false) c.in-Err.ensures.absent.not_held (omega (arith, full, length-map c.args.table.now held_of))

pub returns-clause-ok : goal.returns-clause-ok
returns-clause-ok c =
    let few = c.if-len-ge-MOST_ENTITIES.false in
    let unit : is_by_unit c.in-Some.class.maker ≡ false = sym c.is_unit_made.ensures ∙ c.if-is_unit_made.false in
    record {
      code = create_done c.args.entity (database_of c.args.table.now) c.in-Some.class (sym c.in-Some.ensures.row) unit c.in-Err.ensures.absent.not_held (omega (arith, few, length-map c.args.table.now held_of));
      row = sym c.in-Some.ensures.row;
      rule = c.in-Some.ensures.rule;
      by_manager = unit_made_by c.args.entity (database_of c.args.table.now) c.in-Some.class (sym c.in-Some.ensures.row) ∙ unit;
      gap = c.in-Err.ensures.absent;
      few = omega (arith, few);
    }
