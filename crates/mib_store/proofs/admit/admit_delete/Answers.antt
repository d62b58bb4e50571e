use Rattle.std.proofs.Common.{◌≡◌, sym, ◌∙◌, false}
use Rattle.mib_spec.specs.Database.{is_by_unit}
use Rattle.mib_store.specs.Entries.{database_of}
use Rattle.mib_store.proofs.Codes.{delete_unknown, delete_unit, delete_absent, delete_done, unit_made_by}
use Rattle.mib_store.proofs.admit.admit_delete.Goals as goal

pub returns-in_default-clause-refused : goal.returns-in_default-clause-refused
returns-in_default-clause-refused c = delete_unknown c.args.entity (database_of c.args.table.now) (sym c.in_default.ensures.row)

pub returns-then-is_unit_made-clause-refused : goal.returns-then-is_unit_made-clause-refused
returns-then-is_unit_made-clause-refused c = delete_unit c.args.entity (database_of c.args.table.now) c.in-Some.class (sym c.in-Some.ensures.row) (sym c.is_unit_made.ensures ∙ c.if-is_unit_made.true)

pub returns-in-Ok-clause-ok : goal.returns-in-Ok-clause-ok
returns-in-Ok-clause-ok c =
    let unit : is_by_unit c.in-Some.class.maker ≡ false = sym c.is_unit_made.ensures ∙ c.if-is_unit_made.false in
    record {
      code = delete_done c.args.entity (database_of c.args.table.now) c.in-Some.class (sym c.in-Some.ensures.row) unit _ c.in-Ok.ensures.found.is_held;
      by_manager = unit_made_by c.args.entity (database_of c.args.table.now) c.in-Some.class (sym c.in-Some.ensures.row) ∙ unit;
      there = c.in-Ok.ensures.found;
    }

pub returns-in-Err-clause-refused : goal.returns-in-Err-clause-refused
returns-in-Err-clause-refused c = delete_absent c.args.entity (database_of c.args.table.now) c.in-Some.class (sym c.in-Some.ensures.row) (sym c.is_unit_made.ensures ∙ c.if-is_unit_made.false) c.in-Err.ensures.absent.not_held
