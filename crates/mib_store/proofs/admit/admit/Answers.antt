use Rattle.std.proofs.Common.{sym, refl}
use Rattle.mib_store.specs.Entries.{database_of}
use Rattle.mib_store.proofs.Codes.{set_unknown, get_unknown, set_absent, get_absent}
use Rattle.mib_store.proofs.admit.admit.Goals as goal

pub returns-in_default-clause-refused : goal.returns-in_default-clause-refused
returns-in_default-clause-refused c =
    record { set = set_unknown c.args.entity (database_of c.args.table.now) (sym c.in_default.ensures.row); get = get_unknown c.args.entity (database_of c.args.table.now) (sym c.in_default.ensures.row); fails = refl; no_mask = refl }

pub returns-in-Err-clause-refused : goal.returns-in-Err-clause-refused
returns-in-Err-clause-refused c =
    let none = c.in-Err.ensures.absent.not_held in
    record { set = set_absent c.args.entity (database_of c.args.table.now) c.in-Some.class (sym c.in-Some.ensures.row) none; get = get_absent c.args.entity (database_of c.args.table.now) c.in-Some.class (sym c.in-Some.ensures.row) none; fails = refl; no_mask = refl }
