use Rattle.std.proofs.Common.{◌∙◌, ap, sym, subst}
use Rattle.mib_store.specs.Entries.{IsAscending}
use Rattle.mib_upload.specs.Parts.{AreKnown, copy_of, keys_of}
use Rattle.mib_upload.proofs.Places.{replaced, replaced_keys, inserted, inserted_keys, known_put, known_inserted}
use Rattle.mib_upload.proofs.parts.put_part.Goals as goal

pub insert-requires : goal.insert-requires
insert-requires c = c.in-Err.ensures.absent.in_range

pub set-requires : goal.set-requires
set-requires c = c.in-Ok.ensures.found.in_range

pub returns-in-Ok-clause-ok : goal.returns-in-Ok-clause-ok
returns-in-Ok-clause-ok c = ap copy_of c.set.ensures.written ∙ replaced c.args.parts.now c.in-Ok.at c.args.part c.in-Ok.ensures.found

pub returns-in-Ok-clause-ascending : goal.returns-in-Ok-clause-ascending
returns-in-Ok-clause-ascending c = subst IsAscending (sym (ap keys_of c.set.ensures.written ∙ replaced_keys c.args.parts.now c.in-Ok.at c.args.part c.in-Ok.ensures.found)) c.requires

pub returns-in_ok-insert-in-Err-clause-ok : goal.returns-in_ok-insert-in-Err-clause-ok
returns-in_ok-insert-in-Err-clause-ok c = ap copy_of c.in_ok-insert-in-Err.ensures.ok ∙ inserted c.args.parts.now c.in-Err.at c.args.part c.in-Err.ensures.absent

pub returns-in_ok-insert-in-Err-clause-ascending : goal.returns-in_ok-insert-in-Err-clause-ascending
returns-in_ok-insert-in-Err-clause-ascending c =
    subst (λ l. IsAscending (keys_of l)) (sym c.in_ok-insert-in-Err.ensures.ok) (inserted_keys c.args.parts.now c.in-Err.at c.args.part c.requires c.in-Err.ensures.absent)

pub returns-in-Ok-clause-known : goal.returns-in-Ok-clause-known
returns-in-Ok-clause-known c known all = subst AreKnown (sym c.set.ensures.written) (known_put c.args.parts.now c.in-Ok.at c.args.part known c.in-Ok.ensures.found.in_range all)

pub returns-in_ok-insert-in-Err-clause-known : goal.returns-in_ok-insert-in-Err-clause-known
returns-in_ok-insert-in-Err-clause-known c known all =
    subst AreKnown (sym c.in_ok-insert-in-Err.ensures.ok) (known_inserted c.args.parts.now c.in-Err.at c.args.part known all)
