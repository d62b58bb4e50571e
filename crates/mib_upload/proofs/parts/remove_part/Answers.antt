use Rattle.std.proofs.Common.{◌∙◌, ap, sym, subst}
use Rattle.mib_store.specs.Entries.{IsAscending}
use Rattle.mib_upload.specs.Parts.{AreKnown, copy_of, keys_of}
use Rattle.mib_upload.proofs.Places.{removed, removed_keys, known_removed, absent}
use Rattle.mib_upload.proofs.parts.remove_part.Goals as goal

pub returns-in-Ok-clause-removed : goal.returns-in-Ok-clause-removed
returns-in-Ok-clause-removed c = ap copy_of c.remove.ensures.removed ∙ removed c.args.parts.now c.in-Ok.at c.args.entity c.in-Ok.ensures.found

pub returns-in-Ok-clause-ascending : goal.returns-in-Ok-clause-ascending
returns-in-Ok-clause-ascending c = subst (λ l. IsAscending (keys_of l)) (sym c.remove.ensures.removed) (removed_keys c.args.parts.now c.in-Ok.at c.requires)

pub returns-in_default-clause-removed : goal.returns-in_default-clause-removed
returns-in_default-clause-removed c = absent c.args.parts.now _ c.args.entity c.in_default.ensures.absent

pub returns-in-Ok-clause-known : goal.returns-in-Ok-clause-known
returns-in-Ok-clause-known c known = subst AreKnown (sym c.remove.ensures.removed) (known_removed c.args.parts.now c.in-Ok.at known)
