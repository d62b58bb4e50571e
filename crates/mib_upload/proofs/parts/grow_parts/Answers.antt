use Rattle.std.proofs.Common.{◌≡◌, ◌∙◌, ap, sym, subst, rules, arith}
use Rattle.class_spec.specs.declared.TheConstants.{ONU_DATA}
use Rattle.mib_upload.specs.declared.part.Part.{Part}
use Rattle.omci_types.specs.declared.EntityId.{EntityId}
use Rattle.mib_upload.specs.Parts.{copy_of, keys_of, IsAt, AreKnown}
use Rattle.mib_upload.proofs.Places.{grown_parts, not_grown, replaced_keys, known_set, counter_has_place}
use Rattle.mib_upload.proofs.parts.grow_parts.Goals as goal

pub returns-then-not-has_counter-clause-grown : goal.returns-then-not-has_counter-clause-grown
returns-then-not-has_counter-clause-grown c = not_grown (copy_of c.args.parts.now) (sym c.has_counter.ensures ∙ c.if-not-has_counter.true)

pub returns-in-Ok-clause-grown : goal.returns-in-Ok-clause-grown
returns-in-Ok-clause-grown c =
    ap copy_of c.set.ensures.written
    ∙ grown_parts c.args.parts.now c.in-Ok.at c.part_at.result.now c.next_part-after.result c.in-Ok.ensures.found c.part_at.ensures (search (rules, arith)) c.next_part-after.ensures.entity c.next_part-after.ensures.mask c.next_part-after.ensures.values (sym c.has_counter.ensures ∙ c.if-not-has_counter.false)

pub returns-in-Ok-clause-keys : goal.returns-in-Ok-clause-keys
returns-in-Ok-clause-keys c =
    let here : c.next_part-after.result.entity ≡ ONU_DATA = c.next_part-after.ensures.entity ∙ ap (λ (p : Part). p.entity) c.part_at.ensures ∙ c.in-Ok.ensures.found.here in
    ap keys_of c.set.ensures.written ∙ replaced_keys c.args.parts.now c.in-Ok.at c.next_part-after.result (subst (λ (x : EntityId). IsAt c.args.parts.now x c.in-Ok.at) (sym here) c.in-Ok.ensures.found)

pub returns-in-Ok-clause-known : goal.returns-in-Ok-clause-known
returns-in-Ok-clause-known c known =
    subst AreKnown (sym c.set.ensures.written)
    (known_set c.args.parts.now c.in-Ok.at c.next_part-after.result (c.next_part-after.ensures.entity ∙ ap (λ (p : Part). p.entity) c.part_at.ensures) (c.next_part-after.ensures.mask ∙ ap (λ (p : Part). p.mask) c.part_at.ensures) c.in-Ok.ensures.found.in_range known)

pub returns-in_default-clause-grown : goal.returns-in_default-clause-grown
returns-in_default-clause-grown c = absurd (counter_has_place c.args.parts.now _ c.in_default.ensures.absent (sym c.has_counter.ensures ∙ c.if-not-has_counter.false))
