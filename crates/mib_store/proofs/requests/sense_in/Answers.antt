use Rattle.std.proofs.Common.{◌≤◌, length, sym, ap, ◌∙◌, arith}
use Rattle.mib_spec.specs.Database.{with_values}
use Rattle.mib_store.specs.Entries.{database_of, values_in}
use Rattle.mib_store.proofs.Places.{values_at}
use Rattle.mib_store.proofs.Values.{only_width, found_width}
use Rattle.mib_store.proofs.Effects.{sensed_off, sensed_same, sensed_changed, is_sensed_by, sensed_stored}
use Rattle.mib_store.proofs.requests.sense_in.Goals as goal

pub returns-in_default-clause-sensed : goal.returns-in_default-clause-sensed
returns-in_default-clause-sensed c = sym (ap (λ p. p.0) (sensed_off c.args.entity c.args.number c.args.value.now (database_of c.args.table.now) c.in_default.ensures))

pub returns-in_default-clause-database : goal.returns-in_default-clause-database
returns-in_default-clause-database c = sym (ap (λ p. p.1) (sensed_off c.args.entity c.args.number c.args.value.now (database_of c.args.table.now) c.in_default.ensures))

pub gather-held-requires : goal.gather-held-requires
gather-held-requires c = omega (arith, only_width c.args.number c.in-Some.admitted.class.attributes 1 c.in-Some.ensures.attribute c.in-Some.ensures.rule.numbered c.in-Some.ensures.found, found_width c.args.number c.in-Some.admitted.class.attributes 1 c.in-Some.ensures.attribute c.in-Some.ensures.rule.numbered c.in-Some.ensures.found)

pub begins_with-requires : goal.begins_with-requires
begins_with-requires c = omega (arith, c.in-Some.ensures.width, found_width c.args.number c.in-Some.admitted.class.attributes 1 c.in-Some.ensures.attribute c.in-Some.ensures.rule.numbered c.in-Some.ensures.found)

pub with_chosen-after-requires : goal.with_chosen-after-requires
with_chosen-after-requires c = omega (arith, c.in-Some.ensures.width, only_width c.args.number c.in-Some.admitted.class.attributes 1 c.in-Some.ensures.attribute c.in-Some.ensures.rule.numbered c.in-Some.ensures.found)

pub returns-then-begins_with-clause-sensed : goal.returns-then-begins_with-clause-sensed
returns-then-begins_with-clause-sensed c =
    let whole : 45 ≤ length c.values-before.result = omega arith in
    let before = ap (values_in c.args.entity.class) c.values-before.ensures ∙ values_at c.args.table.now c.in-Some.admitted.at c.args.entity c.in-Some.ensures.there in
    let same = sym (is_sensed_by c.args.entity c.args.number c.args.value.now (database_of c.args.table.now) c.in-Some.admitted.class c.in-Some.ensures.row c.in-Some.ensures.rule c.in-Some.ensures.attribute c.in-Some.ensures.found c.in-Some.ensures.width c.values-before.result whole before c.gather-held.result c.gather-held.ensures) ∙ sym c.begins_with.ensures ∙ c.if-begins_with.true in
    sym (ap (λ p. p.0) (sensed_same c.args.entity c.args.number c.args.value.now (database_of c.args.table.now) c.in-Some.ensures.allowed same))

pub returns-then-begins_with-clause-database : goal.returns-then-begins_with-clause-database
returns-then-begins_with-clause-database c =
    let whole : 45 ≤ length c.values-before.result = omega arith in
    let before = ap (values_in c.args.entity.class) c.values-before.ensures ∙ values_at c.args.table.now c.in-Some.admitted.at c.args.entity c.in-Some.ensures.there in
    let same = sym (is_sensed_by c.args.entity c.args.number c.args.value.now (database_of c.args.table.now) c.in-Some.admitted.class c.in-Some.ensures.row c.in-Some.ensures.rule c.in-Some.ensures.attribute c.in-Some.ensures.found c.in-Some.ensures.width c.values-before.result whole before c.gather-held.result c.gather-held.ensures) ∙ sym c.begins_with.ensures ∙ c.if-begins_with.true in
    sym (ap (λ p. p.1) (sensed_same c.args.entity c.args.number c.args.value.now (database_of c.args.table.now) c.in-Some.ensures.allowed same))

pub returns-clause-sensed : goal.returns-clause-sensed
returns-clause-sensed c =
    let whole : 45 ≤ length c.values-before.result = omega arith in
    let before = ap (values_in c.args.entity.class) c.values-before.ensures ∙ values_at c.args.table.now c.in-Some.admitted.at c.args.entity c.in-Some.ensures.there in
    let same = sym (is_sensed_by c.args.entity c.args.number c.args.value.now (database_of c.args.table.now) c.in-Some.admitted.class c.in-Some.ensures.row c.in-Some.ensures.rule c.in-Some.ensures.attribute c.in-Some.ensures.found c.in-Some.ensures.width c.values-before.result whole before c.gather-held.result c.gather-held.ensures) ∙ sym c.begins_with.ensures ∙ c.if-begins_with.false in
    sym (ap (λ p. p.0) (sensed_changed c.args.entity c.args.number c.args.value.now (database_of c.args.table.now) c.in-Some.ensures.allowed same))

pub returns-clause-database : goal.returns-clause-database
returns-clause-database c =
    let whole : 45 ≤ length c.values-before.result = omega arith in
    let before = ap (values_in c.args.entity.class) c.values-before.ensures ∙ values_at c.args.table.now c.in-Some.admitted.at c.args.entity c.in-Some.ensures.there in
    let same = sym (is_sensed_by c.args.entity c.args.number c.args.value.now (database_of c.args.table.now) c.in-Some.admitted.class c.in-Some.ensures.row c.in-Some.ensures.rule c.in-Some.ensures.attribute c.in-Some.ensures.found c.in-Some.ensures.width c.values-before.result whole before c.gather-held.result c.gather-held.ensures) ∙ sym c.begins_with.ensures ∙ c.if-begins_with.false in
    let stored = sensed_stored c.args.entity c.args.number c.args.value.now (database_of c.args.table.now) c.in-Some.admitted.class c.in-Some.ensures.row c.in-Some.ensures.rule c.in-Some.ensures.attribute c.in-Some.ensures.found c.in-Some.ensures.width c.values-before.result whole before c.with_chosen-after.result c.with_chosen-after.ensures in
    c.write.ensures.written ∙ ap (λ v. with_values c.args.entity v (database_of c.args.table.now)) stored ∙ sym (ap (λ p. p.1) (sensed_changed c.args.entity c.args.number c.args.value.now (database_of c.args.table.now) c.in-Some.ensures.allowed same))
