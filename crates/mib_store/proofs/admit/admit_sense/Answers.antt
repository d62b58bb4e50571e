use Rattle.std.proofs.Common.{◌≡◌, length, sym, ap, ◌∙◌, false}
use Rattle.class_spec.specs.Classes.{attribute_in}
use Rattle.entity_classes.specs.declared.classes.Attribute.{Attribute as Read}
use Rattle.omci_attributes.proofs.Sums.{is_written}
use Rattle.mib_store.specs.Entries.{database_of}
use Rattle.mib_store.proofs.Codes.{sense_two, sense_seven, sense_unknown, sense_absent, sense_none, sense_written, sense_wide, sense_allowed, attribute_found}
use Rattle.mib_store.proofs.admit.admit_sense.Goals as goal

pub returns-then-entity-eq2 : goal.returns-then-entity-eq2
returns-then-entity-eq2 c = sense_two c.args.entity c.args.number c.args.value.now (database_of c.args.table.now) c.if-entity-eq2.true

pub returns-then-entity-eq7 : goal.returns-then-entity-eq7
returns-then-entity-eq7 c = sense_seven c.args.entity c.args.number c.args.value.now (database_of c.args.table.now) c.if-entity-eq7.true

pub returns-in_default : goal.returns-in_default
returns-in_default c = sense_unknown c.args.entity c.args.number c.args.value.now (database_of c.args.table.now) (sym c.in_default.ensures.row)

pub returns-in_default-attribute : goal.returns-in_default-attribute
returns-in_default-attribute c = sense_none c.args.entity c.args.number c.args.value.now (database_of c.args.table.now) c.in-Some.class (sym c.in-Some.ensures.row) c.in_default-attribute.ensures.value

pub returns-then-contains : goal.returns-then-contains
returns-then-contains c =
    let f = attribute_found (attribute_in c.in-Some.class.attributes c.args.number) c.in-Some-attribute.attribute c.in-Some-attribute.ensures.value in
    sense_written c.args.entity c.args.number c.args.value.now (database_of c.args.table.now) c.in-Some.class (sym c.in-Some.ensures.row) c.in-Some-attribute.attribute f
    (sym (is_written c.in-Some-attribute.attribute f.one f.is) ∙ sym (c.contains.ensures tt) ∙ c.if-contains.true)

pub returns-then-attribute-value : goal.returns-then-attribute-value
returns-then-attribute-value c =
    let f = attribute_found (attribute_in c.in-Some.class.attributes c.args.number) c.in-Some-attribute.attribute c.in-Some-attribute.ensures.value in
    sense_wide c.args.entity c.args.number c.args.value.now (database_of c.args.table.now) c.in-Some.class (sym c.in-Some.ensures.row) c.in-Some-attribute.attribute f
    (sym (is_written c.in-Some-attribute.attribute f.one f.is) ∙ sym (c.contains.ensures tt) ∙ c.if-contains.false) c.if-attribute-value.true

pub returns-in-Ok : goal.returns-in-Ok
returns-in-Ok c =
    let f = attribute_found (attribute_in c.in-Some.class.attributes c.args.number) c.in-Some-attribute.attribute c.in-Some-attribute.ensures.value in
    let fixed : f.one.written ≡ false = sym (is_written c.in-Some-attribute.attribute f.one f.is) ∙ sym (c.contains.ensures tt) ∙ c.if-contains.false in
    let same : c.in-Some-attribute.attribute.width ≡ length c.args.value.now = c.if-attribute-value.false in
    record {
      allowed = sense_allowed c.args.entity c.args.number c.args.value.now (database_of c.args.table.now) c.in-Some.class (sym c.in-Some.ensures.row) c.in-Some-attribute.attribute f _ c.in-Ok.ensures.found.is_held c.if-entity-eq2.false c.if-entity-eq7.false fixed same;
      row = sym c.in-Some.ensures.row;
      rule = c.in-Some.ensures.rule;
      there = c.in-Ok.ensures.found;
      attribute = f.one;
      found = f.found;
      width = sym (ap (λ (a : Read). a.width) f.is) ∙ same;
    }

pub returns-in-Err : goal.returns-in-Err
returns-in-Err c = sense_absent c.args.entity c.args.number c.args.value.now (database_of c.args.table.now) c.in-Err.ensures.absent.not_held
