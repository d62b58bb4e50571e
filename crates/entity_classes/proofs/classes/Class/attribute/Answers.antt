use Rattle.std.proofs.Common.{◌<◌, arith, sym, ap, subst, ◌∙◌, option_map}
use Rattle.entity_classes.specs.Rule.{IsRow, attribute_of}
use Rattle.entity_classes.proofs.Rows.{row_rule, read_place, read_value, read_there, none_at_zero, made, may_read, may_write, may_create}
use Rattle.entity_classes.proofs.classes.Class.attribute.Goals as goal

pub returns-then-number-eq0-clause-value : goal.returns-then-number-eq0-clause-value
returns-then-number-eq0-clause-value c = ap (option_map attribute_of) (sym (none_at_zero c.self.inside.kind _ c.self.view_is c.args.number c.if-number-eq0.true))

pub returns-in-Some-clause-value : goal.returns-in-Some-clause-value
returns-in-Some-clause-value c =
    let positive : 0 < c.args.number = omega arith in
    read_value c.self.inside.kind _ c.self.view_is _ c.shapes-shapes.ensures c.args.number positive _ (sym c.in-Some.is ∙ c.shape_at.ensures)

pub returns-in-Some-clause-place : goal.returns-in-Some-clause-place
returns-in-Some-clause-place c positive =
    read_place c.self.inside.kind _ c.self.view_is _ c.shapes-shapes.ensures c.args.number positive _ (sym c.in-Some.is ∙ c.shape_at.ensures)

pub returns-in-Some-clause-there : goal.returns-in-Some-clause-there
returns-in-Some-clause-there c =
    let positive : 0 < c.args.number = omega arith in
    read_there c.self.inside.kind _ c.self.view_is _ c.shapes-shapes.ensures c.args.number positive _ (sym c.in-Some.is ∙ c.shape_at.ensures)

pub returns-in-None-clause-value : goal.returns-in-None-clause-value
returns-in-None-clause-value c =
    let positive : 0 < c.args.number = omega arith in
    read_value c.self.inside.kind _ c.self.view_is _ c.shapes-shapes.ensures c.args.number positive _ (sym c.in-None.is ∙ c.shape_at.ensures)

pub returns-in-None-clause-place : goal.returns-in-None-clause-place
returns-in-None-clause-place c positive =
    read_place c.self.inside.kind _ c.self.view_is _ c.shapes-shapes.ensures c.args.number positive _ (sym c.in-None.is ∙ c.shape_at.ensures)

pub returns-in-None-clause-there : goal.returns-in-None-clause-there
returns-in-None-clause-there c =
    let positive : 0 < c.args.number = omega arith in
    read_there c.self.inside.kind _ c.self.view_is _ c.shapes-shapes.ensures c.args.number positive _ (sym c.in-None.is ∙ c.shape_at.ensures)

pub returns-then-number-eq0-clause-rule : goal.returns-then-number-eq0-clause-rule
returns-then-number-eq0-clause-rule c = subst IsRow c.self.view_is (row_rule c.self.inside.kind)

pub returns-in-Some-clause-rule : goal.returns-in-Some-clause-rule
returns-in-Some-clause-rule c = subst IsRow c.self.view_is (row_rule c.self.inside.kind)

pub returns-in-None-clause-rule : goal.returns-in-None-clause-rule
returns-in-None-clause-rule c = subst IsRow c.self.view_is (row_rule c.self.inside.kind)

pub returns-in-Some-clause-read : goal.returns-in-Some-clause-read
returns-in-Some-clause-read c =
    let positive : 0 < c.args.number = omega arith in
    may_read _ (made c.args.number (c.in-Some.width, c.in-Some.access)) (read_value c.self.inside.kind _ c.self.view_is _ c.shapes-shapes.ensures c.args.number positive _ (sym c.in-Some.is ∙ c.shape_at.ensures))

pub returns-in-Some-clause-written : goal.returns-in-Some-clause-written
returns-in-Some-clause-written c one is =
    let positive : 0 < c.args.number = omega arith in
    may_write _ (made c.args.number (c.in-Some.width, c.in-Some.access)) (read_value c.self.inside.kind _ c.self.view_is _ c.shapes-shapes.ensures c.args.number positive _ (sym c.in-Some.is ∙ c.shape_at.ensures)) one is

pub returns-in-Some-clause-created : goal.returns-in-Some-clause-created
returns-in-Some-clause-created c one is =
    let positive : 0 < c.args.number = omega arith in
    may_create _ (made c.args.number (c.in-Some.width, c.in-Some.access)) (read_value c.self.inside.kind _ c.self.view_is _ c.shapes-shapes.ensures c.args.number positive _ (sym c.in-Some.is ∙ c.shape_at.ensures)) one is
