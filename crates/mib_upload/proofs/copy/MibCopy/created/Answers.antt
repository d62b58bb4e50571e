use Rattle.std.proofs.Common.{◌≡◌, ◌∙◌, ap, sym, subst, OnOk}
use Rattle.std.specs.Prelude.{not}
use Rattle.mib_spec.specs.Requests.{is_class, is_onu_data}
use Rattle.upload_spec.specs.Copies.{after_create}
use Rattle.mib_upload.specs.Parts.{copy_of}
use Rattle.mib_upload.proofs.Joined.{is_there, is_not_there, and_off_left, and_off_right, and_on, create_nothing, created_ok}
use Rattle.mib_upload.proofs.copy.MibCopy.created.Goals as goal

pub returns-in_default-clause-ok : goal.returns-in_default-clause-ok
returns-in_default-clause-ok c =
    create_nothing c.args.entity c.args.values.now c.args.self.now (and_off_left (is_class c.args.entity.class) (not (is_onu_data c.args.entity)) (is_not_there c.args.entity.class (sym c.in_default.ensures.row)))

pub returns-then-is_onu_data-clause-ok : goal.returns-then-is_onu_data-clause-ok
returns-then-is_onu_data-clause-ok c =
    create_nothing c.args.entity c.args.values.now c.args.self.now (and_off_right (is_class c.args.entity.class) (not (is_onu_data c.args.entity)) (ap not (sym c.is_onu_data.ensures ∙ c.if-is_onu_data.true)))

pub returns-clause-ok : goal.returns-clause-ok
returns-clause-ok c =
    let on = and_on (is_class c.args.entity.class) (not (is_onu_data c.args.entity)) (is_there c.args.entity.class c.in-Some.class (sym c.in-Some.ensures.row)) (ap not (sym c.is_onu_data.ensures ∙ c.if-is_onu_data.false)) in
    subst (λ d. OnOk c.put_part.result (copy_of c.put_part.new.parts ≡ after_create c.args.entity c.args.values.now d)) c.self.view_is
    (created_ok c.put_part.result c.args.entity c.args.values.now c.new_part.result (copy_of c.self.inside.parts) (copy_of c.put_part.new.parts) c.put_part.ensures.ok c.new_part.ensures.values on)
