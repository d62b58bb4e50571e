use Rattle.std.proofs.Common.{ap, sym, ◌∙◌, cond}
use Rattle.upload_spec.specs.Copies.{after_delete, without_copied}
use Rattle.mib_upload.proofs.copy.MibCopy.deleted.Goals as goal

pub returns-then-is_onu_data : goal.returns-then-is_onu_data
unfolding after_delete
returns-then-is_onu_data c = sym (ap (λ b. cond b c.args.self.now (without_copied c.args.entity c.args.self.now)) (sym c.is_onu_data.ensures ∙ c.if-is_onu_data.true))

pub returns : goal.returns
unfolding after_delete
returns c =
    c.remove_part.ensures.removed ∙ ap (without_copied c.args.entity) c.self.view_is
    ∙ sym (ap (λ b. cond b c.args.self.now (without_copied c.args.entity c.args.self.now)) (sym c.is_onu_data.ensures ∙ c.if-is_onu_data.false))
