use Rattle.std.proofs.Common.{ap, sym, ◌∙◌, option_map, Some, List, ℕ}
use Rattle.mib_upload.specs.declared.groups.Group.{Group}
use Rattle.std.specs.Prelude.{Option}
use Rattle.mib_upload.specs.Groups.{piece_by}
use Rattle.mib_upload.proofs.Carried.{entity_piece}
use Rattle.mib_upload.proofs.taken.piece_in.Goals as goal

pub returns-in-Some : goal.returns-in-Some
returns-in-Some c =
    ap (λ (p : List ℕ). Some p) c.piece_of.ensures ∙ ap (λ (o : Option Group). option_map (piece_by c.args.entity c.args.values.now) o) (sym c.in-Some.is ∙ c.group_at.ensures.group) ∙ entity_piece c.args.entity c.args.values.now c.args.number c.told-values

pub returns-in-None : goal.returns-in-None
returns-in-None c =
    ap (λ (o : Option Group). option_map (piece_by c.args.entity c.args.values.now) o) (sym c.in-None.is ∙ c.group_at.ensures.group) ∙ entity_piece c.args.entity c.args.values.now c.args.number c.told-values
