use Rattle.std.proofs.Common.{ap, ◌∙◌, length, refl, List, ℕ, ◌≤◌, ◌++◌}
use Rattle.std.specs.Int.{to_be_bytes, w16}
use Rattle.frame_spec.specs.Widths.{filled}
use Rattle.upload_spec.specs.declared.TheConstants.{PIECE_ROOM}
use Rattle.mib_upload.specs.Groups.{piece_by}
use Rattle.mib_upload.proofs.Carried.{assembled, cut_short}
use Rattle.mib_upload.proofs.pieces.piece_of.Goals as goal

pub returns : goal.returns
unfolding piece_by
returns c =
    let short : length c.cut.result.now ≤ 26 = cut_short c.args.values.now c.args.group.now.start c.args.group.now.width c.cut.result.now c.cut.ensures c.requires in
    assembled (to_be_bytes w16 c.args.entity.class) (to_be_bytes w16 c.args.entity.instance) (to_be_bytes w16 c.args.group.now.mask) c.cut.result.now _ c.put_number.new.into c.put_number-2.new.into c.put_number-3.new.into c.put.new.into short refl
    c.put_number.ensures.front c.put_number.ensures.back c.put_number-2.ensures.front c.put_number-2.ensures.back c.put_number-3.ensures.front c.put_number-3.ensures.back c.put.ensures.front c.put.ensures.back
    ∙ ap (λ (v : List ℕ). to_be_bytes w16 c.args.entity.class ++ to_be_bytes w16 c.args.entity.instance ++ to_be_bytes w16 c.args.group.now.mask ++ filled PIECE_ROOM v) c.cut.ensures
